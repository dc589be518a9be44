pub mod Lookup
pub mod Interning
