pub mod Bound
pub mod Facts
