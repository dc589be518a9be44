pub mod Faults
pub mod Converters
