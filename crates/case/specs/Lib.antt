pub mod Fields
pub mod Format
pub mod Kinds
pub mod Lines
pub mod Sources
