pub mod Tables
pub mod Names
pub mod Template
pub mod Lawful
pub mod Steps
