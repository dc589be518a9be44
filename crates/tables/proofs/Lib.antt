pub mod Chains
pub mod News
