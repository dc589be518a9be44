pub mod Visible
pub mod Laws
