pub mod Cut
pub mod Numbers
