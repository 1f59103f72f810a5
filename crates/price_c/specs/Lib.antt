pub mod Priced
pub mod Chosen
