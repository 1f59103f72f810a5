pub mod Shipped
pub mod Telling
