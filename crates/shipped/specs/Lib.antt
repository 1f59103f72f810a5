pub mod Shipped
pub mod Table
pub mod Writes
