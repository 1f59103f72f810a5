pub mod Function
pub mod Refused
pub mod Table
pub mod Known
pub mod Answers
