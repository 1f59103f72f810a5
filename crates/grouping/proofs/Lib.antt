pub mod Givens
pub mod Copying
pub mod Laying
pub mod Testing
pub mod Adding
pub mod Going
pub mod Ending
