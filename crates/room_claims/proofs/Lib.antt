pub mod Done
pub mod Exactly
pub mod Numbers
pub mod Enough
pub mod Plain
pub mod Groups
pub mod Trials
