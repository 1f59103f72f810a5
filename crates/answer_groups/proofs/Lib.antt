pub mod Reading
pub mod Groups
pub mod Refused
pub mod Trials
