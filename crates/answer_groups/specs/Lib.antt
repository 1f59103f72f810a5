pub mod Job
pub mod Trials
