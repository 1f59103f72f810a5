pub mod Cheaper
pub mod Trials
