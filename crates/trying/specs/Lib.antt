pub mod Drawing
pub mod Tried
pub mod Report
pub mod Claims
pub mod Trials
pub mod Steps
