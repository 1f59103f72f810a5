pub mod Target
pub mod Held
pub mod Steps
pub mod Answer
pub mod Trials
