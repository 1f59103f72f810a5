pub mod Patches
pub mod Trials
