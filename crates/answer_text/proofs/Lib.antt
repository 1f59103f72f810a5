pub mod Patches
pub mod Endings
pub mod Lines
