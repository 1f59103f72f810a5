pub mod OneKept
pub mod Evicted
pub mod NotInStacks
