pub mod OneKept
pub mod NotInStacks
