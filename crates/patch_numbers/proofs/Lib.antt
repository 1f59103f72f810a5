pub mod Steps
pub mod OfPatch
