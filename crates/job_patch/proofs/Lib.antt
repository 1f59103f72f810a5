pub mod Adding
pub mod Entering
pub mod Freeing
pub mod Patched
pub mod Accepted
