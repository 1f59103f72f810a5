pub mod Standing
pub mod Joined
pub mod Most
