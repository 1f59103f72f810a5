pub mod Standing
pub mod Opening
pub mod Joined
pub mod Most
