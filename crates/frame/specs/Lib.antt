pub mod Opening
pub mod Running
