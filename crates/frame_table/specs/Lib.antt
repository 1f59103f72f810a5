pub mod Table
pub mod Opening
pub mod Steps
pub mod Held
