pub mod Read
pub mod Numbers
pub mod Said
pub mod Claimed
pub mod Openings
pub mod Frames
pub mod Examined
