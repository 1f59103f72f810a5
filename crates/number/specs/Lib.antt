pub mod Read
pub mod Number
pub mod Answer
pub mod Trials
