pub mod Text
pub mod Spelled
pub mod Words
pub mod Put
pub mod Trials
