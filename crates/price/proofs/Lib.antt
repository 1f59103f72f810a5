pub mod Floats
pub mod Totals
pub mod Laws
pub mod Trials
