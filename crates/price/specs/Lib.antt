pub mod Price
pub mod Totals
pub mod Exact
pub mod Trials
