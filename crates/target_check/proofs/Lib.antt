pub mod Index
pub mod Order
pub mod Same
