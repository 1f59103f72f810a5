pub mod Setting
pub mod Moving
