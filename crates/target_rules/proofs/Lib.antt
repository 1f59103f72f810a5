pub mod Widths
pub mod UnitKinds
