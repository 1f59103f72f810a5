pub mod Rules
pub mod UnitKinds
