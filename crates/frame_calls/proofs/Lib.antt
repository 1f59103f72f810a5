pub mod Under
pub mod Laws
pub mod Opening
