pub mod Word
pub mod Buffer
pub mod Read
