pub mod Remats
