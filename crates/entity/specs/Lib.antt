pub mod Logic
pub mod Place
