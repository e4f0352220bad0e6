pub mod Actions
pub mod Steps
