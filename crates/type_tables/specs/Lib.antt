pub mod Types
pub mod Tables
