pub mod Counting
pub mod Words
pub mod Named
pub mod Added
pub mod Sound
pub mod Descriptions
pub mod Statements
