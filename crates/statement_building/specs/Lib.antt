pub mod Statements
pub mod Conditions
pub mod Faults
