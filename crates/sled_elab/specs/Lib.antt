pub mod Declarations
pub mod Elaboration
pub mod Conditions
pub mod Descriptions
pub mod Refusals
