pub mod Alone
pub mod Operands
pub mod Surroundings
pub mod Barren
pub mod Skeletons
pub mod Alternatives
pub mod Cases
pub mod Arms
