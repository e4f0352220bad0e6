pub mod Fixed
pub mod Arms
pub mod TreeOperands
pub mod OperandNames
pub mod Accepted
