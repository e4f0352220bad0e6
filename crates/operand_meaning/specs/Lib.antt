pub mod Equations
pub mod Limits
pub mod Operands
pub mod Standing
pub mod Terms
