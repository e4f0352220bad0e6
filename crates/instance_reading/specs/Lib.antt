pub mod Reading
pub mod Laws
pub mod Example
pub mod Plans
pub mod Entries
pub mod Operands
pub mod Bound
