pub mod Disassembly
pub mod Laws
pub mod Ready
pub mod Example
