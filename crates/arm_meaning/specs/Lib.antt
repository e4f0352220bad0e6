pub mod All
pub mod Applications
pub mod Bindings
pub mod Bound
pub mod Patterns
pub mod Sound
