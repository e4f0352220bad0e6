pub mod Prefixes
pub mod Numbers
pub mod Instances
pub mod Writable
pub mod Actions
