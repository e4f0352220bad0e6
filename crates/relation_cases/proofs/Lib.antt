pub mod Numbers
pub mod Parted
pub mod Whole
pub mod Spelled
pub mod FieldBits
pub mod BlockCase
pub mod Counted
