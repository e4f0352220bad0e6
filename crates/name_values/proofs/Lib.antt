pub mod NamedLaws
pub mod Writable
pub mod Choices
pub mod Results
pub mod OneValue
pub mod Zips
pub mod Worked
pub mod InOrder
