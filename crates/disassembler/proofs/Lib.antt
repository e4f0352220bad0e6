pub mod Taken
pub mod Worked
