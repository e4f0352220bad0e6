pub mod Addresses
pub mod Places
pub mod Steps
pub mod Windows
pub mod Come
pub mod Ends
pub mod Smalls
pub mod Worked
