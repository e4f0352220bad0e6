pub mod Bytes
pub mod Joined
pub mod MeetsTest
pub mod Moved
