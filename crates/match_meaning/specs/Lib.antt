pub mod Readable
pub mod Names
pub mod Taken
pub mod Matchable
