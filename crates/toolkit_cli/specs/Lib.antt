pub mod Words
pub mod CommandWords
pub mod Codes
pub mod Messages
pub mod Texts
pub mod Told
pub mod Reply
pub mod Stands
