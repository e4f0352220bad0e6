pub mod Folder
pub mod Stream
