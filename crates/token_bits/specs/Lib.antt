pub mod Tokens
pub mod Bytes
pub mod Put
