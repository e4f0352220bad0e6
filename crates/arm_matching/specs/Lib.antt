pub mod Matcher
pub mod Laws
