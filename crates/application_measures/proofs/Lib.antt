pub mod LengthLaws
pub mod Mirrors
pub mod Applications
pub mod Tabled
