pub mod Once
pub mod Arms
