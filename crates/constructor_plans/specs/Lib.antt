pub mod Plans
pub mod Named
