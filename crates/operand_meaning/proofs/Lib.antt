pub mod ListFacts
pub mod KindLaws
pub mod BoundLaws
pub mod LimitLaws
pub mod EquationLaws
pub mod OperandLaws
