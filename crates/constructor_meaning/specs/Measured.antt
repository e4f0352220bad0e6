-- What the bodies of a declaration come to.
use Rattle.std.specs.Prelude.{ℕ, ◌≡◌, Bool, ◌&&◌, List, [], ◌∷◌}
use Rattle.sled_model.specs.declared.constructor.OperandKind.{OperandKind}
use Rattle.sled_model.specs.declared.pattern.Pattern.{Pattern}
use Rattle.sled_model.specs.declared.spec.Spec.{Spec}
use Rattle.type_tables.specs.declared.measures.Measures.{Measures}
use Rattle.type_tables.specs.Tables.{AreMeasures}

-- these are the measures of each of the bodies, in order
abbrev pub EachMeasured : Spec → List OperandKind → List Pattern → List Measures → Type 0
EachMeasured spec kinds [] [] = Unit {0}
EachMeasured spec kinds (p ∷ ps) (m ∷ ms) = AreMeasures spec kinds p m × EachMeasured spec kinds ps ms
EachMeasured spec kinds _ _ = ⊥
