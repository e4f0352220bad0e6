-- What a plan tells of the operands.
use Rattle.std.specs.Prelude.{ℕ, ◌≡◌, ◌<◌, ◌⊎◌, All, List, [], length, map, slice_get, Option, Some, ℤ, pos, ◌+ℤ◌}
use Rattle.token_bits.specs.declared.tokens.Tokens.{Tokens}
use Rattle.sled_model.specs.declared.constructor.Constructor.{Constructor}
use Rattle.sled_model.specs.declared.constructor.OperandKind.{OperandKind}
use Rattle.sled_model.specs.declared.constructor.OperandKind.TheVariants.{Whole, Sliced}
use Rattle.sled_model.specs.Equations.{half_of, IsBetween, AreFieldValues, EachSatisfied}
use Rattle.sled_model.specs.Linear.{labels_in}
use Rattle.sled_model.specs.SolvingOrder.{bare_fields}
use Rattle.sled_model.specs.Solutions.{OperandsFit, setting_of}
use Rattle.eq_solver.specs.declared.plan.Plan.{Plan}
use Rattle.eq_solver.specs.declared.plan.Source.{Source}
use Rattle.eq_solver.specs.declared.plan.Source.TheVariants.{Hidden, Plain, Extended}
use Rattle.sled_model.specs.declared.constructor.Atom.TheVariants.{Name}
use Rattle.eq_solver.specs.declared.plan.Value.{Value}
use Rattle.eq_solver.specs.Sums.{at, setting_from, AreValues}
use Rattle.eq_solver.specs.Starts.{IsSourceOf}
use Rattle.eq_solver.specs.Inputs.{IsInKind}
use Rattle.eq_solver.specs.Given.{IsPlaced, HasValue, AreApart, FitsSlice, pieces_of}
use Rattle.eq_solver.specs.Pieces.{IsChain, assembled}
use Rattle.eq_solver.specs.Plans.{FitsSource, source_at}
use Rattle.eq_solver.specs.Cells.{IsPlanOf}

-- the operand gives the field
abbrev pub IsOperandOf : Source → ℕ → Type 0
IsOperandOf Hidden k = ⊥
IsOperandOf (Plain j) k = j ≡ k
IsOperandOf (Extended j) k = j ≡ k

-- no operand gives two fields
abbrev pub AreSourcesApart : List Source → Type 0
AreSourcesApart sources = (f g k : ℕ) → f < length sources → g < length sources → IsOperandOf (source_at sources f) k → IsOperandOf (source_at sources g) k → f ≡ g

-- the plan is that of a constructor with so many labels and operands
abbrev pub IsPlanWith : Plan → ℕ → ℕ → Type 0
IsPlanWith plan labels operands = (tokens : Tokens) × (c : Constructor) × IsPlanOf tokens c plan × (length (labels_in c.body) ≡ labels) × (length c.operands ≡ operands)

-- one value for each cell, in its range
pub record AreCellValues (halves fields : List ℤ) : Type 0 where
  pub one_each : length fields ≡ length halves
  pub range : (k : ℕ) → k < length halves → IsBetween (pos 0) (at halves k +ℤ at halves k) (at fields k)

-- the bare fields have these values, in order: the operands are in range, fit them and satisfy every equation, and no other whole and
-- sliced operands do
pub record AreOnlyOperands (tokens : Tokens) (c : Constructor) (fields : List ℤ) (labels operands : ℕ → ℤ) : Type 0 where
  pub range : (k : ℕ) (kind : OperandKind) → slice_get c.operands k ≡ Some kind → IsInKind tokens kind (operands k)
  pub fit : (v : ℕ → ℤ) → AreFieldValues (half_of tokens) v → map v (bare_fields c.body) ≡ fields → OperandsFit (setting_of tokens operands labels) v 0 c.operands
  pub satisfied : (v : ℕ → ℤ) → map v (bare_fields c.body) ≡ fields → EachSatisfied (setting_of tokens operands labels) v c.equations
  pub only : (v other : ℕ → ℤ) → map v (bare_fields c.body) ≡ fields → ((k : ℕ) (kind : OperandKind) → slice_get c.operands k ≡ Some kind → IsInKind tokens kind (other k)) → EachSatisfied (setting_of tokens other labels) v c.equations
      → (k : ℕ) (kind : OperandKind) → slice_get c.operands k ≡ Some kind → (kind ≡ Whole) ⊎ (kind ≡ Sliced) → other k ≡ operands k

-- ---- the operands one after the other

-- no field is the operand
abbrev pub IsNoField : List Source → ℕ → Type 0
IsNoField sources k = (f : ℕ) → f < length sources → IsOperandOf (source_at sources f) k → ⊥

-- no value is one of all of the operand
abbrev pub IsNoWhole : List Value → ℕ → Type 0
IsNoWhole values k = (j : ℕ) (g : Value) → slice_get values j ≡ Some g → g.target ≡ Name k → ⊥

-- fields, labels and values stand in place, and each operand is a field, or whole, or made of slices
pub record AreWritable (halves labels fields : List ℤ) (sources : List Source) (values : List Value) (slices : List ℕ) (operands : ℕ) : Type 0 where
  pub one_each : length halves ≡ length sources
  pub given : AreValues halves [] labels fields
  pub sources_in : All (IsSourceOf operands) sources
  pub apart : AreSourcesApart sources
  pub placed : All (IsPlaced operands (length fields) (length labels)) values
  pub distinct : AreApart values
  pub fits : (j : ℕ) (g : Value) → slice_get values j ≡ Some g → FitsSlice (setting_from halves [] labels) (at fields) g g.target
  pub within : All (λ n. n < length values) slices
  pub chains : (k : ℕ) → (pieces_of (setting_from halves [] labels) (at fields) values k slices ≡ []) ⊎ (IsChain 32 (pieces_of (setting_from halves [] labels) (at fields) values k slices) × IsNoField sources k × IsNoWhole values k)
  pub fields_only : (f k : ℕ) → f < length sources → IsOperandOf (source_at sources f) k → IsNoWhole values k

-- what has been written
pub record AreWritten (halves labels fields : List ℤ) (sources : List Source) (values : List Value) (slices : List ℕ) (operands : List ℤ) : Type 0 where
  pub fits : (f : ℕ) → f < length sources → FitsSource (at halves f) (at operands) (at fields f) (source_at sources f)
  pub has : (j : ℕ) (g : Value) → slice_get values j ≡ Some g → HasValue (setting_from halves [] labels) (at fields) (at operands) g
  pub made : (k : ℕ) → IsChain 32 (pieces_of (setting_from halves [] labels) (at fields) values k slices) → at operands k ≡ pos (assembled 0 (pieces_of (setting_from halves [] labels) (at fields) values k slices))
  pub nothing : (k : ℕ) → IsNoField sources k → IsNoWhole values k → pieces_of (setting_from halves [] labels) (at fields) values k slices ≡ [] → at operands k ≡ pos 0
