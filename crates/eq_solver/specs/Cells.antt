-- The plan of a constructor: its equations with each field named by its cell, and the steps in solving order.
use Rattle.std.specs.Prelude.{ℕ, suc, ◌+◌, ◌≡◌, ◌==◌, true, if◌then◌else◌, List, [], ◌∷◌, length, map, ℤ}
use Rattle.token_bits.specs.declared.tokens.FieldId.{FieldId}
use Rattle.token_bits.specs.declared.tokens.Tokens.{Tokens}
use Rattle.token_bits.specs.Tokens.{AreTokens}
use Rattle.sled_model.specs.declared.constructor.Atom.{Atom}
use Rattle.sled_model.specs.declared.constructor.Atom.TheVariants.{Name, Field, Signed, Slice, Label}
use Rattle.sled_model.specs.declared.constructor.Term.{Term}
use Rattle.sled_model.specs.declared.constructor.Equation.{Equation}
use Rattle.sled_model.specs.declared.constructor.Constructor.{Constructor}
use Rattle.sled_model.specs.declared.constructor.OperandKind.{OperandKind}
use Rattle.sled_model.specs.declared.constructor.OperandKind.TheVariants.{Plain, Extended}
use Rattle.sled_model.specs.Equations.{half_of, AreFieldValues, EachSatisfied}
use Rattle.sled_model.specs.Solutions.{FieldsFit, setting_of}
use Rattle.sled_model.specs.SolvingOrder.{bare_fields, is_among, is_field_operand, solving_order}
use Rattle.sled_model.specs.Linear.{IsLinear}
use Rattle.eq_solver.specs.declared.plan.Plan.{Plan}
use Rattle.eq_solver.specs.declared.plan.Value.{Value}
use Rattle.eq_solver.specs.Values.{IsSolvedBy}
use Rattle.eq_solver.specs.declared.plan.SolvingStep.{SolvingStep}
use Rattle.eq_solver.specs.declared.plan.Source.{Source}
use Rattle.eq_solver.specs.declared.plan.Source.TheVariants as source
use Rattle.eq_solver.specs.Sums.{at}
use Rattle.eq_solver.specs.Plans.{is_hidden_source}
use Rattle.eq_solver.specs.Solving.{none_open}
use Rattle.eq_solver.specs.Steps.{AreSteps, left_after}

-- the place of a field among these
abbrev pub cell_of : List ℕ → ℕ → ℕ
cell_of [] f = 0
cell_of (g ∷ fs) f = if g == f then 0 else suc (cell_of fs f)

-- the field of the atom, if it is about one, is among these
abbrev pub IsAtomAmong : List ℕ → Atom → Type 0
IsAtomAmong fs (Field f) = is_among fs f.0 ≡ true
IsAtomAmong fs (Signed f) = is_among fs f.0 ≡ true
IsAtomAmong fs (Name k) = Unit {0}
IsAtomAmong fs (Slice k lo hi) = Unit {0}
IsAtomAmong fs (Label k) = Unit {0}

abbrev pub celled_field : List ℕ → FieldId → FieldId
celled_field fs f = record { 0 = cell_of fs f.0 }

abbrev pub celled_atom : List ℕ → Atom → Atom
celled_atom fs (Name k) = Name k
celled_atom fs (Field f) = Field (celled_field fs f)
celled_atom fs (Signed f) = Signed (celled_field fs f)
celled_atom fs (Slice k lo hi) = Slice k lo hi
celled_atom fs (Label l) = Label l

abbrev pub celled_term : List ℕ → Term → Term
celled_term fs t = record { coefficient = t.coefficient; atom = celled_atom fs t.atom }

abbrev pub celled : List ℕ → Equation → Equation
celled fs e = record { terms = map (celled_term fs) e.terms; rest = e.rest }

abbrev pub celled_value : List ℕ → Value → Value
celled_value fs g = record { target = g.target; terms = map (celled_term fs) g.terms; rest = g.rest }

-- the values and the order of slices by which condition 13 is met, with each field named by its cell
pub record AreValuesBy (tokens : Tokens) (c : Constructor) (values : List Value) (slices : List ℕ) : Type 0 where
  pub given : List Value
  pub solved_by : IsSolvedBy tokens c given slices
  pub celled_are : values ≡ map (celled_value (bare_fields c.body)) given

-- the source of a field that this operand gives
abbrev pub source_of : OperandKind → ℕ → Source
source_of (Plain g) j = source.Plain j
source_of (Extended g) j = source.Extended j
source_of _ j = source.Hidden

-- the source of field f, if the operands from number j on are of these kinds
abbrev pub source_from : ℕ → List OperandKind → ℕ → Source
source_from j [] f = source.Hidden
source_from j (kind ∷ kinds) f = if is_field_operand f kind then source_of kind j else source_from (j + 1) kinds f

-- out has the values of the bare fields, in order: they are the only ones of fields that fit the operands and satisfy every equation
pub record AreOnlyFields (tokens : Tokens) (c : Constructor) (operands labels : ℕ → ℤ) (out : List ℤ) : Type 0 where
  pub values : (v : ℕ → ℤ) × AreFieldValues (half_of tokens) v × (map v (bare_fields c.body) ≡ out)
  pub fit : (v : ℕ → ℤ) → AreFieldValues (half_of tokens) v → map v (bare_fields c.body) ≡ out
      → FieldsFit (setting_of tokens operands labels) c.operands v × EachSatisfied (setting_of tokens operands labels) v c.equations
  pub only : (v : ℕ → ℤ) → FieldsFit (setting_of tokens operands labels) c.operands v → EachSatisfied (setting_of tokens operands labels) v c.equations → map v (bare_fields c.body) ≡ out

-- the plan's cells are the constructor's bare fields, in order; its steps take the equations in solving order, and give every hidden
-- field a value
pub record IsPlanOf (tokens : Tokens) (c : Constructor) (plan : Plan) : Type 0 where
  pub tokens_sound : AreTokens tokens
  pub linear : IsLinear tokens c
  pub halves_are : plan.halves ≡ map (half_of tokens) (bare_fields c.body)
  pub sources_are : plan.sources ≡ map (source_from 0 c.operands) (bare_fields c.body)
  pub hidden_are : plan.hidden ≡ map is_hidden_source plan.sources
  pub equations_are : plan.equations ≡ map (celled (bare_fields c.body)) c.equations
  pub order : map (λ (s : SolvingStep). s.equation) plan.steps ≡ solving_order c
  pub steps_follow : AreSteps (at plan.halves) plan.equations plan.hidden plan.steps
  pub all_taken : length plan.steps ≡ length c.equations
  pub closed_all : none_open (left_after plan.hidden plan.steps) ≡ true
  pub values_are : AreValuesBy tokens c plan.values plan.slices
