-- The operand of an equation by itself.
use Rattle.std.specs.Prelude.{ℕ, ◌≡◌, Bool, true, false, if◌then◌else◌, List, [], ◌∷◌, ℤ, neg_ℤ, ◌+ℤ◌}
use Rattle.sled_model.specs.declared.constructor.Term.{Term}
use Rattle.sled_model.specs.declared.constructor.Atom.{Atom}
use Rattle.sled_model.specs.declared.constructor.Equation.{Equation}
use Rattle.eq_solver.specs.declared.plan.Value.{Value}
use Rattle.sled_model.specs.Solved.{is_operand_atom}
use Rattle.sled_model.specs.Equations.{Setting, atom_value, sum_of, IsSatisfied}

abbrev pub turned : Bool → ℤ → ℤ
turned true c = neg_ℤ c
turned false c = c

-- the terms without the operand, on the other side where the operand counts 1
abbrev pub others : Bool → List Term → List Term
others turn [] = []
others turn (t ∷ ts) = if is_operand_atom t.atom then others turn ts else (record { coefficient = turned turn t.coefficient; atom = t.atom } ∷ others turn ts)

-- the equation says that the operand, or slice, has the value of this sum
pub record Gives (e : Equation) (g : Value) : Type 0 where
  pub to : (w : Setting) (v : ℕ → ℤ) → IsSatisfied w v e → atom_value w v g.target ≡ sum_of w v g.terms +ℤ g.rest
  pub from : (w : Setting) (v : ℕ → ℤ) → atom_value w v g.target ≡ sum_of w v g.terms +ℤ g.rest → IsSatisfied w v e
