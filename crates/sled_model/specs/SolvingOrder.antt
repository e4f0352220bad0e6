-- The order in which a constructor's equations are solved, and whether it determines every hidden field.
use Rattle.std.specs.Prelude.{ℕ, zero, suc, ◌≡◌, ◌+◌, ◌==◌, nat_le, Bool, true, false, not, ◌&&◌, ◌||◌, if◌then◌else◌, List, [], ◌∷◌, ◌++◌, length, filter, Option, Some, None, slice_get}
use Rattle.std.specs.List.{filter_map, list_any, list_all}
use Rattle.std.specs.Option.{option_map_or}
use Rattle.sled_model.specs.declared.constructor.OperandKind.{OperandKind}
use Rattle.sled_model.specs.declared.constructor.OperandKind.TheVariants.{Plain, Extended}
use Rattle.sled_model.specs.declared.constructor.Atom.{Atom}
use Rattle.sled_model.specs.declared.constructor.Atom.TheVariants.{Field, Signed}
use Rattle.sled_model.specs.declared.constructor.Term.{Term}
use Rattle.sled_model.specs.declared.constructor.Equation.{Equation}
use Rattle.sled_model.specs.declared.constructor.Constructor.{Constructor}
use Rattle.sled_model.specs.declared.pattern.Pattern.{Pattern, Row_of-Pattern, end_of-Pattern, more_of-Pattern}
use Rattle.sled_model.specs.declared.pattern.Pattern.TheVariants.{Bind, Label', Both', Either', Chain', Loose'}

-- ---- hidden fields

abbrev mutual
  -- the numbers of the bare fields of a pattern, from left to right
  pub bare_fields : Pattern → List ℕ
  bare_fields (Bind f) = f.0 ∷ []
  bare_fields (Label' l s p) = row_fields p
  bare_fields (Both' s ps) = row_fields ps
  bare_fields (Either' s ps) = row_fields ps
  bare_fields (Chain' s ps) = row_fields ps
  bare_fields (Loose' s p) = row_fields p
  bare_fields _ = []

  pub row_fields : {n : _} → Row_of-Pattern n → List ℕ
  row_fields end_of-Pattern = []
  row_fields (more_of-Pattern p ps) = bare_fields p ++ row_fields ps

-- whether the operand is this field, as it is or with its sign extended
abbrev pub is_field_operand : ℕ → OperandKind → Bool
is_field_operand f (Plain g) = g.0 == f
is_field_operand f (Extended g) = g.0 == f
is_field_operand f _ = false

abbrev pub is_among : List ℕ → ℕ → Bool
is_among fs f = list_any (λ g. g == f) fs

-- a hidden field stands bare in the body and is no operand
abbrev pub is_hidden : Constructor → ℕ → Bool
is_hidden c f = is_among (bare_fields c.body) f && not (list_any (is_field_operand f) c.operands)

-- ---- the order. A set of numbers is a test; the unknown fields are those that are not determined yet.

abbrev pub atom_field : Atom → Option ℕ
atom_field (Field f) = Some f.0
atom_field (Signed f) = Some f.0
atom_field _ = None

-- the unknown fields of the terms, as often as they stand
abbrev pub unknown_fields : (ℕ → Bool) → List Term → List ℕ
unknown_fields unknown terms = filter unknown (filter_map (λ (t : Term). atom_field t.atom) terms)

-- one field at most, however often it stands
abbrev pub is_one_at_most : List ℕ → Bool
is_one_at_most [] = true
is_one_at_most (f ∷ fs) = list_all (λ g. g == f) fs

-- the set with one number more
abbrev pub including : (ℕ → Bool) → ℕ → ℕ → Bool
including set k j = set j || (j == k)

-- the set without these numbers
abbrev pub excluding : (ℕ → Bool) → List ℕ → ℕ → Bool
excluding set fs f = set f && not (is_among fs f)

-- the first equation, from number k on, that is not taken and holds one unknown field at most
abbrev pub next_equation : (ℕ → Bool) → (ℕ → Bool) → ℕ → List Equation → Option ℕ
next_equation taken unknown k [] = None
next_equation taken unknown k (e ∷ es) = if not (taken k) && is_one_at_most (unknown_fields unknown e.terms) then Some k else next_equation taken unknown (k + 1) es

-- the unknown fields of the equation of this number
abbrev pub unknown_at : List Equation → (ℕ → Bool) → ℕ → List ℕ
unknown_at es unknown k = option_map_or (λ (e : Equation). unknown_fields unknown e.terms) (slice_get es k) []

-- the numbers of the next n equations in solving order: again and again the first that holds one unknown field at most, which it determines
abbrev pub order_from : ℕ → List Equation → (ℕ → Bool) → (ℕ → Bool) → List ℕ
order_from zero es taken unknown = []
order_from (suc n) es taken unknown =
    option_map_or (λ k. k ∷ order_from n es (including taken k) (excluding unknown (unknown_at es unknown k))) (next_equation taken unknown 0 es) []

abbrev pub solving_order : Constructor → List ℕ
solving_order c = order_from (length c.equations) c.equations (λ k. false) (is_hidden c)

-- ---- condition 12

-- what is unknown after these equations
abbrev pub unknown_after : List Equation → (ℕ → Bool) → List ℕ → ℕ → Bool
unknown_after es unknown [] = unknown
unknown_after es unknown (k ∷ ks) = unknown_after es (excluding unknown (unknown_at es unknown k)) ks

-- each of these equations, in turn, holds the field that it determines in one term
abbrev pub hold_single : List Equation → (ℕ → Bool) → List ℕ → Bool
hold_single es unknown [] = true
hold_single es unknown (k ∷ ks) = nat_le (length (unknown_at es unknown k)) 1 && hold_single es (excluding unknown (unknown_at es unknown k)) ks

-- condition 12: the order takes every equation, determines every hidden field, and each of them by a single term
pub record IsDetermined (c : Constructor) : Type 0 where
  pub takes : length (solving_order c) ≡ length c.equations
  pub determines : list_all (λ f. not (unknown_after c.equations (is_hidden c) (solving_order c) f)) (bare_fields c.body) ≡ true
  pub single : hold_single c.equations (is_hidden c) (solving_order c) ≡ true
