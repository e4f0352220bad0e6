-- What is true of the operands and equations of each constructor of the language, as far as its equations rest on it.
use Rattle.std.specs.Prelude.{ℕ, ◌≡◌, ◌≢◌, ◌≤◌, ◌<◌, ◌^◌, true, List, [], ◌∷◌, ◌++◌, length, All, AllPairs, IsSome, slice_get, Option, Some, None, ℤ, pos, ◌+ℤ◌, ◌≤ℤ◌}
use Rattle.std.specs.List.{filter_map}
use Rattle.token_bits.specs.declared.tokens.Tokens.{Tokens}
use Rattle.sled_model.specs.declared.constructor.OperandKind.{OperandKind}
use Rattle.sled_model.specs.declared.constructor.OperandKind.TheVariants.{Plain, Extended, Whole, Sliced}
use Rattle.sled_model.specs.declared.constructor.Atom.{Atom}
use Rattle.sled_model.specs.declared.constructor.Atom.TheVariants.{Name, Field, Signed, Slice, Label}
use Rattle.sled_model.specs.declared.constructor.Term.{Term}
use Rattle.sled_model.specs.declared.constructor.Equation.{Equation}
use Rattle.sled_model.specs.declared.constructor.Constructor.{Constructor}
use Rattle.sled_model.specs.declared.pattern.Pattern.{Pattern, Row_of-Pattern, end_of-Pattern, more_of-Pattern}
use Rattle.sled_model.specs.declared.pattern.Pattern.TheVariants.{Label', Both', Either', Chain', Loose'}
use Rattle.sled_model.specs.SolvingOrder.{bare_fields, is_among}

abbrev mutual
  -- the numbers of the labels of a pattern, from left to right
  pub labels_in : Pattern → List ℕ
  labels_in (Label' l s p) = l ∷ row_labels p
  labels_in (Both' s ps) = row_labels ps
  labels_in (Either' s ps) = row_labels ps
  labels_in (Chain' s ps) = row_labels ps
  labels_in (Loose' s p) = row_labels p
  labels_in _ = []

  pub row_labels : {n : _} → Row_of-Pattern n → List ℕ
  row_labels end_of-Pattern = []
  row_labels (more_of-Pattern p ps) = labels_in p ++ row_labels ps

-- x lies between -n and n
pub record IsWithin (n : ℕ) (x : ℤ) : Type 0 where
  pub low : pos 0 ≤ℤ (x +ℤ pos n)
  pub high : x ≤ℤ pos n

-- the field of a field operand
abbrev pub kind_field : OperandKind → Option ℕ
kind_field (Plain f) = Some f.0
kind_field (Extended f) = Some f.0
kind_field _ = None

-- the atom is a whole operand, a slice of a sliced one, a bare field or a label of the constructor
abbrev pub IsAtomOf : Constructor → Atom → Type 0
IsAtomOf c (Name k) = slice_get c.operands k ≡ Some Whole
IsAtomOf c (Field f) = is_among (bare_fields c.body) f.0 ≡ true
IsAtomOf c (Signed f) = is_among (bare_fields c.body) f.0 ≡ true
IsAtomOf c (Slice k lo hi) = (slice_get c.operands k ≡ Some Sliced) × (lo ≤ hi) × (hi ≤ 31)
IsAtomOf c (Label l) = l < length (labels_in c.body)

pub record IsTermOf (c : Constructor) (t : Term) : Type 0 where
  pub coefficient : IsWithin (2 ^ 16) t.coefficient
  pub nonzero : t.coefficient ≢ pos 0
  pub atom : IsAtomOf c t.atom

-- sixteen terms at most, on both sides together, each of which is a number below 2 ^ 32 or a multiple of an atom
pub record IsEquationOf (c : Constructor) (e : Equation) : Type 0 where
  pub terms : All (IsTermOf c) e.terms
  pub few : length e.terms ≤ 16
  pub rest : IsWithin (2 ^ 36) e.rest

-- each bare field is known and stands once, the field operands are bare fields, each another one, and the equations are about what there is
pub record IsLinear (tokens : Tokens) (c : Constructor) : Type 0 where
  pub known : All (λ f. IsSome (slice_get tokens.fields f)) (bare_fields c.body)
  pub once : AllPairs (λ f g. f ≢ g) (bare_fields c.body)
  pub bare : All (λ f. is_among (bare_fields c.body) f ≡ true) (filter_map kind_field c.operands)
  pub apart : AllPairs (λ f g. f ≢ g) (filter_map kind_field c.operands)
  pub few_operands : length c.operands ≤ 16
  pub few_equations : length c.equations ≤ 32
  pub equations : All (IsEquationOf c) c.equations
