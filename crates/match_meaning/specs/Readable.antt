-- What is asked of a description so that each result of a constructor's body means one instance.
use Rattle.std.specs.Prelude.{ℕ, ◌≡◌, ◌≤◌, true, List, [], All, slice_get, Some}
use Rattle.token_bits.specs.declared.tokens.Tokens.{Tokens}
use Rattle.sled_model.specs.declared.constructor.TypeId.{TypeId}
use Rattle.sled_model.specs.declared.constructor.OperandKind.TheVariants.{Typed}
use Rattle.sled_model.specs.declared.constructor.Constructor.{Constructor}
use Rattle.sled_model.specs.declared.pattern.Pattern.{Pattern, Row_of-Pattern, end_of-Pattern, more_of-Pattern}
use Rattle.sled_model.specs.declared.pattern.Pattern.TheVariants.{Label', Both', Either', Chain', Loose'}
use Rattle.sled_model.specs.declared.raw.Match.{Match}
use Rattle.sled_model.specs.declared.spec.Spec.{Spec}
use Rattle.sled_model.specs.Linear.{IsLinear}
use Rattle.sled_model.specs.Results.{Known, known_from, operands_in, operands_in_row}
use Rattle.sled_model.specs.Solved.{IsSolved}
use Rattle.sled_model.specs.SolvingOrder.{IsDetermined, row_fields, is_among}
use Rattle.sled_model.specs.Specs.{IsSpec}

-- no field stands bare in the patterns, and no operand stands in them
abbrev pub RowReadsNothing : {n : _} → Row_of-Pattern n → Type 0
RowReadsNothing ps = (row_fields ps ≡ []) × (operands_in_row ps ≡ [])

abbrev mutual
  -- in each disjunction in the pattern, no side holds a bare field or an operand
  pub SidesReadNothing : Pattern → Type 0
  SidesReadNothing (Label' l s p) = RowSidesReadNothing p
  SidesReadNothing (Both' s ps) = RowSidesReadNothing ps
  SidesReadNothing (Either' s ps) = RowReadsNothing ps
  SidesReadNothing (Chain' s ps) = RowSidesReadNothing ps
  SidesReadNothing (Loose' s p) = RowSidesReadNothing p
  SidesReadNothing _ = Unit {0}

  pub RowSidesReadNothing : {n : _} → Row_of-Pattern n → Type 0
  RowSidesReadNothing end_of-Pattern = Unit {0}
  RowSidesReadNothing (more_of-Pattern p ps) = SidesReadNothing p × RowSidesReadNothing ps

-- The equations can be solved both ways, the operands that are instances stand in the body, and no disjunction of the body hides a
-- field or an operand. So each result of the body has a value for each bare field and a choice for each operand that is an instance.
pub record IsReadable (tokens : Tokens) (c : Constructor) : Type 0 where
  pub linear : IsLinear tokens c
  pub determined : IsDetermined c
  pub solved : IsSolved tokens c
  pub sides : SidesReadNothing c.body
  pub typed : (k : ℕ) (t : TypeId) → slice_get c.operands k ≡ Some (Typed t) → is_among (operands_in c.body) k ≡ true

-- whatever the bytes are, each result of the body has 32 bytes at most
abbrev pub HasShortBody : Known → Type 0
HasShortBody c = (bytes : List ℕ) (i : ℕ) → All (λ (m : Match). m.len ≤ 32) (c.body bytes i)

-- the description is one, each of its constructors can be read, and has a short body
pub record IsReadableSpec (spec : Spec) : Type 0 where
  pub is_spec : IsSpec spec
  pub constructors : All (IsReadable spec.tokens) spec.constructors
  pub short : All HasShortBody (known_from spec.tokens [] spec.constructors)
