-- What is asked of each pattern, inside a pattern, that has no parts.
use Rattle.std.specs.Prelude.{◌<◌, ◌^◌, List, slice_get, IsSome, IsSomeAnd}
use Rattle.token_bits.specs.declared.tokens.Tokens.{Tokens}
use Rattle.sled_model.specs.declared.constructor.OperandKind.{OperandKind}
use Rattle.sled_model.specs.declared.constructor.OperandKind.TheVariants.{Typed}
use Rattle.sled_model.specs.declared.pattern.Pattern.{Pattern, Row_of-Pattern, end_of-Pattern, more_of-Pattern}
use Rattle.sled_model.specs.declared.pattern.Pattern.TheVariants.{Token, Limit, Bind, Operand, Label', Both', Either', Chain', Loose', Apply'}
use Rattle.sled_model.specs.Measures.{width_at}

abbrev mutual
  -- P holds of each pattern in the pattern that has no parts; an application is one of them
  pub AllLeaves : (Pattern → Type 0) → Pattern → Type 0
  AllLeaves P (Label' l s p) = AllLeavesOfRow P p
  AllLeaves P (Both' s ps) = AllLeavesOfRow P ps
  AllLeaves P (Either' s ps) = AllLeavesOfRow P ps
  AllLeaves P (Chain' s ps) = AllLeavesOfRow P ps
  AllLeaves P (Loose' s p) = AllLeavesOfRow P p
  AllLeaves P p = P p

  -- the same of each pattern of a row
  pub AllLeavesOfRow : {n : _} → (Pattern → Type 0) → Row_of-Pattern n → Type 0
  AllLeavesOfRow P end_of-Pattern = Unit {0}
  AllLeavesOfRow P (more_of-Pattern p ps) = AllLeaves P p × AllLeavesOfRow P ps

-- neither an operand nor an application
abbrev pub NamesNoConstructor : Pattern → Type 0
NamesNoConstructor (Operand k) = ⊥
NamesNoConstructor (Apply' k s arguments) = ⊥
NamesNoConstructor _ = Unit {0}

-- a limit is a value that its field can have
abbrev pub HasLimitInField : Tokens → Pattern → Type 0
HasLimitInField tokens (Limit f relation limit) = limit < 2 ^ width_at tokens f
HasLimitInField tokens _ = Unit {0}

-- the field that it names is known
abbrev pub NamesKnownField : Tokens → Pattern → Type 0
NamesKnownField tokens (Limit f relation limit) = IsSome (slice_get tokens.fields f.0)
NamesKnownField tokens (Bind f) = IsSome (slice_get tokens.fields f.0)
NamesKnownField tokens _ = Unit {0}

-- the class that it names is known
abbrev pub NamesKnownClass : Tokens → Pattern → Type 0
NamesKnownClass tokens (Token c) = IsSome (slice_get tokens.classes c.0)
NamesKnownClass tokens _ = Unit {0}

abbrev pub IsTyped : OperandKind → Type 0
IsTyped (Typed t) = Unit {0}
IsTyped _ = ⊥

-- the operand that it names, of operands of these kinds, is a typed one
abbrev pub NamesTypedOperand : List OperandKind → Pattern → Type 0
NamesTypedOperand kinds (Operand k) = IsSomeAnd (slice_get kinds k) IsTyped
NamesTypedOperand kinds _ = Unit {0}

abbrev pub IsNoApplication : Pattern → Type 0
IsNoApplication (Apply' k s arguments) = ⊥
IsNoApplication _ = Unit {0}

-- the row has a pattern
abbrev pub IsFilledRow : {n : _} → Row_of-Pattern n → Type 0
IsFilledRow end_of-Pattern = ⊥
IsFilledRow (more_of-Pattern p ps) = Unit {0}

abbrev mutual
  -- no list of patterns inside the pattern is empty
  pub HasFilledLists : Pattern → Type 0
  HasFilledLists (Label' l s p) = IsFilledRow p × RowHasFilledLists p
  HasFilledLists (Both' s ps) = IsFilledRow ps × RowHasFilledLists ps
  HasFilledLists (Either' s ps) = IsFilledRow ps × RowHasFilledLists ps
  HasFilledLists (Chain' s ps) = IsFilledRow ps × RowHasFilledLists ps
  HasFilledLists (Loose' s p) = IsFilledRow p × RowHasFilledLists p
  HasFilledLists _ = Unit {0}

  -- the same of each pattern of a row
  pub RowHasFilledLists : {n : _} → Row_of-Pattern n → Type 0
  RowHasFilledLists end_of-Pattern = Unit {0}
  RowHasFilledLists (more_of-Pattern p ps) = HasFilledLists p × RowHasFilledLists ps
