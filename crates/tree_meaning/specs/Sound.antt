-- What is true of every pattern that declared names and fitting numbers make.
use Rattle.std.specs.Prelude.{ℕ, ◌<◌, length, slice_get, All, IsSome}
use Rattle.token_bits.specs.declared.tokens.Tokens.{Tokens}
use Rattle.sled_model.specs.declared.pattern.Pattern.{Pattern}
use Rattle.sled_model.specs.declared.pattern.Pattern.TheVariants as pattern
use Rattle.sled_model.specs.Leaves.{AllLeaves, NamesNoConstructor, HasLimitInField, HasFilledLists}
use Rattle.tree_meaning.specs.declared.scope.Meaning.{Meaning}
use Rattle.tree_meaning.specs.declared.scope.Meaning.TheVariants as meaning

-- the class or the field that it names was declared
abbrev pub NamesKnown : Tokens → Pattern → Type 0
NamesKnown tokens (pattern.Token c) = IsSome (slice_get tokens.classes c.0)
NamesKnown tokens (pattern.Limit f relation limit) = IsSome (slice_get tokens.fields f.0)
NamesKnown tokens (pattern.Bind f) = IsSome (slice_get tokens.fields f.0)
NamesKnown tokens _ = Unit {0}

-- it names no constructor, but a declared class or field, and what the field is compared with is a value of it
pub record IsSoundLeaf (tokens : Tokens) (p : Pattern) : Type 0 where
  pub plain : NamesNoConstructor p
  pub known : NamesKnown tokens p
  pub limit : HasLimitInField tokens p

abbrev pub IsSoundPattern : Tokens → Pattern → Type 0
IsSoundPattern tokens p = AllLeaves (IsSoundLeaf tokens) p

-- a name may stand for such patterns, or for a type; a group has a member
abbrev pub IsSoundMeaning : Tokens → Meaning → Type 0
IsSoundMeaning tokens (meaning.Class c) = IsSome (slice_get tokens.classes c.0)
IsSoundMeaning tokens (meaning.Field f) = IsSome (slice_get tokens.fields f.0)
IsSoundMeaning tokens (meaning.Pattern p) = IsSoundPattern tokens p
IsSoundMeaning tokens (meaning.Group ps) = (0 < length ps) × All (IsSoundPattern tokens) ps
IsSoundMeaning tokens (meaning.Type t) = Unit {0}
IsSoundMeaning tokens (meaning.Operand k) = ⊥

-- no list in the patterns that the name stands for is empty
abbrev pub IsFilledMeaning : Meaning → Type 0
IsFilledMeaning (meaning.Pattern p) = HasFilledLists p
IsFilledMeaning (meaning.Group ps) = (0 < length ps) × All HasFilledLists ps
IsFilledMeaning _ = Unit {0}

-- ---- in the body of a constructor

-- no application, and where it is an operand, one of the first n
abbrev pub NamesOperandBelow : ℕ → Pattern → Type 0
NamesOperandBelow n (pattern.Operand k) = k < n
NamesOperandBelow n (pattern.Apply' k s arguments) = ⊥
NamesOperandBelow n _ = Unit {0}

-- in the body of a constructor with n operands: as outside a body, but that it may be one of the operands
pub record IsSoundBodyLeaf (tokens : Tokens) (n : ℕ) (p : Pattern) : Type 0 where
  pub operand : NamesOperandBelow n p
  pub known : NamesKnown tokens p
  pub limit : HasLimitInField tokens p

abbrev pub IsSoundBody : Tokens → ℕ → Pattern → Type 0
IsSoundBody tokens n p = AllLeaves (IsSoundBodyLeaf tokens n) p

-- a local name may stand for one of the n operands besides
abbrev pub IsSoundLocalMeaning : Tokens → ℕ → Meaning → Type 0
IsSoundLocalMeaning tokens n (meaning.Operand k) = k < n
IsSoundLocalMeaning tokens n m = IsSoundMeaning tokens m
