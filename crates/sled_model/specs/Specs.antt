-- What descriptions are admitted.
use Rattle.std.specs.Prelude.{ℕ, ◌≡◌, ◌≢◌, ◌<◌, ◌≤◌, ◌^◌, List, ◌++◌, map, length, All, AllPairs, IfSome}
use Rattle.token_bits.specs.declared.tokens.Tokens.{Tokens}
use Rattle.sled_model.specs.declared.constructor.OperandKind.{OperandKind}
use Rattle.sled_model.specs.declared.constructor.OperandKind.TheVariants.{Plain, Extended, Typed}
use Rattle.sled_model.specs.declared.constructor.Constructor.{Constructor}
use Rattle.sled_model.specs.declared.pattern.Pattern.{Pattern}
use Rattle.sled_model.specs.declared.spec.Spec.{Spec}
use Rattle.token_bits.specs.Tokens.{AreTokens}
use Rattle.sled_model.specs.Leaves.{AllLeaves, NamesKnownClass, NamesKnownField, HasLimitInField, NamesTypedOperand, IsNoApplication}

-- the names of the classes, of the fields and of the types, which share one space
abbrev pub names_of : Spec → List (List ℕ)
names_of spec = spec.class_names ++ spec.field_names ++ spec.type_names

abbrev pub constructor_names_of : Spec → List (List ℕ)
constructor_names_of spec = map (λ (c : Constructor). c.name) spec.constructors

-- the field or the type is one of those that there are
abbrev pub IsKnownKind : Tokens → ℕ → OperandKind → Type 0
IsKnownKind tokens types (Plain f) = f.0 < length tokens.fields
IsKnownKind tokens types (Extended f) = f.0 < length tokens.fields
IsKnownKind tokens types (Typed t) = t.0 < types
IsKnownKind tokens types _ = Unit {0}

-- a leaf of the body of a constructor with operands of these kinds: it names what is known, its limit is a value of its field, and
-- it applies no constructor
pub record IsBodyLeaf (tokens : Tokens) (kinds : List OperandKind) (p : Pattern) : Type 0 where
  pub class : NamesKnownClass tokens p
  pub field : NamesKnownField tokens p
  pub limit : HasLimitInField tokens p
  pub operand : NamesTypedOperand kinds p
  pub alone : IsNoApplication p

-- a constructor over these tokens and so many types
pub record IsConstructorOf (tokens : Tokens) (types : ℕ) (c : Constructor) : Type 0 where
  pub names : length c.names ≡ length c.operands
  pub operands : All (IsKnownKind tokens types) c.operands
  pub result : IfSome c.result (λ t. t.0 < types)
  pub body : AllLeaves (IsBodyLeaf tokens c.operands) c.body

-- the tokens are such as the language admits, each class and each field has a name, no name is declared twice in its space, and the
-- constructors, of which a number of 32 bits names each, speak of what is known
pub record IsSpec (spec : Spec) : Type 0 where
  pub tokens : AreTokens spec.tokens
  pub classes : length spec.class_names ≡ length spec.tokens.classes
  pub fields : length spec.field_names ≡ length spec.tokens.fields
  pub names : AllPairs (λ one other. one ≢ other) (names_of spec)
  pub constructor_names : spec.constructor_names ≡ constructor_names_of spec
  pub different : AllPairs (λ one other. one ≢ other) (constructor_names_of spec)
  pub constructors : All (IsConstructorOf spec.tokens (length spec.type_names)) spec.constructors
  pub few : length spec.constructors ≤ 2 ^ 32

-- the name is none of the description's classes, fields and types
abbrev pub IsNewName : Spec → List ℕ → Type 0
IsNewName spec name = All (λ other. other ≢ name) (names_of spec)

-- the name is none of the description's constructors
abbrev pub IsNewConstructorName : Spec → List ℕ → Type 0
IsNewConstructorName spec name = All (λ other. other ≢ name) (constructor_names_of spec)
