-- What is read of a declaration.
use Rattle.std.specs.Prelude.{ℕ, Bool, ◌≡◌, ◌&&◌, true, false, Option, Some, None, List, length, ◌<◌, ◌^◌}
use Rattle.sled_model.specs.declared.constructor.OperandKind.{OperandKind}
use Rattle.tree_meaning.specs.Bound.{IsBindingsOf}
use Rattle.tree_meaning.specs.NameTables.{table_names}
use Rattle.tree_meaning.specs.Parts.{labels}
use Rattle.tree_meaning.specs.Scopes.{Declared}
use Rattle.operand_meaning.specs.Operands.{operands_are_known, equations_are_known}
use Rattle.constructor_scopes.specs.Makings.{makings}
use Rattle.constructor_scopes.specs.Views.{made}
use Rattle.constructor_meaning.specs.Conditions.{bodies, body_scope, kinds}
use Rattle.constructor_meaning.specs.Constructing.{Constructing}
use Rattle.constructor_meaning.specs.declared.fault.ReadFault.{ReadFault}
use Rattle.constructor_meaning.specs.declared.fault.ReadFault.TheVariants.{Unmet, NoMemory}
use Rattle.constructor_meaning.specs.declared.reading.Reading.{Reading}
use Rattle.constructor_meaning.specs.declared.reading.BodyReading.{BodyReading}

-- operands and the names in equations are known
abbrev pub are_known_outside : Declared → Constructing → Bool
are_known_outside declared c = operands_are_known declared c.equations c.operands && equations_are_known declared (labels c.body) c.operands c.equations

-- these are the kinds of the operands, or what is outside of the body is not known
abbrev pub IsKnownOutside : Declared → Constructing → Option (List OperandKind) → Type 0
IsKnownOutside declared c None = are_known_outside declared c ≡ false
IsKnownOutside declared c (Some ks) = (are_known_outside declared c ≡ true) × (ks ≡ kinds declared c)

-- what is read of the body
pub record IsBodyOf (declared : Declared) (c : Constructing) (body : BodyReading) : Type 0 where
  pub bindings : IsBindingsOf (body_scope declared c) c.body body.bindings
  pub bodies : body.bodies ≡ bodies declared c

-- what is read of the declaration
pub record IsReadingOf (declared : Declared) (c : Constructing) (reading : Reading) : Type 0 where
  pub makings : made reading.makings ≡ makings declared c.opcode
  pub labels : table_names reading.labels ≡ labels c.body
  pub kinds : reading.kinds ≡ kinds declared c
  pub body : IsBodyOf declared c reading.body

-- the fault names the first condition that is unmet
abbrev pub IsUnmetAt : ReadFault → Option ℕ → Type 0
IsUnmetAt (Unmet n) first = first ≡ Some n
IsUnmetAt NoMemory first = Unit {0}
