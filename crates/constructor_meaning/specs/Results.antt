-- The type that a constructor makes.
use Rattle.std.specs.Prelude.{ℕ, Bool, true, false, not, ◌&&◌, List, bytes_eq, is_some, Option, Some, None}
use Rattle.std.specs.List.{list_any}
use Rattle.sled_parser.specs.declared.tree.OperandTree.{OperandTree}
use Rattle.sled_parser.specs.declared.tree.OperandTree.TheVariants.{Word, Extended, Typed}
use Rattle.sled_model.specs.declared.spec.Spec.{Spec}
use Rattle.type_tables.specs.Tables.{is_used_type}
use Rattle.tree_meaning.specs.declared.scope.Meaning.{Meaning}
use Rattle.tree_meaning.specs.declared.scope.Meaning.TheVariants as meaning
use Rattle.tree_meaning.specs.Scopes.{Declared, meaning_of, type_named}

-- the operand is of the type of this name
abbrev pub uses_type : Declared → List ℕ → OperandTree → Bool
uses_type declared t (Word w) = is_some (type_named declared w) && bytes_eq t w
uses_type declared t (Extended w) = false
uses_type declared t (Typed n r) = bytes_eq t r

-- no constructor before has an operand of the type, and the name is that of a type, or new
abbrev pub may_make : Spec → Option Meaning → Bool
may_make spec None = true
may_make spec (Some (meaning.Type t)) = not (is_used_type spec t.0)
may_make spec (Some _) = false

-- The type may get a constructor: its name is new, or that of a type that is no operand of a constructor before, or of this one. With
-- `c(x) : t is x` before, `d(y) : t is y` meets this. `d(t) : t is t`, `d(a : u) : u is a` and `d(y) : x is y` do not, and with `e(t) is t`
-- before neither does `d(y) : t is y`.
abbrev pub type_is_open : Spec → Declared → List OperandTree → List ℕ → Bool
type_is_open spec declared os t = may_make spec (meaning_of declared t) && not (list_any (uses_type declared t) os)

abbrev pub result_is_open : Spec → Declared → List OperandTree → Option (List ℕ) → Bool
result_is_open spec declared os None = true
result_is_open spec declared os (Some t) = type_is_open spec declared os t
