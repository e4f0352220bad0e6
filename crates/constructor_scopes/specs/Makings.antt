-- The constructors that one declaration makes.
use Rattle.std.specs.Prelude.{ℕ, ◌+◌, List, [], ◌∷◌, drop, Option, Some, None}
use Rattle.std.specs.Option.{option_map_or}
use Rattle.sled_model.specs.declared.pattern.Pattern.{Pattern}
use Rattle.tree_meaning.specs.declared.scope.Meaning.{Meaning}
use Rattle.tree_meaning.specs.declared.scope.Meaning.TheVariants.{Group}
use Rattle.tree_meaning.specs.Names.{position_of}
use Rattle.tree_meaning.specs.Scopes.{Declared, meaning_of}

-- a constructor of a declaration: its name, and the member that the opcode's word stands for in its body where that word is a group's
pub record Made : Type 0 where
  pub name : List ℕ
  pub member : Option Pattern

-- the names that were declared behind this one
abbrev pub names_behind : Declared → List ℕ → List (List ℕ)
names_behind declared name = option_map_or (λ k. drop (k + 1) declared.names) (position_of declared.names name) []

-- one constructor for each member, named as the member is
abbrev pub one_for_each : List (List ℕ) → List Pattern → List Made
one_for_each (n ∷ ns) (p ∷ ps) = record { name = n; member = Some p } ∷ one_for_each ns ps
one_for_each _ _ = []

abbrev pub makings_by : Declared → List ℕ → Option Meaning → List Made
makings_by declared opcode (Some (Group ps)) = one_for_each (names_behind declared opcode) ps
makings_by declared opcode _ = record { name = opcode; member = None } ∷ []

-- The constructors of a declaration with this opcode, in order: where it is a group's name one for each member, else one of that name.
-- The members of a group are declared right behind it, in order.
abbrev pub makings : Declared → List ℕ → List Made
makings declared opcode = makings_by declared opcode (meaning_of declared opcode)
