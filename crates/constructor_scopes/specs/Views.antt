-- What contracts see of what is answered here.
use Rattle.std.specs.Prelude.{ℕ, List, [], ◌∷◌, map, Some, None}
use Rattle.constructor_scopes.specs.declared.members.Member.{Member}
use Rattle.constructor_scopes.specs.declared.members.Makings.{Makings}
use Rattle.constructor_scopes.specs.declared.members.Makings.TheVariants.{Lone, Members}
use Rattle.constructor_scopes.specs.Makings.{Made}

abbrev pub made_for : Member → Made
made_for m = record { name = m.name.now; member = Some m.pattern }

-- the constructors
abbrev pub made : Makings → List Made
made (Lone name) = record { name = name.now; member = None } ∷ []
made (Members ms) = map made_for ms.items

-- the opcode is a group
abbrev pub IsOfGroup : Makings → Type 0
IsOfGroup (Lone name) = ⊥
IsOfGroup (Members ms) = Unit {0}
