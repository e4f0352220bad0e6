-- What holds of descriptions and statements that lack nothing.
use Rattle.std.specs.Prelude.{◌≡◌, ◌≤◌, ◌^◌, List, length, All, None}
use Rattle.sled_parser.specs.declared.tree.Decl.{Decl}
use Rattle.sled_parser.specs.declared.tree.MatchTree.{MatchTree}
use Rattle.sled_parser.specs.Declarations.{IsDescription}
use Rattle.sled_parser.specs.Pieces.{Input}
use Rattle.match_meaning.specs.Matchable.{IsMatchable}
use Rattle.sled_elab.specs.Conditions.{IsDescriptionLack}
use Rattle.sled_elab.specs.Declarations.{Described}
use Rattle.sled_elab.specs.Descriptions.{HasNumbersInRange, IsReadOnce, IsSound}
use Rattle.sled_elab.specs.Elaboration.{described}
use Rattle.statement_building.specs.Conditions.{statement_unmet}
use Rattle.statement_building.specs.Statements.{statement_of}

-- the description and its scope are sound, and what is read of its constructors is exact
pub record IsWhole (d : Described) : Type 0 where
  pub sound : IsSound d
  pub read : IsReadOnce d.spec

-- Declarations that lack nothing make such a description. A number of 32 bits counts its constructors, since each has a name of its own
-- among the lexemes.
abbrev pub AcceptedAreSound : Type 0
AcceptedAreSound =
    (input : Input) (decls : List Decl) → length input ≤ 2 ^ 32 → IsDescription input decls → All HasNumbersInRange decls → IsDescriptionLack decls None → IsWhole (described decls)

-- over such a description a statement that lacks nothing can be matched
abbrev pub StatedCanBeMatched : Type 0
StatedCanBeMatched = (d : Described) (tree : MatchTree) → IsWhole d → statement_unmet d.spec d.declared tree ≡ None → IsMatchable d.spec (statement_of d.spec d.declared tree)
