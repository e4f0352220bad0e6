use Rattle.std.proofs.Common.{◌≡◌, ℕ, ◌≤◌, ◌+◌, take, drop}
use Rattle.std.specs.Prelude.{Option, fold}
use Rattle.type_tables.specs.Tables.{IsTableOf}
use Rattle.sled_elab.specs.Declarations.{nothing}
use Rattle.sled_elab.specs.Elaboration.{after}
use Rattle.sled_elab.specs.Conditions.{IsFirstLackFrom, IsDescriptionLack}
use Rattle.sled_elab.specs.Descriptions.{described_in, HasPlainNames, IsReadOnce, IsSound}
use Rattle.sled_elab.proofs.declarations.describe.Given as goal

abbrev pub invariant-loop-decl : goal.invariant-loop-decl
invariant-loop-decl l = record {
  made : described_in l.description ≡ fold after nothing (take l.decl-index l.decls);
  sound : IsSound (described_in l.description);
  plain : HasPlainNames (described_in l.description).declared;
  read : IsReadOnce l.description.spec;
  types : IsTableOf l.description.spec l.types;
  lack : (first : Option (ℕ × ℕ)) → IsFirstLackFrom l.number (described_in l.description) (drop l.decl-index l.decls) first → IsDescriptionLack l.decls first;
  small : l.number ≤ l.decl-index + 1;
}
