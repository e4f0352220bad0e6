use Rattle.std.proofs.Common.{◌≡◌, ◌+◌, length, map, take}
use Rattle.sled_model.specs.declared.pattern.Pattern.{Pattern}
use Rattle.tree_meaning.specs.NameTables.{table_names}
use Rattle.tree_meaning.specs.Patterns.{patterns_of}
use Rattle.tree_meaning.specs.Scopes.{declared_in}
use Rattle.constructor_scopes.specs.Bodies.{first_of, with_last, without_locals}
use Rattle.constructor_scopes.proofs.bodies.member_bodies.Given as goal

abbrev pub invariant-loop-member : goal.invariant-loop-member
invariant-loop-member l = record {
  bodies : l.bodies ≡ map (λ m. first_of (patterns_of (with_last (declared_in l.fn.scope) l.at m.pattern) (table_names l.labels) l.body)) (take l.member-index l.members);
  outside : without_locals (declared_in l.scope) ≡ without_locals (declared_in l.fn.scope);
  again : (p : Pattern) → with_last (declared_in l.scope) l.at p ≡ with_last (declared_in l.fn.scope) l.at p;
  last : length (declared_in l.scope).local_meanings ≡ l.at + 1;
}
