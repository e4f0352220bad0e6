use Rattle.std.proofs.Common.{ℕ, List, sym, subst}
use Rattle.sled_model.specs.Specs.{IsNewName}
use Rattle.tree_meaning.specs.Scopes.{declared_in}
use Rattle.constructor_building.proofs.ScopeLemmas as by
use Rattle.constructor_building.proofs.naming.add_type.Goals as goal

pub add_type-requires-2-clause-fresh : goal.add_type-requires-2-clause-fresh
add_type-requires-2-clause-fresh c =
    subst (λ (n : List ℕ). IsNewName c.args.spec.now n) (sym c.in_ok-from_slice.ensures) (by.new_name c.args.spec.now (declared_in c.args.scope.now) c.requires.sound c.args.name.now c.requires.fresh)

pub declare-requires : goal.declare-requires
declare-requires c = by.new_among c.args.spec.now (declared_in c.args.scope.now) c.requires.sound c.args.name.now c.requires.fresh

pub returns-clause-sound : goal.returns-clause-sound
returns-clause-sound c =
    by.type_added c.args.spec.now (declared_in c.args.scope.now) c.requires.sound c.args.name.now c.requires.fresh c.add_type-2.new.self (declared_in c.declare.new.self)
    c.in_ok-from_slice.field-0 c.in_ok-id.id c.in_ok-from_slice.ensures c.in_ok-id.ensures.added c.in_ok-id.ensures.number c.in_ok-declare.ensures c.in_ok-id.ensures.sound
