use Rattle.std.proofs.Common.{◌≡◌, ap, sym, ◌∙◌}
use Rattle.std.specs.Option.{option_copied}
use Rattle.tree_meaning.specs.Scopes.{Declared, declared_in}
use Rattle.constructor_meaning.specs.Constructing.{Constructing, constructing}
use Rattle.constructor_building.specs.Building.{with_new_type, with_type, naming_new_type}
use Rattle.constructor_building.proofs.BuiltLemmas as by
use Rattle.constructor_building.proofs.adding.add_constructors.Goals as goal

pub add_new_type-requires-clause-fresh : goal.add_new_type-requires-clause-fresh
add_new_type-requires-clause-fresh c = λ x is.
    by.new_free c.args.spec.now (declared_in c.args.scope.now) (constructing c.args.tree.now) c.requires.met x.now (sym c.new_type-named.ensures ∙ ap option_copied is)

pub add_each-requires-clause-fresh : goal.add_each-requires-clause-fresh
add_each-requires-clause-fresh c =
    let spec = c.args.spec.now in let d : Declared = declared_in c.args.scope.now in let t : Constructing = constructing c.args.tree.now in
    let is : c.add_new_type.new.spec ≡ with_type spec d t.result = c.in_ok-add_new_type.ensures.spec ∙ ap (with_new_type spec) c.new_type-named.ensures in
    by.fresh_later spec d t c.requires.met c.add_new_type.new.spec is c.in_ok-constructors.constructors c.in_ok-constructors.ensures

pub add_each-requires-clause-known : goal.add_each-requires-clause-known
add_each-requires-clause-known c =
    let spec = c.args.spec.now in let d : Declared = declared_in c.args.scope.now in let t : Constructing = constructing c.args.tree.now in
    let is : c.add_new_type.new.spec ≡ with_type spec d t.result = c.in_ok-add_new_type.ensures.spec ∙ ap (with_new_type spec) c.new_type-named.ensures in
    by.known_later spec d t c.requires.met c.add_new_type.new.spec is c.in_ok-constructors.constructors c.in_ok-constructors.ensures c.requires.sound

pub returns-clause-spec : goal.returns-clause-spec
returns-clause-spec c =
    let spec = c.args.spec.now in let d : Declared = declared_in c.args.scope.now in let t : Constructing = constructing c.args.tree.now in
    let is : c.add_new_type.new.spec ≡ with_type spec d t.result = c.in_ok-add_new_type.ensures.spec ∙ ap (with_new_type spec) c.new_type-named.ensures in
    by.built_is spec d t c.requires.met c.add_new_type.new.spec is c.in_ok-constructors.constructors c.in_ok-constructors.ensures c.add_each.new.spec c.in_ok-add_each.ensures.spec

pub returns-clause-names : goal.returns-clause-names
returns-clause-names c =
    c.in_ok-add_new_type.ensures.names ∙ ap (naming_new_type c.args.spec.now (declared_in c.args.scope.now)) c.new_type-named.ensures

pub returns-clause-sound : goal.returns-clause-sound
returns-clause-sound c =
    by.sound_later c.add_new_type.new.spec c.add_each.new.spec (declared_in c.add_new_type.new.scope) c.in_ok-constructors.constructors
    c.in_ok-add_new_type.ensures.sound c.in_ok-add_each.ensures.spec c.in_ok-add_each.ensures.sound
