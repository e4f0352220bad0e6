use Rattle.std.proofs.Common.{ℕ, List, Bor, map, ap, ◌∙◌}
use Rattle.tree_meaning.specs.Scopes.{declared_in}
use Rattle.constructor_scopes.specs.Views.{made}
use Rattle.constructor_meaning.specs.Constructing.{constructing}
use Rattle.constructor_building.proofs.MadeLemmas.{made_are}
use Rattle.constructor_building.proofs.MetLemmas.{within_limits}
use Rattle.constructor_building.proofs.making.constructors_of.Goals as goal

pub each_with-requires-clause-limits : goal.each_with-requires-clause-limits
each_with-requires-clause-limits c = within_limits c.args.spec.now (declared_in c.args.scope.now) (constructing c.args.tree.now) c.requires.met

pub returns : goal.returns
returns c =
    made_are c.args.spec.now (declared_in c.args.scope.now) (constructing c.args.tree.now) c.in_ok-made.made c.in_ok-result_type.result_type
    (map (λ (x : Bor (List ℕ)). x.now) c.as_slice.result.now) c.as_slice-bodies.result.now (made c.args.draft.now.reading.makings)
    c.in_ok-made.ensures c.in_ok-result_type.ensures (ap (map (λ (x : Bor (List ℕ)). x.now)) c.as_slice.ensures.value ∙ c.in_ok-names.ensures)
    (c.as_slice-bodies.ensures ∙ c.requires.draft.reading.body.bodies) c.requires.draft.reading.makings
