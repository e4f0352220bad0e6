use Rattle.std.proofs.Common.{◌≡◌, map, take}
use Rattle.std.specs.Prelude.{fold}
use Rattle.tree_meaning.specs.declared.scope.Meaning.TheVariants as meaning
use Rattle.tree_meaning.specs.Scopes.{declared_in}
use Rattle.sled_elab.specs.Declarations.{with_member, with_name}
use Rattle.sled_elab.proofs.definition.add_group.Given as goal

abbrev pub invariant-loop-member : goal.invariant-loop-member
invariant-loop-member l =
    declared_in l.scope
    ≡ fold with_member (with_name (declared_in l.fn.scope) l.name (meaning.Group (map (λ m. m.1.now) l.member-items))) (map (λ m. (m.0.now, m.1.now)) (take l.member-index l.member-items))
