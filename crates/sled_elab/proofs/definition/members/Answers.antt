use Rattle.std.proofs.Common.{ap, sym, subst, ◌∙◌, ◌<◌, ◌++◌}
use Rattle.sled_elab.specs.Declarations.{member}
use Rattle.sled_elab.proofs.DefinitionLemmas.{members_more}
use Rattle.sled_elab.proofs.definition.members.Goals as goal

pub loop-i-preserved : goal.loop-i-preserved
loop-i-preserved c =
    let i = c.loop-i.i in
    let x = c.index-items-i.result in
    let p = c.index-patterns-i.result in
    c.in_ok-push_member.ensures ∙ ap (λ ms. ms ++ member x p) c.loop-i.invariant
    ∙ sym (members_more c.args.items.now c.args.patterns.now i x p c.loop-i-test.true (subst (λ n. i < n) c.requires c.loop-i-test.true) c.index-items-i.is c.index-patterns-i.is)
