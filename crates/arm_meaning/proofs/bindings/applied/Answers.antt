use Rattle.std.proofs.Common.{ap, ◌∙◌}
use Rattle.std.specs.Prelude.{◌&&◌}
use Rattle.tree_meaning.specs.Names.{are_new, are_distinct}
use Rattle.arm_meaning.specs.Bound.{names_in}
use Rattle.arm_meaning.proofs.NameLemmas.{new_in_none}
use Rattle.arm_meaning.proofs.bindings.applied.Goals as goal

pub returns-clause-once : goal.returns-clause-once
returns-clause-once c =
    let ns = names_in c.args.arguments.now in
    c.in_ok-once.ensures.new ∙ ap (λ old. are_new old ns && are_distinct ns) c.new-names.ensures ∙ ap (λ t. t && are_distinct ns) (new_in_none ns)
