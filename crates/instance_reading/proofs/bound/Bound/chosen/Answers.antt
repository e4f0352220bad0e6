use Rattle.std.proofs.Common.{sym, ap, ◌∙◌}
use Rattle.std.specs.Option.{option_copied}
use Rattle.instance_reading.proofs.Lookups.{never_none, not_value, not_mark, is_chosen}
use Rattle.instance_reading.proofs.bound.Bound.chosen.Goals as goal

pub unreachable-requires : goal.unreachable-requires
unreachable-requires c =
    never_none c.args.self.now c.requires.bound c.args.operand c.args.of c.requires.kind c.plan.result.now c.plan.ensures c.as_slice-standing.result.now c.as_slice-standing.ensures
    (sym c.choice_for.ensures ∙ ap option_copied c.in_default.is)

pub unreachable-requires-in-Value : goal.unreachable-requires-in-Value
unreachable-requires-in-Value c =
    not_value c.args.self.now c.requires.bound c.args.operand c.args.of c.requires.kind c.plan.result.now c.plan.ensures c.as_slice-standing.result.now c.as_slice-standing.ensures
    c.in-Some.choice.now (sym c.choice_for.ensures ∙ ap option_copied c.in-Some.is) c.in-Value.field c.in-Value.at c.in-Value.is

pub unreachable-requires-in-Mark : goal.unreachable-requires-in-Mark
unreachable-requires-in-Mark c =
    not_mark c.args.self.now c.requires.bound c.args.operand c.args.of c.requires.kind c.plan.result.now c.plan.ensures c.as_slice-standing.result.now c.as_slice-standing.ensures
    c.in-Some.choice.now (sym c.choice_for.ensures ∙ ap option_copied c.in-Some.is) c.in-Mark.label c.in-Mark.at c.in-Mark.is

pub returns : goal.returns
returns c =
    is_chosen c.args.self.now c.requires.bound c.args.operand c.args.of c.requires.kind c.plan.result.now c.plan.ensures c.as_slice-standing.result.now c.as_slice-standing.ensures
    c.in-Some.choice.now (sym c.choice_for.ensures ∙ ap option_copied c.in-Some.is) c.in-Choice.constructor c.in-Choice.inner c.in-Choice.arguments c.in-Choice.is c.as_slice.result c.as_slice.ensures
