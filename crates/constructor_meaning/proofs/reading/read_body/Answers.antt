use Rattle.std.proofs.Common.{None, Some, ap, ◌∙◌}
use Rattle.constructor_scopes.specs.Bodies.{with_operands}
use Rattle.tree_meaning.specs.Scopes.{declared_in}
use Rattle.constructor_meaning.specs.Conditions.{body_scope}
use Rattle.constructor_meaning.specs.Constructing.{constructing}
use Rattle.constructor_meaning.proofs.ReadLemmas.{same_unmet}
use Rattle.constructor_meaning.proofs.reading.read_body.Goals as goal

pub returns-in-Some-clause-unmet : goal.returns-in-Some-clause-unmet
returns-in-Some-clause-unmet c =
    same_unmet c.args.spec.now.tokens c.args.tree.now.body.now (body_scope (declared_in c.args.scope.now) (constructing c.args.tree.now)) (declared_in c.enter_operands.new.scope)
    c.unmet_parts.result (Some c.in-Some.condition) (c.in_ok-enter_operands.ensures ∙ ap (with_operands (declared_in c.args.scope.now)) c.as_slice.ensures) c.unmet_parts.ensures c.in-Some.is

pub returns-clause-met : goal.returns-clause-met
returns-clause-met c =
    same_unmet c.args.spec.now.tokens c.args.tree.now.body.now (body_scope (declared_in c.args.scope.now) (constructing c.args.tree.now)) (declared_in c.enter_operands.new.scope)
    c.unmet_parts.result None (c.in_ok-enter_operands.ensures ∙ ap (with_operands (declared_in c.args.scope.now)) c.as_slice.ensures) c.unmet_parts.ensures c.in_default.is
