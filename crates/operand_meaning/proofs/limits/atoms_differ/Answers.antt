use Rattle.std.proofs.Common.{◌+◌, map, drop, sym, ap, ◌∙◌}
use Rattle.std.specs.Prelude.{not, ◌&&◌}
use Rattle.std.proofs.lemmas.List.Folds.{list_all-map}
use Rattle.operand_meaning.specs.Limits as of
use Rattle.operand_meaning.specs.Terms.{is_term_in_range}
use Rattle.operand_meaning.proofs.ListFacts.{all_at, drop_behind}
use Rattle.operand_meaning.proofs.limits.atoms_differ.Goals as goal

pub stands_behind-requires-clause-term : goal.stands_behind-requires-clause-term
stands_behind-requires-clause-term c =
    let ts = c.args.terms.now in
    all_at (λ x. is_term_in_range x.now) ts c.loop-i.i c.index-terms-i.result c.loop-i-test.true c.index-terms-i.is (sym (list_all-map is_term_in_range (λ x. x.now) ts) ∙ c.requires)

pub returns-then-stands_behind : goal.returns-then-stands_behind
returns-then-stands_behind c =
    let ts = c.args.terms.now in let i = c.loop-i.i in
    let rest = of.atoms_differ (drop (i + 1) (map (λ x. x.now) ts)) in
    sym (ap of.atoms_differ (drop_behind (λ x. x.now) ts i c.index-terms-i.result c.loop-i-test.true c.index-terms-i.is) ∙ ap (λ t. not t && rest) (sym c.stands_behind.ensures ∙ c.if-stands_behind.true))
    ∙ c.loop-i.invariant

pub loop-i-preserved : goal.loop-i-preserved
loop-i-preserved c =
    let ts = c.args.terms.now in let i = c.loop-i.i in
    let rest = of.atoms_differ (drop (i + 1) (map (λ x. x.now) ts)) in
    sym (ap of.atoms_differ (drop_behind (λ x. x.now) ts i c.index-terms-i.result c.loop-i-test.true c.index-terms-i.is) ∙ ap (λ t. not t && rest) (sym c.stands_behind.ensures ∙ c.if-stands_behind.false))
    ∙ c.loop-i.invariant
