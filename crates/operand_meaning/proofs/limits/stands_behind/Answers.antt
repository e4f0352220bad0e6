use Rattle.std.proofs.Common.{◌+◌, map, drop, sym, ap, ◌∙◌}
use Rattle.std.specs.Prelude.{◌||◌}
use Rattle.std.specs.List.{list_any}
use Rattle.std.proofs.lemmas.List.Folds.{list_all-map}
use Rattle.operand_meaning.specs.Limits as of
use Rattle.operand_meaning.specs.Terms.{is_term_in_range}
use Rattle.operand_meaning.proofs.ListFacts.{all_at, drop_behind}
use Rattle.operand_meaning.proofs.limits.stands_behind.Goals as goal

pub same_atom-requires-clause-other : goal.same_atom-requires-clause-other
same_atom-requires-clause-other c =
    let ts = c.args.terms.now in
    all_at (λ x. is_term_in_range x.now) ts c.loop-i.i c.index-terms-i.result c.loop-i-test.true c.index-terms-i.is (sym (list_all-map is_term_in_range (λ x. x.now) ts) ∙ c.requires.terms)

pub returns-then-same_atom : goal.returns-then-same_atom
returns-then-same_atom c =
    let ts = c.args.terms.now in let i = c.loop-i.i in let same = of.same_atom c.args.term.now in
    let rest = list_any same (drop (i + 1) (map (λ x. x.now) ts)) in
    sym (ap (list_any same) (drop_behind (λ x. x.now) ts i c.index-terms-i.result c.loop-i-test.true c.index-terms-i.is) ∙ ap (λ t. t || rest) (sym c.same_atom.ensures ∙ c.if-same_atom.true))
    ∙ c.loop-i.invariant

pub loop-i-preserved : goal.loop-i-preserved
loop-i-preserved c =
    let ts = c.args.terms.now in let i = c.loop-i.i in let same = of.same_atom c.args.term.now in
    let rest = list_any same (drop (i + 1) (map (λ x. x.now) ts)) in
    sym (ap (list_any same) (drop_behind (λ x. x.now) ts i c.index-terms-i.result c.loop-i-test.true c.index-terms-i.is) ∙ ap (λ t. t || rest) (sym c.same_atom.ensures ∙ c.if-same_atom.false))
    ∙ c.loop-i.invariant
