use Rattle.std.proofs.Common.{◌≡◌, ℕ, ◌<◌, List, length, slice_get, slice_index_or, Some, refl, ap, sym, subst, ◌∙◌, arith}
use Rattle.std.specs.Option.{option_map}
use Rattle.std.proofs.lemmas.Option.{slice_get-get_or, slice_get_read}
use Rattle.pattern_normal.specs.Alternatives.{IsBytes}
use Rattle.pattern_normal.specs.declared.case.Case.{Case}
use Rattle.arm_matching.specs.Matcher.{result_told}
use Rattle.arm_matching.proofs.Told.{none_first, some_first}
use Rattle.arm_matching.proofs.matcher.Matcher.first_result.Goals as goal

pub returns-in_err-at-clause-first : goal.returns-in_err-at-clause-first
returns-in_err-at-clause-first c =
    let m = c.args.self.now in let w = c.args.window.now.window.now in
    ap (option_map (result_told m.spec.now.tokens w)) c.from_residual.ensures
    ∙ none_first m.spec.now m.statement.now m.arms m.cases w c.requires.cases (subst IsBytes c.window.ensures c.are_bytes.ensures) c.in_err-at.ensures.first

pub returns-clause-first : goal.returns-clause-first
returns-clause-first c =
    let m = c.args.self.now in let w = c.args.window.now.window.now in let at = c.in_ok-at.at in let case = c.index-as_slice-at.result in
    let one : length c.as_slice.result.now ≡ length m.cases = ap (length {A = Case}) c.as_slice.ensures in
    let two : length c.as_slice-2.result.now ≡ length m.arms = ap (length {A = ℕ}) c.as_slice-2.ensures in
    let within = c.in_ok-at.ensures.within in
    let number = ap (λ (xs : List ℕ). slice_get xs at) (sym c.as_slice-2.ensures) ∙ slice_get-get_or c.as_slice-2.result.now at 0 (omega (arith, two, within, c.requires.cases.beside)) in
    let is = ap (λ (xs : List Case). slice_get xs at) (sym c.as_slice.ensures) ∙ slice_get_read c.as_slice.result.now (length c.as_slice.result.now) at case refl (omega (arith, one, within)) c.index-as_slice-at.is in
    some_first m.spec.now m.statement.now m.arms m.cases w c.requires.cases (subst IsBytes c.window.ensures c.are_bytes.ensures) at (slice_index_or c.as_slice-2.result.now at 0) case c.in_ok-at.ensures.first number is
