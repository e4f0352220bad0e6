use Rattle.std.proofs.Common.{◌≡◌, ℕ, ◌+◌, List, [], ◌∷◌, ◌++◌, take, length, replicate, sym, ap, subst, ◌∙◌, arith}
use Rattle.std.proofs.lemmas.List.{take_more, length-take-le}
use Rattle.sled_model.specs.declared.statement.Arm.{Arm}
use Rattle.pattern_normal.specs.declared.case.Case.{Case}
use Rattle.arm_matching.specs.Matcher.{AreCasesOfArms}
use Rattle.arm_matching.proofs.Told.{cases_pushed}
use Rattle.arm_matching.proofs.cases.arm_cases.Goals as goal

pub loop-k-preserved : goal.loop-k-preserved
loop-k-preserved c =
    let spec = c.args.spec.now in let arms = c.args.arms.now in let k = c.loop-k.k in let arm = c.index-arms-k.result in let cases = c.in_ok-cases.cases in
    let took : take k arms ++ arm ∷ [] ≡ take (k + 1) arms = sym (take_more arms k arm (omega arith) ∙ ap (λ (x : Arm). take k arms ++ x ∷ []) (sym c.index-arms-k.is)) in
    let count = length-take-le k arms (omega arith) in
    let pushed = cases_pushed spec (take k arms) arm c.loop-k.all.arms c.loop-k.all.cases cases k (sym count) c.loop-k.invariant c.in_ok-cases.ensures in
    subst (λ (xs : List Arm). AreCasesOfArms spec xs c.push_times.new.numbers c.append.new.self) took
    (subst (λ (ks : List ℕ). AreCasesOfArms spec (take k arms ++ arm ∷ []) ks c.append.new.self) (sym (c.in_ok-push_times.ensures ∙ ap (λ (n : ℕ). c.loop-k.all.arms ++ replicate n k) c.len.ensures))
    (subst (λ (cs : List Case). AreCasesOfArms spec (take k arms ++ arm ∷ []) (c.loop-k.all.arms ++ replicate (length cases) k) cs) (sym c.in_ok-append.ensures) pushed))
