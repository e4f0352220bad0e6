use Rattle.std.proofs.Common.{◌≡◌, ◌≢◌, ◌+◌, ◌^◌, ℕ, List, arith, sym, ◌∙◌, ap, subst}
use Rattle.sled_base.specs.Names.{fault_count}
use Rattle.sled_base.proofs.shelf.fail.Goals as goal

pub returns-clause-failed : goal.returns-clause-failed
returns-clause-failed c _ =
    let count = fault_count c.keep.new.self in
    let one_more = subst (λ (n : List ℕ). count n ≡ fault_count c.prepare.new.self n + 1) c.in-Ok.ensures.copy c.keep.ensures.counted in
    let same = c.prepare.ensures.same c.args.name.now in
    omega (arith, one_more, same)

pub returns-clause-counted : goal.returns-clause-counted
returns-clause-counted c _ =
    let count = fault_count c.keep.new.self in
    let one_more = subst (λ (n : List ℕ). count n ≡ fault_count c.prepare.new.self n + 1) c.in-Ok.ensures.copy c.keep.ensures.counted in
    let same = c.prepare.ensures.same c.args.name.now in
    omega (arith, one_more, same)

pub returns-clause-later : goal.returns-clause-later
returns-clause-later c any = omega (arith, c.prepare.ensures.same any, c.keep.ensures.later any)

pub returns-clause-others : goal.returns-clause-others
returns-clause-others c other ne = c.keep.ensures.others other (λ e. ne (e ∙ c.in-Ok.ensures.copy)) ∙ c.prepare.ensures.same other
