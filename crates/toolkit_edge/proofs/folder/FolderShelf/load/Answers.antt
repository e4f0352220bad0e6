use Rattle.std.proofs.Common.{◌≡◌, ◌+◌, ℕ, List, arith, ◌∙◌, subst}
use Rattle.sled_base.specs.Names.{fault_count}
use Rattle.toolkit_edge.proofs.folder.FolderShelf.load.Goals as goal

pub returns-in-Err-Unread-clause-failed : goal.returns-in-Err-Unread-clause-failed
returns-in-Err-Unread-clause-failed g c _ =
    let count = fault_count c.keep.new.self in
    let one_more = subst (λ (n : List ℕ). count n ≡ fault_count c.prepare.new.self n + 1) c.in-Ok.ensures.copy c.keep.ensures.counted in
    let same = c.prepare.ensures.same c.args.name.now in
    omega (arith, one_more, same)

pub returns-in-Err-Unread-clause-counted : goal.returns-in-Err-Unread-clause-counted
returns-in-Err-Unread-clause-counted g c _ =
    let count = fault_count c.keep.new.self in
    let one_more = subst (λ (n : List ℕ). count n ≡ fault_count c.prepare.new.self n + 1) c.in-Ok.ensures.copy c.keep.ensures.counted in
    let same = c.prepare.ensures.same c.args.name.now in
    omega (arith, one_more, same)

pub returns-in-Err-Unread-clause-later : goal.returns-in-Err-Unread-clause-later
returns-in-Err-Unread-clause-later g c any = omega (arith, c.prepare.ensures.same any, c.keep.ensures.later any)

pub returns-in-Err-Unread-clause-others : goal.returns-in-Err-Unread-clause-others
returns-in-Err-Unread-clause-others g c other ne = c.keep.ensures.others other (λ e. ne (e ∙ c.in-Ok.ensures.copy)) ∙ c.prepare.ensures.same other
