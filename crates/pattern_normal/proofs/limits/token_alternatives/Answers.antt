use Rattle.std.proofs.Common.{◌≡◌, ◌≤◌, ◌^◌, subst, sym, ◌∙◌, arith, true, map, inl, inr}
use Rattle.std.proofs.Math.Pow.{pow_mono}
use Rattle.std.proofs.lemmas.Result.{IfOk-weaker}
use Rattle.sled_model.specs.Results.{has_relation}
use Rattle.token_bits.specs.Tokens.{width_of}
use Rattle.pattern_normal.specs.Alternatives.{AreLimitsOf, plain_alternative}
use Rattle.pattern_normal.proofs.Relations.{limits_of_plain, limits_beyond, IfOk-three}
use Rattle.pattern_normal.proofs.limits.token_alternatives.Goals as goal

pub returns-then-from-field : goal.returns-then-from-field
returns-then-from-field c =
    let a = c.args in let conditions = c.in_ok-conditions.conditions in
    IfOk-weaker c.plain_alternatives.result _ (AreLimitsOf a.class a.field a.relation a.limit a.at)
    (λ cs is. subst (λ z. AreLimitsOf a.class a.field a.relation a.limit a.at z) (sym is)
    (subst (λ bs. AreLimitsOf a.class a.field a.relation a.limit a.at (map plain_alternative bs)) (sym c.as_slice.ensures)
    (limits_of_plain a.class a.field a.relation a.limit a.at conditions c.in_ok-conditions.ensures.met c.in_ok-conditions.ensures.len c.in_ok-conditions.ensures.count))) c.plain_alternatives.ensures

pub returns-then-holds : goal.returns-then-holds
returns-then-holds c =
    let a = c.args in
    let holds : has_relation a.relation 0 a.limit ≡ true = sym c.holds.ensures ∙ c.if-holds.true in
    let narrow : a.class.width ≤ 32 = elim c.requires.width [ inl e ↦ omega (arith, e) | inr more ↦ elim more [ inl e ↦ omega (arith, e) | inr e ↦ omega (arith, e) ] ] in
    let fits : 2 ^ width_of a.field ≤ 4294967296 = pow_mono {i = width_of a.field} {j = 32} (omega (arith, narrow, c.requires.within)) in
    let beyond : 2 ^ width_of a.field ≤ a.limit = omega (arith, c.if-from-field.false, fits) in
    IfOk-three c.reaching.result _ _ _ (AreLimitsOf a.class a.field a.relation a.limit a.at)
    (λ cs says ends count. limits_beyond a.class a.field a.relation a.limit a.at cs beyond holds c.requires.fits says ends count)
    (rw (c.byte_count.ensures, c.new.ensures) at c.reaching.ensures.shown) (rw c.byte_count.ensures at c.reaching.ensures.ends) c.reaching.ensures.count
