-- Values of a field that are read so.
use Rattle.std.proofs.Common.{◌≡◌, Bool, true, Option, Some, None, MatchOption, ℤ, pos, neg_ℤ, ◌+ℤ◌, ◌*ℤ◌, ◌≤ℤ◌, ◌<ℤ◌, ap, sym, ◌∙◌, arith, subst}
use Rattle.std.proofs.lemmas.Int.{ints}
use Rattle.sled_model.specs.Equations.{IsBetween}
use Rattle.eq_solver.specs.Steps.{IsQuotient, IsRoot, IsOnlyRoot, IsOnlyRead, as_read}

pub below_zero : (half read y : ℤ) → y ≡ read +ℤ (half +ℤ half) → pos 0 ≤ℤ (read +ℤ half) → read <ℤ pos 0 → IsOnlyRead half true read y
below_zero half read y e p q = record {
  range = record { at_least = omega (arith, ints); below = omega (arith, ints) };
  is = grind (arith, ints);
  only = λ x r h. grind (arith, ints);
}

pub no_root : (half coefficient total read : ℤ) (signed : Bool) → IsQuotient coefficient total read → ((x : ℤ) → IsBetween (pos 0) (half +ℤ half) x → as_read signed half x ≡ read → ⊥)
    → (x : ℤ) → IsBetween (pos 0) (half +ℤ half) x → coefficient *ℤ as_read signed half x ≡ total → ⊥
no_root half coefficient total read signed q h x r e = h x r (q.only _ e)

against : (p t : ℤ) → p +ℤ t ≡ pos 0 → p ≡ neg_ℤ t
against p t e = omega (arith, ints)

back : (p t : ℤ) → p ≡ neg_ℤ t → p +ℤ t ≡ pos 0
back p t e = omega (arith, ints)

pub root_of : (half coefficient total sum read : ℤ) (signed : Bool) (o : Option ℤ) → sum ≡ neg_ℤ total → IsQuotient coefficient sum read
    → MatchOption o ((x : ℤ) → IsBetween (pos 0) (half +ℤ half) x → as_read signed half x ≡ read → ⊥) (IsOnlyRead half signed read)
    → MatchOption o ((x : ℤ) → IsRoot half signed coefficient total x → ⊥) (IsOnlyRoot half signed coefficient total)
root_of half coefficient total sum read signed None n q h = λ x r. h x r.range (q.only _ (against _ _ r.root ∙ sym n))
root_of half coefficient total sum read signed (Some y) n q h = record {
  is = record { range = h.range; root = back _ _ (ap (λ z. coefficient *ℤ z) h.is ∙ q.is ∙ n) };
  only = λ x r. h.only x r.range (q.only _ (against _ _ r.root ∙ sym n));
}

-- the same where the code has read its arguments
pub root_read : (half coefficient total sum read half' coefficient' read' : ℤ) (signed : Bool) (o : Option ℤ) → half' ≡ half → coefficient' ≡ coefficient → read' ≡ read
    → sum ≡ neg_ℤ total → IsQuotient coefficient' sum read
    → MatchOption o ((x : ℤ) → IsBetween (pos 0) (half' +ℤ half') x → as_read signed half' x ≡ read' → ⊥) (IsOnlyRead half' signed read')
    → MatchOption o ((x : ℤ) → IsRoot half signed coefficient total x → ⊥) (IsOnlyRoot half signed coefficient total)
root_read half coefficient total sum read half' coefficient' read' signed o e d f n q h =
    root_of half coefficient total sum read signed o n (subst (λ z. IsQuotient z sum read) d q)
    (subst (λ z. MatchOption o ((x : ℤ) → IsBetween (pos 0) (half +ℤ half) x → as_read signed half x ≡ z → ⊥) (IsOnlyRead half signed z)) f
    (subst (λ z. MatchOption o ((x : ℤ) → IsBetween (pos 0) (z +ℤ z) x → as_read signed z x ≡ read' → ⊥) (IsOnlyRead z signed read')) e h))
