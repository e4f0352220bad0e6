-- An order of as many equations as there are has each of them.
use Rattle.std.proofs.Common.{ℕ, zero, suc, ◌≡◌, ◌≢◌, ◌<◌, ◌==◌, Bool, true, false, ◌||◌, List, [], ◌∷◌, length, Option, Some, None, All, AllPairs, refl, ap, sym, ◌∙◌, arith}
use Rattle.std.specs.Option.{option_map_or}
use Rattle.std.proofs.lemmas.List.Elements.{All-cons, All-nil}
use Rattle.std.proofs.lemmas.List.Kept.{AllPairs-cons}
use Rattle.std.proofs.lemmas.Option.{slice_get_within}
use Rattle.sled_model.specs.declared.constructor.Equation.{Equation}
use Rattle.sled_model.specs.SolvingOrder.{is_among, including, excluding, next_equation, unknown_at, order_from}
use Rattle.eq_solver.proofs.OfCells.{by_test, same_number, tests_same, other_number, AreApart}
use Rattle.eq_solver.proofs.Numbers.{first_is}
use Rattle.eq_solver.proofs.Few.{few_below}

-- ---- the numbers of an order

pub record AreFresh (es : List Equation) (done : ℕ → Bool) (ks : List ℕ) : Type 0 where
  pub within : All (λ k. k < length es) ks
  pub fresh : (j : ℕ) → is_among ks j ≡ true → done j ≡ false
  pub apart : AreApart ks

never : {A : Type 0} (b : Bool) → b ≡ true → b ≡ false → A
never true h k = cc
never false h k = cc

not_true : (b : Bool) → (b ≡ true → ⊥) → b ≡ false
not_true true h = absurd (h refl)
not_true false h = refl

either_fresh : (done : ℕ → Bool) (k j : ℕ) (ks : List ℕ) (b : Bool) → (k == j) ≡ b → done k ≡ false → (is_among ks j ≡ true → done j ≡ false) → (b || is_among ks j) ≡ true → done j ≡ false
either_fresh done k j ks true e d rec h = ap done (sym (same_number k j e)) ∙ d
either_fresh done k j ks false e d rec h = rec h

first_of_or : (a b : Bool) → (a || b) ≡ false → a ≡ false
first_of_or true b h = h
first_of_or false b h = refl

last_of_or : (a b : Bool) → (a || b) ≡ false → b ≡ false
last_of_or true b h = cc
last_of_or false b h = h

fresh_if : (n : ℕ) (es : List Equation) (done u : ℕ → Bool) → ((done' u' : ℕ → Bool) → AreFresh es done' (order_from n es done' u')) → (o : Option ℕ) → next_equation done u 0 es ≡ o
    → AreFresh es done (option_map_or (λ k. k ∷ order_from n es (including done k) (excluding u (unknown_at es u k))) o [])
fresh_if n es done u rec None q = record { within = All-nil (λ k. k < length es); fresh = λ j h. cc; apart = tt }
fresh_if n es done u rec (Some k) q =
    let f = first_is u done es k q in
    let ks = order_from n es (including done k) (excluding u (unknown_at es u k)) in
    let r = rec (including done k) (excluding u (unknown_at es u k)) in
    record {
      within = All-cons (λ k. k < length es) k ks (slice_get_within es k f.equation f.is_there) r.within;
      fresh = λ j h. either_fresh done k j ks (k == j) refl f.fresh (λ m. first_of_or (done j) (j == k) (r.fresh j m)) h;
      apart = (not_true (is_among ks k) (λ m. never (k == k) (tests_same k) (last_of_or (done k) (k == k) (r.fresh k m))), r.apart);
    }

pub order_fresh : (n : ℕ) (es : List Equation) (done u : ℕ → Bool) → AreFresh es done (order_from n es done u)
order_fresh zero es done u = record { within = All-nil (λ k. k < length es); fresh = λ j h. cc; apart = tt }
order_fresh (suc n) es done u = fresh_if n es done u (order_fresh n es) (next_equation done u 0 es) refl

-- ---- all of them

differ : (k : ℕ) (ks : List ℕ) → is_among ks k ≡ false → All (λ j. k ≢ j) ks
differ k [] h = All-nil (λ j. k ≢ j)
differ k (j ∷ ks) h = All-cons (λ j. k ≢ j) j ks (λ e. other_number j k (first_of_or (j == k) (is_among ks k) h) (sym e)) (differ k ks (last_of_or (j == k) (is_among ks k) h))

pairs_of : (ks : List ℕ) → AreApart ks → AllPairs (λ i j. i ≢ j) ks
pairs_of [] a = λ i j d l m. absurd (omega arith)
pairs_of (k ∷ ks) a = AllPairs-cons (λ i j. i ≢ j) k ks (differ k ks a.0) (pairs_of ks a.1)

pub all_there : (ks : List ℕ) (n k : ℕ) → AreApart ks → All (λ j. j < n) ks → length ks ≡ n → k < n → is_among ks k ≡ true
all_there ks n k a w l below = by_test (is_among ks k) (λ e. e)
    (λ e. let m = few_below (k ∷ ks) n (All-cons (λ j. j < n) k ks below w) (pairs_of (k ∷ ks) (e, a)) in absurd (omega (arith, m, l)))
