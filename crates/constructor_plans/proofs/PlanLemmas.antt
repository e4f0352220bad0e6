-- Plans of the first constructors.
use Rattle.std.proofs.Common.{◌≡◌, ℕ, zero, suc, ◌+◌, ◌<◌, ◌≤◌, inl, inr, Bool, true, false, List, [], ◌∷◌, length, take, get_or, All, Option, Some, None, refl, sym, ap, ◌∙◌, subst, arith}
use Rattle.std.proofs.lemmas.List.Elements.{All-more}
use Rattle.token_bits.specs.declared.tokens.Tokens.{Tokens}
use Rattle.sled_model.specs.declared.constructor.Constructor.{Constructor}
use Rattle.sled_model.specs.SolvingOrder.{IsDetermined}
use Rattle.sled_model.specs.Solved.{IsSolved}
use Rattle.constructor_plans.specs.Plans.{IsPlanUnmet, ArePlansUnmet}

-- the first i constructors are determined, and all of them are solved, or not all of all are
pub record ArePlansUpTo (tokens : Tokens) (cs : List Constructor) (i : ℕ) (partial : Bool) : Type 0 where
  pub determined : All IsDetermined (take i cs)
  pub solved : partial ≡ false → All (IsSolved tokens) (take i cs)
  pub unsolved : partial ≡ true → All (IsSolved tokens) cs → ⊥

-- one constructor more that lacks nothing
pub more_met : (tokens : Tokens) (cs : List Constructor) (i : ℕ) (partial next : Bool) (x : Constructor) (o : Option ℕ) → i < length cs → x ≡ get_or cs i x → ArePlansUpTo tokens cs i partial
    → IsPlanUnmet tokens x o → o ≡ None → next ≡ partial → ArePlansUpTo tokens cs (i + 1) next
more_met tokens cs i partial next x o within at was is none same =
    let met : IsPlanUnmet tokens x None = subst (IsPlanUnmet tokens x) none is in
    record {
      determined = All-more IsDetermined cs i x within was.determined (subst IsDetermined at met.0);
      solved = λ e. All-more (IsSolved tokens) cs i x within (was.solved (sym same ∙ e)) (subst (IsSolved tokens) at met.1);
      unsolved = λ e. was.unsolved (sym same ∙ e);
    }

-- one more that is not solved
pub more_partial : (tokens : Tokens) (cs : List Constructor) (i : ℕ) (partial next : Bool) (x : Constructor) (o : Option ℕ) → i < length cs → x ≡ get_or cs i x → ArePlansUpTo tokens cs i partial
    → IsPlanUnmet tokens x o → o ≡ Some 13 → next ≡ true → ArePlansUpTo tokens cs (i + 1) next
more_partial tokens cs i partial next x o within at was is some same = by_case (subst (IsPlanUnmet tokens x) some is) where
  by_case : IsPlanUnmet tokens x (Some 13) → ArePlansUpTo tokens cs (i + 1) next
  by_case (inl h) = let number = h.0 in absurd (omega arith)
  by_case (inr h) = record {
    determined = All-more IsDetermined cs i x within was.determined (subst IsDetermined at h.1);
    solved = λ e. cc;
    unsolved = λ e all. h.2 (subst (IsSolved tokens) (sym at) (all i x within));
  }

whole : {A : Type 0} (xs : List A) (i : ℕ) → length xs ≤ i → take i xs ≡ xs
whole [] zero h = refl
whole [] (suc i) h = refl
whole (x ∷ xs) zero h = absurd (omega arith)
whole (x ∷ xs) (suc i) h = ap (λ ys. x ∷ ys) (whole xs i (omega arith))

-- at the end
pub at_end_partial : (tokens : Tokens) (cs : List Constructor) (i : ℕ) (partial : Bool) → length cs ≤ i → ArePlansUpTo tokens cs i partial → partial ≡ true → ArePlansUnmet tokens cs (Some 13)
at_end_partial tokens cs i partial end was is = inr (refl, subst (All IsDetermined) (whole cs i end) was.determined, was.unsolved is)

pub at_end_met : (tokens : Tokens) (cs : List Constructor) (i : ℕ) (partial : Bool) → length cs ≤ i → ArePlansUpTo tokens cs i partial → partial ≡ false → ArePlansUnmet tokens cs None
at_end_met tokens cs i partial end was is = (subst (All IsDetermined) (whole cs i end) was.determined, subst (All (IsSolved tokens)) (whole cs i end) (was.solved is))
