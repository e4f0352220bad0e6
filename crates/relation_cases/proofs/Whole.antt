-- The blocks of all values, of one value, and of the values up to a limit or from one on.
use Rattle.std.proofs.Common.{◌≡◌, ℕ, ◌+◌, ◌-◌, ◌*◌, ◌/◌, ◌^◌, ◌<◌, List, [], ◌∷◌, Bool, true, false, cond, nat_eq, nat_lt, nat_le, refl, sym, ap, ◌∙◌, subst, arith, count_ones}
use Rattle.std.specs.List.{All}
use Rattle.std.specs.Int.Count.{ones}
use Rattle.std.proofs.Math.Nat.{div-eq_of_lt}
use Rattle.std.proofs.lemmas.Bool.{eq-eqb, le-leb}
use Rattle.std.proofs.lemmas.Bool.Decides.{nat_tests}
use Rattle.std.proofs.lemmas.List.Elements.{All-push}
use Rattle.std.proofs.lemmas.Nat.{pow_pos}
use Rattle.sled_model.specs.declared.pattern.Relation.TheVariants.{Equal, Below, AtMost, AtLeast}
use Rattle.relation_cases.specs.declared.blocks.Block.{Block}
use Rattle.relation_cases.specs.Blocks.{IsBlock, AreBlocksOf}
use Rattle.relation_cases.proofs.Numbers.{ones_more}

one_all : (w : ℕ) (block : Block) → IsBlock w block → All (IsBlock w) (block ∷ [])
one_all w block h = All-push (IsBlock w) [] block (λ k d l. absurd (omega arith)) h

whole_block : (w : ℕ) → IsBlock w (record { top = 0; free = w })
whole_block w = record { free = omega arith; top = pow_pos (w - w) }

in_whole : (w v : ℕ) → v < 2 ^ w → 0 + cond (nat_eq (v / 2 ^ w) 0) 1 0 ≡ 1
in_whole w v l = ap (λ b. 0 + cond b 1 0) (eq-eqb (v / 2 ^ w) 0 (div-eq_of_lt l))

ones_pow : (w : ℕ) → count_ones (2 ^ w) ≡ 1
unfolding ones
ones_pow w = let e : 2 ^ w ≡ 1 * 2 ^ w + 0 = omega arith in ap count_ones e ∙ ones_more 1 w 0 (omega arith) (pow_pos w)

-- all values are at most the last
pub at_most_last : (w c : ℕ) → c + 1 ≡ 2 ^ w → AreBlocksOf AtMost w c (record { top = 0; free = w } ∷ [])
at_most_last w c e = record {
  once = λ v l. in_whole w v l ∙ sym (ap (λ b. cond b 1 0) (le-leb v c (omega arith)));
  count = sym (ap count_ones e ∙ ones_pow w);
  all = one_all w (record { top = 0; free = w }) (whole_block w);
}

-- all values are at least 0
pub at_least_first : (w c : ℕ) → c ≡ 0 → AreBlocksOf AtLeast w c (record { top = 0; free = w } ∷ [])
at_least_first w c e =
    let whole_range : 2 ^ w - c ≡ 2 ^ w = omega arith in record {
      once = λ v l. in_whole w v l ∙ sym (ap (λ b. cond b 1 0) (le-leb c v (omega arith)));
      count = sym (ap count_ones whole_range ∙ ones_pow w);
      all = one_all w (record { top = 0; free = w }) (whole_block w);
    }

-- what is below the next is at most this
pub at_most_from : (w c : ℕ) (blocks : List Block) → AreBlocksOf Below w (c + 1) blocks → AreBlocksOf AtMost w c blocks
at_most_from w c blocks h = record { once = λ v l. h.once v l ∙ ap (λ b. cond b 1 0) (next_below v c); count = h.count; all = h.all }
  where
    next_below : (v c : ℕ) → nat_lt v (c + 1) ≡ nat_le v c
    next_below v c = grind (arith, nat_tests)

pub one_value : (w c : ℕ) → c < 2 ^ w → AreBlocksOf Equal w c (record { top = c; free = 0 } ∷ [])
one_value w c h = record {
  once = λ v l. ap (λ n. 0 + cond (nat_eq n c) 1 0) (one_each v) ∙ counted (nat_eq v c);
  count = refl;
  all = one_all w (record { top = c; free = 0 }) (record { free = omega arith; top = let P : ℕ → Type 0 = λ k. c < 2 ^ k in subst P (less_none w) h });
}
  where
    less_none : (w : ℕ) → w ≡ w - 0
    less_none w = omega arith

    one_each : (v : ℕ) → v / 2 ^ 0 ≡ v
    one_each v = omega arith

    counted : (b : Bool) → 0 + cond b 1 0 ≡ cond {A = ℕ} b 1 0
    counted true = refl
    counted false = refl
