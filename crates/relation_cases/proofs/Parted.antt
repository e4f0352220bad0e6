-- The blocks of the values that differ from the limit first in some bit.
use Rattle.std.proofs.Common.{◌≡◌, ℕ, ◌+◌, ◌-◌, ◌*◌, ◌/◌, ◌%◌, ◌^◌, ◌<◌, zero, suc, List, [], ◌∷◌, ◌++◌, length, Bool, true, false, cond, ◌&&◌, nat_eq, nat_lt, refl, sym, ap, ◌∙◌, subst, arith, bit_xor, count_ones}
use Rattle.std.specs.Prelude.{◌==◌}
use Rattle.std.specs.List.{count_by, All}
use Rattle.std.proofs.Math.Nat.{div-eq_of_lt, mod-eq_of_lt}
use Rattle.std.proofs.lemmas.Bool.{eq-eqb}
use Rattle.std.proofs.lemmas.Bool.Decides.{nat_tests}
use Rattle.std.proofs.lemmas.Nat.{pow_pos, mod_below, pow-add, pow_below, xor_lt, shr_below}
use Rattle.std.proofs.lemmas.List.{length-append}
use Rattle.std.proofs.lemmas.List.Elements.{All-append, All-push}
use Rattle.sled_model.specs.declared.pattern.Relation.{Relation}
use Rattle.sled_model.specs.declared.pattern.Relation.TheVariants.{Equal, Differs, Below, AtMost, Above, AtLeast}
use Rattle.sled_model.specs.Results.{has_relation}
use Rattle.sled_model.specs.Measures.{limit_weight}
use Rattle.relation_cases.specs.declared.blocks.Block.{Block}
use Rattle.relation_cases.specs.Blocks.{is_in, IsBlock, IsStrict, parting, parted, AreBlocksOf}
use Rattle.relation_cases.proofs.Numbers.{count_by-append, xor_one, next_shift, next_low, ones_more, Parts, parts}

-- the blocks for the lowest i bits: their values have the limit's bits from i on
pub record IsParted (relation : Relation) (width limit i : ℕ) (blocks : List Block) : Type 0 where
  pub once : (value : ℕ) → value < 2 ^ width
      → count_by (λ block. is_in value block) blocks ≡ cond ((value / 2 ^ i == limit / 2 ^ i) && has_relation relation value limit) 1 0
  pub count : length blocks ≡ limit_weight i relation (limit % 2 ^ i)
  pub all : All (IsBlock width) blocks

-- a value that agrees from the next bit on agrees from this bit on, or differs first in it
once_next : (r : Relation) → IsStrict r → (v c x y f : ℕ) → Parts v c x y → f ≡ y / 2 * 2 + (1 - y % 2)
    → cond (nat_eq x y && has_relation r v c) 1 0 + cond (has_relation r f y) (cond (nat_eq x f) 1 0) 0 ≡ cond {A = ℕ} (nat_eq (x / 2) (y / 2) && has_relation r v c) 1 0
once_next Differs s v c x y f p e = let a = p.below in let b = p.above in let d = p.same in grind (arith, nat_tests)
once_next Below s v c x y f p e = let a = p.below in let b = p.below_from in grind (arith, nat_tests)
once_next Above s v c x y f p e = let a = p.above in let b = p.above_from in grind (arith, nat_tests)
once_next Equal s v c x y f p e = absurd s
once_next AtMost s v c x y f p e = absurd s
once_next AtLeast s v c x y f p e = absurd s

one_parted : (v c i : ℕ) (b : Bool) → count_by (λ block. is_in v block) (cond b (parting c i ∷ []) []) ≡ cond b (cond (nat_eq (v / 2 ^ i) (parting c i).top) 1 0) 0
one_parted v c i true = once_counted (nat_eq (v / 2 ^ i) (bit_xor (c / 2 ^ i) 1))
  where
    once_counted : (b : Bool) → 0 + cond b 1 0 ≡ cond {A = ℕ} b 1 0
    once_counted true = refl
    once_counted false = refl
one_parted v c i false = refl

other_half : (r p n : ℕ) → r < 2 → n < p → 2 * p - 1 - (r * p + n) ≡ (1 - r) * p + (p - 1 - n)
other_half zero p n h l = omega arith
other_half (suc zero) p n h l = omega arith
other_half (suc (suc r)) p n h l = absurd (omega arith)

-- as many blocks as the relation has of the bits so far
count_next : (r : Relation) → IsStrict r → (y f i n : ℕ) → n < 2 ^ i → f ≡ y / 2 * 2 + (1 - y % 2)
    → limit_weight i r n + cond (has_relation r f y) 1 0 ≡ limit_weight (i + 1) r (y % 2 * 2 ^ i + n)
count_next Differs s y f i n l e = grind (arith, nat_tests)
count_next Below s y f i n l e =
    let t : cond (nat_lt f y) 1 0 ≡ y % 2 = grind (arith, nat_tests) in
    omega (arith, ones_more (y % 2) i n (omega arith) l)
count_next Above s y f i n l e =
    let t : cond (nat_lt y f) 1 0 ≡ 1 - y % 2 = grind (arith, nat_tests) in
    let p : 2 ^ (i + 1) ≡ 2 * 2 ^ i = omega (arith, pow-add 2 i 1) in
    let k : 2 ^ (i + 1) - 1 - (y % 2 * 2 ^ i + n) ≡ (1 - y % 2) * 2 ^ i + (2 ^ i - 1 - n) = ap (λ x. x - 1 - (y % 2 * 2 ^ i + n)) p ∙ other_half (y % 2) (2 ^ i) n (omega arith) l in
    omega (arith, ones_more (1 - y % 2) i (2 ^ i - 1 - n) (omega arith) (omega arith), ap count_ones k)
count_next Equal s y f i n l e = absurd s
count_next AtMost s y f i n l e = absurd s
count_next AtLeast s y f i n l e = absurd s

parted_length : (c i : ℕ) (b : Bool) → length (cond b (parting c i ∷ []) []) ≡ cond b 1 0
parted_length c i true = refl
parted_length c i false = refl

parting_fits : (c i w : ℕ) → c < 2 ^ w → i < w → IsBlock w (parting c i)
parting_fits c i w h l =
    let w_is : w ≡ w - i + i = omega arith in
    record {
      free = omega arith;
      top = xor_lt (w - i) (c / 2 ^ i) 1 (shr_below c (w - i) i (let P : ℕ → Type 0 = λ k. c < 2 ^ k in subst P w_is h)) (pow_below 0 (w - i) (omega arith));
    }

parted_all : (c i w : ℕ) → IsBlock w (parting c i) → (b : Bool) → All (IsBlock w) (cond b (parting c i ∷ []) [])
parted_all c i w h true = All-push (IsBlock w) [] (parting c i) (λ k d l. absurd (omega arith)) h
parted_all c i w h false = λ k d l. absurd (omega arith)

-- one more bit
pub parted_next : (r : Relation) → IsStrict r → (w c i : ℕ) (blocks : List Block) → c < 2 ^ w → i < w → IsParted r w c i blocks → IsParted r w c (i + 1) (blocks ++ parted r c i)
parted_next r s w c i blocks below within h =
    let y = c / 2 ^ i in let f = bit_xor y 1 in let b = has_relation r f y in record {
      once = λ v l. count_by-append (λ block. is_in v block) blocks (parted r c i) ∙ ap (λ n. n + count_by (λ block. is_in v block) (parted r c i)) (h.once v l)
          ∙ ap (λ n. cond (nat_eq (v / 2 ^ i) y && has_relation r v c) 1 0 + n) (one_parted v c i b)
          ∙ once_next r s v c (v / 2 ^ i) y f (parts v c i) (xor_one y)
          ∙ sym (ap (λ x. cond (nat_eq x (c / 2 ^ (i + 1)) && has_relation r v c) 1 0) (next_shift v i) ∙ ap (λ x. cond (nat_eq (v / 2 ^ i / 2) x && has_relation r v c) 1 0) (next_shift c i));
      count = length-append blocks (parted r c i) ∙ ap (λ n. n + length (parted r c i)) h.count ∙ ap (λ n. limit_weight i r (c % 2 ^ i) + n) (parted_length c i b)
          ∙ count_next r s y f i (c % 2 ^ i) (mod_below c (2 ^ i) (pow_pos i)) (xor_one y) ∙ ap (limit_weight (i + 1) r) (sym (next_low c i));
      all = All-append (IsBlock w) blocks (parted r c i) h.all (parted_all c i w (parting_fits c i w below within) b);
    }

-- all of the bits
pub parted_all_bits : (r : Relation) (w c i : ℕ) (blocks : List Block) → c < 2 ^ w → i ≡ w → IsParted r w c i blocks → AreBlocksOf r w c blocks
parted_all_bits r w c i blocks below end h =
    let P : ℕ → ℕ → Type 0 = λ n k. n < 2 ^ k in
    let small : c < 2 ^ i = subst (P c) (sym end) below in record {
      once = λ v l. h.once v l ∙ ap (λ b. cond (b && has_relation r v c) 1 0) (eq-eqb (v / 2 ^ i) (c / 2 ^ i) (div-eq_of_lt (subst (P v) (sym end) l) ∙ sym (div-eq_of_lt small)));
      count = h.count ∙ ap (λ k. limit_weight k r (c % 2 ^ i)) end ∙ ap (limit_weight w r) (mod-eq_of_lt small);
      all = h.all;
    }
