-- Slices of an operand, one below the other.
use Rattle.std.proofs.Common.{ℕ, zero, suc, ◌+◌, ◌-◌, ◌≡◌, ◌≢◌, ◌==◌, ◌<◌, ◌≤◌, ◌⊎◌, inl, inr, Bool, true, false, cond, List, [], ◌∷◌, ◌++◌, length, filter, All, slice_get, Some, None, Option, append_assoc, refl, ap, sym, ◌∙◌, arith, subst}
use Rattle.std.proofs.lemmas.Bool.Decides.{nat_tests}
use Rattle.std.proofs.lemmas.Bool.{cases_eq}
use Rattle.std.proofs.lemmas.Option.{slice_get_within}
use Rattle.std.proofs.lemmas.List.Elements.{All-append, All-push, filter-append}
use Rattle.std.proofs.lemmas.List.{append-nil}
use Rattle.std.specs.Option.{option_map_or}
use Rattle.sled_model.specs.declared.constructor.Atom.{Atom}
use Rattle.sled_model.specs.declared.constructor.Atom.TheVariants.{Name, Field, Signed, Slice, Label}
use Rattle.sled_model.specs.declared.constructor.OperandKind.{OperandKind}
use Rattle.sled_model.specs.declared.constructor.OperandKind.TheVariants.{Plain, Extended, Typed, Whole, Sliced}
use Rattle.sled_model.specs.Solved.{is_bit_of}
use Rattle.eq_solver.specs.Ranges.{IsInOrder}
use Rattle.eq_solver.specs.Values.{IsHeldBy, is_ending, is_slice_of, low_of, IsFound, IsChain, is_slice_number, AddsSlices, AreSlices}
use Rattle.eq_solver.proofs.Held.{IsBoundary, order_at, ends_there, ending_low, ending_below}

-- the chain that stands at the end, down to bit `top`
pub record IsChainSoFar (targets : List Atom) (k : ℕ) (old new : List ℕ) (top : ℕ) : Type 0 where
  pub added : List ℕ
  pub appended : new ≡ old ++ added
  pub chain : IsChain targets k 32 top added
  pub own : All (λ (n : ℕ). is_slice_number targets k n ≡ true) added
  pub most : top ≤ 32
  pub boundary : IsBoundary targets k top

chain_more : (targets : List Atom) (k top mid : ℕ) (ns : List ℕ) (n : ℕ) (a : Atom) → IsChain targets k top mid ns → slice_get targets n ≡ Some a → is_ending k mid a ≡ true → IsChain targets k top (low_of a) (ns ++ n ∷ [])
chain_more targets k top mid [] n a c e h = (a, e, ap (λ t. is_ending k t a) c ∙ h, refl)
chain_more targets k top mid (m ∷ ns) n a c e h = (c.0, c.1, c.2, chain_more targets k (low_of c.0) mid ns n a c.3 e h)

ending_slice : (k top : ℕ) (a : Atom) → is_ending k top a ≡ true → is_slice_of k a ≡ true
ending_slice k top (Slice j lo hi) h = grind (arith, nat_tests)
ending_slice k top (Name j) h = cc
ending_slice k top (Field f) h = cc
ending_slice k top (Signed f) h = cc
ending_slice k top (Label l) h = cc

pub chain_starts : (targets : List Atom) (k : ℕ) (old new : List ℕ) (top : ℕ) → new ≡ old → top ≡ 32 → IsChainSoFar targets k old new top
chain_starts targets k old new top e t = record { added = []; appended = e ∙ sym (append-nil old); chain = sym t; own = λ i d l. absurd (omega arith); most = omega arith; boundary = inl t }

pub chain_goes_on : (targets : List Atom) (k : ℕ) (old new new' : List ℕ) (top top' n : ℕ) (a : Atom) → All IsInOrder targets → IsChainSoFar targets k old new top → slice_get targets n ≡ Some a → is_ending k top a ≡ true
    → new' ≡ new ++ n ∷ [] → top' ≡ low_of a → IsChainSoFar targets k old new' top'
chain_goes_on targets k old new new' top top' n a o c e h p t =
    let order = order_at targets n a o e in
    let below = ending_below k top a order h in
    record {
      added = c.added ++ n ∷ [];
      appended = p ∙ ap (λ xs. xs ++ n ∷ []) c.appended ∙ append_assoc old c.added (n ∷ []);
      chain = subst (λ z. IsChain targets k 32 z (c.added ++ n ∷ [])) (sym t) (chain_more targets k 32 top c.added n a c.chain e h);
      own = All-push (λ (n : ℕ). is_slice_number targets k n ≡ true) c.added n c.own (ap (λ o. option_map_or (is_slice_of k) o false) e ∙ ending_slice k top a h);
      most = (let m = c.most in omega arith);
      boundary = inr (n, a, e, subst (λ z. is_bit_of k z a ≡ true) (sym t) (ending_low k top a order h), sym t);
    }

pub chain_ends : (targets : List Atom) (k : ℕ) (old new : List ℕ) (top : ℕ) → IsChainSoFar targets k old new top → top ≤ 0 → AddsSlices targets k Sliced old new
chain_ends targets k old new top c l = let z : top ≡ 0 = omega arith in record { added = c.added; appended = c.appended; chain = λ s. subst (λ t. IsChain targets k 32 t c.added) z c.chain; own = c.own }

-- where none is found below bit `top`, not each bit is held once
pub not_held : (targets : List Atom) (k : ℕ) (old new : List ℕ) (top : ℕ) → All IsInOrder targets → IsChainSoFar targets k old new top → 0 < top → ((i : ℕ) → IsFound targets k top i → ⊥) → IsHeldBy targets k Sliced → ⊥
not_held targets k old new top o c p none h =
    let e : top ≡ (top - 1) + 1 = omega arith in
    ends_there targets k (top - 1) o h (subst (IsBoundary targets k) e c.boundary) (let m = c.most in omega arith) (subst (λ t. (i : ℕ) → IsFound targets k t i → ⊥) e none)

pub adds_none : (targets : List Atom) (k : ℕ) (kind : OperandKind) (old new : List ℕ) → (kind ≡ Sliced → ⊥) → new ≡ old → AddsSlices targets k kind old new
adds_none targets k kind old new n e = record { added = []; appended = e ∙ sym (append-nil old); chain = λ s. absurd (n s); own = λ i d l. absurd (omega arith) }

-- ---- the slices of all operands

slice_number : (targets : List Atom) (k n : ℕ) (o : Option Atom) → slice_get targets n ≡ o → option_map_or (is_slice_of k) o false ≡ true → n < length targets
slice_number targets k n None e h = cc
slice_number targets k n (Some a) e h = slice_get_within targets n a e

one_operand : (j k : ℕ) (o : Option Atom) → option_map_or (is_slice_of k) o false ≡ true → j ≢ k → option_map_or (is_slice_of j) o false ≡ false
one_operand j k None h n = refl
one_operand j k (Some (Slice i lo hi)) h n = grind (arith, nat_tests)
one_operand j k (Some (Name i)) h n = refl
one_operand j k (Some (Field f)) h n = refl
one_operand j k (Some (Signed f)) h n = refl
one_operand j k (Some (Label l)) h n = refl

all_tail : {A : Type 0} (P : A → Type 0) (x : A) (xs : List A) → All P (x ∷ xs) → All P xs
all_tail P x xs h k d l = let q : suc k < suc (length xs) = omega arith in h (suc k) d q

all_head : {A : Type 0} (P : A → Type 0) (x : A) (xs : List A) → All P (x ∷ xs) → P x
all_head P x xs h = let z : 0 < suc (length xs) = omega arith in h 0 x z

filter_own : (p : ℕ → Bool) (ns : List ℕ) → All (λ (n : ℕ). p n ≡ true) ns → filter p ns ≡ ns
filter_own p [] h = refl
filter_own p (n ∷ ns) h = ap (λ b. cond b (n ∷ filter p ns) (filter p ns)) (all_head (λ (n : ℕ). p n ≡ true) n ns h) ∙ ap (λ xs. n ∷ xs) (filter_own p ns (all_tail (λ (n : ℕ). p n ≡ true) n ns h))

filter_other : (p : ℕ → Bool) (ns : List ℕ) → All (λ (n : ℕ). p n ≡ false) ns → filter p ns ≡ []
filter_other p [] h = refl
filter_other p (n ∷ ns) h = ap (λ b. cond b (n ∷ filter p ns) (filter p ns)) (all_head (λ (n : ℕ). p n ≡ false) n ns h) ∙ filter_other p ns (all_tail (λ (n : ℕ). p n ≡ false) n ns h)

-- the slices of the operands before this one
pub record AreSlicesSoFar (targets : List Atom) (kinds : List OperandKind) (numbers : List ℕ) (operand : ℕ) : Type 0 where
  pub within : All (λ (n : ℕ). n < length targets) numbers
  pub chains : (k : ℕ) → k < operand → slice_get kinds k ≡ Some Sliced → IsChain targets k 32 0 (filter (is_slice_number targets k) numbers)
  pub fresh : (k : ℕ) → operand ≤ k → filter (is_slice_number targets k) numbers ≡ []

pub slices_start : (targets : List Atom) (kinds : List OperandKind) (numbers : List ℕ) → numbers ≡ [] → AreSlicesSoFar targets kinds numbers 0
slices_start targets kinds numbers e = subst (λ ns. AreSlicesSoFar targets kinds ns 0) (sym e) (record { within = λ i d l. absurd (omega arith); chains = λ k l s. absurd (omega arith); fresh = λ k l. refl })

pub slices_more : (targets : List Atom) (kinds : List OperandKind) (old new : List ℕ) (operand : ℕ) (kind : OperandKind) → AreSlicesSoFar targets kinds old operand → slice_get kinds operand ≡ Some kind → AddsSlices targets operand kind old new
    → AreSlicesSoFar targets kinds new (operand + 1)
slices_more targets kinds old new operand kind s is a =
    record {
      within = subst (All (λ (n : ℕ). n < length targets)) (sym a.appended) (All-append (λ (n : ℕ). n < length targets) old a.added s.within (λ i d l. slice_number targets operand _ _ refl (a.own i d l)));
      chains = λ k l h. elim (cases_eq k operand) [
        | inl e ↦ subst (λ j. IsChain targets j 32 0 (filter (is_slice_number targets j) new)) (sym e)
            (subst (IsChain targets operand 32 0) (sym (parts operand ∙ ap (λ xs. xs ++ filter (is_slice_number targets operand) a.added) (s.fresh operand (omega arith)) ∙ filter_own (is_slice_number targets operand) a.added a.own))
            (a.chain (same_kind (slice_get kinds operand) kind is (ap (slice_get kinds) (sym e) ∙ h))))
        | inr n ↦ let m : k < operand = below k n l in
            subst (IsChain targets k 32 0) (sym (parts k ∙ ap (λ xs. filter (is_slice_number targets k) old ++ xs) (other k n) ∙ append-nil (filter (is_slice_number targets k) old))) (s.chains k m h)
      ];
      fresh = λ k l. let n : k ≢ operand = omega arith in let m : operand ≤ k = omega arith in parts k ∙ ap (λ xs. xs ++ filter (is_slice_number targets k) a.added) (s.fresh k m) ∙ other k n;
    }
  where
    below : (k : ℕ) → k ≢ operand → k < operand + 1 → k < operand
    below k n l = omega arith

    same_kind : (o : Option OperandKind) (x : OperandKind) → o ≡ Some x → o ≡ Some Sliced → x ≡ Sliced
    same_kind o x p q = cc

    parts : (k : ℕ) → filter (is_slice_number targets k) new ≡ filter (is_slice_number targets k) old ++ filter (is_slice_number targets k) a.added
    parts k = ap (filter (is_slice_number targets k)) a.appended ∙ filter-append (is_slice_number targets k) old a.added

    other : (k : ℕ) → k ≢ operand → filter (is_slice_number targets k) a.added ≡ []
    other k n = filter_other (is_slice_number targets k) a.added (λ i d l. one_operand k operand _ (a.own i d l) n)

pub slices_end : (targets : List Atom) (kinds : List OperandKind) (numbers : List ℕ) (operand : ℕ) → AreSlicesSoFar targets kinds numbers operand → length kinds ≤ operand → AreSlices targets kinds numbers
slices_end targets kinds numbers operand s l = record { within = s.within; chains = λ k h. s.chains k (let w = slice_get_within kinds k Sliced h in omega arith) h }

pub not_found : (targets : List Atom) (k top i : ℕ) (a : Atom) → slice_get targets i ≡ Some a → is_ending k top a ≡ false → IsFound targets k top i → ⊥
not_found targets k top i a e h f = let s = same_some (slice_get targets i) a f.0 e f.1 in let t = ap (is_ending k top) s in cc
  where
    same_some : (o : Option Atom) (a b : Atom) → o ≡ Some a → o ≡ Some b → a ≡ b
    same_some o a b p q = cc
