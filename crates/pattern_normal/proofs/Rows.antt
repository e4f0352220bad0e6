-- One alternative with one other.
use Rattle.std.proofs.Common.{◌≡◌, ℕ, Bool, true, false, ◌&&◌, cond, max, List, [], ◌∷◌, ◌++◌, map, filter, refl, ap, sym, ◌∙◌}
use Rattle.std.proofs.lemmas.Bool.{and_parts, and_from}
use Rattle.bit_cases.specs.Bits.{Meets, SameUnderBoth}
use Rattle.bit_cases.specs.declared.byte_case.ByteCase.{ByteCase}
use Rattle.bit_cases.proofs.MeetsTest.{meets-true, meets-from, same_bool}
use Rattle.bit_cases.proofs.Joined.{none_meets}
use Rattle.std.proofs.Common.{◌<◌, ◌↔◌}
use Rattle.token_bits.specs.declared.tokens.Tokens.{Tokens}
use Rattle.sled_model.specs.declared.raw.Match.{Match}
use Rattle.sled_model.specs.Results.{agrees}
use Rattle.std.proofs.lemmas.List.{map-append}
use Rattle.sled_model.specs.declared.raw.RawEntry.{RawEntry}
use Rattle.pattern_normal.specs.declared.skeleton.Spot.{Spot}
use Rattle.pattern_normal.specs.declared.alternative.Alternative.{Alternative}
use Rattle.pattern_normal.specs.Skeletons.{read_spot}
use Rattle.pattern_normal.specs.Alternatives.{is_met, seen, shown, both_ended, chain_ended, both_row, chain_row}

module _ (tokens : Tokens) (w : List ℕ) (a b : Alternative) where
  disagree_row : (ma mb : Bool) → agrees (seen tokens w a) (seen tokens w b) ≡ false
      → [] ≡ cond ma (map (both_ended (seen tokens w a)) (filter (agrees (seen tokens w a)) (map (seen tokens w) (cond mb (b ∷ []) [])))) []
  disagree_row true true e = ap (λ t. map (both_ended (seen tokens w a)) (cond t (seen tokens w b ∷ []) [])) (sym e)
  disagree_row true false e = refl
  disagree_row false mb e = refl

  pub disagree : agrees (seen tokens w a) (seen tokens w b) ≡ false → [] ≡ both_row tokens w a (b ∷ [])
  disagree e = disagree_row (is_met w a) (is_met w b) e

  apart_row : (ma mb : Bool) → (ma && mb) ≡ false → [] ≡ cond ma (map (both_ended (seen tokens w a)) (filter (agrees (seen tokens w a)) (map (seen tokens w) (cond mb (b ∷ []) [])))) []
  apart_row true true e = cc
  apart_row true false e = refl
  apart_row false mb e = refl

  apart_chain_row : (ma mb : Bool) → (ma && mb) ≡ false → [] ≡ cond ma (map (chain_ended (seen tokens w a)) (map (seen tokens w) (cond mb (b ∷ []) []))) []
  apart_chain_row true true e = cc
  apart_chain_row true false e = refl
  apart_chain_row false mb e = refl

  never : ((k : ℕ) × (k < 32) × ¬ SameUnderBoth a.bits.mask a.bits.value b.bits.mask b.bits.value k) → (is_met w a && is_met w b) ≡ false
  never d = same_bool (is_met w a && is_met w b) false (λ e.
      let parts = and_parts (is_met w a) (is_met w b) e in
      absurd (none_meets a.bits.mask a.bits.value b.bits.mask b.bits.value a.bits.under_mask b.bits.under_mask d a.bits.len b.bits.len w (meets-true _ _ _ w parts.0) (meets-true _ _ _ w parts.1))) (λ e. cc)

  pub apart : ((k : ℕ) × (k < 32) × ¬ SameUnderBoth a.bits.mask a.bits.value b.bits.mask b.bits.value k) → [] ≡ both_row tokens w a (b ∷ [])
  apart d = apart_row (is_met w a) (is_met w b) (never d)

  pub apart_joined : ((k : ℕ) × (k < 32) × ¬ SameUnderBoth a.bits.mask a.bits.value b.bits.mask b.bits.value k) → [] ≡ chain_row tokens w a (b ∷ [])
  apart_joined d = apart_chain_row (is_met w a) (is_met w b) (never d)

  pub both_from : (c : Alternative) → ((Meets c.bits.mask c.bits.value c.bits.len w) ↔ (Meets a.bits.mask a.bits.value a.bits.len w × Meets b.bits.mask b.bits.value b.bits.len w))
      → is_met w c ≡ (is_met w a && is_met w b)
  both_from c g = same_bool (is_met w c) (is_met w a && is_met w b)
      (λ e. let h = g.0 (meets-true _ _ _ w e) in and_from (is_met w a) (is_met w b) (meets-from _ _ _ w h.0) (meets-from _ _ _ w h.1))
      (λ e. let parts = and_parts (is_met w a) (is_met w b) e in meets-from _ _ _ w (g.1 (meets-true _ _ _ w parts.0, meets-true _ _ _ w parts.1)))

  met_case : (c : Alternative) (ma mb : Bool) → agrees (seen tokens w a) (seen tokens w b) ≡ true → seen tokens w c ≡ both_ended (seen tokens w a) (seen tokens w b)
      → map (seen tokens w) (cond (ma && mb) (c ∷ []) []) ≡ cond ma (map (both_ended (seen tokens w a)) (filter (agrees (seen tokens w a)) (map (seen tokens w) (cond mb (b ∷ []) [])))) []
  met_case c true true p e = ap (λ z. z ∷ []) e ∙ ap (λ t. map (both_ended (seen tokens w a)) (cond t (seen tokens w b ∷ []) [])) (sym p)
  met_case c true false p e = refl
  met_case c false mb p e = refl

  pub met_both : (c : Alternative) → is_met w c ≡ (is_met w a && is_met w b) → agrees (seen tokens w a) (seen tokens w b) ≡ true → seen tokens w c ≡ both_ended (seen tokens w a) (seen tokens w b)
      → shown tokens w (c ∷ []) ≡ both_row tokens w a (b ∷ [])
  met_both c m p e = ap (λ t. map (seen tokens w) (cond t (c ∷ []) [])) m ∙ met_case c (is_met w a) (is_met w b) p e

  follow_row : (c : Alternative) (ma mb : Bool) → seen tokens w c ≡ chain_ended (seen tokens w a) (seen tokens w b)
      → map (seen tokens w) (cond (ma && mb) (c ∷ []) []) ≡ cond ma (map (chain_ended (seen tokens w a)) (map (seen tokens w) (cond mb (b ∷ []) []))) []
  follow_row c true true e = ap (λ z. z ∷ []) e
  follow_row c true false e = refl
  follow_row c false mb e = refl

  pub joined_both : (c : Alternative) → is_met w c ≡ (is_met w a && is_met w b) → seen tokens w c ≡ chain_ended (seen tokens w a) (seen tokens w b) → shown tokens w (c ∷ []) ≡ chain_row tokens w a (b ∷ [])
  joined_both c m e = ap (λ t. map (seen tokens w) (cond t (c ∷ []) [])) m ∙ follow_row c (is_met w a) (is_met w b) e

  module _ (bits : ByteCase) (l : Bool) (spots : List Spot) (spots_are : spots ≡ a.spots ++ b.spots) where
    binds_are : map (read_spot tokens w) spots ≡ map (read_spot tokens w) a.spots ++ map (read_spot tokens w) b.spots
    binds_are = ap (map (read_spot tokens w)) spots_are ∙ map-append (read_spot tokens w) a.spots b.spots

    pub seen_met : bits.len ≡ max a.bits.len b.bits.len → l ≡ (a.loose && b.loose)
        → seen tokens w (record { bits = bits; loose = l; spots = spots }) ≡ both_ended (seen tokens w a) (seen tokens w b)
    seen_met n e = let f = λ (es : List RawEntry) (k : ℕ) (t : Bool). (let r : Match = record { binds = es; len = k; loose = t } in r) in
        ap (λ es. f es bits.len l) binds_are ∙ ap (λ k. f (map (read_spot tokens w) a.spots ++ map (read_spot tokens w) b.spots) k l) n ∙ ap (λ t. f (map (read_spot tokens w) a.spots ++ map (read_spot tokens w) b.spots) (max a.bits.len b.bits.len) t) e

    pub seen_joined : bits.len ≡ b.bits.len → l ≡ b.loose
        → seen tokens w (record { bits = bits; loose = l; spots = spots }) ≡ chain_ended (seen tokens w a) (seen tokens w b)
    seen_joined n e = let f = λ (es : List RawEntry) (k : ℕ) (t : Bool). (let r : Match = record { binds = es; len = k; loose = t } in r) in
        ap (λ es. f es bits.len l) binds_are ∙ ap (λ k. f (map (read_spot tokens w) a.spots ++ map (read_spot tokens w) b.spots) k l) n ∙ ap (λ t. f (map (read_spot tokens w) a.spots ++ map (read_spot tokens w) b.spots) b.bits.len t) e
