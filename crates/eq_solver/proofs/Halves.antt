-- Half of how many values a field has.
use Rattle.std.proofs.Common.{ℕ, ◌+◌, ◌-◌, ◌*◌, ◌%◌, ◌^◌, ◌≡◌, ◌≤◌, ◌<◌, inl, inr, Option, Some, None, List, slice_get, All, pos, w64, to_z, ap, sym, ◌∙◌, arith, subst, refl}
use Rattle.std.specs.Option.{option_map_or, IsSomeAnd}
use Rattle.std.proofs.lemmas.Int.{ints}
use Rattle.std.proofs.lemmas.Option.{slice_get_within, get_or_from_slice_get}
use Rattle.std.proofs.Math.Nat.{pow-le-pow_right}
use Rattle.token_bits.specs.declared.tokens.Class.{Class}
use Rattle.token_bits.specs.declared.tokens.Field.{Field}
use Rattle.token_bits.specs.declared.tokens.Tokens.{Tokens}
use Rattle.token_bits.specs.Tokens.{width_of, IsWidth, IsFieldOf, AreTokens}
use Rattle.sled_model.specs.Equations.{half_of, IsBetween}

narrow_width : (w : ℕ) → IsWidth w → w ≤ 32
narrow_width w h = elim h [ inl e ↦ omega (arith, e) | inr more ↦ elim more [ inl e ↦ omega (arith, e) | inr e ↦ omega (arith, e) ] ]

narrow_in : (classes : List Class) (k hi : ℕ) (o : Option Class) → All (λ (class : Class). IsWidth class.width) classes → slice_get classes k ≡ o → IsSomeAnd o (λ class. hi < class.width) → hi < 32
narrow_in classes k hi None a e h = absurd h
narrow_in classes k hi (Some class) a e h =
    let w = narrow_width class.width (subst (λ (x : Class). IsWidth x.width) (get_or_from_slice_get classes k class class e) (a k class (slice_get_within classes k class e))) in
    omega (arith, w, h)

narrow : (tokens : Tokens) (f : ℕ) (field : Field) → AreTokens tokens → slice_get tokens.fields f ≡ Some field → field.hi < 32
narrow tokens f field a e =
    let h = subst (IsFieldOf tokens.classes) (get_or_from_slice_get tokens.fields f field field e) (a.fields f field (slice_get_within tokens.fields f field e)) in
    narrow_in tokens.classes field.class.0 field.hi (slice_get tokens.classes field.class.0) a.widths refl h.1

pub least_power : (k : ℕ) → 1 ≤ 2 ^ k
least_power k = let a : 0 ≤ k = omega arith in let b : 0 < 2 = omega arith in pow-le-pow_right b a

small_power : (hi lo : ℕ) → hi < 32 → 2 ^ (hi - lo) ≤ 2 ^ 31
small_power hi lo h = let a : hi - lo ≤ 31 = omega arith in let b : 0 < 2 = omega arith in pow-le-pow_right b a

half_at : (tokens : Tokens) (f : ℕ) (field : Field) → slice_get tokens.fields f ≡ Some field → half_of tokens f ≡ pos (2 ^ (field.hi - field.lo))
half_at tokens f field e =
    let less : field.hi - field.lo + 1 - 1 ≡ field.hi - field.lo = omega arith in
    ap (λ o. pos (2 ^ (option_map_or width_of o 0 - 1))) e ∙ ap (λ k. pos (2 ^ k)) less

pub half_shifted : (tokens : Tokens) (f : ℕ) (field : Field) → AreTokens tokens → slice_get tokens.fields f ≡ Some field → to_z w64 (1 * 2 ^ (field.hi - field.lo) % 18446744073709551616) ≡ half_of tokens f
half_shifted tokens f field a e = read (2 ^ (field.hi - field.lo)) (small_power field.hi field.lo (narrow tokens f field a e)) ∙ sym (half_at tokens f field e)
  where
    read : (p : ℕ) → p ≤ 2 ^ 31 → to_z w64 (1 * p % 18446744073709551616) ≡ pos p
    read p h = omega (arith, ints)

half_in : (tokens : Tokens) (f : ℕ) (o : Option Field) → AreTokens tokens → slice_get tokens.fields f ≡ o → IsBetween (pos 1) (pos (2 ^ 31 + 1)) (half_of tokens f)
half_in tokens f None a e = subst (IsBetween (pos 1) (pos (2 ^ 31 + 1))) (sym (ap (λ o. pos (2 ^ (option_map_or width_of o 0 - 1))) e)) (record { at_least = omega (arith, ints); below = omega (arith, ints) })
half_in tokens f (Some field) a e =
    subst (IsBetween (pos 1) (pos (2 ^ 31 + 1))) (sym (half_at tokens f field e)) (between (2 ^ (field.hi - field.lo)) (least_power (field.hi - field.lo)) (small_power field.hi field.lo (narrow tokens f field a e)))
  where
    between : (p : ℕ) → 1 ≤ p → p ≤ 2 ^ 31 → IsBetween (pos 1) (pos (2 ^ 31 + 1)) (pos p)
    between p l h = record { at_least = omega (arith, ints); below = omega (arith, ints) }

pub half_between : (tokens : Tokens) (f : ℕ) → AreTokens tokens → IsBetween (pos 1) (pos (2 ^ 31 + 1)) (half_of tokens f)
half_between tokens f a = half_in tokens f (slice_get tokens.fields f) a refl
