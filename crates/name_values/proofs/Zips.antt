-- Two lists, item by item, and values of names one by one.
use Rattle.std.proofs.Common.{◌≡◌, ℕ, zero, suc, ◌+◌, ◌<◌, List, [], ◌∷◌, ◌++◌, length, map, take, get_or, All, refl, sym, ap, ◌∙◌, subst, arith}
use Rattle.std.specs.List.{AllZip}
use Rattle.std.proofs.lemmas.List.{take_more, map-append}
use Rattle.std.proofs.lemmas.List.Elements.{All-head, All-tail}
use Rattle.sled_model.specs.declared.instance.Operand.{Operand}
use Rattle.sled_model.specs.declared.raw.RawEntry.{RawEntry}
use Rattle.sled_model.specs.declared.spec.Spec.{Spec}
use Rattle.match_meaning.specs.Names.{IsNameValue, AreNameValues}

zip_pushed : {X Y : Type 0} (R : X → Y → Type 0) (xs : List X) (ys : List Y) (x : X) (y : Y) → AllZip R xs ys → R x y → AllZip R (xs ++ x ∷ []) (ys ++ y ∷ [])
zip_pushed R [] [] x y h r = (r, tt)
zip_pushed R [] (z ∷ ys) x y h r = absurd h
zip_pushed R (z ∷ xs) [] x y h r = absurd h
zip_pushed R (z ∷ xs) (w ∷ ys) x y h r = (h.0, zip_pushed R xs ys x y h.1 r)

module _ {X Y Z : Type 0} (R : Y → Z → Type 0) (f : X → Y) where
  pub zip_mapped_length : (xs : List X) (zs : List Z) → AllZip R (map f xs) zs → length xs ≡ length zs
  zip_mapped_length [] [] h = refl
  zip_mapped_length [] (z ∷ zs) h = absurd h
  zip_mapped_length (x ∷ xs) [] h = absurd h
  zip_mapped_length (x ∷ xs) (z ∷ zs) h = ap suc (zip_mapped_length xs zs h.1)

  -- the items at one place
  pub zip_mapped_at : (xs : List X) (zs : List Z) (i : ℕ) (x : X) (z : Z) → AllZip R (map f xs) zs → i < length xs → x ≡ get_or xs i x → z ≡ get_or zs i z → R (f x) z
  zip_mapped_at [] zs i x z h l d e = absurd (omega (arith, l))
  zip_mapped_at (a ∷ xs) [] i x z h l d e = absurd h
  zip_mapped_at (a ∷ xs) (b ∷ zs) zero x z h l d e = subst (λ x. R (f x) z) (sym d) (subst (R (f a)) (sym e) h.0)
  zip_mapped_at (a ∷ xs) (b ∷ zs) (suc i) x z h l d e = zip_mapped_at xs zs i x z h.1 (omega (arith, l)) d e

  -- an item more on each side
  pub zip_mapped : (xs : List X) (i : ℕ) (x : X) (zs more : List Z) (z : Z) → i < length xs → x ≡ get_or xs i x → AllZip R (map f (take i xs)) zs → R (f x) z → more ≡ zs ++ z ∷ [] → AllZip R (map f (take (i + 1) xs)) more
  zip_mapped xs i x zs more z l e h r d =
      subst (AllZip R (map f (take (i + 1) xs))) (sym d)
      (subst (λ (ys : List Y). AllZip R ys (zs ++ z ∷ [])) (sym (ap (map f) (take_more xs i x l ∙ ap (λ (y : X). take i xs ++ y ∷ []) (sym e)) ∙ map-append f (take i xs) (x ∷ [])))
      (zip_pushed R (map f (take i xs)) zs (f x) z h r))

pub all_mapped_at : {X Y : Type 0} (P : Y → Type 0) (f : X → Y) (xs : List X) (i : ℕ) (x : X) → All P (map f xs) → i < length xs → x ≡ get_or xs i x → P (f x)
all_mapped_at P f [] i x h l e = absurd (omega (arith, l))
all_mapped_at P f (a ∷ xs) zero x h l e = subst (λ x. P (f x)) (sym e) (All-head P (f a) (map f xs) h)
all_mapped_at P f (a ∷ xs) (suc i) x h l e = all_mapped_at P f xs i x (All-tail P (f a) (map f xs) h) (omega (arith, l)) e

-- the values of one name more
pub values_pushed : (spec : Spec) (location : ℕ) (entries : List RawEntry) (k n : ℕ) (names : List (List ℕ)) (values : List Operand) (name : List ℕ) (value : Operand)
    → AreNameValues spec location entries k names values → n ≡ k + length names → IsNameValue spec location name n entries value
    → AreNameValues spec location entries k (names ++ name ∷ []) (values ++ value ∷ [])
values_pushed spec location entries k n [] [] name value h e v = let same : n ≡ k = omega arith in (subst (λ j. IsNameValue spec location name j entries value) same v, tt)
values_pushed spec location entries k n [] (z ∷ values) name value h e v = absurd h
values_pushed spec location entries k n (a ∷ names) [] name value h e v = absurd h
values_pushed spec location entries k n (a ∷ names) (z ∷ values) name value h e v = (h.0, values_pushed spec location entries (k + 1) n names values name value h.1 (omega arith) v)
