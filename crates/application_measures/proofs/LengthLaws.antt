-- How long patterns are: part by part, over lengths that are capped before, without applications, and over one constructor more.
use Rattle.std.proofs.Common.{◌≡◌, ℕ, ◌+◌, max, if◌then◌else◌, List, [], ◌∷◌, ◌++◌, map, fold, sum, get_or, refl, ap, ◌∙◌, arith}
use Rattle.std.proofs.lemmas.List.{map-append}
use Rattle.token_bits.specs.declared.tokens.Tokens.{Tokens}
use Rattle.sled_model.specs.declared.constructor.TypeId.{TypeId}
use Rattle.sled_model.specs.declared.pattern.Pattern.{Pattern, Row_of-Pattern, end_of-Pattern, more_of-Pattern}
use Rattle.sled_model.specs.declared.pattern.Pattern.TheVariants.{Token, Limit, Bind, Operand, Label', Both', Either', Chain', Loose', Apply', Empty, Both, Either, Chain, Label, Loose}
use Rattle.sled_model.specs.Leaves.{IsNoApplication, AllLeaves, AllLeavesOfRow}
use Rattle.sled_model.specs.Measures.{Measured, capped, longest, row_lens, boxed_number, greatest, type_len}
use Rattle.sled_model.specs.Results.{makes}
use Rattle.sled_model.proofs.MeasureLaws as law
use Rattle.application_measures.specs.Parts.{len_among}

module _ (tokens : Tokens) (operands : List ℕ) where
  pub len_Both : (ps : List Pattern) → len_among tokens operands (Both ps) ≡ greatest (map (len_among tokens operands) ps)
  len_Both ps = law.longest-Both tokens [] (λ k. get_or operands k 0) ps

  pub len_Either : (ps : List Pattern) → len_among tokens operands (Either ps) ≡ greatest (map (len_among tokens operands) ps)
  len_Either ps = law.longest-Either tokens [] (λ k. get_or operands k 0) ps

  pub len_Chain : (ps : List Pattern) → len_among tokens operands (Chain ps) ≡ sum (map (len_among tokens operands) ps)
  len_Chain ps = law.longest-Chain tokens [] (λ k. get_or operands k 0) ps

  pub len_Loose : (p : Pattern) → len_among tokens operands (Loose p) ≡ len_among tokens operands p
  len_Loose p = law.longest-Loose tokens [] (λ k. get_or operands k 0) p

  pub len_Label : (l : ℕ) (p : Pattern) → len_among tokens operands (Label l p) ≡ len_among tokens operands p
  len_Label l p = law.longest-Label tokens [] (λ k. get_or operands k 0) l p

pub ruleset len_laws = (len_Both, len_Either, len_Chain, len_Loose, len_Label)

-- ---- lengths of operands that are capped before: nothing is lost

abbrev SameCapped : List ℕ → List ℕ → Type 0
SameCapped [] [] = Unit {0}
SameCapped (m ∷ ms) (n ∷ ns) = (capped m ≡ capped n) × SameCapped ms ns
SameCapped _ _ = ⊥

boxed_capped : (ms ns : List ℕ) → SameCapped ms ns → capped (boxed_number ms) ≡ capped (boxed_number ns)
boxed_capped [] [] h = refl
boxed_capped [] (n ∷ ns) h = absurd h
boxed_capped (m ∷ ms) [] h = absurd h
boxed_capped (m ∷ ms) (n ∷ ns) h = h.0

sum_capped : (a b : ℕ) (ms ns : List ℕ) → capped a ≡ capped b → SameCapped ms ns → capped (fold (λ m n. m + n) a ms) ≡ capped (fold (λ m n. m + n) b ns)
sum_capped a b [] [] e h = e
sum_capped a b [] (n ∷ ns) e h = absurd h
sum_capped a b (m ∷ ms) [] e h = absurd h
sum_capped a b (m ∷ ms) (n ∷ ns) e h = sum_capped (a + m) (b + n) ms ns (let d = h.0 in omega (arith, e, d)) h.1

greatest_capped : (a b : ℕ) (ms ns : List ℕ) → capped a ≡ capped b → SameCapped ms ns → capped (fold max a ms) ≡ capped (fold max b ns)
greatest_capped a b [] [] e h = e
greatest_capped a b [] (n ∷ ns) e h = absurd h
greatest_capped a b (m ∷ ms) [] e h = absurd h
greatest_capped a b (m ∷ ms) (n ∷ ns) e h = greatest_capped (max a m) (max b n) ms ns (let d = h.0 in omega (arith, e, d)) h.1

-- an application has the length of its constructor, whatever the operands have
module _ (tokens : Tokens) (known : List Measured) (f g : ℕ → ℕ) (same : (k : ℕ) → capped (f k) ≡ capped (g k)) where
  mutual
    pub len_same_capped : (p : Pattern) → capped (longest tokens known f p) ≡ capped (longest tokens known g p)
    len_same_capped (Token c) = refl
    len_same_capped (Limit h relation limit) = refl
    len_same_capped (Bind h) = refl
    len_same_capped (Operand k) = same k
    len_same_capped (Label' l s p) = boxed_capped _ _ (lens_same_capped p)
    len_same_capped (Both' s ps) = greatest_capped 0 0 _ _ refl (lens_same_capped ps)
    len_same_capped (Either' s ps) = greatest_capped 0 0 _ _ refl (lens_same_capped ps)
    len_same_capped (Chain' s ps) = sum_capped 0 0 _ _ refl (lens_same_capped ps)
    len_same_capped (Loose' s p) = boxed_capped _ _ (lens_same_capped p)
    len_same_capped (Apply' k s arguments) = refl
    len_same_capped Empty = refl

    lens_same_capped : {n : _} (ps : Row_of-Pattern n) → SameCapped (row_lens tokens known f ps) (row_lens tokens known g ps)
    lens_same_capped end_of-Pattern = tt
    lens_same_capped (more_of-Pattern p ps) = (len_same_capped p, lens_same_capped ps)

-- ---- a pattern without applications has its length from those of its operands alone

module _ (tokens : Tokens) (known others : List Measured) (f : ℕ → ℕ) where
  mutual
    pub len_unapplied : (p : Pattern) → AllLeaves IsNoApplication p → longest tokens known f p ≡ longest tokens others f p
    len_unapplied (Token c) h = refl
    len_unapplied (Limit g relation limit) h = refl
    len_unapplied (Bind g) h = refl
    len_unapplied (Operand k) h = refl
    len_unapplied (Label' l s p) h = ap boxed_number (lens_unapplied p h)
    len_unapplied (Both' s ps) h = ap greatest (lens_unapplied ps h)
    len_unapplied (Either' s ps) h = ap greatest (lens_unapplied ps h)
    len_unapplied (Chain' s ps) h = ap sum (lens_unapplied ps h)
    len_unapplied (Loose' s p) h = ap boxed_number (lens_unapplied p h)
    len_unapplied (Apply' k s arguments) h = absurd h
    len_unapplied Empty h = refl

    lens_unapplied : {n : _} (ps : Row_of-Pattern n) → AllLeavesOfRow IsNoApplication ps → row_lens tokens known f ps ≡ row_lens tokens others f ps
    lens_unapplied end_of-Pattern h = refl
    lens_unapplied (more_of-Pattern p ps) h =
        ap (λ n. n ∷ row_lens tokens known f ps) (len_unapplied p h.0) ∙ ap (λ ns. longest tokens others f p ∷ ns) (lens_unapplied ps h.1)

-- ---- one constructor more

greatest_push : (a : ℕ) (ns : List ℕ) (n : ℕ) → fold max a (ns ++ n ∷ []) ≡ max (fold max a ns) n
greatest_push a [] n = refl
greatest_push a (m ∷ ms) n = greatest_push (max a m) ms n

pub type_len_push : (known : List Measured) (w : Measured) (t : TypeId)
    → type_len (known ++ w ∷ []) t ≡ max (type_len known t) (if makes t w.constructor.result then w.len else 0)
type_len_push known w t =
    let f = λ (c : Measured). if makes t c.constructor.result then c.len else 0 in
    ap greatest (map-append f known (w ∷ [])) ∙ greatest_push 0 (map f known) (f w)
