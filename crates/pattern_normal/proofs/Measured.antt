-- Measures of lists of patterns, part by part.
use Rattle.std.proofs.Common.{◌≡◌, ℕ, ◌+◌, ◌<◌, ◌≤◌, max, Bool, true, false, if◌then◌else◌, List, [], ◌∷◌, ◌++◌, length, take, get_or, slice_get, map, sum, Some, refl, sym, ap, ◌∙◌, arith, add-zero}
use Rattle.std.specs.Option.{unwrap_or}
use Rattle.std.specs.Ordering.{nat_cmp, ord_max}
use Rattle.std.proofs.lemmas.Grind.{common_steps}
use Rattle.std.proofs.lemmas.List.{take_more}
use Rattle.std.proofs.lemmas.Option.{unwrap_or-slice_get, slice_get_past, slice_get_read}
use Rattle.token_bits.specs.declared.tokens.Tokens.{Tokens}
use Rattle.sled_model.specs.declared.constructor.TypeId.{TypeId}
use Rattle.sled_model.specs.declared.constructor.Constructor.{Constructor}
use Rattle.sled_model.specs.declared.pattern.Pattern.{Pattern}
use Rattle.sled_model.specs.declared.pattern.Pattern.TheVariants.{Both, Either, Chain, Label, Loose}
use Rattle.sled_model.specs.Measures.{product, greatest, capped, each_from, weighed, type_weight, sized, type_size}
use Rattle.sled_model.specs.Results.{makes}
use Rattle.pattern_normal.specs.Alone.{lone_weight, lone_len}
use Rattle.sled_model.proofs.MeasureLaws as law

module _ (tokens : Tokens) where
  pub weight_Both : (ps : List Pattern) → lone_weight tokens (Both ps) ≡ product (map (lone_weight tokens) ps)
  weight_Both ps = law.weight-Both tokens [] (λ k. 0) ps

  pub weight_Either : (ps : List Pattern) → lone_weight tokens (Either ps) ≡ sum (map (lone_weight tokens) ps)
  weight_Either ps = law.weight-Either tokens [] (λ k. 0) ps

  pub weight_Chain : (ps : List Pattern) → lone_weight tokens (Chain ps) ≡ product (map (lone_weight tokens) ps)
  weight_Chain ps = law.weight-Chain tokens [] (λ k. 0) ps

  pub weight_Loose : (p : Pattern) → lone_weight tokens (Loose p) ≡ lone_weight tokens p
  weight_Loose p = law.weight-Loose tokens [] (λ k. 0) p

  pub weight_Label : (l : ℕ) (p : Pattern) → lone_weight tokens (Label l p) ≡ lone_weight tokens p
  weight_Label l p = law.weight-Label tokens [] (λ k. 0) l p

  pub len_Both : (ps : List Pattern) → lone_len tokens (Both ps) ≡ greatest (map (lone_len tokens) ps)
  len_Both ps = law.longest-Both tokens [] (λ k. 0) ps

  pub len_Either : (ps : List Pattern) → lone_len tokens (Either ps) ≡ greatest (map (lone_len tokens) ps)
  len_Either ps = law.longest-Either tokens [] (λ k. 0) ps

  pub len_Chain : (ps : List Pattern) → lone_len tokens (Chain ps) ≡ sum (map (lone_len tokens) ps)
  len_Chain ps = law.longest-Chain tokens [] (λ k. 0) ps

  pub len_Loose : (p : Pattern) → lone_len tokens (Loose p) ≡ lone_len tokens p
  len_Loose p = law.longest-Loose tokens [] (λ k. 0) p

  pub len_Label : (l : ℕ) (p : Pattern) → lone_len tokens (Label l p) ≡ lone_len tokens p
  len_Label l p = law.longest-Label tokens [] (λ k. 0) l p

pub ruleset weight_laws = (law.weight-Both, law.weight-Either, law.weight-Chain, law.weight-Loose, law.weight-Label)

pub ruleset size_laws = (law.size-Both, law.size-Either, law.size-Chain, law.size-Loose, law.size-Label)

pub ruleset len_laws = (len_Both, len_Either, len_Chain, len_Loose, len_Label)

-- ---- a cap at each step is a cap at the end

pub sum_capped : (a b : ℕ) → capped (capped a + capped b) ≡ capped (a + b)
sum_capped a b = omega arith

pub greatest_capped : (a b : ℕ) → max (capped a) (capped b) ≡ capped (max a b)
greatest_capped a b = omega arith

pub max_told : (a b : ℕ) → ord_max nat_cmp a b ≡ max a b
max_told a b = grind (arith, common_steps)

pub one_more : (n : ℕ) → capped (1 + capped n) ≡ capped (1 + n)
one_more n = omega arith

-- ---- one constructor more

module _ {A : Type 0} (f : List A → Constructor → A) (cs : List Constructor) (i : ℕ) (c : Constructor) (l : i < length cs) (is : c ≡ get_or cs i c) where
  known_more : each_from f [] (take (i + 1) cs) ≡ each_from f [] (take i cs) ++ f (each_from f [] (take i cs)) c ∷ []
  known_more =
      let known = each_from f [] (take i cs) in
      ap (each_from f []) (take_more cs i c l) ∙ law.each_from_push f [] (take i cs) (get_or cs i c) ∙ ap (λ d. known ++ f known d ∷ []) (sym is)

module _ (tokens : Tokens) (cs : List Constructor) (i : ℕ) (c : Constructor) (t : TypeId) (l : i < length cs) (is : c ≡ get_or cs i c) where
  weight_more : (b : Bool) → makes t c.result ≡ b → type_weight (each_from (weighed tokens) [] (take (i + 1) cs)) t
      ≡ type_weight (each_from (weighed tokens) [] (take i cs)) t + (if b then (weighed tokens (each_from (weighed tokens) [] (take i cs)) c).weight else 0)
  weight_more b e =
      let known = each_from (weighed tokens) [] (take i cs) in
      ap (λ ws. type_weight ws t) (known_more (weighed tokens) cs i c l is) ∙ law.type_weight_push known (weighed tokens known c) t
      ∙ ap (λ v. type_weight known t + (if v then (weighed tokens known c).weight else 0)) e

  pub weight_more_made : makes t c.result ≡ true → type_weight (each_from (weighed tokens) [] (take (i + 1) cs)) t
      ≡ type_weight (each_from (weighed tokens) [] (take i cs)) t + (weighed tokens (each_from (weighed tokens) [] (take i cs)) c).weight
  weight_more_made e = weight_more true e

  pub weight_more_other : makes t c.result ≡ false → type_weight (each_from (weighed tokens) [] (take (i + 1) cs)) t ≡ type_weight (each_from (weighed tokens) [] (take i cs)) t
  weight_more_other e = weight_more false e ∙ add-zero (type_weight (each_from (weighed tokens) [] (take i cs)) t)

module _ (cs : List Constructor) (i : ℕ) (c : Constructor) (t : TypeId) (l : i < length cs) (is : c ≡ get_or cs i c) where
  size_more : (b : Bool) → makes t c.result ≡ b → type_size (each_from sized [] (take (i + 1) cs)) t
      ≡ max (type_size (each_from sized [] (take i cs)) t) (if b then (sized (each_from sized [] (take i cs)) c).size else 0)
  size_more b e =
      let known = each_from sized [] (take i cs) in
      ap (λ ws. type_size ws t) (known_more sized cs i c l is) ∙ law.type_size_push known (sized known c) t
      ∙ ap (λ v. max (type_size known t) (if v then (sized known c).size else 0)) e

  pub size_more_made : makes t c.result ≡ true → type_size (each_from sized [] (take (i + 1) cs)) t
      ≡ max (type_size (each_from sized [] (take i cs)) t) (sized (each_from sized [] (take i cs)) c).size
  size_more_made e = size_more true e

  pub size_more_other : makes t c.result ≡ false → type_size (each_from sized [] (take (i + 1) cs)) t ≡ type_size (each_from sized [] (take i cs)) t
  size_more_other e = size_more false e ∙ omega arith

-- ---- operands that are given, and those that are not

pub given_past : (xs : List ℕ) (k d : ℕ) → length xs ≤ k → get_or xs k d ≡ d
given_past xs k d h = sym (unwrap_or-slice_get xs k d) ∙ ap (λ o. unwrap_or o d) (slice_get_past xs k h)

pub found_at : {X : Type 0} (xs : List X) (k : ℕ) (x : X) → k < length xs → x ≡ get_or xs k x → slice_get xs k ≡ Some x
found_at xs k x l e = slice_get_read xs (length xs) k x refl l e
