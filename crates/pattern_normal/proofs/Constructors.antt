-- The constructors, one by one, with their results and measures.
use Rattle.std.proofs.Common.{◌≡◌, ℕ, zero, suc, ◌+◌, ◌<◌, ◌≤◌, max, Bool, cond, List, [], ◌∷◌, ◌++◌, length, map, take, get_or, slice_get, Some, None, refl, sym, ap, ◌∙◌, arith}
use Rattle.std.specs.List.{fold}
use Rattle.std.proofs.lemmas.List.{append_assoc, append-nil, take_more, length-append, length-take-le}
use Rattle.std.proofs.lemmas.Option.{slice_get_past}
use Rattle.token_bits.specs.declared.tokens.Tokens.{Tokens}
use Rattle.sled_model.specs.declared.constructor.TypeId.{TypeId}
use Rattle.sled_model.specs.declared.constructor.Constructor.{Constructor}
use Rattle.sled_model.specs.Results.{Known, Meaning, known_from, choices_from, choice_match, makes}
use Rattle.sled_model.specs.Measures.{Measured, each_from, type_weight, type_len, measured}
use Rattle.sled_model.proofs.MeasureLaws as law
use Rattle.sled_model.proofs.ContextLemmas.{known_after}
use Rattle.pattern_normal.specs.Surroundings.{open_weighed, open_weights, lens_of}

-- ---- what each constructor has, over those before it

module _ {A : Type 0} (f : List A → Constructor → A) where
  pub each_length : (known : List A) (cs : List Constructor) → length (each_from f known cs) ≡ length known + length cs
  each_length known [] = omega arith
  each_length known (c ∷ cs) = let ih = each_length (known ++ f known c ∷ []) cs in let n = length-append known (f known c ∷ []) in omega (arith, ih, n)

  keeps_one : (known : List A) (x : A) (j : ℕ) (y : A) → slice_get known j ≡ Some y → slice_get (known ++ x ∷ []) j ≡ Some y
  keeps_one [] x j y e = cc
  keeps_one (z ∷ known) x zero y e = e
  keeps_one (z ∷ known) x (suc j) y e = keeps_one known x j y e

  keeps : (known : List A) (cs : List Constructor) (j : ℕ) (y : A) → slice_get known j ≡ Some y → slice_get (each_from f known cs) j ≡ Some y
  keeps known [] j y e = e
  keeps known (c ∷ cs) j y e = keeps (known ++ f known c ∷ []) cs j y (keeps_one known (f known c) j y e)

  last : (known : List A) (x : A) → slice_get (known ++ x ∷ []) (length known) ≡ Some x
  last [] x = refl
  last (y ∷ known) x = last known x

  found : (known : List A) (cs : List Constructor) (k : ℕ) (c : Constructor) → slice_get cs k ≡ Some c → slice_get (each_from f known cs) (length known + k) ≡ Some (f (each_from f known (take k cs)) c)
  found known [] k c e = cc
  found known (d ∷ cs) zero c e =
      let same : d ≡ c = cc in let n : length known + 0 ≡ length known = omega arith in
      ap (slice_get (each_from f (known ++ f known d ∷ []) cs)) n
      ∙ keeps (known ++ f known d ∷ []) cs (length known) (f known d) (last known (f known d)) ∙ ap (λ z. Some (f known z)) same
  found known (d ∷ cs) (suc k) c e =
      let more = known ++ f known d ∷ [] in let n = length-append known (f known d ∷ []) in let m : length known + suc k ≡ length more + k = omega (arith, n) in
      ap (slice_get (each_from f more cs)) m ∙ found more cs k c e

  -- what constructor number k has
  pub each_at : (cs : List Constructor) (k : ℕ) (c : Constructor) → slice_get cs k ≡ Some c → slice_get (each_from f [] cs) k ≡ Some (f (each_from f [] (take k cs)) c)
  each_at cs k c e = let n : k ≡ 0 + k = omega arith in ap (slice_get (each_from f [] cs)) n ∙ found [] cs k c e

  pub each_past : (cs : List Constructor) (k : ℕ) → slice_get cs k ≡ None → slice_get (each_from f [] cs) k ≡ None
  each_past cs k e = let n = each_length [] cs in slice_get_past (each_from f [] cs) k (let long = past cs k e in omega (arith, n, long))
    where
      past : (ds : List Constructor) (j : ℕ) → slice_get ds j ≡ None → length ds ≤ j
      past [] j e = omega arith
      past (d ∷ ds) zero e = cc
      past (d ∷ ds) (suc j) e = let l = past ds j e in omega (arith, l)

  -- one constructor more
  pub each_more : (cs : List Constructor) (k : ℕ) (c : Constructor) → k < length cs → c ≡ get_or cs k c
      → each_from f [] (take (k + 1) cs) ≡ each_from f [] (take k cs) ++ f (each_from f [] (take k cs)) c ∷ []
  each_more cs k c l is =
      let known = each_from f [] (take k cs) in
      ap (each_from f []) (take_more cs k c l) ∙ law.each_from_push f [] (take k cs) (get_or cs k c) ∙ ap (λ d. known ++ f known d ∷ []) (sym is)

pub known_each : (tokens : Tokens) (known : List Known) (cs : List Constructor) → known_from tokens known cs ≡ each_from (known_after tokens) known cs
known_each tokens known [] = refl
known_each tokens known (c ∷ cs) = known_each tokens (known ++ known_after tokens known c ∷ []) cs

pub known_at_number : (tokens : Tokens) (cs : List Constructor) (k : ℕ) (c : Constructor) → slice_get cs k ≡ Some c
    → slice_get (known_from tokens [] cs) k ≡ Some (known_after tokens (known_from tokens [] (take k cs)) c)
known_at_number tokens cs k c e =
    ap (λ ks. slice_get ks k) (known_each tokens [] cs) ∙ each_at (known_after tokens) cs k c e ∙ ap (λ ks. Some (known_after tokens ks c)) (sym (known_each tokens [] (take k cs)))

pub known_past : (tokens : Tokens) (cs : List Constructor) (k : ℕ) → slice_get cs k ≡ None → slice_get (known_from tokens [] cs) k ≡ None
known_past tokens cs k e = ap (λ ks. slice_get ks k) (known_each tokens [] cs) ∙ each_past (known_after tokens) cs k e

-- ---- one constructor more of a type

choices_join : (k : ℕ) (xs ys : List Known) (t : TypeId) (w : List ℕ) (i : ℕ) → choices_from k (xs ++ ys) t w i ≡ choices_from k xs t w i ++ choices_from (k + length xs) ys t w i
choices_join k [] ys t w i = let n : k + 0 ≡ k = omega arith in ap (λ j. choices_from j ys t w i) (sym n)
choices_join k (x ∷ xs) ys t w i =
    let here = cond (makes t x.constructor.result) (map (choice_match k []) (x.body w i)) [] in
    let n : (k + 1) + length xs ≡ k + suc (length xs) = omega arith in
    ap (λ z. here ++ z) (choices_join (k + 1) xs ys t w i ∙ ap (λ j. choices_from (k + 1) xs t w i ++ choices_from j ys t w i) n)
    ∙ sym (append_assoc here (choices_from (k + 1) xs t w i) (choices_from (k + suc (length xs)) ys t w i))

type_len_more : (known : List Measured) (x : Measured) (t : TypeId) → type_len (known ++ x ∷ []) t ≡ max (type_len known t) (cond (makes t x.constructor.result) x.len 0)
type_len_more known x t = greatest_more 0 known
  where
    f : Measured → ℕ
    f c = cond (makes t c.constructor.result) c.len 0

    greatest_more : (a : ℕ) (ms : List Measured) → fold max a (map f (ms ++ x ∷ [])) ≡ max (fold max a (map f ms)) (f x)
    greatest_more a [] = refl
    greatest_more a (m ∷ ms) = greatest_more (max a (f m)) ms

module _ (tokens : Tokens) (cs : List Constructor) (k : ℕ) (c : Constructor) (t : TypeId) (l : k < length cs) (is : c ≡ get_or cs k c) where
  abbrev before : List Known
  before = known_from tokens [] (take k cs)

  abbrev body : Meaning
  body = (known_after tokens before c).body

  known_more : known_from tokens [] (take (k + 1) cs) ≡ before ++ known_after tokens before c ∷ []
  known_more =
      known_each tokens [] (take (k + 1) cs) ∙ each_more (known_after tokens) cs k c l is
      ∙ ap (λ ks. ks ++ known_after tokens ks c ∷ []) (sym (known_each tokens [] (take k cs)))

  count_before : length before ≡ k
  count_before =
      let long = each_length (known_after tokens) [] (take k cs) in let taken = length-take-le k cs (omega (arith, l)) in
      ap length (known_each tokens [] (take k cs)) ∙ omega (arith, long, taken)

  zero_front : 0 + length before ≡ k
  zero_front = let n = count_before in omega (arith, n)

  pub choices_more : (b : Bool) → makes t c.result ≡ b → (w : List ℕ) (i : ℕ)
      → choices_from 0 (known_from tokens [] (take (k + 1) cs)) t w i ≡ choices_from 0 before t w i ++ cond b (map (choice_match k []) (body w i)) []
  choices_more b e w i =
      ap (λ ks. choices_from 0 ks t w i) known_more ∙ choices_join 0 before (known_after tokens before c ∷ []) t w i
      ∙ ap (λ z. choices_from 0 before t w i ++ z)
      (append-nil (cond (makes t c.result) (map (choice_match (0 + length before) []) (body w i)) [])
      ∙ ap (λ v. cond v (map (choice_match (0 + length before) []) (body w i)) []) e ∙ ap (λ j. cond b (map (choice_match j []) (body w i)) []) zero_front)

  pub weights_more : (b : Bool) → makes t c.result ≡ b
      → type_weight (open_weights tokens (take (k + 1) cs)) t ≡ type_weight (open_weights tokens (take k cs)) t + cond b (open_weighed tokens (open_weights tokens (take k cs)) c).weight 0
  weights_more b e =
      let known = open_weights tokens (take k cs) in
      ap (λ ws. type_weight ws t) (each_more (open_weighed tokens) cs k c l is) ∙ law.type_weight_push known (open_weighed tokens known c) t
      ∙ ap (λ v. type_weight known t + cond v (open_weighed tokens known c).weight 0) e

  pub lens_more : (b : Bool) → makes t c.result ≡ b
      → type_len (lens_of tokens (take (k + 1) cs)) t ≡ max (type_len (lens_of tokens (take k cs)) t) (cond b (measured tokens (lens_of tokens (take k cs)) c).len 0)
  lens_more b e =
      let known = lens_of tokens (take k cs) in
      ap (λ ws. type_len ws t) (each_more (measured tokens) cs k c l is) ∙ type_len_more known (measured tokens known c) t
      ∙ ap (λ v. max (type_len known t) (cond v (measured tokens known c).len 0)) e
