-- Names that are new, and lists of names.
use Rattle.std.proofs.Common.{◌≡◌, ℕ, zero, suc, ◌+◌, ◌<◌, ◌≤◌, min, Bool, true, false, List, [], ◌∷◌, ◌++◌, length, map, take, get_or, cond, Bor, Option, Some, None, refl, sym, ap, ◌∙◌, subst, add-one, arith}
use Rattle.std.specs.Prelude.{not, ◌&&◌, ◌||◌, nat_lt, is_some, position, bytes_eq, option_map}
use Rattle.std.specs.List.{list_any, list_all, flat_map, position_or_len}
use Rattle.std.proofs.lemmas.Bool.Decides.{nat_tests}
use Rattle.std.proofs.lemmas.List.{length-map, get_or-map}
use Rattle.sled_parser.specs.declared.tree.PatternTree.{PatternTree}
use Rattle.sled_model.specs.declared.pattern.Pattern.{Pattern}
use Rattle.tree_meaning.specs.Names.{is_among, are_distinct, are_new}
use Rattle.tree_meaning.specs.Parts.{part_labels, parts, labels}
use Rattle.constructor_scopes.specs.Makings.{Made, one_for_each}

-- nothing is among no names
pub new_to_none : (ns : List (List ℕ)) → are_new [] ns ≡ true
new_to_none [] = refl
new_to_none (n ∷ ns) = new_to_none ns

-- where a name has a place, it is there
pub suc_below : (a b : ℕ) (t : Bool) → nat_lt a b ≡ t → nat_lt (suc a) (suc b) ≡ t
suc_below a b t h = grind (arith, nat_tests)

pub below_suc : (b : ℕ) → nat_lt 0 (suc b) ≡ true
below_suc b = grind (arith, nat_tests)

place_case : (t : Bool) (n m : ℕ) (later : Bool) → nat_lt n m ≡ later → nat_lt (cond (not t) (1 + n) 0) (suc m) ≡ (t || later)
place_case true n m later h = below_suc m
place_case false n m later h = ap (λ k. nat_lt k (suc m)) (let e : 1 + n ≡ suc n = omega arith in e) ∙ suc_below n m later h

pub place_of : {A : Type 0} (p : A → Bool) (xs : List A) → nat_lt (position_or_len p xs) (length xs) ≡ list_any p xs
place_of p [] = refl
place_of p (x ∷ xs) = place_case (p x) (position_or_len p xs) (length xs) (list_any p xs) (place_of p xs)

some_of : (t : Bool) (k : ℕ) → is_some (cond t (Some k) None) ≡ t
some_of true k = refl
some_of false k = refl

mapped_some : {A B : Type 0} (f : A → B) (o : Option A) → is_some o ≡ is_some (option_map f o)
mapped_some f None = refl
mapped_some f (Some x) = refl

-- what is found by its place is there
pub known_of : {A : Type 0} (f : A → ℕ) (o : Option A) (names : List (List ℕ)) (name : List ℕ) → option_map f o ≡ position (bytes_eq name) names → is_some o ≡ is_among names name
known_of f o names name at =
    mapped_some f o ∙ ap is_some at ∙ some_of (nat_lt (position_or_len (bytes_eq name) names) (length names)) (position_or_len (bytes_eq name) names) ∙ place_of (bytes_eq name) names

-- the labels of a pattern are those of its parts
flat_map-map : {A B C : Type 0} (g : B → List C) (f : A → B) (xs : List A) → flat_map (λ x. g (f x)) xs ≡ flat_map g (map f xs)
flat_map-map g f [] = refl
flat_map-map g f (x ∷ xs) = ap (λ rest. g (f x) ++ rest) (flat_map-map g f xs)

pub labels_of : {A : Type 0} (f : A → PatternTree) (xs : List A) (t : PatternTree) → map f xs ≡ parts t → flat_map (λ x. part_labels (f x)) xs ≡ labels t
labels_of f xs t is = flat_map-map part_labels f xs ∙ ap (flat_map part_labels) is

-- one constructor more
each_next : (ns : List (List ℕ)) (ps : List Pattern) (i : ℕ) (n : List ℕ) (p : Pattern) → i < length ns → i < length ps → n ≡ get_or ns i n → p ≡ get_or ps i p
    → one_for_each (take (suc i) ns) (take (suc i) ps) ≡ one_for_each (take i ns) (take i ps) ++ record { name = n; member = Some p } ∷ []
each_next [] ps i n p h k is at = absurd (omega arith)
each_next (m ∷ ns) [] i n p h k is at = absurd (omega arith)
each_next (m ∷ ns) (q ∷ ps) zero n p h k is at = ap (λ x. record { name = x; member = Some q } ∷ []) (sym is) ∙ ap (λ x. record { name = n; member = Some x } ∷ []) (sym at)
each_next (m ∷ ns) (q ∷ ps) (suc i) n p h k is at = ap (λ ms. record { name = m; member = Some q } ∷ ms) (each_next ns ps i n p (omega arith) (omega arith) is at)

pub each_more : (ns : List (List ℕ)) (ps : List Pattern) (i : ℕ) (n : List ℕ) (p : Pattern) → i < length ns → i < length ps → n ≡ get_or ns i n → p ≡ get_or ps i p
    → one_for_each (take (i + 1) ns) (take (i + 1) ps) ≡ one_for_each (take i ns) (take i ps) ++ record { name = n; member = Some p } ∷ []
each_more ns ps i n p h k is at = rw (add-one) (each_next ns ps i n p h k is at)

-- where the names stand behind references
pub each_step : (xs : List (Bor (List ℕ))) (ps : List Pattern) (i : ℕ) (d : Bor (List ℕ)) (p : Pattern) → i < length xs → i < length ps → p ≡ get_or ps i p
    → one_for_each (take (i + 1) (map (λ x. x.now) xs)) (take (i + 1) ps) ≡ one_for_each (take i (map (λ x. x.now) xs)) (take i ps) ++ record { name = (get_or xs i d).now; member = Some p } ∷ []
each_step xs ps i d p h k at =
    let n : List ℕ = (get_or xs i d).now in
    let within : i < length (map (λ (x : Bor (List ℕ)). x.now) xs) = rw length-map h in
    each_more (map (λ x. x.now) xs) ps i n p within k (sym (get_or-map (λ (x : Bor (List ℕ)). x.now) xs i d n h)) at

-- and there are as many as there are names and members
pub each_all : (n : ℕ) (ns : List (List ℕ)) (ps : List Pattern) → n ≡ min (length ns) (length ps) → one_for_each (take n ns) (take n ps) ≡ one_for_each ns ps
each_all n [] ps h = none n where
  none : (n : ℕ) → one_for_each (take n []) (take n ps) ≡ one_for_each [] ps
  none zero = refl
  none (suc n) = refl
each_all zero (m ∷ ns) [] h = refl
each_all (suc n) (m ∷ ns) [] h = absurd (omega arith)
each_all zero (m ∷ ns) (q ∷ ps) h = absurd (omega arith)
each_all (suc n) (m ∷ ns) (q ∷ ps) h = ap (λ ms. record { name = m; member = Some q } ∷ ms) (each_all n ns ps (omega arith))
