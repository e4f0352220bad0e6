-- Names in a table that is searched by hash.
use Rattle.std.proofs.Common.{◌≡◌, ◌≢◌, ℕ, ◌+◌, Bool, false, cond, List, [], ◌∷◌, ◌++◌, map, length, All, Some, None, refl, sym, ap, ◌∙◌}
use Rattle.std.specs.Prelude.{not, nat_lt, position, bytes_eq}
use Rattle.std.specs.List.{list_any, prefix_len}
use Rattle.std.proofs.lemmas.List.{length-map, map-append}
use Rattle.std.proofs.lemmas.List.Elements.{All-head, All-tail}
use Rattle.sled_base.proofs.NamesLemmas.{bytes_eq-false}
use Rattle.indexmap.specs.IndexSet.{insert_key}

prefix_len-map : {A B : Type 0} (p : B → Bool) (f : A → B) (xs : List A) → prefix_len p (map f xs) ≡ prefix_len (λ x. p (f x)) xs
prefix_len-map p f [] = refl
prefix_len-map p f (x ∷ xs) = ap (λ n. cond (p (f x)) (1 + n) 0) (prefix_len-map p f xs)

-- where an item is found by what it is mapped to
pub position-map : {A B : Type 0} (p : B → Bool) (f : A → B) (xs : List A) → position p (map f xs) ≡ position (λ x. p (f x)) xs
position-map p f xs =
    ap (λ n. cond (nat_lt n (length (map f xs))) (Some n) None) (prefix_len-map (λ y. not (p y)) f xs)
    ∙ ap (λ n. cond (nat_lt (prefix_len (λ x. not (p (f x))) xs) n) (Some (prefix_len (λ x. not (p (f x))) xs)) None) (length-map xs f)

module _ {A : Type 0} (name : A → List ℕ) where
  none_same : (keys : List A) (key : A) → All (λ other. other ≢ name key) (map name keys) → list_any (λ k. bytes_eq (name key) (name k)) keys ≡ false
  none_same [] key h = refl
  none_same (k ∷ keys) key h =
      let P = λ (other : List ℕ). other ≢ name key in
      rw (bytes_eq-false (name key) (name k) (λ e. All-head P (name k) (map name keys) h (sym e)), none_same keys key (All-tail P (name k) (map name keys) h)) refl

  -- a key whose name is none of the others' goes last
  pub insert_new : (keys : List A) (key : A) → All (λ other. other ≢ name key) (map name keys)
      → map name (insert_key (λ a b. bytes_eq (name a) (name b)) keys key) ≡ map name keys ++ name key ∷ []
  insert_new keys key h = ap (λ b. map name (cond b keys (keys ++ key ∷ []))) (none_same keys key h) ∙ map-append name keys (key ∷ [])
