-- Tests of every part of a tree.
use Rattle.std.proofs.Common.{◌≡◌, ℕ, zero, suc, ◌<◌, ◌≤◌, Bool, true, false, ◌&&◌, List, [], ◌∷◌, length, get_or, refl, sym, ap, ◌∙◌, arith}
use Rattle.std.specs.List.{list_all, flat_map}
use Rattle.std.proofs.lemmas.List.Folds.{list_all-append, length-flat_map-take}
use Rattle.sled_parser.specs.declared.tree.PatternTree.{PatternTree}
use Rattle.sled_parser.specs.declared.tree.PatternTree.TheVariants.{Either, Chain, Both, Labelled, Loose, Group}
use Rattle.tree_meaning.specs.Parts.{parts, parts_below}
use Rattle.tree_meaning.specs.Patterns.{has_part_in_range, has_all_in_range}
use Rattle.tree_meaning.proofs.TreeLaws.{parts_below-Either, parts_below-Chain, parts_below-Both, parts_below-Labelled, parts_below-Loose, parts_below-Group}

list_all-flat_map : {A B : Type 0} (p : B → Bool) (f : A → List B) (xs : List A) → list_all p (flat_map f xs) ≡ list_all (λ x. list_all p (f x)) xs
list_all-flat_map p f [] = refl
list_all-flat_map p f (x ∷ xs) = list_all-append p (f x) (flat_map f xs) ∙ ap (λ t. list_all p (f x) && t) (list_all-flat_map p f xs)

module _ (p : PatternTree → Bool) where
  -- the test holds of each part
  abbrev pub everywhere : PatternTree → Bool
  everywhere t = list_all p (parts t)

  pub everywhere-Either : (ts : List PatternTree) → everywhere (Either ts) ≡ (p (Either ts) && list_all everywhere ts)
  everywhere-Either ts = ap (λ t. p (Either ts) && t) (ap (list_all p) (parts_below-Either ts) ∙ list_all-flat_map p parts ts)

  pub everywhere-Chain : (ts : List PatternTree) → everywhere (Chain ts) ≡ (p (Chain ts) && list_all everywhere ts)
  everywhere-Chain ts = ap (λ t. p (Chain ts) && t) (ap (list_all p) (parts_below-Chain ts) ∙ list_all-flat_map p parts ts)

  pub everywhere-Both : (ts : List PatternTree) → everywhere (Both ts) ≡ (p (Both ts) && list_all everywhere ts)
  everywhere-Both ts = ap (λ t. p (Both ts) && t) (ap (list_all p) (parts_below-Both ts) ∙ list_all-flat_map p parts ts)

  pub everywhere-Labelled : (l : List ℕ) (t : PatternTree) → everywhere (Labelled l t) ≡ (p (Labelled l t) && everywhere t)
  everywhere-Labelled l t = ap (λ us. p (Labelled l t) && list_all p us) (parts_below-Labelled l t)

  pub everywhere-Loose : (t : PatternTree) → everywhere (Loose t) ≡ (p (Loose t) && everywhere t)
  everywhere-Loose t = ap (λ us. p (Loose t) && list_all p us) (parts_below-Loose t)

  pub everywhere-Group : (t : PatternTree) → everywhere (Group t) ≡ (p (Group t) && everywhere t)
  everywhere-Group t = ap (λ us. p (Group t) && list_all p us) (parts_below-Group t)

-- ---- what holds everywhere holds in the members

and_right : (s t : Bool) → (s && t) ≡ true → t ≡ true
and_right true t h = h
and_right false t h = cc

module _ (p : PatternTree → Bool) (t : PatternTree) (h : everywhere p t ≡ true) where
  pub in_Either : (ts : List PatternTree) → t ≡ Either ts → list_all (everywhere p) ts ≡ true
  in_Either ts is = and_right (p (Either ts)) (list_all (everywhere p) ts) (sym (everywhere-Either p ts) ∙ ap (everywhere p) (sym is) ∙ h)

  pub in_Chain : (ts : List PatternTree) → t ≡ Chain ts → list_all (everywhere p) ts ≡ true
  in_Chain ts is = and_right (p (Chain ts)) (list_all (everywhere p) ts) (sym (everywhere-Chain p ts) ∙ ap (everywhere p) (sym is) ∙ h)

  pub in_Both : (ts : List PatternTree) → t ≡ Both ts → list_all (everywhere p) ts ≡ true
  in_Both ts is = and_right (p (Both ts)) (list_all (everywhere p) ts) (sym (everywhere-Both p ts) ∙ ap (everywhere p) (sym is) ∙ h)

  pub in_Labelled : (l : List ℕ) (u : PatternTree) → t ≡ Labelled l u → everywhere p u ≡ true
  in_Labelled l u is = and_right (p (Labelled l u)) (everywhere p u) (sym (everywhere-Labelled p l u) ∙ ap (everywhere p) (sym is) ∙ h)

  pub in_Loose : (u : PatternTree) → t ≡ Loose u → everywhere p u ≡ true
  in_Loose u is = and_right (p (Loose u)) (everywhere p u) (sym (everywhere-Loose p u) ∙ ap (everywhere p) (sym is) ∙ h)

  pub in_Group : (u : PatternTree) → t ≡ Group u → everywhere p u ≡ true
  in_Group u is = and_right (p (Group u)) (everywhere p u) (sym (everywhere-Group p u) ∙ ap (everywhere p) (sym is) ∙ h)

-- ---- how many parts

module _ (t : PatternTree) where
  more : (us : List PatternTree) → parts_below t ≡ us → length us < length (parts t)
  more us is = let count = ap length is in omega (arith, count)

  pub count_Either : (ts : List PatternTree) → t ≡ Either ts → length (flat_map parts ts) < length (parts t)
  count_Either ts is = more (flat_map parts ts) (ap parts_below is ∙ parts_below-Either ts)

  pub count_Chain : (ts : List PatternTree) → t ≡ Chain ts → length (flat_map parts ts) < length (parts t)
  count_Chain ts is = more (flat_map parts ts) (ap parts_below is ∙ parts_below-Chain ts)

  pub count_Both : (ts : List PatternTree) → t ≡ Both ts → length (flat_map parts ts) < length (parts t)
  count_Both ts is = more (flat_map parts ts) (ap parts_below is ∙ parts_below-Both ts)

  pub count_Labelled : (l : List ℕ) (u : PatternTree) → t ≡ Labelled l u → length (parts u) < length (parts t)
  count_Labelled l u is = more (parts u) (ap parts_below is ∙ parts_below-Labelled l u)

  pub count_Loose : (u : PatternTree) → t ≡ Loose u → length (parts u) < length (parts t)
  count_Loose u is = more (parts u) (ap parts_below is ∙ parts_below-Loose u)

  pub count_Group : (u : PatternTree) → t ≡ Group u → length (parts u) < length (parts t)
  count_Group u is = more (parts u) (ap parts_below is ∙ parts_below-Group u)

-- a member has no more parts than the members together
pub count_member : (ts : List PatternTree) (i : ℕ) (t : PatternTree) → i < length ts → t ≡ get_or ts i t → length (parts t) ≤ length (flat_map parts ts)
count_member ts i t h is =
    let all = length-flat_map-take parts ts i t h in
    let same : length (parts t) ≡ length (parts (get_or ts i t)) = ap (λ u. length (parts u)) is in
    omega (arith, all, same)

and_left : (s r : Bool) → (s && r) ≡ true → s ≡ true
and_left true r e = refl
and_left false r e = cc

-- a test that holds of all holds of one
pub list_all-one : {A : Type 0} (q : A → Bool) (us : List A) (k : ℕ) (d : A) → k < length us → list_all q us ≡ true → q (get_or us k d) ≡ true
list_all-one q [] k d b a = absurd (omega (arith, b))
list_all-one q (u ∷ us) zero d b a = and_left (q u) (list_all q us) a
list_all-one q (u ∷ us) (suc k) d b a = list_all-one q us k d (omega (arith, b)) (and_right (q u) (list_all q us) a)

-- what holds everywhere in each of the members holds everywhere in one
pub in_member : (p : PatternTree → Bool) (ts : List PatternTree) (i : ℕ) (t : PatternTree) → i < length ts → t ≡ get_or ts i t → list_all (everywhere p) ts ≡ true → everywhere p t ≡ true
in_member p ts i t h is all = ap (everywhere p) is ∙ list_all-one (everywhere p) ts i t h all

-- two members whose numbers are in range
pub in_range_pair : (t u : PatternTree) → has_all_in_range t ≡ true → has_all_in_range u ≡ true → has_all_in_range (Both (t ∷ u ∷ [])) ≡ true
in_range_pair t u h k = everywhere-Both has_part_in_range (t ∷ u ∷ []) ∙ ap (λ s. s && (has_all_in_range u && true)) h ∙ ap (λ s. s && true) k
