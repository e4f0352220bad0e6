-- What is asked of a list of patterns, one pattern after the other.
use Rattle.std.proofs.Common.{◌≡◌, Bool, true, false, ◌&&◌, List, [], ◌∷◌, ◌++◌, map, refl, ap, ◌∙◌}
use Rattle.std.specs.List.{flat_map, list_all, fold}
use Rattle.std.proofs.lemmas.Bool.{and_parts, and_from}
use Rattle.std.proofs.lemmas.List.{map-append, append-nil}
use Rattle.std.proofs.lemmas.List.Concat.{flat_map-append}
use Rattle.std.proofs.lemmas.List.Folds.{list_all-append}
use Rattle.std.proofs.lemmas.List.Sums.{fold_push}
use Rattle.sled_model.specs.declared.shape.Shape.{Shape}
use Rattle.sled_model.specs.declared.pattern.Pattern.{Pattern}
use Rattle.sled_model.specs.Shapes.{each_with, fold_shapes, both_shape, all_agree, sides_agree, members_agree, are_closed, lefts_are_closed}

and_true : (b : Bool) → (b && true) ≡ b
and_true true = refl
and_true false = refl

and_assoc : (a b c : Bool) → (a && (b && c)) ≡ ((a && b) && c)
and_assoc true b c = refl
and_assoc false b c = refl

-- two pairs of tests, put together the other way
pub and_pairs : (l m a b : Bool) → ((l && m) && (a && b)) ≡ ((l && a) && (m && b))
and_pairs true true a b = refl
and_pairs true false true b = refl
and_pairs true false false b = refl
and_pairs false m a b = refl

-- a test that a later one implies
pub and_implied : (r f c b : Bool) → (b ≡ true → f ≡ true) → ((r && f) && (c && b)) ≡ ((r && c) && b)
and_implied true true c b h = refl
and_implied true false true true h = h refl
and_implied true false true false h = refl
and_implied true false false b h = refl
and_implied false f c b h = refl

pub list_all_push : {X : Type 0} (p : X → Bool) (xs : List X) (x : X) → list_all p (xs ++ x ∷ []) ≡ (list_all p xs && p x)
list_all_push p xs x = list_all-append p xs (x ∷ []) ∙ ap (λ b. list_all p xs && b) (and_true (p x))

pub fold_shapes_push : (op : Shape → Shape → Shape) (f : Pattern → List Shape) (p : Pattern) (ps : List Pattern) (q : Pattern)
    → fold_shapes op (map f ((p ∷ ps) ++ q ∷ [])) ≡ each_with op (fold_shapes op (map f (p ∷ ps))) (f q)
fold_shapes_push op f p ps q = ap (fold (each_with op) (f p)) (map-append f ps (q ∷ [])) ∙ fold_push (each_with op) (f p) (map f ps) (f q)

pub flat_map_push : (f : Pattern → List Shape) (ps : List Pattern) (q : Pattern) → flat_map f (ps ++ q ∷ []) ≡ flat_map f ps ++ f q
flat_map_push f ps q = flat_map-append f ps (q ∷ []) ∙ ap (λ ss. flat_map f ps ++ ss) (append-nil (f q))

sides_agree_push : (ss : List Shape) (sss : List (List Shape)) (ts : List Shape)
    → sides_agree ss (sss ++ ts ∷ []) ≡ (sides_agree ss sss && all_agree (fold (each_with both_shape) ss sss) ts)
sides_agree_push ss [] ts = and_true (all_agree ss ts)
sides_agree_push ss (us ∷ sss) ts =
    ap (λ b. all_agree ss us && b) (sides_agree_push (each_with both_shape ss us) sss ts)
    ∙ and_assoc (all_agree ss us) (sides_agree (each_with both_shape ss us) sss) (all_agree (fold (each_with both_shape) (each_with both_shape ss us) sss) ts)

pub members_agree_push : (f : Pattern → List Shape) (p : Pattern) (ps : List Pattern) (q : Pattern)
    → members_agree (map f ((p ∷ ps) ++ q ∷ [])) ≡ (members_agree (map f (p ∷ ps)) && all_agree (fold_shapes both_shape (map f (p ∷ ps))) (f q))
members_agree_push f p ps q = ap (sides_agree (f p)) (map-append f ps (q ∷ [])) ∙ sides_agree_push (f p) (map f ps) (f q)

lefts_push : (ss : List Shape) (sss : List (List Shape)) (ts : List Shape) → lefts_are_closed ((ss ∷ sss) ++ ts ∷ []) ≡ list_all are_closed (ss ∷ sss)
lefts_push ss [] ts = refl
lefts_push ss (us ∷ sss) ts = ap (λ b. are_closed ss && b) (lefts_push us sss ts)

pub lefts_are_closed_push : (f : Pattern → List Shape) (p : Pattern) (ps : List Pattern) (q : Pattern)
    → lefts_are_closed (map f ((p ∷ ps) ++ q ∷ [])) ≡ list_all are_closed (map f (p ∷ ps))
lefts_are_closed_push f p ps q = ap lefts_are_closed (map-append f (p ∷ ps) (q ∷ [])) ∙ lefts_push (f p) (map f ps) (f q)

pub all_closed_push : (f : Pattern → List Shape) (ps : List Pattern) (q : Pattern)
    → list_all are_closed (map f (ps ++ q ∷ [])) ≡ (list_all are_closed (map f ps) && are_closed (f q))
all_closed_push f ps q = ap (list_all are_closed) (map-append f ps (q ∷ [])) ∙ list_all_push are_closed (map f ps) (f q)

pub lefts_from_all : (sss : List (List Shape)) → list_all are_closed sss ≡ true → lefts_are_closed sss ≡ true
lefts_from_all [] h = refl
lefts_from_all (ss ∷ []) h = refl
lefts_from_all (ss ∷ ts ∷ sss) h =
    let parts = and_parts (are_closed ss) (list_all are_closed (ts ∷ sss)) h in
    and_from (are_closed ss) (lefts_are_closed (ts ∷ sss)) parts.0 (lefts_from_all (ts ∷ sss) parts.1)
