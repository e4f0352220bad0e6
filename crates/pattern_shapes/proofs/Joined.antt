-- Lists of shapes that are put together without repeats have the members of what they are put together from.
use Rattle.std.proofs.Common.{◌≡◌, ◌≢◌, ◌⊎◌, inl, inr, ⊎_elim, true, List, [], ◌∷◌, ◌++◌, map, reverse, get_or, Contains, sym, subst, arith}
use Rattle.std.proofs.lemmas.Bool.{both_ways, or_cases, or_left, or_right, cond_both}
use Rattle.std.proofs.lemmas.List.Elements.{Contains-append_left, Contains-append_right, Contains-append_cases, Contains-push, Contains-push_cases, Contains-get_or}
use Rattle.std.proofs.lemmas.List.Quantifiers.{all_pairs_push}
use Rattle.std.proofs.lemmas.Grind.{reverse_onto}
use Rattle.sled_model.specs.declared.shape.Shape.{Shape}
use Rattle.sled_model.specs.Shapes.{is_same_shape, loose_shape, each_with}
use Rattle.sled_model.proofs.Members.{Contains-nil, Contains-here, Contains-there, Contains-cons_cases, Contains-at, Contains-map, Contains-map_cases}
use Rattle.sled_model.proofs.ShapeLemmas.{same_shape_equal, same_shape_self, each_with-same}
use Rattle.pattern_shapes.specs.Forms.{SameMembers, IsOnce, has, with_shape, with_shapes}

has_member : (ss : List Shape) (a : Shape) → has ss a ≡ true → Contains ss a
has_member [] a h = cc
has_member (s ∷ ss) a h = ⊎_elim
    (λ e. Contains-at (s ∷ ss) s a (sym (same_shape_equal a s e)) (Contains-here s ss))
    (λ r. Contains-there s ss a (has_member ss a r))
    (or_cases (is_same_shape a s) (has ss a) h)

member_has : (ss : List Shape) (a : Shape) → Contains ss a → has ss a ≡ true
member_has [] a m = absurd (Contains-nil a m)
member_has (s ∷ ss) a m = ⊎_elim
    (λ e. or_left (is_same_shape a s) (has ss a) (subst (λ b. is_same_shape a b ≡ true) (sym e) (same_shape_self a)))
    (λ r. or_right (is_same_shape a s) (has ss a) (member_has ss a r))
    (Contains-cons_cases s ss a m)

with_shape_cases : (ss : List Shape) (a b : Shape) → Contains (with_shape ss a) b → Contains ss b ⊎ (a ≡ b)
with_shape_cases ss a b = cond_both (has ss a) ss (ss ++ a ∷ []) (λ us. Contains us b → Contains ss b ⊎ (a ≡ b)) (λ yes m. inl m) (λ no m. Contains-push_cases ss a b m)

with_shape_old : (ss : List Shape) (a b : Shape) → Contains ss b → Contains (with_shape ss a) b
with_shape_old ss a b m = cond_both (has ss a) ss (ss ++ a ∷ []) (λ us. Contains us b) (λ yes. m) (λ no. Contains-append_left ss (a ∷ []) b m)

with_shape_new : (ss : List Shape) (a : Shape) → Contains (with_shape ss a) a
with_shape_new ss a = cond_both (has ss a) ss (ss ++ a ∷ []) (λ us. Contains us a) (λ yes. has_member ss a yes) (λ no. Contains-push ss a)

with_shape_once : (ss : List Shape) (a : Shape) → IsOnce ss → IsOnce (with_shape ss a)
with_shape_once ss a once = cond_both (has ss a) ss (ss ++ a ∷ []) (λ us. IsOnce us) (λ yes. once)
    (λ no. all_pairs_push (λ x y. x ≢ y) ss a once
    (λ k d l e. both_ways (has ss a) no (member_has ss a (Contains-at ss (get_or ss k d) a e (Contains-get_or ss k d l)))))

with_shapes_old : (ss ts : List Shape) (b : Shape) → Contains ss b → Contains (with_shapes ss ts) b
with_shapes_old ss [] b m = m
with_shapes_old ss (t ∷ ts) b m = with_shapes_old (with_shape ss t) ts b (with_shape_old ss t b m)

with_shapes_new : (ss ts : List Shape) (b : Shape) → Contains ts b → Contains (with_shapes ss ts) b
with_shapes_new ss [] b m = absurd (Contains-nil b m)
with_shapes_new ss (t ∷ ts) b m = ⊎_elim
    (λ e. with_shapes_old (with_shape ss t) ts b (Contains-at (with_shape ss t) t b e (with_shape_new ss t)))
    (λ r. with_shapes_new (with_shape ss t) ts b r)
    (Contains-cons_cases t ts b m)

with_shapes_cases : (ss ts : List Shape) (b : Shape) → Contains (with_shapes ss ts) b → Contains ss b ⊎ Contains ts b
with_shapes_cases ss [] b m = inl m
with_shapes_cases ss (t ∷ ts) b m = ⊎_elim
    (λ l. ⊎_elim (λ o. inl o) (λ e. inr (Contains-at (t ∷ ts) t b e (Contains-here t ts))) (with_shape_cases ss t b l))
    (λ r. inr (Contains-there t ts b r))
    (with_shapes_cases (with_shape ss t) ts b m)

pub with_shapes_once : (ss ts : List Shape) → IsOnce ss → IsOnce (with_shapes ss ts)
with_shapes_once ss [] once = once
with_shapes_once ss (t ∷ ts) once = with_shapes_once (with_shape ss t) ts (with_shape_once ss t once)

pub once_none : IsOnce []
once_none i j d l m = absurd (omega arith)

pub once_one : (a : Shape) → IsOnce (a ∷ [])
once_one a i j d l m = absurd (omega arith)

-- ---- members

reverse_cases : (ss : List Shape) (b : Shape) → Contains (reverse ss) b → Contains ss b
reverse_cases [] b m = m
reverse_cases (s ∷ ss) b m = ⊎_elim
    (λ l. Contains-there s ss b (reverse_cases ss b l))
    (λ r. Contains-append_left (s ∷ []) ss b r)
    (Contains-append_cases (reverse ss) (s ∷ []) b (subst (λ us. Contains us b) (reverse_onto ss s []) m))

reverse_member : (ss : List Shape) (b : Shape) → Contains ss b → Contains (reverse ss) b
reverse_member [] b m = m
reverse_member (s ∷ ss) b m = subst (λ us. Contains us b) (sym (reverse_onto ss s [])) (⊎_elim
    (λ e. Contains-append_right (reverse ss) (s ∷ []) b (Contains-at (s ∷ []) s b e (Contains-here s [])))
    (λ r. Contains-append_left (reverse ss) (s ∷ []) b (reverse_member ss b r))
    (Contains-cons_cases s ss b m))

pub same_self : (ss : List Shape) → SameMembers ss ss
same_self ss b = (λ m. m, λ m. m)

pub same_then : (ss ts us : List Shape) → SameMembers ss ts → SameMembers ts us → SameMembers ss us
same_then ss ts us first second b = (λ m. (second b).0 ((first b).0 m), λ m. (first b).1 ((second b).1 m))

pub same_distinct : (ts : List Shape) → SameMembers (with_shapes [] ts) ts
same_distinct ts b = (λ m. ⊎_elim (λ none. absurd (Contains-nil b none)) (λ r. r) (with_shapes_cases [] ts b m), λ m. with_shapes_new [] ts b m)

pub same_with : (ss ss' ts ts' : List Shape) → SameMembers ss ss' → SameMembers ts ts' → SameMembers (with_shapes ss (reverse ts)) (ss' ++ ts')
same_with ss ss' ts ts' first second b = (
  λ m. ⊎_elim
      (λ l. Contains-append_left ss' ts' b ((first b).0 l))
      (λ r. Contains-append_right ss' ts' b ((second b).0 (reverse_cases ts b r)))
      (with_shapes_cases ss (reverse ts) b m),
  λ m. ⊎_elim
      (λ l. with_shapes_old ss (reverse ts) b ((first b).1 l))
      (λ r. with_shapes_new ss (reverse ts) b (reverse_member ts b ((second b).1 r)))
      (Contains-append_cases ss' ts' b m),
)

map-within : (f : Shape → Shape) (ss ts : List Shape) → ((a : Shape) → Contains ss a → Contains ts a) → (b : Shape) → Contains (map f ss) b → Contains (map f ts) b
map-within f ss ts within b m =
    let from = Contains-map_cases f ss b m in
    Contains-at (map f ts) (f from.0) b from.2 (Contains-map f ts from.0 (within from.0 from.1))

pub same_loose : (ss ts : List Shape) → SameMembers ss ts → SameMembers (with_shapes [] (map loose_shape (reverse ss))) (map loose_shape ts)
same_loose ss ts same = same_then (with_shapes [] (map loose_shape (reverse ss))) (map loose_shape (reverse ss)) (map loose_shape ts)
    (same_distinct (map loose_shape (reverse ss)))
    (λ b. (map-within loose_shape (reverse ss) ts (λ a m. (same a).0 (reverse_cases ss a m)) b, map-within loose_shape ts (reverse ss) (λ a m. reverse_member ss a ((same a).1 m)) b))

pub same_product : (op : Shape → Shape → Shape) (ss ss' ts ts' : List Shape) → SameMembers ss ss' → SameMembers ts ts'
    → SameMembers (with_shapes [] (each_with op ss ts)) (each_with op ss' ts')
same_product op ss ss' ts ts' first second = same_then (with_shapes [] (each_with op ss ts)) (each_with op ss ts) (each_with op ss' ts')
    (same_distinct (each_with op ss ts)) (each_with-same op ss ss' ts ts' first second)

-- ---- lists that are added to

pub same_added : (ss ts found : List Shape) → found ≡ with_shapes ss (reverse ts) → SameMembers found (ss ++ ts)
same_added ss ts found e = subst (λ us. SameMembers us (ss ++ ts)) (sym e) (same_with ss ss ts ts (same_self ss) (same_self ts))

pub once_added : (ss ts found : List Shape) → found ≡ with_shapes ss (reverse ts) → IsOnce ss → IsOnce found
once_added ss ts found e once = subst IsOnce (sym e) (with_shapes_once ss (reverse ts) once)
