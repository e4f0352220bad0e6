-- What is asked of lists of shapes depends on their members alone.
use Rattle.std.proofs.Common.{◌≡◌, ◌↔◌, ⊎_elim, ℕ, Bool, true, false, cond, eqb, List, [], ◌∷◌, map, Contains, refl, sym, ap, ◌∙◌, subst}
use Rattle.std.specs.List.{list_all}
use Rattle.std.proofs.lemmas.Bool.{eqb-true, eq-eqb, and_parts, and_from}
use Rattle.token_bits.specs.declared.tokens.ClassId.{ClassId}
use Rattle.token_bits.specs.declared.tokens.Tokens.{Tokens}
use Rattle.sled_model.specs.declared.shape.Shape.{Shape}
use Rattle.sled_model.specs.Shapes.{each_with, shapes_agree, all_agree, are_closed, are_one_shape, is_same_shape, are_same_classes, are_same_bool, lengths_within}
use Rattle.sled_model.proofs.Members.{Contains-nil, Contains-here, Contains-there, Contains-cons_cases, Contains-map, Contains-map_cases, Contains-flat_map, Contains-flat_map_cases, list_all_at_member, list_all_from_members, same_bool}

-- ---- members of a product

pub Contains-each_with : (op : Shape → Shape → Shape) (ss ts : List Shape) (a b : Shape) → Contains ss a → Contains ts b → Contains (each_with op ss ts) (op a b)
Contains-each_with op ss ts a b h g = Contains-flat_map (λ (x : Shape). map (op x) ts) ss a (op a b) h (Contains-map (op a) ts b g)

pub Contains-each_with_cases : (op : Shape → Shape → Shape) (ss ts : List Shape) (s : Shape) → Contains (each_with op ss ts) s
    → (a : Shape) × (b : Shape) × Contains ss a × Contains ts b × (op a b ≡ s)
Contains-each_with_cases op ss ts s h =
    let first = Contains-flat_map_cases (λ (x : Shape). map (op x) ts) ss s h in
    let second = Contains-map_cases (op first.0) ts s first.2 in
    (first.0, second.0, first.1, second.1, second.2)

-- ---- equal shapes

same_id : (c d : ClassId) → c.0 ≡ d.0 → c ≡ d
same_id c d e = ap (λ n. record { 0 = n }) e

pub same_classes_equal : (cs ds : List ClassId) → are_same_classes cs ds ≡ true → cs ≡ ds
same_classes_equal [] [] h = refl
same_classes_equal [] (d ∷ ds) h = cc
same_classes_equal (c ∷ cs) [] h = cc
same_classes_equal (c ∷ cs) (d ∷ ds) h =
    let parts = and_parts (eqb c.0 d.0) (are_same_classes cs ds) h in
    ap (λ x. x ∷ cs) (same_id c d (eqb-true c.0 d.0 parts.0)) ∙ ap (λ xs. d ∷ xs) (same_classes_equal cs ds parts.1)

pub same_classes_self : (cs : List ClassId) → are_same_classes cs cs ≡ true
same_classes_self [] = refl
same_classes_self (c ∷ cs) = and_from (eqb c.0 c.0) (are_same_classes cs cs) (eq-eqb c.0 c.0 refl) (same_classes_self cs)

same_bool_equal : (a b : Bool) → are_same_bool a b ≡ true → a ≡ b
same_bool_equal true b h = sym h
same_bool_equal false true h = cc
same_bool_equal false false h = refl

same_bool_self : (a : Bool) → are_same_bool a a ≡ true
same_bool_self true = refl
same_bool_self false = refl

pub same_shape_equal : (a b : Shape) → is_same_shape a b ≡ true → a ≡ b
same_shape_equal a b h =
    let parts = and_parts (are_same_classes a.classes b.classes) (are_same_bool a.loose b.loose) h in
    ap (λ cs. record { classes = cs; loose = a.loose }) (same_classes_equal a.classes b.classes parts.0)
    ∙ ap (λ l. record { classes = b.classes; loose = l }) (same_bool_equal a.loose b.loose parts.1)

pub same_shape_self : (a : Shape) → is_same_shape a a ≡ true
same_shape_self a = and_from (are_same_classes a.classes a.classes) (are_same_bool a.loose a.loose) (same_classes_self a.classes) (same_bool_self a.loose)

-- ---- lists with the same members

-- each of the one list is in the other
abbrev pub AreAmong : List Shape → List Shape → Type 0
AreAmong ss ts = (a : Shape) → Contains ss a → Contains ts a

abbrev pub Same : List Shape → List Shape → Type 0
Same ss ts = (a : Shape) → Contains ss a ↔ Contains ts a

pub list_all-within : (p : Shape → Bool) (ss ts : List Shape) → AreAmong ts ss → list_all p ss ≡ true → list_all p ts ≡ true
list_all-within p ss ts within h = list_all_from_members p ts (λ a m. list_all_at_member p ss a h (within a m))

pub list_all-same : (p : Shape → Bool) (ss ts : List Shape) → Same ss ts → list_all p ss ≡ list_all p ts
list_all-same p ss ts same = same_bool (list_all p ss) (list_all p ts)
    (list_all-within p ss ts (λ a m. (same a).1 m))
    (list_all-within p ts ss (λ a m. (same a).0 m))

-- a caller who has the members of a pattern's shapes knows whether they are closed
pub are_closed-same : (ss ts : List Shape) → Same ss ts → are_closed ss ≡ are_closed ts
are_closed-same ss ts same = list_all-same (λ (a : Shape). cond a.loose false true) ss ts same

-- and what lengths they have
pub lengths_within-same : (least most : ℕ) (tokens : Tokens) (ss ts : List Shape) → Same ss ts → lengths_within least most tokens ss ≡ lengths_within least most tokens ts
lengths_within-same least most tokens ss ts same = list_all-same _ ss ts same

pub all_agree-same : (ss ts us vs : List Shape) → Same ss ts → Same us vs → all_agree ss us ≡ all_agree ts vs
all_agree-same ss ts us vs same other =
    same_bool (all_agree ss us) (all_agree ts vs)
    (λ h. list_all-within (λ a. list_all (shapes_agree a) vs) ss ts (λ a m. (same a).1 m)
    (list_all_from_members (λ a. list_all (shapes_agree a) vs) ss (λ a m. sym (list_all-same (shapes_agree a) us vs other) ∙ list_all_at_member (λ x. list_all (shapes_agree x) us) ss a h m)))
    (λ h. list_all-within (λ a. list_all (shapes_agree a) us) ts ss (λ a m. (same a).0 m)
    (list_all_from_members (λ a. list_all (shapes_agree a) us) ts (λ a m. list_all-same (shapes_agree a) us vs other ∙ list_all_at_member (λ x. list_all (shapes_agree x) vs) ts a h m)))

-- two members of a list of one shape are equal
pub one_shape_members : (ss : List Shape) (a b : Shape) → are_one_shape ss ≡ true → Contains ss a → Contains ss b → a ≡ b
one_shape_members [] a b h m n = absurd (Contains-nil a m)
one_shape_members (s ∷ ss) a b h m n = sym (is_first a m) ∙ is_first b n
  where
    is_first : (c : Shape) → Contains (s ∷ ss) c → s ≡ c
    is_first c l = ⊎_elim (λ e. e) (λ k. same_shape_equal s c (list_all_at_member (is_same_shape s) ss c h k)) (Contains-cons_cases s ss c l)

pub one_shape_from_members : (ss : List Shape) → ((a b : Shape) → Contains ss a → Contains ss b → a ≡ b) → are_one_shape ss ≡ true
one_shape_from_members [] h = refl
one_shape_from_members (s ∷ ss) h = list_all_from_members (is_same_shape s) ss
    (λ a m. subst (λ b. is_same_shape s b ≡ true) (h s a (Contains-here s ss) (Contains-there s ss a m)) (same_shape_self s))

pub one_shape-within : (ss ts : List Shape) → AreAmong ts ss → are_one_shape ss ≡ true → are_one_shape ts ≡ true
one_shape-within ss ts within h = one_shape_from_members ts (λ a b m n. one_shape_members ss a b h (within a m) (within b n))

pub are_one_shape-same : (ss ts : List Shape) → Same ss ts → are_one_shape ss ≡ are_one_shape ts
are_one_shape-same ss ts same = same_bool (are_one_shape ss) (are_one_shape ts)
    (one_shape-within ss ts (λ a m. (same a).1 m)) (one_shape-within ts ss (λ a m. (same a).0 m))

-- ---- products of lists with the same members

pub each_with-within : (op : Shape → Shape → Shape) (ss ts us vs : List Shape) → AreAmong ss ts → AreAmong us vs → AreAmong (each_with op ss us) (each_with op ts vs)
each_with-within op ss ts us vs first second s h =
    let found = Contains-each_with_cases op ss us s h in
    subst (λ z. Contains (each_with op ts vs) z) found.4 (Contains-each_with op ts vs found.0 found.1 (first found.0 found.2) (second found.1 found.3))

pub each_with-same : (op : Shape → Shape → Shape) (ss ts us vs : List Shape) → Same ss ts → Same us vs → Same (each_with op ss us) (each_with op ts vs)
each_with-same op ss ts us vs same other s = (
  each_with-within op ss ts us vs (λ a m. (same a).0 m) (λ a m. (other a).0 m) s,
  each_with-within op ts ss vs us (λ a m. (same a).1 m) (λ a m. (other a).1 m) s,
)
