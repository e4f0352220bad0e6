-- The shapes of a pattern, and what is asked of them, in two contexts.
use Rattle.std.proofs.Common.{◌≡◌, ⊎_elim, ℕ, true, List, [], ◌∷◌, map, refl, ap, ◌∙◌, subst}
use Rattle.std.specs.List.{flat_map, list_all, fold, AllZip}
use Rattle.std.proofs.lemmas.Bool.{and_parts, and_from}
use Rattle.std.proofs.lemmas.List.Elements.{Contains-append_left, Contains-append_right, Contains-append_cases}
use Rattle.sled_model.specs.declared.shape.Shape.{Shape}
use Rattle.sled_model.specs.declared.pattern.Pattern.{Pattern, Row_of-Pattern, end_of-Pattern, more_of-Pattern}
use Rattle.sled_model.specs.declared.pattern.Pattern.TheVariants.{Token, Limit, Bind, Operand, Label', Both', Either', Chain', Loose', Apply', Empty}
use Rattle.sled_model.specs.Leaves.{IsNoApplication, AllLeaves, AllLeavesOfRow, NamesNoConstructor}
use Rattle.sled_model.specs.Shapes.{ShapeContext, shapes, row_shapes, field_shapes, boxed_shapes, fold_shapes, each_with, both_shape, chain_shape, loose_shape, shapes_agree, all_agree, sides_agree, members_agree, conjunctions_agree, row_agrees, are_closed, lefts_are_closed, chains_are_closed, row_is_closed, are_one_shape, sides_have_one_shape, row_has_one_shape}
use Rattle.sled_model.proofs.Members.{Contains-at, Contains-map, Contains-map_cases, list_all_at_member, list_all_from_members, same_bool}
use Rattle.sled_model.proofs.ShapeLemmas.{AreAmong, Same, list_all-within, one_shape-within, each_with-within}

-- ---- leaves

-- the pattern has no parts
abbrev pub IsLeaf : Pattern → Type 0
IsLeaf (Label' l s p) = ⊥
IsLeaf (Both' s ps) = ⊥
IsLeaf (Either' s ps) = ⊥
IsLeaf (Chain' s ps) = ⊥
IsLeaf (Loose' s p) = ⊥
IsLeaf _ = Unit {0}

module _ (P Q : Pattern → Type 0) (each : (p : Pattern) → IsLeaf p → P p → Q p) where
  mutual
    pub AllLeaves-weaker : (p : Pattern) → AllLeaves P p → AllLeaves Q p
    AllLeaves-weaker (Token c) h = each (Token c) tt h
    AllLeaves-weaker (Limit f relation limit) h = each (Limit f relation limit) tt h
    AllLeaves-weaker (Bind f) h = each (Bind f) tt h
    AllLeaves-weaker (Operand k) h = each (Operand k) tt h
    AllLeaves-weaker (Label' l s p) h = leaves_weaker p h
    AllLeaves-weaker (Both' s ps) h = leaves_weaker ps h
    AllLeaves-weaker (Either' s ps) h = leaves_weaker ps h
    AllLeaves-weaker (Chain' s ps) h = leaves_weaker ps h
    AllLeaves-weaker (Loose' s p) h = leaves_weaker p h
    AllLeaves-weaker (Apply' k s arguments) h = each (Apply' k s arguments) tt h
    AllLeaves-weaker Empty h = each Empty tt h

    leaves_weaker : {n : _} (ps : Row_of-Pattern n) → AllLeavesOfRow P ps → AllLeavesOfRow Q ps
    leaves_weaker end_of-Pattern h = tt
    leaves_weaker (more_of-Pattern p ps) h = (AllLeaves-weaker p h.0, leaves_weaker ps h.1)

-- ---- lists of which each is among another

abbrev AreEachAmong : List (List Shape) → List (List Shape) → Type 0
AreEachAmong = AllZip AreAmong

among_boxed : (sss tss : List (List Shape)) → AreEachAmong sss tss → AreAmong (boxed_shapes sss) (boxed_shapes tss)
among_boxed [] [] h = λ a m. m
among_boxed [] (ts ∷ tss) h = absurd h
among_boxed (ss ∷ sss) [] h = absurd h
among_boxed (ss ∷ sss) (ts ∷ tss) h = h.0

among_any : (sss tss : List (List Shape)) → AreEachAmong sss tss → AreAmong (flat_map (λ ss. ss) sss) (flat_map (λ ss. ss) tss)
among_any [] [] h = λ a m. m
among_any [] (ts ∷ tss) h = absurd h
among_any (ss ∷ sss) [] h = absurd h
among_any (ss ∷ sss) (ts ∷ tss) h = λ a m.
    let rest = flat_map (λ us. us) sss in let others = flat_map (λ us. us) tss in
    ⊎_elim (λ l. Contains-append_left ts others a (h.0 a l)) (λ r. Contains-append_right ts others a (among_any sss tss h.1 a r)) (Contains-append_cases ss rest a m)

module _ (op : Shape → Shape → Shape) where
  among_folds : (ss ts : List Shape) (sss tss : List (List Shape)) → AreAmong ss ts → AreEachAmong sss tss → AreAmong (fold (each_with op) ss sss) (fold (each_with op) ts tss)
  among_folds ss ts [] [] first h = first
  among_folds ss ts [] (vs ∷ tss) first h = absurd h
  among_folds ss ts (us ∷ sss) [] first h = absurd h
  among_folds ss ts (us ∷ sss) (vs ∷ tss) first h = among_folds (each_with op ss us) (each_with op ts vs) sss tss (each_with-within op ss ts us vs first h.0) h.1

  among_fold : (sss tss : List (List Shape)) → AreEachAmong sss tss → AreAmong (fold_shapes op sss) (fold_shapes op tss)
  among_fold [] [] h = λ a m. m
  among_fold [] (ts ∷ tss) h = absurd h
  among_fold (ss ∷ sss) [] h = absurd h
  among_fold (ss ∷ sss) (ts ∷ tss) h = among_folds ss ts sss tss h.0 h.1

among_loose : (ss ts : List Shape) → AreAmong ss ts → AreAmong (map loose_shape ss) (map loose_shape ts)
among_loose ss ts h = λ b m.
    let from = Contains-map_cases loose_shape ss b m in
    Contains-at (map loose_shape ts) (loose_shape from.0) b from.2 (Contains-map loose_shape ts from.0 (h from.0 from.1))

all_agree-within : (ss ts us vs : List Shape) → AreAmong ss ts → AreAmong us vs → all_agree ts vs ≡ true → all_agree ss us ≡ true
all_agree-within ss ts us vs first second h =
    list_all_from_members (λ a. list_all (shapes_agree a) us) ss
    (λ a m. list_all-within (shapes_agree a) vs us second (list_all_at_member (λ x. list_all (shapes_agree x) vs) ts a h (first a m)))

sides_agree-within : (ss ts : List Shape) (sss tss : List (List Shape)) → AreAmong ss ts → AreEachAmong sss tss → sides_agree ts tss ≡ true → sides_agree ss sss ≡ true
sides_agree-within ss ts [] [] first h agree = refl
sides_agree-within ss ts [] (vs ∷ tss) first h agree = absurd h
sides_agree-within ss ts (us ∷ sss) [] first h agree = absurd h
sides_agree-within ss ts (us ∷ sss) (vs ∷ tss) first h agree =
    let parts = and_parts (all_agree ts vs) (sides_agree (each_with both_shape ts vs) tss) agree in
    and_from (all_agree ss us) (sides_agree (each_with both_shape ss us) sss)
    (all_agree-within ss ts us vs first h.0 parts.0)
    (sides_agree-within (each_with both_shape ss us) (each_with both_shape ts vs) sss tss (each_with-within both_shape ss ts us vs first h.0) h.1 parts.1)

members_agree-within : (sss tss : List (List Shape)) → AreEachAmong sss tss → members_agree tss ≡ true → members_agree sss ≡ true
members_agree-within [] [] h agree = refl
members_agree-within [] (ts ∷ tss) h agree = absurd h
members_agree-within (ss ∷ sss) [] h agree = absurd h
members_agree-within (ss ∷ sss) (ts ∷ tss) h agree = sides_agree-within ss ts sss tss h.0 h.1 agree

closed-within : (ss ts : List Shape) → AreAmong ss ts → are_closed ts ≡ true → are_closed ss ≡ true
closed-within ss ts h closed = list_all-within _ ts ss h closed

lefts-within : (sss tss : List (List Shape)) → AreEachAmong sss tss → lefts_are_closed tss ≡ true → lefts_are_closed sss ≡ true
lefts-within [] [] h closed = refl
lefts-within [] (ts ∷ tss) h closed = absurd h
lefts-within (ss ∷ sss) [] h closed = absurd h
lefts-within (ss ∷ []) (ts ∷ []) h closed = refl
lefts-within (ss ∷ []) (ts ∷ vs ∷ tss) h closed = absurd h.1
lefts-within (ss ∷ us ∷ sss) (ts ∷ []) h closed = absurd h.1
lefts-within (ss ∷ us ∷ sss) (ts ∷ vs ∷ tss) h closed =
    let parts = and_parts (are_closed ts) (lefts_are_closed (vs ∷ tss)) closed in
    and_from (are_closed ss) (lefts_are_closed (us ∷ sss)) (closed-within ss ts h.0 parts.0) (lefts-within (us ∷ sss) (vs ∷ tss) h.1 parts.1)

-- ---- patterns whose leaves have their shapes among others

abbrev pub HasShapesAmong : ShapeContext → ShapeContext → Pattern → Type 0
HasShapesAmong cx dx p = AreAmong (shapes cx p) (shapes dx p)

module _ (cx dx : ShapeContext) where
  mutual
    pub shapes-within : (p : Pattern) → AllLeaves (HasShapesAmong cx dx) p → AreAmong (shapes cx p) (shapes dx p)
    shapes-within (Token c) h = h
    shapes-within (Limit f relation limit) h = h
    shapes-within (Bind f) h = h
    shapes-within (Operand k) h = h
    shapes-within (Label' l s p) h = among_boxed (row_shapes cx p) (row_shapes dx p) (row_shapes-within p h)
    shapes-within (Both' s ps) h = among_fold both_shape (row_shapes cx ps) (row_shapes dx ps) (row_shapes-within ps h)
    shapes-within (Either' s ps) h = among_any (row_shapes cx ps) (row_shapes dx ps) (row_shapes-within ps h)
    shapes-within (Chain' s ps) h = among_fold chain_shape (row_shapes cx ps) (row_shapes dx ps) (row_shapes-within ps h)
    shapes-within (Loose' s p) h =
        among_loose (boxed_shapes (row_shapes cx p)) (boxed_shapes (row_shapes dx p)) (among_boxed (row_shapes cx p) (row_shapes dx p) (row_shapes-within p h))
    shapes-within (Apply' k s arguments) h = h
    shapes-within Empty h = h

    row_shapes-within : {n : _} (ps : Row_of-Pattern n) → AllLeavesOfRow (HasShapesAmong cx dx) ps → AreEachAmong (row_shapes cx ps) (row_shapes dx ps)
    row_shapes-within end_of-Pattern h = tt
    row_shapes-within (more_of-Pattern p ps) h = (shapes-within p h.0, row_shapes-within ps h.1)

  mutual
    pub agree-within : (p : Pattern) → AllLeaves (HasShapesAmong cx dx) p → conjunctions_agree dx p ≡ true → conjunctions_agree cx p ≡ true
    agree-within (Token c) h agree = refl
    agree-within (Limit f relation limit) h agree = refl
    agree-within (Bind f) h agree = refl
    agree-within (Operand k) h agree = refl
    agree-within (Label' l s p) h agree = row_agrees-within p h agree
    agree-within (Both' s ps) h agree =
        let parts = and_parts (row_agrees dx ps) (members_agree (row_shapes dx ps)) agree in
        and_from (row_agrees cx ps) (members_agree (row_shapes cx ps)) (row_agrees-within ps h parts.0)
        (members_agree-within (row_shapes cx ps) (row_shapes dx ps) (row_shapes-within ps h) parts.1)
    agree-within (Either' s ps) h agree = row_agrees-within ps h agree
    agree-within (Chain' s ps) h agree = row_agrees-within ps h agree
    agree-within (Loose' s p) h agree = row_agrees-within p h agree
    agree-within (Apply' k s arguments) h agree = refl
    agree-within Empty h agree = refl

    row_agrees-within : {n : _} (ps : Row_of-Pattern n) → AllLeavesOfRow (HasShapesAmong cx dx) ps → row_agrees dx ps ≡ true → row_agrees cx ps ≡ true
    row_agrees-within end_of-Pattern h agree = refl
    row_agrees-within (more_of-Pattern p ps) h agree =
        let parts = and_parts (conjunctions_agree dx p) (row_agrees dx ps) agree in
        and_from (conjunctions_agree cx p) (row_agrees cx ps) (agree-within p h.0 parts.0) (row_agrees-within ps h.1 parts.1)

  mutual
    pub chains-within : (p : Pattern) → AllLeaves (HasShapesAmong cx dx) p → chains_are_closed dx p ≡ true → chains_are_closed cx p ≡ true
    chains-within (Token c) h closed = refl
    chains-within (Limit f relation limit) h closed = refl
    chains-within (Bind f) h closed = refl
    chains-within (Operand k) h closed = refl
    chains-within (Label' l s p) h closed = row_is_closed-within p h closed
    chains-within (Both' s ps) h closed = row_is_closed-within ps h closed
    chains-within (Either' s ps) h closed = row_is_closed-within ps h closed
    chains-within (Chain' s ps) h closed =
        let parts = and_parts (row_is_closed dx ps) (lefts_are_closed (row_shapes dx ps)) closed in
        and_from (row_is_closed cx ps) (lefts_are_closed (row_shapes cx ps)) (row_is_closed-within ps h parts.0)
        (lefts-within (row_shapes cx ps) (row_shapes dx ps) (row_shapes-within ps h) parts.1)
    chains-within (Loose' s p) h closed = row_is_closed-within p h closed
    chains-within (Apply' k s arguments) h closed = refl
    chains-within Empty h closed = refl

    row_is_closed-within : {n : _} (ps : Row_of-Pattern n) → AllLeavesOfRow (HasShapesAmong cx dx) ps → row_is_closed dx ps ≡ true → row_is_closed cx ps ≡ true
    row_is_closed-within end_of-Pattern h closed = refl
    row_is_closed-within (more_of-Pattern p ps) h closed =
        let parts = and_parts (chains_are_closed dx p) (row_is_closed dx ps) closed in
        and_from (chains_are_closed cx p) (row_is_closed cx ps) (chains-within p h.0 parts.0) (row_is_closed-within ps h.1 parts.1)

  mutual
    pub alike-within : (p : Pattern) → AllLeaves (HasShapesAmong cx dx) p → sides_have_one_shape dx p ≡ true → sides_have_one_shape cx p ≡ true
    alike-within (Token c) h alike = refl
    alike-within (Limit f relation limit) h alike = refl
    alike-within (Bind f) h alike = refl
    alike-within (Operand k) h alike = refl
    alike-within (Label' l s p) h alike = row_alike-within p h alike
    alike-within (Both' s ps) h alike = row_alike-within ps h alike
    alike-within (Either' s ps) h alike =
        let all = flat_map (λ ss. ss) (row_shapes cx ps) in let others = flat_map (λ ss. ss) (row_shapes dx ps) in
        let parts = and_parts (row_has_one_shape dx ps) (are_one_shape others) alike in
        and_from (row_has_one_shape cx ps) (are_one_shape all) (row_alike-within ps h parts.0)
        (one_shape-within others all (among_any (row_shapes cx ps) (row_shapes dx ps) (row_shapes-within ps h)) parts.1)
    alike-within (Chain' s ps) h alike = row_alike-within ps h alike
    alike-within (Loose' s p) h alike = row_alike-within p h alike
    alike-within (Apply' k s arguments) h alike = refl
    alike-within Empty h alike = refl

    row_alike-within : {n : _} (ps : Row_of-Pattern n) → AllLeavesOfRow (HasShapesAmong cx dx) ps → row_has_one_shape dx ps ≡ true → row_has_one_shape cx ps ≡ true
    row_alike-within end_of-Pattern h alike = refl
    row_alike-within (more_of-Pattern p ps) h alike =
        let parts = and_parts (sides_have_one_shape dx p) (row_has_one_shape dx ps) alike in
        and_from (sides_have_one_shape cx p) (row_has_one_shape cx ps) (alike-within p h.0 parts.0) (row_alike-within ps h.1 parts.1)

-- ---- patterns of the same shapes

-- in both contexts the pattern has the same shapes, apart from repeats and order, and the same is to be said of them
pub record HasSameForm (cx dx : ShapeContext) (p : Pattern) : Type 0 where
  pub members : Same (shapes cx p) (shapes dx p)
  pub agree : conjunctions_agree cx p ≡ conjunctions_agree dx p
  pub closed : chains_are_closed cx p ≡ chains_are_closed dx p
  pub alike : sides_have_one_shape cx p ≡ sides_have_one_shape dx p

abbrev pub HasSameShapes : ShapeContext → ShapeContext → Pattern → Type 0
HasSameShapes cx dx p = Same (shapes cx p) (shapes dx p)

-- which it has where its leaves have the same shapes
pub same_form : (cx dx : ShapeContext) (p : Pattern) → AllLeaves (HasSameShapes cx dx) p → HasSameForm cx dx p
same_form cx dx p h =
    let there = AllLeaves-weaker (HasSameShapes cx dx) (HasShapesAmong cx dx) (λ q l same a. (same a).0) p h in
    let back = AllLeaves-weaker (HasSameShapes cx dx) (HasShapesAmong dx cx) (λ q l same a. (same a).1) p h in
    record {
      members = λ a. (shapes-within cx dx p there a, shapes-within dx cx p back a);
      agree = same_bool (conjunctions_agree cx p) (conjunctions_agree dx p) (agree-within dx cx p back) (agree-within cx dx p there);
      closed = same_bool (chains_are_closed cx p) (chains_are_closed dx p) (chains-within dx cx p back) (chains-within cx dx p there);
      alike = same_bool (sides_have_one_shape cx p) (sides_have_one_shape dx p) (alike-within dx cx p back) (alike-within cx dx p there);
    }

equal_same : (ss ts : List Shape) → ss ≡ ts → Same ss ts
equal_same ss ts e = subst (Same ss) e (λ a. (λ m. m, λ m. m))

abbrev HasEqualShapes : ShapeContext → ShapeContext → Pattern → Type 0
HasEqualShapes cx dx p = shapes cx p ≡ shapes dx p

module _ (cx dx : ShapeContext) where
  mutual
    shapes-equal : (p : Pattern) → AllLeaves (HasEqualShapes cx dx) p → shapes cx p ≡ shapes dx p
    shapes-equal (Token c) h = h
    shapes-equal (Limit f relation limit) h = h
    shapes-equal (Bind f) h = h
    shapes-equal (Operand k) h = h
    shapes-equal (Label' l s p) h = ap boxed_shapes (row_shapes-equal p h)
    shapes-equal (Both' s ps) h = ap (fold_shapes both_shape) (row_shapes-equal ps h)
    shapes-equal (Either' s ps) h = ap (flat_map (λ ss. ss)) (row_shapes-equal ps h)
    shapes-equal (Chain' s ps) h = ap (fold_shapes chain_shape) (row_shapes-equal ps h)
    shapes-equal (Loose' s p) h = ap (λ sss. map loose_shape (boxed_shapes sss)) (row_shapes-equal p h)
    shapes-equal (Apply' k s arguments) h = h
    shapes-equal Empty h = h

    row_shapes-equal : {n : _} (ps : Row_of-Pattern n) → AllLeavesOfRow (HasEqualShapes cx dx) ps → row_shapes cx ps ≡ row_shapes dx ps
    row_shapes-equal end_of-Pattern h = refl
    row_shapes-equal (more_of-Pattern p ps) h = ap (λ ss. ss ∷ row_shapes cx ps) (shapes-equal p h.0) ∙ ap (λ sss. shapes dx p ∷ sss) (row_shapes-equal ps h.1)

module _ (cx dx : ShapeContext) (tokens : cx.tokens ≡ dx.tokens) where
  -- a leaf that names no constructor has the same shapes everywhere
  plain_leaf : (p : Pattern) → IsLeaf p → NamesNoConstructor p → shapes cx p ≡ shapes dx p
  plain_leaf (Token c) leaf h = refl
  plain_leaf (Limit f relation limit) leaf h = ap (λ t. field_shapes t f) tokens
  plain_leaf (Bind f) leaf h = ap (λ t. field_shapes t f) tokens
  plain_leaf (Operand k) leaf h = absurd h
  plain_leaf (Label' l s p) leaf h = absurd leaf
  plain_leaf (Both' s ps) leaf h = absurd leaf
  plain_leaf (Either' s ps) leaf h = absurd leaf
  plain_leaf (Chain' s ps) leaf h = absurd leaf
  plain_leaf (Loose' s p) leaf h = absurd leaf
  plain_leaf (Apply' k s arguments) leaf h = absurd h
  plain_leaf Empty leaf h = refl

  equal_leaf : ((k : ℕ) → cx.operands k ≡ dx.operands k) → (p : Pattern) → IsLeaf p → IsNoApplication p → shapes cx p ≡ shapes dx p
  equal_leaf operands (Token c) leaf h = plain_leaf (Token c) leaf tt
  equal_leaf operands (Limit f relation limit) leaf h = plain_leaf (Limit f relation limit) leaf tt
  equal_leaf operands (Bind f) leaf h = plain_leaf (Bind f) leaf tt
  equal_leaf operands (Operand k) leaf h = operands k
  equal_leaf operands (Label' l s p) leaf h = absurd leaf
  equal_leaf operands (Both' s ps) leaf h = absurd leaf
  equal_leaf operands (Either' s ps) leaf h = absurd leaf
  equal_leaf operands (Chain' s ps) leaf h = absurd leaf
  equal_leaf operands (Loose' s p) leaf h = absurd leaf
  equal_leaf operands (Apply' k s arguments) leaf h = absurd h
  equal_leaf operands Empty leaf h = refl

  same_leaf : ((k : ℕ) → Same (cx.operands k) (dx.operands k)) → (p : Pattern) → IsLeaf p → IsNoApplication p → HasSameShapes cx dx p
  same_leaf operands (Token c) leaf h = equal_same _ _ (plain_leaf (Token c) leaf tt)
  same_leaf operands (Limit f relation limit) leaf h = equal_same _ _ (plain_leaf (Limit f relation limit) leaf tt)
  same_leaf operands (Bind f) leaf h = equal_same _ _ (plain_leaf (Bind f) leaf tt)
  same_leaf operands (Operand k) leaf h = operands k
  same_leaf operands (Label' l s p) leaf h = absurd leaf
  same_leaf operands (Both' s ps) leaf h = absurd leaf
  same_leaf operands (Either' s ps) leaf h = absurd leaf
  same_leaf operands (Chain' s ps) leaf h = absurd leaf
  same_leaf operands (Loose' s p) leaf h = absurd leaf
  same_leaf operands (Apply' k s arguments) leaf h = absurd h
  same_leaf operands Empty leaf h = equal_same _ _ (plain_leaf Empty leaf tt)

  -- without applications, all that counts of a context is its tokens, and the shapes of each operand, apart from repeats and order
  pub operands_form : ((k : ℕ) → Same (cx.operands k) (dx.operands k)) → (p : Pattern) → AllLeaves IsNoApplication p → HasSameForm cx dx p
  operands_form operands p h = same_form cx dx p (AllLeaves-weaker IsNoApplication (HasSameShapes cx dx) (same_leaf operands) p h)

  pub operands_shapes : ((k : ℕ) → cx.operands k ≡ dx.operands k) → (p : Pattern) → AllLeaves IsNoApplication p → shapes cx p ≡ shapes dx p
  operands_shapes operands p h = shapes-equal cx dx p (AllLeaves-weaker IsNoApplication (HasEqualShapes cx dx) (equal_leaf operands) p h)

  -- and where no constructor is named, its tokens alone
  pub plain_form : (p : Pattern) → AllLeaves NamesNoConstructor p → HasSameForm cx dx p
  plain_form p h = same_form cx dx p (AllLeaves-weaker NamesNoConstructor (HasSameShapes cx dx) (λ q leaf plain. equal_same (shapes cx q) (shapes dx q) (plain_leaf q leaf plain)) p h)

  pub plain_shapes : (p : Pattern) → AllLeaves NamesNoConstructor p → shapes cx p ≡ shapes dx p
  plain_shapes p h = shapes-equal cx dx p (AllLeaves-weaker NamesNoConstructor (HasEqualShapes cx dx) plain_leaf p h)
