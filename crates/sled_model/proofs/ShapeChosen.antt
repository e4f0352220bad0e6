-- The results of a body of which the choices for its operands are known.
use Rattle.std.proofs.Common.{◌≡◌, ⊎_elim, ℕ, ◌+◌, true, false, List, [], ◌∷◌, ◌++◌, length, map, filter, Contains, Option, Some, None, refl, sym, ap, ◌∙◌, subst, arith}
use Rattle.std.specs.List.{flat_map, fold, AllZip, slice_get}
use Rattle.std.proofs.lemmas.Bool.{and_parts, cond_both}
use Rattle.std.proofs.lemmas.List.{append_assoc, append-nil, length-append}
use Rattle.std.proofs.lemmas.List.Elements.{filter-append, Contains-append_left, Contains-append_right, Contains-append_cases}
use Rattle.token_bits.specs.declared.tokens.Tokens.{Tokens}
use Rattle.token_bits.specs.Tokens.{byte_count, token, token_len, value_at}
use Rattle.sled_model.specs.declared.raw.Match.{Match}
use Rattle.sled_model.specs.declared.raw.RawEntry.{RawEntry}
use Rattle.sled_model.specs.declared.raw.RawEntry.TheVariants.{Value}
use Rattle.sled_model.specs.declared.shape.Shape.{Shape}
use Rattle.sled_model.specs.declared.pattern.Pattern.{Pattern, Row_of-Pattern, end_of-Pattern, more_of-Pattern}
use Rattle.sled_model.specs.declared.pattern.Pattern.TheVariants.{Token, Limit, Bind, Operand, Label', Both', Either', Chain', Loose', Apply', Empty}
use Rattle.sled_model.specs.Results.{Context, Meaning, results, row_meanings, results_from, one_match, class_results, limit_results, bind_results, operand_results, has_relation, is_choice, operands_in, operands_in_row, both, both_match, agrees, chain, chain_match, either, fold_meanings, loose_match, label_match}
use Rattle.sled_model.specs.Shapes.{ShapeContext, shapes, row_shapes, each_with, both_shape, chain_shape, loose_shape, fold_shapes, all_agree, sides_agree, members_agree, conjunctions_agree, row_agrees}
use Rattle.sled_model.proofs.Members.{Contains-nil, Contains-cons_cases, Contains-map, Contains-map_cases, Contains-flat_map_cases, Contains-filter_cases}
use Rattle.sled_model.proofs.ShapeResults.{HasShape, IsShaped, HasShape-chain, HasShape-both, shaped_plain_leaf}

-- ---- bodies

abbrev mutual
  -- the pattern has no application, and no operand in a disjunction
  pub IsFixed : Pattern → Type 0
  IsFixed (Label' l s p) = IsFixedRow p
  IsFixed (Both' s ps) = IsFixedRow ps
  IsFixed (Either' s ps) = (operands_in_row ps ≡ []) × IsFixedRow ps
  IsFixed (Chain' s ps) = IsFixedRow ps
  IsFixed (Loose' s p) = IsFixedRow p
  IsFixed (Apply' k s arguments) = ⊥
  IsFixed _ = Unit {0}

  pub IsFixedRow : {n : _} → Row_of-Pattern n → Type 0
  IsFixedRow end_of-Pattern = Unit {0}
  IsFixedRow (more_of-Pattern p ps) = IsFixed p × IsFixedRow ps

-- the choices among the entries
abbrev pub choices : List RawEntry → List RawEntry
choices binds = filter is_choice binds

front_none : {X : Type 0} (xs ys : List X) → xs ++ ys ≡ [] → xs ≡ []
front_none [] ys e = refl
front_none (x ∷ xs) ys e = cc

back_none : {X : Type 0} (xs ys : List X) → xs ++ ys ≡ [] → ys ≡ []
back_none [] ys e = e
back_none (x ∷ xs) ys e = cc

zip_split : {X Y : Type 0} (R : X → Y → Type 0) (js ks : List X) (us vs : List Y) → length us ≡ length js → AllZip R (js ++ ks) (us ++ vs) → AllZip R js us × AllZip R ks vs
zip_split R [] ks [] vs e z = (tt, z)
zip_split R [] ks (u ∷ us) vs e z = absurd (omega arith)
zip_split R (j ∷ js) ks [] vs e z = absurd (omega arith)
zip_split R (j ∷ js) ks (u ∷ us) vs e z = let rest = zip_split R js ks us vs (omega arith) z.1 in ((z.0, rest.0), rest.1)

-- ---- results without choices

ChooseNothing : List Match → Type 0
ChooseNothing found = (a : Match) → Contains found a → choices a.binds ≡ []

nothing_none : ChooseNothing []
unfolding ChooseNothing
nothing_none a m = absurd (Contains-nil a m)

nothing_one : (binds : List RawEntry) (len : ℕ) → choices binds ≡ [] → ChooseNothing (one_match binds len)
unfolding ChooseNothing
nothing_one binds len e a m = ⊎_elim
    (λ (same : record { binds = binds; len = len; loose = false } ≡ a). subst (λ (b : Match). choices b.binds ≡ []) same e)
    (λ none. absurd (Contains-nil a none))
    (Contains-cons_cases (record { binds = binds; len = len; loose = false }) [] a m)

nothing_from : {A : Type 0} (o : Option A) (f : A → List Match) → ((x : A) → ChooseNothing (f x)) → ChooseNothing (results_from o f)
nothing_from None f h = nothing_none
nothing_from (Some x) f h = h x

-- ---- results with choices

-- the result has a choice for each of these operands, and one of the shapes where each of those choices is one that R allows
pub record IsChosen (tokens : Tokens) (R : ℕ → RawEntry → Type 0) (js : List ℕ) (ss : List Shape) (a : Match) : Type 0 where
  pub count : length (choices a.binds) ≡ length js
  pub shape : AllZip R js (choices a.binds) → HasShape tokens ss a

module _ (tokens : Tokens) (R : ℕ → RawEntry → Type 0) where
  -- so has each result of the meaning
  abbrev AreChosen : List ℕ → Meaning → List Shape → Type 0
  AreChosen js m ss = (bytes : List ℕ) (i : ℕ) (a : Match) → Contains (m bytes i) a → IsChosen tokens R js ss a

  chosen_plain : (m : Meaning) (ss : List Shape) → IsShaped tokens m ss → ((bytes : List ℕ) (i : ℕ) → ChooseNothing (m bytes i)) → AreChosen [] m ss
  unfolding ChooseNothing
  chosen_plain m ss h nothing bytes i a found = record { count = ap length (nothing bytes i a found); shape = λ z. h bytes i a found }

  chosen_joined : (js ks : List ℕ) (ss ts us : List Shape) (a b x : Match) → IsChosen tokens R js ss a → IsChosen tokens R ks ts b → x.binds ≡ a.binds ++ b.binds
      → (HasShape tokens ss a → HasShape tokens ts b → HasShape tokens us x) → IsChosen tokens R (js ++ ks) us x
  chosen_joined js ks ss ts us a b x first second binds joined =
      let es = choices a.binds in let fs = choices b.binds in
      let all : choices x.binds ≡ es ++ fs = ap choices binds ∙ filter-append is_choice a.binds b.binds in
      let whole = ap length all in let entries = length-append es fs in let numbers = length-append js ks in let one = first.count in let other = second.count in record {
        count = omega arith;
        shape = λ z. let parts = zip_split R js ks es fs first.count (subst (AllZip R (js ++ ks)) all z) in joined (first.shape parts.0) (second.shape parts.1);
      }

  chosen_chain : (js ks : List ℕ) (m n : Meaning) (ss ts : List Shape) → AreChosen js m ss → AreChosen ks n ts → AreChosen (js ++ ks) (chain m n) (each_with chain_shape ss ts)
  chosen_chain js ks m n ss ts first second bytes i x h =
      let from = Contains-flat_map_cases (λ (a : Match). map (chain_match a) (n bytes (i + a.len))) (m bytes i) x h in
      let at = Contains-map_cases (chain_match from.0) (n bytes (i + from.0.len)) x from.2 in
      subst (IsChosen tokens R (js ++ ks) (each_with chain_shape ss ts)) at.2
      (chosen_joined js ks ss ts (each_with chain_shape ss ts) from.0 at.0 (chain_match from.0 at.0) (first bytes i from.0 from.1) (second bytes (i + from.0.len) at.0 at.1) refl
      (HasShape-chain tokens ss ts from.0 at.0))

  chosen_both : (js ks : List ℕ) (m n : Meaning) (ss ts : List Shape) → AreChosen js m ss → AreChosen ks n ts → all_agree ss ts ≡ true
      → AreChosen (js ++ ks) (both m n) (each_with both_shape ss ts)
  chosen_both js ks m n ss ts first second agree bytes i x h =
      let from = Contains-flat_map_cases (λ (a : Match). map (both_match a) (filter (agrees a) (n bytes i))) (m bytes i) x h in
      let at = Contains-map_cases (both_match from.0) (filter (agrees from.0) (n bytes i)) x from.2 in
      subst (IsChosen tokens R (js ++ ks) (each_with both_shape ss ts)) at.2
      (chosen_joined js ks ss ts (each_with both_shape ss ts) from.0 at.0 (both_match from.0 at.0) (first bytes i from.0 from.1)
      (second bytes i at.0 (Contains-filter_cases (agrees from.0) (n bytes i) at.0 at.1).0) refl
      (HasShape-both tokens ss ts from.0 at.0 agree))

  wider_left : (js : List ℕ) (ss ts : List Shape) (a : Match) → IsChosen tokens R js ss a → IsChosen tokens R js (ss ++ ts) a
  wider_left js ss ts a h = record {
    count = h.count;
    shape = λ z. let of = h.shape z in record { shape = of.shape; member = Contains-append_left ss ts of.shape of.member; len = of.len; loose = of.loose };
  }

  wider_right : (js : List ℕ) (ss ts : List Shape) (a : Match) → IsChosen tokens R js ts a → IsChosen tokens R js (ss ++ ts) a
  wider_right js ss ts a h = record {
    count = h.count;
    shape = λ z. let of = h.shape z in record { shape = of.shape; member = Contains-append_right ss ts of.shape of.member; len = of.len; loose = of.loose };
  }

  chosen_either : (js : List ℕ) (m n : Meaning) (ss ts : List Shape) → AreChosen js m ss → AreChosen js n ts → AreChosen js (either m n) (ss ++ ts)
  chosen_either js m n ss ts first second bytes i x h = ⊎_elim
      (λ l. wider_left js ss ts x (first bytes i x l))
      (λ r. wider_right js ss ts x (second bytes i x r))
      (Contains-append_cases (m bytes i) (n bytes i) x h)

  -- ---- rows

  module _ (cx : Context) (sx : ShapeContext) where
    abbrev EachChosen : {n : _} → Row_of-Pattern n → Type 0
    EachChosen end_of-Pattern = Unit {0}
    EachChosen (more_of-Pattern p ps) = AreChosen (operands_in p) (results cx p) (shapes sx p) × EachChosen ps

    chains_from : {n : _} (ps : Row_of-Pattern n) (js : List ℕ) (m : Meaning) (ss : List Shape) → AreChosen js m ss → EachChosen ps
        → AreChosen (js ++ operands_in_row ps) (fold chain m (row_meanings cx ps)) (fold (each_with chain_shape) ss (row_shapes sx ps))
    chains_from end_of-Pattern js m ss first h = subst (λ ks. AreChosen ks m ss) (sym (append-nil js)) first
    chains_from (more_of-Pattern p ps) js m ss first h =
        let n = results cx p in let ts = shapes sx p in
        subst (λ ks. AreChosen ks (fold chain (chain m n) (row_meanings cx ps)) (fold (each_with chain_shape) (each_with chain_shape ss ts) (row_shapes sx ps)))
        (append_assoc js (operands_in p) (operands_in_row ps))
        (chains_from ps (js ++ operands_in p) (chain m n) (each_with chain_shape ss ts) (chosen_chain js (operands_in p) m n ss ts first h.0) h.1)

    chains : {n : _} (ps : Row_of-Pattern n) → EachChosen ps → AreChosen (operands_in_row ps) (fold_meanings chain (row_meanings cx ps)) (fold_shapes chain_shape (row_shapes sx ps))
    chains end_of-Pattern h = λ bytes i a m. absurd (Contains-nil a m)
    chains (more_of-Pattern p ps) h = chains_from ps (operands_in p) (results cx p) (shapes sx p) h.0 h.1

    boths_from : {n : _} (ps : Row_of-Pattern n) (js : List ℕ) (m : Meaning) (ss : List Shape) → AreChosen js m ss → EachChosen ps → sides_agree ss (row_shapes sx ps) ≡ true
        → AreChosen (js ++ operands_in_row ps) (fold both m (row_meanings cx ps)) (fold (each_with both_shape) ss (row_shapes sx ps))
    boths_from end_of-Pattern js m ss first h agree = subst (λ ks. AreChosen ks m ss) (sym (append-nil js)) first
    boths_from (more_of-Pattern p ps) js m ss first h agree =
        let n = results cx p in let ts = shapes sx p in
        let parts = and_parts (all_agree ss ts) (sides_agree (each_with both_shape ss ts) (row_shapes sx ps)) agree in
        subst (λ ks. AreChosen ks (fold both (both m n) (row_meanings cx ps)) (fold (each_with both_shape) (each_with both_shape ss ts) (row_shapes sx ps)))
        (append_assoc js (operands_in p) (operands_in_row ps))
        (boths_from ps (js ++ operands_in p) (both m n) (each_with both_shape ss ts) (chosen_both js (operands_in p) m n ss ts first h.0 parts.0) h.1 parts.1)

    boths : {n : _} (ps : Row_of-Pattern n) → EachChosen ps → members_agree (row_shapes sx ps) ≡ true
        → AreChosen (operands_in_row ps) (fold_meanings both (row_meanings cx ps)) (fold_shapes both_shape (row_shapes sx ps))
    boths end_of-Pattern h agree = λ bytes i a m. absurd (Contains-nil a m)
    boths (more_of-Pattern p ps) h agree = boths_from ps (operands_in p) (results cx p) (shapes sx p) h.0 h.1 agree

    eithers_from : {n : _} (ps : Row_of-Pattern n) (m : Meaning) (ss : List Shape) → operands_in_row ps ≡ [] → AreChosen [] m ss → EachChosen ps
        → AreChosen [] (fold either m (row_meanings cx ps)) (ss ++ flat_map (λ ts. ts) (row_shapes sx ps))
    eithers_from end_of-Pattern m ss none first h = λ bytes i a n. wider_left [] ss [] a (first bytes i a n)
    eithers_from (more_of-Pattern p ps) m ss none first h =
        let n = results cx p in let ts = shapes sx p in
        let next = subst (λ ks. AreChosen ks n ts) (front_none (operands_in p) (operands_in_row ps) none) h.0 in
        subst (λ us. AreChosen [] (fold either (either m n) (row_meanings cx ps)) us) (append_assoc ss ts (flat_map (λ us. us) (row_shapes sx ps)))
        (eithers_from ps (either m n) (ss ++ ts) (back_none (operands_in p) (operands_in_row ps) none) (chosen_either [] m n ss ts first next) h.1)

    eithers : {n : _} (ps : Row_of-Pattern n) → operands_in_row ps ≡ [] → EachChosen ps
        → AreChosen [] (fold_meanings either (row_meanings cx ps)) (flat_map (λ ss. ss) (row_shapes sx ps))
    eithers end_of-Pattern none h = λ bytes i a m. absurd (Contains-nil a m)
    eithers (more_of-Pattern p ps) none h =
        eithers_from ps (results cx p) (shapes sx p) (back_none (operands_in p) (operands_in_row ps) none)
        (subst (λ ks. AreChosen ks (results cx p) (shapes sx p)) (front_none (operands_in p) (operands_in_row ps) none) h.0) h.1

    boxed : (p : Pattern) → AreChosen (operands_in p) (results cx p) (shapes sx p) → AreChosen (operands_in p ++ []) (results cx p) (shapes sx p)
    boxed p h = subst (λ ks. AreChosen ks (results cx p) (shapes sx p)) (sym (append-nil (operands_in p))) h

    labelled : (l : ℕ) (js : List ℕ) (m : Meaning) (ss : List Shape) → AreChosen js m ss → (bytes : List ℕ) (i : ℕ) (a : Match) → Contains (map (label_match l i) (m bytes i)) a
        → IsChosen tokens R js ss a
    labelled l js m ss h bytes i a found =
        let from = Contains-map_cases (label_match l i) (m bytes i) a found in
        let of = h bytes i from.0 from.1 in
        subst (IsChosen tokens R js ss) from.2
        (record { count = of.count; shape = λ z. let b = of.shape z in record { shape = b.shape; member = b.member; len = b.len; loose = b.loose } })

    loosened : (js : List ℕ) (m : Meaning) (ss : List Shape) → AreChosen js m ss → (bytes : List ℕ) (i : ℕ) (a : Match) → Contains (map loose_match (m bytes i)) a
        → IsChosen tokens R js (map loose_shape ss) a
    loosened js m ss h bytes i a found =
        let from = Contains-map_cases loose_match (m bytes i) a found in
        let of = h bytes i from.0 from.1 in
        subst (IsChosen tokens R js (map loose_shape ss)) from.2 (record {
          count = of.count;
          shape = λ z. let b = of.shape z in record { shape = loose_shape b.shape; member = Contains-map loose_shape ss b.shape b.member; len = b.len; loose = refl };
        })

-- ---- patterns

module _ (cx : Context) (sx : ShapeContext) (same : cx.tokens ≡ sx.tokens) (R : ℕ → RawEntry → Type 0)
    (operand : (k : ℕ) (bytes : List ℕ) (i : ℕ) (a : Match) → Contains (operand_results cx k bytes i) a → IsChosen sx.tokens R (k ∷ []) (sx.operands k) a) where
  mutual
    -- a result of a body has a choice for each operand in it, and one of its shapes where R allows each, and so gives operands these
    -- shapes
    pub results_chosen : (p : Pattern) → IsFixed p → conjunctions_agree sx p ≡ true
        → (bytes : List ℕ) (i : ℕ) (a : Match) → Contains (results cx p bytes i) a → IsChosen sx.tokens R (operands_in p) (shapes sx p) a
    results_chosen (Token c) fixed agree =
        chosen_plain sx.tokens R (class_results cx.tokens c) (shapes sx (Token c)) (shaped_plain_leaf cx sx same (Token c) tt tt)
        (λ bytes i. nothing_from (slice_get cx.tokens.classes c.0) _ (λ class. nothing_from (token class bytes i) _ (λ n. nothing_one [] (byte_count class) refl)))
    results_chosen (Limit f relation limit) fixed agree =
        chosen_plain sx.tokens R (limit_results cx.tokens f relation limit) (shapes sx (Limit f relation limit)) (shaped_plain_leaf cx sx same (Limit f relation limit) tt tt)
        (λ bytes i. nothing_from (value_at cx.tokens f bytes i) _
        (λ value. cond_both (has_relation relation value limit) (one_match [] (token_len cx.tokens f)) [] ChooseNothing (λ yes. nothing_one [] (token_len cx.tokens f) refl) (λ no. nothing_none)))
    results_chosen (Bind f) fixed agree =
        chosen_plain sx.tokens R (bind_results cx.tokens f) (shapes sx (Bind f)) (shaped_plain_leaf cx sx same (Bind f) tt tt)
        (λ bytes i. nothing_from (value_at cx.tokens f bytes i) _ (λ value. nothing_one (Value f value i ∷ []) (token_len cx.tokens f) refl))
    results_chosen (Operand k) fixed agree = operand k
    results_chosen (Label' l s (more_of-Pattern p end_of-Pattern)) fixed agree =
        let inner = results_chosen p fixed.0 (and_parts (conjunctions_agree sx p) true agree).0 in
        labelled sx.tokens R cx sx l (operands_in p ++ []) (results cx p) (shapes sx p) (boxed sx.tokens R cx sx p inner)
    results_chosen (Both' s ps) fixed agree =
        let parts = and_parts (row_agrees sx ps) (members_agree (row_shapes sx ps)) agree in
        boths sx.tokens R cx sx ps (row_chosen ps fixed parts.0) parts.1
    results_chosen (Either' s ps) fixed agree =
        subst (λ ks. (bytes : List ℕ) (i : ℕ) (a : Match) → Contains (fold_meanings either (row_meanings cx ps) bytes i) a → IsChosen sx.tokens R ks (flat_map (λ ss. ss) (row_shapes sx ps)) a)
        (sym fixed.0) (eithers sx.tokens R cx sx ps fixed.0 (row_chosen ps fixed.1 agree))
    results_chosen (Chain' s ps) fixed agree = chains sx.tokens R cx sx ps (row_chosen ps fixed agree)
    results_chosen (Loose' s (more_of-Pattern p end_of-Pattern)) fixed agree =
        let inner = results_chosen p fixed.0 (and_parts (conjunctions_agree sx p) true agree).0 in
        loosened sx.tokens R cx sx (operands_in p ++ []) (results cx p) (shapes sx p) (boxed sx.tokens R cx sx p inner)
    results_chosen (Apply' k s arguments) fixed agree = absurd fixed
    results_chosen Empty fixed agree =
        chosen_plain sx.tokens R (λ bytes i. one_match [] 0) (shapes sx Empty) (shaped_plain_leaf cx sx same Empty tt tt) (λ bytes i. nothing_one [] 0 refl)

    row_chosen : {n : _} (ps : Row_of-Pattern n) → IsFixedRow ps → row_agrees sx ps ≡ true → EachChosen sx.tokens R cx sx ps
    row_chosen end_of-Pattern fixed agree = tt
    row_chosen (more_of-Pattern p ps) fixed agree =
        let parts = and_parts (conjunctions_agree sx p) (row_agrees sx ps) agree in
        (results_chosen p fixed.0 parts.0, row_chosen ps fixed.1 parts.1)
