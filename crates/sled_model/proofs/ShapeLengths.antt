-- The length of a pattern that names no constructor is that of one of its shapes, where its conjunctions agree.
use Rattle.std.proofs.Common.{◌≡◌, ◌⊎◌, inl, inr, ℕ, ◌+◌, ◌<◌, ◌≤◌, max, true, false, ◌&&◌, leb, List, [], ◌∷◌, ◌++◌, length, map, All, Contains, Option, Some, None, IsSome, sym, subst, arith}
use Rattle.std.specs.List.{flat_map, fold, sum, AllZip, slice_get, list_all}
use Rattle.std.specs.Option.{option_map_or, option_and_then}
use Rattle.std.proofs.lemmas.Bool.{and_parts, leb-true, cases_lt}
use Rattle.std.proofs.lemmas.List.{append_assoc}
use Rattle.std.proofs.lemmas.List.Elements.{All-head, All-tail, Contains-append_left, Contains-append_right}
use Rattle.token_bits.specs.declared.tokens.ClassId.{ClassId}
use Rattle.token_bits.specs.declared.tokens.Field.{Field}
use Rattle.token_bits.specs.declared.tokens.FieldId.{FieldId}
use Rattle.token_bits.specs.declared.tokens.Tokens.{Tokens}
use Rattle.token_bits.specs.Tokens.{byte_count, token_len}
use Rattle.sled_model.specs.declared.shape.Shape.{Shape}
use Rattle.sled_model.specs.declared.spec.Spec.{Spec}
use Rattle.sled_model.specs.declared.pattern.Pattern.{Pattern, Row_of-Pattern, end_of-Pattern, more_of-Pattern, items-the_row-Pattern, items_hidden-the_row-Pattern-1}
use Rattle.sled_model.specs.declared.pattern.Pattern.TheVariants.{Token, Limit, Bind, Operand, Label', Both', Either', Chain', Loose', Apply', Empty, Label, Both, Either, Chain, Loose}
use Rattle.sled_model.specs.declared.pattern.Argument.TheBlock.{hidden-the_row-Pattern-0, hidden-the_row-Pattern-1}
use denote.Hole.Carrier.{hidden}
use Rattle.sled_model.specs.Leaves.{AllLeaves, AllLeavesOfRow, NamesNoConstructor, NamesKnownField, IsFilledRow, HasFilledLists, RowHasFilledLists}
use Rattle.sled_model.specs.Measures.{Measured, longest, row_lens, boxed_number, greatest, pattern_len, each_from, measured}
use Rattle.sled_model.specs.Shapes.{ShapeContext, shapes, row_shapes, rigid, field_shapes, loose_shape, chain_shape, both_shape, each_with, fold_shapes, boxed_shapes, shapes_agree, all_agree, sides_agree, members_agree, conjunctions_agree, row_agrees, class_bytes, shape_bytes, lengths_within}
use Rattle.sled_model.proofs.Members.{Contains-here, Contains-map, list_all_at_member}
use Rattle.sled_model.proofs.ShapeLemmas.{Contains-each_with}
use Rattle.sled_model.proofs.ShapeResults.{bytes_of, bytes_of-cons, bytes_of-append, nested_marks, longer}

-- one of the shapes has so many bytes at least
pub record Reaches (tokens : Tokens) (n : ℕ) (ss : List Shape) : Type 0 where
  pub shape : Shape
  pub member : Contains ss shape
  pub bytes : n ≤ shape_bytes tokens shape

abbrev EachReaches : Tokens → List ℕ → List (List Shape) → Type 0
EachReaches tokens = AllZip (Reaches tokens)

module _ (tokens : Tokens) where
  -- ---- tokens

  reaches_rigid : (n : ℕ) (cs : List ClassId) → n ≤ bytes_of tokens cs → Reaches tokens n (rigid cs)
  reaches_rigid n cs h = record { shape = record { classes = cs; loose = false }; member = Contains-here _ []; bytes = h }

  reaches_class : (c : ClassId) → Reaches tokens (class_bytes tokens c) (rigid (c ∷ []))
  reaches_class c = reaches_rigid (class_bytes tokens c) (c ∷ []) (omega (arith, bytes_of-cons tokens c []))

  reaches_field : (o : Option Field) → IsSome o
      → Reaches tokens (option_map_or byte_count (option_and_then (λ (field : Field). slice_get tokens.classes field.class.0) o) 0) (option_map_or (λ (field : Field). rigid (field.class ∷ [])) o [])
  reaches_field None h = cc
  reaches_field (Some field) h = reaches_class field.class

  -- ---- operators

  reaches_chain : (m n : ℕ) (ss ts : List Shape) → Reaches tokens m ss → Reaches tokens n ts → Reaches tokens (m + n) (each_with chain_shape ss ts)
  reaches_chain m n ss ts a b = record {
    shape = chain_shape a.shape b.shape;
    member = Contains-each_with chain_shape ss ts a.shape b.shape a.member b.member;
    bytes = omega (arith, bytes_of-append tokens a.shape.classes b.shape.classes, a.bytes, b.bytes);
  }

  reaches_both : (m n : ℕ) (ss ts : List Shape) → Reaches tokens m ss → Reaches tokens n ts → all_agree ss ts ≡ true → Reaches tokens (max m n) (each_with both_shape ss ts)
  reaches_both m n ss ts a b agree =
      let agreed = list_all_at_member (shapes_agree a.shape) ts b.shape (list_all_at_member (λ s. list_all (shapes_agree s) ts) ss a.shape agree a.member) b.member in
      let nested = nested_marks a.shape.loose b.shape.loose a.shape.classes b.shape.classes agreed in
      record {
        shape = both_shape a.shape b.shape;
        member = Contains-each_with both_shape ss ts a.shape b.shape a.member b.member;
        bytes = omega (arith, longer tokens a.shape.classes b.shape.classes nested, a.bytes, b.bytes);
      }

  reaches_either : (m n : ℕ) (ss ts : List Shape) → Reaches tokens m ss → Reaches tokens n ts → Reaches tokens (max m n) (ss ++ ts)
  reaches_either m n ss ts a b = by_order (cases_lt m n)
    where
      by_order : (m < n) ⊎ (n ≤ m) → Reaches tokens (max m n) (ss ++ ts)
      by_order (inl less) = record { shape = b.shape; member = Contains-append_right ss ts b.shape b.member; bytes = omega (arith, b.bytes) }
      by_order (inr more) = record { shape = a.shape; member = Contains-append_left ss ts a.shape a.member; bytes = omega (arith, a.bytes) }

  -- ---- rows

  chains_from : (m : ℕ) (ss : List Shape) (ns : List ℕ) (sss : List (List Shape)) → Reaches tokens m ss → EachReaches tokens ns sss
      → Reaches tokens (fold (λ a b. a + b) m ns) (fold (each_with chain_shape) ss sss)
  chains_from m ss [] [] first h = first
  chains_from m ss [] (ts ∷ sss) first h = absurd h
  chains_from m ss (n ∷ ns) [] first h = absurd h
  chains_from m ss (n ∷ ns) (ts ∷ sss) first h = chains_from (m + n) (each_with chain_shape ss ts) ns sss (reaches_chain m n ss ts first h.0) h.1

  boths_from : (m : ℕ) (ss : List Shape) (ns : List ℕ) (sss : List (List Shape)) → Reaches tokens m ss → EachReaches tokens ns sss → sides_agree ss sss ≡ true
      → Reaches tokens (fold max m ns) (fold (each_with both_shape) ss sss)
  boths_from m ss [] [] first h agree = first
  boths_from m ss [] (ts ∷ sss) first h agree = absurd h
  boths_from m ss (n ∷ ns) [] first h agree = absurd h
  boths_from m ss (n ∷ ns) (ts ∷ sss) first h agree =
      let parts = and_parts (all_agree ss ts) (sides_agree (each_with both_shape ss ts) sss) agree in
      boths_from (max m n) (each_with both_shape ss ts) ns sss (reaches_both m n ss ts first h.0 parts.0) h.1 parts.1

  eithers_from : (m : ℕ) (ss : List Shape) (ns : List ℕ) (sss : List (List Shape)) → Reaches tokens m ss → EachReaches tokens ns sss
      → Reaches tokens (fold max m ns) (ss ++ flat_map (λ ts. ts) sss)
  eithers_from m ss [] [] first h = record { shape = first.shape; member = Contains-append_left ss [] first.shape first.member; bytes = first.bytes }
  eithers_from m ss [] (ts ∷ sss) first h = absurd h
  eithers_from m ss (n ∷ ns) [] first h = absurd h
  eithers_from m ss (n ∷ ns) (ts ∷ sss) first h =
      subst (Reaches tokens (fold max (max m n) ns)) (append_assoc ss ts (flat_map (λ us. us) sss))
      (eithers_from (max m n) (ss ++ ts) ns sss (reaches_either m n ss ts first h.0) h.1)

  loosened : (n : ℕ) (ss : List Shape) → Reaches tokens n ss → Reaches tokens n (map loose_shape ss)
  loosened n ss h = record { shape = loose_shape h.shape; member = Contains-map loose_shape ss h.shape h.member; bytes = h.bytes }

  -- ---- patterns

  module _ (known : List Measured) (operands : ℕ → ℕ) (cx : ShapeContext) (same : cx.tokens ≡ tokens) where
    known_field : (f : FieldId) → IsSome (slice_get tokens.fields f.0) → Reaches tokens (token_len tokens f) (field_shapes cx.tokens f)
    known_field f field = subst (λ t. Reaches tokens (token_len tokens f) (field_shapes t f)) (sym same) (reaches_field (slice_get tokens.fields f.0) field)

    mutual
      -- one of the shapes is as long as the pattern
      pub longest_reached : (p : Pattern) → AllLeaves NamesNoConstructor p → AllLeaves (NamesKnownField tokens) p → HasFilledLists p → conjunctions_agree cx p ≡ true
          → Reaches tokens (longest tokens known operands p) (shapes cx p)
      longest_reached (Token c) plain field filled agree = reaches_class c
      longest_reached (Limit f relation limit) plain field filled agree = known_field f field
      longest_reached (Bind f) plain field filled agree = known_field f field
      longest_reached (Operand k) plain field filled agree = absurd plain
      longest_reached (Label' l s p) plain field filled agree = boxed p filled.0 (row_reached p plain field filled.1 agree)
      longest_reached (Both' s ps) plain field filled agree =
          let parts = and_parts (row_agrees cx ps) (members_agree (row_shapes cx ps)) agree in
          boths ps filled.0 (row_reached ps plain field filled.1 parts.0) parts.1
      longest_reached (Either' s ps) plain field filled agree = eithers ps filled.0 (row_reached ps plain field filled.1 agree)
      longest_reached (Chain' s ps) plain field filled agree = chains ps filled.0 (row_reached ps plain field filled.1 agree)
      longest_reached (Loose' s p) plain field filled agree =
          loosened (boxed_number (row_lens tokens known operands p)) (boxed_shapes (row_shapes cx p)) (boxed p filled.0 (row_reached p plain field filled.1 agree))
      longest_reached (Apply' k s arguments) plain field filled agree = absurd plain
      longest_reached Empty plain field filled agree = reaches_rigid 0 [] (omega arith)

      row_reached : {n : _} (ps : Row_of-Pattern n) → AllLeavesOfRow NamesNoConstructor ps → AllLeavesOfRow (NamesKnownField tokens) ps → RowHasFilledLists ps → row_agrees cx ps ≡ true
          → EachReaches tokens (row_lens tokens known operands ps) (row_shapes cx ps)
      row_reached end_of-Pattern plain field filled agree = tt
      row_reached (more_of-Pattern p ps) plain field filled agree =
          let parts = and_parts (conjunctions_agree cx p) (row_agrees cx ps) agree in
          (longest_reached p plain.0 field.0 filled.0 parts.0, row_reached ps plain.1 field.1 filled.1 parts.1)

      boxed : {n : _} (ps : Row_of-Pattern n) → IsFilledRow ps → EachReaches tokens (row_lens tokens known operands ps) (row_shapes cx ps)
          → Reaches tokens (boxed_number (row_lens tokens known operands ps)) (boxed_shapes (row_shapes cx ps))
      boxed end_of-Pattern filled h = absurd filled
      boxed (more_of-Pattern p ps) filled h = h.0

      boths : {n : _} (ps : Row_of-Pattern n) → IsFilledRow ps → EachReaches tokens (row_lens tokens known operands ps) (row_shapes cx ps) → members_agree (row_shapes cx ps) ≡ true
          → Reaches tokens (greatest (row_lens tokens known operands ps)) (fold_shapes both_shape (row_shapes cx ps))
      boths end_of-Pattern filled h agree = absurd filled
      boths (more_of-Pattern p ps) filled h agree =
          boths_from (max 0 (longest tokens known operands p)) (shapes cx p) (row_lens tokens known operands ps) (row_shapes cx ps)
          (record { shape = h.0.shape; member = h.0.member; bytes = omega (arith, h.0.bytes) }) h.1 agree

      eithers : {n : _} (ps : Row_of-Pattern n) → IsFilledRow ps → EachReaches tokens (row_lens tokens known operands ps) (row_shapes cx ps)
          → Reaches tokens (greatest (row_lens tokens known operands ps)) (flat_map (λ ss. ss) (row_shapes cx ps))
      eithers end_of-Pattern filled h = absurd filled
      eithers (more_of-Pattern p ps) filled h =
          eithers_from (max 0 (longest tokens known operands p)) (shapes cx p) (row_lens tokens known operands ps) (row_shapes cx ps)
          (record { shape = h.0.shape; member = h.0.member; bytes = omega (arith, h.0.bytes) }) h.1

      chains : {n : _} (ps : Row_of-Pattern n) → IsFilledRow ps → EachReaches tokens (row_lens tokens known operands ps) (row_shapes cx ps)
          → Reaches tokens (sum (row_lens tokens known operands ps)) (fold_shapes chain_shape (row_shapes cx ps))
      chains end_of-Pattern filled h = absurd filled
      chains (more_of-Pattern p ps) filled h =
          chains_from (0 + longest tokens known operands p) (shapes cx p) (row_lens tokens known operands ps) (row_shapes cx ps)
          (record { shape = h.0.shape; member = h.0.member; bytes = omega (arith, h.0.bytes) }) h.1

-- ---- lists that are filled

filled_row : {n : _} (ps : Row_of-Pattern n) → 0 < length (items-the_row-Pattern _ ps) → IsFilledRow ps
filled_row end_of-Pattern some = absurd (omega arith)
filled_row (more_of-Pattern p ps) some = tt

row_filled : {n : _} (ps : Row_of-Pattern n) → All HasFilledLists (items-the_row-Pattern _ ps) → RowHasFilledLists ps
row_filled end_of-Pattern h = tt
row_filled (more_of-Pattern p ps) h = (All-head HasFilledLists p (items-the_row-Pattern _ ps) h, row_filled ps (All-tail HasFilledLists p (items-the_row-Pattern _ ps) h))

module _ (ps : List Pattern) (some : 0 < length ps) (each : All HasFilledLists ps) where
  filled_list : IsFilledRow (hidden-the_row-Pattern-1 ps) × RowHasFilledLists (hidden-the_row-Pattern-1 ps)
  filled_list =
      let same = sym (items_hidden-the_row-Pattern-1 ps) in
      (filled_row (hidden-the_row-Pattern-1 ps) (subst (λ (xs : List Pattern). 0 < length xs) same some), row_filled (hidden-the_row-Pattern-1 ps) (subst (λ xs. All HasFilledLists xs) same each))

  pub filled-Both : HasFilledLists (Both ps)
  filled-Both = filled_list

  pub filled-Either : HasFilledLists (Either ps)
  filled-Either = filled_list

  pub filled-Chain : HasFilledLists (Chain ps)
  filled-Chain = filled_list

module _ (p : Pattern) (h : HasFilledLists p) where
  pub filled-Loose : HasFilledLists (Loose p)
  unfolding hidden-the_row-Pattern-0 hidden
  filled-Loose = (tt, (h, tt))

  pub filled-Label : (l : ℕ) → HasFilledLists (Label l p)
  unfolding hidden-the_row-Pattern-0 hidden
  filled-Label l = (tt, (h, tt))

-- ---- the bound

-- so the pattern is no longer than the longest that its shapes may be
pub len_within : (spec : Spec) (cx : ShapeContext) (p : Pattern) (least most : ℕ) → cx.tokens ≡ spec.tokens → AllLeaves NamesNoConstructor p → AllLeaves (NamesKnownField spec.tokens) p
    → HasFilledLists p → conjunctions_agree cx p ≡ true → lengths_within least most spec.tokens (shapes cx p) ≡ true → pattern_len spec p ≤ most
len_within spec cx p least most same plain field filled agree within =
    let h = longest_reached spec.tokens (each_from (measured spec.tokens) [] spec.constructors) (λ k. 0) cx same p plain field filled agree in
    let test = list_all_at_member (λ (s : Shape). leb least (shape_bytes spec.tokens s) && leb (shape_bytes spec.tokens s) most) (shapes cx p) h.shape within h.member in
    let parts = and_parts (leb least (shape_bytes spec.tokens h.shape)) (leb (shape_bytes spec.tokens h.shape) most) test in
    omega (arith, h.bytes, leb-true (shape_bytes spec.tokens h.shape) most parts.1)
