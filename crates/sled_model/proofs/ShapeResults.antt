-- The results of a pattern have the lengths of its shapes, where those of its leaves do and its conjunctions agree.
use Rattle.std.proofs.Common.{◌≡◌, ◌⊎◌, inl, inr, ⊎_elim, ℕ, ◌+◌, ◌<◌, ◌≤◌, max, Bool, true, false, ◌&&◌, ◌||◌, cond, eqb, ltb, leb, List, [], ◌∷◌, ◌++◌, length, map, filter, Contains, Option, Some, None, refl, sym, ap, ◌∙◌, subst, arith}
use Rattle.std.specs.List.{flat_map, list_all, fold, sum, AllZip, slice_get}
use Rattle.std.specs.Option.{option_map_or, option_and_then}
use Rattle.std.proofs.lemmas.Bool.{eqb-true, eq-eqb, and_parts, and_from, or_cases, leb-true, cases_lt, lt-ltb, le-ltb, cond-true, cond-false, cond_both}
use Rattle.std.proofs.lemmas.List.Elements.{Contains-append_left, Contains-append_right, Contains-append_cases}
use Rattle.std.proofs.lemmas.List.Sums.{sum-map, sum_by-cons}
use Rattle.token_bits.specs.declared.tokens.ClassId.{ClassId}
use Rattle.token_bits.specs.declared.tokens.Field.{Field}
use Rattle.token_bits.specs.declared.tokens.FieldId.{FieldId}
use Rattle.token_bits.specs.declared.tokens.Tokens.{Tokens}
use Rattle.sled_model.specs.declared.raw.Match.{Match}
use Rattle.sled_model.specs.declared.raw.RawEntry.{RawEntry}
use Rattle.sled_model.specs.declared.shape.Shape.{Shape}
use Rattle.sled_model.specs.declared.pattern.Relation.{Relation}
use Rattle.sled_model.specs.declared.pattern.Pattern.{Pattern, Row_of-Pattern, end_of-Pattern, more_of-Pattern}
use Rattle.sled_model.specs.declared.pattern.Pattern.TheVariants.{Token, Limit, Bind, Operand, Label', Both', Either', Chain', Loose', Apply', Empty}
use Rattle.token_bits.specs.Tokens.{byte_count, token, token_len, value_at}
use Rattle.sled_model.specs.Results.{Context, Meaning, results, row_meanings, results_from, one_match, class_results, limit_results, bind_results, has_relation, both, both_match, agrees, chain, chain_match, either, fold_meanings, boxed_meaning, loose_match, label_match}
use Rattle.sled_model.specs.Shapes.{ShapeContext, shapes, are_closed, row_shapes, rigid, field_shapes, loose_shape, chain_shape, both_shape, each_with, fold_shapes, boxed_shapes, is_front, are_same_classes, shapes_agree, all_agree, sides_agree, members_agree, conjunctions_agree, row_agrees, class_bytes, shape_bytes, lengths_within}
use Rattle.sled_model.proofs.Members.{Contains-nil, Contains-here, Contains-cons_cases, Contains-map, Contains-map_cases, Contains-flat_map_cases, Contains-filter_cases, list_all_at_member}
use Rattle.std.proofs.lemmas.List.{append_assoc}
use Rattle.sled_model.specs.Leaves.{AllLeaves, AllLeavesOfRow, NamesNoConstructor}
use Rattle.sled_model.proofs.ShapeLemmas.{Contains-each_with, same_classes_equal}
use Rattle.sled_model.proofs.ShapeContexts.{IsLeaf, AllLeaves-weaker}

-- ---- the bytes of classes

-- how many bytes tokens of these classes have
abbrev pub bytes_of : Tokens → List ClassId → ℕ
bytes_of tokens cs = sum (map (class_bytes tokens) cs)

pub bytes_of-cons : (tokens : Tokens) (c : ClassId) (cs : List ClassId) → bytes_of tokens (c ∷ cs) ≡ class_bytes tokens c + bytes_of tokens cs
bytes_of-cons tokens c cs =
    sum-map (class_bytes tokens) (c ∷ cs) ∙ sum_by-cons (class_bytes tokens) c cs ∙ ap (λ n. class_bytes tokens c + n) (sym (sum-map (class_bytes tokens) cs))

pub bytes_of-append : (tokens : Tokens) (cs ds : List ClassId) → bytes_of tokens (cs ++ ds) ≡ bytes_of tokens cs + bytes_of tokens ds
bytes_of-append tokens [] ds = omega arith
bytes_of-append tokens (c ∷ cs) ds =
    let whole = bytes_of-cons tokens c (cs ++ ds) in let front = bytes_of-cons tokens c cs in let rest = bytes_of-append tokens cs ds in omega arith

record IsShorter (tokens : Tokens) (cs ds : List ClassId) : Type 0 where
  fewer : length cs ≤ length ds
  bytes : bytes_of tokens cs ≤ bytes_of tokens ds
  whole : length ds ≤ length cs → cs ≡ ds

shorter_front : (tokens : Tokens) (cs ds : List ClassId) → is_front cs ds ≡ true → IsShorter tokens cs ds
shorter_front tokens [] ds h = record { fewer = omega arith; bytes = omega arith; whole = no_more ds }
  where
    no_more : (ds : List ClassId) → length ds ≤ 0 → [] ≡ ds
    no_more [] l = refl
    no_more (d ∷ ds) l = absurd (omega arith)
shorter_front tokens (c ∷ cs) [] h = cc
shorter_front tokens (c ∷ cs) (d ∷ ds) h =
    let parts = and_parts (eqb c.0 d.0) (is_front cs ds) h in
    let rest = shorter_front tokens cs ds parts.1 in
    let e : c ≡ d = ap (λ n. let id : ClassId = record { 0 = n } in id) (eqb-true c.0 d.0 parts.0) in
    let one = bytes_of-cons tokens c cs in
    let other = bytes_of-cons tokens d ds in
    let same = ap (class_bytes tokens) e in
    let below = rest.bytes in
    record {
      fewer = omega (arith, rest.fewer);
      bytes = omega arith;
      whole = λ l. ap (λ x. x ∷ cs) e ∙ ap (λ xs. d ∷ xs) (rest.whole (omega arith));
    }

front_self : (cs : List ClassId) → is_front cs cs ≡ true
front_self [] = refl
front_self (c ∷ cs) = and_from (eqb c.0 c.0) (is_front cs cs) (eq-eqb c.0 c.0 refl) (front_self cs)

-- one is a front of the other
abbrev pub AreNested : List ClassId → List ClassId → Type 0
AreNested cs ds = (is_front cs ds ≡ true) ⊎ (is_front ds cs ≡ true)

pub nested_marks : (l m : Bool) (cs ds : List ClassId)
    → cond l (cond m (is_front cs ds || is_front ds cs) (is_front cs ds)) (cond m (is_front ds cs) (are_same_classes cs ds)) ≡ true → AreNested cs ds
nested_marks true true cs ds h = or_cases (is_front cs ds) (is_front ds cs) h
nested_marks true false cs ds h = inl h
nested_marks false true cs ds h = inr h
nested_marks false false cs ds h = inl (subst (λ es. is_front cs es ≡ true) (same_classes_equal cs ds h) (front_self cs))

pub longer : (tokens : Tokens) (cs ds : List ClassId) → AreNested cs ds
    → max (bytes_of tokens cs) (bytes_of tokens ds) ≡ bytes_of tokens (cond (ltb (length cs) (length ds)) ds cs)
longer tokens cs ds nested = by_order nested (cases_lt (length cs) (length ds))
  where
    second : length cs < length ds → bytes_of tokens ds ≡ bytes_of tokens (cond (ltb (length cs) (length ds)) ds cs)
    second less = ap (bytes_of tokens) (sym (cond-true (ltb (length cs) (length ds)) ds cs (lt-ltb (length cs) (length ds) less)))

    first : length ds ≤ length cs → bytes_of tokens cs ≡ bytes_of tokens (cond (ltb (length cs) (length ds)) ds cs)
    first more = ap (bytes_of tokens) (sym (cond-false (ltb (length cs) (length ds)) ds cs (le-ltb (length cs) (length ds) more)))

    by_order : AreNested cs ds → (length cs < length ds) ⊎ (length ds ≤ length cs)
        → max (bytes_of tokens cs) (bytes_of tokens ds) ≡ bytes_of tokens (cond (ltb (length cs) (length ds)) ds cs)
    by_order (inl front) (inl less) = let below = (shorter_front tokens cs ds front).bytes in let e = second less in omega arith
    by_order (inl front) (inr more) = let same = ap (bytes_of tokens) ((shorter_front tokens cs ds front).whole more) in let e = first more in omega arith
    by_order (inr front) (inl less) = let fewer = (shorter_front tokens ds cs front).fewer in absurd (omega arith)
    by_order (inr front) (inr more) = let below = (shorter_front tokens ds cs front).bytes in let e = first more in omega arith

not_loose : (b : Bool) → cond b false true ≡ true → b ≡ false
not_loose true h = sym h
not_loose false h = refl

-- ---- results and shapes

-- the result has the length and the mark of one of the shapes
pub record HasShape (tokens : Tokens) (ss : List Shape) (a : Match) : Type 0 where
  pub shape : Shape
  pub member : Contains ss shape
  pub len : a.len ≡ shape_bytes tokens shape
  pub loose : a.loose ≡ shape.loose

-- each of the results does
abbrev pub AreShaped : Tokens → List Match → List Shape → Type 0
AreShaped tokens found ss = (a : Match) → Contains found a → HasShape tokens ss a

-- each result of the meaning does, anywhere
abbrev pub IsShaped : Tokens → Meaning → List Shape → Type 0
IsShaped tokens m ss = (bytes : List ℕ) (i : ℕ) → AreShaped tokens (m bytes i) ss

pub HasShape-at : (tokens : Tokens) (ss : List Shape) (a b : Match) → a ≡ b → HasShape tokens ss a → HasShape tokens ss b
HasShape-at tokens ss a b e h = subst (HasShape tokens ss) e h

pub shaped_none : (tokens : Tokens) (found : List Match) (ss : List Shape) → found ≡ [] → AreShaped tokens found ss
shaped_none tokens found ss e a m = absurd (Contains-nil a (subst (λ xs. Contains xs a) e m))

shaped_one : (tokens : Tokens) (binds : List RawEntry) (len : ℕ) (cs : List ClassId) → len ≡ bytes_of tokens cs → AreShaped tokens (one_match binds len) (rigid cs)
shaped_one tokens binds len cs e a m = ⊎_elim
    (λ (same : record { binds = binds; len = len; loose = false } ≡ a). HasShape-at tokens (rigid cs) (record { binds = binds; len = len; loose = false }) a same
    (record { shape = record { classes = cs; loose = false }; member = Contains-here _ []; len = e; loose = refl }))
    (λ none. absurd (Contains-nil a none))
    (Contains-cons_cases (record { binds = binds; len = len; loose = false }) [] a m)

pub shaped_from : {A : Type 0} (tokens : Tokens) (ss : List Shape) (o : Option A) (f : A → List Match) → ((x : A) → o ≡ Some x → AreShaped tokens (f x) ss) → AreShaped tokens (results_from o f) ss
shaped_from tokens ss None f h = shaped_none tokens [] ss refl
shaped_from tokens ss (Some x) f h = h x refl

-- ---- tokens

shaped_class : (tokens : Tokens) (c : ClassId) → IsShaped tokens (class_results tokens c) (rigid (c ∷ []))
shaped_class tokens c bytes i =
    shaped_from tokens (rigid (c ∷ [])) (slice_get tokens.classes c.0) _
    (λ class is. shaped_from tokens (rigid (c ∷ [])) (token class bytes i) _
    (λ n there.
    let len : class_bytes tokens c ≡ byte_count class = ap (λ o. option_map_or byte_count o 0) is in
    let one = bytes_of-cons tokens c [] in
    shaped_one tokens [] (byte_count class) (c ∷ []) (omega arith)))

found_first : {A B : Type 0} (o : Option A) (f : A → Option B) (y : B) → option_and_then f o ≡ Some y → (x : A) × (o ≡ Some x)
found_first None f y e = cc
found_first (Some x) f y e = (x, refl)

shaped_field : (tokens : Tokens) (f : FieldId) (binds : List RawEntry) (bytes : List ℕ) (i value : ℕ) → value_at tokens f bytes i ≡ Some value
    → AreShaped tokens (one_match binds (token_len tokens f)) (field_shapes tokens f)
shaped_field tokens f binds bytes i value is =
    let found = found_first (slice_get tokens.fields f.0) _ value is in
    let field = found.0 in
    let same : rigid (field.class ∷ []) ≡ field_shapes tokens f = ap (λ o. option_map_or (λ (x : Field). rigid (x.class ∷ [])) o []) (sym found.1) in
    let len : token_len tokens f ≡ class_bytes tokens field.class =
    ap (λ o. option_map_or byte_count (option_and_then (λ (x : Field). slice_get tokens.classes x.class.0) o) 0) found.1 in
    let sum_is = bytes_of-cons tokens field.class [] in
    subst (AreShaped tokens (one_match binds (token_len tokens f))) same (shaped_one tokens binds (token_len tokens f) (field.class ∷ []) (omega arith))

shaped_limit : (tokens : Tokens) (f : FieldId) (relation : Relation) (limit : ℕ) → IsShaped tokens (limit_results tokens f relation limit) (field_shapes tokens f)
shaped_limit tokens f relation limit bytes i =
    shaped_from tokens (field_shapes tokens f) (value_at tokens f bytes i) _
    (λ value is. cond_both (has_relation relation value limit) (one_match [] (token_len tokens f)) [] (λ found. AreShaped tokens found (field_shapes tokens f))
    (λ yes. shaped_field tokens f [] bytes i value is)
    (λ no. shaped_none tokens [] (field_shapes tokens f) refl))

shaped_bind : (tokens : Tokens) (f : FieldId) → IsShaped tokens (bind_results tokens f) (field_shapes tokens f)
shaped_bind tokens f bytes i =
    shaped_from tokens (field_shapes tokens f) (value_at tokens f bytes i) _ (λ value is. shaped_field tokens f _ bytes i value is)

-- ---- operators

shaped_each : (tokens : Tokens) (g : Match → Match) (op : Shape → Shape) → ((a : Match) → (g a).len ≡ a.len) → ((s : Shape) → shape_bytes tokens (op s) ≡ shape_bytes tokens s)
    → ((a : Match) (s : Shape) → a.loose ≡ s.loose → (g a).loose ≡ (op s).loose)
    → (found : List Match) (ss : List Shape) → AreShaped tokens found ss → AreShaped tokens (map g found) (map op ss)
shaped_each tokens g op len bytes loose found ss h b m =
    let from = Contains-map_cases g found b m in
    let a = h from.0 from.1 in
    HasShape-at tokens (map op ss) (g from.0) b from.2 (record {
      shape = op a.shape;
      member = Contains-map op ss a.shape a.member;
      len = len from.0 ∙ a.len ∙ sym (bytes a.shape);
      loose = loose from.0 a.shape a.loose;
    })

pub HasShape-chain : (tokens : Tokens) (ss ts : List Shape) (a b : Match) → HasShape tokens ss a → HasShape tokens ts b → HasShape tokens (each_with chain_shape ss ts) (chain_match a b)
HasShape-chain tokens ss ts a b first second =
    let both_bytes = bytes_of-append tokens first.shape.classes second.shape.classes in
    let one = first.len in let other = second.len in record {
      shape = chain_shape first.shape second.shape;
      member = Contains-each_with chain_shape ss ts first.shape second.shape first.member second.member;
      len = omega arith;
      loose = second.loose;
    }

shaped_chain : (tokens : Tokens) (m n : Meaning) (ss ts : List Shape) → IsShaped tokens m ss → IsShaped tokens n ts → IsShaped tokens (chain m n) (each_with chain_shape ss ts)
shaped_chain tokens m n ss ts first second bytes i x h =
    let from = Contains-flat_map_cases (λ (a : Match). map (chain_match a) (n bytes (i + a.len))) (m bytes i) x h in
    let at = Contains-map_cases (chain_match from.0) (n bytes (i + from.0.len)) x from.2 in
    HasShape-at tokens (each_with chain_shape ss ts) (chain_match from.0 at.0) x at.2
    (HasShape-chain tokens ss ts from.0 at.0 (first bytes i from.0 from.1) (second bytes (i + from.0.len) at.0 at.1))

same_marks : (l l' m m' : Bool) → l ≡ l' → m ≡ m' → (l && m) ≡ (l' && m')
same_marks l l' m m' e f = ap (λ x. x && m) e ∙ ap (λ x. l' && x) f

longer_of : (k k' n n' r : ℕ) → k ≡ k' → n ≡ n' → max k' n' ≡ r → max k n ≡ r
longer_of k k' n n' r e f g = ap (λ x. max x n) e ∙ ap (λ x. max k' x) f ∙ g

pub HasShape-both : (tokens : Tokens) (ss ts : List Shape) (a b : Match) → all_agree ss ts ≡ true → HasShape tokens ss a → HasShape tokens ts b
    → HasShape tokens (each_with both_shape ss ts) (both_match a b)
HasShape-both tokens ss ts a b agree first second =
    let one = first.shape in let other = second.shape in
    let agreed = list_all_at_member (shapes_agree one) ts other (list_all_at_member (λ s. list_all (shapes_agree s) ts) ss one agree first.member) second.member in
    let longest = both_shape one other in
    let nested = nested_marks one.loose other.loose one.classes other.classes agreed in record {
      shape = longest;
      member = Contains-each_with both_shape ss ts one other first.member second.member;
      len = longer_of a.len (shape_bytes tokens one) b.len (shape_bytes tokens other) (shape_bytes tokens longest) first.len second.len (longer tokens one.classes other.classes nested);
      loose = same_marks a.loose one.loose b.loose other.loose first.loose second.loose;
    }

shaped_both : (tokens : Tokens) (m n : Meaning) (ss ts : List Shape) → IsShaped tokens m ss → IsShaped tokens n ts → all_agree ss ts ≡ true
    → IsShaped tokens (both m n) (each_with both_shape ss ts)
shaped_both tokens m n ss ts first second agree bytes i x h =
    let from = Contains-flat_map_cases (λ (a : Match). map (both_match a) (filter (agrees a) (n bytes i))) (m bytes i) x h in
    let at = Contains-map_cases (both_match from.0) (filter (agrees from.0) (n bytes i)) x from.2 in
    HasShape-at tokens (each_with both_shape ss ts) (both_match from.0 at.0) x at.2
    (HasShape-both tokens ss ts from.0 at.0 agree (first bytes i from.0 from.1) (second bytes i at.0 (Contains-filter_cases (agrees from.0) (n bytes i) at.0 at.1).0))

shaped_either : (tokens : Tokens) (m n : Meaning) (ss ts : List Shape) → IsShaped tokens m ss → IsShaped tokens n ts → IsShaped tokens (either m n) (ss ++ ts)
shaped_either tokens m n ss ts first second bytes i x h = ⊎_elim
    (λ l. let a = first bytes i x l in record { shape = a.shape; member = Contains-append_left ss ts a.shape a.member; len = a.len; loose = a.loose })
    (λ r. let b = second bytes i x r in record { shape = b.shape; member = Contains-append_right ss ts b.shape b.member; len = b.len; loose = b.loose })
    (Contains-append_cases (m bytes i) (n bytes i) x h)

-- ---- rows

abbrev AreEachShaped : Tokens → List Meaning → List (List Shape) → Type 0
AreEachShaped tokens = AllZip (IsShaped tokens)

shaped_boxed : (tokens : Tokens) (ms : List Meaning) (sss : List (List Shape)) → AreEachShaped tokens ms sss → IsShaped tokens (boxed_meaning ms) (boxed_shapes sss)
shaped_boxed tokens [] [] h = λ bytes i. shaped_none tokens [] [] refl
shaped_boxed tokens [] (ss ∷ sss) h = absurd h
shaped_boxed tokens (m ∷ ms) [] h = absurd h
shaped_boxed tokens (m ∷ ms) (ss ∷ sss) h = h.0

shaped_chains_from : (tokens : Tokens) (m : Meaning) (ss : List Shape) (ms : List Meaning) (sss : List (List Shape)) → IsShaped tokens m ss → AreEachShaped tokens ms sss
    → IsShaped tokens (fold chain m ms) (fold (each_with chain_shape) ss sss)
shaped_chains_from tokens m ss [] [] first h = first
shaped_chains_from tokens m ss [] (ts ∷ sss) first h = absurd h
shaped_chains_from tokens m ss (n ∷ ms) [] first h = absurd h
shaped_chains_from tokens m ss (n ∷ ms) (ts ∷ sss) first h =
    shaped_chains_from tokens (chain m n) (each_with chain_shape ss ts) ms sss (shaped_chain tokens m n ss ts first h.0) h.1

shaped_chains : (tokens : Tokens) (ms : List Meaning) (sss : List (List Shape)) → AreEachShaped tokens ms sss → IsShaped tokens (fold_meanings chain ms) (fold_shapes chain_shape sss)
shaped_chains tokens [] [] h = λ bytes i. shaped_none tokens [] [] refl
shaped_chains tokens [] (ss ∷ sss) h = absurd h
shaped_chains tokens (m ∷ ms) [] h = absurd h
shaped_chains tokens (m ∷ ms) (ss ∷ sss) h = shaped_chains_from tokens m ss ms sss h.0 h.1

shaped_boths_from : (tokens : Tokens) (m : Meaning) (ss : List Shape) (ms : List Meaning) (sss : List (List Shape)) → IsShaped tokens m ss → AreEachShaped tokens ms sss
    → sides_agree ss sss ≡ true → IsShaped tokens (fold both m ms) (fold (each_with both_shape) ss sss)
shaped_boths_from tokens m ss [] [] first h agree = first
shaped_boths_from tokens m ss [] (ts ∷ sss) first h agree = absurd h
shaped_boths_from tokens m ss (n ∷ ms) [] first h agree = absurd h
shaped_boths_from tokens m ss (n ∷ ms) (ts ∷ sss) first h agree =
    let parts = and_parts (all_agree ss ts) (sides_agree (each_with both_shape ss ts) sss) agree in
    shaped_boths_from tokens (both m n) (each_with both_shape ss ts) ms sss (shaped_both tokens m n ss ts first h.0 parts.0) h.1 parts.1

shaped_boths : (tokens : Tokens) (ms : List Meaning) (sss : List (List Shape)) → AreEachShaped tokens ms sss → members_agree sss ≡ true
    → IsShaped tokens (fold_meanings both ms) (fold_shapes both_shape sss)
shaped_boths tokens [] [] h agree = λ bytes i. shaped_none tokens [] [] refl
shaped_boths tokens [] (ss ∷ sss) h agree = absurd h
shaped_boths tokens (m ∷ ms) [] h agree = absurd h
shaped_boths tokens (m ∷ ms) (ss ∷ sss) h agree = shaped_boths_from tokens m ss ms sss h.0 h.1 agree

shaped_eithers_from : (tokens : Tokens) (m : Meaning) (ss : List Shape) (ms : List Meaning) (sss : List (List Shape)) → IsShaped tokens m ss → AreEachShaped tokens ms sss
    → IsShaped tokens (fold either m ms) (ss ++ flat_map (λ ts. ts) sss)
shaped_eithers_from tokens m ss [] [] first h = λ bytes i x n. let a = first bytes i x n in record { shape = a.shape; member = Contains-append_left ss [] a.shape a.member; len = a.len; loose = a.loose }
shaped_eithers_from tokens m ss [] (ts ∷ sss) first h = absurd h
shaped_eithers_from tokens m ss (n ∷ ms) [] first h = absurd h
shaped_eithers_from tokens m ss (n ∷ ms) (ts ∷ sss) first h =
    subst (λ us. IsShaped tokens (fold either (either m n) ms) us) (append_assoc ss ts (flat_map (λ us. us) sss))
    (shaped_eithers_from tokens (either m n) (ss ++ ts) ms sss (shaped_either tokens m n ss ts first h.0) h.1)

shaped_eithers : (tokens : Tokens) (ms : List Meaning) (sss : List (List Shape)) → AreEachShaped tokens ms sss → IsShaped tokens (fold_meanings either ms) (flat_map (λ ss. ss) sss)
shaped_eithers tokens [] [] h = λ bytes i. shaped_none tokens [] [] refl
shaped_eithers tokens [] (ss ∷ sss) h = absurd h
shaped_eithers tokens (m ∷ ms) [] h = absurd h
shaped_eithers tokens (m ∷ ms) (ss ∷ sss) h = shaped_eithers_from tokens m ss ms sss h.0 h.1

-- ---- patterns

-- each result of the pattern in the one context has the length and the mark of one of its shapes in the other
abbrev pub HasItsShapes : Context → ShapeContext → Pattern → Type 0
HasItsShapes cx sx p = IsShaped sx.tokens (results cx p) (shapes sx p)

module _ (cx : Context) (sx : ShapeContext) where
  mutual
    -- so it is where it is so of each leaf and the conjunctions agree
    pub results_shaped : (p : Pattern) → AllLeaves (HasItsShapes cx sx) p → conjunctions_agree sx p ≡ true → HasItsShapes cx sx p
    results_shaped (Token c) leaves agree = leaves
    results_shaped (Limit f relation limit) leaves agree = leaves
    results_shaped (Bind f) leaves agree = leaves
    results_shaped (Operand k) leaves agree = leaves
    results_shaped (Label' l s p) leaves agree = λ bytes i a m.
        let from = Contains-map_cases (label_match l i) (boxed_meaning (row_meanings cx p) bytes i) a m in
        let b = shaped_boxed sx.tokens (row_meanings cx p) (row_shapes sx p) (row_shaped p leaves agree) bytes i from.0 from.1 in
        HasShape-at sx.tokens (boxed_shapes (row_shapes sx p)) (label_match l i from.0) a from.2
        (record { shape = b.shape; member = b.member; len = b.len; loose = b.loose })
    results_shaped (Both' s ps) leaves agree =
        let parts = and_parts (row_agrees sx ps) (members_agree (row_shapes sx ps)) agree in
        shaped_boths sx.tokens (row_meanings cx ps) (row_shapes sx ps) (row_shaped ps leaves parts.0) parts.1
    results_shaped (Either' s ps) leaves agree = shaped_eithers sx.tokens (row_meanings cx ps) (row_shapes sx ps) (row_shaped ps leaves agree)
    results_shaped (Chain' s ps) leaves agree = shaped_chains sx.tokens (row_meanings cx ps) (row_shapes sx ps) (row_shaped ps leaves agree)
    results_shaped (Loose' s p) leaves agree = λ bytes i.
        shaped_each sx.tokens loose_match loose_shape (λ a. refl) (λ s. refl) (λ a s e. refl) (boxed_meaning (row_meanings cx p) bytes i) (boxed_shapes (row_shapes sx p))
        (shaped_boxed sx.tokens (row_meanings cx p) (row_shapes sx p) (row_shaped p leaves agree) bytes i)
    results_shaped (Apply' k s arguments) leaves agree = leaves
    results_shaped Empty leaves agree = leaves

    row_shaped : {n : _} (ps : Row_of-Pattern n) → AllLeavesOfRow (HasItsShapes cx sx) ps → row_agrees sx ps ≡ true → AreEachShaped sx.tokens (row_meanings cx ps) (row_shapes sx ps)
    row_shaped end_of-Pattern leaves agree = tt
    row_shaped (more_of-Pattern p ps) leaves agree =
        let parts = and_parts (conjunctions_agree sx p) (row_agrees sx ps) agree in
        (results_shaped p leaves.0 parts.0, row_shaped ps leaves.1 parts.1)

  module _ (p : Pattern) (h : HasItsShapes cx sx p) where
    -- then each result has a length in the range in which the shapes' lengths are
    pub results_within : (least most : ℕ) → lengths_within least most sx.tokens (shapes sx p) ≡ true
        → (bytes : List ℕ) (i : ℕ) (a : Match) → Contains (results cx p bytes i) a → (least ≤ a.len) × (a.len ≤ most)
    results_within least most within bytes i a m =
        let of = h bytes i a m in
        let test = list_all_at_member (λ (s : Shape). leb least (shape_bytes sx.tokens s) && leb (shape_bytes sx.tokens s) most) (shapes sx p) of.shape within of.member in
        let parts = and_parts (leb least (shape_bytes sx.tokens of.shape)) (leb (shape_bytes sx.tokens of.shape) most) test in
        let low = leb-true least (shape_bytes sx.tokens of.shape) parts.0 in
        let high = leb-true (shape_bytes sx.tokens of.shape) most parts.1 in
        let len = of.len in
        (omega arith, omega arith)

    -- and where no shape is loose, no result is
    pub results_closed : are_closed (shapes sx p) ≡ true → (bytes : List ℕ) (i : ℕ) (a : Match) → Contains (results cx p bytes i) a → a.loose ≡ false
    results_closed closed bytes i a m =
        let of = h bytes i a m in
        of.loose ∙ not_loose of.shape.loose (list_all_at_member (λ (s : Shape). cond s.loose false true) (shapes sx p) of.shape closed of.member)

-- ---- leaves

module _ (cx : Context) (sx : ShapeContext) (same : cx.tokens ≡ sx.tokens) where
  pub shaped_plain_leaf : (p : Pattern) → IsLeaf p → NamesNoConstructor p → HasItsShapes cx sx p
  shaped_plain_leaf (Token c) leaf h = subst (λ t. IsShaped t (class_results cx.tokens c) (rigid (c ∷ []))) same (shaped_class cx.tokens c)
  shaped_plain_leaf (Limit f relation limit) leaf h =
      subst (λ t. IsShaped t (limit_results cx.tokens f relation limit) (field_shapes t f)) same (shaped_limit cx.tokens f relation limit)
  shaped_plain_leaf (Bind f) leaf h = subst (λ t. IsShaped t (bind_results cx.tokens f) (field_shapes t f)) same (shaped_bind cx.tokens f)
  shaped_plain_leaf (Operand k) leaf h = absurd h
  shaped_plain_leaf (Label' l s p) leaf h = absurd leaf
  shaped_plain_leaf (Both' s ps) leaf h = absurd leaf
  shaped_plain_leaf (Either' s ps) leaf h = absurd leaf
  shaped_plain_leaf (Chain' s ps) leaf h = absurd leaf
  shaped_plain_leaf (Loose' s p) leaf h = absurd leaf
  shaped_plain_leaf (Apply' k s arguments) leaf h = absurd h
  shaped_plain_leaf Empty leaf h = λ bytes i. shaped_one sx.tokens [] 0 [] refl

  -- a pattern that names no constructor has its shapes in every context of these tokens
  pub plain_shaped : (p : Pattern) → AllLeaves NamesNoConstructor p → conjunctions_agree sx p ≡ true → HasItsShapes cx sx p
  plain_shaped p plain agree = results_shaped cx sx p (AllLeaves-weaker NamesNoConstructor (HasItsShapes cx sx) shaped_plain_leaf p plain) agree
