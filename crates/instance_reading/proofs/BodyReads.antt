-- What a result of a body binds: a value for each bare field, and a choice for each operand that stands in the body, in their order.
use Rattle.std.proofs.Common.{ℕ, suc, ◌+◌, ◌-◌, ◌^◌, ◌≡◌, ◌<◌, ◌≤◌, ⊎_elim, max, Bool, true, false, cond, List, [], ◌∷◌, ◌++◌, map, filter, All, Contains, slice_get, Option, Some, None, option_and_then, refl, sym, ap, ◌∙◌, subst, arith}
use Rattle.std.specs.List.{filter_map, fold, AllZip}
use Rattle.std.specs.Option.{option_map, option_map_or}
use Rattle.std.proofs.lemmas.List.{append_assoc, append-nil}
use Rattle.std.proofs.lemmas.List.Elements.{All-nil, All-cons, All-append, All-weaker, Contains-append_cases, filter_map-append, filter-append}
use Rattle.std.proofs.lemmas.Nat.{pow-add}
use Rattle.token_bits.specs.declared.tokens.Class.{Class}
use Rattle.token_bits.specs.declared.tokens.ClassId.{ClassId}
use Rattle.token_bits.specs.declared.tokens.Field.{Field}
use Rattle.token_bits.specs.declared.tokens.FieldId.{FieldId}
use Rattle.token_bits.specs.declared.tokens.Tokens.{Tokens}
use Rattle.token_bits.specs.Tokens.{byte_count, bits_of, width_of, token, token_len, value_at}
use Rattle.sled_model.specs.declared.constructor.TypeId.{TypeId}
use Rattle.sled_model.specs.declared.constructor.OperandKind.{OperandKind}
use Rattle.sled_model.specs.declared.constructor.OperandKind.TheVariants.{Plain, Extended, Typed, Whole, Sliced}
use Rattle.sled_model.specs.declared.raw.Match.{Match}
use Rattle.sled_model.specs.declared.raw.RawEntry.{RawEntry}
use Rattle.sled_model.specs.declared.raw.RawEntry.TheVariants.{Value, Mark, Choice, Choice'}
use Rattle.sled_model.specs.declared.pattern.Relation.{Relation}
use Rattle.sled_model.specs.declared.pattern.Pattern.{Pattern, Row_of-Pattern, end_of-Pattern, more_of-Pattern}
use Rattle.sled_model.specs.declared.pattern.Pattern.TheVariants.{Token, Limit, Bind, Operand, Label', Both', Either', Chain', Loose', Apply', Empty}
use Rattle.sled_model.specs.Leaves.{AllLeaves, AllLeavesOfRow, IsNoApplication}
use Rattle.sled_model.specs.Measures.{width_at}
use Rattle.sled_model.specs.Results.{Meaning, Known, Context, results, row_meanings, results_from, one_match, has_relation, class_results, limit_results, bind_results, operand_results, kind_results, choices_from, choice_match, makes, either, chain, chain_match, both, both_match, agrees, fold_meanings, boxed_meaning, label_match, loose_match, is_choice, operands_in, operands_in_row}
use Rattle.sled_model.specs.SolvingOrder.{bare_fields, row_fields}
use Rattle.sled_model.proofs.Members.{Contains-nil, Contains-map_cases, Contains-flat_map_cases, Contains-filter_cases}
use Rattle.match_meaning.specs.Readable.{SidesReadNothing, RowSidesReadNothing}
use Rattle.instance_reading.proofs.Bits.{slice_below}
use Rattle.instance_reading.proofs.Holders.{contains_one}
use mathlib.Core.Former.{one_more, none_left}

-- ---- entries

-- no value of the field is as great
abbrev pub field_limit : Tokens → ℕ → ℕ
field_limit tokens f = 2 ^ (width_at tokens (record { 0 = f }) - 1) + 2 ^ (width_at tokens (record { 0 = f }) - 1)

-- a value is one of its field, and a label stands at this offset or before
abbrev pub IsEntry : Tokens → ℕ → RawEntry → Type 0
IsEntry tokens stop (Value f value at) = value < field_limit tokens f.0
IsEntry tokens stop (Mark label at) = at ≤ stop
IsEntry tokens stop (Choice' k s inner arguments) = Unit {0}

-- the number of the field that was read
abbrev pub read_field : RawEntry → Option ℕ
read_field (Value f value at) = Some f.0
read_field _ = None

-- the entry is the choice for operand k: a result, that ends at this offset or before, of the body of a constructor of its type
pub record IsChoiceFor (cx : Context) (bytes : List ℕ) (stop k : ℕ) (entry : RawEntry) : Type 0 where
  pub of_type : TypeId
  pub kind : slice_get cx.operands k ≡ Some (Typed of_type)
  pub number : ℕ
  pub known : Known
  pub is_known : slice_get cx.known number ≡ Some known
  pub makes_type : makes of_type known.constructor.result ≡ true
  pub offset : ℕ
  pub found : Match
  pub among : Contains (known.body bytes offset) found
  pub ends : offset + found.len ≤ stop
  pub is : entry ≡ Choice (record { 0 = number }) (record { entries = found.binds }) []

-- the entries have values of these fields, and choices for these operands, in order
pub record Reads (cx : Context) (bytes : List ℕ) (stop : ℕ) (fs ks : List ℕ) (binds : List RawEntry) : Type 0 where
  pub values : filter_map read_field binds ≡ fs
  pub each : All (IsEntry cx.tokens stop) binds
  pub choices : AllZip (IsChoiceFor cx bytes stop) ks (filter is_choice binds)

-- so has each result
abbrev pub AllRead : Context → List ℕ → List ℕ → Meaning → Type 0
AllRead cx fs ks m = (bytes : List ℕ) (i : ℕ) (r : Match) → Contains (m bytes i) r → Reads cx bytes (i + r.len) fs ks r.binds

-- ---- values of fields

twice : (k : ℕ) → 2 ^ (k + 1) ≡ 2 ^ (k + 1 - 1) + 2 ^ (k + 1 - 1)
twice k =
    let back : k + 1 - 1 ≡ k = omega arith in let p = pow-add 2 k 1 in
    (let d : 2 ^ (k + 1) ≡ 2 ^ k + 2 ^ k = omega (arith, p) in d) ∙ ap (λ j. 2 ^ j + 2 ^ j) (sym back)

module _ (tokens : Tokens) (bytes : List ℕ) (i : ℕ) where
  by_token : (field : Field) (o : Option ℕ) (value : ℕ) → option_map (bits_of field.lo field.hi) o ≡ Some value → value < 2 ^ (width_of field - 1) + 2 ^ (width_of field - 1)
  by_token field None value e = cc
  by_token field (Some n) value e =
      let same : bits_of field.lo field.hi n ≡ value = cc in
      subst (λ x. x < 2 ^ (width_of field - 1) + 2 ^ (width_of field - 1)) same (subst (λ p. bits_of field.lo field.hi n < p) (twice (field.hi - field.lo)) (slice_below field.lo field.hi n))

  by_class : (field : Field) (o : Option Class) (value : ℕ) → option_and_then (λ (class : Class). option_map (bits_of field.lo field.hi) (token class bytes i)) o ≡ Some value
      → value < 2 ^ (width_of field - 1) + 2 ^ (width_of field - 1)
  by_class field None value e = cc
  by_class field (Some class) value e = by_token field (token class bytes i) value e

  by_field : (o : Option Field) (value : ℕ)
      → option_and_then (λ (field : Field). option_and_then (λ (class : Class). option_map (bits_of field.lo field.hi) (token class bytes i)) (slice_get tokens.classes field.class.0)) o ≡ Some value
      → value < 2 ^ (option_map_or width_of o 0 - 1) + 2 ^ (option_map_or width_of o 0 - 1)
  by_field None value e = cc
  by_field (Some field) value e = by_class field (slice_get tokens.classes field.class.0) value e

  pub value_within : (f : FieldId) (value : ℕ) → value_at tokens f bytes i ≡ Some value → value < field_limit tokens f.0
  value_within f value e = by_field (slice_get tokens.fields f.0) value e

-- ---- entries one after another

pub zip_append : {X Y : Type 0} (R : X → Y → Type 0) (xs us : List X) (ys vs : List Y) → AllZip R xs ys → AllZip R us vs → AllZip R (xs ++ us) (ys ++ vs)
zip_append R [] us [] vs h g = g
zip_append R [] us (y ∷ ys) vs h g = absurd h
zip_append R (x ∷ xs) us [] vs h g = absurd h
zip_append R (x ∷ xs) us (y ∷ ys) vs h g = (h.0, zip_append R xs us ys vs h.1 g)

zip_weaker : {X Y : Type 0} (R S : X → Y → Type 0) → ((x : X) (y : Y) → R x y → S x y) → (xs : List X) (ys : List Y) → AllZip R xs ys → AllZip S xs ys
zip_weaker R S f [] [] h = tt
zip_weaker R S f [] (y ∷ ys) h = absurd h
zip_weaker R S f (x ∷ xs) [] h = absurd h
zip_weaker R S f (x ∷ xs) (y ∷ ys) h = (f x y h.0, zip_weaker R S f xs ys h.1)

module _ (cx : Context) (bytes : List ℕ) where
  entry_later : (stop more : ℕ) → stop ≤ more → (entry : RawEntry) → IsEntry cx.tokens stop entry → IsEntry cx.tokens more entry
  entry_later stop more l (Value f value at) h = h
  entry_later stop more l (Mark label at) h = omega (arith, l, h)
  entry_later stop more l (Choice' k s inner arguments) h = tt

  choice_later : (stop more : ℕ) → stop ≤ more → (k : ℕ) (entry : RawEntry) → IsChoiceFor cx bytes stop k entry → IsChoiceFor cx bytes more k entry
  choice_later stop more l k entry h = record {
    of_type = h.of_type;
    kind = h.kind;
    number = h.number;
    known = h.known;
    is_known = h.is_known;
    makes_type = h.makes_type;
    offset = h.offset;
    found = h.found;
    among = h.among;
    ends = (let e = h.ends in omega (arith, l, e));
    is = h.is;
  }

  later : (stop more : ℕ) (fs ks : List ℕ) (binds : List RawEntry) → stop ≤ more → Reads cx bytes stop fs ks binds → Reads cx bytes more fs ks binds
  later stop more fs ks binds l h = record {
    values = h.values;
    each = All-weaker (IsEntry cx.tokens stop) (IsEntry cx.tokens more) (entry_later stop more l) binds h.each;
    choices = zip_weaker (IsChoiceFor cx bytes stop) (IsChoiceFor cx bytes more) (choice_later stop more l) ks (filter is_choice binds) h.choices;
  }

  nothing : (stop : ℕ) → Reads cx bytes stop [] [] []
  nothing stop = record { values = refl; each = All-nil (IsEntry cx.tokens stop); choices = tt }

  joined : (stop : ℕ) (fs gs ks js : List ℕ) (binds others : List RawEntry) → Reads cx bytes stop fs ks binds → Reads cx bytes stop gs js others → Reads cx bytes stop (fs ++ gs) (ks ++ js) (binds ++ others)
  joined stop fs gs ks js binds others h g = record {
    values = filter_map-append read_field binds others ∙ ap (λ xs. xs ++ filter_map read_field others) h.values ∙ ap (λ xs. fs ++ xs) g.values;
    each = All-append (IsEntry cx.tokens stop) binds others h.each g.each;
    choices = subst (AllZip (IsChoiceFor cx bytes stop) (ks ++ js)) (sym (filter-append is_choice binds others))
        (zip_append (IsChoiceFor cx bytes stop) ks js (filter is_choice binds) (filter is_choice others) h.choices g.choices);
  }

  marked : (stop l at : ℕ) (fs ks : List ℕ) (binds : List RawEntry) → at ≤ stop → Reads cx bytes stop fs ks binds → Reads cx bytes stop fs ks (Mark l at ∷ binds)
  marked stop l at fs ks binds le h = record { values = h.values; each = All-cons (IsEntry cx.tokens stop) (Mark l at) binds le h.each; choices = h.choices }

  one_value : (stop value at : ℕ) (f : FieldId) → value < field_limit cx.tokens f.0 → Reads cx bytes stop (f.0 ∷ []) [] (Value f value at ∷ [])
  one_value stop value at f h = record { values = refl; each = All-cons (IsEntry cx.tokens stop) (Value f value at) [] h (All-nil (IsEntry cx.tokens stop)); choices = tt }

-- ---- operators

module _ (cx : Context) where
  both_read : (p q : Meaning) (fs gs ks js : List ℕ) → AllRead cx fs ks p → AllRead cx gs js q → AllRead cx (fs ++ gs) (ks ++ js) (both p q)
  both_read p q fs gs ks js h g bytes i r m =
      let a = Contains-flat_map_cases (λ a. map (both_match a) (filter (agrees a) (q bytes i))) (p bytes i) r m in
      let b = Contains-map_cases (both_match a.0) (filter (agrees a.0) (q bytes i)) r a.2 in
      let there = Contains-filter_cases (agrees a.0) (q bytes i) b.0 b.1 in
      let stop = i + max a.0.len b.0.len in
      subst (λ (r : Match). Reads cx bytes (i + r.len) (fs ++ gs) (ks ++ js) r.binds) b.2
      (joined cx bytes stop fs gs ks js a.0.binds b.0.binds
      (later cx bytes (i + a.0.len) stop fs ks a.0.binds (omega arith) (h bytes i a.0 a.1))
      (later cx bytes (i + b.0.len) stop gs js b.0.binds (omega arith) (g bytes i b.0 there.0)))

  chain_read : (p q : Meaning) (fs gs ks js : List ℕ) → AllRead cx fs ks p → AllRead cx gs js q → AllRead cx (fs ++ gs) (ks ++ js) (chain p q)
  chain_read p q fs gs ks js h g bytes i r m =
      let a = Contains-flat_map_cases (λ a. map (chain_match a) (q bytes (i + a.len))) (p bytes i) r m in
      let b = Contains-map_cases (chain_match a.0) (q bytes (i + a.0.len)) r a.2 in
      let stop = i + (a.0.len + b.0.len) in
      subst (λ (r : Match). Reads cx bytes (i + r.len) (fs ++ gs) (ks ++ js) r.binds) b.2
      (joined cx bytes stop fs gs ks js a.0.binds b.0.binds
      (later cx bytes (i + a.0.len) stop fs ks a.0.binds (omega arith) (h bytes i a.0 a.1))
      (later cx bytes (i + a.0.len + b.0.len) stop gs js b.0.binds (omega arith) (g bytes (i + a.0.len) b.0 b.1)))

  either_read : (p q : Meaning) (fs ks : List ℕ) → AllRead cx fs ks p → AllRead cx fs ks q → AllRead cx fs ks (either p q)
  either_read p q fs ks h g bytes i r m = ⊎_elim (h bytes i r) (g bytes i r) (Contains-append_cases (p bytes i) (q bytes i) r m)

  -- the patterns of a row, each
  abbrev RowRead : {n : _} → Row_of-Pattern n → Type 0
  RowRead end_of-Pattern = Unit {0}
  RowRead (more_of-Pattern p ps) = AllRead cx (bare_fields p) (operands_in p) (results cx p) × RowRead ps

  module _ (op : Meaning → Meaning → Meaning) (keeps : (p q : Meaning) (fs gs ks js : List ℕ) → AllRead cx fs ks p → AllRead cx gs js q → AllRead cx (fs ++ gs) (ks ++ js) (op p q)) where
    fold_read : {n : _} (ps : Row_of-Pattern n) (m : Meaning) (fs ks : List ℕ) → AllRead cx fs ks m → RowRead ps → AllRead cx (fs ++ row_fields ps) (ks ++ operands_in_row ps) (fold op m (row_meanings cx ps))
    fold_read end_of-Pattern m fs ks h hs = subst (λ fs. AllRead cx fs (ks ++ []) m) (sym (append-nil fs)) (subst (λ ks. AllRead cx fs ks m) (sym (append-nil ks)) h)
    fold_read (more_of-Pattern p ps) m fs ks h hs =
        let all = fold_read ps (op m (results cx p)) (fs ++ bare_fields p) (ks ++ operands_in p) (keeps m (results cx p) fs (bare_fields p) ks (operands_in p) h hs.0) hs.1 in
        subst (λ fs. AllRead cx fs (ks ++ (operands_in p ++ operands_in_row ps)) (fold op (op m (results cx p)) (row_meanings cx ps))) (append_assoc fs (bare_fields p) (row_fields ps))
        (subst (λ ks. AllRead cx ((fs ++ bare_fields p) ++ row_fields ps) ks (fold op (op m (results cx p)) (row_meanings cx ps))) (append_assoc ks (operands_in p) (operands_in_row ps)) all)

    folded_read : {n : _} (ps : Row_of-Pattern n) → RowRead ps → AllRead cx (row_fields ps) (operands_in_row ps) (fold_meanings op (row_meanings cx ps))
    folded_read end_of-Pattern hs = λ bytes i r m. absurd (Contains-nil r m)
    folded_read (more_of-Pattern p ps) hs = fold_read ps (results cx p) (bare_fields p) (operands_in p) hs.0 hs.1

  -- sides that read nothing
  append_empty : (xs ys : List ℕ) → (xs ++ ys) ≡ [] → (xs ≡ []) × (ys ≡ [])
  append_empty [] ys e = (refl, e)
  append_empty (x ∷ xs) ys e = cc

  fold_sides : {n : _} (ps : Row_of-Pattern n) (m : Meaning) → AllRead cx [] [] m → RowRead ps → row_fields ps ≡ [] → operands_in_row ps ≡ [] → AllRead cx [] [] (fold either m (row_meanings cx ps))
  fold_sides end_of-Pattern m h hs e d = h
  fold_sides (more_of-Pattern p ps) m h hs e d =
      let a = append_empty (bare_fields p) (row_fields ps) e in
      let b = append_empty (operands_in p) (operands_in_row ps) d in
      let side = subst (λ fs. AllRead cx fs [] (results cx p)) a.0 (subst (λ ks. AllRead cx (bare_fields p) ks (results cx p)) b.0 hs.0) in
      fold_sides ps (either m (results cx p)) (either_read m (results cx p) [] [] h side) hs.1 a.1 b.1

  sides_read : {n : _} (ps : Row_of-Pattern n) → RowRead ps → row_fields ps ≡ [] → operands_in_row ps ≡ [] → AllRead cx [] [] (fold_meanings either (row_meanings cx ps))
  sides_read end_of-Pattern hs e d = λ bytes i r m. absurd (Contains-nil r m)
  sides_read (more_of-Pattern p ps) hs e d =
      let a = append_empty (bare_fields p) (row_fields ps) e in
      let b = append_empty (operands_in p) (operands_in_row ps) d in
      let side = subst (λ fs. AllRead cx fs [] (results cx p)) a.0 (subst (λ ks. AllRead cx (bare_fields p) ks (results cx p)) b.0 hs.0) in
      fold_sides ps (results cx p) side hs.1 a.1 b.1

  either_rows : {n : _} (ps : Row_of-Pattern n) → RowRead ps → row_fields ps ≡ [] → operands_in_row ps ≡ [] → AllRead cx (row_fields ps) (operands_in_row ps) (fold_meanings either (row_meanings cx ps))
  either_rows ps hs e d =
      subst (λ fs. AllRead cx fs (operands_in_row ps) (fold_meanings either (row_meanings cx ps))) (sym e)
      (subst (λ ks. AllRead cx [] ks (fold_meanings either (row_meanings cx ps))) (sym d) (sides_read ps hs e d))

  -- one pattern in a box
  boxed_read : (ps : Row_of-Pattern (one_more none_left)) → RowRead ps → AllRead cx (row_fields ps) (operands_in_row ps) (boxed_meaning (row_meanings cx ps))
  boxed_read (more_of-Pattern p end_of-Pattern) hs =
      subst (λ fs. AllRead cx fs (operands_in p ++ []) (results cx p)) (sym (append-nil (bare_fields p)))
      (subst (λ ks. AllRead cx (bare_fields p) ks (results cx p)) (sym (append-nil (operands_in p))) hs.0)

  label_read : (l : ℕ) (p : Meaning) (fs ks : List ℕ) → AllRead cx fs ks p → AllRead cx fs ks (λ bytes i. map (label_match l i) (p bytes i))
  label_read l p fs ks h bytes i r m =
      let a = Contains-map_cases (label_match l i) (p bytes i) r m in
      subst (λ (r : Match). Reads cx bytes (i + r.len) fs ks r.binds) a.2 (marked cx bytes (i + a.0.len) l i fs ks a.0.binds (omega arith) (h bytes i a.0 a.1))

  loose_read : (p : Meaning) (fs ks : List ℕ) → AllRead cx fs ks p → AllRead cx fs ks (λ bytes i. map loose_match (p bytes i))
  loose_read p fs ks h bytes i r m =
      let a = Contains-map_cases loose_match (p bytes i) r m in
      subst (λ (r : Match). Reads cx bytes (i + r.len) fs ks r.binds) a.2 (h bytes i a.0 a.1)

  -- ---- leaves

  one_read : (bytes : List ℕ) (i len : ℕ) (fs ks : List ℕ) (binds : List RawEntry) (r : Match) → Reads cx bytes (i + len) fs ks binds → Contains (one_match binds len) r → Reads cx bytes (i + r.len) fs ks r.binds
  one_read bytes i len fs ks binds r h m = subst (λ (r : Match). Reads cx bytes (i + r.len) fs ks r.binds) (contains_one (record { binds = binds; len = len; loose = false }) r m) h

  class_read : (c : ClassId) → AllRead cx [] [] (class_results cx.tokens c)
  class_read c bytes i r m = by_known (slice_get cx.tokens.classes c.0) m
    where
      by_value : (class : Class) (o : Option ℕ) → Contains (results_from o (λ n. one_match [] (byte_count class))) r → Reads cx bytes (i + r.len) [] [] r.binds
      by_value class None m = absurd (Contains-nil r m)
      by_value class (Some n) m = one_read bytes i (byte_count class) [] [] [] r (nothing cx bytes (i + byte_count class)) m

      by_known : (o : Option Class) → Contains (results_from o (λ class. results_from (token class bytes i) (λ n. one_match [] (byte_count class)))) r → Reads cx bytes (i + r.len) [] [] r.binds
      by_known None m = absurd (Contains-nil r m)
      by_known (Some class) m = by_value class (token class bytes i) m

  limit_read : (f : FieldId) (relation : Relation) (limit : ℕ) → AllRead cx [] [] (limit_results cx.tokens f relation limit)
  limit_read f relation limit bytes i r m = by_value (value_at cx.tokens f bytes i) m
    where
      by_test : (b : Bool) → Contains (cond b (one_match [] (token_len cx.tokens f)) []) r → Reads cx bytes (i + r.len) [] [] r.binds
      by_test true m = one_read bytes i (token_len cx.tokens f) [] [] [] r (nothing cx bytes (i + token_len cx.tokens f)) m
      by_test false m = absurd (Contains-nil r m)

      by_value : (o : Option ℕ) → Contains (results_from o (λ value. cond (has_relation relation value limit) (one_match [] (token_len cx.tokens f)) [])) r → Reads cx bytes (i + r.len) [] [] r.binds
      by_value None m = absurd (Contains-nil r m)
      by_value (Some value) m = by_test (has_relation relation value limit) m

  bind_read : (f : FieldId) → AllRead cx (f.0 ∷ []) [] (bind_results cx.tokens f)
  bind_read f bytes i r m = by_value (value_at cx.tokens f bytes i) refl m
    where
      by_value : (o : Option ℕ) → value_at cx.tokens f bytes i ≡ o → Contains (results_from o (λ value. one_match (Value f value i ∷ []) (token_len cx.tokens f))) r → Reads cx bytes (i + r.len) (f.0 ∷ []) [] r.binds
      by_value None e m = absurd (Contains-nil r m)
      by_value (Some value) e m =
          one_read bytes i (token_len cx.tokens f) (f.0 ∷ []) [] (Value f value i ∷ []) r (one_value cx bytes (i + token_len cx.tokens f) value i f (value_within cx.tokens bytes i f value e)) m

  -- the result is a choice, of the constructor of this number
  record IsChosen (k : ℕ) (known : List Known) (t : TypeId) (bytes : List ℕ) (i : ℕ) (r : Match) : Type 0 where
    place : ℕ
    chosen : Known
    is_known : slice_get known place ≡ Some chosen
    makes_type : makes t chosen.constructor.result ≡ true
    found : Match
    among : Contains (chosen.body bytes i) found
    is : choice_match (k + place) [] found ≡ r

  module _ (t : TypeId) (bytes : List ℕ) (i : ℕ) (r : Match) where
    chosen_here : (k : ℕ) (c : Known) (cs : List Known) (b : Bool) → makes t c.constructor.result ≡ b → Contains (cond b (map (choice_match k []) (c.body bytes i)) []) r → IsChosen k (c ∷ cs) t bytes i r
    chosen_here k c cs true e m =
        let a = Contains-map_cases (choice_match k []) (c.body bytes i) r m in
        let same : k + 0 ≡ k = omega arith in
        record { place = 0; chosen = c; is_known = refl; makes_type = e; found = a.0; among = a.1; is = ap (λ n. choice_match n [] a.0) same ∙ a.2 }
    chosen_here k c cs false e m = absurd (Contains-nil r m)

    chosen_later : (k : ℕ) (c : Known) (cs : List Known) → IsChosen (k + 1) cs t bytes i r → IsChosen k (c ∷ cs) t bytes i r
    chosen_later k c cs h =
        let same : k + suc h.place ≡ k + 1 + h.place = omega arith in
        record { place = suc h.place; chosen = h.chosen; is_known = h.is_known; makes_type = h.makes_type; found = h.found; among = h.among; is = ap (λ n. choice_match n [] h.found) same ∙ h.is }

    chosen_of : (k : ℕ) (known : List Known) → Contains (choices_from k known t bytes i) r → IsChosen k known t bytes i r
    chosen_of k [] m = absurd (Contains-nil r m)
    chosen_of k (c ∷ cs) m =
        ⊎_elim (chosen_here k c cs (makes t c.constructor.result) refl) (λ n. chosen_later k c cs (chosen_of (k + 1) cs n))
        (Contains-append_cases (cond (makes t c.constructor.result) (map (choice_match k []) (c.body bytes i)) []) (choices_from (k + 1) cs t bytes i) r m)

  choice_read : (k : ℕ) (t : TypeId) (bytes : List ℕ) (i : ℕ) (r : Match) → slice_get cx.operands k ≡ Some (Typed t) → IsChosen 0 cx.known t bytes i r → Reads cx bytes (i + r.len) [] (k ∷ []) r.binds
  choice_read k t bytes i r e h =
      let entry = Choice (record { 0 = 0 + h.place }) (record { entries = h.found.binds }) [] in
      let number : 0 + h.place ≡ h.place = omega arith in
      let stop = i + h.found.len in
      subst (λ (r : Match). Reads cx bytes (i + r.len) [] (k ∷ []) r.binds) h.is (record {
        values = refl;
        each = All-cons (IsEntry cx.tokens stop) entry [] tt (All-nil (IsEntry cx.tokens stop));
        choices = (
          record {
            of_type = t;
            kind = e;
            number = h.place;
            known = h.chosen;
            is_known = h.is_known;
            makes_type = h.makes_type;
            offset = i;
            found = h.found;
            among = h.among;
            ends = omega arith;
            is = ap (λ n. Choice (record { 0 = n }) (record { entries = h.found.binds }) []) number;
          },
          tt,
        );
      })

  operand_read : (k : ℕ) → AllRead cx [] (k ∷ []) (operand_results cx k)
  operand_read k bytes i r m = by_kind (slice_get cx.operands k) refl m
    where
      by_kind : (o : Option OperandKind) → slice_get cx.operands k ≡ o → Contains (results_from o (λ kind. kind_results cx.known kind bytes i)) r → Reads cx bytes (i + r.len) [] (k ∷ []) r.binds
      by_kind None e m = absurd (Contains-nil r m)
      by_kind (Some (Typed t)) e m = choice_read k t bytes i r e (chosen_of t bytes i r 0 cx.known m)
      by_kind (Some (Plain f)) e m = absurd (Contains-nil r m)
      by_kind (Some (Extended f)) e m = absurd (Contains-nil r m)
      by_kind (Some Whole) e m = absurd (Contains-nil r m)
      by_kind (Some Sliced) e m = absurd (Contains-nil r m)

  -- ---- patterns

  mutual
    sides_of_nothing : (p : Pattern) → bare_fields p ≡ [] → operands_in p ≡ [] → SidesReadNothing p
    sides_of_nothing (Token c) e d = tt
    sides_of_nothing (Limit f relation limit) e d = tt
    sides_of_nothing (Bind f) e d = tt
    sides_of_nothing (Operand k) e d = tt
    sides_of_nothing (Label' l s p) e d = sides_of_row p e d
    sides_of_nothing (Both' s ps) e d = sides_of_row ps e d
    sides_of_nothing (Either' s ps) e d = (e, d)
    sides_of_nothing (Chain' s ps) e d = sides_of_row ps e d
    sides_of_nothing (Loose' s p) e d = sides_of_row p e d
    sides_of_nothing (Apply' k s arguments) e d = tt
    sides_of_nothing Empty e d = tt

    sides_of_row : {n : _} (ps : Row_of-Pattern n) → row_fields ps ≡ [] → operands_in_row ps ≡ [] → RowSidesReadNothing ps
    sides_of_row end_of-Pattern e d = tt
    sides_of_row (more_of-Pattern p ps) e d =
        let a = append_empty (bare_fields p) (row_fields ps) e in
        let b = append_empty (operands_in p) (operands_in_row ps) d in
        (sides_of_nothing p a.0 b.0, sides_of_row ps a.1 b.1)

  mutual
    pub reads : (p : Pattern) → AllLeaves IsNoApplication p → SidesReadNothing p → AllRead cx (bare_fields p) (operands_in p) (results cx p)
    reads (Token c) plain sides = class_read c
    reads (Limit f relation limit) plain sides = limit_read f relation limit
    reads (Bind f) plain sides = bind_read f
    reads (Operand k) plain sides = operand_read k
    reads (Label' l s p) plain sides = label_read l (boxed_meaning (row_meanings cx p)) (row_fields p) (operands_in_row p) (boxed_read p (rows_read p plain sides))
    reads (Both' s ps) plain sides = folded_read both both_read ps (rows_read ps plain sides)
    reads (Either' s ps) plain sides = either_rows ps (rows_read ps plain (sides_of_row ps sides.0 sides.1)) sides.0 sides.1
    reads (Chain' s ps) plain sides = folded_read chain chain_read ps (rows_read ps plain sides)
    reads (Loose' s p) plain sides = loose_read (boxed_meaning (row_meanings cx p)) (row_fields p) (operands_in_row p) (boxed_read p (rows_read p plain sides))
    reads (Apply' k s arguments) plain sides = absurd plain
    reads Empty plain sides = λ bytes i r m. one_read bytes i 0 [] [] [] r (nothing cx bytes (i + 0)) m

    rows_read : {n : _} (ps : Row_of-Pattern n) → AllLeavesOfRow IsNoApplication ps → RowSidesReadNothing ps → RowRead ps
    rows_read end_of-Pattern plain sides = tt
    rows_read (more_of-Pattern p ps) plain sides = (reads p plain.0 sides.0, rows_read ps plain.1 sides.1)
