-- Whether a result stands is a matter of the bytes up to its end.
use Rattle.std.proofs.Common.{◌≡◌, ℕ, ◌+◌, ◌<◌, ◌≤◌, ◌⊎◌, inl, inr, Bool, true, false, cond, leb, max, List, [], ◌∷◌, ◌++◌, map, filter, take, slice_get, All, Option, Some, None, refl, sym, ap, ◌∙◌, subst, option_and_then, add_assoc, arith}
use Rattle.std.specs.List.{flat_map, fold}
use Rattle.std.specs.Option.{option_map}
use Rattle.std.proofs.lemmas.Bool.{cases_Bool, le-leb, lt-leb, leb-true, leb-false}
use Rattle.std.proofs.lemmas.List.Elements.{All-head, All-tail, All-nil, All-cons, All-weaker, All-map, All-append, filter-append}
use Rattle.token_bits.specs.declared.tokens.Class.{Class}
use Rattle.token_bits.specs.declared.tokens.ClassId.{ClassId}
use Rattle.token_bits.specs.declared.tokens.Field.{Field}
use Rattle.token_bits.specs.declared.tokens.FieldId.{FieldId}
use Rattle.token_bits.specs.declared.tokens.Tokens.{Tokens}
use Rattle.token_bits.specs.Tokens.{byte_count, bits_of, token, token_len, value_at}
use Rattle.token_bits.proofs.Sound.{All-slice_get}
use Rattle.token_bits.proofs.TokenFront.{token-front, token-past}
use Rattle.token_bits.proofs.PutLemmas.{token_len-known}
use Rattle.sled_model.specs.declared.raw.Match.{Match}
use Rattle.sled_model.specs.declared.raw.RawEntry.{RawEntry}
use Rattle.sled_model.specs.declared.raw.RawEntry.TheVariants.{Value}
use Rattle.sled_model.specs.declared.constructor.TypeId.{TypeId}
use Rattle.sled_model.specs.declared.constructor.OperandKind.{OperandKind}
use Rattle.sled_model.specs.declared.constructor.OperandKind.TheVariants.{Plain, Extended, Typed, Whole, Sliced}
use Rattle.sled_model.specs.declared.constructor.Constructor.{Constructor}
use Rattle.sled_model.specs.declared.spec.Spec.{Spec}
use Rattle.sled_model.specs.declared.statement.Arm.{Arm}
use Rattle.sled_model.specs.declared.pattern.Relation.{Relation}
use Rattle.sled_model.specs.declared.pattern.Argument.{Argument}
use Rattle.sled_model.specs.declared.pattern.Pattern.{Pattern, Row_of-Pattern, end_of-Pattern, more_of-Pattern, items-the_row-Argument}
use Rattle.sled_model.specs.declared.pattern.Pattern.TheVariants.{Token, Limit, Bind, Operand, Label', Both', Either', Chain', Loose', Apply', Empty}
use Rattle.sled_model.specs.Results.{Meaning, Known, Context, results, row_meanings, known_from, arm_context, arm_results, results_from, one_match, has_relation, class_results, limit_results, bind_results, either, chain, chain_match, both, both_match, agrees, fold_meanings, boxed_meaning, no_results, label_match, loose_match, choice_match, choices_from, makes, kind_results, operand_results, application_results, arguments_admit}
use Rattle.sled_model.proofs.Filters.{filter-all, filter-none, filter-map, filter-swap, filter-flat_map}

-- whether a result at i ends within the first n bytes
abbrev pub ends_within : ℕ → ℕ → Match → Bool
ends_within i n a = leb (i + a.len) n

-- the results on the first n bytes are those on all bytes that end within these
abbrev pub IsLocal : Meaning → Type 0
IsLocal m = (bytes : List ℕ) (i n : ℕ) → i ≤ n → m (take n bytes) i ≡ filter (ends_within i n) (m bytes i)

-- ---- tokens

-- results that have the length of a token
module _ (class : Class) (g : ℕ → List Match) (long : (v : ℕ) → All (λ a. a.len ≡ byte_count class) (g v)) (i n : ℕ) where
  from_all : (o : Option ℕ) → i + byte_count class ≤ n → filter (ends_within i n) (results_from o g) ≡ results_from o g
  from_all None h = refl
  from_all (Some v) h =
      filter-all (ends_within i n) (g v) (All-weaker (λ a. a.len ≡ byte_count class) (λ a. ends_within i n a ≡ true) (λ a e. le-leb (i + a.len) n (omega arith)) (g v) (long v))

  from_none : (o : Option ℕ) → n < i + byte_count class → filter (ends_within i n) (results_from o g) ≡ []
  from_none None h = refl
  from_none (Some v) h =
      filter-none (ends_within i n) (g v) (All-weaker (λ a. a.len ≡ byte_count class) (λ a. ends_within i n a ≡ false) (λ a e. lt-leb (i + a.len) n (omega arith)) (g v) (long v))

  pub from_token-local : (bytes : List ℕ) → results_from (token class (take n bytes) i) g ≡ filter (ends_within i n) (results_from (token class bytes i) g)
  from_token-local bytes = by_end (cases_Bool (leb (i + byte_count class) n))
    where
      by_end : (leb (i + byte_count class) n ≡ true) ⊎ (leb (i + byte_count class) n ≡ false) → results_from (token class (take n bytes) i) g ≡ filter (ends_within i n) (results_from (token class bytes i) g)
      by_end (inl e) =
          let within = leb-true (i + byte_count class) n e in
          ap (λ o. results_from o g) (token-front class bytes i n within) ∙ sym (from_all (token class bytes i) within)
      by_end (inr e) =
          let past = leb-false (i + byte_count class) n e in
          ap (λ o. results_from o g) (token-past class bytes i n past) ∙ sym (from_none (token class bytes i) past)

-- results that follow from a field's value
module _ (tokens : Tokens) (f : FieldId) (h : ℕ → List Match) (long : (v : ℕ) → All (λ a. a.len ≡ token_len tokens f) (h v)) (bytes : List ℕ) (i n : ℕ) where
  read : Option Field → List ℕ → Option ℕ
  read o bs = option_and_then (λ (field : Field). option_and_then (λ (class : Class). option_map (bits_of field.lo field.hi) (token class bs i)) (slice_get tokens.classes field.class.0)) o

  mapped : (o : Option ℕ) (b : ℕ → ℕ) → results_from (option_map b o) h ≡ results_from o (λ v. h (b v))
  mapped None b = refl
  mapped (Some v) b = refl

  by_class : (field : Field) (o : Option Class) → slice_get tokens.fields f.0 ≡ Some field → slice_get tokens.classes field.class.0 ≡ o
      → results_from (option_and_then (λ (class : Class). option_map (bits_of field.lo field.hi) (token class (take n bytes) i)) o) h
      ≡ filter (ends_within i n) (results_from (option_and_then (λ (class : Class). option_map (bits_of field.lo field.hi) (token class bytes i)) o) h)
  by_class field None known of = refl
  by_class field (Some class) known of =
      let b = bits_of field.lo field.hi in
      mapped (token class (take n bytes) i) b
      ∙ from_token-local class (λ v. h (b v)) (λ v. subst (λ (k : ℕ). All (λ (a : Match). a.len ≡ k) (h (b v))) (token_len-known tokens f field class known of) (long (b v))) i n bytes
      ∙ sym (ap (filter (ends_within i n)) (mapped (token class bytes i) b))

  by_field : (o : Option Field) → slice_get tokens.fields f.0 ≡ o → results_from (read o (take n bytes)) h ≡ filter (ends_within i n) (results_from (read o bytes) h)
  unfolding read
  by_field None known = refl
  by_field (Some field) known = by_class field (slice_get tokens.classes field.class.0) known refl

  pub from_value-local : results_from (value_at tokens f (take n bytes) i) h ≡ filter (ends_within i n) (results_from (value_at tokens f bytes i) h)
  unfolding read
  from_value-local = by_field (slice_get tokens.fields f.0) refl

-- a bool of two lists of results of one length
long_choice : (k : ℕ) (b : Bool) (found : List Match) → All (λ a. a.len ≡ k) found → All (λ (a : Match). a.len ≡ k) (cond b found [])
long_choice k true found h = h
long_choice k false found h = All-nil (λ (a : Match). a.len ≡ k)

one_long : (binds : List RawEntry) (k : ℕ) → All (λ (a : Match). a.len ≡ k) (one_match binds k)
one_long binds k = All-cons (λ (a : Match). a.len ≡ k) (record { binds = binds; len = k; loose = false }) [] refl (All-nil (λ (a : Match). a.len ≡ k))

class_results-local : (tokens : Tokens) (c : ClassId) → IsLocal (class_results tokens c)
class_results-local tokens c bytes i n h = by_class (slice_get tokens.classes c.0)
  where
    by_class : (o : Option Class)
        → results_from o (λ class. results_from (token class (take n bytes) i) (λ v. one_match [] (byte_count class)))
        ≡ filter (ends_within i n) (results_from o (λ class. results_from (token class bytes i) (λ v. one_match [] (byte_count class))))
    by_class None = refl
    by_class (Some class) = from_token-local class (λ v. one_match [] (byte_count class)) (λ v. one_long [] (byte_count class)) i n bytes

limit_results-local : (tokens : Tokens) (f : FieldId) (relation : Relation) (limit : ℕ) → IsLocal (limit_results tokens f relation limit)
limit_results-local tokens f relation limit bytes i n h =
    from_value-local tokens f (λ value. cond (has_relation relation value limit) (one_match [] (token_len tokens f)) [])
    (λ v. long_choice (token_len tokens f) (has_relation relation v limit) (one_match [] (token_len tokens f)) (one_long [] (token_len tokens f))) bytes i n

bind_results-local : (tokens : Tokens) (f : FieldId) → IsLocal (bind_results tokens f)
bind_results-local tokens f bytes i n h =
    from_value-local tokens f (λ value. one_match (Value f value i ∷ []) (token_len tokens f)) (λ v. one_long (Value f v i ∷ []) (token_len tokens f)) bytes i n

-- ---- operators

-- what holds of any item
every : {A : Type 0} (P : A → Type 0) → ((x : A) → P x) → (xs : List A) → All P xs
every P h [] = All-nil P
every P h (x ∷ xs) = All-cons P x xs (h x) (every P h xs)

-- the greater of two ends is within where both are
greater : (i n a b : ℕ) → i + a ≤ n → leb (i + max a b) n ≡ leb (i + b) n
greater i n a b h = by_end (cases_Bool (leb (i + b) n))
  where
    by_end : (leb (i + b) n ≡ true) ⊎ (leb (i + b) n ≡ false) → leb (i + max a b) n ≡ leb (i + b) n
    by_end (inl e) = let within = leb-true (i + b) n e in le-leb (i + max a b) n (omega arith) ∙ sym e
    by_end (inr e) = let past = leb-false (i + b) n e in lt-leb (i + max a b) n (omega arith) ∙ sym e

no_results-local : IsLocal no_results
no_results-local bytes i n h = refl

empty-local : IsLocal (λ bytes i. one_match [] 0)
empty-local bytes i n h = sym (filter-all (ends_within i n) (one_match [] 0) (All-cons (λ a. ends_within i n a ≡ true) _ [] (le-leb (i + 0) n (omega arith)) (All-nil (λ a. ends_within i n a ≡ true))))

-- results that are changed one by one, and keep their lengths
mapped-local : (m : Meaning) (f : ℕ → Match → Match) → ((i : ℕ) (a : Match) → (f i a).len ≡ a.len) → IsLocal m → IsLocal (λ bytes i. map (f i) (m bytes i))
mapped-local m f same h bytes i n le =
    ap (map (f i)) (h bytes i n le) ∙ sym (filter-map (ends_within i n) (ends_within i n) (f i) (λ a. ap (λ len. leb (i + len) n) (same i a)) (m bytes i))

either-local : (p q : Meaning) → IsLocal p → IsLocal q → IsLocal (either p q)
either-local p q h g bytes i n le =
    ap (λ r. r ++ q (take n bytes) i) (h bytes i n le) ∙ ap (λ r. filter (ends_within i n) (p bytes i) ++ r) (g bytes i n le) ∙ sym (filter-append (ends_within i n) (p bytes i) (q bytes i))

chain-local : (p q : Meaning) → IsLocal p → IsLocal q → IsLocal (chain p q)
chain-local p q h g bytes i n le =
    ap (flat_map (λ a. map (chain_match a) (q (take n bytes) (i + a.len)))) (h bytes i n le)
    ∙ filter-flat_map (ends_within i n) (ends_within i n) (λ a. map (chain_match a) (q (take n bytes) (i + a.len))) (λ a. map (chain_match a) (q bytes (i + a.len)))
    (λ a e.
    ap (map (chain_match a)) (g bytes (i + a.len) n (leb-true (i + a.len) n e))
    ∙ sym (filter-map (ends_within i n) (ends_within (i + a.len) n) (chain_match a) (λ b. ap (λ k. leb k n) (sym (add_assoc i a.len b.len))) (q bytes (i + a.len))))
    (λ a e.
    let past = leb-false (i + a.len) n e in
    filter-none (ends_within i n) (map (chain_match a) (q bytes (i + a.len)))
    (All-map (λ c. ends_within i n c ≡ false) (chain_match a) (q bytes (i + a.len)) (every (λ b. ends_within i n (chain_match a b) ≡ false) (λ b. lt-leb (i + (a.len + b.len)) n (omega arith)) (q bytes (i + a.len)))))
    (p bytes i)

both-local : (p q : Meaning) → IsLocal p → IsLocal q → IsLocal (both p q)
both-local p q h g bytes i n le =
    ap (flat_map (λ a. map (both_match a) (filter (agrees a) (q (take n bytes) i)))) (h bytes i n le)
    ∙ filter-flat_map (ends_within i n) (ends_within i n) (λ a. map (both_match a) (filter (agrees a) (q (take n bytes) i))) (λ a. map (both_match a) (filter (agrees a) (q bytes i)))
    (λ a e.
    ap (λ bs. map (both_match a) (filter (agrees a) bs)) (g bytes i n le)
    ∙ ap (map (both_match a)) (filter-swap (agrees a) (ends_within i n) (q bytes i))
    ∙ sym (filter-map (ends_within i n) (ends_within i n) (both_match a) (λ b. greater i n a.len b.len (leb-true (i + a.len) n e)) (filter (agrees a) (q bytes i))))
    (λ a e.
    let past = leb-false (i + a.len) n e in
    filter-none (ends_within i n) (map (both_match a) (filter (agrees a) (q bytes i)))
    (All-map (λ c. ends_within i n c ≡ false) (both_match a) (filter (agrees a) (q bytes i))
    (every (λ b. ends_within i n (both_match a b) ≡ false) (λ b. lt-leb (i + max a.len b.len) n (omega arith)) (filter (agrees a) (q bytes i)))))
    (p bytes i)

fold-local : (op : Meaning → Meaning → Meaning) → ((p q : Meaning) → IsLocal p → IsLocal q → IsLocal (op p q)) → (m : Meaning) (ms : List Meaning) → IsLocal m → All IsLocal ms
    → IsLocal (fold op m ms)
fold-local op keeps m [] h hs = h
fold-local op keeps m (q ∷ ms) h hs = fold-local op keeps (op m q) ms (keeps m q h (All-head IsLocal q ms hs)) (All-tail IsLocal q ms hs)

folded-local : (op : Meaning → Meaning → Meaning) → ((p q : Meaning) → IsLocal p → IsLocal q → IsLocal (op p q)) → (ms : List Meaning) → All IsLocal ms → IsLocal (fold_meanings op ms)
folded-local op keeps [] hs = no_results-local
folded-local op keeps (m ∷ ms) hs = fold-local op keeps m ms (All-head IsLocal m ms hs) (All-tail IsLocal m ms hs)

boxed-local : (ms : List Meaning) → All IsLocal ms → IsLocal (boxed_meaning ms)
boxed-local [] hs = no_results-local
boxed-local (m ∷ ms) hs = All-head IsLocal m ms hs

-- ---- constructors

abbrev pub AreLocal : List Known → Type 0
AreLocal known = All (λ (c : Known). IsLocal c.body) known

choices-local : (k : ℕ) (known : List Known) (t : TypeId) → AreLocal known → IsLocal (choices_from k known t)
choices-local k [] t hs bytes i n le = refl
choices-local k (c ∷ cs) t hs bytes i n le =
    ap (λ r. r ++ choices_from (k + 1) cs t (take n bytes) i) (by_type (makes t c.constructor.result))
    ∙ ap (λ r. filter (ends_within i n) (cond (makes t c.constructor.result) (map (choice_match k []) (c.body bytes i)) []) ++ r)
    (choices-local (k + 1) cs t (All-tail (λ (d : Known). IsLocal d.body) c cs hs) bytes i n le)
    ∙ sym (filter-append (ends_within i n) (cond (makes t c.constructor.result) (map (choice_match k []) (c.body bytes i)) []) (choices_from (k + 1) cs t bytes i))
  where
    by_type : (b : Bool) → cond b (map (choice_match k []) (c.body (take n bytes) i)) [] ≡ filter (ends_within i n) (cond b (map (choice_match k []) (c.body bytes i)) [])
    by_type true = mapped-local c.body (λ j. choice_match k []) (λ j a. refl) (All-head (λ (d : Known). IsLocal d.body) c cs hs) bytes i n le
    by_type false = refl

pub kind-local : (known : List Known) (kind : OperandKind) → AreLocal known → IsLocal (kind_results known kind)
kind-local known (Plain f) hs bytes i n le = refl
kind-local known (Extended f) hs bytes i n le = refl
kind-local known (Typed t) hs bytes i n le = choices-local 0 known t hs bytes i n le
kind-local known Whole hs bytes i n le = refl
kind-local known Sliced hs bytes i n le = refl

pub operand-local : (cx : Context) (k : ℕ) → AreLocal cx.known → IsLocal (operand_results cx k)
operand-local cx k hs bytes i n le = by_kind (slice_get cx.operands k)
  where
    by_kind : (o : Option OperandKind) → results_from o (λ kind. kind_results cx.known kind (take n bytes) i) ≡ filter (ends_within i n) (results_from o (λ kind. kind_results cx.known kind bytes i))
    by_kind None = refl
    by_kind (Some kind) = kind-local cx.known kind hs bytes i n le

pub application-local : (known : List Known) (k : ℕ) (arguments : List Argument) (admitted : List RawEntry → Bool) → AreLocal known → IsLocal (application_results known k arguments admitted)
application-local known k arguments admitted hs bytes i n le = by_known (slice_get known k) refl
  where
    by_known : (o : Option Known) → slice_get known k ≡ o
        → results_from o (λ c. map (choice_match k arguments) (filter (λ a. admitted a.binds) (c.body (take n bytes) i)))
        ≡ filter (ends_within i n) (results_from o (λ c. map (choice_match k arguments) (filter (λ a. admitted a.binds) (c.body bytes i))))
    by_known None e = refl
    by_known (Some c) e =
        mapped-local (λ bs j. filter (λ a. admitted a.binds) (c.body bs j)) (λ j. choice_match k arguments) (λ j a. refl)
        (λ bs j m within.
        ap (filter (λ a. admitted a.binds)) (All-slice_get (λ (d : Known). IsLocal d.body) known k c e hs bs j m within)
        ∙ filter-swap (λ a. admitted a.binds) (ends_within j m) (c.body bs j))
        bytes i n le

-- ---- patterns

mutual
  pub results-local : (cx : Context) → AreLocal cx.known → (p : Pattern) → IsLocal (results cx p)
  results-local cx hs (Token c) = class_results-local cx.tokens c
  results-local cx hs (Limit f relation limit) = limit_results-local cx.tokens f relation limit
  results-local cx hs (Bind f) = bind_results-local cx.tokens f
  results-local cx hs (Operand k) = operand-local cx k hs
  results-local cx hs (Label' l s p) = mapped-local (boxed_meaning (row_meanings cx p)) (label_match l) (λ i a. refl) (boxed-local (row_meanings cx p) (row-local cx hs p))
  results-local cx hs (Both' s ps) = folded-local both both-local (row_meanings cx ps) (row-local cx hs ps)
  results-local cx hs (Either' s ps) = folded-local either either-local (row_meanings cx ps) (row-local cx hs ps)
  results-local cx hs (Chain' s ps) = folded-local chain chain-local (row_meanings cx ps) (row-local cx hs ps)
  results-local cx hs (Loose' s p) = mapped-local (boxed_meaning (row_meanings cx p)) (λ i. loose_match) (λ i a. refl) (boxed-local (row_meanings cx p) (row-local cx hs p))
  results-local cx hs (Apply' k s arguments) =
      application-local cx.known k.0 (items-the_row-Argument _ arguments) (λ inner. arguments_admit cx.known (slice_get cx.known k.0) inner 0 arguments) hs
  results-local cx hs Empty = empty-local

  row-local : {n : _} (cx : Context) → AreLocal cx.known → (ps : Row_of-Pattern n) → All IsLocal (row_meanings cx ps)
  row-local cx hs end_of-Pattern = All-nil IsLocal
  row-local cx hs (more_of-Pattern p ps) = All-cons IsLocal (results cx p) (row_meanings cx ps) (results-local cx hs p) (row-local cx hs ps)

pub known-local : (tokens : Tokens) (known : List Known) (cs : List Constructor) → AreLocal known → AreLocal (known_from tokens known cs)
known-local tokens known [] hs = hs
known-local tokens known (c ∷ cs) hs =
    let k : Known = record { constructor = c; body = results (record { tokens = tokens; operands = c.operands; known = known }) c.body } in
    known-local tokens (known ++ k ∷ []) cs
    (All-append (λ (d : Known). IsLocal d.body) known (k ∷ []) hs
    (All-cons (λ (d : Known). IsLocal d.body) k [] (results-local (record { tokens = tokens; operands = c.operands; known = known }) hs c.body) (All-nil (λ (d : Known). IsLocal d.body))))

-- so are the results of an arm
pub arm-local : (spec : Spec) (arm : Arm) → IsLocal (arm_results spec arm)
arm-local spec arm = results-local (arm_context spec) (known-local spec.tokens [] spec.constructors (All-nil (λ (d : Known). IsLocal d.body))) arm.pattern
