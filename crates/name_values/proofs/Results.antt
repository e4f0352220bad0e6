-- The choices in a result of an arm are of results of their constructors' bodies.
use Rattle.std.proofs.Common.{◌≡◌, ℕ, ◌+◌, ◌≤◌, max, Bool, true, false, cond, List, [], ◌∷◌, map, filter, All, Contains, slice_get, Option, Some, None, refl, sym, arith}
use Rattle.std.specs.List.{flat_map, fold}
use Rattle.std.proofs.lemmas.List.Elements.{All-nil, All-cons, All-append, All-map, All-filter, All-head, All-tail, All-weaker, All-contains_itself}
use Rattle.token_bits.specs.Tokens.{byte_count, token, token_len, value_at}
use Rattle.sled_model.specs.declared.constructor.OperandKind.{OperandKind}
use Rattle.sled_model.specs.declared.pattern.Argument.{Argument}
use Rattle.sled_model.specs.declared.pattern.Pattern.{Pattern, Row_of-Pattern, end_of-Pattern, more_of-Pattern, items-the_row-Argument}
use Rattle.sled_model.specs.declared.pattern.Pattern.TheVariants.{Token, Limit, Bind, Operand, Label', Both', Either', Chain', Loose', Apply', Empty}
use Rattle.sled_model.specs.declared.raw.Match.{Match}
use Rattle.sled_model.specs.declared.raw.RawEntry.{RawEntry, items-the_row-RawEntry, items_hidden-the_row-RawEntry-0}
use Rattle.sled_model.specs.declared.raw.RawEntry.TheVariants.{Value, Mark, Choice'}
use Rattle.sled_model.specs.declared.spec.Spec.{Spec}
use Rattle.sled_model.specs.declared.statement.Arm.{Arm}
use Rattle.sled_model.specs.PlainStatements.{IsBoundedArm}
use Rattle.sled_model.specs.Results.{Meaning, Known, known_from, results, row_meanings, results_from, one_match, has_relation, kind_results, choice_match, either, chain, chain_match, both, both_match, agrees, fold_meanings, boxed_meaning, label_match, loose_match, arguments_admit, application_results, arm_context, arm_results}
use Rattle.sled_model.proofs.Front.{first_from-has, bounded-length}
use Rattle.match_meaning.specs.Matchable.{IsMatchableArm}
use Rattle.name_values.specs.Values.{IsBodyChoice}
use Rattle.name_values.specs.Laws.{ArmResultsMean}

-- the entries are those of a result of the body of known constructor number k, that ends at this offset or before
record IsFound (known : List Known) (bytes : List ℕ) (stop k : ℕ) (entries : List RawEntry) : Type 0 where
  of : Known
  is_known : slice_get known k ≡ Some of
  offset : ℕ
  found : Match
  among : Contains (of.body bytes offset) found
  ends : offset + found.len ≤ stop
  binds : found.binds ≡ entries

module _ (known : List Known) (bytes : List ℕ) where
  abbrev IsFoundChoice : ℕ → RawEntry → Type 0
  IsFoundChoice stop (Choice' k s inner arguments) = IsFound known bytes stop k.0 (items-the_row-RawEntry _ inner)
  IsFoundChoice stop _ = Unit {0}

  later : (stop more : ℕ) → stop ≤ more → (entry : RawEntry) → IsFoundChoice stop entry → IsFoundChoice more entry
  later stop more l (Value f value at) h = tt
  later stop more l (Mark label at) h = tt
  later stop more l (Choice' k s inner arguments) h =
      record { of = h.of; is_known = h.is_known; offset = h.offset; found = h.found; among = h.among; ends = (let e = h.ends in omega (arith, l, e)); binds = h.binds }

  abbrev HasChoices : ℕ → Match → Type 0
  HasChoices i r = All (IsFoundChoice (i + r.len)) r.binds

  abbrev HaveChoices : ℕ → List Match → Type 0
  HaveChoices i found = All (HasChoices i) found

  abbrev MeansChoices : Meaning → Type 0
  MeansChoices m = (i : ℕ) → HaveChoices i (m bytes i)

  all_later : (stop more : ℕ) (entries : List RawEntry) → stop ≤ more → All (IsFoundChoice stop) entries → All (IsFoundChoice more) entries
  all_later stop more entries l h = All-weaker (IsFoundChoice stop) (IsFoundChoice more) (later stop more l) entries h

  -- ---- leaves

  no_result : (i : ℕ) → HaveChoices i []
  no_result i = All-nil (HasChoices i)

  one_result : (i n : ℕ) (binds : List RawEntry) → All (IsFoundChoice (i + n)) binds → HaveChoices i (one_match binds n)
  one_result i n binds h = All-cons (HasChoices i) (record { binds = binds; len = n; loose = false }) [] h (no_result i)

  bare : (i n : ℕ) → HaveChoices i (one_match [] n)
  bare i n = one_result i n [] (All-nil (IsFoundChoice (i + n)))

  from_choices : {A : Type 0} (i : ℕ) (o : Option A) (f : A → List Match) → ((x : A) → o ≡ Some x → HaveChoices i (f x)) → HaveChoices i (results_from o f)
  from_choices i None f h = no_result i
  from_choices i (Some x) f h = h x refl

  tested : (i : ℕ) (b : Bool) (found : List Match) → HaveChoices i found → HaveChoices i (cond b found [])
  tested i true found h = h
  tested i false found h = no_result i

  value_choices : (i n value at : ℕ) (f : _) → HaveChoices i (one_match (Value f value at ∷ []) n)
  value_choices i n value at f = one_result i n (Value f value at ∷ []) (All-cons (IsFoundChoice (i + n)) (Value f value at) [] tt (All-nil (IsFoundChoice (i + n))))

  -- ---- operators

  follow : (i : ℕ) (f : Match → List Match) (found : List Match) → HaveChoices i found → ((a : Match) → HasChoices i a → HaveChoices i (f a)) → HaveChoices i (flat_map f found)
  follow i f [] h g = no_result i
  follow i f (a ∷ found) h g = All-append (HasChoices i) (f a) (flat_map f found) (g a (All-head (HasChoices i) a found h)) (follow i f found (All-tail (HasChoices i) a found h) g)

  both_choices : (p q : Meaning) → MeansChoices p → MeansChoices q → MeansChoices (both p q)
  both_choices p q h g i =
      follow i (λ a. map (both_match a) (filter (agrees a) (q bytes i))) (p bytes i) (h i)
      (λ a of_a.
      All-map (HasChoices i) (both_match a) (filter (agrees a) (q bytes i))
      (All-weaker (HasChoices i) (λ b. HasChoices i (both_match a b))
      (λ b of_b.
      All-append (IsFoundChoice (i + max a.len b.len)) a.binds b.binds
      (all_later (i + a.len) (i + max a.len b.len) a.binds (omega arith) of_a) (all_later (i + b.len) (i + max a.len b.len) b.binds (omega arith) of_b))
      (filter (agrees a) (q bytes i)) (All-filter (agrees a) (HasChoices i) (q bytes i) (g i))))

  chain_choices : (p q : Meaning) → MeansChoices p → MeansChoices q → MeansChoices (chain p q)
  chain_choices p q h g i =
      follow i (λ a. map (chain_match a) (q bytes (i + a.len))) (p bytes i) (h i)
      (λ a of_a.
      All-map (HasChoices i) (chain_match a) (q bytes (i + a.len))
      (All-weaker (HasChoices (i + a.len)) (λ b. HasChoices i (chain_match a b))
      (λ b of_b.
      All-append (IsFoundChoice (i + (a.len + b.len))) a.binds b.binds
      (all_later (i + a.len) (i + (a.len + b.len)) a.binds (omega arith) of_a) (all_later (i + a.len + b.len) (i + (a.len + b.len)) b.binds (omega arith) of_b))
      (q bytes (i + a.len)) (g (i + a.len))))

  either_choices : (p q : Meaning) → MeansChoices p → MeansChoices q → MeansChoices (either p q)
  either_choices p q h g i = All-append (HasChoices i) (p bytes i) (q bytes i) (h i) (g i)

  fold_choices : (op : Meaning → Meaning → Meaning) → ((p q : Meaning) → MeansChoices p → MeansChoices q → MeansChoices (op p q)) → (m : Meaning) (ms : List Meaning) → MeansChoices m → All MeansChoices ms
      → MeansChoices (fold op m ms)
  fold_choices op keeps m [] h hs = h
  fold_choices op keeps m (q ∷ ms) h hs = fold_choices op keeps (op m q) ms (keeps m q h (All-head MeansChoices q ms hs)) (All-tail MeansChoices q ms hs)

  folded_choices : (op : Meaning → Meaning → Meaning) → ((p q : Meaning) → MeansChoices p → MeansChoices q → MeansChoices (op p q)) → (ms : List Meaning) → All MeansChoices ms → MeansChoices (fold_meanings op ms)
  folded_choices op keeps [] hs = no_result
  folded_choices op keeps (m ∷ ms) hs = fold_choices op keeps m ms (All-head MeansChoices m ms hs) (All-tail MeansChoices m ms hs)

  boxed_choices : (ms : List Meaning) → All MeansChoices ms → MeansChoices (boxed_meaning ms)
  boxed_choices [] hs = no_result
  boxed_choices (m ∷ ms) hs = All-head MeansChoices m ms hs

  label_choices : (l : ℕ) (m : Meaning) → MeansChoices m → MeansChoices (λ bs i. map (label_match l i) (m bs i))
  label_choices l m h i =
      All-map (HasChoices i) (label_match l i) (m bytes i)
      (All-weaker (HasChoices i) (λ a. HasChoices i (label_match l i a)) (λ a of_a. All-cons (IsFoundChoice (i + a.len)) (Mark l i) a.binds tt of_a) (m bytes i) (h i))

  loose_choices : (m : Meaning) → MeansChoices m → MeansChoices (λ bs i. map loose_match (m bs i))
  loose_choices m h i = All-map (HasChoices i) loose_match (m bytes i) (h i)

  -- ---- applications

  body_choices : (k : ℕ) (arguments : List Argument) (admitted : List RawEntry → Bool) → MeansChoices (application_results known k arguments admitted)
  body_choices k arguments admitted i =
      from_choices i (slice_get known k) (λ c. map (choice_match k arguments) (filter (λ a. admitted a.binds) (c.body bytes i)))
      (λ c is_known.
      All-map (HasChoices i) (choice_match k arguments) (filter (λ a. admitted a.binds) (c.body bytes i))
      (All-weaker (Contains (c.body bytes i)) (λ a. HasChoices i (choice_match k arguments a))
      (λ a among.
      All-cons (IsFoundChoice (i + a.len)) _ []
      (record { of = c; is_known = is_known; offset = i; found = a; among = among; ends = omega arith; binds = sym (items_hidden-the_row-RawEntry-0 a.binds) })
      (All-nil (IsFoundChoice (i + a.len))))
      (filter (λ a. admitted a.binds) (c.body bytes i)) (All-filter (λ a. admitted a.binds) (Contains (c.body bytes i)) (c.body bytes i) (All-contains_itself (c.body bytes i)))))

-- ---- patterns

module _ (spec : Spec) (bytes : List ℕ) where
  abbrev all : List Known
  all = known_from spec.tokens [] spec.constructors

  -- no operand stands in an arm
  no_operand : (k i : ℕ) (kind : OperandKind) → slice_get [] k ≡ Some kind → HaveChoices all bytes i (kind_results all kind bytes i)
  no_operand k i kind e = absurd (cc)

  mutual
    pattern_choices : (p : Pattern) → MeansChoices all bytes (results (arm_context spec) p)
    pattern_choices (Token c) = λ i.
        from_choices all bytes i (slice_get spec.tokens.classes c.0) (λ class. results_from (token class bytes i) (λ n. one_match [] (byte_count class)))
        (λ class e. from_choices all bytes i (token class bytes i) (λ n. one_match [] (byte_count class)) (λ n e. bare all bytes i (byte_count class)))
    pattern_choices (Limit f relation limit) = λ i.
        from_choices all bytes i (value_at spec.tokens f bytes i) (λ value. cond (has_relation relation value limit) (one_match [] (token_len spec.tokens f)) [])
        (λ value e. tested all bytes i (has_relation relation value limit) (one_match [] (token_len spec.tokens f)) (bare all bytes i (token_len spec.tokens f)))
    pattern_choices (Bind f) = λ i.
        from_choices all bytes i (value_at spec.tokens f bytes i) (λ value. one_match (Value f value i ∷ []) (token_len spec.tokens f))
        (λ value e. value_choices all bytes i (token_len spec.tokens f) value i f)
    pattern_choices (Operand k) = λ i. from_choices all bytes i (slice_get [] k) (λ kind. kind_results all kind bytes i) (no_operand k i)
    pattern_choices (Label' l s p) = label_choices all bytes l (boxed_meaning (row_meanings (arm_context spec) p)) (boxed_choices all bytes (row_meanings (arm_context spec) p) (row_choices p))
    pattern_choices (Both' s ps) = folded_choices all bytes both (both_choices all bytes) (row_meanings (arm_context spec) ps) (row_choices ps)
    pattern_choices (Either' s ps) = folded_choices all bytes either (either_choices all bytes) (row_meanings (arm_context spec) ps) (row_choices ps)
    pattern_choices (Chain' s ps) = folded_choices all bytes chain (chain_choices all bytes) (row_meanings (arm_context spec) ps) (row_choices ps)
    pattern_choices (Loose' s p) = loose_choices all bytes (boxed_meaning (row_meanings (arm_context spec) p)) (boxed_choices all bytes (row_meanings (arm_context spec) p) (row_choices p))
    pattern_choices (Apply' k s arguments) =
        body_choices all bytes k.0 (items-the_row-Argument _ arguments) (λ inner. arguments_admit all (slice_get all k.0) inner 0 arguments)
    pattern_choices Empty = λ i. bare all bytes i 0

    row_choices : {n : _} (ps : Row_of-Pattern n) → All (MeansChoices all bytes) (row_meanings (arm_context spec) ps)
    row_choices end_of-Pattern = All-nil (MeansChoices all bytes)
    row_choices (more_of-Pattern p ps) = All-cons (MeansChoices all bytes) (results (arm_context spec) p) (row_meanings (arm_context spec) ps) (pattern_choices p) (row_choices ps)

  -- a result that is not too long
  of_found : (entry : RawEntry) → IsFoundChoice all bytes 32 entry → IsBodyChoice spec entry
  of_found (Value f value at) h = tt
  of_found (Mark label at) h = tt
  of_found (Choice' k s inner arguments) h =
      record { known = h.of; declared = h.is_known; bytes = bytes; offset = h.offset; found = h.found; among = h.among; ends = h.ends; binds = h.binds }

  -- whatever the arm
  each_arm : (arms : List Arm) → All (λ arm. HaveChoices all bytes 0 (arm_results spec arm bytes 0)) arms
  each_arm [] = All-nil (λ arm. HaveChoices all bytes 0 (arm_results spec arm bytes 0))
  each_arm (arm ∷ arms) = All-cons (λ arm. HaveChoices all bytes 0 (arm_results spec arm bytes 0)) arm arms (pattern_choices arm.pattern 0) (each_arm arms)

pub arm_results_mean : ArmResultsMean
arm_results_mean spec statement bytes k m h e =
    let bounded = All-weaker (IsMatchableArm spec) (IsBoundedArm spec) (λ arm h. h.bounded) statement.arms h.arms in
    let len = bounded-length spec statement bounded bytes k m e in
    All-weaker (IsFoundChoice (known_from spec.tokens [] spec.constructors) bytes (0 + m.len)) (IsBodyChoice spec)
    (λ entry found. of_found spec bytes entry (later (known_from spec.tokens [] spec.constructors) bytes (0 + m.len) 32 (omega (arith, len.1)) entry found)) m.binds
    (first_from-has (HasChoices (known_from spec.tokens [] spec.constructors) bytes 0) spec bytes k m 0 statement.arms (each_arm spec bytes statement.arms) e)
