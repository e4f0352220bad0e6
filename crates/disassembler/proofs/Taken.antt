-- What stands at a place by a statement that can be matched.
use Rattle.std.proofs.Common.{◌≡◌, ℕ, zero, suc, ◌+◌, ◌^◌, ◌<◌, ◌≤◌, ◌⊎◌, ltb, inl, inr, min, List, [], ◌∷◌, ◌++◌, length, take, decimal, slice_get, codes, All, Option, Some, None, IfSome, refl, sym, ap, ◌∙◌, subst, arith}
use Rattle.std.specs.Option.{option_map}
use Rattle.std.proofs.lemmas.Bool.{lt-ltb, ltb-true, ltb-false, cases_Bool}
use Rattle.std.proofs.lemmas.List.{length-take}
use Rattle.std.proofs.lemmas.List.Elements.{All-weaker}
use Rattle.sled_model.specs.declared.instance.Operand.{Operand}
use Rattle.sled_model.specs.declared.raw.Match.{Match}
use Rattle.sled_model.specs.declared.raw.RawEntry.{RawEntry}
use Rattle.sled_model.specs.declared.spec.Spec.{Spec}
use Rattle.sled_model.specs.declared.statement.Arm.{Arm}
use Rattle.sled_model.specs.declared.statement.Statement.{Statement}
use Rattle.sled_model.specs.First.{first, first_from, first_or}
use Rattle.sled_model.specs.PlainStatements.{IsMatchLength, IsBoundedArm}
use Rattle.sled_model.specs.Results.{arm_results}
use Rattle.sled_model.proofs.Front.{bounded-front, bounded-length, first_result-within}
use Rattle.asm_text.specs.Actions.{action_text}
use Rattle.match_meaning.specs.Names.{AreNameValues}
use Rattle.match_meaning.specs.Matchable.{IsMatchable, IsMatchableArm}
use Rattle.match_meaning.specs.Taken.{ArmMatch, IsMatchBy, IsMatchAt}
use Rattle.image_listing.specs.Listing.{Taking, placed}
use Rattle.arm_matching.specs.Matcher.{Told, numbered}
use Rattle.name_values.specs.Values.{IsBodyChoice}
use Rattle.name_values.proofs.OneValue.{one_value_each}
use Rattle.name_values.proofs.Results.{arm_results_mean}
use Rattle.disassembler.specs.Disassembly.{skip_taken, arm_taken, taken_by, IsTakenAt, IsTakingOf}
use Rattle.disassembler.specs.Laws.{OneTaking, TakingOf}
use Rattle.disassembler.specs.declared.ready.Disassembler.{Disassembler}
use Rattle.disassembler.specs.Ready.{IsPrepared, IsArmTaken}

-- what is taken of so many bytes
record Takes (bytes : List ℕ) (n : ℕ) : Type 0 where
  some : 0 < length bytes → 0 < n
  fits : n ≤ length bytes

skip_takes : (skip : Option ℕ) (bytes text : List ℕ) (n : ℕ) → IfSome skip IsMatchLength → Some (n, text) ≡ option_map (skip_taken bytes) skip → Takes bytes n
skip_takes None bytes text n h e = absurd (cc)
skip_takes (Some k) bytes text n h e =
    let pair : (n, text) ≡ skip_taken bytes k = cc in
    let count : n ≡ min k (length bytes) = ap (λ (p : ℕ × List ℕ). p.0) pair in
    record { some = λ some. omega (arith, h.0); fits = omega arith }

-- where a skip takes no more than the bytes that are held, those behind them change nothing
skip_front : (skip : Option ℕ) (bytes : List ℕ) → IfSome skip IsMatchLength → option_map (skip_taken (take 32 bytes)) skip ≡ option_map (skip_taken bytes) skip
skip_front None bytes h = refl
skip_front (Some k) bytes h =
    let count : min k (length (take 32 bytes)) ≡ min k (length bytes) = omega (arith, length-take 32 bytes, h.1) in
    ap (λ c. Some (c, codes ".skip " ++ decimal c)) count

-- the arm of the first result
arm_from : (spec : Spec) (bytes : List ℕ) (k j : ℕ) (arms : List Arm) (m : Match) → first_from k spec arms bytes ≡ Some (j, m) → (d : ℕ) × (j ≡ k + d) × (d < length arms)
arm_from spec bytes k j [] m e = absurd (cc)
arm_from spec bytes k j (arm ∷ arms) m e = by_results (arm_results spec arm bytes 0) e (arm_from spec bytes (k + 1) j arms m)
  where
    by_results : (found : List Match) → first_or k found (first_from (k + 1) spec arms bytes) ≡ Some (j, m)
        → (first_from (k + 1) spec arms bytes ≡ Some (j, m) → (d : ℕ) × (j ≡ (k + 1) + d) × (d < length arms)) → (d : ℕ) × (j ≡ k + d) × (d < length (arm ∷ arms))
    by_results [] e later = let h = later e in let is = h.1 in let within = h.2 in (suc h.0, omega (arith, is), omega (arith, within))
    by_results (a ∷ more) e later =
        let pair : (let p : ℕ × Match = (k, a) in p) ≡ (j, m) = cc in
        let same : k ≡ j = ap (λ (p : ℕ × Match). p.0) pair in
        (0, omega (arith, same), omega arith)

some_at : {A : Type 0} (xs : List A) (k : ℕ) → k < length xs → (x : A) × (slice_get xs k ≡ Some x)
some_at [] k l = absurd (omega (arith, l))
some_at (x ∷ xs) zero l = (x, refl)
some_at (x ∷ xs) (suc k) l = some_at xs k (omega (arith, l))

not_both : (o : Option Arm) (a : Arm) → o ≡ Some a → o ≡ None → ⊥
not_both o a e d = cc

same_arm : (o : Option Arm) (a b : Arm) → o ≡ Some a → o ≡ Some b → a ≡ b
same_arm o a b e d = cc

module _ (spec : Spec) (statement : Statement) (h : IsMatchable spec statement) where
  bounded : All (IsBoundedArm spec) statement.arms
  bounded = All-weaker (IsMatchableArm spec) (IsBoundedArm spec) (λ arm h. h.bounded) statement.arms h.arms

  pub arm_within : (bytes : List ℕ) (k : ℕ) (m : Match) → first spec statement bytes ≡ Some (k, m) → k < length statement.arms
  arm_within bytes k m e = let a = arm_from spec bytes 0 k statement.arms m e in let is = a.1 in let within = a.2 in omega (arith, is, within)

  -- ---- what is found

  module _ (place : ℕ) (low : place < 2 ^ 32) (bytes : List ℕ) where
    -- it is one thing
    one_by : (o : Option (ℕ × Match)) → first spec statement bytes ≡ o → (a b : Option ArmMatch) → IsMatchBy spec statement place o a → IsMatchBy spec statement place o b → a ≡ b
    one_by None e a b f g = f ∙ sym g
    one_by (Some (k, m)) e a b f g =
        let arms : f.0 ≡ g.0 = same_arm (slice_get statement.arms k) f.0 g.0 f.1 g.1 in
        let one = one_value_each spec place m.binds g.0.names h.readable low (arm_results_mean spec statement bytes k m h e) in
        let values : f.2 ≡ g.2 = one.1.only f.2 (subst (λ (arm : Arm). AreNameValues spec place m.binds 0 arm.names f.2) arms f.3) ∙ sym (one.1.only g.2 g.3) in
        f.4 ∙ ap (λ vs. let found : ArmMatch = record { arm = k; len = m.len; values = vs } in Some found) values ∙ sym g.4

    pub one_match : (a b : Option ArmMatch) → IsMatchAt spec statement place bytes a → IsMatchAt spec statement place bytes b → a ≡ b
    one_match a b f g = one_by (first spec statement bytes) refl a b f g

    -- and there is one
    match_by : (o : Option (ℕ × Match)) → first spec statement bytes ≡ o → (a : Option ArmMatch) × IsMatchBy spec statement place o a
    match_by None e = (None, refl)
    match_by (Some (k, m)) e =
        let arm = some_at statement.arms k (arm_within bytes k m e) in
        let one = one_value_each spec place m.binds arm.0.names h.readable low (arm_results_mean spec statement bytes k m h e) in
        (Some (record { arm = k; len = m.len; values = one.0 }), (arm.0, arm.1, one.0, one.1.are, refl))

    pub some_match : (a : Option ArmMatch) × IsMatchAt spec statement place bytes a
    some_match = match_by (first spec statement bytes) refl

    pub one_taken : (t u : Option (ℕ × List ℕ)) → IsTakenAt spec statement place bytes t → IsTakenAt spec statement place bytes u → t ≡ u
    one_taken t u f g = f.2 ∙ ap (taken_by spec statement bytes) (one_match f.0 g.0 f.1 g.1) ∙ sym g.2

    pub some_taken : (t : Option (ℕ × List ℕ)) × IsTakenAt spec statement place bytes t
    some_taken = (taken_by spec statement bytes some_match.0, (some_match.0, some_match.1, refl))

  -- ---- how much is taken

  arm_takes : (n : ℕ) (bytes text : List ℕ) (m : ArmMatch) (o : Option Arm) → IsMatchLength m.len → m.len ≤ length bytes → Some (n, text) ≡ option_map (arm_taken spec m) o → Takes bytes n
  arm_takes n bytes text m None len within e = absurd (cc)
  arm_takes n bytes text m (Some arm) len within e =
      let pair : (n, text) ≡ arm_taken spec m arm = cc in
      let count : n ≡ m.len = ap (λ (p : ℕ × List ℕ). p.0) pair in
      record { some = λ some. omega (arith, len.0); fits = omega arith }

  by_match : (place n : ℕ) (bytes text : List ℕ) (o : Option (ℕ × Match)) → first spec statement bytes ≡ o → (m : Option ArmMatch) → IsMatchBy spec statement place o m → Some (n, text) ≡ taken_by spec statement bytes m
      → Takes bytes n
  by_match place n bytes text None e None f t = skip_takes statement.skip bytes text n h.skip t
  by_match place n bytes text None e (Some m) f t = absurd (cc)
  by_match place n bytes text (Some (k, a)) e None f t = let none : None ≡ Some (record { arm = k; len = a.len; values = f.2 }) = f.4 in absurd (cc)
  by_match place n bytes text (Some (k, a)) e (Some m) f t =
      let found : ArmMatch = record { arm = k; len = a.len; values = f.2 } in
      let is : Some m ≡ Some found = f.4 in
      let same : m ≡ found = cc in
      let len : m.len ≡ a.len = ap (λ (x : ArmMatch). x.len) same in
      let long = bounded-length spec statement bounded bytes k a e in
      let within = first_result-within spec statement bytes k a e in
      arm_takes n bytes text m (slice_get statement.arms m.arm) (subst IsMatchLength (sym len) long) (omega (arith, len, within)) t

  takes : (place n : ℕ) (bytes text : List ℕ) → IsTakenAt spec statement place bytes (Some (n, text)) → Takes bytes n
  takes place n bytes text t = by_match place n bytes text (first spec statement bytes) refl t.0 t.1 t.2

  -- ---- the front

  same_front : (bytes : List ℕ) (m : Option ArmMatch) → taken_by spec statement (take 32 bytes) m ≡ taken_by spec statement bytes m
  same_front bytes None = skip_front statement.skip bytes h.skip
  same_front bytes (Some m) = refl

  -- the first 32 bytes decide
  taken_front : (place : ℕ) (bytes : List ℕ) (t : Option (ℕ × List ℕ)) → IsTakenAt spec statement place (take 32 bytes) t → IsTakenAt spec statement place bytes t
  taken_front place bytes t f = (
    f.0,
    subst (λ (o : Option (ℕ × Match)). IsMatchBy spec statement place o f.0) (bounded-front spec statement bounded bytes 32 (omega arith)) f.1,
    f.2 ∙ same_front bytes f.0,
  )

  -- what is taken of a window that is not empty
  pub within_window : (place : ℕ) (window text : List ℕ) (count : Option ℕ) → 0 < length window → IsTakenAt spec statement place window (option_map (λ n. (n, text)) count)
      → IfSome count (λ n. (0 < n) × (n ≤ length window))
  within_window place window text None some t = tt
  within_window place window text (Some n) some t = let all = takes place n window text t in (all.some some, all.fits)

  -- is what the taking says of all the bytes
  pub window_taken : (taking : Taking) (place : ℕ) (window left text : List ℕ) (count : Option ℕ) → IsTakingOf spec statement taking → place < 2 ^ 32 → 0 < length window → window ≡ take 32 left
      → IsTakenAt spec statement place window (option_map (λ n. (n, text)) count) → placed (taking place left) ≡ option_map (λ n. (n, text)) count
  window_taken taking place window left text count of low some front t =
      ap placed
      (one_taken place low left (taking place left) (option_map (λ n. (n, text)) count) (of place left low)
      (taken_front place left (option_map (λ n. (n, text)) count) (subst (λ bytes. IsTakenAt spec statement place bytes (option_map (λ n. (n, text)) count)) front t)))
      ∙ by_count count (within_window place window text count some t)
    where
      by_count : (o : Option ℕ) → IfSome o (λ n. (0 < n) × (n ≤ length window)) → placed (option_map (λ n. (n, text)) o) ≡ option_map (λ n. (n, text)) o
      by_count None w = refl
      by_count (Some n) w = rw (lt-ltb 0 n w.0) refl

  -- ---- what the code finds

  -- nothing
  pub skip_at : (place : ℕ) (bytes : List ℕ) (t : Option (ℕ × List ℕ)) → None ≡ option_map numbered (first spec statement bytes) → option_map (skip_taken bytes) statement.skip ≡ t → IsTakenAt spec statement place bytes t
  skip_at place bytes t none is = (None, by_first (first spec statement bytes) none, sym is)
    where
      by_first : (o : Option (ℕ × Match)) → None ≡ option_map numbered o → IsMatchBy spec statement place o None
      by_first None e = refl
      by_first (Some (k, m)) e = absurd (cc)

  -- the first result, as it was read from the window
  pub record IsFirst (bytes : List ℕ) (k : ℕ) (binds : List RawEntry) (len : ℕ) : Type 0 where
    pub result : Match
    pub is : first spec statement bytes ≡ Some (k, result)
    pub binds_are : result.binds ≡ binds
    pub len_is : result.len ≡ len

  pub first_told : (bytes : List ℕ) (k : ℕ) (binds : List RawEntry) (len : ℕ) → (let t : ℕ × Told = (k, (binds, len)) in Some t) ≡ option_map numbered (first spec statement bytes) → IsFirst bytes k binds len
  first_told bytes k binds len e = by_first (first spec statement bytes) refl e
    where
      by_first : (o : Option (ℕ × Match)) → first spec statement bytes ≡ o → (let t : ℕ × Told = (k, (binds, len)) in Some t) ≡ option_map numbered o → IsFirst bytes k binds len
      by_first None is e = absurd (cc)
      by_first (Some (j, m)) is e =
          let pair : (let t : ℕ × Told = (k, (binds, len)) in t) ≡ numbered (j, m) = cc in
          let number : j ≡ k = sym (ap (λ (t : ℕ × Told). t.0) pair) in
          record {
            result = m;
            is = is ∙ ap (λ (n : ℕ). let p : ℕ × Match = (n, m) in Some p) number;
            binds_are = sym (ap (λ (t : ℕ × Told). t.1.0) pair);
            len_is = sym (ap (λ (t : ℕ × Told). t.1.1) pair);
          }

  -- it is of an arm
  pub arm_of : (bytes : List ℕ) (k : ℕ) (binds : List RawEntry) (len : ℕ) → IsFirst bytes k binds len → (slice_get statement.arms k ≡ None → ⊥)
  arm_of bytes k binds len f = let a = some_at statement.arms k (arm_within bytes k f.result f.is) in λ none. not_both (slice_get statement.arms k) a.0 a.1 none

  pub choices_of : (bytes : List ℕ) (k : ℕ) (binds : List RawEntry) (len : ℕ) → IsFirst bytes k binds len → All (IsBodyChoice spec) binds
  choices_of bytes k binds len f = subst (All (IsBodyChoice spec)) f.binds_are (arm_results_mean spec statement bytes k f.result h f.is)

  pub arm_at : (place : ℕ) (bytes : List ℕ) (k : ℕ) (binds : List RawEntry) (n : ℕ) (arm : Arm) (vs : List Operand) (old new : List ℕ)
      → IsFirst bytes k binds n → slice_get statement.arms k ≡ Some arm → AreNameValues spec place binds 0 arm.names vs → new ≡ old ++ action_text spec arm vs → IsArmTaken spec statement place bytes n old new
  arm_at place bytes k binds n arm vs old new f of values text = record {
    found = record { arm = k; len = f.result.len; values = vs };
    is = subst (λ (o : Option (ℕ × Match)). IsMatchBy spec statement place o (Some (record { arm = k; len = f.result.len; values = vs }))) (sym f.is)
        (arm, of, vs, subst (λ es. AreNameValues spec place es 0 arm.names vs) (sym f.binds_are) values, refl);
    len = f.len_is;
    arm = arm;
    of = of;
    text = text;
  }

-- a statement that is ready can be matched
pub matchable_of : (d : Disassembler) → IsPrepared d → IsMatchable d.spec.now d.statement.now
matchable_of d p = subst (λ (s : Spec). IsMatchable s d.statement.now) p.spec (subst (λ (s : Statement). IsMatchable d.matcher.spec.now s) p.statement p.ready.matchable)

-- what an arm takes is what stands there
pub arm_taken_at : (spec : Spec) (statement : Statement) (place : ℕ) (bytes : List ℕ) (n : ℕ) (old new : List ℕ) → IsArmTaken spec statement place bytes n old new → old ≡ [] → IsTakenAt spec statement place bytes (Some (n, new))
arm_taken_at spec statement place bytes n old new t none =
    let text : new ≡ action_text spec t.arm t.found.values = t.text ∙ ap (λ xs. xs ++ action_text spec t.arm t.found.values) none in
    (Some t.found, t.is, ap (λ (m : ℕ). Some (m, new)) (sym t.len) ∙ ap (λ (ts : List ℕ). Some (t.found.len, ts)) text ∙ sym (ap (option_map (arm_taken spec t.found)) t.of))

pub one_taking : OneTaking
one_taking spec statement one other h f g place bytes low = one_taken spec statement h place low bytes (one place bytes) (other place bytes) (f place bytes low) (g place bytes low)

-- ---- a taking

below : (place limit : ℕ) → (place < limit) ⊎ (limit ≤ place)
below place limit = elim (cases_Bool (ltb place limit)) [ inl e ↦ inl (ltb-true place limit e) | inr e ↦ inr (ltb-false place limit e) ]

module _ (spec : Spec) (statement : Statement) (h : IsMatchable spec statement) where
  taken_if : (place : ℕ) (bytes : List ℕ) → (place < 2 ^ 32) ⊎ (2 ^ 32 ≤ place) → Option (ℕ × List ℕ)
  taken_if place bytes (inl low) = (some_taken spec statement h place low bytes).0
  taken_if place bytes (inr high) = None

  is_taken_if : (place : ℕ) (bytes : List ℕ) (side : (place < 2 ^ 32) ⊎ (2 ^ 32 ≤ place)) → place < 2 ^ 32 → IsTakenAt spec statement place bytes (taken_if place bytes side)
  unfolding taken_if
  is_taken_if place bytes (inl low) l = (some_taken spec statement h place low bytes).1
  is_taken_if place bytes (inr high) l = absurd (omega (arith, high, l))

  taking : (t : Taking) × IsTakingOf spec statement t
  taking = ((λ place bytes. taken_if place bytes (below place (2 ^ 32))), λ place bytes low. is_taken_if place bytes (below place (2 ^ 32)) low)

pub taking_of : TakingOf
taking_of spec statement h = taking spec statement h
