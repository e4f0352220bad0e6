-- The first result is a matter of its own bytes: as many as a match may take decide it.
use Rattle.std.proofs.Common.{◌≡◌, ℕ, ◌+◌, ◌≤◌, true, List, [], ◌∷◌, length, take, All, Option, Some, refl, sym, ap, ◌∙◌, subst, arith}
use Rattle.std.proofs.lemmas.Bool.{le-leb, leb-true}
use Rattle.std.proofs.Math.Seq.{take-length}
use Rattle.std.proofs.lemmas.List.Elements.{All-nil, All-cons, All-head, All-tail, All-weaker}
use Rattle.sled_model.specs.declared.raw.Match.{Match}
use Rattle.sled_model.specs.declared.spec.Spec.{Spec}
use Rattle.sled_model.specs.declared.statement.Arm.{Arm}
use Rattle.sled_model.specs.declared.statement.Statement.{Statement}
use Rattle.sled_model.specs.Results.{arm_results}
use Rattle.sled_model.specs.First.{first, first_from, first_or}
use Rattle.sled_model.specs.PlainStatements.{IsMatchLength, IsBoundedArm, IsPlainArm, IsPlainStatement}
use Rattle.sled_model.proofs.Filters.{filter-all, filter-passes}
use Rattle.sled_model.proofs.Local.{ends_within, arm-local}

-- the results of an arm, none of which is longer than a match may be
pub arm-front : (spec : Spec) (arm : Arm) (bytes : List ℕ) (n : ℕ) → IsBoundedArm spec arm → 32 ≤ n → arm_results spec arm (take n bytes) 0 ≡ arm_results spec arm bytes 0
arm-front spec arm bytes n bounded h =
    arm-local spec arm bytes 0 n (omega arith)
    ∙ filter-all (ends_within 0 n) (arm_results spec arm bytes 0)
    (All-weaker (λ (m : Match). IsMatchLength m.len) (λ m. ends_within 0 n m ≡ true) (λ m len. le-leb (0 + m.len) n (omega arith)) (arm_results spec arm bytes 0) (bounded bytes))

pub first_from-front : (k : ℕ) (spec : Spec) (arms : List Arm) (bytes : List ℕ) (n : ℕ) → All (IsBoundedArm spec) arms → 32 ≤ n → first_from k spec arms (take n bytes) ≡ first_from k spec arms bytes
first_from-front k spec [] bytes n h le = refl
first_from-front k spec (arm ∷ arms) bytes n h le =
    ap (λ found. first_or k found (first_from (k + 1) spec arms (take n bytes))) (arm-front spec arm bytes n (All-head (IsBoundedArm spec) arm arms h) le)
    ∙ ap (first_or k (arm_results spec arm bytes 0)) (first_from-front (k + 1) spec arms bytes n (All-tail (IsBoundedArm spec) arm arms h) le)

-- no result is longer than the bytes
pub arm-within : (spec : Spec) (arm : Arm) (bytes : List ℕ) → All (λ (m : Match). m.len ≤ length bytes) (arm_results spec arm bytes 0)
arm-within spec arm bytes =
    let same = arm-local spec arm bytes 0 (length bytes) (omega arith) in
    let whole : take (length bytes) bytes ≡ bytes = take-length bytes in
    let all = filter-passes (ends_within 0 (length bytes)) (arm_results spec arm bytes 0) in
    All-weaker (λ m. ends_within 0 (length bytes) m ≡ true) (λ (m : Match). m.len ≤ length bytes) (λ m e. omega (arith, leb-true (0 + m.len) (length bytes) e)) (arm_results spec arm bytes 0)
    (subst (All (λ m. ends_within 0 (length bytes) m ≡ true)) (sym same ∙ ap (λ bs. arm_results spec arm bs 0) whole) all)

-- what holds of each result of each arm holds of the first
module _ (P : Match → Type 0) (spec : Spec) (bytes : List ℕ) (j : ℕ) (m : Match) where
  first_or-has : (k : ℕ) (found : List Match) (later : Option (ℕ × Match)) → All P found → first_or k found later ≡ Some (j, m) → (later ≡ Some (j, m) → P m) → P m
  first_or-has k [] later h e further = further e
  first_or-has k (a ∷ more) later h e further = let pair : (let p : ℕ × Match = (k, a) in p) ≡ (j, m) = cc in subst P (ap (λ (p : ℕ × Match). p.1) pair) (All-head P a more h)

  pub first_from-has : (k : ℕ) (arms : List Arm) → All (λ arm. All P (arm_results spec arm bytes 0)) arms → first_from k spec arms bytes ≡ Some (j, m) → P m
  first_from-has k [] h e = absurd (cc)
  first_from-has k (arm ∷ arms) h e =
      let Q = λ (a : Arm). All P (arm_results spec a bytes 0) in
      first_or-has k (arm_results spec arm bytes 0) (first_from (k + 1) spec arms bytes) (All-head Q arm arms h) e
      (λ later. first_from-has (k + 1) arms (All-tail Q arm arms h) later)

-- a statement each of whose arms takes some bytes, and not too many
module _ (spec : Spec) (statement : Statement) (bounded : All (IsBoundedArm spec) statement.arms) (bytes : List ℕ) where
  -- the first 32 bytes decide the first arm
  pub bounded-front : (n : ℕ) → 32 ≤ n → first spec statement (take n bytes) ≡ first spec statement bytes
  bounded-front n h = first_from-front 0 spec statement.arms bytes n bounded h

  pub bounded-length : (k : ℕ) (m : Match) → first spec statement bytes ≡ Some (k, m) → IsMatchLength m.len
  bounded-length k m e =
      first_from-has (λ (a : Match). IsMatchLength a.len) spec bytes k m 0 statement.arms
      (All-weaker (IsBoundedArm spec) (λ arm. All (λ (a : Match). IsMatchLength a.len) (arm_results spec arm bytes 0)) (λ arm h. h bytes) statement.arms bounded) e

-- no first result is longer than the bytes
pub first_result-within : (spec : Spec) (statement : Statement) (bytes : List ℕ) (k : ℕ) (m : Match) → first spec statement bytes ≡ Some (k, m) → m.len ≤ length bytes
first_result-within spec statement bytes k m e =
    first_from-has (λ (a : Match). a.len ≤ length bytes) spec bytes k m 0 statement.arms (each statement.arms) e
  where
    each : (arms : List Arm) → All (λ arm. All (λ (a : Match). a.len ≤ length bytes) (arm_results spec arm bytes 0)) arms
    each [] = All-nil (λ arm. All (λ (a : Match). a.len ≤ length bytes) (arm_results spec arm bytes 0))
    each (arm ∷ arms) = All-cons (λ arm. All (λ (a : Match). a.len ≤ length bytes) (arm_results spec arm bytes 0)) arm arms (arm-within spec arm bytes) (each arms)

module _ (spec : Spec) (statement : Statement) (plain : IsPlainStatement spec statement) (bytes : List ℕ) where
  bounded_arms : All (IsBoundedArm spec) statement.arms
  bounded_arms = All-weaker (IsPlainArm spec) (IsBoundedArm spec) (λ arm h. h.bounded) statement.arms plain.arms

  pub first-front : (n : ℕ) → 32 ≤ n → first spec statement (take n bytes) ≡ first spec statement bytes
  first-front n h = bounded-front spec statement bounded_arms bytes n h

  pub first-length : (k : ℕ) (m : Match) → first spec statement bytes ≡ Some (k, m) → IsMatchLength m.len
  first-length k m e = bounded-length spec statement bounded_arms bytes k m e

  pub first-within : (k : ℕ) (m : Match) → first spec statement bytes ≡ Some (k, m) → m.len ≤ length bytes
  first-within k m e = first_result-within spec statement bytes k m e

-- two results of one kind, loose or not, that bind the same and are equally long are the same
pub same_match : (a b : Match) → a.binds ≡ b.binds → a.len ≡ b.len → a.loose ≡ b.loose → a ≡ b
same_match a b binds len loose =
    ap (λ bs. record { binds = bs; len = a.len; loose = a.loose }) binds
    ∙ ap (λ n. record { binds = b.binds; len = n; loose = a.loose }) len
    ∙ ap (λ l. record { binds = b.binds; len = b.len; loose = l }) loose
