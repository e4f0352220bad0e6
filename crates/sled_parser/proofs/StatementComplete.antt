-- A layered statement is read back from what it unparses to.
use Rattle.std.proofs.Common.{◌≡◌, ℕ, zero, suc, ◌≤◌, true, false, List, [], ◌∷◌, ◌++◌, length, refl, ap, sym, ◌∙◌, arith, append_assoc, append-nil, length-append, Ok, Option, Some, None}
use Rattle.std.specs.Prelude.{flat_map, nat_eq}
use Rattle.std.specs.List.{list_all}
use Rattle.sled_parser.specs.declared.class.Class.{Class}
use Rattle.sled_parser.specs.declared.class.Class.TheVariants as class
use Rattle.sled_parser.specs.declared.tree.ArmTree.{ArmTree}
use Rattle.sled_parser.specs.declared.tree.ArmsTree.{ArmsTree}
use Rattle.sled_parser.specs.declared.tree.ArmsTree.TheVariants as arms
use Rattle.sled_parser.specs.declared.tree.MatchTree.{MatchTree}
use Rattle.sled_parser.specs.Classes.{same_class}
use Rattle.sled_parser.specs.Classes as classes
use Rattle.sled_parser.specs.Pieces.{Input, Outcome, sees, ahead, next, text_of, finish}
use Rattle.sled_parser.specs.Trees.{piece_for, number, spelling, nesting}
use Rattle.sled_parser.specs.Statements.{quoted, arm_spelling, arm_layered, arms_spelling, arms_layered, skip_spelling, statement_spelling, statement_layered}
use Rattle.sled_parser.specs.StatementGrammar.{action, arm_at, arms_from, arms_at, skip_of, statement_at, whole_statement}
use Rattle.sled_parser.proofs.ClassLaws.{same_self, sees_for, ahead_for}
use Rattle.sled_parser.proofs.Sound.{and_both, both_true}
use Rattle.sled_parser.proofs.Complete.{Other, pass_for, other_for, number_for, pattern_complete, rank_five}
use Rattle.sled_parser.proofs.StatementNesting.{arms_nesting, listed_nesting, statement_nesting}

-- ---- steps

action_for : (t : List ℕ) (i : Input) → action (quoted t ∷ i) ≡ Ok (t, i)
unfolding action sees ahead text_of next
action_for t i = rw (same_self class.Text) refl

none_other : (k : Class) → same_class class.End k ≡ false → Other k []
unfolding sees ahead
none_other k h = h

differ : (k : Class) → nat_eq 0 (classes.number k) ≡ false → same_class class.End k ≡ false
unfolding same_class
differ k h = h

finish_for : finish [] ≡ Ok (tt, [])
unfolding finish sees ahead
finish_for = rw (same_self class.End) refl

-- ---- arms

-- an arm behind `case`
arm_complete : (n m : ℕ) → suc m ≤ n → (a : ArmTree) (r : Input) → arm_layered a ≡ true → nesting a.pattern ≤ m
    → arm_at n (spelling a.pattern ++ piece_for class.Arrow ∷ quoted a.action ∷ r) ≡ Ok (a, r)
unfolding arm_at
arm_complete n m h a r ok deep =
    let i : Input = quoted a.action ∷ r in
    let read = pattern_complete n m h a.pattern (piece_for class.Arrow ∷ i) (and_both _ _ (rank_five a.pattern) ok) deep (rw (ahead_for class.Arrow i refl) (omega arith)) in
    rw (read, pass_for class.Arrow refl i, action_for a.action r) refl

arms_more : (n m : ℕ) → suc m ≤ n → (turns : ℕ) (found : List ArmTree) (a : ArmTree) (r : Input) → arm_layered a ≡ true → nesting a.pattern ≤ m
    → arms_from n (suc turns) found (arm_spelling a ++ r) ≡ arms_from n turns (found ++ a ∷ []) r
unfolding arms_from next
arms_more n m h turns found a r ok deep =
    let i : Input = spelling a.pattern ++ piece_for class.Arrow ∷ quoted a.action ∷ r in
    let same : (spelling a.pattern ++ piece_for class.Arrow ∷ quoted a.action ∷ []) ++ r ≡ i = append_assoc (spelling a.pattern) (piece_for class.Arrow ∷ quoted a.action ∷ []) r in
    rw (same, sees_for class.Case i refl, arm_complete n m h a r ok deep) refl

arms_none : (n turns : ℕ) (found : List ArmTree) (r : Input) → Other class.Case r → arms_from n turns found r ≡ Ok (found, r)
unfolding arms_from
arms_none n zero found r other = refl
arms_none n (suc turns) found r other = rw other refl

listed_complete : (n m : ℕ) → suc m ≤ n → (turns : ℕ) (found xs : List ArmTree) (r : Input) → list_all arm_layered xs ≡ true → listed_nesting xs ≤ m → length xs ≤ turns → Other class.Case r
    → arms_from n turns found (flat_map arm_spelling xs ++ r) ≡ Ok (found ++ xs, r)
listed_complete n m h turns found [] r all deep enough other =
    arms_none n turns found r other ∙ ap (λ l. let y : Outcome (List ArmTree) = Ok (l, r) in y) (sym (append-nil found))
listed_complete n m h zero found (a ∷ xs) r all deep enough other = absurd (omega arith)
listed_complete n m h (suc turns) found (a ∷ xs) r all deep enough other =
    let both : (arm_layered a ≡ true) × (list_all arm_layered xs ≡ true) = both_true _ _ all in
    ap (arms_from n (suc turns) found) (append_assoc (arm_spelling a) (flat_map arm_spelling xs) r)
    ∙ arms_more n m h turns found a (flat_map arm_spelling xs ++ r) both.0 (omega arith)
    ∙ listed_complete n m h turns (found ++ a ∷ []) xs r both.1 (omega arith) (omega arith) other
    ∙ ap (λ l. let y : Outcome (List ArmTree) = Ok (l, r) in y) (append_assoc found (a ∷ []) xs)

-- there are no more arms than lexemes
arms_long : (xs : List ArmTree) → length xs ≤ length (flat_map arm_spelling xs)
arms_long [] = omega arith
arms_long (a ∷ xs) = omega (arith, arms_long xs, length-append (arm_spelling a) (flat_map arm_spelling xs))

no_all : (xs : List ArmTree) (r : Input) → Other class.All r → Other class.All (flat_map arm_spelling xs ++ r)
no_all [] r other = other
no_all (a ∷ xs) r other = other_for class.All class.Case _ refl (λ e. cc)

arms_complete : (n m : ℕ) → suc m ≤ n → (t : ArmsTree) (r : Input) → arms_layered t ≡ true → arms_nesting t ≤ m → Other class.All r → Other class.Case r → arms_at n (arms_spelling t ++ r) ≡ Ok (t, r)
unfolding arms_at next
arms_complete n m h arms.All r ok deep no_all_ no_case = rw (sees_for class.All r refl) refl
arms_complete n m h (arms.Listed xs) r ok deep no_all_ no_case =
    let i : Input = flat_map arm_spelling xs ++ r in
    let enough : length xs ≤ length i = omega (arith, arms_long xs, length-append (flat_map arm_spelling xs) r) in
    rw (no_all xs r no_all_, listed_complete n m h (length i) [] xs r ok deep enough no_case) refl

-- ---- the whole

skip_complete : (s : Option (List ℕ)) → skip_of (skip_spelling s) ≡ Ok (s, [])
unfolding skip_of next
skip_complete None = rw (none_other class.Else (differ class.Else refl)) refl
skip_complete (Some n) = rw (sees_for class.Else (piece_for class.Skip ∷ number n ∷ []) refl, pass_for class.Skip refl (number n ∷ []), number_for n []) refl

skip_other : (k : Class) → same_class class.End k ≡ false → (class.Else ≡ k → ⊥) → (s : Option (List ℕ)) → Other k (skip_spelling s)
skip_other k e d None = none_other k e
skip_other k e d (Some n) = other_for k class.Else _ refl d

-- A layered statement is read back from what it unparses to.
pub whole_complete : (n m : ℕ) → suc m ≤ n → (t : MatchTree) → statement_layered t ≡ true → statement_nesting t ≤ m → whole_statement n (statement_spelling t) ≡ Ok (t, [])
unfolding whole_statement statement_at
whole_complete n m h t ok deep =
    let i : Input = arms_spelling t.arms ++ skip_spelling t.skip in
    let read = arms_complete n m h t.arms (skip_spelling t.skip) ok deep (skip_other class.All (differ class.All refl) (λ e. cc) t.skip) (skip_other class.Case (differ class.Case refl) (λ e. cc) t.skip) in
    rw (pass_for class.Match refl i, read, skip_complete t.skip, finish_for) refl
