-- A statement that is read is layered, and is what its tree unparses to.
use Rattle.std.proofs.Common.{◌≡◌, ℕ, zero, suc, Bool, true, false, List, [], ◌∷◌, ◌++◌, length, refl, ap, sym, ◌∙◌, subst, append_assoc, append-nil, Ok, Err, Option, Some, None}
use Rattle.std.specs.Prelude.{if◌then◌else◌, flat_map}
use Rattle.std.specs.List.{list_all}
use Rattle.sled_lexer.specs.declared.Kind.{Kind}
use Rattle.sled_lexer.specs.declared.Kind.TheVariants as kind
use Rattle.sled_parser.specs.declared.class.Class.TheVariants as class
use Rattle.sled_parser.specs.declared.tree.PatternTree.{PatternTree}
use Rattle.sled_parser.specs.declared.tree.ArmTree.{ArmTree}
use Rattle.sled_parser.specs.declared.tree.ArmsTree.{ArmsTree}
use Rattle.sled_parser.specs.declared.tree.ArmsTree.TheVariants as arms
use Rattle.sled_parser.specs.declared.tree.MatchTree.{MatchTree}
use Rattle.sled_parser.specs.Pieces.{Piece, Input, Outcome, Parser, and_then, pure, refuse, pass, sees, ahead, next, text_of, class_of, finish}
use Rattle.sled_parser.specs.Grammar as grammar
use Rattle.sled_parser.specs.Grammar.{pattern_at}
use Rattle.sled_parser.specs.Trees.{piece_for, number, spelling, grade}
use Rattle.sled_parser.specs.Statements.{quoted, arm_spelling, arm_layered, arms_spelling, arms_layered, skip_spelling, statement_spelling, statement_layered, IsStatement}
use Rattle.sled_parser.specs.StatementGrammar.{action, arm_at, arms_from, arms_at, skip_of, statement_at, whole_statement}
use Rattle.sled_parser.proofs.ClassLaws.{sees_fixed, sees_ahead, is_word_class, word_class_is, ahead_end}
use Rattle.sled_parser.proofs.ClassLaws as laws
use Rattle.sled_parser.proofs.Sound.{bind_ok, and_both, both_true, pass_sound, number_sound, pattern_sound, Sound}

-- ---- steps

pub text_ahead : (i : Input) → ahead i ≡ class.Text → i ≡ quoted (text_of i) ∷ next i
unfolding ahead next text_of
text_ahead [] h = absurd cc
text_ahead (q ∷ i) h = by_kind q.kind q.text h
  where
    by_kind : (m : Kind) (t : List ℕ) → class_of m t ≡ class.Text → (let y : Piece = record { kind = m; text = t } in y ∷ i) ≡ quoted t ∷ i
    by_kind kind.Word t e = absurd (let bad : is_word_class class.Text ≡ true = rw e at (word_class_is t) in cc)
    by_kind kind.Number t e = absurd cc
    by_kind kind.Text t e = refl
    by_kind kind.Mark t e = absurd (laws.no_mark_text t e)

finish_case : (i : Input) (x : Unit {0} × Input) (b : Bool) → sees class.End i ≡ b → (let y : Outcome (Unit {0}) = (if b then Ok (tt, i) else Err i) in y) ≡ Ok x → (i ≡ []) × (x.1 ≡ [])
finish_case i x true s e =
    let none = ahead_end i (sees_ahead class.End i s) in
    (none, (let same : i ≡ x.1 = cc in sym same) ∙ none)
finish_case i x false s e = absurd cc

-- nothing is left
pub finish_sound : (i : Input) (x : Unit {0} × Input) → finish i ≡ Ok x → (i ≡ []) × (x.1 ≡ [])
unfolding finish
finish_sound i x e = finish_case i x (sees class.End i) refl e

action_case : (i : Input) (x : List ℕ × Input) (b : Bool) → sees class.Text i ≡ b → (let q : Parser (List ℕ) = (if b then (λ j. Ok (text_of j, next j)) else refuse) in q) i ≡ Ok x → i ≡ quoted x.0 ∷ x.1
action_case i x true s e = text_ahead i (sees_ahead class.Text i s) ∙ (let a : text_of i ≡ x.0 = cc in let b : next i ≡ x.1 = cc in rw (a, b) refl)
action_case i x false s e = absurd cc

action_sound : (i : Input) (x : List ℕ × Input) → action i ≡ Ok x → i ≡ quoted x.0 ∷ x.1
unfolding action
action_sound i x e = action_case i x (sees class.Text i) refl e

-- ---- arms

arm_made : (t : PatternTree) (w : List ℕ) (i : Input) (y : ArmTree × Input) → (let a : ArmTree = record { pattern = t; action = w } in a) ≡ y.0 → (grade t).1 ≡ true
    → i ≡ spelling t ++ piece_for class.Arrow ∷ quoted w ∷ y.1 → (arm_layered y.0 ≡ true) × (piece_for class.Case ∷ i ≡ arm_spelling y.0 ++ y.1)
arm_made t w i y e ok is = (
  subst (λ a. arm_layered a ≡ true) e ok,
  subst (λ a. piece_for class.Case ∷ i ≡ arm_spelling a ++ y.1) e (ap (λ z. piece_for class.Case ∷ z) (is ∙ sym (append_assoc (spelling t) (piece_for class.Arrow ∷ quoted w ∷ []) y.1))),
)

arm_sound : (n : ℕ) (i : Input) (y : ArmTree × Input) → arm_at n i ≡ Ok y → (arm_layered y.0 ≡ true) × (piece_for class.Case ∷ i ≡ arm_spelling y.0 ++ y.1)
unfolding arm_at
arm_sound n i y e =
    let a = bind_ok (pattern_at n i) _ y e in
    let b = bind_ok (pass class.Arrow a.0.1) _ y a.2 in
    let c = bind_ok (action b.0.1) _ y b.2 in
    let t = pattern_sound n i a.0 a.1 in
    let i1 = pass_sound class.Arrow refl a.0.1 b.0 b.1 in
    let i2 = action_sound b.0.1 c.0 c.1 in
    let y0 : (let z : ArmTree = record { pattern = a.0.0; action = c.0.0 } in z) ≡ y.0 = cc in
    let y1 : c.0.1 ≡ y.1 = cc in
    arm_made a.0.0 c.0.0 i y y0 (both_true _ _ t.0).1 (t.1 ∙ ap (λ z. spelling a.0.0 ++ z) (i1 ∙ ap (λ z. piece_for class.Arrow ∷ z) (i2 ∙ ap (λ z. quoted c.0.0 ∷ z) y1)))

abbrev ArmsRead : List ArmTree → Input → List ArmTree × Input → Type 0
ArmsRead found i y = (xs : List ArmTree) × (y.0 ≡ found ++ xs) × (list_all arm_layered xs ≡ true) × (i ≡ flat_map arm_spelling xs ++ y.1)

no_arm : (found : List ArmTree) (i : Input) (y : List ArmTree × Input) → (let z : Outcome (List ArmTree) = Ok (found, i) in z) ≡ Ok y → ArmsRead found i y
no_arm found i y e =
    let y0 : found ≡ y.0 = cc in
    let y1 : i ≡ y.1 = cc in
    ([], sym y0 ∙ sym (append-nil found), refl, y1)

arms_case : (n turns : ℕ) (found : List ArmTree) (i : Input) (y : List ArmTree × Input) (b : Bool) → sees class.Case i ≡ b
    → ((found : List ArmTree) (i : Input) (y : List ArmTree × Input) → arms_from n turns found i ≡ Ok y → ArmsRead found i y)
    → (if b then (λ j. and_then (arm_at n j) (λ a. arms_from n turns (found ++ a ∷ []))) else pure found) (if b then next i else i) ≡ Ok y → ArmsRead found i y
arms_case n turns found i y true s again e =
    let a = bind_ok (arm_at n (next i)) _ y e in
    let t = arm_sound n (next i) a.0 a.1 in
    let r = again (found ++ a.0.0 ∷ []) a.0.1 y a.2 in (
      a.0.0 ∷ r.0,
      r.1 ∙ append_assoc found (a.0.0 ∷ []) r.0,
      and_both _ _ t.0 r.2,
      sees_fixed class.Case i refl s ∙ t.1 ∙ ap (λ z. arm_spelling a.0.0 ++ z) r.3 ∙ sym (append_assoc (arm_spelling a.0.0) (flat_map arm_spelling r.0) y.1),
    )
arms_case n turns found i y false s again e = no_arm found i y e

listed_sound : (n turns : ℕ) (found : List ArmTree) (i : Input) (y : List ArmTree × Input) → arms_from n turns found i ≡ Ok y → ArmsRead found i y
unfolding arms_from
listed_sound n zero found i y e = no_arm found i y e
listed_sound n (suc turns) found i y e = arms_case n turns found i y (sees class.Case i) refl (listed_sound n turns) e

arms_by : (n : ℕ) (i : Input) (y : ArmsTree × Input) (b : Bool) → sees class.All i ≡ b
    → (if b then pure arms.All else (λ j. and_then (arms_from n (length j) [] j) (λ xs. pure (arms.Listed xs)))) (if b then next i else i) ≡ Ok y
    → (arms_layered y.0 ≡ true) × (i ≡ arms_spelling y.0 ++ y.1)
arms_by n i y true s e =
    let y0 : arms.All ≡ y.0 = cc in
    let y1 : next i ≡ y.1 = cc in (
      subst (λ t. arms_layered t ≡ true) y0 refl,
      sees_fixed class.All i refl s ∙ rw y1 (subst (λ t. piece_for class.All ∷ y.1 ≡ arms_spelling t ++ y.1) y0 refl),
    )
arms_by n i y false s e =
    let a = bind_ok (arms_from n (length i) [] i) _ y e in
    let r = listed_sound n (length i) [] i a.0 a.1 in
    let y0 : arms.Listed r.0 ≡ y.0 = ap arms.Listed (sym r.1) ∙ (let z : arms.Listed a.0.0 ≡ y.0 = cc in z) in
    let y1 : a.0.1 ≡ y.1 = cc in (
      subst (λ t. arms_layered t ≡ true) y0 r.2,
      subst (λ t. i ≡ arms_spelling t ++ y.1) y0 (r.3 ∙ ap (λ z. flat_map arm_spelling r.0 ++ z) y1),
    )

arms_sound : (n : ℕ) → Sound (arms_at n) arms_layered arms_spelling
unfolding arms_at
arms_sound n i y e = arms_by n i y (sees class.All i) refl e

-- ---- the whole

skip_by : (i : Input) (y : Option (List ℕ) × Input) (b : Bool) → sees class.Else i ≡ b
    → (if b then (λ j. and_then (pass class.Skip j) (λ _. λ j. and_then (grammar.number j) (λ n. pure (Some n)))) else pure None) (if b then next i else i) ≡ Ok y
    → i ≡ skip_spelling y.0 ++ y.1
skip_by i y true s e =
    let a = bind_ok (pass class.Skip (next i)) _ y e in
    let b = bind_ok (grammar.number a.0.1) _ y a.2 in
    let i1 = pass_sound class.Skip refl (next i) a.0 a.1 in
    let i2 = number_sound a.0.1 b.0 b.1 in
    let y0 : Some b.0.0 ≡ y.0 = cc in
    let y1 : b.0.1 ≡ y.1 = cc in
    subst (λ t. i ≡ skip_spelling t ++ y.1) y0
    (sees_fixed class.Else i refl s ∙ ap (λ z. piece_for class.Else ∷ z) (i1 ∙ ap (λ z. piece_for class.Skip ∷ z) (i2 ∙ ap (λ z. number b.0.0 ∷ z) y1)))
skip_by i y false s e =
    let y0 : None ≡ y.0 = cc in
    let y1 : i ≡ y.1 = cc in
    subst (λ t. i ≡ skip_spelling t ++ y.1) y0 y1

skip_sound : (i : Input) (y : Option (List ℕ) × Input) → skip_of i ≡ Ok y → i ≡ skip_spelling y.0 ++ y.1
unfolding skip_of
skip_sound i y e = skip_by i y (sees class.Else i) refl e

statement_made : (a : ArmsTree) (s : Option (List ℕ)) (i : Input) (y : MatchTree × Input) → (let t : MatchTree = record { arms = a; skip = s } in t) ≡ y.0 → arms_layered a ≡ true
    → i ≡ piece_for class.Match ∷ (arms_spelling a ++ (skip_spelling s ++ y.1)) → (statement_layered y.0 ≡ true) × (i ≡ statement_spelling y.0 ++ y.1)
statement_made a s i y e ok is = (
  subst (λ t. statement_layered t ≡ true) e ok,
  subst (λ t. i ≡ statement_spelling t ++ y.1) e (is ∙ ap (λ z. piece_for class.Match ∷ z) (sym (append_assoc (arms_spelling a) (skip_spelling s) y.1))),
)

-- What a statement's rule reads is layered, and is what its tree unparses to.
pub statement_sound : (n : ℕ) → Sound (statement_at n) statement_layered statement_spelling
unfolding statement_at
statement_sound n i y e =
    let a = bind_ok (pass class.Match i) _ y e in
    let b = bind_ok (arms_at n a.0.1) _ y a.2 in
    let c = bind_ok (skip_of b.0.1) _ y b.2 in
    let i1 = pass_sound class.Match refl i a.0 a.1 in
    let t = arms_sound n a.0.1 b.0 b.1 in
    let i2 = skip_sound b.0.1 c.0 c.1 in
    let y0 : (let z : MatchTree = record { arms = b.0.0; skip = c.0.0 } in z) ≡ y.0 = cc in
    let y1 : c.0.1 ≡ y.1 = cc in
    statement_made b.0.0 c.0.0 i y y0 t.0 (i1 ∙ ap (λ z. piece_for class.Match ∷ z) (t.1 ∙ ap (λ z. arms_spelling b.0.0 ++ z) (i2 ∙ ap (λ z. skip_spelling c.0.0 ++ z) y1)))

-- A whole text that is read is that statement.
pub whole_sound : (n : ℕ) (i : Input) (y : MatchTree × Input) → whole_statement n i ≡ Ok y → IsStatement i y.0
unfolding whole_statement
whole_sound n i y e =
    let a = bind_ok (statement_at n i) _ y e in
    let b = bind_ok (finish a.0.1) _ y a.2 in
    let t = statement_sound n i a.0 a.1 in
    let none = (finish_sound a.0.1 b.0 b.1).0 in
    let y0 : a.0.0 ≡ y.0 = cc in (
      subst (λ z. statement_layered z ≡ true) y0 t.0,
      subst (λ z. i ≡ statement_spelling z) y0 (t.1 ∙ ap (λ z. statement_spelling a.0.0 ++ z) none ∙ append-nil (statement_spelling a.0.0)),
    )
