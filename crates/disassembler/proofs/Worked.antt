-- The tests' description can be read, and their statement can be matched.
use Rattle.std.proofs.Common.{ℕ, zero, suc, ◌≡◌, ◌≢◌, ◌≤◌, inl, true, List, [], ◌∷◌, ◌++◌, map, codes, sym, All, AllPairs, Contains, slice_get, Option, Some, None, IfSome, IsSome, refl, ap, subst, arith}
use Rattle.std.proofs.lemmas.List.Elements.{All-nil, All-cons, All-weaker, All-contains_itself}
use Rattle.std.proofs.lemmas.List.Kept.{AllPairs-cons}
use Rattle.token_bits.specs.Tokens.{IsWidth, IsFieldOf, AreTokens, token_len, value_at}
use Rattle.token_bits.specs.declared.tokens.Class.{Class}
use Rattle.sled_model.specs.declared.constructor.TypeId.{TypeId}
use Rattle.sled_model.specs.declared.constructor.OperandKind.{OperandKind}
use Rattle.sled_model.specs.declared.constructor.OperandKind.TheVariants.{Plain, Typed}
use Rattle.sled_model.specs.declared.pattern.Argument.TheBlock.{hidden-the_row-Pattern-0, hidden-the_row-Pattern-1, hidden-the_row-Argument-2}
use denote.Hole.Carrier.{hidden}
use Rattle.sled_model.specs.declared.raw.Match.{Match}
use Rattle.sled_model.specs.declared.raw.RawEntry.TheVariants.{Value}
use Rattle.sled_model.specs.declared.statement.Arm.{Arm}
use Rattle.sled_model.specs.declared.statement.Piece.TheVariants.{Words, Bound}
use Rattle.sled_model.specs.Leaves.{AllLeaves}
use Rattle.sled_model.specs.Linear.{IsEquationOf, IsLinear}
use Rattle.sled_model.specs.PlainStatements.{IsMatchLength, IsBoundedArm}
use Rattle.sled_model.specs.Results.{results_from, one_match, choice_match, arm_context, arm_results}
use Rattle.sled_model.specs.Shapes.{spec_shapes, shapes, conjunctions_agree, lengths_within}
use Rattle.sled_model.specs.Solved.{GivesOperand, IsHeldOnce}
use Rattle.sled_model.specs.SolvingOrder.{bare_fields, is_among}
use Rattle.sled_model.specs.Specs.{IsKnownKind, IsConstructorOf, IsSpec}
use Rattle.sled_model.proofs.ShapeKnown.{BodiesAgree}
use Rattle.sled_model.proofs.ShapeResults.{results_within}
use Rattle.sled_model.proofs.ShapeSpecs.{BodiesChoose, AppliesRightly, arm_shaped}
use Rattle.asm_text.specs.Actions.{NamesBelow}
use Rattle.match_meaning.specs.Matchable.{IsMatchable, IsMatchableArm}
use Rattle.match_meaning.specs.Readable.{IsReadable, HasShortBody, IsReadableSpec}
use Rattle.disassembler.specs.Example.{y, t, tokens, upper_half, around, description, inner_arm, outer_arm, label_arm, three_arms}

one : {A : Type 0} (P : A → Type 0) (x : A) → P x → All P (x ∷ [])
one P x h = All-cons P x [] h (All-nil P)

two : {A : Type 0} (P : A → Type 0) (x z : A) → P x → P z → All P (x ∷ z ∷ [])
two P x z h g = All-cons P x (z ∷ []) h (one P z g)

-- ---- the description

head_of : List ℕ → ℕ
head_of [] = 0
head_of (n ∷ ns) = n

-- texts whose first characters differ
other_head : (a b : List ℕ) → head_of a ≢ head_of b → a ≢ b
other_head a b h e = h (ap head_of e)

abbrev Other : List ℕ → List ℕ → Type 0
Other one other = one ≢ other

no_pair : (a : List ℕ) → AllPairs Other (a ∷ [])
no_pair a = AllPairs-cons Other a [] (All-nil (Other a)) (λ i j d l m. absurd (omega (arith, m)))

are_tokens : AreTokens tokens
are_tokens = record {
  widths = one (λ (c : Class). IsWidth c.width) _ (inl refl);
  fields = two (IsFieldOf tokens.classes) _ _ (omega arith, omega arith) (omega arith, omega arith);
}

different_names : AllPairs Other (codes "b" ∷ codes "y" ∷ codes "z" ∷ codes "t" ∷ [])
unfolding head_of
different_names =
    AllPairs-cons Other (codes "b") (codes "y" ∷ codes "z" ∷ codes "t" ∷ [])
    (All-cons (Other (codes "b")) (codes "y") (codes "z" ∷ codes "t" ∷ []) (other_head (codes "b") (codes "y") (λ e. omega (arith, e)))
    (two (Other (codes "b")) (codes "z") (codes "t") (other_head (codes "b") (codes "z") (λ e. omega (arith, e))) (other_head (codes "b") (codes "t") (λ e. omega (arith, e)))))
    (AllPairs-cons Other (codes "y") (codes "z" ∷ codes "t" ∷ [])
    (two (Other (codes "y")) (codes "z") (codes "t") (other_head (codes "y") (codes "z") (λ e. omega (arith, e))) (other_head (codes "y") (codes "t") (λ e. omega (arith, e))))
    (AllPairs-cons Other (codes "z") (codes "t" ∷ []) (one (Other (codes "z")) (codes "t") (other_head (codes "z") (codes "t") (λ e. omega (arith, e)))) (no_pair (codes "t"))))

different_constructors : AllPairs Other (codes "e" ∷ codes "f" ∷ [])
unfolding head_of
different_constructors =
    AllPairs-cons Other (codes "e") (codes "f" ∷ []) (one (Other (codes "e")) (codes "f") (other_head (codes "e") (codes "f") (λ e. omega (arith, e)))) (no_pair (codes "f"))

upper_is : IsConstructorOf tokens 1 upper_half
upper_is = record {
  names = refl;
  operands = one (IsKnownKind tokens 1) (Plain y) (omega arith);
  result = omega arith;
  body = record { class = tt; field = refl; limit = tt; operand = tt; alone = tt };
}

around_is : IsConstructorOf tokens 1 around
around_is = record {
  names = refl;
  operands = one (IsKnownKind tokens 1) (Typed t) (omega arith);
  result = tt;
  body = record { class = tt; field = tt; limit = tt; operand = tt; alone = tt };
}

is_spec : IsSpec description
is_spec = record {
  tokens = are_tokens;
  classes = refl;
  fields = refl;
  names = different_names;
  constructor_names = refl;
  different = different_constructors;
  constructors = two (IsConstructorOf tokens 1) upper_half around upper_is around_is;
  few = omega arith;
}

no_pairs : {A : Type 0} (R : A → A → Type 0) (x : A) → AllPairs R (x ∷ [])
no_pairs R x i j d l m = absurd (omega (arith, l, m))

none_pairs : {A : Type 0} (R : A → A → Type 0) → AllPairs R []
none_pairs R i j d l m = absurd (omega (arith, m))

upper_linear : IsLinear tokens upper_half
upper_linear = record {
  known = one (λ f. IsSome (slice_get tokens.fields f)) 0 refl;
  once = no_pairs {A = ℕ} (λ f g. f ≢ g) 0;
  bare = one (λ f. is_among (bare_fields upper_half.body) f ≡ true) 0 refl;
  apart = no_pairs {A = ℕ} (λ f g. f ≢ g) 0;
  few_operands = omega arith;
  few_equations = omega arith;
  equations = All-nil (IsEquationOf upper_half);
}

around_linear : IsLinear tokens around
around_linear = record {
  known = All-nil {X = ℕ} (λ f. IsSome (slice_get tokens.fields f));
  once = none_pairs {A = ℕ} (λ f g. f ≢ g);
  bare = All-nil {X = ℕ} (λ f. is_among (bare_fields around.body) f ≡ true);
  apart = none_pairs {A = ℕ} (λ f g. f ≢ g);
  few_operands = omega arith;
  few_equations = omega arith;
  equations = All-nil (IsEquationOf around);
}

only_kind : (first : OperandKind) (k : ℕ) (kind : OperandKind) → slice_get (first ∷ []) k ≡ Some kind → (k ≡ 0) × (first ≡ kind)
only_kind first zero kind s = (refl, cc)
only_kind first (suc k) kind s = cc

not_typed : (u : TypeId) → Plain y ≡ Typed u → ⊥
not_typed u h = cc

upper_readable : IsReadable tokens upper_half
upper_readable = record {
  linear = upper_linear;
  determined = record { takes = refl; determines = refl; single = refl };
  solved = record { gives = All-nil (GivesOperand tokens); held = λ k kind s. subst (IsHeldOnce [] k) ((only_kind (Plain y) k kind s).1) tt };
  sides = tt;
  typed = λ k u s. absurd (not_typed u ((only_kind (Plain y) k (Typed u) s).1));
}

around_readable : IsReadable tokens around
around_readable = record {
  linear = around_linear;
  determined = record { takes = refl; determines = refl; single = refl };
  solved = record { gives = All-nil (GivesOperand tokens); held = λ k kind s. subst (IsHeldOnce [] k) ((only_kind (Typed t) k kind s).1) tt };
  sides = tt;
  typed = λ k u s. subst (λ (n : ℕ). is_among (0 ∷ []) n ≡ true) (sym ((only_kind (Typed t) k (Typed u) s).0)) refl;
}

bodies_agree : BodiesAgree tokens [] (upper_half ∷ around ∷ [])
bodies_agree = (tt, refl, (tt, refl, tt))

bodies_choose : BodiesChoose (upper_half ∷ around ∷ [])
bodies_choose = (tt, none_pairs (λ i j. i ≡ j → ⊥), (tt, no_pairs (λ i j. i ≡ j → ⊥) 0, tt))

abbrev Short : Match → Type 0
Short m = m.len ≤ 32

upper_short : (i : ℕ) (o : Option ℕ) → All Short (results_from o (λ value. one_match (Value y value i ∷ []) (token_len tokens y)))
upper_short i None = All-nil Short
upper_short i (Some value) = one Short _ (omega arith)

around_short : (i : ℕ) (o : Option ℕ) → All Short (map (choice_match 0 []) (results_from o (λ value. one_match (Value y value i ∷ []) (token_len tokens y))) ++ [])
around_short i None = All-nil Short
around_short i (Some value) = one Short _ (omega arith)

pub can_be_read : IsReadableSpec description
can_be_read = record {
  is_spec = is_spec;
  constructors = two (IsReadable tokens) upper_half around upper_readable around_readable;
  short = two HasShortBody _ _ (λ bytes i. upper_short i (value_at tokens y bytes i)) (λ bytes i. around_short i (value_at tokens y bytes i));
}

-- ---- the statement

module _ (arm : Arm) (applies : AllLeaves AppliesRightly arm.pattern) (agree : conjunctions_agree (spec_shapes description) arm.pattern ≡ true)
    (lengths : lengths_within 1 32 tokens (shapes (spec_shapes description) arm.pattern) ≡ true) where
  is_bounded : IsBoundedArm description arm
  is_bounded = λ bytes.
      let found : List Match = arm_results description arm bytes 0 in
      let shaped = arm_shaped description bodies_agree bodies_choose arm.pattern applies agree in
      All-weaker (Contains found) (λ m. IsMatchLength m.len) (λ m h. results_within (arm_context description) (spec_shapes description) arm.pattern shaped 1 32 lengths bytes 0 m h) found
      (All-contains_itself found)

inner_matchable : IsMatchableArm description inner_arm
unfolding hidden-the_row-Pattern-0 hidden-the_row-Pattern-1 hidden-the_row-Argument-2 hidden
inner_matchable = record { bounded = is_bounded inner_arm (tt, (((tt, tt), tt), tt)) refl refl; fits = omega arith; action = two (NamesBelow 1) _ _ tt (omega arith) }

outer_matchable : IsMatchableArm description outer_arm
unfolding hidden-the_row-Pattern-0 hidden-the_row-Pattern-1 hidden-the_row-Argument-2 hidden
outer_matchable = record { bounded = is_bounded outer_arm (tt, ((tt, tt), tt)) refl refl; fits = omega arith; action = two (NamesBelow 1) _ _ tt (omega arith) }

label_matchable : IsMatchableArm description label_arm
unfolding hidden-the_row-Pattern-0 hidden-the_row-Pattern-1 hidden-the_row-Argument-2 hidden
label_matchable = record {
  bounded = is_bounded label_arm (tt, ((tt, tt), tt)) refl refl;
  fits = omega arith;
  action = (let P = NamesBelow 2 in
      All-cons P (Words (codes "three ")) (Bound 0 ∷ Words (codes " ") ∷ Bound 1 ∷ []) tt (All-cons P (Bound 0) (Words (codes " ") ∷ Bound 1 ∷ []) (omega arith) (two P (Words (codes " ")) (Bound 1) tt (omega arith))));
}

pub three_arms-matchable : (skip : Option ℕ) → IfSome skip IsMatchLength → IsMatchable description (three_arms skip)
three_arms-matchable skip h = record {
  readable = can_be_read;
  arms = All-cons (IsMatchableArm description) inner_arm (outer_arm ∷ label_arm ∷ []) inner_matchable (two (IsMatchableArm description) outer_arm label_arm outer_matchable label_matchable);
  skip = h;
}
