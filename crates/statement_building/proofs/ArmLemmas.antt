-- What an arm does not meet, stage by stage, and what it meets.
use Rattle.std.proofs.Common.{◌≡◌, ℕ, ◌+◌, ◌<◌, ◌≤◌, Bool, true, false, cond, List, [], ◌∷◌, ◌++◌, length, map, take, get_or, All, Option, Some, None, refl, sym, ap, subst, ◌∙◌, arith}
use Rattle.std.specs.Prelude.{◌&&◌, nat_le, is_some}
use Rattle.std.proofs.lemmas.Bool.{leb-true}
use Rattle.std.proofs.lemmas.List.{length-map, take_more, get_or-map}
use Rattle.sled_parser.specs.declared.tree.ArmTree.{ArmTree}
use Rattle.sled_parser.specs.declared.tree.PatternTree.{PatternTree}
use Rattle.sled_model.specs.declared.constructor.OperandKind.{OperandKind}
use Rattle.sled_model.specs.declared.constructor.TypeId.{TypeId}
use Rattle.sled_model.specs.declared.pattern.Argument.{Argument}
use Rattle.sled_model.specs.declared.pattern.Argument.TheVariants as argument
use Rattle.sled_model.specs.declared.pattern.Pattern.{Pattern, Row_of-Pattern, end_of-Pattern, more_of-Pattern, Row_of-Argument, end_of-Argument, more_of-Argument}
use Rattle.sled_model.specs.declared.pattern.Pattern.TheVariants as pattern
use Rattle.sled_model.specs.declared.spec.Spec.{Spec}
use Rattle.sled_model.specs.declared.statement.Piece.{Piece}
use Rattle.sled_model.specs.Kinds.{type_in, kinds_of}
use Rattle.sled_model.specs.Leaves.{AllLeaves}
use Rattle.sled_model.specs.Measures.{capped, pattern_weight, pattern_size, pattern_len}
use Rattle.sled_model.specs.Shapes.{spec_shapes, shapes, conjunctions_agree, lengths_within}
use Rattle.sled_model.proofs.ShapeApplied.{HaveInnerApplications, IsOpenOrApplied, IsInnerApplication, HasInnerApplications}
use Rattle.sled_model.proofs.ShapeContexts.{AllLeaves-weaker}
use Rattle.sled_model.proofs.ShapeSpecs.{AppliesRightly}
use Rattle.tree_meaning.specs.Names.{are_new}
use Rattle.tree_meaning.specs.Parts.{labels, numbers_fit, generates_nothing}
use Rattle.tree_meaning.specs.Scopes.{Declared}
use Rattle.constructor_meaning.specs.Sound.{IsSoundScope}
use Rattle.constructor_meaning.specs.Unmet.{first_unmet}
use Rattle.constructor_meaning.proofs.UnmetLemmas.{first_unmet-early, first_unmet-late, all_met}
use Rattle.constructor_building.proofs.MetLemmas.{split_met}
use Rattle.matchable_arms.specs.Arms.{HasMatchLengths}
use Rattle.arm_actions.specs.Actions.{unquoted, action_pieces}
use Rattle.arm_meaning.specs.Bound.{binds_once, sides_bind_alike}
use Rattle.arm_meaning.specs.Patterns as meaning
use Rattle.arm_meaning.specs.Patterns.{are_known_in_arm}
use Rattle.arm_meaning.specs.Sound.{IsArgumentFor, BoxAppliesType, AppliesType, RowIsFor, AppliesKnown, IsArmLeaf}
use Rattle.arm_meaning.proofs.Soundness.{patterns_are_sound}
use Rattle.statement_building.specs.Conditions.{naming_conditions, form_conditions, binding_conditions, measure_conditions, forming_conditions, is_closed_arm, has_lengths, has_measure, arm_unmet}
use Rattle.statement_building.specs.Statements.{arm_names, arm_pattern}

-- ---- conditions one behind another

-- a condition that is met says nothing
pub unmet_past : (n : ℕ) (t : Bool) (cs : List (ℕ × Bool)) → t ≡ true → first_unmet ((n, t) ∷ cs) ≡ first_unmet cs
unmet_past n t cs h = ap (λ s. cond s (first_unmet cs) (Some n)) h

pub unmet_here : (n : ℕ) (t : Bool) (cs : List (ℕ × Bool)) → t ≡ false → first_unmet ((n, t) ∷ cs) ≡ Some n
unmet_here n t cs h = ap (λ s. cond s (first_unmet cs) (Some n)) h

module _ (spec : Spec) (declared : Declared) (before : ℕ) (arm : ArmTree) where
  abbrev naming : List (ℕ × Bool)
  naming = naming_conditions spec declared arm.pattern

  abbrev forming : List (ℕ × Bool)
  forming = forming_conditions spec declared before arm.pattern (arm_pattern spec declared arm)

  abbrev pieces : Option (List Piece)
  pieces = action_pieces (arm_names declared arm) (unquoted arm.action)

  abbrev ends : List (ℕ × Bool)
  ends = (16, is_some pieces) ∷ []

  pub unmet_by_naming : (n : ℕ) → first_unmet naming ≡ Some n → arm_unmet spec declared before arm ≡ Some n
  unmet_by_naming n h = first_unmet-early naming (forming ++ ends) n h

  pub unmet_by_forming : (n : ℕ) → first_unmet naming ≡ None → first_unmet forming ≡ Some n → arm_unmet spec declared before arm ≡ Some n
  unmet_by_forming n names h = first_unmet-late naming (forming ++ ends) names ∙ first_unmet-early forming ends n h

  to_action : first_unmet naming ≡ None → first_unmet forming ≡ None → arm_unmet spec declared before arm ≡ first_unmet ends
  to_action names forms = first_unmet-late naming (forming ++ ends) names ∙ first_unmet-late forming ends forms

  pub unmet_by_action : first_unmet naming ≡ None → first_unmet forming ≡ None → pieces ≡ None → arm_unmet spec declared before arm ≡ Some 16
  unmet_by_action names forms none = to_action names forms ∙ unmet_here 16 (is_some pieces) [] (ap is_some none)

  pub all_are_met : (ps : List Piece) → first_unmet naming ≡ None → first_unmet forming ≡ None → pieces ≡ Some ps → arm_unmet spec declared before arm ≡ None
  all_are_met ps names forms some = to_action names forms ∙ unmet_past 16 (is_some pieces) [] (ap is_some some)

-- ---- inner arguments

mutual
  inner_for : {n : _} (spec : Spec) (kinds : Option (List OperandKind)) (arguments : Row_of-Argument n) → RowIsFor spec kinds arguments → HaveInnerApplications arguments
  inner_for spec None arguments h = absurd h
  inner_for spec (Some []) end_of-Argument h = tt
  inner_for spec (Some []) (more_of-Argument a arguments) h = absurd h
  inner_for spec (Some (kind ∷ kinds)) end_of-Argument h = absurd h
  inner_for spec (Some (kind ∷ kinds)) (more_of-Argument a arguments) h = (argument_for spec kind a h.0, inner_for spec (Some kinds) arguments h.1)

  argument_for : (spec : Spec) (kind : OperandKind) (a : Argument) → IsArgumentFor spec kind a → IsOpenOrApplied a
  argument_for spec kind argument.Any h = tt
  argument_for spec kind (argument.Name k) h = tt
  argument_for spec kind (argument.Inner' s p) h = box_for spec (type_in kind) p h

  box_for : {n : _} (spec : Spec) (t : Option TypeId) (p : Row_of-Pattern n) → BoxAppliesType spec t p → IsInnerApplication p
  box_for spec t end_of-Pattern h = absurd h
  box_for spec t (more_of-Pattern p ps) h = applied_for spec t p h

  applied_for : (spec : Spec) (t : Option TypeId) (p : Pattern) → AppliesType spec t p → HasInnerApplications p
  applied_for spec t (pattern.Apply' k s arguments) h = inner_for spec (kinds_of spec k) arguments h.1
  applied_for spec t (pattern.Token c) h = absurd h
  applied_for spec t (pattern.Limit f r l) h = absurd h
  applied_for spec t (pattern.Bind f) h = absurd h
  applied_for spec t (pattern.Operand k) h = absurd h
  applied_for spec t (pattern.Label' l s p) h = absurd h
  applied_for spec t (pattern.Both' s ps) h = absurd h
  applied_for spec t (pattern.Either' s ps) h = absurd h
  applied_for spec t (pattern.Chain' s ps) h = absurd h
  applied_for spec t (pattern.Loose' s p) h = absurd h
  applied_for spec t pattern.Empty h = absurd h

rightly : (spec : Spec) (p : Pattern) → AppliesKnown spec p → AppliesRightly p
rightly spec (pattern.Apply' k s arguments) h = inner_for spec (kinds_of spec k) arguments h
rightly spec (pattern.Token c) h = tt
rightly spec (pattern.Limit f r l) h = tt
rightly spec (pattern.Bind f) h = tt
rightly spec (pattern.Operand k) h = tt
rightly spec (pattern.Label' l s p) h = tt
rightly spec (pattern.Both' s ps) h = tt
rightly spec (pattern.Either' s ps) h = tt
rightly spec (pattern.Chain' s ps) h = tt
rightly spec (pattern.Loose' s p) h = tt
rightly spec pattern.Empty h = tt

-- ---- what is met

-- the names are known, and the numbers fit
record IsNamed (spec : Spec) (declared : Declared) (tree : PatternTree) : Type 0 where
  pub known : are_known_in_arm spec declared tree ≡ true
  pub fit : numbers_fit spec.tokens declared tree ≡ true

naming_met : (spec : Spec) (declared : Declared) (tree : PatternTree) → first_unmet (naming_conditions spec declared tree) ≡ None → IsNamed spec declared tree
naming_met spec declared tree h =
    let known = are_known_in_arm spec declared tree in
    let fit = numbers_fit spec.tokens declared tree in
    let none = generates_nothing tree in
    let one = all_met 1 (are_new declared.names (labels tree)) ((2, known) ∷ (4, fit) ∷ (5, none) ∷ []) h in
    let two = all_met 2 known ((4, fit) ∷ (5, none) ∷ []) one.1 in
    let three = all_met 4 fit ((5, none) ∷ []) two.1 in
    record { known = two.0; fit = three.0 }

-- each inner argument of an application in the pattern is an application, where the names are known
pub arm_applies : (spec : Spec) (declared : Declared) (tree : PatternTree) (names : List (List ℕ)) → IsSoundScope spec declared
    → first_unmet (naming_conditions spec declared tree) ≡ None → AllLeaves AppliesRightly (meaning.arm_pattern spec declared names tree)
arm_applies spec declared tree names s h =
    let named = naming_met spec declared tree h in
    AllLeaves-weaker (IsArmLeaf spec) AppliesRightly (λ p is leaf. rightly spec p leaf.applies) (meaning.arm_pattern spec declared names tree)
    (patterns_are_sound spec declared names tree s.sound s.local_meanings named.known named.fit)

both_true : (a b : Bool) → (a && b) ≡ true → (a ≡ true) × (b ≡ true)
both_true true b h = (refl, h)
both_true false b h = cc

-- the conjunctions agree, and lengths and measures are as they have to be
pub record IsFormed (spec : Spec) (before : ℕ) (p : Pattern) : Type 0 where
  pub agree : conjunctions_agree (spec_shapes spec) p ≡ true
  pub lengths : lengths_within 1 32 spec.tokens (shapes (spec_shapes spec) p) ≡ true
  pub longest : pattern_len spec p ≤ 32
  pub measure : has_measure spec before p ≡ true

-- where none is unmet of conditions of which these are the first and these the last
pub forms_met : (spec : Spec) (before : ℕ) (p : Pattern) (between : List (ℕ × Bool)) → first_unmet (form_conditions spec p ++ (between ++ measure_conditions spec before p)) ≡ None
    → IsFormed spec before p
forms_met spec before p between h =
    let closed = is_closed_arm spec p in
    let lengths = has_lengths spec p in
    let measure = has_measure spec before p in
    let rest = between ++ measure_conditions spec before p in
    let one = all_met 6 (conjunctions_agree (spec_shapes spec) p) ((7, closed) ∷ rest) h in
    let two = all_met 7 closed rest one.1 in
    let last = (split_met between (measure_conditions spec before p) two.1).1 in
    let five = all_met 14 lengths ((15, measure) ∷ []) last in
    let six = all_met 15 measure [] five.1 in
    let within = both_true (lengths_within 1 32 spec.tokens (shapes (spec_shapes spec) p)) (nat_le (pattern_len spec p) 32) five.0 in
    record { agree = one.0; lengths = within.0; longest = leb-true (pattern_len spec p) 32 within.1; measure = six.0 }

pub lengths_of : (spec : Spec) (before : ℕ) (p : Pattern) → AllLeaves AppliesRightly p → IsFormed spec before p → HasMatchLengths spec p
lengths_of spec before p applies formed = record { applies = applies; agree = formed.agree; lengths = formed.lengths; fits = formed.longest }

-- ---- measures

all_of_three : (a b c : Bool) → (a && b && c) ≡ true → (a ≡ true) × (c ≡ true)
all_of_three true true c h = (refl, h)
all_of_three true false c h = cc
all_of_three false b c h = cc

-- so an arm, and with it the arms before, weigh no more than they may
pub weight_within : (spec : Spec) (before : ℕ) (p : Pattern) → IsFormed spec before p → (pattern_weight spec p ≤ 4096) × (before + pattern_weight spec p ≤ 16384)
weight_within spec before p formed =
    let ends = all_of_three (nat_le (pattern_weight spec p) 4096) (nat_le (pattern_size spec p) 256) (nat_le (before + pattern_weight spec p) 16384) formed.measure in
    (leb-true (pattern_weight spec p) 4096 ends.0, leb-true (before + pattern_weight spec p) 16384 ends.1)

capped_small : (n k : ℕ) → k ≡ capped n → n ≤ 4096 → k ≡ n
capped_small n k is small = omega arith

-- a weight that is told is the pattern's
pub weight_told : (spec : Spec) (before : ℕ) (p : Pattern) (k : ℕ) → IsFormed spec before p → k ≡ capped (pattern_weight spec p) → k ≡ pattern_weight spec p
weight_told spec before p k formed told = capped_small (pattern_weight spec p) k told (weight_within spec before p formed).0

pub still_light : (before told weight : ℕ) → told ≡ weight → before + weight ≤ 16384 → before + told ≤ 16384
still_light before told weight is h = omega arith

-- and so does an arm that meets all
pub arm_within : (spec : Spec) (declared : Declared) (before : ℕ) (arm : ArmTree) → arm_unmet spec declared before arm ≡ None
    → before + pattern_weight spec (arm_pattern spec declared arm) ≤ 16384
arm_within spec declared before arm met =
    let forms = forming spec declared before arm in
    let rest = (split_met (naming spec declared before arm) (forms ++ ends spec declared before arm) met).1 in
    let formed = (split_met forms (ends spec declared before arm) rest).0 in
    (weight_within spec before (arm_pattern spec declared arm)
    (forms_met spec before (arm_pattern spec declared arm) (binding_conditions declared arm.pattern) formed)).1

-- ---- names and numbers

abbrev four : Bool → Bool → Bool → Bool → List (ℕ × Bool)
four a b c d = (1, a) ∷ (2, b) ∷ (4, c) ∷ (5, d) ∷ []

module _ (a b c d : Bool) where
  pub unmet_1 : a ≡ false → Some 1 ≡ first_unmet (four a b c d)
  unmet_1 h = sym (unmet_here 1 a ((2, b) ∷ (4, c) ∷ (5, d) ∷ []) h)

  past_1 : a ≡ true → first_unmet (four a b c d) ≡ first_unmet ((2, b) ∷ (4, c) ∷ (5, d) ∷ [])
  past_1 h = unmet_past 1 a ((2, b) ∷ (4, c) ∷ (5, d) ∷ []) h

  pub unmet_2 : a ≡ true → b ≡ false → Some 2 ≡ first_unmet (four a b c d)
  unmet_2 h i = sym (past_1 h ∙ unmet_here 2 b ((4, c) ∷ (5, d) ∷ []) i)

  past_2 : a ≡ true → b ≡ true → first_unmet (four a b c d) ≡ first_unmet ((4, c) ∷ (5, d) ∷ [])
  past_2 h i = past_1 h ∙ unmet_past 2 b ((4, c) ∷ (5, d) ∷ []) i

  pub unmet_4 : a ≡ true → b ≡ true → c ≡ false → Some 4 ≡ first_unmet (four a b c d)
  unmet_4 h i j = sym (past_2 h i ∙ unmet_here 4 c ((5, d) ∷ []) j)

  past_4 : a ≡ true → b ≡ true → c ≡ true → first_unmet (four a b c d) ≡ first_unmet ((5, d) ∷ [])
  past_4 h i j = past_2 h i ∙ unmet_past 4 c ((5, d) ∷ []) j

  pub unmet_5 : a ≡ true → b ≡ true → c ≡ true → d ≡ false → Some 5 ≡ first_unmet (four a b c d)
  unmet_5 h i j k = sym (past_4 h i j ∙ unmet_here 5 d [] k)

  pub unmet_none : a ≡ true → b ≡ true → c ≡ true → d ≡ true → None ≡ first_unmet (four a b c d)
  unmet_none h i j k = sym (past_4 h i j ∙ unmet_past 5 d [] k)

-- ---- lists

-- one name more of a table
pub names_more : {A : Type 0} (f : A → List ℕ) (xs : List A) (ns : List (List ℕ)) (i : ℕ) (d : A) → map f xs ≡ ns → i < length xs
    → take (i + 1) ns ≡ take i ns ++ f (get_or xs i d) ∷ []
names_more f xs ns i d is h =
    let within : i < length (map f xs) = rw length-map h in
    subst (λ ms. take (i + 1) ms ≡ take i ms ++ f (get_or xs i d) ∷ []) is
    (take_more (map f xs) i (f d) within ∙ ap (λ n. take i (map f xs) ++ n ∷ []) (get_or-map f xs i d (f d) h))
