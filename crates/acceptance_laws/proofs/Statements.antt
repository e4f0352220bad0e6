-- A statement that lacks nothing, over a description that is sound and can be read, can be matched.
use Rattle.std.proofs.Common.{◌≡◌, ℕ, ◌+◌, Bool, true, false, cond, List, [], ◌∷◌, ◌++◌, length, map, All, Option, Some, None, refl}
use Rattle.std.specs.Prelude.{◌&&◌, IfSome, nat_le, option_map, unwrap_or}
use Rattle.std.proofs.lemmas.Bool.{leb-true}
use Rattle.std.proofs.lemmas.List.Elements.{All-nil, All-cons, All-head, All-tail}
use Rattle.sled_lexer.specs.Spelled.{number_value}
use Rattle.sled_parser.specs.declared.tree.ArmTree.{ArmTree}
use Rattle.sled_parser.specs.declared.tree.ArmsTree.{ArmsTree}
use Rattle.sled_parser.specs.declared.tree.ArmsTree.TheVariants as arms
use Rattle.sled_parser.specs.declared.tree.MatchTree.{MatchTree}
use Rattle.sled_model.specs.declared.spec.Spec.{Spec}
use Rattle.sled_model.specs.declared.statement.Arm.{Arm}
use Rattle.sled_model.specs.declared.statement.Piece.{Piece}
use Rattle.sled_model.specs.PlainStatements.{IsMatchLength}
use Rattle.asm_text.specs.Actions.{NamesBelow}
use Rattle.match_meaning.specs.Matchable.{IsMatchable, IsMatchableArm}
use Rattle.tree_meaning.specs.Scopes.{Declared}
use Rattle.constructor_meaning.specs.Sound.{IsSoundScope}
use Rattle.constructor_building.proofs.MetLemmas.{split_met}
use Rattle.matchable_arms.specs.Arms.{AppliesInside, HasLengths}
use Rattle.arm_actions.specs.Actions.{action_pieces, unquoted}
use Rattle.arm_actions.proofs.Named.{pieces_named}
use Rattle.arm_meaning.specs.All.{all_arms}
use Rattle.arm_meaning.proofs.AllLaws.{actions_name_their_names}
use Rattle.sled_elab.specs.Declarations.{Described}
use Rattle.statement_building.specs.Conditions.{naming_conditions, forming_conditions, binding_conditions, action_is_bound, arm_unmet, made_unmet, arms_unmet, first_or, skip_unmet, arm_weight, tree_weight, written_unmet, statement_unmet}
use Rattle.statement_building.specs.Statements.{arm_names, arm_pattern, arm_of, arms_of, statement_of}
use Rattle.statement_building.proofs.ArmLemmas.{arm_applies, forms_met, lengths_of}
use Rattle.statement_building.proofs.MadeLemmas.{NamesItsNames, all_applied, all_named, all_matchable}
use Rattle.acceptance_laws.specs.Laws.{IsWhole}

-- where none is unmet, the next is met, and so are those behind it
none_first : (n : ℕ) (o : Option ℕ) (later : Option (ℕ × ℕ)) → first_or n o later ≡ None → (o ≡ None) × (later ≡ None)
none_first n None later h = (refl, h)
none_first n (Some condition) later h = cc

-- ---- the tail

within_by : (k : ℕ) (s t : Bool) → nat_le 1 k ≡ s → nat_le k 32 ≡ t → cond {A = Option ℕ} (s && t) None (Some 14) ≡ None → IsMatchLength k
within_by k true true a b h = (leb-true 1 k a, leb-true k 32 b)
within_by k true false a b h = cc
within_by k false t a b h = cc

skip_within : (skip : Option (List ℕ)) → skip_unmet skip ≡ None → IfSome (option_map number_value skip) IsMatchLength
skip_within None h = tt
skip_within (Some number) h = let k = number_value number in within_by k (nat_le 1 k) (nat_le k 32) refl refl h

-- ---- arms that are written out

module _ (spec : Spec) (declared : Declared) (s : IsSoundScope spec declared) where
  arm_lengths : (before : ℕ) (arm : ArmTree) → arm_unmet spec declared before arm ≡ None → HasLengths spec (arm_of spec declared arm)
  arm_lengths before arm met =
      let p = arm_pattern spec declared arm in
      let naming = naming_conditions spec declared arm.pattern in
      let forming = forming_conditions spec declared before arm.pattern p in
      let ends = (16, action_is_bound declared arm) ∷ [] in
      let parts = split_met naming (forming ++ ends) met in
      lengths_of spec before p (arm_applies spec declared arm.pattern (arm_names declared arm) s parts.0)
      (forms_met spec before p (binding_conditions declared arm.pattern) (split_met forming ends parts.1).0)

  pieces_or_none : (count : ℕ) (o : Option (List Piece)) → IfSome o (All (NamesBelow count)) → All (NamesBelow count) (unwrap_or o [])
  pieces_or_none count None h = All-nil (NamesBelow count)
  pieces_or_none count (Some ps) h = h

  arm_named : (arm : ArmTree) → NamesItsNames (arm_of spec declared arm)
  arm_named arm =
      let names = arm_names declared arm in
      let pieces = action_pieces names (unquoted arm.action) in
      pieces_or_none (length names) pieces (pieces_named names (unquoted arm.action) pieces refl)

  abbrev make : ArmTree → Arm
  make = arm_of spec declared

  listed_lengths : (n before : ℕ) (trees : List ArmTree) (skip : Option (List ℕ)) → arms_unmet (arm_unmet spec declared) (tree_weight spec declared) n before trees skip ≡ None
      → All (HasLengths spec) (map make trees) × (skip_unmet skip ≡ None)
  listed_lengths n before [] skip met = (All-nil (HasLengths spec), (none_first n (skip_unmet skip) None met).0)
  listed_lengths n before (arm ∷ trees) skip met =
      let next = none_first n (arm_unmet spec declared before arm) (arms_unmet (arm_unmet spec declared) (tree_weight spec declared) (n + 1) (before + tree_weight spec declared arm) trees skip) met in
      let rest = listed_lengths (n + 1) (before + tree_weight spec declared arm) trees skip next.1 in
      (All-cons (HasLengths spec) (make arm) (map make trees) (arm_lengths before arm next.0) rest.0, rest.1)

  listed_named : (trees : List ArmTree) → All NamesItsNames (map make trees)
  listed_named [] = All-nil NamesItsNames
  listed_named (arm ∷ trees) = All-cons NamesItsNames (make arm) (map make trees) (arm_named arm) (listed_named trees)

-- ---- those of all instructions

made_lengths : (spec : Spec) (n before : ℕ) (arms : List Arm) (skip : Option (List ℕ)) → All AppliesInside arms → arms_unmet (made_unmet spec) (arm_weight spec) n before arms skip ≡ None
    → All (HasLengths spec) arms × (skip_unmet skip ≡ None)
made_lengths spec n before [] skip applied met = (All-nil (HasLengths spec), (none_first n (skip_unmet skip) None met).0)
made_lengths spec n before (arm ∷ arms) skip applied met =
    let next = none_first n (made_unmet spec before arm) (arms_unmet (made_unmet spec) (arm_weight spec) (n + 1) (before + arm_weight spec arm) arms skip) met in
    let rest = made_lengths spec (n + 1) (before + arm_weight spec arm) arms skip (All-tail AppliesInside arm arms applied) next.1 in
    (All-cons (HasLengths spec) arm arms (lengths_of spec before arm.pattern (All-head AppliesInside arm arms applied) (forms_met spec before arm.pattern [] next.0)) rest.0, rest.1)

-- ---- statements

module _ (d : Described) (whole : IsWhole d) where
  with_lengths : (arms : List Arm) → All (HasLengths d.spec) arms → All NamesItsNames arms → All (IsMatchableArm d.spec) arms
  with_lengths arms lengths named = all_matchable d.spec whole.sound.spec whole.read.readings whole.read.once arms lengths named

  arms_matchable : (written : ArmsTree) (skip : Option (List ℕ)) → written_unmet d.spec d.declared written skip ≡ None
      → All (IsMatchableArm d.spec) (arms_of d.spec d.declared written) × (skip_unmet skip ≡ None)
  arms_matchable arms.All skip met =
      let both = made_lengths d.spec 1 0 (all_arms d.spec) skip (all_applied d.spec) met in
      (with_lengths (all_arms d.spec) both.0 (all_named actions_name_their_names d.spec), both.1)
  arms_matchable (arms.Listed trees) skip met =
      let both = listed_lengths d.spec d.declared whole.sound 1 0 trees skip met in
      (with_lengths (map (arm_of d.spec d.declared) trees) both.0 (listed_named d.spec d.declared whole.sound trees), both.1)

  pub stated_matchable : (tree : MatchTree) → statement_unmet d.spec d.declared tree ≡ None → IsMatchable d.spec (statement_of d.spec d.declared tree)
  stated_matchable tree met =
      let both = arms_matchable tree.arms tree.skip met in
      record {
        readable = record { is_spec = whole.sound.spec; constructors = whole.read.readings.constructors; short = whole.read.readings.short };
        arms = both.0;
        skip = skip_within tree.skip both.1;
      }
