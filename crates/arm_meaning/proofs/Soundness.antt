-- The leaves of an arm's pattern.
use Rattle.std.proofs.Common.{◌≡◌, ℕ, Bool, true, false, List, [], ◌∷◌, map, All, Option, Some, None, slice_get, ◌++◌, refl, sym, ◌∙◌, subst}
use Rattle.std.specs.Prelude.{option_map, option_and_then, unwrap_or}
use Rattle.std.specs.List.{list_all}
use Rattle.std.specs.Option.{option_map_or}
use Rattle.std.proofs.lemmas.List.Elements.{All-nil, All-cons, All-head}
use Rattle.sled_parser.specs.declared.tree.ArgumentTree.{ArgumentTree, Row_of-ArgumentTree, end_of-ArgumentTree, more_of-ArgumentTree}
use Rattle.sled_parser.specs.declared.tree.ArgumentTree.TheVariants.{Any, Name, Inner'}
use Rattle.sled_parser.specs.declared.tree.PatternTree.{PatternTree, Row_of-PatternTree, end_of-PatternTree, more_of-PatternTree}
use Rattle.sled_parser.specs.declared.tree.PatternTree.TheVariants.{Either', Chain', Both', Labelled', Loose', Group', Empty, Word, Limit, Apply}
use Rattle.sled_model.specs.declared.constructor.Constructor.{Constructor}
use Rattle.sled_model.specs.declared.constructor.ConstructorId.{ConstructorId}
use Rattle.sled_model.specs.declared.constructor.OperandKind.{OperandKind}
use Rattle.sled_model.specs.declared.constructor.TypeId.{TypeId}
use Rattle.sled_model.specs.declared.pattern.Argument.{Argument}
use Rattle.sled_model.specs.declared.pattern.Argument.TheBlock.{hidden-the_row-Pattern-0, hidden-the_row-Argument-2}
use Rattle.sled_model.specs.declared.pattern.Argument.TheVariants as argument
use Rattle.sled_model.specs.declared.pattern.Pattern.{Pattern, Row_of-Argument, end_of-Argument, more_of-Argument, items-the_row-Argument, items_hidden-the_row-Argument-2}
use Rattle.sled_model.specs.declared.pattern.Pattern.TheVariants as pattern
use denote.Hole.Carrier.{hidden}
use Rattle.sled_model.specs.declared.spec.Spec.{Spec}
use Rattle.sled_model.specs.Kinds.{is_of, type_in, kinds_of}
use Rattle.sled_model.specs.Leaves.{AllLeaves}
use Rattle.sled_model.proofs.LeafLemmas.{AllLeaves-weaker}
use Rattle.sled_model.proofs.MeasureLaws.{AllLeaves-to_Both, AllLeaves-to_Either, AllLeaves-to_Chain, AllLeaves-to_Loose, AllLeaves-to_Label}
use Rattle.tree_meaning.specs.declared.parts.Site.TheVariants as site
use Rattle.tree_meaning.specs.Parts.{parts, row_parts, part_fits, numbers_fit, are_known}
use Rattle.tree_meaning.specs.Patterns.{patterns_of, label_number}
use Rattle.tree_meaning.specs.Scopes.{Declared}
use Rattle.tree_meaning.specs.Sound.{IsSoundMeaning, IsSoundLeaf}
use Rattle.tree_meaning.proofs.Soundness.{and_split, patterns_sound}
use Rattle.std.proofs.lemmas.List.Folds.{list_all-append}
use Rattle.arm_meaning.specs.Applications.{number_called, constructor_called, kinds_called, argument_fits, row_fits, arguments_fit, application_fits, constructor_or_first, argument_of, row_arguments, application_of}
use Rattle.arm_meaning.specs.Patterns.{is_known_in_arm, are_known_in_arm, first_pattern, arm_pattern, row_patterns}
use Rattle.arm_meaning.specs.Sound.{IsArgumentFor, AppliesType, RowIsFor, AppliesKnown, IsArmLeaf, PatternsAreSound}

-- ---- applications

abbrev kinds_in : Constructor → List OperandKind
kinds_in c = c.operands

-- a constructor that was found by its name is that of its number
called_is : (cs : List Constructor) (f : Constructor → Bool) (o : Option ℕ) → option_map_or f (option_and_then (slice_get cs) o) false ≡ true
    → option_and_then (slice_get cs) o ≡ slice_get cs (unwrap_or o 0)
called_is cs f None h = cc
called_is cs f (Some k) h = refl

kinds_are : (cs : List Constructor) (f : List OperandKind → Bool) (o : Option ℕ) → option_map_or f (option_map kinds_in (option_and_then (slice_get cs) o)) false ≡ true
    → option_map kinds_in (option_and_then (slice_get cs) o) ≡ option_map kinds_in (slice_get cs (unwrap_or o 0))
kinds_are cs f None h = cc
kinds_are cs f (Some k) h = refl

module _ (spec : Spec) where
  -- one argument for each kind, in a list
  abbrev AreFor : Option (List OperandKind) → List Argument → Type 0
  AreFor None arguments = ⊥
  AreFor (Some []) [] = Unit {0}
  AreFor (Some []) (a ∷ arguments) = ⊥
  AreFor (Some (kind ∷ kinds)) [] = ⊥
  AreFor (Some (kind ∷ kinds)) (a ∷ arguments) = IsArgumentFor spec kind a × AreFor (Some kinds) arguments

  row_from : {n : _} (known : Option (List OperandKind)) (row : Row_of-Argument n) → AreFor known (items-the_row-Argument _ row) → RowIsFor spec known row
  row_from None row h = absurd h
  row_from (Some []) end_of-Argument h = tt
  row_from (Some []) (more_of-Argument a row) h = absurd h
  row_from (Some (kind ∷ kinds)) end_of-Argument h = absurd h
  row_from (Some (kind ∷ kinds)) (more_of-Argument a row) h = (h.0, row_from (Some kinds) row h.1)

  to_row : (known : Option (List OperandKind)) (arguments : List Argument) → AreFor known arguments → RowIsFor spec known (hidden-the_row-Argument-2 arguments)
  to_row known arguments h = row_from known (hidden-the_row-Argument-2 arguments) (subst (AreFor known) (sym (items_hidden-the_row-Argument-2 arguments)) h)

  to_Inner : (kind : OperandKind) (p : Pattern) → AppliesType spec (type_in kind) p → IsArgumentFor spec kind (argument.Inner p)
  unfolding hidden-the_row-Pattern-0 hidden
  to_Inner kind p h = h

  to_Apply : (t : Option TypeId) (k : ConstructorId) (arguments : List Argument) → option_map_or (is_of t) (slice_get spec.constructors k.0) false ≡ true
      → AreFor (kinds_of spec k) arguments → AppliesType spec t (pattern.Apply k arguments)
  to_Apply t k arguments made h = (made, to_row (kinds_of spec k) arguments h)

  module _ (names : List (List ℕ)) where
    mutual
      is_for : (kind : OperandKind) (a : ArgumentTree) → argument_fits spec kind a ≡ true → IsArgumentFor spec kind (argument_of spec names a)
      is_for kind Any h = tt
      is_for kind (Name w) h = tt
      is_for kind (Inner' name s arguments) h =
          let t = type_in kind in let k = constructor_or_first spec name in let made = row_arguments spec names arguments in
          let both = and_split (option_map_or (is_of t) (constructor_called spec name) false) (row_fits spec (kinds_called spec name) arguments) h in
          let e = called_is spec.constructors (is_of t) (number_called spec name) both.0 in
          to_Inner kind (pattern.Apply k made) (to_Apply t k made
          (subst (λ (o : Option Constructor). option_map_or (is_of t) o false ≡ true) e both.0)
          (subst (λ (o : Option Constructor). AreFor (option_map kinds_in o) made) e (rows_for (kinds_called spec name) arguments both.1)))

      rows_for : {n : _} (known : Option (List OperandKind)) (arguments : Row_of-ArgumentTree n) → row_fits spec known arguments ≡ true → AreFor known (row_arguments spec names arguments)
      rows_for None arguments h = cc
      rows_for (Some []) end_of-ArgumentTree h = tt
      rows_for (Some []) (more_of-ArgumentTree a arguments) h = cc
      rows_for (Some (kind ∷ kinds)) end_of-ArgumentTree h = cc
      rows_for (Some (kind ∷ kinds)) (more_of-ArgumentTree a arguments) h =
          let both = and_split (argument_fits spec kind a) (row_fits spec (Some kinds) arguments) h in
          (is_for kind a both.0, rows_for (Some kinds) arguments both.1)

    list_for : (kinds : List OperandKind) (arguments : List ArgumentTree) → arguments_fit spec kinds arguments ≡ true → AreFor (Some kinds) (map (argument_of spec names) arguments)
    list_for [] [] h = tt
    list_for [] (a ∷ arguments) h = cc
    list_for (kind ∷ kinds) [] h = cc
    list_for (kind ∷ kinds) (a ∷ arguments) h =
        let both = and_split (argument_fits spec kind a) (arguments_fit spec kinds arguments) h in
        (is_for kind a both.0, list_for kinds arguments both.1)

    known_for : (known : Option (List OperandKind)) (arguments : List ArgumentTree) → option_map_or (λ kinds. arguments_fit spec kinds arguments) known false ≡ true
        → AreFor known (map (argument_of spec names) arguments)
    known_for None arguments h = cc
    known_for (Some kinds) arguments h = list_for kinds arguments h

    application_for : (name : List ℕ) (arguments : List ArgumentTree) → application_fits spec name arguments ≡ true → AppliesKnown spec (application_of spec names name arguments)
    application_for name arguments h =
        let k = constructor_or_first spec name in let made = map (argument_of spec names) arguments in
        let e = kinds_are spec.constructors (λ kinds. arguments_fit spec kinds arguments) (number_called spec name) h in
        to_row (kinds_of spec k) made (subst (λ (known : Option (List OperandKind)). AreFor known made) e (known_for (kinds_called spec name) arguments h))

  -- ---- leaves

  -- a sound pattern of a description may stand in an arm
  arm_leaf : (p : Pattern) → IsSoundLeaf spec.tokens p → IsArmLeaf spec p
  arm_leaf (pattern.Token c) h = record { known = h.known; limit = tt; applies = tt }
  arm_leaf (pattern.Limit f r l) h = record { known = h.known; limit = h.limit; applies = tt }
  arm_leaf (pattern.Bind f) h = record { known = h.known; limit = tt; applies = tt }
  arm_leaf (pattern.Operand k) h = absurd h.plain
  arm_leaf (pattern.Label' l s p) h = record { known = tt; limit = tt; applies = tt }
  arm_leaf (pattern.Both' s ps) h = record { known = tt; limit = tt; applies = tt }
  arm_leaf (pattern.Either' s ps) h = record { known = tt; limit = tt; applies = tt }
  arm_leaf (pattern.Chain' s ps) h = record { known = tt; limit = tt; applies = tt }
  arm_leaf (pattern.Loose' s p) h = record { known = tt; limit = tt; applies = tt }
  arm_leaf (pattern.Apply' k s arguments) h = absurd h.plain
  arm_leaf pattern.Empty h = record { known = tt; limit = tt; applies = tt }

  module _ (L : Pattern → Type 0) (empty : L pattern.Empty) where
    first_sound : (ps : List Pattern) → All (AllLeaves L) ps → AllLeaves L (first_pattern ps)
    first_sound [] h = empty
    first_sound (p ∷ ps) h = All-head (AllLeaves L) p ps h

  abbrev Leaf : Pattern → Type 0
  Leaf p = IsArmLeaf spec p

  module _ (declared : Declared) (names : List (List ℕ)) (sound : All (IsSoundMeaning spec.tokens) declared.meanings)
      (local : All (IsSoundMeaning spec.tokens) declared.local_meanings) where
    -- a tree that holds no other, and is no application
    plain_sound : (t : PatternTree) → are_known site.Arm declared t ≡ true → numbers_fit spec.tokens declared t ≡ true → AllLeaves Leaf (first_pattern (patterns_of declared names t))
    plain_sound t known fit =
        AllLeaves-weaker (IsSoundLeaf spec.tokens) Leaf arm_leaf (first_pattern (patterns_of declared names t))
        (first_sound (IsSoundLeaf spec.tokens) (record { plain = tt; known = tt; limit = tt }) (patterns_of declared names t)
        (patterns_sound spec.tokens declared sound local site.Arm names t known fit))

    empty_leaf : Leaf pattern.Empty
    empty_leaf = record { known = tt; limit = tt; applies = tt }

    split_all : {A : Type 0} (p : A → Bool) (xs ys : List A) → list_all p (xs ++ ys) ≡ true → (list_all p xs ≡ true) × (list_all p ys ≡ true)
    split_all p xs ys h = and_split (list_all p xs) (list_all p ys) (sym (list_all-append p xs ys) ∙ h)

    mutual
      tree_sound : (t : PatternTree) → are_known_in_arm spec declared t ≡ true → numbers_fit spec.tokens declared t ≡ true → AllLeaves Leaf (arm_pattern spec declared names t)
      tree_sound (Either' s ts) known fit = AllLeaves-to_Either Leaf (row_patterns spec declared names ts) (rows_sound ts known fit)
      tree_sound (Chain' s ts) known fit = AllLeaves-to_Chain Leaf (row_patterns spec declared names ts) (rows_sound ts known fit)
      tree_sound (Both' s ts) known fit = AllLeaves-to_Both Leaf (row_patterns spec declared names ts) (rows_sound ts known fit)
      tree_sound (Labelled' l s t) known fit =
          let inner = row_patterns spec declared names t in
          AllLeaves-to_Label Leaf (label_number names l) (first_pattern inner) (first_sound Leaf empty_leaf inner (rows_sound t known fit))
      tree_sound (Loose' s t) known fit =
          let inner = row_patterns spec declared names t in
          AllLeaves-to_Loose Leaf (first_pattern inner) (first_sound Leaf empty_leaf inner (rows_sound t known fit))
      tree_sound (Group' s t) known fit = first_sound Leaf empty_leaf (row_patterns spec declared names t) (rows_sound t known fit)
      tree_sound Empty known fit = plain_sound Empty known fit
      tree_sound (Word w) known fit = plain_sound (Word w) known fit
      tree_sound (Limit f r v) known fit = plain_sound (Limit f r v) known fit
      tree_sound (Apply name arguments) known fit =
          let fits = and_split (application_fits spec name arguments) true known in
          record { known = tt; limit = tt; applies = application_for names name arguments fits.0 }

      rows_sound : {n : _} (ts : Row_of-PatternTree n) → list_all (is_known_in_arm spec declared) (row_parts ts) ≡ true
          → list_all (part_fits spec.tokens declared) (row_parts ts) ≡ true → All (AllLeaves Leaf) (row_patterns spec declared names ts)
      rows_sound end_of-PatternTree known fit = All-nil (AllLeaves Leaf)
      rows_sound (more_of-PatternTree t ts) known fit =
          let k = split_all (is_known_in_arm spec declared) (parts t) (row_parts ts) known in
          let f = split_all (part_fits spec.tokens declared) (parts t) (row_parts ts) fit in
          All-cons (AllLeaves Leaf) (arm_pattern spec declared names t) (row_patterns spec declared names ts) (tree_sound t k.0 f.0) (rows_sound ts k.1 f.1)

pub patterns_are_sound : PatternsAreSound
patterns_are_sound spec declared names tree sound none known fit =
    tree_sound spec declared names sound (subst (All (IsSoundMeaning spec.tokens)) (sym none) (All-nil (IsSoundMeaning spec.tokens))) tree known fit
