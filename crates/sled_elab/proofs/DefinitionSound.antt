-- A description stays sound where a definition that lacks nothing is added.
use Rattle.std.proofs.Common.{◌≡◌, ℕ, ◌<◌, true, false, List, [], ◌∷◌, length, map, All, Some, None, refl, sym, ap, subst, ◌∙◌, arith}
use Rattle.std.specs.Prelude.{Option, IfSome, not, ◌&&◌, nat_eq, fold}
use Rattle.std.proofs.lemmas.List.{length-map}
use Rattle.std.proofs.lemmas.List.Elements.{All-nil, All-cons, All-head, All-tail, All-append, All-map, All-weaker}
use Rattle.sled_parser.specs.declared.tree.ItemTree.{ItemTree}
use Rattle.sled_parser.specs.declared.tree.ItemTree.TheVariants as item
use Rattle.sled_parser.specs.declared.tree.PatternTree.{PatternTree}
use Rattle.token_bits.specs.declared.tokens.Tokens.{Tokens}
use Rattle.sled_model.specs.declared.pattern.Pattern.{Pattern}
use Rattle.sled_model.specs.Leaves.{AllLeaves, NamesNoConstructor}
use Rattle.tree_meaning.specs.declared.parts.Site.TheVariants as site
use Rattle.tree_meaning.specs.declared.scope.Meaning.{Meaning}
use Rattle.tree_meaning.specs.declared.scope.Meaning.TheVariants as meaning
use Rattle.tree_meaning.specs.Bindings.{are_none}
use Rattle.tree_meaning.specs.Names.{is_among}
use Rattle.tree_meaning.specs.Parts.{are_known, numbers_fit}
use Rattle.tree_meaning.specs.Scopes.{Declared}
use Rattle.tree_meaning.specs.Patterns.{patterns_of}
use Rattle.tree_meaning.specs.Sound.{IsSoundPattern, IsSoundMeaning}
use Rattle.tree_meaning.proofs.Soundness.{patterns_sound, sound_plain}
use Rattle.sled_elab.specs.Declarations.{Described, item_names, member, members, definition_names, first_of, labels_are_new, with_name, with_member, with_patterns, with_definition}
use Rattle.sled_elab.specs.Conditions.{are_declared_once, choices_are_listed, naming_conditions}
use Rattle.constructor_meaning.specs.Unmet.{first_unmet}
use Rattle.sled_elab.specs.Descriptions.{IsSound}
use Rattle.constructor_meaning.specs.Sound.{NamesKnownType}
use Rattle.sled_elab.proofs.DescriptionLemmas.{no_locals, within_more, name_sound}
use Rattle.sled_elab.proofs.DefinitionLemmas.{both_of, all_met, first_fresh, others_once, member_names, names_of_members, as_many}

module _ (P : Pattern → Type 0) where
  member_all : (x : ItemTree) (p : Pattern) → P p → All (λ m. P m.1) (member x p)
  member_all (item.Name n) p h = All-cons (λ m. P m.1) (n, p) [] h (All-nil (λ m. P m.1))
  member_all item.Skip p h = All-nil (λ m. P m.1)

  -- the members are among the patterns
  pub members_all : (items : List ItemTree) (ps : List Pattern) → All P ps → All (λ m. P m.1) (members items ps)
  members_all [] ps h = All-nil (λ m. P m.1)
  members_all (x ∷ items) [] h = All-nil (λ m. P m.1)
  members_all (x ∷ items) (p ∷ ps) h =
      All-append (λ m. P m.1) (member x p) (members items ps) (member_all x p (All-head P p ps h)) (members_all items ps (All-tail P p ps h))

first_sound : (tokens : Tokens) (ps : List Pattern) → All (IsSoundPattern tokens) ps → IsSoundPattern tokens (first_of ps)
first_sound tokens [] h = record { plain = tt; known = tt; limit = tt }
first_sound tokens (p ∷ ps) h = All-head (IsSoundPattern tokens) p ps h

some_member : (names : List (List ℕ)) → not (are_none names) ≡ true → 0 < length names
some_member [] h = cc
some_member (n ∷ ns) h = omega arith

-- one name more, for something sound
meant_sound : (d : Described) (s : IsSound d) (name : List ℕ) (m : Meaning) → is_among d.declared.names name ≡ false → NamesKnownType d.spec m → IsSoundMeaning d.spec.tokens m
    → IsSound (record { spec = d.spec; declared = with_name d.declared name m })
meant_sound d s name m new type sound = name_sound d s name new d.spec m s.spec (within_more d s name new) s.types type s.sound sound

members_sound : (d : Described) (s : IsSound d) (ms : List (List ℕ × Pattern)) → are_declared_once d.declared (member_names ms) ≡ true
    → All (λ m. IsSoundPattern d.spec.tokens m.1) ms → IsSound (record { spec = d.spec; declared = fold with_member d.declared ms })
members_sound d s [] once h = s
members_sound d s (m ∷ ms) once h =
    let P = λ (x : List ℕ × Pattern). IsSoundPattern d.spec.tokens x.1 in
    let more : Described = record { spec = d.spec; declared = with_member d.declared m } in
    members_sound more (meant_sound d s m.0 (meaning.Pattern m.1) (first_fresh d.declared.names m.0 (member_names ms) once) tt (All-head P m ms h)) ms
    (others_once d.declared.names m.0 (member_names ms) once) (All-tail P m ms h)

module _ (d : Described) (s : IsSound d) (name : List ℕ) (ps : List Pattern) (sound : All (IsSoundPattern d.spec.tokens) ps) where
  group_sound : (items : List ItemTree) → are_declared_once d.declared (name ∷ item_names items) ≡ true → not (are_none (item_names items)) ≡ true → length items ≡ length ps
      → IsSound (record { spec = d.spec; declared = with_patterns d.declared name (Some items) ps })
  group_sound items once named whole =
      let P = IsSoundPattern d.spec.tokens in
      let ms = members items ps in
      let group = map (λ (m : List ℕ × Pattern). m.1) ms in
      let names = names_of_members items ps whole in
      let all = members_all P items ps sound in
      let count : length group ≡ length (item_names items) = length-map ms (λ m. m.1) ∙ sym (length-map ms (λ m. m.0)) ∙ ap length names in
      let some : 0 < length group = subst (λ n. 0 < n) (sym count) (some_member (item_names items) named) in
      let base : Described = record { spec = d.spec; declared = with_name d.declared name (meaning.Group group) } in
      members_sound base (meant_sound d s name (meaning.Group group) (first_fresh d.declared.names name (item_names items) once) tt (some, All-map P (λ m. m.1) ms all)) ms
      (subst (λ ns. are_declared_once base.declared ns ≡ true) (sym names) (others_once d.declared.names name (item_names items) once)) all

  -- the patterns, or the group of them
  made_sound : (items : Option (List ItemTree)) (tree : PatternTree) → ps ≡ patterns_of d.declared [] tree → are_declared_once d.declared (definition_names name items) ≡ true
      → choices_are_listed d.declared items tree ≡ true → IsSound (record { spec = d.spec; declared = with_patterns d.declared name items ps })
  made_sound None tree are once listed =
      meant_sound d s name (meaning.Pattern (first_of ps)) (first_fresh d.declared.names name [] once) tt (first_sound d.spec.tokens ps sound)
  made_sound (Some items) tree are once listed =
      let parts = both_of (not (are_none (item_names items))) (nat_eq (length items) (length (patterns_of d.declared [] tree))) listed in
      group_sound items once parts.0 (as_many items (patterns_of d.declared [] tree) parts.1 ∙ ap length (sym are))

module _ (d : Described) (s : IsSound d) (name : List ℕ) (items : Option (List ItemTree)) (tree : PatternTree)
    (met : first_unmet (naming_conditions d name items tree) ≡ None) where
  pub definition_sound : IsSound (with_definition d name items tree)
  definition_sound =
      let once = are_declared_once d.declared (definition_names name items) in
      let labels = labels_are_new d.declared tree in
      let known = are_known site.Definition d.declared tree in
      let fit = numbers_fit d.spec.tokens d.declared tree in
      let each = all_met (once && labels) known fit (choices_are_listed d.declared items tree) met in
      made_sound d s name (patterns_of d.declared [] tree) (patterns_sound d.spec.tokens d.declared s.sound (no_locals d s) site.Definition [] tree each.1.0 each.1.1.0)
      items tree refl (both_of once labels each.0).0 each.1.1.1

-- the patterns that a definition stands for name no constructor
pub definition_plain : (d : Described) (s : IsSound d) (name : List ℕ) (items : Option (List ItemTree)) (tree : PatternTree) (unmet : Option ℕ) (names : List (List ℕ)) (ps : List Pattern)
    → unmet ≡ first_unmet (naming_conditions d name items tree) → unmet ≡ None → ps ≡ patterns_of d.declared names tree → All (AllLeaves NamesNoConstructor) ps
definition_plain d s name items tree unmet names ps is none are =
    let once = are_declared_once d.declared (definition_names name items) && labels_are_new d.declared tree in
    let each = all_met once (are_known site.Definition d.declared tree) (numbers_fit d.spec.tokens d.declared tree) (choices_are_listed d.declared items tree) (sym is ∙ none) in
    subst (All (AllLeaves NamesNoConstructor)) (sym are)
    (All-weaker (IsSoundPattern d.spec.tokens) (AllLeaves NamesNoConstructor) (sound_plain d.spec.tokens) (patterns_of d.declared names tree)
    (patterns_sound d.spec.tokens d.declared s.sound (no_locals d s) site.Definition names tree each.1.0 each.1.1.0))

-- a group has a place for each of its patterns
pub definition_whole : (d : Described) (name : List ℕ) (items : Option (List ItemTree)) (tree : PatternTree) (unmet : Option ℕ) (names : List (List ℕ)) (ps : List Pattern)
    → unmet ≡ first_unmet (naming_conditions d name items tree) → unmet ≡ None → names ≡ [] → ps ≡ patterns_of d.declared names tree → IfSome items (λ listed. length listed ≡ length ps)
definition_whole d name None tree unmet names ps is none empty are = tt
definition_whole d name (Some items) tree unmet names ps is none empty are =
    let once = are_declared_once d.declared (definition_names name (Some items)) && labels_are_new d.declared tree in
    let all = patterns_of d.declared [] tree in
    let each = all_met once (are_known site.Definition d.declared tree) (numbers_fit d.spec.tokens d.declared tree) (choices_are_listed d.declared (Some items) tree) (sym is ∙ none) in
    as_many items all (both_of (not (are_none (item_names items))) (nat_eq (length items) (length all)) each.1.1.1).1 ∙ ap length (sym (are ∙ ap (λ ns. patterns_of d.declared ns tree) empty))

-- what was added to a description that met the conditions
pub added_sound : (d : Described) (s : IsSound d) (name : List ℕ) (items : Option (List ItemTree)) (tree : PatternTree) (unmet : Option ℕ) (names : List (List ℕ)) (ps : List Pattern) (declared : Declared)
    → unmet ≡ first_unmet (naming_conditions d name items tree) → unmet ≡ None → names ≡ [] → ps ≡ patterns_of d.declared names tree → declared ≡ with_patterns d.declared name items ps
    → IsSound (record { spec = d.spec; declared = declared })
added_sound d s name items tree unmet names ps declared is none empty are made =
    let same : declared ≡ with_patterns d.declared name items (patterns_of d.declared [] tree) =
    made ∙ ap (with_patterns d.declared name items) (are ∙ ap (λ ns. patterns_of d.declared ns tree) empty) in
    subst (λ (x : Declared). IsSound (record { spec = d.spec; declared = x })) (sym same) (definition_sound d s name items tree (sym is ∙ none))
