-- What holds of the names that declarations write holds of those that are declared, and of the constructors'.
use Rattle.std.proofs.Common.{◌≡◌, ℕ, zero, suc, ◌+◌, Bool, true, false, cond, List, [], ◌∷◌, ◌++◌, map, drop, All, Option, Some, None, refl, sym, ap, subst}
use Rattle.std.specs.Prelude.{IfSome, fold, is_some}
use Rattle.std.specs.Option.{option_map_or}
use Rattle.std.proofs.lemmas.List.{map-append}
use Rattle.std.proofs.lemmas.List.Elements.{All-nil, All-cons, All-head, All-tail, All-append, All-push}
use Rattle.sled_parser.specs.declared.tree.Decl.{Decl}
use Rattle.sled_parser.specs.declared.tree.Decl.TheVariants as decl
use Rattle.sled_parser.specs.declared.tree.FieldTree.{FieldTree}
use Rattle.sled_parser.specs.declared.tree.ItemTree.{ItemTree}
use Rattle.sled_parser.specs.declared.tree.ItemTree.TheVariants as item
use Rattle.sled_model.specs.declared.constructor.Constructor.{Constructor}
use Rattle.sled_model.specs.declared.pattern.Pattern.{Pattern}
use Rattle.sled_model.specs.declared.spec.Spec.{Spec}
use Rattle.sled_model.specs.Specs.{constructor_names_of}
use Rattle.tree_meaning.specs.declared.scope.Meaning.{Meaning}
use Rattle.tree_meaning.specs.declared.scope.Meaning.TheVariants as meaning
use Rattle.tree_meaning.specs.Names.{position_of}
use Rattle.tree_meaning.specs.Patterns.{patterns_of}
use Rattle.tree_meaning.specs.Scopes.{Declared, meaning_of, type_named}
use Rattle.constructor_scopes.specs.Makings.{Made, names_behind, one_for_each, makings_by, makings}
use Rattle.constructor_scopes.proofs.TypedLemmas.{map-map}
use Rattle.constructor_meaning.specs.Constructing.{Constructing}
use Rattle.constructor_building.specs.Building.{constructor_of, constructors_of, new_type, naming_new_type, with_new_type}
use Rattle.sled_elab.specs.Declarations.{Described, nothing, definition_names, field_name, item_names, members, with_class_alone, with_field, with_member, with_name, with_patterns, with_built, constructor_tree}
use Rattle.sled_elab.specs.Elaboration.{after}
use Rattle.sled_elab.proofs.DefinitionLemmas.{member_names}
use Rattle.acceptance_laws.proofs.Words.{HasNames}

module _ (P : List ℕ → Type 0) where
  pub record NamesHold (d : Described) : Type 0 where
    pub declared : All P d.declared.names
    pub constructors : All P (constructor_names_of d.spec)

  -- ---- classes

  fields_hold : (c : ℕ) (d : Described) (fs : List FieldTree) → All P (map field_name fs) → NamesHold d → NamesHold (fold (with_field c) d fs)
  fields_hold c d [] named h = h
  fields_hold c d (f ∷ fs) named h =
      let rest = map field_name fs in
      fields_hold c (with_field c d f) fs (All-tail P f.name rest named)
      (record { declared = All-push P d.declared.names f.name h.declared (All-head P f.name rest named); constructors = h.constructors })

  class_holds : (d : Described) (name width : List ℕ) (little : Bool) (fs : List FieldTree) (c : ℕ) → All P (name ∷ map field_name fs) → NamesHold d
      → NamesHold (fold (with_field c) (with_class_alone d name width little) fs)
  class_holds d name width little fs c named h =
      let rest = map field_name fs in
      fields_hold c (with_class_alone d name width little) fs (All-tail P name rest named)
      (record { declared = All-push P d.declared.names name h.declared (All-head P name rest named); constructors = h.constructors })

  -- ---- patterns and groups

  members_hold : (declared : Declared) (ms : List (List ℕ × Pattern)) → All P (member_names ms) → All P declared.names → All P (fold with_member declared ms).names
  members_hold declared [] named h = h
  members_hold declared (m ∷ ms) named h =
      members_hold (with_member declared m) ms (All-tail P m.0 (member_names ms) named) (All-push P declared.names m.0 h (All-head P m.0 (member_names ms) named))

  -- the members' names are among those in the list
  members_named : (items : List ItemTree) (ps : List Pattern) → All P (item_names items) → All P (member_names (members items ps))
  members_named [] ps h = All-nil P
  members_named (x ∷ items) [] h = All-nil P
  members_named (item.Name n ∷ items) (p ∷ ps) h =
      All-cons P n (member_names (members items ps)) (All-head P n (item_names items) h) (members_named items ps (All-tail P n (item_names items) h))
  members_named (item.Skip ∷ items) (p ∷ ps) h = members_named items ps h

  patterns_hold : (declared : Declared) (name : List ℕ) (items : Option (List ItemTree)) (ps : List Pattern) → All P (definition_names name items) → All P declared.names
      → All P (with_patterns declared name items ps).names
  patterns_hold declared name None ps named h = All-push P declared.names name h (All-head P name [] named)
  patterns_hold declared name (Some items) ps named h =
      let ms = members items ps in
      members_hold (with_name declared name (meaning.Group (map (λ m. m.1) ms))) ms (members_named items ps (All-tail P name (item_names items) named))
      (All-push P declared.names name h (All-head P name (item_names items) named))

  -- ---- constructors

  dropped : (k : ℕ) (xs : List (List ℕ)) → All P xs → All P (drop k xs)
  dropped zero xs h = h
  dropped (suc k) [] h = All-nil P
  dropped (suc k) (x ∷ xs) h = dropped k xs (All-tail P x xs h)

  abbrev made_name : Made → List ℕ
  made_name m = m.name

  each_named : (ns : List (List ℕ)) (ps : List Pattern) → All P ns → All P (map made_name (one_for_each ns ps))
  each_named [] ps h = All-nil P
  each_named (n ∷ ns) [] h = All-nil P
  each_named (n ∷ ns) (p ∷ ps) h = All-cons P n (map made_name (one_for_each ns ps)) (All-head P n ns h) (each_named ns ps (All-tail P n ns h))

  behind_named : (declared : Declared) (o : Option ℕ) → All P declared.names → All P (option_map_or (λ k. drop (k + 1) declared.names) o [])
  behind_named declared None h = All-nil P
  behind_named declared (Some k) h = dropped (k + 1) declared.names h

  alone : (n : List ℕ) → P n → All P (n ∷ [])
  alone n h = All-cons P n [] h (All-nil P)

  makings_named : (declared : Declared) (opcode : List ℕ) (m : Option Meaning) → P opcode → All P declared.names → All P (map made_name (makings_by declared opcode m))
  makings_named declared opcode None here h = alone opcode here
  makings_named declared opcode (Some (meaning.Group ps)) here h = each_named (names_behind declared opcode) ps (behind_named declared (position_of declared.names opcode) h)
  makings_named declared opcode (Some _) here h = alone opcode here

  type_holds : (spec : Spec) (declared : Declared) (o : Option (List ℕ)) → IfSome o P → All P declared.names → All P (naming_new_type spec declared o).names
  type_holds spec declared None here h = h
  type_holds spec declared (Some t) here h = All-push P declared.names t h here

  type_named_so : (declared : Declared) (makes : Option (List ℕ)) → IfSome makes P → IfSome (new_type declared makes) P
  type_named_so declared None h = tt
  type_named_so declared (Some t) h = by_test (is_some (type_named declared t)) where
    by_test : (b : Bool) → IfSome (cond b None (Some t)) P
    by_test true = tt
    by_test false = h

  with_type_same : (spec : Spec) (o : Option (List ℕ)) → (with_new_type spec o).constructors ≡ spec.constructors
  with_type_same spec None = refl
  with_type_same spec (Some t) = refl

  pub made_named : (d : Described) (c : Constructing) → P c.opcode → All P d.declared.names → All P (map (λ (k : Constructor). k.name) (constructors_of d.spec d.declared c))
  made_named d c here h =
      subst (All P) (sym (map-map (λ (k : Constructor). k.name) (constructor_of d.spec d.declared c) (makings d.declared c.opcode)))
      (makings_named d.declared c.opcode (meaning_of d.declared c.opcode) here h)

  built_holds : (d : Described) (c : Constructing) → P c.opcode → IfSome c.result P → NamesHold d → NamesHold (with_built d c)
  built_holds d c here result h =
      let name = λ (k : Constructor). k.name in
      let cs = constructors_of d.spec d.declared c in
      record {
        declared = type_holds d.spec d.declared (new_type d.declared c.result) (type_named_so d.declared c.result result) h.declared;
        constructors =
            subst (All P) (ap (λ (ks : List Constructor). map name (ks ++ cs)) (sym (with_type_same d.spec (new_type d.declared c.result))))
            (subst (All P) (sym (map-append name d.spec.constructors cs)) (All-append P (map name d.spec.constructors) (map name cs) h.constructors (made_named d c here h.declared)));
      }

  -- ---- all declarations

  pub names_after : (d : Described) (x : Decl) → HasNames P x → NamesHold d → NamesHold (after d x)
  names_after d (decl.Class name width little fields) named h = class_holds d name width little fields _ named h
  names_after d (decl.Heading section) named h = h
  names_after d (decl.Definition name items tree) named h =
      record { declared = patterns_hold d.declared name items (patterns_of d.declared [] tree) named h.declared; constructors = h.constructors }
  names_after d (decl.ConstructorDecl opcode operands makes equations body) named h =
      built_holds d (constructor_tree opcode operands makes equations body) named.0 named.1 h

  pub no_names : NamesHold nothing
  no_names = record { declared = All-nil P; constructors = All-nil P }
