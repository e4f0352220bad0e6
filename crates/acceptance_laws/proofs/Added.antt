-- A description stays one with constructors that have names of their own among some words.
use Rattle.std.proofs.Common.{◌≡◌, ◌≢◌, ℕ, ◌<◌, ◌≤◌, ◌^◌, true, List, [], ◌∷◌, ◌++◌, length, map, All, refl, sym, subst, arith}
use Rattle.std.proofs.lemmas.List.{length-map, map-append}
use Rattle.std.proofs.lemmas.List.Elements.{All-cons, All-head, All-tail, All-push, All-weaker}
use Rattle.std.proofs.lemmas.List.Kept.{AllPairs-cons}
use Rattle.sled_model.specs.declared.constructor.Constructor.{Constructor}
use Rattle.sled_model.specs.declared.spec.Spec.{Spec}
use Rattle.sled_model.specs.Specs.{IsSpec, IsConstructorOf, IsNewConstructorName, constructor_names_of}
use Rattle.sled_model.proofs.SpecLemmas.{with_constructor}
use Rattle.constructor_scopes.specs.Names.{have_new_names}
use Rattle.constructor_building.specs.Building.{with_constructors}
use Rattle.constructor_building.proofs.AddedLemmas.{with_none, with_first, new_first, new_others}
use Rattle.acceptance_laws.proofs.Counting.{IsAmong, no_more}

module _ (words : List (List ℕ)) (few : length words ≤ 2 ^ 32) where
  abbrev name : Constructor → List ℕ
  name c = c.name

  -- there is a number for one constructor more
  number_left : (spec : Spec) (c : Constructor) → IsSpec spec → IsNewConstructorName spec c.name → All (IsAmong words) (constructor_names_of spec) → IsAmong words c.name
      → length spec.constructors < 2 ^ 32
  number_left spec c sound fresh named here =
      let names = constructor_names_of spec in
      let apart = All-weaker (λ (other : List ℕ). other ≢ c.name) (λ (other : List ℕ). c.name ≢ other) (λ other differ e. differ (sym e)) names fresh in
      let all = no_more (c.name ∷ names) words (AllPairs-cons (λ one other. one ≢ other) c.name names apart sound.different) (All-cons (IsAmong words) c.name names here named) in
      omega (arith, all, few, length-map spec.constructors name)

  pub all_added : (spec : Spec) (cs : List Constructor) → IsSpec spec → have_new_names spec (map name cs) ≡ true → All (IsConstructorOf spec.tokens (length spec.type_names)) cs
      → All (IsAmong words) (constructor_names_of spec) → All (IsAmong words) (map name cs) → IsSpec (with_constructors spec cs)
  all_added spec [] sound new known named more = subst IsSpec (sym (with_none spec)) sound
  all_added spec (c ∷ cs) sound new known named more =
      let K = IsConstructorOf spec.tokens (length spec.type_names) in
      let one = with_constructors spec (c ∷ []) in
      let fresh = new_first spec c (map name cs) new in
      let here = All-head (IsAmong words) c.name (map name cs) more in
      let is_one : IsSpec one =
      with_constructor spec c sound fresh (All-head K c cs known) (number_left spec c sound fresh named here) (spec.constructors ++ c ∷ []) (spec.constructor_names ++ c.name ∷ []) refl refl in
      let named_one : All (IsAmong words) (constructor_names_of one) =
      subst (All (IsAmong words)) (sym (map-append name spec.constructors (c ∷ []))) (All-push (IsAmong words) (constructor_names_of spec) c.name named here) in
      subst IsSpec (with_first spec c cs)
      (all_added one cs is_one (new_others spec c (map name cs) new) (All-tail K c cs known) named_one (All-tail (IsAmong words) c.name (map name cs) more))
