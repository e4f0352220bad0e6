-- The constructors, one after the other.
use Rattle.std.proofs.Common.{◌≡◌, ℕ, zero, suc, ◌+◌, ◌<◌, min, List, [], ◌∷◌, ◌++◌, length, map, take, get_or, Bor, Option, refl, sym, ap, ◌∙◌, add-one, arith}
use Rattle.std.proofs.lemmas.List.{length-map, get_or-map}
use Rattle.sled_model.specs.declared.constructor.Constructor.{Constructor}
use Rattle.sled_model.specs.declared.constructor.TypeId.{TypeId}
use Rattle.sled_model.specs.declared.pattern.Pattern.{Pattern}
use Rattle.tree_meaning.specs.Scopes.{Declared}
use Rattle.sled_model.specs.declared.spec.Spec.{Spec}
use Rattle.tree_meaning.specs.Parts.{labels}
use Rattle.constructor_scopes.specs.Bodies.{body_of}
use Rattle.constructor_scopes.specs.Makings.{Made, makings}
use Rattle.constructor_scopes.specs.Names.{made_names}
use Rattle.constructor_meaning.specs.Conditions.{body_scope, bodies}
use Rattle.constructor_meaning.specs.Constructing.{Constructing}
use Rattle.constructor_building.specs.Building.{constructor_with, each_with, result_type, constructors_of}

module _ (declared : Declared) (c : Constructing) (result : Option TypeId) where
  each_next : (ns : List (List ℕ)) (ps : List Pattern) (i : ℕ) (n : List ℕ) (p : Pattern) → i < length ns → i < length ps → n ≡ get_or ns i n → p ≡ get_or ps i p
      → each_with declared c result (take (suc i) ns) (take (suc i) ps) ≡ each_with declared c result (take i ns) (take i ps) ++ constructor_with declared c result n p ∷ []
  each_next [] ps i n p h k is at = absurd (omega arith)
  each_next (m ∷ ns) [] i n p h k is at = absurd (omega arith)
  each_next (m ∷ ns) (q ∷ ps) zero n p h k is at =
      ap (λ x. constructor_with declared c result x q ∷ []) (sym is) ∙ ap (λ x. constructor_with declared c result n x ∷ []) (sym at)
  each_next (m ∷ ns) (q ∷ ps) (suc i) n p h k is at = ap (λ ks. constructor_with declared c result m q ∷ ks) (each_next ns ps i n p (omega arith) (omega arith) is at)

  each_more : (ns : List (List ℕ)) (ps : List Pattern) (i : ℕ) (n : List ℕ) (p : Pattern) → i < length ns → i < length ps → n ≡ get_or ns i n → p ≡ get_or ps i p
      → each_with declared c result (take (i + 1) ns) (take (i + 1) ps) ≡ each_with declared c result (take i ns) (take i ps) ++ constructor_with declared c result n p ∷ []
  each_more ns ps i n p h k is at = rw (add-one) (each_next ns ps i n p h k is at)

  -- one more, where the names stand behind references
  pub each_step : (xs : List (Bor (List ℕ))) (ps : List Pattern) (i : ℕ) (d : Bor (List ℕ)) (p : Pattern) → i < length xs → i < length ps → p ≡ get_or ps i p
      → each_with declared c result (take (i + 1) (map (λ x. x.now) xs)) (take (i + 1) ps)
      ≡ each_with declared c result (take i (map (λ x. x.now) xs)) (take i ps) ++ constructor_with declared c result (get_or xs i d).now p ∷ []
  each_step xs ps i d p h k at =
      let n : List ℕ = (get_or xs i d).now in
      let within : i < length (map (λ (x : Bor (List ℕ)). x.now) xs) = rw length-map h in
      each_more (map (λ x. x.now) xs) ps i n p within k (sym (get_or-map (λ (x : Bor (List ℕ)). x.now) xs i d n h)) at

  -- and there are as many as there are names and bodies
  pub each_all : (n : ℕ) (ns : List (List ℕ)) (ps : List Pattern) → n ≡ min (length ns) (length ps) → each_with declared c result (take n ns) (take n ps) ≡ each_with declared c result ns ps
  each_all n [] ps h = none n where
    none : (n : ℕ) → each_with declared c result (take n []) (take n ps) ≡ each_with declared c result [] ps
    none zero = refl
    none (suc n) = refl
  each_all zero (m ∷ ns) [] h = refl
  each_all (suc n) (m ∷ ns) [] h = absurd (omega arith)
  each_all zero (m ∷ ns) (q ∷ ps) h = absurd (omega arith)
  each_all (suc n) (m ∷ ns) (q ∷ ps) h = ap (λ ks. constructor_with declared c result m q ∷ ks) (each_all n ns ps (omega arith))

  -- names and bodies that come from the same constructors
  pub each_made : (body : Made → Pattern) (ms : List Made) → each_with declared c result (map (λ (m : Made). m.name) ms) (map body ms) ≡ map (λ (m : Made). constructor_with declared c result m.name (body m)) ms
  each_made body [] = refl
  each_made body (m ∷ ms) = ap (λ ks. constructor_with declared c result m.name (body m) ∷ ks) (each_made body ms)

-- those that were made of what was read are those of the declaration
pub made_are : (spec : Spec) (declared : Declared) (c : Constructing) (made : List Constructor) (r : Option TypeId) (names : List (List ℕ)) (ps : List Pattern) (ms : List Made)
    → made ≡ each_with declared c r names ps → r ≡ result_type spec declared c.result → names ≡ made_names ms → ps ≡ bodies declared c → ms ≡ makings declared c.opcode
    → made ≡ constructors_of spec declared c
made_are spec declared c made r names ps ms is result named read are =
    let type = result_type spec declared c.result in let all = makings declared c.opcode in
    is ∙ ap (λ x. each_with declared c x names ps) result ∙ ap (λ ns. each_with declared c type ns ps) (named ∙ ap made_names are)
    ∙ ap (each_with declared c type (made_names all)) read ∙ each_made declared c type (body_of (body_scope declared c) c.opcode (labels c.body) c.body) all
