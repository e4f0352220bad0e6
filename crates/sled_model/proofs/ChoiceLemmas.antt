-- The results of operands and of applications, from the results of bodies.
use Rattle.std.proofs.Common.{◌≡◌, ℕ, ◌+◌, ◌<◌, ◌≤◌, Bool, cond, List, [], ◌∷◌, ◌++◌, length, map, filter, slice_get, get_or, drop, Option, Some, None, refl, sym, ap, ◌∙◌, arith}
use Rattle.std.specs.Option.{option_map}
use Rattle.std.proofs.lemmas.List.{drop_more, drop_all, length-map}
use Rattle.std.proofs.lemmas.Option.{get_or_from_slice_get, slice_get_within}
use Rattle.token_bits.specs.declared.tokens.Tokens.{Tokens}
use Rattle.sled_model.specs.declared.constructor.TypeId.{TypeId}
use Rattle.sled_model.specs.declared.constructor.Constructor.{Constructor}
use Rattle.sled_model.specs.declared.raw.RawEntry.{RawEntry}
use Rattle.sled_model.specs.declared.raw.Match.{Match}
use Rattle.sled_model.specs.declared.pattern.Argument.{Argument}
use Rattle.sled_model.specs.Results.{Known, results_from, makes, choice_match, choices_from, application_results, known_from}
use Rattle.sled_model.specs.Admitted.{list_admits, applied}
use Rattle.sled_model.proofs.ContextLemmas.{known_at, known_constructors}

pub drop_from : {A : Type 0} (xs : List A) (k : ℕ) (x : A) → slice_get xs k ≡ Some x → drop k xs ≡ x ∷ drop (k + 1) xs
drop_from xs k x e = drop_more xs k x (slice_get_within xs k x e) ∙ ap (λ y. y ∷ drop (k + 1) xs) (get_or_from_slice_get xs k x x e)

-- the choices of constructor number k
abbrev pub choices_at : List Known → ℕ → TypeId → Option TypeId → List ℕ → ℕ → List Match
choices_at known k t made bytes i = cond (makes t made) (map (choice_match k []) (results_from (slice_get known k) (λ c. c.body bytes i))) []

module _ (known : List Known) (t : TypeId) (bytes : List ℕ) (i : ℕ) where
  step_of : (k : ℕ) (made : Option TypeId) (c : Option Known) → slice_get known k ≡ c → option_map (λ (k : Known). k.constructor.result) c ≡ Some made
      → choices_from k (drop k known) t bytes i ≡ choices_at known k t made bytes i ++ choices_from (k + 1) (drop (k + 1) known) t bytes i
  step_of k made None e f = cc
  step_of k made (Some c) e f =
      let same : c.constructor.result ≡ made = cc in
      ap (λ ks. choices_from k ks t bytes i) (drop_from known k c e)
      ∙ ap (λ m. cond (makes t m) (map (choice_match k []) (c.body bytes i)) [] ++ choices_from (k + 1) (drop (k + 1) known) t bytes i) same
      ∙ ap (λ o. cond (makes t made) (map (choice_match k []) (results_from o (λ c. c.body bytes i))) [] ++ choices_from (k + 1) (drop (k + 1) known) t bytes i) (sym e)

known_result : (c : Option Known) (k : Constructor) → option_map (λ (d : Known). d.constructor) c ≡ Some k → option_map (λ (d : Known). d.constructor.result) c ≡ Some k.result
known_result None k e = cc
known_result (Some c) k e = let same : c.constructor ≡ k = cc in ap (λ (d : Constructor). Some d.result) same

pub choices_step : (tokens : Tokens) (cs : List Constructor) (t : TypeId) (bytes : List ℕ) (i k : ℕ) (c : Constructor) → slice_get cs k ≡ Some c
    → (let known = known_from tokens [] cs in choices_from k (drop k known) t bytes i ≡ choices_at known k t c.result bytes i ++ choices_from (k + 1) (drop (k + 1) known) t bytes i)
choices_step tokens cs t bytes i k c e =
    let known = known_from tokens [] cs in
    step_of known t bytes i k c.result (slice_get known k) refl (known_result (slice_get known k) c (known_at tokens cs k ∙ e))

pub known_length : (tokens : Tokens) (cs : List Constructor) → length (known_from tokens [] cs) ≡ length cs
known_length tokens cs = sym (length-map (known_from tokens [] cs) (λ (k : Known). k.constructor)) ∙ ap length (known_constructors tokens [] cs)

pub choices_end : (tokens : Tokens) (cs : List Constructor) (t : TypeId) (bytes : List ℕ) (i k : ℕ) → length cs ≤ k → choices_from k (drop k (known_from tokens [] cs)) t bytes i ≡ []
choices_end tokens cs t bytes i k h =
    let long = known_length tokens cs in
    ap (λ ks. choices_from k ks t bytes i) (drop_all k (known_from tokens [] cs) (omega arith))

-- ---- applications

pub mapped_results : (o : Option Known) (g : Known → List Match) (f : Match → Match) (p : Match → Bool) → map f (filter p (results_from o g)) ≡ results_from o (λ c. map f (filter p (g c)))
mapped_results None g f p = refl
mapped_results (Some c) g f p = refl

module _ (known : List Known) (k : ℕ) (arguments : List Argument) (bytes : List ℕ) (i : ℕ) where
  pub applied_none : (o : Option Known) → slice_get known k ≡ o → option_map (λ (d : Known). d.constructor) o ≡ None → [] ≡ applied known k arguments bytes i
  applied_none None e f = sym (ap (λ o. results_from o (λ c. map (choice_match k arguments) (filter (λ a. list_admits known c.constructor a.binds 0 arguments) (c.body bytes i)))) e)
  applied_none (Some c) e f = cc

  pub applied_some : (o : Option Known) (d : Constructor) → slice_get known k ≡ o → option_map (λ (c : Known). c.constructor) o ≡ Some d
      → applied known k arguments bytes i ≡ application_results known k arguments (λ inner. list_admits known d inner 0 arguments) bytes i
  applied_some None d e f = cc
  applied_some (Some c) d e f =
      let same : c.constructor ≡ d = cc in
      ap (λ o. results_from o (λ c. map (choice_match k arguments) (filter (λ a. list_admits known c.constructor a.binds 0 arguments) (c.body bytes i)))) e
      ∙ ap (λ d. map (choice_match k arguments) (filter (λ a. list_admits known d a.binds 0 arguments) (c.body bytes i))) same
      ∙ ap (λ o. results_from o (λ c. map (choice_match k arguments) (filter (λ a. list_admits known d a.binds 0 arguments) (c.body bytes i)))) (sym e)
