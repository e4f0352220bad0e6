-- What stands for bodies stands, as choices, for operands and applications.
use Rattle.std.proofs.Common.{◌≡◌, ◌⊎◌, inl, inr, ℕ, ◌+◌, ◌≤◌, max, Bool, true, false, cond, List, [], ◌∷◌, ◌++◌, length, map, filter, take, get_or, slice_get, ◌<◌, Option, Some, None, refl, sym, ap, subst, ◌∙◌, All, arith}
use Rattle.std.specs.Option.{option_map_or}
use Rattle.std.specs.Prelude.{unwrap_or, option_and_then}
use Rattle.std.proofs.lemmas.Bool.{cases_Bool}
use Rattle.std.proofs.lemmas.List.{length-map, append-nil}
use Rattle.std.proofs.lemmas.List.Elements.{All-map, All-cons, All-head, All-tail}
use Rattle.token_bits.specs.declared.tokens.Tokens.{Tokens}
use Rattle.sled_model.specs.declared.raw.Match.{Match}
use Rattle.sled_model.specs.declared.constructor.TypeId.{TypeId}
use Rattle.sled_model.specs.declared.constructor.ConstructorId.{ConstructorId}
use Rattle.sled_model.specs.declared.constructor.OperandKind.{OperandKind}
use Rattle.sled_model.specs.declared.constructor.OperandKind.TheVariants.{Plain, Extended, Typed, Whole, Sliced}
use Rattle.sled_model.specs.declared.constructor.Constructor.{Constructor}
use Rattle.sled_model.specs.declared.pattern.Argument.{Argument}
use Rattle.sled_model.specs.declared.pattern.Pattern.{Pattern}
use Rattle.sled_model.specs.declared.pattern.Pattern.TheVariants.{Operand, Apply}
use Rattle.sled_model.specs.Results.{Meaning, results, results_from, kind_results, operand_results, choices_from, choice_match, makes, known_from}
use Rattle.sled_model.specs.Admitted.{list_admits, applied}
use Rattle.sled_model.specs.Measures.{Weighed, Measured, measured, kind_weight, operand_weight, kind_len, operand_len, type_weight, type_len, application_weight, application_len}
use Rattle.sled_model.proofs.Filters.{keeps, drops, filter-map}
use Rattle.sled_model.proofs.AdmittedLaws.{results-Apply}
use Rattle.pattern_normal.specs.declared.alternative.Alternative.{Alternative}
use Rattle.pattern_normal.specs.Surroundings.{Surroundings, inside, open_weighed, open_weights, lens_of, known_of, context_of}
use Rattle.pattern_normal.specs.Alternatives.{is_met, seen, shown, ended, IsBetween, StandFor, StandForPattern, choice_alternative, is_admitted}
use Rattle.pattern_normal.proofs.SkeletonLaws.{read_choice}
use Rattle.pattern_normal.proofs.Admitting.{list_same}
use Rattle.pattern_normal.proofs.Standing.{stand_as, stand_none, stand_either}
use Rattle.pattern_normal.proofs.Constructors.{each_at, each_past, known_at_number, known_past, choices_more, weights_more, lens_more}

-- ---- choices

module _ (tokens : Tokens) (window : List ℕ) where
  seen_choice : (k : ℕ) (arguments : List Argument) (a : Alternative) → seen tokens window (choice_alternative k arguments a) ≡ choice_match k arguments (seen tokens window a)
  seen_choice k arguments a =
      ap (λ e. let r : Match = record { binds = e ∷ []; len = a.bits.len; loose = a.loose } in r) (read_choice tokens window (record { 0 = k }) a.spots arguments)

  shown_choice : (k : ℕ) (arguments : List Argument) (cs : List Alternative) → shown tokens window (map (choice_alternative k arguments) cs) ≡ map (choice_match k arguments) (shown tokens window cs)
  shown_choice k arguments [] = refl
  shown_choice k arguments (c ∷ cs) =
      let before = map (choice_alternative k arguments) cs in
      elim (is_met window c) as (λ b. map (seen tokens window) (cond b (choice_alternative k arguments c ∷ filter (is_met window) before) (filter (is_met window) before))
      ≡ map (choice_match k arguments) (map (seen tokens window) (cond b (c ∷ filter (is_met window) cs) (filter (is_met window) cs)))) [
        | true ↦ ap (λ z. z ∷ map (seen tokens window) (filter (is_met window) before)) (seen_choice k arguments c)
            ∙ ap (λ z. choice_match k arguments (seen tokens window c) ∷ z) (shown_choice k arguments cs)
        | false ↦ shown_choice k arguments cs
      ]

choice_ended : (k : ℕ) (arguments : List Argument) (at : ℕ) (xs : List Match) → map (choice_match k arguments) (map (ended at) xs) ≡ map (ended at) (map (choice_match k arguments) xs)
choice_ended k arguments at [] = refl
choice_ended k arguments at (x ∷ xs) = ap (λ z. ended at (choice_match k arguments x) ∷ z) (choice_ended k arguments at xs)

abbrev pub choice_meaning : ℕ → List Argument → Meaning → Meaning
choice_meaning k arguments m window i = map (choice_match k arguments) (m window i)

pub stand_choice : (tokens : Tokens) (at : ℕ) (m : Meaning) (w l : ℕ) (cs : List Alternative) → StandFor tokens m w l at cs → (k : ℕ) (arguments : List Argument)
    → StandFor tokens (choice_meaning k arguments m) w l at (map (choice_alternative k arguments) cs)
stand_choice tokens at m w l cs s k arguments = record {
  covers = λ fits window bytes reaches. shown_choice tokens window k arguments cs ∙ ap (map (choice_match k arguments)) (s.covers fits window bytes reaches) ∙ choice_ended k arguments at (m window at);
  ends = All-map (IsBetween at (at + l)) (choice_alternative k arguments) cs s.ends;
  count = rw (length-map cs (choice_alternative k arguments)) s.count;
}

-- ---- a test of what is bound

module _ (tokens : Tokens) (window : List ℕ) (p : Alternative → Bool) (q : Match → Bool) (same : (a : Alternative) → q (seen tokens window a) ≡ p a) where
  shown_filter : (cs : List Alternative) → shown tokens window (filter p cs) ≡ filter q (shown tokens window cs)
  shown_filter [] = refl
  shown_filter (c ∷ cs) = by_tests (cases_Bool (p c)) (cases_Bool (is_met window c)) (shown_filter cs)
    where
      by_tests : (p c ≡ true) ⊎ (p c ≡ false) → (is_met window c ≡ true) ⊎ (is_met window c ≡ false) → shown tokens window (filter p cs) ≡ filter q (shown tokens window cs)
          → shown tokens window (filter p (c ∷ cs)) ≡ filter q (shown tokens window (c ∷ cs))
      by_tests (inl e) (inl d) ih =
          ap (shown tokens window) (keeps p c cs e) ∙ ap (map (seen tokens window)) (keeps (is_met window) c (filter p cs) d) ∙ ap (λ z. seen tokens window c ∷ z) ih
          ∙ sym (ap (λ z. filter q (map (seen tokens window) z)) (keeps (is_met window) c cs d) ∙ keeps q (seen tokens window c) (shown tokens window cs) (same c ∙ e))
      by_tests (inl e) (inr d) ih =
          ap (shown tokens window) (keeps p c cs e) ∙ ap (map (seen tokens window)) (drops (is_met window) c (filter p cs) d) ∙ ih
          ∙ sym (ap (λ z. filter q (map (seen tokens window) z)) (drops (is_met window) c cs d))
      by_tests (inr e) (inl d) ih =
          ap (shown tokens window) (drops p c cs e) ∙ ih
          ∙ sym (ap (λ z. filter q (map (seen tokens window) z)) (keeps (is_met window) c cs d) ∙ drops q (seen tokens window c) (shown tokens window cs) (same c ∙ e))
      by_tests (inr e) (inr d) ih =
          ap (shown tokens window) (drops p c cs e) ∙ ih ∙ sym (ap (λ z. filter q (map (seen tokens window) z)) (drops (is_met window) c cs d))

filter_fewer : {X : Type 0} (p : X → Bool) (xs : List X) → length (filter p xs) ≤ length xs
filter_fewer p [] = omega arith
filter_fewer p (x ∷ xs) =
    let ih = filter_fewer p xs in
    elim (p x) as (λ b. length (cond b (x ∷ filter p xs) (filter p xs)) ≤ length (x ∷ xs)) [ true ↦ omega (arith, ih) | false ↦ omega (arith, ih) ]

filter_All : {X : Type 0} (P : X → Type 0) (p : X → Bool) (xs : List X) → All P xs → All P (filter p xs)
filter_All P p [] h = h
filter_All P p (x ∷ xs) h =
    let ih = filter_All P p xs (All-tail P x xs h) in
    elim (p x) as (λ b. All P (cond b (x ∷ filter p xs) (filter p xs))) [ true ↦ All-cons P x (filter p xs) (All-head P x xs h) ih | false ↦ ih ]

-- ---- applications

module _ (near : Surroundings) (c : Constructor) (arguments : List Argument) where
  abbrev admits : Match → Bool
  admits a = list_admits (known_of near) c a.binds 0 arguments

  admitted_seen : (window : List ℕ) (a : Alternative) → admits (seen near.tokens window a) ≡ is_admitted near c arguments a
  admitted_seen window a = list_same near.tokens window [] (known_of near) c a.spots 0 arguments

  pub stand_admitted : (at : ℕ) (m : Meaning) (w l : ℕ) (cs : List Alternative) → StandFor near.tokens m w l at cs
      → StandFor near.tokens (λ window i. filter admits (m window i)) w l at (filter (is_admitted near c arguments) cs)
  stand_admitted at m w l cs s = record {
    covers = λ fits window bytes reaches.
        shown_filter near.tokens window (is_admitted near c arguments) admits (admitted_seen window) cs ∙ ap (filter admits) (s.covers fits window bytes reaches)
        ∙ filter-map admits admits (ended at) (λ a. refl) (m window at);
    ends = filter_All (IsBetween at (at + l)) (is_admitted near c arguments) cs s.ends;
    count = let f = filter_fewer (is_admitted near c arguments) cs in omega (arith, f, s.count);
  }

pub applied_weight : (known : List Weighed) (k : ℕ) (ws : List (Option ℕ)) (x : Weighed) → slice_get known k ≡ Some x
    → application_weight known k ws ≡ x.body (λ j. unwrap_or (option_and_then (λ a. a) (slice_get ws j)) (operand_weight known x.constructor.operands j))
applied_weight known k ws x e =
    ap (λ o. option_map_or (λ (c : Weighed). c.body (λ j. unwrap_or (option_and_then (λ a. a) (slice_get ws j)) (operand_weight known c.constructor.operands j))) o 0) e

pub unapplied_weight : (known : List Weighed) (k : ℕ) (ws : List (Option ℕ)) → slice_get known k ≡ None → application_weight known k ws ≡ 0
unapplied_weight known k ws e =
    ap (λ o. option_map_or (λ (c : Weighed). c.body (λ j. unwrap_or (option_and_then (λ a. a) (slice_get ws j)) (operand_weight known c.constructor.operands j))) o 0) e

-- an application has its constructor's weight, whatever it asks
open_application : (tokens : Tokens) (cs : List Constructor) (k : ℕ) (vs ws : List (Option ℕ)) (o : Option Constructor) → slice_get cs k ≡ o
    → application_weight (open_weights tokens cs) k vs ≡ application_weight (open_weights tokens cs) k ws
open_application tokens cs k vs ws None e =
    let past = each_past (open_weighed tokens) cs k e in unapplied_weight (open_weights tokens cs) k vs past ∙ sym (unapplied_weight (open_weights tokens cs) k ws past)
open_application tokens cs k vs ws (Some c) e =
    let at = each_at (open_weighed tokens) cs k c e in applied_weight (open_weights tokens cs) k vs _ at ∙ sym (applied_weight (open_weights tokens cs) k ws _ at)

module _ (near : Surroundings) (at : ℕ) (p : Pattern) where
  pub of_apply : (k : ConstructorId) (arguments qs : List Argument) (cs : List Alternative) → p ≡ Apply k arguments → qs ≡ arguments
      → StandFor near.tokens (applied (known_of near) k.0 qs) (application_weight (open_weights near.tokens near.constructors) k.0 []) (application_len (lens_of near.tokens near.constructors) k.0) at cs
      → StandForPattern near p at cs
  of_apply k arguments qs cs e f s =
      subst (λ z. StandForPattern near z at cs) (sym e)
      (stand_as near.tokens _ _ _ _ _ _ at cs (λ w i. ap (λ zs. applied (known_of near) k.0 zs w i) f ∙ sym (results-Apply (context_of near) k arguments w i))
      (open_application near.tokens near.constructors k.0 [] _ (slice_get near.constructors k.0) refl) refl s)

  pub of_operand : (k : ℕ) (cs : List Alternative) → p ≡ Operand k
      → StandFor near.tokens (operand_results (context_of near) k) (operand_weight (open_weights near.tokens near.constructors) near.kinds k) (operand_len (lens_of near.tokens near.constructors) near.kinds k) at cs
      → StandForPattern near p at cs
  of_operand k cs e s = subst (λ z. StandForPattern near z at cs) (sym e) s

module _ (near : Surroundings) (at : ℕ) (k : ℕ) (arguments : List Argument) where
  abbrev IsApplied : List Alternative → Type 0
  IsApplied cs = StandFor near.tokens (applied (known_of near) k arguments) (application_weight (open_weights near.tokens near.constructors) k []) (application_len (lens_of near.tokens near.constructors) k) at cs

  pub applied_none : slice_get near.constructors k ≡ None → IsApplied []
  applied_none e = stand_none near.tokens _ _ _ at (λ w i.
      ap (λ o. results_from o (λ c. map (choice_match k arguments) (filter (λ a. list_admits (known_of near) c.constructor a.binds 0 arguments) (c.body w i)))) (known_past near.tokens near.constructors k e))

  pub applied_some : (c : Constructor) (bodies : List Alternative) → slice_get near.constructors k ≡ Some c → StandForPattern (inside near.tokens (take k near.constructors) c) c.body at bodies
      → IsApplied (map (choice_alternative k arguments) (filter (is_admitted near c arguments) bodies))
  applied_some c bodies e s =
      let T = near.tokens in let before = take k near.constructors in
      let body = results (context_of (inside T before c)) c.body in
      stand_as T _ _ _ _ _ _ at _
      (λ w i. sym (ap (λ o. results_from o (λ d. map (choice_match k arguments) (filter (λ a. list_admits (known_of near) d.constructor a.binds 0 arguments) (d.body w i)))) (known_at_number T near.constructors k c e)))
      (sym (applied_weight (open_weights T near.constructors) k [] _ (each_at (open_weighed T) near.constructors k c e)))
      (sym (ap (λ o. option_map_or (λ (d : Measured). d.len) o 0) (each_at (measured T) near.constructors k c e)))
      (stand_choice T at _ _ _ _ (stand_admitted near c arguments at body _ _ bodies s) k arguments)

-- ---- operands

module _ (near : Surroundings) (at : ℕ) (k : ℕ) where
  abbrev IsOperand : List Alternative → Type 0
  IsOperand cs = StandFor near.tokens (operand_results (context_of near) k) (operand_weight (open_weights near.tokens near.constructors) near.kinds k) (operand_len (lens_of near.tokens near.constructors) near.kinds k) at cs

  pub operand_typed : (t : TypeId) (cs : List Alternative) → slice_get near.kinds k ≡ Some (Typed t)
      → StandFor near.tokens (choices_from 0 (known_of near) t) (type_weight (open_weights near.tokens near.constructors) t) (type_len (lens_of near.tokens near.constructors) t) at cs → IsOperand cs
  operand_typed t cs e s = stand_as near.tokens _ _ _ _ _ _ at cs
      (λ w i. sym (ap (λ o. results_from o (λ kind. kind_results (known_of near) kind w i)) e))
      (sym (ap (λ o. option_map_or (kind_weight (open_weights near.tokens near.constructors)) o 0) e))
      (sym (ap (λ o. option_map_or (kind_len (lens_of near.tokens near.constructors)) o 0) e)) s

  no_kind : (o : Option OperandKind) → ((t : TypeId) → o ≡ Some (Typed t) → ⊥) → (w : List ℕ) (i : ℕ) → results_from o (λ kind. kind_results (known_of near) kind w i) ≡ []
  no_kind None h w i = refl
  no_kind (Some (Plain f)) h w i = refl
  no_kind (Some (Extended f)) h w i = refl
  no_kind (Some (Typed t)) h w i = absurd (h t refl)
  no_kind (Some Whole) h w i = refl
  no_kind (Some Sliced) h w i = refl

  pub operand_other : ((t : TypeId) → slice_get near.kinds k ≡ Some (Typed t) → ⊥) → IsOperand []
  operand_other h = stand_none near.tokens _ _ _ at (no_kind (slice_get near.kinds k) h)

-- ---- types

module _ (tokens : Tokens) (cs : List Constructor) (t : TypeId) (at : ℕ) where
  -- for the first so many constructors, as far as they make the type
  abbrev pub StandForType : ℕ → List Alternative → Type 0
  StandForType n alternatives =
      StandFor tokens (choices_from 0 (known_from tokens [] (take n cs)) t) (type_weight (open_weights tokens (take n cs)) t) (type_len (lens_of tokens (take n cs)) t) at alternatives

  module _ (k : ℕ) (c : Constructor) (alternatives : List Alternative) (l : k < length cs) (is : c ≡ get_or cs k c) (s : StandForType k alternatives) where
    pub type_other : makes t c.result ≡ false → StandForType (k + 1) alternatives
    type_other e =
        let v = type_weight (open_weights tokens (take k cs)) t in let n = type_len (lens_of tokens (take k cs)) t in
        let more : v ≡ v + 0 = omega arith in let same : n ≡ max n 0 = omega arith in
        stand_as tokens _ _ _ _ _ _ at alternatives
        (λ w i. sym (choices_more tokens cs k c t l is false e w i ∙ append-nil (choices_from 0 (known_from tokens [] (take k cs)) t w i)))
        (more ∙ sym (weights_more tokens cs k c t l is false e))
        (same ∙ sym (lens_more tokens cs k c t l is false e)) s

    pub type_made : (bodies : List Alternative) → makes t c.result ≡ true → StandForPattern (inside tokens (take k cs) c) c.body at bodies
        → StandForType (k + 1) (alternatives ++ map (choice_alternative k []) bodies)
    type_made bodies e b =
        stand_as tokens _ _ _ _ _ _ at (alternatives ++ map (choice_alternative k []) bodies)
        (λ w i. sym (choices_more tokens cs k c t l is true e w i))
        (sym (weights_more tokens cs k c t l is true e))
        (sym (lens_more tokens cs k c t l is true e))
        (stand_either tokens at _ _ _ _ _ _ alternatives (map (choice_alternative k []) bodies) s (stand_choice tokens at _ _ _ bodies b k []))
