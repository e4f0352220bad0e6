-- What the words of a constructor's body read.
use Rattle.std.proofs.Common.{◌≡◌, ◌⊎◌, inl, inr, ⊎_elim, ℕ, Bool, true, false, cond, List, [], ◌∷◌, ◌++◌, length, map, All, Option, Some, None, refl, sym, ap, ◌∙◌, subst}
use Rattle.std.specs.Prelude.{bytes_eq}
use Rattle.std.specs.Option.{option_map_or, option_or}
use Rattle.std.proofs.lemmas.List.Elements.{All-nil, All-cons, All-head, All-tail, All-push, All-same}
use Rattle.std.proofs.lemmas.Slice.Eq.{bytes_eq-Decides}
use Rattle.token_bits.specs.declared.tokens.Tokens.{Tokens}
use Rattle.sled_parser.specs.declared.tree.OperandTree.{OperandTree}
use Rattle.sled_model.specs.declared.pattern.Pattern.{Pattern}
use Rattle.sled_model.specs.declared.pattern.Pattern.TheVariants as pattern
use Rattle.sled_model.specs.SolvingOrder.{bare_fields}
use Rattle.tree_meaning.specs.declared.scope.Meaning.{Meaning}
use Rattle.tree_meaning.specs.declared.scope.Meaning.TheVariants as meaning
use Rattle.tree_meaning.specs.Names.{is_among}
use Rattle.tree_meaning.specs.Scopes.{Declared, meaning_among, meaning_of}
use Rattle.tree_meaning.specs.Bindings.{is_binding, word_binds}
use Rattle.tree_meaning.specs.Patterns.{meaning_pattern, word_pattern}
use Rattle.tree_meaning.specs.Sound.{IsSoundPattern, IsSoundMeaning}
use Rattle.tree_meaning.proofs.Soundness.{found_all, sound_plain}
use Rattle.constructor_scopes.specs.Bodies.{typed_operands, with_operands, with_member}
use Rattle.constructor_scopes.proofs.BodySound.{as_many_meanings, inner}
use Rattle.constructor_scopes.proofs.MemberLemmas.{among_more, not_among}
use Rattle.constructor_plans.specs.Named.{BindsNothing, PatternsBindNothing}
use Rattle.match_meaning.specs.Readable.{SidesReadNothing}
use Rattle.constructor_readings.proofs.Nothing.{ReadsNothing, nothing_sides, plain_operands, sides-Either}
use Rattle.constructor_readings.proofs.SolvedGrown.{all_by_both}
use Rattle.constructor_readings.proofs.TreeReadings.{reads-Either}

-- ---- what names stand for

-- the patterns that a name stands for read nothing
abbrev pub IsSilent : Meaning → Type 0
IsSilent (meaning.Pattern p) = ReadsNothing p
IsSilent (meaning.Group ps) = All ReadsNothing ps
IsSilent _ = Unit {0}

module _ (tokens : Tokens) where
  silent_pattern : (p : Pattern) → IsSoundPattern tokens p → bare_fields p ≡ [] → ReadsNothing p
  silent_pattern p sound bare = (bare, plain_operands p (sound_plain tokens p sound))

  silent_meaning : (m : Meaning) → IsSoundMeaning tokens m → BindsNothing m → IsSilent m
  silent_meaning (meaning.Class c) sound nothing = tt
  silent_meaning (meaning.Field f) sound nothing = tt
  silent_meaning (meaning.Pattern p) sound nothing = silent_pattern p sound nothing
  silent_meaning (meaning.Group ps) sound nothing = all_by_both (IsSoundPattern tokens) (λ p. bare_fields p ≡ []) ReadsNothing silent_pattern ps sound.1 nothing
  silent_meaning (meaning.Type t) sound nothing = tt
  silent_meaning (meaning.Operand k) sound nothing = tt

  pub silent_meanings : (ms : List Meaning) → All (IsSoundMeaning tokens) ms → All BindsNothing ms → All IsSilent ms
  silent_meanings ms sound nothing = all_by_both (IsSoundMeaning tokens) BindsNothing IsSilent silent_meaning ms sound nothing

-- ---- words

reads_case : (o : Option Meaning) → ((m : Meaning) → o ≡ Some m → IsSilent m) → option_map_or is_binding o false ≡ false → ReadsNothing (option_map_or meaning_pattern o pattern.Empty)
reads_case None silent unbound = (refl, refl)
reads_case (Some (meaning.Class c)) silent unbound = (refl, refl)
reads_case (Some (meaning.Field f)) silent unbound = cc
reads_case (Some (meaning.Pattern p)) silent unbound = silent (meaning.Pattern p) refl
reads_case (Some (meaning.Group ps)) silent unbound = reads-Either ps (silent (meaning.Group ps) refl)
reads_case (Some (meaning.Type t)) silent unbound = (refl, refl)
reads_case (Some (meaning.Operand k)) silent unbound = cc

sides_case : (o : Option Meaning) → ((m : Meaning) → o ≡ Some m → IsSilent m) → SidesReadNothing (option_map_or meaning_pattern o pattern.Empty)
sides_case None silent = tt
sides_case (Some (meaning.Class c)) silent = tt
sides_case (Some (meaning.Field f)) silent = tt
sides_case (Some (meaning.Pattern p)) silent = nothing_sides p (silent (meaning.Pattern p) refl)
sides_case (Some (meaning.Group ps)) silent = sides-Either ps (reads-Either ps (silent (meaning.Group ps) refl))
sides_case (Some (meaning.Type t)) silent = tt
sides_case (Some (meaning.Operand k)) silent = tt

-- in a scope whose patterns read nothing, a word that binds nothing reads nothing, and no side of a disjunction does
module _ (d : Declared) (silent : All IsSilent d.meanings) (local : All IsSilent d.local_meanings) where
  found : (w : List ℕ) (m : Meaning) → meaning_of d w ≡ Some m → IsSilent m
  found w m is = found_all IsSilent d silent local w m is

  pub word_reads : (w : List ℕ) → word_binds d w ≡ false → ReadsNothing (word_pattern d w)
  word_reads w unbound = reads_case (meaning_of d w) (found w) unbound

  pub word_sides : (w : List ℕ) → SidesReadNothing (word_pattern d w)
  word_sides w = sides_case (meaning_of d w) (found w)

operands_silent : (xs : List (List ℕ × ℕ)) → All IsSilent (map (λ x. meaning.Operand x.1) xs)
operands_silent [] = All-nil IsSilent
operands_silent (x ∷ xs) = All-cons IsSilent (meaning.Operand x.1) (map (λ (y : List ℕ × ℕ). meaning.Operand y.1) xs) tt (operands_silent xs)

-- the names of the operands do not stand for patterns
pub locals_silent : (declared : Declared) (os : List OperandTree) → All IsSilent (with_operands declared os).local_meanings
locals_silent declared os = operands_silent (typed_operands declared os)

-- ---- the scope of a member

or_none : (o : Option Meaning) → option_or o None ≡ o
or_none None = refl
or_none (Some m) = refl

module _ (scope : Declared) (many : length scope.local_names ≡ length scope.local_meanings) (opcode : List ℕ) (ps : List Pattern)
    (group : meaning_of scope opcode ≡ Some (meaning.Group ps)) (fresh : is_among scope.local_names opcode ≡ false) (p : Pattern) where
  abbrev inside : Declared
  inside = with_member scope opcode (Some p)

  -- in the scope of a member a name stands for the same, or is the group's and stands for the member
  pub member_meaning : (w : List ℕ) → (meaning_of inside w ≡ meaning_of scope w) ⊎ ((meaning_of inside w ≡ Some (meaning.Pattern p)) × (meaning_of scope w ≡ Some (meaning.Group ps)))
  member_meaning w = by_test (bytes_eq w opcode) refl where
    more : (t : Bool) → bytes_eq w opcode ≡ t
        → meaning_of inside w ≡ option_or (option_or (meaning_among scope.local_names scope.local_meanings w) (cond t (Some (meaning.Pattern p)) None)) (meaning_among scope.names scope.meanings w)
    more t is =
        ap (λ o. option_or o (meaning_among scope.names scope.meanings w))
        (among_more scope.local_names scope.local_meanings opcode (meaning.Pattern p) w many
        ∙ ap (λ b. option_or (meaning_among scope.local_names scope.local_meanings w) (cond b (Some (meaning.Pattern p)) None)) is)

    by_test : (t : Bool) → bytes_eq w opcode ≡ t → (meaning_of inside w ≡ meaning_of scope w) ⊎ ((meaning_of inside w ≡ Some (meaning.Pattern p)) × (meaning_of scope w ≡ Some (meaning.Group ps)))
    by_test false is = inl (more false is ∙ ap (λ o. option_or o (meaning_among scope.names scope.meanings w)) (or_none (meaning_among scope.local_names scope.local_meanings w)))
    by_test true is =
        let name : w ≡ opcode = (bytes_eq-Decides w opcode).0 is in
        let none : meaning_among scope.local_names scope.local_meanings w ≡ None =
        ap (meaning_among scope.local_names scope.local_meanings) name ∙ not_among scope.local_names scope.local_meanings opcode fresh in
        inr (more true is ∙ ap (λ o. option_or (option_or o (Some (meaning.Pattern p))) (meaning_among scope.names scope.meanings w)) none, ap (meaning_of scope) name ∙ group)

  -- there a name that binds nothing binds nothing either
  pub member_unbound : (w : List ℕ) → word_binds scope w ≡ false → word_binds inside w ≡ false
  member_unbound w unbound = ⊎_elim
      (λ same. ap (λ o. option_map_or is_binding o false) same ∙ unbound)
      (λ both. ap (λ o. option_map_or is_binding o false) both.0)
      (member_meaning w)

  -- and an operand's name stands for the operand
  pub member_operand : (w : List ℕ) (k : ℕ) → meaning_of scope w ≡ Some (meaning.Operand k) → meaning_of inside w ≡ Some (meaning.Operand k)
  member_operand w k is = ⊎_elim (λ same. same ∙ is) (λ both. let other = both.1 in cc) (member_meaning w)
