-- What declarations make that lack nothing is sound and can be read.
use Rattle.std.proofs.Common.{◌≡◌, ℕ, ◌≤◌, ◌^◌, List, [], ◌∷◌, length, All, Option, Some, None, refl, subst, arith}
use Rattle.std.specs.Prelude.{fold}
use Rattle.std.proofs.lemmas.List.{length-map}
use Rattle.std.proofs.lemmas.List.Elements.{All-head, All-tail}
use Rattle.sled_parser.specs.declared.tree.Decl.{Decl}
use Rattle.sled_parser.specs.declared.tree.Decl.TheVariants as decl
use Rattle.sled_parser.specs.Declarations.{IsDescription}
use Rattle.sled_parser.specs.Pieces.{Piece, Input}
use Rattle.sled_elab.specs.Conditions.{IsDescriptionLack, IsFirstLackFrom, IsFirstOr, IsLackOf, next_number}
use Rattle.sled_elab.specs.Declarations.{Described, nothing, constructor_tree}
use Rattle.sled_elab.specs.Descriptions.{HasNumbersInRange, HasPlainNames, IsReadOnce, IsSound}
use Rattle.sled_elab.specs.Elaboration.{after, described}
use Rattle.sled_elab.proofs.PlainNames.{plain_after, nothing_plain}
use Rattle.sled_elab.proofs.Readings.{accepted, read_after, nothing_read}
use Rattle.acceptance_laws.specs.Laws.{IsWhole}
use Rattle.acceptance_laws.proofs.Counting.{IsAmong}
use Rattle.acceptance_laws.proofs.Named.{NamesHold, made_named, names_after, no_names}
use Rattle.acceptance_laws.proofs.Sound.{class_sound, pattern_sound, built_sound, nothing_sound}
use Rattle.acceptance_laws.proofs.Words.{HasNames, words_of, description_named}

-- where none lacks anything, the next lacks nothing, and none behind it
none_first : (n : ℕ) (lack : Option ℕ) (later : Type 0) → IsFirstOr n lack None later → (lack ≡ None) × later
none_first n None later h = (refl, h)
none_first n (Some l) later h = cc

module _ (words : List (List ℕ)) (few : length words ≤ 2 ^ 32) where
  -- what is carried from declaration to declaration
  record IsSoFar (d : Described) : Type 0 where
    pub sound : IsSound d
    pub plain : HasPlainNames d.declared
    pub read : IsReadOnce d.spec
    pub named : NamesHold (IsAmong words) d

  sound_after : (d : Described) (x : Decl) → HasNumbersInRange x → HasNames (IsAmong words) x → IsLackOf d x None → IsSoFar d → IsSound (after d x)
  sound_after d (decl.Class name width little fields) numbers names lack h = class_sound d h.sound name width little fields lack
  sound_after d (decl.Heading section) numbers names lack h = h.sound
  sound_after d (decl.Definition name items tree) numbers names lack h = pattern_sound d h.sound name items tree lack
  sound_after d (decl.ConstructorDecl opcode operands makes equations body) numbers names lack h =
      let c = constructor_tree opcode operands makes equations body in
      built_sound words few d h.sound c (accepted d c numbers.1 lack).met h.named.constructors (made_named (IsAmong words) d c names.0 h.named.declared)

  so_far_after : (d : Described) (x : Decl) → HasNumbersInRange x → HasNames (IsAmong words) x → IsLackOf d x None → IsSoFar d → IsSoFar (after d x)
  so_far_after d x numbers names lack h = record {
    sound = sound_after d x numbers names lack h;
    plain = plain_after d x h.sound h.plain lack;
    read = read_after d x numbers h.sound h.plain h.read lack;
    named = names_after (IsAmong words) d x names h.named;
  }

  all_so_far : (n : ℕ) (d : Described) (xs : List Decl) → All HasNumbersInRange xs → All (HasNames (IsAmong words)) xs → IsFirstLackFrom n d xs None → IsSoFar d → IsSoFar (fold after d xs)
  all_so_far n d [] numbers names lacks h = h
  all_so_far n d (x ∷ xs) numbers names lacks h =
      let next = none_first n lacks.0 (IsFirstLackFrom (next_number n x) (after d x) xs None) lacks.2 in
      all_so_far (next_number n x) (after d x) xs (All-tail HasNumbersInRange x xs numbers) (All-tail (HasNames (IsAmong words)) x xs names) next.1
      (so_far_after d x (All-head HasNumbersInRange x xs numbers) (All-head (HasNames (IsAmong words)) x xs names) (subst (IsLackOf d x) next.0 lacks.1) h)

  none_so_far : IsSoFar nothing
  none_so_far = record { sound = nothing_sound; plain = nothing_plain; read = nothing_read; named = no_names (IsAmong words) }

pub accepted_sound : (input : Input) (decls : List Decl) → length input ≤ 2 ^ 32 → IsDescription input decls → All HasNumbersInRange decls → IsDescriptionLack decls None → IsWhole (described decls)
accepted_sound input decls short is numbers lacks =
    let words = words_of input in
    let few : length words ≤ 2 ^ 32 = omega (arith, length-map input (λ (p : Piece). p.text), short) in
    let all = all_so_far words few 1 nothing decls numbers (description_named input decls is) lacks (none_so_far words few) in
    record { sound = all.sound; read = all.read }
