-- Scopes in which a group's name stands for one of its members.
use Rattle.std.proofs.Common.{◌≡◌, ℕ, suc, ◌+◌, Bool, true, false, cond, List, [], ◌∷◌, ◌++◌, length, slice_get, Option, Some, None, refl, sym, ap, ◌∙◌, arith}
use Rattle.std.specs.Prelude.{not, ◌&&◌, nat_lt, bytes_eq, is_some, option_and_then}
use Rattle.std.specs.List.{list_all, position_or_len}
use Rattle.std.specs.Option.{option_map_or, option_or}
use Rattle.std.proofs.lemmas.Slice.Eq.{bytes_eq-Decides}
use Rattle.sled_parser.specs.declared.tree.PatternTree.{PatternTree}
use Rattle.sled_parser.specs.declared.tree.PatternTree.TheVariants.{Word, Limit}
use Rattle.token_bits.specs.declared.tokens.Tokens.{Tokens}
use Rattle.sled_model.specs.declared.pattern.Pattern.{Pattern}
use Rattle.tree_meaning.specs.declared.scope.Meaning.{Meaning}
use Rattle.tree_meaning.specs.declared.scope.Meaning.TheVariants as meaning
use Rattle.tree_meaning.specs.declared.parts.Site.TheVariants.{Body}
use Rattle.tree_meaning.specs.Names.{is_among}
use Rattle.tree_meaning.specs.Scopes.{Declared, meaning_among, meaning_of, as_field}
use Rattle.tree_meaning.specs.Values.{all_fit}
use Rattle.tree_meaning.specs.Parts.{parts, may_stand, is_known_part, are_known, part_fits, numbers_fit}
use Rattle.constructor_scopes.specs.Bodies.{with_member}
use Rattle.constructor_scopes.proofs.NewLemmas.{suc_below, below_suc, place_of}

-- ---- what a name among names stands for

behind : (t : Bool) (l : ℕ) (m : Meaning) (ms : List Meaning) → option_and_then (slice_get (m ∷ ms)) (cond t (Some (suc l)) None) ≡ option_and_then (slice_get ms) (cond t (Some l) None)
behind true l m ms = refl
behind false l m ms = refl

first_case : (t : Bool) (l n : ℕ) (m : Meaning) (ms : List Meaning)
    → option_and_then (slice_get (m ∷ ms)) (cond (nat_lt (cond (not t) (1 + l) 0) (suc n)) (Some (cond (not t) (1 + l) 0)) None)
    ≡ cond t (Some m) (option_and_then (slice_get ms) (cond (nat_lt l n) (Some l) None))
first_case true l n m ms = ap (λ t. option_and_then (slice_get (m ∷ ms)) (cond t (Some 0) None)) (below_suc n)
first_case false l n m ms =
    ap (λ k. option_and_then (slice_get (m ∷ ms)) (cond (nat_lt k (suc n)) (Some k) None)) (let e : 1 + l ≡ suc l = omega arith in e)
    ∙ ap (λ t. option_and_then (slice_get (m ∷ ms)) (cond t (Some (suc l)) None)) (suc_below l n (nat_lt l n) refl) ∙ behind (nat_lt l n) l m ms

-- the first name's meaning, or one among the others'
among_first : (n : List ℕ) (ns : List (List ℕ)) (m : Meaning) (ms : List Meaning) (w : List ℕ)
    → meaning_among (n ∷ ns) (m ∷ ms) w ≡ cond (bytes_eq w n) (Some m) (meaning_among ns ms w)
among_first n ns m ms w = first_case (bytes_eq w n) (position_or_len (bytes_eq w) ns) (length ns) m ms

or_later : (t : Bool) (m : Meaning) (o later : Option Meaning) → cond t (Some m) (option_or o later) ≡ option_or (cond t (Some m) o) later
or_later true m o later = refl
or_later false m o later = refl

-- one name more
pub among_more : (ns : List (List ℕ)) (ms : List Meaning) (n : List ℕ) (m : Meaning) (w : List ℕ) → length ns ≡ length ms
    → meaning_among (ns ++ n ∷ []) (ms ++ m ∷ []) w ≡ option_or (meaning_among ns ms w) (cond (bytes_eq w n) (Some m) None)
among_more [] [] n m w h = among_first n [] m [] w
among_more [] (y ∷ ms) n m w h = absurd (omega arith)
among_more (x ∷ ns) [] n m w h = absurd (omega arith)
among_more (x ∷ ns) (y ∷ ms) n m w h =
    let last : Option Meaning = cond (bytes_eq w n) (Some m) None in
    among_first x (ns ++ n ∷ []) y (ms ++ m ∷ []) w ∙ ap (cond (bytes_eq w x) (Some y)) (among_more ns ms n m w (omega arith))
    ∙ or_later (bytes_eq w x) y (meaning_among ns ms w) last ∙ ap (λ o. option_or o last) (sym (among_first x ns y ms w))

-- a name that is not there
pub not_among : (ns : List (List ℕ)) (ms : List Meaning) (n : List ℕ) → is_among ns n ≡ false → meaning_among ns ms n ≡ None
not_among ns ms n h = ap (λ t. option_and_then (slice_get ms) (cond t (Some (position_or_len (bytes_eq n) ns)) None)) (place_of (bytes_eq n) ns ∙ h)

-- ---- the scope of a member

or_none : (o : Option Meaning) → option_or o None ≡ o
or_none None = refl
or_none (Some m) = refl

all_alike : {A : Type 0} (p q : A → Bool) → ((x : A) → p x ≡ q x) → (xs : List A) → list_all p xs ≡ list_all q xs
all_alike p q h [] = refl
all_alike p q h (x ∷ xs) = ap (λ t. t && list_all p xs) (h x) ∙ ap (λ t. q x && t) (all_alike p q h xs)

module _ (scope : Declared) (many : length scope.local_names ≡ length scope.local_meanings) (opcode : List ℕ) (ps : List Pattern)
    (group : meaning_of scope opcode ≡ Some (meaning.Group ps)) (fresh : is_among scope.local_names opcode ≡ false) (p : Pattern) where
  -- what does not tell the group from its member is the same of each name
  alike : {B : Type 0} (f : Option Meaning → B) → f (Some (meaning.Pattern p)) ≡ f (Some (meaning.Group ps)) → (w : List ℕ)
      → f (meaning_of (with_member scope opcode (Some p)) w) ≡ f (meaning_of scope w)
  alike f same w = by_test (bytes_eq w opcode) refl where
    more : (t : Bool) → bytes_eq w opcode ≡ t
        → meaning_of (with_member scope opcode (Some p)) w ≡ option_or (option_or (meaning_among scope.local_names scope.local_meanings w) (cond t (Some (meaning.Pattern p)) None)) (meaning_among scope.names scope.meanings w)
    more t is =
        ap (λ o. option_or o (meaning_among scope.names scope.meanings w))
        (among_more scope.local_names scope.local_meanings opcode (meaning.Pattern p) w many
        ∙ ap (λ b. option_or (meaning_among scope.local_names scope.local_meanings w) (cond b (Some (meaning.Pattern p)) None)) is)

    by_test : (t : Bool) → bytes_eq w opcode ≡ t → f (meaning_of (with_member scope opcode (Some p)) w) ≡ f (meaning_of scope w)
    by_test false is =
        ap f (more false is ∙ ap (λ o. option_or o (meaning_among scope.names scope.meanings w)) (or_none (meaning_among scope.local_names scope.local_meanings w)))
    by_test true is =
        let name : w ≡ opcode = (bytes_eq-Decides w opcode).0 is in
        let none : meaning_among scope.local_names scope.local_meanings w ≡ None =
        ap (meaning_among scope.local_names scope.local_meanings) name ∙ not_among scope.local_names scope.local_meanings opcode fresh in
        let member : meaning_of (with_member scope opcode (Some p)) w ≡ Some (meaning.Pattern p) =
        more true is ∙ ap (λ o. option_or (option_or o (Some (meaning.Pattern p))) (meaning_among scope.names scope.meanings w)) none in
        ap f member ∙ same ∙ sym (ap f (ap (meaning_of scope) name ∙ group))

  known_part : (t : PatternTree) → is_known_part Body (with_member scope opcode (Some p)) t ≡ is_known_part Body scope t
  known_part (Word w) = alike (λ o. option_map_or (may_stand Body) o false) refl w
  known_part (Limit f r v) = alike (λ o. is_some (option_and_then as_field o)) refl f
  known_part _ = refl

  -- in a body the member may stand where the group may
  pub member_known : (t : PatternTree) → are_known Body (with_member scope opcode (Some p)) t ≡ are_known Body scope t
  member_known t = all_alike (is_known_part Body (with_member scope opcode (Some p))) (is_known_part Body scope) known_part (parts t)

  module _ (tokens : Tokens) where
    fitting_part : (t : PatternTree) → part_fits tokens (with_member scope opcode (Some p)) t ≡ part_fits tokens scope t
    fitting_part (Limit f r v) = alike (λ o. option_map_or (λ k. all_fit tokens k v) (option_and_then as_field o) true) refl f
    fitting_part _ = refl

    -- and the same numbers fit
    pub member_fits : (t : PatternTree) → numbers_fit tokens (with_member scope opcode (Some p)) t ≡ numbers_fit tokens scope t
    member_fits t = all_alike (part_fits tokens (with_member scope opcode (Some p))) (part_fits tokens scope) fitting_part (parts t)
