-- What layered equations unparse to is read as these equations.
use Rattle.std.proofs.Common.{◌≡◌, ℕ, zero, suc, ◌<◌, ◌≤◌, Bool, true, false, List, [], ◌∷◌, ◌++◌, length, refl, ap, sym, ◌∙◌, subst, arith, append_assoc, append-nil, length-append, Ok, Some, None}
use Rattle.std.specs.Prelude.{◌||◌, map, flat_map, nat_lt}
use Rattle.std.specs.List.{list_all}
use Rattle.sled_parser.specs.declared.class.Class.{Class}
use Rattle.sled_parser.specs.declared.class.Class.TheVariants as class
use Rattle.sled_parser.specs.declared.tree.PlaceTree.{PlaceTree}
use Rattle.sled_parser.specs.declared.tree.PlaceTree.TheVariants as place
use Rattle.sled_parser.specs.declared.tree.TermTree.{TermTree}
use Rattle.sled_parser.specs.declared.tree.TermTree.TheVariants as term
use Rattle.sled_parser.specs.declared.tree.SumTree.{SumTree}
use Rattle.sled_parser.specs.declared.tree.EqTree.{EqTree}
use Rattle.sled_parser.specs.Pieces.{Piece, Input, Outcome, Parser, sees, ahead, next, text_of}
use Rattle.sled_parser.specs.EquationGrammar.{many_from, name, slice_of, sliced, placed, place_of, numbered, term_of, first_term, sees_sign, later_term, sum_of, equation_of, equations_of, braced_equations}
use Rattle.sled_parser.specs.Trees.{piece_for, word, number, is_name, join}
use Rattle.sled_parser.specs.Equations.{place_spelling, place_layered, is_minus, term_spelling, term_layered, first_sign, later_sign, first_spelling, later_spelling, terms_spelling, sum_spelling, sum_layered, equation_spelling, equation_layered}
use Rattle.sled_parser.specs.Declarations.{equations_spelling}
use Rattle.sled_parser.proofs.ClassLaws.{is_fixed, same_self, sees_for, ahead_sees, ahead_name}
use Rattle.sled_parser.proofs.Sound.{both_true}
use Rattle.sled_parser.proofs.Complete.{Other, Each, pass_for, not_same, other_for, number_for, number_other, chain_complete, join_long}

-- ---- steps

pub or_none : (x y : Bool) → x ≡ false → y ≡ false → (x || y) ≡ false
or_none x y h k = rw (h, k) refl

pub name_for : (w : List ℕ) (i : Input) → is_name w ≡ true → name (word w ∷ i) ≡ Ok (w, i)
unfolding name text_of next
name_for w i named = rw (ahead_sees class.Name (word w ∷ i) (ahead_name w i named)) refl

pub name_other : (k : Class) (w : List ℕ) (i : Input) → is_name w ≡ true → (class.Name ≡ k → ⊥) → Other k (word w ∷ i)
unfolding sees
name_other k w i named no_ = rw (ahead_name w i named) (not_same class.Name k _ refl no_)

-- ---- items, as many as come

module _ {A : Type 0} (more : Input → Bool) (item : Parser A) (ok : A → Type 0) (s : A → List Piece) (Stop : Input → Type 0)
    (begins : (x : A) (r : Input) → ok x → (more (s x ++ r) ≡ true) × Stop (s x ++ r)) (reads : (x : A) (r : Input) → ok x → Stop r → item (s x ++ r) ≡ Ok (x, r)) where
  stops_many : (xs : List A) (r : Input) → Each ok xs → Stop r → Stop (flat_map s xs ++ r)
  stops_many [] r all st = st
  stops_many (x ∷ xs) r all st = subst Stop (sym (append_assoc (s x) (flat_map s xs) r)) (begins x (flat_map s xs ++ r) all.0).1

  many_more : (n : ℕ) (found : List A) (x : A) (i : Input) → ok x → Stop i → many_from more item (suc n) found (s x ++ i) ≡ many_from more item n (found ++ x ∷ []) i
  unfolding many_from
  many_more n found x i o st = rw ((begins x i o).0, reads x i o st) refl

  many_none : (n : ℕ) (found : List A) (r : Input) → more r ≡ false → many_from more item n found r ≡ Ok (found ++ [], r)
  unfolding many_from
  many_none zero found r none = ap (λ l. let y : Outcome (List A) = Ok (l, r) in y) (sym (append-nil found))
  many_none (suc n) found r none = rw none (ap (λ l. let y : Outcome (List A) = Ok (l, r) in y) (sym (append-nil found)))

  pub many_complete : (n : ℕ) (found xs : List A) (r : Input) → Each ok xs → length xs ≤ n → Stop r → more r ≡ false → many_from more item n found (flat_map s xs ++ r) ≡ Ok (found ++ xs, r)
  many_complete n found [] r all turns st none = many_none n found r none
  many_complete zero found (x ∷ xs) r all turns st none = absurd (omega arith)
  many_complete (suc n) found (x ∷ xs) r all turns st none =
      ap (many_from more item (suc n) found) (append_assoc (s x) (flat_map s xs) r)
      ∙ many_more n found x (flat_map s xs ++ r) all.0 (stops_many xs r all.1 st)
      ∙ many_complete n (found ++ x ∷ []) xs r all.1 (omega arith) st none
      ∙ ap (λ l. let y : Outcome (List A) = Ok (l, r) in y) (append_assoc found (x ∷ []) xs)

  -- a list is no longer than what it unparses to
  pub many_long : (xs : List A) → ((x : A) → ok x → 0 < length (s x)) → Each ok xs → length xs ≤ length (flat_map s xs)
  many_long [] long all = omega arith
  many_long (x ∷ xs) long all = omega (arith, long x all.0, many_long xs long all.1, length-append (s x) (flat_map s xs))

pub each_true : {A : Type 0} (g : A → Bool) (xs : List A) → list_all g xs ≡ true → Each (λ x. g x ≡ true) xs
each_true g [] all = tt
each_true g (x ∷ xs) all =
    let both : (g x ≡ true) × (list_all g xs ≡ true) = both_true _ _ all in
    (both.0, each_true g xs both.1)

-- ---- places

slice_complete : (w lo hi : List ℕ) (r : Input)
    → slice_of w (piece_for class.OpenBracket ∷ number lo ∷ piece_for class.Colon ∷ number hi ∷ piece_for class.CloseBracket ∷ r) ≡ Ok (place.Slice w lo hi, r)
unfolding slice_of
slice_complete w lo hi r =
    rw (
      pass_for class.OpenBracket refl (number lo ∷ piece_for class.Colon ∷ number hi ∷ piece_for class.CloseBracket ∷ r),
      number_for lo (piece_for class.Colon ∷ number hi ∷ piece_for class.CloseBracket ∷ r),
      pass_for class.Colon refl (number hi ∷ piece_for class.CloseBracket ∷ r),
      number_for hi (piece_for class.CloseBracket ∷ r),
      pass_for class.CloseBracket refl r,
    ) refl

-- with no place what stands behind goes on
abbrev pub PlaceStops : Input → Type 0
PlaceStops r = Other class.Bang r × Other class.At r

pub place_complete : (t : PlaceTree) (r : Input) → place_layered t ≡ true → PlaceStops r → place_of (place_spelling t ++ r) ≡ Ok (t, r)
unfolding place_of placed sliced next
place_complete (place.Word w) r named st = rw (name_for w r named, st.0, st.1) refl
place_complete (place.Extended w) r named st = rw (name_for w (piece_for class.Bang ∷ r) named, sees_for class.Bang r refl) refl
place_complete (place.Slice w lo hi) r named st =
    let i : Input = piece_for class.OpenBracket ∷ number lo ∷ piece_for class.Colon ∷ number hi ∷ piece_for class.CloseBracket ∷ r in
    rw (name_for w (piece_for class.At ∷ i) named, other_for class.Bang class.At i refl (λ e. cc), sees_for class.At i refl) (slice_complete w lo hi r)

place_other : (k : Class) (t : PlaceTree) (r : Input) → place_layered t ≡ true → (class.Name ≡ k → ⊥) → Other k (place_spelling t ++ r)
place_other k (place.Word w) r named no_ = name_other k w r named no_
place_other k (place.Extended w) r named no_ = name_other k w (piece_for class.Bang ∷ r) named no_
place_other k (place.Slice w lo hi) r named no_ =
    name_other k w (piece_for class.At ∷ piece_for class.OpenBracket ∷ number lo ∷ piece_for class.Colon ∷ number hi ∷ piece_for class.CloseBracket ∷ r) named no_

-- ---- terms

-- with no term what stands behind goes on
abbrev pub TermStops : Input → Type 0
TermStops r = Other class.Star r × PlaceStops r

sees_number : (n : List ℕ) (i : Input) → sees class.Number (number n ∷ i) ≡ true
unfolding sees ahead
sees_number n i = same_self class.Number

term_complete : (t : TermTree) (r : Input) → term_layered t ≡ true → TermStops r → term_of (is_minus t) (term_spelling t ++ r) ≡ Ok (t, r)
unfolding term_of numbered text_of next
term_complete (term.Number minus n) r f st = rw (sees_number n r, st.0) refl
term_complete (term.Place minus None at) r f st = rw (place_other class.Number at r f (λ e. cc), place_complete at r f st.1) refl
term_complete (term.Place minus (Some n) at) r f st =
    rw (sees_number n (piece_for class.Star ∷ (place_spelling at ++ r)), sees_for class.Star (place_spelling at ++ r) refl, place_complete at r f st.1) refl

term_other : (k : Class) (t : TermTree) (r : Input) → term_layered t ≡ true → (class.Name ≡ k → ⊥) → (class.Number ≡ k → ⊥) → Other k (term_spelling t ++ r)
term_other k (term.Number minus n) r f no_name no_number = number_other k n r no_number
term_other k (term.Place minus None at) r f no_name no_number = place_other k at r f no_name
term_other k (term.Place minus (Some n) at) r f no_name no_number = number_other k n (piece_for class.Star ∷ (place_spelling at ++ r)) no_number

signed : (t : TermTree) (r : Input) → term_layered t ≡ true → TermStops r → (b : Bool) → is_minus t ≡ b → term_of b (term_spelling t ++ r) ≡ Ok (t, r)
signed t r f st b is = subst (λ m. term_of m (term_spelling t ++ r) ≡ Ok (t, r)) is (term_complete t r f st)

first_case : (t : TermTree) (r : Input) → term_layered t ≡ true → TermStops r → (b : Bool) → is_minus t ≡ b → first_term ((first_sign b ++ term_spelling t) ++ r) ≡ Ok (t, r)
unfolding first_term next
first_case t r f st true is = rw (sees_for class.Minus (term_spelling t ++ r) refl) (signed t r f st true is)
first_case t r f st false is = rw (term_other class.Minus t r f (λ e. cc) (λ e. cc)) (signed t r f st false is)

first_complete : (t : TermTree) (r : Input) → term_layered t ≡ true → TermStops r → first_term (first_spelling t ++ r) ≡ Ok (t, r)
first_complete t r f st = first_case t r f st (is_minus t) refl

later_case : (t : TermTree) (r : Input) → term_layered t ≡ true → TermStops r → (b : Bool) → is_minus t ≡ b → later_term (later_sign b ∷ (term_spelling t ++ r)) ≡ Ok (t, r)
unfolding later_term next
later_case t r f st true is = rw (sees_for class.Minus (term_spelling t ++ r) refl) (signed t r f st true is)
later_case t r f st false is = rw (other_for class.Minus class.Plus (term_spelling t ++ r) refl (λ e. cc)) (signed t r f st false is)

abbrev TermOk : TermTree → Type 0
TermOk t = term_layered t ≡ true

later_complete : (t : TermTree) (r : Input) → TermOk t → TermStops r → later_term (later_spelling t ++ r) ≡ Ok (t, r)
later_complete t r f st = later_case t r f st (is_minus t) refl

stops_term : (k : Class) (i : Input) → is_fixed k ≡ true → (k ≡ class.Star → ⊥) → (k ≡ class.Bang → ⊥) → (k ≡ class.At → ⊥) → TermStops (piece_for k ∷ i)
stops_term k i f a b c = (other_for class.Star k i f a, (other_for class.Bang k i f b, other_for class.At k i f c))

sign_first : (b : Bool) (i : Input) → (sees_sign (later_sign b ∷ i) ≡ true) × TermStops (later_sign b ∷ i)
sign_first true i = (rw (sees_for class.Minus i refl) refl, stops_term class.Minus i refl (λ e. cc) (λ e. cc) (λ e. cc))
sign_first false i = (rw (other_for class.Minus class.Plus i refl (λ e. cc), sees_for class.Plus i refl) refl, stops_term class.Plus i refl (λ e. cc) (λ e. cc) (λ e. cc))

later_begins : (t : TermTree) (r : Input) → TermOk t → (sees_sign (later_spelling t ++ r) ≡ true) × TermStops (later_spelling t ++ r)
later_begins t r f = sign_first (is_minus t) (term_spelling t ++ r)

later_long : (t : TermTree) → TermOk t → 0 < length (later_spelling t)
later_long t f = omega arith

-- ---- sums and equations

-- with no sum what stands behind goes on
abbrev pub SumStops : Input → Type 0
SumStops r = TermStops r × (sees_sign r ≡ false)

pub stops_sum : (k : Class) (i : Input) → is_fixed k ≡ true → TermStops (piece_for k ∷ i) → (k ≡ class.Minus → ⊥) → (k ≡ class.Plus → ⊥) → SumStops (piece_for k ∷ i)
stops_sum k i f st a b = (st, or_none _ _ (other_for class.Minus k i f a) (other_for class.Plus k i f b))

terms_complete : (t : TermTree) (ts : List TermTree) (r : Input) → TermOk t → list_all term_layered ts ≡ true → SumStops r → sum_of (terms_spelling (t ∷ ts) ++ r) ≡ Ok (record { terms = t ∷ ts }, r)
unfolding sum_of
terms_complete t ts r f all st =
    let parts : List Piece = flat_map later_spelling ts in
    let each : Each TermOk ts = each_true term_layered ts all in
    let first = first_complete t (parts ++ r) f (stops_many sees_sign later_term TermOk later_spelling TermStops later_begins later_complete ts r each st.0) in
    let long : length ts ≤ length parts = many_long sees_sign later_term TermOk later_spelling TermStops later_begins later_complete ts later_long each in
    let turns : length ts ≤ length (parts ++ r) = omega (arith, length-append parts r) in
    let rest = many_complete sees_sign later_term TermOk later_spelling TermStops later_begins later_complete (length (parts ++ r)) (t ∷ []) ts r each turns st.0 st.1 in
    rw (append_assoc (first_spelling t) parts r, first, rest) refl

sum_by_terms : (ts : List TermTree) (r : Input) → sum_layered (record { terms = ts }) ≡ true → SumStops r → sum_of (terms_spelling ts ++ r) ≡ Ok (record { terms = ts }, r)
sum_by_terms [] r f st = absurd cc
sum_by_terms (t ∷ ts) r f st =
    let some : (nat_lt 0 (length (t ∷ ts)) ≡ true) × (list_all term_layered (t ∷ ts) ≡ true) = both_true _ _ f in
    let both : (term_layered t ≡ true) × (list_all term_layered ts ≡ true) = both_true _ _ some.1 in
    terms_complete t ts r both.0 both.1 st

pub sum_complete : (x : SumTree) (r : Input) → sum_layered x ≡ true → SumStops r → sum_of (sum_spelling x ++ r) ≡ Ok (x, r)
sum_complete x r f st = sum_by_terms x.terms r f st

abbrev EquationOk : EqTree → Type 0
EquationOk e = equation_layered e ≡ true

pub equation_complete : (e : EqTree) (r : Input) → EquationOk e → SumStops r → equation_of (equation_spelling e ++ r) ≡ Ok (e, r)
unfolding equation_of
equation_complete e r f st =
    let both : (sum_layered e.left ≡ true) × (sum_layered e.right ≡ true) = both_true _ _ f in
    let i : Input = sum_spelling e.right ++ r in
    let left = sum_complete e.left (piece_for class.Equal ∷ i) both.0 (stops_sum class.Equal i refl (stops_term class.Equal i refl (λ e. cc) (λ e. cc) (λ e. cc)) (λ e. cc) (λ e. cc)) in
    rw (append_assoc (sum_spelling e.left) (piece_for class.Equal ∷ sum_spelling e.right) r, left, pass_for class.Equal refl i, sum_complete e.right r both.1 st) refl

equation_long : (e : EqTree) → EquationOk e → 0 < length (equation_spelling e)
equation_long e f = omega (arith, length-append (sum_spelling e.left) (piece_for class.Equal ∷ sum_spelling e.right))

-- ---- equations in braces

comma_stops : (i : Input) → SumStops (piece_for class.Comma ∷ i)
comma_stops i = stops_sum class.Comma i refl (stops_term class.Comma i refl (λ e. cc) (λ e. cc) (λ e. cc)) (λ e. cc) (λ e. cc)

brace_stops : (i : Input) → SumStops (piece_for class.CloseBrace ∷ i)
brace_stops i = stops_sum class.CloseBrace i refl (stops_term class.CloseBrace i refl (λ e. cc) (λ e. cc) (λ e. cc)) (λ e. cc) (λ e. cc)

equations_complete : (es : List EqTree) (r : Input) → list_all equation_layered es ≡ true → 0 < length es
    → equations_of (join (piece_for class.Comma) (map equation_spelling es) ++ piece_for class.CloseBrace ∷ r) ≡ Ok (es, r)
unfolding equations_of
equations_complete es r all some =
    let parts : List Piece = join (piece_for class.Comma) (map equation_spelling es) in
    let i : Input = parts ++ piece_for class.CloseBrace ∷ r in
    let each : Each EquationOk es = each_true equation_layered es all in
    let long : length es ≤ length parts = join_long equation_of EquationOk equation_spelling class.Comma refl SumStops comma_stops equation_complete es equation_long each in
    let turns : length es ≤ length i = omega (arith, length-append parts (piece_for class.CloseBrace ∷ r)) in
    let chained = chain_complete equation_of EquationOk equation_spelling class.Comma refl SumStops comma_stops equation_complete (length i) [] es (piece_for class.CloseBrace ∷ r) each some turns
    (brace_stops r) (other_for class.Comma class.CloseBrace r refl (λ e. cc)) in
    rw (chained, pass_for class.CloseBrace refl r) refl

pub braced_equations_complete : (es : List EqTree) (r : Input) → list_all equation_layered es ≡ true → Other class.OpenBrace r → braced_equations (equations_spelling es ++ r) ≡ Ok (es, r)
unfolding braced_equations next
braced_equations_complete [] r all other = rw other refl
braced_equations_complete (e ∷ es) r all other =
    let parts : List Piece = join (piece_for class.Comma) (map equation_spelling (e ∷ es)) in
    let i : Input = parts ++ piece_for class.CloseBrace ∷ r in
    let same : (parts ++ piece_for class.CloseBrace ∷ []) ++ r ≡ i = append_assoc parts (piece_for class.CloseBrace ∷ []) r in
    rw (same, sees_for class.OpenBrace i refl) (equations_complete (e ∷ es) r all (omega arith))
