-- What a rule of equations reads is layered, and is what its tree unparses to.
use Rattle.std.proofs.Common.{◌≡◌, ℕ, zero, suc, ◌<◌, Bool, true, false, List, [], ◌∷◌, ◌++◌, length, refl, ap, sym, ◌∙◌, subst, arith, append_assoc, append-nil, Ok, Some, None}
use Rattle.std.specs.Prelude.{◌||◌, if◌then◌else◌, map, flat_map, nat_lt}
use Rattle.std.specs.List.{list_all}
use Rattle.std.proofs.lemmas.Bool.Decides.{nat_tests}
use Rattle.sled_parser.specs.declared.class.Class.{Class}
use Rattle.sled_parser.specs.declared.class.Class.TheVariants as class
use Rattle.sled_parser.specs.declared.tree.PlaceTree.{PlaceTree}
use Rattle.sled_parser.specs.declared.tree.PlaceTree.TheVariants as place
use Rattle.sled_parser.specs.declared.tree.TermTree.{TermTree}
use Rattle.sled_parser.specs.declared.tree.TermTree.TheVariants as term
use Rattle.sled_parser.specs.declared.tree.SumTree.{SumTree}
use Rattle.sled_parser.specs.declared.tree.EqTree.{EqTree}
use Rattle.sled_parser.specs.Pieces.{Piece, Input, Outcome, Parser, and_then, pure, refuse, pass, sees, next, text_of}
use Rattle.sled_parser.specs.Grammar.{chain_from}
use Rattle.sled_parser.specs.Grammar as grammar
use Rattle.sled_parser.specs.EquationGrammar.{many_from, name, slice_of, sliced, placed, place_of, numbered, term_of, first_term, sees_sign, later_term, sum_of, equation_of, equations_of, braced_equations}
use Rattle.sled_parser.specs.Trees.{piece_for, word, number, is_name, join}
use Rattle.sled_parser.specs.Equations.{place_spelling, place_layered, is_minus, term_spelling, term_layered, first_sign, later_sign, first_spelling, later_spelling, sum_spelling, sum_layered, equation_spelling, equation_layered}
use Rattle.sled_parser.specs.Declarations.{equations_spelling}
use Rattle.sled_parser.proofs.ClassLaws.{is_fixed, sees_fixed, sees_ahead, name_ahead, number_ahead}
use Rattle.sled_parser.proofs.Sound.{bind_ok, and_both, Sound, pass_sound, number_sound, chain_sound}

-- from what was made to what was read
pub given : {A : Type 0} (g : A → Bool) (s : A → List Piece) (t : A) (i : Input) (y : A × Input) → t ≡ y.0 → g t ≡ true → i ≡ s t ++ y.1 → (g y.0 ≡ true) × (i ≡ s y.0 ++ y.1)
given g s t i y e f is = (subst (λ v. g v ≡ true) e f, subst (λ v. i ≡ s v ++ y.1) e is)

-- ---- items, as many as come

-- what q reads where one is seen passes the test g, and is what s unparses it to
abbrev pub SoundWhere : {A : Type 0} → (Input → Bool) → Parser A → (A → Bool) → (A → List Piece) → Type 0
SoundWhere {A} more q g s = (i : Input) (x : A × Input) → more i ≡ true → q i ≡ Ok x → (g x.0 ≡ true) × (i ≡ s x.0 ++ x.1)

module _ {A : Type 0} (more : Input → Bool) (item : Parser A) (g : A → Bool) (s : A → List Piece) (reads : SoundWhere more item g s) where
  -- the list is what was found, and what was read since
  abbrev Gathered : List A → Input → List A × Input → Type 0
  Gathered found i y = (xs : List A) × (y.0 ≡ found ++ xs) × (list_all g xs ≡ true) × (i ≡ flat_map s xs ++ y.1)

  many_none : (found : List A) (i : Input) (y : List A × Input) → (let z : Outcome (List A) = Ok (found, i) in z) ≡ Ok y → Gathered found i y
  many_none found i y e =
      let e0 : found ≡ y.0 = cc in
      let e1 : i ≡ y.1 = cc in
      ([], sym e0 ∙ sym (append-nil found), refl, e1)

  many_case : (n : ℕ) (found : List A) (i : Input) (y : List A × Input) (b : Bool) → more i ≡ b
      → ((found : List A) (i : Input) (y : List A × Input) → many_from more item n found i ≡ Ok y → Gathered found i y)
      → (if b then and_then (item i) (λ x. many_from more item n (found ++ x ∷ [])) else Ok (found, i)) ≡ Ok y → Gathered found i y
  many_case n found i y true seen again e =
      let a = bind_ok (item i) _ y e in
      let t = reads i a.0 seen a.1 in
      let r = again (found ++ a.0.0 ∷ []) a.0.1 y a.2 in (
        a.0.0 ∷ r.0,
        r.1 ∙ append_assoc found (a.0.0 ∷ []) r.0,
        and_both _ _ t.0 r.2,
        t.1 ∙ ap (λ z. s a.0.0 ++ z) r.3 ∙ sym (append_assoc (s a.0.0) (flat_map s r.0) y.1),
      )
  many_case n found i y false seen again e = many_none found i y e

  pub many_sound : (n : ℕ) (found : List A) (i : Input) (y : List A × Input) → many_from more item n found i ≡ Ok y → Gathered found i y
  unfolding many_from
  many_sound zero found i y e = many_none found i y e
  many_sound (suc n) found i y e = many_case n found i y (more i) refl (many_sound n) e

-- ---- names

name_case : (i : Input) (x : List ℕ × Input) (b : Bool) → sees class.Name i ≡ b → (let q : Parser (List ℕ) = (if b then (λ j. Ok (text_of j, next j)) else refuse) in q) i ≡ Ok x
    → (is_name x.0 ≡ true) × (i ≡ word x.0 ∷ x.1)
name_case i x true s e =
    let t = name_ahead i (sees_ahead class.Name i s) in
    let a : text_of i ≡ x.0 = cc in
    let b : next i ≡ x.1 = cc in
    (subst (λ w. is_name w ≡ true) a t.1, t.0 ∙ rw (a, b) refl)
name_case i x false s e = absurd cc

pub name_sound : (i : Input) (x : List ℕ × Input) → name i ≡ Ok x → (is_name x.0 ≡ true) × (i ≡ word x.0 ∷ x.1)
unfolding name
name_sound i x e = name_case i x (sees class.Name i) refl e

-- ---- one step of a rule, and what follows it

pub pure_ok : {A : Type 0} (a : A) (j : Input) (y : A × Input) → pure a j ≡ Ok y → (a ≡ y.0) × (j ≡ y.1)
pure_ok a j y e = (cc, cc)

pub after_read : {A B P : Type 0} (q : Parser A) (f : A → Parser B) (i : Input) (y : B × Input) → and_then (q i) f ≡ Ok y
    → ((x : A) (j : Input) → q i ≡ Ok (x, j) → f x j ≡ Ok y → P) → P
after_read q f i y e k = let a = bind_ok (q i) f y e in k a.0.0 a.0.1 a.1 a.2

pub after_pass : {B P : Type 0} (k : Class) → is_fixed k ≡ true → (f : Unit {0} → Parser B) (i : Input) (y : B × Input) → and_then (pass k i) f ≡ Ok y
    → ((j : Input) → i ≡ piece_for k ∷ j → f tt j ≡ Ok y → P) → P
after_pass k fixed f i y e go = after_read (pass k) f i y e (λ x j e1 h. go j (pass_sound k fixed i (x, j) e1) h)

pub after_number : {B P : Type 0} (f : List ℕ → Parser B) (i : Input) (y : B × Input) → and_then (grammar.number i) f ≡ Ok y
    → ((n : List ℕ) (j : Input) → i ≡ number n ∷ j → f n j ≡ Ok y → P) → P
after_number f i y e go = after_read grammar.number f i y e (λ n j e1 h. go n j (number_sound i (n, j) e1) h)

pub after_name : {B P : Type 0} (f : List ℕ → Parser B) (i : Input) (y : B × Input) → and_then (name i) f ≡ Ok y
    → ((w : List ℕ) (j : Input) → is_name w ≡ true → i ≡ word w ∷ j → f w j ≡ Ok y → P) → P
after_name f i y e go = after_read name f i y e (λ w j e1 h. let r = name_sound i (w, j) e1 in go w j r.0 r.1 h)

pub after_part : {A B P : Type 0} (q : Parser A) (g : A → Bool) (s : A → List Piece) → Sound q g s → (f : A → Parser B) (i : Input) (y : B × Input) → and_then (q i) f ≡ Ok y
    → ((x : A) (j : Input) → g x ≡ true → i ≡ s x ++ j → f x j ≡ Ok y → P) → P
after_part q g s reads f i y e go = after_read q f i y e (λ x j e1 h. let r = reads i (x, j) e1 in go x j r.0 r.1 h)

-- ---- places

-- what a place with this name reads
abbrev PlaceFrom : List ℕ → Input → PlaceTree × Input → Type 0
PlaceFrom w i y = (place_layered y.0 ≡ true) × (word w ∷ i ≡ place_spelling y.0 ++ y.1)

slice_sound : (w : List ℕ) (i : Input) (y : PlaceTree × Input) → is_name w ≡ true → slice_of w i ≡ Ok y → PlaceFrom w (piece_for class.At ∷ i) y
unfolding slice_of
slice_sound w i y named e =
    after_pass class.OpenBracket refl _ i y e (λ i1 e1 h1.
    after_number _ i1 y h1 (λ lo i2 e2 h2.
    after_pass class.Colon refl _ i2 y h2 (λ i3 e3 h3.
    after_number _ i3 y h3 (λ hi i4 e4 h4.
    after_pass class.CloseBracket refl _ i4 y h4 (λ i5 e5 h5.
    let t = pure_ok (place.Slice w lo hi) i5 y h5 in
    given place_layered place_spelling (place.Slice w lo hi) (word w ∷ piece_for class.At ∷ i) y t.0 named
    (ap (λ z. word w ∷ piece_for class.At ∷ z)
    (e1 ∙ ap (λ z. piece_for class.OpenBracket ∷ z)
    (e2 ∙ ap (λ z. number lo ∷ z)
    (e3 ∙ ap (λ z. piece_for class.Colon ∷ z)
    (e4 ∙ ap (λ z. number hi ∷ z)
    (e5 ∙ ap (λ z. piece_for class.CloseBracket ∷ z) t.1)))))))))))

sliced_case : (w : List ℕ) (i : Input) (y : PlaceTree × Input) → is_name w ≡ true → (b : Bool) → sees class.At i ≡ b
    → (if b then slice_of w else pure (place.Word w)) (if b then next i else i) ≡ Ok y → PlaceFrom w i y
sliced_case w i y named true s e =
    let r = slice_sound w (next i) y named e in
    (r.0, ap (λ z. word w ∷ z) (sees_fixed class.At i refl s) ∙ r.1)
sliced_case w i y named false s e =
    let y0 : place.Word w ≡ y.0 = cc in
    let y1 : i ≡ y.1 = cc in
    given place_layered place_spelling (place.Word w) (word w ∷ i) y y0 named (ap (λ z. word w ∷ z) y1)

sliced_sound : (w : List ℕ) (i : Input) (y : PlaceTree × Input) → is_name w ≡ true → sliced w i ≡ Ok y → PlaceFrom w i y
unfolding sliced
sliced_sound w i y named e = sliced_case w i y named (sees class.At i) refl e

placed_case : (w : List ℕ) (i : Input) (y : PlaceTree × Input) → is_name w ≡ true → (b : Bool) → sees class.Bang i ≡ b
    → (if b then pure (place.Extended w) else sliced w) (if b then next i else i) ≡ Ok y → PlaceFrom w i y
placed_case w i y named true s e =
    let y0 : place.Extended w ≡ y.0 = cc in
    let y1 : next i ≡ y.1 = cc in
    given place_layered place_spelling (place.Extended w) (word w ∷ i) y y0 named (ap (λ z. word w ∷ z) (sees_fixed class.Bang i refl s ∙ ap (λ z. piece_for class.Bang ∷ z) y1))
placed_case w i y named false s e = sliced_sound w i y named e

pub place_sound : Sound place_of place_layered place_spelling
unfolding place_of placed
place_sound i y e =
    let a = bind_ok (name i) _ y e in
    let n = name_sound i a.0 a.1 in
    let r = placed_case a.0.0 a.0.1 y n.0 (sees class.Bang a.0.1) refl a.2 in
    (r.0, n.1 ∙ r.1)

-- ---- terms

-- a term with this sign, behind what was passed before it
abbrev TermFrom : Bool → Input → TermTree × Input → Type 0
TermFrom minus i y = (term_layered y.0 ≡ true) × (is_minus y.0 ≡ minus) × (i ≡ term_spelling y.0 ++ y.1)

term_made : (minus : Bool) (t : TermTree) (i : Input) (y : TermTree × Input) → t ≡ y.0 → term_layered t ≡ true → is_minus t ≡ minus → i ≡ term_spelling t ++ y.1 → TermFrom minus i y
term_made minus t i y e f m is = (subst (λ v. term_layered v ≡ true) e f, subst (λ v. is_minus v ≡ minus) e m, subst (λ v. i ≡ term_spelling v ++ y.1) e is)

numbered_case : (minus : Bool) (n : List ℕ) (i : Input) (y : TermTree × Input) (b : Bool) → sees class.Star i ≡ b
    → (if b then (λ j. and_then (place_of j) (λ at. pure (term.Place minus (Some n) at))) else pure (term.Number minus n)) (if b then next i else i) ≡ Ok y
    → TermFrom minus (number n ∷ i) y
numbered_case minus n i y true s e =
    let a = bind_ok (place_of (next i)) _ y e in
    let r = place_sound (next i) a.0 a.1 in
    let y0 : term.Place minus (Some n) a.0.0 ≡ y.0 = cc in
    let y1 : a.0.1 ≡ y.1 = cc in
    term_made minus (term.Place minus (Some n) a.0.0) (number n ∷ i) y y0 r.0 refl
    (ap (λ z. number n ∷ z) (sees_fixed class.Star i refl s ∙ ap (λ z. piece_for class.Star ∷ z) (r.1 ∙ ap (λ z. place_spelling a.0.0 ++ z) y1)))
numbered_case minus n i y false s e =
    let y0 : term.Number minus n ≡ y.0 = cc in
    let y1 : i ≡ y.1 = cc in
    term_made minus (term.Number minus n) (number n ∷ i) y y0 refl refl (ap (λ z. number n ∷ z) y1)

numbered_sound : (minus : Bool) (n : List ℕ) (i : Input) (y : TermTree × Input) → numbered minus n i ≡ Ok y → TermFrom minus (number n ∷ i) y
unfolding numbered
numbered_sound minus n i y e = numbered_case minus n i y (sees class.Star i) refl e

number_first : (i : Input) → sees class.Number i ≡ true → i ≡ number (text_of i) ∷ next i
number_first i s = number_ahead i (sees_ahead class.Number i s)

term_case : (minus : Bool) (i : Input) (y : TermTree × Input) (b : Bool) → sees class.Number i ≡ b
    → (let q : Parser TermTree = (if b then (λ j. numbered minus (text_of j) (next j)) else (λ j. and_then (place_of j) (λ at. pure (term.Place minus None at)))) in q) i ≡ Ok y
    → TermFrom minus i y
term_case minus i y true s e =
    let r = numbered_sound minus (text_of i) (next i) y e in
    (r.0, r.1, number_first i s ∙ r.2)
term_case minus i y false s e =
    let a = bind_ok (place_of i) _ y e in
    let r = place_sound i a.0 a.1 in
    let y0 : term.Place minus None a.0.0 ≡ y.0 = cc in
    let y1 : a.0.1 ≡ y.1 = cc in
    term_made minus (term.Place minus None a.0.0) i y y0 r.0 refl (r.1 ∙ ap (λ z. place_spelling a.0.0 ++ z) y1)

pub term_sound : (minus : Bool) (i : Input) (y : TermTree × Input) → term_of minus i ≡ Ok y → TermFrom minus i y
unfolding term_of
term_sound minus i y e = term_case minus i y (sees class.Number i) refl e

first_case : (i : Input) (y : TermTree × Input) (b : Bool) → sees class.Minus i ≡ b → term_of b (if b then next i else i) ≡ Ok y → (term_layered y.0 ≡ true) × (i ≡ first_spelling y.0 ++ y.1)
first_case i y true s e =
    let r = term_sound true (next i) y e in
    (r.0, sees_fixed class.Minus i refl s ∙ ap (λ z. piece_for class.Minus ∷ z) r.2 ∙ ap (λ m. (first_sign m ++ term_spelling y.0) ++ y.1) (sym r.1))
first_case i y false s e =
    let r = term_sound false i y e in
    (r.0, r.2 ∙ ap (λ m. (first_sign m ++ term_spelling y.0) ++ y.1) (sym r.1))

pub first_sound : Sound first_term term_layered first_spelling
unfolding first_term
first_sound i y e = first_case i y (sees class.Minus i) refl e

or_right : (x y : Bool) → x ≡ false → (x || y) ≡ true → y ≡ true
or_right x y no_ h = rw no_ at h

later_case : (i : Input) (y : TermTree × Input) (b : Bool) → sees class.Minus i ≡ b → sees_sign i ≡ true → term_of b (next i) ≡ Ok y → (term_layered y.0 ≡ true) × (i ≡ later_spelling y.0 ++ y.1)
later_case i y true s sign e =
    let r = term_sound true (next i) y e in
    (r.0, sees_fixed class.Minus i refl s ∙ ap (λ z. piece_for class.Minus ∷ z) r.2 ∙ ap (λ m. later_sign m ∷ (term_spelling y.0 ++ y.1)) (sym r.1))
later_case i y false s sign e =
    let r = term_sound false (next i) y e in
    (r.0, sees_fixed class.Plus i refl (or_right _ _ s sign) ∙ ap (λ z. piece_for class.Plus ∷ z) r.2 ∙ ap (λ m. later_sign m ∷ (term_spelling y.0 ++ y.1)) (sym r.1))

pub later_sound : SoundWhere sees_sign later_term term_layered later_spelling
unfolding later_term
later_sound i y sign e = later_case i y (sees class.Minus i) refl sign e

-- ---- sums and equations

pub some_of : (n : ℕ) → nat_lt 0 (suc n) ≡ true
some_of n = grind (arith, nat_tests)

pub sum_sound : Sound sum_of sum_layered sum_spelling
unfolding sum_of
sum_sound i y e =
    let a = bind_ok (first_term i) _ y e in
    let b = bind_ok (many_from sees_sign later_term (length a.0.1) (a.0.0 ∷ []) a.0.1) _ y a.2 in
    let t = first_sound i a.0 a.1 in
    let r = many_sound sees_sign later_term term_layered later_spelling later_sound (length a.0.1) (a.0.0 ∷ []) a.0.1 b.0 b.1 in
    let made : SumTree = record { terms = a.0.0 ∷ r.0 } in
    let y0 : (let z : SumTree = record { terms = b.0.0 } in z) ≡ y.0 = cc in
    let y1 : b.0.1 ≡ y.1 = cc in
    let all : made ≡ y.0 = ap (λ ts. let z : SumTree = record { terms = ts } in z) (sym r.1) ∙ y0 in
    given sum_layered sum_spelling made i y all (and_both _ _ (some_of (length r.0)) (and_both _ _ t.0 r.2))
    (t.1 ∙ ap (λ z. first_spelling a.0.0 ++ z) (r.3 ∙ ap (λ z. flat_map later_spelling r.0 ++ z) y1) ∙ sym (append_assoc (first_spelling a.0.0) (flat_map later_spelling r.0) y.1))

pub equation_sound : Sound equation_of equation_layered equation_spelling
unfolding equation_of
equation_sound i y e =
    let a = bind_ok (sum_of i) _ y e in
    let b = bind_ok (pass class.Equal a.0.1) _ y a.2 in
    let c = bind_ok (sum_of b.0.1) _ y b.2 in
    let r = sum_sound i a.0 a.1 in
    let i2 = pass_sound class.Equal refl a.0.1 b.0 b.1 in
    let t = sum_sound b.0.1 c.0 c.1 in
    let made : EqTree = record { left = a.0.0; right = c.0.0 } in
    let y0 : made ≡ y.0 = cc in
    let y1 : c.0.1 ≡ y.1 = cc in
    given equation_layered equation_spelling made i y y0 (and_both _ _ r.0 t.0)
    (r.1 ∙ ap (λ z. sum_spelling a.0.0 ++ z) (i2 ∙ ap (λ z. piece_for class.Equal ∷ z) (t.1 ∙ ap (λ z. sum_spelling c.0.0 ++ z) y1)) ∙ sym (append_assoc (sum_spelling a.0.0) (piece_for class.Equal ∷ sum_spelling c.0.0) y.1))

-- ---- equations in braces

some_equations : (es : List EqTree) → 0 < length es → equations_spelling es ≡ piece_for class.OpenBrace ∷ (join (piece_for class.Comma) (map equation_spelling es) ++ piece_for class.CloseBrace ∷ [])
some_equations [] some = absurd (omega arith)
some_equations (e ∷ es) some = refl

equations_sound : (i : Input) (y : List EqTree × Input) → equations_of i ≡ Ok y → (list_all equation_layered y.0 ≡ true) × (piece_for class.OpenBrace ∷ i ≡ equations_spelling y.0 ++ y.1)
unfolding equations_of
equations_sound i y e =
    let a = bind_ok (chain_from equation_of class.Comma (length i) [] i) _ y e in
    let b = bind_ok (pass class.CloseBrace a.0.1) _ y a.2 in
    let r = chain_sound equation_of equation_layered equation_spelling class.Comma refl equation_sound (length i) [] i a.0 a.1 in
    let i2 = pass_sound class.CloseBrace refl a.0.1 b.0 b.1 in
    let y0 : a.0.0 ≡ y.0 = cc in
    let y1 : b.0.1 ≡ y.1 = cc in
    let parts : List Piece = join (piece_for class.Comma) (map equation_spelling r.0) in
    given (list_all equation_layered) equations_spelling r.0 (piece_for class.OpenBrace ∷ i) y (sym r.1 ∙ y0) r.2
    (ap (λ z. piece_for class.OpenBrace ∷ z) (r.4 ∙ ap (λ z. parts ++ z) (i2 ∙ ap (λ z. piece_for class.CloseBrace ∷ z) y1) ∙ sym (append_assoc parts (piece_for class.CloseBrace ∷ []) y.1))
    ∙ ap (λ z. z ++ y.1) (sym (some_equations r.0 r.3)))

braced_case : (i : Input) (y : List EqTree × Input) (b : Bool) → sees class.OpenBrace i ≡ b → (if b then equations_of else pure []) (if b then next i else i) ≡ Ok y
    → (list_all equation_layered y.0 ≡ true) × (i ≡ equations_spelling y.0 ++ y.1)
braced_case i y true s e =
    let r = equations_sound (next i) y e in
    (r.0, sees_fixed class.OpenBrace i refl s ∙ r.1)
braced_case i y false s e =
    let y0 : [] ≡ y.0 = cc in
    let y1 : i ≡ y.1 = cc in
    given (list_all equation_layered) equations_spelling [] i y y0 refl y1

pub braced_equations_sound : Sound braced_equations (list_all equation_layered) equations_spelling
unfolding braced_equations
braced_equations_sound i y e = braced_case i y (sees class.OpenBrace i) refl e
