-- What declarations make and lack, one after another.
use Rattle.std.proofs.Common.{◌≡◌, ℕ, ◌+◌, ◌<◌, ◌≤◌, List, [], ◌∷◌, ◌++◌, length, take, drop, get_or, Some, None, refl, sym, ap, subst, ◌∙◌, arith}
use Rattle.std.specs.Prelude.{Option, fold}
use Rattle.sled_parser.specs.declared.tree.Decl.{Decl}
use Rattle.sled_parser.specs.declared.tree.Decl.TheVariants as decl
use Rattle.tree_meaning.proofs.ListLemmas.{drop-here, take-here}
use Rattle.sled_elab.specs.Conditions.{IsLackOf, IsFirstLackFrom, next_number}
use Rattle.sled_elab.specs.Declarations.{Described}
use Rattle.sled_elab.specs.Elaboration.{after}

fold_push : {A B : Type 0} (f : B → A → B) (z : B) (xs : List A) (x : A) → fold f z (xs ++ x ∷ []) ≡ f (fold f z xs) x
fold_push f z [] x = refl
fold_push f z (y ∷ ys) x = fold_push f (f z y) ys x

pub next_within : (n : ℕ) (x : Decl) → next_number n x ≤ n + 1
next_within n (decl.Class name width little fields) = omega arith
next_within n (decl.Heading section) = omega arith
next_within n (decl.Definition name items tree) = omega arith
next_within n (decl.ConstructorDecl opcode operands makes equations body) = omega arith

module _ (decls : List Decl) (i : ℕ) (x : Decl) (here : i < length decls) (is : x ≡ get_or decls i x) where
  from_here : drop i decls ≡ x ∷ drop (i + 1) decls
  from_here = drop-here decls i x here ∙ ap (λ y. y ∷ drop (i + 1) decls) (sym is)

  -- what one declaration more makes
  pub made_more : (start old new : Described) → old ≡ fold after start (take i decls) → new ≡ after old x → new ≡ fold after start (take (i + 1) decls)
  made_more start old new before made =
      made ∙ ap (λ d. after d x) before ∙ sym (fold_push after start (take i decls) x) ∙ ap (fold after start) (sym (take-here decls i x here is))

  -- a declaration that lacks nothing is passed
  pub lack_past : (n m : ℕ) (old new : Described) (first : Option (ℕ × ℕ)) → new ≡ after old x → m ≡ next_number n x → IsLackOf old x None
      → IsFirstLackFrom m new (drop (i + 1) decls) first → IsFirstLackFrom n old (drop i decls) first
  lack_past n m old new first made next none later =
      let rest = drop (i + 1) decls in
      let at_number : IsFirstLackFrom (next_number n x) new rest first = subst (λ k. IsFirstLackFrom k new rest first) next later in
      let over : IsFirstLackFrom (next_number n x) (after old x) rest first = subst (λ d. IsFirstLackFrom (next_number n x) d rest first) made at_number in
      subst (λ ds. IsFirstLackFrom n old ds first) (sym from_here) (None, none, over)

  -- one that lacks something is the first
  pub lack_here : (n : ℕ) (old : Described) (lack : ℕ) → IsLackOf old x (Some lack) → IsFirstLackFrom n old (drop i decls) (Some (n, lack))
  lack_here n old lack lacks = subst (λ ds. IsFirstLackFrom n old ds (Some (n, lack))) (sym from_here) (Some lack, lacks, refl)

-- behind the last there is none
pub lack_end : (n : ℕ) (d : Described) (ds : List Decl) → ds ≡ [] → IsFirstLackFrom n d ds None
lack_end n d ds none = subst (λ xs. IsFirstLackFrom n d xs None) (sym none) refl
