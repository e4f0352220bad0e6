-- What the definitions of bindings are at each pattern that holds others, seen as lists, and what each step of the code adds.
use Rattle.std.proofs.Common.{◌≡◌, ℕ, ◌+◌, ◌<◌, Bool, true, false, cond, List, [], ◌∷◌, ◌++◌, map, take, get_or, length, refl, sym, ap, ◌∙◌}
use Rattle.std.specs.Prelude.{◌&&◌, Result, Ok, Err, IfOk}
use Rattle.std.specs.List.{list_all}
use Rattle.std.proofs.lemmas.List.{map-append, take_more}
use Rattle.std.proofs.lemmas.List.Folds.{list_all-append}
use Rattle.sled_parser.specs.declared.tree.PatternTree.{PatternTree, Row_of-PatternTree, end_of-PatternTree, more_of-PatternTree, items-the_row-PatternTree, items_hidden-the_row-PatternTree-0}
use Rattle.sled_parser.specs.declared.tree.PatternTree.TheBlock.{hidden-the_row-PatternTree-0, hidden-the_row-PatternTree-1}
use Rattle.sled_parser.specs.declared.tree.PatternTree.TheVariants.{Either, Chain, Both, Labelled, Loose, Group, Either', Chain', Both', Labelled', Loose', Group', Empty, Word, Limit, Apply}
use denote.Hole.Carrier.{hidden}
use Rattle.tree_meaning.specs.Bindings as plain
use Rattle.tree_meaning.specs.Bindings.{union, are_apart, have_same_names}
use Rattle.tree_meaning.specs.Names.{are_distinct, merged, are_new, are_same_names}
use Rattle.tree_meaning.specs.NameTables.{table_names}
use Rattle.tree_meaning.specs.Scopes.{Declared}
use Rattle.tree_meaning.proofs.Merging.{union_distinct, merged_alone, union_push, apart_push, same_push}
use Rattle.arm_meaning.specs.declared.bindings.Bindings.{Bindings}
use Rattle.arm_meaning.specs.Bound.{names_in, bound, row_bound, binds_once, row_binds_once, sides_bind_alike, row_binds_alike}
use Rattle.arm_meaning.specs.Bindings.{IsBindingsOf, AreBoundTogether, AreBoundApart}

module _ (d : Declared) where
  row_bound-row : {n : _} (ts : Row_of-PatternTree n) → row_bound d ts ≡ map (bound d) (items-the_row-PatternTree _ ts)
  row_bound-row end_of-PatternTree = refl
  row_bound-row (more_of-PatternTree t ts) = ap (λ rows. bound d t ∷ rows) (row_bound-row ts)

  row_once-row : {n : _} (ts : Row_of-PatternTree n) → row_binds_once d ts ≡ list_all (binds_once d) (items-the_row-PatternTree _ ts)
  row_once-row end_of-PatternTree = refl
  row_once-row (more_of-PatternTree t ts) = ap (λ rest. binds_once d t && rest) (row_once-row ts)

  row_alike-row : {n : _} (ts : Row_of-PatternTree n) → row_binds_alike d ts ≡ list_all (sides_bind_alike d) (items-the_row-PatternTree _ ts)
  row_alike-row end_of-PatternTree = refl
  row_alike-row (more_of-PatternTree t ts) = ap (λ rest. sides_bind_alike d t && rest) (row_alike-row ts)

  module _ (ts : List PatternTree) where
    list_bound : row_bound d (hidden-the_row-PatternTree-0 ts) ≡ map (bound d) ts
    list_bound = row_bound-row (hidden-the_row-PatternTree-0 ts) ∙ ap (map (bound d)) (items_hidden-the_row-PatternTree-0 ts)

    list_once : row_binds_once d (hidden-the_row-PatternTree-0 ts) ≡ list_all (binds_once d) ts
    list_once = row_once-row (hidden-the_row-PatternTree-0 ts) ∙ ap (list_all (binds_once d)) (items_hidden-the_row-PatternTree-0 ts)

    list_alike : row_binds_alike d (hidden-the_row-PatternTree-0 ts) ≡ list_all (sides_bind_alike d) ts
    list_alike = row_alike-row (hidden-the_row-PatternTree-0 ts) ∙ ap (list_all (sides_bind_alike d)) (items_hidden-the_row-PatternTree-0 ts)

  -- ---- patterns of lists

  pub bindings-Either : (ts : List PatternTree) (b : Bindings) → AreBoundApart d ts b → IsBindingsOf d (Either ts) b
  bindings-Either ts b is = record {
    names = is.names ∙ ap union (sym (list_bound ts));
    once = is.once ∙ sym (list_once ts);
    alike = is.alike ∙ ap (λ x. x && have_same_names (map (bound d) ts)) (sym (list_alike ts))
        ∙ ap (λ rows. row_binds_alike d (hidden-the_row-PatternTree-0 ts) && have_same_names rows) (sym (list_bound ts));
  }

  pub bindings-Chain : (ts : List PatternTree) (b : Bindings) → AreBoundTogether d ts b → IsBindingsOf d (Chain ts) b
  bindings-Chain ts b is = record {
    names = is.names ∙ ap union (sym (list_bound ts));
    once = is.once ∙ ap (λ x. x && are_apart [] (map (bound d) ts)) (sym (list_once ts))
        ∙ ap (λ rows. row_binds_once d (hidden-the_row-PatternTree-0 ts) && are_apart [] rows) (sym (list_bound ts));
    alike = is.alike ∙ sym (list_alike ts);
  }

  pub bindings-Both : (ts : List PatternTree) (b : Bindings) → AreBoundTogether d ts b → IsBindingsOf d (Both ts) b
  bindings-Both ts b is = record {
    names = is.names ∙ ap union (sym (list_bound ts));
    once = is.once ∙ ap (λ x. x && are_apart [] (map (bound d) ts)) (sym (list_once ts))
        ∙ ap (λ rows. row_binds_once d (hidden-the_row-PatternTree-0 ts) && are_apart [] rows) (sym (list_bound ts));
    alike = is.alike ∙ sym (list_alike ts);
  }

  -- ---- patterns of one pattern

  and_true : (t : Bool) → (t && true) ≡ t
  and_true true = refl
  and_true false = refl

  bound_distinct : (t : PatternTree) → are_distinct (bound d t) ≡ true
  bound_distinct (Either' s ts) = union_distinct (row_bound d ts)
  bound_distinct (Chain' s ts) = union_distinct (row_bound d ts)
  bound_distinct (Both' s ts) = union_distinct (row_bound d ts)
  bound_distinct (Labelled' l s t) = union_distinct ((l ∷ []) ∷ row_bound d t)
  bound_distinct (Loose' s t) = union_distinct (row_bound d t)
  bound_distinct (Group' s t) = union_distinct (row_bound d t)
  bound_distinct Empty = refl
  bound_distinct (Word w) = by_test (plain.word_binds d w) where
    by_test : (t : Bool) → are_distinct (cond t (w ∷ []) []) ≡ true
    by_test true = refl
    by_test false = refl
  bound_distinct (Limit f r v) = refl
  bound_distinct (Apply name arguments) = union_distinct (names_in arguments ∷ [])

  pub bindings-Loose : (t : PatternTree) (b : Bindings) → IsBindingsOf d t b → IsBindingsOf d (Loose t) b
  unfolding hidden-the_row-PatternTree-1 hidden
  bindings-Loose t b is = record {
    names = is.names ∙ sym (merged_alone (bound d t) (bound_distinct t));
    once = is.once ∙ sym (and_true (binds_once d t));
    alike = is.alike ∙ sym (and_true (sides_bind_alike d t));
  }

  pub bindings-Group : (t : PatternTree) (b : Bindings) → IsBindingsOf d t b → IsBindingsOf d (Group t) b
  unfolding hidden-the_row-PatternTree-1 hidden
  bindings-Group t b is = record {
    names = is.names ∙ sym (merged_alone (bound d t) (bound_distinct t));
    once = is.once ∙ sym (and_true (binds_once d t));
    alike = is.alike ∙ sym (and_true (sides_bind_alike d t));
  }

  bindings-Labelled : (l : List ℕ) (t : PatternTree) (inner b : Bindings) → IsBindingsOf d t inner
      → table_names b.names ≡ merged (l ∷ []) (table_names inner.names)
      → b.once ≡ (inner.once && are_new (l ∷ []) (table_names inner.names)) → b.alike ≡ inner.alike
      → IsBindingsOf d (Labelled l t) b
  unfolding hidden-the_row-PatternTree-1 hidden
  bindings-Labelled l t inner b is names once alike = record {
    names = names ∙ ap (merged (l ∷ [])) is.names;
    once = once ∙ ap (λ x. x && are_new (l ∷ []) (table_names inner.names)) is.once ∙ ap (λ ns. binds_once d t && are_new (l ∷ []) ns) is.names
        ∙ sym (ap (λ x. x && (are_new (l ∷ []) (bound d t) && true)) (and_true (binds_once d t)) ∙ ap (λ x. binds_once d t && x) (and_true (are_new (l ∷ []) (bound d t))));
    alike = alike ∙ is.alike ∙ sym (and_true (sides_bind_alike d t));
  }

  pub labelled-Labelled : {E : Type 0} (r : Result Bindings E) (l : List ℕ) (t : PatternTree) (inner : Bindings) → IsBindingsOf d t inner
      → IfOk r (λ b. table_names b.names ≡ merged (l ∷ []) (table_names inner.names))
      → IfOk r (λ b. b.once ≡ (inner.once && are_new (l ∷ []) (table_names inner.names)))
      → IfOk r (λ b. b.alike ≡ inner.alike)
      → IfOk r (IsBindingsOf d (Labelled l t))
  labelled-Labelled (Ok b) l t inner is names once alike = bindings-Labelled l t inner b is names once alike
  labelled-Labelled (Err e) l t inner is names once alike = tt

  -- ---- one pattern more

  both_moved : (o a p n : Bool) → (((o && a) && p) && n) ≡ ((o && (p && true)) && (a && n))
  both_moved true true p n = ap (λ x. x && n) (sym (and_true p))
  both_moved true false p n = sym (and_false (p && true))
    where
      and_false : (t : Bool) → (t && false) ≡ false
      and_false true = refl
      and_false false = refl
  both_moved false a p n = refl

  and_end : (a b : Bool) → (a && b) ≡ (a && (b && true))
  and_end a b = ap (λ x. a && x) (sym (and_true b))

  module _ (ts : List PatternTree) (i : ℕ) (t : PatternTree) (within : i < length ts) (at : t ≡ get_or ts i t) where
    taken : take (i + 1) ts ≡ take i ts ++ t ∷ []
    taken = take_more ts i t within ∙ ap (λ x. take i ts ++ x ∷ []) (sym at)

  together_push : (ts : List PatternTree) (t : PatternTree) (found next b : Bindings) → AreBoundTogether d ts found → IsBindingsOf d t next
      → table_names b.names ≡ merged (table_names found.names) (table_names next.names)
      → b.once ≡ (found.once && next.once && are_new (table_names found.names) (table_names next.names))
      → b.alike ≡ (found.alike && next.alike) → AreBoundTogether d (ts ++ t ∷ []) b
  together_push ts t found next b was is names once alike = record {
    names = names ∙ ap (λ ns. merged ns (table_names next.names)) was.names ∙ ap (merged (union (map (bound d) ts))) is.names
        ∙ sym (ap union (map-append (bound d) ts (t ∷ [])) ∙ union_push (map (bound d) ts) (bound d t));
    once = once ∙ ap (λ ns. found.once && next.once && are_new ns (table_names next.names)) was.names
        ∙ ap (λ ns. found.once && next.once && are_new (union (map (bound d) ts)) ns) is.names
        ∙ ap (λ x. x && next.once && are_new (union (map (bound d) ts)) (bound d t)) was.once
        ∙ ap (λ x. (list_all (binds_once d) ts && are_apart [] (map (bound d) ts)) && x && are_new (union (map (bound d) ts)) (bound d t)) is.once
        ∙ both_moved (list_all (binds_once d) ts) (are_apart [] (map (bound d) ts)) (binds_once d t) (are_new (union (map (bound d) ts)) (bound d t))
        ∙ sym (ap (λ x. x && are_apart [] (map (bound d) (ts ++ t ∷ []))) (list_all-append (binds_once d) ts (t ∷ []))
        ∙ ap (λ rows. (list_all (binds_once d) ts && (binds_once d t && true)) && are_apart [] rows) (map-append (bound d) ts (t ∷ []))
        ∙ ap (λ x. (list_all (binds_once d) ts && (binds_once d t && true)) && x) (apart_push (map (bound d) ts) (bound d t)));
    alike = alike ∙ ap (λ x. x && next.alike) was.alike ∙ ap (λ x. list_all (sides_bind_alike d) ts && x) is.alike
        ∙ and_end (list_all (sides_bind_alike d) ts) (sides_bind_alike d t) ∙ sym (list_all-append (sides_bind_alike d) ts (t ∷ []));
  }

  pub together_taken : (ts : List PatternTree) (i : ℕ) (t : PatternTree) → i < length ts → t ≡ get_or ts i t → (found next b : Bindings)
      → AreBoundTogether d (take i ts) found → IsBindingsOf d t next
      → table_names b.names ≡ merged (table_names found.names) (table_names next.names)
      → b.once ≡ (found.once && next.once && are_new (table_names found.names) (table_names next.names))
      → b.alike ≡ (found.alike && next.alike) → AreBoundTogether d (take (i + 1) ts) b
  together_taken ts i t within at found next b was is names once alike =
      rw (taken ts i t within at) (together_push (take i ts) t found next b was is names once alike)

  -- one side alone
  pub apart_one : (t : PatternTree) (b : Bindings) → IsBindingsOf d t b → AreBoundApart d (t ∷ []) b
  apart_one t b is = record {
    names = is.names ∙ sym (merged_alone (bound d t) (bound_distinct t));
    once = is.once ∙ sym (and_true (binds_once d t));
    alike = is.alike ∙ sym (and_true (sides_bind_alike d t)) ∙ sym (and_true (sides_bind_alike d t && true));
  }

  apart_push_side : (x : PatternTree) (ts : List PatternTree) (t : PatternTree) (found side b : Bindings) → AreBoundApart d (x ∷ ts) found → IsBindingsOf d t side
      → table_names b.names ≡ merged (table_names found.names) (table_names side.names)
      → b.once ≡ (found.once && side.once)
      → b.alike ≡ (found.alike && side.alike && are_same_names (table_names found.names) (table_names side.names))
      → AreBoundApart d ((x ∷ ts) ++ t ∷ []) b
  apart_push_side x ts t found side b was is names once alike =
      let rows = map (bound d) (x ∷ ts) in
      record {
        names = names ∙ ap (λ ns. merged ns (table_names side.names)) was.names ∙ ap (merged (union rows)) is.names
            ∙ sym (ap union (map-append (bound d) (x ∷ ts) (t ∷ [])) ∙ union_push rows (bound d t));
        once = once ∙ ap (λ z. z && side.once) was.once ∙ ap (λ z. list_all (binds_once d) (x ∷ ts) && z) is.once
            ∙ and_end (list_all (binds_once d) (x ∷ ts)) (binds_once d t) ∙ sym (list_all-append (binds_once d) (x ∷ ts) (t ∷ []));
        alike = alike ∙ ap (λ ns. found.alike && side.alike && are_same_names ns (table_names side.names)) was.names
            ∙ ap (λ ns. found.alike && side.alike && are_same_names (union rows) ns) is.names
            ∙ ap (λ z. z && side.alike && are_same_names (union rows) (bound d t)) was.alike
            ∙ ap (λ z. (list_all (sides_bind_alike d) (x ∷ ts) && have_same_names rows) && z && are_same_names (union rows) (bound d t)) is.alike
            ∙ both_moved (list_all (sides_bind_alike d) (x ∷ ts)) (have_same_names rows) (sides_bind_alike d t) (are_same_names (union rows) (bound d t))
            ∙ sym (ap (λ z. z && have_same_names (map (bound d) ((x ∷ ts) ++ t ∷ []))) (list_all-append (sides_bind_alike d) (x ∷ ts) (t ∷ []))
            ∙ ap (λ rs. (list_all (sides_bind_alike d) (x ∷ ts) && (sides_bind_alike d t && true)) && have_same_names rs) (map-append (bound d) (x ∷ ts) (t ∷ []))
            ∙ ap (λ z. (list_all (sides_bind_alike d) (x ∷ ts) && (sides_bind_alike d t && true)) && z) (same_push (bound d x) (bound d t) (map (bound d) ts) (bound_distinct x)));
      }

  pub apart_taken : (x : PatternTree) (ts : List PatternTree) (i : ℕ) (t : PatternTree) → i < length ts → t ≡ get_or ts i t → (found side b : Bindings)
      → AreBoundApart d (x ∷ take i ts) found → IsBindingsOf d t side
      → table_names b.names ≡ merged (table_names found.names) (table_names side.names)
      → b.once ≡ (found.once && side.once)
      → b.alike ≡ (found.alike && side.alike && are_same_names (table_names found.names) (table_names side.names))
      → AreBoundApart d (x ∷ take (i + 1) ts) b
  apart_taken x ts i t within at found side b was is names once alike =
      rw (taken ts i t within at) (apart_push_side x (take i ts) t found side b was is names once alike)
