-- The operands of a pattern, and what arguments admit, seen as lists.
use Rattle.std.proofs.Common.{◌≡◌, ℕ, ◌+◌, Bool, true, cond, List, [], ◌∷◌, ◌++◌, map, filter, Option, Some, None, slice_get, refl, sym, ap, ◌∙◌}
use Rattle.std.specs.Prelude.{◌&&◌, ◌==◌}
use Rattle.std.specs.Option.{option_map, option_map_or}
use Rattle.std.specs.List.{flat_map}
use Rattle.std.proofs.lemmas.List.{append-nil}
use Rattle.sled_model.specs.declared.constructor.Constructor.{Constructor}
use Rattle.sled_model.specs.declared.constructor.ConstructorId.{ConstructorId}
use Rattle.sled_model.specs.declared.raw.Raw.{Raw}
use Rattle.sled_model.specs.declared.raw.RawEntry.{RawEntry, items-the_row-RawEntry, items_hidden-the_row-RawEntry-0}
use Rattle.sled_model.specs.declared.raw.RawEntry.TheBlock.{hidden-the_row-RawEntry-0}
use Rattle.sled_model.specs.declared.raw.RawEntry.TheVariants.{Choice}
use Rattle.sled_model.specs.declared.pattern.Argument.{Argument}
use Rattle.sled_model.specs.declared.pattern.Argument.TheVariants.{Inner}
use Rattle.sled_model.specs.declared.pattern.Pattern.{Pattern, Row_of-Pattern, end_of-Pattern, more_of-Pattern, Row_of-Argument, end_of-Argument, more_of-Argument, items-the_row-Pattern, items_hidden-the_row-Pattern-1, items-the_row-Argument, items_hidden-the_row-Argument-2}
use Rattle.sled_model.specs.declared.pattern.Argument.TheBlock.{hidden-the_row-Pattern-0, hidden-the_row-Pattern-1, hidden-the_row-Argument-2}
use denote.Hole.Carrier.{hidden}
use Rattle.sled_model.specs.declared.pattern.Pattern.TheVariants.{Both, Either, Chain, Label, Loose, Apply}
use Rattle.sled_model.specs.Results.{Known, Context, results, results_from, choice_match, operands_in, operands_in_row, argument_admits, application_admits, arguments_admit, choice_of}
use Rattle.sled_model.specs.Admitted.{list_admits, applied}
use Rattle.sled_model.proofs.Equations.{results-Both, results-Either, results-Chain, results-Loose, results-Label}

operands_in-row : {n : _} (ps : Row_of-Pattern n) → operands_in_row ps ≡ flat_map operands_in (items-the_row-Pattern _ ps)
operands_in-row end_of-Pattern = refl
operands_in-row (more_of-Pattern p ps) = ap (λ ks. operands_in p ++ ks) (operands_in-row ps)

operands_in_list : (ps : List Pattern) → operands_in_row (hidden-the_row-Pattern-1 ps) ≡ flat_map operands_in ps
operands_in_list ps = operands_in-row (hidden-the_row-Pattern-1 ps) ∙ ap (flat_map operands_in) (items_hidden-the_row-Pattern-1 ps)

pub operands_in-Both : (ps : List Pattern) → operands_in (Both ps) ≡ flat_map operands_in ps
operands_in-Both ps = operands_in_list ps

pub operands_in-Either : (ps : List Pattern) → operands_in (Either ps) ≡ flat_map operands_in ps
operands_in-Either ps = operands_in_list ps

pub operands_in-Chain : (ps : List Pattern) → operands_in (Chain ps) ≡ flat_map operands_in ps
operands_in-Chain ps = operands_in_list ps

pub operands_in-Loose : (p : Pattern) → operands_in (Loose p) ≡ operands_in p
unfolding hidden-the_row-Pattern-0 hidden
operands_in-Loose p = append-nil (operands_in p)

pub operands_in-Label : (l : ℕ) (p : Pattern) → operands_in (Label l p) ≡ operands_in p
unfolding hidden-the_row-Pattern-0 hidden
operands_in-Label l p = append-nil (operands_in p)

pub ruleset operands_in_laws = (operands_in-Both, operands_in-Either, operands_in-Chain, operands_in-Loose, operands_in-Label)

-- ---- arguments

arguments_admit-row : {n : _} (known : List Known) (c : Known) (inner : List RawEntry) (j : ℕ) (arguments : Row_of-Argument n)
    → arguments_admit known (Some c) inner j arguments ≡ list_admits known c.constructor inner j (items-the_row-Argument _ arguments)
arguments_admit-row known c inner j end_of-Argument = refl
arguments_admit-row known c inner j (more_of-Argument a arguments) =
    ap (λ t. argument_admits known (choice_of c.constructor inner j) a && t) (arguments_admit-row known c inner (j + 1) arguments)

-- those of a constructor that is not known admit all
abbrev pub known_admits : List Known → Option Known → List RawEntry → List Argument → Bool
known_admits known c inner arguments = option_map_or (λ (k : Known). list_admits known k.constructor inner 0 arguments) c true

pub argument_admits-Inner : (known : List Known) (choice : Option RawEntry) (p : Pattern) → argument_admits known choice (Inner p) ≡ application_admits known choice p
unfolding hidden-the_row-Pattern-0 hidden
argument_admits-Inner known choice p = refl

admitted_of : {n : _} (known : List Known) (c : Option Known) (inner : List RawEntry) (arguments : Row_of-Argument n)
    → arguments_admit known c inner 0 arguments ≡ known_admits known c inner (items-the_row-Argument _ arguments)
admitted_of known None inner end_of-Argument = refl
admitted_of known None inner (more_of-Argument a arguments) = refl
admitted_of known (Some c) inner arguments = arguments_admit-row known c inner 0 arguments

pub application_admits-Apply : (known : List Known) (j k : ConstructorId) (inner : Raw) (taken arguments : List Argument)
    → application_admits known (Some (Choice j inner taken)) (Apply k arguments) ≡ ((j.0 == k.0) && known_admits known (slice_get known k.0) inner.entries arguments)
application_admits-Apply known j k inner taken arguments =
    let c = slice_get known k.0 in
    ap (λ t. (j.0 == k.0) && t)
    (admitted_of known c (items-the_row-RawEntry _ (hidden-the_row-RawEntry-0 inner.entries)) (hidden-the_row-Argument-2 arguments)
    ∙ ap (known_admits known c (items-the_row-RawEntry _ (hidden-the_row-RawEntry-0 inner.entries))) (items_hidden-the_row-Argument-2 arguments)
    ∙ ap (λ es. known_admits known c es arguments) (items_hidden-the_row-RawEntry-0 inner.entries))

-- ---- results

filter_same : {A : Type 0} (p q : A → Bool) → ((x : A) → p x ≡ q x) → (xs : List A) → filter p xs ≡ filter q xs
filter_same p q same [] = refl
filter_same p q same (x ∷ xs) = ap (λ b. cond b (x ∷ filter p xs) (filter p xs)) (same x) ∙ ap (λ ys. cond (q x) (x ∷ ys) ys) (filter_same p q same xs)

pub results-Apply : (cx : Context) (k : ConstructorId) (arguments : List Argument) (bytes : List ℕ) (i : ℕ) → results cx (Apply k arguments) bytes i ≡ applied cx.known k.0 arguments bytes i
results-Apply cx k arguments bytes i =
    by_known (slice_get cx.known k.0) refl
    ∙ ap (λ xs. results_from (slice_get cx.known k.0) (λ c. map (choice_match k.0 xs) (filter (λ a. list_admits cx.known c.constructor a.binds 0 arguments) (c.body bytes i)))) (items_hidden-the_row-Argument-2 arguments)
  where
    by_known : (o : Option Known) → slice_get cx.known k.0 ≡ o
        → results_from o (λ c. map (choice_match k.0 (items-the_row-Argument _ (hidden-the_row-Argument-2 arguments))) (filter (λ a. arguments_admit cx.known (slice_get cx.known k.0) a.binds 0 (hidden-the_row-Argument-2 arguments)) (c.body bytes i)))
        ≡ results_from o (λ c. map (choice_match k.0 (items-the_row-Argument _ (hidden-the_row-Argument-2 arguments))) (filter (λ a. list_admits cx.known c.constructor a.binds 0 arguments) (c.body bytes i)))
    by_known None e = refl
    by_known (Some c) e =
        ap (map (choice_match k.0 (items-the_row-Argument _ (hidden-the_row-Argument-2 arguments))))
        (filter_same (λ a. arguments_admit cx.known (slice_get cx.known k.0) a.binds 0 (hidden-the_row-Argument-2 arguments)) (λ a. list_admits cx.known c.constructor a.binds 0 arguments)
        (λ a. ap (λ o. arguments_admit cx.known o a.binds 0 (hidden-the_row-Argument-2 arguments)) e ∙ arguments_admit-row cx.known c a.binds 0 (hidden-the_row-Argument-2 arguments) ∙ ap (list_admits cx.known c.constructor a.binds 0) (items_hidden-the_row-Argument-2 arguments))
        (c.body bytes i))

pub ruleset all_results_laws = (results-Both, results-Either, results-Chain, results-Loose, results-Label, results-Apply)

-- the constructor of a known number
pub admits_none : (known : List Known) (c : Option Known) (inner : List RawEntry) (arguments : List Argument) → option_map (λ (k : Known). k.constructor) c ≡ None → known_admits known c inner arguments ≡ true
admits_none known None inner arguments e = refl
admits_none known (Some c) inner arguments e = cc

pub admits_some : (known : List Known) (c : Option Known) (inner : List RawEntry) (arguments : List Argument) (k : Constructor) → option_map (λ (k : Known). k.constructor) c ≡ Some k
    → known_admits known c inner arguments ≡ list_admits known k inner 0 arguments
admits_some known None inner arguments k e = cc
admits_some known (Some c) inner arguments k e = let same : c.constructor ≡ k = cc in ap (λ d. list_admits known d inner 0 arguments) same
