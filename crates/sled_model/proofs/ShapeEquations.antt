-- What the shapes of a pattern are, and what is asked of them, at each variant that holds patterns, seen as lists.
use Rattle.std.proofs.Common.{◌≡◌, ℕ, Bool, true, false, ◌&&◌, List, ◌∷◌, map, refl, ap, ◌∙◌}
use Rattle.std.specs.List.{flat_map, list_all}
use Rattle.std.proofs.lemmas.List.Folds.{flat_map-map}
use Rattle.sled_model.specs.declared.pattern.Pattern.{Pattern, Row_of-Pattern, end_of-Pattern, more_of-Pattern, items-the_row-Pattern, items_hidden-the_row-Pattern-1}
use Rattle.sled_model.specs.declared.pattern.Argument.TheBlock.{hidden-the_row-Pattern-0, hidden-the_row-Pattern-1}
use denote.Hole.Carrier.{hidden}
use Rattle.sled_model.specs.declared.pattern.Pattern.TheVariants.{Both, Either, Chain, Label, Loose}
use Rattle.sled_model.specs.Shapes.{ShapeContext, shapes, row_shapes, fold_shapes, both_shape, chain_shape, loose_shape, conjunctions_agree, row_agrees, members_agree, chains_are_closed, row_is_closed, lefts_are_closed, sides_have_one_shape, row_has_one_shape, are_one_shape}

-- ---- rows

row_shapes-row : {n : _} (cx : ShapeContext) (ps : Row_of-Pattern n) → row_shapes cx ps ≡ map (shapes cx) (items-the_row-Pattern _ ps)
row_shapes-row cx end_of-Pattern = refl
row_shapes-row cx (more_of-Pattern p ps) = ap (λ sss. shapes cx p ∷ sss) (row_shapes-row cx ps)

row_agrees-row : {n : _} (cx : ShapeContext) (ps : Row_of-Pattern n) → row_agrees cx ps ≡ list_all (conjunctions_agree cx) (items-the_row-Pattern _ ps)
row_agrees-row cx end_of-Pattern = refl
row_agrees-row cx (more_of-Pattern p ps) = ap (λ b. conjunctions_agree cx p && b) (row_agrees-row cx ps)

row_is_closed-row : {n : _} (cx : ShapeContext) (ps : Row_of-Pattern n) → row_is_closed cx ps ≡ list_all (chains_are_closed cx) (items-the_row-Pattern _ ps)
row_is_closed-row cx end_of-Pattern = refl
row_is_closed-row cx (more_of-Pattern p ps) = ap (λ b. chains_are_closed cx p && b) (row_is_closed-row cx ps)

row_has_one_shape-row : {n : _} (cx : ShapeContext) (ps : Row_of-Pattern n) → row_has_one_shape cx ps ≡ list_all (sides_have_one_shape cx) (items-the_row-Pattern _ ps)
row_has_one_shape-row cx end_of-Pattern = refl
row_has_one_shape-row cx (more_of-Pattern p ps) = ap (λ b. sides_have_one_shape cx p && b) (row_has_one_shape-row cx ps)

-- ---- the hidden row of a list

module _ (cx : ShapeContext) (ps : List Pattern) where
  shapes_in : row_shapes cx (hidden-the_row-Pattern-1 ps) ≡ map (shapes cx) ps
  shapes_in = row_shapes-row cx (hidden-the_row-Pattern-1 ps) ∙ ap (map (shapes cx)) (items_hidden-the_row-Pattern-1 ps)

  agrees_in : row_agrees cx (hidden-the_row-Pattern-1 ps) ≡ list_all (conjunctions_agree cx) ps
  agrees_in = row_agrees-row cx (hidden-the_row-Pattern-1 ps) ∙ ap (list_all (conjunctions_agree cx)) (items_hidden-the_row-Pattern-1 ps)

  closed_in : row_is_closed cx (hidden-the_row-Pattern-1 ps) ≡ list_all (chains_are_closed cx) ps
  closed_in = row_is_closed-row cx (hidden-the_row-Pattern-1 ps) ∙ ap (list_all (chains_are_closed cx)) (items_hidden-the_row-Pattern-1 ps)

  alike_in : row_has_one_shape cx (hidden-the_row-Pattern-1 ps) ≡ list_all (sides_have_one_shape cx) ps
  alike_in = row_has_one_shape-row cx (hidden-the_row-Pattern-1 ps) ∙ ap (list_all (sides_have_one_shape cx)) (items_hidden-the_row-Pattern-1 ps)

  pub shapes-Both : shapes cx (Both ps) ≡ fold_shapes both_shape (map (shapes cx) ps)
  shapes-Both = ap (fold_shapes both_shape) shapes_in

  pub agree-Both : conjunctions_agree cx (Both ps) ≡ (list_all (conjunctions_agree cx) ps && members_agree (map (shapes cx) ps))
  agree-Both = ap (λ b. b && members_agree (row_shapes cx (hidden-the_row-Pattern-1 ps))) agrees_in ∙ ap (λ sss. list_all (conjunctions_agree cx) ps && members_agree sss) shapes_in

  pub closed-Both : chains_are_closed cx (Both ps) ≡ list_all (chains_are_closed cx) ps
  closed-Both = closed_in

  pub alike-Both : sides_have_one_shape cx (Both ps) ≡ list_all (sides_have_one_shape cx) ps
  alike-Both = alike_in

  pub shapes-Either : shapes cx (Either ps) ≡ flat_map (shapes cx) ps
  shapes-Either = ap (flat_map (λ ss. ss)) shapes_in ∙ flat_map-map (λ ss. ss) (shapes cx) ps

  pub agree-Either : conjunctions_agree cx (Either ps) ≡ list_all (conjunctions_agree cx) ps
  agree-Either = agrees_in

  pub closed-Either : chains_are_closed cx (Either ps) ≡ list_all (chains_are_closed cx) ps
  closed-Either = closed_in

  pub alike-Either : sides_have_one_shape cx (Either ps) ≡ (list_all (sides_have_one_shape cx) ps && are_one_shape (flat_map (shapes cx) ps))
  alike-Either = ap (λ b. b && are_one_shape (flat_map (λ ss. ss) (row_shapes cx (hidden-the_row-Pattern-1 ps)))) alike_in
      ∙ ap (λ ss. list_all (sides_have_one_shape cx) ps && are_one_shape ss) shapes-Either

  pub shapes-Chain : shapes cx (Chain ps) ≡ fold_shapes chain_shape (map (shapes cx) ps)
  shapes-Chain = ap (fold_shapes chain_shape) shapes_in

  pub agree-Chain : conjunctions_agree cx (Chain ps) ≡ list_all (conjunctions_agree cx) ps
  agree-Chain = agrees_in

  pub closed-Chain : chains_are_closed cx (Chain ps) ≡ (list_all (chains_are_closed cx) ps && lefts_are_closed (map (shapes cx) ps))
  closed-Chain = ap (λ b. b && lefts_are_closed (row_shapes cx (hidden-the_row-Pattern-1 ps))) closed_in ∙ ap (λ sss. list_all (chains_are_closed cx) ps && lefts_are_closed sss) shapes_in

  pub alike-Chain : sides_have_one_shape cx (Chain ps) ≡ list_all (sides_have_one_shape cx) ps
  alike-Chain = alike_in

-- ---- boxes

and_true : (b : Bool) → (b && true) ≡ b
and_true b = elim b as (λ c. (c && true) ≡ c) [ true ↦ refl | false ↦ refl ]

module _ (cx : ShapeContext) (p : Pattern) where
  pub shapes-Label : (l : ℕ) → shapes cx (Label l p) ≡ shapes cx p
  unfolding hidden-the_row-Pattern-0 hidden
  shapes-Label l = refl

  pub agree-Label : (l : ℕ) → conjunctions_agree cx (Label l p) ≡ conjunctions_agree cx p
  unfolding hidden-the_row-Pattern-0 hidden
  agree-Label l = and_true (conjunctions_agree cx p)

  pub closed-Label : (l : ℕ) → chains_are_closed cx (Label l p) ≡ chains_are_closed cx p
  unfolding hidden-the_row-Pattern-0 hidden
  closed-Label l = and_true (chains_are_closed cx p)

  pub alike-Label : (l : ℕ) → sides_have_one_shape cx (Label l p) ≡ sides_have_one_shape cx p
  unfolding hidden-the_row-Pattern-0 hidden
  alike-Label l = and_true (sides_have_one_shape cx p)

  pub shapes-Loose : shapes cx (Loose p) ≡ map loose_shape (shapes cx p)
  unfolding hidden-the_row-Pattern-0 hidden
  shapes-Loose = refl

  pub agree-Loose : conjunctions_agree cx (Loose p) ≡ conjunctions_agree cx p
  unfolding hidden-the_row-Pattern-0 hidden
  agree-Loose = and_true (conjunctions_agree cx p)

  pub closed-Loose : chains_are_closed cx (Loose p) ≡ chains_are_closed cx p
  unfolding hidden-the_row-Pattern-0 hidden
  closed-Loose = and_true (chains_are_closed cx p)

  pub alike-Loose : sides_have_one_shape cx (Loose p) ≡ sides_have_one_shape cx p
  unfolding hidden-the_row-Pattern-0 hidden
  alike-Loose = and_true (sides_have_one_shape cx p)
