-- The form of a pattern from those of its parts.
use Rattle.std.proofs.Common.{◌≡◌, ◌≤◌, ℕ, Contains, Bool, true, false, ◌&&◌, List, [], ◌∷◌, ◌++◌, map, reverse, refl, sym, ap, ◌∙◌, subst}
use Rattle.std.specs.List.{flat_map, list_all}
use Rattle.token_bits.specs.declared.tokens.Tokens.{Tokens}
use Rattle.sled_model.specs.declared.shape.Shape.{Shape}
use Rattle.sled_model.specs.declared.pattern.Pattern.{Pattern}
use Rattle.sled_model.specs.declared.pattern.Pattern.TheVariants.{Operand, Both, Either, Chain, Label, Loose}
use Rattle.sled_model.specs.Shapes.{ShapeContext, shapes, each_with, fold_shapes, both_shape, chain_shape, loose_shape, all_agree, members_agree, are_closed, lefts_are_closed, are_one_shape, lengths_within, conjunctions_agree, chains_are_closed, sides_have_one_shape}
use Rattle.sled_model.specs.declared.raw.Match.{Match}
use Rattle.sled_model.specs.Results.{Context, results}
use Rattle.sled_model.proofs.ShapeResults.{HasItsShapes, results_within}
use Rattle.sled_model.proofs.ShapeContexts.{HasSameForm}
use Rattle.sled_model.proofs.ShapeLemmas.{all_agree-same, are_closed-same, are_one_shape-same, lengths_within-same}
use Rattle.sled_model.proofs.ShapeEquations.{shapes-Both, agree-Both, closed-Both, alike-Both, shapes-Either, agree-Either, closed-Either, alike-Either, shapes-Chain, agree-Chain, closed-Chain, alike-Chain, shapes-Label, agree-Label, closed-Label, alike-Label, shapes-Loose, agree-Loose, closed-Loose, alike-Loose}
use Rattle.pattern_shapes.specs.declared.form.Form.{Form}
use Rattle.pattern_shapes.specs.Forms.{SameMembers, IsOnce, with_shapes, IsForm, IsFormOf, IsFormOfBoth, IsFormOfAny, IsFormOfChain}
use Rattle.pattern_shapes.proofs.Joined.{same_self, same_then, same_distinct, same_with, same_loose, same_product, with_shapes_once, once_none, once_one}
use Rattle.pattern_shapes.proofs.Steps.{and_pairs, and_implied, list_all_push, fold_shapes_push, flat_map_push, members_agree_push, lefts_are_closed_push, all_closed_push, lefts_from_all}

-- a form of these is one of equal ones
form_along : (ss ts : List Shape) (agree agree' closed closed' alike alike' : Bool) (form : Form) → ss ≡ ts → agree ≡ agree' → closed ≡ closed' → alike ≡ alike'
    → IsForm ss agree closed alike form → IsForm ts agree' closed' alike' form
form_along ss ts agree agree' closed closed' alike alike' form e a c o h = record {
  members = subst (SameMembers form.shapes) e h.members;
  once = h.once;
  agree = h.agree ∙ a;
  closed = h.closed ∙ c;
  alike = h.alike ∙ o;
}

and_both : (a a' b b' : Bool) → a ≡ a' → b ≡ b' → (a && b) ≡ (a' && b')
and_both a a' b b' e f = ap (λ x. x && b) e ∙ ap (λ x. a' && x) f

and_true : (b : Bool) → b ≡ (b && true)
and_true true = refl
and_true false = refl

-- ---- what a caller asks of a form

pub closed_of_form : (cx : ShapeContext) (p : Pattern) (form : Form) → IsFormOf cx p form → are_closed form.shapes ≡ are_closed (shapes cx p)
closed_of_form cx p form h = are_closed-same form.shapes (shapes cx p) h.members

pub lengths_of_form : (least most : ℕ) (tokens : Tokens) (cx : ShapeContext) (p : Pattern) (form : Form) → IsFormOf cx p form
    → lengths_within least most tokens form.shapes ≡ lengths_within least most tokens (shapes cx p)
lengths_of_form least most tokens cx p form h = lengths_within-same least most tokens form.shapes (shapes cx p) h.members

-- so each result of a pattern whose results have its shapes has a length in the range in which the form's shapes are
pub results_of_form : (cx : Context) (sx : ShapeContext) (p : Pattern) (form : Form) (least most : ℕ) → HasItsShapes cx sx p → IsFormOf sx p form
    → lengths_within least most sx.tokens form.shapes ≡ true → (bytes : List ℕ) (i : ℕ) (a : Match) → Contains (results cx p bytes i) a → (least ≤ a.len) × (a.len ≤ most)
results_of_form cx sx p form least most shaped h within =
    results_within cx sx p shaped least most (sym (lengths_of_form least most sx.tokens sx p form h) ∙ within)

-- a form of the pattern in one context is its form in each other in which it has the same shapes, as it has where the operands have
-- the same shapes, apart from repeats and order, and it has no application
pub form_elsewhere : (cx dx : ShapeContext) (p : Pattern) (form : Form) → HasSameForm cx dx p → IsFormOf cx p form → IsFormOf dx p form
form_elsewhere cx dx p form same h = record {
  members = same_then form.shapes (shapes cx p) (shapes dx p) h.members same.members;
  once = h.once;
  agree = h.agree ∙ same.agree;
  closed = h.closed ∙ same.closed;
  alike = h.alike ∙ same.alike;
}

-- ---- forms in which there is nothing to ask

pub plain_none : IsForm [] true true true (record { shapes = []; agree = true; closed = true; alike = true })
plain_none = record { members = same_self []; once = once_none; agree = refl; closed = refl; alike = refl }

pub plain_one : (a : Shape) → IsForm (a ∷ []) true true true (record { shapes = a ∷ []; agree = true; closed = true; alike = true })
plain_one a = record { members = same_self (a ∷ []); once = once_one a; agree = refl; closed = refl; alike = refl }

pub operand_form : (cx : ShapeContext) (k : ℕ) (ss : List Shape) → ss ≡ with_shapes [] (cx.operands k)
    → IsFormOf cx (Operand k) (record { shapes = ss; agree = true; closed = true; alike = true })
operand_form cx k ss e = record {
  members = subst (λ us. SameMembers us (cx.operands k)) (sym e) (same_distinct (cx.operands k));
  once = subst IsOnce (sym e) (with_shapes_once [] (cx.operands k) once_none);
  agree = refl;
  closed = refl;
  alike = refl;
}

-- ---- conjunctions

pub both_first : (cx : ShapeContext) (p : Pattern) (form : Form) → IsFormOf cx p form → IsFormOfBoth cx (p ∷ []) form
both_first cx p form = form_along _ _ _ _ _ _ _ _ form refl
    (and_true (conjunctions_agree cx p) ∙ and_true (conjunctions_agree cx p && true)) (and_true (chains_are_closed cx p)) (and_true (sides_have_one_shape cx p))

pub both_next : (cx : ShapeContext) (p : Pattern) (ps : List Pattern) (q : Pattern) (form next whole : Form) → IsFormOfBoth cx (p ∷ ps) form → IsFormOf cx q next
    → whole.shapes ≡ with_shapes [] (each_with both_shape form.shapes next.shapes)
    → whole.agree ≡ (form.agree && (next.agree && all_agree form.shapes next.shapes))
    → whole.closed ≡ (form.closed && next.closed)
    → whole.alike ≡ (form.alike && next.alike)
    → IsFormOfBoth cx (p ∷ (ps ++ q ∷ [])) whole
both_next cx p ps q form next whole h g es ea ec eo =
    let f = shapes cx in let all = fold_shapes both_shape (map f (p ∷ ps)) in
    let a = conjunctions_agree cx in let c = chains_are_closed cx in let o = sides_have_one_shape cx in
    record {
      members = subst (λ us. SameMembers us (fold_shapes both_shape (map f (p ∷ (ps ++ q ∷ []))))) (sym es)
          (subst (SameMembers (with_shapes [] (each_with both_shape form.shapes next.shapes))) (sym (fold_shapes_push both_shape f p ps q))
          (same_product both_shape form.shapes all next.shapes (f q) h.members g.members));
      once = subst (λ us. IsOnce us) (sym es) (with_shapes_once [] (each_with both_shape form.shapes next.shapes) once_none);
      agree = ea
          ∙ and_both form.agree (list_all a (p ∷ ps) && members_agree (map f (p ∷ ps))) (next.agree && all_agree form.shapes next.shapes) (a q && all_agree all (f q)) h.agree
          (and_both next.agree (a q) (all_agree form.shapes next.shapes) (all_agree all (f q)) g.agree (all_agree-same form.shapes all next.shapes (f q) h.members g.members))
          ∙ and_pairs (list_all a (p ∷ ps)) (members_agree (map f (p ∷ ps))) (a q) (all_agree all (f q))
          ∙ and_both (list_all a (p ∷ ps) && a q) (list_all a (p ∷ (ps ++ q ∷ []))) (members_agree (map f (p ∷ ps)) && all_agree all (f q)) (members_agree (map f (p ∷ (ps ++ q ∷ []))))
          (sym (list_all_push a (p ∷ ps) q)) (sym (members_agree_push f p ps q));
      closed = ec ∙ and_both form.closed (list_all c (p ∷ ps)) next.closed (c q) h.closed g.closed ∙ sym (list_all_push c (p ∷ ps) q);
      alike = eo ∙ and_both form.alike (list_all o (p ∷ ps)) next.alike (o q) h.alike g.alike ∙ sym (list_all_push o (p ∷ ps) q);
    }

pub both_form_of : (cx : ShapeContext) (ps : List Pattern) (form : Form) → IsFormOfBoth cx ps form → IsFormOf cx (Both ps) form
both_form_of cx ps form = form_along _ _ _ _ _ _ _ _ form
    (sym (shapes-Both cx ps)) (sym (agree-Both cx ps)) (sym (closed-Both cx ps)) (sym (alike-Both cx ps))

-- ---- disjunctions

pub any_next : (cx : ShapeContext) (ps : List Pattern) (q : Pattern) (form next whole : Form) → IsFormOfAny cx ps form → IsFormOf cx q next
    → whole.shapes ≡ with_shapes form.shapes (reverse next.shapes)
    → whole.agree ≡ (form.agree && next.agree)
    → whole.closed ≡ (form.closed && next.closed)
    → whole.alike ≡ (form.alike && next.alike)
    → IsFormOfAny cx (ps ++ q ∷ []) whole
any_next cx ps q form next whole h g es ea ec eo =
    let f = shapes cx in
    let a = conjunctions_agree cx in let c = chains_are_closed cx in let o = sides_have_one_shape cx in
    record {
      members = subst (λ us. SameMembers us (flat_map f (ps ++ q ∷ []))) (sym es)
          (subst (SameMembers (with_shapes form.shapes (reverse next.shapes))) (sym (flat_map_push f ps q))
          (same_with form.shapes (flat_map f ps) next.shapes (f q) h.members g.members));
      once = subst (λ us. IsOnce us) (sym es) (with_shapes_once form.shapes (reverse next.shapes) h.once);
      agree = ea ∙ and_both form.agree (list_all a ps) next.agree (a q) h.agree g.agree ∙ sym (list_all_push a ps q);
      closed = ec ∙ and_both form.closed (list_all c ps) next.closed (c q) h.closed g.closed ∙ sym (list_all_push c ps q);
      alike = eo ∙ and_both form.alike (list_all o ps) next.alike (o q) h.alike g.alike ∙ sym (list_all_push o ps q);
    }

pub either_form_of : (cx : ShapeContext) (ps : List Pattern) (form : Form) → IsFormOfAny cx ps form
    → IsFormOf cx (Either ps) (record form { alike = form.alike && are_one_shape form.shapes })
either_form_of cx ps form h = form_along _ _ _ _ _ _ _ _ (record form { alike = form.alike && are_one_shape form.shapes })
    (sym (shapes-Either cx ps)) (sym (agree-Either cx ps)) (sym (closed-Either cx ps)) (sym (alike-Either cx ps))
    (record {
      members = h.members;
      once = h.once;
      agree = h.agree;
      closed = h.closed;
      alike = and_both form.alike (list_all (sides_have_one_shape cx) ps) (are_one_shape form.shapes) (are_one_shape (flat_map (shapes cx) ps)) h.alike
          (are_one_shape-same form.shapes (flat_map (shapes cx) ps) h.members);
    })

-- ---- chains

pub chain_first : (cx : ShapeContext) (p : Pattern) (form : Form) → IsFormOf cx p form → IsFormOfChain cx (p ∷ []) form
chain_first cx p form = form_along _ _ _ _ _ _ _ _ form refl (and_true (conjunctions_agree cx p))
    (and_true (chains_are_closed cx p) ∙ and_true (chains_are_closed cx p && true)) (and_true (sides_have_one_shape cx p))

pub chain_next : (cx : ShapeContext) (p : Pattern) (ps : List Pattern) (q : Pattern) (form next whole : Form) (before : Bool)
    → before ≡ list_all are_closed (map (shapes cx) (p ∷ ps))
    → IsFormOfChain cx (p ∷ ps) form → IsFormOf cx q next
    → whole.shapes ≡ with_shapes [] (each_with chain_shape form.shapes next.shapes)
    → whole.agree ≡ (form.agree && next.agree)
    → whole.closed ≡ (form.closed && (next.closed && before))
    → whole.alike ≡ (form.alike && next.alike)
    → IsFormOfChain cx (p ∷ (ps ++ q ∷ [])) whole
chain_next cx p ps q form next whole before is h g es ea ec eo =
    let f = shapes cx in let all = fold_shapes chain_shape (map f (p ∷ ps)) in
    let a = conjunctions_agree cx in let c = chains_are_closed cx in let o = sides_have_one_shape cx in
    let ended = list_all are_closed (map f (p ∷ ps)) in
    record {
      members = subst (λ us. SameMembers us (fold_shapes chain_shape (map f (p ∷ (ps ++ q ∷ []))))) (sym es)
          (subst (SameMembers (with_shapes [] (each_with chain_shape form.shapes next.shapes))) (sym (fold_shapes_push chain_shape f p ps q))
          (same_product chain_shape form.shapes all next.shapes (f q) h.members g.members));
      once = subst (λ us. IsOnce us) (sym es) (with_shapes_once [] (each_with chain_shape form.shapes next.shapes) once_none);
      agree = ea ∙ and_both form.agree (list_all a (p ∷ ps)) next.agree (a q) h.agree g.agree ∙ sym (list_all_push a (p ∷ ps) q);
      closed = ec
          ∙ and_both form.closed (list_all c (p ∷ ps) && lefts_are_closed (map f (p ∷ ps))) (next.closed && before) (c q && ended) h.closed (and_both next.closed (c q) before ended g.closed is)
          ∙ and_implied (list_all c (p ∷ ps)) (lefts_are_closed (map f (p ∷ ps))) (c q) ended (lefts_from_all (map f (p ∷ ps)))
          ∙ and_both (list_all c (p ∷ ps) && c q) (list_all c (p ∷ (ps ++ q ∷ []))) ended (lefts_are_closed (map f (p ∷ (ps ++ q ∷ []))))
          (sym (list_all_push c (p ∷ ps) q)) (sym (lefts_are_closed_push f p ps q));
      alike = eo ∙ and_both form.alike (list_all o (p ∷ ps)) next.alike (o q) h.alike g.alike ∙ sym (list_all_push o (p ∷ ps) q);
    }

pub ended_next : (cx : ShapeContext) (p : Pattern) (ps : List Pattern) (q : Pattern) (before last : Bool) → before ≡ list_all are_closed (map (shapes cx) (p ∷ ps))
    → last ≡ are_closed (shapes cx q) → (before && last) ≡ list_all are_closed (map (shapes cx) (p ∷ (ps ++ q ∷ [])))
ended_next cx p ps q before last e f =
    and_both before (list_all are_closed (map (shapes cx) (p ∷ ps))) last (are_closed (shapes cx q)) e f ∙ sym (all_closed_push (shapes cx) (p ∷ ps) q)

pub ended_first : (cx : ShapeContext) (p : Pattern) (last : Bool) → last ≡ are_closed (shapes cx p) → last ≡ list_all are_closed (map (shapes cx) (p ∷ []))
ended_first cx p last e = e ∙ and_true (are_closed (shapes cx p))

pub chain_form_of : (cx : ShapeContext) (ps : List Pattern) (form : Form) → IsFormOfChain cx ps form → IsFormOf cx (Chain ps) form
chain_form_of cx ps form = form_along _ _ _ _ _ _ _ _ form
    (sym (shapes-Chain cx ps)) (sym (agree-Chain cx ps)) (sym (closed-Chain cx ps)) (sym (alike-Chain cx ps))

-- ---- boxes

pub label_form_of : (cx : ShapeContext) (l : ℕ) (p : Pattern) (form : Form) → IsFormOf cx p form → IsFormOf cx (Label l p) form
label_form_of cx l p form = form_along _ _ _ _ _ _ _ _ form
    (sym (shapes-Label cx p l)) (sym (agree-Label cx p l)) (sym (closed-Label cx p l)) (sym (alike-Label cx p l))

pub loose_form_of : (cx : ShapeContext) (p : Pattern) (form whole : Form) → IsFormOf cx p form
    → whole.shapes ≡ with_shapes [] (map loose_shape (reverse form.shapes)) → whole.agree ≡ form.agree → whole.closed ≡ form.closed → whole.alike ≡ form.alike
    → IsFormOf cx (Loose p) whole
loose_form_of cx p form whole h es ea ec eo = record {
  members = subst (λ us. SameMembers us (shapes cx (Loose p))) (sym es)
      (subst (SameMembers (with_shapes [] (map loose_shape (reverse form.shapes)))) (sym (shapes-Loose cx p)) (same_loose form.shapes (shapes cx p) h.members));
  once = subst (λ us. IsOnce us) (sym es) (with_shapes_once [] (map loose_shape (reverse form.shapes)) once_none);
  agree = ea ∙ h.agree ∙ sym (agree-Loose cx p);
  closed = ec ∙ h.closed ∙ sym (closed-Loose cx p);
  alike = eo ∙ h.alike ∙ sym (alike-Loose cx p);
}
