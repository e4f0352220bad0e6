use Rattle.std.proofs.Common.{◌≡◌, true, length, sym, ap, ◌∙◌, arith}
use Rattle.name_values.specs.Arguments.{are_names_from}
use Rattle.name_values.specs.Values.{entry_at, IsBodyChoice}
use Rattle.name_values.proofs.Choices.{body_of_spot, spot_read}
use Rattle.name_values.proofs.InOrder.{one_item, whole}
use Rattle.name_values.proofs.Zips.{all_mapped_at}
use Rattle.name_values.proofs.whole.whole_values.Goals as goal

pub instance_of-requires-clause-result_of_body : goal.instance_of-requires-clause-result_of_body
instance_of-requires-clause-result_of_body c =
    let place = c.args.place.now in let s = c.in-Choice in
    body_of_spot place s.constructor s.inner s.arguments c.as_slice-inner.result.now c.index-spots-0.result s.is c.as_slice-inner.ensures
    (all_mapped_at (IsBodyChoice place.spec.now) (entry_at place) c.args.spots.now 0 c.index-spots-0.result c.requires.results (omega arith) c.index-spots-0.is)

pub returns : goal.returns
returns c =
    let place = c.args.place.now in let s = c.in-Choice in let i = c.in_ok-instance.instance in
    let read = spot_read place s.constructor s.inner s.arguments c.as_slice-inner.result.now c.index-spots-0.result i s.is c.as_slice-inner.ensures c.in_ok-instance.ensures.meant in
    let in_order : are_names_from 0 s.arguments ≡ true = ap (are_names_from 0) (sym c.as_slice.ensures) ∙ sym c.are_names_in_order.ensures ∙ c.if-not-are_names_in_order.false in
    let operands : length i.operands ≡ length c.args.names.now = sym c.len.ensures ∙ c.if-len-names.false in
    let as_many : length s.arguments ≡ length c.args.names.now = sym c.len-else-len-names.ensures ∙ c.if-len-names-2.false in
    whole place s.constructor s.inner s.arguments c.index-spots-0.result s.is i read in_order c.args.names.now c.args.spots.now
    (one_item c.args.spots.now c.index-spots-0.result c.if-spots-ne1.false c.index-spots-0.is) operands as_many
