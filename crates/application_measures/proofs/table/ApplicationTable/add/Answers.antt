use Rattle.std.proofs.Common.{map, refl, sym, ap, subst, ◌∙◌}
use Rattle.sled_model.specs.Measures.{capped}
use Rattle.type_tables.specs.Tables.{AreMeasures}
use Rattle.application_measures.specs.Parts.{len_among}
use Rattle.application_measures.specs.Tables.{len_in}
use Rattle.application_measures.proofs.Tabled.{len_found, table_added}
use Rattle.application_measures.proofs.table.ApplicationTable.add.Goals as goal

pub returns : goal.returns
returns c = λ spec sound same known of.
    let old = c.args.self.now in let con = c.args.constructor.now in let measures = c.in_ok-measures.measures in let len = c.len_over-len.result in
    let listed = c.as_slice-kinds.ensures in
    let are = subst (λ ks. AreMeasures spec ks con.body measures) listed (c.in_ok-measures.ensures spec sound same of.types) in
    let lens = c.as_slice-2.ensures ∙ c.in_ok-operands.ensures ∙ ap (λ ls. map (len_in ls) c.as_slice-kinds.result.now) c.as_slice.ensures ∙ ap (λ ks. map (len_in old.type_lens) ks) listed in
    let long = c.len_over-len.ensures ∙ ap (λ ls. capped (len_among c.args.tokens.now ls con.body)) lens
    ∙ ap (λ t. capped (len_among t (map (len_in old.type_lens) con.operands) con.body)) (sym same) ∙ len_found spec con known old of in
    table_added spec con known old of
    (record { types = c.add_constructor.new.self; sizes = c.push.new.self; lens = c.push-2.new.self; type_lens = c.lengthen.new.lens })
    len long c.lengthen.ensures.count c.lengthen.ensures.each measures.size are.size
    (c.in_ok-add_constructor.ensures spec con of.types refl (sym listed) are)
    c.in_ok-push.ensures.ok c.in_ok-push-2.ensures.ok
