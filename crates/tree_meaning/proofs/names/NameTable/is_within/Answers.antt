use Rattle.std.proofs.Common.{[], map, sym, ap, ◌∙◌}
use Rattle.std.specs.List.{list_all}
use Rattle.tree_meaning.specs.Names.{is_among}
use Rattle.tree_meaning.specs.NameTables.{table_names}
use Rattle.tree_meaning.proofs.Merging.{not_all}
use Rattle.tree_meaning.proofs.names.NameTable.is_within.Goals as goal

pub returns-then-not-contains : goal.returns-then-not-contains
returns-then-not-contains c =
    let among = is_among (table_names c.args.other.now) in
    sym (not_all (λ x. x.now) c.as_slice-name-items.result.now c.loop-name.name-index (record { ref_ptr = (0, 0); now = [] }) c.loop-name-test.true among (sym c.if-not-contains.ensures))
    ∙ ap (λ ks. list_all among (map (λ x. x.now) ks)) c.as_slice-name-items.ensures.keys
