use Rattle.std.proofs.Common.{◌≡◌, ◌∙◌, ◌<◌, ◌^◌, ℕ, List, Bor, true, length, map, sym, ap, subst, arith}
use Rattle.sled_parser.specs.declared.tree.PatternTree.{PatternTree}
use Rattle.tree_meaning.specs.Names.{are_distinct}
use Rattle.tree_meaning.specs.NameTables.{table_names}
use Rattle.tree_meaning.specs.Parts.{labels}
use Rattle.constructor_scopes.proofs.NewLemmas.{labels_of}
use Rattle.constructor_meaning.proofs.labels.label_table.Goals as goal

-- the names are the labels
labels_at : (items slice : List (Bor (List ℕ))) (ls more : List (List ℕ)) → slice ≡ items → map (λ (x : Bor (List ℕ)). x.now) items ≡ more → more ≡ ls → map (λ (x : Bor (List ℕ)). x.now) slice ≡ ls
labels_at items slice ls more value are of_body = ap (map (λ (x : Bor (List ℕ)). x.now)) value ∙ are ∙ of_body

pub table_of-requires : goal.table_of-requires
table_of-requires c =
    let are = labels_at c.in_ok-names.names.items c.as_slice.result.now (labels c.args.body.now) _ c.as_slice.ensures.value c.in_ok-names.ensures
    (labels_of (λ (x : Bor PatternTree). x.now) c.args.parts.now c.args.body.now c.requires.parts) in
    ap are_distinct are ∙ c.requires.distinct

pub returns-clause-labels : goal.returns-clause-labels
returns-clause-labels c =
    c.in_ok-table.ensures
    ∙ labels_at c.in_ok-names.names.items c.as_slice.result.now (labels c.args.body.now) _ c.as_slice.ensures.value c.in_ok-names.ensures
    (labels_of (λ (x : Bor PatternTree). x.now) c.args.parts.now c.args.body.now c.requires.parts)
