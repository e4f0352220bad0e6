use Rattle.std.proofs.Common.{◌≡◌, ◌∙◌, ◌+◌, ℕ, List, [], Bor, ap, map, drop, sym, Some}
use Rattle.std.specs.Option.{option_map_or}
use Rattle.std.proofs.lemmas.List.{drop-map}
use Rattle.tree_meaning.specs.NameTables.{table_names}
use Rattle.tree_meaning.specs.Names.{position_of}
use Rattle.constructor_scopes.proofs.members.names_behind.Goals as goal

pub returns-in-Some : goal.returns-in-Some
returns-in-Some c =
    let names = table_names c.args.scope.now.names in let k = c.in-Some.k in
    let now = λ (x : Bor (List ℕ)). x.now in
    let found : position_of names c.args.name.now ≡ Some k = sym c.find.ensures ∙ c.in-Some.is in
    ap (map now) c.tail.ensures ∙ sym (drop-map now (k + 1) c.as_slice.result.now) ∙ ap (drop (k + 1)) c.as_slice.ensures
    ∙ sym (ap (λ o. option_map_or (λ j. drop (j + 1) names) o []) found)
