use Rattle.std.proofs.Common.{◌≡◌, ◌+◌, ◌∷◌, List, slice_get, drop, sym, ap, ◌∙◌, arith}
use Rattle.std.specs.List.{filter_map, cons_option}
use Rattle.std.proofs.lemmas.List.{drop_more}
use Rattle.sled_model.specs.declared.raw.RawEntry.{RawEntry}
use Rattle.sled_model.specs.First.{entry_value}
use Rattle.sled_model.proofs.values.first_value.Goals as goal

pub returns-in-Some : goal.returns-in-Some
returns-in-Some c =
    let a = c.args in let f = entry_value a.spec.now a.name.now a.location a.k in let i = c.loop-entry.entry-index in
    let left : drop i a.binds.now ≡ c.entry-item.result ∷ drop (i + 1) a.binds.now =
    drop_more a.binds.now i c.entry-item.result (omega arith) ∙ ap (λ (x : RawEntry). x ∷ drop (i + 1) a.binds.now) (sym c.entry-item.is) in
    sym (ap (λ (xs : List _). slice_get xs 0) (c.loop-entry.invariant ∙ ap (filter_map f) left)
    ∙ ap (λ o. slice_get (cons_option o (filter_map f (drop (i + 1) a.binds.now))) 0) (sym c.in-Some.ensures))
