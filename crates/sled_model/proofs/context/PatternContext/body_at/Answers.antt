use Rattle.std.proofs.Common.{◌≡◌, ap, sym, ◌∙◌, slice_get, None, Some}
use Rattle.std.specs.Option.{option_map}
use Rattle.sled_model.specs.Results.{Known}
use Rattle.sled_model.specs.PatternContexts.{row_of, known_in}
use Rattle.sled_model.proofs.ContextLemmas.{row_at, no_row, no_cell, cell_found}
use Rattle.sled_model.proofs.context.PatternContext.body_at.Goals as goal

pub returns-in-None-get : goal.returns-in-None-get
returns-in-None-get c =
    let near = c.args.self.now in let bytes = near.window.now in let known = known_in near in
    let row : option_map (λ (k : Known). row_of bytes k.body) (slice_get known c.args.k) ≡ Some c.in-Some.row.now =
    sym (row_at bytes known c.args.k) ∙ ap (λ rows. slice_get rows c.args.k) (sym c.requires.near.bodies) ∙ sym c.in-Some.ensures in
    no_cell bytes c.args.at c.requires.at (slice_get known c.args.k) c.in-Some.row.now row (sym c.in-None-get.ensures.value)

pub returns-in-Some-get : goal.returns-in-Some-get
returns-in-Some-get c =
    let near = c.args.self.now in let bytes = near.window.now in let known = known_in near in
    let row : option_map (λ (k : Known). row_of bytes k.body) (slice_get known c.args.k) ≡ Some c.in-Some.row.now =
    sym (row_at bytes known c.args.k) ∙ ap (λ rows. slice_get rows c.args.k) (sym c.requires.near.bodies) ∙ sym c.in-Some.ensures in
    c.as_slice.ensures ∙ cell_found bytes c.args.at c.requires.at (slice_get known c.args.k) c.in-Some.row.now c.in-Some-get.found.now row (sym c.in-Some-get.ensures.value)
