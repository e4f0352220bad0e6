-- Lists of classes and shapes that are compared.
use Rattle.std.proofs.Common.{◌≡◌, ℕ, suc, ◌+◌, ◌<◌, ◌≤◌, false, ◌&&◌, eqb, leb, List, [], ◌∷◌, length, map, take, drop, get_or, refl, ap, ◌∙◌, arith}
use Rattle.std.specs.List.{sum}
use Rattle.std.proofs.lemmas.Bool.{and_right, lt-leb}
use Rattle.std.proofs.lemmas.List.{drop_all}
use Rattle.std.proofs.Math.Seq.{drop-cons}
use Rattle.std.proofs.lemmas.List.Sums.{sum-map, sum_by_more, sum_by-take-le}
use Rattle.token_bits.specs.declared.tokens.ClassId.{ClassId}
use Rattle.sled_model.specs.Shapes.{is_front, are_same_classes}

pub same_from_front : (cs ds : List ClassId) → length cs ≡ length ds → is_front cs ds ≡ are_same_classes cs ds
same_from_front [] [] e = refl
same_from_front [] (d ∷ ds) e = absurd (omega arith)
same_from_front (c ∷ cs) [] e = absurd (omega arith)
same_from_front (c ∷ cs) (d ∷ ds) e = ap (λ b. eqb c.0 d.0 && b) (same_from_front cs ds (omega arith))

pub not_same_from_lengths : (cs ds : List ClassId) → (length cs ≡ length ds → ⊥) → are_same_classes cs ds ≡ false
not_same_from_lengths [] [] h = absurd (h refl)
not_same_from_lengths [] (d ∷ ds) h = refl
not_same_from_lengths (c ∷ cs) [] h = refl
not_same_from_lengths (c ∷ cs) (d ∷ ds) h = and_right (eqb c.0 d.0) (are_same_classes cs ds) (not_same_from_lengths cs ds (λ e. h (ap suc e)))

pub past_most : (f : ClassId → ℕ) (cs : List ClassId) (i : ℕ) (d : ClassId) (left most least : ℕ) → i < length cs → left + sum (map f (take i cs)) ≡ most → left < f (get_or cs i d)
    → (leb least (sum (map f cs)) && leb (sum (map f cs)) most) ≡ false
past_most f cs i d left most least within told short =
    let next = sum_by_more f cs i d within in
    let front = sum_by-take-le f cs (i + 1) in
    let all = sum-map f cs in
    let some = sum-map f (take i cs) in
    and_right (leb least (sum (map f cs))) (leb (sum (map f cs)) most) (lt-leb (sum (map f cs)) most (omega arith))

pub past_whole : (front whole : List ClassId) (i : ℕ) → i < length front → length whole ≤ i → is_front (drop i front) (drop i whole) ≡ false
past_whole front whole i within past =
    let d : ClassId = record { 0 = 0 } in
    ap (λ cs. is_front cs (drop i whole)) (drop-cons front i d within)
    ∙ ap (is_front (get_or front i d ∷ drop (suc i) front)) (drop_all i whole past)
