-- Results that lie within the bytes.
use Rattle.std.proofs.Common.{ℕ, ◌+◌, ◌≤◌, max, List, [], ◌∷◌, map, filter, All, arith}
use Rattle.std.specs.List.{flat_map}
use Rattle.std.proofs.lemmas.List.Elements.{All-map, All-filter, All-weaker, All-append, All-nil, All-head, All-tail}
use Rattle.sled_model.specs.declared.raw.Match.{Match}
use Rattle.sled_model.specs.Results.{chain_match, both_match, label_match, loose_match, agrees}

abbrev pub Within : ℕ → ℕ → List Match → Type 0
Within n i found = All (λ a. i + a.len ≤ n) found

pub Within-chain : (n i : ℕ) (a : Match) (bs : List Match) → Within n (i + a.len) bs → Within n i (map (chain_match a) bs)
Within-chain n i a bs h = All-map (λ x. i + x.len ≤ n) (chain_match a) bs (All-weaker (λ b. (i + a.len) + b.len ≤ n) (λ b. i + (a.len + b.len) ≤ n) (λ b w. omega arith) bs h)

pub Within-both : (n i : ℕ) (a : Match) (bs : List Match) → i + a.len ≤ n → Within n i bs → Within n i (map (both_match a) (filter (agrees a) bs))
Within-both n i a bs l h = All-map (λ x. i + x.len ≤ n) (both_match a) (filter (agrees a) bs)
    (All-weaker (λ b. i + b.len ≤ n) (λ b. i + max a.len b.len ≤ n) (λ b w. omega arith) (filter (agrees a) bs) (All-filter (agrees a) (λ b. i + b.len ≤ n) bs h))

pub Within-both_all : (n i : ℕ) (fs bs : List Match) → Within n i fs → Within n i bs → Within n i (flat_map (λ a. map (both_match a) (filter (agrees a) bs)) fs)
Within-both_all n i [] bs g h = All-nil (λ x. i + x.len ≤ n)
Within-both_all n i (a ∷ fs) bs g h = All-append (λ x. i + x.len ≤ n) (map (both_match a) (filter (agrees a) bs)) _ (Within-both n i a bs (All-head (λ x. i + x.len ≤ n) a fs g) h) (Within-both_all n i fs bs (All-tail (λ x. i + x.len ≤ n) a fs g) h)

pub Within-label : (n i l : ℕ) (fs : List Match) → Within n i fs → Within n i (map (label_match l i) fs)
Within-label n i l fs h = All-map (λ x. i + x.len ≤ n) (label_match l i) fs h

pub Within-loose : (n i : ℕ) (fs : List Match) → Within n i fs → Within n i (map loose_match fs)
Within-loose n i fs h = All-map (λ x. i + x.len ≤ n) loose_match fs h
