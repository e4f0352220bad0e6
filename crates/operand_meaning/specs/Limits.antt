-- Condition 11: operands and equations are few, and coefficients, atoms and slices are as they have to be. `k(n) { n@[0:15] = x, n@[16:31] = 2 * y } is x & y`
-- meets it. `k(n) { n = x + x } is x` (x stands twice), `k(n) { n = 0 * x } is x` (the coefficient), `k(n) { n@[0:32] = x } is x` and
-- `k(n) { n@[0:31] = x, n = x } is x` (n is sliced in one place and not in the other) do not.
use Rattle.std.specs.Prelude.{ℕ, Bool, true, false, not, ◌&&◌, ◌==◌, nat_le, List, [], ◌∷◌, length, bytes_eq}
use Rattle.std.specs.List.{list_all, list_any}
use Rattle.std.specs.Option.{option_map_or}
use Rattle.sled_lexer.specs.Spelled.{number_value}
use Rattle.sled_parser.specs.declared.tree.EqTree.{EqTree}
use Rattle.sled_parser.specs.declared.tree.OperandTree.{OperandTree}
use Rattle.sled_parser.specs.declared.tree.PlaceTree.{PlaceTree}
use Rattle.sled_parser.specs.declared.tree.PlaceTree.TheVariants.{Word, Extended, Slice}
use Rattle.sled_parser.specs.declared.tree.TermTree.{TermTree}
use Rattle.sled_parser.specs.declared.tree.TermTree.TheVariants.{Number, Place}
use Rattle.tree_meaning.specs.Names.{is_among}
use Rattle.tree_meaning.specs.Scopes.{Declared}
use Rattle.operand_meaning.specs.Operands.{lone_words, is_number}
use Rattle.operand_meaning.specs.Terms.{equation_terms, sliced_names}

-- a coefficient that is written: 1 to 65,536
abbrev pub is_coefficient : List ℕ → Bool
is_coefficient c = nat_le 1 (number_value c) && nat_le (number_value c) 65536

-- the bits of a slice are in order, and among bits 0 to 31
abbrev pub has_bits : List ℕ → List ℕ → Bool
has_bits lo hi = nat_le (number_value lo) (number_value hi) && nat_le (number_value hi) 31

-- a slice is one of a whole-number operand, and a name that is sliced somewhere stands only in slices
abbrev pub place_is_within : Declared → (List ℕ → Bool) → (List ℕ → Bool) → PlaceTree → Bool
place_is_within declared is_lone is_sliced (Word w) = not (is_sliced w)
place_is_within declared is_lone is_sliced (Extended w) = true
place_is_within declared is_lone is_sliced (Slice w lo hi) = has_bits lo hi && is_number declared is_lone w

abbrev pub term_is_within : Declared → (List ℕ → Bool) → (List ℕ → Bool) → TermTree → Bool
term_is_within declared is_lone is_sliced (Number minus n) = true
term_is_within declared is_lone is_sliced (Place minus c p) = option_map_or is_coefficient c true && place_is_within declared is_lone is_sliced p

-- `w`, `w!` and `w@[lo:hi]` are different atoms, and so are two slices of different bits
abbrev pub same_place : PlaceTree → PlaceTree → Bool
same_place (Word v) (Word w) = bytes_eq v w
same_place (Extended v) (Extended w) = bytes_eq v w
same_place (Slice v a b) (Slice w c d) = bytes_eq v w && number_value a == number_value c && number_value b == number_value d
same_place _ _ = false

-- both terms are of one atom
abbrev pub same_atom : TermTree → TermTree → Bool
same_atom (Place minus c p) (Place minus' c' q) = same_place p q
same_atom _ _ = false

-- no atom stands twice
abbrev pub atoms_differ : List TermTree → Bool
atoms_differ [] = true
atoms_differ (t ∷ ts) = not (list_any (same_atom t) ts) && atoms_differ ts

abbrev pub terms_are_within : Declared → (List ℕ → Bool) → (List ℕ → Bool) → List TermTree → Bool
terms_are_within declared is_lone is_sliced ts = nat_le (length ts) 16 && list_all (term_is_within declared is_lone is_sliced) ts && atoms_differ ts

abbrev pub equation_is_within : Declared → (List ℕ → Bool) → (List ℕ → Bool) → EqTree → Bool
equation_is_within declared is_lone is_sliced e = terms_are_within declared is_lone is_sliced (equation_terms e)

-- what the numbers of an equation need to be held: few terms, and slices of bits 0 to 31
abbrev pub has_slice_bits : PlaceTree → Bool
has_slice_bits (Slice w lo hi) = has_bits lo hi
has_slice_bits _ = true

abbrev pub has_term_bits : TermTree → Bool
has_term_bits (Number minus n) = true
has_term_bits (Place minus c p) = has_slice_bits p

abbrev pub can_be_held : EqTree → Bool
can_be_held e = nat_le (length (equation_terms e)) 16 && list_all has_term_bits (equation_terms e)

-- condition 11
abbrev pub are_within_limits : Declared → List OperandTree → List EqTree → Bool
are_within_limits declared operands equations =
    nat_le (length operands) 16
    && nat_le (length equations) 32
    && list_all (equation_is_within declared (is_among (lone_words operands)) (is_among (sliced_names equations))) equations
