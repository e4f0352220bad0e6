-- Rows on slices, on extended operands, on which equation is named, on the order of bytes, and on labels behind instances of different lengths.
use Rattle.std.specs.Prelude.{◌≡◌, ◌-◌, ◌^◌, [], ◌∷◌, pos, ◌-ℤ◌}
use Rattle.sled_model.specs.declared.instance.Operand.TheVariants.{Num}
use Rattle.sled_model.specs.Encoding.{Unfit, NoSolution, IsEncodeFault, HasBytes, IsSpelled, HaveNoFault, nodes_of, instance_len}
use Rattle.model_rows.specs.Description.{description, s_of, h_of, q_of, z_of, one_of, two_of, m_of, n_of}

pub record SolvingRows : Type 0 where
  -- a sliced operand is from 0 to 2 ^ 32 - 1
  pub sliced : HasBytes description [] 0 (h_of (Num (pos 5))) (5 ∷ [])
  pub outside_slice : IsEncodeFault description [] 0 (h_of (Num (pos 16))) (NoSolution 0 1)
  pub greatest : IsEncodeFault description [] 0 (h_of (Num (pos (2 ^ 32 - 1)))) (NoSolution 0 1)
  pub too_great : IsEncodeFault description [] 0 (h_of (Num (pos (2 ^ 32)))) (Unfit 1)
  pub negative : IsEncodeFault description [] 0 (h_of (Num (pos 0 -ℤ pos 1))) (Unfit 1)
  -- an extended operand of four bits is from -8 to 7
  pub extended : HasBytes description [] 0 (s_of (Num (pos 0 -ℤ pos 3))) (13 ∷ [])
  pub above : IsEncodeFault description [] 0 (s_of (Num (pos 8))) (Unfit 1)
  pub below : IsEncodeFault description [] 0 (s_of (Num (pos 0 -ℤ pos 9))) (Unfit 1)
  -- t = x + y has two hidden fields, so u = 2 * x comes before it
  pub both_hold : HasBytes description [] 0 (q_of (Num (pos 5)) (Num (pos 2))) (65 ∷ [])
  pub second_fails : IsEncodeFault description [] 0 (q_of (Num (pos 3)) (Num (pos 5))) (NoSolution 0 1)
  -- and with x = 1 there is no y to make 40
  pub first_fails : IsEncodeFault description [] 0 (q_of (Num (pos 40)) (Num (pos 2))) (NoSolution 0 0)
  -- 00 01 is before 01 00, though in this class it is 256 and that is 1
  pub byte_order : HasBytes description [] 0 z_of (0 ∷ 1 ∷ [])
  -- a label behind an instance stands where that ends
  pub short : instance_len description (m_of one_of (Num (pos 17))) ≡ 2
  pub long : instance_len description (m_of two_of (Num (pos 18))) ≡ 3
  pub spelled_short : IsSpelled description 16 (m_of one_of (Num (pos 17))) (1 ∷ 80 ∷ [])
  pub spelled_long : IsSpelled description 16 (m_of two_of (Num (pos 18))) (2 ∷ 0 ∷ 80 ∷ [])
  pub fits_short : HaveNoFault description 16 (nodes_of description (m_of one_of (Num (pos 17))))
  pub fits_long : HaveNoFault description 16 (nodes_of description (m_of two_of (Num (pos 18))))
  pub not_behind_short : IsEncodeFault description [] 16 (m_of one_of (Num (pos 18))) (NoSolution 0 0)
  pub not_behind_long : IsEncodeFault description [] 16 (m_of two_of (Num (pos 17))) (NoSolution 0 0)
  -- what is loose takes the length of what stands beside it
  pub loose_length : instance_len description (n_of one_of (Num (pos 18))) ≡ 3
  pub spelled_loose : IsSpelled description 16 (n_of one_of (Num (pos 18))) (1 ∷ 3 ∷ 80 ∷ [])
  pub fits_loose : HaveNoFault description 16 (nodes_of description (n_of one_of (Num (pos 18))))
