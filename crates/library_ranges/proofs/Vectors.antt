-- The words of vectors and matrices are raws.
use Rattle.std.proofs.Common.{ℕ, ℤ, pos, ◌+◌, ◌*◌, ◌≤◌, ◌==◌, List, [], ◌∷◌, take, drop, unsigned_abs}
use Rattle.fix_num.specs.Fixed.{IsRaw, one, fix_sub, SaturationClamps}
use Rattle.fix_num.specs.Ranges.{ArithmeticInRange, ArithmeticStaysInRange}
use Rattle.table_lookup.specs.Tables.{entry}
use Rattle.table_lookup.specs.Matrix.{Matrix, matrix, rows_of, transpose, columns, sums, scaled, dot3, product3, product4, row_product3, row_sum4, row_product4, minor, with_sign, det2, det3, det4, identity, inverse3, inverse4}
use Rattle.ctl_stdlib.specs.Values.{sum_of, difference_of, product_of, dot_of, crossed, cross_of, length_of, row_by_33, row_by_44, product_33, product_44, transpose_33, transpose_44, inverse_33, inverse_44}
use Rattle.library_ranges.specs.Ranges.{VectorsStayInRange}
use Rattle.library_ranges.proofs.Words.{Raws, to_all, from_all, zero_raw, unit_raw, either_raw, entry_raw}

-- ---- lists of words

-- three columns
three : (f : ℕ → ℤ) → ((j : ℕ) → IsRaw (f j)) → Raws (columns 3 f)
three f h = (h 0, (h 1, (h 2, tt)))

-- the entries of matrices of 3 and of 4 rows
nine : (m : Matrix) → ((i j : ℕ) → IsRaw (m i j)) → Raws (rows_of 3 m)
nine m h = (h 0 0, (h 0 1, (h 0 2, (h 1 0, (h 1 1, (h 1 2, (h 2 0, (h 2 1, (h 2 2, tt)))))))))

sixteen : (m : Matrix) → ((i j : ℕ) → IsRaw (m i j)) → Raws (rows_of 4 m)
sixteen m h = (h 0 0, (h 0 1, (h 0 2, (h 0 3, (h 1 0, (h 1 1, (h 1 2, (h 1 3, (h 2 0, (h 2 1, (h 2 2, (h 2 3, (h 3 0, (h 3 1, (h 3 2, (h 3 3, tt))))))))))))))))

module _ (F : ℕ) (f : F ≤ 40) (law : ArithmeticInRange F) (clamps : SaturationClamps) where
  -- where a sum lacks its second word, there is none
  sums_raw : (xs ys : List ℤ) → Raws (sums xs ys)
  sums_raw [] ys = tt
  sums_raw (x ∷ xs) [] = tt
  sums_raw (x ∷ xs) (y ∷ ys) = (law.sum x y, sums_raw xs ys)

  scaled_raw : (z : ℤ) (ws : List ℤ) → Raws (scaled F z ws)
  scaled_raw z [] = tt
  scaled_raw z (w ∷ ws) = (law.product z w, scaled_raw z ws)

  -- ---- matrices

  product3_raw : (a b : Matrix) (i j : ℕ) → IsRaw (product3 F a b i j)
  unfolding product3
  product3_raw a b i j = (clamps _).raw

  product4_raw : (a b : Matrix) (i j : ℕ) → IsRaw (product4 F a b i j)
  unfolding product4
  product4_raw a b i j = (clamps _).raw

  row_product3_raw : (ws : List ℤ) (m : Matrix) (j : ℕ) → IsRaw (row_product3 F ws m j)
  unfolding row_product3
  row_product3_raw ws m j = (clamps _).raw

  row_product4_raw : (ws : List ℤ) (m : Matrix) (j : ℕ) → IsRaw (row_product4 F ws m j)
  unfolding row_product4
  row_product4_raw ws m j = law.quotient (row_sum4 F ws m j) (row_sum4 F ws m 3)

  identity_raw : (i j : ℕ) → IsRaw (identity F i j)
  identity_raw i j = either_raw (i == j) (one F) (pos 0) (unit_raw F f) zero_raw

  inverse3_raw : (m : Matrix) (i j : ℕ) → IsRaw (inverse3 F m i j)
  unfolding inverse3
  inverse3_raw m i j = either_raw (unsigned_abs (det3 F m) == 0) (identity F i j) _ (identity_raw i j) (law.quotient (with_sign i j (det2 F (minor j i m))) (det3 F m))

  inverse4_raw : (m : Matrix) (i j : ℕ) → IsRaw (inverse4 F m i j)
  unfolding inverse4
  inverse4_raw m i j = either_raw (unsigned_abs (det4 F m) == 0) (identity F i j) _ (identity_raw i j) (law.quotient (with_sign i j (det3 F (minor j i m))) (det4 F m))

  -- ---- the functions

  sum_raw : (n : ℕ) (args : List ℤ) → Raws (sum_of n args)
  unfolding sum_of
  sum_raw n args = sums_raw (take n args) (drop n args)

  difference_raw : (args : List ℤ) → Raws (difference_of args)
  unfolding difference_of
  difference_raw args = three (λ i. fix_sub (entry args i) (entry (drop 3 args) i)) (λ i. law.difference (entry args i) (entry (drop 3 args) i))

  product_raw : (args : List ℤ) → Raws (product_of F args)
  unfolding product_of
  product_raw args = scaled_raw (entry args 0) (drop 1 args)

  dot_raw : (args : List ℤ) → Raws (dot_of F args)
  unfolding dot_of
  dot_raw args = ((clamps _).raw, tt)

  crossed_raw : (args : List ℤ) (i j : ℕ) → IsRaw (crossed F args i j)
  unfolding crossed
  crossed_raw args i j = (clamps _).raw

  cross_raw : (args : List ℤ) → Raws (cross_of F args)
  unfolding cross_of
  cross_raw args = (crossed_raw args 1 2, (crossed_raw args 2 0, (crossed_raw args 0 1, tt)))

  length_raw : (args : List ℤ) → Raws (length_of F args)
  unfolding length_of
  length_raw args = ((law.root (dot3 F (entry args) (entry args)) (clamps _).raw).0, tt)

  row_33_raw : (args : List ℤ) → Raws (row_by_33 F args)
  unfolding row_by_33
  row_33_raw args = let m : Matrix = matrix 3 (drop 3 args) in three (row_product3 F (take 3 args) m) (row_product3_raw (take 3 args) m)

  row_44_raw : (args : List ℤ) → Raws (row_by_44 F args)
  unfolding row_by_44
  row_44_raw args = let m : Matrix = matrix 4 (drop 3 args) in three (row_product4 F (take 3 args) m) (row_product4_raw (take 3 args) m)

  product_33_raw : (args : List ℤ) → Raws (product_33 F args)
  unfolding product_33
  product_33_raw args = let a : Matrix = matrix 3 (take 9 args) in let b : Matrix = matrix 3 (drop 9 args) in nine (product3 F a b) (product3_raw a b)

  product_44_raw : (args : List ℤ) → Raws (product_44 F args)
  unfolding product_44
  product_44_raw args = let a : Matrix = matrix 4 (take 16 args) in let b : Matrix = matrix 4 (drop 16 args) in sixteen (product4 F a b) (product4_raw a b)

  transpose_33_raw : (args : List ℤ) → Raws args → Raws (transpose_33 args)
  unfolding transpose_33
  transpose_33_raw args h = nine (transpose (matrix 3 args)) (λ i j. entry_raw args (3 * j + i) h)

  transpose_44_raw : (args : List ℤ) → Raws args → Raws (transpose_44 args)
  unfolding transpose_44
  transpose_44_raw args h = sixteen (transpose (matrix 4 args)) (λ i j. entry_raw args (4 * j + i) h)

  inverse_33_raw : (args : List ℤ) → Raws (inverse_33 F args)
  unfolding inverse_33
  inverse_33_raw args = nine (inverse3 F (matrix 3 args)) (inverse3_raw (matrix 3 args))

  inverse_44_raw : (args : List ℤ) → Raws (inverse_44 F args)
  unfolding inverse_44
  inverse_44_raw args = sixteen (inverse4 F (matrix 4 args)) (inverse4_raw (matrix 4 args))

pub vectors_law : ArithmeticStaysInRange → SaturationClamps → VectorsStayInRange
vectors_law law clamps F f =
    let a : ArithmeticInRange F = law F f in
    record {
      sum = λ n args. to_all (sum_of n args) (sum_raw F f a clamps n args);
      difference = λ args. to_all (difference_of args) (difference_raw F f a clamps args);
      scaled = λ args. to_all (product_of F args) (product_raw F f a clamps args);
      dot = λ args. to_all (dot_of F args) (dot_raw F f a clamps args);
      cross = λ args. to_all (cross_of F args) (cross_raw F f a clamps args);
      norm = λ args. to_all (length_of F args) (length_raw F f a clamps args);
      row_by_3 = λ args. to_all (row_by_33 F args) (row_33_raw F f a clamps args);
      row_by_4 = λ args. to_all (row_by_44 F args) (row_44_raw F f a clamps args);
      product_3 = λ args. to_all (product_33 F args) (product_33_raw F f a clamps args);
      product_4 = λ args. to_all (product_44 F args) (product_44_raw F f a clamps args);
      transpose_3 = λ args h. to_all (transpose_33 args) (transpose_33_raw F f a clamps args (from_all args h));
      transpose_4 = λ args h. to_all (transpose_44 args) (transpose_44_raw F f a clamps args (from_all args h));
      inverse_3 = λ args. to_all (inverse_33 F args) (inverse_33_raw F f a clamps args);
      inverse_4 = λ args. to_all (inverse_44 F args) (inverse_44_raw F f a clamps args);
    }
