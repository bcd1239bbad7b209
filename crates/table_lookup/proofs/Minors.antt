-- A matrix from its rows, and sums of entries.
use Rattle.std.proofs.Common.{◌≡◌, ℕ, ℤ, zero, suc, ◌<◌, List, [], ◌∷◌, ◌++◌, length, get_or, take, refl, ap, arith}
use Rattle.fix_num.specs.Fixed.{fix_add}
use Rattle.table_lookup.specs.Matrix.{Matrix, matrix, rows_of, kept, det2, det3, sums}

-- a determinant reads each entry of the rows where it stands
pub det3_of_rows : (F : ℕ) (m : Matrix) → det3 F (matrix 3 (rows_of 3 m)) ≡ det3 F m
unfolding det3 det2 kept
det3_of_rows F m = refl

-- the sums of one entry more
pub sums_more : (a b : List ℤ) (i : ℕ) (x y : ℤ) → i < length a → i < length b → sums (take (suc i) a) (take (suc i) b) ≡ sums (take i a) (take i b) ++ fix_add (get_or a i x) (get_or b i y) ∷ []
sums_more [] b i x y h k = absurd (omega arith)
sums_more (v ∷ a) [] i x y h k = absurd (omega arith)
sums_more (v ∷ a) (w ∷ b) zero x y h k = refl
sums_more (v ∷ a) (w ∷ b) (suc i) x y h k = ap (λ (xs : List ℤ). fix_add v w ∷ xs) (sums_more a b i x y (omega arith) (omega arith))
