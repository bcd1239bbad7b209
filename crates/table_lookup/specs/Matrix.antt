-- Matrices, by their rows and columns from 0 on. F is the number of fraction bits. Sums and products go from the left.
use Rattle.std.specs.Prelude.{ℕ, ℤ, pos, ◌+◌, ◌*◌, ◌%◌, nat_lt, ◌==◌, if◌then◌else◌, List, [], ◌∷◌, map, unsigned_abs}
use Rattle.std.specs.List.{range_with_len, flat_map}
use Rattle.fix_num.specs.Fixed.{fix_add, fix_sub, fix_mul, fix_div, fix_neg, one}
use Rattle.table_lookup.specs.Tables.{entry}

-- the number in each row and column
abbrev pub Matrix : Type 0
Matrix = ℕ → ℕ → ℤ

-- the matrix of n columns whose rows stand one after the other
abbrev pub matrix : ℕ → List ℤ → Matrix
matrix n t i j = entry t (n * i + j)

-- the rows of a matrix of n rows and n columns, one after the other
abbrev pub rows_of : ℕ → Matrix → List ℤ
rows_of n m = flat_map (λ i. map (m i) (range_with_len 0 n)) (range_with_len 0 n)

-- rows and columns exchanged
abbrev pub transpose : Matrix → Matrix
transpose m i j = m j i

-- a sum of products of three, and of four
abbrev pub dot3 : ℕ → (ℕ → ℤ) → (ℕ → ℤ) → ℤ
dot3 F a b = fix_add (fix_add (fix_mul F (a 0) (b 0)) (fix_mul F (a 1) (b 1))) (fix_mul F (a 2) (b 2))

abbrev pub dot4 : ℕ → (ℕ → ℤ) → (ℕ → ℤ) → ℤ
dot4 F a b = fix_add (dot3 F a b) (fix_mul F (a 3) (b 3))

-- products of matrices of 3 and of 4 rows: row times column
unfoldable pub product3 : ℕ → Matrix → Matrix → Matrix
product3 F a b i j = dot3 F (a i) (λ k. b k j)

unfoldable pub product4 : ℕ → Matrix → Matrix → Matrix
product4 F a b i j = dot4 F (a i) (λ k. b k j)

-- the product of a row x of three and a matrix of 3 rows, at column j
unfoldable pub row_product3 : ℕ → List ℤ → Matrix → ℕ → ℤ
row_product3 F x m j = dot3 F (entry x) (λ k. m k j)

-- the product of the row x, 1 and a matrix of 4 rows, at column j
unfoldable pub row_sum4 : ℕ → List ℤ → Matrix → ℕ → ℤ
row_sum4 F x m j = fix_add (dot3 F (entry x) (λ k. m k j)) (m 3 j)

-- that product divided by its last column
unfoldable pub row_product4 : ℕ → List ℤ → Matrix → ℕ → ℤ
row_product4 F x m j = fix_div F (row_sum4 F x m j) (row_sum4 F x m 3)

-- the index of row or column k where one is left out
unfoldable pub kept : ℕ → ℕ → ℕ
kept left_out k = if nat_lt k left_out then k else k + 1

-- the minor: row i and column j are left out
abbrev pub minor : ℕ → ℕ → Matrix → Matrix
minor i j m r c = m (kept i r) (kept j c)

-- determinants, along the first row
unfoldable pub det2 : ℕ → Matrix → ℤ
det2 F m = fix_sub (fix_mul F (m 0 0) (m 1 1)) (fix_mul F (m 0 1) (m 1 0))

unfoldable pub det3 : ℕ → Matrix → ℤ
det3 F m =
    fix_add (fix_sub (fix_mul F (m 0 0) (det2 F (minor 0 0 m))) (fix_mul F (m 0 1) (det2 F (minor 0 1 m)))) (fix_mul F (m 0 2) (det2 F (minor 0 2 m)))

unfoldable pub det4 : ℕ → Matrix → ℤ
det4 F m =
    fix_sub
    (fix_add (fix_sub (fix_mul F (m 0 0) (det3 F (minor 0 0 m))) (fix_mul F (m 0 1) (det3 F (minor 0 1 m)))) (fix_mul F (m 0 2) (det3 F (minor 0 2 m))))
    (fix_mul F (m 0 3) (det3 F (minor 0 3 m)))

-- negated where i + j is odd
unfoldable pub with_sign : ℕ → ℕ → ℤ → ℤ
with_sign i j z = if (i + j) % 2 == 1 then fix_neg z else z

-- 1.0 on the diagonal, else 0
abbrev pub identity : ℕ → Matrix
identity F i j = if i == j then one F else pos 0

-- the inverse, by the determinant of the minor at (j, i) for the entry at (i, j), the sign changed before it is divided by the whole determinant;
-- the identity where that is 0
unfoldable pub inverse3 : ℕ → Matrix → Matrix
inverse3 F m i j =
    if unsigned_abs (det3 F m) == 0 then identity F i j
    else fix_div F (with_sign i j (det2 F (minor j i m))) (det3 F m)

unfoldable pub inverse4 : ℕ → Matrix → Matrix
inverse4 F m i j =
    if unsigned_abs (det4 F m) == 0 then identity F i j
    else fix_div F (with_sign i j (det3 F (minor j i m))) (det4 F m)

-- sums entry by entry, and products of a number with each entry
abbrev pub sums : List ℤ → List ℤ → List ℤ
sums [] bs = []
sums (a ∷ xs) [] = []
sums (a ∷ xs) (b ∷ bs) = fix_add a b ∷ sums xs bs

abbrev pub scaled : ℕ → ℤ → List ℤ → List ℤ
scaled F f m = map (λ a. fix_mul F f a) m

-- the entries of a row at n columns
abbrev pub columns : ℕ → (ℕ → ℤ) → List ℤ
columns n f = map f (range_with_len 0 n)
