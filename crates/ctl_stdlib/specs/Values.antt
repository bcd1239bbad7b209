-- What the functions of vectors, matrices and tables give, from the words of their arguments. F is the number of fraction bits.
use Rattle.std.specs.Prelude.{ℕ, ℤ, List, [], ◌∷◌, take, drop, get_or}
use Rattle.fix_num.specs.Fixed.{fix_sub, fix_mul, fix_sqrt}
use Rattle.table_lookup.specs.Tables.{entry, lookup1, lookup_cubic1, pairs, interp1, interp_cubic1, lookup3}
use Rattle.table_lookup.specs.Matrix.{dot3, matrix, rows_of, columns, transpose, product3, product4, row_product3, row_product4, inverse3, inverse4, sums, scaled}
use Rattle.table_lookup.specs.Colour.{rgb_to_xyz}

-- the sum of each entry of the first n and of the others
unfoldable pub sum_of : ℕ → List ℤ → List ℤ
sum_of n args = sums (take n args) (drop n args)

-- the difference of each entry of the first three and of the others
unfoldable pub difference_of : List ℤ → List ℤ
difference_of args = columns 3 (λ i. fix_sub (entry args i) (entry (drop 3 args) i))

-- the product of the first word with each of the others
unfoldable pub product_of : ℕ → List ℤ → List ℤ
product_of F args = scaled F (entry args 0) (drop 1 args)

-- the sum of the products of each entry of two vectors, from the left
unfoldable pub dot_of : ℕ → List ℤ → List ℤ
dot_of F args = dot3 F (entry args) (entry (drop 3 args)) ∷ []

-- ai * bj - aj * bi, for the vectors a and b one after the other
unfoldable pub crossed : ℕ → List ℤ → ℕ → ℕ → ℤ
crossed F args i j = fix_sub (fix_mul F (entry args i) (entry (drop 3 args) j)) (fix_mul F (entry args j) (entry (drop 3 args) i))

-- a1 * b2 - a2 * b1, a2 * b0 - a0 * b2 and a0 * b1 - a1 * b0
unfoldable pub cross_of : ℕ → List ℤ → List ℤ
cross_of F args = crossed F args 1 2 ∷ crossed F args 2 0 ∷ crossed F args 0 1 ∷ []

-- the root of the sum of the squares of each entry, from the left
unfoldable pub length_of : ℕ → List ℤ → List ℤ
length_of F args = fix_sqrt F (dot3 F (entry args) (entry args)) ∷ []

-- the products of a row of three, and a matrix of 3 by 3 or 4 by 4
unfoldable pub row_by_33 : ℕ → List ℤ → List ℤ
row_by_33 F args = columns 3 (row_product3 F (take 3 args) (matrix 3 (drop 3 args)))

unfoldable pub row_by_44 : ℕ → List ℤ → List ℤ
row_by_44 F args = columns 3 (row_product4 F (take 3 args) (matrix 4 (drop 3 args)))

-- the products of two matrices
unfoldable pub product_33 : ℕ → List ℤ → List ℤ
product_33 F args = rows_of 3 (product3 F (matrix 3 (take 9 args)) (matrix 3 (drop 9 args)))

unfoldable pub product_44 : ℕ → List ℤ → List ℤ
product_44 F args = rows_of 4 (product4 F (matrix 4 (take 16 args)) (matrix 4 (drop 16 args)))

-- rows and columns exchanged
unfoldable pub transpose_33 : List ℤ → List ℤ
transpose_33 args = rows_of 3 (transpose (matrix 3 args))

unfoldable pub transpose_44 : List ℤ → List ℤ
transpose_44 args = rows_of 4 (transpose (matrix 4 args))

-- the inverses, and the identity where the determinant is 0
unfoldable pub inverse_33 : ℕ → List ℤ → List ℤ
inverse_33 F args = rows_of 3 (inverse3 F (matrix 3 args))

unfoldable pub inverse_44 : ℕ → List ℤ → List ℤ
inverse_44 F args = rows_of 4 (inverse4 F (matrix 4 args))

-- the line and the curve through a table that is spread evenly: args has the least and the greatest place, and the place
unfoldable pub line_of : ℕ → List ℤ → List ℤ → ℤ
line_of F table args = lookup1 F table (entry args 0) (entry args 1) (entry args 2)

unfoldable pub curve_of : ℕ → List ℤ → List ℤ → ℤ
curve_of F table args = lookup_cubic1 F table (entry args 0) (entry args 1) (entry args 2)

-- the line and the curve through a table of pairs at a place
unfoldable pub pair_line_of : ℕ → List ℤ → List ℤ → ℤ
pair_line_of F table args = interp1 F (pairs table) (entry args 0)

unfoldable pub pair_curve_of : ℕ → List ℤ → List ℤ → ℤ
pair_curve_of F table args = interp_cubic1 F (pairs table) (entry args 0)

-- the three words of a table with three sizes at a point: args has the least point, the greatest point and the point itself
unfoldable pub at_point : ℕ → List ℕ → List ℤ → List ℤ → List ℤ
at_point F sizes table args = lookup3 F (get_or sizes 0 0) (get_or sizes 1 0) (get_or sizes 2 0) table (take 3 args) (take 3 (drop 3 args)) (drop 6 args)

-- the matrix from red, green and blue to XYZ: args has the eight chromaticities and the luminance of white
unfoldable pub to_xyz : ℕ → List ℤ → List ℤ
to_xyz F args = rgb_to_xyz F (take 8 args) (entry args 8)

-- its inverse
unfoldable pub to_rgb : ℕ → List ℤ → List ℤ
to_rgb F args = inverse_44 F (to_xyz F args)
