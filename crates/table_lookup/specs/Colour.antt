-- The matrix from red, green and blue to XYZ. F is the number of fraction bits, Y the luminance of white, and c has the chromaticities
-- x and y of red, green, blue and white, in this order. Sums, products and quotients go from the left.
use Rattle.std.specs.Prelude.{ℕ, ℤ, pos, ◌+◌, ◌*◌, List, [], ◌∷◌}
use Rattle.fix_num.specs.Fixed.{fix_add, fix_sub, fix_mul, fix_div, one}
use Rattle.table_lookup.specs.Tables.{entry}

-- the places of the four points in c
abbrev pub red : ℕ
red = 0

abbrev pub green : ℕ
green = 1

abbrev pub blue : ℕ
blue = 2

abbrev pub white : ℕ
white = 3

-- the coordinates of a point; z is (1 - x) - y
abbrev pub x_of : List ℤ → ℕ → ℤ
x_of c k = entry c (2 * k)

abbrev pub y_of : List ℤ → ℕ → ℤ
y_of c k = entry c (2 * k + 1)

unfoldable pub z_of : ℕ → List ℤ → ℕ → ℤ
z_of F c k = fix_sub (fix_sub (one F) (x_of c k)) (y_of c k)

-- X of white: wx * Y / wy
unfoldable pub white_x : ℕ → List ℤ → ℤ → ℤ
white_x F c Y = fix_div F (fix_mul F (x_of c white) Y) (y_of c white)

-- X + Z of white, where Z is wz * Y / wy
unfoldable pub white_rest : ℕ → List ℤ → ℤ → ℤ
white_rest F c Y = fix_add (white_x F c Y) (fix_div F (fix_mul F (z_of F c white) Y) (y_of c white))

-- A(k) is Y * (ky - 1) + ky * (X + Z)
unfoldable pub balance : ℕ → List ℤ → ℤ → ℕ → ℤ
balance F c Y k = fix_add (fix_mul F Y (fix_sub (y_of c k) (one F))) (fix_mul F (y_of c k) (white_rest F c Y))

-- by - gy and the like
abbrev pub rise : List ℤ → ℕ → ℕ → ℤ
rise c j k = fix_sub (y_of c j) (y_of c k)

-- (rx * (by - gy) + bx * (gy - ry)) + gx * (ry - by)
unfoldable pub divisor : ℕ → List ℤ → ℤ
divisor F c =
    fix_add (fix_add (fix_mul F (x_of c red) (rise c blue green)) (fix_mul F (x_of c blue) (rise c green red))) (fix_mul F (x_of c green) (rise c red blue))

-- ((X * (by - gy) - gx * A(b)) + bx * A(g)) / d
unfoldable pub red_share : ℕ → List ℤ → ℤ → ℤ
red_share F c Y =
    fix_div F
    (fix_add
    (fix_sub (fix_mul F (white_x F c Y) (rise c blue green)) (fix_mul F (x_of c green) (balance F c Y blue)))
    (fix_mul F (x_of c blue) (balance F c Y green)))
    (divisor F c)

-- ((X * (ry - by) + rx * A(b)) - bx * A(r)) / d
unfoldable pub green_share : ℕ → List ℤ → ℤ → ℤ
green_share F c Y =
    fix_div F
    (fix_sub
    (fix_add (fix_mul F (white_x F c Y) (rise c red blue)) (fix_mul F (x_of c red) (balance F c Y blue)))
    (fix_mul F (x_of c blue) (balance F c Y red)))
    (divisor F c)

-- ((X * (gy - ry) - rx * A(g)) + gx * A(r)) / d
unfoldable pub blue_share : ℕ → List ℤ → ℤ → ℤ
blue_share F c Y =
    fix_div F
    (fix_add
    (fix_sub (fix_mul F (white_x F c Y) (rise c green red)) (fix_mul F (x_of c red) (balance F c Y green)))
    (fix_mul F (x_of c green) (balance F c Y red)))
    (divisor F c)

-- a row of the matrix: a share times x, y and z of a point, and 0
abbrev pub row_then : ℕ → List ℤ → ℕ → ℤ → List ℤ → List ℤ
row_then F c k s rest = fix_mul F s (x_of c k) ∷ fix_mul F s (y_of c k) ∷ fix_mul F s (z_of F c k) ∷ pos 0 ∷ rest

-- the rows of red, green and blue, and 0, 0, 0, 1
abbrev pub rgb_to_xyz : ℕ → List ℤ → ℤ → List ℤ
rgb_to_xyz F c Y =
    row_then F c red (red_share F c Y)
    (row_then F c green (green_share F c Y)
    (row_then F c blue (blue_share F c Y) (pos 0 ∷ pos 0 ∷ pos 0 ∷ one F ∷ [])))
