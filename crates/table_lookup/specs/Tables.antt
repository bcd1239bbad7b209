-- Tables, and the number that a table stands for at a place. F is the number of fraction bits.
use Rattle.std.specs.Prelude.{ℕ, ℤ, pos, ◌+◌, ◌-◌, ◌*◌, ◌-ℤ◌, ◌*ℤ◌, int_lt, int_le, ◌==◌, if◌then◌else◌, List, [], ◌∷◌, length, get_or, drop}
use Rattle.std.specs.List.{position_or_len}
use Rattle.fix_num.specs.Fixed.{rnd, one, fix_sub, fix_mul, fix_div}
use Rattle.table_lookup.specs.Between.{Segment, mix, axis, hermite, half_difference, half_sum}

-- ---- entries that are spread evenly

-- entry i
abbrev pub entry : List ℤ → ℕ → ℤ
entry t i = get_or t i (pos 0)

-- between the two entries of a segment
abbrev pub mix_at : ℕ → List ℤ → Segment → ℤ
mix_at F t a = mix F (entry t a.low) (entry t a.high) a.part

-- the line through the entries of t, spread evenly from lo to hi, at p
unfoldable pub lookup1 : ℕ → List ℤ → ℤ → ℤ → ℤ → ℤ
lookup1 F t lo hi p = mix_at F t (axis F (length t) lo hi p)

-- the slope at entry k of at least two: to the neighbour at an end, else half of what lies between the two neighbours
unfoldable pub slope : List ℤ → ℕ → ℤ
slope t k =
    if k == 0 then fix_sub (entry t 1) (entry t 0)
    else (if k == length t - 1 then fix_sub (entry t k) (entry t (k - 1))
    else half_difference (entry t (k + 1)) (entry t (k - 1)))

-- the first entry where a segment is one entry, else the cubic between its two entries
abbrev pub curve_at : ℕ → List ℤ → Segment → ℤ
curve_at F t a =
    if a.low == a.high then entry t 0
    else hermite F (entry t a.low) (entry t a.high) (slope t a.low) (slope t a.high) a.part

-- the curve through the entries of t, spread evenly from lo to hi, at p
unfoldable pub lookup_cubic1 : ℕ → List ℤ → ℤ → ℤ → ℤ → ℤ
lookup_cubic1 F t lo hi p = curve_at F t (axis F (length t) lo hi p)

-- ---- pairs

-- an entry that says where it lies
pub record Pair : Type 0 where
  pub x : ℤ
  pub y : ℤ

-- the pairs that a flat table stands for: each x, then its y
abbrev pub pairs : List ℤ → List Pair
pairs [] = []
pairs (x ∷ []) = []
pairs (x ∷ y ∷ t) = record { x = x; y = y } ∷ pairs t

-- pair i
abbrev pub pair : List Pair → ℕ → Pair
pair es i = get_or es i (record { x = pos 0; y = pos 0 })

-- the last pair
abbrev pub last_pair : List Pair → Pair
last_pair es = pair es (length es - 1)

-- the least i such that p lies below the x of pair i + 1
unfoldable pub interval : List Pair → ℤ → ℕ
interval es p = position_or_len (λ e. int_lt p e.x) (drop 1 es)

-- how far p lies on the way from a to b
unfoldable pub part_between : ℕ → ℤ → ℤ → ℤ → ℤ
part_between F a b p = rnd ((p -ℤ a) *ℤ one F) (b -ℤ a)

-- the line from pair i to the next, at p
unfoldable pub mix_from : ℕ → List Pair → ℤ → ℕ → ℤ
mix_from F es p i = mix F (pair es i).y (pair es (i + 1)).y (part_between F (pair es i).x (pair es (i + 1)).x p)

-- the line through the pairs at p, and beyond them the y at that end
unfoldable pub interp1 : ℕ → List Pair → ℤ → ℤ
interp1 F es p =
    if int_le p (pair es 0).x then (pair es 0).y
    else (if int_le (last_pair es).x p then (last_pair es).y
    else mix_from F es p (interval es p))

-- the slope of the line from pair k to the next
unfoldable pub secant : ℕ → List Pair → ℕ → ℤ
secant F es k = fix_div F (fix_sub (pair es (k + 1)).y (pair es k).y) (fix_sub (pair es (k + 1)).x (pair es k).x)

-- the slope at pair k of at least two: that of the one line at an end, else half of the sum of both
unfoldable pub pair_slope : ℕ → List Pair → ℕ → ℤ
pair_slope F es k =
    if k == 0 then secant F es 0
    else (if k == length es - 1 then secant F es (k - 1)
    else half_sum (secant F es (k - 1)) (secant F es k))

-- the slope at pair k times the width of the interval from pair i
abbrev pub scaled_slope : ℕ → List Pair → ℕ → ℕ → ℤ
scaled_slope F es i k = fix_mul F (pair_slope F es k) (fix_sub (pair es (i + 1)).x (pair es i).x)

-- the cubic from pair i to the next, at p
unfoldable pub curve_from : ℕ → List Pair → ℤ → ℕ → ℤ
curve_from F es p i = hermite F (pair es i).y (pair es (i + 1)).y (scaled_slope F es i i) (scaled_slope F es i (i + 1)) (part_between F (pair es i).x (pair es (i + 1)).x p)

-- the curve through the pairs at p, and beyond them the y at that end
unfoldable pub interp_cubic1 : ℕ → List Pair → ℤ → ℤ
interp_cubic1 F es p =
    if int_le p (pair es 0).x then (pair es 0).y
    else (if int_le (last_pair es).x p then (last_pair es).y
    else curve_from F es p (interval es p))

-- ---- triples in three indices

-- one channel of the entries that a flat table stands for, by their three indices, of which the middle one counts to n1 and the last one to n2:
-- the channel is the fastest, then the last index
abbrev pub channel : ℕ → ℕ → List ℤ → ℕ → ℕ → ℕ → ℕ → ℤ
channel n1 n2 t c i j k = entry t (3 * ((i * n1 + j) * n2 + k) + c)

-- along the last index
unfoldable pub along_last : ℕ → (ℕ → ℕ → ℕ → ℤ) → Segment → ℕ → ℕ → ℤ
along_last F g last i j = mix F (g i j last.low) (g i j last.high) last.part

-- then along the middle one
unfoldable pub along_middle : ℕ → (ℕ → ℕ → ℕ → ℤ) → Segment → Segment → ℕ → ℤ
along_middle F g middle last i = mix F (along_last F g last i middle.low) (along_last F g last i middle.high) middle.part

-- then along the first
unfoldable pub along_first : ℕ → (ℕ → ℕ → ℕ → ℤ) → Segment → Segment → Segment → ℤ
along_first F g first middle last = mix F (along_middle F g middle last first.low) (along_middle F g middle last first.high) first.part

-- the segment in one index, of which the entries are spread evenly from the word of lo to that of hi
abbrev pub axis_of : ℕ → ℕ → List ℤ → List ℤ → List ℤ → ℕ → Segment
axis_of F n lo hi p index = axis F n (entry lo index) (entry hi index) (entry p index)

-- one channel at the point p
abbrev pub lookup3_channel : ℕ → ℕ → ℕ → ℕ → List ℤ → List ℤ → List ℤ → List ℤ → ℕ → ℤ
lookup3_channel F n0 n1 n2 t lo hi p c =
    along_first F (channel n1 n2 t c) (axis_of F n0 lo hi p 0) (axis_of F n1 lo hi p 1) (axis_of F n2 lo hi p 2)

-- the three channels at the point p
abbrev pub lookup3 : ℕ → ℕ → ℕ → ℕ → List ℤ → List ℤ → List ℤ → List ℤ → List ℤ
lookup3 F n0 n1 n2 t lo hi p =
    lookup3_channel F n0 n1 n2 t lo hi p 0 ∷ lookup3_channel F n0 n1 n2 t lo hi p 1 ∷ lookup3_channel F n0 n1 n2 t lo hi p 2 ∷ []
