-- A call fills as many words as its shapes have, and only the assertion refuses.
use Rattle.std.proofs.Common.{◌≡◌, ℕ, ℤ, zero, suc, ◌+◌, ◌<◌, List, [], ◌∷◌, length, take, drop, sum_by, true, lit<, refl, ap, ◌∙◌, arith}
use Rattle.std.proofs.lemmas.List.{length-take, length-drop, length-map}
use Rattle.fix_num.specs.Fixed.{fix_mul}
use Rattle.table_lookup.specs.Tables.{entry}
use Rattle.table_lookup.specs.Matrix.{sums}
use Rattle.ctl_stdlib.specs.declared.row.LibraryId.{LibraryId}
use Rattle.ctl_stdlib.specs.declared.row.LibraryId.TheVariants.{Exp, Log, Log10, Pow10, Sqrt, Fabs, Floor, Sin, Cos, Tan, Asin, Acos, Atan, Pow, Fmod, Hypot, Atan2, ExpH, LogH, Log10H, Pow10H, PowH, AddF3F3, SubtractF3F3, MultFF3, DotF3F3, CrossF3F3, LengthF3, MultF3F33, MultF3F44, MultF33F33, MultF44F44, MultFF33, MultFF44, AddF33F33, AddF44F44, TransposeF33, TransposeF44, InvertF33, InvertF44, Lookup1D, LookupCubic1D, Interpolate1D, InterpolateCubic1D, Lookup3DF3, Lookup3DF, RgbToXyz, XyzToRgb, Assert}
use Rattle.ctl_stdlib.specs.Rows.{row}
use Rattle.ctl_stdlib.specs.Shapes.{input_words}
use Rattle.ctl_stdlib.specs.Laws.{ResultsFit, OnlyAssertRefuses}
use Rattle.ctl_stdlib.specs.Means.{numbers, vectors, IsNoneOf}
use Rattle.ctl_stdlib.specs.Values.{sum_of, difference_of, product_of, dot_of, cross_of, length_of, row_by_33, row_by_44, product_33, product_44, transpose_33, transpose_44, inverse_33, inverse_44, at_point, to_xyz, to_rgb}

sums_length : (n : ℕ) (xs ys : List ℤ) → length xs ≡ n → length ys ≡ n → length (sums xs ys) ≡ n
sums_length n [] ys h k = h
sums_length zero (x ∷ xs) ys h k = absurd (omega arith)
sums_length (suc n) (x ∷ xs) [] h k = absurd (omega arith)
sums_length (suc n) (x ∷ xs) (y ∷ ys) h k = ap suc (sums_length n xs ys (omega arith) (omega arith))

sum_length : (n : ℕ) (args : List ℤ) → length args ≡ n + n → length (sum_of n args) ≡ n
unfolding sum_of
sum_length n args h = sums_length n (take n args) (drop n args) (omega (arith, length-take n args)) (omega (arith, length-drop n args))

product_length : (F n : ℕ) (args : List ℤ) → length args ≡ 1 + n → length (product_of F args) ≡ n
unfolding product_of
product_length F n args h = length-map (drop 1 args) (λ (a : ℤ). fix_mul F (entry args 0) a) ∙ omega (arith, length-drop 1 args)

pub results_law : ResultsFit
unfolding difference_of dot_of cross_of length_of row_by_33 row_by_44 product_33 product_44 transpose_33 transpose_44 inverse_33 inverse_44 at_point to_xyz to_rgb
results_law F Exp sizes table args f = refl
results_law F Log sizes table args f = refl
results_law F Log10 sizes table args f = refl
results_law F Pow10 sizes table args f = refl
results_law F Sqrt sizes table args f = refl
results_law F Fabs sizes table args f = refl
results_law F Floor sizes table args f = refl
results_law F Sin sizes table args f = refl
results_law F Cos sizes table args f = refl
results_law F Tan sizes table args f = refl
results_law F Asin sizes table args f = refl
results_law F Acos sizes table args f = refl
results_law F Atan sizes table args f = refl
results_law F Pow sizes table args f = refl
results_law F Fmod sizes table args f = refl
results_law F Hypot sizes table args f = refl
results_law F Atan2 sizes table args f = refl
results_law F ExpH sizes table args f = refl
results_law F LogH sizes table args f = refl
results_law F Log10H sizes table args f = refl
results_law F Pow10H sizes table args f = refl
results_law F PowH sizes table args f = refl
results_law F AddF3F3 sizes table args f = sum_length 3 args f.given
results_law F SubtractF3F3 sizes table args f = refl
results_law F MultFF3 sizes table args f = product_length F 3 args f.given
results_law F DotF3F3 sizes table args f = refl
results_law F CrossF3F3 sizes table args f = refl
results_law F LengthF3 sizes table args f = refl
results_law F MultF3F33 sizes table args f = refl
results_law F MultF3F44 sizes table args f = refl
results_law F MultF33F33 sizes table args f = refl
results_law F MultF44F44 sizes table args f = refl
results_law F MultFF33 sizes table args f = product_length F 9 args f.given
results_law F MultFF44 sizes table args f = product_length F 16 args f.given
results_law F AddF33F33 sizes table args f = sum_length 9 args f.given
results_law F AddF44F44 sizes table args f = sum_length 16 args f.given
results_law F TransposeF33 sizes table args f = refl
results_law F TransposeF44 sizes table args f = refl
results_law F InvertF33 sizes table args f = refl
results_law F InvertF44 sizes table args f = refl
results_law F Lookup1D sizes table args f = refl
results_law F LookupCubic1D sizes table args f = refl
results_law F Interpolate1D sizes table args f = refl
results_law F InterpolateCubic1D sizes table args f = refl
results_law F Lookup3DF3 sizes table args f = refl
results_law F Lookup3DF sizes table args f = refl
results_law F RgbToXyz sizes table args f = refl
results_law F XyzToRgb sizes table args f = refl
results_law F Assert sizes table args f = refl

others_go_on : (id : LibraryId) → (id ≡ Assert → ⊥) → (args : List ℤ) → (row id).answer args ≡ true
others_go_on Exp n args = refl
others_go_on Log n args = refl
others_go_on Log10 n args = refl
others_go_on Pow10 n args = refl
others_go_on Sqrt n args = refl
others_go_on Fabs n args = refl
others_go_on Floor n args = refl
others_go_on Sin n args = refl
others_go_on Cos n args = refl
others_go_on Tan n args = refl
others_go_on Asin n args = refl
others_go_on Acos n args = refl
others_go_on Atan n args = refl
others_go_on Pow n args = refl
others_go_on Fmod n args = refl
others_go_on Hypot n args = refl
others_go_on Atan2 n args = refl
others_go_on ExpH n args = refl
others_go_on LogH n args = refl
others_go_on Log10H n args = refl
others_go_on Pow10H n args = refl
others_go_on PowH n args = refl
others_go_on AddF3F3 n args = refl
others_go_on SubtractF3F3 n args = refl
others_go_on MultFF3 n args = refl
others_go_on DotF3F3 n args = refl
others_go_on CrossF3F3 n args = refl
others_go_on LengthF3 n args = refl
others_go_on MultF3F33 n args = refl
others_go_on MultF3F44 n args = refl
others_go_on MultF33F33 n args = refl
others_go_on MultF44F44 n args = refl
others_go_on MultFF33 n args = refl
others_go_on MultFF44 n args = refl
others_go_on AddF33F33 n args = refl
others_go_on AddF44F44 n args = refl
others_go_on TransposeF33 n args = refl
others_go_on TransposeF44 n args = refl
others_go_on InvertF33 n args = refl
others_go_on InvertF44 n args = refl
others_go_on Lookup1D n args = refl
others_go_on LookupCubic1D n args = refl
others_go_on Interpolate1D n args = refl
others_go_on InterpolateCubic1D n args = refl
others_go_on Lookup3DF3 n args = refl
others_go_on Lookup3DF n args = refl
others_go_on RgbToXyz n args = refl
others_go_on XyzToRgb n args = refl
others_go_on Assert n args = absurd (n refl)

pub refusal_law : OnlyAssertRefuses
refusal_law = record { others = others_go_on; assertion = λ args. refl }

-- what is left beside the numbers, the vectors and the tables
pub is_assert : (id : LibraryId) → IsNoneOf numbers id → IsNoneOf vectors id → (id ≡ Lookup1D → ⊥) → (id ≡ LookupCubic1D → ⊥) → (id ≡ Interpolate1D → ⊥) → (id ≡ InterpolateCubic1D → ⊥) → (id ≡ Lookup3DF3 → ⊥) → (id ≡ Lookup3DF → ⊥) → (id ≡ RgbToXyz → ⊥) → (id ≡ XyzToRgb → ⊥) → id ≡ Assert
is_assert Exp n v a b c d e f g h = absurd (n.0 refl)
is_assert Log n v a b c d e f g h = absurd (n.1.0 refl)
is_assert Log10 n v a b c d e f g h = absurd (n.1.1.0 refl)
is_assert Pow10 n v a b c d e f g h = absurd (n.1.1.1.0 refl)
is_assert Sqrt n v a b c d e f g h = absurd (n.1.1.1.1.0 refl)
is_assert Fabs n v a b c d e f g h = absurd (n.1.1.1.1.1.0 refl)
is_assert Floor n v a b c d e f g h = absurd (n.1.1.1.1.1.1.0 refl)
is_assert Sin n v a b c d e f g h = absurd (n.1.1.1.1.1.1.1.0 refl)
is_assert Cos n v a b c d e f g h = absurd (n.1.1.1.1.1.1.1.1.0 refl)
is_assert Tan n v a b c d e f g h = absurd (n.1.1.1.1.1.1.1.1.1.0 refl)
is_assert Asin n v a b c d e f g h = absurd (n.1.1.1.1.1.1.1.1.1.1.0 refl)
is_assert Acos n v a b c d e f g h = absurd (n.1.1.1.1.1.1.1.1.1.1.1.0 refl)
is_assert Atan n v a b c d e f g h = absurd (n.1.1.1.1.1.1.1.1.1.1.1.1.0 refl)
is_assert Pow n v a b c d e f g h = absurd (n.1.1.1.1.1.1.1.1.1.1.1.1.1.0 refl)
is_assert Fmod n v a b c d e f g h = absurd (n.1.1.1.1.1.1.1.1.1.1.1.1.1.1.0 refl)
is_assert Hypot n v a b c d e f g h = absurd (n.1.1.1.1.1.1.1.1.1.1.1.1.1.1.1.0 refl)
is_assert Atan2 n v a b c d e f g h = absurd (n.1.1.1.1.1.1.1.1.1.1.1.1.1.1.1.1.0 refl)
is_assert ExpH n v a b c d e f g h = absurd (n.1.1.1.1.1.1.1.1.1.1.1.1.1.1.1.1.1.0 refl)
is_assert LogH n v a b c d e f g h = absurd (n.1.1.1.1.1.1.1.1.1.1.1.1.1.1.1.1.1.1.0 refl)
is_assert Log10H n v a b c d e f g h = absurd (n.1.1.1.1.1.1.1.1.1.1.1.1.1.1.1.1.1.1.1.0 refl)
is_assert Pow10H n v a b c d e f g h = absurd (n.1.1.1.1.1.1.1.1.1.1.1.1.1.1.1.1.1.1.1.1.0 refl)
is_assert PowH n v a b c d e f g h = absurd (n.1.1.1.1.1.1.1.1.1.1.1.1.1.1.1.1.1.1.1.1.1.0 refl)
is_assert AddF3F3 n v a b c d e f g h = absurd (v.0 refl)
is_assert SubtractF3F3 n v a b c d e f g h = absurd (v.1.0 refl)
is_assert MultFF3 n v a b c d e f g h = absurd (v.1.1.0 refl)
is_assert DotF3F3 n v a b c d e f g h = absurd (v.1.1.1.0 refl)
is_assert CrossF3F3 n v a b c d e f g h = absurd (v.1.1.1.1.0 refl)
is_assert LengthF3 n v a b c d e f g h = absurd (v.1.1.1.1.1.0 refl)
is_assert MultF3F33 n v a b c d e f g h = absurd (v.1.1.1.1.1.1.0 refl)
is_assert MultF3F44 n v a b c d e f g h = absurd (v.1.1.1.1.1.1.1.0 refl)
is_assert MultF33F33 n v a b c d e f g h = absurd (v.1.1.1.1.1.1.1.1.0 refl)
is_assert MultF44F44 n v a b c d e f g h = absurd (v.1.1.1.1.1.1.1.1.1.0 refl)
is_assert MultFF33 n v a b c d e f g h = absurd (v.1.1.1.1.1.1.1.1.1.1.0 refl)
is_assert MultFF44 n v a b c d e f g h = absurd (v.1.1.1.1.1.1.1.1.1.1.1.0 refl)
is_assert AddF33F33 n v a b c d e f g h = absurd (v.1.1.1.1.1.1.1.1.1.1.1.1.0 refl)
is_assert AddF44F44 n v a b c d e f g h = absurd (v.1.1.1.1.1.1.1.1.1.1.1.1.1.0 refl)
is_assert TransposeF33 n v a b c d e f g h = absurd (v.1.1.1.1.1.1.1.1.1.1.1.1.1.1.0 refl)
is_assert TransposeF44 n v a b c d e f g h = absurd (v.1.1.1.1.1.1.1.1.1.1.1.1.1.1.1.0 refl)
is_assert InvertF33 n v a b c d e f g h = absurd (v.1.1.1.1.1.1.1.1.1.1.1.1.1.1.1.1.0 refl)
is_assert InvertF44 n v a b c d e f g h = absurd (v.1.1.1.1.1.1.1.1.1.1.1.1.1.1.1.1.1.0 refl)
is_assert Lookup1D n v a b c d e f g h = absurd (a refl)
is_assert LookupCubic1D n v a b c d e f g h = absurd (b refl)
is_assert Interpolate1D n v a b c d e f g h = absurd (c refl)
is_assert InterpolateCubic1D n v a b c d e f g h = absurd (d refl)
is_assert Lookup3DF3 n v a b c d e f g h = absurd (e refl)
is_assert Lookup3DF n v a b c d e f g h = absurd (f refl)
is_assert RgbToXyz n v a b c d e f g h = absurd (g refl)
is_assert XyzToRgb n v a b c d e f g h = absurd (h refl)
is_assert Assert n v a b c d e f g h = refl

-- each function has an argument beside its table
pub some_words : (id : LibraryId) → 0 < sum_by input_words (row id).params
some_words Exp = lit< tt
some_words Log = lit< tt
some_words Log10 = lit< tt
some_words Pow10 = lit< tt
some_words Sqrt = lit< tt
some_words Fabs = lit< tt
some_words Floor = lit< tt
some_words Sin = lit< tt
some_words Cos = lit< tt
some_words Tan = lit< tt
some_words Asin = lit< tt
some_words Acos = lit< tt
some_words Atan = lit< tt
some_words Pow = lit< tt
some_words Fmod = lit< tt
some_words Hypot = lit< tt
some_words Atan2 = lit< tt
some_words ExpH = lit< tt
some_words LogH = lit< tt
some_words Log10H = lit< tt
some_words Pow10H = lit< tt
some_words PowH = lit< tt
some_words AddF3F3 = lit< tt
some_words SubtractF3F3 = lit< tt
some_words MultFF3 = lit< tt
some_words DotF3F3 = lit< tt
some_words CrossF3F3 = lit< tt
some_words LengthF3 = lit< tt
some_words MultF3F33 = lit< tt
some_words MultF3F44 = lit< tt
some_words MultF33F33 = lit< tt
some_words MultF44F44 = lit< tt
some_words MultFF33 = lit< tt
some_words MultFF44 = lit< tt
some_words AddF33F33 = lit< tt
some_words AddF44F44 = lit< tt
some_words TransposeF33 = lit< tt
some_words TransposeF44 = lit< tt
some_words InvertF33 = lit< tt
some_words InvertF44 = lit< tt
some_words Lookup1D = lit< tt
some_words LookupCubic1D = lit< tt
some_words Interpolate1D = lit< tt
some_words InterpolateCubic1D = lit< tt
some_words Lookup3DF3 = lit< tt
some_words Lookup3DF = lit< tt
some_words RgbToXyz = lit< tt
some_words XyzToRgb = lit< tt
some_words Assert = lit< tt
