-- A function that gives a half gives one of the halves.
use Rattle.std.proofs.Common.{ℕ, ℤ, ◌≤◌, [], ◌∷◌, All, arith}
use Rattle.std.proofs.lemmas.List.Elements.{All-cons}
use Rattle.fix_num.specs.Half.{IsHalf, half, half_unit}
use Rattle.fix_num.specs.Ranges.{HalvesStayInRange}
use Rattle.ctl_stdlib.specs.declared.row.LibraryId.TheVariants.{Exp, Log, Log10, Pow10, Sqrt, Fabs, Floor, Sin, Cos, Tan, Asin, Acos, Atan, Pow, Fmod, Hypot, Atan2, ExpH, LogH, Log10H, Pow10H, PowH, AddF3F3, SubtractF3F3, MultFF3, DotF3F3, CrossF3F3, LengthF3, MultF3F33, MultF3F44, MultF33F33, MultF44F44, MultFF33, MultFF44, AddF33F33, AddF44F44, TransposeF33, TransposeF44, InvertF33, InvertF44, Lookup1D, LookupCubic1D, Interpolate1D, InterpolateCubic1D, Lookup3DF3, Lookup3DF, RgbToXyz, XyzToRgb, Assert}
use Rattle.ctl_stdlib.specs.Laws.{HalvesComeOut}

one_half : (F : ℕ) → F ≤ 40 → HalvesStayInRange → (r : ℤ) → All (IsHalf (half_unit F)) (half F r ∷ [])
one_half F f law r = All-cons (IsHalf (half_unit F)) (half F r) [] ((law F f).half r) (λ k d l. absurd (omega arith))

pub halves_law : HalvesStayInRange → HalvesComeOut
halves_law law F f Exp e sizes table args = absurd (cc)
halves_law law F f Log e sizes table args = absurd (cc)
halves_law law F f Log10 e sizes table args = absurd (cc)
halves_law law F f Pow10 e sizes table args = absurd (cc)
halves_law law F f Sqrt e sizes table args = absurd (cc)
halves_law law F f Fabs e sizes table args = absurd (cc)
halves_law law F f Floor e sizes table args = absurd (cc)
halves_law law F f Sin e sizes table args = absurd (cc)
halves_law law F f Cos e sizes table args = absurd (cc)
halves_law law F f Tan e sizes table args = absurd (cc)
halves_law law F f Asin e sizes table args = absurd (cc)
halves_law law F f Acos e sizes table args = absurd (cc)
halves_law law F f Atan e sizes table args = absurd (cc)
halves_law law F f Pow e sizes table args = absurd (cc)
halves_law law F f Fmod e sizes table args = absurd (cc)
halves_law law F f Hypot e sizes table args = absurd (cc)
halves_law law F f Atan2 e sizes table args = absurd (cc)
halves_law law F f ExpH e sizes table args = one_half F f law _
halves_law law F f LogH e sizes table args = one_half F f law _
halves_law law F f Log10H e sizes table args = one_half F f law _
halves_law law F f Pow10H e sizes table args = one_half F f law _
halves_law law F f PowH e sizes table args = one_half F f law _
halves_law law F f AddF3F3 e sizes table args = absurd (cc)
halves_law law F f SubtractF3F3 e sizes table args = absurd (cc)
halves_law law F f MultFF3 e sizes table args = absurd (cc)
halves_law law F f DotF3F3 e sizes table args = absurd (cc)
halves_law law F f CrossF3F3 e sizes table args = absurd (cc)
halves_law law F f LengthF3 e sizes table args = absurd (cc)
halves_law law F f MultF3F33 e sizes table args = absurd (cc)
halves_law law F f MultF3F44 e sizes table args = absurd (cc)
halves_law law F f MultF33F33 e sizes table args = absurd (cc)
halves_law law F f MultF44F44 e sizes table args = absurd (cc)
halves_law law F f MultFF33 e sizes table args = absurd (cc)
halves_law law F f MultFF44 e sizes table args = absurd (cc)
halves_law law F f AddF33F33 e sizes table args = absurd (cc)
halves_law law F f AddF44F44 e sizes table args = absurd (cc)
halves_law law F f TransposeF33 e sizes table args = absurd (cc)
halves_law law F f TransposeF44 e sizes table args = absurd (cc)
halves_law law F f InvertF33 e sizes table args = absurd (cc)
halves_law law F f InvertF44 e sizes table args = absurd (cc)
halves_law law F f Lookup1D e sizes table args = absurd (cc)
halves_law law F f LookupCubic1D e sizes table args = absurd (cc)
halves_law law F f Interpolate1D e sizes table args = absurd (cc)
halves_law law F f InterpolateCubic1D e sizes table args = absurd (cc)
halves_law law F f Lookup3DF3 e sizes table args = absurd (cc)
halves_law law F f Lookup3DF e sizes table args = absurd (cc)
halves_law law F f RgbToXyz e sizes table args = absurd (cc)
halves_law law F f XyzToRgb e sizes table args = absurd (cc)
halves_law law F f Assert e sizes table args = absurd (cc)
