-- Decimal constants of 18 places, as whole numbers of 10^-18.
use Rattle.std.specs.Prelude.{ℕ}

-- log2(e), that is 1 / ln(2)
abbrev pub log2_e : ℕ
log2_e = 1442695040888963407

-- log2(10)
abbrev pub log2_ten : ℕ
log2_ten = 3321928094887362348

-- ln(2)
abbrev pub ln_2 : ℕ
ln_2 = 693147180559945309

-- log10(2)
abbrev pub log10_2 : ℕ
log10_2 = 301029995663981195

-- 2 / pi
abbrev pub two_over_pi : ℕ
two_over_pi = 636619772367581343

-- pi / 2
abbrev pub half_pi : ℕ
half_pi = 1570796326794896619
