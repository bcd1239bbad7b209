-- Results are in the range of their kind.
use Rattle.std.proofs.Common.{◌≡◌, ℕ, ℤ, zero, suc, pos, negsuc, ◌*ℤ◌, ◌<ℤ◌, ◌≤ℤ◌, ◌-◌, ◌*◌, ◌/◌, ◌%◌, ◌^◌, ◌<◌, ◌≤◌, ◌==◌, unsigned_abs, Bool, true, false, if◌then◌else◌, FitsSigned, w32, refl, lit<, arith}
use Rattle.std.specs.Prelude.{int_div, int_rem, int_lt}
use Rattle.std.specs.Int.{int_wrap, int_div_euclid}
use Rattle.std.proofs.Math.Nat.{div-le_self, mul-le-mul_left, mul-le-mul_right, mul-le-mul}
use Rattle.std.proofs.Math.Pow.{pow_mono, pow_pos}
use Rattle.std.proofs.lemmas.Bool.Decides.{nat_tests}
use Rattle.std.proofs.lemmas.Int.{ints, clamps, SFits-int_wrap, rem_below}
use Rattle.std.proofs.lemmas.Nat.{div_below}
use Rattle.fix_num.specs.Decimal.{Decimal, decimal_raw}
use Rattle.fix_num.specs.Fixed.{IsRaw, max_raw, rnd, one, root, clamped, fix_div, fix_neg, fix_abs, fix_sqrt, code_in, code_out}
use Rattle.fix_num.specs.Half.{IsHalf, half_unit}
use Rattle.fix_num.specs.Ranges.{ArithmeticStaysInRange, HalvesStayInRange, WholesStayInRange, CodesStayInRange}
use Rattle.fix_num.specs.Whole.{IsWhole, as_whole, whole, word, from_whole, to_int, to_unsigned, of_bool}
use Rattle.fix_num.specs.declared.integers.WholeOp.{WholeOp}
use Rattle.fix_num.specs.declared.integers.WholeOp.TheVariants.{Add, Sub, Mul, Div, Rem, And, Or, Xor, Shl, Shr}
use Rattle.fix_num.proofs.Bounds.{bounds_law}
use Rattle.fix_num.proofs.Choice.{half_nearest}
use Rattle.fix_num.proofs.Floor.{rest_bounds}
use Rattle.fix_num.proofs.Near.{size_most}
use Rattle.fix_num.proofs.Power.{sat_raw}
use Rattle.fix_num.proofs.Squares.{root_below}

-- ---- arithmetic

either_raw : (t : Bool) (x y : ℤ) → IsRaw x → IsRaw y → IsRaw (if t then x else y)
either_raw true x y h k = h
either_raw false x y h k = k

negative_raw : (a : ℤ) → IsRaw a → IsRaw (fix_neg a)
negative_raw (pos zero) h = (omega (arith, ints), omega (arith, ints))
negative_raw (pos (suc a)) h = (omega (arith, ints), omega (arith, ints))
negative_raw (negsuc a) h = (omega (arith, ints), omega (arith, ints))

size_raw : (a : ℤ) → IsRaw a → IsRaw (fix_abs a) × (pos 0 ≤ℤ fix_abs a)
size_raw (pos a) h = ((omega (arith, ints), omega (arith, ints)), omega (arith, ints))
size_raw (negsuc a) h = ((omega (arith, ints), omega (arith, ints)), omega (arith, ints))

root_small : (F n : ℕ) → F ≤ 40 → n ≤ max_raw → root (n * 2 ^ F) < 2 ^ 63
root_small F n h small =
    let p : 2 ^ F ≤ 2 ^ 40 = pow_mono {i = F} {j = 40} h in
    let m : n * 2 ^ F ≤ max_raw * 2 ^ 40 = mul-le-mul small p in
    root_below (n * 2 ^ F) (2 ^ 63) (omega (arith, m))

root_raw : (F : ℕ) (a : ℤ) → F ≤ 40 → IsRaw a → IsRaw (fix_sqrt F a) × (pos 0 ≤ℤ fix_sqrt F a)
root_raw F (pos n) f h = let r : root (n * 2 ^ F) < 2 ^ 63 = root_small F n f (omega (arith, ints)) in ((omega (arith, ints), omega (arith, ints, r)), omega (arith, ints))
root_raw F (negsuc n) f h = ((omega (arith, ints), omega (arith, ints)), omega (arith, ints))

quotient_raw : (F : ℕ) (a b : ℤ) → IsRaw (fix_div F a b)
quotient_raw F a b =
    either_raw (int_lt (pos 0) b) _ _ (sat_raw _)
    (either_raw (int_lt b (pos 0)) _ _ (sat_raw _)
    (either_raw (int_lt (pos 0) a) _ _ (omega (arith, ints), omega (arith, ints))
    (either_raw (int_lt a (pos 0)) _ _ (omega (arith, ints), omega (arith, ints)) (omega (arith, ints), omega (arith, ints)))))

decimal_raw_raw : (F : ℕ) (d : Decimal) → IsRaw (decimal_raw F d)
unfolding decimal_raw
decimal_raw_raw F d = sat_raw _

pub arithmetic_law : ArithmeticStaysInRange
arithmetic_law F h =
    record {
      sum = λ a b. sat_raw _;
      difference = λ a b. sat_raw _;
      product = λ a b. sat_raw _;
      quotient = quotient_raw F;
      negative = negative_raw;
      size = size_raw;
      floor = λ a. sat_raw _;
      times = λ a n. sat_raw _;
      root = λ a r. root_raw F a h r;
      decimal = decimal_raw_raw F;
    }

-- ---- halves

raw_of_size : (h : ℤ) → unsigned_abs h ≤ max_raw → IsRaw h
raw_of_size (pos n) s = (omega (arith, ints), omega (arith, ints))
raw_of_size (negsuc n) s = (omega (arith, ints), omega (arith, ints))

half_raw : (F : ℕ) (h : ℤ) → F ≤ 40 → IsHalf (half_unit F) h → IsRaw h
half_raw F h f z =
    let p : half_unit F ≤ 2 ^ 16 = pow_mono {i = F - 24} {j = 16} (omega arith) in
    let m : unsigned_abs h ≤ 2047 * (2 ^ 29 * half_unit F) = size_most (half_unit F) (unsigned_abs h) z in
    raw_of_size h (omega (arith, m, p))

pub halves_law : HalvesStayInRange
halves_law F h = record { half = λ r. (half_nearest F r).half; raw = λ x z. half_raw F x h z }

-- ---- whole numbers

whole_zero : (signed : Bool) → IsWhole signed (pos 0)
whole_zero true = (omega (arith, ints), omega (arith, ints))
whole_zero false = (omega (arith, ints), omega (arith, ints))

int_of_fit : (z : ℤ) → FitsSigned w32 z → IsWhole true z
int_of_fit (pos n) f = (omega (arith, ints), omega (arith, ints))
int_of_fit (negsuc n) f = (omega (arith, ints), omega (arith, ints))

whole_wrapped : (signed : Bool) (z : ℤ) → IsWhole signed (as_whole signed z)
whole_wrapped true z = int_of_fit (int_wrap w32 z) (SFits-int_wrap w32 z)
whole_wrapped false z = rest_bounds z (2 ^ 32) (lit< tt)

either_whole : (signed t : Bool) (x y : ℤ) → (t ≡ true → IsWhole signed x) → (t ≡ false → IsWhole signed y) → IsWhole signed (if t then x else y)
either_whole signed true x y h k = h refl
either_whole signed false x y h k = k refl

int_small : (z : ℤ) → unsigned_abs z < 2 ^ 31 → IsWhole true z
int_small (pos n) h = (omega (arith, ints), omega (arith, ints))
int_small (negsuc n) h = (omega (arith, ints), omega (arith, ints))

size_of_int : (z : ℤ) → IsWhole true z → unsigned_abs z ≤ 2 ^ 31
size_of_int (pos n) h = omega (arith, ints)
size_of_int (negsuc n) h = omega (arith, ints)

some_size : (z : ℤ) → (unsigned_abs z == 0) ≡ false → 0 < unsigned_abs z
some_size z h = grind (arith, nat_tests)

rest_whole : (signed : Bool) (a b : ℤ) → IsWhole signed a → IsWhole signed b → (unsigned_abs b == 0) ≡ false → IsWhole signed (int_rem a b)
rest_whole true a b h k e =
    let r : unsigned_abs (int_rem a b) < unsigned_abs b = rem_below a b (some_size b e) in
    let s : unsigned_abs b ≤ 2 ^ 31 = size_of_int b k in
    int_small (int_rem a b) (omega (arith, r, s))
rest_whole false (pos a) (pos b) h k e = let r : a % b ≤ a = omega arith in (omega (arith, ints), omega (arith, ints, r))
rest_whole false (negsuc a) b h k e = absurd (omega (arith, ints, h.0))
rest_whole false (pos a) (negsuc b) h k e = absurd (omega (arith, ints, k.0))

shifted_whole : (signed : Bool) (a : ℤ) (k : ℕ) → IsWhole signed a → IsWhole signed (int_div_euclid a (pos (2 ^ k)))
shifted_whole true (pos a) k h = let q : a / 2 ^ k ≤ a = div-le_self a (2 ^ k) in (omega (arith, ints), omega (arith, ints, q))
shifted_whole true (negsuc a) k h = let q : a / 2 ^ k ≤ a = div-le_self a (2 ^ k) in (omega (arith, ints, q), omega (arith, ints))
shifted_whole false (pos a) k h = let q : a / 2 ^ k ≤ a = div-le_self a (2 ^ k) in (omega (arith, ints), omega (arith, ints, q))
shifted_whole false (negsuc a) k h = absurd (omega (arith, ints, h.0))

operation_whole : (op : WholeOp) (signed : Bool) (a b : ℤ) → IsWhole signed a → IsWhole signed b → IsWhole signed (whole op signed a b)
operation_whole Add signed a b h k = whole_wrapped signed _
operation_whole Sub signed a b h k = whole_wrapped signed _
operation_whole Mul signed a b h k = whole_wrapped signed _
operation_whole Div signed a b h k = either_whole signed (unsigned_abs b == 0) (pos 0) (as_whole signed (int_div a b)) (λ e. whole_zero signed) (λ e. whole_wrapped signed (int_div a b))
operation_whole Rem signed a b h k = either_whole signed (unsigned_abs b == 0) (pos 0) (int_rem a b) (λ e. whole_zero signed) (λ e. rest_whole signed a b h k e)
operation_whole And signed a b h k = whole_wrapped signed _
operation_whole Or signed a b h k = whole_wrapped signed _
operation_whole Xor signed a b h k = whole_wrapped signed _
operation_whole Shl signed a b h k = whole_wrapped signed _
operation_whole Shr signed a b h k = shifted_whole signed a (word b % 32) h

bool_whole : (signed b : Bool) → IsWhole signed (of_bool b)
bool_whole true true = (omega (arith, ints), omega (arith, ints))
bool_whole true false = (omega (arith, ints), omega (arith, ints))
bool_whole false true = (omega (arith, ints), omega (arith, ints))
bool_whole false false = (omega (arith, ints), omega (arith, ints))

-- the whole part of a raw has 31 bits
part_small : (F n : ℕ) → 32 ≤ F → n ≤ max_raw → n / 2 ^ F < 2 ^ 31
part_small F n h small =
    let p : 2 ^ 32 ≤ 2 ^ F = pow_mono {i = 32} {j = F} h in
    let m : 2 ^ 31 * 2 ^ 32 ≤ 2 ^ 31 * 2 ^ F = mul-le-mul_left (2 ^ 31) p in
    div_below n (2 ^ F) (2 ^ 31) (pow_pos F) (omega (arith, m))

int_of_raw : (F : ℕ) (r : ℤ) → 32 ≤ F → IsRaw r → IsWhole true (to_int F r)
int_of_raw F (pos n) f h = let s : n / 2 ^ F < 2 ^ 31 = part_small F n f (omega (arith, ints)) in (omega (arith, ints), omega (arith, ints, s))
int_of_raw F (negsuc n) f h = let s : suc n / 2 ^ F < 2 ^ 31 = part_small F (suc n) f (omega (arith, ints)) in (omega (arith, ints, s), omega (arith, ints))

unsigned_of_raw : (F : ℕ) (r : ℤ) → 32 ≤ F → IsRaw r → IsWhole false (to_unsigned F r)
unsigned_of_raw F (pos n) f h =
    let s : n / 2 ^ F < 2 ^ 31 = part_small F n f (omega (arith, ints)) in
    either_whole false (int_lt (pos n) (pos 0)) (pos 0) (pos (n / 2 ^ F)) (λ e. whole_zero false) (λ e. (omega (arith, ints), omega (arith, ints, s)))
unsigned_of_raw F (negsuc n) f h = (omega (arith, ints), omega (arith, ints))

pub wholes_law : WholesStayInRange
wholes_law F f h =
    record {
      operation = operation_whole;
      wrapped = whole_wrapped;
      bool = bool_whole;
      int = λ r z. int_of_raw F r f z;
      unsigned = λ r z. unsigned_of_raw F r f z;
      number = λ n. sat_raw _;
      half = λ n. (half_nearest F (from_whole F n)).half;
    }

-- ---- codes

within : (z high : ℤ) → pos 0 ≤ℤ high → (pos 0 ≤ℤ clamped z (pos 0) high) × (clamped z (pos 0) high ≤ℤ high)
unfolding clamped
within z high h = (omega (arith, ints, clamps), omega (arith, ints, clamps))

-- a share of m steps, where x of d are taken
share : (x d : ℤ) (m : ℕ) → pos 0 <ℤ d → pos 0 ≤ℤ x → x ≤ℤ d → (pos 0 ≤ℤ rnd (x *ℤ pos m) d) × (rnd (x *ℤ pos m) d ≤ℤ pos m)
share (pos x) (pos d) m h low high =
    let f : x * m ≤ d * m = mul-le-mul_right m (omega (arith, ints)) in
    bounds_law (pos (x * m)) (pos d) (pos 0) (pos m) h (omega (arith, ints)) (omega (arith, ints, f))
share (negsuc x) d m h low high = absurd (omega (arith, ints))
share (pos x) (negsuc d) m h low high = absurd (omega (arith, ints))

written_code : (F b : ℕ) (r : ℤ) → (pos 0 ≤ℤ code_out F r b) × (code_out F r b <ℤ pos (2 ^ b))
written_code F b r =
    let some : 0 < 2 ^ b = pow_pos b in
    let step : 0 < 2 ^ F = pow_pos F in
    let x : (pos 0 ≤ℤ clamped r (pos 0) (one F)) × (clamped r (pos 0) (one F) ≤ℤ one F) = within r (one F) (omega (arith, ints)) in
    let s : (pos 0 ≤ℤ code_out F r b) × (code_out F r b ≤ℤ pos (2 ^ b - 1)) = share (clamped r (pos 0) (one F)) (one F) (2 ^ b - 1) (omega (arith, ints, step)) x.0 x.1 in
    (s.0, omega (arith, ints, s.1, some))

read_code : (F c b : ℕ) → 0 < b → c < 2 ^ b → (pos 0 ≤ℤ code_in F c b) × (code_in F c b ≤ℤ one F)
read_code F c b some fits =
    let p : 2 ^ 1 ≤ 2 ^ b = pow_mono {i = 1} {j = b} some in
    share (pos c) (pos (2 ^ b - 1)) (2 ^ F) (omega (arith, ints, p)) (omega (arith, ints)) (omega (arith, ints))

pub codes_law : CodesStayInRange
codes_law F = record { written = λ r b. written_code F b r; read = read_code F }
