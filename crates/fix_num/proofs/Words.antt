-- Whole numbers of 32 bits and their bits.
use Rattle.std.proofs.Common.{◌≡◌, ℕ, ℤ, suc, pos, negsuc, neg_ℤ, ◌+ℤ◌, ◌*ℤ◌, ◌+◌, ◌-◌, ◌*◌, ◌%◌, ◌^◌, ◌<◌, unsigned_abs, FitsSigned, to_z, of_z, w32, Bool, true, false, ◌==◌, if◌then◌else◌, refl, ap, sym, ◌∙◌, lit<, arith}
use Rattle.std.proofs.lemmas.Int.{ints, int_rem_euclid_is}
use Rattle.std.proofs.lemmas.Bool.{false≢true}
use Rattle.std.proofs.lemmas.Bool.Decides.{nat_tests}
use Rattle.std.specs.Int.{int_wrap, int_rem_euclid}
use Rattle.fix_num.specs.Whole.{as_int, as_unsigned, word}

-- the bits of an int are its word
pub of_word : (z : ℤ) → FitsSigned w32 z → of_z w32 z ≡ word z
of_word (pos n) f = omega (arith, ints)
of_word (negsuc n) f = omega (arith, ints)

pub word_below : (z : ℤ) → word z < 2 ^ 32
word_below (pos n) = omega arith
word_below (negsuc n) = omega arith

-- a word read as an int
pub int_of : (n : ℕ) → n < 2 ^ 32 → to_z w32 n ≡ as_int (pos n)
unfolding int_wrap
int_of n h = let e : n % 2 ^ 32 ≡ n = omega arith in ap (to_z w32) (sym e)

pub unsigned_of : (n : ℕ) → n < 2 ^ 32 → pos n ≡ as_unsigned (pos n)
unsigned_of n h = let e : n % 2 ^ 32 ≡ n = omega arith in ap pos (sym e)

-- an operation on bits
pub bits_int : (f : ℕ → ℕ → ℕ) → ((x y : ℕ) → x < 2 ^ 32 → y < 2 ^ 32 → f x y < 2 ^ 32) → (a b : ℤ) → FitsSigned w32 a → FitsSigned w32 b → to_z w32 (f (of_z w32 a) (of_z w32 b)) ≡ as_int (pos (f (word a) (word b)))
bits_int f h a b x y = ap (λ (n : ℕ). to_z w32 (f n (of_z w32 b))) (of_word a x) ∙ ap (λ (n : ℕ). to_z w32 (f (word a) n)) (of_word b y) ∙ int_of (f (word a) (word b)) (h (word a) (word b) (word_below a) (word_below b))

pub bits_unsigned : (f : ℕ → ℕ → ℕ) → ((x y : ℕ) → x < 2 ^ 32 → y < 2 ^ 32 → f x y < 2 ^ 32) → (a b : ℕ) → a < 2 ^ 32 → b < 2 ^ 32 → pos (f a b) ≡ as_unsigned (pos (f (word (pos a)) (word (pos b))))
bits_unsigned f h a b x y =
    let d : a ≡ word (pos a) = omega arith in
    let e : b ≡ word (pos b) = omega arith in
    unsigned_of (f a b) (h a b x y) ∙ ap (λ (n : ℕ). as_unsigned (pos (f n b))) d ∙ ap (λ (n : ℕ). as_unsigned (pos (f (word (pos a)) n))) e

-- what the bits of a quotient say
pub int_at : (z : ℤ) → unsigned_abs z < 2 ^ 32 → to_z w32 (of_z w32 z) ≡ as_int z
unfolding int_wrap
int_at (pos n) h = let e : n % 2 ^ 32 ≡ n = omega arith in ap (to_z w32) (sym e)
int_at (negsuc n) h = let e : 2 ^ 32 - suc n ≡ 2 ^ 32 - 1 - n % 2 ^ 32 = omega arith in ap (to_z w32) e

-- a divisor that is not 0
pub some_divisor : (b : ℤ) → (of_z w32 b ≡ 0 → ⊥) → (unsigned_abs b == 0) ≡ false
some_divisor (pos n) h = grind (arith, nat_tests)
some_divisor (negsuc n) h = grind (arith, nat_tests)

pub if_false : (t : Bool) (x y z : ℤ) → t ≡ false → x ≡ z → x ≡ (if t then y else z)
if_false true x y z e h = absurd (false≢true (sym e))
if_false false x y z e h = h

-- a shift to the left
shifted_at : (k a p n : ℕ) → n ≡ k + suc a → neg_ℤ (pos (suc a * p)) +ℤ pos (p * n) ≡ pos (k * p)
shifted_at k a p n e = rw e (omega (arith, ints))

shifted : (a : ℤ) (p : ℕ) → FitsSigned w32 a → int_rem_euclid (a *ℤ pos p) (pos (2 ^ 32)) ≡ pos (of_z w32 a * p % 2 ^ 32)
shifted (pos a) p f = refl
shifted (negsuc a) p f = int_rem_euclid_is (negsuc a *ℤ pos p) (pos (2 ^ 32)) (2 ^ 32) p ((2 ^ 32 - suc a) * p) (lit< tt) refl (shifted_at (2 ^ 32 - suc a) a p (2 ^ 32) (omega (arith, ints)))

pub shift_int : (a : ℤ) (p : ℕ) → FitsSigned w32 a → to_z w32 (of_z w32 a * p % 2 ^ 32) ≡ as_int (a *ℤ pos p)
unfolding int_wrap
shift_int a p f = ap (λ (z : ℤ). to_z w32 (unsigned_abs z)) (sym (shifted a p f))
