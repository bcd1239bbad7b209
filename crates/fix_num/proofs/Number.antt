-- The numbers that digits spell.
use Rattle.std.proofs.Common.{◌≡◌, ℕ, suc, inl, inr, ◌+◌, ◌-◌, ◌*◌, ◌^◌, ◌<◌, ◌≤◌, Bool, true, false, ◌==◌, List, [], ◌∷◌, ◌++◌, length, take, drop, All, refl, sym, subst, arith}
use Rattle.std.proofs.Math.Nat.{pow-succ', mul-le-mul_right}
use Rattle.std.proofs.lemmas.Bool.{eqb-true, eqb-false, cases_lt}
use Rattle.std.proofs.lemmas.List.{take-append-drop}
use Rattle.std.proofs.lemmas.List.Sums.{fold-append}
use Rattle.fix_num.specs.Decimal.{IsDigit, number_from, number, significant, DigitsGrow}
use Rattle.fix_num.proofs.Power.{ten_some, ten_mono}

tail_digits : (b : ℕ) (digits : List ℕ) → All IsDigit (b ∷ digits) → All IsDigit digits
tail_digits b digits h = λ k d l. h (suc k) d (omega arith)

-- digits never make a number less
pub number_grows : (n : ℕ) (digits : List ℕ) → n ≤ number_from n digits
number_grows n [] = omega arith
number_grows n (b ∷ digits) = let h : 10 * n + (b - 48) ≤ number_from (10 * n + (b - 48)) digits = number_grows (10 * n + (b - 48)) digits in omega arith

pub digits_law : DigitsGrow
digits_law n digits more =
    let h : number_from n digits ≤ number_from (number_from n digits) more = number_grows (number_from n digits) more in
    let e : number_from n (digits ++ more) ≡ number_from (number_from n digits) more = fold-append (λ (m : ℕ) (b : ℕ). 10 * m + (b - 48)) n digits more in
    omega arith

pub number_part : (n i : ℕ) (digits : List ℕ) → number_from n (take i digits) ≤ number_from n digits
number_part n i digits = subst (λ (x : List ℕ). number_from n (take i digits) ≤ number_from n x) (take-append-drop i digits) (digits_law n (take i digits) (drop i digits))

pub number_joined : (a b : List ℕ) → number_from (number a) b ≡ number (a ++ b)
number_joined a b = sym (fold-append (λ (m : ℕ) (b : ℕ). 10 * m + (b - 48)) 0 a b)

-- digits after n make a number from n * 10^length on, and below the next such number
pub number_low : (n : ℕ) (digits : List ℕ) → n * 10 ^ length digits ≤ number_from n digits
number_low n [] = omega arith
number_low n (b ∷ digits) =
    let h : (10 * n + (b - 48)) * 10 ^ length digits ≤ number_from (10 * n + (b - 48)) digits = number_low (10 * n + (b - 48)) digits in
    let e : 10 ^ suc (length digits) ≡ 10 * 10 ^ length digits = pow-succ' 10 (length digits) in
    let m : 10 * n * 10 ^ length digits ≤ (10 * n + (b - 48)) * 10 ^ length digits = mul-le-mul_right (10 ^ length digits) (omega arith) in
    rw e (omega arith)

pub number_high : (n : ℕ) (digits : List ℕ) → All IsDigit digits → number_from n digits < (n + 1) * 10 ^ length digits
number_high n [] a = omega arith
number_high n (b ∷ digits) a =
    let h : number_from (10 * n + (b - 48)) digits < (10 * n + (b - 48) + 1) * 10 ^ length digits = number_high (10 * n + (b - 48)) digits (tail_digits b digits a) in
    let e : 10 ^ suc (length digits) ≡ 10 * 10 ^ length digits = pow-succ' 10 (length digits) in
    let c : b ≤ 57 = (a 0 0 (omega arith)).1 in
    let m : (10 * n + (b - 48) + 1) * 10 ^ length digits ≤ 10 * (n + 1) * 10 ^ length digits = mul-le-mul_right (10 ^ length digits) (omega arith) in
    rw e (omega arith)

pub few_small : (digits : List ℕ) → All IsDigit digits → length digits ≤ 4 → number digits < 10 ^ 4
few_small digits a few =
    let h : number digits < (0 + 1) * 10 ^ length digits = number_high 0 digits a in
    let m : 10 ^ length digits ≤ 10 ^ 4 = ten_mono (length digits) 4 few in
    omega arith

-- the significant digits tell how great the number is
few_at : (k b : ℕ) (digits : List ℕ) → All IsDigit (b ∷ digits) → (significant digits ≤ k → number digits < 10 ^ k) → (t : Bool) → (b == 48) ≡ t → significant (b ∷ digits) ≤ k → number (b ∷ digits) < 10 ^ k
few_at k b digits a before true e few =
    let q : b ≡ 48 = eqb-true b 48 e in
    let f : significant digits ≤ k = rw e at few in
    let h : number digits < 10 ^ k = before f in
    rw q h
few_at k b digits a before false e few =
    let f : length digits + 1 ≤ k = rw e at few in
    let h : number (b ∷ digits) < (0 + 1) * 10 ^ suc (length digits) = number_high 0 (b ∷ digits) a in
    let m : 10 ^ suc (length digits) ≤ 10 ^ k = ten_mono (suc (length digits)) k (omega arith) in
    omega arith

pub few_significant : (k : ℕ) (digits : List ℕ) → All IsDigit digits → significant digits ≤ k → number digits < 10 ^ k
few_significant k [] a few = ten_some k
few_significant k (b ∷ digits) a few = few_at k b digits a (few_significant k digits (tail_digits b digits a)) (b == 48) refl few

many_at : (k b : ℕ) (digits : List ℕ) → All IsDigit (b ∷ digits) → (k < significant digits → 10 ^ k ≤ number digits) → (t : Bool) → (b == 48) ≡ t → k < significant (b ∷ digits) → 10 ^ k ≤ number (b ∷ digits)
many_at k b digits a before true e many =
    let q : b ≡ 48 = eqb-true b 48 e in
    let f : k < significant digits = rw e at many in
    let h : 10 ^ k ≤ number digits = before f in
    rw q h
many_at k b digits a before false e many =
    let f : k < length digits + 1 = rw e at many in
    let low : 48 ≤ b = (a 0 0 (omega arith)).0 in
    let ne : b ≡ 48 → ⊥ = eqb-false b 48 e in
    let o : 1 ≤ 10 * 0 + (b - 48) = grind arith in
    let h : (10 * 0 + (b - 48)) * 10 ^ length digits ≤ number (b ∷ digits) = number_low (10 * 0 + (b - 48)) digits in
    let m : 10 ^ k ≤ 10 ^ length digits = ten_mono k (length digits) (omega arith) in
    let w : 1 * 10 ^ length digits ≤ (10 * 0 + (b - 48)) * 10 ^ length digits = mul-le-mul_right (10 ^ length digits) o in
    omega arith

pub many_significant : (k : ℕ) (digits : List ℕ) → All IsDigit digits → k < significant digits → 10 ^ k ≤ number digits
many_significant k [] a many = absurd (omega arith)
many_significant k (b ∷ digits) a many = many_at k b digits a (many_significant k digits (tail_digits b digits a)) (b == 48) refl many

pub significant_at_most : (k : ℕ) (digits : List ℕ) → All IsDigit digits → number digits < 10 ^ k → significant digits ≤ k
significant_at_most k digits a small =
    elim (cases_lt k (significant digits)) [ inl many ↦ absurd (let h : 10 ^ k ≤ number digits = many_significant k digits a many in omega arith) | inr few ↦ few ]

pub significant_above : (k : ℕ) (digits : List ℕ) → All IsDigit digits → 10 ^ k ≤ number digits → k < significant digits
significant_above k digits a great =
    elim (cases_lt k (significant digits)) [ inl many ↦ many | inr few ↦ absurd (let h : number digits < 10 ^ k = few_significant k digits a few in omega arith) ]
