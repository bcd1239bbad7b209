-- The numbers that hexadecimal digits spell.
use Rattle.std.proofs.Common.{◌≡◌, ℕ, ◌+◌, ◌*◌, ◌≤◌, List, [], ◌∷◌, ◌++◌, take, drop, fold, arith, ap, true, eqb, inl, inr, Option, Some, None, ◌||◌, false}
use Rattle.std.specs.Prelude.{MatchOption}
use Rattle.std.proofs.lemmas.Bool.{false≢true, and_parts}
use Rattle.std.proofs.lemmas.Bool.Decides.{nat_tests}
use Rattle.std.proofs.lemmas.List.{take-append-drop}
use Rattle.std.proofs.lemmas.List.Sums.{fold-append}
use Rattle.ctl_tree.specs.TokenBytes.{begins_hexadecimal, hexadecimal_digit, hexadecimal_number, IsDigits, IsHexadecimal, IsWhole}
use Rattle.ctl_lexer.specs.Means.{NoHexadecimal, NoWhole}

abbrev pub from : ℕ → List ℕ → ℕ
from n digits = fold (λ m b. 16 * m + hexadecimal_digit b) n digits

-- digits never make a number less
grows : (n : ℕ) (digits : List ℕ) → n ≤ from n digits
grows n [] = omega arith
grows n (b ∷ digits) = let h : 16 * n + hexadecimal_digit b ≤ from (16 * n + hexadecimal_digit b) digits = grows (16 * n + hexadecimal_digit b) digits in omega arith

pub hexadecimal_part : (i : ℕ) (digits : List ℕ) → hexadecimal_number (take i digits) ≤ hexadecimal_number digits
hexadecimal_part i digits =
    let h : from 0 (take i digits) ≤ from (from 0 (take i digits)) (drop i digits) = grows (from 0 (take i digits)) (drop i digits) in
    let e : from 0 (take i digits ++ drop i digits) ≡ from (from 0 (take i digits)) (drop i digits) = fold-append (λ (m : ℕ) (b : ℕ). 16 * m + hexadecimal_digit b) 0 (take i digits) (drop i digits) in
    let t : from 0 (take i digits ++ drop i digits) ≡ from 0 digits = ap (from 0) (take-append-drop i digits) in
    omega arith

-- what begins with 0x is not all digits
mark_no_digits : (bytes : List ℕ) (n : ℕ) → begins_hexadecimal bytes ≡ true → IsDigits bytes n → ⊥
mark_no_digits [] n begins h = false≢true begins
mark_no_digits (b ∷ []) n begins h = false≢true (and_parts (eqb b 48) false begins).1
mark_no_digits (b ∷ c ∷ bytes) n begins h =
    let k : (eqb c 120 || eqb c 88) ≡ true = (and_parts (eqb b 48) (eqb c 120 || eqb c 88) begins).1 in
    let l = h.digits 1 0 (omega arith) in
    grind (arith, nat_tests)

no_marked_whole : (bytes : List ℕ) (n : ℕ) → begins_hexadecimal bytes ≡ true → NoHexadecimal bytes → IsWhole bytes n → ⊥
no_marked_whole bytes n begins none (inl digits) = mark_no_digits bytes n begins digits
no_marked_whole bytes n begins none (inr hexadecimal) = none n hexadecimal

pub marked_whole : (bytes : List ℕ) (r : Option ℕ) → begins_hexadecimal bytes ≡ true → MatchOption r (NoHexadecimal bytes) (λ n. IsHexadecimal bytes n) → MatchOption r (NoWhole bytes) (λ n. IsWhole bytes n)
marked_whole bytes None begins h = λ n whole. no_marked_whole bytes n begins h whole
marked_whole bytes (Some n) begins h = inr h
