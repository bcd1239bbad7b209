-- Products of which no more is told than that they are above a limit.
use Rattle.std.proofs.Common.{◌≡◌, ◌≤◌, ℕ, suc, zero, ◌*◌, min, ap, sym, ◌∙◌, arith}
use Rattle.std.proofs.Math.Nat.{mul_assoc}

-- one factor may be told no closer
pub capped_again : (a b c : ℕ) → min (a * min b c) c ≡ min (a * b) c
capped_again zero b c = grind arith
capped_again (suc a) b c =
    let h : b * suc a ≡ suc a * b = grind arith in
    let l : min b c ≤ suc a * min b c = grind arith in
    let m : b ≤ suc a * b = grind arith in
    grind (arith, l, m)

-- a size around sizes whose scalars are told no closer
pub capped_around : (n p inner c : ℕ) → min (n * min (p * inner) c) c ≡ min (n * p * inner) c
capped_around n p inner c = capped_again n (p * inner) c ∙ ap (λ x. min x c) (sym (mul_assoc n p inner))
