-- Bytes of a number by shifts.
use Rattle.std.proofs.Common.{◌≡◌, ℕ, zero, suc, ◌+◌, ◌*◌, ◌/◌, ◌%◌, ◌-◌, ◌^◌, ◌<◌, ◌≤◌, List, [], ◌∷◌, ◌++◌, refl, sym, ap, ◌∙◌, append_assoc, arith}
use Rattle.std.proofs.Math.Nat.{div-one, div-eq_of_lt, pow-suc, pow-le-pow_right}
use Rattle.std.proofs.lemmas.Nat.{pow-add}
use Rattle.std.specs.Int.{byte_at}
use Rattle.byteorder.specs.Endian.{big_bytes}

pow_256 : (k : ℕ) → 2 ^ (8 * k) ≡ 256 ^ k
pow_256 zero = refl
pow_256 (suc k) =
    let e : 8 * suc k ≡ 8 * k + 8 = omega arith in
    ap (λ (x : ℕ). 2 ^ x) e ∙ pow-add 2 (8 * k) 8 ∙ ap (λ (x : ℕ). x * 256) (pow_256 k) ∙ sym (pow-suc 256 k)

pub byte_shift : (k n : ℕ) → n / 2 ^ (8 * k) % 256 ≡ byte_at k n
byte_shift zero n = ap (λ (x : ℕ). x % 256) (div-one n)
byte_shift (suc k) n = ap (λ (x : ℕ). n / x % 256) (pow_256 (suc k))

pub byte_past : (k n : ℕ) → 8 ≤ k → n < 2 ^ 64 → 0 ≡ byte_at k n
byte_past zero n high low = absurd (omega arith)
byte_past (suc k) n high low =
    let room : 256 ^ 8 ≤ 256 ^ suc k = pow-le-pow_right (omega arith) high in
    let e : n / 256 ^ suc k ≡ 0 = div-eq_of_lt (omega arith) in
    rw e

-- the next byte of a number, the highest of those that are left
pub big_bytes_next : (out : List ℕ) (left n : ℕ) → 0 < left → (out ++ byte_at (left - 1) n ∷ []) ++ big_bytes (left - 1) n ≡ out ++ big_bytes left n
big_bytes_next out zero n some = absurd (omega arith)
big_bytes_next out (suc left) n some =
    let e : suc left - 1 ≡ left = omega arith in
    rw e (append_assoc out (byte_at left n ∷ []) (big_bytes left n))
