-- What a look-up takes, from what its row takes.
use Rattle.std.proofs.Common.{◌≡◌, ℕ, ℤ, ◌+◌, ◌*◌, ◌%◌, ◌<◌, ◌≤◌, List, [], ◌∷◌, length, get_or, All, subst, arith}
use Rattle.ctl_base.specs.declared.limits.TheConstants.{ARRAY_SIZE}
use Rattle.ctl_stdlib.specs.declared.row.LibraryId.{LibraryId}
use Rattle.ctl_stdlib.specs.Rows.{row}
use Rattle.ctl_stdlib.specs.Shapes.{Fits, elements}

pub fits_at : (id x : LibraryId) (sizes : List ℕ) (table args : List ℤ) (room : ℕ) → Fits (row id) sizes table args room → id ≡ x → Fits (row x) sizes table args room
fits_at id x sizes table args room f e = subst (λ (i : LibraryId). Fits (row i) sizes table args room) e f

-- one size
one_size : (sizes : List ℕ) → length sizes ≡ 1 → All (λ n. 1 ≤ n) sizes → 0 < elements sizes
one_size [] c a = absurd (omega arith)
one_size (n ∷ []) c a = let h : 1 ≤ n = a 0 0 (omega arith) in omega arith
one_size (n ∷ m ∷ sizes) c a = absurd (omega arith)

pub some_spread : (sizes : List ℕ) (n : ℕ) → length sizes ≡ 1 → All (λ n. 1 ≤ n) sizes → n ≡ 0 + elements sizes * 1 + 0 + 0 + 0 → 0 < n
some_spread sizes n c a w = let h : 0 < elements sizes = one_size sizes c a in omega arith

pub some_pairs : (sizes : List ℕ) (n : ℕ) → length sizes ≡ 1 → All (λ n. 1 ≤ n) sizes → n ≡ 0 + elements sizes * 2 + 0 → (0 < n) × (n % 2 ≡ 0)
some_pairs sizes n c a w = let h : 0 < elements sizes = one_size sizes c a in (omega arith, omega arith)

-- three sizes
three_sizes : (sizes : List ℕ) (n : ℕ) → length sizes ≡ 3 → n ≡ elements sizes * 3 → n ≡ 3 * get_or sizes 0 0 * get_or sizes 1 0 * get_or sizes 2 0
three_sizes [] n c e = absurd (omega arith)
three_sizes (a ∷ []) n c e = absurd (omega arith)
three_sizes (a ∷ b ∷ []) n c e = absurd (omega arith)
three_sizes (a ∷ b ∷ d ∷ []) n c e = omega arith
three_sizes (a ∷ b ∷ d ∷ x ∷ sizes) n c e = absurd (omega arith)

pub record Lattice (sizes : List ℕ) (table : List ℤ) : Type 0 where
  pub first : (1 ≤ get_or sizes 0 0) × (get_or sizes 0 0 ≤ ARRAY_SIZE)
  pub middle : (1 ≤ get_or sizes 1 0) × (get_or sizes 1 0 ≤ ARRAY_SIZE)
  pub last : (1 ≤ get_or sizes 2 0) × (get_or sizes 2 0 ≤ ARRAY_SIZE)
  pub whole : length table ≡ 3 * get_or sizes 0 0 * get_or sizes 1 0 * get_or sizes 2 0

pub lattice : (sizes : List ℕ) (table : List ℤ) → length sizes ≡ 3 → All (λ n. 1 ≤ n) sizes → (1 < length sizes → All (λ n. n ≤ ARRAY_SIZE) sizes) → length table ≡ elements sizes * 3 → Lattice sizes table
lattice sizes table c some most w =
    let within : All (λ n. n ≤ ARRAY_SIZE) sizes = most (omega arith) in
    record {
      first = (some 0 0 (omega arith), within 0 0 (omega arith));
      middle = (some 1 0 (omega arith), within 1 0 (omega arith));
      last = (some 2 0 (omega arith), within 2 0 (omega arith));
      whole = three_sizes sizes (length table) c w;
    }
