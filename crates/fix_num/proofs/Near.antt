-- The size nearest to a number.
use Rattle.std.proofs.Common.{◌≡◌, ◌≢◌, ℕ, zero, suc, ◌+◌, ◌*◌, ◌/◌, ◌-◌, ◌%◌, ◌^◌, ◌<◌, ◌≤◌, ◌⊎◌, inl, inr, refl, ap, sym, subst, ◌∙◌, arith, lit<, lit≤, ℤ, pos, negsuc, neg_ℤ, ◌-ℤ◌, unsigned_abs}
use Rattle.std.proofs.Math.Nat.{mul-le-mul_left, mul-le-mul_right, lt_of_mul-lt-mul_right, pow-succ', mul_assoc, div-add-mod', mod-lt, div-lt_iff_lt-mul, le-div_iff_mul-le, div-mul-le_self, lt-div-mul-add}
use Rattle.std.proofs.Math.Pow.{pow_mono, pow_pos, pow-add}
use Rattle.std.proofs.lemmas.Bool.{cases_lt}
use Rattle.std.proofs.lemmas.Nat.{leading_top}
use Rattle.std.specs.Int.Count.{count_leading_zeros}
use Rattle.std.specs.Int.{abs_diff}
use Rattle.fix_num.specs.Half.{IsSize, IsEvenSize, IsNearest, IsHalf, IsNearestHalf}
use Rattle.std.proofs.lemmas.Int.{ints}

-- lo and hi are neighbours round n
pub record Between (unit lo n hi : ℕ) : Type 0 where
  pub low : lo ≤ n
  pub high : n < hi
  pub gap : (k : ℕ) → IsSize unit k → (k ≤ lo) ⊎ (hi ≤ k)

pub nearest_down : (unit lo n hi : ℕ) → Between unit lo n hi → IsSize unit lo → 2 * n < lo + hi → IsNearest unit n lo
nearest_down unit lo n hi b s h =
    let low : lo ≤ n = b.low in
    let high : n < hi = b.high in
    record {
      size = s;
      nearest = λ k z. elim (b.gap k z) as (λ _. abs_diff n lo ≤ abs_diff n k) [ inl w ↦ omega arith | inr w ↦ omega arith ];
      tie = λ k z ne e. absurd (elim (b.gap k z) as (λ _. ⊥) [ inl w ↦ ne (omega arith) | inr w ↦ omega arith ]);
    }

pub nearest_up : (unit lo n hi : ℕ) → Between unit lo n hi → IsSize unit hi → lo + hi < 2 * n → IsNearest unit n hi
nearest_up unit lo n hi b s h =
    let low : lo ≤ n = b.low in
    let high : n < hi = b.high in
    record {
      size = s;
      nearest = λ k z. elim (b.gap k z) as (λ _. abs_diff n hi ≤ abs_diff n k) [ inl w ↦ omega arith | inr w ↦ omega arith ];
      tie = λ k z ne e. absurd (elim (b.gap k z) as (λ _. ⊥) [ inl w ↦ omega arith | inr w ↦ ne (omega arith) ]);
    }

even_size : (unit n : ℕ) → IsEvenSize unit n → IsSize unit n
even_size unit n e = (e.0, e.1, e.2)

pub nearest_tie_down : (unit lo n hi : ℕ) → Between unit lo n hi → IsEvenSize unit lo → 2 * n ≡ lo + hi → IsNearest unit n lo
nearest_tie_down unit lo n hi b s h =
    let low : lo ≤ n = b.low in
    let high : n < hi = b.high in
    record {
      size = even_size unit lo s;
      nearest = λ k z. elim (b.gap k z) as (λ _. abs_diff n lo ≤ abs_diff n k) [ inl w ↦ omega arith | inr w ↦ omega arith ];
      tie = λ k z ne e. s;
    }

pub nearest_tie_up : (unit lo n hi : ℕ) → Between unit lo n hi → IsEvenSize unit hi → 2 * n ≡ lo + hi → IsNearest unit n hi
nearest_tie_up unit lo n hi b s h =
    let low : lo ≤ n = b.low in
    let high : n < hi = b.high in
    record {
      size = even_size unit hi s;
      nearest = λ k z. elim (b.gap k z) as (λ _. abs_diff n hi ≤ abs_diff n k) [ inl w ↦ omega arith | inr w ↦ omega arith ];
      tie = λ k z ne e. s;
    }

le_or_lt : (a b : ℕ) → (a ≤ b) ⊎ (b < a)
le_or_lt a b = elim (cases_lt b a) [ inl h ↦ inr h | inr h ↦ inl h ]

-- a multiple of d stands at or below q * d, or at or above the next one
multiple : (t q d : ℕ) → (t * d ≤ q * d) ⊎ ((q + 1) * d ≤ t * d)
multiple t q d = elim (le_or_lt t q) [ inl h ↦ inl (mul-le-mul_right d h) | inr h ↦ inr (let g : q + 1 ≤ t = omega arith in mul-le-mul_right d g) ]

-- a size of a greater power is a multiple
higher : (unit m shift more : ℕ) → m * (2 ^ (more + shift) * unit) ≡ (m * 2 ^ more) * (2 ^ shift * unit)
higher unit m shift more = rw (pow-add 2 more shift) (omega arith)

-- a size of a lesser power is small
lower : (unit m less shift q : ℕ) → m < 2048 → less < shift → 1024 ≤ q → m * (2 ^ less * unit) ≤ q * (2 ^ shift * unit)
lower unit m less shift q few below full =
    let p : 2 ^ suc less ≤ 2 ^ shift = pow_mono {i = suc less} {j = shift} below in
    let p' : 2 ^ suc less ≡ 2 * 2 ^ less = pow-succ' 2 less in
    let a : 2 * 2 ^ less * unit ≤ 2 ^ shift * unit = mul-le-mul_right unit (omega arith) in
    let b : m * (2 ^ less * unit) ≤ 2048 * (2 ^ less * unit) = mul-le-mul_right (2 ^ less * unit) (omega arith) in
    let c : 1024 * (2 ^ shift * unit) ≤ q * (2 ^ shift * unit) = mul-le-mul_right (2 ^ shift * unit) full in
    omega arith

-- no size lies strictly between two neighbours of one shift
pub size_gap : (unit q shift k : ℕ) → (shift ≡ 0) ⊎ (1024 ≤ q) → IsSize unit k → (k ≤ q * (2 ^ shift * unit)) ⊎ ((q + 1) * (2 ^ shift * unit) ≤ k)
size_gap unit q shift k full (m, at, h) =
    elim (le_or_lt shift at) [
      | inl le ↦
          let e : (at - shift) + shift ≡ at = omega arith in
          let v : k ≡ (m * 2 ^ (at - shift)) * (2 ^ shift * unit) = h.value ∙ ap (λ (x : ℕ). m * (2 ^ x * unit)) (sym e) ∙ higher unit m shift (at - shift) in
          subst (λ (x : ℕ). (x ≤ q * (2 ^ shift * unit)) ⊎ ((q + 1) * (2 ^ shift * unit) ≤ x)) (sym v) (multiple (m * 2 ^ (at - shift)) q (2 ^ shift * unit))
      | inr lt ↦
          elim full [
            | inl z ↦ absurd (omega arith)
            | inr big ↦ inl (let g : m * (2 ^ at * unit) ≤ q * (2 ^ shift * unit) = lower unit m at shift q h.few lt big in let v : k ≡ m * (2 ^ at * unit) = h.value in omega arith)
          ]
    ]

-- the two neighbours of one shift
pub between : (unit q shift n : ℕ) → (shift ≡ 0) ⊎ (1024 ≤ q) → q * (2 ^ shift * unit) ≤ n → n < (q + 1) * (2 ^ shift * unit) → Between unit (q * (2 ^ shift * unit)) n ((q + 1) * (2 ^ shift * unit))
between unit q shift n full low high = record { low = low; high = high; gap = λ k z. size_gap unit q shift k full z }

full_next : (q shift : ℕ) → (shift ≡ 0) ⊎ (1024 ≤ q) → (shift ≡ 0) ⊎ (1024 ≤ q + 1)
full_next q shift f = elim f [ inl z ↦ inl z | inr h ↦ inr (omega arith) ]

carried : (unit shift : ℕ) → 2048 * (2 ^ shift * unit) ≡ 1024 * (2 ^ suc shift * unit)
carried unit shift = let p : 2 ^ suc shift ≡ 2 * 2 ^ shift = pow-succ' 2 shift in rw p (omega arith)

-- one more digit is a size too
pub next_size : (unit q shift : ℕ) → (shift ≡ 0) ⊎ (1024 ≤ q) → q < 2048 → shift ≤ 29 → (q < 2047) ⊎ (shift < 29) → IsSize unit ((q + 1) * (2 ^ shift * unit))
next_size unit q shift full few range room =
    elim (cases_lt (q + 1) 2048) [
      | inl h ↦ (q + 1, shift, record { value = refl; few = h; range = range; full = full_next q shift full })
      | inr h ↦
          let e : q + 1 ≡ 2048 = omega arith in
          (1024, suc shift, record { value = ap (λ (x : ℕ). x * (2 ^ shift * unit)) e ∙ carried unit shift; few = lit< tt; range = elim room [ inl w ↦ absurd (omega arith) | inr w ↦ w ]; full = inr (lit≤ tt) })
    ]

-- where q is odd, with even m
pub next_even : (unit q shift : ℕ) → (shift ≡ 0) ⊎ (1024 ≤ q) → q < 2048 → shift ≤ 29 → (q < 2047) ⊎ (shift < 29) → q % 2 ≡ 1 → IsEvenSize unit ((q + 1) * (2 ^ shift * unit))
next_even unit q shift full few range room odd =
    elim (cases_lt (q + 1) 2048) [
      | inl h ↦ (q + 1, shift, record { value = refl; few = h; range = range; full = full_next q shift full }, omega arith)
      | inr h ↦
          let e : q + 1 ≡ 2048 = omega arith in
          (1024, suc shift, record { value = ap (λ (x : ℕ). x * (2 ^ shift * unit)) e ∙ carried unit shift; few = lit< tt; range = elim room [ inl w ↦ absurd (omega arith) | inr w ↦ w ]; full = inr (lit≤ tt) }, refl)
    ]

-- the choice that the code makes, from the digits q and the rest
pub chosen_down : (unit q shift n rest : ℕ) → (shift ≡ 0) ⊎ (1024 ≤ q) → q < 2048 → shift ≤ 29 → n ≡ q * (2 ^ shift * unit) + rest → 2 * rest < 2 ^ shift * unit → IsNearest unit n (q * (2 ^ shift * unit))
chosen_down unit q shift n rest full few range e small =
    nearest_down unit (q * (2 ^ shift * unit)) n ((q + 1) * (2 ^ shift * unit))
    (between unit q shift n full (omega arith) (omega arith)) (q, shift, record { value = refl; few = few; range = range; full = full }) (omega arith)

pub chosen_even : (unit q shift n rest : ℕ) → 0 < 2 ^ shift * unit → (shift ≡ 0) ⊎ (1024 ≤ q) → q < 2048 → shift ≤ 29 → n ≡ q * (2 ^ shift * unit) + rest → 2 * rest ≡ 2 ^ shift * unit → q % 2 ≡ 0 → IsNearest unit n (q * (2 ^ shift * unit))
chosen_even unit q shift n rest some full few range e half even =
    nearest_tie_down unit (q * (2 ^ shift * unit)) n ((q + 1) * (2 ^ shift * unit))
    (between unit q shift n full (omega arith) (omega arith)) (q, shift, record { value = refl; few = few; range = range; full = full }, even) (omega arith)

pub chosen_odd : (unit q shift n rest : ℕ) → 0 < 2 ^ shift * unit → (shift ≡ 0) ⊎ (1024 ≤ q) → q < 2048 → shift ≤ 29 → (q < 2047) ⊎ (shift < 29) → n ≡ q * (2 ^ shift * unit) + rest → 2 * rest ≡ 2 ^ shift * unit → q % 2 ≡ 1 → IsNearest unit n ((q + 1) * (2 ^ shift * unit))
chosen_odd unit q shift n rest some full few range room e half odd =
    nearest_tie_up unit (q * (2 ^ shift * unit)) n ((q + 1) * (2 ^ shift * unit))
    (between unit q shift n full (omega arith) (omega arith)) (next_even unit q shift full few range room odd) (omega arith)

pub chosen_up : (unit q shift n rest : ℕ) → (shift ≡ 0) ⊎ (1024 ≤ q) → q < 2048 → shift ≤ 29 → (q < 2047) ⊎ (shift < 29) → n ≡ q * (2 ^ shift * unit) + rest → rest < 2 ^ shift * unit → 2 ^ shift * unit < 2 * rest → IsNearest unit n ((q + 1) * (2 ^ shift * unit))
chosen_up unit q shift n rest full few range room e within large =
    nearest_up unit (q * (2 ^ shift * unit)) n ((q + 1) * (2 ^ shift * unit))
    (between unit q shift n full (omega arith) (omega arith)) (next_size unit q shift full few range room) (omega arith)

-- beyond the greatest size, that is the nearest
pub size_most : (unit k : ℕ) → IsSize unit k → k ≤ 2047 * (2 ^ 29 * unit)
size_most unit k (m, shift, h) =
    let v : k ≡ m * (2 ^ shift * unit) = h.value in
    let a : m ≤ 2047 = (let f : m < 2048 = h.few in omega arith) in
    let p : 2 ^ shift ≤ 2 ^ 29 = pow_mono {i = shift} {j = 29} h.range in
    let b : 2 ^ shift * unit ≤ 2 ^ 29 * unit = mul-le-mul_right unit p in
    let d : m * (2 ^ shift * unit) ≤ 2047 * (2 ^ shift * unit) = mul-le-mul_right (2 ^ shift * unit) a in
    let g : 2047 * (2 ^ shift * unit) ≤ 2047 * (2 ^ 29 * unit) = mul-le-mul_left 2047 b in
    omega arith

pub beyond : (unit n : ℕ) → 2047 * (2 ^ 29 * unit) ≤ n → IsNearest unit n (2047 * (2 ^ 29 * unit))
beyond unit n h =
    record {
      size = (2047, 29, record { value = refl; few = lit< tt; range = lit≤ tt; full = inr (lit≤ tt) });
      nearest = λ k z. let g : k ≤ 2047 * (2 ^ 29 * unit) = size_most unit k z in omega arith;
      tie = λ k z ne e. absurd (ne (let g : k ≤ 2047 * (2 ^ 29 * unit) = size_most unit k z in omega arith));
    }

-- ---- what the code computes

pub record Digits (unit n shift q rest : ℕ) : Type 0 where
  pub parts : n ≡ q * (2 ^ shift * unit) + rest
  pub within : rest < 2 ^ shift * unit
  pub few : q < 2048
  pub room : (q < 2047) ⊎ (shift < 29)
  pub full : (shift ≡ 0) ⊎ (1024 ≤ q)

has_room : (unit n shift : ℕ) → shift ≤ 29 → n < 2047 * (2 ^ 29 * unit) → (n < 2047 * (2 ^ shift * unit)) ⊎ (shift < 29)
has_room unit n shift range most =
    elim (le_or_lt 29 shift) [ inl h ↦ inl (let e : shift ≡ 29 = omega arith in rw e most) | inr h ↦ inr h ]

pub digits_of_step : (unit n shift : ℕ) → 0 < 2 ^ shift * unit → shift ≤ 29 → n < 2047 * (2 ^ 29 * unit) → n < 2048 * (2 ^ shift * unit) → (shift ≡ 0) ⊎ (1024 * (2 ^ shift * unit) ≤ n) → Digits unit n shift (n / (2 ^ shift * unit)) (n % (2 ^ shift * unit))
digits_of_step unit n shift some range most few full =
    record {
      parts = sym (div-add-mod' n (2 ^ shift * unit));
      within = mod-lt n some;
      few = (div-lt_iff_lt-mul {k = 2 ^ shift * unit} {x = n} {y = 2048} some).1 few;
      room = elim (has_room unit n shift range most) [ inl h ↦ inl ((div-lt_iff_lt-mul {k = 2 ^ shift * unit} {x = n} {y = 2047} some).1 h) | inr h ↦ inr h ];
      full = elim full [ inl z ↦ inl z | inr h ↦ inr ((le-div_iff_mul-le {k = 2 ^ shift * unit} {x = 1024} {y = n} some).1 h) ];
    }

pub record Shifts (unit n z : ℕ) : Type 0 where
  pub fits : z ≤ 53
  pub range : 53 - z ≤ 29
  pub few : n < 2048 * (2 ^ (53 - z) * unit)
  pub full : 1024 * (2 ^ (53 - z) * unit) ≤ n

pub shift_facts : (unit n : ℕ) → 0 < unit → 2048 ≤ n / unit → n / unit < 2 ^ 64 → n < 2047 * (2 ^ 29 * unit) → Shifts unit n (count_leading_zeros 64 (n / unit))
shift_facts unit n some large fits most =
    let t : (j : ℕ) × (count_leading_zeros 64 (n / unit) + suc j ≡ 64) × (2 ^ j ≤ n / unit) × (n / unit < 2 ^ suc j) = leading_top 64 (n / unit) (omega arith) fits in
    facts t.0 (count_leading_zeros 64 (n / unit)) (n / unit) t.1 t.2 t.3 large (div-mul-le_self n unit) (lt-div-mul-add some)
  where
    facts : (j z a : ℕ) → z + suc j ≡ 64 → 2 ^ j ≤ a → a < 2 ^ suc j → 2048 ≤ a → a * unit ≤ n → n < a * unit + unit → Shifts unit n z
    facts j z a e low high large below above =
        let j-low : 10 < j = elim (le_or_lt j 10) as (λ _. 10 < j) [ inl h ↦ absurd (let p : 2 ^ suc j ≤ 2 ^ 11 = pow_mono {i = suc j} {j = 11} (omega arith) in omega arith) | inr h ↦ h ] in
        let j-high : j < 40 = elim (le_or_lt 40 j) as (λ _. j < 40) [ inl h ↦ absurd (let p : 2 ^ 40 ≤ 2 ^ j = pow_mono {i = 40} {j = j} h in let q : 2 ^ 40 * unit ≤ a * unit = mul-le-mul_right unit (omega arith) in omega arith) | inr h ↦ h ] in
        let s : 53 - z ≡ j - 10 = omega arith in
        let p : 2 ^ j ≡ 2 ^ 10 * 2 ^ (j - 10) = (let w : j ≡ 10 + (j - 10) = omega arith in ap (λ (x : ℕ). 2 ^ x) w ∙ pow-add 2 10 (j - 10)) in
        let p' : 2 ^ suc j ≡ 2 * 2 ^ j = pow-succ' 2 j in
        let lo : 2 ^ j * unit ≤ a * unit = mul-le-mul_right unit low in
        let hi : (a + 1) * unit ≤ 2 ^ suc j * unit = mul-le-mul_right unit (omega arith) in
        let u : 2 ^ j * unit ≡ 1024 * (2 ^ (j - 10) * unit) = ap (λ (x : ℕ). x * unit) p ∙ mul_assoc 1024 (2 ^ (j - 10)) unit in
        let u' : 2 ^ suc j * unit ≡ 2 * (2 ^ j * unit) = ap (λ (x : ℕ). x * unit) p' ∙ mul_assoc 2 (2 ^ j) unit in
        let lo' : 1024 * (2 ^ (j - 10) * unit) ≤ n = omega arith in
        let hi' : n < 2048 * (2 ^ (j - 10) * unit) = omega arith in
        record { fits = omega arith; range = omega arith; few = rw s hi'; full = rw s lo' }

-- ---- there is one nearest size

-- between two even sizes lies a third
third : (unit a b : ℕ) → 0 < unit → a < b → IsEvenSize unit a → IsEvenSize unit b → (k : ℕ) × IsSize unit k × (a < k) × (k < b)
third unit a b some lt (m, s, h, e) (n, t, g, f) =
    let va : a ≡ m * (2 ^ s * unit) = h.value in
    let vb : b ≡ n * (2 ^ t * unit) = g.value in
    let fa : m < 2048 = h.few in
    let fb : n < 2048 = g.few in
    let ps : 0 < 2 ^ s * unit = positive (2 ^ s) unit (pow_pos s) some in
    elim (le_or_lt s t) [
      | inl le ↦ (
        (m + 1) * (2 ^ s * unit),
        (m + 1, s, record { value = refl; few = omega arith; range = h.range; full = full_next m s h.full }),
        omega arith,
        elim (cases_lt s t) as (λ _. (m + 1) * (2 ^ s * unit) < b) [
          | inl less ↦
              let p : 2 ^ suc s ≤ 2 ^ t = pow_mono {i = suc s} {j = t} less in
              let p' : 2 ^ suc s ≡ 2 * 2 ^ s = pow-succ' 2 s in
              let q : 2 * 2 ^ s * unit ≤ 2 ^ t * unit = mul-le-mul_right unit (omega arith) in
              let r : (m + 1) * (2 ^ s * unit) ≤ 2047 * (2 ^ s * unit) = mul-le-mul_right (2 ^ s * unit) (omega arith) in
              let big : 1024 ≤ n = elim g.full as (λ _. 1024 ≤ n) [ inl z ↦ absurd (omega arith) | inr w ↦ w ] in
              let u : 1024 * (2 ^ t * unit) ≤ n * (2 ^ t * unit) = mul-le-mul_right (2 ^ t * unit) big in
              omega arith
          | inr same ↦
              let e' : s ≡ t = omega arith in
              let vb' : b ≡ n * (2 ^ s * unit) = vb ∙ ap (λ (x : ℕ). n * (2 ^ x * unit)) (sym e') in
              let l : m * (2 ^ s * unit) < n * (2 ^ s * unit) = omega arith in
              let l' : m < n = lt_of_mul-lt-mul_right (2 ^ s * unit) l in
              let r : (m + 2) * (2 ^ s * unit) ≤ n * (2 ^ s * unit) = mul-le-mul_right (2 ^ s * unit) (omega arith) in
              omega arith
        ],
      )
      | inr more ↦
          let big : 1024 ≤ m = elim h.full as (λ _. 1024 ≤ m) [ inl z ↦ absurd (omega arith) | inr w ↦ w ] in
          let r : n * (2 ^ t * unit) ≤ m * (2 ^ s * unit) = lower unit n t s m fb more big in
          absurd (omega arith)
    ]
  where
    positive : (x y : ℕ) → 0 < x → 0 < y → 0 < x * y
    positive zero y h k = absurd (omega arith)
    positive (suc x) zero h k = absurd (omega arith)
    positive (suc x) (suc y) h k = omega arith

below : (unit n a b : ℕ) → 0 < unit → IsNearest unit n a → IsNearest unit n b → a < b → ⊥
below unit n a b some x y lt =
    let p : abs_diff n a ≤ abs_diff n b = x.nearest b y.size in
    let q : abs_diff n b ≤ abs_diff n a = y.nearest a x.size in
    let ea : IsEvenSize unit a = x.tie b y.size (λ e. let f : b ≡ a = e in omega arith) (omega arith) in
    let eb : IsEvenSize unit b = y.tie a x.size (λ e. let f : a ≡ b = e in omega arith) (omega arith) in
    let k : (k : ℕ) × IsSize unit k × (a < k) × (k < b) = third unit a b some lt ea eb in
    let d : abs_diff n a ≤ abs_diff n k.0 = x.nearest k.0 k.1 in
    omega (arith, p, q, d, k.2, k.3)

pub nearest_unique : (unit n a b : ℕ) → 0 < unit → IsNearest unit n a → IsNearest unit n b → a ≡ b
nearest_unique unit n a b some x y =
    elim (cases_lt a b) as (λ _. a ≡ b) [
      | inl lt ↦ absurd (below unit n a b some x y lt)
      | inr le ↦ elim (cases_lt b a) as (λ _. a ≡ b) [ inl lt ↦ absurd (below unit n b a some y x lt) | inr le' ↦ omega arith ]
    ]

-- ---- signs

pub size_zero : (unit : ℕ) → IsSize unit 0
size_zero unit = (0, 0, record { value = omega arith; few = lit< tt; range = lit≤ tt; full = inl refl })

signed_at : (unit n h : ℕ) → IsNearest unit n h → (k : ℤ) → IsHalf unit k → (unsigned_abs (pos n -ℤ pos h) ≤ unsigned_abs (pos n -ℤ k)) × (k ≢ pos h → unsigned_abs (pos n -ℤ pos h) ≡ unsigned_abs (pos n -ℤ k) → IsEvenSize unit h)
signed_at unit n h x (pos k) z =
    let d : abs_diff n h ≤ abs_diff n k = x.nearest k z in
    (omega (arith, ints, d), λ ne e. x.tie k z (λ q. ne (ap pos q)) (omega (arith, ints, e)))
signed_at unit n h x (negsuc k) z =
    let d : abs_diff n h ≤ abs_diff n 0 = x.nearest 0 (size_zero unit) in
    (omega (arith, ints, d), λ ne e. absurd (omega (arith, ints, d, e)))

pub nearest_pos : (unit n h : ℕ) → IsNearest unit n h → IsNearestHalf unit (pos n) (pos h)
nearest_pos unit n h x = record { half = x.size; nearest = λ k z. (signed_at unit n h x k z).0; tie = λ k z ne e. (signed_at unit n h x k z).1 ne e }

neg_at : (unit n h : ℕ) → IsNearest unit n h → (k : ℤ) → IsHalf unit k → (unsigned_abs (neg_ℤ (pos n) -ℤ neg_ℤ (pos h)) ≤ unsigned_abs (neg_ℤ (pos n) -ℤ k)) × (k ≢ neg_ℤ (pos h) → unsigned_abs (neg_ℤ (pos n) -ℤ neg_ℤ (pos h)) ≡ unsigned_abs (neg_ℤ (pos n) -ℤ k) → IsEvenSize unit h)
neg_at unit n h x (pos k) z =
    let d : abs_diff n h ≤ abs_diff n 0 = x.nearest 0 (size_zero unit) in
    let t : k ≢ h → abs_diff n h ≡ abs_diff n k → IsEvenSize unit h = x.tie k z in
    (omega (arith, ints, d), λ ne e. t (λ q. ne (omega (arith, ints, d, e, q))) (omega (arith, ints, d, e)))
neg_at unit n h x (negsuc k) z =
    let d : abs_diff n h ≤ abs_diff n (suc k) = x.nearest (suc k) z in
    (omega (arith, ints, d), λ ne e. x.tie (suc k) z (λ q. ne (omega (arith, ints, q))) (omega (arith, ints, e)))

pub nearest_neg : (unit n h : ℕ) → IsNearest unit n h → IsNearestHalf unit (neg_ℤ (pos n)) (neg_ℤ (pos h))
nearest_neg unit n h x = record { half = subst (IsSize unit) (abs_neg h) x.size; nearest = λ k z. (neg_at unit n h x k z).0; tie = λ k z ne e. subst (IsEvenSize unit) (abs_neg h) ((neg_at unit n h x k z).1 ne e) }
  where
    abs_neg : (h : ℕ) → h ≡ unsigned_abs (neg_ℤ (pos h))
    abs_neg zero = refl
    abs_neg (suc h) = refl
