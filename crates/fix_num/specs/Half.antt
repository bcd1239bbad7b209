-- Halves, the numbers with eleven significant bits. `unit` is the raw of 2^-24, the least half above 0.
use Rattle.std.specs.Prelude.{◌≡◌, ◌≢◌, ℕ, ◌-◌, ◌*◌, ◌%◌, ◌^◌, ◌<◌, ◌≤◌, ◌⊎◌, ℤ, pos, neg_ℤ, ◌-ℤ◌, ◌≤ℤ◌, unsigned_abs, Bool, true, List, [], ◌∷◌, ◌++◌, fold, nat_lt, ◌==◌, if◌then◌else◌}
use Rattle.std.specs.Int.{abs_diff}
use Rattle.std.specs.List.{range_with_len, flat_map}

-- the raw of 2^-24 at F fraction bits, for F from 24 on
abbrev pub half_unit : ℕ → ℕ
half_unit F = 2 ^ (F - 24)

-- n is m times a power of two, where m has eleven binary digits, or fewer at the least power
pub record HasDigits (unit n m shift : ℕ) : Type 0 where
  pub value : n ≡ m * (2 ^ shift * unit)
  pub few : m < 2048
  pub range : shift ≤ 29
  pub full : (shift ≡ 0) ⊎ (1024 ≤ m)

-- n is the size of a half
abbrev pub IsSize : ℕ → ℕ → Type 0
IsSize unit n = (m : ℕ) × (shift : ℕ) × HasDigits unit n m shift

-- n is the size of a half whose m is even
abbrev pub IsEvenSize : ℕ → ℕ → Type 0
IsEvenSize unit n = (m : ℕ) × (shift : ℕ) × HasDigits unit n m shift × (m % 2 ≡ 0)

-- h is the size nearest to n, and of two such sizes the one with even m
pub record IsNearest (unit n h : ℕ) : Type 0 where
  pub size : IsSize unit h
  pub nearest : (k : ℕ) → IsSize unit k → abs_diff n h ≤ abs_diff n k
  pub tie : (k : ℕ) → IsSize unit k → k ≢ h → abs_diff n h ≡ abs_diff n k → IsEvenSize unit h

-- z is a half
abbrev pub IsHalf : ℕ → ℤ → Type 0
IsHalf unit z = IsSize unit (unsigned_abs z)

-- h is the half nearest to r, and of two such halves the one with even m
pub record IsNearestHalf (unit : ℕ) (r h : ℤ) : Type 0 where
  pub half : IsHalf unit h
  pub nearest : (k : ℤ) → IsHalf unit k → unsigned_abs (r -ℤ h) ≤ unsigned_abs (r -ℤ k)
  pub tie : (k : ℤ) → IsHalf unit k → k ≢ h → unsigned_abs (r -ℤ h) ≡ unsigned_abs (r -ℤ k) → IsEvenSize unit (unsigned_abs h)

-- ---- the nearest half, as a function

-- a half among which one is chosen: its raw, and whether its m is even
pub record Candidate : Type 0 where
  pub raw : ℤ
  pub even : Bool

-- 0, whose m is 0
abbrev pub zero_half : Candidate
zero_half = record { raw = pos 0; even = true }

-- how far a raw is from a half
abbrev pub distance : ℤ → Candidate → ℕ
distance r a = unsigned_abs (r -ℤ a.raw)

-- of two halves the one that is nearer to r, and where they are equally near the one with even m
abbrev pub nearer : ℤ → Candidate → Candidate → Candidate
nearer r a b = if nat_lt (distance r a) (distance r b) then a else (if nat_lt (distance r b) (distance r a) then b else (if a.even then a else b))

-- the n numbers from a on
unfoldable pub numbers : ℕ → ℕ → List ℕ
numbers a n = range_with_len a n

-- m * 2^shift units, with both signs
abbrev pub both_signs : ℕ → ℕ → ℕ → List Candidate
both_signs unit shift m =
    record { raw = pos (m * (2 ^ shift * unit)); even = m % 2 == 0 }
    ∷ record { raw = neg_ℤ (pos (m * (2 ^ shift * unit))); even = m % 2 == 0 }
    ∷ []

-- all halves
abbrev pub halves : ℕ → List Candidate
halves unit = flat_map (both_signs unit 0) (numbers 0 1024) ++ flat_map (λ shift. flat_map (both_signs unit shift) (numbers 1024 1024)) (numbers 0 30)

-- the half that is nearest to r, at F fraction bits
unfoldable pub half : ℕ → ℤ → ℤ
half F r = (fold (nearer r) zero_half (halves (half_unit F))).raw

-- ---- laws

-- it is the nearest half, and the only one
abbrev pub HalfIsNearest : Type 0
HalfIsNearest = (F : ℕ) (r : ℤ) → IsNearestHalf (half_unit F) r (half F r) × ((h : ℤ) → IsNearestHalf (half_unit F) r h → h ≡ half F r)

-- a half is its own half
abbrev pub HalfKeeps : Type 0
HalfKeeps = (F : ℕ) (h : ℤ) → IsHalf (half_unit F) h → half F h ≡ h

-- a greater number has no lesser half
abbrev pub HalfGrows : Type 0
HalfGrows = (F : ℕ) (a b : ℤ) → a ≤ℤ b → half F a ≤ℤ half F b
