-- The first place at which a test passes.
use Rattle.std.proofs.Common.{◌≡◌, ℕ, zero, suc, ◌<◌, Bool, true, false, ◌⊎◌, inl, inr, arith, subst}
use Rattle.std.proofs.lemmas.Bool.{cases_Bool, cases_lt}

-- a test passes at the place and at none before it
pub record IsFirst (p : ℕ → Bool) (n : ℕ) : Type 0 where
  pub place : ℕ
  pub within : place < n
  pub passes : p place ≡ true
  pub before : (i : ℕ) → i < place → p i ≡ false

-- it passes nowhere below n
abbrev pub Never : (ℕ → Bool) → ℕ → Type 0
Never p n = (i : ℕ) → i < n → p i ≡ false

none_more : (p : ℕ → Bool) (n : ℕ) → Never p n → p n ≡ false → Never p (suc n)
none_more p n none last i lt = elim (cases_lt i n) [
  | inl less ↦ none i less
  | inr no_less ↦
      let e : n ≡ i = omega arith in
      let P : ℕ → Type 0 = λ k. p k ≡ false in
      subst P e last
]

pub first : (p : ℕ → Bool) (n : ℕ) → IsFirst p n ⊎ Never p n
first p zero = inr (λ i lt. absurd (omega arith))
first p (suc n) = elim (first p n) [
  | inl found ↦ let lt = found.within in inl (record { place = found.place; within = omega arith; passes = found.passes; before = found.before })
  | inr none ↦ elim (cases_Bool (p n)) [
    | inl passes ↦ inl (record { place = n; within = omega arith; passes = passes; before = none })
    | inr fails ↦ inr (none_more p n none fails)
  ]
]
