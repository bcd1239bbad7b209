-- The constants of the turns as numbers, and what a test of them shows.
use Rattle.std.proofs.Common.{◌≡◌, ℕ, zero, suc, pos, ◌+◌, ◌*◌, ◌/◌, ◌^◌, ◌<◌, ◌≤◌, List, [], ◌∷◌, length, get_or, Bool, true, false, ◌&&◌, nat_le, nat_lt, unsigned_abs, refl, ap, sym, ◌∙◌, subst, arith}
use Rattle.std.proofs.Math.Nat.{le-div_iff_mul-le, mul-le-mul_left}
use Rattle.std.proofs.lemmas.Int.{ints}
use Rattle.std.proofs.lemmas.Bool.Decides.{nat_tests}
use Rattle.fix_num.specs.declared.TheConstants.{FRACTION}
use Rattle.fix_num.specs.Fixed.{root, rnd, RootIsFloor, RoundingIsNearest}
use Rattle.fix_trig.specs.declared.constants.Turn.{Turn}
use Rattle.fix_trig.specs.declared.constants.TheConstants.{TURNS}
use Rattle.fix_trig.specs.Turn.{cosine, sine}
use Rattle.fix_trig.specs.Bound.{bound}

-- what the laws of fix_num say of roots and of rounded quotients
pub record Laws : Type 0 where
  pub root : RootIsFloor
  pub rounding : RoundingIsNearest

-- c is the root of n
abbrev is_root : ℕ → ℕ → Bool
is_root n c = nat_le (c * c) n && nat_lt n ((c + 1) * (c + 1))

-- s is n / d rounded
abbrev is_nearest : ℕ → ℕ → ℕ → Bool
is_nearest n d s = nat_lt 0 d && (nat_le (2 * (s * d)) (2 * n + d) && nat_lt (2 * n + d) (2 * (s * d) + 2 * d))

-- the constants that follow those with the cosine c and the sine s
abbrev are_next : ℕ → ℕ → List Turn → Bool
are_next c s [] = true
are_next c s (t ∷ ts) = is_root ((2 ^ 62 + c) * 2 ^ 61) t.cosine && (is_nearest (s * 2 ^ 61) t.cosine t.sine && are_next t.cosine t.sine ts)

-- all of them
abbrev are_turns : List Turn → Bool
are_turns [] = true
are_turns (t ∷ ts) = is_root (2 ^ 123) t.cosine && (is_root (2 ^ 123) t.sine && are_next t.cosine t.sine ts)

-- from the bound b on, no turn leaves 128 bits
abbrev are_small : ℕ → List Turn → Bool
are_small b [] = true
are_small b (t ∷ ts) =
    nat_le (2 ^ 62) (t.cosine + t.sine) && (nat_lt ((2 * (b * (t.cosine + t.sine)) + 2 ^ 62) / 2 ^ 63) (2 ^ 64) && are_small ((2 * (b * (t.cosine + t.sine)) + 2 ^ 62) / 2 ^ 63) ts)

both : (p q : Bool) → p && q ≡ true → (p ≡ true) × (q ≡ true)
both true true h = (refl, refl)
both true false h = absurd (cc)
both false q h = absurd (cc)

root_is : Laws → (n c : ℕ) → is_root n c ≡ true → root n ≡ c
root_is laws n c h =
    let a : (nat_le (c * c) n ≡ true) × (nat_lt n ((c + 1) * (c + 1)) ≡ true) = both _ _ h in
    (laws.root n).2 c (grind (arith, nat_tests, a.0)) (grind (arith, nat_tests, a.1))

nearest_at : Laws → (n d s : ℕ) → 0 < d → 2 * (s * d) ≤ 2 * n + d → 2 * n + d < 2 * (s * d) + 2 * d → rnd (pos n) (pos d) ≡ pos s
nearest_at laws n d s some low high = (laws.rounding (pos n) (pos d) (omega (arith, ints))).1 (pos s) (record { low = omega (arith, ints); high = omega (arith, ints) })

nearest_is : Laws → (n d s : ℕ) → is_nearest n d s ≡ true → unsigned_abs (rnd (pos n) (pos d)) ≡ s
nearest_is laws n d s h =
    let a : (nat_lt 0 d ≡ true) × (nat_le (2 * (s * d)) (2 * n + d) && nat_lt (2 * n + d) (2 * (s * d) + 2 * d) ≡ true) = both _ _ h in
    let b : (nat_le (2 * (s * d)) (2 * n + d) ≡ true) × (nat_lt (2 * n + d) (2 * (s * d) + 2 * d) ≡ true) = both _ _ a.1 in
    ap unsigned_abs (nearest_at laws n d s (grind (arith, nat_tests, a.0)) (grind (arith, nat_tests, b.0)) (grind (arith, nat_tests, b.1)))

-- a list has the constants from index k on
abbrev AreTurns : ℕ → List Turn → Type 0
AreTurns k [] = Unit {0}
AreTurns k (t ∷ ts) = (t.cosine ≡ cosine k) × (t.sine ≡ sine k) × AreTurns (suc k) ts

next_cosine : Laws → (k c : ℕ) → is_root ((2 ^ 62 + cosine k) * 2 ^ 61) c ≡ true → c ≡ cosine (suc k)
unfolding cosine
next_cosine laws k c h = sym (root_is laws ((2 ^ 62 + cosine k) * 2 ^ 61) c h)

next_sine : Laws → (k s : ℕ) → is_nearest (sine k * 2 ^ 61) (cosine (suc k)) s ≡ true → s ≡ sine (suc k)
unfolding sine
next_sine laws k s h = sym (nearest_is laws (sine k * 2 ^ 61) (cosine (suc k)) s h)

first_cosine : Laws → (c : ℕ) → is_root (2 ^ 123) c ≡ true → c ≡ cosine zero
unfolding cosine
first_cosine laws c h = sym (root_is laws (2 ^ 123) c h)

first_sine : Laws → (s : ℕ) → is_root (2 ^ 123) s ≡ true → s ≡ sine zero
unfolding sine
first_sine laws s h = sym (root_is laws (2 ^ 123) s h)

next_turns : Laws → (k c s : ℕ) (ts : List Turn) → c ≡ cosine k → s ≡ sine k → are_next c s ts ≡ true → AreTurns (suc k) ts
next_turns laws k c s [] ec es h = tt
next_turns laws k c s (t ∷ ts) ec es h =
    let a : (is_root ((2 ^ 62 + c) * 2 ^ 61) t.cosine ≡ true) × (is_nearest (s * 2 ^ 61) t.cosine t.sine && are_next t.cosine t.sine ts ≡ true) = both _ _ h in
    let b : (is_nearest (s * 2 ^ 61) t.cosine t.sine ≡ true) × (are_next t.cosine t.sine ts ≡ true) = both _ _ a.1 in
    let fc : t.cosine ≡ cosine (suc k) = next_cosine laws k t.cosine (subst (λ (x : ℕ). is_root ((2 ^ 62 + x) * 2 ^ 61) t.cosine ≡ true) ec a.0) in
    let fs : t.sine ≡ sine (suc k) =
    next_sine laws k t.sine (subst (λ (x : ℕ). is_nearest (x * 2 ^ 61) (cosine (suc k)) t.sine ≡ true) es (subst (λ (x : ℕ). is_nearest (s * 2 ^ 61) x t.sine ≡ true) fc b.0)) in
    (fc, fs, next_turns laws (suc k) t.cosine t.sine ts fc fs b.1)

turns_from_test : Laws → (ts : List Turn) → are_turns ts ≡ true → AreTurns 0 ts
turns_from_test laws [] h = tt
turns_from_test laws (t ∷ ts) h =
    let a : (is_root (2 ^ 123) t.cosine ≡ true) × (is_root (2 ^ 123) t.sine && are_next t.cosine t.sine ts ≡ true) = both _ _ h in
    let b : (is_root (2 ^ 123) t.sine ≡ true) × (are_next t.cosine t.sine ts ≡ true) = both _ _ a.1 in
    (first_cosine laws t.cosine a.0, first_sine laws t.sine b.0, next_turns laws 0 t.cosine t.sine ts (first_cosine laws t.cosine a.0) (first_sine laws t.sine b.0) b.1)

-- the table
table_is : Laws → AreTurns 0 TURNS
table_is laws = turns_from_test laws TURNS refl

-- an entry
turn_at : (k i : ℕ) (ts : List Turn) (d : Turn) → AreTurns k ts → i < length ts → ((get_or ts i d).cosine ≡ cosine (k + i)) × ((get_or ts i d).sine ≡ sine (k + i))
turn_at k i [] d a h = absurd (omega arith)
turn_at k zero (t ∷ ts) d a h = let e : k ≡ k + 0 = omega arith in (a.0 ∙ ap cosine e, a.1 ∙ ap sine e)
turn_at k (suc i) (t ∷ ts) d a h =
    let r : ((get_or ts i d).cosine ≡ cosine (suc k + i)) × ((get_or ts i d).sine ≡ sine (suc k + i)) = turn_at (suc k) i ts d a.2 (omega arith) in
    let e : suc k + i ≡ k + suc i = omega arith in
    (r.0 ∙ ap cosine e, r.1 ∙ ap sine e)

-- an entry of the table
pub constants_at : Laws → (k : ℕ) → k < FRACTION → ((get_or TURNS k (record { cosine = 0; sine = 0 })).cosine ≡ cosine k) × ((get_or TURNS k (record { cosine = 0; sine = 0 })).sine ≡ sine k)
constants_at laws k h =
    let r : ((get_or TURNS k (record { cosine = 0; sine = 0 })).cosine ≡ cosine (0 + k)) × ((get_or TURNS k (record { cosine = 0; sine = 0 })).sine ≡ sine (0 + k)) = turn_at 0 k TURNS (record { cosine = 0; sine = 0 }) (table_is laws) (omega arith) in
    let e : 0 + k ≡ k = omega arith in
    (r.0 ∙ ap cosine e, r.1 ∙ ap sine e)

-- what the bounds are to say at k
pub record Small (k : ℕ) : Type 0 where
  pub grows : bound k ≤ bound (suc k)
  pub within : bound (suc k) < 2 ^ 64

pub bound_next : (k : ℕ) → bound (suc k) ≡ (2 * (bound k * (cosine k + sine k)) + 2 ^ 62) / 2 ^ 63
unfolding bound
bound_next k = refl

pub bound_first : bound zero ≡ 2 ^ 62
unfolding bound
bound_first = refl

grows_by : (b n : ℕ) → 2 ^ 62 ≤ n → b ≤ (2 * (b * n) + 2 ^ 62) / 2 ^ 63
grows_by b n h =
    let m : b * 2 ^ 62 ≤ b * n = mul-le-mul_left b h in
    (le-div_iff_mul-le {k = 2 ^ 63} {x = b} {y = 2 * (b * n) + 2 ^ 62} (omega arith)).1 (omega arith)

small_at : (b k i : ℕ) (ts : List Turn) → b ≡ bound k → AreTurns k ts → are_small b ts ≡ true → i < length ts → Small (k + i)
small_at b k i [] e a h l = absurd (omega arith)
small_at b k zero (t ∷ ts) e a h l =
    let s : (nat_le (2 ^ 62) (t.cosine + t.sine) ≡ true) × (nat_lt ((2 * (b * (t.cosine + t.sine)) + 2 ^ 62) / 2 ^ 63) (2 ^ 64) && are_small ((2 * (b * (t.cosine + t.sine)) + 2 ^ 62) / 2 ^ 63) ts ≡ true) = both _ _ h in
    let w : (nat_lt ((2 * (b * (t.cosine + t.sine)) + 2 ^ 62) / 2 ^ 63) (2 ^ 64) ≡ true) × (are_small ((2 * (b * (t.cosine + t.sine)) + 2 ^ 62) / 2 ^ 63) ts ≡ true) = both _ _ s.1 in
    let n : t.cosine + t.sine ≡ cosine k + sine k = omega (arith, a.0, a.1) in
    let f : (2 * (b * (t.cosine + t.sine)) + 2 ^ 62) / 2 ^ 63 ≡ bound (suc k) = ap (λ (x : ℕ). (2 * (x * (t.cosine + t.sine)) + 2 ^ 62) / 2 ^ 63) e ∙ ap (λ (x : ℕ). (2 * (bound k * x) + 2 ^ 62) / 2 ^ 63) n ∙ sym (bound_next k) in
    let g : b ≤ (2 * (b * (t.cosine + t.sine)) + 2 ^ 62) / 2 ^ 63 = grows_by b (t.cosine + t.sine) (grind (arith, nat_tests, s.0)) in
    let p : (2 * (b * (t.cosine + t.sine)) + 2 ^ 62) / 2 ^ 63 < 2 ^ 64 = grind (arith, nat_tests, w.0) in
    let z : k ≡ k + 0 = omega arith in
    subst Small z (record { grows = subst (λ (x : ℕ). x ≤ bound (suc k)) e (subst (λ (x : ℕ). b ≤ x) f g); within = subst (λ (x : ℕ). x < 2 ^ 64) f p })
small_at b k (suc i) (t ∷ ts) e a h l =
    let s : (nat_le (2 ^ 62) (t.cosine + t.sine) ≡ true) × (nat_lt ((2 * (b * (t.cosine + t.sine)) + 2 ^ 62) / 2 ^ 63) (2 ^ 64) && are_small ((2 * (b * (t.cosine + t.sine)) + 2 ^ 62) / 2 ^ 63) ts ≡ true) = both _ _ h in
    let w : (nat_lt ((2 * (b * (t.cosine + t.sine)) + 2 ^ 62) / 2 ^ 63) (2 ^ 64) ≡ true) × (are_small ((2 * (b * (t.cosine + t.sine)) + 2 ^ 62) / 2 ^ 63) ts ≡ true) = both _ _ s.1 in
    let n : t.cosine + t.sine ≡ cosine k + sine k = omega (arith, a.0, a.1) in
    let f : (2 * (b * (t.cosine + t.sine)) + 2 ^ 62) / 2 ^ 63 ≡ bound (suc k) = ap (λ (x : ℕ). (2 * (x * (t.cosine + t.sine)) + 2 ^ 62) / 2 ^ 63) e ∙ ap (λ (x : ℕ). (2 * (bound k * x) + 2 ^ 62) / 2 ^ 63) n ∙ sym (bound_next k) in
    let z : suc k + i ≡ k + suc i = omega arith in
    subst Small z (small_at ((2 * (b * (t.cosine + t.sine)) + 2 ^ 62) / 2 ^ 63) (suc k) i ts f a.2 w.1 (omega arith))

-- no bound up to the 40th turn is too great
pub small : Laws → (k : ℕ) → k < 40 → Small k
small laws k h = let z : 0 + k ≡ k = omega arith in subst Small z (small_at (2 ^ 62) 0 k TURNS (sym bound_first) (table_is laws) refl h)
