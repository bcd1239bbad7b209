-- Two parts one after the other.
use Rattle.std.proofs.Common.{◌≡◌, ℕ, suc, zero, ◌+◌, ◌<◌, ◌≤◌, List, [], ◌∷◌, ◌++◌, length, take, drop, Bool, true, false, ◌&&◌, refl, ap, ◌∙◌, arith, nat_eq}
use Rattle.std.specs.Prelude.{bytes_eq}

-- a whole that is shorter than its front
pub short_joined : (front back whole : List ℕ) → length whole < length front → bytes_eq whole (front ++ back) ≡ false
short_joined [] back whole h = absurd (omega arith)
short_joined (a ∷ front) back [] h = refl
short_joined (a ∷ front) back (b ∷ whole) h = by (nat_eq b a) (short_joined front back whole (omega arith)) where
  by : (t : Bool) → bytes_eq whole (front ++ back) ≡ false → (t && bytes_eq whole (front ++ back)) ≡ false
  by true e = e
  by false e = refl

and_assoc : (a b c : Bool) → (a && (b && c)) ≡ ((a && b) && c)
and_assoc true b c = refl
and_assoc false b c = refl

-- the front and the back
pub long_joined : (front back whole : List ℕ) → length front ≤ length whole → bytes_eq whole (front ++ back) ≡ (bytes_eq (take (length front) whole) front && bytes_eq (drop (length front) whole) back)
long_joined [] back [] h = refl
long_joined [] back (b ∷ whole) h = refl
long_joined (a ∷ front) back [] h = absurd (omega arith)
long_joined (a ∷ front) back (b ∷ whole) h =
    ap (λ t. nat_eq b a && t) (long_joined front back whole (omega arith)) ∙ and_assoc (nat_eq b a) (bytes_eq (take (length front) whole) front) (bytes_eq (drop (length front) whole) back)
