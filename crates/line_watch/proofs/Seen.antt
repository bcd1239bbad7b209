-- The numbers of the first three kinds after one pixel.
use Rattle.std.proofs.Common.{◌≡◌, ℕ, ◌+◌, Bool, true, false, List, [], ◌∷◌, refl, ap, sym, ◌∙◌, arith}
use Rattle.std.specs.Prelude.{cond, ◌==◌, replicate}
use Rattle.ctl_base.specs.Steps.{grown, one_more}
use Rattle.line_watch.specs.Tally.{greatest_code, after_line}

-- one more where there is one
pub one-more-where : (t : Bool) (n : ℕ) → grown n (0 + cond t 1 0) ≡ cond t (one_more n) n
one-more-where true n = refl
one-more-where false n = omega arith

three-alike : {a b c a' b' c' : ℕ} (rest : List ℕ) → a ≡ a' → b ≡ b' → c ≡ c' → a ∷ b ∷ c ∷ rest ≡ a' ∷ b' ∷ c' ∷ rest
three-alike {b = b} {c = c} {a' = a'} {b' = b'} rest d e f =
    ap (λ (x : ℕ). x ∷ b ∷ c ∷ rest) d ∙ ap (λ (x : ℕ). a' ∷ x ∷ c ∷ rest) e ∙ ap (λ (x : ℕ). a' ∷ b' ∷ x ∷ rest) f

with-three : (a b c : ℕ) {rest rest' : List ℕ} → rest ≡ rest' → a ∷ b ∷ c ∷ rest ≡ a ∷ b ∷ c ∷ rest'
with-three a b c e = ap (λ (xs : List ℕ). a ∷ b ∷ c ∷ xs) e

counted : (t : Bool) (n n' : ℕ) → n' ≡ cond t (one_more n) n → n' ≡ grown n (0 + cond t 1 0)
counted t n n' e = e ∙ sym (one-more-where t n)

pub clip-seen : (depth r g b a1 a2 b1 b2 c1 c2 a1' a2' b1' b2' c1' c2' : ℕ)
    → a1' ≡ cond (r == 0) (one_more a1) a1 → a2' ≡ cond (r == greatest_code depth) (one_more a2) a2
    → b1' ≡ cond (g == 0) (one_more b1) b1 → b2' ≡ cond (g == greatest_code depth) (one_more b2) b2
    → c1' ≡ cond (b == 0) (one_more c1) c1 → c2' ≡ cond (b == greatest_code depth) (one_more c2) c2
    → a1' ∷ a2' ∷ b1' ∷ b2' ∷ c1' ∷ c2' ∷ replicate 42 0 ≡ after_line 2 depth (a1 ∷ a2 ∷ b1 ∷ b2 ∷ c1 ∷ c2 ∷ replicate 42 0) (r ∷ g ∷ b ∷ [])
unfolding after_line
clip-seen depth r g b a1 a2 b1 b2 c1 c2 a1' a2' b1' b2' c1' c2' h1 h2 h3 h4 h5 h6 =
    let top : ℕ = greatest_code depth in
    three-alike (b2' ∷ c1' ∷ c2' ∷ replicate 42 0) (counted (r == 0) a1 a1' h1) (counted (r == top) a2 a2' h2) (counted (g == 0) b1 b1' h3)
    ∙ with-three (grown a1 (0 + cond (r == 0) 1 0)) (grown a2 (0 + cond (r == top) 1 0)) (grown b1 (0 + cond (g == 0) 1 0))
    (three-alike (replicate 42 0) (counted (g == top) b2 b2' h4) (counted (b == 0) c1 c1' h5) (counted (b == top) c2 c2' h6))

zero-plus : (n r n' : ℕ) → n' ≡ grown n r → n' ≡ grown n (0 + r)
zero-plus n r n' e = e ∙ ap (λ (m : ℕ). grown n m) (omega arith)

pub sum-seen : (depth r g b a1 b1 c1 a1' b1' c1' : ℕ) → a1' ≡ grown a1 r → b1' ≡ grown b1 g → c1' ≡ grown c1 b
    → a1' ∷ b1' ∷ c1' ∷ replicate 45 0 ≡ after_line 3 depth (a1 ∷ b1 ∷ c1 ∷ replicate 45 0) (r ∷ g ∷ b ∷ [])
unfolding after_line
sum-seen depth r g b a1 b1 c1 a1' b1' c1' h1 h2 h3 =
    three-alike (replicate 45 0) (zero-plus a1 r a1' h1) (zero-plus b1 g b1' h2) (zero-plus c1 b c1' h3)
