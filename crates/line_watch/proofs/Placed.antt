-- Counts in a map, each under its place.
use Rattle.std.proofs.Common.{◌≡◌, ℕ, zero, suc, ◌+◌, ◌<◌, true, false, List, [], ◌∷◌, ◌++◌, refl, ap, sym, ◌∙◌, arith}
use Rattle.std.specs.Prelude.{get_or, set, length, Option, Some, is_some}
use Rattle.std.specs.Ordering.{nat_cmp}
use Rattle.std.specs.BTreeMap.{is_at, insert_entry}
use Rattle.std.specs.Map.{lookup, set_value, values_of}
use Rattle.std.specs.List.{enumerate_from}
use Rattle.line_watch.specs.Means.{HasEachPlace}
use Rattle.std.proofs.lemmas.List.{length-set}
use Rattle.std.proofs.lemmas.Bool.{eq-eqb, ne_eqb, le-ltb}

at-same : (x y : ℕ) → x ≡ y → is_at (nat_cmp x) y ≡ true
at-same x y e = rw (le-ltb x y (omega (arith, e))) (rw (eq-eqb x y e) refl)

at-above : (x y : ℕ) → y < x → is_at (nat_cmp x) y ≡ false
at-above x y h = rw (le-ltb x y (omega arith)) (rw (ne_eqb x y (λ e. omega (arith, e))) refl)

pub lookup-placed : (q a k : ℕ) (vs : List ℕ) → q ≡ a + k → k < length vs → lookup (is_at (nat_cmp q)) (enumerate_from a vs) ≡ Some (get_or vs k 0)
lookup-placed q a k [] e h = absurd (omega arith)
lookup-placed q a zero (v ∷ vs) e h = rw (at-same q a (omega (arith, e))) refl
lookup-placed q a (suc k) (v ∷ vs) e h = rw (at-above q a (omega (arith, e))) (lookup-placed q (a + 1) k vs (omega (arith, e)) (omega arith))

pub set-placed : (q a k w : ℕ) (vs : List ℕ) → q ≡ a + k → k < length vs → set_value (is_at (nat_cmp q)) (enumerate_from a vs) w ≡ enumerate_from a (set vs k w)
set-placed q a k w [] e h = absurd (omega arith)
set-placed q a zero w (v ∷ vs) e h = rw (at-same q a (omega (arith, e))) refl
set-placed q a (suc k) w (v ∷ vs) e h =
    rw (at-above q a (omega (arith, e))) (ap (λ (es : List (ℕ × ℕ)). (a, v) ∷ es) (set-placed q (a + 1) k w vs (omega (arith, e)) (omega arith)))

pub values-placed : (a : ℕ) (vs : List ℕ) → values_of (enumerate_from a vs) ≡ vs
values-placed a [] = refl
values-placed a (v ∷ vs) = ap (λ (ws : List ℕ). v ∷ ws) (values-placed (a + 1) vs)

-- a place past the others goes last
pub insert-placed : (q a w : ℕ) (vs : List ℕ) → q ≡ a + length vs → insert_entry nat_cmp (enumerate_from a vs) q w ≡ enumerate_from a (vs ++ w ∷ [])
insert-placed q a w [] e = ap (λ (k : ℕ). (k, w) ∷ []) (omega (arith, e))
insert-placed q a w (v ∷ vs) e =
    rw (le-ltb q a (omega (arith, e))) (rw (ne_eqb q a (λ h. omega (arith, e, h))) (ap (λ (es : List (ℕ × ℕ)). (a, v) ∷ es) (insert-placed q (a + 1) w vs (omega (arith, e)))))

-- ---- what is placed

pub placed-found : (es : List (ℕ × ℕ)) (k : ℕ) → HasEachPlace es → k < 48 → lookup (is_at (nat_cmp k)) es ≡ Some (get_or (values_of es) k 0)
placed-found es k placed h =
    ap (λ (xs : List (ℕ × ℕ)). lookup (is_at (nat_cmp k)) xs) placed.places
    ∙ lookup-placed k 0 k (values_of es) (omega arith) (omega (arith, placed.many, h))

pub placed-some : (es : List (ℕ × ℕ)) (k : ℕ) (o : Option ℕ) → HasEachPlace es → k < 48 → o ≡ lookup (is_at (nat_cmp k)) es → is_some o ≡ true
placed-some es k o placed h e = ap (λ (p : Option ℕ). is_some p) (e ∙ placed-found es k placed h)

pub placed-set : (es es' : List (ℕ × ℕ)) (k w : ℕ) → HasEachPlace es → k < 48 → es' ≡ set_value (is_at (nat_cmp k)) es w → es' ≡ enumerate_from 0 (set (values_of es) k w)
placed-set es es' k w placed h e =
    e
    ∙ ap (λ (xs : List (ℕ × ℕ)). set_value (is_at (nat_cmp k)) xs w) placed.places
    ∙ set-placed k 0 k w (values_of es) (omega arith) (omega (arith, placed.many, h))

pub placed-values : (es es' : List (ℕ × ℕ)) (k w : ℕ) → HasEachPlace es → k < 48 → es' ≡ set_value (is_at (nat_cmp k)) es w → values_of es' ≡ set (values_of es) k w
placed-values es es' k w placed h e =
    ap (λ (xs : List (ℕ × ℕ)). values_of xs) (placed-set es es' k w placed h e) ∙ values-placed 0 (set (values_of es) k w)

pub placed-still : (es es' : List (ℕ × ℕ)) (k w : ℕ) → HasEachPlace es → k < 48 → es' ≡ set_value (is_at (nat_cmp k)) es w → HasEachPlace es'
placed-still es es' k w placed h e =
    let values : values_of es' ≡ set (values_of es) k w = placed-values es es' k w placed h e in
    record {
      places = placed-set es es' k w placed h e ∙ ap (λ (ns : List ℕ). enumerate_from 0 ns) (sym values);
      many = ap (λ (ns : List ℕ). length ns) values ∙ length-set (values_of es) k w ∙ placed.many;
    }
