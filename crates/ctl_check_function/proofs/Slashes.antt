-- Where the name of a file begins behind its folder.
use Rattle.std.proofs.Common.{◌≡◌, ◌<◌, ◌≤◌, ◌+◌, ℕ, suc, List, [], ◌∷◌, ◌++◌, length, get_or, take, drop, cond, true, false, append_assoc, ap, sym, ◌∙◌, drop-cons, arith}
use Rattle.std.proofs.Math.Seq.{take-suc}
use Rattle.std.proofs.lemmas.List.{reverse-append, reverse-reverse, append-nil}
use Rattle.std.proofs.lemmas.List.Sums.{take_while-cons}
use Rattle.std.specs.Prelude.{reverse, take_while}
use Rattle.ctl_types.specs.Definitions.{is_no_slash, base_name}

-- the byte at a place is the last of those up to it
last_taken : (xs : List ℕ) (n d : ℕ) → n < length xs → reverse (take (suc n) xs) ≡ get_or xs n d ∷ reverse (take n xs)
last_taken xs n d h = ap reverse (take-suc xs n d h) ∙ reverse-append (take n xs) (get_or xs n d ∷ [])

-- and the first of those from it on
first_dropped : (xs : List ℕ) (n d : ℕ) → n < length xs → reverse (drop n xs) ≡ reverse (drop (suc n) xs) ++ (get_or xs n d ∷ [])
first_dropped xs n d h = ap reverse (drop-cons xs n d h) ∙ reverse-append (get_or xs n d ∷ []) (drop (suc n) xs)

-- a byte that is no slash is taken, and what stands before a slash is not
taken : (x : ℕ) (r : List ℕ) → is_no_slash x ≡ true → take_while is_no_slash (x ∷ r) ≡ x ∷ take_while is_no_slash r
taken x r p = take_while-cons is_no_slash x r ∙ ap (λ b. cond b (x ∷ take_while is_no_slash r) []) p

stopped : (x : ℕ) (r : List ℕ) → is_no_slash x ≡ false → take_while is_no_slash (x ∷ r) ≡ []
stopped x r p = take_while-cons is_no_slash x r ∙ ap (λ b. cond b (x ∷ take_while is_no_slash r) []) p

-- the name goes on before a byte that is no slash
on : (xs : List ℕ) (n d : ℕ) → n < length xs → is_no_slash (get_or xs n d) ≡ true → reverse (drop (suc n) xs) ++ take_while is_no_slash (reverse (take (suc n) xs)) ≡ reverse (drop n xs) ++ take_while is_no_slash (reverse (take n xs))
on xs n d h p =
    ap (λ r. reverse (drop (suc n) xs) ++ take_while is_no_slash r) (last_taken xs n d h)
    ∙ ap (λ r. reverse (drop (suc n) xs) ++ r) (taken (get_or xs n d) (reverse (take n xs)) p)
    ∙ sym (append_assoc (reverse (drop (suc n) xs)) (get_or xs n d ∷ []) (take_while is_no_slash (reverse (take n xs))))
    ∙ ap (λ r. r ++ take_while is_no_slash (reverse (take n xs))) (sym (first_dropped xs n d h))

pub goes_on : (xs : List ℕ) (start n d : ℕ) → start ≡ n + 1 → start ≤ length xs → is_no_slash (get_or xs n d) ≡ true → reverse (drop start xs) ++ take_while is_no_slash (reverse (take start xs)) ≡ reverse (drop n xs) ++ take_while is_no_slash (reverse (take n xs))
goes_on xs start n d e h p =
    let k : start ≡ suc n = omega (arith, e) in
    ap (λ m. reverse (drop m xs) ++ take_while is_no_slash (reverse (take m xs))) k ∙ on xs n d (omega (arith, e, h)) p

-- and begins behind a slash
pub begins : (xs : List ℕ) (start n d : ℕ) → start ≡ n + 1 → start ≤ length xs → is_no_slash (get_or xs n d) ≡ false → take_while is_no_slash (reverse (take start xs)) ≡ []
begins xs start n d e h p =
    let k : start ≡ suc n = omega (arith, e) in
    ap (λ m. take_while is_no_slash (reverse (take m xs))) k ∙ ap (take_while is_no_slash) (last_taken xs n d (omega (arith, e, h))) ∙ stopped (get_or xs n d) (reverse (take n xs)) p

-- what stands behind is the name
pub named_by : (xs : List ℕ) (start : ℕ) → take_while is_no_slash (reverse xs) ≡ reverse (drop start xs) ++ take_while is_no_slash (reverse (take start xs)) → take_while is_no_slash (reverse (take start xs)) ≡ [] → drop start xs ≡ base_name xs
named_by xs start e z =
    sym (ap reverse (e ∙ ap (λ r. reverse (drop start xs) ++ r) z ∙ append-nil (reverse (drop start xs))) ∙ reverse-reverse (drop start xs))
