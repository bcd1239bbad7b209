-- A text read byte by byte.
use Rattle.std.proofs.Common.{arith, ◌≡◌, ◌≢◌, ℕ, ◌+◌, ◌<◌, ◌≤◌, List, [], ◌∷◌, ◌++◌, length, drop, get_or, ap, sym, ◌∙◌, refl, append_assoc}
use Rattle.std.proofs.Math.ListN.{drop_of_length-le}
use Rattle.std.proofs.lemmas.List.{drop_more}
use Rattle.std.proofs.lemmas.Bool.Decides.{nat_tests}
use Rattle.ctl_tree.specs.Texts.{escaped, unescaped}

-- one byte that stands for itself
plain_front : (b : ℕ) (rest : List ℕ) → b ≢ 92 → unescaped (b ∷ rest) ≡ b ∷ unescaped rest
plain_front b [] other = refl
plain_front b (c ∷ rest) other = grind (arith, nat_tests, other)

escape_front : (b c : ℕ) (rest : List ℕ) → b ≡ 92 → unescaped (b ∷ c ∷ rest) ≡ escaped c ∷ unescaped rest
escape_front b c rest e = grind (arith, nat_tests, e)

-- at a place in the bytes

pub plain_at : (bytes : List ℕ) (i : ℕ) → i < length bytes → get_or bytes i 0 ≢ 92 → unescaped (drop i bytes) ≡ get_or bytes i 0 ∷ unescaped (drop (i + 1) bytes)
plain_at bytes i lt other = ap unescaped (drop_more bytes i 0 lt) ∙ plain_front (get_or bytes i 0) (drop (i + 1) bytes) other

pub last_at : (bytes : List ℕ) (i : ℕ) → i < length bytes → length bytes ≤ i + 1 → unescaped (drop i bytes) ≡ get_or bytes i 0 ∷ unescaped (drop (i + 1) bytes)
last_at bytes i lt le =
    let ends : drop (i + 1) bytes ≡ [] = drop_of_length-le bytes le in
    ap unescaped (drop_more bytes i 0 lt ∙ ap (λ rest. get_or bytes i 0 ∷ rest) ends) ∙ sym (ap (λ rest. get_or bytes i 0 ∷ unescaped rest) ends)

pub escape_at : (bytes : List ℕ) (i : ℕ) → i + 1 < length bytes → get_or bytes i 0 ≡ 92 → unescaped (drop i bytes) ≡ escaped (get_or bytes (i + 1) 0) ∷ unescaped (drop (i + 2) bytes)
escape_at bytes i lt e =
    let here : i < length bytes = omega arith in
    let two : i + 1 + 1 ≡ i + 2 = omega arith in
    ap unescaped (drop_more bytes i 0 here ∙ ap (λ rest. get_or bytes i 0 ∷ rest) (drop_more bytes (i + 1) 0 lt))
    ∙ escape_front (get_or bytes i 0) (get_or bytes (i + 1) 0) (drop (i + 1 + 1) bytes) e
    ∙ ap (λ n. escaped (get_or bytes (i + 1) 0) ∷ unescaped (drop n bytes)) two

-- one more byte is written
pub written_on : (inside text text' : List ℕ) (i j b : ℕ) → text ++ unescaped (drop i inside) ≡ unescaped inside → unescaped (drop i inside) ≡ b ∷ unescaped (drop j inside) → text' ≡ text ++ b ∷ []
    → text' ++ unescaped (drop j inside) ≡ unescaped inside
written_on inside text text' i j b so step is = rw (is, append_assoc) (ap (λ rest. text ++ rest) (sym step) ∙ so)
