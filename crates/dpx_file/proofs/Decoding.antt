-- The codes of a line, one pixel more.
use Rattle.std.proofs.Common.{◌≡◌, ℕ, ◌+◌, ◌-◌, ◌*◌, ◌/◌, ◌%◌, ◌^◌, ◌≤◌, Bool, true, false, cond, eqb, List, [], ◌∷◌, ◌++◌, length, take, drop, refl, sym, ap, ◌∙◌, arith}
use Rattle.std.specs.Prelude.{set}
use Rattle.std.specs.List.{flat_map, range_with_len}
use Rattle.std.proofs.lemmas.List.{drop-drop}
use Rattle.dpx_file.specs.Reading.{Order, pixel_size, pixel_codes, line_codes}
use Rattle.dpx_file.proofs.Lists.{flat_range_next, take_three}

pub line_next : (order : Order) (depth packing x : ℕ) (bytes : List ℕ)
    → line_codes order depth packing (x + 1) bytes ≡ line_codes order depth packing x bytes ++ pixel_codes order depth packing (drop (x * pixel_size depth) bytes)
unfolding line_codes
line_next order depth packing x bytes =
    let f : ℕ → List ℕ = λ k. pixel_codes order depth packing (drop (k * pixel_size depth) bytes) in
    let e : 0 + x ≡ x = omega arith in
    flat_range_next f 0 x ∙ ap (λ k. flat_map f (range_with_len 0 x) ++ f k) e

-- the three codes of a word
ten_codes : (order : Order) (packing : ℕ) (bytes : List ℕ) (word red : ℕ) (is_a : Bool)
    → word ≡ order 4 bytes → eqb packing 1 ≡ is_a → red ≡ cond is_a 22 20
    → word / 2 ^ red % 2 ^ 10 ∷ word / 2 ^ (red - 10) % 2 ^ 10 ∷ word / 2 ^ (red - 20) % 2 ^ 10 ∷ [] ≡ pixel_codes order 10 packing bytes
unfolding pixel_codes
ten_codes order packing bytes word red true w is r = rw (w, is, r) refl
ten_codes order packing bytes word red false w is r = rw (w, is, r) refl

-- one pixel more at ten bits
pub ten_step : (order : Order) (packing x : ℕ) (line out : List ℕ) (word red a b c : ℕ)
    → word ≡ order 4 (drop (4 * x) line) → red ≡ cond (eqb packing 1) 22 20
    → a ≡ word / 2 ^ red % 2 ^ 10 → b ≡ word / 2 ^ (red - 10) % 2 ^ 10 → c ≡ word / 2 ^ (red - 20) % 2 ^ 10
    → 3 * x + 3 ≤ length out → take (3 * x) out ≡ line_codes order 10 packing x line
    → take (3 * (x + 1)) (set (set (set out (3 * x) a) (3 * x + 1) b) (3 * x + 2) c) ≡ line_codes order 10 packing (x + 1) line
ten_step order packing x line out word red a b c w r ea eb ec room so_far =
    let here : 4 * x ≡ x * 4 = omega arith in
    let more : 3 * (x + 1) ≡ 3 * x + 3 = omega arith in
    let word_is : word ≡ order 4 (drop (x * 4) line) = w ∙ ap (λ (k : ℕ). order 4 (drop k line)) here in
    let p : a ∷ b ∷ c ∷ [] ≡ pixel_codes order 10 packing (drop (x * 4) line) =
    rw (ea, eb, ec) (ten_codes order packing (drop (x * 4) line) word red (eqb packing 1) word_is refl r) in
    ap (λ (n : ℕ). take n (set (set (set out (3 * x) a) (3 * x + 1) b) (3 * x + 2) c)) more ∙ take_three out (3 * x) a b c room ∙ ap (λ (l : List ℕ). l ++ a ∷ b ∷ c ∷ []) so_far
    ∙ ap (λ (l : List ℕ). line_codes order 10 packing x line ++ l) p ∙ sym (line_next order 10 packing x line)

-- one pixel more at sixteen bits
pub sixteen_step : (order : Order) (packing x : ℕ) (line out : List ℕ) (a b c : ℕ)
    → a ≡ order 2 (drop (6 * x) line) → b ≡ order 2 (drop (6 * x + 2) line) → c ≡ order 2 (drop (6 * x + 4) line)
    → 3 * x + 3 ≤ length out → take (3 * x) out ≡ line_codes order 16 packing x line
    → take (3 * (x + 1)) (set (set (set out (3 * x) a) (3 * x + 1) b) (3 * x + 2) c) ≡ line_codes order 16 packing (x + 1) line
unfolding pixel_codes
sixteen_step order packing x line out a b c ea eb ec room so_far =
    let more : 3 * (x + 1) ≡ 3 * x + 3 = omega arith in
    let here : 6 * x ≡ x * 6 = omega arith in
    let second : drop 2 (drop (x * 6) line) ≡ drop (6 * x + 2) line = drop-drop 2 (x * 6) line ∙ ap (λ (k : ℕ). drop (k + 2) line) (sym here) in
    let third : drop 4 (drop (x * 6) line) ≡ drop (6 * x + 4) line = drop-drop 4 (x * 6) line ∙ ap (λ (k : ℕ). drop (k + 4) line) (sym here) in
    let first : drop (6 * x) line ≡ drop (x * 6) line = ap (λ (k : ℕ). drop k line) here in
    let p : a ∷ b ∷ c ∷ [] ≡ pixel_codes order 16 packing (drop (x * 6) line) = rw (ea, eb, ec, first, second, third) refl in
    ap (λ (n : ℕ). take n (set (set (set out (3 * x) a) (3 * x + 1) b) (3 * x + 2) c)) more ∙ take_three out (3 * x) a b c room ∙ ap (λ (l : List ℕ). l ++ a ∷ b ∷ c ∷ []) so_far
    ∙ ap (λ (l : List ℕ). line_codes order 16 packing x line ++ l) p ∙ sym (line_next order 16 packing x line)

-- no pixel gives no code
pub line_none : (order : Order) (depth packing : ℕ) (bytes : List ℕ) → [] ≡ line_codes order depth packing 0 bytes
unfolding line_codes
line_none order depth packing bytes = refl
