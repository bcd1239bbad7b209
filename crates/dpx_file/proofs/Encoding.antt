-- The words of codes of ten bits, one pixel more.
use Rattle.std.proofs.Common.{◌≡◌, ℕ, zero, suc, ◌+◌, ◌*◌, ◌^◌, ◌≤◌, List, [], ◌∷◌, ◌++◌, length, take, drop, get_or, refl, sym, ap, ◌∙◌, append_assoc, length-append, length-take, arith}
use Rattle.std.proofs.lemmas.List.{append-nil, take_more, take_at}
use borrow.Rule.Slice.PartMut.{put_mid}
use Rattle.byteorder.specs.Endian.{big_bytes}
use Rattle.dpx_file.specs.Writing.{ten_bit_words}

abbrev pub word : ℕ → ℕ → ℕ → ℕ
word r g b = r * 2 ^ 22 + g * 2 ^ 12 + b * 2 ^ 2

-- a multiple of three codes has whole pixels
pub words-append : (n : ℕ) (xs ys : List ℕ) → length xs ≡ 3 * n → ten_bit_words (xs ++ ys) ≡ ten_bit_words xs ++ ten_bit_words ys
words-append zero [] ys e = refl
words-append zero (x ∷ xs) ys e = absurd (omega arith)
words-append (suc n) [] ys e = absurd (omega arith)
words-append (suc n) (r ∷ []) ys e = absurd (omega arith)
words-append (suc n) (r ∷ g ∷ []) ys e = absurd (omega arith)
words-append (suc n) (r ∷ g ∷ b ∷ xs) ys e =
    ap (λ (l : List ℕ). big_bytes 4 (word r g b) ++ l) (words-append n xs ys (omega arith)) ∙ sym (append_assoc (big_bytes 4 (word r g b)) (ten_bit_words xs) (ten_bit_words ys))

pub length-words : (n : ℕ) (xs : List ℕ) → length xs ≡ 3 * n → length (ten_bit_words xs) ≡ 4 * n
length-words zero [] e = refl
length-words zero (x ∷ xs) e = absurd (omega arith)
length-words (suc n) [] e = absurd (omega arith)
length-words (suc n) (r ∷ []) e = absurd (omega arith)
length-words (suc n) (r ∷ g ∷ []) e = absurd (omega arith)
length-words (suc n) (r ∷ g ∷ b ∷ xs) e = let ih = length-words n xs (omega arith) in omega arith

-- three items in a row are read
pub take_three_more : (xs : List ℕ) (i : ℕ) → i + 3 ≤ length xs → take (i + 3) xs ≡ take i xs ++ get_or xs i 0 ∷ get_or xs (i + 1) 0 ∷ get_or xs (i + 2) 0 ∷ []
take_three_more xs i room =
    let one = take_more xs i 0 (omega arith) in
    let two = take_more xs (i + 1) 0 (omega arith) in
    let three = take_more xs (i + 2) 0 (omega arith) in
    let e3 : i + 2 + 1 ≡ i + 3 = omega arith in
    let e2 : i + 1 + 1 ≡ i + 2 = omega arith in
    let two' : take (i + 2) xs ≡ take (i + 1) xs ++ get_or xs (i + 1) 0 ∷ [] = rw e2 at two in
    rw (← e3, three, two', one) (append_assoc (take i xs ++ get_or xs i 0 ∷ []) (get_or xs (i + 1) 0 ∷ []) (get_or xs (i + 2) 0 ∷ []) ∙ append_assoc (take i xs) (get_or xs i 0 ∷ []) (get_or xs (i + 1) 0 ∷ get_or xs (i + 2) 0 ∷ []))

-- what is written next to the front
put_front : (a k n : ℕ) (out bytes rest : List ℕ) → length (take a out) + length bytes ≡ n → take n (put_mid a k out (bytes ++ rest)) ≡ take a out ++ bytes
put_front a k n out bytes rest e =
    let post = drop k (drop a out) in
    let regroup : put_mid a k out (bytes ++ rest) ≡ (take a out ++ bytes) ++ (rest ++ post) =
    ap (λ (l : List ℕ). take a out ++ l) (append_assoc bytes rest post) ∙ sym (append_assoc (take a out) bytes (rest ++ post)) in
    ap (take n) regroup ∙ take_at (take a out ++ bytes) (rest ++ post) n (length-append (take a out) bytes ∙ e)

-- one pixel more
pub word_step : (codes out part : List ℕ) (x r g b w k : ℕ)
    → r ≡ get_or codes (3 * x) 0 → g ≡ get_or codes (3 * x + 1) 0 → b ≡ get_or codes (3 * x + 2) 0
    → w ≡ word r g b → 3 * x + 3 ≤ length codes → 4 * x + 4 ≤ length out
    → part ≡ big_bytes 4 w ++ drop 4 (drop (4 * x) out)
    → take (4 * x) out ≡ ten_bit_words (take (3 * x) codes)
    → take (4 * (x + 1)) (put_mid (4 * x) k out part) ≡ ten_bit_words (take (3 * (x + 1)) codes)
word_step codes out part x r g b w k er eg eb ew room place p so_far =
    let more : 3 * (x + 1) ≡ 3 * x + 3 = omega arith in
    let front_len = length-take (4 * x) out in
    let codes_len = length-take (3 * x) codes in
    let front : take (4 * (x + 1)) (put_mid (4 * x) k out (big_bytes 4 w ++ drop 4 (drop (4 * x) out))) ≡ take (4 * x) out ++ big_bytes 4 w =
    put_front (4 * x) k (4 * (x + 1)) out (big_bytes 4 w) (drop 4 (drop (4 * x) out)) (omega arith) in
    let read : take (3 * (x + 1)) codes ≡ take (3 * x) codes ++ r ∷ g ∷ b ∷ [] = rw (more, er, eg, eb) (take_three_more codes (3 * x) room) in
    let words : ten_bit_words (take (3 * x) codes ++ r ∷ g ∷ b ∷ []) ≡ ten_bit_words (take (3 * x) codes) ++ big_bytes 4 (word r g b) =
    words-append x (take (3 * x) codes) (r ∷ g ∷ b ∷ []) (omega arith) ∙ ap (λ (l : List ℕ). ten_bit_words (take (3 * x) codes) ++ l) (append-nil (big_bytes 4 (word r g b))) in
    rw p (front ∙ ap (λ (l : List ℕ). l ++ big_bytes 4 w) so_far ∙ ap (λ (v : ℕ). ten_bit_words (take (3 * x) codes) ++ big_bytes 4 v) ew ∙ sym words ∙ ap ten_bit_words (sym read))
