-- Pixels as bytes: pieces, lengths, zeros, and what they read as.
use Rattle.std.proofs.Common.{◌≡◌, ℕ, zero, suc, ◌+◌, ◌*◌, ◌/◌, ◌%◌, ◌^◌, ◌<◌, ◌≤◌, List, [], ◌∷◌, ◌++◌, length, get_or, take, drop, refl, sym, ap, ◌∙◌, append_assoc, arith}
use Rattle.std.specs.Prelude.{replicate}
use Rattle.std.specs.List.{flat_map}
use Rattle.std.proofs.Math.Nat.{mul_comm}
use Rattle.std.proofs.lemmas.List.Concat.{flat_map-append}
use Rattle.std.proofs.lemmas.List.{drop_more, drop_at, take-append-drop, length-take-le}
use Rattle.byteorder.specs.Endian.{big_bytes, big_number}
use Rattle.byteorder.specs.Numbers.{big_number-reads_back}
use Rattle.dpx_file.specs.Plain.{IsBitDepth, CodesFit}
use Rattle.dpx_file.specs.Reading.{pixel_size, pixel_codes, line_codes}
use Rattle.dpx_file.specs.Writing.{ten_bit_words, pixels}
use Rattle.dpx_file.specs.Canvas.{written_packing}
use Rattle.dpx_file.proofs.CodeLemmas.{depth_cases}
use Rattle.dpx_file.proofs.Encoding.{word, words-append, length-words, take_three_more}
use Rattle.dpx_file.proofs.Decoding.{line_next, line_none}

abbrev sixteen_bytes : List ℕ → List ℕ
sixteen_bytes codes = flat_map (big_bytes 2) codes

pixels-ten : (codes : List ℕ) → pixels 10 codes ≡ ten_bit_words codes
unfolding pixels
pixels-ten codes = refl

pixels-sixteen : (codes : List ℕ) → pixels 16 codes ≡ sixteen_bytes codes
unfolding pixels
pixels-sixteen codes = refl

length-sixteen : (codes : List ℕ) → length (sixteen_bytes codes) ≡ 2 * length codes
length-sixteen [] = refl
length-sixteen (c ∷ codes) = let ih = length-sixteen codes in omega arith

-- the bytes of whole pixels stand one behind the other
pub pixels-append : (depth n : ℕ) (xs ys : List ℕ) → IsBitDepth depth → length xs ≡ 3 * n → pixels depth (xs ++ ys) ≡ pixels depth xs ++ pixels depth ys
pixels-append depth n xs ys is e =
    depth_cases (λ d. pixels d (xs ++ ys) ≡ pixels d xs ++ pixels d ys) depth is
    (rw (pixels-ten (xs ++ ys), pixels-ten xs, pixels-ten ys) (words-append n xs ys e))
    (rw (pixels-sixteen (xs ++ ys), pixels-sixteen xs, pixels-sixteen ys) (flat_map-append (big_bytes 2) xs ys))

pub length-pixels : (depth n : ℕ) (xs : List ℕ) → IsBitDepth depth → length xs ≡ 3 * n → length (pixels depth xs) ≡ n * pixel_size depth
length-pixels depth n xs is e =
    depth_cases (λ d. length (pixels d xs) ≡ n * pixel_size d) depth is
    (rw (pixels-ten xs) (length-words n xs e ∙ mul_comm 4 n))
    (rw (pixels-sixteen xs) (length-sixteen xs ∙ omega arith))

-- ---- zeros

ten_zeros : (n : ℕ) → ten_bit_words (replicate (3 * n) 0) ≡ replicate (n * 4) 0
ten_zeros zero = refl
ten_zeros (suc n) =
    let three : 3 * suc n ≡ suc (suc (suc (3 * n))) = omega arith in
    let four : suc n * 4 ≡ suc (suc (suc (suc (n * 4)))) = omega arith in
    rw (three, four) (ap (λ (l : List ℕ). 0 ∷ 0 ∷ 0 ∷ 0 ∷ l) (ten_zeros n))

sixteen_zeros : (n : ℕ) → sixteen_bytes (replicate n 0) ≡ replicate (n * 2) 0
sixteen_zeros zero = refl
sixteen_zeros (suc n) =
    let two : suc n * 2 ≡ suc (suc (n * 2)) = omega arith in
    rw two (ap (λ (l : List ℕ). 0 ∷ 0 ∷ l) (sixteen_zeros n))

pub pixels-zeros : (depth n : ℕ) → IsBitDepth depth → pixels depth (replicate (3 * n) 0) ≡ replicate (n * pixel_size depth) 0
pixels-zeros depth n is =
    let e : 3 * n * 2 ≡ n * 6 = omega arith in
    depth_cases (λ d. pixels d (replicate (3 * n) 0) ≡ replicate (n * pixel_size d) 0) depth is
    (pixels-ten (replicate (3 * n) 0) ∙ ten_zeros n)
    (pixels-sixteen (replicate (3 * n) 0) ∙ sixteen_zeros (3 * n) ∙ ap (λ (k : ℕ). replicate k 0) e)

-- ---- what they read as

-- the three codes of a word
word_fields : (r g b : ℕ) → r < 2 ^ 10 → g < 2 ^ 10 → b < 2 ^ 10
    → (word r g b / 2 ^ 22 % 2 ^ 10 ≡ r) × (word r g b / 2 ^ 12 % 2 ^ 10 ≡ g) × (word r g b / 2 ^ 2 % 2 ^ 10 ≡ b)
word_fields r g b hr hg hb = (omega arith, omega arith, omega arith)

ten_pixel_back : (r g b : ℕ) (rest : List ℕ) → r < 2 ^ 10 → g < 2 ^ 10 → b < 2 ^ 10 → pixel_codes big_number 10 1 (big_bytes 4 (word r g b) ++ rest) ≡ r ∷ g ∷ b ∷ []
unfolding pixel_codes
ten_pixel_back r g b rest hr hg hb =
    let w = word_fields r g b hr hg hb in
    let back : big_number 4 (big_bytes 4 (word r g b) ++ rest) ≡ word r g b = big_number-reads_back 4 (word r g b) rest (omega arith) in
    rw (back, w.0, w.1, w.2) refl

sixteen_pixel_back : (r g b : ℕ) (rest : List ℕ) → r < 2 ^ 16 → g < 2 ^ 16 → b < 2 ^ 16 → pixel_codes big_number 16 0 (big_bytes 2 r ++ (big_bytes 2 g ++ (big_bytes 2 b ++ rest))) ≡ r ∷ g ∷ b ∷ []
unfolding pixel_codes
sixteen_pixel_back r g b rest hr hg hb =
    rw (big_number-reads_back 2 r (big_bytes 2 g ++ (big_bytes 2 b ++ rest)) hr, big_number-reads_back 2 g (big_bytes 2 b ++ rest) hg, big_number-reads_back 2 b rest hb) refl

-- the first pixel of what is written
pixel_back : (depth r g b : ℕ) (codes rest : List ℕ) → IsBitDepth depth → r < 2 ^ depth → g < 2 ^ depth → b < 2 ^ depth
    → pixel_codes big_number depth (written_packing depth) (pixels depth (r ∷ g ∷ b ∷ codes) ++ rest) ≡ r ∷ g ∷ b ∷ []
pixel_back depth r g b codes rest is hr hg hb =
    depth_cases (λ d. r < 2 ^ d → g < 2 ^ d → b < 2 ^ d → pixel_codes big_number d (written_packing d) (pixels d (r ∷ g ∷ b ∷ codes) ++ rest) ≡ r ∷ g ∷ b ∷ []) depth is
    (λ pr pg pb. rw (pixels-ten (r ∷ g ∷ b ∷ codes)) (ten_pixel_back r g b (ten_bit_words codes ++ rest) pr pg pb))
    (λ pr pg pb. rw (pixels-sixteen (r ∷ g ∷ b ∷ codes)) (sixteen_pixel_back r g b (sixteen_bytes codes ++ rest) pr pg pb))
    hr hg hb

-- three items from a place on
drop_three : (xs : List ℕ) (i : ℕ) → i + 3 ≤ length xs → drop i xs ≡ get_or xs i 0 ∷ get_or xs (i + 1) 0 ∷ get_or xs (i + 2) 0 ∷ drop (i + 3) xs
drop_three xs i room =
    let e2 : i + 1 + 1 ≡ i + 2 = omega arith in
    let e3 : i + 2 + 1 ≡ i + 3 = omega arith in
    let two = drop_more xs (i + 1) 0 (omega arith) in
    let three = drop_more xs (i + 2) 0 (omega arith) in
    let two' : drop (i + 1) xs ≡ get_or xs (i + 1) 0 ∷ drop (i + 2) xs = rw e2 at two in
    let three' : drop (i + 2) xs ≡ get_or xs (i + 2) 0 ∷ drop (i + 3) xs = rw e3 at three in
    drop_more xs i 0 (omega arith) ∙ rw (two', three') refl

-- what stands from a pixel on is what is written of the codes from there on
pub pixels_from : (depth x : ℕ) (codes rest : List ℕ) → IsBitDepth depth → 3 * x ≤ length codes
    → drop (x * pixel_size depth) (pixels depth codes ++ rest) ≡ pixels depth (drop (3 * x) codes) ++ rest
pixels_from depth x codes rest is room =
    let front = take (3 * x) codes in
    let back = drop (3 * x) codes in
    let len = length-take-le (3 * x) codes room in
    let parts : pixels depth codes ≡ pixels depth front ++ pixels depth back = ap (pixels depth) (sym (take-append-drop (3 * x) codes)) ∙ pixels-append depth x front back is len in
    rw (parts, append_assoc (pixels depth front) (pixels depth back) rest) (drop_at (pixels depth front) (pixels depth back ++ rest) (x * pixel_size depth) (length-pixels depth x front is len))

-- the first pixels of what is written
pixels_back : (depth x : ℕ) (codes rest : List ℕ) → IsBitDepth depth → CodesFit depth codes → 3 * x ≤ length codes
    → line_codes big_number depth (written_packing depth) x (pixels depth codes ++ rest) ≡ take (3 * x) codes
pixels_back depth zero codes rest is fit room = sym (line_none big_number depth (written_packing depth) (pixels depth codes ++ rest))
pixels_back depth (suc x) codes rest is fit room =
    let one : suc x ≡ x + 1 = omega arith in
    let more : 3 * (x + 1) ≡ 3 * x + 3 = omega arith in
    let r = get_or codes (3 * x) 0 in let g = get_or codes (3 * x + 1) 0 in let b = get_or codes (3 * x + 2) 0 in
    let bytes = pixels depth codes ++ rest in
    let ih = pixels_back depth x codes rest is fit (omega arith) in
    let here : drop (x * pixel_size depth) bytes ≡ pixels depth (r ∷ g ∷ b ∷ drop (3 * x + 3) codes) ++ rest =
    pixels_from depth x codes rest is (omega arith) ∙ ap (λ (l : List ℕ). pixels depth l ++ rest) (drop_three codes (3 * x) (omega arith)) in
    let last : pixel_codes big_number depth (written_packing depth) (drop (x * pixel_size depth) bytes) ≡ r ∷ g ∷ b ∷ [] =
    ap (pixel_codes big_number depth (written_packing depth)) here
    ∙ pixel_back depth r g b (drop (3 * x + 3) codes) rest is (fit (3 * x) 0 (omega arith)) (fit (3 * x + 1) 0 (omega arith)) (fit (3 * x + 2) 0 (omega arith)) in
    rw (one, line_next big_number depth (written_packing depth) x bytes, ih, last, more) (sym (take_three_more codes (3 * x) (omega arith)))

-- a line of what is written
pub line_back : (depth width : ℕ) (codes rest : List ℕ) → IsBitDepth depth → CodesFit depth codes → 3 * width ≤ length codes
    → line_codes big_number depth (written_packing depth) width (pixels depth codes ++ rest) ≡ take (3 * width) codes
line_back depth width codes rest is fit room = pixels_back depth width codes rest is fit room
