-- Where codes and fields stand.
use Rattle.std.proofs.Common.{◌≡◌, ℕ, zero, suc, ◌+◌, ◌*◌, ◌<◌, List, length, get_or, drop, refl, ap, ◌∙◌, mul-zero, zero-add, arith}
use Rattle.std.specs.List.{flat_map, range_with_len}
use Rattle.std.proofs.Math.Nat.{mul-suc}
use Rattle.std.proofs.lemmas.List.{get_or_append_left, get_or-append-add, drop-drop}
use Rattle.dpx_file.specs.Reading.{Order, pixel_size, line_start, code_in_pixel, pixel_codes, line_codes, codes_in_file}
use Rattle.dpx_file.specs.Writing.{header_rows}
use Rattle.dpx_file.specs.Law.{CodesStand, FieldsInPlace}
use Rattle.dpx_file.proofs.CodeLemmas.{length_pixel, length_line}

-- item j of piece i, where all pieces have k items
get_or-flat_range : (f : ℕ → List ℕ) (k a n i j : ℕ) → ((x : ℕ) → length (f x) ≡ k) → i < n → j < k
    → get_or (flat_map f (range_with_len a n)) (k * i + j) 0 ≡ get_or (f (a + i)) j 0
get_or-flat_range f k a zero i j each below within = absurd (omega arith)
get_or-flat_range f k a (suc n) zero j each below within =
    let rest = flat_map f (range_with_len (a + 1) n) in
    let here = each a in
    let at : k * 0 + j ≡ j = rw mul-zero (zero-add j) in
    let first : a + 0 ≡ a = omega arith in
    rw (at, first) (get_or_append_left (f a) rest 0 j (omega arith))
get_or-flat_range f k a (suc n) (suc i) j each below within =
    let rest = flat_map f (range_with_len (a + 1) n) in
    let here = each a in
    let split = mul-suc k i in
    let at : k * suc i + j ≡ length (f a) + (k * i + j) = omega arith in
    let place : a + suc i ≡ a + 1 + i = omega arith in
    rw (at, place) (get_or-append-add (f a) rest (k * i + j) 0 ∙ get_or-flat_range f k (a + 1) n i j each (omega arith) within)

code_of_pixel : (order : Order) (depth packing : ℕ) (bytes : List ℕ) (c : ℕ) → c < 3 → get_or (pixel_codes order depth packing bytes) c 0 ≡ code_in_pixel order depth packing bytes c
unfolding pixel_codes
code_of_pixel order depth packing bytes zero below = refl
code_of_pixel order depth packing bytes (suc zero) below = refl
code_of_pixel order depth packing bytes (suc (suc zero)) below = refl
code_of_pixel order depth packing bytes (suc (suc (suc c))) below = absurd (omega arith)

code_of_line : (order : Order) (depth packing width : ℕ) (bytes : List ℕ) (x c : ℕ) → x < width → c < 3
    → get_or (line_codes order depth packing width bytes) (3 * x + c) 0 ≡ code_in_pixel order depth packing (drop (x * pixel_size depth) bytes) c
unfolding line_codes
code_of_line order depth packing width bytes x c within below =
    let f : ℕ → List ℕ = λ k. pixel_codes order depth packing (drop (k * pixel_size depth) bytes) in
    let e : 0 + x ≡ x = omega arith in
    get_or-flat_range f 3 0 width x c (λ k. length_pixel order depth packing (drop (k * pixel_size depth) bytes)) within below
    ∙ ap (λ (k : ℕ). get_or (f k) c 0) e ∙ code_of_pixel order depth packing (drop (x * pixel_size depth) bytes) c below

pub codes_stand_lem : CodesStand
unfolding codes_in_file
codes_stand_lem order l file y x c below within channel =
    let f : ℕ → List ℕ = λ k. line_codes order l.depth l.packing l.width (drop (line_start l k) file) in
    let e : 0 + y ≡ y = omega arith in
    get_or-flat_range f (3 * l.width) 0 l.height y (3 * x + c) (λ k. length_line order l.depth l.packing l.width (drop (line_start l k) file)) below (omega arith)
    ∙ ap (λ (k : ℕ). get_or (f k) (3 * x + c) 0) e ∙ code_of_line order l.depth l.packing l.width (drop (line_start l y) file) x c within channel
    ∙ ap (λ (b : List ℕ). code_in_pixel order l.depth l.packing b c) (drop-drop (x * pixel_size l.depth) (line_start l y) file)

pub in_place_lem : FieldsInPlace
unfolding header_rows
in_place_lem file_size width height depth = refl
