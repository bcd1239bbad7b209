-- The codes of an image, one line more.
use Rattle.std.proofs.Common.{◌≡◌, ℕ, ◌+◌, ◌-◌, ◌*◌, ◌<◌, ◌≤◌, List, [], ◌++◌, length, take, drop, refl, sym, ap, ◌∙◌, arith}
use Rattle.std.proofs.Math.Nat.{mul-add, add-mul, mul-one, one-mul, mul-le-mul_left, mul-le-mul_right}
use Rattle.std.specs.List.{flat_map, range_with_len}
use Rattle.std.proofs.lemmas.Slice.{take-put_mid}
use borrow.Rule.Slice.PartMut.{put_mid}
use Rattle.dpx_file.specs.Reading.{Order, Layout, line_codes, line_size, line_start, bytes_needed, codes_in_file}
use Rattle.dpx_file.proofs.Lists.{flat_range_next}

-- the codes of the lines below line y
unfoldable pub lines_below : Order → Layout → List ℕ → ℕ → List ℕ
lines_below order l file y =
    flat_map (λ k. line_codes order l.depth l.packing l.width (drop (line_start l k) file)) (range_with_len 0 y)

pub lines_all : (order : Order) (l : Layout) (file : List ℕ) → lines_below order l file l.height ≡ codes_in_file order l file
unfolding lines_below codes_in_file
lines_all order l file = refl

pub lines_none : (order : Order) (l : Layout) (file : List ℕ) → [] ≡ lines_below order l file 0
unfolding lines_below
lines_none order l file = refl

pub lines_next : (order : Order) (l : Layout) (file : List ℕ) (y : ℕ)
    → lines_below order l file (y + 1) ≡ lines_below order l file y ++ line_codes order l.depth l.packing l.width (drop (line_start l y) file)
unfolding lines_below
lines_next order l file y =
    let f : ℕ → List ℕ = λ k. line_codes order l.depth l.packing l.width (drop (line_start l k) file) in
    let e : 0 + y ≡ y = omega arith in
    flat_range_next f 0 y ∙ ap (λ (k : ℕ). flat_map f (range_with_len 0 y) ++ f k) e

-- a line of the image is written behind the lines before it
pub line_step : (order : Order) (l : Layout) (file out part : List ℕ) (codes y k : ℕ)
    → codes ≡ 3 * l.width → length out ≡ codes * l.height → y < l.height → length part ≡ codes
    → part ≡ line_codes order l.depth l.packing l.width (drop (line_start l y) file)
    → take (codes * y) out ≡ lines_below order l file y
    → take (codes * (y + 1)) (put_mid (codes * y) k out part) ≡ lines_below order l file (y + 1)
line_step order l file out part codes y k ec eo below ep e so_far =
    let at : codes * (y + 1) ≡ codes * y + codes = mul-add codes y 1 ∙ ap (λ (n : ℕ). codes * y + n) (mul-one codes) in
    let room : codes * y ≤ codes * l.height = mul-le-mul_left codes (omega arith) in
    let front : take (codes * (y + 1)) (put_mid (codes * y) k out part) ≡ take (codes * y) out ++ part = take-put_mid (codes * y) k out part (codes * (y + 1)) (omega arith) (omega arith) in
    front ∙ ap (λ (x : List ℕ). x ++ part) so_far ∙ ap (λ (x : List ℕ). lines_below order l file y ++ x) e ∙ sym (lines_next order l file y)

-- a line lies within the bytes that are needed
pub line_room : (l : Layout) (y : ℕ) → y < l.height → line_start l y + line_size l ≤ bytes_needed l
line_room l y below =
    let size = line_size l in
    let split = mul-add y size l.padding in
    let next = add-mul y 1 size in
    let one = one-mul size in
    let lines : (y + 1) * size ≤ l.height * size = mul-le-mul_right size (omega arith) in
    let gaps : y * l.padding ≤ (l.height - 1) * l.padding = mul-le-mul_right l.padding (omega arith) in
    omega arith
