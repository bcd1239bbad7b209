-- The written form: its header has 2048 bytes, it shows its image, and a part of it is written over.
use Rattle.std.proofs.Common.{◌≡◌, ℕ, zero, suc, ◌+◌, ◌-◌, ◌*◌, ◌^◌, ◌<◌, ◌≤◌, List, [], ◌∷◌, ◌++◌, length, take, drop, refl, sym, ap, ◌∙◌, append_assoc, length-append, arith}
use Rattle.std.specs.Prelude.{replicate}
use Rattle.std.specs.List.{flat_map}
use Rattle.std.proofs.Math.Nat.{mul_comm, mul_assoc, add-zero, mul-zero, mul-add, mul-one, zero-mul, mul-le-mul_left, le_refl}
use Rattle.std.proofs.lemmas.List.Elements.{All-drop, All-take, All-append, All-replicate}
use Rattle.std.proofs.lemmas.Nat.{pow_pos}
use Rattle.std.proofs.Math.Seq.{take-add}
use Rattle.std.proofs.lemmas.List.{append-nil, drop-drop, drop_at, take_at, take_all, take-append-drop, length-take-le, length-drop, length-replicate, drop_all}
use Rattle.byteorder.specs.Endian.{big_number}
use Rattle.byteorder.specs.Numbers.{length-bytes_high_first}
use Rattle.dpx_file.specs.Plain.{PlainImage, IsImage, IsImageSize, IsBitDepth, CodesFit, blank, codes_of_line, replaced, with_line}
use Rattle.dpx_file.specs.Fields.{header_size}
use Rattle.dpx_file.specs.Reading.{pixel_size, line_codes, line_start, codes_in_file}
use Rattle.dpx_file.specs.Writing.{Row, row_bytes, header_rows, header, pixels, dpx_writing}
use Rattle.dpx_file.specs.Canvas.{written_packing, written_layout, shown_codes, shown, IsWritten}
use Rattle.dpx_file.proofs.LineLemmas.{lines_below, lines_all, lines_none, lines_next}
use borrow.Rule.Slice.PartMut.{put_mid}
use Rattle.dpx_file.proofs.PixelLemmas.{pixels_from, line_back, pixels-append, length-pixels, pixels-zeros}

-- ---- the header

unfoldable pub sizes : List Row → ℕ
sizes [] = 0
sizes (r ∷ rows) = r.0.size + sizes rows

pub length-rows : (rows : List Row) → length (flat_map row_bytes rows) ≡ sizes rows
unfolding sizes
length-rows [] = refl
length-rows (r ∷ rows) =
    length-append (row_bytes r) (flat_map row_bytes rows) ∙ ap (λ (n : ℕ). n + length (flat_map row_bytes rows)) (length-bytes_high_first r.0.size r.1) ∙ ap (λ (n : ℕ). r.0.size + n) (length-rows rows)

sizes-header : (file_size width height depth : ℕ) → sizes (header_rows file_size width height depth) ≡ 2048
unfolding sizes header_rows
sizes-header file_size width height depth = refl

pub length-header : (file_size : ℕ) (image : PlainImage) → length (header file_size image) ≡ 2048
unfolding header
length-header file_size image =
    length-rows (header_rows file_size image.width image.height image.depth) ∙ sizes-header file_size image.width image.height image.depth

-- ---- the image that is shown

-- what stands from line y on, behind a header
from_line : (image : PlainImage) (head : List ℕ) → IsImage image → length head ≡ 2048 → (y : ℕ) → y ≤ image.height
    → drop (line_start (written_layout image.width image.height image.depth) y) (head ++ pixels image.depth image.codes)
    ≡ pixels image.depth (drop (3 * image.width * y) image.codes) ++ []
from_line image head is len y within =
    let w = image.width in
    let size = pixel_size image.depth in
    let body = pixels image.depth image.codes in
    let place : y * (w * size + 0) ≡ y * w * size = ap (λ (n : ℕ). y * n) (add-zero (w * size)) ∙ sym (mul_assoc y w size) in
    let three : 3 * (y * w) ≡ 3 * w * y = ap (λ (n : ℕ). 3 * n) (mul_comm y w) ∙ sym (mul_assoc 3 w y) in
    let room : 3 * w * y ≤ 3 * w * image.height = mul-le-mul_left (3 * w) within in
    let count = is.count in
    let moved : drop (2048 + y * w * size) (head ++ body) ≡ drop (y * w * size) (body ++ []) =
    sym (drop-drop (y * w * size) 2048 (head ++ body)) ∙ ap (λ (l : List ℕ). drop (y * w * size) l) (drop_at head body 2048 len ∙ sym (append-nil body)) in
    ap (λ (n : ℕ). drop (2048 + n) (head ++ body)) place ∙ moved ∙ pixels_from image.depth (y * w) image.codes [] is.depth (omega arith)
    ∙ ap (λ (n : ℕ). pixels image.depth (drop n image.codes) ++ []) three

-- the lines of what is written behind a header
lines_back : (image : PlainImage) (head : List ℕ) → IsImage image → length head ≡ 2048 → (y : ℕ) → y ≤ image.height
    → lines_below big_number (written_layout image.width image.height image.depth) (head ++ pixels image.depth image.codes) y ≡ take (3 * image.width * y) image.codes
lines_back image head is len zero within =
    rw mul-zero (sym (lines_none big_number (written_layout image.width image.height image.depth) (head ++ pixels image.depth image.codes)))
lines_back image head is len (suc y) within =
    let w = image.width in
    let l = written_layout w image.height image.depth in
    let file = head ++ pixels image.depth image.codes in
    let one : suc y ≡ y + 1 = omega arith in
    let ih = lines_back image head is len y (omega arith) in
    let rest = drop (3 * w * y) image.codes in
    let next : 3 * w * (y + 1) ≡ 3 * w * y + 3 * w = mul-add (3 * w) y 1 ∙ ap (λ (n : ℕ). 3 * w * y + n) (mul-one (3 * w)) in
    let all : 3 * w * (y + 1) ≤ 3 * w * image.height = mul-le-mul_left (3 * w) (omega arith) in
    let count = is.count in
    let rest_len = length-drop (3 * w * y) image.codes in
    let this : line_codes big_number image.depth (written_packing image.depth) w (drop (line_start l y) file) ≡ take (3 * w) rest =
    ap (line_codes big_number image.depth (written_packing image.depth) w) (from_line image head is len y (omega arith))
    ∙ line_back image.depth w rest [] is.depth (All-drop (λ c. c < 2 ^ image.depth) (3 * w * y) image.codes is.fit) (omega arith) in
    rw one (lines_next big_number l file y ∙ ap (λ (x : List ℕ). x ++ line_codes big_number image.depth (written_packing image.depth) w (drop (line_start l y) file)) ih
    ∙ ap (λ (x : List ℕ). take (3 * w * y) image.codes ++ x) this ∙ sym (take-add (3 * w * y) (3 * w) image.codes) ∙ ap (λ (n : ℕ). take n image.codes) (sym next))

pub codes_back : (image : PlainImage) (head : List ℕ) → IsImage image → length head ≡ 2048
    → codes_in_file big_number (written_layout image.width image.height image.depth) (head ++ pixels image.depth image.codes) ≡ image.codes
codes_back image head is len =
    let l = written_layout image.width image.height image.depth in
    sym (lines_all big_number l (head ++ pixels image.depth image.codes)) ∙ lines_back image head is len image.height (le_refl image.height)
    ∙ take_all (3 * image.width * image.height) image.codes (omega (arith, is.count))

pub shown_back : (image : PlainImage) → IsImage image → shown_codes image.width image.height image.depth (dpx_writing image) ≡ image.codes
unfolding shown_codes dpx_writing
shown_back image is =
    codes_back image (header (header_size + length (pixels image.depth image.codes)) image) is (length-header (header_size + length (pixels image.depth image.codes)) image)

-- how long the written form is
pub length-written : (image : PlainImage) → IsImage image → length (dpx_writing image) ≡ 2048 + image.height * (image.width * pixel_size image.depth)
unfolding dpx_writing
length-written image is =
    let body = pixels image.depth image.codes in
    let head = header (header_size + length body) image in
    let pixel_count : length image.codes ≡ 3 * (image.height * image.width) = is.count ∙ mul_assoc 3 image.width image.height ∙ ap (λ (n : ℕ). 3 * n) (mul_comm image.width image.height) in
    let size = length-pixels image.depth (image.height * image.width) image.codes is.depth pixel_count in
    length-append head body ∙ ap (λ (n : ℕ). n + length body) (length-header (header_size + length body) image)
    ∙ ap (λ (n : ℕ). 2048 + n) (size ∙ mul_assoc image.height image.width (pixel_size image.depth))

-- the written form of an image shows it
pub codes_shown : (image : PlainImage) (bytes : List ℕ) → IsImage image → bytes ≡ dpx_writing image → shown_codes image.width image.height image.depth bytes ≡ image.codes
codes_shown image bytes is e = ap (shown_codes image.width image.height image.depth) e ∙ shown_back image is

pub is_written : (image : PlainImage) (bytes : List ℕ) → IsImage image → bytes ≡ dpx_writing image → IsWritten image.width image.height image.depth bytes
is_written image bytes is e =
    let back = codes_shown image bytes is e in
    let whole : shown image.width image.height image.depth bytes ≡ image =
    ap (λ (cs : List ℕ). record { width = image.width; height = image.height; depth = image.depth; codes = cs }) back in
    record { image = rw whole is; form = e ∙ ap dpx_writing (sym whole); count = ap length e ∙ length-written image is }

-- ---- a part is written over

length-replaced : (xs ys : List ℕ) (i : ℕ) → i + length ys ≤ length xs → length (replaced xs i ys) ≡ length xs
unfolding replaced
length-replaced xs ys i room =
    let front = length-append (take i xs) ys in
    let all = length-append (take i xs ++ ys) (drop (i + length ys) xs) in
    let first = length-take-le i xs (omega arith) in
    let last = length-drop (i + length ys) xs in
    omega arith

-- an image with some codes replaced is an image
pub IsImage-replaced : (image : PlainImage) (i : ℕ) (ys : List ℕ) → IsImage image → CodesFit image.depth ys → i + length ys ≤ length image.codes
    → IsImage (record image { codes = replaced image.codes i ys })
unfolding replaced
IsImage-replaced image i ys is fit room =
    let P : ℕ → Type 0 = λ c. c < 2 ^ image.depth in
    record {
      size = is.size;
      depth = is.depth;
      count = length-replaced image.codes ys i room ∙ is.count;
      fit = All-append P (take i image.codes ++ ys) (drop (i + length ys) image.codes)
          (All-append P (take i image.codes) ys (All-take P i image.codes is.fit) fit) (All-drop P (i + length ys) image.codes is.fit);
    }

-- a list in three parts, with the middle written over
mid : (head front old back new : List ℕ) (a k : ℕ) → length head + length front ≡ a → length old ≡ k
    → put_mid a k (head ++ (front ++ (old ++ back))) new ≡ head ++ (front ++ (new ++ back))
mid head front old back new a k ea ek =
    let regroup : head ++ (front ++ (old ++ back)) ≡ (head ++ front) ++ (old ++ back) = sym (append_assoc head front (old ++ back)) in
    let len : length (head ++ front) ≡ a = length-append head front ∙ ea in
    let e : put_mid a k ((head ++ front) ++ (old ++ back)) new ≡ (head ++ front) ++ (new ++ back) =
    rw (take_at (head ++ front) (old ++ back) a len, drop_at (head ++ front) (old ++ back) a len, drop_at old back k ek) refl in
    rw regroup (e ∙ append_assoc head front (new ++ back))

-- codes of whole pixels are written over
pub put_codes : (image : PlainImage) (bytes ys part : List ℕ) (m n i a k : ℕ)
    → IsImage image → bytes ≡ dpx_writing image → i ≡ 3 * m → length ys ≡ 3 * n → i + length ys ≤ length image.codes
    → a ≡ 2048 + m * pixel_size image.depth → k ≡ n * pixel_size image.depth → part ≡ pixels image.depth ys
    → put_mid a k bytes part ≡ dpx_writing (record image { codes = replaced image.codes i ys })
unfolding dpx_writing header replaced
put_codes image bytes ys part m n i a k is e ei ey room ea ek ep =
    let d = image.depth in
    let cs = image.codes in
    let front = take i cs in
    let rest = drop i cs in
    let old = take (length ys) rest in
    let back = drop (i + length ys) cs in
    let body = pixels d cs in
    let new = pixels d (front ++ ys ++ back) in
    let head = header (header_size + length body) image in
    let rest_len = length-drop i cs in
    let front_len : length front ≡ 3 * m = length-take-le i cs (omega arith) ∙ ei in
    let old_len : length old ≡ 3 * n = length-take-le (length ys) rest (omega arith) ∙ ey in
    let both_len : length (front ++ ys) ≡ 3 * (m + n) = length-append front ys ∙ omega (arith, front_len, ey) in
    let split : cs ≡ front ++ (old ++ back) =
    sym (take-append-drop i cs) ∙ ap (λ (l : List ℕ). front ++ l) (sym (take-append-drop (length ys) rest) ∙ ap (λ (l : List ℕ). old ++ l) (drop-drop (length ys) i cs)) in
    let was : body ≡ pixels d front ++ (pixels d old ++ pixels d back) =
    ap (pixels d) split ∙ pixels-append d m front (old ++ back) is.depth front_len ∙ ap (λ (l : List ℕ). pixels d front ++ l) (pixels-append d n old back is.depth old_len) in
    let now : new ≡ pixels d front ++ (pixels d ys ++ pixels d back) =
    pixels-append d (m + n) (front ++ ys) back is.depth both_len ∙ ap (λ (l : List ℕ). l ++ pixels d back) (pixels-append d m front ys is.depth front_len)
    ∙ append_assoc (pixels d front) (pixels d ys) (pixels d back) in
    let old_size = length-pixels d n old is.depth old_len in
    let new_size = length-pixels d n ys is.depth ey in
    let front_size = length-pixels d m front is.depth front_len in
    let head_size = length-header (header_size + length body) image in
    let was_len = ap length was ∙ length-append (pixels d front) (pixels d old ++ pixels d back) ∙ ap (λ (x : ℕ). length (pixels d front) + x) (length-append (pixels d old) (pixels d back)) in
    let now_len = ap length now ∙ length-append (pixels d front) (pixels d ys ++ pixels d back) ∙ ap (λ (x : ℕ). length (pixels d front) + x) (length-append (pixels d ys) (pixels d back)) in
    let same : length body ≡ length new = omega (arith, was_len, now_len, old_size, new_size) in
    let whole : bytes ≡ head ++ (pixels d front ++ (pixels d old ++ pixels d back)) = e ∙ ap (λ (l : List ℕ). head ++ l) was in
    let put : put_mid a k (head ++ (pixels d front ++ (pixels d old ++ pixels d back))) part ≡ head ++ (pixels d front ++ (part ++ pixels d back)) =
    mid head (pixels d front) (pixels d old) (pixels d back) part a k (omega (arith, head_size, front_size, ea)) (old_size ∙ sym ek) in
    rw whole (put ∙ ap (λ (l : List ℕ). head ++ (pixels d front ++ (l ++ pixels d back))) ep ∙ ap (λ (l : List ℕ). head ++ l) (sym now)
    ∙ ap (λ (n : ℕ). header (header_size + n) image ++ new) same)

-- ---- what the calls do

pub IsImage-blank : (width height depth : ℕ) → IsImageSize width height → IsBitDepth depth → IsImage (blank width height depth)
IsImage-blank width height depth size is = record {
  size = size;
  depth = is;
  count = length-replicate (3 * width * height) 0;
  fit = All-replicate (λ c. c < 2 ^ depth) (3 * width * height) 0 (pow_pos depth);
}

-- a header and then zeros
pub blank_written : (width height depth size count : ℕ) (out new : List ℕ) → IsBitDepth depth → size ≡ 2048 + height * (width * pixel_size depth)
    → out ≡ flat_map row_bytes (header_rows size width height depth) → count ≡ length out → new ≡ take size out ++ replicate (size - count) 0
    → new ≡ dpx_writing (blank width height depth)
unfolding dpx_writing header
blank_written width height depth size count out new is es eo ec en =
    let image = blank width height depth in
    let pixel = pixel_size depth in
    let head_size = ap length eo ∙ length-rows (header_rows size width height depth) ∙ sizes-header size width height depth in
    let three : 3 * width * height ≡ 3 * (width * height) = mul_assoc 3 width height in
    let same : height * (width * pixel) ≡ width * height * pixel = sym (mul_assoc height width pixel) ∙ ap (λ (n : ℕ). n * pixel) (mul_comm height width) in
    let body : pixels depth image.codes ≡ replicate (width * height * pixel) 0 =
    ap (λ (n : ℕ). pixels depth (replicate n 0)) three ∙ pixels-zeros depth (width * height) is in
    let left : size - count ≡ width * height * pixel = omega (arith, head_size, ec, es, same) in
    let whole : size ≡ header_size + length (pixels depth image.codes) = es ∙ ap (λ (n : ℕ). 2048 + n) (same ∙ sym (ap length body ∙ length-replicate (width * height * pixel) 0)) in
    en ∙ ap (λ (l : List ℕ). l ++ replicate (size - count) 0) (take_all size out (omega (arith, head_size, es)) ∙ eo)
    ∙ ap (λ (n : ℕ). flat_map row_bytes (header_rows size width height depth) ++ replicate n 0) left
    ∙ ap (λ (l : List ℕ). flat_map row_bytes (header_rows size width height depth) ++ l) (sym body)
    ∙ ap (λ (n : ℕ). flat_map row_bytes (header_rows n width height depth) ++ pixels depth image.codes) whole

-- a line is written over
module _ (width height depth : ℕ) (bytes : List ℕ) (is : IsWritten width height depth bytes) (y : ℕ) (below : y < height) where
  abbrev line_image : PlainImage
  line_image = shown width height depth bytes

  line_within : 3 * width * y + 3 * width ≤ length line_image.codes
  line_within =
      let next : 3 * width * (y + 1) ≡ 3 * width * y + 3 * width = mul-add (3 * width) y 1 ∙ ap (λ (n : ℕ). 3 * width * y + n) (mul-one (3 * width)) in
      let all : 3 * width * (y + 1) ≤ 3 * width * height = mul-le-mul_left (3 * width) (omega arith) in
      omega (arith, is.image.count)

  pub line_put : (ys part : List ℕ) (a k : ℕ) → length ys ≡ 3 * width → CodesFit depth ys
      → a ≡ 2048 + y * (width * pixel_size depth) → k ≡ width * pixel_size depth → part ≡ pixels depth ys
      → put_mid a k bytes part ≡ dpx_writing (with_line line_image y ys)
  line_put ys part a k ey fit ea ek ep =
      let three : 3 * width * y ≡ 3 * (y * width) = mul_assoc 3 width y ∙ ap (λ (n : ℕ). 3 * n) (mul_comm width y) in
      let place : a ≡ 2048 + y * width * pixel_size depth = ea ∙ ap (λ (n : ℕ). 2048 + n) (sym (mul_assoc y width (pixel_size depth))) in
      let within = line_within in
      put_codes line_image bytes ys part (y * width) width (3 * width * y) a k is.image is.form three ey (omega arith) place ek ep

  pub line_put_image : (ys : List ℕ) → length ys ≡ 3 * width → CodesFit depth ys → IsImage (with_line line_image y ys)
  line_put_image ys ey fit = let within = line_within in IsImage-replaced line_image (3 * width * y) ys is.image fit (omega arith)

  pub line_read : (start packing : ℕ) → start ≡ 2048 + y * (width * pixel_size depth) → packing ≡ written_packing depth
      → line_codes big_number depth packing width (drop start bytes) ≡ codes_of_line line_image y
  unfolding dpx_writing
  line_read start packing es epk =
      let l = written_layout width height depth in
      let codes = line_image.codes in
      let head = header (header_size + length (pixels depth codes)) line_image in
      let at : line_start l y ≡ start = ap (λ (n : ℕ). 2048 + y * n) (add-zero (width * pixel_size depth)) ∙ sym es in
      let within = line_within in
      let rest_len = length-drop (3 * width * y) codes in
      let here : drop start bytes ≡ pixels depth (drop (3 * width * y) codes) ++ [] =
      ap (λ (n : ℕ). drop n bytes) (sym at) ∙ ap (λ (b : List ℕ). drop (line_start l y) b) is.form
      ∙ from_line line_image head is.image (length-header (header_size + length (pixels depth codes)) line_image) y (omega arith) in
      rw (epk, here) (line_back depth width (drop (3 * width * y) codes) [] is.image.depth (All-drop (λ c. c < 2 ^ depth) (3 * width * y) codes is.image.fit) (omega arith))

-- all codes are written over
pub all_put : (image : PlainImage) (bytes part : List ℕ) (k : ℕ) → IsImage image → bytes ≡ dpx_writing (blank image.width image.height image.depth)
    → k ≡ image.height * (image.width * pixel_size image.depth) → part ≡ pixels image.depth image.codes
    → put_mid 2048 k bytes part ≡ dpx_writing image
unfolding replaced
all_put image bytes part k is e ek ep =
    let w = image.width in
    let h = image.height in
    let d = image.depth in
    let zeros : List ℕ = replicate (3 * w * h) 0 in
    let three : 3 * w * h ≡ 3 * (w * h) = mul_assoc 3 w h in
    let count : length image.codes ≡ 3 * (w * h) = is.count ∙ three in
    let room = length-replicate {A = ℕ} (3 * w * h) 0 in
    let same : k ≡ w * h * pixel_size d = ek ∙ sym (mul_assoc h w (pixel_size d)) ∙ ap (λ (n : ℕ). n * pixel_size d) (mul_comm h w) in
    let rest : drop (0 + length image.codes) zeros ≡ [] = drop_all (0 + length image.codes) zeros (omega (arith, room, is.count)) in
    let whole : replaced zeros 0 image.codes ≡ image.codes = ap (λ (l : List ℕ). image.codes ++ l) rest ∙ append-nil image.codes in
    let start : 2048 ≡ 2048 + 0 * pixel_size d = ap (λ (n : ℕ). 2048 + n) (sym (zero-mul (pixel_size d))) in
    put_codes (blank w h d) bytes image.codes part 0 (w * h) 0 2048 k (IsImage-blank w h d is.size is.depth) e refl count (omega (arith, room, is.count)) start same ep
    ∙ ap (λ (cs : List ℕ). dpx_writing (record { width = w; height = h; depth = d; codes = cs })) whole

-- the bytes of a Vec after a part of it was written over
module _ (width height depth : ℕ) (bytes : List ℕ) (is : IsWritten width height depth bytes) (y : ℕ) (below : y < height) (ys part now : List ℕ) (a k : ℕ) (ey : length ys ≡ 3 * width) (fit : CodesFit depth ys) (ea : a ≡ 2048 + y * (width * pixel_size depth)) (ek : k ≡ width * pixel_size depth) (ep : part ≡ pixels depth ys) (now_is : length (put_mid a k bytes part) ≡ length bytes → now ≡ put_mid a k bytes part) where
  abbrev new_image : PlainImage
  new_image = with_line (shown width height depth bytes) y ys

  new_form : now ≡ dpx_writing new_image
  new_form =
      let put = line_put width height depth bytes is y below ys part a k ey fit ea ek ep in
      let image = line_put_image width height depth bytes is y below ys ey fit in
      now_is (ap length put ∙ length-written new_image image ∙ sym is.count) ∙ put

  pub new_written : IsWritten width height depth now
  new_written = is_written new_image now (line_put_image width height depth bytes is y below ys ey fit) new_form

  pub new_shown : shown width height depth now ≡ new_image
  new_shown =
      ap (λ (cs : List ℕ). record { width = width; height = height; depth = depth; codes = cs })
      (codes_shown new_image now (line_put_image width height depth bytes is y below ys ey fit) new_form)

-- the bytes of a Vec after all codes were written over
pub all_written : (image : PlainImage) (w h d : ℕ) (items slice part codes now : List ℕ) (len : ℕ) → IsImage image
    → w ≡ image.width → h ≡ image.height → d ≡ image.depth → codes ≡ image.codes → items ≡ dpx_writing (blank w h d) → slice ≡ items
    → length slice ≡ len → len ≡ 2048 + h * (w * pixel_size d) → part ≡ pixels d codes
    → (length (put_mid 2048 (length slice - 2048) slice part) ≡ len → now ≡ put_mid 2048 (length slice - 2048) slice part)
    → now ≡ dpx_writing image
all_written image w h d items slice part codes now len is ew eh ed ec ei es el en ep now_is =
    let k = length slice - 2048 in
    let size : len ≡ 2048 + image.height * (image.width * pixel_size image.depth) = rw (ew, eh, ed) at en in
    let ek : k ≡ image.height * (image.width * pixel_size image.depth) = omega arith in
    let old : slice ≡ dpx_writing (blank image.width image.height image.depth) = es ∙ rw (ew, eh, ed) at ei in
    let new : part ≡ pixels image.depth image.codes = rw (ed, ec) at ep in
    let put = all_put image slice part k is old ek new in
    now_is (ap length put ∙ length-written image is ∙ sym size) ∙ put
