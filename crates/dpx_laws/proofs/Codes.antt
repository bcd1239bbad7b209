-- The codes of a file are as many as its pixels want, and fit its depth.
use Rattle.std.proofs.Common.{◌≡◌, ℕ, zero, suc, ◌+◌, ◌*◌, ◌/◌, ◌%◌, ◌^◌, ◌<◌, Bool, true, false, eqb, ◌||◌, List, [], ◌∷◌, length, get_or, drop, refl, sym, subst, ◌∙◌, arith, length-append}
use Rattle.std.specs.Prelude.{All}
use Rattle.std.specs.List.{flat_map, range_with_len}
use Rattle.std.proofs.Math.Nat.{mul_comm, zero-mul, suc-mul}
use Rattle.std.proofs.lemmas.Nat.{mod_below}
use Rattle.std.proofs.lemmas.Bool.{eqb-true}
use Rattle.std.proofs.lemmas.List.{get_or-drop}
use Rattle.std.proofs.lemmas.List.Elements.{All-append, All-cons, All-nil}
use Rattle.dpx_file.specs.Plain.{IsBitDepth, CodesFit}
use Rattle.dpx_file.specs.Reading.{Order, Layout, lowest_bit, pixel_size, pixel_codes, line_codes, line_start, codes_in_file}

-- ---- lists that are made piece by piece

-- what holds in each piece holds in all
All-flat_map : {A B : Type 0} (P : B → Type 0) (f : A → List B) → ((x : A) → All P (f x)) → (xs : List A) → All P (flat_map f xs)
All-flat_map P f each [] = All-nil P
All-flat_map P f each (x ∷ xs) = All-append P (f x) (flat_map f xs) (each x) (All-flat_map P f each xs)

-- pieces of one length
length_flat_range : {A : Type 0} (f : ℕ → List A) (k a n : ℕ) → ((x : ℕ) → length (f x) ≡ k) → length (flat_map f (range_with_len a n)) ≡ n * k
length_flat_range f k a zero each = sym (zero-mul k)
length_flat_range f k a (suc n) each =
    let one = length-append (f a) (flat_map f (range_with_len (a + 1) n)) in
    let ih = length_flat_range f k (a + 1) n each in
    let here = each a in
    let e = suc-mul n k in
    omega arith

-- ---- the codes are as many as the pixels want

length_pixel : (order : Order) (depth packing : ℕ) (bytes : List ℕ) → length (pixel_codes order depth packing bytes) ≡ 3
unfolding pixel_codes
length_pixel order depth packing bytes = refl

length_line : (order : Order) (depth packing width : ℕ) (bytes : List ℕ) → length (line_codes order depth packing width bytes) ≡ 3 * width
unfolding line_codes
length_line order depth packing width bytes =
    length_flat_range (λ x. pixel_codes order depth packing (drop (x * pixel_size depth) bytes)) 3 0 width (λ x. length_pixel order depth packing (drop (x * pixel_size depth) bytes)) ∙ mul_comm width 3

pub length_codes : (order : Order) (l : Layout) (file : List ℕ) → length (codes_in_file order l file) ≡ 3 * l.width * l.height
unfolding codes_in_file
length_codes order l file =
    length_flat_range (λ y. line_codes order l.depth l.packing l.width (drop (line_start l y) file)) (3 * l.width) 0 l.height (λ y. length_line order l.depth l.packing l.width (drop (line_start l y) file))
    ∙ mul_comm l.height (3 * l.width)

-- ---- the codes fit

abbrev pub AllBytes : List ℕ → Type 0
AllBytes bytes = (i : ℕ) → get_or bytes i 0 < 256

-- a number of two bytes is below 2^16
abbrev pub FitsTwo : Order → Type 0
FitsTwo order = (bytes : List ℕ) → AllBytes bytes → order 2 bytes < 2 ^ 16

AllBytes-drop : (n : ℕ) (bytes : List ℕ) → AllBytes bytes → AllBytes (drop n bytes)
AllBytes-drop n bytes h i = rw get_or-drop (h (n + i))

-- the two depths
depth_cases : (P : ℕ → Type 0) (depth : ℕ) → IsBitDepth depth → P 10 → P 16 → P depth
depth_cases P depth is ten sixteen = by_test (eqb depth 10) (eqb depth 16) refl refl is
  where
    by_test : (a b : Bool) → eqb depth 10 ≡ a → eqb depth 16 ≡ b → (a || b) ≡ true → P depth
    by_test true b ea eb e = subst P (sym (eqb-true depth 10 ea)) ten
    by_test false true ea eb e = subst P (sym (eqb-true depth 16 eb)) sixteen
    by_test false false ea eb e = absurd cc

module _ (order : Order) (packing : ℕ) where
  ten_pixel : (bytes : List ℕ) → CodesFit 10 (pixel_codes order 10 packing bytes)
  unfolding pixel_codes
  ten_pixel bytes =
      let v : ℕ → ℕ = λ c. order 4 bytes / 2 ^ lowest_bit packing c in
      let m : (n : ℕ) → n % 2 ^ 10 < 2 ^ 10 = λ n. mod_below n (2 ^ 10) (omega arith) in
      let P : ℕ → Type 0 = λ c. c < 2 ^ 10 in
      All-cons P (v 0 % 2 ^ 10) (v 1 % 2 ^ 10 ∷ v 2 % 2 ^ 10 ∷ []) (m (v 0)) (All-cons P (v 1 % 2 ^ 10) (v 2 % 2 ^ 10 ∷ []) (m (v 1)) (All-cons P (v 2 % 2 ^ 10) [] (m (v 2)) (All-nil P)))

  sixteen_pixel : FitsTwo order → (bytes : List ℕ) → AllBytes bytes → CodesFit 16 (pixel_codes order 16 packing bytes)
  unfolding pixel_codes
  sixteen_pixel fits bytes are =
      let v : ℕ → ℕ = λ c. order 2 (drop (2 * c) bytes) in
      let m : (c : ℕ) → v c < 2 ^ 16 = λ c. fits (drop (2 * c) bytes) (AllBytes-drop (2 * c) bytes are) in
      let P : ℕ → Type 0 = λ c. c < 2 ^ 16 in
      All-cons P (v 0) (v 1 ∷ v 2 ∷ []) (m 0) (All-cons P (v 1) (v 2 ∷ []) (m 1) (All-cons P (v 2) [] (m 2) (All-nil P)))

  pixel_fits : (depth : ℕ) → IsBitDepth depth → FitsTwo order → (bytes : List ℕ) → AllBytes bytes → CodesFit depth (pixel_codes order depth packing bytes)
  pixel_fits depth is fits bytes are =
      depth_cases (λ d. CodesFit d (pixel_codes order d packing bytes)) depth is (ten_pixel bytes) (sixteen_pixel fits bytes are)

  line_fits : (depth width : ℕ) → IsBitDepth depth → FitsTwo order → (bytes : List ℕ) → AllBytes bytes → CodesFit depth (line_codes order depth packing width bytes)
  unfolding line_codes
  line_fits depth width is fits bytes are =
      All-flat_map (λ c. c < 2 ^ depth) (λ x. pixel_codes order depth packing (drop (x * pixel_size depth) bytes))
      (λ x. pixel_fits depth is fits (drop (x * pixel_size depth) bytes) (AllBytes-drop (x * pixel_size depth) bytes are)) (range_with_len 0 width)

pub codes_fit : (order : Order) (l : Layout) (file : List ℕ) → IsBitDepth l.depth → FitsTwo order → AllBytes file → CodesFit l.depth (codes_in_file order l file)
unfolding codes_in_file
codes_fit order l file is fits are =
    All-flat_map (λ c. c < 2 ^ l.depth) (λ y. line_codes order l.depth l.packing l.width (drop (line_start l y) file))
    (λ y. line_fits order l.packing l.depth l.width is fits (drop (line_start l y) file) (AllBytes-drop (line_start l y) file are)) (range_with_len 0 l.height)
