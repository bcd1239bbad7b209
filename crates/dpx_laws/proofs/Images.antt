-- What bytes read as is an image.
use Rattle.std.proofs.Common.{◌≡◌, ℕ, zero, suc, ◌<◌, ◌==◌, Bool, true, false, ◌&&◌, ◌||◌, if◌then◌else◌, List, [], ◌∷◌, length, All, Result, Ok, Err, nat_le, refl, subst, arith}
use Rattle.std.specs.Prelude.{codes, nat_eq}
use Rattle.std.specs.List.{starts_with}
use Rattle.std.proofs.lemmas.Bool.{leb-true}
use Rattle.std.proofs.lemmas.List.Elements.{All-head, All-tail}
use Rattle.byteorder.specs.Endian.{big_number, little_number}
use Rattle.ctl_base.specs.Answers.{◌>>=◌, ◌>>◌}
use Rattle.dpx_file.specs.Plain.{PlainImage, IsImageSize, IsBitDepth, IsImage}
use Rattle.dpx_file.specs.Fields.{header_size}
use Rattle.dpx_file.specs.Reading.{unless, Order, Header, header_of, Layout, bytes_needed, is_unset, is_size, is_packing, start_of_pixels, padding_of, byte_order, layout_of, image_in_file, reading_in, dpx_reading}
use Rattle.dpx_file.specs.declared.fault.DpxFault.{DpxFault}
use Rattle.dpx_file.specs.declared.fault.DpxFault.TheVariants.{NotDpx, Truncated, Encrypted, Orientation, Elements, Size, Sign, Descriptor, Depth, Packing, Compressed}
use Rattle.dpx_laws.specs.Laws.{AreBytes, ReadImagesKeepRules}
use Rattle.dpx_laws.proofs.Codes.{AllBytes, FitsTwo, length_codes, codes_fit}

-- ---- what is read is good

abbrev Good : {A E : Type 0} → (A → Type 0) → Result A E → Type 0
Good P (Ok a) = P a
Good P (Err e) = Unit {0}

good_then : {A B E : Type 0} (P : A → Type 0) (Q : B → Type 0) (v : Result A E) (f : A → Result B E) → Good P v → ((a : A) → P a → Good Q (f a)) → Good Q (v >>= f)
good_then P Q (Ok a) f g k = k a g
good_then P Q (Err e) f g k = tt

good_of : {A E : Type 0} (P : A → Type 0) (v : Result A E) → Good P v → (a : A) → v ≡ Ok a → P a
good_of {A = A} {E = E} P v g a e = subst (λ (v : Result A E). Good P v) e g

-- after a test
good_unless : {A : Type 0} (P : A → Type 0) (b : Bool) (fault : DpxFault) (v : Result A DpxFault) → (b ≡ true → Good P v) → Good P (unless b fault >> v)
good_unless P true fault v k = k refl
good_unless P false fault v k = tt

-- ---- sizes

both : (a b : Bool) → (a && b) ≡ true → (a ≡ true) × (b ≡ true)
both true b e = (refl, e)
both false b e = absurd cc

size_stands : (width height : ℕ) → is_size width height ≡ true → IsImageSize width height
unfolding is_size
size_stands width height e =
    let a = both _ _ e in
    let b = both _ _ a.0 in
    let c = both _ _ b.0 in
    let d = both _ _ c.0 in
    record {
      some_width = leb-true _ _ d.0;
      width_within = leb-true _ _ d.1;
      some_height = leb-true _ _ c.1;
      height_within = leb-true _ _ b.1;
      pixels_within = leb-true _ _ a.1;
    }

-- ---- layouts

record LayoutStands (l : Layout) : Type 0 where
  size : IsImageSize l.width l.height
  depth : IsBitDepth l.depth

-- the layout of a header that breaks no rule
abbrev layout_in : Header → Layout
layout_in h = record {
  width = h.pixels_per_line;
  height = h.lines_per_image_element;
  depth = h.bit_size;
  packing = h.packing;
  offset = start_of_pixels h.offset_to_data h.offset_to_image_data;
  padding = padding_of h.end_of_line_padding;
}

layout_good : (h : Header) → Good LayoutStands (layout_of h)
unfolding layout_of
layout_good h =
    let end : Result Layout DpxFault = Ok (layout_in h) in
    let after_packing : Result Layout DpxFault = unless (is_unset 2 h.encoding) (Compressed h.encoding) >> end in
    let after_depth : Result Layout DpxFault = unless (is_packing h.bit_size h.packing) (Packing h.packing) >> after_packing in
    let after_descriptor : Result Layout DpxFault = unless (h.bit_size == 10 || h.bit_size == 16) (Depth h.bit_size) >> after_depth in
    let after_sign : Result Layout DpxFault = unless (h.descriptor == 50) (Descriptor h.descriptor) >> after_descriptor in
    let after_size : Result Layout DpxFault = unless (is_unset 4 h.data_sign) (Sign h.data_sign) >> after_sign in
    let after_elements : Result Layout DpxFault = unless (is_size h.pixels_per_line h.lines_per_image_element) (Size h.pixels_per_line h.lines_per_image_element) >> after_size in
    let after_orientation : Result Layout DpxFault = unless (h.number_of_image_elements == 1) (Elements h.number_of_image_elements) >> after_elements in
    let after_encrypted : Result Layout DpxFault = unless (is_unset 2 h.image_orientation) (Orientation h.image_orientation) >> after_orientation in
    good_unless LayoutStands (is_unset 4 h.encryption_key) Encrypted after_encrypted
    (λ encrypted. good_unless LayoutStands (is_unset 2 h.image_orientation) (Orientation h.image_orientation) after_orientation
    (λ orientation. good_unless LayoutStands (h.number_of_image_elements == 1) (Elements h.number_of_image_elements) after_elements
    (λ elements. good_unless LayoutStands (is_size h.pixels_per_line h.lines_per_image_element) (Size h.pixels_per_line h.lines_per_image_element) after_size
    (λ size. good_unless LayoutStands (is_unset 4 h.data_sign) (Sign h.data_sign) after_sign
    (λ sign. good_unless LayoutStands (h.descriptor == 50) (Descriptor h.descriptor) after_descriptor
    (λ descriptor. good_unless LayoutStands (h.bit_size == 10 || h.bit_size == 16) (Depth h.bit_size) after_depth
    (λ depth. good_unless LayoutStands (is_packing h.bit_size h.packing) (Packing h.packing) after_packing
    (λ packing. good_unless LayoutStands (is_unset 2 h.encoding) (Compressed h.encoding) end
    (λ encoding. record { size = size_stands h.pixels_per_line h.lines_per_image_element size; depth = depth })))))))))

-- ---- images

-- each is a byte, also where none is
all_bytes : (bytes : List ℕ) → AreBytes bytes → AllBytes bytes
all_bytes [] h i = omega arith
all_bytes (b ∷ bytes) h zero = All-head (λ byte. byte < 256) b bytes h
all_bytes (b ∷ bytes) h (suc i) = all_bytes bytes (All-tail (λ byte. byte < 256) b bytes h) i

image_stands : (order : Order) (l : Layout) (bytes : List ℕ) → FitsTwo order → AreBytes bytes → LayoutStands l → IsImage (image_in_file order l bytes)
image_stands order l bytes fits are h = record {
  size = h.size;
  depth = h.depth;
  count = length_codes order l bytes;
  fit = codes_fit order l bytes h.depth fits (all_bytes bytes are);
}

reading_good : (order : Order) (bytes : List ℕ) → FitsTwo order → AreBytes bytes → Good IsImage (reading_in order bytes)
unfolding reading_in
reading_good order bytes fits are =
    let whole : Layout → Result PlainImage DpxFault = λ l. unless (nat_le (bytes_needed l) (length bytes)) (Truncated (bytes_needed l) (length bytes)) >> Ok (image_in_file order l bytes) in
    good_unless IsImage (nat_le header_size (length bytes)) (Truncated header_size (length bytes)) (layout_of (header_of order bytes) >>= whole)
    (λ long. good_then LayoutStands IsImage (layout_of (header_of order bytes)) whole (layout_good (header_of order bytes))
    (λ l h. good_unless IsImage (nat_le (bytes_needed l) (length bytes)) (Truncated (bytes_needed l) (length bytes)) (Ok (image_in_file order l bytes)) (λ enough. image_stands order l bytes fits are h)))

-- ---- byte orders

big_fits : FitsTwo big_number
big_fits bytes h = let a = h 0 in let b = h 1 in omega arith

little_fits : FitsTwo little_number
little_fits bytes h = let a = h 0 in let b = h 1 in omega arith

order_good : (bytes : List ℕ) → Good FitsTwo (byte_order bytes)
order_good bytes = by (starts_with nat_eq bytes (codes "SDPX")) (starts_with nat_eq bytes (codes "XPDS")) where
  by : (a b : Bool) → Good FitsTwo (if a then Ok big_number else (if b then Ok little_number else Err NotDpx))
  by true b = big_fits
  by false true = little_fits
  by false false = tt

pub images_keep_rules : ReadImagesKeepRules
unfolding dpx_reading
images_keep_rules bytes image are e =
    good_of IsImage (byte_order bytes >>= (λ order. reading_in order bytes)) (good_then FitsTwo IsImage (byte_order bytes) (λ order. reading_in order bytes) (order_good bytes) (λ order fits. reading_good order bytes fits are)) image e
