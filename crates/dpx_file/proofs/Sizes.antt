-- The sizes that are read, as a test and as facts.
use Rattle.std.proofs.Common.{◌≡◌, ℕ, Bool, true, false, ◌&&◌, refl}
use Rattle.std.proofs.lemmas.Bool.{leb-true, le-leb}
use Rattle.dpx_file.specs.Plain.{IsImageSize}
use Rattle.dpx_file.specs.Reading.{is_size}

both : (a b : Bool) → (a && b) ≡ true → (a ≡ true) × (b ≡ true)
both true b e = (refl, e)
both false b e = absurd cc

pub IsImageSize-from_test : (width height : ℕ) → is_size width height ≡ true → IsImageSize width height
unfolding is_size
IsImageSize-from_test width height e =
    let a = both _ _ e in
    let b = both _ _ a.0 in
    let c = both _ _ b.0 in
    let d = both _ _ c.0 in
    record {
      some_width = leb-true _ _ d.0;
      width_within = leb-true _ _ d.1;
      some_height = leb-true _ _ c.1;
      height_within = leb-true _ _ b.1;
      pixels_within = leb-true _ _ a.1;
    }

pub test-from_IsImageSize : (width height : ℕ) → IsImageSize width height → is_size width height ≡ true
unfolding is_size
test-from_IsImageSize width height s =
    rw (le-leb _ _ s.some_width, le-leb _ _ s.width_within, le-leb _ _ s.some_height, le-leb _ _ s.height_within, le-leb _ _ s.pixels_within) refl
