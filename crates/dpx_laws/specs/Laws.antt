-- What holds of images that are read.
use Rattle.std.specs.Prelude.{◌≡◌, ℕ, ◌<◌, List, All, Ok}
use Rattle.dpx_file.specs.Plain.{PlainImage, IsImage}
use Rattle.dpx_file.specs.Reading.{dpx_reading}

-- they are bytes
abbrev pub AreBytes : List ℕ → Type 0
AreBytes = All (λ byte. byte < 256)

-- what bytes read as is an image
abbrev pub ReadImagesKeepRules : Type 0
ReadImagesKeepRules = (bytes : List ℕ) (image : PlainImage) → AreBytes bytes → dpx_reading bytes ≡ Ok image → IsImage image
