-- The arguments of a Library that fits its row fit the call.
use Rattle.std.proofs.Common.{◌≡◌, ℕ, zero, suc, ◌*◌, List, [], ◌∷◌, length, sum_by, Bool, true, false, not, ◌||◌, cond, if◌then◌else◌, refl, ap, ◌∙◌, arith}
use Rattle.std.specs.List.{filter, list_all}
use Rattle.std.proofs.lemmas.Bool.{and_parts}
use Rattle.std.proofs.lemmas.List.{length-append}
use Rattle.std.proofs.lemmas.List.Sums.{sum_by-cons}
use Rattle.ctl_stdlib.specs.declared.row.LibraryId.{LibraryId}
use Rattle.ctl_stdlib.specs.declared.row.LibraryId.TheVariants as id
use Rattle.ctl_stdlib.specs.declared.row.Param.{Param}
use Rattle.ctl_stdlib.specs.Rows.{row}
use Rattle.ctl_stdlib.specs.Shapes.{Fits, is_table, stated_words, elements, table_words, input_words, filled_words}
use Rattle.lane_code.specs.declared.instr.Slot.{Slot}
use Rattle.lane_code.specs.Slots.{Words, words_from, shifted}
use Rattle.lane_code.specs.Instructions.{inputs, given, table_of, rest_of}
use Rattle.lane_code.specs.Valid.{fits_row}
use Rattle.lane_code.proofs.Blocks.{library_fits}

from_length : (ws : Words) (s : Slot) (n : ℕ) → length (words_from ws s n) ≡ n
from_length ws s zero = refl
from_length ws s (suc n) = ap suc (from_length ws (shifted s 1) n)

given_length : (ws : Words) (count : Param → ℕ) (params : List Param) (slots : List Slot) → length slots ≡ length params → length (given ws count params slots) ≡ sum_by count params
given_length ws count [] slots h = refl
given_length ws count (p ∷ params) [] h = absurd (omega arith)
given_length ws count (p ∷ params) (s ∷ slots) h =
    let a = length-append (words_from ws s (count p)) (given ws count params slots) in
    let b = from_length ws s (count p) in
    let d = given_length ws count params slots (omega arith) in
    let e = sum_by-cons count p params in
    omega arith

-- ---- outputs have no words among the inputs

kept : (f : Param → ℕ) (p : Param) (left params : List Param) (b : Bool) → (b ≡ true → f p ≡ 0) → sum_by f left ≡ sum_by f params → sum_by f (cond (not b) (p ∷ left) left) ≡ sum_by f (p ∷ params)
kept f p left params true h e = let z = h refl in let s = sum_by-cons f p params in omega arith
kept f p left params false h e = let s = sum_by-cons f p params in let t = sum_by-cons f p left in omega arith

input_none : (p : Param) → p.is_output ≡ true → input_words p ≡ 0
input_none p e = ap (λ (b : Bool). if b then 0 else (if is_table p.shape then 0 else stated_words p.shape)) e

table_none : (sizes : List ℕ) (p : Param) → is_table p.shape ≡ false → table_words sizes p ≡ 0
table_none sizes p e = ap (λ (b : Bool). if b then elements sizes * stated_words p.shape else 0) e

inputs_sum : (params : List Param) → sum_by input_words (filter (λ p. not p.is_output) params) ≡ sum_by input_words params
inputs_sum [] = refl
inputs_sum (p ∷ params) = kept input_words p (filter (λ p. not p.is_output) params) params p.is_output (input_none p) (inputs_sum params)

-- no output is a table
abbrev plain_outputs : List Param → Bool
plain_outputs params = list_all (λ p. not p.is_output || not (is_table p.shape)) params

no_table : (a b : Bool) → (not a || not b) ≡ true → a ≡ true → b ≡ false
no_table a true h e = absurd (cc)
no_table a false h e = refl

tables_sum : (sizes : List ℕ) (params : List Param) → plain_outputs params ≡ true → sum_by (table_words sizes) (filter (λ p. not p.is_output) params) ≡ sum_by (table_words sizes) params
tables_sum sizes [] h = refl
tables_sum sizes (p ∷ params) h =
    let q = and_parts (not p.is_output || not (is_table p.shape)) (plain_outputs params) h in
    kept (table_words sizes) p (filter (λ p. not p.is_output) params) params p.is_output (λ e. table_none sizes p (no_table _ _ q.0 e)) (tables_sum sizes params q.1)

rows_plain : (i : LibraryId) → plain_outputs (row i).params ≡ true
rows_plain id.Exp = refl
rows_plain id.Log = refl
rows_plain id.Log10 = refl
rows_plain id.Pow10 = refl
rows_plain id.Sqrt = refl
rows_plain id.Fabs = refl
rows_plain id.Floor = refl
rows_plain id.Sin = refl
rows_plain id.Cos = refl
rows_plain id.Tan = refl
rows_plain id.Asin = refl
rows_plain id.Acos = refl
rows_plain id.Atan = refl
rows_plain id.Pow = refl
rows_plain id.Fmod = refl
rows_plain id.Hypot = refl
rows_plain id.Atan2 = refl
rows_plain id.ExpH = refl
rows_plain id.LogH = refl
rows_plain id.Log10H = refl
rows_plain id.Pow10H = refl
rows_plain id.PowH = refl
rows_plain id.AddF3F3 = refl
rows_plain id.SubtractF3F3 = refl
rows_plain id.MultFF3 = refl
rows_plain id.DotF3F3 = refl
rows_plain id.CrossF3F3 = refl
rows_plain id.LengthF3 = refl
rows_plain id.MultF3F33 = refl
rows_plain id.MultF3F44 = refl
rows_plain id.MultF33F33 = refl
rows_plain id.MultF44F44 = refl
rows_plain id.MultFF33 = refl
rows_plain id.MultFF44 = refl
rows_plain id.AddF33F33 = refl
rows_plain id.AddF44F44 = refl
rows_plain id.TransposeF33 = refl
rows_plain id.TransposeF44 = refl
rows_plain id.InvertF33 = refl
rows_plain id.InvertF44 = refl
rows_plain id.Lookup1D = refl
rows_plain id.LookupCubic1D = refl
rows_plain id.Interpolate1D = refl
rows_plain id.InterpolateCubic1D = refl
rows_plain id.Lookup3DF3 = refl
rows_plain id.Lookup3DF = refl
rows_plain id.RgbToXyz = refl
rows_plain id.XyzToRgb = refl
rows_plain id.Assert = refl

pub row_fits : (ws : Words) (i : LibraryId) (sizes : List ℕ) (args : List Slot) → fits_row (row i) sizes args ≡ true → Fits (row i) sizes (table_of ws (row i) sizes args) (rest_of ws (row i) args) (filled_words (row i))
row_fits ws i sizes args h =
    let f = library_fits i sizes args h in
    let t = given_length ws (table_words sizes) (inputs (row i)) args f.arguments in
    let r = given_length ws input_words (inputs (row i)) args f.arguments in
    record {
      counted = f.counted;
      some = λ k d q. (f.sizes_stand k d q).0;
      most = λ m k d q. (f.sizes_stand k d q).1;
      whole = t ∙ tables_sum sizes (row i).params (rows_plain i);
      few = let e = t ∙ tables_sum sizes (row i).params (rows_plain i) in let g = f.table in omega arith;
      given = r ∙ inputs_sum (row i).params;
      free = refl;
    }
