-- Lines one after the other.
use Rattle.std.proofs.Common.{◌≡◌, ℕ, suc, zero, ◌+◌, ◌-◌, ◌*◌, ◌<◌, ◌≤◌, List, [], ◌∷◌, ◌++◌, length, take, drop, Result, Ok, Err, refl, ap, sym, ◌∙◌, subst, append_assoc, append-nil, arith}
use Rattle.std.proofs.lemmas.List.{length-append, length-take, length-drop, length-replicate, drop-drop, take_all}
use Rattle.std.proofs.Math.Seq.{take-append_seam}
use Rattle.std.proofs.Math.Nat.{mul-le-mul_left}
use Rattle.ctl_types.specs.Run.{Fault, Trapped}
use Rattle.dpx_file.specs.Plain.{PlainImage, blank, codes_of_line, replaced}
use Rattle.render_tree.specs.declared.pixel.Pixel.{Pixel}
use Rattle.render_tree.specs.RenderedImage.{ColumnFault, PixelFault, line_run, before_lines, line_then, lines_run}
use Rattle.render_tree.specs.PixelRun.{StageForm, pixel_run}
use Rattle.render_tree.specs.RenderedImage.{image_with, rendered}
use Rattle.render_tree.specs.Rendering.{Renders}
use Rattle.render_tree.specs.declared.fault.RenderFault.{RenderFault}
use Rattle.render_tree.specs.declared.fault.RenderFault.TheVariants as fault
use Rattle.render_tree.specs.Means.{PutsLine, behind_lines}

moved : (done line : List ℕ) (y : ℕ) (others : Result (List ℕ) PixelFault) → behind_lines done y (before_lines line others) ≡ behind_lines (done ++ line) (y + 1) others
moved done line y (Ok codes) = ap Ok (sym (append_assoc done line codes))
moved done line y (Err f) = let e : y + suc f.row ≡ y + 1 + f.row = omega arith in ap (λ (n : ℕ). Err (record { row = n; column = f.column; fault = f.fault })) e

-- one line more: n codes before it, and w in it
pub lines_more : (run : Pixel → Result Pixel Fault) (w k y n m : ℕ) (canvas line xs : List ℕ) (all : Result (List ℕ) PixelFault) → m ≡ n + w → m ≤ length canvas → length line ≡ w
    → line_run run (take w (drop n xs)) ≡ Ok line → behind_lines (take n canvas) y (lines_run run (suc k) w (drop n xs)) ≡ all
    → behind_lines (take m (replaced canvas n line)) (y + 1) (lines_run run k w (drop m xs)) ≡ all
unfolding replaced
lines_more run w k y n m canvas line xs all is fits count made so_far =
    let done : List ℕ = take n canvas ++ line in
    let many : length (take n canvas ++ line) ≡ m = simp (length-append, length-take) (omega arith) in
    let front : take m (take n canvas ++ line ++ drop (n + length line) canvas) ≡ take n canvas ++ line =
    ap (λ (j : ℕ). take j (done ++ drop (n + length line) canvas)) (sym many) ∙ take-append_seam done (drop (n + length line) canvas) in
    let rest : drop w (drop n xs) ≡ drop m xs = drop-drop w n xs ∙ ap (λ (j : ℕ). drop j xs) (sym is) in
    ap (λ ys. behind_lines ys (y + 1) (lines_run run k w (drop m xs))) front
    ∙ ap (λ ys. behind_lines done (y + 1) (lines_run run k w ys)) (sym rest)
    ∙ sym (moved (take n canvas) line y (lines_run run k w (drop w (drop n xs))))
    ∙ ap (λ r. behind_lines (take n canvas) y (line_then r (lines_run run k w (drop w (drop n xs))))) (sym made)
    ∙ so_far

-- a line with a pixel whose run faults
pub line_stops : (run : Pixel → Result Pixel Fault) (w k y n : ℕ) (done xs : List ℕ) (f : ColumnFault) (all : Result (List ℕ) PixelFault) → line_run run (take w (drop n xs)) ≡ Err f
    → behind_lines done y (lines_run run (suc k) w (drop n xs)) ≡ all → all ≡ Err (record { row = y; column = f.column; fault = f.fault })
line_stops run w k y n done xs f all is so_far =
    let e : y + 0 ≡ y = omega arith in
    sym so_far ∙ ap (λ r. behind_lines done y (line_then r (lines_run run k w (drop w (drop n xs))))) is
    ∙ ap (λ (n : ℕ). Err (record { row = n; column = f.column; fault = f.fault })) e

pub replaced-length : (xs line : List ℕ) (n : ℕ) → n + length line ≤ length xs → length (replaced xs n line) ≡ length xs
unfolding replaced
replaced-length xs line n h = simp (length-append, length-take, length-drop) (omega arith)

-- where a line ends
pub line_end : (width height y : ℕ) → y < height → 3 * width * y + 3 * width ≤ 3 * width * height
line_end width height y h =
    let f : (3 * width) * (y + 1) ≤ (3 * width) * height = mul-le-mul_left (3 * width) (omega arith) in
    omega (arith, f)

pub codes_of_line-length : (image : PlainImage) (y : ℕ) → length image.codes ≡ 3 * image.width * image.height → y < image.height → length (codes_of_line image y) ≡ 3 * image.width
codes_of_line-length image y count h =
    let f : 3 * image.width * y + 3 * image.width ≤ 3 * image.width * image.height = line_end image.width image.height y h in
    simp (length-take, length-drop) (omega (arith, f, count))

-- ---- the image

-- nothing is behind nothing
pub behind_none : (r : Result (List ℕ) PixelFault) → behind_lines [] 0 r ≡ r
behind_none (Ok codes) = refl
behind_none (Err f) = let e : 0 + f.row ≡ f.row = omega arith in ap (λ (n : ℕ). Err (record { row = n; column = f.column; fault = f.fault })) e

left : (h y : ℕ) → y < h → h - y ≡ suc (h - (y + 1))
left h y l = omega arith

-- the lines that are left, one of them first
pub lines_left : (run : Pixel → Result Pixel Fault) (w h y : ℕ) (done xs : List ℕ) (all : Result (List ℕ) PixelFault) → y < h → behind_lines done y (lines_run run (h - y) w xs) ≡ all → behind_lines done y (lines_run run (suc (h - (y + 1))) w xs) ≡ all
lines_left run w h y done xs all l so_far = ap (λ (k : ℕ). behind_lines done y (lines_run run k w xs)) (sym (left h y l)) ∙ so_far

-- a line stops the image
pub image_stops : (s : StageForm) (image old new : PlainImage) (y : ℕ) (done : List ℕ) (f : RenderFault) → y < image.height
    → behind_lines done y (lines_run (pixel_run image.depth image.depth s) (image.height - y) (3 * image.width) (drop (3 * image.width * y) image.codes)) ≡ lines_run (pixel_run image.depth image.depth s) image.height (3 * image.width) image.codes
    → PutsLine (Err f) old new y (line_run (pixel_run image.depth image.depth s) (codes_of_line image y)) → Renders (Err f) (rendered s image)
image_stops s image old new y done (fault.Trap row column kind node) l so_far h =
    let run : Pixel → Result Pixel Fault = pixel_run image.depth image.depth s in
    let e = line_stops run (3 * image.width) (image.height - (y + 1)) y (3 * image.width * y) done image.codes (record { column = column; fault = Trapped kind node }) _ h.1
    (lines_left run (3 * image.width) image.height y done (drop (3 * image.width * y) image.codes) _ l so_far) in
    ap (image_with image) e ∙ ap (λ (n : ℕ). Err (record { row = n; column = column; fault = Trapped kind node })) (sym h.0)
image_stops s image old new y done fault.Memory l so_far h = tt

-- all lines are put
pub image_done : (s : StageForm) (image canvas : PlainImage) (y : ℕ) → image.height ≤ y → canvas.width ≡ image.width → canvas.height ≡ image.height → canvas.depth ≡ image.depth → length canvas.codes ≡ 3 * image.width * image.height
    → behind_lines (take (3 * image.width * y) canvas.codes) y (lines_run (pixel_run image.depth image.depth s) (image.height - y) (3 * image.width) (drop (3 * image.width * y) image.codes)) ≡ lines_run (pixel_run image.depth image.depth s) image.height (3 * image.width) image.codes
    → rendered s image ≡ Ok canvas
image_done s image canvas y l ew eh ed count so_far =
    let run : Pixel → Result Pixel Fault = pixel_run image.depth image.depth s in
    let none : image.height - y ≡ 0 = omega arith in
    let far : (3 * image.width) * image.height ≤ (3 * image.width) * y = mul-le-mul_left (3 * image.width) l in
    let whole : take (3 * image.width * y) canvas.codes ≡ canvas.codes = take_all (3 * image.width * y) canvas.codes (omega (arith, far, count)) in
    let all : lines_run run image.height (3 * image.width) image.codes ≡ Ok canvas.codes =
    sym so_far ∙ ap (λ (k : ℕ). behind_lines (take (3 * image.width * y) canvas.codes) y (lines_run run k (3 * image.width) (drop (3 * image.width * y) image.codes))) none
    ∙ ap Ok (append-nil (take (3 * image.width * y) canvas.codes) ∙ whole) in
    ap (image_with image) all ∙ (λ i. Ok (record { width = sym ew i; height = sym eh i; depth = sym ed i; codes = canvas.codes }))

-- a line of the image as the code reads it
pub line_given : (s : StageForm) (image : PlainImage) (y depth : ℕ) (codes : List ℕ) (r : Result (List ℕ) ColumnFault) → depth ≡ image.depth → codes ≡ codes_of_line image y → line_run (pixel_run depth depth s) codes ≡ r
    → line_run (pixel_run image.depth image.depth s) (codes_of_line image y) ≡ r
line_given s image y depth codes r e f h =
    ap (λ (d : ℕ). line_run (pixel_run d d s) (codes_of_line image y)) (sym e) ∙ ap (λ (cs : List ℕ). line_run (pixel_run depth depth s) cs) (sym f) ∙ h

-- ---- before the first line

take_none : (xs : List ℕ) → take 0 xs ≡ []
take_none [] = refl
take_none (x ∷ xs) = refl

drop_none : (xs : List ℕ) → drop 0 xs ≡ xs
drop_none [] = refl
drop_none (x ∷ xs) = refl

pub lines_begin : (run : Pixel → Result Pixel Fault) (w h : ℕ) (canvas xs : List ℕ) → behind_lines (take (3 * w * 0) canvas) 0 (lines_run run (h - 0) (3 * w) (drop (3 * w * 0) xs)) ≡ lines_run run h (3 * w) xs
lines_begin run w h canvas xs =
    let none : 3 * w * 0 ≡ 0 = omega arith in
    let all : h - 0 ≡ h = omega arith in
    ap (λ (n : ℕ). behind_lines (take n canvas) 0 (lines_run run (h - 0) (3 * w) (drop n xs))) none
    ∙ ap (λ (k : ℕ). behind_lines (take 0 canvas) 0 (lines_run run k (3 * w) (drop 0 xs))) all
    ∙ ap (λ (ys : List ℕ). behind_lines ys 0 (lines_run run h (3 * w) (drop 0 xs))) (take_none canvas)
    ∙ ap (λ (ys : List ℕ). behind_lines [] 0 (lines_run run h (3 * w) ys)) (drop_none xs)
    ∙ behind_none (lines_run run h (3 * w) xs)

-- a blank canvas has all its codes
pub blank_count : (canvas image : PlainImage) (w h d : ℕ) → canvas ≡ blank w h d → w ≡ image.width → h ≡ image.height → length canvas.codes ≡ 3 * image.width * image.height
blank_count canvas image w h d e f g = ap (λ (p : PlainImage). length p.codes) e ∙ length-replicate (3 * w * h) 0 ∙ (λ i. 3 * f i * g i)
