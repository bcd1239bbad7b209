-- Pixels one after the other.
use Rattle.std.proofs.Common.{◌≡◌, ℕ, suc, zero, ◌+◌, ◌-◌, ◌*◌, ◌^◌, ◌<◌, ◌≤◌, List, [], ◌∷◌, ◌++◌, length, take, drop, get_or, Result, Ok, Err, refl, ap, sym, ◌∙◌, subst, append_assoc, append-nil, arith}
use Rattle.std.proofs.lemmas.List.{take_rest, length-append}
use Rattle.std.proofs.lemmas.List.Elements.{All-cons, All-append}
use Rattle.dpx_file.specs.Plain.{CodesFit}
use Rattle.ctl_types.specs.Run.{Fault}
use Rattle.render_tree.specs.declared.pixel.Pixel.{Pixel}
use Rattle.render_tree.specs.RenderedImage.{ColumnFault, codes_of, before_pixels, pixel_then, line_run}
use Rattle.render_tree.specs.Means.{PixelFits, behind_pixels}

-- the pixel whose codes begin a list
abbrev pub front_pixel : List ℕ → Pixel
front_pixel codes = record { red = get_or codes 0 0; green = get_or codes 1 0; blue = get_or codes 2 0 }

run_next : (run : Pixel → Result Pixel Fault) (rest : List ℕ) → 3 ≤ length rest → line_run run rest ≡ pixel_then (run (front_pixel rest)) (line_run run (drop 3 rest))
run_next run [] h = absurd (omega arith)
run_next run (a ∷ []) h = absurd (omega arith)
run_next run (a ∷ b ∷ []) h = absurd (omega arith)
run_next run (a ∷ b ∷ c ∷ rest) h = refl

run_end : (run : Pixel → Result Pixel Fault) (rest : List ℕ) → length rest < 3 → line_run run rest ≡ Ok []
run_end run [] h = refl
run_end run (a ∷ []) h = refl
run_end run (a ∷ b ∷ []) h = refl
run_end run (a ∷ b ∷ c ∷ rest) h = absurd (omega arith)

moved : (done : List ℕ) (x : ℕ) (p : Pixel) (others : Result (List ℕ) ColumnFault) → behind_pixels done x (before_pixels p others) ≡ behind_pixels (done ++ codes_of p) (x + 1) others
moved done x p (Ok codes) = ap Ok (sym (append_assoc done (codes_of p) codes))
moved done x p (Err f) = let e : x + suc f.column ≡ x + 1 + f.column = omega arith in ap (λ (n : ℕ). Err (record { column = n; fault = f.fault })) e

-- nothing is behind nothing
pub behind_none : (r : Result (List ℕ) ColumnFault) → behind_pixels [] 0 r ≡ r
behind_none (Ok codes) = refl
behind_none (Err f) = let e : 0 + f.column ≡ f.column = omega arith in ap (λ (n : ℕ). Err (record { column = n; fault = f.fault })) e

pub none_fit : (depth : ℕ) → CodesFit depth []
none_fit depth = λ k d l. absurd (omega arith)

-- one pixel more on a line
pub pixel_more : (run : Pixel → Result Pixel Fault) (done done' : List ℕ) (x : ℕ) (rest : List ℕ) (p : Pixel) (all : Result (List ℕ) ColumnFault) → 3 ≤ length rest → run (front_pixel rest) ≡ Ok p → done' ≡ done ++ codes_of p
    → behind_pixels done x (line_run run rest) ≡ all → behind_pixels done' (x + 1) (line_run run (take (length rest - 3) (drop 3 rest))) ≡ all
pixel_more run done done' x rest p all h is more so_far =
    ap (λ ys. behind_pixels done' (x + 1) (line_run run ys)) (take_rest rest 3)
    ∙ ap (λ ys. behind_pixels ys (x + 1) (line_run run (drop 3 rest))) more
    ∙ sym (moved done x p (line_run run (drop 3 rest)))
    ∙ ap (λ r. behind_pixels done x (pixel_then r (line_run run (drop 3 rest)))) (sym is)
    ∙ ap (behind_pixels done x) (sym (run_next run rest h))
    ∙ so_far

-- a pixel whose run faults
pub pixel_stops : (run : Pixel → Result Pixel Fault) (done : List ℕ) (x : ℕ) (rest : List ℕ) (fault : Fault) (all : Result (List ℕ) ColumnFault) → 3 ≤ length rest → run (front_pixel rest) ≡ Err fault
    → behind_pixels done x (line_run run rest) ≡ all → all ≡ Err (record { column = x; fault = fault })
pixel_stops run done x rest fault all h is so_far =
    let e : x + 0 ≡ x = omega arith in
    sym so_far ∙ ap (behind_pixels done x) (run_next run rest h) ∙ ap (λ r. behind_pixels done x (pixel_then r (line_run run (drop 3 rest)))) is
    ∙ ap (λ (n : ℕ). Err (record { column = n; fault = fault })) e

-- no pixel more
pub pixels_done : (run : Pixel → Result Pixel Fault) (done : List ℕ) (x : ℕ) (rest : List ℕ) (all : Result (List ℕ) ColumnFault) → length rest < 3 → behind_pixels done x (line_run run rest) ≡ all → all ≡ Ok done
pixels_done run done x rest all h so_far = sym so_far ∙ ap (behind_pixels done x) (run_end run rest h) ∙ ap Ok (append-nil done)

-- the first pixel of codes of so many bits
pub front_fits : (depth : ℕ) (rest : List ℕ) → 3 ≤ length rest → CodesFit depth rest → PixelFits depth (front_pixel rest)
front_fits depth rest h fit = record { red_fits = fit 0 0 (omega (arith, h)); green_fits = fit 1 0 (omega (arith, h)); blue_fits = fit 2 0 (omega (arith, h)) }

-- its codes behind others
pub more_fit : (depth : ℕ) (done done' : List ℕ) (p : Pixel) → CodesFit depth done → PixelFits depth p → done' ≡ done ++ codes_of p → CodesFit depth done'
more_fit depth done done' p fit h e =
    let P : ℕ → Type 0 = λ c. c < 2 ^ depth in
    let none : CodesFit depth [] = λ k d l. absurd (omega arith) in
    let three : CodesFit depth (codes_of p) = All-cons P p.red (p.green ∷ p.blue ∷ []) h.red_fits (All-cons P p.green (p.blue ∷ []) h.green_fits (All-cons P p.blue [] h.blue_fits none)) in
    subst (CodesFit depth) (sym e) (All-append P done (codes_of p) fit three)

pub more_codes : (done done' : List ℕ) (x : ℕ) (p : Pixel) → length done ≡ 3 * x → done' ≡ done ++ codes_of p → length done' ≡ 3 * (x + 1)
more_codes done done' x p h e = ap length e ∙ length-append done (codes_of p) ∙ (let z : length done + 3 ≡ 3 * (x + 1) = omega (arith, h) in z)
