-- Each pixel of an image has a run.
use Rattle.std.proofs.Common.{◌≡◌, ℕ, zero, suc, ◌*◌, ◌^◌, ◌<◌, ◌≤◌, List, [], ◌∷◌, ◌++◌, take, drop, Option, Some, None, Result, Ok, Err, Bool, true, false, IsTrue, ◌&&◌, ◌||◌, ◌==◌, if◌then◌else◌, refl, ap, sym, subst, ◌∙◌, arith, slice_get}
use Rattle.std.specs.Option.{option_map}
use Rattle.std.proofs.lemmas.List.Elements.{All-take, All-drop}
use Rattle.ctl_base.specs.declared.limits.TheConstants.{TURNS}
use Rattle.ctl_types.specs.declared.value.Value.{Value}
use Rattle.ctl_types.specs.declared.program.Parameter.{Parameter}
use Rattle.ctl_types.specs.declared.program.Function.{Function}
use Rattle.ctl_types.specs.Run.{Fault, Trapped, Wrong, Ended, given_or, with_output}
use Rattle.ctl_types.specs.Cost.{uncounted, plain_run}
use Rattle.ctl_laws.specs.Sound.{EndsWell, EntriesEndWell}
use Rattle.ctl_eval.specs.Entries.{EntryTakes}
use Rattle.dpx_file.specs.Plain.{PlainImage, IsImage, IsBitDepth, CodesFit}
use Rattle.render_tree.specs.declared.pixel.Pixel.{Pixel}
use Rattle.render_tree.specs.PixelRun.{Named, StageForm, scalar_kind, taken_as, full, last_resort, value_of, input_value, input_values, parameters_in, parameters_of, first_values, run_from, after_run, pixel_end, pixel_run}
use Rattle.render_tree.specs.Stages.{IsStage, input_is_simple, inputs_are_simple, outputs_are_simple}
use Rattle.render_tree.specs.RenderedImage.{ColumnFault, PixelFault, before_pixels, pixel_then, line_run, before_lines, line_then, lines_run, image_with, rendered}
use Rattle.render_tree.specs.Laws.{Traps, IsRendered, RendersWell}
use Rattle.render_tree.specs.Means.{InputsFit, PixelFits}
use Rattle.render_tree.proofs.Fitting.{last_taken}

both : (a b : Bool) → (a && b) ≡ true → (a ≡ true) × (b ≡ true)
both true b h = (refl, h)
both false b h = absurd (cc)

-- ---- each input takes a value

record Takes {A : Type 0} (o : Option A) : Type 0 where
  value : A
  is : o ≡ Some value

none_left : (depth : ℕ) (p : Pixel) (q : Parameter) → input_is_simple q ≡ true → value_of q.name (first_values depth p) ≡ None → (d : Option Value) → q.default ≡ d → Takes (input_value (first_values depth p) q)
none_left depth p q simple none (Some v) e =
    record { value = v; is = ap (λ (o : Option Value). given_or (option_map (taken_as (scalar_kind q.shape)) o) (given_or q.default (last_resort q))) none ∙ ap (λ (o : Option Value). given_or o (last_resort q)) e }
none_left depth p q simple none None e = record { value = taken_as (scalar_kind q.shape) full; is = last_taken depth p q simple (sym none) e }

one_takes : (depth : ℕ) (p : Pixel) (q : Parameter) → input_is_simple q ≡ true → (o : Option Value) → value_of q.name (first_values depth p) ≡ o → Takes (input_value (first_values depth p) q)
one_takes depth p q simple (Some v) e =
    record { value = taken_as (scalar_kind q.shape) v; is = ap (λ (o : Option Value). given_or (option_map (taken_as (scalar_kind q.shape)) o) (given_or q.default (last_resort q))) e }
one_takes depth p q simple None e = none_left depth p q simple e q.default refl

with_first : (o : Option Value) (os : Option (List Value)) → Takes o → Takes os → Takes (with_output o os)
with_first o os t ts = record { value = t.value ∷ ts.value; is = ap (λ (o : Option Value). with_output o os) t.is ∙ ap (with_output (Some t.value)) ts.is }

all_take : (depth : ℕ) (p : Pixel) (ps : List Parameter) → inputs_are_simple ps ≡ true → Takes (input_values (first_values depth p) ps)
all_take depth p [] s = record { value = []; is = refl }
all_take depth p (q ∷ ps) s = by q.is_output refl (both (q.is_output || input_is_simple q) _ s).0 (all_take depth p ps (both (q.is_output || input_is_simple q) _ s).1) where
  by : (t : Bool) → q.is_output ≡ t → (q.is_output || input_is_simple q) ≡ true → Takes (input_values (first_values depth p) ps) → Takes (input_values (first_values depth p) (q ∷ ps))
  by true o h others = rw o others
  by false o h others =
      let simple : input_is_simple q ≡ true = subst (λ (t : Bool). (t || input_is_simple q) ≡ true) o h in
      rw o (with_first _ _ (one_takes depth p q simple (value_of q.name (first_values depth p)) refl) others)

-- ---- a pixel

abbrev PixelWell : Result Pixel Fault → Type 0
PixelWell (Ok p) = Unit {0}
PixelWell (Err fault) = Traps fault

run_well : (s : StageForm) (depth : ℕ) (values : List Named) (f : Function) (r : Result (Ended (Unit {0}) uncounted) Fault) → EndsWell (Unit {0}) uncounted s.definitions.structs f r → PixelWell (pixel_end depth (after_run s values r))
run_well s depth values f (Ok ended) h = tt
run_well s depth values f (Err (Trapped kind node)) h = tt
run_well s depth values f (Err Wrong) h = h

module _ (fit : InputsFit) (sound : EntriesEndWell (Unit {0}) uncounted) (s : StageForm) (is : IsStage s) (depth : ℕ) (deep : 8 ≤ depth) where
  taken_well : (p : Pixel) → PixelFits depth p → (inputs : List Value) → input_values (first_values depth p) (parameters_of s) ≡ Some inputs → PixelWell (pixel_end depth (after_run s (first_values depth p) (plain_run s.definitions s.entry inputs TURNS)))
  taken_well p fits inputs e =
      let t = fit s is depth deep p fits inputs e in
      run_well s depth (first_values depth p) t.0 (plain_run s.definitions s.entry inputs TURNS) (sound s.definitions is.defined s.entry t.0 t.1 inputs t.2 TURNS tt)

  pixel_well : (p : Pixel) → PixelFits depth p → PixelWell (pixel_run depth depth s p)
  unfolding pixel_run
  pixel_well p fits =
      let simple = both (inputs_are_simple is.function.parameters) _ is.simple in
      let given : inputs_are_simple (parameters_of s) ≡ true = subst (λ (o : Option Function). inputs_are_simple (parameters_in o) ≡ true) (sym is.there) simple.0 in
      let t = all_take depth p (parameters_of s) given in
      subst (λ (o : Option (List Value)). PixelWell (pixel_end depth (after_run s (first_values depth p) (run_from s TURNS o)))) (sym t.is) (taken_well p fits t.value t.is)

-- ---- lines

abbrev LineWell : Result (List ℕ) ColumnFault → Type 0
LineWell (Ok codes) = Unit {0}
LineWell (Err f) = Traps f.fault

abbrev LinesWell : Result (List ℕ) PixelFault → Type 0
LinesWell (Ok codes) = Unit {0}
LinesWell (Err f) = Traps f.fault

one_before : (r : Result Pixel Fault) (others : Result (List ℕ) ColumnFault) → PixelWell r → LineWell others → LineWell (pixel_then r others)
one_before (Ok p) (Ok codes) h k = tt
one_before (Ok p) (Err f) h k = k
one_before (Err fault) others h k = h

line_before : (r : Result (List ℕ) ColumnFault) (others : Result (List ℕ) PixelFault) → LineWell r → LinesWell others → LinesWell (line_then r others)
line_before (Ok line) (Ok codes) h k = tt
line_before (Ok line) (Err f) h k = k
line_before (Err f) others h k = h

module _ (depth : ℕ) (run : Pixel → Result Pixel Fault) (well : (p : Pixel) → PixelFits depth p → PixelWell (run p)) where
  line_well : (codes : List ℕ) → CodesFit depth codes → LineWell (line_run run codes)
  line_well [] fit = tt
  line_well (a ∷ []) fit = tt
  line_well (a ∷ b ∷ []) fit = tt
  line_well (a ∷ b ∷ c ∷ codes) fit =
      one_before (run (record { red = a; green = b; blue = c })) (line_run run codes)
      (well (record { red = a; green = b; blue = c }) (record { red_fits = fit 0 0 (omega arith); green_fits = fit 1 0 (omega arith); blue_fits = fit 2 0 (omega arith) }))
      (line_well codes (All-drop (λ (x : ℕ). x < 2 ^ depth) 3 (a ∷ b ∷ c ∷ codes) fit))

  lines_well : (height width : ℕ) (codes : List ℕ) → CodesFit depth codes → LinesWell (lines_run run height width codes)
  lines_well zero width codes fit = tt
  lines_well (suc height) width codes fit =
      let P : ℕ → Type 0 = λ x. x < 2 ^ depth in
      line_before (line_run run (take width codes)) (lines_run run height width (drop width codes)) (line_well (take width codes) (All-take P width codes fit)) (lines_well height width (drop width codes) (All-drop P width codes fit))

-- ---- the image

with_codes : (image : PlainImage) (r : Result (List ℕ) PixelFault) → LinesWell r → IsRendered (image_with image r)
with_codes image (Ok codes) h = tt
with_codes image (Err f) h = h

bits : (depth : ℕ) → IsBitDepth depth → 8 ≤ depth
bits depth h = grind (arith, h)

pub renders_well : InputsFit → EntriesEndWell (Unit {0}) uncounted → RendersWell
renders_well fit sound = λ s is image whole.
    with_codes image (lines_run (pixel_run image.depth image.depth s) image.height (3 * image.width) image.codes)
    (lines_well image.depth (pixel_run image.depth image.depth s) (pixel_well fit sound s is image.depth (bits image.depth whole.depth)) image.height (3 * image.width) image.codes whole.fit)
