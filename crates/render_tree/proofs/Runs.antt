-- The run of a stage on a pixel by the run of its entry, and the codes that are written.
use Rattle.std.proofs.Common.{◌≡◌, ℕ, ℤ, pos, negsuc, ◌<ℤ◌, ◌≤ℤ◌, ◌^◌, ◌<◌, List, ◌++◌, Option, Some, None, Result, Ok, Err, unsigned_abs, ap, sym, subst, ◌∙◌, arith}
use Rattle.std.proofs.lemmas.Int.{ints}
use Rattle.std.proofs.lemmas.Nat.{pow_pos}
use Rattle.fix_num.specs.Fixed.{code_out}
use Rattle.fix_num.specs.Ranges.{CodesStayInRange}
use Rattle.fix_num.specs.declared.TheConstants.{FRACTION}
use Rattle.ctl_base.specs.declared.limits.TheConstants.{TURNS}
use Rattle.ctl_base.specs.declared.kind.Node.{Node}
use Rattle.ctl_base.specs.declared.kind.TrapKind.{TrapKind}
use Rattle.ctl_base.specs.declared.kind.ScalarKind.TheVariants as kind
use Rattle.ctl_types.specs.declared.value.Value.{Value, out-Value}
use Rattle.ctl_types.specs.Run.{Fault, Trapped, Ended, word_as}
use Rattle.ctl_types.specs.Cost.{uncounted, plain_run}
use Rattle.ctl_eval.specs.Entries.{Ends}
use Rattle.ctl_eval.specs.declared.ends.PixelEnd.{PixelEnd}
use Rattle.ctl_eval.specs.declared.ends.PixelEnd.TheVariants as pixel_end
use Rattle.render_tree.specs.declared.pixel.Pixel.{Pixel}
use Rattle.render_tree.specs.PixelRun.{Named, StageForm, code_for, pixel_of, first_values, input_values, parameters_of, passed_on, run_from, after_run, pixel_end as ended, pixel_run}
use Rattle.render_tree.specs.Means.{PixelFits}

-- a run of the entry makes a run of the stage
run_by : (s : StageForm) (depth : ℕ) (p : Pixel) (inputs : List Value) (r : Result (Ended (Unit {0}) uncounted) Fault) → input_values (first_values depth p) (parameters_of s) ≡ Some inputs → plain_run s.definitions s.entry inputs TURNS ≡ r
    → pixel_run depth depth s p ≡ ended depth (after_run s (first_values depth p) r)
unfolding pixel_run
run_by s depth p inputs r e h =
    ap (λ (o : Option (List Value)). ended depth (after_run s (first_values depth p) (run_from s TURNS o))) e
    ∙ ap (λ (r : Result (Ended (Unit {0}) uncounted) Fault). ended depth (after_run s (first_values depth p) r)) h

pub values_run : (s : StageForm) (depth : ℕ) (p : Pixel) (inputs given : List Value) (end : PixelEnd) (outputs : List Value) (turns : ℕ) → input_values (first_values depth p) (parameters_of s) ≡ Some inputs → given ≡ inputs
    → end ≡ pixel_end.Values outputs turns → Ends end (plain_run s.definitions s.entry given TURNS) → pixel_run depth depth s p ≡ Ok (pixel_of depth (first_values depth p ++ passed_on (parameters_of s) outputs))
values_run s depth p inputs given end outputs turns e same is h =
    let P : PixelEnd → Type 0 = λ x. Ends x (plain_run s.definitions s.entry given TURNS) in
    run_by s depth p inputs _ e (ap (λ (vs : List Value). plain_run s.definitions s.entry vs TURNS) (sym same) ∙ subst P is h)

pub trap_run : (s : StageForm) (depth : ℕ) (p : Pixel) (inputs given : List Value) (end : PixelEnd) (k : TrapKind) (node : Node) → input_values (first_values depth p) (parameters_of s) ≡ Some inputs → given ≡ inputs
    → end ≡ pixel_end.Trap k node → Ends end (plain_run s.definitions s.entry given TURNS) → pixel_run depth depth s p ≡ Err (Trapped k node)
trap_run s depth p inputs given end k node e same is h =
    let P : PixelEnd → Type 0 = λ x. Ends x (plain_run s.definitions s.entry given TURNS) in
    run_by s depth p inputs _ e (ap (λ (vs : List Value). plain_run s.definitions s.entry vs TURNS) (sym same) ∙ subst P is h)

-- ---- codes

size_below : (z : ℤ) (n : ℕ) → pos 0 ≤ℤ z → z <ℤ pos n → unsigned_abs z < n
size_below (pos a) n h k = omega (arith, ints)
size_below (negsuc a) n h k = absurd (omega (arith, ints))

some_below : (n : ℕ) → 0 < 2 ^ n
some_below n = pow_pos n

code_fits : CodesStayInRange → (depth : ℕ) (v : Option Value) → code_for depth v < 2 ^ depth
code_fits stay depth None = some_below depth
code_fits stay depth (Some v) =
    let w : ℤ = word_as kind.Float (out-Value v) in
    let r = (stay FRACTION).written w depth in size_below (code_out FRACTION w depth) (2 ^ depth) r.0 r.1

-- the codes that are written are of so many bits
pub written_fits : CodesStayInRange → (depth : ℕ) (p : Pixel) (values : List Named) → p ≡ pixel_of depth values → PixelFits depth p
written_fits stay depth p values e = subst (PixelFits depth) (sym e) (record { red_fits = code_fits stay depth _; green_fits = code_fits stay depth _; blue_fits = code_fits stay depth _ })
