-- Goals of `halves::nearest_size`.
use Rattle.std.proofs.Common.{◌≡◌, ℕ, ◌+◌, ◌*◌, ◌/◌, ◌%◌, ◌^◌, ◌<◌, ◌≤◌, ◌⊎◌, subst, sym, arith}
use Rattle.fix_num.specs.declared.halves.TheConstants.{UNIT}
use Rattle.fix_num.specs.Half.{IsNearest}
use Rattle.fix_num.proofs.Near.{Digits, digits_of_step, beyond, chosen_down, chosen_up, chosen_even, chosen_odd}
use Rattle.fix_num.proofs.halves.nearest_size.Goals as goal

the_digits : (n shift step : ℕ) → step ≡ 2 ^ shift * UNIT → 0 < step → shift ≤ 29 → n < 2047 * (2 ^ 29 * UNIT) → n < 2048 * (2 ^ shift * UNIT) → (shift ≡ 0) ⊎ (1024 * (2 ^ shift * UNIT) ≤ n) → Digits UNIT n shift (n / step) (n % step)
the_digits n shift step e some range most few full =
    subst (λ (d : ℕ). Digits UNIT n shift (n / d) (n % d)) (sym e) (digits_of_step UNIT n shift (omega arith) range most few full)

pub returns-then-n-ge-MOST : goal.returns-then-n-ge-MOST
returns-then-n-ge-MOST c = beyond UNIT c.args.n (omega arith)

pub returns-then-rest-step : goal.returns-then-rest-step
returns-then-rest-step c =
    let n : ℕ = c.args.n in
    let shift : ℕ = c.shift_of-shift.result in
    let step : ℕ = c.step_of-step.result in
    let e : step ≡ 2 ^ shift * UNIT = c.step_of-step.ensures.value in
    let d : Digits UNIT n shift (n / step) (n % step) = the_digits n shift step e c.step_of-step.ensures.positive c.shift_of-shift.ensures.range (omega arith) c.shift_of-shift.ensures.few c.shift_of-shift.ensures.full in
    subst (λ (x : ℕ). IsNearest UNIT n (n / step * x)) (sym e) (chosen_down UNIT (n / step) shift n (n % step) d.full d.few c.shift_of-shift.ensures.range d.parts (omega arith))

pub returns-then-step-rest : goal.returns-then-step-rest
returns-then-step-rest c =
    let n : ℕ = c.args.n in
    let shift : ℕ = c.shift_of-shift.result in
    let step : ℕ = c.step_of-step.result in
    let e : step ≡ 2 ^ shift * UNIT = c.step_of-step.ensures.value in
    let d : Digits UNIT n shift (n / step) (n % step) = the_digits n shift step e c.step_of-step.ensures.positive c.shift_of-shift.ensures.range (omega arith) c.shift_of-shift.ensures.few c.shift_of-shift.ensures.full in
    subst (λ (x : ℕ). IsNearest UNIT n ((n / step + 1) * x)) (sym e) (chosen_up UNIT (n / step) shift n (n % step) d.full d.few c.shift_of-shift.ensures.range d.room d.parts d.within (omega arith))

pub returns-then-digits-eq0 : goal.returns-then-digits-eq0
returns-then-digits-eq0 c =
    let n : ℕ = c.args.n in
    let shift : ℕ = c.shift_of-shift.result in
    let step : ℕ = c.step_of-step.result in
    let e : step ≡ 2 ^ shift * UNIT = c.step_of-step.ensures.value in
    let d : Digits UNIT n shift (n / step) (n % step) = the_digits n shift step e c.step_of-step.ensures.positive c.shift_of-shift.ensures.range (omega arith) c.shift_of-shift.ensures.few c.shift_of-shift.ensures.full in
    subst (λ (x : ℕ). IsNearest UNIT n (n / step * x)) (sym e) (chosen_even UNIT (n / step) shift n (n % step) (omega arith) d.full d.few c.shift_of-shift.ensures.range d.parts (omega arith) (omega arith))

pub returns-else-digits-eq0 : goal.returns-else-digits-eq0
returns-else-digits-eq0 c =
    let n : ℕ = c.args.n in
    let shift : ℕ = c.shift_of-shift.result in
    let step : ℕ = c.step_of-step.result in
    let e : step ≡ 2 ^ shift * UNIT = c.step_of-step.ensures.value in
    let d : Digits UNIT n shift (n / step) (n % step) = the_digits n shift step e c.step_of-step.ensures.positive c.shift_of-shift.ensures.range (omega arith) c.shift_of-shift.ensures.few c.shift_of-shift.ensures.full in
    subst (λ (x : ℕ). IsNearest UNIT n ((n / step + 1) * x)) (sym e) (chosen_odd UNIT (n / step) shift n (n % step) (omega arith) d.full d.few c.shift_of-shift.ensures.range d.room d.parts (omega arith) (omega arith))
