-- Goals of `turn::direction_of`.
use Rattle.std.proofs.Common.{◌≡◌, ℕ, ◌+◌, ◌-◌, ◌^◌, ◌<◌, ap, sym, ◌∙◌, subst, arith}
use Rattle.std.specs.Int.{bit_at}
use Rattle.fix_num.specs.declared.TheConstants.{FRACTION}
use Rattle.fix_trig.specs.Turn.{turned}
use Rattle.fix_trig.specs.Bound.{bound, IsBounded, TurnFits}
use Rattle.fix_trig.specs.Means.{vector_of}
use Rattle.fix_trig.proofs.Bounds.{given_small, start_within, wider}
use Rattle.fix_trig.proofs.Steps.{direction_first, direction_set, direction_clear, is_set, is_clear}
use Rattle.fix_trig.proofs.turn.direction_of.Goals as goal
use Rattle.fix_trig.proofs.turn.direction_of.Goals.{then-f-k-eq1, else-f-k-eq1}

pub bits-init : goal.bits-init
bits-init c = record { value = sym (direction_first FRACTION c.args.f); within = start_within }

pub bits-preserved : goal.bits-preserved
bits-preserved c =
    let f : ℕ = c.args.f in
    let k : ℕ = c.bits.k in
    let p : FRACTION - 1 - k ≡ FRACTION - (k + 1) = omega arith in
    let fits : TurnFits k = c.turns_fit.ensures k (omega arith) in
    elim c.if-f-k-eq1.branch [
      | then-f-k-eq1 w ↦
          let b : bit_at f (FRACTION - (k + 1)) ≡ 1 = ap (bit_at f) (sym p) ∙ is_set f (FRACTION - 1 - k) w.if-f-k-eq1.true in
          record {
            value = ap vector_of w.at-is ∙ w.turn_by-at.ensures.value ∙ ap (turned k) c.bits.invariant.value ∙ sym (direction_set FRACTION f k b);
            within = subst (λ d. IsBounded (bound (k + 1)) (vector_of d)) (sym w.at-is) w.turn_by-at.ensures.within;
          }
      | else-f-k-eq1 w ↦
          let b : bit_at f (FRACTION - (k + 1)) ≡ 0 = ap (bit_at f) (sym p) ∙ is_clear f (FRACTION - 1 - k) w.if-f-k-eq1.false in
          record {
            value = ap vector_of w.at-is ∙ c.bits.invariant.value ∙ sym (direction_clear FRACTION f k b);
            within = subst (λ d. IsBounded (bound (k + 1)) (vector_of d)) (sym w.at-is) (wider (bound k) (bound (k + 1)) (vector_of c.bits.at) fits.grows c.bits.invariant.within);
          }
    ]

pub turn_by-at-requires-clause-fits : goal.turn_by-at-requires-clause-fits
turn_by-at-requires-clause-fits c = c.turns_fit.ensures c.bits.k (omega arith)

pub returns-clause-within : goal.returns-clause-within
returns-clause-within c =
    let b : bound c.bits.k < 2 ^ 64 = given_small c.bits.k (c.turns_fit.ensures c.bits.k (omega arith)) in
    wider (bound c.bits.k) (2 ^ 64 - 1) (vector_of c.bits.at) (omega arith) c.bits.invariant.within
