-- Goals of `arc::search`.
use Rattle.std.proofs.Common.{◌≡◌, ℕ, suc, ◌*◌, ◌%◌, ◌+◌, ◌-◌, ◌^◌, ◌<◌, ap, sym, ◌∙◌, subst, arith}
use Rattle.std.proofs.Math.Nat.{pow-succ'}
use Rattle.std.proofs.lemmas.Nat.{one_shl}
use Rattle.fix_num.specs.declared.TheConstants.{FRACTION}
use Rattle.fix_trig.specs.Turn.{turned}
use Rattle.fix_trig.specs.Bound.{bound, IsBounded, TurnFits}
use Rattle.fix_trig.specs.Means.{vector_of}
use Rattle.fix_trig.specs.Angle.{OnTheWay, found, is_at_or_beyond}
use Rattle.fix_trig.proofs.Bounds.{bound_small, start_within, wider}
use Rattle.fix_trig.proofs.Steps.{found_first, found_taken, found_left}
use Rattle.fix_trig.proofs.arc.search.Goals as goal
use Rattle.fix_trig.proofs.arc.search.Goals.{then-is_at_or_beyond, else-is_at_or_beyond}

pub bits-init : goal.bits-init
bits-init c = record {
  at = ap (λ (w : OnTheWay). w.at) (sym (found_first FRACTION c.args.u c.args.v));
  angle = ap (λ (w : OnTheWay). w.angle) (sym (found_first FRACTION c.args.u c.args.v));
  within = start_within;
  low = omega arith;
}

pub is_at_or_beyond-requires-clause-within : goal.is_at_or_beyond-requires-clause-within
is_at_or_beyond-requires-clause-within c =
    let k : ℕ = c.bits.k in
    let b : bound (k + 1) < 2 ^ 64 = bound_small k (c.turns_fit.ensures k (omega arith)) in
    wider (bound (k + 1)) (2 ^ 64 - 1) (vector_of c.turn_by-next.result) (omega arith) c.turn_by-next.ensures.within

pub bits-preserved : goal.bits-preserved
bits-preserved c =
    let k : ℕ = c.bits.k in
    let u : ℕ = c.args.u in
    let v : ℕ = c.args.v in
    let fits : TurnFits k = c.turns_fit.ensures k (omega arith) in
    let next : vector_of c.turn_by-next.result ≡ turned k (found FRACTION u v k).at = c.turn_by-next.ensures.value ∙ ap (turned k) c.bits.invariant.at in
    let test : c.is_at_or_beyond.result ≡ is_at_or_beyond u v (turned k (found FRACTION u v k).at) = c.is_at_or_beyond.ensures ∙ ap (is_at_or_beyond u v) next in
    let i : FRACTION - k ≡ suc (FRACTION - (k + 1)) = omega arith in
    let p : 2 ^ (FRACTION - k) ≡ 2 * 2 ^ (FRACTION - (k + 1)) = ap (λ (x : ℕ). 2 ^ x) i ∙ pow-succ' 2 (FRACTION - (k + 1)) in
    elim c.if-is_at_or_beyond.branch [
      | then-is_at_or_beyond w ↦
          let t : found FRACTION u v (k + 1) ≡ record { at = turned k (found FRACTION u v k).at; angle = (found FRACTION u v k).angle + 2 ^ (FRACTION - (k + 1)) } = found_taken FRACTION u v k (sym test ∙ w.if-is_at_or_beyond.true) in
          let o : 1 * 2 ^ (FRACTION - 1 - k) % 2 ^ 64 ≡ 2 ^ (FRACTION - 1 - k) = one_shl (FRACTION - 1 - k) 64 (omega arith) in
          let j : 2 ^ (FRACTION - 1 - k) ≡ 2 ^ (FRACTION - (k + 1)) = let i : FRACTION - 1 - k ≡ FRACTION - (k + 1) = omega arith in ap (λ (x : ℕ). 2 ^ x) i in
          let a : c.if-is_at_or_beyond.angle ≡ c.bits.angle + 2 ^ (FRACTION - (k + 1)) = w.angle-is ∙ ap (λ (x : ℕ). c.bits.angle + x) (o ∙ j) in
          record {
            at = ap vector_of w.at-is ∙ next ∙ ap (λ (w : OnTheWay). w.at) (sym t);
            angle = a ∙ ap (λ (x : ℕ). x + 2 ^ (FRACTION - (k + 1))) c.bits.invariant.angle ∙ ap (λ (w : OnTheWay). w.angle) (sym t);
            within = subst (λ d. IsBounded (bound (k + 1)) (vector_of d)) (sym w.at-is) c.turn_by-next.ensures.within;
            low = omega (arith, a, p, c.bits.invariant.low);
          }
      | else-is_at_or_beyond w ↦
          let t : found FRACTION u v (k + 1) ≡ found FRACTION u v k = found_left FRACTION u v k (sym test ∙ w.if-is_at_or_beyond.false) in
          record {
            at = ap vector_of w.at-is ∙ c.bits.invariant.at ∙ ap (λ (w : OnTheWay). w.at) (sym t);
            angle = w.angle-is ∙ c.bits.invariant.angle ∙ ap (λ (w : OnTheWay). w.angle) (sym t);
            within = subst (λ d. IsBounded (bound (k + 1)) (vector_of d)) (sym w.at-is) (wider (bound k) (bound (k + 1)) (vector_of c.bits.at) fits.grows c.bits.invariant.within);
            low = omega (arith, w.angle-is, p, c.bits.invariant.low);
          }
    ]

pub turn_by-next-requires-clause-fits : goal.turn_by-next-requires-clause-fits
turn_by-next-requires-clause-fits c = c.turns_fit.ensures c.bits.k (omega arith)
