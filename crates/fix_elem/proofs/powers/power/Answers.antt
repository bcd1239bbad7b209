use Rattle.std.proofs.Common.{◌≡◌, ℕ, ◌+◌, ◌-◌, ◌^◌, ◌<◌, ◌≤◌, List, [], ◌∷◌, length, drop, get_or, lit≤, refl, ap, sym, ◌∙◌, subst, arith}
use Rattle.std.specs.Int.{bit_at}
use Rattle.std.proofs.Math.ListN.{drop_of_length-le}
use Rattle.std.proofs.lemmas.Nat.Bits.{shr_and_one}
use Rattle.fix_num.specs.declared.TheConstants.{FRACTION}
use Rattle.fix_elem.specs.declared.constants.TheConstants.{TABLE}
use Rattle.fix_elem.specs.Elementary.{constants, power_from, power}
use Rattle.fix_elem.proofs.Roots.{roots_count, entry}
use Rattle.fix_elem.proofs.Growth.{step}
use Rattle.fix_elem.proofs.Walk.{Room, first_room, last_room, room_at, room_step, room_skip, room_size, walk_set, walk_clear, is_clear}
use Rattle.fix_elem.proofs.powers.power.Goals as goal
use Rattle.fix_elem.proofs.powers.power.Goals.{then-f-k-eq1, else-f-k-eq1}

pub bits-init : goal.bits-init
unfolding power
bits-init c = record { value = refl; room = first_room c.root_is_floor.ensures FRACTION (lit≤ tt) }

pub overflow_cast-e : goal.overflow_cast-e
overflow_cast-e c =
    let cs : List ℕ = constants FRACTION in
    let k : ℕ = c.bits.k in
    let e : ℕ = c.bits.e in
    let n : length cs ≡ FRACTION = roots_count FRACTION (2 ^ 63) in
    let t : get_or cs k 0 ≡ get_or TABLE k 0 = entry c.root_is_floor.ensures FRACTION k (lit≤ tt) c.bits-test.true in
    let r : Room e (get_or cs k 0 ∷ drop (k + 1) cs) = room_at cs k e (omega (arith, n, c.bits-test.true)) c.bits.invariant.room in
    let s : step e (get_or cs k 0) ≤ 2 ^ 63 = room_size _ _ (room_step _ _ _ r) in
    let v : c.stepped-e.result ≡ step e (get_or cs k 0) = c.stepped-e.ensures ∙ ap (step e) (sym t) in
    record { fits = omega (arith, s, v) }

pub bits-preserved : goal.bits-preserved
bits-preserved c =
    let cs : List ℕ = constants FRACTION in
    let f : ℕ = c.args.f in
    let k : ℕ = c.bits.k in
    let e : ℕ = c.bits.e in
    let n : length cs ≡ FRACTION = roots_count FRACTION (2 ^ 63) in
    let t : get_or cs k 0 ≡ get_or TABLE k 0 = entry c.root_is_floor.ensures FRACTION k (lit≤ tt) c.bits-test.true in
    let lt : k < length cs = omega (arith, n, c.bits-test.true) in
    let p : length cs - 1 - k ≡ FRACTION - 1 - k = omega (arith, n) in
    let r : Room e (get_or cs k 0 ∷ drop (k + 1) cs) = room_at cs k e lt c.bits.invariant.room in
    let before : power_from (drop k cs) e f ≡ power FRACTION f = c.bits.invariant.value in
    elim c.if-f-k-eq1.branch [
      | then-f-k-eq1 w ↦
          let set : bit_at f (length cs - 1 - k) ≡ 1 = ap (bit_at f) p ∙ sym (shr_and_one f (FRACTION - 1 - k)) ∙ w.if-f-k-eq1.true in
          let v : c.if-f-k-eq1.e ≡ step e (get_or cs k 0) = w.e-is ∙ w.stepped-e.ensures ∙ ap (step e) (sym t) in
          record {
            value = ap (λ (x : ℕ). power_from (drop (k + 1) cs) x f) v ∙ walk_set cs k e f lt set ∙ before;
            room = subst (λ (x : ℕ). Room x (drop (k + 1) cs)) (sym v) (room_step _ _ _ r);
          }
      | else-f-k-eq1 w ↦
          let clear : bit_at f (length cs - 1 - k) ≡ 0 = ap (bit_at f) p ∙ is_clear f (FRACTION - 1 - k) w.if-f-k-eq1.false in
          record {
            value = ap (λ (x : ℕ). power_from (drop (k + 1) cs) x f) w.e-is ∙ walk_clear cs k e f lt clear ∙ before;
            room = subst (λ (x : ℕ). Room x (drop (k + 1) cs)) (sym w.e-is) (room_skip _ _ _ r);
          }
    ]

pub returns-clause-value : goal.returns-clause-value
returns-clause-value c =
    let cs : List ℕ = constants FRACTION in
    let n : length cs ≡ FRACTION = roots_count FRACTION (2 ^ 63) in
    let d : drop c.bits.k cs ≡ [] = drop_of_length-le cs {i = c.bits.k} (omega (arith, n, c.bits-test.false)) in
    sym (ap (λ (ds : List ℕ). power_from ds c.bits.e c.args.f) d) ∙ c.bits.invariant.value

pub returns-clause-small : goal.returns-clause-small
returns-clause-small c =
    let cs : List ℕ = constants FRACTION in
    let n : length cs ≡ FRACTION = roots_count FRACTION (2 ^ 63) in
    let d : drop c.bits.k cs ≡ [] = drop_of_length-le cs {i = c.bits.k} (omega (arith, n, c.bits-test.false)) in
    last_room c.bits.e (subst (λ (ds : List ℕ). Room c.bits.e ds) d c.bits.invariant.room)
