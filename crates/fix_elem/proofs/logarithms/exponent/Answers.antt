use Rattle.std.proofs.Common.{◌≡◌, ℕ, ◌+◌, ◌-◌, ◌*◌, ◌%◌, ◌^◌, ◌<◌, ◌≤◌, List, [], ◌∷◌, length, drop, get_or, lit≤, ap, sym, ◌∙◌, subst, arith}
use Rattle.std.proofs.Math.ListN.{drop_of_length-le}
use Rattle.std.proofs.lemmas.Nat.{one_shl}
use Rattle.fix_num.specs.declared.TheConstants.{FRACTION}
use Rattle.fix_elem.specs.declared.constants.TheConstants.{TABLE}
use Rattle.fix_elem.specs.Elementary.{constants, exponent}
use Rattle.fix_elem.proofs.Roots.{roots_count, entry}
use Rattle.fix_elem.proofs.Growth.{step}
use Rattle.fix_elem.proofs.Walk.{Room, first_room, room_at, room_step, room_skip}
use Rattle.fix_elem.proofs.Search.{find, find_taken, find_left, found, exponent_law}
use Rattle.fix_elem.proofs.logarithms.exponent.Goals as goal
use Rattle.fix_elem.proofs.logarithms.exponent.Goals.{then-next-m, else-next-m}

pub bits-init : goal.bits-init
bits-init c =
    let v : exponent FRACTION c.args.m ≡ find (constants FRACTION) (2 ^ 62) c.args.m = found c.root_is_floor.ensures FRACTION c.args.m c.requires in
    record { value = omega (arith, v); room = first_room c.root_is_floor.ensures FRACTION (lit≤ tt) }

pub overflow_add-f : goal.overflow_add-f
overflow_add-f c =
    let cs : List ℕ = constants FRACTION in
    let k : ℕ = c.bits.k in
    let e : ℕ = c.bits.e in
    let m : ℕ = c.args.m in
    let n : length cs ≡ FRACTION = roots_count FRACTION (2 ^ 63) in
    let i : get_or cs k 0 ≡ get_or TABLE k 0 = entry c.root_is_floor.ensures FRACTION k (lit≤ tt) c.bits-test.true in
    let u : c.stepped-next.result ≡ step e (get_or cs k 0) = c.stepped-next.ensures ∙ ap (step e) (sym i) in
    let v : c.bits.f + find (drop k cs) e m ≡ exponent FRACTION m = c.bits.invariant.value in
    let t : find (drop k cs) e m ≡ 2 ^ (length cs - 1 - k) + find (drop (k + 1) cs) (step e (get_or cs k 0)) m = find_taken cs k e m (omega (arith, n, c.bits-test.true)) (omega (arith, u, c.if-next-m.true)) in
    let p : length cs - 1 - k ≡ FRACTION - 1 - k = omega (arith, n) in
    let q : 2 ^ (length cs - 1 - k) ≡ 2 ^ (FRACTION - 1 - k) = ap (λ (x : ℕ). 2 ^ x) p in
    let b : exponent FRACTION m < 2 ^ FRACTION = (exponent_law FRACTION m c.requires).0 in
    let o : 1 * 2 ^ (FRACTION - 1 - k) % 2 ^ 64 ≡ 2 ^ (FRACTION - 1 - k) = one_shl (FRACTION - 1 - k) 64 (omega arith) in
    record { fits = omega (arith, o, q, b, t, v) }

pub bits-preserved : goal.bits-preserved
bits-preserved c =
    let cs : List ℕ = constants FRACTION in
    let k : ℕ = c.bits.k in
    let e : ℕ = c.bits.e in
    let m : ℕ = c.args.m in
    let n : length cs ≡ FRACTION = roots_count FRACTION (2 ^ 63) in
    let i : get_or cs k 0 ≡ get_or TABLE k 0 = entry c.root_is_floor.ensures FRACTION k (lit≤ tt) c.bits-test.true in
    let u : c.stepped-next.result ≡ step e (get_or cs k 0) = c.stepped-next.ensures ∙ ap (step e) (sym i) in
    let lt : k < length cs = omega (arith, n, c.bits-test.true) in
    let v : c.bits.f + find (drop k cs) e m ≡ exponent FRACTION m = c.bits.invariant.value in
    let r : Room e (get_or cs k 0 ∷ drop (k + 1) cs) = room_at cs k e lt c.bits.invariant.room in
    elim c.if-next-m.branch [
      | then-next-m w ↦
          let t : find (drop k cs) e m ≡ 2 ^ (length cs - 1 - k) + find (drop (k + 1) cs) (step e (get_or cs k 0)) m = find_taken cs k e m lt (omega (arith, u, w.if-next-m.true)) in
          let p : length cs - 1 - k ≡ FRACTION - 1 - k = omega (arith, n) in
          let q : 2 ^ (length cs - 1 - k) ≡ 2 ^ (FRACTION - 1 - k) = ap (λ (x : ℕ). 2 ^ x) p in
          let o : 1 * 2 ^ (FRACTION - 1 - k) % 2 ^ 64 ≡ 2 ^ (FRACTION - 1 - k) = one_shl (FRACTION - 1 - k) 64 (omega arith) in
          let ei : c.if-next-m.e ≡ step e (get_or cs k 0) = w.e-is ∙ u in
          let s : find (drop (k + 1) cs) c.if-next-m.e m ≡ find (drop (k + 1) cs) (step e (get_or cs k 0)) m = ap (λ (x : ℕ). find (drop (k + 1) cs) x m) ei in
          let fi : c.if-next-m.f ≡ c.bits.f + 1 * 2 ^ (FRACTION - 1 - k) % 2 ^ 64 = w.f-is in
          record { value = omega (arith, s, fi, o, q, t, v); room = subst (λ (x : ℕ). Room x (drop (k + 1) cs)) (sym ei) (room_step _ _ _ r) }
      | else-next-m w ↦
          let t : find (drop k cs) e m ≡ find (drop (k + 1) cs) e m = find_left cs k e m lt (omega (arith, u, w.if-next-m.false)) in
          let s : find (drop (k + 1) cs) c.if-next-m.e m ≡ find (drop (k + 1) cs) e m = ap (λ (x : ℕ). find (drop (k + 1) cs) x m) w.e-is in
          let fi : c.if-next-m.f ≡ c.bits.f = w.f-is in
          record { value = omega (arith, s, fi, t, v); room = subst (λ (x : ℕ). Room x (drop (k + 1) cs)) (sym w.e-is) (room_skip _ _ _ r) }
    ]

at_end : (cs : List ℕ) (k e f m : ℕ) → length cs ≤ k → f + find (drop k cs) e m ≡ f
at_end cs k e f m h =
    let d : drop k cs ≡ [] = drop_of_length-le cs {i = k} h in
    let n : find (drop k cs) e m ≡ 0 = ap (λ (ds : List ℕ). find ds e m) d in
    omega (arith, n)

pub returns-clause-value : goal.returns-clause-value
returns-clause-value c =
    let n : length (constants FRACTION) ≡ FRACTION = roots_count FRACTION (2 ^ 63) in
    sym (at_end (constants FRACTION) c.bits.k c.bits.e c.bits.f c.args.m (omega (arith, n, c.bits-test.false))) ∙ c.bits.invariant.value

pub returns-clause-small : goal.returns-clause-small
returns-clause-small c =
    let n : length (constants FRACTION) ≡ FRACTION = roots_count FRACTION (2 ^ 63) in
    let f : c.bits.f ≡ exponent FRACTION c.args.m = sym (at_end (constants FRACTION) c.bits.k c.bits.e c.bits.f c.args.m (omega (arith, n, c.bits-test.false))) ∙ c.bits.invariant.value in
    let b : exponent FRACTION c.args.m < 2 ^ FRACTION = (exponent_law FRACTION c.args.m c.requires).0 in
    omega (arith, f, b)
