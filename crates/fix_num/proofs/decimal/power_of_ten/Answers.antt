-- Goals of `decimal::power_of_ten`.
use Rattle.std.proofs.Common.{◌≤◌, ◌^◌, arith}
use Rattle.std.proofs.lemmas.Int.{ints}
use Rattle.fix_num.proofs.Power.{ten_to}
use Rattle.fix_num.proofs.decimal.power_of_ten.Goals as goal

pub pow-requires : goal.pow-requires
pow-requires c = let h : (1 ≤ 10 ^ c.args.places) × (10 ^ c.args.places ≤ 10 ^ 38) = ten_to c.args.places (omega arith) in omega arith

pub overflow_cast-result : goal.overflow_cast-result
overflow_cast-result c = let h : (1 ≤ 10 ^ c.args.places) × (10 ^ c.args.places ≤ 10 ^ 38) = ten_to c.args.places (omega arith) in grind (arith, ints)

pub returns : goal.returns
returns c =
    let h : (1 ≤ 10 ^ c.args.places) × (10 ^ c.args.places ≤ 10 ^ 38) = ten_to c.args.places (omega arith) in
    record { value = omega (arith, ints); least = omega (arith, ints); most = omega (arith, ints) }
