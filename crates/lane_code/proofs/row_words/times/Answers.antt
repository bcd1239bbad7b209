use Rattle.std.proofs.Common.{arith}
use Rattle.std.proofs.lemmas.Nat.{mul-le}
use Rattle.lane_code.proofs.row_words.times.Goals as goal

pub overflow_mul-result : goal.overflow_mul-result
overflow_mul-result c = let m = mul-le c.args.n c.args.words 65536 c.args.words (omega arith) (omega arith) in omega arith

pub returns-clause-most : goal.returns-clause-most
returns-clause-most c = let m = mul-le c.args.n c.args.words 65536 c.args.words (omega arith) (omega arith) in omega arith
