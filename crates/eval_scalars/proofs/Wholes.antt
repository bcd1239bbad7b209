-- Operations on whole numbers give whole numbers.
use Rattle.std.proofs.Common.{◌≡◌, ℤ, Bool, subst, sym, arith}
use Rattle.fix_num.specs.declared.TheConstants.{FRACTION}
use Rattle.fix_num.specs.declared.integers.WholeOp.{WholeOp}
use Rattle.fix_num.specs.Whole.{IsWhole, whole}
use Rattle.fix_num.specs.Ranges.{WholesStayInRange}

pub stays : WholesStayInRange → (op : WholeOp) (signed : Bool) (a b z : ℤ) → z ≡ whole op signed a b → IsWhole signed a → IsWhole signed b → IsWhole signed z
stays law op signed a b z e p q = subst (λ z. IsWhole signed z) (sym e) ((law FRACTION (omega arith) (omega arith)).operation op signed a b p q)
