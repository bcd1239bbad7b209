-- Operations on whole numbers give whole numbers.
use Rattle.std.proofs.Common.{◌≡◌, ℕ, ℤ, pos, Bool, subst, sym, ap, arith, to_z, w32, unsigned_abs}
use Rattle.std.specs.Int.{int_wrap}
use Rattle.fix_num.specs.declared.TheConstants.{FRACTION}
use Rattle.fix_num.specs.declared.integers.WholeOp.{WholeOp}
use Rattle.fix_num.specs.Whole.{IsWhole, whole, as_int, as_unsigned}
use Rattle.fix_num.specs.Ranges.{WholesStayInRange}

pub stays : WholesStayInRange → (op : WholeOp) (signed : Bool) (a b z : ℤ) → z ≡ whole op signed a b → IsWhole signed a → IsWhole signed b → IsWhole signed z
stays law op signed a b z e p q = subst (λ z. IsWhole signed z) (sym e) ((law FRACTION (omega arith) (omega arith)).operation op signed a b p q)

-- the int is read from the bits of the unsigned
pub low_of : (z : ℤ) (n : ℕ) → pos n ≡ as_unsigned z → to_z w32 n ≡ as_int z
unfolding int_wrap
low_of z n e = ap (λ (m : ℤ). to_z w32 (unsigned_abs m)) e
