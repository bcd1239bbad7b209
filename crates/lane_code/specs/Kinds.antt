-- What operations and conversions make of words. The word of a bool is 0 or 1, that of a whole number is the number, that of a half or a float is its raw. Slots have no
-- kind of their own, so a word is first taken into the kind in which it is to be read. F is the number of fraction bits.
use Rattle.std.specs.Prelude.{ℕ, ◌-◌, ◌^◌, ℤ, pos, neg_ℤ, Bool, true, false, not, ◌&&◌, ◌||◌, int_lt}
use Rattle.ctl_base.specs.declared.kind.ScalarKind.{ScalarKind}
use Rattle.ctl_base.specs.declared.kind.ScalarKind.TheVariants as kind
use Rattle.fix_num.specs.declared.integers.WholeOp.TheVariants as on_wholes
use Rattle.fix_num.specs.Fixed.{fix_add, fix_sub, fix_mul, fix_div, fix_neg}
use Rattle.fix_num.specs.Half.{half}
use Rattle.fix_num.specs.Whole.{whole, as_int, as_unsigned, from_whole, half_from_whole, to_int, to_unsigned, truth, of_bool}
use Rattle.lane_code.specs.declared.instr.Op1.{Op1}
use Rattle.lane_code.specs.declared.instr.Op1.TheVariants.{Neg, Not, Flip}
use Rattle.lane_code.specs.declared.instr.Op2.{Op2}
use Rattle.lane_code.specs.declared.instr.Op2.TheVariants.{Add, Sub, Mul, Div, Rem, And, Or, Xor, Shl, Shr, Eq, Ne, Lt, Le, Gt, Ge}

-- a word taken into a kind, which leaves a word of that kind as it is
abbrev pub as_kind : ℕ → ScalarKind → ℤ → ℤ
as_kind F kind.Bool z = of_bool (truth z)
as_kind F kind.Int z = as_int z
as_kind F kind.Unsigned z = as_unsigned z
as_kind F kind.Half z = half F z
as_kind F kind.Float z = z

-- ---- in which kinds an operation works

abbrev pub has_numbers : ScalarKind → Bool
has_numbers kind.Bool = false
has_numbers kind.Int = true
has_numbers kind.Unsigned = true
has_numbers kind.Half = true
has_numbers kind.Float = true

abbrev pub has_bits : ScalarKind → Bool
has_bits kind.Bool = false
has_bits kind.Int = true
has_bits kind.Unsigned = true
has_bits kind.Half = false
has_bits kind.Float = false

abbrev pub is_bool : ScalarKind → Bool
is_bool kind.Bool = true
is_bool kind.Int = false
is_bool kind.Unsigned = false
is_bool kind.Half = false
is_bool kind.Float = false

abbrev pub works_alone : Op1 → ScalarKind → Bool
works_alone Neg k = has_numbers k
works_alone Not k = is_bool k
works_alone Flip k = has_bits k

abbrev pub works_on_two : Op2 → ScalarKind → Bool
works_on_two Add k = has_numbers k
works_on_two Sub k = has_numbers k
works_on_two Mul k = has_numbers k
works_on_two Div k = has_numbers k
works_on_two Rem k = has_bits k
works_on_two And k = has_bits k
works_on_two Or k = has_bits k
works_on_two Xor k = has_bits k
works_on_two Shl k = has_bits k
works_on_two Shr k = has_bits k
works_on_two Eq k = has_numbers k
works_on_two Ne k = has_numbers k
works_on_two Lt k = has_numbers k
works_on_two Le k = has_numbers k
works_on_two Gt k = has_numbers k
works_on_two Ge k = has_numbers k

-- ---- what an operation makes of words of its kind; 0 where it does not work in the kind

-- 0 - a
abbrev pub negated : ℕ → ScalarKind → ℤ → ℤ
negated F kind.Bool a = pos 0
negated F kind.Int a = whole on_wholes.Sub true (pos 0) a
negated F kind.Unsigned a = whole on_wholes.Sub false (pos 0) a
negated F kind.Half a = half F (fix_neg a)
negated F kind.Float a = fix_neg a

-- the other truth value
abbrev pub turned : ScalarKind → ℤ → ℤ
turned kind.Bool a = of_bool (not (truth a))
turned kind.Int a = pos 0
turned kind.Unsigned a = pos 0
turned kind.Half a = pos 0
turned kind.Float a = pos 0

-- all 32 bits changed
abbrev pub flipped : ScalarKind → ℤ → ℤ
flipped kind.Bool a = pos 0
flipped kind.Int a = whole on_wholes.Xor true a (neg_ℤ (pos 1))
flipped kind.Unsigned a = whole on_wholes.Xor false a (pos (2 ^ 32 - 1))
flipped kind.Half a = pos 0
flipped kind.Float a = pos 0

abbrev pub of_one : ℕ → Op1 → ScalarKind → ℤ → ℤ
of_one F Neg k a = negated F k a
of_one F Not k a = turned k a
of_one F Flip k a = flipped k a

-- on two ints where `signed` is true, else on two unsigned
abbrev pub of_wholes : Op2 → Bool → ℤ → ℤ → ℤ
of_wholes Add signed a b = whole on_wholes.Add signed a b
of_wholes Sub signed a b = whole on_wholes.Sub signed a b
of_wholes Mul signed a b = whole on_wholes.Mul signed a b
of_wholes Div signed a b = whole on_wholes.Div signed a b
of_wholes Rem signed a b = whole on_wholes.Rem signed a b
of_wholes And signed a b = whole on_wholes.And signed a b
of_wholes Or signed a b = whole on_wholes.Or signed a b
of_wholes Xor signed a b = whole on_wholes.Xor signed a b
of_wholes Shl signed a b = whole on_wholes.Shl signed a b
of_wholes Shr signed a b = whole on_wholes.Shr signed a b
of_wholes Eq signed a b = pos 0
of_wholes Ne signed a b = pos 0
of_wholes Lt signed a b = pos 0
of_wholes Le signed a b = pos 0
of_wholes Gt signed a b = pos 0
of_wholes Ge signed a b = pos 0

-- on two floats
abbrev pub of_floats : ℕ → Op2 → ℤ → ℤ → ℤ
of_floats F Add a b = fix_add a b
of_floats F Sub a b = fix_sub a b
of_floats F Mul a b = fix_mul F a b
of_floats F Div a b = fix_div F a b
of_floats F Rem a b = pos 0
of_floats F And a b = pos 0
of_floats F Or a b = pos 0
of_floats F Xor a b = pos 0
of_floats F Shl a b = pos 0
of_floats F Shr a b = pos 0
of_floats F Eq a b = pos 0
of_floats F Ne a b = pos 0
of_floats F Lt a b = pos 0
of_floats F Le a b = pos 0
of_floats F Gt a b = pos 0
of_floats F Ge a b = pos 0

-- an operation on halves is that on floats, and the half of what it gives
abbrev pub arithmetic : ℕ → Op2 → ScalarKind → ℤ → ℤ → ℤ
arithmetic F op kind.Bool a b = pos 0
arithmetic F op kind.Int a b = of_wholes op true a b
arithmetic F op kind.Unsigned a b = of_wholes op false a b
arithmetic F op kind.Half a b = half F (of_floats F op a b)
arithmetic F op kind.Float a b = of_floats F op a b

-- a comparison gives a bool, and works in every kind but bool
abbrev pub compared : ScalarKind → Bool → ℤ
compared kind.Bool b = pos 0
compared kind.Int b = of_bool b
compared kind.Unsigned b = of_bool b
compared kind.Half b = of_bool b
compared kind.Float b = of_bool b

abbrev pub of_two : ℕ → Op2 → ScalarKind → ℤ → ℤ → ℤ
of_two F Add k a b = arithmetic F Add k a b
of_two F Sub k a b = arithmetic F Sub k a b
of_two F Mul k a b = arithmetic F Mul k a b
of_two F Div k a b = arithmetic F Div k a b
of_two F Rem k a b = arithmetic F Rem k a b
of_two F And k a b = arithmetic F And k a b
of_two F Or k a b = arithmetic F Or k a b
of_two F Xor k a b = arithmetic F Xor k a b
of_two F Shl k a b = arithmetic F Shl k a b
of_two F Shr k a b = arithmetic F Shr k a b
of_two F Eq k a b = compared k (not (int_lt a b) && not (int_lt b a))
of_two F Ne k a b = compared k (int_lt a b || int_lt b a)
of_two F Lt k a b = compared k (int_lt a b)
of_two F Le k a b = compared k (not (int_lt b a))
of_two F Gt k a b = compared k (int_lt b a)
of_two F Ge k a b = compared k (not (int_lt a b))

-- ---- conversions of a word of the first kind

-- between int and unsigned modulo 2^32, and by truncation from a fraction
abbrev pub to_int_from : ℕ → ScalarKind → ℤ → ℤ
to_int_from F kind.Bool z = z
to_int_from F kind.Int z = z
to_int_from F kind.Unsigned z = as_int z
to_int_from F kind.Half z = to_int F z
to_int_from F kind.Float z = to_int F z

abbrev pub to_unsigned_from : ℕ → ScalarKind → ℤ → ℤ
to_unsigned_from F kind.Bool z = z
to_unsigned_from F kind.Int z = as_unsigned z
to_unsigned_from F kind.Unsigned z = z
to_unsigned_from F kind.Half z = to_unsigned F z
to_unsigned_from F kind.Float z = to_unsigned F z

abbrev pub to_half_from : ℕ → ScalarKind → ℤ → ℤ
to_half_from F kind.Bool z = half_from_whole F z
to_half_from F kind.Int z = half_from_whole F z
to_half_from F kind.Unsigned z = half_from_whole F z
to_half_from F kind.Half z = z
to_half_from F kind.Float z = half F z

abbrev pub to_float_from : ℕ → ScalarKind → ℤ → ℤ
to_float_from F kind.Bool z = from_whole F z
to_float_from F kind.Int z = from_whole F z
to_float_from F kind.Unsigned z = from_whole F z
to_float_from F kind.Half z = z
to_float_from F kind.Float z = z

abbrev pub converted : ℕ → ScalarKind → ScalarKind → ℤ → ℤ
converted F from kind.Bool z = of_bool (truth z)
converted F from kind.Int z = to_int_from F from z
converted F from kind.Unsigned z = to_unsigned_from F from z
converted F from kind.Half z = to_half_from F from z
converted F from kind.Float z = to_float_from F from z
