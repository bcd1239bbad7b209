-- Scalars as words, and what operators and conversions make of the words. The word of a bool is 0 or 1, that of a
-- whole number is the number, that of a half or a float is its raw. F is the number of fraction bits.
use Rattle.std.specs.Prelude.{ℕ, ◌-◌, ◌^◌, ℤ, pos, neg_ℤ, ◌-ℤ◌, Bool, true, false, not, ◌&&◌, ◌||◌, ◌==◌, int_lt, unsigned_abs, Option, Some, None}
use Rattle.ctl_base.specs.declared.kind.ScalarKind.{ScalarKind}
use Rattle.ctl_base.specs.declared.kind.ScalarKind.TheVariants as kind
use Rattle.ctl_tree.specs.declared.expression.UnaryOperator.{UnaryOperator}
use Rattle.ctl_tree.specs.declared.expression.UnaryOperator.TheVariants.{Minus, Plus, Not, BitNot}
use Rattle.fix_num.specs.declared.integers.WholeOp.{WholeOp}
use Rattle.fix_num.specs.declared.integers.WholeOp.TheVariants.{Add, Sub, Mul, Div, Rem, And, Or, Xor, Shl, Shr}
use Rattle.fix_num.specs.Fixed.{max_raw, fix_add, fix_sub, fix_mul, fix_div, fix_neg}
use Rattle.fix_num.specs.Half.{half}
use Rattle.fix_num.specs.Whole.{whole, as_int, as_unsigned, from_whole, half_from_whole, to_int, to_unsigned, truth, of_bool}
use Rattle.ctl_types.specs.declared.scalar.Scalar.{Scalar}
use Rattle.ctl_types.specs.declared.scalar.Scalar.TheVariants.{Bool as BoolScalar, Int, Unsigned, Half, Float}
use Rattle.ctl_types.specs.declared.expression.Comparison.{Comparison}
use Rattle.ctl_types.specs.declared.expression.Comparison.TheVariants.{Equal, NotEqual, Less, AtMost, Greater, AtLeast}
use Rattle.ctl_types.specs.declared.expression.LinkOperator.{LinkOperator}
use Rattle.ctl_types.specs.declared.expression.LinkOperator.TheVariants.{Arithmetic, Compare}

-- the kind of a scalar
abbrev pub kind_of : Scalar → ScalarKind
kind_of (BoolScalar b) = kind.Bool
kind_of (Int z) = kind.Int
kind_of (Unsigned n) = kind.Unsigned
kind_of (Half z) = kind.Half
kind_of (Float z) = kind.Float

-- the word of a scalar
abbrev pub word_of : Scalar → ℤ
word_of (BoolScalar b) = of_bool b
word_of (Int z) = z
word_of (Unsigned n) = pos n
word_of (Half z) = z
word_of (Float z) = z

-- the scalar of a kind with this word
abbrev pub scalar : ScalarKind → ℤ → Scalar
scalar kind.Bool z = BoolScalar (truth z)
scalar kind.Int z = Int z
scalar kind.Unsigned z = Unsigned (unsigned_abs z)
scalar kind.Half z = Half z
scalar kind.Float z = Float z

-- one kind
abbrev pub same_kind : ScalarKind → ScalarKind → Bool
same_kind kind.Bool kind.Bool = true
same_kind kind.Int kind.Int = true
same_kind kind.Unsigned kind.Unsigned = true
same_kind kind.Half kind.Half = true
same_kind kind.Float kind.Float = true
same_kind a b = false

-- a whole number from low to high
abbrev pub is_within : ℤ → ℤ → ℤ → Bool
is_within low high z = not (int_lt z low) && not (int_lt high z)

-- a word of this kind: 0 or 1, an int, an unsigned, the raw of a half, or a raw
abbrev pub in_range : ℕ → ScalarKind → ℤ → Bool
in_range F kind.Bool z = is_within (pos 0) (pos 1) z
in_range F kind.Int z = is_within (neg_ℤ (pos (2 ^ 31))) (pos (2 ^ 31 - 1)) z
in_range F kind.Unsigned z = is_within (pos 0) (pos (2 ^ 32 - 1)) z
in_range F kind.Half z = unsigned_abs (half F z -ℤ z) == 0
in_range F kind.Float z = is_within (neg_ℤ (pos max_raw)) (pos max_raw) z

-- the four operations that numbers with a fraction have
abbrev pub fraction_operation : ℕ → WholeOp → ℤ → ℤ → Option ℤ
fraction_operation F Add a b = Some (fix_add a b)
fraction_operation F Sub a b = Some (fix_sub a b)
fraction_operation F Mul a b = Some (fix_mul F a b)
fraction_operation F Div a b = Some (fix_div F a b)
fraction_operation F Rem a b = None
fraction_operation F And a b = None
fraction_operation F Or a b = None
fraction_operation F Xor a b = None
fraction_operation F Shl a b = None
fraction_operation F Shr a b = None

-- the half of a number, where there is one
abbrev pub half_of : ℕ → Option ℤ → Option ℤ
half_of F None = None
half_of F (Some z) = Some (half F z)

-- an operation on two words of one kind, and none where it does not work in the kind: bools are numbers by then
abbrev pub arithmetic : ℕ → WholeOp → ScalarKind → ℤ → ℤ → Option ℤ
arithmetic F op kind.Bool a b = None
arithmetic F op kind.Int a b = Some (whole op true a b)
arithmetic F op kind.Unsigned a b = Some (whole op false a b)
arithmetic F op kind.Half a b = half_of F (fraction_operation F op a b)
arithmetic F op kind.Float a b = fraction_operation F op a b

-- whether two words of one kind compare so
abbrev pub compares : Comparison → ℤ → ℤ → Bool
compares Equal a b = not (int_lt a b) && not (int_lt b a)
compares NotEqual a b = int_lt a b || int_lt b a
compares Less a b = int_lt a b
compares AtMost a b = not (int_lt b a)
compares Greater a b = int_lt b a
compares AtLeast a b = not (int_lt a b)

-- a comparison works in every kind but bool
abbrev pub comparison : Comparison → ScalarKind → ℤ → ℤ → Option ℤ
comparison c kind.Bool a b = None
comparison c kind.Int a b = Some (of_bool (compares c a b))
comparison c kind.Unsigned a b = Some (of_bool (compares c a b))
comparison c kind.Half a b = Some (of_bool (compares c a b))
comparison c kind.Float a b = Some (of_bool (compares c a b))

-- what the operator of a link makes of two words of the kind that it works in
abbrev pub operate : ℕ → LinkOperator → ScalarKind → ℤ → ℤ → Option ℤ
operate F (Arithmetic op) k a b = arithmetic F op k a b
operate F (Compare c) k a b = comparison c k a b

-- the kind of what it makes: a comparison gives a bool
abbrev pub operator_kind : LinkOperator → ScalarKind → ScalarKind
operator_kind (Arithmetic op) k = k
operator_kind (Compare c) k = kind.Bool

-- 0 - a
abbrev pub negated : ℕ → ScalarKind → ℤ → Option ℤ
negated F kind.Bool a = None
negated F kind.Int a = Some (whole Sub true (pos 0) a)
negated F kind.Unsigned a = Some (whole Sub false (pos 0) a)
negated F kind.Half a = Some (half F (fix_neg a))
negated F kind.Float a = Some (fix_neg a)

-- all 32 bits changed
abbrev pub flipped : ScalarKind → ℤ → Option ℤ
flipped kind.Bool a = None
flipped kind.Int a = Some (whole Xor true a (neg_ℤ (pos 1)))
flipped kind.Unsigned a = Some (whole Xor false a (pos (2 ^ 32 - 1)))
flipped kind.Half a = None
flipped kind.Float a = None

-- a number as it is
abbrev pub kept : ScalarKind → ℤ → Option ℤ
kept kind.Bool a = None
kept kind.Int a = Some a
kept kind.Unsigned a = Some a
kept kind.Half a = Some a
kept kind.Float a = Some a

-- the other truth value
abbrev pub turned : ScalarKind → ℤ → Option ℤ
turned kind.Bool a = Some (of_bool (not (truth a)))
turned kind.Int a = None
turned kind.Unsigned a = None
turned kind.Half a = None
turned kind.Float a = None

-- what an operator before its operand makes of a word of the kind that it works in; the kind stays
abbrev pub operate_alone : ℕ → UnaryOperator → ScalarKind → ℤ → Option ℤ
operate_alone F Minus k a = negated F k a
operate_alone F Plus k a = kept k a
operate_alone F Not k a = turned k a
operate_alone F BitNot k a = flipped k a

-- a number with a fraction from a word of each kind
abbrev pub to_float : ℕ → ScalarKind → ℤ → ℤ
to_float F kind.Bool z = from_whole F z
to_float F kind.Int z = from_whole F z
to_float F kind.Unsigned z = from_whole F z
to_float F kind.Half z = z
to_float F kind.Float z = z

-- a half from a word of each kind
abbrev pub to_half : ℕ → ScalarKind → ℤ → ℤ
to_half F kind.Bool z = half_from_whole F z
to_half F kind.Int z = half_from_whole F z
to_half F kind.Unsigned z = half_from_whole F z
to_half F kind.Half z = z
to_half F kind.Float z = half F z

-- an int and an unsigned from a word of each kind: modulo 2^32 between each other, by truncation from a fraction
abbrev pub int_from : ℕ → ScalarKind → ℤ → ℤ
int_from F kind.Bool z = z
int_from F kind.Int z = z
int_from F kind.Unsigned z = as_int z
int_from F kind.Half z = to_int F z
int_from F kind.Float z = to_int F z

-- an unsigned from a word of each kind
abbrev pub unsigned_from : ℕ → ScalarKind → ℤ → ℤ
unsigned_from F kind.Bool z = z
unsigned_from F kind.Int z = as_unsigned z
unsigned_from F kind.Unsigned z = z
unsigned_from F kind.Half z = to_unsigned F z
unsigned_from F kind.Float z = to_unsigned F z

-- the word that a word of the first kind becomes in the second
abbrev pub converted : ℕ → ScalarKind → ScalarKind → ℤ → ℤ
converted F a kind.Bool z = of_bool (truth z)
converted F a kind.Int z = int_from F a z
converted F a kind.Unsigned z = unsigned_from F a z
converted F a kind.Half z = to_half F a z
converted F a kind.Float z = to_float F a z
