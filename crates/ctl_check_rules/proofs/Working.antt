-- In which kinds operators work.
use Rattle.std.proofs.Common.{◌≡◌, refl}
use Rattle.ctl_base.specs.declared.kind.ScalarKind.{ScalarKind}
use Rattle.ctl_base.specs.declared.kind.ScalarKind.TheVariants as kind
use Rattle.ctl_tree.specs.declared.expression.UnaryOperator.TheVariants.{Minus, Plus, Not, BitNot}
use Rattle.fix_num.specs.declared.integers.WholeOp.TheVariants as whole_op
use Rattle.ctl_types.specs.declared.expression.Comparison.{Comparison}
use Rattle.ctl_types.specs.declared.expression.LinkOperator.TheVariants.{Arithmetic, Compare}
use Rattle.ctl_types.specs.Typing.{works, works_alone}
use Rattle.ctl_check_rules.specs.Means.{is_number, is_whole, is_bool}

pub minus_works : (k : ScalarKind) → works_alone Minus k ≡ is_number k
minus_works kind.Bool = refl
minus_works kind.Int = refl
minus_works kind.Unsigned = refl
minus_works kind.Half = refl
minus_works kind.Float = refl

pub plus_works : (k : ScalarKind) → works_alone Plus k ≡ is_number k
plus_works kind.Bool = refl
plus_works kind.Int = refl
plus_works kind.Unsigned = refl
plus_works kind.Half = refl
plus_works kind.Float = refl

pub not_works : (k : ScalarKind) → works_alone Not k ≡ is_bool k
not_works kind.Bool = refl
not_works kind.Int = refl
not_works kind.Unsigned = refl
not_works kind.Half = refl
not_works kind.Float = refl

pub flip_works : (k : ScalarKind) → works_alone BitNot k ≡ is_whole k
flip_works kind.Bool = refl
flip_works kind.Int = refl
flip_works kind.Unsigned = refl
flip_works kind.Half = refl
flip_works kind.Float = refl

pub add_works : (k : ScalarKind) → works (Arithmetic whole_op.Add) k ≡ is_number k
add_works kind.Bool = refl
add_works kind.Int = refl
add_works kind.Unsigned = refl
add_works kind.Half = refl
add_works kind.Float = refl

pub sub_works : (k : ScalarKind) → works (Arithmetic whole_op.Sub) k ≡ is_number k
sub_works kind.Bool = refl
sub_works kind.Int = refl
sub_works kind.Unsigned = refl
sub_works kind.Half = refl
sub_works kind.Float = refl

pub mul_works : (k : ScalarKind) → works (Arithmetic whole_op.Mul) k ≡ is_number k
mul_works kind.Bool = refl
mul_works kind.Int = refl
mul_works kind.Unsigned = refl
mul_works kind.Half = refl
mul_works kind.Float = refl

pub div_works : (k : ScalarKind) → works (Arithmetic whole_op.Div) k ≡ is_number k
div_works kind.Bool = refl
div_works kind.Int = refl
div_works kind.Unsigned = refl
div_works kind.Half = refl
div_works kind.Float = refl

pub rem_works : (k : ScalarKind) → works (Arithmetic whole_op.Rem) k ≡ is_whole k
rem_works kind.Bool = refl
rem_works kind.Int = refl
rem_works kind.Unsigned = refl
rem_works kind.Half = refl
rem_works kind.Float = refl

pub and_works : (k : ScalarKind) → works (Arithmetic whole_op.And) k ≡ is_whole k
and_works kind.Bool = refl
and_works kind.Int = refl
and_works kind.Unsigned = refl
and_works kind.Half = refl
and_works kind.Float = refl

pub or_works : (k : ScalarKind) → works (Arithmetic whole_op.Or) k ≡ is_whole k
or_works kind.Bool = refl
or_works kind.Int = refl
or_works kind.Unsigned = refl
or_works kind.Half = refl
or_works kind.Float = refl

pub xor_works : (k : ScalarKind) → works (Arithmetic whole_op.Xor) k ≡ is_whole k
xor_works kind.Bool = refl
xor_works kind.Int = refl
xor_works kind.Unsigned = refl
xor_works kind.Half = refl
xor_works kind.Float = refl

pub shl_works : (k : ScalarKind) → works (Arithmetic whole_op.Shl) k ≡ is_whole k
shl_works kind.Bool = refl
shl_works kind.Int = refl
shl_works kind.Unsigned = refl
shl_works kind.Half = refl
shl_works kind.Float = refl

pub shr_works : (k : ScalarKind) → works (Arithmetic whole_op.Shr) k ≡ is_whole k
shr_works kind.Bool = refl
shr_works kind.Int = refl
shr_works kind.Unsigned = refl
shr_works kind.Half = refl
shr_works kind.Float = refl

pub comparison_works : (c : Comparison) (k : ScalarKind) → works (Compare c) k ≡ is_number k
comparison_works c kind.Bool = refl
comparison_works c kind.Int = refl
comparison_works c kind.Unsigned = refl
comparison_works c kind.Half = refl
comparison_works c kind.Float = refl
