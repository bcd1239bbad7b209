-- Operators and conversions keep the ranges of the kinds.
use Rattle.std.proofs.Common.{◌≡◌, ℤ, pos, neg_ℤ, ◌-ℤ◌, ◌^◌, ◌-◌, ◌≤◌, ◌<◌, ◌≤ℤ◌, Option, Some, None, is_some, Bool, true, false, not, ◌==◌, int_lt, unsigned_abs, ap, sym, subst, refl, arith, ◌∙◌, eqb-true, eq-eqb, List, [], inl, ltb-true, ltb-false}
use Rattle.std.proofs.lemmas.Int.{ints}
use Rattle.fix_num.specs.declared.TheConstants.{FRACTION}
use Rattle.fix_num.specs.declared.integers.WholeOp.{WholeOp}
use Rattle.fix_num.specs.declared.integers.WholeOp.TheVariants.{Add, Sub, Mul, Div, Rem, And, Or, Xor, Shl, Shr}
use Rattle.fix_num.specs.Fixed.{IsRaw, max_raw, fix_neg}
use Rattle.fix_num.specs.Half.{half, half_unit, IsHalf, HalfKeeps}
use Rattle.fix_num.specs.Whole.{IsWhole, truth, of_bool}
use Rattle.fix_num.specs.Ranges.{ArithmeticStaysInRange, HalvesStayInRange, WholesStayInRange, ArithmeticInRange, HalvesInRange, WholesInRange}
use Rattle.ctl_base.specs.declared.kind.ScalarKind.{ScalarKind}
use Rattle.ctl_base.specs.declared.kind.ScalarKind.TheVariants as kind
use Rattle.ctl_tree.specs.declared.expression.UnaryOperator.{UnaryOperator}
use Rattle.ctl_tree.specs.declared.expression.UnaryOperator.TheVariants.{Minus, Plus, Not, BitNot}
use Rattle.ctl_types.specs.declared.shape.Base.TheVariants.{Scalar}
use Rattle.ctl_types.specs.declared.program.Struct.{Struct as StructForm}
use Rattle.ctl_types.specs.declared.expression.Comparison.{Comparison}
use Rattle.ctl_types.specs.declared.expression.LinkOperator.{LinkOperator}
use Rattle.ctl_types.specs.declared.expression.LinkOperator.TheVariants.{Arithmetic, Compare}
use Rattle.ctl_types.specs.Scalars.{kind_of, word_of, scalar, is_within, in_range, fraction_operation, half_of, arithmetic, compares, comparison, operate, operator_kind, operate_alone, converted}
use Rattle.ctl_types.specs.Values.{one, fits}
use Rattle.ctl_types.specs.Typing.{works, works_alone}
use Rattle.ctl_laws.proofs.Values.{both, one_fits}

-- the laws of the numbers
pub record Numbers : Type 0 where
  pub arithmetic : ArithmeticInRange FRACTION
  pub halves : HalvesInRange FRACTION
  pub wholes : WholesInRange FRACTION
  pub keeps : HalfKeeps

pub numbers_of : ArithmeticStaysInRange → HalvesStayInRange → WholesStayInRange → HalfKeeps → Numbers
numbers_of a h w k = record { arithmetic = a FRACTION (omega arith); halves = h FRACTION (omega arith); wholes = w FRACTION (omega arith) (omega arith); keeps = k }

no_less : (a b : ℤ) → b ≤ℤ a → int_lt a b ≡ false
no_less a b h = by (int_lt a b) refl where
  by : (t : Bool) → int_lt a b ≡ t → int_lt a b ≡ false
  by false e = e
  by true e = absurd (omega (arith, ints))

at_least : (a b : ℤ) → not (int_lt a b) ≡ true → b ≤ℤ a
at_least a b h = by (int_lt a b) refl where
  by : (t : Bool) → int_lt a b ≡ t → b ≤ℤ a
  by false e = omega (arith, ints)
  by true e = let z : not true ≡ true = subst (λ (t : Bool). not t ≡ true) e h in absurd (cc)

pub within : (low high z : ℤ) → low ≤ℤ z → z ≤ℤ high → is_within low high z ≡ true
within low high z a b = rw (no_less z low a, no_less high z b) refl

pub bounds : (low high z : ℤ) → is_within low high z ≡ true → (low ≤ℤ z) × (z ≤ℤ high)
bounds low high z h = let b = both (not (int_lt z low)) _ h in (at_least z low b.0, at_least high z b.1)

pub raw_within : (z : ℤ) → IsRaw z → in_range FRACTION kind.Float z ≡ true
raw_within z r = within (neg_ℤ (pos max_raw)) (pos max_raw) z r.0 r.1

pub is_raw : (z : ℤ) → in_range FRACTION kind.Float z ≡ true → IsRaw z
is_raw z h = bounds (neg_ℤ (pos max_raw)) (pos max_raw) z h

int_within : (z : ℤ) → IsWhole true z → in_range FRACTION kind.Int z ≡ true
int_within z w = within (neg_ℤ (pos (2 ^ 31))) (pos (2 ^ 31 - 1)) z w.0 (omega (arith, ints))

is_int : (z : ℤ) → in_range FRACTION kind.Int z ≡ true → IsWhole true z
is_int z h = let b = bounds (neg_ℤ (pos (2 ^ 31))) (pos (2 ^ 31 - 1)) z h in (b.0, let c = b.1 in omega (arith, ints))

unsigned_within : (z : ℤ) → IsWhole false z → in_range FRACTION kind.Unsigned z ≡ true
unsigned_within z w = within (pos 0) (pos (2 ^ 32 - 1)) z w.0 (omega (arith, ints))

is_unsigned : (z : ℤ) → in_range FRACTION kind.Unsigned z ≡ true → IsWhole false z
is_unsigned z h = let b = bounds (pos 0) (pos (2 ^ 32 - 1)) z h in (b.0, let c = b.1 in omega (arith, ints))

pub bool_within : (b : Bool) → in_range FRACTION kind.Bool (of_bool b) ≡ true
bool_within true = refl
bool_within false = refl

bool_whole : (signed : Bool) (z : ℤ) → in_range FRACTION kind.Bool z ≡ true → IsWhole signed z
bool_whole true z h = let b = bounds (pos 0) (pos 1) z h in let l = b.0 in let u = b.1 in (omega (arith, ints), omega (arith, ints))
bool_whole false z h = let b = bounds (pos 0) (pos 1) z h in let l = b.0 in let u = b.1 in (omega (arith, ints), omega (arith, ints))

no_distance : (a b : ℤ) → unsigned_abs (a -ℤ b) == 0 ≡ true → a ≡ b
no_distance a b h = let e : unsigned_abs (a -ℤ b) ≡ 0 = eqb-true _ _ h in omega (arith, ints)

distance : (a b : ℤ) → a ≡ b → unsigned_abs (a -ℤ b) == 0 ≡ true
distance a b e = let d : unsigned_abs (a -ℤ b) ≡ 0 = omega (arith, ints) in eq-eqb _ _ d

module _ (n : Numbers) where
  pub half_within : (h : ℤ) → IsHalf (half_unit FRACTION) h → in_range FRACTION kind.Half h ≡ true
  half_within h is = distance (half FRACTION h) h (n.keeps FRACTION h is)

  is_half : (h : ℤ) → in_range FRACTION kind.Half h ≡ true → IsHalf (half_unit FRACTION) h
  is_half h r = subst (IsHalf (half_unit FRACTION)) (no_distance (half FRACTION h) h r) (n.halves.half h)

  pub half_raw : (h : ℤ) → in_range FRACTION kind.Half h ≡ true → IsRaw h
  half_raw h r = n.halves.raw h (is_half h r)

  pub halved : (z : ℤ) → in_range FRACTION kind.Half (half FRACTION z) ≡ true
  halved z = half_within (half FRACTION z) (n.halves.half z)

  -- what is there, in the range of a kind
  abbrev pub Gives : ScalarKind → Option ℤ → Type 0
  Gives k o = (z : ℤ) × (o ≡ Some z) × (in_range FRACTION k z ≡ true)

  fraction_gives : (op : WholeOp) (a b : ℤ) → is_some (fraction_operation FRACTION op (pos 0) (pos 0)) ≡ true → Gives kind.Float (fraction_operation FRACTION op a b)
  fraction_gives Add a b w = (_, refl, raw_within _ (n.arithmetic.sum a b))
  fraction_gives Sub a b w = (_, refl, raw_within _ (n.arithmetic.difference a b))
  fraction_gives Mul a b w = (_, refl, raw_within _ (n.arithmetic.product a b))
  fraction_gives Div a b w = (_, refl, raw_within _ (n.arithmetic.quotient a b))
  fraction_gives Rem a b w = absurd (cc)
  fraction_gives And a b w = absurd (cc)
  fraction_gives Or a b w = absurd (cc)
  fraction_gives Xor a b w = absurd (cc)
  fraction_gives Shl a b w = absurd (cc)
  fraction_gives Shr a b w = absurd (cc)

  half_some : (o : Option ℤ) → is_some (half_of FRACTION o) ≡ true → is_some o ≡ true
  half_some None h = absurd (cc)
  half_some (Some z) h = refl

  half_gives : (o : Option ℤ) → Gives kind.Float o → Gives kind.Half (half_of FRACTION o)
  half_gives o g = (half FRACTION g.0, ap (half_of FRACTION) g.1, halved g.0)

  arithmetic_gives : (op : WholeOp) (k : ScalarKind) (a b : ℤ) → is_some (arithmetic FRACTION op k (pos 0) (pos 0)) ≡ true → in_range FRACTION k a ≡ true → in_range FRACTION k b ≡ true → Gives k (arithmetic FRACTION op k a b)
  arithmetic_gives op kind.Bool a b w h j = absurd (cc)
  arithmetic_gives op kind.Int a b w h j = (_, refl, int_within _ (n.wholes.operation op true a b (is_int a h) (is_int b j)))
  arithmetic_gives op kind.Unsigned a b w h j = (_, refl, unsigned_within _ (n.wholes.operation op false a b (is_unsigned a h) (is_unsigned b j)))
  arithmetic_gives op kind.Half a b w h j = half_gives (fraction_operation FRACTION op a b) (fraction_gives op a b (half_some (fraction_operation FRACTION op (pos 0) (pos 0)) w))
  arithmetic_gives op kind.Float a b w h j = fraction_gives op a b w

  comparison_gives : (c : Comparison) (k : ScalarKind) (a b : ℤ) → is_some (comparison c k (pos 0) (pos 0)) ≡ true → Gives kind.Bool (comparison c k a b)
  comparison_gives c kind.Bool a b w = absurd (cc)
  comparison_gives c kind.Int a b w = (_, refl, bool_within (compares c a b))
  comparison_gives c kind.Unsigned a b w = (_, refl, bool_within (compares c a b))
  comparison_gives c kind.Half a b w = (_, refl, bool_within (compares c a b))
  comparison_gives c kind.Float a b w = (_, refl, bool_within (compares c a b))

  pub operate_gives : (op : LinkOperator) (k : ScalarKind) (a b : ℤ) → works op k ≡ true → in_range FRACTION k a ≡ true → in_range FRACTION k b ≡ true → Gives (operator_kind op k) (operate FRACTION op k a b)
  operate_gives (Arithmetic op) k a b w h j = arithmetic_gives op k a b w h j
  operate_gives (Compare c) k a b w h j = comparison_gives c k a b w

  minus_gives : (k : ScalarKind) (a : ℤ) → works_alone Minus k ≡ true → in_range FRACTION k a ≡ true → Gives k (operate_alone FRACTION Minus k a)
  minus_gives kind.Bool a w h = absurd (cc)
  minus_gives kind.Int a w h = (_, refl, int_within _ (n.wholes.operation Sub true (pos 0) a (is_int (pos 0) refl) (is_int a h)))
  minus_gives kind.Unsigned a w h = (_, refl, unsigned_within _ (n.wholes.operation Sub false (pos 0) a (is_unsigned (pos 0) refl) (is_unsigned a h)))
  minus_gives kind.Half a w h = (_, refl, halved (fix_neg a))
  minus_gives kind.Float a w h = (_, refl, raw_within _ (n.arithmetic.negative a (is_raw a h)))

  plus_gives : (k : ScalarKind) (a : ℤ) → works_alone Plus k ≡ true → in_range FRACTION k a ≡ true → Gives k (operate_alone FRACTION Plus k a)
  plus_gives kind.Bool a w h = absurd (cc)
  plus_gives kind.Int a w h = (a, refl, h)
  plus_gives kind.Unsigned a w h = (a, refl, h)
  plus_gives kind.Half a w h = (a, refl, h)
  plus_gives kind.Float a w h = (a, refl, h)

  not_gives : (k : ScalarKind) (a : ℤ) → works_alone Not k ≡ true → Gives k (operate_alone FRACTION Not k a)
  not_gives kind.Bool a w = (_, refl, bool_within (not (truth a)))
  not_gives kind.Int a w = absurd (cc)
  not_gives kind.Unsigned a w = absurd (cc)
  not_gives kind.Half a w = absurd (cc)
  not_gives kind.Float a w = absurd (cc)

  flip_gives : (k : ScalarKind) (a : ℤ) → works_alone BitNot k ≡ true → in_range FRACTION k a ≡ true → Gives k (operate_alone FRACTION BitNot k a)
  flip_gives kind.Bool a w h = absurd (cc)
  flip_gives kind.Int a w h = (_, refl, int_within _ (n.wholes.operation Xor true a (neg_ℤ (pos 1)) (is_int a h) (is_int (neg_ℤ (pos 1)) refl)))
  flip_gives kind.Unsigned a w h = (_, refl, unsigned_within _ (n.wholes.operation Xor false a (pos (2 ^ 32 - 1)) (is_unsigned a h) (is_unsigned (pos (2 ^ 32 - 1)) refl)))
  flip_gives kind.Half a w h = absurd (cc)
  flip_gives kind.Float a w h = absurd (cc)

  pub alone_gives : (op : UnaryOperator) (k : ScalarKind) (a : ℤ) → works_alone op k ≡ true → in_range FRACTION k a ≡ true → Gives k (operate_alone FRACTION op k a)
  alone_gives Minus k a w h = minus_gives k a w h
  alone_gives Plus k a w h = plus_gives k a w h
  alone_gives Not k a w h = not_gives k a w
  alone_gives BitNot k a w h = flip_gives k a w h

  pub converted_range : (a b : ScalarKind) (z : ℤ) → in_range FRACTION a z ≡ true → in_range FRACTION b (converted FRACTION a b z) ≡ true
  converted_range a kind.Bool z h = bool_within (truth z)
  converted_range kind.Bool kind.Int z h = int_within z (bool_whole true z h)
  converted_range kind.Int kind.Int z h = h
  converted_range kind.Unsigned kind.Int z h = int_within _ (n.wholes.wrapped true z)
  converted_range kind.Half kind.Int z h = int_within _ (n.wholes.int z (half_raw z h))
  converted_range kind.Float kind.Int z h = int_within _ (n.wholes.int z (is_raw z h))
  converted_range kind.Bool kind.Unsigned z h = unsigned_within z (bool_whole false z h)
  converted_range kind.Int kind.Unsigned z h = unsigned_within _ (n.wholes.wrapped false z)
  converted_range kind.Unsigned kind.Unsigned z h = h
  converted_range kind.Half kind.Unsigned z h = unsigned_within _ (n.wholes.unsigned z (half_raw z h))
  converted_range kind.Float kind.Unsigned z h = unsigned_within _ (n.wholes.unsigned z (is_raw z h))
  converted_range kind.Bool kind.Half z h = half_within _ (n.wholes.half z)
  converted_range kind.Int kind.Half z h = half_within _ (n.wholes.half z)
  converted_range kind.Unsigned kind.Half z h = half_within _ (n.wholes.half z)
  converted_range kind.Half kind.Half z h = h
  converted_range kind.Float kind.Half z h = halved z
  converted_range kind.Bool kind.Float z h = raw_within _ (n.wholes.number z)
  converted_range kind.Int kind.Float z h = raw_within _ (n.wholes.number z)
  converted_range kind.Unsigned kind.Float z h = raw_within _ (n.wholes.number z)
  converted_range kind.Half kind.Float z h = raw_within z (half_raw z h)
  converted_range kind.Float kind.Float z h = h

  -- each scalar is a raw
  pub kind_raw : (k : ScalarKind) (z : ℤ) → in_range FRACTION k z ≡ true → IsRaw z
  kind_raw kind.Bool z h = let w = bool_whole true z h in let l = w.0 in let u = w.1 in (omega (arith, ints), omega (arith, ints))
  kind_raw kind.Int z h = let w = is_int z h in let l = w.0 in let u = w.1 in (omega (arith, ints), omega (arith, ints))
  kind_raw kind.Unsigned z h = let w = is_unsigned z h in let l = w.0 in let u = w.1 in (omega (arith, ints), omega (arith, ints))
  kind_raw kind.Half z h = half_raw z h
  kind_raw kind.Float z h = is_raw z h

  pub zero_range : (k : ScalarKind) → in_range FRACTION k (pos 0) ≡ true
  zero_range kind.Bool = refl
  zero_range kind.Int = refl
  zero_range kind.Unsigned = refl
  zero_range kind.Half = half_within (pos 0) (0, 0, record { value = refl; few = omega arith; range = omega arith; full = inl refl })
  zero_range kind.Float = refl

-- ---- scalars of words

pub scalar_kind : (k : ScalarKind) (z : ℤ) → kind_of (scalar k z) ≡ k
scalar_kind kind.Bool z = refl
scalar_kind kind.Int z = refl
scalar_kind kind.Unsigned z = refl
scalar_kind kind.Half z = refl
scalar_kind kind.Float z = refl

bit_back : (z : ℤ) → in_range FRACTION kind.Bool z ≡ true → of_bool (truth z) ≡ z
bit_back z h = by (truth z) refl where
  by : (t : Bool) → truth z ≡ t → of_bool (truth z) ≡ z
  by true e = let b = bounds (pos 0) (pos 1) z h in let l = b.0 in let u = b.1 in let p : 0 < unsigned_abs z = ltb-true _ _ e in let q : pos 1 ≡ z = omega (arith, ints) in ap of_bool e ∙ q
  by false e = let b = bounds (pos 0) (pos 1) z h in let l = b.0 in let u = b.1 in let p : unsigned_abs z ≤ 0 = ltb-false _ _ e in let q : pos 0 ≡ z = omega (arith, ints) in ap of_bool e ∙ q

pub scalar_word : (k : ScalarKind) (z : ℤ) → in_range FRACTION k z ≡ true → word_of (scalar k z) ≡ z
scalar_word kind.Bool z h = bit_back z h
scalar_word kind.Int z h = refl
scalar_word kind.Unsigned z h = let b = is_unsigned z h in let l = b.0 in omega (arith, ints)
scalar_word kind.Half z h = refl
scalar_word kind.Float z h = refl

pub scalar_fits : (structs : List StructForm) (k : ScalarKind) (z : ℤ) → in_range FRACTION k z ≡ true → fits structs (one (scalar k z)) [] (Some (Scalar k)) ≡ true
scalar_fits structs k z h = one_fits structs (scalar k z) k (scalar_kind k z) (subst (λ (w : ℤ). in_range FRACTION k w ≡ true) (sym (scalar_word k z h)) h)
