-- A raw as a scalar of a kind is in the range of that kind.
use Rattle.std.proofs.Common.{◌≡◌, ℤ, pos, neg_ℤ, ◌-ℤ◌, ◌^◌, ◌-◌, ◌≤◌, ◌<◌, ◌≤ℤ◌, Bool, true, false, not, ◌&&◌, ◌==◌, int_lt, unsigned_abs, ap, sym, subst, refl, arith, ◌∙◌, eq-eqb}
use Rattle.std.proofs.lemmas.Int.{ints}
use Rattle.fix_num.specs.declared.TheConstants.{FRACTION}
use Rattle.fix_num.specs.Fixed.{IsRaw, max_raw}
use Rattle.fix_num.specs.Half.{half, half_unit, IsHalf, HalfKeeps}
use Rattle.fix_num.specs.Whole.{IsWhole, truth, of_bool}
use Rattle.fix_num.specs.Ranges.{HalvesStayInRange, WholesStayInRange, CodesStayInRange}
use Rattle.ctl_base.specs.declared.kind.ScalarKind.{ScalarKind}
use Rattle.ctl_base.specs.declared.kind.ScalarKind.TheVariants as kind
use Rattle.ctl_types.specs.Scalars.{kind_of, word_of, scalar, is_within, in_range, converted}

-- the laws of the numbers
pub record Numbers : Type 0 where
  pub codes : CodesStayInRange
  pub halves : HalvesStayInRange
  pub wholes : WholesStayInRange
  pub keeps : HalfKeeps

no_less : (a b : ℤ) → b ≤ℤ a → int_lt a b ≡ false
no_less a b h = by (int_lt a b) refl where
  by : (t : Bool) → int_lt a b ≡ t → int_lt a b ≡ false
  by false e = e
  by true e = absurd (omega (arith, ints))

within : (low high z : ℤ) → low ≤ℤ z → z ≤ℤ high → is_within low high z ≡ true
within low high z a b = rw (no_less z low a, no_less high z b) refl

bool_within : (b : Bool) → in_range FRACTION kind.Bool (of_bool b) ≡ true
bool_within true = refl
bool_within false = refl

half_within : Numbers → (z : ℤ) → in_range FRACTION kind.Half (half FRACTION z) ≡ true
half_within n z =
    let same : half FRACTION (half FRACTION z) ≡ half FRACTION z = n.keeps FRACTION (half FRACTION z) ((n.halves FRACTION (omega arith)).half z) in
    let none : unsigned_abs (half FRACTION (half FRACTION z) -ℤ half FRACTION z) ≡ 0 = omega (arith, ints) in
    eq-eqb _ _ none

-- the word that a raw becomes in a kind
pub raw_converted : Numbers → (k : ScalarKind) (z : ℤ) → IsRaw z → in_range FRACTION k (converted FRACTION kind.Float k z) ≡ true
raw_converted n kind.Bool z r = bool_within (truth z)
raw_converted n kind.Int z r =
    let w = (n.wholes FRACTION (omega arith) (omega arith)).int z r in
    within (neg_ℤ (pos (2 ^ 31))) (pos (2 ^ 31 - 1)) (converted FRACTION kind.Float kind.Int z) w.0 (let u = w.1 in omega (arith, ints))
raw_converted n kind.Unsigned z r =
    let w = (n.wholes FRACTION (omega arith) (omega arith)).unsigned z r in
    within (pos 0) (pos (2 ^ 32 - 1)) (converted FRACTION kind.Float kind.Unsigned z) w.0 (let u = w.1 in omega (arith, ints))
raw_converted n kind.Half z r = half_within n z
raw_converted n kind.Float z r = within (neg_ℤ (pos max_raw)) (pos max_raw) z r.0 r.1

pub scalar_kind : (k : ScalarKind) (z : ℤ) → kind_of (scalar k z) ≡ k
scalar_kind kind.Bool z = refl
scalar_kind kind.Int z = refl
scalar_kind kind.Unsigned z = refl
scalar_kind kind.Half z = refl
scalar_kind kind.Float z = refl

bool_back : (b : Bool) → of_bool (truth (of_bool b)) ≡ of_bool b
bool_back true = refl
bool_back false = refl

-- the word of a scalar that is made of a raw
pub raw_word : Numbers → (k : ScalarKind) (z : ℤ) → IsRaw z → word_of (scalar k (converted FRACTION kind.Float k z)) ≡ converted FRACTION kind.Float k z
raw_word n kind.Bool z r = bool_back (truth z)
raw_word n kind.Int z r = refl
raw_word n kind.Unsigned z r = let w = (n.wholes FRACTION (omega arith) (omega arith)).unsigned z r in let l = w.0 in omega (arith, ints)
raw_word n kind.Half z r = refl
raw_word n kind.Float z r = refl
