-- Literals and operators.
use Rattle.std.proofs.Common.{◌≡◌, ℕ, zero, suc, ◌^◌, ◌-◌, ◌+◌, ◌≤◌, ◌<◌, max, min, ℤ, pos, neg_ℤ, ◌≤ℤ◌, List, [], ◌∷◌, ◌++◌, map, length, Option, Some, None, Ok, Err, Bool, true, false, not, ◌&&◌, if◌then◌else◌, int_lt, nat_lt, refl, sym, ap, subst, ◌∙◌, arith, lt-ltb, ltb-true, ltb-false, add-one}
use Rattle.std.proofs.lemmas.Int.{ints}
use Rattle.fix_num.specs.declared.TheConstants.{FRACTION}
use Rattle.fix_num.specs.Fixed.{IsRaw, max_raw, sat}
use Rattle.fix_num.specs.Half.{half}
use Rattle.fix_num.specs.Whole.{of_bool}
use Rattle.ctl_base.specs.declared.kind.ScalarKind.{ScalarKind}
use Rattle.ctl_base.specs.declared.kind.ScalarKind.TheVariants as kind
use Rattle.ctl_tree.specs.declared.expression.LiteralValue.{LiteralValue}
use Rattle.ctl_tree.specs.declared.expression.LiteralValue.TheVariants.{Whole, Point, HalfPoint, Truth}
use Rattle.ctl_tree.specs.declared.expression.UnaryOperator.{UnaryOperator}
use Rattle.ctl_tree.specs.declared.expression.UnaryOperator.TheVariants.{Minus, Plus, Not, BitNot}
use Rattle.ctl_tree.specs.declared.expression.Operator.{Operator}
use Rattle.ctl_types.specs.declared.scalar.Scalar.TheVariants as number
use Rattle.ctl_types.specs.declared.shape.Base.{Base}
use Rattle.ctl_types.specs.declared.shape.Base.TheVariants.{Scalar}
use Rattle.ctl_types.specs.declared.expression.LinkOperator.{LinkOperator}
use Rattle.ctl_types.specs.declared.expression.Logic.{Logic}
use Rattle.ctl_types.specs.declared.expression.Conversion.TheVariants.{Same}
use Rattle.ctl_types.specs.declared.expression.TypedExpr.{TypedExpr}
use Rattle.ctl_types.specs.declared.expression.Operand.{Operand}
use Rattle.ctl_types.specs.declared.expression.TypedLink.{TypedLink, roll-TypedLink}
use Rattle.ctl_types.specs.Scalars.{kind_of, word_of, is_within, in_range, operator_kind}
use Rattle.ctl_types.specs.Typing.{Typed, scalar_type, Scene, Variables, is_scalar, as_converted, OperandType, taken, later, number_kind, kind_alone, works, works_alone, is_kind_between, is_kind_alone, links_type, all_scalars, depth_of, link_type, unary_type, logic_type, chain_type, expr_type}
use Rattle.ctl_scope.specs.declared.kind.CheckKind.TheVariants.{Mismatch}
use Rattle.ctl_check_rules.specs.declared.checked.Checked.{Checked}
use Rattle.ctl_check_rules.specs.declared.checked.Linked.{Linked}
use Rattle.ctl_check_rules.specs.declared.checked.Joined.{Joined}
use Rattle.ctl_check_rules.specs.Faults.{Verdict}
use Rattle.ctl_check_rules.specs.Operators.{of_kind, whole_scalar, short, literal_scalar, literal_checked, scalar_kind, between, operand, unary_in, unary_of, unary_rule, Linking, link_operator, logic_of, with_link, link_in, link_of, link_rule, link_checked, linked, unlinked, base_of_kind, chain_checked, with_operand, join_of, join_rule, join_checked, joined, unjoined_of, unjoined, logic_checked, chain_by, chained}
use Rattle.ctl_check_laws.specs.Accepted.{known, value_stands, IsAccepted}
use Rattle.ctl_check_laws.proofs.Basics.{both, and_true, length_more, map_long, Good, good_then, good_at, good_if}
use Rattle.ctl_check_laws.proofs.Shapes.{kind_same, scalar_stands}
use Rattle.ctl_check_laws.proofs.Types as types
use Rattle.ctl_check_laws.proofs.Types.{scalar, scalar_with, known_as, besides_none, links_last, operand_of}
use Rattle.ctl_check_laws.proofs.Kept.{Kept, scalar_accepted, less_max, scalar_at}

-- ---- the ranges of literals

no_less : (a b : ℤ) → b ≤ℤ a → int_lt a b ≡ false
no_less a b h = by (int_lt a b) refl where
  by : (t : Bool) → int_lt a b ≡ t → int_lt a b ≡ false
  by false e = e
  by true e = absurd (omega (arith, ints))

within : (low high z : ℤ) → low ≤ℤ z → z ≤ℤ high → is_within low high z ≡ true
within low high z a b = rw (no_less z low a, no_less high z b) refl

whole_range : (n : ℕ) → n < 2 ^ 32 → in_range FRACTION (kind_of (whole_scalar n)) (word_of (whole_scalar n)) ≡ true
whole_range n l = by (nat_lt n (2 ^ 31)) refl where
  by : (b : Bool) → nat_lt n (2 ^ 31) ≡ b → in_range FRACTION (kind_of (if b then number.Int (pos n) else number.Unsigned n)) (word_of (if b then number.Int (pos n) else number.Unsigned n)) ≡ true
  by true e = let m : n < 2 ^ 31 = ltb-true _ _ e in within (neg_ℤ (pos (2 ^ 31))) (pos (2 ^ 31 - 1)) (pos n) (omega (arith, ints)) (omega (arith, ints))
  by false e = within (pos 0) (pos (2 ^ 32 - 1)) (pos n) (omega (arith, ints)) (omega (arith, ints))

-- a literal is in the range of its kind, whatever number it is written with
abbrev pub InRange : LiteralValue → Type 0
InRange value = in_range FRACTION (kind_of (literal_scalar value)) (word_of (literal_scalar value)) ≡ true

pub literal_range : ((z : ℤ) → IsRaw (sat z)) → ((z : ℤ) → in_range FRACTION kind.Half (half FRACTION z) ≡ true) → (value : LiteralValue) → InRange value
literal_range raw halved (Whole n) = whole_range (short n) (let l : min n (2 ^ 32 - 1) < 2 ^ 32 = omega arith in l)
literal_range raw halved (Point z) = within (neg_ℤ (pos max_raw)) (pos max_raw) (sat z) (raw z).0 (raw z).1
literal_range raw halved (HalfPoint z) = halved z
literal_range raw halved (Truth true) = refl
literal_range raw halved (Truth false) = refl

-- ---- kinds

converted_is : (a k : ScalarKind) (depth : ℕ) → as_converted (between a k) (scalar a depth) ≡ scalar k depth
converted_is kind.Bool kind.Bool depth = refl
converted_is kind.Bool kind.Int depth = refl
converted_is kind.Bool kind.Unsigned depth = refl
converted_is kind.Bool kind.Half depth = refl
converted_is kind.Bool kind.Float depth = refl
converted_is kind.Int kind.Bool depth = refl
converted_is kind.Int kind.Int depth = refl
converted_is kind.Int kind.Unsigned depth = refl
converted_is kind.Int kind.Half depth = refl
converted_is kind.Int kind.Float depth = refl
converted_is kind.Unsigned kind.Bool depth = refl
converted_is kind.Unsigned kind.Int depth = refl
converted_is kind.Unsigned kind.Unsigned depth = refl
converted_is kind.Unsigned kind.Half depth = refl
converted_is kind.Unsigned kind.Float depth = refl
converted_is kind.Half kind.Bool depth = refl
converted_is kind.Half kind.Int depth = refl
converted_is kind.Half kind.Unsigned depth = refl
converted_is kind.Half kind.Half depth = refl
converted_is kind.Half kind.Float depth = refl
converted_is kind.Float kind.Bool depth = refl
converted_is kind.Float kind.Int depth = refl
converted_is kind.Float kind.Unsigned depth = refl
converted_is kind.Float kind.Half depth = refl
converted_is kind.Float kind.Float depth = refl

-- a scalar is converted to the kind that is wanted
pub converted_of : (a k : ScalarKind) (t : Typed) (depth : ℕ) → t ≡ scalar a depth → as_converted (between a k) t ≡ scalar k depth
converted_of a k t depth e = ap (as_converted (between a k)) e ∙ converted_is a k depth

pub is_scalar_of : (k : ScalarKind) (t : Typed) (depth : ℕ) → t ≡ scalar k depth → is_scalar k t ≡ true
is_scalar_of k t depth e = ap (is_scalar k) e ∙ kind_same k

module _ (x : Scene) (vs : Variables) (n : ℕ) (roomy : 0 < x.too_deep) where
  -- an operand that is converted to a kind is taken as a scalar of it
  taken_is : (c : Checked) (a k : ScalarKind) → Kept x vs n c → scalar_kind c ≡ Some a → taken (operand_of x vs (operand c.form (between a k))) ≡ scalar k c.depth
  taken_is c a k h e = ap taken (types.operand_is x vs c.form (between a k)) ∙ converted_of a k (expr_type x vs c.form) c.depth (scalar_at x vs n c a h e)

  -- ---- literals

  pub literal_kept : (value : LiteralValue) (token : ℕ) → InRange value → token < n → Kept x vs n (literal_checked value token)
  literal_kept value token r l = record {
    form = scalar_accepted x _ (kind_of (literal_scalar value)) 0 (types.literal_is x vs (literal_scalar value) ∙ scalar_with _ (kind_of (literal_scalar value)) 0 0 r refl) roomy;
    token = l;
  }

  -- ---- operators before their operand

  unary_type_is : (op : UnaryOperator) (a : ScalarKind) (c : Checked) → Kept x vs n c → scalar_kind c ≡ Some a → works_alone op (kind_alone op a) ≡ true → unary_type op (kind_alone op a) (operand_of x vs (operand c.form (between a (kind_alone op a)))) ≡ scalar (kind_alone op a) c.depth
  unary_type_is op a c h e w =
      let k = kind_alone op a in
      let o = operand_of x vs (operand c.form (between a k)) in
      let t = taken_is c a k h e in
      let b : o.value.base ≡ Some (Scalar a) = ap (λ (o : OperandType). o.value.base) (types.operand_is x vs c.form (between a k)) ∙ ap (λ (t : Typed). t.base) (scalar_at x vs n c a h e) in
      let q : is_kind_alone op k o.value.base ≡ true = ap (is_kind_alone op k) b ∙ kind_same k in
      scalar_with ((works_alone op k && is_kind_alone op k o.value.base) && is_scalar k (taken o)) k (taken o).depth c.depth (and_true (works_alone op k && is_kind_alone op k o.value.base) _ (and_true (works_alone op k) _ w q) (is_scalar_of k (taken o) c.depth t)) (ap (λ (t : Typed). t.depth) t)

  unary_kept : (op : UnaryOperator) (o : Option ScalarKind) (token : ℕ) (c : Checked) → Kept x vs n c → scalar_kind c ≡ o → token < n → Good (Kept x vs n) (unary_of op o token c)
  unary_kept op None token c h e l = tt
  unary_kept op (Some a) token c h e l = good_if (Kept x vs n) (works_alone op (kind_alone op a)) _ Mismatch (λ w. record {
    form = scalar_accepted x _ (kind_alone op a) c.depth (types.unary_is x vs op (kind_alone op a) (operand c.form (between a (kind_alone op a))) ∙ unary_type_is op a c h e w) h.form.depth;
    token = l;
  })

  pub unary_good : (op : UnaryOperator) (token : ℕ) (c : Checked) → Kept x vs n c → token < n → Good (Kept x vs n) (unary_rule op token c)
  unary_good op token c h l = unary_kept op (scalar_kind c) token c h refl l

  -- ---- links

  -- what is on the left of a link, where it is a scalar: the type after the links so far
  pub record Before (first : Typed) (l : Linked) : Type 0 where
    pub type : (k : ScalarKind) → l.left ≡ Some k → links_type (map (types.link_of x vs) l.links) first ≡ scalar k l.depth
    pub depth : l.depth < x.too_deep

  -- after a link it is one
  pub record After (first : Typed) (l : Linked) : Type 0 where
    pub kind : ScalarKind
    pub left : l.left ≡ Some kind
    pub type : links_type (map (types.link_of x vs) l.links) first ≡ scalar kind l.depth
    pub some : 0 < length l.links
    pub depth : l.depth < x.too_deep

  before_after : (first : Typed) (l : Linked) → After first l → Before first l
  before_after first l a = record { type = λ k e. let q : a.kind ≡ k = let p = a.left in cc in subst (λ (k : ScalarKind). links_type (map (types.link_of x vs) l.links) first ≡ scalar k l.depth) q a.type; depth = a.depth }

  link_type_is : (op : LinkOperator) (a b : ScalarKind) (t : Typed) (depth : ℕ) (c : Checked) → t ≡ scalar a depth → Kept x vs n c → scalar_kind c ≡ Some b → works op (number_kind (later a b)) ≡ true → link_type op (number_kind (later a b)) (record { value = t; conversion = between a (number_kind (later a b)) }) (operand_of x vs (operand c.form (between b (number_kind (later a b))))) ≡ scalar (operator_kind op (number_kind (later a b))) (max depth c.depth)
  link_type_is op a b t depth c e h f w =
      let k = number_kind (later a b) in
      let left : OperandType = record { value = t; conversion = between a k } in
      let right = operand_of x vs (operand c.form (between b k)) in
      let p : taken left ≡ scalar k depth = converted_of a k t depth e in
      let q = taken_is c b k h f in
      let u : t.base ≡ Some (Scalar a) = ap (λ (t : Typed). t.base) e in
      let v : right.value.base ≡ Some (Scalar b) = ap (λ (o : OperandType). o.value.base) (types.operand_is x vs c.form (between b k)) ∙ ap (λ (t : Typed). t.base) (scalar_at x vs n c b h f) in
      let r : is_kind_between k t.base right.value.base ≡ true = ap (λ base. is_kind_between k base right.value.base) u ∙ ap (is_kind_between k (Some (Scalar a))) v ∙ kind_same k in
      let d : max (taken left).depth (taken right).depth ≡ max depth c.depth = ap (λ (s : Typed). max s.depth (taken right).depth) p ∙ ap (λ (s : Typed). max depth s.depth) q in
      scalar_with ((works op k && is_kind_between k t.base right.value.base) && (is_scalar k (taken left) && is_scalar k (taken right))) (operator_kind op k) (max (taken left).depth (taken right).depth) (max depth c.depth) (and_true (works op k && is_kind_between k t.base right.value.base) _ (and_true (works op k) _ w r) (and_true (is_scalar k (taken left)) _ (is_scalar_of k (taken left) depth p) (is_scalar_of k (taken right) c.depth q))) d

  link_kept : (first : Typed) (before : Linked) (c : Checked) (o : Option LinkOperator) (l r : Option ScalarKind) → Before first before → Kept x vs n c → before.left ≡ l → scalar_kind c ≡ r → Good (After first) (link_of before c o l r)
  link_kept first before c None l r a h e f = tt
  link_kept first before c (Some op) None r a h e f = tt
  link_kept first before c (Some op) (Some k) None a h e f = tt
  link_kept first before c (Some op) (Some k) (Some b) a h e f =
      let m = number_kind (later k b) in
      let link : TypedLink = roll-TypedLink (record { operator = op; kind = m; left = between k m; right = operand c.form (between b m) }) in
      let t = links_type (map (types.link_of x vs) before.links) first in
      good_if (After first) (works op m) (with_link before c op m k b) Mismatch (λ w. record {
        kind = operator_kind op m;
        left = refl;
        type = links_last (types.link_of x vs) before.links link first ∙ types.link_is x vs op m (between k m) (operand c.form (between b m)) t ∙ link_type_is op k b t before.depth c (a.type k e) h f w;
        some = let z = length_more before.links link in omega arith;
        depth = less_max before.depth c.depth x.too_deep a.depth h.form.depth;
      })

  link_good : (first : Typed) (unit : ℕ) (l : Linking) (before : Linked) → Before first before → Good (Kept x vs n) l.operand → Good (After first) (link_checked unit l before)
  link_good first unit l before a g = good_then (Kept x vs n) (After first) l.operand _ g (λ c h. good_at (After first) unit l.token (link_rule before l.operator c) (link_kept first before c (link_operator l.operator) before.left (scalar_kind c) a h refl refl))

  -- the operands of links are accepted
  abbrev pub LinksGood : List Linking → Type 0
  LinksGood [] = Unit {0}
  LinksGood (l ∷ links) = Good (Kept x vs n) l.operand × LinksGood links

  links_good : (first : Typed) (unit : ℕ) (links : List Linking) (before : Linked) → After first before → LinksGood links → Good (After first) (linked unit links before)
  links_good first unit [] before a g = a
  links_good first unit (l ∷ links) before a g = good_then (After first) (After first) (link_checked unit l before) _ (link_good first unit l before (before_after first before a) g.0) (λ after b. links_good first unit links after b g.1)

  -- before the first link
  unlinked_before : (first : Checked) → Kept x vs n first → Before (expr_type x vs first.form) (unlinked first)
  unlinked_before first h = record { type = λ k e. scalar_at x vs n first k h e; depth = h.form.depth }

  chain_kept : (first : Checked) (token : ℕ) (after : Linked) → After (expr_type x vs first.form) after → token < n → Kept x vs n (chain_checked first token after)
  chain_kept first token after a l =
      let o = operand first.form Same in
      let e = types.operand_is x vs first.form Same in
      let z = map_long (types.link_of x vs) after.links in
      let s = a.some in
      let m : nat_lt 0 (length (map (types.link_of x vs) after.links)) ≡ true = lt-ltb _ _ (omega arith) in
      let b : Some (Scalar a.kind) ≡ base_of_kind after.left = ap base_of_kind (sym a.left) in
      record {
        form = record {
          type = types.chain_is x vs o after.links ∙ ap (λ (o : OperandType). chain_type o (map (types.link_of x vs) after.links)) e ∙ besides_none (nat_lt 0 (length (map (types.link_of x vs) after.links))) _ [] (Some (Scalar a.kind)) after.depth m a.type ∙ known_as [] [] (Some (Scalar a.kind)) (base_of_kind after.left) after.depth after.depth refl b refl;
          shape = subst (λ (base : Option Base). value_stands x [] base ≡ true) b (scalar_stands x a.kind);
          depth = a.depth;
        };
        token = l;
      }

  -- ---- `&&` and `||`

  abbrev taken_all : List Operand → List Typed
  taken_all os = map taken (map (operand_of x vs) os)

  all_last : (os : List Operand) (o : Operand) → all_scalars kind.Bool (taken_all os) ≡ true → is_scalar kind.Bool (taken (operand_of x vs o)) ≡ true → all_scalars kind.Bool (taken_all (os ++ o ∷ [])) ≡ true
  all_last [] o h k = and_true (is_scalar kind.Bool (taken (operand_of x vs o))) true k refl
  all_last (p ∷ os) o h k = let b = both (is_scalar kind.Bool (taken (operand_of x vs p))) _ h in and_true (is_scalar kind.Bool (taken (operand_of x vs p))) _ b.0 (all_last os o b.1 k)

  depth_last : (os : List Operand) (o : Operand) → depth_of (taken_all (os ++ o ∷ [])) ≡ max (depth_of (taken_all os)) (taken (operand_of x vs o)).depth
  depth_last [] o = omega arith
  depth_last (p ∷ os) o = let z = depth_last os o in omega arith

  taken_long : (os : List Operand) → length (taken_all os) ≡ length os
  taken_long os = map_long taken (map (operand_of x vs) os) ∙ map_long (operand_of x vs) os

  -- operands of which there are as many or more, if all are scalars
  pub record Operands (least : ℕ) (j : Joined) : Type 0 where
    pub scalars : all_scalars kind.Bool (taken_all j.operands) ≡ true
    pub depths : depth_of (taken_all j.operands) ≡ j.depth
    pub some : least ≤ length j.operands
    pub depth : j.depth < x.too_deep

  join_kept : (before : Joined) (c : Checked) (fit : Bool) (r : Option ScalarKind) → (fit ≡ true → Operands 1 before) → Kept x vs n c → scalar_kind c ≡ r → Good (Operands 2) (join_of before c fit r)
  join_kept before c false r a h e = tt
  join_kept before c true None a h e = tt
  join_kept before c true (Some b) a h e =
      let j = a refl in
      let o = operand c.form (between b kind.Bool) in
      let t = taken_is c b kind.Bool h e in
      let d : (taken (operand_of x vs o)).depth ≡ c.depth = ap (λ (t : Typed). t.depth) t in
      let z = depth_last before.operands o in
      let w = j.depths in
      let y = length_more before.operands o in
      let s = j.some in
      record {
        scalars = all_last before.operands o j.scalars (is_scalar_of kind.Bool (taken (operand_of x vs o)) c.depth t);
        depths = omega arith;
        some = omega arith;
        depth = less_max before.depth c.depth x.too_deep j.depth h.form.depth;
      }

  fewer : (j : Joined) → Operands 2 j → Operands 1 j
  fewer j o = record { scalars = o.scalars; depths = o.depths; some = let s = o.some in omega arith; depth = o.depth }

  join_good : (unit : ℕ) (l : Linking) (before : Joined) → (before.fit ≡ true → Operands 1 before) → Good (Kept x vs n) l.operand → Good (Operands 2) (join_checked unit l before)
  join_good unit l before a g = good_then (Kept x vs n) (Operands 2) l.operand _ g (λ c h. good_at (Operands 2) unit l.token (join_rule before c) (join_kept before c before.fit (scalar_kind c) a h refl))

  joins_good : (unit : ℕ) (links : List Linking) (before : Joined) → Operands 2 before → LinksGood links → Good (Operands 2) (joined unit links before)
  joins_good unit [] before a g = a
  joins_good unit (l ∷ links) before a g = good_then (Operands 2) (Operands 2) (join_checked unit l before) _ (join_good unit l before (λ e. fewer before a) g.0) (λ after b. joins_good unit links after b g.1)

  unjoined_operands : (first : Checked) (o : Option ScalarKind) → Kept x vs n first → scalar_kind first ≡ o → (unjoined_of first o).fit ≡ true → Operands 1 (unjoined_of first o)
  unjoined_operands first None h e f = absurd (cc)
  unjoined_operands first (Some a) h e f =
      let o = operand first.form (between a kind.Bool) in
      let t = taken_is first a kind.Bool h e in
      let d : (taken (operand_of x vs o)).depth ≡ first.depth = ap (λ (t : Typed). t.depth) t in
      record {
        scalars = and_true (is_scalar kind.Bool (taken (operand_of x vs o))) true (is_scalar_of kind.Bool (taken (operand_of x vs o)) first.depth t) refl;
        depths = omega arith;
        some = omega arith;
        depth = h.form.depth;
      }

  logic_kept : (l : Logic) (token : ℕ) (after : Joined) → Operands 2 after → token < n → Kept x vs n (logic_checked l token after)
  logic_kept l token after o m =
      let z = taken_long after.operands in
      let s = o.some in
      let w : nat_lt 1 (length (taken_all after.operands)) ≡ true = lt-ltb _ _ (omega arith) in
      record {
        form = scalar_accepted x _ kind.Bool after.depth (types.logic_is x vs l after.operands ∙ scalar_with (nat_lt 1 (length (taken_all after.operands)) && all_scalars kind.Bool (taken_all after.operands)) kind.Bool (depth_of (taken_all after.operands)) after.depth (and_true (nat_lt 1 (length (taken_all after.operands))) _ w o.scalars) o.depths) o.depth;
        token = m;
      }

  -- ---- chains

  chain_good : (unit : ℕ) (first : Checked) (l : Linking) (links : List Linking) (token : ℕ) (o : Option Logic) → Kept x vs n first → Good (Kept x vs n) l.operand → LinksGood links → token < n → Good (Kept x vs n) (chain_by unit first (l ∷ links) token o)
  chain_good unit first l links token None h g gs m =
      let t = expr_type x vs first.form in
      good_then (After t) (Kept x vs n) (linked unit (l ∷ links) (unlinked first)) _
      (good_then (After t) (After t) (link_checked unit l (unlinked first)) _ (link_good t unit l (unlinked first) (unlinked_before first h) g) (λ after a. links_good t unit links after a gs))
      (λ after a. chain_kept first token after a m)
  chain_good unit first l links token (Some op) h g gs m =
      good_then (Operands 2) (Kept x vs n) (joined unit (l ∷ links) (unjoined first)) _
      (good_then (Operands 2) (Operands 2) (join_checked unit l (unjoined first)) _ (join_good unit l (unjoined first) (λ e. unjoined_operands first (scalar_kind first) h refl e) g) (λ after a. joins_good unit links after a gs))
      (λ after a. logic_kept op token after a m)

  pub chained_good : (unit : ℕ) (first : Checked) (links : List Linking) (token : ℕ) → Kept x vs n first → LinksGood links → token < n → Good (Kept x vs n) (chained unit first links token)
  chained_good unit first [] token h g m = h
  chained_good unit first (l ∷ links) token h g m = chain_good unit first l links token (logic_of l.operator) h g.0 g.1 m
