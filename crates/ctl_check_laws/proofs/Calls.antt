-- Calls and their arguments.
use Rattle.std.proofs.Common.{◌≡◌, ℕ, zero, suc, ◌+◌, ◌≤◌, ◌<◌, max, List, [], ◌∷◌, ◌++◌, append_assoc, append-nil, map, length, drop, get_or, sum_by, Option, Some, None, Result, Ok, Err, Bool, true, false, not, ◌&&◌, ◌==◌, if◌then◌else◌, nat_le, nat_lt, refl, sym, ap, subst, ◌∙◌, arith, slice_get, eq-eqb, leb-true, ltb-true, lt-ltb}
use Rattle.std.proofs.lemmas.List.Sums.{sum_by-cons}
use Rattle.ctl_base.specs.declared.kind.Node.{Node}
use Rattle.ctl_base.specs.declared.kind.ScalarKind.{ScalarKind}
use Rattle.ctl_stdlib.specs.declared.row.LibraryId.{LibraryId}
use Rattle.ctl_tree.specs.declared.expression.QualifiedName.{QualifiedName}
use Rattle.ctl_types.specs.declared.shape.Base.{Base}
use Rattle.ctl_types.specs.declared.shape.Base.TheVariants.{Scalar, Struct}
use Rattle.ctl_types.specs.declared.shape.Extent.{Extent}
use Rattle.ctl_types.specs.declared.shape.Size.{Size}
use Rattle.ctl_types.specs.declared.shape.Size.TheVariants.{Stated, Open}
use Rattle.ctl_types.specs.declared.shape.Shape.{Shape}
use Rattle.ctl_types.specs.declared.value.Value.{Value}
use Rattle.ctl_types.specs.declared.expression.Conversion.{Conversion}
use Rattle.ctl_types.specs.declared.expression.Conversion.TheVariants.{Same, Between}
use Rattle.ctl_types.specs.declared.expression.Callee.{Callee}
use Rattle.ctl_types.specs.declared.expression.Callee.TheVariants as callee
use Rattle.ctl_types.specs.declared.expression.TypedPlace.{TypedPlace, out-TypedPlace}
use Rattle.ctl_types.specs.declared.expression.Argument.{Argument, roll-Argument}
use Rattle.ctl_types.specs.declared.expression.Argument.TheOpen as form
use Rattle.ctl_types.specs.declared.program.Parameter.{Parameter}
use Rattle.ctl_types.specs.declared.program.Function.{Function}
use Rattle.ctl_types.specs.declared.row.Row.{Row}
use Rattle.ctl_types.specs.declared.row.RowParam.{RowParam}
use Rattle.ctl_types.specs.Shapes.{extents, base_of, open_count, open_sizes_of, local, numbered, through, size_in}
use Rattle.ctl_types.specs.Values.{sizes_at, sizes_fit}
use Rattle.ctl_types.specs.Library.{library_row}
use Rattle.ctl_types.specs.Definitions.{Defined}
use Rattle.ctl_types.specs.Typing.{Typed, Formal, Signature, Scene, Variable, Variables, has, same_base, same_bases, same_sizes, besides, node_stands, size_stands, sizes_stand, local_type, default_sizes, formals_from, row_formals_from, result_type, signature_of, row_signature, signature_in, as_converted, taken, Passing, In, Out, Absent, passing_depth, passings_depth, default_fits, argument_suits, are_absent, may_precede, arguments_suit, call_type, place_assignable, expr_type, call_form_type, place_type}
use Rattle.ctl_scope.specs.declared.kind.CheckKind.{CheckKind}
use Rattle.ctl_scope.specs.declared.kind.CheckKind.TheVariants.{NotAFunction, TooDeep, Arguments, NotAssignable, Mismatch}
use Rattle.ctl_scope.specs.declared.meaning.Meaning.{Meaning}
use Rattle.ctl_scope.specs.declared.meaning.Meaning.TheVariants as meaning
use Rattle.ctl_scope.specs.Scope.{ScopeForm, look_up, visible, unknown_call}
use Rattle.ctl_scope.specs.Beside.{scene, too_deep}
use Rattle.ctl_check_rules.specs.declared.checked.Checked.{Checked}
use Rattle.ctl_check_rules.specs.Faults.{Verdict, ◌>>=◌, node_of, broken, rule_at}
use Rattle.ctl_check_rules.specs.Operators.{short, between, operand}
use Rattle.ctl_check_rules.specs.Shapes.{stated_sizes, extents_fit, open_sizes_in, base_conversion, fitting}
use Rattle.ctl_check_expr.specs.declared.checked.CheckedCall.{CheckedCall}
use Rattle.ctl_check_expr.specs.declared.checked.Passed.{Passed}
use Rattle.ctl_check_expr.specs.Places.{place_of}
use Rattle.ctl_check_expr.specs.Calls.{Formal as CallFormal, formal_of, row_formal_of, none_passed, with_argument, input_by, input_rule, output_by, assigned_by, output_at, output_rule, argument_rule, argument_passed, argument_checked, behind, passed, with_default, missing_rule, and_then, missing, Target, Refused, Called, program_target, row_target, target_of, target, result_sizes, result_base, call_made, call_with, counted_rule, call_rule, called, call_checked}
use Rattle.ctl_check_laws.specs.Accepted.{known, value_stands, Holds, IsAccepted}
use Rattle.ctl_check_laws.specs.WellTyped.{tokens_around}
use Rattle.ctl_check_laws.proofs.Basics.{both, and_true, length_both, map_long, Good, good_then, good_more, good_any, good_at, good_if, EachGood}
use Rattle.ctl_check_laws.proofs.Shapes.{kind_same, base_same, bases_same, sizes_same, stated_through, stated_local, open_long, open_stand, through_fits, through_default, sizes_long, shorts, fit_stand, sizes_of_value}
use Rattle.ctl_check_laws.proofs.Types as types
use Rattle.ctl_check_laws.proofs.Types.{scalar, known_as, besides_none, argument_of, operand_of}
use Rattle.ctl_check_laws.proofs.Kept.{Kept, less_max}
use Rattle.ctl_check_laws.proofs.Fitting.{base_is, fitting_is}
use Rattle.ctl_check_laws.proofs.Around.{StatedShape, stated_value, stated_type, StatedResult, DefaultFits, DefaultsFit, Callable, Around}
use Rattle.ctl_check_laws.proofs.Places.{node_there, place_known, assignable_held}
use Rattle.ctl_check_laws.proofs.Library.{row_stated}

-- a known type has its shape
known_has : (t : Typed) (sizes wanted : List Size) (base : Base) (depth : ℕ) → t ≡ known sizes (Some base) depth → wanted ≡ sizes → has t wanted (Some base) ≡ true
known_has t sizes wanted base depth e q = ap (λ t. has t wanted (Some base)) e ∙ ap (λ wanted. has (known sizes (Some base) depth) wanted (Some base)) q ∙ and_true (same_sizes sizes sizes) _ (sizes_same sizes) (base_same base)

-- ---- parameters, as calls see them and as types do

abbrev formal_at : ℕ → CallFormal → Formal
formal_at k q = record { shape = local k q.shape; is_output = q.is_output; default = default_sizes q.shape q.default }

abbrev formals_at : ℕ → List CallFormal → List Formal
formals_at k [] = []
formals_at k (q ∷ formals) = formal_at k q ∷ formals_at (k + open_count (extents q.shape)) formals

program_formals : (k : ℕ) (ps : List Parameter) → formals_from k ps ≡ formals_at k (map formal_of ps)
program_formals k [] = refl
program_formals k (q ∷ ps) = ap (λ formals. formal_at k (formal_of q) ∷ formals) (program_formals (k + open_count (extents q.shape)) ps)

row_formals : (k : ℕ) (ps : List RowParam) → row_formals_from k ps ≡ formals_at k (map row_formal_of ps)
row_formals k [] = refl
row_formals k (q ∷ ps) = ap (λ formals. formal_at k (row_formal_of q) ∷ formals) (row_formals (k + open_count (extents q.shape)) ps)

abbrev shapes_of : List CallFormal → List Shape
shapes_of formals = map (λ (q : CallFormal). q.shape) formals

program_shapes : (ps : List Parameter) → map (λ (q : Parameter). q.shape) ps ≡ shapes_of (map formal_of ps)
program_shapes [] = refl
program_shapes (q ∷ ps) = ap (λ shapes. q.shape ∷ shapes) (program_shapes ps)

row_shapes : (ps : List RowParam) → map (λ (q : RowParam). q.shape) ps ≡ shapes_of (map row_formal_of ps)
row_shapes [] = refl
row_shapes (q ∷ ps) = ap (λ shapes. q.shape ∷ shapes) (row_shapes ps)

-- the defaults have sizes in range
abbrev FormalsFit : List CallFormal → Type 0
FormalsFit [] = Unit {0}
FormalsFit (q ∷ formals) = DefaultFits q.shape q.default × FormalsFit formals

program_fit : (ps : List Parameter) → DefaultsFit ps → FormalsFit (map formal_of ps)
program_fit [] h = tt
program_fit (q ∷ ps) h = (h.0, program_fit ps h.1)

row_fit : (ps : List RowParam) → FormalsFit (map row_formal_of ps)
row_fit [] = tt
row_fit (q ∷ ps) = (tt, row_fit ps)

-- ---- arguments that suit

module _ (x : Scene) where
  -- an argument that gives these sizes suits its parameter, whatever sizes stand before and behind
  record Suits (q : CallFormal) (a : Passing) (z : List Size) : Type 0 where
    pub count : length z ≡ open_count (extents q.shape)
    pub stand : sizes_stand x z ≡ true
    pub depth : passing_depth a < x.too_deep
    pub suits : (front back : List Size) (k : ℕ) → k ≡ length front → argument_suits (front ++ (z ++ back)) (formal_at k q) a ≡ true

  -- an argument for each parameter
  abbrev AllSuit : List CallFormal → List Passing → List Size → Type 0
  AllSuit [] [] zs = zs ≡ []
  AllSuit [] (a ∷ arguments) zs = ⊥
  AllSuit (q ∷ formals) [] zs = ⊥
  AllSuit (q ∷ formals) (a ∷ arguments) zs = (z : List Size) × (rest : List Size) × (zs ≡ z ++ rest) × Suits q a z × (may_precede a arguments ≡ true) × AllSuit formals arguments rest

  all_suit : (formals : List CallFormal) (arguments : List Passing) (zs front : List Size) (k : ℕ) → k ≡ length front → AllSuit formals arguments zs → arguments_suit (front ++ zs) (formals_at k formals) arguments ≡ true
  all_suit [] [] zs front k n h = refl
  all_suit [] (a ∷ arguments) zs front k n h = absurd h
  all_suit (q ∷ formals) [] zs front k n h = absurd h
  all_suit (q ∷ formals) (a ∷ arguments) zs front k n h =
      let z = h.0 in
      let rest = h.1 in
      let e : front ++ zs ≡ front ++ (z ++ rest) = ap (λ zs. front ++ zs) h.2 in
      let u : argument_suits (front ++ zs) (formal_at k q) a ≡ true = ap (λ zs. argument_suits zs (formal_at k q) a) e ∙ h.3.suits front rest k n in
      let c = h.3.count in
      let l = length_both front z in
      let r = all_suit formals arguments rest (front ++ z) (k + open_count (extents q.shape)) (omega arith) h.5 in
      let f : (front ++ z) ++ rest ≡ front ++ zs = append_assoc front z rest ∙ sym e in
      let w : arguments_suit (front ++ zs) (formals_at (k + open_count (extents q.shape)) formals) arguments ≡ true = ap (λ zs. arguments_suit zs (formals_at (k + open_count (extents q.shape)) formals) arguments) (sym f) ∙ r in
      and_true (argument_suits (front ++ zs) (formal_at k q) a && may_precede a arguments) _ (and_true (argument_suits (front ++ zs) (formal_at k q) a) _ u h.4) w

  suit_count : (formals : List CallFormal) (arguments : List Passing) (zs : List Size) → AllSuit formals arguments zs → length zs ≡ open_sizes_of (shapes_of formals)
  suit_count [] [] zs h = ap length h
  suit_count [] (a ∷ arguments) zs h = absurd h
  suit_count (q ∷ formals) [] zs h = absurd h
  suit_count (q ∷ formals) (a ∷ arguments) zs h =
      let c = h.3.count in
      let l = ap length h.2 ∙ length_both h.0 h.1 in
      let r = suit_count formals arguments h.1 h.5 in
      let o : open_sizes_of (shapes_of (q ∷ formals)) ≡ open_count (extents q.shape) + open_sizes_of (shapes_of formals) = sum_by-cons (λ (shape : Shape). open_count (extents shape)) q.shape (shapes_of formals) in
      omega arith

  stand_both : (zs ys : List Size) → sizes_stand x zs ≡ true → sizes_stand x ys ≡ true → sizes_stand x (zs ++ ys) ≡ true
  stand_both [] ys h k = k
  stand_both (z ∷ zs) ys h k = let b = both (size_stands x z) _ h in and_true (size_stands x z) _ b.0 (stand_both zs ys b.1 k)

  suit_stand : (formals : List CallFormal) (arguments : List Passing) (zs : List Size) → AllSuit formals arguments zs → sizes_stand x zs ≡ true
  suit_stand [] [] zs h = ap (sizes_stand x) h
  suit_stand [] (a ∷ arguments) zs h = absurd h
  suit_stand (q ∷ formals) [] zs h = absurd h
  suit_stand (q ∷ formals) (a ∷ arguments) zs h = ap (sizes_stand x) h.2 ∙ stand_both h.0 h.1 h.3.stand (suit_stand formals arguments h.1 h.5)

  suit_depth : (formals : List CallFormal) (arguments : List Passing) (zs : List Size) → 0 < x.too_deep → AllSuit formals arguments zs → passings_depth arguments < x.too_deep
  suit_depth [] [] zs r h = r
  suit_depth [] (a ∷ arguments) zs r h = absurd h
  suit_depth (q ∷ formals) [] zs r h = absurd h
  suit_depth (q ∷ formals) (a ∷ arguments) zs r h = less_max (passing_depth a) (passings_depth arguments) x.too_deep h.3.depth (suit_depth formals arguments h.1 r h.5)

-- ---- arguments that are checked

-- an accepted call
pub record KeptCall (x : Scene) (vs : Variables) (n : ℕ) (c : CheckedCall) : Type 0 where
  pub form : IsAccepted x (call_form_type x vs c.call) c.sizes c.base c.depth
  pub token : c.token < n

drop_none : {A : Type 0} (xs : List A) → drop 0 xs ≡ xs
drop_none [] = refl
drop_none (x ∷ xs) = refl

good_test : {A E : Type 0} (P : A → Type 0) (b : Bool) (v : Result A E) (e : E) → (b ≡ true → Good P v) → Good P (if b then v else Err e)
good_test P true v e k = k refl
good_test P false v e k = tt

module _ (s : ScopeForm) (d : Defined) (vs : Variables) (g : Around s d vs) where
  abbrev K : Checked → Type 0
  K = Kept (scene s d) vs (tokens_around s d)

  abbrev type_of : Argument → Passing
  type_of = argument_of (scene s d) vs

  -- what is passed after more arguments, one for each of these parameters
  record Filled (formals : List CallFormal) (before final : Passed) (more : List Argument) : Type 0 where
    pub sizes : List Size
    pub are_arguments : final.arguments ≡ before.arguments ++ more
    pub are_sizes : final.sizes ≡ before.sizes ++ sizes
    pub depth : final.depth ≡ max before.depth (passings_depth (map type_of more))
    pub suit : AllSuit (scene s d) formals (map type_of more) sizes

  -- what is passed after one more argument
  record Step (q : CallFormal) (before after : Passed) (one : Argument) : Type 0 where
    pub sizes : List Size
    pub are_arguments : after.arguments ≡ before.arguments ++ one ∷ []
    pub are_sizes : after.sizes ≡ before.sizes ++ sizes
    pub depth : after.depth ≡ max before.depth (passing_depth (type_of one))
    pub suits : Suits (scene s d) q (type_of one) sizes

  filled_more : (q : CallFormal) (formals : List CallFormal) (before after final : Passed) (one : Argument) (more : List Argument) → Step q before after one → Filled formals after final more → may_precede (type_of one) (map type_of more) ≡ true → Filled (q ∷ formals) before final (one ∷ more)
  filled_more q formals before after final one more a f p = record {
    sizes = a.sizes ++ f.sizes;
    are_arguments = f.are_arguments ∙ ap (λ arguments. arguments ++ more) a.are_arguments ∙ append_assoc before.arguments (one ∷ []) more;
    are_sizes = f.are_sizes ∙ ap (λ sizes. sizes ++ f.sizes) a.are_sizes ∙ append_assoc before.sizes a.sizes f.sizes;
    depth = let h = f.depth in let k = a.depth in omega arith;
    suit = (a.sizes, f.sizes, refl, a.suits, p, f.suit);
  }

  -- ---- arguments that are missing

  absent_suits : (q : CallFormal) (v : Value) → q.is_output ≡ false → q.default ≡ Some v → sizes_fit (sizes_at (extents q.shape) (Some v)) ≡ true → Suits (scene s d) q Absent (map (λ n. Stated (short n)) (sizes_at (extents q.shape) (Some v)))
  absent_suits q v o e h =
      let ns = sizes_at (extents q.shape) (Some v) in
      let z = shorts ns h in
      record {
        count = map_long (λ n. Stated (short n)) ns ∙ sizes_long (extents q.shape) (Some v);
        stand = ap (sizes_stand (scene s d)) z ∙ fit_stand (scene s d) ns h;
        depth = g.roomy;
        suits = λ front back k n.
            let t = through_default (extents q.shape) ns [] front back k 0 n refl (sizes_long (extents q.shape) (Some v)) in
            let u : map (through (front ++ (map (λ n. Stated (short n)) ns ++ back))) (numbered k (extents q.shape)) ≡ map Stated (map (size_in ns) (numbered 0 (extents q.shape))) = ap (λ sizes. map (through (front ++ (sizes ++ back))) (numbered k (extents q.shape))) z ∙ t in
            let w : same_sizes (map (through (front ++ (map (λ n. Stated (short n)) ns ++ back))) (numbered k (extents q.shape))) (map Stated (map (size_in ns) (numbered 0 (extents q.shape)))) ≡ true = ap (λ sizes. same_sizes sizes (map Stated (map (size_in ns) (numbered 0 (extents q.shape))))) u ∙ sizes_same (map Stated (map (size_in ns) (numbered 0 (extents q.shape)))) in
            ap (λ default. default_fits (front ++ (map (λ n. Stated (short n)) ns ++ back)) (formal_at k q) (default_sizes q.shape default)) e ∙ and_true (not q.is_output) _ (ap not o) w;
      }

  -- all that are left are missing
  abbrev Absents : List CallFormal → Passed → Passed → Type 0
  Absents formals before final = (more : List Argument) × Filled formals before final more × (are_absent (map type_of more) ≡ true)

  absent_more : (q : CallFormal) (formals : List CallFormal) (before final : Passed) (b : Bool) (o : Option Value) → ((after : Passed) → missing formals after ≡ Some final → Absents formals after final) → q.is_output ≡ b → q.default ≡ o → DefaultFits q.shape o → and_then (missing_rule b q.shape o before) (missing formals) ≡ Some final → Absents (q ∷ formals) before final
  absent_more q formals before final b None ih p r h e = absurd (cc)
  absent_more q formals before final true (Some v) ih p r h e = absurd (cc)
  absent_more q formals before final false (Some v) ih p r h e =
      let after = with_default before q.shape v in
      let one = roll-Argument form.Missing in
      let f = ih after e in
      let m = types.missing_is (scene s d) vs in
      let a : Step q before after one = record {
        sizes = map (λ n. Stated (short n)) (sizes_at (extents q.shape) (Some v));
        are_arguments = refl;
        are_sizes = refl;
        depth = let z : passing_depth (type_of one) ≡ 0 = ap passing_depth m in omega arith;
        suits = subst (λ a. Suits (scene s d) q a (map (λ n. Stated (short n)) (sizes_at (extents q.shape) (Some v)))) (sym m) (absent_suits q v p r h);
      } in
      (one ∷ f.0, filled_more q formals before after final one f.0 a f.1 (ap (λ a. may_precede a (map type_of f.0)) m ∙ f.2), ap (λ a. are_absent (a ∷ map type_of f.0)) m ∙ f.2)

  missing_filled : (formals : List CallFormal) (before final : Passed) → FormalsFit formals → missing formals before ≡ Some final → Absents formals before final
  missing_filled [] before final h e =
      let q : final ≡ before = cc in (
        [],
        record {
          sizes = [];
          are_arguments = ap (λ (p : Passed). p.arguments) q ∙ sym (append-nil before.arguments);
          are_sizes = ap (λ (p : Passed). p.sizes) q ∙ sym (append-nil before.sizes);
          depth = let z : final.depth ≡ before.depth = ap (λ (p : Passed). p.depth) q in omega arith;
          suit = refl;
        },
        refl,
      )
  missing_filled (q ∷ formals) before final h e = absent_more q formals before final q.is_output q.default (λ after f. missing_filled formals after final h.1 f) refl refl h.0 e

  -- ---- arguments that are there

  -- one that is given
  abbrev Given : CallFormal → Passed → Passed → Type 0
  Given q before after = (one : Argument) × Step q before after one × ((arguments : List Passing) → may_precede (type_of one) arguments ≡ true)

  -- an argument of a type that is known
  given_suits : (q : CallFormal) (c : Checked) (a : Passing) → K c → extents_fit (extents q.shape) c.sizes ≡ true → passing_depth a ≡ c.depth → ((wanted sizes : List Size) (k : ℕ) → wanted ≡ c.sizes → map (through sizes) (local k q.shape).sizes ≡ wanted → argument_suits sizes (formal_at k q) a ≡ true) → Suits (scene s d) q a (open_sizes_in (extents q.shape) c.sizes)
  given_suits q c a h f e k = record {
    count = open_long (extents q.shape) c.sizes f;
    stand = open_stand (scene s d) (extents q.shape) c.sizes (sizes_of_value (scene s d) c.sizes c.base h.form.shape);
    depth = let l = h.form.depth in omega arith;
    suits = λ front back j n. k c.sizes (front ++ (open_sizes_in (extents q.shape) c.sizes ++ back)) j refl (through_fits (extents q.shape) c.sizes front back j n f);
  }

  step_of : (q : CallFormal) (before : Passed) (c : Checked) (a : Argument) → passing_depth (type_of a) ≡ c.depth → Suits (scene s d) q (type_of a) (open_sizes_in (extents q.shape) c.sizes) → Step q before (with_argument before q.shape c a) a
  step_of q before c a e h = record { sizes = open_sizes_in (extents q.shape) c.sizes; are_arguments = refl; are_sizes = refl; depth = ap (max before.depth) (sym e); suits = h }

  input_good : (q : CallFormal) (before : Passed) (c : Checked) (o : Option Conversion) → K c → q.is_output ≡ false → fitting (extents q.shape) (base_of q.shape) c.sizes c.base ≡ o → Good (Given q before) (input_by (node_of s.unit c.token) q.shape before c o)
  input_good q before c None h p e = tt
  input_good q before c (Some conversion) h p e =
      let node = node_of s.unit c.token in
      let f = fitting_is (extents q.shape) (base_of q.shape) c.sizes c.base conversion e in
      let o = operand c.form conversion in
      let a = roll-Argument (form.Input o node) in
      let t : taken (operand_of (scene s d) vs o) ≡ known c.sizes (Some (base_of q.shape)) c.depth = ap taken (types.operand_is (scene s d) vs c.form conversion) ∙ base_is c.sizes (base_of q.shape) c.base conversion (expr_type (scene s d) vs c.form) c.depth f.1 h.form.type in
      let u : type_of a ≡ In (known c.sizes (Some (base_of q.shape)) c.depth) = types.input_is (scene s d) vs o node ∙ ap In (besides_none (node_stands (scene s d) node) _ c.sizes (Some (base_of q.shape)) c.depth (node_there s d vs g c.token h.token) t) in
      let w : Suits (scene s d) q (In (known c.sizes (Some (base_of q.shape)) c.depth)) (open_sizes_in (extents q.shape) c.sizes) = given_suits q c (In (known c.sizes (Some (base_of q.shape)) c.depth)) h f.0 refl (λ wanted sizes k y z. and_true (not q.is_output) _ (ap not p) (known_has (known c.sizes (Some (base_of q.shape)) c.depth) c.sizes (map (through sizes) (local k q.shape).sizes) (base_of q.shape) c.depth refl (z ∙ y))) in
      (a, step_of q before c a (ap passing_depth u) (subst (λ a. Suits (scene s d) q a (open_sizes_in (extents q.shape) c.sizes)) (sym u) w), λ arguments. ap (λ a. may_precede a arguments) u)

  output_good : (q : CallFormal) (before : Passed) (c : Checked) (p : TypedPlace) (o : Option Conversion) → K c → q.is_output ≡ true → place_of c.form ≡ Some p → place_assignable (slice_get (visible s) (out-TypedPlace p).variable) ≡ true → fitting (extents q.shape) (base_of q.shape) c.sizes c.base ≡ o → Good (Given q before) (output_by (node_of s.unit c.token) q.shape before c p o)
  output_good q before c p None h i r m e = tt
  output_good q before c p (Some conversion) h i r m e =
      let node = node_of s.unit c.token in
      let f = fitting_is (extents q.shape) (base_of q.shape) c.sizes c.base conversion e in
      let a = roll-Argument (form.Output p conversion node) in
      let y = place_type (scene s d) vs p in
      let t : as_converted conversion y.type ≡ known c.sizes (Some (base_of q.shape)) c.depth = base_is c.sizes (base_of q.shape) c.base conversion y.type c.depth f.1 (place_known (scene s d) vs c.form p c.sizes c.base c.depth h.form.type r) in
      let b : y.is_assignable ≡ true = types.assignable_is (scene s d) vs p ∙ assignable_held (visible s) vs (out-TypedPlace p).variable g.holds m in
      let u : type_of a ≡ Out (known c.sizes (Some (base_of q.shape)) c.depth) true = types.output_is (scene s d) vs p conversion node ∙ ap (λ t. Out t y.is_assignable) (besides_none (node_stands (scene s d) node) _ c.sizes (Some (base_of q.shape)) c.depth (node_there s d vs g c.token h.token) t) ∙ ap (Out (known c.sizes (Some (base_of q.shape)) c.depth)) b in
      let w : Suits (scene s d) q (Out (known c.sizes (Some (base_of q.shape)) c.depth) true) (open_sizes_in (extents q.shape) c.sizes) = given_suits q c (Out (known c.sizes (Some (base_of q.shape)) c.depth) true) h f.0 refl (λ wanted sizes k y z. and_true q.is_output _ i (known_has (known c.sizes (Some (base_of q.shape)) c.depth) c.sizes (map (through sizes) (local k q.shape).sizes) (base_of q.shape) c.depth refl (z ∙ y))) in
      (a, step_of q before c a (ap passing_depth u) (subst (λ a. Suits (scene s d) q a (open_sizes_in (extents q.shape) c.sizes)) (sym u) w), λ arguments. ap (λ a. may_precede a arguments) u)

  assigned_good : (q : CallFormal) (before : Passed) (c : Checked) (p : TypedPlace) (b : Bool) → K c → q.is_output ≡ true → place_of c.form ≡ Some p → place_assignable (slice_get (visible s) (out-TypedPlace p).variable) ≡ b → Good (Given q before) (assigned_by (node_of s.unit c.token) q.shape before c p b)
  assigned_good q before c p false h i r m = tt
  assigned_good q before c p true h i r m = output_good q before c p (fitting (extents q.shape) (base_of q.shape) c.sizes c.base) h i r m refl

  place_good : (q : CallFormal) (before : Passed) (c : Checked) (o : Option TypedPlace) → K c → q.is_output ≡ true → place_of c.form ≡ o → Good (Given q before) (output_at (visible s) (node_of s.unit c.token) q.shape before c o)
  place_good q before c None h i r = tt
  place_good q before c (Some p) h i r = assigned_good q before c p (place_assignable (slice_get (visible s) (out-TypedPlace p).variable)) h i r refl

  rule_good : (q : CallFormal) (before : Passed) (c : Checked) (b : Bool) → K c → q.is_output ≡ b → Good (Given q before) (argument_rule (visible s) (node_of s.unit c.token) b q.shape before c)
  rule_good q before c false h i = input_good q before c (fitting (extents q.shape) (base_of q.shape) c.sizes c.base) h i refl
  rule_good q before c true h i = place_good q before c (place_of c.form) h i refl

  argument_good : (q : CallFormal) (v : Verdict Checked) (before : Passed) → Good K v → Good (Given q before) (argument_passed s q.is_output q.shape v before)
  argument_good q v before h = good_then K (Given q before) v _ h (λ c k. good_at (Given q before) s.unit c.token (argument_rule (visible s) (node_of s.unit c.token) q.is_output q.shape before c) (rule_good q before c q.is_output k refl))

  -- so many arguments are there, and the others are missing
  abbrev Ready : List CallFormal → ℕ → Passed → Passed → Type 0
  Ready formals count before after = count ≤ length formals → (final : Passed) → missing (drop count formals) after ≡ Some final → (more : List Argument) × Filled formals before final more

  passed_good : (formals : List CallFormal) (vs : List (Verdict Checked)) (before : Passed) → EachGood K vs → FormalsFit formals → Good (Ready formals (length vs) before) (passed s formals vs before)
  passed_good formals [] before h f = λ l final e. let m = missing_filled formals before final f (ap (λ formals. missing formals before) (sym (drop_none formals)) ∙ e) in (m.0, m.1)
  passed_good [] (v ∷ vs) before h f = good_any (Ready [] (length (v ∷ vs)) before) (passed s [] (v ∷ vs) before) (λ after l final e. absurd (omega arith))
  passed_good (q ∷ formals) (v ∷ vs) before h f =
      good_then (Given q before) (Ready (q ∷ formals) (length (v ∷ vs)) before) (argument_passed s q.is_output q.shape v before) _ (argument_good q v before h.0) (λ middle a.
      good_more (Ready formals (length vs) middle) (Ready (q ∷ formals) (length (v ∷ vs)) before) (passed s formals vs middle) (passed_good formals vs middle h.1 f.1) (λ after r l final e.
      let m = r (let z : length vs ≤ length formals = omega arith in z) final e in
      (a.0 ∷ m.0, filled_more q formals before middle final a.0 m.0 a.1 m.1 (a.2 (map type_of m.0)))))

  -- ---- calls

  -- a function that may be called, as the checker sees it and as types do
  record Matches (f : Callee) (qs : List CallFormal) (given : Option Shape) (n : ℕ) : Type 0 where
    pub signature : Signature
    pub found : signature_in (scene s d) f ≡ Some signature
    pub formals : signature.formals ≡ formals_at 0 qs
    pub opens : signature.opens ≡ open_sizes_of (shapes_of qs)
    pub result : signature.result ≡ result_type given
    pub depth : signature.depth ≡ n
    pub fit : FormalsFit qs
    pub stated : StatedResult (scene s d) given

  result_sizes_are : (es : List Size) (o : Option Shape) → StatedResult (scene s d) o → map (through es) (result_type o).sizes ≡ result_sizes o
  result_sizes_are es None h = refl
  result_sizes_are es (Some shape) h = stated_through es (local 0 shape).sizes h.stated ∙ sym (stated_local shape h.stated)

  result_base_is : (o : Option Shape) → (result_type o).base ≡ result_base o
  result_base_is None = refl
  result_base_is (Some shape) = refl

  result_stands : (o : Option Shape) → StatedResult (scene s d) o → value_stands (scene s d) (result_sizes o) (result_base o) ≡ true
  result_stands None h = refl
  result_stands (Some shape) h = stated_value (scene s d) shape h

  call_kept : (f : Callee) (formals : List CallFormal) (result : Option Shape) (depth token : ℕ) (final : Passed) → Matches f formals result depth → depth < (scene s d).too_deep → token < tokens_around s d → (more : List Argument) → Filled formals none_passed final more → KeptCall (scene s d) vs (tokens_around s d) (call_made (node_of s.unit token) f result depth final)
  call_kept f formals result depth token final m l t more h =
      let x = scene s d in
      let node = node_of s.unit token in
      let passings = map type_of final.arguments in
      let same : passings ≡ map type_of more = ap (map type_of) h.are_arguments in
      let sig = m.signature in
      let deep : sig.depth < x.too_deep = let z = m.depth in omega arith in
      let count : length final.sizes ≡ sig.opens = ap length h.are_sizes ∙ suit_count x formals (map type_of more) h.sizes h.suit ∙ sym m.opens in
      let stand : sizes_stand x final.sizes ≡ true = ap (sizes_stand x) h.are_sizes ∙ suit_stand x formals (map type_of more) h.sizes h.suit in
      let suit : arguments_suit final.sizes sig.formals passings ≡ true = ap (λ sizes. arguments_suit sizes sig.formals passings) h.are_sizes ∙ ap (λ formals. arguments_suit h.sizes formals passings) m.formals ∙ ap (arguments_suit h.sizes (formals_at 0 formals)) same ∙ all_suit x formals (map type_of more) h.sizes [] 0 refl h.suit in
      let well : (call_type x (Some sig) final.sizes passings).well ≡ true = and_true (nat_lt sig.depth x.too_deep && (length final.sizes == sig.opens && sizes_stand x final.sizes)) _ (and_true (nat_lt sig.depth x.too_deep) _ (lt-ltb _ _ deep) (and_true (length final.sizes == sig.opens) _ (eq-eqb _ _ count) stand)) suit in
      let sizes : map (through final.sizes) sig.result.sizes ≡ result_sizes result = ap (λ (t : Typed). map (through final.sizes) t.sizes) m.result ∙ result_sizes_are final.sizes result m.stated in
      let base : sig.result.base ≡ result_base result = ap (λ (t : Typed). t.base) m.result ∙ result_base_is result in
      let least : passings_depth passings ≡ passings_depth (map type_of more) = ap passings_depth same in
      let greatest : max sig.depth (passings_depth passings) ≡ max depth final.depth = let z = h.depth in let y = m.depth in omega arith in
      let bounded = suit_depth x formals (map type_of more) h.sizes g.roomy h.suit in
      record {
        form = record {
          type = types.call_is x vs f final.sizes final.arguments node ∙ besides_none (node_stands x node) _ (result_sizes result) (result_base result) (max depth final.depth) (node_there s d vs g token t) (ap (λ o. call_type x o final.sizes passings) m.found ∙ types.known_of (call_type x (Some sig) final.sizes passings) (result_sizes result) (result_base result) (max depth final.depth) well sizes base greatest);
          shape = result_stands result m.stated;
          depth = less_max depth final.depth x.too_deep l (let z = h.depth in omega arith);
        };
        token = t;
      }

  abbrev KC : CheckedCall → Type 0
  KC = KeptCall (scene s d) vs (tokens_around s d)

  with_good : (f : Callee) (formals : List CallFormal) (result : Option Shape) (depth token count : ℕ) (after : Passed) (o : Option Passed) → Matches f formals result depth → depth < (scene s d).too_deep → token < tokens_around s d → count ≤ length formals → Ready formals count none_passed after → missing (drop count formals) after ≡ o → Good KC (call_with (node_of s.unit token) f result depth o)
  with_good f formals result depth token count after None m l t c r e = tt
  with_good f formals result depth token count after (Some final) m l t c r e = let k = r c final e in call_kept f formals result depth token final m l t k.0 k.1

  call_good : (f : Callee) (formals : List CallFormal) (result : Option Shape) (depth token count : ℕ) (after : Passed) → Matches f formals result depth → token < tokens_around s d → Ready formals count none_passed after → Good KC (call_rule s (node_of s.unit token) f formals result depth count after)
  call_good f formals result depth token count after m t r =
      good_test KC (nat_lt depth (too_deep s.around)) _ TooDeep (λ l.
      good_test KC (nat_le count (length formals)) _ Arguments (λ c.
      with_good f formals result depth token count after (missing (drop count formals) after) m (ltb-true _ _ l) t (leb-true _ _ c) r refl))

  abbrev TargetGood : Target → Type 0
  TargetGood (Refused kind) = Unit {0}
  TargetGood (Called f formals result depth) = Matches f formals result depth

  called_good : (t : Target) (vs : List (Verdict Checked)) (token : ℕ) → TargetGood t → EachGood K vs → token < tokens_around s d → Good KC (called s t vs token)
  called_good (Refused kind) vs token m h l = good_then (λ after. Unit {0}) KC (passed s [] vs none_passed) _ (good_any (λ after. Unit {0}) (passed s [] vs none_passed) (λ after. tt)) (λ after u. tt)
  called_good (Called f formals result depth) vs token m h l =
      good_then (Ready formals (length vs) none_passed) KC (passed s formals vs none_passed) _ (passed_good formals vs none_passed h m.fit) (λ after r.
      good_at KC s.unit token (call_rule s (node_of s.unit token) f formals result depth (length vs) after) (call_good f formals result depth token (length vs) after m l r))

  program_good : (name : QualifiedName) (k : ℕ) (o : Option Function) → slice_get d.functions k ≡ o → TargetGood (program_target s name k o)
  program_good name k None e = tt
  program_good name k (Some f) e =
      let c = g.functions k f e in
      record {
        signature = signature_of c.depth f;
        found = c.signature;
        formals = program_formals 0 f.parameters;
        opens = ap open_sizes_of (program_shapes f.parameters);
        result = refl;
        depth = sym c.counted;
        fit = program_fit f.parameters c.defaults;
        stated = c.result;
      }

  row_good : (id : LibraryId) → TargetGood (row_target id (library_row id))
  row_good id = record {
    signature = row_signature (library_row id);
    found = refl;
    formals = row_formals 0 (library_row id).params;
    opens = ap open_sizes_of (row_shapes (library_row id).params);
    result = refl;
    depth = refl;
    fit = row_fit (library_row id).params;
    stated = row_stated (scene s d) id;
  }

  target_good : (name : QualifiedName) (o : Option Meaning) → TargetGood (target_of s d name o)
  target_good name None = tt
  target_good name (Some (meaning.Variable k)) = tt
  target_good name (Some (meaning.Constant n)) = tt
  target_good name (Some (meaning.Function k)) = program_good name k (slice_get d.functions k) refl
  target_good name (Some (meaning.Struct n)) = tt
  target_good name (Some meaning.Namespace) = tt
  target_good name (Some (meaning.Library id)) = row_good id

  -- a call whose arguments are accepted
  pub call_of_good : (name : QualifiedName) (vs : List (Verdict Checked)) (token : ℕ) → EachGood K vs → token < tokens_around s d → Good KC (called s (target s d name) vs token)
  call_of_good name vs token h l = called_good (target s d name) vs token (target_good name (look_up s name)) h l

  -- a call that is accepted, as an expression
  pub expression_kept : (c : CheckedCall) → KC c → K (call_checked c)
  expression_kept c h = record { form = record { type = types.call_form_is (scene s d) vs c.call ∙ h.form.type; shape = h.form.shape; depth = h.form.depth }; token = h.token }
