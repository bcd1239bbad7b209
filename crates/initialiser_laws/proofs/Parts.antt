-- Values, and the parts of lists.
use Rattle.std.proofs.Common.{◌≡◌, ℕ, zero, suc, ◌+◌, ◌≤◌, ◌<◌, max, List, [], ◌∷◌, ◌++◌, append_assoc, append-nil, map, length, Option, Some, None, Result, Ok, Err, Bool, true, false, ◌&&◌, ◌==◌, if◌then◌else◌, nat_le, nat_lt, refl, sym, ap, subst, ◌∙◌, arith, slice_get, eqb-true, leb-true, le-leb, lt-ltb}
use Rattle.ctl_base.specs.declared.limits.TheConstants.{ARRAY_SIZE}
use Rattle.ctl_types.specs.declared.shape.Base.{Base}
use Rattle.ctl_types.specs.declared.shape.Base.TheVariants.{Scalar, Struct}
use Rattle.ctl_types.specs.declared.shape.Extent.{Extent}
use Rattle.ctl_types.specs.declared.shape.Extent.TheVariants as extent
use Rattle.ctl_types.specs.declared.shape.Size.{Size}
use Rattle.ctl_types.specs.declared.shape.Size.TheVariants.{Stated, Open}
use Rattle.ctl_types.specs.declared.shape.Shape.{Shape, roll-Shape}
use Rattle.ctl_types.specs.declared.shape.Shape.TheOpen as layer
use Rattle.ctl_types.specs.declared.shape.Shape.TheOpen.{Shape-F}
use Rattle.ctl_types.specs.declared.expression.Conversion.{Conversion}
use Rattle.ctl_types.specs.declared.expression.Operand.{Operand}
use Rattle.ctl_types.specs.declared.statement.Initialiser.{Initialiser, roll-Initialiser}
use Rattle.ctl_types.specs.declared.statement.Initialiser.TheOpen as initial
use Rattle.ctl_types.specs.declared.statement.Initialiser.TheFolds.{fold-roll-Initialiser}
use Rattle.ctl_types.specs.Shapes.{extents, base_of, numbered, local, field_shapes}
use Rattle.ctl_types.specs.Typing.{Typed, Scene, Variables, has, are_stated, depth_of, sizes_stand, base_stands, shape_stands, all_have, each_has, type_initialiser, initialiser_type, expr_type, operand_type}
use Rattle.ctl_types.specs.Scoping.{result_stands}
use Rattle.ctl_scope.specs.declared.kind.CheckKind.TheVariants.{Mismatch}
use Rattle.ctl_check_rules.specs.declared.checked.Checked.{Checked}
use Rattle.ctl_check_rules.specs.Faults.{Verdict, ◌>>=◌, rule_at}
use Rattle.ctl_check_rules.specs.Operators.{short, operand}
use Rattle.ctl_check_rules.specs.Shapes.{stated_sizes, extent_fits, extents_fit, fitting}
use Rattle.ctl_check_expr.specs.Calls.{behind}
use Rattle.ctl_check_init.specs.declared.begun.Begun.{Begun}
use Rattle.ctl_check_init.specs.declared.begun.Parts.{Parts}
use Rattle.ctl_check_init.specs.declared.begun.Elements.{Elements}
use Rattle.ctl_check_init.specs.Initialisers.{Beginning, value_by, value_begun, as_part, no_parts, with_part, left_over, scalar_list, sized, extent_of, given_by, with_element, no_elements, element_shape, element_begun, elements_begun, count_fits, array_begun, array_rule, array_list, first_of, field_begun, fields_begun, struct_begun, struct_rule, struct_list, sizes_within}
use Rattle.ctl_check_laws.specs.Accepted.{known, value_stands, IsAccepted}
use Rattle.ctl_check_laws.specs.Taking.{FittingHasType, StatedSizesFit}
use Rattle.initialiser_laws.specs.Wanted.{extents_within, may_be_wanted}
use Rattle.initialiser_laws.proofs.Basics.{both, and_true, length_more, known_has, Good, good_then, good_after, good_at, good_if, good_ok, good_each}
use Rattle.initialiser_laws.proofs.Shapes.{array_extents, array_base, struct_extents, struct_base, sized_extents, sized_base, numbered_back, sized_local, sized_stated, within_extents, stand_within, short_within, count_size, inner_within}

known_of : (t : Typed) (sizes : List Size) (base : Option Base) (depth : ℕ) → t.well ≡ true → t.sizes ≡ sizes → t.base ≡ base → t.depth ≡ depth → t ≡ known sizes base depth
known_of t sizes base depth w s b d =
    ap (λ (w : Bool). record { well = w; sizes = t.sizes; base = t.base; depth = t.depth }) w ∙ ap (λ sizes. known sizes t.base t.depth) s ∙ ap (λ base. known sizes base t.depth) b ∙ ap (known sizes base) d

less_max : (a b c : ℕ) → a < c → b < c → max a b < c
less_max a b c l m = omega arith

pub sizes_of_value : (x : Scene) (sizes : List Size) (base : Option Base) → value_stands x sizes base ≡ true → sizes_stand x sizes ≡ true
sizes_of_value x [] None h = refl
sizes_of_value x (size ∷ sizes) None h = absurd (cc)
sizes_of_value x sizes (Some base) h =
    let a = both (sizes_stand x sizes && base_stands x base) _ h in (both (sizes_stand x sizes) _ a.0).0

-- a part is what was made, with stated sizes
abbrev PartIs : Option Begun → Option Begun → Type 0
PartIs e None = Unit {0}
PartIs e (Some a) = (e ≡ Some a) × (are_stated a.sizes ≡ true)

part_is : (e o : Option Begun) → as_part e ≡ o → PartIs e o
part_is None None q = tt
part_is None (Some a) q = absurd (cc)
part_is (Some a) o q = by (are_stated a.sizes) refl where
  by : (t : Bool) → are_stated a.sizes ≡ t → PartIs (Some a) o
  by true f = let p : Some a ≡ o = ap (λ t. if t then Some a else None) (sym f) ∙ q in subst (PartIs (Some a)) p (refl, f)
  by false f = let p : None ≡ o = ap (λ t. if t then Some a else None) (sym f) ∙ q in subst (PartIs (Some a)) p tt

stated_within : (x : Scene) (k : ℕ) (xs : List Extent) → are_stated (numbered k xs) ≡ true → sizes_stand x (numbered k xs) ≡ true → extents_within xs ≡ true
stated_within x k [] h w = refl
stated_within x k (extent.Stated n ∷ xs) h w =
    let b = both (nat_le 1 n && nat_le n ARRAY_SIZE) _ w in
    and_true (nat_le n ARRAY_SIZE) _ (both (nat_le 1 n) _ b.0).1 (stated_within x k xs h b.1)
stated_within x k (extent.Unstated ∷ xs) h w = absurd (cc)

module _ (x : Scene) (vs : Variables) (roomy : 0 < x.too_deep) (fitting_law : FittingHasType) (stated_law : StatedSizesFit) where
  -- the types of some forms
  abbrev types_of : List Initialiser → List Typed
  types_of forms = map (initialiser_type x vs) forms

  value_is : (o : Operand) → initialiser_type x vs (roll-Initialiser (initial.Value o)) ≡ operand_type x vs o
  value_is o = fold-roll-Initialiser Typed (type_initialiser x vs) (initial.Value o)

  elements_is : (shape : Shape) (forms : List Initialiser) → initialiser_type x vs (roll-Initialiser (initial.Elements shape forms)) ≡ type_initialiser x vs (initial.Elements shape (types_of forms))
  elements_is shape forms = fold-roll-Initialiser Typed (type_initialiser x vs) (initial.Elements shape forms)

  fields_is : (n : ℕ) (forms : List Initialiser) → initialiser_type x vs (roll-Initialiser (initial.Fields n forms)) ≡ type_initialiser x vs (initial.Fields n (types_of forms))
  fields_is n forms = fold-roll-Initialiser Typed (type_initialiser x vs) (initial.Fields n forms)

  -- ---- what is made for a shape

  pub record Well (base : Base) (b : Begun) : Type 0 where
    pub stand : sizes_stand x b.sizes ≡ true
    pub type : initialiser_type x vs b.form ≡ known b.sizes (Some base) b.depth
    pub depth : b.depth < x.too_deep

  -- its sizes fit, and where none is too large it is well typed
  pub record BegunGood (shape : Shape) (b : Begun) : Type 0 where
    pub fits : extents_fit (extents shape) b.sizes ≡ true
    pub well : sizes_within b.sizes ≡ true → Well (base_of shape) b

  abbrev pub OptionGood : Shape → Option Begun → Type 0
  OptionGood shape None = Unit {0}
  OptionGood shape (Some b) = BegunGood shape b

  -- what is begun is good for each shape that may be wanted
  abbrev pub PartGood : Beginning → Type 0
  PartGood b = (shape : Shape) → may_be_wanted x shape ≡ true → Good (OptionGood shape) (b (Some shape))

  abbrev pub EachPart : List Beginning → Type 0
  EachPart [] = Unit {0}
  EachPart (b ∷ parts) = PartGood b × EachPart parts

  value_kept : (shape : Shape) (c : Checked) (o : Option Conversion) → IsAccepted x (expr_type x vs c.form) c.sizes c.base c.depth → fitting (extents shape) (base_of shape) c.sizes c.base ≡ o → OptionGood shape (value_by c o)
  value_kept shape c None h e = tt
  value_kept shape c (Some conversion) h e =
      let f = fitting_law x vs c.form conversion (extents shape) (base_of shape) c.sizes c.base c.depth h.type e in
      record { fits = f.fits; well = λ w. record { stand = sizes_of_value x c.sizes c.base h.shape; type = value_is (operand c.form conversion) ∙ f.type; depth = h.depth } }

  pub value_good : (shape : Shape) (c : Checked) → IsAccepted x (expr_type x vs c.form) c.sizes c.base c.depth → OptionGood shape (value_begun (Some shape) c)
  value_good shape c h = value_kept shape c (fitting (extents shape) (base_of shape) c.sizes c.base) h refl

  -- what was made of a part
  made : (b : Beginning) (shape : Shape) (e : Option Begun) (a : Begun) → PartGood b → may_be_wanted x shape ≡ true → b (Some shape) ≡ Ok e → e ≡ Some a → BegunGood shape a
  made b shape e a p w q r = subst (OptionGood shape) r (good_ok (OptionGood shape) (b (Some shape)) e q (p shape w))

  -- ---- elements

  all_last : (forms : List Initialiser) (form : Initialiser) (zs : List Size) (base : Option Base) → all_have (types_of forms) zs base ≡ true → has (initialiser_type x vs form) zs base ≡ true → all_have (types_of (forms ++ form ∷ [])) zs base ≡ true
  all_last [] form zs base h k = and_true (has (initialiser_type x vs form) zs base) true k refl
  all_last (f ∷ forms) form zs base h k = let b = both (has (initialiser_type x vs f) zs base) _ h in and_true (has (initialiser_type x vs f) zs base) _ b.0 (all_last forms form zs base b.1 k)

  depth_last : (forms : List Initialiser) (form : Initialiser) → depth_of (types_of (forms ++ form ∷ [])) ≡ max (depth_of (types_of forms)) (initialiser_type x vs form).depth
  depth_last [] form = omega arith
  depth_last (f ∷ forms) form = let z = depth_last forms form in omega arith

  types_long : (forms : List Initialiser) → length (types_of forms) ≡ length forms
  types_long [] = refl
  types_long (f ∷ forms) = let z = types_long forms in omega arith

  -- elements of one shape
  record Same (base : Base) (zs : List Size) (p : Parts) : Type 0 where
    pub stand : sizes_stand x zs ≡ true
    pub all : all_have (types_of p.forms) zs (Some base) ≡ true
    pub depths : depth_of (types_of p.forms) ≡ p.depth
    pub depth : p.depth < x.too_deep
    pub some : 0 < length p.forms

  same_more : (base : Base) (zs : List Size) (p : Parts) (a : Begun) → sizes_stand x zs ≡ true → all_have (types_of p.forms) zs (Some base) ≡ true → depth_of (types_of p.forms) ≡ p.depth → p.depth < x.too_deep → a.sizes ≡ zs → Well base a → Same base zs (with_part p (Some a))
  same_more base zs p a s h k l e w =
      let t = depth_last p.forms a.form in
      let u : (initialiser_type x vs a.form).depth ≡ a.depth = ap (λ (t : Typed). t.depth) w.type in
      let n = length_more p.forms a.form in
      record {
        stand = s;
        all = all_last p.forms a.form zs (Some base) h (known_has (initialiser_type x vs a.form) a.sizes zs base a.depth w.type (sym e));
        depths = omega arith;
        depth = less_max p.depth a.depth x.too_deep l w.depth;
        some = omega arith;
      }

  -- what the elements so far give to all
  abbrev Given : Shape → Option Shape → Parts → Type 0
  Given inner None p = (p.forms ≡ []) × (p.depth ≡ 0)
  Given inner (Some shape) p = (zs : List Size) × (shape ≡ sized zs (base_of inner)) × (are_stated zs ≡ true) × (extents_fit (extents inner) zs ≡ true) × (sizes_within zs ≡ true → Same (base_of inner) zs p)

  -- so many elements, all of which fit
  record Counted (inner : Shape) (n : ℕ) (e : Elements) : Type 0 where
    pub count : e.parts.fit ≡ true → length e.parts.forms ≡ n
    pub given : e.parts.fit ≡ true → Given inner e.given e.parts

  base_wanted : (shape : Shape) → may_be_wanted x shape ≡ true → base_stands x (base_of shape) ≡ true
  base_wanted shape w = (both (extents_within (extents shape)) _ w).1

  sized_wanted : (zs : List Size) (base : Base) → are_stated zs ≡ true → sizes_within zs ≡ true → base_stands x base ≡ true → may_be_wanted x (sized zs base) ≡ true
  sized_wanted zs base h w k = and_true (extents_within (extents (sized zs base))) _ (ap extents_within (sized_extents zs base) ∙ within_extents zs h w) (ap (base_stands x) (sized_base zs base) ∙ k)

  -- what fits stated sizes has them
  sized_sizes : (zs : List Size) (base : Base) (shape : Shape) (a : Begun) → are_stated zs ≡ true → shape ≡ sized zs base → BegunGood shape a → a.sizes ≡ zs
  sized_sizes zs base shape a h e g =
      let q : numbered 0 (extents shape) ≡ zs = ap (λ shape. numbered 0 (extents shape)) e ∙ ap (numbered 0) (sized_extents zs base) ∙ numbered_back zs h in
      stated_law (extents shape) a.sizes (ap are_stated q ∙ h) g.fits ∙ q

  given_more : (inner : Shape) (b : Beginning) (gv : Option Shape) (p : Parts) (e : Option Begun) (a : Begun) → may_be_wanted x inner ≡ true → PartGood b → Given inner gv p → b (Some (element_shape inner gv)) ≡ Ok e → e ≡ Some a → are_stated a.sizes ≡ true → Given inner (given_by (base_of inner) gv (Some a)) (with_part p (Some a))
  given_more inner b None p e a w k g q r h =
      let m = made b inner e a k w q r in (
        a.sizes,
        refl,
        h,
        m.fits,
        λ l.
            let y = m.well l in
            let empty : all_have (types_of p.forms) a.sizes (Some (base_of inner)) ≡ true = ap (λ forms. all_have (types_of forms) a.sizes (Some (base_of inner))) g.0 in
            let none : depth_of (types_of p.forms) ≡ p.depth = ap (λ forms. depth_of (types_of forms)) g.0 ∙ sym g.1 in
            let z = g.1 in
            same_more (base_of inner) a.sizes p a y.stand empty none (omega arith) refl y,
      )
  given_more inner b (Some shape) p e a w k g q r h =
      let zs = g.0 in (
        zs,
        g.1,
        g.2,
        g.3,
        λ l.
            let same = g.4 l in
            let wanted : may_be_wanted x shape ≡ true = ap (may_be_wanted x) g.1 ∙ sized_wanted zs (base_of inner) g.2 l (base_wanted inner w) in
            let m = made b shape e a k wanted q r in
            let i = sized_sizes zs (base_of inner) shape a g.2 g.1 m in
            let y : Well (base_of inner) a = subst (λ (base : Base). Well base a) (ap base_of g.1 ∙ sized_base zs (base_of inner)) (m.well (ap sizes_within i ∙ l)) in
            same_more (base_of inner) zs p a same.stand same.all same.depths same.depth i y,
      )

  element_after : (inner : Shape) (n : ℕ) (b : Beginning) (before : Elements) (e o : Option Begun) → may_be_wanted x inner ≡ true → PartGood b → Counted inner n before → b (Some (element_shape inner before.given)) ≡ Ok e → as_part e ≡ o → Counted inner (suc n) (with_element (base_of inner) before o)
  element_after inner n b before e None w k i q r = record { count = λ f. absurd (cc); given = λ f. absurd (cc) }
  element_after inner n b before e (Some a) w k i q r =
      let p = part_is e (Some a) r in
      record {
        count = λ f. let c = i.count f in let z = length_more before.parts.forms a.form in omega arith;
        given = λ f. given_more inner b before.given before.parts e a w k (i.given f) q p.0 p.1;
      }

  elements_good : (inner : Shape) (parts : List Beginning) (n m : ℕ) (before : Elements) → m ≡ n + length parts → may_be_wanted x inner ≡ true → EachPart parts → Counted inner n before → Good (Counted inner m) (elements_begun inner parts before)
  elements_good inner [] n m before e w k i = let q : n ≡ m = omega arith in subst (λ m. Counted inner m before) q i
  elements_good inner (b ∷ parts) n m before e w k i =
      good_then (Counted inner (suc n)) (Counted inner m) (element_begun inner b before) _
      (good_after (Counted inner (suc n)) (b (Some (element_shape inner before.given))) (λ e. Ok (with_element (base_of inner) before (as_part e))) (λ e q. element_after inner n b before e (as_part e) w k.0 i q refl))
      (λ after j. elements_good inner parts (suc n) m after (omega arith) w k.1 j)

  array_type : (inner : Shape) (y : Extent) (shape : Shape) (zs : List Size) (p : Parts) → shape ≡ sized zs (base_of inner) → are_stated zs ≡ true → Same (base_of inner) zs p → nat_le (short (length p.forms)) ARRAY_SIZE ≡ true → Well (base_of (roll-Shape (layer.Array inner y))) (array_begun shape p)
  array_type inner y shape zs p e h same w =
      let l = short_within (length p.forms) w in
      let stated : stated_sizes shape ≡ zs = ap stated_sizes e ∙ sized_stated zs (base_of inner) h in
      let own = ap (local 0) e ∙ sized_local zs (base_of inner) h in
      let types = types_of p.forms in
      let long = types_long p.forms in
      let s = same.some in
      let t : nat_lt 0 (length types) ≡ true = lt-ltb _ _ (omega arith) in
      let a : are_stated (local 0 shape).sizes ≡ true = ap (λ l. are_stated l.sizes) own ∙ h in
      let b : all_have types (local 0 shape).sizes (Some (local 0 shape).base) ≡ true = ap (λ l. all_have types l.sizes (Some l.base)) own ∙ same.all in
      let c : length types ≡ short (length p.forms) = long ∙ sym l in
      let sizes : Stated (length types) ∷ (local 0 shape).sizes ≡ Stated (short (length p.forms)) ∷ stated_sizes shape = ap (λ n. Stated n ∷ (local 0 shape).sizes) c ∙ ap (λ sizes. Stated (short (length p.forms)) ∷ sizes) (ap (λ l. l.sizes) own ∙ sym stated) in
      let base : Some (local 0 shape).base ≡ Some (base_of (roll-Shape (layer.Array inner y))) = ap (λ l. Some l.base) own ∙ ap Some (sym (array_base inner y)) in
      record {
        stand = and_true (nat_le 1 (short (length p.forms)) && nat_le (short (length p.forms)) ARRAY_SIZE) _ (and_true (nat_le 1 (short (length p.forms))) _ (le-leb _ _ (let i : 1 ≤ short (length p.forms) = omega arith in i)) w) (ap (sizes_stand x) stated ∙ same.stand);
        type = elements_is shape p.forms ∙ known_of (type_initialiser x vs (initial.Elements shape types)) (Stated (short (length p.forms)) ∷ stated_sizes shape) (Some (base_of (roll-Shape (layer.Array inner y)))) p.depth (and_true (nat_lt 0 (length types)) _ t (and_true (are_stated (local 0 shape).sizes) _ a b)) sizes base same.depths;
        depth = same.depth;
      }

  array_kept : (inner : Shape) (y : Extent) (count : ℕ) (p : Parts) (gv : Option Shape) → may_be_wanted x (roll-Shape (layer.Array inner y)) ≡ true → (p.fit ≡ true → length p.forms ≡ count) → (p.fit ≡ true → Given inner gv p) → Good (OptionGood (roll-Shape (layer.Array inner y))) (array_rule y count p gv)
  array_kept inner y count p None w c g = tt
  array_kept inner y count p (Some shape) w c g =
      good_if (OptionGood (roll-Shape (layer.Array inner y))) (p.fit && count_fits y count) (Some (array_begun shape p)) Mismatch (λ h.
      let b = both p.fit _ h in
      let k = g b.0 in
      let zs = k.0 in
      let stated : stated_sizes shape ≡ zs = ap stated_sizes k.1 ∙ sized_stated zs (base_of inner) k.2 in
      let n = c b.0 in
      let within : extents_within (y ∷ extents inner) ≡ true = ap extents_within (sym (array_extents inner y)) ∙ (both (extents_within (extents (roll-Shape (layer.Array inner y)))) _ w).0 in
      let first : extent_fits y (Stated (short (length p.forms))) ≡ true = ap (λ n. extent_fits y (Stated (short n))) n ∙ count_size y (extents inner) count within b.1 in
      let rest : extents_fit (extents inner) (stated_sizes shape) ≡ true = ap (extents_fit (extents inner)) stated ∙ k.3 in
      record {
        fits = ap (λ xs. extents_fit xs (Stated (short (length p.forms)) ∷ stated_sizes shape)) (array_extents inner y) ∙ and_true (extent_fits y (Stated (short (length p.forms)))) _ first rest;
        well = λ l.
            let m = both (nat_le (short (length p.forms)) ARRAY_SIZE) _ l in
            array_type inner y shape zs p k.1 k.2 (k.4 (ap sizes_within (sym stated) ∙ m.1)) m.0;
      })

  pub array_good : (inner : Shape) (y : Extent) (unit token : ℕ) (parts : List Beginning) → may_be_wanted x (roll-Shape (layer.Array inner y)) ≡ true → EachPart parts → Good (OptionGood (roll-Shape (layer.Array inner y))) (array_list unit token inner y parts)
  array_good inner y unit token parts w k =
      let a = both (extents_within (extents (roll-Shape (layer.Array inner y)))) _ w in
      let within : extents_within (y ∷ extents inner) ≡ true = ap extents_within (sym (array_extents inner y)) ∙ a.0 in
      let own : may_be_wanted x inner ≡ true = and_true (extents_within (extents inner)) _ (inner_within y (extents inner) within) (ap (base_stands x) (sym (array_base inner y)) ∙ a.1) in
      good_then (Counted inner (length parts)) (OptionGood (roll-Shape (layer.Array inner y))) (elements_begun inner parts no_elements) _
      (elements_good inner parts 0 (length parts) no_elements (let e : length parts ≡ 0 + length parts = omega arith in e) own k (record { count = λ f. refl; given = λ f. (refl, refl) }))
      (λ after i. good_at (OptionGood (roll-Shape (layer.Array inner y))) unit token (array_rule y (length parts) after.parts after.given) (array_kept inner y (length parts) after.parts after.given w i.count i.given))

  -- ---- fields

  -- the shapes of fields stand, without open sizes
  abbrev pub FieldShapes : List Shape → Type 0
  FieldShapes shapes = (k : ℕ) (shape : Shape) → slice_get shapes k ≡ Some shape → result_stands x (Some shape) ≡ true

  -- what a field gives
  abbrev FieldIs : Shape → Parts → Option Begun → Parts → Type 0
  FieldIs shape before None after = after ≡ with_part before None
  FieldIs shape before (Some a) after = (after ≡ with_part before (Some a)) × (has (initialiser_type x vs a.form) (local 0 shape).sizes (Some (local 0 shape).base) ≡ true) × ((initialiser_type x vs a.form).depth ≡ a.depth) × (a.depth < x.too_deep)

  abbrev FieldAfter : Shape → Parts → Parts → Type 0
  FieldAfter shape before after = (o : Option Begun) × FieldIs shape before o after

  field_after : (shape : Shape) (b : Beginning) (before : Parts) (e o : Option Begun) → result_stands x (Some shape) ≡ true → PartGood b → b (Some shape) ≡ Ok e → as_part e ≡ o → FieldIs shape before o (with_part before o)
  field_after shape b before e None s k q r = refl
  field_after shape b before e (Some a) s k q r =
      let p = part_is e (Some a) r in
      let c = both (are_stated (local 0 shape).sizes) _ s in
      let f = both (sizes_stand x (local 0 shape).sizes && base_stands x (base_of shape)) _ c.1 in
      let h = both (sizes_stand x (local 0 shape).sizes) _ f.0 in
      let wanted : may_be_wanted x shape ≡ true = and_true (extents_within (extents shape)) _ (stated_within x 0 (extents shape) c.0 h.0) h.1 in
      let m = made b shape e a k wanted q p.0 in
      let i : a.sizes ≡ (local 0 shape).sizes = stated_law (extents shape) a.sizes c.0 m.fits in
      let y = m.well (stand_within x a.sizes p.1 (ap (sizes_stand x) i ∙ h.0)) in
      (refl, known_has (initialiser_type x vs a.form) a.sizes (local 0 shape).sizes (base_of shape) a.depth y.type (sym i), ap (λ (t : Typed). t.depth) y.type, y.depth)

  -- what all fields give
  abbrev FieldsAfter : List Shape → Parts → Parts → Type 0
  FieldsAfter shapes before after = after.fit ≡ true → (more : List Initialiser) × (before.fit ≡ true) × (after.forms ≡ before.forms ++ more) × (each_has (types_of more) shapes ≡ true) × (after.depth ≡ max before.depth (depth_of (types_of more))) × (depth_of (types_of more) < x.too_deep)

  fields_more : (shape : Shape) (shapes : List Shape) (before middle after : Parts) (o : Option Begun) → FieldIs shape before o middle → FieldsAfter shapes middle after → FieldsAfter (shape ∷ shapes) before after
  fields_more shape shapes before middle after None i r f = let k = r f in let e : middle.fit ≡ false = ap (λ (p : Parts). p.fit) i in let h = k.1 in absurd (cc)
  fields_more shape shapes before middle after (Some a) i r f =
      let k = r f in
      let e = i.0 in
      let fit : before.fit ≡ true = sym (ap (λ (p : Parts). p.fit) e) ∙ k.1 in
      let forms : after.forms ≡ before.forms ++ (a.form ∷ k.0) = k.2 ∙ ap (λ (p : Parts). p.forms ++ k.0) e ∙ append_assoc before.forms (a.form ∷ []) k.0 in
      let deep : middle.depth ≡ max before.depth a.depth = ap (λ (p : Parts). p.depth) e in
      let d = k.4 in
      let u = i.2 in
      let v = i.3 in
      let w = k.5 in
      (a.form ∷ k.0, fit, forms, and_true (has (initialiser_type x vs a.form) (local 0 shape).sizes (Some (local 0 shape).base)) _ i.1 k.3, omega arith, omega arith)

  fields_good : (shapes : List Shape) (parts : List Beginning) (before : Parts) → length parts ≡ length shapes → FieldShapes shapes → EachPart parts → Good (FieldsAfter shapes before) (fields_begun shapes parts before)
  fields_good [] [] before n s k = λ f. ([], f, sym (append-nil before.forms), refl, omega arith, roomy)
  fields_good (shape ∷ shapes) [] before n s k = absurd (omega arith)
  fields_good [] (b ∷ parts) before n s k = absurd (omega arith)
  fields_good (shape ∷ shapes) (b ∷ parts) before n s k =
      good_then (FieldAfter shape before) (FieldsAfter (shape ∷ shapes) before) (field_begun (shape ∷ shapes) b before) _
      (good_after (FieldAfter shape before) (b (Some shape)) (λ e. Ok (with_part before (as_part e))) (λ e q. (as_part e, field_after shape b before e (as_part e) (s 0 shape refl) k.0 q refl)))
      (λ middle i. good_each (FieldsAfter (shape ∷ shapes) before) (fields_begun shapes parts middle) (λ after q.
      fields_more shape shapes before middle after i.0 i.1 (good_ok (FieldsAfter shapes middle) (fields_begun shapes parts middle) after q (fields_good shapes parts middle (omega arith) (λ j shape e. s (suc j) shape e) k.1))))

  pub struct_good : (n unit token : ℕ) (parts : List Beginning) → may_be_wanted x (roll-Shape (layer.Struct n)) ≡ true → FieldShapes (field_shapes x.structs n) → EachPart parts → Good (OptionGood (roll-Shape (layer.Struct n))) (struct_list unit token n (field_shapes x.structs n) parts)
  struct_good n unit token parts w s k =
      let shapes = field_shapes x.structs n in
      let there : nat_lt n (length x.structs) ≡ true = ap (base_stands x) (sym (struct_base n)) ∙ base_wanted (roll-Shape (layer.Struct n)) w in
      good_after (OptionGood (roll-Shape (layer.Struct n))) (fields_begun shapes parts no_parts) _ (λ after q.
      good_at (OptionGood (roll-Shape (layer.Struct n))) unit token (struct_rule n (length shapes) (length parts) after) (good_if (OptionGood (roll-Shape (layer.Struct n))) (after.fit && length parts == length shapes) (Some (struct_begun n after)) Mismatch (λ h.
      let b = both after.fit _ h in
      let count : length parts ≡ length shapes = eqb-true _ _ b.1 in
      let f = good_ok (FieldsAfter shapes no_parts) (fields_begun shapes parts no_parts) after q (fields_good shapes parts no_parts count s k) b.0 in
      let types = types_of after.forms in
      let forms : after.forms ≡ f.0 = f.2 in
      let each : each_has types shapes ≡ true = ap (λ forms. each_has (types_of forms) shapes) forms ∙ f.3 in
      let deep : depth_of types ≡ after.depth = ap (λ forms. depth_of (types_of forms)) forms ∙ (let d = f.4 in let z : depth_of (types_of f.0) ≡ after.depth = omega arith in z) in
      let below : after.depth < x.too_deep = let d = f.4 in let l = f.5 in omega arith in
      record {
        fits = ap (λ xs. extents_fit xs []) (struct_extents n);
        well = λ l. record {
          stand = refl;
          type = fields_is n after.forms ∙ known_of (type_initialiser x vs (initial.Fields n types)) [] (Some (base_of (roll-Shape (layer.Struct n)))) after.depth (and_true (nat_lt n (length x.structs)) _ there each) refl (ap Some (sym (struct_base n))) deep;
          depth = below;
        };
      })))
