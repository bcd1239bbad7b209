-- The values that the inputs of a stage take fit its entry.
use Rattle.std.proofs.Common.{◌≡◌, ℕ, zero, suc, ◌++◌, ◌+◌, ◌-◌, ◌^◌, ◌<◌, ◌≤◌, ℤ, pos, neg_ℤ, ◌≤ℤ◌, List, [], ◌∷◌, map, length, Option, Some, None, is_some, Bool, true, false, not, ◌&&◌, ◌||◌, ◌==◌, if◌then◌else◌, refl, sym, ap, subst, ◌∙◌, arith, slice_get, nat_le, codes}
use Rattle.std.proofs.lemmas.Int.{ints}
use Rattle.std.specs.Prelude.{bytes_eq}
use Rattle.std.specs.Option.{option_map}
use Rattle.fix_num.specs.declared.TheConstants.{FRACTION}
use Rattle.fix_num.specs.Fixed.{IsRaw, max_raw, one as one_raw, code_in}
use Rattle.ctl_base.specs.declared.limits.TheConstants.{SCALARS}
use Rattle.ctl_base.specs.declared.kind.ScalarKind.{ScalarKind}
use Rattle.ctl_base.specs.declared.kind.ScalarKind.TheVariants as kind
use Rattle.ctl_types.specs.declared.scalar.Scalar.{Scalar as ScalarForm}
use Rattle.ctl_types.specs.declared.scalar.Scalar.TheVariants as scalar_form
use Rattle.ctl_types.specs.declared.shape.Base.{Base}
use Rattle.ctl_types.specs.declared.shape.Base.TheVariants.{Scalar, Struct}
use Rattle.ctl_types.specs.declared.shape.Extent.{Extent}
use Rattle.ctl_types.specs.declared.shape.Extent.TheVariants as extent
use Rattle.ctl_types.specs.declared.shape.Shape.{Shape, roll-Shape, out-Shape}
use Rattle.ctl_types.specs.declared.shape.Shape.TheOpen as layer
use Rattle.ctl_types.specs.declared.shape.Shape.TheOpen.{Shape-F}
use Rattle.ctl_types.specs.declared.shape.Shape.TheFolds.{fold-roll-Shape}
use Rattle.ctl_types.specs.declared.shape.Shape.TheViews.{roll-out-Shape}
use Rattle.ctl_types.specs.declared.value.Value.{Value, roll-Value, out-Value}
use Rattle.ctl_types.specs.declared.value.Value.TheOpen as value_layer
use Rattle.ctl_types.specs.declared.value.Value.TheFolds.{fold-roll-Value}
use Rattle.ctl_types.specs.declared.value.Value.TheViews.{out-roll-Value}
use Rattle.ctl_types.specs.declared.program.Struct.{Struct as StructForm}
use Rattle.ctl_types.specs.declared.program.Parameter.{Parameter}
use Rattle.ctl_types.specs.declared.program.Function.{Function}
use Rattle.ctl_types.specs.Scalars.{kind_of, word_of, scalar, same_kind, in_range, converted}
use Rattle.ctl_types.specs.Shapes.{extents, extents_step, base_of, base_step, open_count, numbered, local, whole}
use Rattle.ctl_types.specs.Values.{one, Fit, fit_step, fits, flat, flat_step, scalars, sizes_at, sizes_fit}
use Rattle.ctl_types.specs.Definitions.{Defined}
use Rattle.ctl_types.specs.Typing.{are_stated, Scene, Signature, Formal, formals_from, signature_of, shape_stands, node_stands}
use Rattle.ctl_types.specs.Scoping.{default_stands, parameters_stand, inside, function_stands, function_signature, functions_stand, result_stands, with_functions, scene_before, structs_stand, constants_stand, IsDefined, is_plain_base, are_plain, is_void}
use Rattle.ctl_types.specs.Run.{given_or, with_output, word_as}
use Rattle.ctl_laws.specs.Sound.{has_first, inputs_fit}
use Rattle.ctl_eval.specs.Entries.{EntryTakes}
use Rattle.render_tree.specs.declared.pixel.Pixel.{Pixel}
use Rattle.render_tree.specs.PixelRun.{Named, StageForm, named, if_named, value_of, kind_in, scalar_kind, in_kind, taken_as, full, last_resort, input_value, input_values, parameters_in, parameters_of, channel, first_values}
use Rattle.render_tree.specs.Stages.{is_scalar, is_channel, is_alpha, is_fed, is_uniform, input_is_simple, inputs_are_simple, outputs_are_simple, IsStage}
use Rattle.render_tree.specs.Means.{InputsFit, PixelFits}
use Rattle.render_tree.proofs.Ranges as ranges
use Rattle.render_tree.proofs.Ranges.{Numbers, raw_converted, raw_word}

both : (a b : Bool) → (a && b) ≡ true → (a ≡ true) × (b ≡ true)
both true b h = (refl, h)
both false b h = absurd (cc)

and_true : (a b : Bool) → a ≡ true → b ≡ true → (a && b) ≡ true
and_true true b h k = k
and_true false b h k = absurd (cc)

kind_same : (a : ScalarKind) → same_kind a a ≡ true
kind_same kind.Bool = refl
kind_same kind.Int = refl
kind_same kind.Unsigned = refl
kind_same kind.Half = refl
kind_same kind.Float = refl

-- ---- a scalar that is made of a raw

one_fits : (structs : List StructForm) (s : ScalarForm) (k : ScalarKind) → kind_of s ≡ k → in_range FRACTION k (word_of s) ≡ true → fits structs (one s) [] (Some (Scalar k)) ≡ true
one_fits structs s k e h =
    ap (λ (f : Fit). f [] (Some (Scalar k))) (fold-roll-Value Fit (fit_step structs) (value_layer.One s))
    ∙ and_true (same_kind (kind_of s) k) _ (subst (λ (k : ScalarKind). same_kind (kind_of s) k ≡ true) e (kind_same (kind_of s))) h

one_scalar : (s : ScalarForm) → scalars (one s) ≡ 1
one_scalar s = ap length (fold-roll-Value (List ℤ) flat_step (value_layer.One s))

-- the extents and the base of a scalar's shape
kind_shape : (s : Shape) (x : Shape-F Shape) (k : ScalarKind) → out-Shape s ≡ x → kind_in x ≡ Some k → s ≡ roll-Shape (layer.Scalar k)
kind_shape s (layer.Scalar j) k e h = let same : j ≡ k = cc in sym (roll-out-Shape s) ∙ ap roll-Shape e ∙ ap (λ j. roll-Shape (layer.Scalar j)) same
kind_shape s (layer.Struct n) k e h = absurd (cc)
kind_shape s (layer.Array inner x) k e h = absurd (cc)

made_stands : (structs : List StructForm) (xs : List Extent) (base : Base) (s : ScalarForm) (k : ScalarKind) → xs ≡ [] → base ≡ Scalar k → kind_of s ≡ k → in_range FRACTION k (word_of s) ≡ true
    → ((sizes_fit (sizes_at xs (Some (one s))) && nat_le (scalars (one s)) SCALARS) && fits structs (one s) (whole (sizes_at xs (Some (one s))) (numbered 0 xs) (Some base)).sizes (Some base)) ≡ true
made_stands structs [] base s k e f g h =
    let few : nat_le (scalars (one s)) SCALARS ≡ true = ap (λ n. nat_le n SCALARS) (one_scalar s) in
    and_true (nat_le (scalars (one s)) SCALARS) _ few (subst (λ (b : Base). fits structs (one s) [] (Some b) ≡ true) (sym f) (one_fits structs s k g h))
made_stands structs (x ∷ xs) base s k e f g h = absurd (cc)

scalar_stands : Numbers → (structs : List StructForm) (shape : Shape) (k : ScalarKind) (z : ℤ) → scalar_kind shape ≡ Some k → IsRaw z → default_stands structs shape (Some (one (scalar k (converted FRACTION kind.Float k z)))) ≡ true
scalar_stands n structs shape k z e r =
    let is : shape ≡ roll-Shape (layer.Scalar k) = kind_shape shape (out-Shape shape) k refl e in
    let none : extents shape ≡ [] = ap extents is ∙ fold-roll-Shape (List Extent) extents_step (layer.Scalar k) in
    let base : base_of shape ≡ Scalar k = ap base_of is ∙ fold-roll-Shape Base base_step (layer.Scalar k) in
    made_stands structs (extents shape) (base_of shape) (scalar k (converted FRACTION kind.Float k z)) k none base (ranges.scalar_kind k (converted FRACTION kind.Float k z))
    (subst (λ (w : ℤ). in_range FRACTION k w ≡ true) (sym (raw_word n k z r)) (raw_converted n k z r))

-- ---- what an input takes

float_word : (k : ScalarKind) (z : ℤ) → word_as k (out-Value (one (scalar_form.Float z))) ≡ converted FRACTION kind.Float k z
float_word k z = ap (word_as k) (out-roll-Value (value_layer.One (scalar_form.Float z)))

-- a raw that is taken as a scalar
taken_stands : Numbers → (structs : List StructForm) (q : Parameter) (o : Option ScalarKind) (z : ℤ) → scalar_kind q.shape ≡ o → is_some o ≡ true → IsRaw z
    → default_stands structs q.shape (Some (taken_as o (one (scalar_form.Float z)))) ≡ true
taken_stands n structs q None z e h r = absurd (cc)
taken_stands n structs q (Some k) z e h r =
    let P : ℤ → Type 0 = λ w. default_stands structs q.shape (Some (one (scalar k w))) ≡ true in subst P (sym (float_word k z)) (scalar_stands n structs q.shape k z e r)

full_raw : IsRaw (one_raw FRACTION)
full_raw = (omega (arith, ints), omega (arith, ints))

code_raw : Numbers → (code depth : ℕ) → 8 ≤ depth → code < 2 ^ depth → IsRaw (code_in FRACTION code depth)
code_raw n code depth h l = let r = (n.codes FRACTION).read code depth (omega arith) l in let a = r.0 in let b = r.1 in (omega (arith, ints), omega (arith, ints))

-- a channel's value
pub record IsChannel (name : List ℕ) (v : Value) : Type 0 where
  pub raw : ℤ
  pub is_float : v ≡ one (scalar_form.Float raw)
  pub in_range : IsRaw raw
  pub known : is_channel name ≡ true

or_left : (a b : Bool) → a ≡ true → (a || b) ≡ true
or_left true b h = refl
or_left false b h = absurd (cc)

or_right : (a b : Bool) → b ≡ true → (a || b) ≡ true
or_right true b h = refl
or_right false b h = h

some_value : (a b : Value) → Some a ≡ Some b → a ≡ b
some_value a b e = cc

module _ (n : Numbers) (depth : ℕ) (deep : 8 ≤ depth) (p : Pixel) (fit : PixelFits depth p) (name : List ℕ) where
  channel_is : (code : ℕ) (v : Value) → code < 2 ^ depth → is_channel name ≡ true → channel depth code ≡ v → IsChannel name v
  channel_is code v l k e = record { raw = code_in FRACTION code depth; is_float = sym e; in_range = code_raw n code depth deep l; known = k }

  chosen : (r g b : Bool) (v : Value) → (r ≡ true → is_channel name ≡ true) → (g ≡ true → is_channel name ≡ true) → (b ≡ true → is_channel name ≡ true)
      → given_or (given_or (given_or None (if b then Some (channel depth p.blue) else None)) (if g then Some (channel depth p.green) else None)) (if r then Some (channel depth p.red) else None) ≡ Some v
      → IsChannel name v
  chosen r g true v x y z e = channel_is p.blue v fit.blue_fits (z refl) (some_value _ _ e)
  chosen r true false v x y z e = channel_is p.green v fit.green_fits (y refl) (some_value _ _ e)
  chosen true false false v x y z e = channel_is p.red v fit.red_fits (x refl) (some_value _ _ e)
  chosen false false false v x y z e = absurd (cc)

  channel_value : (v : Value) → value_of name (first_values depth p) ≡ Some v → IsChannel name v
  channel_value v e =
      chosen (bytes_eq name (codes "rIn")) (bytes_eq name (codes "gIn")) (bytes_eq name (codes "bIn")) v
      (λ h. or_left (bytes_eq name (codes "rIn")) _ h)
      (λ h. or_right (bytes_eq name (codes "rIn")) _ (or_left (bytes_eq name (codes "gIn")) _ h))
      (λ h. or_right (bytes_eq name (codes "rIn")) _ (or_right (bytes_eq name (codes "gIn")) _ h))
      e

-- an input of the simple form that is a channel or the transparency is a scalar
is_scalar_input : (q : Parameter) → input_is_simple q ≡ true → (is_channel q.name || is_alpha q.name) ≡ true → is_some (scalar_kind q.shape) ≡ true
is_scalar_input q h k =
    let g : (if true then is_scalar q && not (is_fed q && is_uniform q.level) else is_some q.default) ≡ true =
    subst (λ (t : Bool). (if t then is_scalar q && not (is_fed q && is_uniform q.level) else is_some q.default) ≡ true) k h in
    (both (is_scalar q) _ g).0

module _ (n : Numbers) (structs : List StructForm) (depth : ℕ) (deep : 8 ≤ depth) (p : Pixel) (fit : PixelFits depth p) (q : Parameter) (simple : input_is_simple q ≡ true) (stands : default_stands structs q.shape q.default ≡ true) where
  last_stands : (t : Bool) (v : Value) → is_alpha q.name ≡ t → (if t then Some (taken_as (scalar_kind q.shape) full) else None) ≡ Some v → default_stands structs q.shape (Some v) ≡ true
  last_stands true v e h =
      subst (λ (v : Value). default_stands structs q.shape (Some v) ≡ true) (some_value _ _ h)
      (taken_stands n structs q (scalar_kind q.shape) (one_raw FRACTION) refl (is_scalar_input q simple (or_right (is_channel q.name) _ e)) full_raw)
  last_stands false v e h = absurd (cc)

  default_or_last : (o : Option Value) (v : Value) → q.default ≡ o → given_or o (last_resort q) ≡ Some v → default_stands structs q.shape (Some v) ≡ true
  default_or_last (Some d) v e h =
      subst (λ (o : Option Value). default_stands structs q.shape o ≡ true) (e ∙ h) stands
  default_or_last None v e h = last_stands (is_alpha q.name) v refl h

  value_stands_at : (o : Option Value) (v : Value) → value_of q.name (first_values depth p) ≡ o → given_or (option_map (taken_as (scalar_kind q.shape)) o) (given_or q.default (last_resort q)) ≡ Some v → default_stands structs q.shape (Some v) ≡ true
  value_stands_at None v e h = default_or_last q.default v refl h
  value_stands_at (Some w) v e h =
      let c = channel_value n depth deep p fit q.name w e in
      let s = taken_stands n structs q (scalar_kind q.shape) c.raw refl (is_scalar_input q simple (or_left (is_channel q.name) _ c.known)) c.in_range in
      let same : taken_as (scalar_kind q.shape) (one (scalar_form.Float c.raw)) ≡ v = ap (taken_as (scalar_kind q.shape)) (sym c.is_float) ∙ some_value _ _ h in
      subst (λ (v : Value). default_stands structs q.shape (Some v) ≡ true) same s

  value_stands : (v : Value) → input_value (first_values depth p) q ≡ Some v → default_stands structs q.shape (Some v) ≡ true
  value_stands v h = value_stands_at (value_of q.name (first_values depth p)) v refl h

-- what has no channel's name is none
not_channel : (r g b : Bool) (x y z : Value)
    → given_or (given_or (given_or None (if b then Some z else None)) (if g then Some y else None)) (if r then Some x else None) ≡ None → (r || (g || b)) ≡ false
not_channel r g true x y z e = absurd (cc)
not_channel r true false x y z e = absurd (cc)
not_channel true false false x y z e = absurd (cc)
not_channel false false false x y z e = refl

last_value : (q : Parameter) (c a : Bool) → is_channel q.name ≡ c → c ≡ false → is_alpha q.name ≡ a → (if c || a then is_scalar q && not (is_fed q && is_uniform q.level) else is_some q.default) ≡ true → q.default ≡ None
    → last_resort q ≡ Some (taken_as (scalar_kind q.shape) full)
last_value q true a e f g h d = absurd (cc)
last_value q false true e f g h d = ap (λ (t : Bool). if t then Some (taken_as (scalar_kind q.shape) full) else None) g
last_value q false false e f g h d = let P : Option Value → Type 0 = λ o. is_some o ≡ true in let i = subst P d h in absurd (cc)

-- an input of the simple form that is no channel and has no default takes 1.0
pub last_taken : (depth : ℕ) (p : Pixel) (q : Parameter) → input_is_simple q ≡ true → None ≡ value_of q.name (first_values depth p) → q.default ≡ None → input_value (first_values depth p) q ≡ Some (taken_as (scalar_kind q.shape) full)
last_taken depth p q simple none d =
    let c : is_channel q.name ≡ false = not_channel (bytes_eq q.name (codes "rIn")) (bytes_eq q.name (codes "gIn")) (bytes_eq q.name (codes "bIn")) (channel depth p.red) (channel depth p.green) (channel depth p.blue) (sym none) in
    ap (λ (o : Option Value). given_or (option_map (taken_as (scalar_kind q.shape)) o) (given_or q.default (last_resort q))) (sym none)
    ∙ ap (λ (o : Option Value). given_or o (last_resort q)) d
    ∙ last_value q (is_channel q.name) (is_alpha q.name) refl c refl simple d

-- ---- all inputs

-- each default is of its shape
abbrev DefaultsStand : List StructForm → List Parameter → Type 0
DefaultsStand structs [] = Unit {0}
DefaultsStand structs (q ∷ ps) = (default_stands structs q.shape q.default ≡ true) × DefaultsStand structs ps

defaults_of : (s : Scene) (k : ℕ) (ps : List Parameter) → parameters_stand s (formals_from k ps) ps ≡ true → DefaultsStand s.structs ps
defaults_of s k [] h = tt
defaults_of s k (q ∷ ps) h =
    let a = both ((shape_stands s (local k q.shape) && default_stands s.structs q.shape q.default) && node_stands s q.node) _ h in
    let b = both (shape_stands s (local k q.shape) && default_stands s.structs q.shape q.default) _ a.0 in
    ((both (shape_stands s (local k q.shape)) _ b.0).1, defaults_of s (k + open_count (extents q.shape)) ps a.1)

no_open : (k : ℕ) (xs : List Extent) → are_stated (numbered k xs) ≡ true → open_count xs ≡ 0
no_open k [] h = refl
no_open k (extent.Stated n ∷ xs) h = no_open k xs h
no_open k (extent.Unstated ∷ xs) h = absurd (cc)

first_there : (q : Parameter) → are_stated (local 0 q.shape).sizes ≡ true → has_first q ≡ true
first_there q h = or_right (is_some q.default) _ (ap (λ n. n == 0) (no_open 0 (extents q.shape) h))

output_more : (structs : List StructForm) (q : Parameter) (ps : List Parameter) (inputs : List Value) → q.is_output ≡ true → has_first q ≡ true → inputs_fit structs ps inputs ≡ true → inputs_fit structs (q ∷ ps) inputs ≡ true
output_more structs q ps [] e f h = and_true q.is_output _ e (and_true (has_first q) _ f h)
output_more structs q ps (v ∷ inputs) e f h = rw e (and_true (has_first q) _ f h)

input_more : (structs : List StructForm) (q : Parameter) (ps : List Parameter) (v : Value) (inputs : List Value) → q.is_output ≡ false → default_stands structs q.shape (Some v) ≡ true → inputs_fit structs ps inputs ≡ true → inputs_fit structs (q ∷ ps) (v ∷ inputs) ≡ true
input_more structs q ps v inputs e f h = rw e (and_true (default_stands structs q.shape (Some v)) _ f h)

-- the first value and the others
pub record IsSplit (o : Option Value) (os : Option (List Value)) (inputs : List Value) : Type 0 where
  pub value : Value
  pub others : List Value
  pub first : o ≡ Some value
  pub rest : os ≡ Some others
  pub all : value ∷ others ≡ inputs

split : (o : Option Value) (os : Option (List Value)) (inputs : List Value) → with_output o os ≡ Some inputs → IsSplit o os inputs
split None os inputs h = absurd (cc)
split (Some v) None inputs h = absurd (cc)
split (Some v) (Some vs) inputs h = record { value = v; others = vs; first = refl; rest = refl; all = cc }

module _ (n : Numbers) (structs : List StructForm) (depth : ℕ) (deep : 8 ≤ depth) (p : Pixel) (fit : PixelFits depth p) where
  all_fit : (ps : List Parameter) (inputs : List Value) → are_plain ps ≡ true → inputs_are_simple ps ≡ true → DefaultsStand structs ps → input_values (first_values depth p) ps ≡ Some inputs → inputs_fit structs ps inputs ≡ true
  all_fit [] [] a s d e = refl
  all_fit [] (v ∷ inputs) a s d e = absurd (cc)
  all_fit (q ∷ ps) inputs a s d e =
      let plain = both (is_plain_base (base_of q.shape) && are_stated (local 0 q.shape).sizes) _ a in
      let stated = both (is_plain_base (base_of q.shape)) _ plain.0 in
      let simple = both (q.is_output || input_is_simple q) _ s in
      by q.is_output refl stated.1 simple.0 (all_fit ps) plain.1 simple.1 where
        by : (t : Bool) → q.is_output ≡ t → are_stated (local 0 q.shape).sizes ≡ true → (q.is_output || input_is_simple q) ≡ true
            → ((inputs : List Value) → are_plain ps ≡ true → inputs_are_simple ps ≡ true → DefaultsStand structs ps → input_values (first_values depth p) ps ≡ Some inputs → inputs_fit structs ps inputs ≡ true)
            → are_plain ps ≡ true → inputs_are_simple ps ≡ true → inputs_fit structs (q ∷ ps) inputs ≡ true
        by true o st si rec a s =
            let e' : input_values (first_values depth p) ps ≡ Some inputs =
            subst (λ (t : Bool). (if t then input_values (first_values depth p) ps else with_output (input_value (first_values depth p) q) (input_values (first_values depth p) ps)) ≡ Some inputs) o e in
            output_more structs q ps inputs o (first_there q st) (rec inputs a s d.1 e')
        by false o st si rec a s =
            let e' : with_output (input_value (first_values depth p) q) (input_values (first_values depth p) ps) ≡ Some inputs =
            subst (λ (t : Bool). (if t then input_values (first_values depth p) ps else with_output (input_value (first_values depth p) q) (input_values (first_values depth p) ps)) ≡ Some inputs) o e in
            let si' : input_is_simple q ≡ true = subst (λ (t : Bool). (t || input_is_simple q) ≡ true) o si in
            let c = split (input_value (first_values depth p) q) (input_values (first_values depth p) ps) inputs e' in
            subst (λ (vs : List Value). inputs_fit structs (q ∷ ps) vs ≡ true) c.all
            (input_more structs q ps c.value c.others o (value_stands n structs depth deep p fit q si' d.0 c.value c.first) (rec c.others a s d.1 c.rest))

-- ---- the entry of a stage

function_at : (s : Scene) (gs : List Signature) (fs : List Function) (k : ℕ) (f : Function) → functions_stand (with_functions s gs) fs ≡ true → slice_get fs k ≡ Some f → (hs : List Signature) × (function_stands (with_functions s hs) f ≡ true)
function_at s gs [] k f w e = absurd (cc)
function_at s gs (g ∷ fs) zero f w e = let q : g ≡ f = cc in (gs, subst (λ (f : Function). function_stands (with_functions s gs) f ≡ true) q (both (function_stands (with_functions s gs) g) _ w).0)
function_at s gs (g ∷ fs) (suc k) f w e = function_at s (gs ++ function_signature (with_functions s gs) g ∷ []) fs k f (both (function_stands (with_functions s gs) g) _ w).1 e

entry_defaults : (d : Defined) → IsDefined d → (k : ℕ) (f : Function) → slice_get d.functions k ≡ Some f → DefaultsStand d.structs f.parameters
entry_defaults d is k f e =
    let a = both (structs_stand [] [] d.structs) _ is.stand in
    let b = both (constants_stand (scene_before d) d.constants) _ a.1 in
    let g = function_at (scene_before d) [] d.functions k f b.1 e in
    let s : Scene = with_functions (scene_before d) g.0 in
    let h = both ((node_stands s f.node && parameters_stand (inside s f) (signature_of 0 f).formals f.parameters) && result_stands s f.result) _ g.1 in
    let i = both (node_stands s f.node && parameters_stand (inside s f) (signature_of 0 f).formals f.parameters) _ h.0 in
    defaults_of (inside s f) 0 f.parameters (both (node_stands s f.node) _ i.0).1

pub fitting : Numbers → InputsFit
fitting n = λ s is depth deep p fit inputs e.
    let f = is.function in
    let ps : parameters_of s ≡ f.parameters = ap parameters_in is.there in
    let e' : input_values (first_values depth p) f.parameters ≡ Some inputs = ap (input_values (first_values depth p)) (sym ps) ∙ e in
    let plain = both (is_void f.result) _ is.plain in
    let simple = both (inputs_are_simple f.parameters) _ is.simple in
    (f, is.there, all_fit n s.definitions.structs depth deep p fit f.parameters inputs plain.1 simple.0 (entry_defaults s.definitions is.defined s.entry f is.there) e')
