-- What a function of the library gives does not hang on its outputs.
use Rattle.std.proofs.Common.{◌≡◌, ◌≤◌, ◌+◌, ℕ, suc, ℤ, List, [], ◌∷◌, ◌++◌, map, Option, Some, None, Bool, true, false, true≢false, not, ◌&&◌, ◌||◌, if◌then◌else◌, length, ap, sym, subst, ◌∙◌, refl, arith}
use Rattle.fix_num.specs.declared.TheConstants.{FRACTION}
use Rattle.ctl_base.specs.declared.kind.ScalarKind.{ScalarKind}
use Rattle.ctl_base.specs.declared.kind.ScalarKind.TheVariants as kind
use Rattle.ctl_stdlib.specs.declared.row.LibraryId.{LibraryId}
use Rattle.ctl_stdlib.specs.declared.row.LibraryId.TheVariants.{Exp, Log, Log10, Pow10, Sqrt, Fabs, Floor, Sin, Cos, Tan, Asin, Acos, Atan, Pow, Fmod, Hypot, Atan2, ExpH, LogH, Log10H, Pow10H, PowH, AddF3F3, SubtractF3F3, MultFF3, DotF3F3, CrossF3F3, LengthF3, MultF3F33, MultF3F44, MultF33F33, MultF44F44, MultFF33, MultFF44, AddF33F33, AddF44F44, TransposeF33, TransposeF44, InvertF33, InvertF44, Lookup1D, LookupCubic1D, Interpolate1D, InterpolateCubic1D, Lookup3DF3, Lookup3DF, RgbToXyz, XyzToRgb, Assert}
use Rattle.ctl_stdlib.specs.declared.row.RowShape.{RowShape}
use Rattle.ctl_stdlib.specs.declared.row.RowShape.TheVariants.{Bool as BoolShape, Half, Float, Float3, Float33, Float44, Floats, Pairs, Lattice, Chromaticities}
use Rattle.ctl_stdlib.specs.declared.row.Param.{Param}
use Rattle.ctl_stdlib.specs.Rows.{row}
use Rattle.ctl_stdlib.specs.Values.{at_point}
use Rattle.ctl_types.specs.declared.shape.Base.{Base}
use Rattle.ctl_types.specs.declared.shape.Base.TheVariants.{Scalar}
use Rattle.ctl_types.specs.declared.shape.Extent.{Extent}
use Rattle.ctl_types.specs.declared.shape.Shape.{Shape, roll-Shape}
use Rattle.ctl_types.specs.declared.shape.Shape.TheOpen as shape_layer
use Rattle.ctl_types.specs.declared.shape.Shape.TheFolds.{fold-roll-Shape}
use Rattle.ctl_types.specs.declared.value.Value.{Value, roll-Value, out-Value}
use Rattle.ctl_types.specs.declared.value.Value.TheViews.{roll-out-Value}
use Rattle.ctl_types.specs.declared.value.Value.TheOpen as layer
use Rattle.ctl_types.specs.declared.value.Value.TheOpen.{Value-F}
use Rattle.ctl_types.specs.declared.value.Value.TheFolds.{fold-roll-Value, map-Value}
use Rattle.ctl_types.specs.declared.program.Struct.{Struct as StructForm}
use Rattle.ctl_types.specs.Scalars.{kind_of, scalar, same_kind}
use Rattle.ctl_types.specs.Shapes.{extents, extents_step, base_of, base_step, local, locals, numbered, open_count}
use Rattle.ctl_types.specs.Values.{Env, one, flat, Fit, fit_step, fits, Filled, Filling, fill_step, filled, argument_fits, arguments_fit, takes}
use Rattle.ctl_types.specs.Library.{shape_of, param_shapes, words_of, holds_table, holds_input, result_from, outputs_from, LibraryAnswer, Unfit, Refused, Given, given_by, answered, library_answer}

both : (a b : Bool) → (a && b) ≡ true → (a ≡ true) × (b ≡ true)
both true b h = (refl, h)
both false b h = absurd (true≢false (sym h))

-- ---- rows

-- none of what is chosen is an output
abbrev inputs_only : (Param → Bool) → List Param → Bool
inputs_only chosen [] = true
inputs_only chosen (p ∷ params) = not (chosen p && p.is_output) && inputs_only chosen params

-- this is a float
abbrev is_float : RowShape → Bool
is_float BoolShape = false
is_float Half = false
is_float Float = true
is_float Float3 = false
is_float Float33 = false
is_float Float44 = false
is_float Floats = false
is_float Pairs = false
is_float Lattice = false
is_float Chromaticities = false

-- the outputs are floats
abbrev floats_out : List Param → Bool
floats_out [] = true
floats_out (p ∷ params) = (not p.is_output || is_float p.shape) && floats_out params

-- how many outputs there are
abbrev outputs_in : List Param → ℕ
outputs_in [] = 0
outputs_in (p ∷ params) = (if p.is_output then 1 else 0) + outputs_in params

row_inputs : (id : LibraryId) → ((inputs_only holds_table (row id).params && inputs_only holds_input (row id).params) && floats_out (row id).params) ≡ true
row_inputs Exp = refl
row_inputs Log = refl
row_inputs Log10 = refl
row_inputs Pow10 = refl
row_inputs Sqrt = refl
row_inputs Fabs = refl
row_inputs Floor = refl
row_inputs Sin = refl
row_inputs Cos = refl
row_inputs Tan = refl
row_inputs Asin = refl
row_inputs Acos = refl
row_inputs Atan = refl
row_inputs Pow = refl
row_inputs Fmod = refl
row_inputs Hypot = refl
row_inputs Atan2 = refl
row_inputs ExpH = refl
row_inputs LogH = refl
row_inputs Log10H = refl
row_inputs Pow10H = refl
row_inputs PowH = refl
row_inputs AddF3F3 = refl
row_inputs SubtractF3F3 = refl
row_inputs MultFF3 = refl
row_inputs DotF3F3 = refl
row_inputs CrossF3F3 = refl
row_inputs LengthF3 = refl
row_inputs MultF3F33 = refl
row_inputs MultF3F44 = refl
row_inputs MultF33F33 = refl
row_inputs MultF44F44 = refl
row_inputs MultFF33 = refl
row_inputs MultFF44 = refl
row_inputs AddF33F33 = refl
row_inputs AddF44F44 = refl
row_inputs TransposeF33 = refl
row_inputs TransposeF44 = refl
row_inputs InvertF33 = refl
row_inputs InvertF44 = refl
row_inputs Lookup1D = refl
row_inputs LookupCubic1D = refl
row_inputs Interpolate1D = refl
row_inputs InterpolateCubic1D = refl
row_inputs Lookup3DF3 = refl
row_inputs Lookup3DF = refl
row_inputs RgbToXyz = refl
row_inputs XyzToRgb = refl
row_inputs Assert = refl

-- there are enough words for the outputs
row_words : (id : LibraryId) (F : ℕ) (opens : List ℕ) (table args : List ℤ) → outputs_in (row id).params ≤ length (result_from (row id).result ((row id).value F opens table args)).rest
unfolding at_point
row_words Exp F opens table args = omega arith
row_words Log F opens table args = omega arith
row_words Log10 F opens table args = omega arith
row_words Pow10 F opens table args = omega arith
row_words Sqrt F opens table args = omega arith
row_words Fabs F opens table args = omega arith
row_words Floor F opens table args = omega arith
row_words Sin F opens table args = omega arith
row_words Cos F opens table args = omega arith
row_words Tan F opens table args = omega arith
row_words Asin F opens table args = omega arith
row_words Acos F opens table args = omega arith
row_words Atan F opens table args = omega arith
row_words Pow F opens table args = omega arith
row_words Fmod F opens table args = omega arith
row_words Hypot F opens table args = omega arith
row_words Atan2 F opens table args = omega arith
row_words ExpH F opens table args = omega arith
row_words LogH F opens table args = omega arith
row_words Log10H F opens table args = omega arith
row_words Pow10H F opens table args = omega arith
row_words PowH F opens table args = omega arith
row_words AddF3F3 F opens table args = omega arith
row_words SubtractF3F3 F opens table args = omega arith
row_words MultFF3 F opens table args = omega arith
row_words DotF3F3 F opens table args = omega arith
row_words CrossF3F3 F opens table args = omega arith
row_words LengthF3 F opens table args = omega arith
row_words MultF3F33 F opens table args = omega arith
row_words MultF3F44 F opens table args = omega arith
row_words MultF33F33 F opens table args = omega arith
row_words MultF44F44 F opens table args = omega arith
row_words MultFF33 F opens table args = omega arith
row_words MultFF44 F opens table args = omega arith
row_words AddF33F33 F opens table args = omega arith
row_words AddF44F44 F opens table args = omega arith
row_words TransposeF33 F opens table args = omega arith
row_words TransposeF44 F opens table args = omega arith
row_words InvertF33 F opens table args = omega arith
row_words InvertF44 F opens table args = omega arith
row_words Lookup1D F opens table args = omega arith
row_words LookupCubic1D F opens table args = omega arith
row_words Interpolate1D F opens table args = omega arith
row_words InterpolateCubic1D F opens table args = omega arith
row_words Lookup3DF3 F opens table args = omega arith
row_words Lookup3DF F opens table args = omega arith
row_words RgbToXyz F opens table args = omega arith
row_words XyzToRgb F opens table args = omega arith
row_words Assert F opens table args = omega arith

-- ---- a float is told by its word

kinds_float : (k : ScalarKind) → same_kind k kind.Float ≡ true → k ≡ kind.Float
kinds_float kind.Bool h = absurd (true≢false (sym h))
kinds_float kind.Int h = absurd (true≢false (sym h))
kinds_float kind.Unsigned h = absurd (true≢false (sym h))
kinds_float kind.Half h = absurd (true≢false (sym h))
kinds_float kind.Float h = refl

float_in : (structs : List StructForm) (x : Value-F Value) → fit_step structs (map-Value Value Fit (fits structs) x) [] (Some (Scalar kind.Float)) ≡ true → (w : ℤ) (words : List ℤ) → fill_step (map-Value Value Filling filled x) (w ∷ words) ≡ record { value = one (scalar kind.Float w); rest = words }
float_in structs (layer.One s) h w words = ap (λ k. record { value = one (scalar k w); rest = words }) (kinds_float (kind_of s) (both _ _ h).0)
float_in structs (layer.List vs) h w words = absurd (true≢false (sym h))
float_in structs (layer.Fields vs) h w words = absurd (true≢false (sym h))

float_filled : (structs : List StructForm) (v : Value) → fits structs v [] (Some (Scalar kind.Float)) ≡ true → (w : ℤ) (words : List ℤ) → filled v (w ∷ words) ≡ record { value = one (scalar kind.Float w); rest = words }
float_filled structs v h w words =
    let x : Value-F Value = out-Value v in
    let r : roll-Value x ≡ v = roll-out-Value v in
    let k : fits structs (roll-Value x) [] (Some (Scalar kind.Float)) ≡ true = subst (λ v. fits structs v [] (Some (Scalar kind.Float)) ≡ true) (sym r) h in
    let j : fit_step structs (map-Value Value Fit (fits structs) x) [] (Some (Scalar kind.Float)) ≡ true = sym (ap (λ (f : Fit). f [] (Some (Scalar kind.Float))) (fold-roll-Value Fit (fit_step structs) x)) ∙ k in
    subst (λ v. filled v (w ∷ words) ≡ record { value = one (scalar kind.Float w); rest = words }) r (ap (λ (f : Filling). f (w ∷ words)) (fold-roll-Value Filling fill_step x) ∙ float_in structs x j w words)

-- ---- the frames of two calls

-- they are the same but for the outputs
abbrev pub InputsSame : List Param → Env → Env → Type 0
InputsSame [] [] [] = Unit {0}
InputsSame [] [] (v ∷ vs) = ⊥
InputsSame [] (u ∷ us) vs = ⊥
InputsSame (p ∷ params) [] vs = ⊥
InputsSame (p ∷ params) (u ∷ us) [] = ⊥
InputsSame (p ∷ params) (u ∷ us) (v ∷ vs) = (p.is_output ≡ false → u ≡ v) × InputsSame params us vs

words_same : (chosen : Param → Bool) (params : List Param) → inputs_only chosen params ≡ true → (us vs : Env) → InputsSame params us vs → words_of chosen params us ≡ words_of chosen params vs
words_same chosen [] h [] [] s = refl
words_same chosen [] h [] (v ∷ vs) s = absurd s
words_same chosen [] h (u ∷ us) vs s = absurd s
words_same chosen (p ∷ params) h [] vs s = absurd s
words_same chosen (p ∷ params) h (u ∷ us) [] s = absurd s
words_same chosen (p ∷ params) h (u ∷ us) (v ∷ vs) s = cases p.is_output refl (words_same chosen params (both _ _ h).1 us vs s.1) where
  passed : (x : Option Value) (xs : Env) → chosen p ≡ false → words_of chosen (p ∷ params) (x ∷ xs) ≡ words_of chosen params xs
  passed None xs e = refl
  passed (Some x) xs e = ap (λ (b : Bool). if b then flat x ++ words_of chosen params xs else words_of chosen params xs) e

  not_chosen : (c o : Bool) → not (c && o) ≡ true → o ≡ true → c ≡ false
  not_chosen true true h e = absurd (true≢false (sym h))
  not_chosen true false h e = absurd (true≢false (sym e))
  not_chosen false o h e = refl

  same_first : (x : Option Value) → words_of chosen params us ≡ words_of chosen params vs → words_of chosen (p ∷ params) (x ∷ us) ≡ words_of chosen (p ∷ params) (x ∷ vs)
  same_first None rest = rest
  same_first (Some x) rest = ap (λ ws. if chosen p then flat x ++ ws else ws) rest

  cases : (o : Bool) → p.is_output ≡ o → words_of chosen params us ≡ words_of chosen params vs → words_of chosen (p ∷ params) (u ∷ us) ≡ words_of chosen (p ∷ params) (v ∷ vs)
  cases true e rest = let n = not_chosen (chosen p) p.is_output (both _ _ h).0 e in passed u us n ∙ rest ∙ sym (passed v vs n)
  cases false e rest = same_first u rest ∙ ap (λ u. words_of chosen (p ∷ params) (u ∷ vs)) (s.0 e)

-- the shape of a float
float_shape : (p : Param) (k : ℕ) → is_float p.shape ≡ true → (structs : List StructForm) (opens : List ℕ) (v : Value) → argument_fits structs opens (local k (shape_of p.shape)) v ≡ true → fits structs v [] (Some (Scalar kind.Float)) ≡ true
float_shape p k e structs opens v h = at p.shape e h where
  scalar_fits : argument_fits structs opens (local k (roll-Shape (shape_layer.Scalar kind.Float))) v ≡ true → fits structs v [] (Some (Scalar kind.Float)) ≡ true
  scalar_fits h =
      let x = fold-roll-Shape (List Extent) extents_step (shape_layer.Scalar kind.Float) in
      let y = fold-roll-Shape Base base_step (shape_layer.Scalar kind.Float) in
      let g = subst (λ xs. argument_fits structs opens (record { sizes = numbered k xs; base = base_of (roll-Shape (shape_layer.Scalar kind.Float)) }) v ≡ true) x h in
      (both _ _ (subst (λ b. argument_fits structs opens (record { sizes = []; base = b }) v ≡ true) y g)).0

  at : (shape : RowShape) → is_float shape ≡ true → argument_fits structs opens (local k (shape_of shape)) v ≡ true → fits structs v [] (Some (Scalar kind.Float)) ≡ true
  at BoolShape e h = absurd (true≢false (sym e))
  at Half e h = absurd (true≢false (sym e))
  at Float e h = scalar_fits h
  at Float3 e h = absurd (true≢false (sym e))
  at Float33 e h = absurd (true≢false (sym e))
  at Float44 e h = absurd (true≢false (sym e))
  at Floats e h = absurd (true≢false (sym e))
  at Pairs e h = absurd (true≢false (sym e))
  at Lattice e h = absurd (true≢false (sym e))
  at Chromaticities e h = absurd (true≢false (sym e))

abbrev shapes : List Param → List Shape
shapes = map (λ (p : Param). shape_of p.shape)

pub outputs_long : (params : List Param) (us : Env) (words : List ℤ) → length us ≤ length params → length (outputs_from params us words) ≡ length us
outputs_long [] us words h = refl
outputs_long (p ∷ params) [] words h = refl
outputs_long (p ∷ params) (None ∷ us) words h = ap suc (outputs_long params us words (omega arith))
outputs_long (p ∷ params) (Some v ∷ us) words h = at p.is_output (λ words. outputs_long params us words (omega arith)) where
  at : (o : Bool) → ((words : List ℤ) → length (outputs_from params us words) ≡ length us) → length (if o then Some (filled v words).value ∷ outputs_from params us (filled v words).rest else Some v ∷ outputs_from params us words) ≡ suc (length us)
  at true rest = ap suc (rest (filled v words).rest)
  at false rest = ap suc (rest words)

outputs_same : (structs : List StructForm) (opens : List ℕ) (params : List Param) (k : ℕ) → floats_out params ≡ true → (us vs : Env) → InputsSame params us vs → arguments_fit structs opens (locals k (shapes params)) us ≡ true → arguments_fit structs opens (locals k (shapes params)) vs ≡ true → (words : List ℤ) → outputs_in params ≤ length words → outputs_from params us words ≡ outputs_from params vs words
outputs_same structs opens [] k h [] [] s f g words n = refl
outputs_same structs opens [] k h [] (v ∷ vs) s f g words n = absurd s
outputs_same structs opens [] k h (u ∷ us) vs s f g words n = absurd s
outputs_same structs opens (p ∷ params) k h [] vs s f g words n = absurd s
outputs_same structs opens (p ∷ params) k h (u ∷ us) [] s f g words n = absurd s
outputs_same structs opens (p ∷ params) k h (None ∷ us) (v ∷ vs) s f g words n = absurd (true≢false (sym f))
outputs_same structs opens (p ∷ params) k h (Some u ∷ us) (None ∷ vs) s f g words n = absurd (true≢false (sym g))
outputs_same structs opens (p ∷ params) k h (Some u ∷ us) (Some v ∷ vs) s f g words n = at (outputs_same structs opens params (k + open_count (extents (shape_of p.shape))) (both _ _ h).1 us vs s.1 (both _ _ f).1 (both _ _ g).1) p.is_output words s.0 (both _ _ h).0 n where
  at : ((words : List ℤ) → outputs_in params ≤ length words → outputs_from params us words ≡ outputs_from params vs words) → (o : Bool) (words : List ℤ) → (o ≡ false → Some u ≡ Some v) → (not o || is_float p.shape) ≡ true → (if o then 1 else 0) + outputs_in params ≤ length words → (if o then Some (filled u words).value ∷ outputs_from params us (filled u words).rest else Some u ∷ outputs_from params us words) ≡ (if o then Some (filled v words).value ∷ outputs_from params vs (filled v words).rest else Some v ∷ outputs_from params vs words)
  at rest true [] e i n = absurd (omega arith)
  at rest true (w ∷ words) e i n =
      let x = float_filled structs u (float_shape p k i structs opens u (both _ _ f).0) w words in
      let y = float_filled structs v (float_shape p k i structs opens v (both _ _ g).0) w words in
      ap (λ (r : Filled Value). Some r.value ∷ outputs_from params us r.rest) x ∙ ap (λ xs. Some (one (scalar kind.Float w)) ∷ xs) (rest words (omega arith)) ∙ sym (ap (λ (r : Filled Value). Some r.value ∷ outputs_from params vs r.rest) y)
  at rest false words e i n = ap (λ x. x ∷ outputs_from params us words) (e refl) ∙ ap (λ xs. Some v ∷ xs) (rest words (omega arith))

-- ---- what two calls give

abbrev pub AnswersSame : LibraryAnswer → LibraryAnswer → Type 0
AnswersSame (Given u us) (Given v vs) = (u ≡ v) × (us ≡ vs)
AnswersSame (Given u us) Unfit = Unit {0}
AnswersSame (Given u us) Refused = Unit {0}
AnswersSame Unfit other = Unit {0}
AnswersSame Refused other = Unit {0}

same_unfit : (x : LibraryAnswer) → AnswersSame x Unfit
same_unfit Unfit = tt
same_unfit Refused = tt
same_unfit (Given u us) = tt

given_same : (structs : List StructForm) (id : LibraryId) (opens : List ℕ) (us vs : Env) → InputsSame (row id).params us vs → arguments_fit structs opens (locals 0 (param_shapes id)) us ≡ true → arguments_fit structs opens (locals 0 (param_shapes id)) vs ≡ true → AnswersSame (answered id opens us (words_of holds_input (row id).params us)) (answered id opens vs (words_of holds_input (row id).params vs))
given_same structs id opens us vs s f g =
    let r = both _ _ (row_inputs id) in
    let t = words_same holds_table (row id).params (both _ _ r.0).0 us vs s in
    let i = words_same holds_input (row id).params (both _ _ r.0).1 us vs s in
    let table = words_of holds_table (row id).params us in
    let args = words_of holds_input (row id).params us in
    subst (λ more. AnswersSame (answered id opens us args) (answered id opens vs more)) i
    (at table (words_of holds_table (row id).params vs) args ((row id).answer args) t r.1) where
      at : (table more args : List ℤ) (b : Bool) → table ≡ more → floats_out (row id).params ≡ true → AnswersSame (if b then given_by id us ((row id).value FRACTION opens table args) else Refused) (if b then given_by id vs ((row id).value FRACTION opens more args) else Refused)
      at table more args false e r = tt
      at table more args true e r = subst (λ more. AnswersSame (given_by id us ((row id).value FRACTION opens table args)) (given_by id vs ((row id).value FRACTION opens more args))) e
          (refl, outputs_same structs opens (row id).params 0 r us vs s f g (result_from (row id).result ((row id).value FRACTION opens table args)).rest (row_words id FRACTION opens table args))

pub library_same : (structs : List StructForm) (id : LibraryId) (opens : List ℕ) (us vs : Env) → InputsSame (row id).params us vs → AnswersSame (library_answer structs id opens us) (library_answer structs id opens vs)
library_same structs id opens us vs s = at (takes structs (param_shapes id) opens us) (takes structs (param_shapes id) opens vs) (λ e. (both _ _ e).1) (λ e. (both _ _ e).1) where
  at : (b c : Bool) → (b ≡ true → arguments_fit structs opens (locals 0 (param_shapes id)) us ≡ true) → (c ≡ true → arguments_fit structs opens (locals 0 (param_shapes id)) vs ≡ true) → AnswersSame (if b then answered id opens us (words_of holds_input (row id).params us) else Unfit) (if c then answered id opens vs (words_of holds_input (row id).params vs) else Unfit)
  at false c f g = tt
  at true false f g = same_unfit _
  at true true f g = given_same structs id opens us vs s (f refl) (g refl)
