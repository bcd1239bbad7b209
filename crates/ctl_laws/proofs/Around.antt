-- What stands around a form: its scene, the values of constants, the functions before it, and the open sizes of the call.
use Rattle.std.proofs.Common.{◌≡◌, ℕ, zero, suc, ◌<◌, List, [], ◌∷◌, ◌++◌, map, length, Option, Some, None, Ok, Err, Result, true, refl, subst, slice_get}
use Rattle.ctl_base.specs.declared.kind.Node.{Node}
use Rattle.ctl_stdlib.specs.declared.row.LibraryId.{LibraryId}
use Rattle.ctl_types.specs.declared.shape.Base.{Base}
use Rattle.ctl_types.specs.declared.shape.Shape.{Shape}
use Rattle.ctl_types.specs.declared.shape.LocalShape.{LocalShape}
use Rattle.ctl_types.specs.declared.program.Struct.{Struct as StructForm}
use Rattle.ctl_types.specs.declared.value.Value.{Value}
use Rattle.ctl_types.specs.declared.expression.Callee.{Callee}
use Rattle.ctl_types.specs.declared.expression.Callee.TheVariants as callee
use Rattle.ctl_types.specs.Shapes.{Whole, whole, whole_of, local, scalars_of, struct_counts}
use Rattle.ctl_types.specs.declared.shape.Base.TheVariants.{Struct}
use Rattle.std.specs.Prelude.{get_or}
use Rattle.ctl_types.specs.Values.{nothing, struct_zeros, Env, fits, scalars, sizes_fit, arguments_fit}
use Rattle.ctl_types.specs.Library.{library_row}
use Rattle.ctl_types.specs.Typing.{are_stated, Formal, Signature, Scene, row_signature, signature_in}
use Rattle.ctl_types.specs.Run.{Fault, Trapped, Wrong, Came, Called, Setting, library_run, callee_of}
use Rattle.ctl_laws.specs.Sound.{Of}
use Rattle.ctl_laws.proofs.Values.{shape}
use Rattle.ctl_laws.proofs.Ranges.{Numbers}
use Rattle.ctl_laws.proofs.Shapes.{FieldsStated}

abbrev pub formal_shape : List ℕ → Formal → Whole
formal_shape opens q = whole opens q.shape.sizes (Some q.shape.base)

-- the first variables have values of the parameters' shapes
abbrev pub Begins : List StructForm → List ℕ → List Formal → Env → Type 0
Begins structs opens [] frame = Unit {0}
Begins structs opens (q ∷ formals) [] = ⊥
Begins structs opens (q ∷ formals) (None ∷ frame) = ⊥
Begins structs opens (q ∷ formals) (Some v ∷ frame) = Of structs (formal_shape opens q) v × Begins structs opens formals frame

-- a default is of the sizes that are told of it
abbrev pub DefaultWell : List StructForm → Formal → Option Value → Type 0
DefaultWell structs q d = (ns : List ℕ) → q.default ≡ Some ns → (v : Value) × (d ≡ Some v) × Of structs (shape ns (Some q.shape.base)) v

abbrev pub DefaultsWell : List StructForm → List Formal → List (Option Value) → Type 0
DefaultsWell structs [] ds = Unit {0}
DefaultsWell structs (q ∷ formals) [] = (q.default ≡ None) × DefaultsWell structs formals []
DefaultsWell structs (q ∷ formals) (d ∷ ds) = DefaultWell structs q d × DefaultsWell structs formals ds

abbrev pub formal_shapes : List Formal → List LocalShape
formal_shapes formals = map (λ (q : Formal). q.shape) formals

-- the values of constants are of their shapes, which are stated
abbrev pub ConstantsWell : List StructForm → List Shape → List Value → Type 0
ConstantsWell structs [] [] = Unit {0}
ConstantsWell structs [] (v ∷ vs) = ⊥
ConstantsWell structs (m ∷ ms) [] = ⊥
ConstantsWell structs (m ∷ ms) (v ∷ vs) = ((are_stated (local 0 m).sizes ≡ true) × Of structs (whole_of m) v) × ConstantsWell structs ms vs

pub constant_at : (structs : List StructForm) (ms : List Shape) (vs : List Value) (n : ℕ) (m : Shape) → ConstantsWell structs ms vs → slice_get ms n ≡ Some m → (v : Value) × (slice_get vs n ≡ Some v) × (are_stated (local 0 m).sizes ≡ true) × Of structs (whole_of m) v
constant_at structs [] vs n m h e = absurd (cc)
constant_at structs (g ∷ ms) [] n m h e = absurd h
constant_at structs (g ∷ ms) (v ∷ vs) zero m h e = let q : g ≡ m = cc in subst (λ (m : Shape). (u : Value) × (Some v ≡ Some u) × (are_stated (local 0 m).sizes ≡ true) × Of structs (whole_of m) u) q (v, refl, h.0.0, h.0.1)
constant_at structs (g ∷ ms) (v ∷ vs) (suc n) m h e = constant_at structs ms vs n m h.1 e

module _ {C : Type 0} {pay : ℕ → C → C} where
  -- a call that is not wrong: the value, and the parameters at the end, are of their shapes
  abbrev pub CameWell : List StructForm → List ℕ → Signature → Result (Came C pay) Fault → Type 0
  CameWell structs opens g (Ok came) = Of structs (whole opens g.result.sizes g.result.base) came.value × Begins structs opens g.formals came.frame
  CameWell structs opens g (Err (Trapped kind node)) = Unit {0}
  CameWell structs opens g (Err Wrong) = ⊥

  -- what can be called does what its signature promises
  pub record Serves (structs : List StructForm) (g : Signature) (c : Called C pay) : Type 0 where
    pub defaults : DefaultsWell structs g.formals c.defaults
    pub run : (opens : List ℕ) (frame : Env) (turns : ℕ) (spent : C) → length opens ≡ g.opens → sizes_fit opens ≡ true → arguments_fit structs opens (formal_shapes g.formals) frame ≡ true → CameWell structs opens g (c.run opens frame turns spent)

  abbrev pub Served : List StructForm → List Signature → List (Called C pay) → Type 0
  Served structs [] [] = Unit {0}
  Served structs [] (r ∷ runs) = ⊥
  Served structs (g ∷ gs) [] = ⊥
  Served structs (g ∷ gs) (r ∷ runs) = Serves structs g r × Served structs gs runs

  pub served_more : (structs : List StructForm) (gs : List Signature) (runs : List (Called C pay)) (g : Signature) (r : Called C pay) → Served structs gs runs → Serves structs g r → Served structs (gs ++ g ∷ []) (runs ++ r ∷ [])
  served_more structs [] [] g r s w = (w, tt)
  served_more structs [] (q ∷ runs) g r s w = absurd s
  served_more structs (h ∷ gs) [] g r s w = absurd s
  served_more structs (h ∷ gs) (q ∷ runs) g r s w = (s.0, served_more structs gs runs g r s.1 w)

  pub served_at : (structs : List StructForm) (gs : List Signature) (runs : List (Called C pay)) (k : ℕ) (g : Signature) → Served structs gs runs → slice_get gs k ≡ Some g → (r : Called C pay) × (slice_get runs k ≡ Some r) × Serves structs g r
  served_at structs [] runs k g s e = absurd (cc)
  served_at structs (h ∷ gs) [] k g s e = absurd s
  served_at structs (h ∷ gs) (r ∷ runs) zero g s e = let q : h ≡ g = cc in (r, refl, subst (λ (g : Signature). Serves structs g r) q s.0)
  served_at structs (h ∷ gs) (r ∷ runs) (suc k) g s e = served_at structs gs runs k g s.1 e

-- each function of the library does what its row promises
abbrev pub LibraryServes : (C : Type 0) (pay : ℕ → C → C) → List StructForm → Type 0
LibraryServes C pay structs = (id : LibraryId) (node : Node) → Serves structs (row_signature (library_row id)) (record { defaults = []; run = library_run C pay structs id node })

-- the scalars of values are counted by their shapes
abbrev pub Counts : List StructForm → Type 0
Counts structs = (v : Value) (sizes : List ℕ) (base : Base) → fits structs v sizes (Some base) ≡ true → scalars v ≡ scalars_of (struct_counts structs) sizes base

-- the zeros of all structs are of their shapes
abbrev pub ZerosFit : List StructForm → Type 0
ZerosFit structs = (n : ℕ) → n < length structs → fits structs (get_or (struct_zeros structs) n nothing) [] (Some (Struct n)) ≡ true

pub record Around (C : Type 0) (pay : ℕ → C → C) : Type 0 where
  pub scene : Scene
  pub constants : List Value
  pub calls : List (Called C pay)
  pub opens : List ℕ

abbrev pub setting : {C : Type 0} {pay : ℕ → C → C} → Around C pay → Setting C pay
setting x = record { structs = x.scene.structs; constants = x.constants; functions = x.calls; opens = x.opens }

-- all that a form names does what it is to do
pub record Sound {C : Type 0} {pay : ℕ → C → C} (x : Around C pay) : Type 0 where
  pub numbers : Numbers
  pub counts : Counts x.scene.structs
  pub counted : x.scene.counts ≡ struct_counts x.scene.structs
  pub fields : FieldsStated x.scene.structs
  pub zeros : ZerosFit x.scene.structs
  pub constants : ConstantsWell x.scene.structs x.scene.constants x.constants
  pub functions : Served x.scene.structs x.scene.functions x.calls
  pub library : LibraryServes C pay x.scene.structs
  pub opens : length x.opens ≡ x.scene.opens
  pub sizes : sizes_fit x.opens ≡ true

pub callee_at : {C : Type 0} {pay : ℕ → C → C} (x : Around C pay) (h : Sound x) (c : Callee) (node : Node) (g : Signature) → signature_in x.scene c ≡ Some g → (r : Called C pay) × (callee_of C pay (setting x) c node ≡ Some r) × Serves x.scene.structs g r
callee_at x h (callee.Program k) node g e = served_at x.scene.structs x.scene.functions x.calls k g h.functions e
callee_at {C} {pay} x h (callee.Library id) node g e =
    let q : row_signature (library_row id) ≡ g = cc in
    (record { defaults = []; run = library_run C pay x.scene.structs id node }, refl, subst (λ (g : Signature). Serves x.scene.structs g (record { defaults = []; run = library_run C pay x.scene.structs id node })) q (h.library id node))
