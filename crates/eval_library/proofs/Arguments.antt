-- The arguments of a row one after the other, by the shapes of its parameters.
use Rattle.std.proofs.Common.{◌≡◌, ℕ, suc, ◌+◌, ◌-◌, ◌<◌, ◌≤◌, List, ◌∷◌, ◌++◌, map, drop, length, get_or, Option, Bool, true, false, ◌==◌, refl, sym, ap, ◌∙◌, arith}
use Rattle.ctl_stdlib.specs.declared.row.Param.{Param}
use Rattle.ctl_stdlib.specs.declared.row.RowShape.{RowShape}
use Rattle.ctl_stdlib.specs.declared.row.RowShape.TheVariants.{Bool as BoolShape, Half, Float, Float3, Float33, Float44, Floats, Pairs, Lattice, Chromaticities}
use Rattle.ctl_stdlib.specs.Shapes.{base, open_sizes, stated_sizes}
use Rattle.ctl_types.specs.declared.value.Value.{Value}
use Rattle.ctl_types.specs.declared.program.Struct.{Struct}
use Rattle.ctl_types.specs.Shapes.{extents, base_of, locals, open_count, open_sizes_of}
use Rattle.ctl_types.specs.Values.{Env, arguments_fit}
use Rattle.ctl_types.specs.Library.{shape_of, row_extents, zero_base_of}
use Rattle.eval_values.specs.Sizes.{sizes_of, given_fits}
use Rattle.eval_library.specs.Means.{opened_from}
use Rattle.eval_library.proofs.Lists.{get_same}
use Rattle.eval_library.proofs.RowShapes.{extents_row, base_row, opens_row}
use Rattle.eval_library.proofs.OneByOne.{fits_next, fits_not, open_more, open_none}

-- ---- the sizes of a shape

pub opened_next : (opens : List ℕ) (i count : ℕ) → i < count → opened_from opens i (count - i) ≡ get_or opens i 0 ∷ opened_from opens (i + 1) (count - (i + 1))
opened_next opens i count h = let q : count - i ≡ suc (count - (i + 1)) = omega arith in ap (opened_from opens i) q

pub sizes_are : (opens : List ℕ) (shape : RowShape) → opened_from opens 0 (open_sizes shape) ++ stated_sizes shape ≡ sizes_of opens (row_extents shape)
sizes_are opens BoolShape = refl
sizes_are opens Half = refl
sizes_are opens Float = refl
sizes_are opens Float3 = refl
sizes_are opens Float33 = refl
sizes_are opens Float44 = refl
sizes_are opens Floats = refl
sizes_are opens Pairs = refl
sizes_are opens Lattice = refl
sizes_are opens Chromaticities = refl

-- ---- how many are open

module _ (params : List Param) (i : ℕ) (d : Param) (open_here left : ℕ) (all : Bool) (h : i < length params) (here : open_here ≡ open_sizes (get_or params i d).shape) (so : (left == open_sizes_of (map (λ (p : Param). shape_of p.shape) (drop i params))) ≡ all) where
  counted : open_here ≡ open_count (extents (shape_of (get_or params i d).shape))
  counted = here ∙ sym (opens_row (get_or params i d).shape)

  pub row_opens_more : open_here ≤ left → (left - open_here == open_sizes_of (map (λ (p : Param). shape_of p.shape) (drop (i + 1) params))) ≡ all
  row_opens_more l = let q = counted in open_more (λ (p : Param). shape_of p.shape) params i (get_or params i d) h (get_same params i d (get_or params i d) h) left (left - open_here) all so (omega arith)

  pub row_opens_none : left < open_here → all ≡ false
  row_opens_none l = let q = counted in open_none (λ (p : Param). shape_of p.shape) params i (get_or params i d) h (get_same params i d (get_or params i d) h) left all so (omega arith)

-- ---- whether they fit

row_given : (structs : List Struct) (opens : List ℕ) (shape : RowShape) (o : Option Value) → given_fits structs opens (row_extents shape) (zero_base_of (base shape)) o ≡ given_fits structs opens (extents (shape_of shape)) (base_of (shape_of shape)) o
row_given structs opens shape o = sym (ap (λ xs. given_fits structs opens xs (base_of (shape_of shape)) o) (extents_row shape) ∙ ap (λ b. given_fits structs opens (row_extents shape) b o) (base_row shape))

module _ (structs : List Struct) (opens : List ℕ) (params : List Param) (frame : Env) (i : ℕ) (d : Param) (o : Option Value) (all : Bool) (h : i < length params) (l : i < length frame) (m : o ≡ get_or frame i o) (so : arguments_fit structs opens (locals 0 (map (λ (p : Param). shape_of p.shape) (drop i params))) (drop i frame) ≡ all) where
  pub row_fits_next : (left : List ℕ) → left ≡ drop (open_sizes (get_or params i d).shape) opens → true ≡ given_fits structs opens (row_extents (get_or params i d).shape) (zero_base_of (base (get_or params i d).shape)) o → arguments_fit structs left (locals 0 (map (λ (p : Param). shape_of p.shape) (drop (i + 1) params))) (drop (i + 1) frame) ≡ all
  row_fits_next left is q =
      let p = get_or params i d in
      ap (λ opens. arguments_fit structs opens (locals 0 (map (λ (p : Param). shape_of p.shape) (drop (i + 1) params))) (drop (i + 1) frame)) (is ∙ ap (λ n. drop n opens) (sym (opens_row p.shape)))
      ∙ fits_next (λ (p : Param). shape_of p.shape) structs opens params frame i p o all h (get_same params i d p h) l m so true (q ∙ row_given structs opens p.shape o) refl

  pub row_fits_not : false ≡ given_fits structs opens (row_extents (get_or params i d).shape) (zero_base_of (base (get_or params i d).shape)) o → all ≡ false
  row_fits_not q =
      let p = get_or params i d in
      fits_not (λ (p : Param). shape_of p.shape) structs opens params frame i p o all h (get_same params i d p h) l m so false (q ∙ row_given structs opens p.shape o) refl
