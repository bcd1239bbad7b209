-- A scope and the definitions that it numbers grow together.
use Rattle.std.proofs.Common.{◌≡◌, ℕ, zero, suc, ◌+◌, List, [], ◌∷◌, ◌++◌, map, length, Bool, true, false, if◌then◌else◌, Some, is_some, slice_get, refl, sym, ap, subst, ◌∙◌, arith, length-append}
use Rattle.std.specs.Prelude.{bytes_eq}
use Rattle.std.specs.Cmp.Lexicographic.{bytes_decides}
use Rattle.ctl_base.specs.declared.kind.ScalarKind.{ScalarKind}
use Rattle.ctl_tree.specs.Units.{SourceUnit}
use Rattle.ctl_types.specs.declared.shape.Extent.{Extent}
use Rattle.ctl_types.specs.declared.shape.Base.{Base}
use Rattle.ctl_types.specs.declared.shape.Base.TheVariants as base
use Rattle.ctl_types.specs.declared.shape.Shape.{Shape, roll-Shape}
use Rattle.ctl_types.specs.declared.shape.Shape.TheOpen as layer
use Rattle.ctl_types.specs.declared.shape.Shape.TheFolds.{fold-roll-Shape}
use Rattle.ctl_types.specs.declared.program.Struct.{Struct as StructForm}
use Rattle.ctl_types.specs.declared.program.Function.{Function}
use Rattle.ctl_types.specs.Shapes.{extents, extents_step, base_of, base_step, struct_scalars, counts_after, struct_counts}
use Rattle.ctl_types.specs.Typing.{Scene, Signature}
use Rattle.ctl_types.specs.Definitions.{Defined, library_structs}
use Rattle.ctl_types.specs.Scoping.{library_definitions, scene_before, scene_of, function_signature, signatures_after, with_functions}
use Rattle.ctl_scope.specs.declared.meaning.Meaning.{Meaning}
use Rattle.ctl_scope.specs.declared.meaning.Meaning.TheVariants as meaning
use Rattle.ctl_scope.specs.Names.{Names, meaning_in}
use Rattle.ctl_scope.specs.Scope.{ScopeForm}
use Rattle.ctl_scope.specs.Changes.{library_scope, whole_name, is_defined}
use Rattle.ctl_scope.specs.Beside.{Beside}
use Rattle.ctl_scope.specs.Laws.{BesideGrows}

extents_scalar : (k : ScalarKind) → extents (roll-Shape (layer.Scalar k)) ≡ []
extents_scalar k = fold-roll-Shape (List Extent) extents_step (layer.Scalar k)

extents_array : (inner : Shape) (x : Extent) → extents (roll-Shape (layer.Array inner x)) ≡ x ∷ extents inner
extents_array inner x = fold-roll-Shape (List Extent) extents_step (layer.Array inner x)

base_scalar : (k : ScalarKind) → base_of (roll-Shape (layer.Scalar k)) ≡ base.Scalar k
base_scalar k = fold-roll-Shape Base base_step (layer.Scalar k)

base_array : (inner : Shape) (x : Extent) → base_of (roll-Shape (layer.Array inner x)) ≡ base_of inner
base_array inner x = fold-roll-Shape Base base_step (layer.Array inner x)

library_counts : struct_counts library_structs ≡ 8 ∷ []
library_counts = simp (extents_scalar, extents_array, base_scalar, base_array) refl

-- the library's definitions
pub begins : (units : List SourceUnit) → Beside library_scope (library_definitions units)
begins units = record { counts = sym library_counts; constants = refl; depths = refl; functions = λ k f e. absurd (cc) }

-- ---- names

-- a name that is there stays
kept : (name : List ℕ) (names more : Names) (m : Meaning) → meaning_in name names ≡ Some m → meaning_in name (names ++ more) ≡ Some m
kept name [] more m h = absurd (cc)
kept name (n ∷ names) more m h = by (bytes_eq name n.0) h (kept name names more m) where
  by : (b : Bool) → (if b then Some n.1 else meaning_in name names) ≡ Some m → (meaning_in name names ≡ Some m → meaning_in name (names ++ more) ≡ Some m) → (if b then Some n.1 else meaning_in name (names ++ more)) ≡ Some m
  by true k rest = k
  by false k rest = rest k

-- a new name is there
new : (name : List ℕ) (names : Names) (m : Meaning) → is_some (meaning_in name names) ≡ false → meaning_in name (names ++ (name, m) ∷ []) ≡ Some m
new name [] m h = rw ((bytes_decides name name).1 refl) refl
new name (n ∷ names) m h = by (bytes_eq name n.0) h (new name names m) where
  by : (b : Bool) → is_some (if b then Some n.1 else meaning_in name names) ≡ false → (is_some (meaning_in name names) ≡ false → meaning_in name (names ++ (name, m) ∷ []) ≡ Some m) → (if b then Some n.1 else meaning_in name (names ++ (name, m) ∷ [])) ≡ Some m
  by true k rest = absurd (cc)
  by false k rest = rest k

-- ---- definitions

counts_more : (before : List ℕ) (structs : List StructForm) (more : StructForm) → counts_after before (structs ++ more ∷ []) ≡ counts_after before structs ++ struct_scalars (counts_after before structs) more ∷ []
counts_more before [] more = refl
counts_more before (d ∷ structs) more = counts_more (before ++ struct_scalars before d ∷ []) structs more

signatures_more : (s : Scene) (fs : List Function) (f : Function) → signatures_after s (fs ++ f ∷ []) ≡ signatures_after s fs ++ function_signature (with_functions s (signatures_after s fs)) f ∷ []
signatures_more s [] f = refl
signatures_more s (g ∷ fs) f = signatures_more (with_functions s (s.functions ++ function_signature s g ∷ [])) fs f

map_more : (fs : List Signature) (f : Signature) → map (λ (g : Signature). g.depth) (fs ++ f ∷ []) ≡ map (λ (g : Signature). g.depth) fs ++ f.depth ∷ []
map_more [] f = refl
map_more (g ∷ fs) f = ap (λ rest. g.depth ∷ rest) (map_more fs f)

signatures_long : (s : Scene) (fs : List Function) → length (signatures_after s fs) ≡ length s.functions + length fs
signatures_long s [] = omega arith
signatures_long s (f ∷ fs) =
    let here = length-append s.functions (function_signature s f ∷ []) in
    let rest = signatures_long (with_functions s (s.functions ++ function_signature s f ∷ [])) fs in
    omega (arith, here, rest)

map_long : (fs : List Signature) → length (map (λ (g : Signature). g.depth) fs) ≡ length fs
map_long [] = refl
map_long (f ∷ fs) = ap suc (map_long fs)

-- as many depths as functions
depths_long : (s : ScopeForm) (d : Defined) → Beside s d → length s.depths ≡ length d.functions
depths_long s d is = ap length is.depths ∙ map_long (scene_of d).functions ∙ signatures_long (scene_before d) d.functions ∙ none_before (length d.functions) where
  none_before : (n : ℕ) → 0 + n ≡ n
  none_before n = omega arith

-- each of some functions and one more has its number under its name
numbered : (names : Names) (fs : List Function) (f : Function) (number : ℕ → ℕ) → ((k : ℕ) (g : Function) → slice_get fs k ≡ Some g → meaning_in g.name names ≡ Some (meaning.Function (number k)))
    → meaning_in f.name names ≡ Some (meaning.Function (number (length fs))) → (k : ℕ) (g : Function) → slice_get (fs ++ f ∷ []) k ≡ Some g → meaning_in g.name names ≡ Some (meaning.Function (number k))
numbered names [] f number old this zero g e = subst (λ (x : Function). meaning_in x.name names ≡ Some (meaning.Function (number zero))) (some_same f g e) this where
  some_same : (x y : Function) → Some x ≡ Some y → x ≡ y
  some_same x y h = grind arith
numbered names [] f number old this (suc k) g e = absurd (cc)
numbered names (h ∷ fs) f number old this zero g e = old zero g e
numbered names (h ∷ fs) f number old this (suc k) g e = numbered names fs f (λ n. number (suc n)) (λ n x q. old (suc n) x q) this k g e

-- they grow together
pub grows : (s : ScopeForm) (d : Defined) (name : List ℕ) → Beside s d → BesideGrows s d name
grows s d name is = record {
  struct = λ more same. record {
    counts = ap (λ l. l ++ struct_scalars (struct_counts d.structs) more ∷ []) is.counts ∙ sym (counts_more [] d.structs more);
    constants = is.constants;
    depths = is.depths ∙ ap (map (λ (f : Signature). f.depth)) (sym same);
    functions = λ k f e. kept f.name s.names ((whole_name s name, meaning.Struct (length s.counts)) ∷ []) (meaning.Function k) (is.functions k f e);
  };
  constant = λ more same. record {
    counts = is.counts;
    constants = ap (λ n. n + 1) is.constants ∙ sym (length-append d.constants (more ∷ []));
    depths = is.depths ∙ ap (map (λ (f : Signature). f.depth)) (sym same);
    functions = λ k f e. kept f.name s.names ((whole_name s name, meaning.Constant s.constants) ∷ []) (meaning.Function k) (is.functions k f e);
  };
  function = λ more named fresh. record {
    counts = is.counts;
    constants = is.constants;
    depths = ap (λ l. l ++ (function_signature (scene_of d) more).depth ∷ []) is.depths ∙ sym (map_more (scene_of d).functions (function_signature (scene_of d) more)) ∙ ap (map (λ (f : Signature). f.depth)) (sym (signatures_more (scene_before d) d.functions more));
    functions = numbered_whole more named fresh;
  };
}
  where
    numbered_whole : (more : Function) → more.name ≡ whole_name s name → is_defined s name ≡ false → (k : ℕ) (f : Function) → slice_get (d.functions ++ more ∷ []) k ≡ Some f → meaning_in f.name (s.names ++ (whole_name s name, meaning.Function (length s.depths)) ∷ []) ≡ Some (meaning.Function k)
    numbered_whole more named fresh =
        let names = s.names ++ (whole_name s name, meaning.Function (length s.depths)) ∷ [] in
        let this : meaning_in more.name names ≡ Some (meaning.Function (length d.functions)) = ap (λ n. meaning_in n names) named ∙ new (whole_name s name) s.names (meaning.Function (length s.depths)) fresh ∙ ap (λ n. Some (meaning.Function n)) (depths_long s d is) in
        numbered names d.functions more (λ k. k) (λ k f e. kept f.name s.names ((whole_name s name, meaning.Function (length s.depths)) ∷ []) (meaning.Function k) (is.functions k f e)) this
