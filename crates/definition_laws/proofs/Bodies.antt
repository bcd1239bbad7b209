-- The bodies of functions, from the laws of what stands in them.
use Rattle.std.proofs.Common.{◌≡◌, ℕ, ◌+◌, ◌≤◌, ◌<◌, List, [], ◌∷◌, ◌++◌, map, length, replicate, Option, Some, None, Ok, Bool, true, false, ◌&&◌, refl, sym, ap, subst, ◌∙◌, arith}
use Rattle.std.proofs.lemmas.List.{append-nil}
use Rattle.ctl_tree.specs.declared.statement.Block.{Block}
use Rattle.ctl_tree.specs.OwnTokens.{Below, block_tokens}
use Rattle.ctl_types.specs.declared.shape.Extent.{Extent}
use Rattle.ctl_types.specs.declared.shape.Extent.TheVariants as extent
use Rattle.ctl_types.specs.declared.shape.Size.{Size}
use Rattle.ctl_types.specs.declared.shape.Size.TheVariants as size
use Rattle.ctl_types.specs.declared.shape.Shape.{Shape}
use Rattle.ctl_types.specs.Shapes.{extents, base_of, local, numbered, open_count, product}
use Rattle.ctl_types.specs.Typing.{Scene, Variables, are_stated, size_stands, sizes_stand, base_stands, shape_stands, result_type}
use Rattle.ctl_types.specs.Definitions.{Defined}
use Rattle.ctl_types.specs.Scoping.{Scope, IsDefined, result_stands, scope_statement}
use Rattle.ctl_scope.specs.Scope.{ScopeForm, IsScope}
use Rattle.ctl_scope.specs.Beside.{Beside, scene}
use Rattle.ctl_scope.specs.Laws.{FoundIsThere, ScopesStay}
use Rattle.ctl_check_rules.specs.Shapes.{stated_size, stated_sizes}
use Rattle.ctl_check_statement.specs.declared.stated.Stated.{Stated}
use Rattle.ctl_check_statement.specs.Leading.{Led}
use Rattle.ctl_check_statement.specs.Declarations.{shape_checked}
use Rattle.ctl_check_statement.specs.Returning.{block_surely_returns}
use Rattle.ctl_check_statement.specs.Statements.{block_stated}
use Rattle.ctl_check_laws.specs.WellTyped.{TypedIsWellTyped, TypedCallIsWellTyped}
use Rattle.initialiser_laws.specs.Laws.{InitialisersAreWell, AssignmentsAreWell, TestsAreBool, ReturnsAreWell}
use Rattle.definition_laws.proofs.Verdicts.{good_more, good_of, both, and_true}
use Rattle.definition_laws.proofs.Shapes.{ShapeWell, shape_good, well_stands, all_stated, none_open}
use Rattle.definition_laws.proofs.Values.{wanted}
use Rattle.definition_laws.proofs.Standing.{Standing}
use Rattle.definition_laws.proofs.Lists.{later}
use Rattle.definition_laws.proofs.Sequences.{Fine}
use Rattle.definition_laws.proofs.Blocks.{StatedWell}
use Rattle.definition_laws.proofs.Statements.{stays}
use Rattle.definition_laws.proofs.Conclusion.{Laws, DeclaredShape, ShapesStand, needs}
use Rattle.definition_laws.proofs.Induction.{block_fine}
use Rattle.definition_laws.proofs.BlockLaw.{BlockIsWell, BlocksAreWell}

-- ---- shapes of declarations

sizes_stated : (k : ℕ) (xs : List Extent) → are_stated (numbered k xs) ≡ true → map stated_size xs ≡ numbered k xs
sizes_stated k [] h = refl
sizes_stated k (extent.Stated n ∷ xs) h = ap (λ sizes. size.Stated n ∷ sizes) (sizes_stated k xs h)
sizes_stated k (extent.Unstated ∷ xs) h = absurd (cc)

declared_shapes : FoundIsThere → (d : Defined) → IsDefined d → ShapesStand d
declared_shapes found d is s scope beside free name sizes = good_more (ShapeWell d free) (DeclaredShape d s free) (shape_checked s d free name sizes) (shape_good found s d scope is beside free name sizes) (λ shape w. record {
  wanted = wanted d free shape (scene s d) w refl;
  stated = λ closed. closed_stands shape (subst (λ free. ShapeWell d free shape) closed w);
})
  where
    closed_stands : (shape : Shape) → ShapeWell d false shape → (are_stated (stated_sizes shape) ≡ true) × (shape_stands (scene s d) (record { sizes = stated_sizes shape; base = base_of shape }) ≡ true)
    closed_stands shape w =
        let none = none_open (extents shape) w.stand in
        let stated = all_stated 0 (extents shape) w.stand in
        let same : stated_sizes shape ≡ numbered 0 (extents shape) = sizes_stated 0 (extents shape) stated in
        (ap (λ sizes. are_stated sizes) same ∙ stated, ap (λ sizes. shape_stands (scene s d) (record { sizes = sizes; base = base_of shape })) same ∙ well_stands d false shape w (scene s d) refl refl 0 (omega (arith, none)))

-- ---- results stand in every scope

stated_stand : (x y : Scene) (sizes : List Size) → are_stated sizes ≡ true → sizes_stand x sizes ≡ sizes_stand y sizes
stated_stand x y [] h = refl
stated_stand x y (size.Stated n ∷ sizes) h = ap (λ b. size_stands x (size.Stated n) && b) (stated_stand x y sizes h)
stated_stand x y (size.Open k ∷ sizes) h = absurd (cc)

result_anywhere : (d : Defined) (s t : ScopeForm) (result : Option Shape) → result_stands (scene s d) result ≡ true → result_stands (scene t d) result ≡ true
result_anywhere d s t None h = refl
result_anywhere d s t (Some shape) h =
    let b = both (are_stated (local 0 shape).sizes) _ h in
    let x = scene s d in
    let y = scene t d in
    let same : sizes_stand y (local 0 shape).sizes ≡ sizes_stand x (local 0 shape).sizes = stated_stand y x (local 0 shape).sizes b.0 in
    let c = both (sizes_stand x (local 0 shape).sizes && base_stands x (base_of shape)) _ b.1 in
    let e = both (sizes_stand x (local 0 shape).sizes) _ c.0 in
    and_true (are_stated (local 0 shape).sizes) _ b.0 (and_true (sizes_stand y (local 0 shape).sizes && base_stands y (base_of shape)) _ (and_true (sizes_stand y (local 0 shape).sizes) _ (same ∙ e.0) e.1) c.1)

-- ---- bodies

pub record BodyLaws : Type 0 where
  pub found : FoundIsThere
  pub scopes : ScopesStay
  pub typed : TypedIsWellTyped
  pub calls : TypedCallIsWellTyped
  pub tests : TestsAreBool
  pub assignments : AssignmentsAreWell
  pub returns : ReturnsAreWell
  pub initialisers : InitialisersAreWell

laws_of : BodyLaws → (d : Defined) → IsDefined d → (s : ScopeForm) (result : Option Shape) → result_stands (scene s d) result ≡ true → Laws d result
laws_of laws d is s result stands = record {
  defined = is;
  scopes = laws.scopes;
  typed = laws.typed;
  calls = laws.calls;
  tests = laws.tests;
  assignments = laws.assignments;
  returns = laws.returns;
  initialisers = laws.initialisers;
  shapes = declared_shapes laws.found d is;
  given = λ t. result_anywhere d s t result stands;
}

none_more : {A : Type 0} (xs : List A) → length xs + 0 ≡ length xs
none_more xs = omega arith

pub blocks_all_well : BodyLaws → BlocksAreWell
blocks_all_well laws s d n result b o is h stands below e =
    let all = needs d n result (laws_of laws d is s result stands) in
    let fine : Fine d n (scope_statement (scene s d) (result_type result) o.made.form) s o.scope (block_surely_returns b) o.made.depth =
    good_of (StatedWell (stays d n result all) d n (result_type result) s (block_surely_returns b)) (block_stated d result b s) (block_fine d n result all b s h below) o e in
    let ran = fine.runs 0 [] tt in
    let l = ran.long in
    record {
      more = fine.more;
      variables = ap (λ (t : ScopeForm). t.variables) fine.kept.same;
      used = ran.after;
      declared = used_is ran.after fine.more l;
      runs = ap (λ k. scope_statement (scene s d) (result_type result) o.made.form (record { variables = s.variables ++ later k; used = [] })) (sym (none_more fine.more)) ∙ ran.is ∙ ap (λ vs. record { well = true; after = record { variables = vs; used = ran.after }; returns = block_surely_returns b; depth = o.made.depth }) (append-nil o.scope.variables);
    }
  where
    used_is : (ns : List ℕ) (more : Variables) → length ns ≡ length {A = ℕ} [] + length more → length ns ≡ length more
    used_is ns more l = omega (arith, l)
