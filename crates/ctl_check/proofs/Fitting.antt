-- What is accepted may stand with the definitions so far.
use Rattle.std.proofs.Common.{◌≡◌, Bool, Ok, true, refl, sym, subst, ap, ◌∙◌}
use Rattle.ctl_tree.specs.OwnTokens.{constant_tokens, function_tokens}
use Rattle.ctl_tree.specs.declared.declaration.Constant.{Constant as WrittenConstant}
use Rattle.ctl_tree.specs.declared.definition.Struct.{Struct as WrittenStruct}
use Rattle.ctl_tree.specs.declared.definition.Function.{Function as WrittenFunction}
use Rattle.ctl_types.specs.declared.program.Constant.{Constant}
use Rattle.ctl_types.specs.declared.program.Struct.{Struct}
use Rattle.ctl_types.specs.Definitions.{Defined}
use Rattle.ctl_types.specs.Shapes.{struct_counts}
use Rattle.ctl_types.specs.Scoping.{IsDefined, struct_stands, constant_stands, function_stands, scene_before, scene_of, with_struct, with_constant, with_function}
use Rattle.ctl_scope.specs.Scope.{ScopeForm, IsScope}
use Rattle.ctl_check_function.specs.declared.functions.Made.{Made}
use Rattle.ctl_check_function.specs.Structs.{struct_checked}
use Rattle.ctl_check_function.specs.Constants.{constant_checked}
use Rattle.ctl_check_function.specs.Functions.{function_checked}
use Rattle.ctl_check_function.specs.Laws.{Resting, AreTokens, StructsFit, ConstantsFit, FunctionsFit}
use Rattle.ctl_check.specs.Keeps.{Rests}

pub struct_may : StructsFit → (s : ScopeForm) (d : Defined) (w : WrittenStruct) (made : Struct) (after : ScopeForm) → IsScope s → IsDefined d → Resting s d → struct_checked s d w ≡ Ok (record { made = made; scope = after }) → struct_stands d.structs (struct_counts d.structs) made ≡ true
struct_may law s d w made after a b r e = (law s d w (record { made = made; scope = after }) a b r e).stands

pub struct_rests : StructsFit → (s : ScopeForm) (d : Defined) (w : WrittenStruct) (made : Struct) (after : ScopeForm) (more : Defined) → IsScope s → IsDefined d → Resting s d → struct_checked s d w ≡ Ok (record { made = made; scope = after }) → more ≡ with_struct d made → Rests s d after more
struct_rests law s d w made after more a b r e m =
    let fits = law s d w (record { made = made; scope = after }) a b r e in
    subst (λ x. Rests s d after x) (sym m) (record { resting = fits.resting; stays = fits.stays; units = refl })

pub constant_may : ConstantsFit → (s : ScopeForm) (d : Defined) (w : WrittenConstant) (made : Constant) (after : ScopeForm) → IsScope s → IsDefined d → Resting s d → AreTokens s d (constant_tokens w) → constant_checked s d w ≡ Ok (record { made = made; scope = after }) → constant_stands (scene_before d) made ≡ true
constant_may law s d w made after a b r t e = (law s d w (record { made = made; scope = after }) a b r t e).stands

pub constant_rests : ConstantsFit → (s : ScopeForm) (d : Defined) (w : WrittenConstant) (made : Constant) (after : ScopeForm) (more : Defined) → IsScope s → IsDefined d → Resting s d → AreTokens s d (constant_tokens w) → constant_checked s d w ≡ Ok (record { made = made; scope = after }) → more ≡ with_constant d made → Rests s d after more
constant_rests law s d w made after more a b r t e m =
    let fits = law s d w (record { made = made; scope = after }) a b r t e in
    subst (λ x. Rests s d after x) (sym m) (record { resting = fits.resting; stays = fits.stays; units = refl })

pub function_may : FunctionsFit → (s : ScopeForm) (d : Defined) (is_entry : Bool) (w : WrittenFunction) (made : Made) (after : ScopeForm) → IsScope s → IsDefined d → Resting s d → AreTokens s d (function_tokens w) → function_checked s d is_entry w ≡ Ok (record { made = made; scope = after }) → function_stands (scene_of d) made.function ≡ true
function_may law s d is_entry w made after a b r t e = (law s d is_entry w (record { made = made; scope = after }) a b r t e).stands

pub function_rests : FunctionsFit → (s : ScopeForm) (d : Defined) (is_entry : Bool) (w : WrittenFunction) (made : Made) (after : ScopeForm) (more : Defined) → IsScope s → IsDefined d → Resting s d → AreTokens s d (function_tokens w) → function_checked s d is_entry w ≡ Ok (record { made = made; scope = after }) → more ≡ with_function d made.function → Rests s d after more
function_rests law s d is_entry w made after more a b r t e m =
    let fits = law s d is_entry w (record { made = made; scope = after }) a b r t e in
    subst (λ x. Rests s d after x) (sym m) (record { resting = fits.resting; stays = fits.stays; units = refl })
