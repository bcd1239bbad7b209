-- How large definitions are: the recursion over them comes down by it.
use Rattle.std.proofs.Common.{◌≡◌, ◌<◌, ◌≤◌, ◌+◌, ℕ, zero, suc, List, [], ◌∷◌, map, length, get_or, ap, ◌∙◌, sym, arith}
use Rattle.ctl_tree.specs.declared.definition.Definition.{Definition}
use Rattle.ctl_tree.specs.declared.definition.Namespace.{Namespace, out-Namespace}
use Rattle.ctl_tree.specs.declared.definition.Definition.TheVariants as variant
use Rattle.ctl_tree.specs.declared.definition.Definition.TheOpen as layer
use Rattle.ctl_tree.specs.declared.definition.Definition.TheOpen.{Definition-F, Namespace-F, Namespace as NamespaceForm, Struct as StructForm, Constant as ConstantForm, Function as FunctionForm}
use Rattle.ctl_tree.specs.declared.definition.Definition.TheFolds.{fold-Definition, fold-roll-Definition, fold_out-Namespace}

abbrev pub total : List ℕ → ℕ
total [] = 0
total (n ∷ numbers) = n + total numbers

abbrev pub size_step : Definition-F ℕ ℕ → ℕ
size_step (NamespaceForm namespace) = namespace + 1
size_step (StructForm struct) = 1
size_step (ConstantForm constant) = 1
size_step (FunctionForm function) = 1

abbrev pub space_step : Namespace-F ℕ ℕ → ℕ
space_step namespace = total namespace.definitions + 2

abbrev pub definition_size : Definition → ℕ
definition_size = fold-Definition ℕ ℕ size_step space_step

abbrev pub space_size : Namespace → ℕ
space_size space = total (map definition_size (out-Namespace space).definitions) + 2

-- of a namespace as a definition
pub size_of_space : (e : Definition) (space : Namespace) → e ≡ variant.Namespace space → definition_size e ≡ space_size space + 1
size_of_space e space is =
    ap definition_size (is ∙ sym (variant.rolls-Namespace space)) ∙ fold-roll-Definition ℕ ℕ size_step space_step (layer.Namespace space)
    ∙ ap (λ n. n + 1) (fold_out-Namespace ℕ ℕ size_step space_step space)

-- a part is at most as large as all
pub at_most : (parts : List Definition) (i : ℕ) (e : Definition) → i < length parts → e ≡ get_or parts i e → definition_size e ≤ total (map definition_size parts)
at_most [] i e less is = absurd (omega arith)
at_most (p ∷ parts) zero e less is = let q = ap definition_size is in omega arith
at_most (p ∷ parts) (suc i) e less is = let q = at_most parts i e (omega arith) is in omega arith
