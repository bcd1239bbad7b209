-- Goals of `assembling::command_of`.
use Rattle.std.proofs.Common.{◌≡◌, ℕ, List, [], ◌∷◌, Bool, Option, ◌∙◌, ap}
use Rattle.command_line.specs.declared.command.Command.{Command}
use Rattle.command_line.specs.declared.command.Param.{Param as Parameter}
use Rattle.command_line.specs.declared.command.StageFile.{StageFile}
use Rattle.command_line.specs.Items.{command_of, first_word}
use Rattle.command_line.proofs.assembling.command_of.Goals as goal

-- commands of the same parts are the same
parts_same : (s t : List StageFile) (p q : List Parameter) (m n : ℕ) (a b : Bool) (u v : List Bool) (c d : Bool) (x y : Option ℕ) (i j k l : List ℕ)
    → s ≡ t → p ≡ q → m ≡ n → a ≡ b → u ≡ v → c ≡ d → x ≡ y → i ≡ j → k ≡ l
    → let one : Command = record { stages = s; globals = p; format = m; force = a; watch = u; verbose = c; make = x; source = i; destination = k } in
    let other : Command = record { stages = t; globals = q; format = n; force = b; watch = v; verbose = d; make = y; source = j; destination = l } in
    one ≡ other
parts_same s t p q m n a b u v c d x y i j k l es ep em ea eu ec ex ei ek = cc

four_same : (a b c d e f g h : Bool) → a ≡ e → b ≡ f → c ≡ g → d ≡ h → a ∷ b ∷ c ∷ d ∷ [] ≡ e ∷ f ∷ g ∷ h ∷ []
four_same a b c d e f g h p q r s = cc

pub returns : goal.returns
unfolding command_of
returns c =
    parts_same c.from_vec.result _ c.from_vec-2.result _ c.depth_of.result _ c.is_forced.result _ _ _ c.is_verbose.result _ c.made.result _ c.in_ok-first_word.field-0 _ c.in_ok-first_word-2.field-0 _
    (c.from_vec.ensures ∙ c.in_ok-stages_of.ensures)
    (c.from_vec-2.ensures ∙ c.in_ok-globals_of.ensures)
    c.depth_of.ensures
    c.is_forced.ensures
    (four_same _ _ _ _ _ _ _ _ c.is_watched.ensures c.is_watched-2.ensures c.is_watched-3.ensures c.is_watched-4.ensures)
    c.is_verbose.ensures
    c.made.ensures
    c.in_ok-first_word.ensures
    (c.in_ok-first_word-2.ensures ∙ ap first_word c.behind_first.ensures)
