-- Goals of `word::is_name`.
use Rattle.std.proofs.Common.{◌≡◌, ℕ, List, ◌∷◌, Bool, true, ◌&&◌, sym, ap, ◌∙◌}
use Rattle.std.specs.List.{list_all}
use Rattle.command_line.specs.Following.{begins_name, is_in_name, is_name}
use Rattle.command_line.proofs.word.is_name.Goals as goal

named : (word rest : List ℕ) (first : ℕ) → word ≡ first ∷ rest → begins_name first ≡ true → is_name word ≡ list_all is_in_name rest
named word rest first e h = ap is_name e ∙ ap (λ (b : Bool). b && list_all is_in_name rest) h

pub returns-then-begins_name : goal.returns-then-begins_name
returns-then-begins_name c =
    c.are_in_name.ensures ∙ sym (named c.args.word.now c.in-Some.rest.now c.in-Some.first.now c.in-Some.ensures (sym c.begins_name.ensures ∙ c.if-begins_name.true))
