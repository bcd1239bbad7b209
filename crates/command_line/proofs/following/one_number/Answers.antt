-- Goals of `following::one_number`.
use Rattle.std.proofs.Common.{ℕ, ℤ, List, [], ◌∷◌, refl, ap, ◌∙◌, subst}
use Rattle.command_line.specs.Options.{Number}
use Rattle.command_line.specs.Following.{Raw, Says, Fails}
use Rattle.command_line.proofs.following.one_number.Goals as goal

pub returns-in_default : goal.returns-in_default
returns-in_default c = λ kinds rest. ([], subst (λ (w : List ℕ). Fails kinds Number w) (c.as_bytes.ensures.value ∙ c.as_str.ensures) (c.in_default.ensures kinds), refl)

pub returns : goal.returns
returns c = λ kinds rest. (Raw c.in-Some.x ∷ [], (subst (λ (w : List ℕ). Says kinds Number w (Raw c.in-Some.x)) (c.as_bytes.ensures.value ∙ c.as_str.ensures) (c.in-Some.ensures kinds), tt), ap (λ (z : ℤ). c.in-Some.x ∷ z ∷ z ∷ []) c.from_raw-none.ensures)
