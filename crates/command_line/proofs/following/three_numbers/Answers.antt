-- Goals of `following::three_numbers`.
use Rattle.std.proofs.Common.{ℕ, List, [], ◌∷◌, refl, ◌∙◌, subst}
use Rattle.command_line.specs.Options.{Number}
use Rattle.command_line.specs.Following.{Raw, Says, Fails}
use Rattle.command_line.proofs.following.three_numbers.Goals as goal

pub returns-in_default : goal.returns-in_default
returns-in_default c = λ kinds rest. ([], subst (λ (w : List ℕ). Fails kinds Number w) (c.as_bytes.ensures.value ∙ c.as_str.ensures) (c.in_default.ensures kinds), refl)

pub returns-in_default-number : goal.returns-in_default-number
returns-in_default-number c = λ kinds rest. (Raw c.in-Some.x ∷ [], (subst (λ (w : List ℕ). Says kinds Number w (Raw c.in-Some.x)) (c.as_bytes.ensures.value ∙ c.as_str.ensures) (c.in-Some.ensures kinds), subst (λ (w : List ℕ). Fails kinds Number w) (c.as_bytes-2.ensures.value ∙ c.as_str-2.ensures) (c.in_default-number.ensures kinds)), refl)

pub returns-in_default-number-2 : goal.returns-in_default-number-2
returns-in_default-number-2 c = λ kinds rest. (Raw c.in-Some.x ∷ Raw c.in-Some-number.y ∷ [], (subst (λ (w : List ℕ). Says kinds Number w (Raw c.in-Some.x)) (c.as_bytes.ensures.value ∙ c.as_str.ensures) (c.in-Some.ensures kinds), (subst (λ (w : List ℕ). Says kinds Number w (Raw c.in-Some-number.y)) (c.as_bytes-2.ensures.value ∙ c.as_str-2.ensures) (c.in-Some-number.ensures kinds), subst (λ (w : List ℕ). Fails kinds Number w) (c.as_bytes-3.ensures.value ∙ c.as_str-3.ensures) (c.in_default-number-2.ensures kinds))), refl)

pub returns : goal.returns
returns c = λ kinds rest. (Raw c.in-Some.x ∷ Raw c.in-Some-number.y ∷ Raw c.in-Some-number-2.z ∷ [], (subst (λ (w : List ℕ). Says kinds Number w (Raw c.in-Some.x)) (c.as_bytes.ensures.value ∙ c.as_str.ensures) (c.in-Some.ensures kinds), (subst (λ (w : List ℕ). Says kinds Number w (Raw c.in-Some-number.y)) (c.as_bytes-2.ensures.value ∙ c.as_str-2.ensures) (c.in-Some-number.ensures kinds), (subst (λ (w : List ℕ). Says kinds Number w (Raw c.in-Some-number-2.z)) (c.as_bytes-3.ensures.value ∙ c.as_str-3.ensures) (c.in-Some-number-2.ensures kinds), tt))), refl)
