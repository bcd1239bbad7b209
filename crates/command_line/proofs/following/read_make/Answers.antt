-- Goals of `following::read_make`.
use Rattle.std.proofs.Common.{◌≡◌, ℕ, List, [], ◌∷◌, refl, ◌∙◌, subst}
use Rattle.command_line.specs.Options.{Whole}
use Rattle.command_line.specs.Following.{Natural, SpellsWhole}
use Rattle.command_line.proofs.Taking.{follow_one}
use Rattle.command_line.proofs.following.read_make.Goals as goal

pub returns-in-Some-whole : goal.returns-in-Some-whole
returns-in-Some-whole c = λ kinds word.
    let b : c.as_bytes.result.now ≡ c.in-Some.digits.now = c.as_bytes.ensures.value ∙ c.as_str.ensures in
    (Natural c.in-Some-whole.number ∷ [], follow_one kinds Whole c.args.words.now c.in-Some.digits.now c.in-Some.field-0-1.now (Natural c.in-Some-whole.number) c.in-Some.ensures (subst (λ (w : List ℕ). SpellsWhole w c.in-Some-whole.number) b c.in-Some-whole.ensures), refl)
