use Rattle.std.proofs.Common.{◌≤◌, length, ℕ, arith, ap, ◌∙◌, subst}
use Rattle.std.proofs.lemmas.List.{length-map}
use Rattle.ctl_tree.specs.OwnTokens.{OwnTokensBelow}
use Rattle.fix_num.specs.declared.TheConstants.{FRACTION}
use Rattle.language_cases.proofs.Tokens.{stand_few}
use Rattle.language_cases.proofs.cases.read.Goals as goal

pub new-requires-clause-few : goal.new-requires-clause-few
new-requires-clause-few c =
    let few : length c.in-Ok.tokens ≤ length c.args.text.now = stand_few FRACTION _ c.in-Ok.tokens c.in-Ok.ensures.stands in
    omega (arith, c.if-text-gt-TEXT_BYTES.false, few)

pub new-requires-clause-own : goal.new-requires-clause-own
new-requires-clause-own c =
    let P : ℕ → Type 0 = λ n. OwnTokensBelow n c.in-Ok-parse.«module» in
    subst P (length-map c.as_slice.result.now _ ∙ ap length c.as_slice.ensures) (c.tokens_stand.ensures _ _ c.in-Ok-parse.«module» c.in-Ok-parse.ensures.spells)
