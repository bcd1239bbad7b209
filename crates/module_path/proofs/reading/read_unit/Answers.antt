use Rattle.std.proofs.Common.{◌≡◌, ◌≤◌, length, ℕ, arith, ap, sym, ◌∙◌, subst}
use Rattle.std.proofs.lemmas.List.{length-map}
use Rattle.ctl_tree.specs.OwnTokens.{OwnTokensBelow}
use Rattle.ctl_tree.specs.Units.{SourceUnit}
use Rattle.fix_num.specs.declared.TheConstants.{FRACTION}
use Rattle.module_path.specs.Means.{ArePrintable}
use Rattle.module_path.proofs.Texts.{stand_few, module_printable}
use Rattle.module_path.proofs.reading.read_unit.Goals as goal

pub new-requires-clause-few : goal.new-requires-clause-few
new-requires-clause-few c =
    let few : length c.in-Ok.tokens ≤ length c.as_slice.result.now = stand_few FRACTION _ c.in-Ok.tokens c.in-Ok.ensures.stands in
    let same : length c.as_slice.result.now ≡ length c.args.text.bytes = ap length c.as_slice.ensures in
    omega (arith, c.requires, few, same)

pub new-requires-clause-own : goal.new-requires-clause-own
new-requires-clause-own c =
    let P : ℕ → Type 0 = λ n. OwnTokensBelow n c.in-Ok-parse.«module» in
    subst P (length-map c.as_slice-3.result.now _ ∙ ap length c.as_slice-3.ensures) (c.tokens_stand.ensures _ _ c.in-Ok-parse.«module» c.in-Ok-parse.ensures.spells)

pub returns-clause-printable : goal.returns-clause-printable
returns-clause-printable c =
    let P : SourceUnit → Type 0 = λ u. ArePrintable u.«module».imports in
    subst P (sym c.new.ensures) (module_printable c.in-Ok-parse.ensures.spells)
