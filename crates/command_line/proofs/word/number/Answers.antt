-- Goals of `word::number`.
use Rattle.std.proofs.Common.{ℕ, ◌≤◌, ◌<◌, List, Err, subst, arith}
use Rattle.fix_num.specs.declared.TheConstants.{FRACTION}
use Rattle.fix_num.specs.declared.decimal.LiteralFault.{LiteralFault}
use Rattle.fix_num.specs.declared.decimal.LiteralFault.TheVariants.{NotANumber, TooManyDigits}
use Rattle.fix_num.specs.Decimal.{Decimal, Reads, SpellsOnce, significant, digits_of, most_digits}
use Rattle.command_line.specs.Options.{Number}
use Rattle.command_line.specs.Following.{Value, Text, Raw, Natural, Says}
use Rattle.command_line.proofs.word.number.Goals as goal

-- what is not read says nothing
unread : SpellsOnce → (kinds word : List ℕ) (fault : LiteralFault) → Reads FRACTION word (Err fault) → (value : Value) → Says kinds Number word value → ⊥
unread once kinds word fault h (Text bytes) k = k
unread once kinds word fault h (Natural n) k = k
unread once kinds word NotANumber h (Raw x) k = h k.0 k.1
unread once kinds word TooManyDigits h (Raw x) k =
    let few : significant (digits_of h.0) ≤ most_digits = subst (λ (d : Decimal). significant (digits_of d) ≤ most_digits) (once word k.0 h.0 k.1 h.1) k.2 in
    let many : most_digits < significant (digits_of h.0) = h.2 in
    absurd (omega arith)

pub returns-in-Err : goal.returns-in-Err
returns-in-Err c = λ kinds value k. unread c.spells_once.ensures kinds c.args.word.now c.in-Err.field-0 c.in-Err.ensures value k
