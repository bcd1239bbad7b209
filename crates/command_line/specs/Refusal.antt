-- What a refusal of words stands for.
use Rattle.std.specs.Prelude.{ℕ}
use Rattle.command_line.specs.declared.reading.WordFault.{WordFault}
use Rattle.command_line.specs.declared.reading.WordFault.TheVariants.{Usage, Memory}

abbrev pub word_refusal : (ℕ → Type 0) → WordFault → Type 0
word_refusal claim (Usage word) = claim word
word_refusal claim Memory = Unit {0}
