-- Calls go to functions before.
use Rattle.ctl_types.specs.Definitions.{Defined}
use Rattle.ctl_types.specs.Scoping.{IsDefined}
use Rattle.level_rules.specs.Rules.{Known}
use Rattle.level_rules.specs.Levels.{calls_in}
use Rattle.level_rules.specs.Listed.{Lowers}

-- Of definitions that keep their rules each instance calls instances of functions before its own, whatever is known to vary.
abbrev pub CallsLower : Type 0
CallsLower = (d : Defined) → IsDefined d → (known : Known) → Lowers (calls_in d.functions known)
