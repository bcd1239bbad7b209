-- What the real files are seen as.
use Rattle.std.specs.Prelude.{ℕ, List}
use Rattle.outside.specs.Calls.{FileCall}

-- The calls so far, how often a fetch or a look has failed, and how often a store.
pub record DiskState : Type 0 where
  pub asked : List FileCall
  pub faults : ℕ
  pub lost : ℕ
