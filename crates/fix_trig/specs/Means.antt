-- The crate's own means: its private contracts see the code's struct as a direction.
use Rattle.fix_trig.specs.declared.turn.UnitVector.{UnitVector as Parts}
use Rattle.fix_trig.specs.Turn.{UnitVector}

-- the direction of these parts
abbrev pub vector_of : Parts → UnitVector
vector_of d = record { x = d.x; y = d.y }
