-- What an accepted form is.
use Rattle.std.specs.Prelude.{◌≡◌, ℕ, ◌<◌, List, [], ◌∷◌, Option, Some, None, Bool, true, false, ◌&&◌, slice_get}
use Rattle.ctl_types.specs.declared.shape.Base.{Base}
use Rattle.ctl_types.specs.declared.shape.Size.{Size}
use Rattle.ctl_types.specs.Typing.{Typed, Variable, Variables, Scene, shape_stands}

-- the type of what is well typed
abbrev pub known : List Size → Option Base → ℕ → Typed
known sizes base depth = record { well = true; sizes = sizes; base = base; depth = depth }

-- a value's shape stands; what gives no value has no sizes
abbrev pub value_stands : Scene → List Size → Option Base → Bool
value_stands x sizes (Some base) = shape_stands x (record { sizes = sizes; base = base })
value_stands x [] None = true
value_stands x (size ∷ sizes) None = false

-- An accepted form is well typed, with the shape and the depth that the checker gives. Its shape stands, and its depth is
-- below the least one that may not be called.
pub record IsAccepted (x : Scene) (form : Typed) (sizes : List Size) (base : Option Base) (greatest : ℕ) : Type 0 where
  pub type : form ≡ known sizes base greatest
  pub shape : value_stands x sizes base ≡ true
  pub depth : greatest < x.too_deep

-- each variable that is visible has a shape that stands
abbrev pub variables_stand : Scene → Variables → Bool
variables_stand x [] = true
variables_stand x (None ∷ variables) = variables_stand x variables
variables_stand x (Some v ∷ variables) = shape_stands x v.shape && variables_stand x variables

-- the variables of a scope are among these, under their numbers
abbrev pub Holds : Variables → Variables → Type 0
Holds vs scope = (k : ℕ) (v : Variable) → slice_get scope k ≡ Some (Some v) → slice_get vs k ≡ Some (Some v)
