-- What a call of a function of the library answers.
use Rattle.ctl_types.specs.Values.{Env}
use Rattle.ctl_types.specs.Library.{LibraryAnswer, Unfit, Refused, Given}
use Rattle.eval_library.specs.declared.calling.LibraryEnd.{LibraryEnd}
use Rattle.eval_library.specs.declared.calling.LibraryEnd.TheVariants as end

-- an end, and the arguments after the call, as the definition's answer
abbrev pub answer_of : LibraryEnd → Env → LibraryAnswer
answer_of end.Unfit frame = Unfit
answer_of end.Refused frame = Refused
answer_of (end.Given v) frame = Given v frame
