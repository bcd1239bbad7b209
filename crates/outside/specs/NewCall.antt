-- The call that is added.
use Rattle.outside.specs.Calls.{FileCall, Fetch, Has, Store, file_call}
use Rattle.outside.specs.declared.calls.NewCall.{NewCall}
use Rattle.outside.specs.declared.calls.NewCall.TheVariants as new_call

abbrev pub call_of : NewCall → FileCall
call_of (new_call.Fetch name failed) = file_call Fetch name.now failed
call_of (new_call.Has name failed) = file_call Has name.now failed
call_of (new_call.Store name failed) = file_call Store name.now failed
