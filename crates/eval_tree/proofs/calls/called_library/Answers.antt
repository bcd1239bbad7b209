use Rattle.std.proofs.Common.{◌≡◌, ℕ, List, [], ap, sym, ◌∙◌}
use Rattle.ctl_base.specs.declared.kind.Node.{Node}
use Rattle.ctl_stdlib.specs.declared.row.LibraryId.{LibraryId}
use Rattle.ctl_types.specs.declared.program.Struct.{Struct}
use Rattle.ctl_types.specs.Values.{Env}
use Rattle.ctl_types.specs.Library.{library_answer}
use Rattle.ctl_types.specs.Run as run
use Rattle.eval_values.specs.Uncounted.{free, library_run}
use Rattle.eval_library.specs.declared.calling.LibraryEnd.{LibraryEnd}
use Rattle.eval_library.specs.Ends.{answer_of}
use Rattle.eval_tree.specs.Calls.{with_defaults}
use Rattle.eval_tree.proofs.Frames.{no_defaults}
use Rattle.eval_tree.proofs.calls.called_library.Goals as goal

-- what the run of a function of the library gives, by how the call ended
ended : (structs given : List Struct) (id : LibraryId) (node : Node) (opens : List ℕ) (frame after : Env) (was end : LibraryEnd) → given ≡ structs → library_answer given id opens frame ≡ answer_of was after → was ≡ end → (turns : ℕ) → library_run structs id node opens (with_defaults [] frame) turns tt ≡ run.library_came (Unit {0}) free node turns tt (answer_of end after)
ended structs given id node opens frame after was end same answers is turns =
    ap (λ f. library_run structs id node opens f turns tt) (no_defaults frame)
    ∙ ap (run.library_came (Unit {0}) free node turns tt) (sym (ap (λ l. library_answer l id opens frame) same) ∙ answers ∙ ap (λ e. answer_of e after) is)

pub returns-in-Unfit : goal.returns-in-Unfit
returns-in-Unfit c = ended c.args.scene.now.structs c.structs.result.now c.args.id c.args.node c.args.opens.now c.args.frame.now.items c.call_library.new.frame.items c.in_ok-call_library.field-0 _ c.structs.ensures.result c.in_ok-call_library.ensures c.in-Unfit.is

pub returns-in-Refused : goal.returns-in-Refused
returns-in-Refused c = ended c.args.scene.now.structs c.structs.result.now c.args.id c.args.node c.args.opens.now c.args.frame.now.items c.call_library.new.frame.items c.in_ok-call_library.field-0 _ c.structs.ensures.result c.in_ok-call_library.ensures c.in-Refused.is

pub returns-in-Given : goal.returns-in-Given
returns-in-Given c = ended c.args.scene.now.structs c.structs.result.now c.args.id c.args.node c.args.opens.now c.args.frame.now.items c.call_library.new.frame.items c.in_ok-call_library.field-0 _ c.structs.ensures.result c.in_ok-call_library.ensures c.in-Given.is
