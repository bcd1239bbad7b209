use Rattle.std.proofs.Common.{rules, arith}
use Rattle.module_path.proofs.FolderParts.{folder_put, last_put}
use Rattle.module_path.proofs.folders.folders_of.Goals as goal

pub each-preserved : goal.each-preserved
each-preserved c =
    let b = c.in-Some.ensures.byte (omega arith) (λ w o f. f) in
    (search rules, folder_put _ _ c.args.path.now _ _ _ c.in_ok-put.ensures b.0 b.1 b.2 c.each.invariant.1)

pub returns : goal.returns
returns c = last_put _ _ c.args.path.now _ c.in_ok-put-2.ensures (c.in_default.ensures.byte (omega arith) (λ w o f. f)) c.each.invariant.1
