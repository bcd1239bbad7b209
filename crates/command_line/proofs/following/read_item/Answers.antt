-- Goals of `following::read_item`.
use Rattle.std.proofs.Common.{sym, subst}
use Rattle.command_line.specs.declared.option.Kind.{Kind}
use Rattle.command_line.specs.Taking.{TakesItem}
use Rattle.command_line.proofs.following.read_item.Goals as goal

pub returns-in-Stage : goal.returns-in-Stage
returns-in-Stage c = subst (λ (k : Kind). TakesItem c.args.kinds.now c.args.word.now k c.args.words.now c.read_stage.result) (sym c.in-Stage.is) (c.read_stage.ensures c.args.kinds.now c.args.word.now)

pub returns-in-Param : goal.returns-in-Param
returns-in-Param c = subst (λ (k : Kind). TakesItem c.args.kinds.now c.args.word.now k c.args.words.now c.read_param.result) (sym c.in-Param.is) (c.read_param.ensures c.args.kinds.now c.args.word.now)

pub returns-in-Format : goal.returns-in-Format
returns-in-Format c = subst (λ (k : Kind). TakesItem c.args.kinds.now c.args.word.now k c.args.words.now c.read_format.result) (sym c.in-Format.is) (c.read_format.ensures c.args.kinds.now c.args.word.now)

pub returns-in-Watch : goal.returns-in-Watch
returns-in-Watch c = subst (λ (k : Kind). TakesItem c.args.kinds.now c.args.word.now k c.args.words.now c.read_watch.result) (sym c.in-Watch.is) (c.read_watch.ensures c.args.word.now)

pub returns-in-Make : goal.returns-in-Make
returns-in-Make c = subst (λ (k : Kind). TakesItem c.args.kinds.now c.args.word.now k c.args.words.now c.read_make.result) (sym c.in-Make.is) (c.read_make.ensures c.args.kinds.now c.args.word.now)
