use Rattle.std.proofs.Common.{refl, ap}
use Rattle.grammar_machine.specs.Machine.{qualified_move}
use Rattle.ctl_parser_expr.proofs.Missing.{no_qualified_name, no_name}
use Rattle.ctl_parser_expr.proofs.NamesRead.{local_read, global_read}
use Rattle.ctl_parser_expr.proofs.Ways.{read, stop, named}
use Rattle.ctl_parser_expr.proofs.names.qualified_name.Goals as goal

pub returns-then-sees_name : goal.returns-then-sees_name
returns-then-sees_name c = record {
  reads = local_read _ _ _ c.names.ensures.reads;
  follows = λ below. read (ap qualified_move c.if-sees_name.ensures.told.0) refl (c.names.ensures.follows below);
}

pub returns-then-not-sees : goal.returns-then-not-sees
returns-then-not-sees c = record { reads = tt; follows = λ below. stop (no_qualified_name _ c.if-sees_name.ensures.told c.if-not-sees.ensures.told) }

pub returns-then-not-sees_name : goal.returns-then-not-sees_name
returns-then-not-sees_name c = record {
  reads = tt;
  follows = λ below. read (ap qualified_move c.if-not-sees.ensures.told.0) refl (stop (no_name _ c.if-not-sees_name.ensures.told));
}

pub returns : goal.returns
returns c = record {
  reads = global_read _ _ _ c.if-not-sees.ensures.told.0 c.names-2.ensures.reads;
  follows = λ below. read (ap qualified_move c.if-not-sees.ensures.told.0) refl (named c.if-not-sees_name.ensures.told.0 refl (c.names-2.ensures.follows below));
}
