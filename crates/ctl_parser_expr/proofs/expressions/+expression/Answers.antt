use Rattle.std.proofs.Common.{arith, ◌+◌, [], inl, inr, refl, sym, ap, ◌∙◌, append_assoc, append-nil}
use Rattle.std.proofs.lemmas.Bool.{false≢true}
use Rattle.ctl_tree.specs.Names.{operator_of, unary_operator_of, literal_of}
use Rattle.ctl_tree.specs.Expressions.{tightest, no_link, more_links, operated, plain, stepped, no_step, index_step, field_step, literal, named as name_form, called, bracketed, call_of, no_argument, arguments, arguments_end, more_arguments}
use Rattle.grammar_machine.specs.Front.{begins_expr}
use Rattle.grammar_machine.specs.Machine.{after_operator, after_unary, after_literal, steps_move, call_or_name_move, arguments_move, more_arguments_move}
use Rattle.ctl_parser_expr.proofs.Climb.{begin, to_rung, land, loosen, linked_of, last_link, not_empty, some_link, bare_of}
use Rattle.ctl_parser_expr.proofs.Missing.{no_call, no_steps, name_primary, bracket, literal_there, no_primary, no_arguments, first_argument, no_more_arguments}
use Rattle.ctl_parser_expr.proofs.Ways.{two, one_more, some_kind, done, on, pass, read, read_deeper, expand, expand_deeper, sign, word, stop, sink_read, sink_expand, refused, read_as}
use Rattle.ctl_parser_expr.proofs.expressions.+expression.Goals as goal

-- operands

pub operand-returns-in_err-form : goal.operand-returns-in_err-form
operand-returns-in_err-form t c = refused c.from_residual.ensures.1 (λ below. begin _ _ _ c.requires.levelled (c.in_err-form.ensures.follows _))

pub operand-climb-init : goal.operand-climb-init
operand-climb-init t c = record {
  spelled = tightest refl c.in_ok-form.ensures.reads.0;
  passed = λ below. begin _ _ _ c.requires.levelled (c.in_ok-form.ensures.follows _);
  above = c.requires.levelled;
  top = omega arith;
  between = c.in_ok-form.ensures.reads.1;
}

pub operand-returns-in_err-chain : goal.operand-returns-in_err-chain
operand-returns-in_err-chain t c =
    let at = c.in-Some.ensures.within in
    refused c.from_residual-in_err-chain.ensures.1
    (λ below. on (c.climb.invariant.passed below)
    (to_rung _ _ _ _ _ _ at.0 at.1 (λ m ne. ap (operator_of m) (sym c.kind.ensures.exact) ∙ at.3 m ne) (c.in_err-chain.ensures.follows _)))

pub operand-climb-preserved : goal.operand-climb-preserved
operand-climb-preserved t c =
    let at = c.in-Some.ensures.within in
    record {
      spelled = c.in_ok-chain.ensures.reads.0 _
          (loosen _ _ _ _ _ (omega (arith, at.1)) c.climb.invariant.top (λ m le lt. ap (operator_of m) (sym c.kind.ensures.exact) ∙ at.3 m (λ e. omega (arith, e, le))) c.climb.invariant.spelled);
      passed = λ below. on (c.climb.invariant.passed below)
          (to_rung _ _ _ _ _ _ at.0 at.1 (λ m ne. ap (operator_of m) (sym c.kind.ensures.exact) ∙ at.3 m ne) (c.in_ok-chain.ensures.follows _));
      above = at.0;
      top = omega (arith, at.1, c.climb.invariant.top);
      between = (omega (arith, c.climb.invariant.between, c.in_ok-chain.ensures.reads.1), c.in_ok-chain.ensures.reads.1.1, c.in_ok-chain.ensures.reads.1.2);
    }

pub operand-returns : goal.operand-returns
operand-returns t c = record {
  reads = (
    loosen _ _ _ _ _ c.climb.invariant.above c.climb.invariant.top (λ m le lt. ap (operator_of m) (sym c.kind.ensures.exact) ∙ c.in_default.ensures.none m le lt) c.climb.invariant.spelled,
    c.climb.invariant.between,
  );
  follows = λ below. on (c.climb.invariant.passed below)
      (land _ _ _ _ _ c.climb.invariant.above (λ m le lt. ap (operator_of m) (sym c.kind.ensures.exact) ∙ c.in_default.ensures.none m le lt) (done refl));
}

-- chains

pub chain-each-init : goal.chain-each-init
chain-each-init t c = record {
  spelled = λ more after are. rw c.new-links.ensures.items are;
  either = inl (c.new-links.ensures.items, refl);
  last = rw c.new-links.ensures.items refl;
  passed = λ below. done refl;
  from = omega arith;
  within = c.requires.within;
}

pub chain-returns-in_err-operand : goal.chain-returns-in_err-operand
chain-returns-in_err-operand t c =
    let is = ap (operator_of c.args.level) (sym c.kind.ensures.exact) ∙ sym c.operator.ensures ∙ c.in-Some.is in
    refused c.from_residual-in_err-operand.ensures.1 (λ below. on (c.each.invariant.passed below) (read (ap (after_operator _ _) is) refl (c.in_err-operand.ensures.follows _)))

pub chain-each-preserved : goal.chain-each-preserved
chain-each-preserved t c =
    let is = ap (operator_of c.args.level) (sym c.kind.ensures.exact) ∙ sym c.operator.ensures ∙ c.in-Some.is in
    record {
      spelled = λ more after are. rw (c.in_ok-put.ensures, append_assoc) (c.each.invariant.spelled _ after (more_links _ is c.in_ok-operand.ensures.reads.0 are));
      either = inr ((λ e. not_empty _ _ (sym c.in_ok-put.ensures ∙ e)), omega (arith, c.each.invariant.from, c.in_ok-operand.ensures.reads.1.0));
      last = rw c.in_ok-put.ensures (sym (last_link c.each.links.items _));
      passed = λ below. on (c.each.invariant.passed below) (read (ap (after_operator _ _) is) refl (pass c.in_ok-operand.ensures.follows (done refl)));
      from = omega (arith, c.each.invariant.from, c.in_ok-operand.ensures.reads.1.0);
      within = c.in_ok-operand.ensures.reads.1.1;
    }

pub chain-returns : goal.chain-returns
chain-returns t c =
    let none = ap (operator_of c.args.level) (sym c.kind.ensures.exact) ∙ sym c.operator.ensures ∙ c.in_default.is in
    let some = some_link _ _ _ _ _ c.each.invariant.either c.requires.sees none in
    record {
      reads = (
        (λ start h.
            linked_of _ _ _ _ _ _ c.requires.levelled c.in_ok-first.ensures c.from_vec-links.ensures
            (rw (sym (append-nil c.each.links.items)) (c.each.invariant.spelled [] c.each.next (no_link none refl))) some.0 c.each.invariant.last h),
        (some.1, c.each.invariant.within, c.requires.few),
      );
      follows = λ below. on (c.each.invariant.passed below) (expand (ap (after_operator _ _) none) (done refl));
    }

-- unary operators

pub unary-returns-in_default : goal.unary-returns-in_default
unary-returns-in_default t c =
    let none = ap unary_operator_of (sym c.kind.ensures.exact) ∙ sym c.unary_operator.ensures ∙ c.in_default.is in
    read_as (λ e j h. plain none h) (λ below. expand (ap (after_unary _) none) (c.postfix.ensures.follows below)) c.postfix.ensures

pub unary-returns-in_err-allow_deeper : goal.unary-returns-in_err-allow_deeper
unary-returns-in_err-allow_deeper t c =
    let is = ap unary_operator_of (sym c.kind.ensures.exact) ∙ sym c.unary_operator.ensures ∙ c.in-Some.is in
    refused c.from_residual.ensures.1 (λ below. sink_read c.in_err-allow_deeper.ensures.deep (ap (after_unary _) is))

pub unary-returns-in_err-operand : goal.unary-returns-in_err-operand
unary-returns-in_err-operand t c =
    let is = ap unary_operator_of (sym c.kind.ensures.exact) ∙ sym c.unary_operator.ensures ∙ c.in-Some.is in
    refused c.from_residual-in_err-operand.ensures.1 (λ below. read_deeper (ap (after_unary _) is) c.in_ok-allow_deeper.ensures.allowed refl (c.in_err-operand.ensures.follows _))

pub unary-returns : goal.unary-returns
unary-returns t c =
    let is = ap unary_operator_of (sym c.kind.ensures.exact) ∙ sym c.unary_operator.ensures ∙ c.in-Some.is in
    let ends = c.in_ok-operand.ensures.reads.1 in
    record {
      reads = (rw c.in_ok-operand-2.ensures (operated is c.in_ok-allow_deeper.ensures.allowed c.in_ok-operand.ensures.reads.0), (omega (arith, ends.0), ends.1, ends.2));
      follows = λ below. read_deeper (ap (after_unary _) is) c.in_ok-allow_deeper.ensures.allowed refl (c.in_ok-operand.ensures.follows below);
    }

-- steps

pub postfix-returns-in_err-root : goal.postfix-returns-in_err-root
postfix-returns-in_err-root t c = refused c.from_residual.ensures.1 (λ below. expand refl (c.in_err-root.ensures.follows _))

pub postfix-returns-in_err-steps : goal.postfix-returns-in_err-steps
postfix-returns-in_err-steps t c = refused c.from_residual-in_err-steps.ensures.1 (λ below. expand refl (pass c.in_ok-root.ensures.follows (c.in_err-steps.ensures.follows _)))

pub postfix-returns-then-is_empty : goal.postfix-returns-then-is_empty
postfix-returns-then-is_empty t c =
    let ends = c.in_ok-steps.ensures.reads.1 in
    record {
      reads = (bare_of _ _ _ _ _ _ _ _ c.in_ok-root.ensures.reads.0 c.in_ok-steps.ensures.reads.0 (c.if-is_empty.ensures.0 refl), (omega (arith, c.in_ok-root.ensures.reads.1.0, ends.0), ends.1, ends.2));
      follows = λ below. expand refl (pass c.in_ok-root.ensures.follows (c.in_ok-steps.ensures.follows below));
    }

pub postfix-returns : goal.postfix-returns
postfix-returns t c =
    let ends = c.in_ok-steps.ensures.reads.1 in
    record {
      reads = (rw c.in_ok-root-2.ensures (stepped _ c.in_ok-root.ensures.reads.0 c.in_ok-steps.ensures.reads.0 (λ e. false≢true (c.if-is_empty.ensures.1 e))), (omega (arith, c.in_ok-root.ensures.reads.1.0, ends.0), ends.1, ends.2));
      follows = λ below. expand refl (pass c.in_ok-root.ensures.follows (c.in_ok-steps.ensures.follows below));
    }

pub steps-each-init : goal.steps-each-init
steps-each-init t c = record {
  spelled = λ more after are. rw c.new-steps.ensures.items are;
  passed = λ below. done refl;
  from = omega arith;
  within = c.requires.within;
}

pub steps-returns-in_err-name : goal.steps-returns-in_err-name
steps-returns-in_err-name t c =
    refused c.from_residual.ensures.1 (λ below. on (c.each.invariant.passed below) (read (ap (steps_move _) c.if-sees.ensures.told.0) refl (c.in_err-name.ensures.fails _)))

pub steps-each-preserved-then-sees : goal.steps-each-preserved-then-sees
steps-each-preserved-then-sees t c = record {
  spelled = λ more after are. rw (c.in_ok-put.ensures, append_assoc) (c.each.invariant.spelled _ after (field_step c.if-sees.ensures.told.0 c.in_ok-name.ensures.sees.0 are));
  passed = λ below. on (c.each.invariant.passed below) (read (ap (steps_move _) c.if-sees.ensures.told.0) refl (word c.in_ok-name.ensures.sees.0 (two _) (done refl)));
  from = omega (arith, c.each.invariant.from);
  within = omega (arith, c.in_ok-name.ensures.sees.1);
}

pub steps-returns-in_err-allow_deeper : goal.steps-returns-in_err-allow_deeper
steps-returns-in_err-allow_deeper t c =
    refused c.from_residual-in_err-allow_deeper.ensures.1 (λ below. on (c.each.invariant.passed below) (sink_read c.in_err-allow_deeper.ensures.deep (ap (steps_move _) c.if-sees-2.ensures.told.0)))

pub steps-returns-in_err-index : goal.steps-returns-in_err-index
steps-returns-in_err-index t c =
    refused c.from_residual-in_err-index.ensures.1
    (λ below. on (c.each.invariant.passed below) (read_deeper (ap (steps_move _) c.if-sees-2.ensures.told.0) c.in_ok-allow_deeper.ensures.allowed refl (c.in_err-index.ensures.follows _)))

pub steps-returns-in_err-expect : goal.steps-returns-in_err-expect
steps-returns-in_err-expect t c =
    refused c.from_residual-in_err-expect.ensures.1
    (λ below. on (c.each.invariant.passed below)
    (read_deeper (ap (steps_move _) c.if-sees-2.ensures.told.0) c.in_ok-allow_deeper.ensures.allowed refl (pass c.in_ok-index.ensures.follows (c.in_err-expect.ensures.fails _))))

pub steps-each-preserved : goal.steps-each-preserved
steps-each-preserved t c = record {
  spelled = λ more after are. rw (c.in_ok-put-2.ensures, append_assoc)
      (c.each.invariant.spelled _ after (index_step _ c.if-sees-2.ensures.told.0 c.in_ok-allow_deeper.ensures.allowed c.in_ok-index.ensures.reads.0 c.in_ok-expect.ensures.sees.0 are));
  passed = λ below. on (c.each.invariant.passed below)
      (read_deeper (ap (steps_move _) c.if-sees-2.ensures.told.0) c.in_ok-allow_deeper.ensures.allowed refl (pass c.in_ok-index.ensures.follows (sign refl c.in_ok-expect.ensures.sees.0 refl (done refl))));
  from = omega (arith, c.each.invariant.from, c.in_ok-index.ensures.reads.1.0);
  within = omega (arith, c.in_ok-expect.ensures.sees.1);
}

pub steps-returns-else-sees-2 : goal.steps-returns-else-sees-2
steps-returns-else-sees-2 t c = record {
  reads = (
    rw (c.from_vec.ensures, sym (append-nil c.each.steps.items)) (c.each.invariant.spelled [] c.each.next (no_step c.if-sees-2.ensures.told c.if-sees.ensures.told refl)),
    (c.each.invariant.from, c.each.invariant.within, c.sees.ensures.few),
  );
  follows = λ below. on (c.each.invariant.passed below) (expand (no_steps _ _ c.if-sees-2.ensures.told c.if-sees.ensures.told) (done refl));
}

-- primary forms

pub primary-returns-in-Some : goal.primary-returns-in-Some
primary-returns-in-Some t c =
    let is' = sym c.literal_value.ensures ∙ c.in-Some.is in
    let is = ap literal_of (sym c.kind.ensures.exact) ∙ is' in
    record {
      reads = (literal is refl, (omega arith, one_more _ _ (some_kind _ c.kind.ensures.within (literal_there _ _ is')), c.kind.ensures.few));
      follows = λ below. read (ap (after_literal _ _) is) refl (done refl);
    }

pub primary-returns-then-begins_name : goal.primary-returns-then-begins_name
primary-returns-then-begins_name t c = record {
  reads = c.named.ensures.reads;
  follows = λ below. expand (name_primary _ _ c.if-begins_name.ensures.told.0) (c.named.ensures.follows below);
}

pub primary-returns-then-not-sees : goal.primary-returns-then-not-sees
primary-returns-then-not-sees t c =
    let none = ap literal_of (sym c.kind.ensures.exact) ∙ sym c.literal_value.ensures ∙ c.in_default.is in
    record { reads = tt; follows = λ below. stop (no_primary _ _ none c.if-not-sees.ensures.told c.if-begins_name.ensures.told.0 c.if-begins_name.ensures.told.1) }

pub primary-returns-in_err-allow_deeper : goal.primary-returns-in_err-allow_deeper
primary-returns-in_err-allow_deeper t c =
    refused c.from_residual.ensures.1 (λ below. sink_read c.in_err-allow_deeper.ensures.deep (bracket _ _ c.if-not-sees.ensures.told.0))

pub primary-returns-in_err-inside : goal.primary-returns-in_err-inside
primary-returns-in_err-inside t c =
    refused c.from_residual-in_err-inside.ensures.1
    (λ below. read_deeper (bracket _ _ c.if-not-sees.ensures.told.0) c.in_ok-allow_deeper.ensures.allowed refl (c.in_err-inside.ensures.follows _))

pub primary-returns-in_err-expect : goal.primary-returns-in_err-expect
primary-returns-in_err-expect t c =
    refused c.from_residual-in_err-expect.ensures.1
    (λ below. read_deeper (bracket _ _ c.if-not-sees.ensures.told.0) c.in_ok-allow_deeper.ensures.allowed refl (pass c.in_ok-inside.ensures.follows (c.in_err-expect.ensures.fails _)))

pub primary-returns : goal.primary-returns
primary-returns t c = record {
  reads = (
    bracketed _ c.if-not-sees.ensures.told.0 c.in_ok-allow_deeper.ensures.allowed c.in_ok-inside.ensures.reads.0 c.in_ok-expect.ensures.sees.0 refl,
    (omega (arith, c.in_ok-inside.ensures.reads.1.0), omega (arith, c.in_ok-expect.ensures.sees.1), c.in_ok-expect.ensures.sees.2),
  );
  follows = λ below. read_deeper (bracket _ _ c.if-not-sees.ensures.told.0) c.in_ok-allow_deeper.ensures.allowed refl
      (pass c.in_ok-inside.ensures.follows (sign refl c.in_ok-expect.ensures.sees.0 refl (done refl)));
}

pub named-returns-in_err-name : goal.named-returns-in_err-name
named-returns-in_err-name t c = refused c.from_residual.ensures.1 (λ below. c.in_err-name.ensures.follows _)

pub named-returns-then-not-sees : goal.named-returns-then-not-sees
named-returns-then-not-sees t c = record {
  reads = (name_form c.in_ok-name.ensures.reads.0 c.if-not-sees.ensures.told, c.in_ok-name.ensures.reads.1);
  follows = λ below. pass c.in_ok-name.ensures.follows (expand (no_call _ _ c.if-not-sees.ensures.told) (done refl));
}

pub named-returns-in_err-arguments : goal.named-returns-in_err-arguments
named-returns-in_err-arguments t c =
    refused c.from_residual-in_err-arguments.ensures.1
    (λ below. pass c.in_ok-name.ensures.follows (read (ap (call_or_name_move _) c.if-not-sees.ensures.told.0) refl (c.in_err-arguments.ensures.follows _)))

pub named-returns : goal.named-returns
named-returns t c =
    let ends = c.in_ok-arguments.ensures.reads.1 in
    record {
      reads = (rw c.in_ok-call.ensures (called (call_of _ c.in_ok-name.ensures.reads.0 c.if-not-sees.ensures.told.0 c.in_ok-arguments.ensures.reads.0)), (omega (arith, c.in_ok-name.ensures.reads.1.0, ends.0), ends.1, ends.2));
      follows = λ below. pass c.in_ok-name.ensures.follows (read (ap (call_or_name_move _) c.if-not-sees.ensures.told.0) refl (c.in_ok-arguments.ensures.follows below));
    }

-- arguments

pub arguments-returns-then-sees : goal.arguments-returns-then-sees
arguments-returns-then-sees t c = record {
  reads = (rw c.new.ensures (no_argument c.if-sees.ensures.told.0 refl), (omega arith, omega (arith, c.if-sees.ensures.told.1), c.sees.ensures.few));
  follows = λ below. read (ap (arguments_move _) c.if-sees.ensures.told.0) refl (done refl);
}

pub arguments-returns-then-not-begins_expr : goal.arguments-returns-then-not-begins_expr
arguments-returns-then-not-begins_expr t c =
    let none = ap begins_expr (sym c.kind.ensures.exact) ∙ sym c.begins_expr.ensures ∙ c.if-not-begins_expr.true in
    record { reads = tt; follows = λ below. stop (no_arguments _ _ c.if-sees.ensures.told none) }

pub arguments-returns-in_err-allow_deeper : goal.arguments-returns-in_err-allow_deeper
arguments-returns-in_err-allow_deeper t c =
    let begins = ap begins_expr (sym c.kind.ensures.exact) ∙ sym c.begins_expr.ensures ∙ c.if-not-begins_expr.false in
    refused c.from_residual.ensures.1 (λ below. sink_expand c.in_err-allow_deeper.ensures.deep (first_argument _ _ begins))

pub arguments-returns-in_err-first : goal.arguments-returns-in_err-first
arguments-returns-in_err-first t c =
    let begins = ap begins_expr (sym c.kind.ensures.exact) ∙ sym c.begins_expr.ensures ∙ c.if-not-begins_expr.false in
    refused c.from_residual-in_err-first.ensures.1 (λ below. expand_deeper (first_argument _ _ begins) c.in_ok-allow_deeper.ensures.allowed (c.in_err-first.ensures.follows _))

pub arguments-each-init : goal.arguments-each-init
arguments-each-init t c =
    let begins = ap begins_expr (sym c.kind.ensures.exact) ∙ sym c.begins_expr.ensures ∙ c.if-not-begins_expr.false in
    record {
      spelled = λ more after are. rw (c.in_ok-put.ensures, c.new-arguments.ensures.items) (arguments _ c.in_ok-allow_deeper.ensures.allowed c.in_ok-first.ensures.reads.0 are);
      passed = λ below. expand_deeper (first_argument _ _ begins) c.in_ok-allow_deeper.ensures.allowed (pass c.in_ok-first.ensures.follows (done refl));
      shallow = c.in_ok-allow_deeper.ensures.allowed;
      between = c.in_ok-first.ensures.reads.1;
    }

pub arguments-returns-in_err-more : goal.arguments-returns-in_err-more
arguments-returns-in_err-more t c =
    refused c.from_residual-in_err-more.ensures.1 (λ below. on (c.each.invariant.passed below) (read (ap (more_arguments_move _) c.each-test.ensures.told.0) refl (c.in_err-more.ensures.follows _)))

pub arguments-each-preserved : goal.arguments-each-preserved
arguments-each-preserved t c =
    let ends = c.in_ok-more.ensures.reads.1 in
    record {
      spelled = λ more after are. rw (c.in_ok-put-2.ensures, append_assoc) (c.each.invariant.spelled _ after (more_arguments _ c.each-test.ensures.told.0 c.each.invariant.shallow c.in_ok-more.ensures.reads.0 are));
      passed = λ below. on (c.each.invariant.passed below) (read (ap (more_arguments_move _) c.each-test.ensures.told.0) refl (pass c.in_ok-more.ensures.follows (done refl)));
      shallow = c.each.invariant.shallow;
      between = (omega (arith, c.each.invariant.between.0, ends.0), ends.1, ends.2);
    }

pub arguments-returns-then-not-sees : goal.arguments-returns-then-not-sees
arguments-returns-then-not-sees t c = record {
  reads = tt;
  follows = λ below. on (c.each.invariant.passed below) (stop (no_more_arguments _ _ c.each-test.ensures.told c.if-not-sees.ensures.told));
}

pub arguments-returns : goal.arguments-returns
arguments-returns t c = record {
  reads = (
    rw (c.from_vec.ensures, sym (append-nil c.each.arguments.items)) (c.each.invariant.spelled [] (c.each.next + 1) (arguments_end c.if-not-sees.ensures.told.0 refl)),
    (omega (arith, c.each.invariant.between.0), omega (arith, c.if-not-sees.ensures.told.1), c.each.invariant.between.2),
  );
  follows = λ below. on (c.each.invariant.passed below) (read (ap (more_arguments_move _) c.if-not-sees.ensures.told.0) refl (done refl));
}
