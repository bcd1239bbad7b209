use Rattle.std.proofs.Common.{arith, ◌+◌, [], Some, None, refl, sym, ◌∙◌, append_assoc, append-nil, ap}
use Rattle.ctl_tree.specs.Lexemes.{kind_at}
use Rattle.ctl_tree.specs.Statements.{block, statements_end, statements, no_else as no_else_form, last_else, more_arms, block_statement, empty_statement}
use Rattle.grammar_machine.specs.Front.{begins_statement, begins_word_shape}
use Rattle.grammar_machine.specs.Machine.{statements_move}
use Rattle.ctl_parser.proofs.MovesOfStatements.{no_bracket, no_statement, first_statement, no_else, open_block}
use Rattle.ctl_parser.proofs.ReadStatements.{constant_of, if_of, while_of, for_of, arm_of, first_arm, next_arm, all_arms}
use Rattle.ctl_parser.proofs.StepsOfStatements.{arm_step, arm_step_two, else_step, else_if_step, if_step, while_step, for_step, return_step, print_step, const_step, block_step, empty_step, name_step, shape_step, no_step, deep_if, deep_while, deep_for}
use Rattle.ctl_parser.proofs.Ways.{done, on, pass, read, expand, expand_deeper, stop, sink_expand, refused, read_behind, no_memory}
use Rattle.ctl_parser.proofs.statements.+statement.Goals as goal

-- a test and a statement

pub arm-returns-then-not-sees : goal.arm-returns-then-not-sees
arm-returns-then-not-sees t c = record { reads = tt; follows = λ below. stop (no_bracket _ _ (kind_at c.args.lexemes.now c.args.at) c.if-not-sees.ensures.told) }

pub arm-returns-in_err-test : goal.arm-returns-in_err-test
arm-returns-in_err-test t c = refused c.from_residual.ensures.1 (λ below. arm_step c.if-not-sees.ensures.told.0 (c.in_err-test.ensures.follows _))

pub arm-returns-in_err-body : goal.arm-returns-in_err-body
arm-returns-in_err-body t c = refused c.from_residual-in_err-body.ensures.1 (λ below. arm_step c.if-not-sees.ensures.told.0 (on (c.in_ok-test.ensures.follows _) (c.in_err-body.ensures.follows _)))

pub arm-returns : goal.arm-returns
arm-returns t c =
    let ends = c.in_ok-body.ensures.reads.1 in
    record {
      reads = (
        arm_of c.in_ok-body-2.ensures c.if-not-sees.ensures.told.0 c.requires c.in_ok-test.ensures.reads.0 c.in_ok-body.ensures.reads.0,
        (omega (arith, c.in_ok-test.ensures.reads.1.0, ends.0), ends.1, ends.2),
      );
      follows = λ below. arm_step c.if-not-sees.ensures.told.0 (on (c.in_ok-test.ensures.follows _) (c.in_ok-body.ensures.follows below));
    }

-- blocks

pub block-returns-then-not-sees : goal.block-returns-then-not-sees
block-returns-then-not-sees t c = record { reads = tt; follows = λ below. stop (no_bracket _ _ (kind_at c.args.lexemes.now c.args.at) c.if-not-sees.ensures.told) }

pub block-returns-in_err-statements : goal.block-returns-in_err-statements
block-returns-in_err-statements t c = refused c.from_residual.ensures.1 (λ below. read (open_block c.args.nesting (kind_at c.args.lexemes.now c.args.at) c.if-not-sees.ensures.told.0) refl (c.in_err-statements.ensures.follows _))

pub block-returns : goal.block-returns
block-returns t c =
    let ends = c.in_ok-statements.ensures.reads.1 in
    record {
      reads = (block c.if-not-sees.ensures.told.0 c.in_ok-statements.ensures.reads.0, (omega (arith, ends.0), ends.1, ends.2));
      follows = λ below. read (open_block c.args.nesting (kind_at c.args.lexemes.now c.args.at) c.if-not-sees.ensures.told.0) refl (c.in_ok-statements.ensures.follows below);
    }

pub statements-each-init : goal.statements-each-init
statements-each-init t c = record {
  spelled = λ more after are. rw c.new-statements.ensures.items are;
  passed = λ below. done refl;
  from = omega arith;
  within = c.requires.within;
}

pub statements-returns-then-not-begins_statement : goal.statements-returns-then-not-begins_statement
statements-returns-then-not-begins_statement t c =
    let none = ap begins_statement (sym c.kind.ensures.exact) ∙ sym c.begins_statement.ensures ∙ c.if-not-begins_statement.true in
    record { reads = tt; follows = λ below. on (c.each.invariant.passed below) (stop (no_statement c.args.nesting (kind_at c.args.lexemes.now c.each.next) c.each-test.ensures.told none)) }

pub statements-returns-in_err-allow_deeper : goal.statements-returns-in_err-allow_deeper
statements-returns-in_err-allow_deeper t c =
    let begins = ap begins_statement (sym c.kind.ensures.exact) ∙ sym c.begins_statement.ensures ∙ c.if-not-begins_statement.false in
    refused c.from_residual.ensures.1 (λ below. on (c.each.invariant.passed below) (sink_expand c.in_err-allow_deeper.ensures.deep (first_statement c.args.nesting (kind_at c.args.lexemes.now c.each.next) begins)))

pub statements-returns-in_err-statement : goal.statements-returns-in_err-statement
statements-returns-in_err-statement t c =
    let begins = ap begins_statement (sym c.kind.ensures.exact) ∙ sym c.begins_statement.ensures ∙ c.if-not-begins_statement.false in
    refused c.from_residual-in_err-statement.ensures.1
    (λ below. on (c.each.invariant.passed below) (expand_deeper (first_statement c.args.nesting (kind_at c.args.lexemes.now c.each.next) begins) c.in_ok-allow_deeper.ensures.allowed (c.in_err-statement.ensures.follows _)))

pub statements-each-preserved : goal.statements-each-preserved
statements-each-preserved t c =
    let begins = ap begins_statement (sym c.kind.ensures.exact) ∙ sym c.begins_statement.ensures ∙ c.if-not-begins_statement.false in
    record {
      spelled = λ more after are. rw (c.in_ok-put.ensures, append_assoc)
          (c.each.invariant.spelled _ after (statements _ c.each-test.ensures.told c.in_ok-allow_deeper.ensures.allowed c.in_ok-statement.ensures.reads.0 are));
      passed = λ below. on (c.each.invariant.passed below) (expand_deeper (first_statement c.args.nesting (kind_at c.args.lexemes.now c.each.next) begins) c.in_ok-allow_deeper.ensures.allowed (pass c.in_ok-statement.ensures.follows (done refl)));
      from = omega (arith, c.each.invariant.from, c.in_ok-statement.ensures.reads.1.0);
      within = c.in_ok-statement.ensures.reads.1.1;
    }

pub statements-returns : goal.statements-returns
statements-returns t c = record {
  reads = (
    rw (c.from_vec.ensures, sym (append-nil c.each.statements.items)) (c.each.invariant.spelled [] (c.each.next + 1) (statements_end c.each-test.ensures.told.0 refl)),
    (omega (arith, c.each.invariant.from), omega (arith, c.each-test.ensures.told.1), c.sees.ensures.few),
  );
  follows = λ below. on (c.each.invariant.passed below) (read (ap (statements_move c.args.nesting) c.each-test.ensures.told.0) refl (done refl));
}

-- statements

pub statement-returns-then-begins_name : goal.statement-returns-then-begins_name
statement-returns-then-begins_name t c = record {
  reads = c.named_statement.ensures.reads;
  follows = λ below. name_step c.if-begins_name.ensures.told.0 (c.named_statement.ensures.follows below);
}

pub statement-returns-then-begins_word_shape : goal.statement-returns-then-begins_word_shape
statement-returns-then-begins_word_shape t c =
    let begins = ap begins_word_shape (sym c.kind.ensures.exact) ∙ sym c.begins_word_shape.ensures ∙ c.if-begins_word_shape.true in
    record {
      reads = c.shape_statement.ensures.reads;
      follows = λ below. shape_step begins (c.shape_statement.ensures.follows below);
    }

pub statement-returns-in_err-block : goal.statement-returns-in_err-block
statement-returns-in_err-block t c = refused c.from_residual.ensures.1 (λ below. block_step c.if-sees.ensures.told.0 (c.in_err-block.ensures.follows _))

pub statement-returns-then-sees : goal.statement-returns-then-sees
statement-returns-then-sees t c = record {
  reads = (block_statement c.in_ok-block.ensures.reads.0, c.in_ok-block.ensures.reads.1);
  follows = λ below. block_step c.if-sees.ensures.told.0 (c.in_ok-block.ensures.follows below);
}

pub statement-returns-then-sees-2 : goal.statement-returns-then-sees-2
statement-returns-then-sees-2 t c = record {
  reads = (empty_statement c.if-sees-2.ensures.told.0 refl, (omega arith, omega (arith, c.if-sees-2.ensures.told.1), c.sees.ensures.few));
  follows = λ below. empty_step c.if-sees-2.ensures.told.0 (done refl);
}

pub statement-keyword_statement-requires : goal.statement-keyword_statement-requires
statement-keyword_statement-requires t c =
    let shape = ap begins_word_shape (sym c.kind.ensures.exact) ∙ sym c.begins_word_shape.ensures ∙ c.if-begins_word_shape.false in
    (omega arith, (c.requires, (shape, c.if-begins_name.ensures.told.0, c.if-begins_name.ensures.told.1, c.if-sees.ensures.told, c.if-sees-2.ensures.told)))

pub statement-returns : goal.statement-returns
statement-returns t c = c.keyword_statement.ensures

pub keyword_statement-returns-then-sees_word : goal.keyword_statement-returns-then-sees_word
keyword_statement-returns-then-sees_word t c = c.if_statement.ensures

pub keyword_statement-returns-then-sees_word-2 : goal.keyword_statement-returns-then-sees_word-2
keyword_statement-returns-then-sees_word-2 t c = c.while_statement.ensures

pub keyword_statement-returns-then-sees_word-3 : goal.keyword_statement-returns-then-sees_word-3
keyword_statement-returns-then-sees_word-3 t c = c.for_statement.ensures

pub keyword_statement-returns-then-sees_word-4 : goal.keyword_statement-returns-then-sees_word-4
keyword_statement-returns-then-sees_word-4 t c =
    read_behind (λ below. return_step c.if-sees_word-4.ensures.told.0 (c.return_statement.ensures.follows below)) c.return_statement.ensures (omega arith)

pub keyword_statement-returns-then-sees_word-5 : goal.keyword_statement-returns-then-sees_word-5
keyword_statement-returns-then-sees_word-5 t c =
    read_behind (λ below. print_step c.if-sees_word-5.ensures.told.0 (c.print_statement.ensures.follows below)) c.print_statement.ensures (omega arith)

pub keyword_statement-returns-then-not-sees_word : goal.keyword_statement-returns-then-not-sees_word
keyword_statement-returns-then-not-sees_word t c = record {
  reads = tt;
  follows = λ below. no_step c.requires.other c.if-sees_word.ensures.told c.if-sees_word-2.ensures.told c.if-sees_word-3.ensures.told c.if-sees_word-4.ensures.told c.if-sees_word-5.ensures.told c.if-not-sees_word.ensures.told;
}

pub keyword_statement-returns-in_err-constant : goal.keyword_statement-returns-in_err-constant
keyword_statement-returns-in_err-constant t c =
    refused c.from_residual.ensures.1 (λ below. const_step c.if-not-sees_word.ensures.told.0 (c.in_err-constant.ensures.follows below))

pub keyword_statement-returns : goal.keyword_statement-returns
keyword_statement-returns t c =
    let ends = c.in_ok-constant.ensures.reads.1 in
    record {
      reads = (constant_of c.in_ok-constant-2.ensures c.in_ok-constant.ensures.reads.0, (omega (arith, ends.0), ends.1, ends.2));
      follows = λ below. const_step c.if-not-sees_word.ensures.told.0 (c.in_ok-constant.ensures.follows below);
    }

-- `if`

pub if_statement-returns-in_err-allow_deeper : goal.if_statement-returns-in_err-allow_deeper
if_statement-returns-in_err-allow_deeper t c = refused c.from_residual.ensures.1 (λ below. deep_if c.in_err-allow_deeper.ensures.deep c.requires.sees)

pub if_statement-returns-in_err-form : goal.if_statement-returns-in_err-form
if_statement-returns-in_err-form t c =
    refused c.from_residual-in_err-form.ensures.1 (λ below. if_step c.requires.sees c.in_ok-allow_deeper.ensures.allowed (c.in_err-form.ensures.follows _))

pub if_statement-returns : goal.if_statement-returns
if_statement-returns t c =
    let ends = c.in_ok-form.ensures.reads.1 in
    record {
      reads = (if_of c.requires.sees c.in_ok-form.ensures.reads.0, (omega (arith, ends.0), ends.1, ends.2));
      follows = λ below. if_step c.requires.sees c.in_ok-allow_deeper.ensures.allowed (c.in_ok-form.ensures.follows below);
    }

pub arms-returns-in_err-first : goal.arms-returns-in_err-first
arms-returns-in_err-first t c = refused c.from_residual.ensures.1 (λ below. c.in_err-first.ensures.follows _)

pub arms-each-init : goal.arms-each-init
arms-each-init t c = record {
  spelled = λ more otherwise after are. first_arm c.new-arms.ensures.items c.in_ok-put.ensures c.in_ok-first.ensures.reads.0 are;
  passed = λ below. c.in_ok-first.ensures.follows _;
  between = c.in_ok-first.ensures.reads.1;
}

pub arms-returns-in_err-last : goal.arms-returns-in_err-last
arms-returns-in_err-last t c =
    refused c.from_residual-in_err-last.ensures.1
    (λ below. on (c.each.invariant.passed below) (else_step c.each-test.ensures.told.0 c.if-not-sees_word.ensures.told (c.in_err-last.ensures.follows _)))

pub arms-returns-then-not-sees_word : goal.arms-returns-then-not-sees_word
arms-returns-then-not-sees_word t c =
    let ends = c.in_ok-last.ensures.reads.1 in
    record {
      reads = (
        all_arms c.from_vec-arms.ensures (ap (λ last. Some last) c.in_ok-last-2.ensures) (c.each.invariant.spelled [] _ _ (last_else c.each-test.ensures.told.0 c.if-not-sees_word.ensures.told c.requires.deeper c.in_ok-last.ensures.reads.0)),
        (omega (arith, c.each.invariant.between.0, ends.0), ends.1, ends.2),
      );
      follows = λ below. on (c.each.invariant.passed below) (else_step c.each-test.ensures.told.0 c.if-not-sees_word.ensures.told (c.in_ok-last.ensures.follows below));
    }

pub arms-returns-in_err-more : goal.arms-returns-in_err-more
arms-returns-in_err-more t c =
    refused c.from_residual-in_err-more.ensures.1
    (λ below. on (c.each.invariant.passed below) (else_if_step c.each-test.ensures.told.0 c.if-not-sees_word.ensures.told.0 (c.in_err-more.ensures.follows _)))

pub arms-each-preserved : goal.arms-each-preserved
arms-each-preserved t c =
    let ends = c.in_ok-more.ensures.reads.1 in
    record {
      spelled = λ more otherwise after are. next_arm _ more _ otherwise c.in_ok-put-2.ensures (c.each.invariant.spelled _ otherwise after (more_arms _ c.each-test.ensures.told.0 c.if-not-sees_word.ensures.told.0 c.in_ok-more.ensures.reads.0 are));
      passed = λ below. on (c.each.invariant.passed below) (else_if_step c.each-test.ensures.told.0 c.if-not-sees_word.ensures.told.0 (c.in_ok-more.ensures.follows _));
      between = (omega (arith, c.each.invariant.between.0, ends.0), ends.1, ends.2);
    }

pub arms-returns : goal.arms-returns
arms-returns t c = record {
  reads = (
    all_arms c.from_vec-arms-2.ensures refl (c.each.invariant.spelled [] None c.each.next (no_else_form c.each-test.ensures.told refl)),
    c.each.invariant.between,
  );
  follows = λ below. on (c.each.invariant.passed below) (expand (no_else c.args.nesting (kind_at c.args.lexemes.now c.each.next) c.each-test.ensures.told) (done refl));
}

-- `while` and `for`

pub while_statement-returns-in_err-allow_deeper : goal.while_statement-returns-in_err-allow_deeper
while_statement-returns-in_err-allow_deeper t c = refused c.from_residual.ensures.1 (λ below. deep_while c.in_err-allow_deeper.ensures.deep c.requires.sees)

pub while_statement-returns-then-not-sees : goal.while_statement-returns-then-not-sees
while_statement-returns-then-not-sees t c = record {
  reads = tt;
  follows = λ below. while_step c.requires.sees c.in_ok-allow_deeper.ensures.allowed (stop (no_bracket _ _ (kind_at c.args.lexemes.now (c.args.at + 1)) c.if-not-sees.ensures.told));
}

pub while_statement-returns-in_err-test : goal.while_statement-returns-in_err-test
while_statement-returns-in_err-test t c =
    refused c.from_residual-in_err-test.ensures.1
    (λ below. while_step c.requires.sees c.in_ok-allow_deeper.ensures.allowed (arm_step_two c.args.at c.if-not-sees.ensures.told.0 (c.in_err-test.ensures.follows _)))

pub while_statement-returns-in_err-body : goal.while_statement-returns-in_err-body
while_statement-returns-in_err-body t c =
    refused c.from_residual-in_err-body.ensures.1
    (λ below. while_step c.requires.sees c.in_ok-allow_deeper.ensures.allowed (arm_step_two c.args.at c.if-not-sees.ensures.told.0 (on (c.in_ok-test.ensures.follows _) (c.in_err-body.ensures.follows _))))

pub while_statement-returns : goal.while_statement-returns
while_statement-returns t c =
    let ends = c.in_ok-body.ensures.reads.1 in
    record {
      reads = (
        while_of c.in_ok-form.ensures c.requires.sees c.if-not-sees.ensures.told.0 c.in_ok-allow_deeper.ensures.allowed c.in_ok-test.ensures.reads.0 c.in_ok-body.ensures.reads.0,
        (omega (arith, c.in_ok-test.ensures.reads.1.0, ends.0), ends.1, ends.2),
      );
      follows = λ below. while_step c.requires.sees c.in_ok-allow_deeper.ensures.allowed (arm_step_two c.args.at c.if-not-sees.ensures.told.0 (on (c.in_ok-test.ensures.follows _) (c.in_ok-body.ensures.follows below)));
    }

pub for_statement-returns-in_err-allow_deeper : goal.for_statement-returns-in_err-allow_deeper
for_statement-returns-in_err-allow_deeper t c = refused c.from_residual.ensures.1 (λ below. deep_for c.in_err-allow_deeper.ensures.deep c.requires.sees)

pub for_statement-returns-in_err-head : goal.for_statement-returns-in_err-head
for_statement-returns-in_err-head t c =
    refused c.from_residual-in_err-head.ensures.1 (λ below. for_step c.requires.sees c.in_ok-allow_deeper.ensures.allowed (c.in_err-head.ensures.follows _))

pub for_statement-returns-in_err-body : goal.for_statement-returns-in_err-body
for_statement-returns-in_err-body t c =
    refused c.from_residual-in_err-body.ensures.1
    (λ below. for_step c.requires.sees c.in_ok-allow_deeper.ensures.allowed (on (c.in_ok-head.ensures.follows _) (c.in_err-body.ensures.follows _)))

pub for_statement-returns : goal.for_statement-returns
for_statement-returns t c =
    let ends = c.in_ok-body.ensures.reads.1 in
    record {
      reads = (
        for_of c.in_ok-form.ensures c.requires.sees c.in_ok-allow_deeper.ensures.allowed c.in_ok-head.ensures.reads.0 c.in_ok-body.ensures.reads.0,
        (omega (arith, c.in_ok-head.ensures.reads.1.0, ends.0), ends.1, ends.2),
      );
      follows = λ below. for_step c.requires.sees c.in_ok-allow_deeper.ensures.allowed (on (c.in_ok-head.ensures.follows _) (c.in_ok-body.ensures.follows below));
    }

-- want of memory

pub statements-returns-in_err-put : goal.statements-returns-in_err-put
statements-returns-in_err-put t c = no_memory _ c.from_residual-in_err-put.ensures.1

pub keyword_statement-returns-in_err-constant-2 : goal.keyword_statement-returns-in_err-constant-2
keyword_statement-returns-in_err-constant-2 t c = no_memory _ c.from_residual-in_err-constant-2.ensures.1

pub arm-returns-in_err-body-2 : goal.arm-returns-in_err-body-2
arm-returns-in_err-body-2 t c = no_memory _ c.from_residual-in_err-body-2.ensures.1

pub arms-returns-in_err-put : goal.arms-returns-in_err-put
arms-returns-in_err-put t c = no_memory _ c.from_residual-in_err-put.ensures.1

pub arms-returns-in_err-last-2 : goal.arms-returns-in_err-last-2
arms-returns-in_err-last-2 t c = no_memory _ c.from_residual-in_err-last-2.ensures.1

pub arms-returns-in_err-put-2 : goal.arms-returns-in_err-put-2
arms-returns-in_err-put-2 t c = no_memory _ c.from_residual-in_err-put-2.ensures.1

pub while_statement-returns-in_err-form : goal.while_statement-returns-in_err-form
while_statement-returns-in_err-form t c = no_memory _ c.from_residual-in_err-form.ensures.1

pub for_statement-returns-in_err-form : goal.for_statement-returns-in_err-form
for_statement-returns-in_err-form t c = no_memory _ c.from_residual-in_err-form.ensures.1
