use Rattle.std.proofs.Common.{arith, [], refl, ap, sym, ◌∙◌, append_assoc, append-nil}
use Rattle.ctl_tree.specs.Modules.{namespace, struct_definition, constant_definition, function_definition, definitions, definitions_end as definitions_end_form, ends}
use Rattle.grammar_machine.specs.Machine.{begins_definition}
use Rattle.ctl_parser.proofs.MovesOfDefinitions.{first_definition, no_definition, definitions_end, function_left}
use Rattle.ctl_parser.proofs.StepsOfDefinitions.{namespace_step, const_step}
use Rattle.ctl_parser.proofs.Ways.{two, three, done, on, pass, expand, expand_deeper, sign, word, stop, sink_here, refused}
use Rattle.ctl_parser.proofs.definitions.+definition.Goals as goal

-- namespaces

pub namespace-returns-in_err-name : goal.namespace-returns-in_err-name
namespace-returns-in_err-name t c = refused c.from_residual.ensures.1 (λ below. namespace_step c.requires.sees (c.in_err-name.ensures.fails _))

pub namespace-returns-in_err-expect : goal.namespace-returns-in_err-expect
namespace-returns-in_err-expect t c =
    refused c.from_residual-in_err-expect.ensures.1 (λ below. namespace_step c.requires.sees (word c.in_ok-name.ensures.sees.0 (two _) (c.in_err-expect.ensures.fails _)))

pub namespace-returns-in_err-definitions : goal.namespace-returns-in_err-definitions
namespace-returns-in_err-definitions t c =
    refused c.from_residual-in_err-definitions.ensures.1
    (λ below. namespace_step c.requires.sees (word c.in_ok-name.ensures.sees.0 (two _) (sign refl c.in_ok-expect.ensures.sees.0 (three _) (c.in_err-definitions.ensures.follows _))))

pub namespace-returns-in_err-expect-2 : goal.namespace-returns-in_err-expect-2
namespace-returns-in_err-expect-2 t c =
    refused c.from_residual-in_err-expect-2.ensures.1
    (λ below. namespace_step c.requires.sees (word c.in_ok-name.ensures.sees.0 (two _) (sign refl c.in_ok-expect.ensures.sees.0 (three _)
    (pass c.in_ok-definitions.ensures.follows (c.in_err-expect-2.ensures.fails _)))))

pub namespace-returns : goal.namespace-returns
namespace-returns t c = record {
  reads = (
    namespace _ c.requires.sees c.in_ok-name.ensures.sees.0 c.in_ok-expect.ensures.sees.0 c.in_ok-definitions.ensures.reads.0 c.in_ok-expect-2.ensures.sees.0 refl,
    (omega (arith, c.in_ok-definitions.ensures.reads.1.0), omega (arith, c.in_ok-expect-2.ensures.sees.1), c.requires.few),
  );
  follows = λ below. namespace_step c.requires.sees (word c.in_ok-name.ensures.sees.0 (two _) (sign refl c.in_ok-expect.ensures.sees.0 (three _)
      (pass c.in_ok-definitions.ensures.follows (sign refl c.in_ok-expect-2.ensures.sees.0 refl (done refl)))));
}

-- definitions

pub definition-returns-in_err-namespace : goal.definition-returns-in_err-namespace
definition-returns-in_err-namespace t c = refused c.from_residual.ensures.1 c.in_err-namespace.ensures.follows

pub definition-returns-then-sees_word : goal.definition-returns-then-sees_word
definition-returns-then-sees_word t c = record { reads = c.in_ok-namespace.ensures.reads; follows = c.in_ok-namespace.ensures.follows }

pub definition-returns-in_err-structure : goal.definition-returns-in_err-structure
definition-returns-in_err-structure t c = refused c.from_residual-in_err-structure.ensures.1 c.in_err-structure.ensures.follows

pub definition-returns-then-sees_word-2 : goal.definition-returns-then-sees_word-2
definition-returns-then-sees_word-2 t c = record { reads = (struct_definition c.in_ok-structure.ensures.reads.0, c.in_ok-structure.ensures.reads.1); follows = c.in_ok-structure.ensures.follows }

pub definition-returns-in_err-constant : goal.definition-returns-in_err-constant
definition-returns-in_err-constant t c =
    refused c.from_residual-in_err-constant.ensures.1 (λ below. const_step c.if-sees_word-3.ensures.told.0 (c.in_err-constant.ensures.follows below))

pub definition-returns-then-sees_word-3 : goal.definition-returns-then-sees_word-3
definition-returns-then-sees_word-3 t c =
    let ends = c.in_ok-constant.ensures.reads.1 in
    record {
      reads = (constant_definition c.in_ok-constant.ensures.reads.0, (omega (arith, ends.0), ends.1, ends.2));
      follows = λ below. const_step c.if-sees_word-3.ensures.told.0 (c.in_ok-constant.ensures.follows below);
    }

pub definition-function-requires-clause-begins : goal.definition-function-requires-clause-begins
definition-function-requires-clause-begins t c = function_left _ c.if-sees_word.ensures.told c.if-sees_word-2.ensures.told c.if-sees_word-3.ensures.told c.requires.begins

pub definition-returns-in_err-function : goal.definition-returns-in_err-function
definition-returns-in_err-function t c = refused c.from_residual-in_err-function.ensures.1 c.in_err-function.ensures.follows

pub definition-returns : goal.definition-returns
definition-returns t c = record { reads = (function_definition c.in_ok-function.ensures.reads.0, c.in_ok-function.ensures.reads.1); follows = c.in_ok-function.ensures.follows }

pub definitions-each-init : goal.definitions-each-init
definitions-each-init t c = record {
  spelled = λ more after are. rw c.new-definitions.ensures.items are;
  passed = λ below. done refl;
  from = omega arith;
  within = c.requires.within;
}

pub definitions-returns-then-not-begins_definition : goal.definitions-returns-then-not-begins_definition
definitions-returns-then-not-begins_definition t c =
    let bracket = ap ends (sym c.kind.ensures.exact) ∙ sym c.ends.ensures ∙ c.each-test.true in
    let none = ap begins_definition (sym c.kind-in-each.ensures.exact) ∙ sym c.begins_definition.ensures ∙ c.if-not-begins_definition.true in
    record { reads = tt; follows = λ below. on (c.each.invariant.passed below) (stop (no_definition _ _ bracket none)) }

pub definitions-returns-then-nesting-gt-NESTING : goal.definitions-returns-then-nesting-gt-NESTING
definitions-returns-then-nesting-gt-NESTING t c =
    let bracket = ap ends (sym c.kind.ensures.exact) ∙ sym c.ends.ensures ∙ c.each-test.true in
    let some = ap begins_definition (sym c.kind-in-each.ensures.exact) ∙ sym c.begins_definition.ensures ∙ c.if-not-begins_definition.false in
    record { reads = tt; follows = λ below. on (c.each.invariant.passed below) (sink_here c.if-nesting-gt-NESTING.true (first_definition _ _ bracket some)) }

pub definitions-returns-in_err-definition : goal.definitions-returns-in_err-definition
definitions-returns-in_err-definition t c =
    let bracket = ap ends (sym c.kind.ensures.exact) ∙ sym c.ends.ensures ∙ c.each-test.true in
    let some = ap begins_definition (sym c.kind-in-each.ensures.exact) ∙ sym c.begins_definition.ensures ∙ c.if-not-begins_definition.false in
    refused c.from_residual.ensures.1
    (λ below. on (c.each.invariant.passed below) (expand_deeper (first_definition _ _ bracket some) (omega (arith, c.if-nesting-gt-NESTING.false)) (c.in_err-definition.ensures.follows _)))

pub definitions-each-preserved : goal.definitions-each-preserved
definitions-each-preserved t c =
    let bracket = ap ends (sym c.kind.ensures.exact) ∙ sym c.ends.ensures ∙ c.each-test.true in
    let some = ap begins_definition (sym c.kind-in-each.ensures.exact) ∙ sym c.begins_definition.ensures ∙ c.if-not-begins_definition.false in
    record {
      spelled = λ more after are. rw (c.in_ok-put.ensures, append_assoc) (c.each.invariant.spelled _ after (definitions _ (omega (arith, c.if-nesting-gt-NESTING.false)) c.in_ok-definition.ensures.reads.0 are));
      passed = λ below. on (c.each.invariant.passed below) (expand_deeper (first_definition _ _ bracket some) (omega (arith, c.if-nesting-gt-NESTING.false)) (pass c.in_ok-definition.ensures.follows (done refl)));
      from = omega (arith, c.each.invariant.from, c.in_ok-definition.ensures.reads.1.0);
      within = c.in_ok-definition.ensures.reads.1.1;
    }

pub definitions-returns : goal.definitions-returns
definitions-returns t c =
    let ended = ap ends (sym c.kind.ensures.exact) ∙ sym c.ends.ensures ∙ c.each-test.false in
    record {
      reads = (
        rw (c.from_vec.ensures, sym (append-nil c.each.definitions.items)) (c.each.invariant.spelled [] c.each.next (definitions_end_form ended refl)),
        (c.each.invariant.from, c.each.invariant.within, c.kind.ensures.few),
      );
      follows = λ below. on (c.each.invariant.passed below) (expand (definitions_end _ _ ended) (done refl));
    }
