use Rattle.std.proofs.Common.{ℕ, true, false, List, [], ◌∷◌, ◌++◌, ◌≡◌, Option, Some, None, rules, refl, ap, sym, ◌∙◌, subst}
use Rattle.std.proofs.lemmas.Bool.{false≢true}
use Rattle.command_words.specs.Command.{command_of, named}
use Rattle.render_command.specs.Verdict.{Plan, plan_for}
use Rattle.render_command.proofs.Ended.{refused_ends, no_plan, stopped_ends, stopped_counted, stopped_served, done_ends, fault_ends, fault_served}
use Rattle.render_command.proofs.order.carry_out.Goals as goal

pub returns-in_default-clause-ends : goal.returns-in_default-clause-ends
returns-in_default-clause-ends g c = λ held told.
    let none : None ≡ command_of c.args.words.now = search rules in
    refused_ends held _ c.args.module_path.now c.args.words.now _ none told

pub returns-in-Err-clause-ends : goal.returns-in-Err-clause-ends
returns-in-Err-clause-ends g c = λ held told.
    stopped_ends held _ c.args.module_path.now c.args.words.now (named c.in-Some.command) _ _ c.in-Err.status _ _ c.in-Some.ensures (c.in-Err.ensures.does held told) c.in-Err.ensures.counted (c.in-Err.ensures.reads.held_stays ∙ told)

pub returns-in-Err-clause-counted : goal.returns-in-Err-clause-counted
returns-in-Err-clause-counted g c = stopped_counted c.in-Err.status _ _ _ _ c.in-Err.ensures.counted c.in-Err.ensures.reads.lost_stays

pub returns-in-Err-clause-served : goal.returns-in-Err-clause-served
returns-in-Err-clause-served g c = λ held told between plan j s.
    stopped_served c.one_verdict.ensures held c.args.module_path.now c.args.words.now (named c.in-Some.command) _ between _ plan c.in-Err.status _ _ c.in-Some.ensures (c.in-Err.ensures.does held told) c.in-Err.ensures.counted
    (c.in-Err.ensures.served plan.destination _ s) j

pub returns-in-Ok-store-clause-ends : goal.returns-in-Ok-store-clause-ends
returns-in-Ok-store-clause-ends g c = λ held told.
    done_ends _ held _ _ c.args.module_path.now c.args.words.now (named c.in-Some.command) _ _ _ (plan_for c.in-Some.command.destination.now c.in-Ok.canvas) _ _ _ (c.in-Ok.ensures.reads.held_stays ∙ told) c.in-Some.ensures
    (c.in-Ok.ensures.does held told) c.in-Ok-store.ensures.stored c.as_str.ensures c.bytes.ensures c.in-Ok-store.ensures.asks

pub returns-clause-ends : goal.returns-clause-ends
returns-clause-ends g c = λ held told.
    fault_ends _ held _ _ c.args.module_path.now c.args.words.now (named c.in-Some.command) _ _ _ (plan_for c.in-Some.command.destination.now c.in-Ok.canvas) _ _ _ (c.in-Ok.ensures.reads.held_stays ∙ told) c.in-Some.ensures
    (c.in-Ok.ensures.does held told) c.in-Err-store.ensures.stored c.as_str.ensures c.bytes.ensures c.in-Err-store.ensures.asks

pub returns-clause-served : goal.returns-clause-served
returns-clause-served g c = λ held told between other j s.
    let plan : Plan = plan_for c.in-Some.command.destination.now c.in-Ok.canvas in
    fault_served c.one_verdict.ensures held c.args.module_path.now c.args.words.now (named c.in-Some.command) _ _ between plan other _ _ _ _ c.in-Some.ensures (c.in-Ok.ensures.does held told)
    c.in-Ok.ensures.reads.serves_stays (λ n s h. false≢true (c.in-Err-store.ensures.served n s h)) c.as_str.ensures c.bytes.ensures j s
