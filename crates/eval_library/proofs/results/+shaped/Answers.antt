use Rattle.std.proofs.Common.{rules, ◌≡◌, ◌∷◌, drop}
use Rattle.eval_library.proofs.FilledIn.{shaped_list}
use Rattle.eval_library.proofs.results.+shaped.Goals as goal

pub shaped-returns-in_ok-shaped_all-in-Some : goal.shaped-returns-in_ok-shaped_all-in-Some
shaped-returns-in_ok-shaped_all-in-Some t c =
    let e : c.args.sizes.now ≡ c.in-Some.size.now ∷ c.in-Some.rest.now = search rules in
    shaped_list c.args.sizes.now c.in-Some.size.now c.in-Some.rest.now c.args.kind (drop c.args.at.now c.args.words.now) (drop c.shaped_all.new.at c.args.words.now) c.in_ok-shaped_all-in-Some.field-0 e c.in_ok-shaped_all-in-Some.ensures
