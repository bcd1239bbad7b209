use Rattle.std.proofs.Common.{ℕ, ◌<◌, ◌^◌, ◌∙◌, sym, arith}
use Rattle.std.proofs.lemmas.List.{take_rest}
use Rattle.std.proofs.lemmas.List.Elements.{All-drop}
use Rattle.line_watch.proofs.Cut.{after_line-more, after_line-short}
use Rattle.line_watch.proofs.pixels.see_line.Goals as goal

pub pixels-preserved : goal.pixels-preserved
pixels-preserved g c = record {
  fit = rw (take_rest c.pixels.rest.now 3) (All-drop (λ (x : ℕ). x < 2 ^ c.args.depth) 3 c.pixels.rest.now c.pixels.invariant.fit);
  kind = c.see.ensures.kind ∙ c.pixels.invariant.kind;
  so_far = after_line-more _ _ _ c.pixels.rest.now _ _ _ (omega arith) c.see.ensures.kind c.see.ensures.numbers c.pixels.invariant.so_far;
}

pub returns-clause-numbers : goal.returns-clause-numbers
returns-clause-numbers g c = sym (after_line-short _ _ _ c.pixels.rest.now (omega arith)) ∙ c.pixels.invariant.so_far
