use Rattle.std.proofs.Common.{ℕ, List, [], ◌∷◌, ap, ◌∙◌}
use Rattle.line_watch.specs.Tally.{after_line}
use Rattle.line_watch.proofs.Seen.{clip-seen}
use Rattle.line_watch.proofs.clip_watch.ClipWatchSeesPixels.see.Goals as goal

pub returns-clause-numbers : goal.returns-clause-numbers
returns-clause-numbers c =
    clip-seen _ _ _ _ _ _ _ _ _ _ _ _ _ _ _ _
    c.with-self-inside.ensures.low c.with-self-inside.ensures.high
    c.with-self-inside-2.ensures.low c.with-self-inside-2.ensures.high
    c.with-self-inside-3.ensures.low c.with-self-inside-3.ensures.high
    ∙ ap (λ (ns : List ℕ). after_line 2 c.args.depth ns (c.args.red ∷ c.args.green ∷ c.args.blue ∷ [])) c.self.view_is
