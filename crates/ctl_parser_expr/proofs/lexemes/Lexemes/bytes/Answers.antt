use Rattle.std.proofs.Common.{ap, sym, ◌∙◌}
use Rattle.std.specs.Option.{option_copied}
use Rattle.ctl_tree.specs.Lexemes.{bytes_at}
use Rattle.ctl_parser_expr.proofs.Places.{bytes_at_some, bytes_at_none}
use Rattle.ctl_parser_expr.proofs.lexemes.Lexemes.bytes.Goals as goal

pub returns-in-None : goal.returns-in-None
returns-in-None c =
    bytes_at_none c.self.inside.source.now c.self.inside.tokens.now c.args.place (sym c.at.ensures ∙ ap option_copied c.in-None.is)
    ∙ ap (λ lexemes. bytes_at lexemes c.args.place) c.self.view_is

pub returns-in-Some : goal.returns-in-Some
returns-in-Some c =
    bytes_at_some c.self.inside.source.now c.self.inside.tokens.now c.args.place c.in-Some.token.now (sym c.at.ensures ∙ ap option_copied c.in-Some.is)
    ∙ ap (λ lexemes. bytes_at lexemes c.args.place) c.self.view_is
