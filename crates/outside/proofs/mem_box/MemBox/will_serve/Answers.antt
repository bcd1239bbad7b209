use Rattle.std.proofs.Common.{◌≡◌, [], sym, ◌∙◌, arith}
use Rattle.std.specs.Option.{option_map}
use Rattle.std.proofs.lemmas.List.{nil_from_length}
use Rattle.std.proofs.lemmas.Bool.Decides.{nat_tests}
use Rattle.outside.proofs.Keys.{room_decides}
use Rattle.outside.proofs.mem_box.MemBox.will_serve.Goals as goal

pub returns-then-is_empty : goal.returns-then-is_empty
returns-then-is_empty c =
    let inside = c.self.inside in
    let d = room_decides (option_map (λ r. (r.name, r.most)) inside.room) c.args.name.now c.args.bytes in
    let empty : inside.failing.items ≡ [] = grind (arith, nil_from_length, nat_tests) in
    rw (← c.self.view_is) (λ t. (empty, d.0 (sym c.suffices.ensures ∙ t)), λ s. c.suffices.ensures ∙ d.1 s.1)
