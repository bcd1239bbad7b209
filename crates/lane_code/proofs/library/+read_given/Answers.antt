use Rattle.std.proofs.Common.{◌≡◌, ◌∷◌, ◌++◌, List, ℤ, not, sym, ap, ◌∙◌, append_assoc}
use Rattle.std.specs.List.{filter}
use Rattle.ctl_stdlib.specs.Shapes.{is_table}
use Rattle.lane_code.specs.Slots.{words_from}
use Rattle.lane_code.specs.Instructions.{given}
use Rattle.lane_code.specs.LaneMeaning.{words_of}
use Rattle.lane_code.specs.Calling.{counts}
use Rattle.lane_code.proofs.Reading.{take_given, count_none, count_all, other, same}
use Rattle.lane_code.proofs.library.+read_given.Goals as goal

pub returns-then-is_table-table : goal.returns-then-is_table-table
returns-then-is_table-table t c =
    let ws = words_of c.args.lane.now in
    let count = counts c.args.table c.args.sizes.now in
    let p : c.args.params.now ≡ c.in-Some.p.now ∷ c.in-Some.later.now = c.in-Some.ensures.cases.0 in
    let s : c.args.args.now ≡ c.in-Some-split_first.s.now ∷ c.in-Some-split_first.more.now = c.in-Some-split_first.ensures.cases.0 in
    let o = c.if-p.false in
    let k : is_table c.in-Some.p.now.shape ≡ not c.args.table = sym c.is_table.ensures ∙ other c.is_table.result c.args.table c.if-is_table-table.true in
    c.in_ok-read_given-2.ensures ∙ ap (λ (xs : List ℤ). c.args.words.now.items ++ xs) (sym (take_given ws count c.args.params.now c.in-Some.p.now c.in-Some.later.now c.args.args.now c.in-Some-split_first.s.now c.in-Some-split_first.more.now 0 p s o (sym (count_none c.args.table c.args.sizes.now c.in-Some.p.now k))))

pub returns : goal.returns
returns t c =
    let ws = words_of c.args.lane.now in
    let count = counts c.args.table c.args.sizes.now in
    let p : c.args.params.now ≡ c.in-Some.p.now ∷ c.in-Some.later.now = c.in-Some.ensures.cases.0 in
    let s : c.args.args.now ≡ c.in-Some-split_first.s.now ∷ c.in-Some-split_first.more.now = c.in-Some-split_first.ensures.cases.0 in
    let o = c.if-p.false in
    let k : is_table c.in-Some.p.now.shape ≡ c.args.table = sym c.is_table.ensures ∙ same c.is_table.result c.args.table c.if-is_table-table.false in
    let m = c.argument_words.result in
    let rest = given ws count (filter (λ p. not p.is_output) c.in-Some.later.now) c.in-Some-split_first.more.now in
    c.in_ok-read_given-3.ensures
    ∙ ap (λ (xs : List ℤ). xs ++ rest) (c.in_ok-read.ensures)
    ∙ append_assoc c.args.words.now.items (words_from ws c.in-Some-split_first.s.now m) rest
    ∙ ap (λ (xs : List ℤ). c.args.words.now.items ++ xs) (sym (take_given ws count c.args.params.now c.in-Some.p.now c.in-Some.later.now c.args.args.now c.in-Some-split_first.s.now c.in-Some-split_first.more.now m p s o (c.argument_words.ensures.value ∙ count_all c.args.table c.args.sizes.now c.in-Some.p.now k)))
