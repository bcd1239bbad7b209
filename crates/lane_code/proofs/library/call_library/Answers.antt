use Rattle.std.proofs.Common.{◌∷◌, ◌++◌, ◌∙◌, [], List, ℤ, true, false, not, ap, arith}
use Rattle.std.specs.List.{filter}
use Rattle.ctl_stdlib.specs.declared.row.Param.{Param}
use Rattle.lane_code.specs.Calling.{counts}
use Rattle.std.proofs.lemmas.List.{length-take}
use Rattle.ctl_stdlib.specs.Rows.{row}
use Rattle.ctl_stdlib.specs.Shapes.{filled_words}
use Rattle.lane_code.specs.Instructions.{given, table_of, rest_of}
use Rattle.lane_code.specs.LaneMeaning.{words_of}
use Rattle.lane_code.proofs.Fitting.{row_fits}
use Rattle.lane_code.proofs.Reading.{fits_same}
use Rattle.lane_code.proofs.library.call_library.Goals as goal

pub call-requires : goal.call-requires
call-requires c =
    let ws = words_of c.args.lane.now in
    let r = row c.args.id in
    let few = c.filled_words-filled.ensures.few in
    let cut = length-take c.filled_words-filled.result (c.from_raw-out.result ∷ c.from_raw-out.result ∷ c.from_raw-out.result ∷ c.from_raw-out.result ∷ c.from_raw-out.result ∷ c.from_raw-out.result ∷ c.from_raw-out.result ∷ c.from_raw-out.result ∷ c.from_raw-out.result ∷ c.from_raw-out.result ∷ c.from_raw-out.result ∷ c.from_raw-out.result ∷ c.from_raw-out.result ∷ c.from_raw-out.result ∷ c.from_raw-out.result ∷ c.from_raw-out.result ∷ []) in
    let value = c.filled_words-filled.ensures.value in
    fits_same r c.args.sizes.now _ (table_of ws r c.args.sizes.now c.args.args.now) _ (rest_of ws r c.args.args.now) _ (filled_words r) (c.as_slice.ensures.value ∙ (c.in_ok-read_given.ensures ∙ (ap (λ (xs : List ℤ). xs ++ given ws (counts true c.args.sizes.now) (filter (λ p. not p.is_output) c.params.result.now) c.args.args.now) c.new-table.ensures.items ∙ ap (λ (ps : List Param). given ws (counts true c.args.sizes.now) (filter (λ p. not p.is_output) ps) c.args.args.now) c.params.ensures))) (c.as_slice-2.ensures.value ∙ (c.in_ok-read_given-2.ensures ∙ (ap (λ (xs : List ℤ). xs ++ given ws (counts false c.args.sizes.now) (filter (λ p. not p.is_output) c.params-2.result.now) c.args.args.now) c.new-rest.ensures.items ∙ ap (λ (ps : List Param). given ws (counts false c.args.sizes.now) (filter (λ p. not p.is_output) ps) c.args.args.now) c.params-2.ensures))) (omega arith) (row_fits ws c.args.id c.args.sizes.now c.args.args.now c.requires.fits)
