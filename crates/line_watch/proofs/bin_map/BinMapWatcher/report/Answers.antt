use Rattle.std.proofs.Common.{ℕ, ◌≡◌, ap, sym, ◌∙◌, set, get_or, nat_cmp, arith}
use Rattle.std.specs.Prelude.{Option}
use Rattle.std.specs.BTreeMap.{get}
use Rattle.std.specs.Map.{values_of}
use Rattle.std.specs.Option.{unwrap_or}
use Rattle.std.proofs.lemmas.List.{drop_all, ext_get_or, length-set}
use Rattle.std.proofs.lemmas.List.Edits.{fill_by_more}
use Rattle.line_watch.proofs.Placed.{placed-found}
use Rattle.line_watch.proofs.bin_map.BinMapWatcher.report.Goals as goal

pub places-preserved : goal.places-preserved
places-preserved c = record {
  many = length-set c.places.numbers c.from.result c.count_at.result ∙ c.places.invariant.many;
  so_far = λ k h.
      ap (λ (i : ℕ). get_or (set c.places.numbers i c.count_at.result) k 0) c.from.ensures
      ∙ ap (λ (n : ℕ). get_or (set c.places.numbers c.places.place n) k 0) c.count_at.ensures
      ∙ fill_by_more (λ i. unwrap_or (get nat_cmp c.self.inside.counts i) 0) c.places.numbers c.places.place 0
      (omega (arith, c.places.invariant.many, c.places-test.true)) c.places.invariant.so_far k h;
}

pub returns-clause-numbers : goal.returns-clause-numbers
returns-clause-numbers c =
    let whole : c.places.numbers ≡ values_of c.self.inside.counts.entries =
    ext_get_or 0 c.places.numbers (values_of c.self.inside.counts.entries) (c.places.invariant.many ∙ sym c.self.invariant.many) (λ i h.
    c.places.invariant.so_far i (omega (arith, h, c.places.invariant.many, c.places-test.false))
    ∙ ap (λ (o : Option ℕ). unwrap_or o 0) (placed-found c.self.inside.counts.entries i c.self.invariant (omega (arith, h, c.places.invariant.many)))) in
    whole ∙ c.self.view_is

pub returns-clause-padded : goal.returns-clause-padded
returns-clause-padded c = drop_all 48 c.places.numbers (omega (arith, c.places.invariant.many))
