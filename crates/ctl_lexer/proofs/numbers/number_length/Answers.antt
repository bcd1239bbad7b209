-- Goals of `numbers::number_length`.
use Rattle.std.proofs.Common.{◌≡◌, ◌-◌, slice_index, arith, sym, ◌∙◌, inl, inr, true, subst, ℕ, Bool}
use Rattle.std.proofs.lemmas.Bool.{cases_lt}
use Rattle.ctl_tree.specs.TokenBytes.{in_number, goes_on_at}
use Rattle.ctl_lexer.proofs.numbers.number_length.Goals as goal

pub loop-n-preserved : goal.loop-n-preserved
loop-n-preserved c = λ i low high. elim (cases_lt i c.loop-n.n) [
  | inl before ↦ c.loop-n.invariant i low before
  | inr here ↦
      let e : c.loop-n.n ≡ i = omega arith in
      let P : ℕ → Type 0 = λ k. goes_on_at c.args.bytes.now k ≡ true in
      let Q : Bool → Type 0 = λ hexadecimal. in_number hexadecimal (slice_index c.args.bytes.now (c.loop-n.n - 1)) (slice_index c.args.bytes.now c.loop-n.n) ≡ true in
      subst P e (subst Q c.begins_hexadecimal-hexadecimal.ensures (sym c.in_number.ensures ∙ c.if-not-in_number.false))
]
