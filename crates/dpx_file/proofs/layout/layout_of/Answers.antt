use Rattle.std.proofs.Common.{sym, ◌∙◌, refl}
use Rattle.std.proofs.lemmas.Bool.{ne_eqb}
use Rattle.dpx_file.specs.Reading.{layout_of}
use Rattle.dpx_file.proofs.Sizes.{IsImageSize-from_test}
use Rattle.dpx_file.proofs.layout.layout_of.Goals as goal

pub returns-then-not-is_size-clause-exact : goal.returns-then-not-is_size-clause-exact
unfolding layout_of
returns-then-not-is_size-clause-exact c =
    rw (sym c.is_unset.ensures ∙ c.if-not-is_unset.false, sym c.is_unset_short.ensures ∙ c.if-not-is_unset_short.false, c.if-h-ne1.false, sym c.is_size.ensures ∙ c.if-not-is_size.true) refl

pub returns-then-not-is_unset-2-clause-exact : goal.returns-then-not-is_unset-2-clause-exact
unfolding layout_of
returns-then-not-is_unset-2-clause-exact c =
    rw (
      sym c.is_unset.ensures ∙ c.if-not-is_unset.false,
      sym c.is_unset_short.ensures ∙ c.if-not-is_unset_short.false,
      c.if-h-ne1.false,
      sym c.is_size.ensures ∙ c.if-not-is_size.false,
      sym c.is_unset-2.ensures ∙ c.if-not-is_unset-2.true,
    ) refl

pub returns-then-h-ne-RGB-clause-exact : goal.returns-then-h-ne-RGB-clause-exact
unfolding layout_of
returns-then-h-ne-RGB-clause-exact c =
    rw (
      sym c.is_unset.ensures ∙ c.if-not-is_unset.false,
      sym c.is_unset_short.ensures ∙ c.if-not-is_unset_short.false,
      c.if-h-ne1.false,
      sym c.is_size.ensures ∙ c.if-not-is_size.false,
      sym c.is_unset-2.ensures ∙ c.if-not-is_unset-2.false,
      ne_eqb _ _ c.if-h-ne-RGB.true,
    ) refl

pub returns-then-not-is_depth-clause-exact : goal.returns-then-not-is_depth-clause-exact
unfolding layout_of
returns-then-not-is_depth-clause-exact c =
    rw (
      sym c.is_unset.ensures ∙ c.if-not-is_unset.false,
      sym c.is_unset_short.ensures ∙ c.if-not-is_unset_short.false,
      c.if-h-ne1.false,
      sym c.is_size.ensures ∙ c.if-not-is_size.false,
      sym c.is_unset-2.ensures ∙ c.if-not-is_unset-2.false,
      c.if-h-ne-RGB.false,
      sym c.is_depth.ensures ∙ c.if-not-is_depth.true,
    ) refl

pub returns-then-not-is_packing-clause-exact : goal.returns-then-not-is_packing-clause-exact
unfolding layout_of
returns-then-not-is_packing-clause-exact c =
    rw (
      sym c.is_unset.ensures ∙ c.if-not-is_unset.false,
      sym c.is_unset_short.ensures ∙ c.if-not-is_unset_short.false,
      c.if-h-ne1.false,
      sym c.is_size.ensures ∙ c.if-not-is_size.false,
      sym c.is_unset-2.ensures ∙ c.if-not-is_unset-2.false,
      c.if-h-ne-RGB.false,
      sym c.is_depth.ensures ∙ c.if-not-is_depth.false,
      sym c.is_packing.ensures ∙ c.if-not-is_packing.true,
    ) refl

pub returns-then-not-is_unset_short-2-clause-exact : goal.returns-then-not-is_unset_short-2-clause-exact
unfolding layout_of
returns-then-not-is_unset_short-2-clause-exact c =
    rw (
      sym c.is_unset.ensures ∙ c.if-not-is_unset.false,
      sym c.is_unset_short.ensures ∙ c.if-not-is_unset_short.false,
      c.if-h-ne1.false,
      sym c.is_size.ensures ∙ c.if-not-is_size.false,
      sym c.is_unset-2.ensures ∙ c.if-not-is_unset-2.false,
      c.if-h-ne-RGB.false,
      sym c.is_depth.ensures ∙ c.if-not-is_depth.false,
      sym c.is_packing.ensures ∙ c.if-not-is_packing.false,
      sym c.is_unset_short-2.ensures ∙ c.if-not-is_unset_short-2.true,
    ) refl

pub returns-clause-exact : goal.returns-clause-exact
unfolding layout_of
returns-clause-exact c =
    rw (
      sym c.is_unset.ensures ∙ c.if-not-is_unset.false,
      sym c.is_unset_short.ensures ∙ c.if-not-is_unset_short.false,
      c.if-h-ne1.false,
      sym c.is_size.ensures ∙ c.if-not-is_size.false,
      sym c.is_unset-2.ensures ∙ c.if-not-is_unset-2.false,
      c.if-h-ne-RGB.false,
      sym c.is_depth.ensures ∙ c.if-not-is_depth.false,
      sym c.is_packing.ensures ∙ c.if-not-is_packing.false,
      sym c.is_unset_short-2.ensures ∙ c.if-not-is_unset_short-2.false,
      c.start_of_pixels.ensures,
      c.padding_of.ensures,
    ) refl

pub returns-clause-size : goal.returns-clause-size
returns-clause-size c = IsImageSize-from_test _ _ (sym c.is_size.ensures ∙ c.if-not-is_size.false)

pub returns-clause-depth : goal.returns-clause-depth
returns-clause-depth c = sym c.is_depth.ensures ∙ c.if-not-is_depth.false
