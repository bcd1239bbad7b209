-- The words of a part are a stretch of the words of the whole.
use Rattle.std.proofs.Common.{◌≡◌, ℕ, zero, suc, ℤ, ◌+◌, List, [], ◌∷◌, ◌++◌, take, length, slice_get, slice_set, Option, Some, None, refl, ap, sym, ◌∙◌}
use Rattle.std.proofs.lemmas.List.{length-append, append_assoc, append-nil}
use Rattle.ctl_types.specs.declared.value.Value.{Value, roll-Value, out-Value}
use Rattle.ctl_types.specs.declared.value.Value.TheOpen as layer
use Rattle.ctl_types.specs.declared.value.Value.TheOpen.{Value-F}
use Rattle.ctl_types.specs.declared.value.Value.TheFolds.{fold-roll-Value, fold_out-Value}
use Rattle.ctl_types.specs.Values.{flat, flat_step, flat_all, part_in, part_of, part_at, with_in, with_part, put_at, parts_in, parts_of}
use Rattle.ctl_types.specs.Laws.{Stretch}
use Rattle.ctl_types.proofs.Flat.{flat_list, flat_fields}

-- the i-th of some values, among their words
record Cut (vs : List Value) (i : ℕ) (part : Value) : Type 0 where
  before : List ℤ
  after : List ℤ
  whole : flat_all vs ≡ before ++ (flat part ++ after)
  place : length before ≡ length (flat_all (take i vs))
  replaced : (u : Value) → flat_all (slice_set vs i u) ≡ before ++ (flat u ++ after)

cut : (vs : List Value) (i : ℕ) (part : Value) → slice_get vs i ≡ Some part → Cut vs i part
cut [] i part e = absurd (cc)
cut (v ∷ vs) zero part e =
    let same : v ≡ part = cc in
    record { before = []; after = flat_all vs; whole = ap (λ x. flat x ++ flat_all vs) same; place = refl; replaced = λ u. refl }
cut (v ∷ vs) (suc i) part e =
    let r = cut vs i part e in
    record {
      before = flat v ++ r.before;
      after = r.after;
      whole = ap (λ ws. flat v ++ ws) r.whole ∙ sym (append_assoc (flat v) r.before (flat part ++ r.after));
      place = rw (length-append (flat v) r.before, length-append (flat v) (flat_all (take i vs))) (ap (λ n. length (flat v) + n) r.place);
      replaced = λ u. ap (λ ws. flat v ++ ws) (r.replaced u) ∙ sym (append_assoc (flat v) r.before (flat u ++ r.after));
    }

-- the same of a form
record Step (x : Value-F Value) (i : ℕ) (part : Value) : Type 0 where
  before : List ℤ
  after : List ℤ
  whole : flat (roll-Value x) ≡ before ++ (flat part ++ after)
  place : length before ≡ length (flat_all (take i (parts_in x)))
  replaced : (u : Value) → flat (roll-Value (with_in x i u)) ≡ before ++ (flat u ++ after)

step : (x : Value-F Value) (i : ℕ) (part : Value) → part_in x i ≡ Some part → Step x i part
step (layer.One s) i part e = absurd (cc)
step (layer.List vs) i part e =
    let r = cut vs i part e in
    record { before = r.before; after = r.after; whole = flat_list vs ∙ r.whole; place = r.place; replaced = λ u. flat_list (slice_set vs i u) ∙ r.replaced u }
step (layer.Fields vs) i part e =
    let r = cut vs i part e in
    record { before = r.before; after = r.after; whole = flat_fields vs ∙ r.whole; place = r.place; replaced = λ u. flat_fields (slice_set vs i u) ∙ r.replaced u }

flat_out : (v : Value) → flat v ≡ flat (roll-Value (out-Value v))
flat_out v = fold_out-Value (List ℤ) flat_step v ∙ sym (fold-roll-Value (List ℤ) flat_step (out-Value v))

at_none : (path : List ℕ) (part : Value) → part_at path None ≡ Some part → ⊥
at_none [] part e = cc
at_none (i ∷ path) part e = at_none path part e

inner : (a b c d e : List ℤ) → a ++ ((b ++ (c ++ d)) ++ e) ≡ (a ++ b) ++ (c ++ (d ++ e))
inner a b c d e = rw (append_assoc, append_assoc, append_assoc) refl

renewed : (path : List ℕ) (v m part : Value) (i : ℕ) (s : Step (out-Value v) i m) (t : Stretch path m part) (u w : Value) (o : Option Value) → put_at path u (Some m) ≡ o → with_part (Some v) i o ≡ Some w → flat w ≡ (s.before ++ t.before) ++ (flat u ++ (t.after ++ s.after))
renewed path v m part i s t u w None is put = absurd (cc)
renewed path v m part i s t u w (Some n) is put =
    let same : w ≡ roll-Value (with_in (out-Value v) i n) = cc in
    ap flat same ∙ s.replaced n ∙ ap (λ ws. s.before ++ (ws ++ s.after)) (t.replaced u n is) ∙ inner s.before t.before (flat u) t.after s.after

within : (i : ℕ) (path : List ℕ) (v part : Value) → ((m : Value) → part_at path (Some m) ≡ Some part → Stretch path m part) → (o : Option Value) → part_of (Some v) i ≡ o → part_at path o ≡ Some part → Stretch (i ∷ path) v part
within i path v part next None is h = absurd (at_none path part h)
within i path v part next (Some m) is h =
    let s = step (out-Value v) i m is in
    let t = next m h in
    record {
      before = s.before ++ t.before;
      after = t.after ++ s.after;
      whole = flat_out v ∙ s.whole ∙ ap (λ ws. s.before ++ (ws ++ s.after)) t.whole ∙ inner s.before t.before (flat part) t.after s.after;
      place = rw (is, length-append s.before t.before) (ap (λ n. n + length t.before) s.place ∙ ap (λ n. length (flat_all (take i (parts_of (Some v)))) + n) t.place);
      replaced = λ u w put. renewed path v m part i s t u w (put_at path u (Some m)) refl (ap (λ o. with_part (Some v) i (put_at path u o)) (sym is) ∙ put);
    }

pub stretch : (path : List ℕ) (v part : Value) → part_at path (Some v) ≡ Some part → Stretch path v part
stretch [] v part e =
    let same : v ≡ part = cc in
    record {
      before = [];
      after = [];
      whole = ap flat same ∙ sym (append-nil (flat part));
      place = refl;
      replaced = λ u w h. (let is : w ≡ u = cc in ap flat is ∙ sym (append-nil (flat u)));
    }
stretch (i ∷ path) v part e = within i path v part (λ m h. stretch path m part h) (part_of (Some v) i) refl e
