-- Look-ups by bytes in a list of entries.
use Rattle.std.proofs.Common.{Decides, nat_le, arith, ◌≤◌, suc, take, ◌≡◌, ◌≢◌, ℕ, ◌+◌, ◌<◌, Bool, true, false, cond, List, [], ◌∷◌, ◌++◌, length, drop, get_or, Option, Some, nat_eq, ◌&&◌, None, refl, ap, sym, ◌∙◌, add-one}
use Rattle.std.proofs.Math.Seq.{drop-cons}
use Rattle.std.specs.declared.cmp.Ordering.{Ordering}
use Rattle.std.specs.declared.cmp.Ordering.TheVariants.{Less, Equal, Greater}
use Rattle.std.specs.Ordering.{nat_cmp, eq_by_cmp, is_eq}
use Rattle.std.specs.Cmp.{tied_itself}
use Rattle.std.specs.Cmp.Lexicographic.{slice_cmp, pointwise, nat_list_cmp_total}
use Rattle.std.proofs.lemmas.Bool.{false≢true, leb-true, le-leb}
use Rattle.std.proofs.lemmas.Bool.Decides.{Decides-and}
use Rattle.std.specs.Option.{option_map}
use Rattle.std.proofs.lemmas.Slice.Eq.{bytes_eq-Decides}
use Rattle.outside.specs.declared.mem_box.Room.{Room}
use Rattle.outside.specs.Files.{Held}
use Rattle.outside.specs.MemBox.{has_room, BoxState, stored, fails_next}
use Rattle.outside.specs.Calls.{FileCall, Store, file_call}
use Rattle.outside.specs.Causes.{raised}
use Rattle.std.specs.FinMap.{find, FinMap, insert, get, from_entries, get-from_entries, nat_cmp-IsAntisymmetric, slice_cmp-IsAntisymmetric}

pub key_same : (q k : List ℕ) → q ≡ k → eq_by_cmp (slice_cmp nat_cmp) q k ≡ true
key_same q k e = ap (λ x. eq_by_cmp (slice_cmp nat_cmp) q x) (sym e) ∙ ap is_eq (tied_itself nat_list_cmp_total q)

apart : (q k : List ℕ) (o : Ordering) → slice_cmp nat_cmp q k ≡ o → q ≢ k → is_eq o ≡ false
apart q k Less e n = refl
apart q k Equal e n = absurd (n (slice_cmp-IsAntisymmetric nat_cmp-IsAntisymmetric q k e))
apart q k Greater e n = refl

pub key_apart : (q k : List ℕ) → q ≢ k → eq_by_cmp (slice_cmp nat_cmp) q k ≡ false
key_apart q k n = apart q k _ refl n

-- the look-up from a place on, where an entry stands there
from_place : {X : Type 0} (q : List ℕ) (es : List (List ℕ × X)) (i : ℕ) (e : List ℕ × X) (b : Bool) → i < length es → e ≡ get_or es i e
    → eq_by_cmp (slice_cmp nat_cmp) q e.0 ≡ b
    → find (slice_cmp nat_cmp) q (drop i es) ≡ cond b (Some e.1) (find (slice_cmp nat_cmp) q (drop (i + 1) es))
from_place q es i e b lt is tied =
    ap (find (slice_cmp nat_cmp) q) (drop-cons es i e lt ∙ ap (λ x. x ∷ drop (suc i) es) (sym is))
    ∙ ap (λ t. cond t (Some e.1) (find (slice_cmp nat_cmp) q (drop (suc i) es))) tied
    ∙ ap (λ n. cond b (Some e.1) (find (slice_cmp nat_cmp) q (drop n es))) (sym (add-one i))

pub find_at : {X : Type 0} (q : List ℕ) (es : List (List ℕ × X)) (i : ℕ) (e : List ℕ × X) → i < length es → e ≡ get_or es i e → e.0 ≡ q
    → find (slice_cmp nat_cmp) q (drop i es) ≡ Some e.1
find_at q es i e lt is same = from_place q es i e true lt is (key_same q e.0 (sym same))

pub find_past : {X : Type 0} (q : List ℕ) (es : List (List ℕ × X)) (i : ℕ) (e : List ℕ × X) → i < length es → e ≡ get_or es i e → e.0 ≢ q
    → find (slice_cmp nat_cmp) q (drop i es) ≡ find (slice_cmp nat_cmp) q (drop (i + 1) es)
find_past q es i e lt is other = from_place q es i e false lt is (key_apart q e.0 (λ same. other (sym same)))

-- what a map of entries gives is the look-up in them
pub get_held : {X : Type 0} (es : List (List ℕ × X)) (q : List ℕ) → get {R = slice_cmp nat_cmp} (from_entries es) q ≡ find (slice_cmp nat_cmp) q es
get_held es q = get-from_entries nat_list_cmp_total es q

first_true : (a b : Bool) → (a && b) ≡ true → a ≡ true
first_true true b e = refl
first_true false b e = e

pub room_is : (room : Option Room) (r : Room) (name : List ℕ) (n : ℕ) → room ≡ Some r → has_room (option_map (λ r. (r.name, r.most)) room) name n ≡ true → name ≡ r.name
room_is room r name n e h = (bytes_eq-Decides name r.name).0 (first_true _ _ (ap (λ o. has_room (option_map (λ r. (r.name, r.most)) o) name n) (sym e) ∙ h))

-- The test of the room is right.
pub room_decides : (room : Option (List ℕ × ℕ)) (name : List ℕ) (n : ℕ) → Decides (has_room room name n) ((most : ℕ) × (room ≡ Some (name, most)) × (n ≤ most))
room_decides None name n = (λ e. absurd (false≢true e), λ w. let e = w.1 in cc)
room_decides (Some r) name n =
    let both = Decides-and (pointwise nat_eq name r.0) (nat_le n r.1) (bytes_eq-Decides name r.0) (leb-true n r.1, le-leb n r.1) in (
      λ t. (r.1, λ i. Some (sym (both.0 t).0 i, r.1), (both.0 t).1),
      λ w.
          let whole = w.1 in
          let same : r ≡ (name, w.0) = cc in
          let most : r.1 ≡ w.0 = ap (λ (p : List ℕ × ℕ). p.1) same in
          both.1 (sym (ap (λ (p : List ℕ × ℕ). p.0) same), omega arith),
    )

-- what a store with room makes of the entries
pub put_first : {X : Type 0} (held : FinMap (slice_cmp nat_cmp) X) (old new : List (List ℕ × X)) (name to : List ℕ) (v w : X)
    → from_entries old ≡ held → new ≡ (to, w) ∷ old → name ≡ to → w ≡ v → from_entries new ≡ insert held name v
put_first held old new name to v w is added same whole = ap from_entries added ∙ (λ i. insert (is i) (sym same i) (whole i))

-- a store with room
pub stored_with_room : (b : BoxState) (name bytes : List ℕ) → has_room b.room name (length bytes) ≡ true
    → stored b name bytes ≡ record b { asked = b.asked ++ file_call Store name (fails_next b) ∷ []; room = None; lost = cond (fails_next b) (raised b.lost) b.lost; held = insert b.held name (cond (fails_next b) (take b.torn bytes) bytes) }
stored_with_room b name bytes h = ap (λ t. cond t
    (record b { asked = b.asked ++ file_call Store name (fails_next b) ∷ []; room = None; lost = cond (fails_next b) (raised b.lost) b.lost; held = insert b.held name (cond (fails_next b) (take b.torn bytes) bytes) })
    (record b { asked = b.asked ++ file_call Store name true ∷ []; lost = raised b.lost })) h

pub stored_as : (b : BoxState) (name bytes : List ℕ) (fails : Bool) (held : Held) (asked : List FileCall) (lost : ℕ) (room : Option Room) → has_room b.room name (length bytes) ≡ true → fails ≡ fails_next b
    → held ≡ insert b.held name (cond fails (take b.torn bytes) bytes) → asked ≡ b.asked ++ file_call Store name fails ∷ [] → lost ≡ cond fails (raised b.lost) b.lost → room ≡ None
    → record b { held = held; asked = asked; lost = lost; room = option_map (λ r. (r.name, r.most)) room } ≡ stored b name bytes
stored_as b name bytes fails held asked lost room roomy is kept next less used =
    (λ i. record b { held = (kept ∙ ap (λ f. insert b.held name (cond f (take b.torn bytes) bytes)) is) i; asked = (next ∙ ap (λ f. b.asked ++ file_call Store name f ∷ []) is) i; lost = (less ∙ ap (λ f. cond f (raised b.lost) b.lost) is) i; room = option_map (λ r. (r.name, r.most)) (used i) })
    ∙ sym (stored_with_room b name bytes roomy)
