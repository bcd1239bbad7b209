-- What is found in one form after another.
use Rattle.std.proofs.Common.{◌≡◌, ℕ, ◌+◌, ◌<◌, ◌≤◌, List, [], ◌∷◌, ◌++◌, map, drop, length, get_or, Bool, true, false, ◌||◌, ap, sym, ◌∙◌, subst, refl}
use Rattle.std.proofs.lemmas.List.{append-nil, append_assoc, drop_more, at_drop_all}
use Rattle.ctl_base.specs.declared.kind.Node.{Node}
use Rattle.level_rules.specs.declared.instance.Instance.{Instance}
use Rattle.level_rules.specs.declared.instance.Holder.{Holder}
use Rattle.level_rules.specs.declared.found.Found.{Found}
use Rattle.level_rules.specs.Rules.{Around, Seen, Look, nothing_found, both_found, place_found, call_found, beside, seen_all, seen_logic, placed}

abbrev lists : List Holder → List Instance → List Node → List Bool → Found
lists p c f q = record { puts = p; calls = c; faults = f; places = q }

lists_are : (p p' : List Holder) (c c' : List Instance) (f f' : List Node) (q q' : List Bool) → p ≡ p' → c ≡ c' → f ≡ f' → q ≡ q' → lists p c f q ≡ lists p' c' f' q'
lists_are p p' c c' f f' q q' a b d e = ap (λ k. lists k c f q) a ∙ ap (λ k. lists p' k f q) b ∙ ap (λ k. lists p' c' k q) d ∙ ap (λ k. lists p' c' f' k) e

pub both_assoc : (a b c : Found) → both_found (both_found a b) c ≡ both_found a (both_found b c)
both_assoc a b c = lists_are _ _ _ _ _ _ _ _ (append_assoc a.puts b.puts c.puts) (append_assoc a.calls b.calls c.calls) (append_assoc a.faults b.faults c.faults) (append_assoc a.places b.places c.places)

pub both_nothing : (a : Found) → both_found a nothing_found ≡ a
both_nothing a = lists_are _ _ _ _ _ _ _ _ (append-nil a.puts) (append-nil a.calls) (append-nil a.faults) (append-nil a.places)

pub nothing_more : (old : Found) → old ≡ both_found old nothing_found
nothing_more old = sym (both_nothing old)

-- what is found in two forms, one after the other
pub then_found : (old mid new a b : Found) → mid ≡ both_found old a → new ≡ both_found mid b → new ≡ both_found old (both_found a b)
then_found old mid new a b h k = k ∙ ap (λ m. both_found m b) h ∙ both_assoc old a b

-- calls stand in a list of their own
pub call_last : (i : Instance) (o : Found) → o.calls ≡ [] → o.faults ≡ [] → o.places ≡ [] → both_found (call_found i) o ≡ both_found o (call_found i)
call_last i o c f q = lists_are _ _ _ _ _ _ _ _ (sym (append-nil o.puts)) (ap (λ l. i ∷ l) c ∙ sym (ap (λ l. l ++ i ∷ []) c)) (sym (append-nil o.faults)) (sym (append-nil o.places))

or_assoc : (a b c : Bool) → ((a || b) || c) ≡ (a || (b || c))
or_assoc true b c = refl
or_assoc false b c = refl

pub or_false : (a : Bool) → (a || false) ≡ a
or_false true = refl
or_false false = refl

-- what was seen so far, with what is left, is what is seen in all
pub record Rest (any : Bool) (now : Found) (rest : Seen) (start : Found) (all : Seen) : Type 0 where
  pub varies : (any || rest.varies) ≡ all.varies
  pub found : both_found now rest.found ≡ both_found start all.found

pub rest_all : (start : Found) (all : Seen) → Rest false start all start all
rest_all start all = record { varies = refl; found = refl }

rest_more : (any v : Bool) (now next start : Found) (a rest all : Seen) → Rest any now (beside a rest) start all → v ≡ a.varies → next ≡ both_found now a.found → Rest (any || v) next rest start all
rest_more any v now next start a rest all r h k = record {
  varies = or_assoc any v rest.varies ∙ ap (λ v. any || (v || rest.varies)) h ∙ r.varies;
  found = ap (λ n. both_found n rest.found) k ∙ both_assoc now a.found rest.found ∙ r.found;
}

pub rest_none : (any : Bool) (now start : Found) (all : Seen) → Rest any now (record { varies = false; found = nothing_found }) start all → (any ≡ all.varies) × (now ≡ both_found start all.found)
rest_none any now start all r = (sym (or_false any) ∙ r.varies, sym (both_nothing now) ∙ r.found)

-- the step of a loop over forms
pub all_more : {X : Type 0} (f : X → Look) (s : Around) (c : Bool) (xs : List X) (i : ℕ) (x : X) (any v : Bool) (now next start : Found) (all : Seen) → i < length xs → x ≡ get_or xs i x → Rest any now (seen_all (map f (drop i xs)) s c) start all → v ≡ (f x s c).varies → next ≡ both_found now (f x s c).found → Rest (any || v) next (seen_all (map f (drop (i + 1) xs)) s c) start all
all_more f s c xs i x any v now next start all l e r h k =
    rest_more any v now next start (f x s c) (seen_all (map f (drop (i + 1) xs)) s c) all
    (subst (λ ys. Rest any now (seen_all (map f ys) s c) start all) (drop_more xs i x l ∙ ap (λ y. y ∷ drop (i + 1) xs) (sym e)) r) h k

-- its end
pub all_done : {X : Type 0} (f : X → Look) (s : Around) (c : Bool) (xs : List X) (i : ℕ) (any : Bool) (now start : Found) (all : Seen) → length xs ≤ i → Rest any now (seen_all (map f (drop i xs)) s c) start all → (any ≡ all.varies) × (now ≡ both_found start all.found)
all_done f s c xs i any now start all l r = rest_none any now start all (subst (λ t. Rest any now t start all) (at_drop_all (λ ys. seen_all (map f ys) s c) xs i l) r)

-- the same for the operands of `&&` and `||`
pub logic_more : {X : Type 0} (f : X → Look) (s : Around) (c : Bool) (xs : List X) (i : ℕ) (x : X) (any v : Bool) (now mid next start : Found) (all : Seen) → i < length xs → x ≡ get_or xs i x → Rest any now (seen_logic (map f (drop i xs)) s c) start all → mid ≡ both_found now (place_found c) → v ≡ (f x s c).varies → next ≡ both_found mid (f x s c).found → Rest (any || v) next (seen_logic (map f (drop (i + 1) xs)) s (c || v)) start all
logic_more f s c xs i x any v now mid next start all l e r g h k =
    subst (λ w. Rest (any || v) next (seen_logic (map f (drop (i + 1) xs)) s (c || w)) start all) (sym h)
    (rest_more any v now next start (placed (f x) s c) (seen_logic (map f (drop (i + 1) xs)) s (c || (f x s c).varies)) all
    (subst (λ ys. Rest any now (seen_logic (map f ys) s c) start all) (drop_more xs i x l ∙ ap (λ y. y ∷ drop (i + 1) xs) (sym e)) r) h (then_found now mid next _ _ g k))

pub logic_done : {X : Type 0} (f : X → Look) (s : Around) (c : Bool) (xs : List X) (i : ℕ) (any : Bool) (now start : Found) (all : Seen) → length xs ≤ i → Rest any now (seen_logic (map f (drop i xs)) s c) start all → (any ≡ all.varies) × (now ≡ both_found start all.found)
logic_done f s c xs i any now start all l r = rest_none any now start all (subst (λ t. Rest any now t start all) (at_drop_all (λ ys. seen_logic (map f ys) s c) xs i l) r)
