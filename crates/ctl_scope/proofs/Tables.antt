-- Names in a map by keys, and as a list.
use Rattle.std.proofs.Common.{◌≡◌, ℕ, List, [], ◌∷◌, ◌++◌, true, false, if◌then◌else◌, Some, None, refl, ap, ◌∙◌, Vec}
use Rattle.std.specs.Prelude.{bytes_eq, nat_eq}
use Rattle.std.specs.Map.{lookup, keys_of}
use Rattle.std.specs.List.{IsDistinct, AllByRecursion}
use Rattle.std.specs.Cmp.Lexicographic.{pointwise}
use Rattle.std.specs.declared.alloc.Global.{Global}
use Rattle.indexmap.specs.IndexMap.{IndexMap, insert_entry}
use Rattle.indexmap.proofs.CallerLemmas.{insert_entry-new}
use Rattle.ctl_scope.specs.declared.meaning.Meaning.{Meaning}
use Rattle.ctl_scope.specs.Names.{names_of, meaning_in, are_distinct}

Entries : Type 0
Entries = List (Vec ℕ Global × Meaning)

-- the names of both
pub names_both : (es fs : List (Vec ℕ Global × Meaning)) → names_of (es ++ fs) ≡ names_of es ++ names_of fs
names_both [] fs = refl
names_both (e ∷ es) fs = ap (λ rest. (e.0.items, e.1) ∷ rest) (names_both es fs)

-- what the map finds
pub found : (name : List ℕ) (es : List (Vec ℕ Global × Meaning)) → lookup (λ k. pointwise nat_eq name k.items) es ≡ meaning_in name (names_of es)
found name [] = refl
found name (e ∷ es) = ap (λ rest. if bytes_eq name e.0.items then Some e.1 else rest) (found name es)

-- a new name goes last
pub inserted : {S : Type 0} (m : IndexMap (Vec ℕ Global) Meaning S) (k : Vec ℕ Global) (v : Meaning) → meaning_in k.items (names_of m.entries) ≡ None → names_of (insert_entry (λ x y. pointwise nat_eq x.items y.items) m.entries k v) ≡ names_of m.entries ++ (k.items, v) ∷ []
inserted m k v none =
    ap names_of (insert_entry-new (λ x y. pointwise nat_eq x.items y.items) m k v (found k.items m.entries ∙ none)) ∙ names_both m.entries ((k, v) ∷ [])

-- a name that no key equals
no_key : (k : Vec ℕ Global) (es : List (Vec ℕ Global × Meaning)) → AllByRecursion (λ y. pointwise nat_eq k.items y.items ≡ false) (keys_of es) → meaning_in k.items (names_of es) ≡ None
no_key k [] h = refl
no_key k (e ∷ es) h = rw h.0 (no_key k es h.1)

-- keys of a map are distinct names
pub distinct : (es : List (Vec ℕ Global × Meaning)) → IsDistinct (λ x y. pointwise nat_eq x.items y.items) (keys_of es) → are_distinct (names_of es) ≡ true
unfolding IsDistinct
distinct [] h = refl
distinct (e ∷ es) h = rw (no_key e.0 es h.0) (distinct es h.1)
