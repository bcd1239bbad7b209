-- Places of a row.
use Rattle.std.proofs.Common.{◌≡◌, ◌++◌, ◌<◌, ℕ, zero, suc, List, [], ◌∷◌, Bool, true, false, get_or, slice_set, length, get_or-set_same, get_or-set_other, ap, sym, ◌∙◌, refl}
use Rattle.level_sets.specs.Closing.{IsMark}

pub false_push : (row : List Bool) (k : ℕ) → get_or (row ++ false ∷ []) k false ≡ get_or row k false
false_push [] zero = refl
false_push [] (suc k) = refl
false_push (b ∷ row) zero = refl
false_push (b ∷ row) (suc k) = false_push row k

pub mark_had : (m : ℕ) (old row : List Bool) → ((k : ℕ) → get_or row k false ≡ get_or old k false) → get_or row m false ≡ true → IsMark m old row false
mark_had m old row s h = record { has = h; was = sym (s m) ∙ h; others = λ k n. s k }

pub mark_set : (m : ℕ) (old row new : List Bool) → ((k : ℕ) → get_or row k false ≡ get_or old k false) → get_or row m false ≡ false → m < length row → new ≡ slice_set row m true → IsMark m old new true
mark_set m old row new s h l e = record {
  has = ap (λ r. get_or r m false) e ∙ get_or-set_same row m true false l;
  was = sym (s m) ∙ h;
  others = λ k n. ap (λ r. get_or r k false) e ∙ get_or-set_other row m k true false n ∙ s k;
}
