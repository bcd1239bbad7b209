-- The words of arguments one after the other.
use Rattle.std.proofs.Common.{◌≡◌, ℕ, ◌+◌, ◌<◌, ◌≤◌, List, [], ◌∷◌, ◌++◌, drop, length, get_or, Option, Some, None, Bool, true, false, if◌then◌else◌, refl, ap, ◌∙◌}
use Rattle.std.proofs.lemmas.List.{drop_all}
use Rattle.ctl_stdlib.specs.declared.row.Param.{Param}
use Rattle.ctl_types.specs.declared.value.Value.{Value}
use Rattle.ctl_types.specs.Values.{Env, flat}
use Rattle.ctl_types.specs.Library.{words_of}
use Rattle.eval_library.specs.declared.words.Group.{Group}
use Rattle.eval_library.specs.Means.{chosen_by, words_by}
use Rattle.eval_library.proofs.Lists.{next, get_same}

one_more : (g : Group) (p : Param) (o : Option Value) (params : List Param) (frame : Env) → words_of (chosen_by g) (p ∷ params) (o ∷ frame) ≡ words_by g p o ++ words_of (chosen_by g) params frame
one_more g p None params frame = by (chosen_by g p) where
  by : (b : Bool) → words_of (chosen_by g) params frame ≡ (if b then [] else []) ++ words_of (chosen_by g) params frame
  by true = refl
  by false = refl
one_more g p (Some v) params frame = by (chosen_by g p) where
  by : (b : Bool) → (if b then flat v ++ words_of (chosen_by g) params frame else words_of (chosen_by g) params frame) ≡ (if b then flat v else []) ++ words_of (chosen_by g) params frame
  by true = refl
  by false = refl

pub words_next : (g : Group) (params : List Param) (frame : Env) (i : ℕ) (d : Param) (o : Option Value) → i < length params → i < length frame → o ≡ get_or frame i o → words_of (chosen_by g) (drop i params) (drop i frame) ≡ words_by g (get_or params i d) o ++ words_of (chosen_by g) (drop (i + 1) params) (drop (i + 1) frame)
words_next g params frame i d o h l m =
    let p = get_or params i d in
    ap (λ l. words_of (chosen_by g) l (drop i frame)) (next params i p h (get_same params i d p h)) ∙ ap (λ l. words_of (chosen_by g) (p ∷ drop (i + 1) params) l) (next frame i o l m) ∙ one_more g p o (drop (i + 1) params) (drop (i + 1) frame)

none_given : (g : Group) (params : List Param) → words_of (chosen_by g) params [] ≡ []
none_given g [] = refl
none_given g (p ∷ params) = refl

-- no argument is left, or no parameter
pub words_short : (g : Group) (params : List Param) (frame : Env) (i : ℕ) → length frame ≤ i → words_of (chosen_by g) (drop i params) (drop i frame) ≡ []
words_short g params frame i h = ap (words_of (chosen_by g) (drop i params)) (drop_all i frame h) ∙ none_given g (drop i params)

pub words_end : (g : Group) (params : List Param) (frame : Env) (i : ℕ) → length params ≤ i → words_of (chosen_by g) (drop i params) (drop i frame) ≡ []
words_end g params frame i h = ap (λ l. words_of (chosen_by g) l (drop i frame)) (drop_all i params h)
