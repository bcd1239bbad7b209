-- Tables grow.
use Rattle.std.proofs.Common.{◌≡◌, ◌<◌, ◌≤◌, ◌+◌, ◌-◌, ◌++◌, ℕ, zero, suc, List, [], ◌∷◌, Err, Bool, true, false, if◌then◌else◌, length, get_or, drop, ap, sym, ◌∙◌, refl, arith}
use Rattle.std.proofs.lemmas.List.{drop_more}
use Rattle.ctl_base.specs.declared.limits.TheConstants.{INSTANCES}
use Rattle.level_rules.specs.declared.instance.Instance.{Instance}
use Rattle.level_rules.specs.Reached.{is_among, each, visit}
use Rattle.level_table.specs.declared.reaching.TableFault.{TableFault}
use Rattle.level_table.specs.declared.reaching.TableFault.TheVariants.{TooManyInstances, Memory}
use Rattle.level_table.specs.Table.{Visits}

pub each_longer : (f : List Instance → Instance → List Instance) → ((t : List Instance) (k : Instance) → length t ≤ length (f t k)) → (t : List Instance) (keys : List Instance) → length t ≤ length (each f t keys)
each_longer f h t [] = omega arith
each_longer f h t (k ∷ keys) = let a = h t k in let b = each_longer f h (f t k) keys in omega arith

pub long_push : (t : List Instance) (k : Instance) → length (t ++ k ∷ []) ≡ length t + 1
long_push [] k = omega arith
long_push (x ∷ t) k = let h = long_push t k in omega arith

push_longer : (f : List Instance → Instance → List Instance) → ((t : List Instance) (k : Instance) → length t ≤ length (f t k)) → (t : List Instance) (k : Instance) (keys : List Instance) → length t + 1 ≤ length (each f (t ++ k ∷ []) keys)
push_longer f h t k keys = let a = long_push t k in let b = each_longer f h (t ++ k ∷ []) keys in omega arith

if_longer : (b : Bool) (t u : List Instance) → length t + 1 ≤ length u → length t ≤ length (if b then t else u)
if_longer true t u h = omega arith
if_longer false t u h = omega arith

pub visit_longer : (calls : Instance → List Instance) (d : ℕ) (t : List Instance) (k : Instance) → length t ≤ length (visit calls d t k)
visit_longer calls zero t k = omega arith
visit_longer calls (suc d) t k = if_longer (is_among t k) t (each (visit calls d) (t ++ k ∷ []) (calls k)) (push_longer (visit calls d) (visit_longer calls d) t k (calls k))

pub visit_had : (calls : Instance → List Instance) (d : ℕ) (t : List Instance) (k : Instance) → is_among t k ≡ true → visit calls d t k ≡ t
visit_had calls zero t k h = refl
visit_had calls (suc d) t k h = ap (λ (b : Bool). if b then t else (each (visit calls d) (t ++ k ∷ []) (calls k))) h

pub visit_step : (calls : Instance → List Instance) (d : ℕ) (t : List Instance) (k : Instance) → 0 < d → is_among t k ≡ false → visit calls d t k ≡ each (visit calls (d - 1)) (t ++ k ∷ []) (calls k)
visit_step calls zero t k h e = absurd (omega arith)
visit_step calls (suc d) t k h e = let n : suc d - 1 ≡ d = omega arith in ap (λ (b : Bool). if b then t else (each (visit calls d) (t ++ k ∷ []) (calls k))) e ∙ ap (λ d. each (visit calls d) (t ++ k ∷ []) (calls k)) (sym n)

-- a refusal goes on
pub refused : (new new' all all' : List Instance) (e : TableFault) → length all ≤ length all' → Visits new all {A = Unit {0}} (Err e) → Visits new' all' {A = Unit {0}} (Err e)
refused new new' all all' TooManyInstances h v = omega arith
refused new new' all all' Memory h v = tt

pub too_many : (calls : Instance → List Instance) (d : ℕ) (t : List Instance) (k : Instance) → 0 < d → is_among t k ≡ false → length t ≡ INSTANCES → INSTANCES < length (visit calls d t k)
too_many calls d t k h e l = let a = push_longer (visit calls (d - 1)) (visit_longer calls (d - 1)) t k (calls k) in let b = ap length (visit_step calls d t k h e) in omega arith

pub stage_longer : (calls : Instance → List Instance) (d : ℕ) (t : List Instance) (i : ℕ) (items : List Instance) (k : Instance) (all : List Instance) → i < length items → k ≡ get_or items i k → each (visit calls d) t (drop i items) ≡ all → length (visit calls d t k) ≤ length all
stage_longer calls d t i items k all h e r =
    let m : each (visit calls d) t (drop i items) ≡ each (visit calls d) (visit calls d t k) (drop (i + 1) items) = ap (each (visit calls d) t) (drop_more items i k h ∙ ap (λ k. k ∷ drop (i + 1) items) (sym e)) in
    let b = each_longer (visit calls d) (visit_longer calls d) (visit calls d t k) (drop (i + 1) items) in
    let l : length (each (visit calls d) (visit calls d t k) (drop (i + 1) items)) ≡ length all = ap length (sym m ∙ r) in omega arith

pub visit_begins : (calls : Instance → List Instance) (d : ℕ) (t new items : List Instance) (i own : Instance) → 0 < d → is_among t i ≡ false → new ≡ t ++ own ∷ [] → own ≡ i → items ≡ calls i → each (visit calls (d - 1)) new items ≡ visit calls d t i
visit_begins calls d t new items i own h e en eo ei =
    ap (λ (n : List Instance). each (visit calls (d - 1)) n items) (en ∙ ap (λ (k : Instance). t ++ k ∷ []) eo)
    ∙ ap (each (visit calls (d - 1)) (t ++ i ∷ [])) ei
    ∙ sym (visit_step calls d t i h e)

pub pushed_long : (t new : List Instance) (own : Instance) → new ≡ t ++ own ∷ [] → length new ≡ length t + 1
pushed_long t new own e = ap length e ∙ long_push t own
