-- Variables that are the same where they do not vary.
use Rattle.std.proofs.Common.{◌≡◌, ◌≢◌, ℕ, zero, suc, List, [], ◌∷◌, ◌++◌, Option, Bool, true, false, true≢false, ◌||◌, length, slice_set, ap, sym, ◌∙◌, refl, arith}
use Rattle.ctl_types.specs.declared.value.Value.{Value}
use Rattle.ctl_types.specs.Values.{Env, var_of, stored, put_at}
use Rattle.level_rules.specs.declared.instance.Holder.{Holder}
use Rattle.level_rules.specs.declared.instance.Holder.TheVariants.{Variable}
use Rattle.level_rules.specs.Rules.{VaryingSet}
use Rattle.level_rules.specs.Levels.{AllIn}
use Rattle.level_laws.specs.Uniform.{Alike}

-- what is put by one and then the other
pub all_left : (set : VaryingSet) (xs ys : List Holder) → AllIn set (xs ++ ys) → AllIn set xs
all_left set [] ys h = tt
all_left set (x ∷ xs) ys h = (h.0, all_left set xs ys h.1)

pub all_right : (set : VaryingSet) (xs ys : List Holder) → AllIn set (xs ++ ys) → AllIn set ys
all_right set [] ys h = h
all_right set (x ∷ xs) ys h = all_right set xs ys h.1

pub none_true : {A : Type 0} → false ≡ true → A
none_true e = absurd (true≢false (sym e))

pub or_left : (a b : Bool) → (a || b) ≡ false → a ≡ false
or_left true b h = absurd (true≢false h)
or_left false b h = refl

pub or_right : (a b : Bool) → (a || b) ≡ false → b ≡ false
or_right true b h = absurd (true≢false h)
or_right false b h = h

pub or_assoc : (a b c : Bool) → ((a || b) || c) ≡ (a || (b || c))
or_assoc true b c = refl
or_assoc false b c = refl

pub by_level : {A : Type 0} (b : Bool) → (b ≡ true → A) → (b ≡ false → A) → A
by_level true f g = f refl
by_level false f g = g refl

pub alike_refl : (w : VaryingSet) (a : Env) → Alike w a a
alike_refl w a = record { long = refl; at = λ x h. refl }

pub alike_sym : {w : VaryingSet} {a b : Env} → Alike w a b → Alike w b a
alike_sym h = record { long = sym h.long; at = λ x e. sym (h.at x e) }

pub alike_trans : {w : VaryingSet} {a b c : Env} → Alike w a b → Alike w b c → Alike w a c
alike_trans h k = record { long = h.long ∙ k.long; at = λ x e. h.at x e ∙ k.at x e }

pub alike_same : (w : VaryingSet) (a b : Env) → a ≡ b → Alike w a b
alike_same w a b e = record { long = ap length e; at = λ x h. ap (λ a. var_of a x) e }

set_long : (a : Env) (x : ℕ) (u : Option Value) → length (slice_set a x u) ≡ length a
set_long [] x u = refl
set_long (p ∷ a) zero u = refl
set_long (p ∷ a) (suc x) u = ap suc (set_long a x u)

set_other : (a : Env) (x y : ℕ) (u : Option Value) → x ≢ y → var_of (slice_set a x u) y ≡ var_of a y
set_other [] x y u n = refl
set_other (p ∷ a) zero zero u n = absurd (n refl)
set_other (p ∷ a) zero (suc y) u n = refl
set_other (p ∷ a) (suc x) zero u n = refl
set_other (p ∷ a) (suc x) (suc y) u n = set_other a x y u (λ e. n (ap suc e))

set_both : (a b : Env) (x y : ℕ) (u : Option Value) → length a ≡ length b → var_of a y ≡ var_of b y → var_of (slice_set a x u) y ≡ var_of (slice_set b x u) y
set_both [] [] x y u l h = h
set_both [] (q ∷ b) x y u l h = absurd (omega arith)
set_both (p ∷ a) [] x y u l h = absurd (omega arith)
set_both (p ∷ a) (q ∷ b) zero zero u l h = refl
set_both (p ∷ a) (q ∷ b) zero (suc y) u l h = h
set_both (p ∷ a) (q ∷ b) (suc x) zero u l h = h
set_both (p ∷ a) (q ∷ b) (suc x) (suc y) u l h = set_both a b x y u (omega arith) h

-- a variable that varies is set
pub set_in : (w : VaryingSet) (x : ℕ) (u : Option Value) (a : Env) → w (Variable x) ≡ true → Alike w a (slice_set a x u)
set_in w x u a h = record { long = sym (set_long a x u); at = λ y e. sym (set_other a x y u (λ q. true≢false (sym h ∙ ap (λ z. w (Variable z)) q ∙ e))) }

-- a variable is set to the same in both
pub set_same : (w : VaryingSet) (x : ℕ) (u v : Option Value) (a b : Env) → Alike w a b → u ≡ v → Alike w (slice_set a x u) (slice_set b x v)
set_same w x u v a b h e = record {
  long = set_long a x u ∙ h.long ∙ sym (set_long b x v);
  at = λ y k. set_both a b x y u h.long (h.at y k) ∙ ap (λ u. var_of (slice_set b x u) y) e;
}

-- a variable is set, to the same where it does not vary
pub set_alike : (w : VaryingSet) (x : ℕ) (u v : Option Value) (a b : Env) → Alike w a b → (w (Variable x) ≡ false → u ≡ v) → Alike w (slice_set a x u) (slice_set b x v)
set_alike w x u v a b h same = by_level (w (Variable x))
    (λ e. alike_trans (alike_sym (set_in w x u a e)) (alike_trans h (set_in w x v b e)))
    (λ e. set_same w x u v a b h (same e))

-- the same is put at the same place of what is the same
pub put_same : (x : ℕ) (path other : List ℕ) (u v : Value) (a b : Env) → path ≡ other → u ≡ v → var_of a x ≡ var_of b x → put_at path u (var_of a x) ≡ put_at other v (var_of b x)
put_same x path other u v a b p q e = ap (λ path. put_at path u (var_of a x)) p ∙ ap (λ u. put_at other u (var_of a x)) q ∙ ap (put_at other v) e

-- a value is stored, the same at the same place where the variable does not vary
pub stored_alike : (w : VaryingSet) (x : ℕ) (path other : List ℕ) (u v : Value) (a b : Env) → Alike w a b → (w (Variable x) ≡ false → path ≡ other) → (w (Variable x) ≡ false → u ≡ v) → Alike w (stored x path u a) (stored x other v b)
stored_alike w x path other u v a b h p q = set_alike w x _ _ a b h (λ e. put_same x path other u v a b (p e) (q e) (h.at x e))
