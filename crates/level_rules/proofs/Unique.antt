-- What varies in the instances of functions is told in one way.
use Rattle.std.proofs.Common.{◌≡◌, ◌<◌, ◌+◌, ℕ, zero, suc, List, [], ◌∷◌, Some, Bool, true, false, if◌then◌else◌, nat_lt, length, slice_get, ap, sym, subst, ◌∙◌, refl, arith}
use Rattle.std.proofs.lemmas.Bool.{ltb-true}
use Rattle.ctl_types.specs.declared.program.Function.{Function}
use Rattle.level_rules.specs.declared.instance.Instance.{Instance}
use Rattle.level_rules.specs.declared.instance.Holder.{Holder}
use Rattle.level_rules.specs.Rules.{VaryingSet, Known}
use Rattle.level_rules.specs.Levels.{Below, IsLeast, AreLevels, LevelsAreOne, before}

-- a function that is there
there : (functions : List Function) (n : ℕ) → n < length functions → (f : Function) × (slice_get functions n ≡ Some f)
there [] n h = absurd (omega arith)
there (f ∷ functions) zero h = (f, refl)
there (f ∷ functions) (suc n) h = there functions n (omega arith)

same_truth : (a b : Bool) → (a ≡ true → b ≡ true) → (b ≡ true → a ≡ true) → a ≡ b
same_truth true b h k = sym (h refl)
same_truth false true h k = k refl
same_truth false false h k = refl

one_set : (a b : VaryingSet) → Below a b → Below b a → a ≡ b
one_set a b h k = λ p x. same_truth (a x) (b x) (h x) (k x) p

module _ (functions : List Function) (known other : Known) (first : AreLevels functions known) (second : AreLevels functions other) where
  same_before : (n : ℕ) → ((j : Instance) → j.function < n → known j ≡ other j) → before n known ≡ before n other
  same_before n h = λ p j. at j (nat_lt j.function n) refl p where
    at : (j : Instance) (b : Bool) → nat_lt j.function n ≡ b → before n known j ≡ before n other j
    at j true e = ap (λ (c : Bool). if c then known j else (λ (x : Holder). false)) e ∙ h j (ltb-true j.function n e) ∙ sym (ap (λ (c : Bool). if c then other j else (λ (x : Holder). false)) e)
    at j false e = ap (λ (c : Bool). if c then known j else (λ (x : Holder). false)) e ∙ sym (ap (λ (c : Bool). if c then other j else (λ (x : Holder). false)) e)

  agree : (b : ℕ) (i : Instance) → i.function < b → i.function < length functions → known i ≡ other i
  agree zero i h l = absurd (omega arith)
  agree (suc b) i h l =
      let f = there functions i.function l in
      let e = same_before i.function (λ j k. agree b j (omega arith) (omega arith)) in
      let a : IsLeast (before i.function other) functions f.0 i (known i) = subst (λ k. IsLeast k functions f.0 i (known i)) e (first i.function f.0 f.1 i refl) in
      let c : IsLeast (before i.function other) functions f.0 i (other i) = second i.function f.0 f.1 i refl in
      one_set (known i) (other i) (a.least (other i) c.meets) (c.least (known i) a.meets)

pub levels_are_one : LevelsAreOne
levels_are_one functions known other first second i h = agree functions known other first second (i.function + 1) i (omega arith) h
