-- Modules and namespaces change nothing of what the scope numbers.
use Rattle.std.proofs.Common.{◌≡◌, ℕ, List, [], ◌∷◌, ◌++◌, Option, Some, None, Bool, true, false, if◌then◌else◌, slice_get, refl, ap, ◌∙◌}
use Rattle.std.specs.Prelude.{bytes_eq}
use Rattle.ctl_types.specs.declared.program.Function.{Function}
use Rattle.ctl_types.specs.Definitions.{Defined}
use Rattle.ctl_types.specs.Scoping.{library_definitions}
use Rattle.ctl_scope.specs.declared.meaning.Meaning.{Meaning}
use Rattle.ctl_scope.specs.declared.meaning.Meaning.TheVariants as meaning
use Rattle.ctl_scope.specs.Names.{Names, meaning_in}
use Rattle.ctl_scope.specs.Scope.{ScopeForm}
use Rattle.std.specs.Prelude.{codes}
use Rattle.ctl_scope.specs.Changes.{whole_name, with_named, with_new, but_last, in_unit, in_space, out_of_space, with_space, library_scope}
use Rattle.ctl_scope.specs.Beside.{Beside}
use Rattle.ctl_scope.specs.Laws.{BesideBegins}
use Rattle.ctl_check_function.specs.Laws.{Resting, Stays, SpaceEnds, SpacesRest}

-- a name that is there stays
kept : (name : List ℕ) (names more : Names) (m : Meaning) → meaning_in name names ≡ Some m → meaning_in name (names ++ more) ≡ Some m
kept name [] more m h = absurd (cc)
kept name (n ∷ names) more m h = by (bytes_eq name n.0) h (kept name names more m) where
  by : (b : Bool) → (if b then Some n.1 else meaning_in name names) ≡ Some m → (meaning_in name names ≡ Some m → meaning_in name (names ++ more) ≡ Some m) → (if b then Some n.1 else meaning_in name (names ++ more)) ≡ Some m
  by true k rest = k
  by false k rest = rest k

resting_named : (s : ScopeForm) (d : Defined) (name : List ℕ) (m : Meaning) → Resting s d → Resting (with_named name m s) d
resting_named s d name m h = record {
  beside = record {
    counts = h.beside.counts;
    constants = h.beside.constants;
    depths = h.beside.depths;
    functions = λ k f e. kept f.name s.names ((whole_name s name, m) ∷ []) (meaning.Function k) (h.beside.functions k f e);
  };
  outside = ap (λ (s : ScopeForm). with_named name m s) h.outside;
}

resting_new : (o : Option Meaning) (s : ScopeForm) (d : Defined) (name : List ℕ) → Resting s d → Resting (with_new o name s) d
resting_new None s d name h = resting_named s d name meaning.Namespace h
resting_new (Some m) s d name h = h

-- nothing of it reads the module or the namespaces
resting_in : (s : ScopeForm) (d : Defined) (unit : ℕ) (spaces : List (List ℕ)) → Resting s d → Resting (record s { unit = unit; spaces = spaces }) d
resting_in s d unit spaces h = record {
  beside = record { counts = h.beside.counts; constants = h.beside.constants; depths = h.beside.depths; functions = h.beside.functions };
  outside = ap (λ (s : ScopeForm). record s { unit = unit; spaces = spaces }) h.outside;
}

-- a namespace that ends is left, and its name changes neither the module nor the namespaces around
unit_kept : (m : Option Meaning) (name : List ℕ) (t : ScopeForm) → (with_new m name t).unit ≡ t.unit
unit_kept None name t = refl
unit_kept (Some m) name t = refl

spaces_kept : (m : Option Meaning) (name : List ℕ) (t : ScopeForm) → (with_new m name t).spaces ≡ t.spaces
spaces_kept None name t = refl
spaces_kept (Some m) name t = refl

but_last_is : (spaces : List (List ℕ)) (s : List ℕ) → but_last (spaces ++ s ∷ []) ≡ spaces
but_last_is [] s = refl
but_last_is (t ∷ []) s = refl
but_last_is (t ∷ u ∷ spaces) s = ap (λ ss. t ∷ ss) (but_last_is (u ∷ spaces) s)

space_left : (s after : ScopeForm) (d : Defined) (name : List ℕ) → Stays (in_space name s) after → Resting after d → SpaceEnds s (with_space name (out_of_space after)) d
space_left s after d name stays h =
    let t = out_of_space after in
    let m = meaning_in (whole_name t name) t.names in
    record {
      resting = resting_new m t d name (resting_in after d after.unit t.spaces h);
      stays = record {
        unit = unit_kept m name t ∙ stays.unit;
        spaces = spaces_kept m name t ∙ ap (λ ss. but_last ss) stays.spaces ∙ but_last_is s.spaces (whole_name s name ++ codes "::");
      };
    }

pub spaces_all_rest : BesideBegins → SpacesRest
spaces_all_rest begins = record {
  begins = λ units. record { beside = begins units; outside = refl };
  unit = λ s d n h. resting_in s d n s.spaces h;
  enter = λ s d name h. resting_in s d s.unit (in_space name s).spaces h;
  leave = space_left;
}
