-- Statements without bodies, and what stands before a body.
use Rattle.std.proofs.Common.{◌≡◌, ℕ, zero, suc, ◌+◌, ◌<◌, List, [], ◌∷◌, ◌++◌, map, length, Option, Some, None, Ok, Err, Bool, true, false, ◌&&◌, ◌||◌, not, nat_lt, refl, sym, ap, subst, ◌∙◌, arith, slice_get}
use Rattle.std.specs.Prelude.{max}
use Rattle.std.proofs.lemmas.List.{append-nil}
use Rattle.ctl_base.specs.declared.kind.ScalarKind.TheVariants as kind
use Rattle.ctl_types.specs.declared.shape.Base.TheVariants.{Scalar}
use Rattle.ctl_types.specs.declared.expression.Operand.{Operand}
use Rattle.ctl_types.specs.Typing.{Typed, Variable, Variables, Scene, is_scalar, operand_type}
use Rattle.ctl_types.specs.Scoping.{Scope, Scoped, Scoping, simple, tested, looped}
use Rattle.ctl_types.specs.Definitions.{Defined}
use Rattle.ctl_scope.specs.Scope.{ScopeForm}
use Rattle.ctl_check_laws.specs.Accepted.{known, Holds}
use Rattle.definition_laws.proofs.Standing.{Standing}
use Rattle.definition_laws.proofs.Lists.{none_more, later, AreBelow}
use Rattle.definition_laws.proofs.Scopes.{kept_here, after, Kept, Ran, Runs}
use Rattle.definition_laws.proofs.Sequences.{Fine}

-- ---- the variables of a scope are among longer ones

pub among_left : (vs ws : Variables) → Holds (vs ++ ws) vs
among_left [] ws k v e = absurd (cc)
among_left (u ∷ vs) ws zero v e = e
among_left (u ∷ vs) ws (suc k) v e = among_left vs ws k v e

pub among_both : (us vs ws : Variables) → Holds us vs → Holds vs ws → Holds us ws
among_both us vs ws h g k v e = h k v (g k v e)

-- those of a scope before are among those of a scope after it
pub among_before : (vs : Variables) (s t : ScopeForm) (more : Variables) → Kept s t more → Holds vs t.variables → Holds vs s.variables
among_before vs s t more kept h =
    let same : t.variables ≡ s.variables ++ more = ap (λ (t : ScopeForm). t.variables) kept.same in
    among_both vs (s.variables ++ more) s.variables (subst (λ ws. Holds vs ws) same h) (among_left s.variables more)

module _ (d : Defined) (n : ℕ) where
  -- what changes no scope
  pub fine_still : (z : Scoping) (s : ScopeForm) (returns : Bool) (depth : ℕ) → Standing d n s
      → ((vs : Variables) (used : List ℕ) → Holds vs s.variables → z (record { variables = vs; used = used }) ≡ record { well = true; after = record { variables = vs; used = used }; returns = returns; depth = depth })
      → Fine d n z s s returns depth
  fine_still z s returns depth h run = record {
    more = [];
    kept = record { same = ap (λ vs. record s { variables = vs }) (sym (append-nil s.variables)); blocks = kept_here s.blocks };
    standing = h;
    runs = λ k used b. record { after = used; is = ap (λ j. z (record { variables = s.variables ++ later j; used = used })) (none_more k) ∙ run (s.variables ++ later k) used (among_left s.variables (later k)); long = omega arith; below = b };
  }

  -- the same run under another word for it
  pub fine_as : (y z : Scoping) (s t : ScopeForm) (returns : Bool) (depth : ℕ) → ((scope : Scope) → z scope ≡ y scope) → Fine d n y s t returns depth → Fine d n z s t returns depth
  fine_as y z s t returns depth same f = record {
    more = f.more;
    kept = f.kept;
    standing = f.standing;
    runs = λ k used b.
        let ran = f.runs k used b in
        record { after = ran.after; is = same (record { variables = s.variables ++ later (length f.more + k); used = used }) ∙ ran.is; long = ran.long; below = ran.below };
  }

  -- a test before what it decides
  abbrev pub after_test : Scene → Operand → Bool → Scoping → Scoping
  after_test x test stands y scope = tested (operand_type x scope.variables test) stands y scope

  pub fine_tested : (x : Scene) (test : Operand) (y : Scoping) (s t : ScopeForm) (returns : Bool) (l m : ℕ) (stands : Bool) → stands ≡ true
      → ((vs : Variables) → Holds vs s.variables → operand_type x vs test ≡ known [] (Some (Scalar kind.Bool)) l)
      → Fine d n y s t returns m → Fine d n (after_test x test stands y) s t returns (max l m)
  fine_tested x test y s t returns l m stands stand typed f = record {
    more = f.more;
    kept = f.kept;
    standing = f.standing;
    runs = λ k used b.
        let ran = f.runs k used b in
        let vs = s.variables ++ later (length f.more + k) in
        record {
          after = ran.after;
          is = ap (λ (t : Typed). record { well = (is_scalar kind.Bool t && stands) && (y (record { variables = vs; used = used })).well; after = (y (record { variables = vs; used = used })).after; returns = (y (record { variables = vs; used = used })).returns; depth = max t.depth (y (record { variables = vs; used = used })).depth }) (typed vs (among_left s.variables (later (length f.more + k))))
              ∙ ap (λ (p : Scoped). record { well = stands && p.well; after = p.after; returns = p.returns; depth = max l p.depth }) ran.is
              ∙ ap (λ b. record { well = b && true; after = record { variables = t.variables ++ later k; used = ran.after }; returns = returns; depth = max l m }) stand;
          long = ran.long;
          below = ran.below;
        };
  }

  -- a loop does not surely return
  pub fine_looped : (y : Scoping) (s t : ScopeForm) (returns : Bool) (depth : ℕ) → Fine d n y s t returns depth → Fine d n (looped y) s t false depth
  fine_looped y s t returns depth f = record {
    more = f.more;
    kept = f.kept;
    standing = f.standing;
    runs = λ k used b.
        let ran = f.runs k used b in
        record { after = ran.after; is = ap (λ (p : Scoped). record { well = p.well; after = p.after; returns = false; depth = p.depth }) ran.is; long = ran.long; below = ran.below };
  }
