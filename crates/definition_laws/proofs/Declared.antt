-- Variables that are declared.
use Rattle.std.proofs.Common.{◌≡◌, ℕ, zero, suc, ◌+◌, ◌≤◌, ◌<◌, List, [], ◌∷◌, ◌++◌, length, Option, Some, None, is_some, Bool, true, false, not, ◌&&◌, ◌||◌, refl, sym, ap, subst, ◌∙◌, arith, slice_get, slice_set, length-append}
use Rattle.ctl_types.specs.declared.shape.Base.{Base}
use Rattle.ctl_types.specs.declared.shape.Size.{Size}
use Rattle.ctl_types.specs.declared.statement.Initialiser.{Initialiser}
use Rattle.ctl_types.specs.declared.statement.Declaration.{Declaration}
use Rattle.ctl_types.specs.Typing.{Typed, Variable, Variables, Scene, has, shape_stands}
use Rattle.ctl_types.specs.Scoping.{Scope, Scoped, Scoping, is_free, is_among, may_declare, declared_in, begins_well, first_type, scope_declaration}
use Rattle.ctl_types.specs.Definitions.{Defined}
use Rattle.ctl_scope.specs.declared.block.Block.{Block}
use Rattle.ctl_scope.specs.declared.meaning.Meaning.{Meaning}
use Rattle.ctl_scope.specs.Scope.{ScopeForm, IsScope}
use Rattle.ctl_scope.specs.Beside.{scene}
use Rattle.ctl_scope.specs.Changes.{declared, with_name}
use Rattle.ctl_check_laws.specs.Accepted.{variables_stand, Holds}
use Rattle.definition_laws.proofs.Standing.{Standing}
use Rattle.definition_laws.proofs.Lists.{later, free_at_end, set_at_end, not_among, AreBelow, below_more}
use Rattle.definition_laws.proofs.Scopes.{KeptBlocks, after, Kept, Ran, Runs}
use Rattle.definition_laws.proofs.Sequences.{Fine, standing_after}
use Rattle.definition_laws.proofs.Single.{among_left}

named_blocks : (name : List ℕ) (m : Meaning) (blocks : List Block) → KeptBlocks blocks (with_name name m blocks)
named_blocks name m [] = tt
named_blocks name m (b ∷ blocks) = (refl, refl)

named_long : (name : List ℕ) (m : Meaning) (blocks : List Block) → 0 < length blocks → 0 < length (with_name name m blocks)
named_long name m [] h = h
named_long name m (b ∷ blocks) h = omega arith

one_more : (v : Option Variable) (k : ℕ) → length (v ∷ []) + k ≡ suc k
one_more v k = omega arith

module _ (d : Defined) (n : ℕ) (res : Typed) where
  -- the declaration of the next variable
  abbrev pub declaration_of : ScopeForm → Bool → List Size → Base → Option Initialiser → Declaration
  declaration_of s is_constant sizes base first = record { variable = length s.variables; is_constant = is_constant; shape = record { sizes = sizes; base = base }; first = first }

  pub fine_declared : (s : ScopeForm) (name : List ℕ) (is_constant : Bool) (sizes : List Size) (base : Base) (first : Option Initialiser) (depth : ℕ) → Standing d n s
      → IsScope (declared name (record { shape = record { sizes = sizes; base = base }; is_assignable = not is_constant }) s)
      → (is_some first || not is_constant) ≡ true → shape_stands (scene s d) (record { sizes = sizes; base = base }) ≡ true
      → ((vs : Variables) → Holds vs s.variables → (has (first_type (scene s d) res vs (record { sizes = sizes; base = base }) first) sizes (Some base) ≡ true) × ((first_type (scene s d) res vs (record { sizes = sizes; base = base }) first).depth ≡ depth))
      → Fine d n (scope_declaration (scene s d) res (declaration_of s is_constant sizes base first)) s (declared name (record { shape = record { sizes = sizes; base = base }; is_assignable = not is_constant }) s) false depth
  fine_declared s name is_constant sizes base first depth h is begins stands typed =
      let v : Variable = record { shape = record { sizes = sizes; base = base }; is_assignable = not is_constant } in
      let x = scene s d in
      let t = declared name v s in
      let number = length s.variables in
      let d' = declaration_of s is_constant sizes base first in
      record {
        more = Some v ∷ [];
        kept = record { same = refl; blocks = named_blocks name _ s.blocks };
        standing = standing_after d n s t t.blocks (Some v ∷ []) h refl is (named_long name _ s.blocks h.inside) (rw stands refl);
        runs = λ k used below.
            let vs = s.variables ++ later (suc k) in
            let w = typed vs (among_left s.variables (later (suc k))) in
            let free : is_free (slice_get vs number) ≡ true = free_at_end s.variables (later k) in
            let new : not (is_among number used) ≡ true = not_among number used below in
            let long : length t.variables ≡ number + 1 = length-append s.variables (Some v ∷ []) in
            let well : ((is_free (slice_get vs number) && not (is_among number used)) && begins_well d' && (shape_stands x d'.shape && has (first_type x res vs d'.shape first) sizes (Some base))) ≡ true = rw (free, new, begins, stands, w.0) refl in
            record {
              after = number ∷ used;
              is = ap (λ j. scope_declaration x res d' (record { variables = s.variables ++ later j; used = used })) (one_more (Some v) k)
                  ∙ ap (λ b. record { well = b; after = record { variables = slice_set vs number (Some v); used = number ∷ used }; returns = false; depth = (first_type x res vs d'.shape first).depth }) well
                  ∙ ap (λ ws. record { well = true; after = record { variables = ws; used = number ∷ used }; returns = false; depth = (first_type x res vs d'.shape first).depth }) (set_at_end s.variables (later k) v)
                  ∙ ap (λ m. record { well = true; after = record { variables = t.variables ++ later k; used = number ∷ used }; returns = false; depth = m }) w.1;
              long = omega arith;
              below = (omega arith, below_more number (length t.variables) used (omega arith) below);
            };
      }
