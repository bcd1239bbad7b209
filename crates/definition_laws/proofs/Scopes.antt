-- How scopes and their typed counterparts go along.
use Rattle.std.proofs.Common.{◌≡◌, ℕ, zero, suc, ◌+◌, ◌-◌, ◌≤◌, ◌<◌, List, [], ◌∷◌, ◌++◌, length, take, replicate, Option, Some, None, Bool, true, false, ◌&&◌, ◌||◌, refl, sym, ap, subst, ◌∙◌, arith, max, length-append}
use Rattle.std.proofs.lemmas.List.{append_assoc, append-nil, length-replicate}
use Rattle.ctl_types.specs.Typing.{Variable, Variables, Scene}
use Rattle.ctl_types.specs.Scoping.{Scope, Scoped, Scoping, simple, own_scope, closed}
use Rattle.ctl_types.specs.Definitions.{Defined}
use Rattle.ctl_scope.specs.declared.block.Block.{Block}
use Rattle.ctl_scope.specs.Scope.{ScopeForm}
use Rattle.ctl_scope.specs.Changes.{entered, left, left_from, empty_block, hidden_from}
use Rattle.definition_laws.proofs.Lists.{later, later_both, take_front, AreBelow, below_more}

-- ---- what statements leave

-- the innermost block begins where it began, and those around it are as they were
abbrev pub KeptBlocks : List Block → List Block → Type 0
KeptBlocks [] [] = Unit {0}
KeptBlocks [] (c ∷ cs) = ⊥
KeptBlocks (b ∷ bs) [] = ⊥
KeptBlocks (b ∷ bs) (c ∷ cs) = (c.start ≡ b.start) × (cs ≡ bs)

pub kept_here : (bs : List Block) → KeptBlocks bs bs
kept_here [] = tt
kept_here (b ∷ bs) = (refl, refl)

pub kept_both : (before bs cs : List Block) → KeptBlocks before bs → KeptBlocks bs cs → KeptBlocks before cs
kept_both [] [] cs h k = k
kept_both [] (b ∷ bs) cs h k = absurd h
kept_both (a ∷ rest) [] cs h k = absurd h
kept_both (a ∷ rest) (b ∷ bs) [] h k = absurd k
kept_both (a ∷ rest) (b ∷ bs) (c ∷ cs) h k = (k.0 ∙ h.0, k.1 ∙ h.1)

-- the scope after some statements: more variables, other names in the innermost block, and all else as it was
abbrev pub after : ScopeForm → List Block → Variables → ScopeForm
after s blocks more = record s { blocks = blocks; variables = s.variables ++ more }

pub record Kept (s t : ScopeForm) (more : Variables) : Type 0 where
  pub same : t ≡ after s t.blocks more
  pub blocks : KeptBlocks s.blocks t.blocks

-- ---- what the typed form does

-- From variables that are followed by those that are not declared yet, a form is well typed, declares as many as the checker
-- did, and returns and calls as the checker said.
pub record Ran (z : Scoping) (t : ScopeForm) (more : Variables) (returns : Bool) (depth k : ℕ) (before : Variables) (used : List ℕ) : Type 0 where
  pub after : List ℕ
  pub is : z (record { variables = before ++ later (length more + k); used = used }) ≡ record { well = true; after = record { variables = t.variables ++ later k; used = after }; returns = returns; depth = depth }
  pub long : length after ≡ length used + length more
  pub below : AreBelow (length t.variables) after

abbrev pub Runs : Scoping → ScopeForm → ScopeForm → Variables → Bool → ℕ → Type 0
Runs z s t more returns depth = (k : ℕ) (used : List ℕ) → AreBelow (length s.variables) used → Ran z t more returns depth k s.variables used
