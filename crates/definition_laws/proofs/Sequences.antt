-- Statements one after another, and scopes of their own.
use Rattle.std.proofs.Common.{◌≡◌, ℕ, zero, suc, ◌+◌, ◌-◌, ◌≤◌, ◌<◌, List, [], ◌∷◌, ◌++◌, length, take, replicate, Option, Some, None, Bool, true, false, ◌&&◌, ◌||◌, refl, sym, ap, subst, ◌∙◌, arith, length-append}
use Rattle.std.specs.Prelude.{max}
use Rattle.std.proofs.lemmas.List.{append_assoc, append-nil, length-replicate}
use Rattle.ctl_types.specs.Typing.{Variable, Variables, Scene, shape_stands}
use Rattle.ctl_types.specs.Scoping.{Scope, Scoped, Scoping, simple, own_scope, closed}
use Rattle.ctl_types.specs.Definitions.{Defined}
use Rattle.ctl_scope.specs.declared.block.Block.{Block}
use Rattle.ctl_scope.specs.Scope.{ScopeForm, IsScope}
use Rattle.ctl_scope.specs.Beside.{Beside, scene}
use Rattle.ctl_scope.specs.Changes.{entered, left, left_from, empty_block, hidden_from}
use Rattle.ctl_check_laws.specs.Accepted.{variables_stand}
use Rattle.definition_laws.proofs.Standing.{Standing}
use Rattle.definition_laws.proofs.Lists.{none_more, later, later_both, take_front, AreBelow, below_more}
use Rattle.definition_laws.proofs.Scopes.{KeptBlocks, kept_here, kept_both, after, Kept, Ran, Runs}

-- ---- variables that stand

both : (a b : Bool) → (a && b) ≡ true → (a ≡ true) × (b ≡ true)
both true b h = (refl, h)
both false b h = absurd (cc)

pub stand_both : (x : Scene) (vs ws : Variables) → variables_stand x vs ≡ true → variables_stand x ws ≡ true → variables_stand x (vs ++ ws) ≡ true
stand_both x [] ws h k = k
stand_both x (None ∷ vs) ws h k = stand_both x vs ws h k
stand_both x (Some v ∷ vs) ws h k =
    let p = both (shape_stands x v.shape) _ h in
    rw p.0 (stand_both x vs ws p.1 k)

pub later_stand : (x : Scene) (m : ℕ) → variables_stand x (later m) ≡ true
later_stand x zero = refl
later_stand x (suc m) = later_stand x m

pub kept_self : (s : ScopeForm) → Kept s s []
kept_self s = record { same = ap (λ vs. record s { variables = vs }) (sym (append-nil s.variables)); blocks = kept_here s.blocks }

module _ (d : Defined) (n : ℕ) where
  -- what the checker made of a statement, with the scope after it, is typed as it said
  pub record Fine (z : Scoping) (s t : ScopeForm) (returns : Bool) (depth : ℕ) : Type 0 where
    pub more : Variables
    pub kept : Kept s t more
    pub standing : Standing d n t
    pub runs : Runs z s t more returns depth

  -- ---- scopes that stand

  pub standing_after : (s t : ScopeForm) (blocks : List Block) (more : Variables) → Standing d n s → t ≡ after s blocks more → IsScope t → 0 < length blocks → variables_stand (scene s d) more ≡ true → Standing d n t
  standing_after s t blocks more h same is inside stand =
      let made : Standing d n (after s blocks more) = record {
        scope = subst (λ (t : ScopeForm). IsScope t) same is;
        beside = record { counts = h.beside.counts; constants = h.beside.constants; depths = h.beside.depths; functions = h.beside.functions };
        unit = h.unit;
        sees = h.sees;
        inside = inside;
        variables = stand_both (scene s d) s.variables more h.variables stand;
      } in
      subst (λ (t : ScopeForm). Standing d n t) (sym same) made

  -- ---- what declares nothing

  pub fine_simple : (s : ScopeForm) (depth : ℕ) → Standing d n s → Fine (simple true depth) s s false depth
  fine_simple s depth h = record {
    more = [];
    kept = kept_self s;
    standing = h;
    runs = λ k used b. record { after = used; is = ap (λ j. simple true depth (record { variables = s.variables ++ later j; used = used })) (none_more k); long = omega arith; below = b };
  }

  -- ---- one after another

  abbrev pub then_from : (Bool → Bool → Bool) → Scoping → Scoped → Scoped
  then_from f z p = record { well = p.well && (z p.after).well; after = (z p.after).after; returns = f p.returns (z p.after).returns; depth = max p.depth (z p.after).depth }

  abbrev pub then_runs : (Bool → Bool → Bool) → Scoping → Scoping → Scoping
  then_runs f y z scope = then_from f z (y scope)

  pub kept_then : (s t u : ScopeForm) (more rest : Variables) → Kept s t more → Kept t u rest → Kept s u (more ++ rest)
  kept_then s t u more rest h k = record {
    same = k.same ∙ ap (λ (t : ScopeForm). after t u.blocks rest) h.same ∙ ap (λ vs. record s { blocks = u.blocks; variables = vs }) (append_assoc s.variables more rest);
    blocks = kept_both s.blocks t.blocks u.blocks h.blocks k.blocks;
  }

  longer : (s t : ScopeForm) (more : Variables) → Kept s t more → length t.variables ≡ length s.variables + length more
  longer s t more h = ap (λ (t : ScopeForm). length t.variables) h.same ∙ length-append s.variables more

  runs_then : (f : Bool → Bool → Bool) (y z : Scoping) (s t u : ScopeForm) (more rest : Variables) (a b : Bool) (m l : ℕ) → Runs y s t more a m → Runs z t u rest b l → Runs (then_runs f y z) s u (more ++ rest) (f a b) (max m l)
  runs_then f y z s t u more rest a b m l h g k used below =
      let first = h (length rest + k) used below in
      let next = g k first.after first.below in
      let long : length (more ++ rest) ≡ length more + length rest = length-append more rest in
      let same : length (more ++ rest) + k ≡ length more + (length rest + k) = omega arith in
      let start : ◌≡◌ {A = Scope} (record { variables = s.variables ++ later (length (more ++ rest) + k); used = used }) (record { variables = s.variables ++ later (length more + (length rest + k)); used = used }) = ap (λ j. record { variables = s.variables ++ later j; used = used }) same in
      let l1 = first.long in
      let l2 = next.long in
      record {
        after = next.after;
        is = ap (λ (scope : Scope). then_runs f y z scope) start ∙ step (y (record { variables = s.variables ++ later (length more + (length rest + k)); used = used })) first.is (z (record { variables = t.variables ++ later (length rest + k); used = first.after })) refl next.is;
        long = omega arith;
        below = next.below;
      }
    where
      step : (p : Scoped) {T : Scope} → p ≡ record { well = true; after = T; returns = a; depth = m } → (q : Scoped) → z T ≡ q → {U : Scope} → q ≡ record { well = true; after = U; returns = b; depth = l }
          → then_from f z p ≡ record { well = true; after = U; returns = f a b; depth = max m l }
      step p {T} e q i {U} j =
          ap (λ (p : Scoped). then_from f z p) e
          ∙ ap (λ (q : Scoped). record { well = q.well; after = q.after; returns = f a q.returns; depth = max m q.depth }) (i ∙ j)

  pub fine_then : (f : Bool → Bool → Bool) (y z : Scoping) (s t u : ScopeForm) (a b : Bool) (m l : ℕ) → Fine y s t a m → Fine z t u b l → Fine (then_runs f y z) s u (f a b) (max m l)
  fine_then f y z s t u a b m l h g = record {
    more = h.more ++ g.more;
    kept = kept_then s t u h.more g.more h.kept g.kept;
    standing = g.standing;
    runs = runs_then f y z s t u h.more g.more a b m l h.runs g.runs;
  }

  -- ---- a scope of its own

  hidden : (vs more : Variables) (start : ℕ) → start ≡ length vs → hidden_from start (vs ++ more) ≡ vs ++ later (length more)
  hidden vs more start e =
      let long : length (vs ++ more) ≡ length vs + length more = length-append vs more in
      let less : length (vs ++ more) - length vs ≡ length more = omega arith in
      ap (λ j. hidden_from j (vs ++ more)) e ∙ ap (λ j. take (length vs) (vs ++ more) ++ replicate j None) less ∙ ap (λ us. us ++ later (length more)) (take_front vs more)

  left_is : (s : ScopeForm) (b : Block) (bs : List Block) (t : ScopeForm) (more : Variables) → s.blocks ≡ b ∷ bs → (blocks : List Block) → t ≡ after (entered s) blocks more → KeptBlocks (empty_block (length s.variables) ∷ b ∷ bs) blocks → left t ≡ after s (b ∷ bs) (later (length more))
  left_is s b bs t more around [] same h = absurd h
  left_is s b bs t more around (c ∷ cs) same h =
      ap (λ (t : ScopeForm). left t) same
      ∙ ap (λ cs. left_from (c ∷ cs) (after (entered s) (c ∷ cs) more)) h.1
      ∙ ap (λ vs. record s { blocks = b ∷ bs; variables = vs }) (hidden s.variables more c.start h.0)

  pub fine_own : (z : Scoping) (s t : ScopeForm) (returns : Bool) (depth : ℕ) → Standing d n s → IsScope (left t) → Fine z (entered s) t returns depth → Fine (own_scope z) s (left t) returns depth
  fine_own z s t returns depth h is g = by s.blocks refl h.inside where
    by : (blocks : List Block) → s.blocks ≡ blocks → 0 < length blocks → Fine (own_scope z) s (left t) returns depth
    by [] e l = absurd (omega arith)
    by (b ∷ bs) e l =
        let m = length g.more in
        let same : left t ≡ after s (b ∷ bs) (later m) = left_is s b bs t g.more e t.blocks g.kept.same (subst (λ bs. KeptBlocks (empty_block (length s.variables) ∷ bs) t.blocks) e g.kept.blocks) in
        let long : length t.variables ≡ length s.variables + m = ap (λ (t : ScopeForm). length t.variables) g.kept.same ∙ length-append s.variables g.more in
        let wide : length (later m) ≡ m = length-replicate m None in
        let variables : (left t).variables ≡ s.variables ++ later m = ap (λ (t : ScopeForm). t.variables) same in
        let left_long : length (left t).variables ≡ length s.variables + m = ap (λ (vs : Variables). length vs) variables ∙ length-append s.variables (later m) ∙ ap (λ j. length s.variables + j) wide in
        let left_blocks : (left t).blocks ≡ b ∷ bs = ap (λ (t : ScopeForm). t.blocks) same in
        record {
          more = later m;
          kept = record { same = same ∙ ap (λ bs. after s bs (later m)) (sym left_blocks); blocks = subst (λ bs. KeptBlocks bs (left t).blocks) (sym e) (subst (λ cs. KeptBlocks (b ∷ bs) cs) (sym left_blocks) (refl, refl)) };
          standing = standing_after s (left t) (b ∷ bs) (later m) h same is l (later_stand (scene s d) m);
          runs = λ k used below.
              let ran = g.runs k used below in
              let start : s.variables ++ later (length (later m) + k) ≡ s.variables ++ later (m + k) = ap (λ j. s.variables ++ later (j + k)) wide in
              let ends : s.variables ++ later (m + k) ≡ (left t).variables ++ later k = later_both s.variables m k ∙ ap (λ vs. vs ++ later k) (sym variables) in
              let l1 = ran.long in
              record {
                after = ran.after;
                is = ap (λ vs. own_scope z (record { variables = vs; used = used })) start
                    ∙ ap (λ (p : Scoped). record { well = p.well; after = closed (record { variables = s.variables ++ later (m + k); used = used }) p.after; returns = p.returns; depth = p.depth }) ran.is
                    ∙ ap (λ vs. record { well = true; after = record { variables = vs; used = ran.after }; returns = returns; depth = depth }) ends;
                long = l1 ∙ ap (λ j. length used + j) (sym wide);
                below = below_more (length t.variables) (length (left t).variables) ran.after (omega arith) ran.below;
              };
        }
