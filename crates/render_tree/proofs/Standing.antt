-- The stage of a program that keeps the rules.
use Rattle.std.proofs.Common.{◌≡◌, ℕ, Option, Some, None, Bool, true, false, if◌then◌else◌, refl, ap, sym, ◌∙◌, subst, slice_get}
use Rattle.ctl_types.specs.declared.program.Function.{Function}
use Rattle.ctl_types.specs.Scoping.{ProgramForm, IsProgram, entry_stands, is_entry}
use Rattle.render_tree.specs.PixelRun.{StageForm}
use Rattle.render_tree.specs.Stages.{IsStage, is_simple_entry, stage_at, stage_of}
use Rattle.render_tree.specs.Laws.{StagesKeepRules}

stage_at_entry : (p : ProgramForm) → IsProgram p → (k : ℕ) (o : Option Function) → slice_get p.definitions.functions k ≡ o → is_entry o ≡ true → is_simple_entry o ≡ true → IsStage (record { definitions = p.definitions; entry = k })
stage_at_entry p is k None e plain simple = absurd (cc)
stage_at_entry p is k (Some f) e plain simple = record { defined = is.defined; function = f; there = e; plain = plain; simple = simple }

-- an entry of the simple form makes a stage
pub stage_stands : (p : ProgramForm) → IsProgram p → (k : ℕ) → Some k ≡ p.entry → is_simple_entry (slice_get p.definitions.functions k) ≡ true → IsStage (record { definitions = p.definitions; entry = k })
stage_stands p is k e simple =
    let P : Option ℕ → Type 0 = λ o. entry_stands p.definitions o ≡ true in
    stage_at_entry p is k (slice_get p.definitions.functions k) refl (subst P (sym e) is.entry) simple

-- another entry makes none
pub no_stage : (p : ProgramForm) (k : ℕ) → Some k ≡ p.entry → is_simple_entry (slice_get p.definitions.functions k) ≡ false → None ≡ stage_of p
no_stage p k e h =
    let s : StageForm = record { definitions = p.definitions; entry = k } in
    ap (λ (t : Bool). if t then Some s else None) (sym h) ∙ ap (stage_at p) e

-- what is the stage of a program is one
stage_by : (p : ProgramForm) → IsProgram p → (k : ℕ) → Some k ≡ p.entry → (t : Bool) → is_simple_entry (slice_get p.definitions.functions k) ≡ t → (s : StageForm)
    → (if t then Some (record { definitions = p.definitions; entry = k }) else None) ≡ Some s → IsStage s
stage_by p is k e true h s same = let q : record { definitions = p.definitions; entry = k } ≡ s = cc in subst IsStage q (stage_stands p is k e h)
stage_by p is k e false h s same = absurd (cc)

stage_in : (p : ProgramForm) → IsProgram p → (o : Option ℕ) → o ≡ p.entry → (s : StageForm) → stage_at p o ≡ Some s → IsStage s
stage_in p is None e s h = absurd (cc)
stage_in p is (Some k) e s h = stage_by p is k e (is_simple_entry (slice_get p.definitions.functions k)) refl s h

pub stages_keep_rules : StagesKeepRules
stages_keep_rules = λ p is s h. stage_in p is p.entry refl s h
