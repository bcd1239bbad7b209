-- Words that are accepted stay so when `-force` is added at the end.
use Rattle.std.proofs.Common.{◌≡◌, ℕ, ◌+◌, List, [], ◌∷◌, ◌++◌, length, count_by, drop, Bool, true, false, Option, Some, None, not, ◌||◌, cond, refl, sym, ap, ◌∙◌, subst, append-nil, length-append, arith, codes, zero-add}
use Rattle.std.specs.Option.{is_some}
use Rattle.std.specs.List.{filter_map, list_any, cons_option}
use Rattle.std.proofs.lemmas.List.{drop-append-le}
use Rattle.std.proofs.lemmas.List.Elements.{filter_map-append}
use Rattle.std.proofs.lemmas.List.Folds.{list_any-append}
use Rattle.std.proofs.lemmas.List.Sums.{sum_by-cons}
use Rattle.command_line.specs.declared.command.Command.{Command}
use Rattle.command_line.specs.declared.command.Param.{Param as Parameter}
use Rattle.command_line.specs.declared.command.StageFile.{StageFile}
use Rattle.command_line.specs.declared.item.Item.{Item}
use Rattle.command_line.specs.declared.item.Item.TheVariants.{Force as ForceItem}
use Rattle.command_line.specs.declared.option.Kind.{Kind}
use Rattle.command_line.specs.declared.option.Kind.TheVariants.{Force}
use Rattle.command_line.specs.Options.{Rule, following}
use Rattle.command_line.specs.Following.{Value, Follow}
use Rattle.command_line.specs.Items.{command_of, is_whole, made, is_plain, is_stage, plain_in, file_in, own_in, global_in, depth_in, is_force, is_watch, is_verbose, own_params, stage_before, stages}
use Rattle.command_line.specs.CommandWords.{Begins, Spell, ForceIsAccepted, forced}
use Rattle.command_line.proofs.Once.{behind, behind_append}

-- ---- more words behind

follow_wider : (kinds : List ℕ) (rules : List Rule) (words more : List (List ℕ)) (values : List Value) → Follow kinds rules words values → Follow kinds rules (words ++ more) values
follow_wider kinds [] words more [] h = tt
follow_wider kinds [] words more (v ∷ values) h = absurd h
follow_wider kinds (rule ∷ rules) [] more values h = absurd h
follow_wider kinds (rule ∷ rules) (word ∷ words) more [] h = absurd h
follow_wider kinds (rule ∷ rules) (word ∷ words) more (v ∷ values) h = (h.0, follow_wider kinds rules words more values h.1)

begins_wider : (items : List Item) (word : List ℕ) (words more : List (List ℕ)) (kind : Kind) → Begins items word words kind → Begins items word (words ++ more) kind
begins_wider items word words more kind h =
    let e = length-append words more in
    let n = h.enough in
    record { known = h.known; enough = omega arith; placed = h.placed }

spell_wider : (kinds : List ℕ) (before items : List Item) (words last more : List (List ℕ)) → Spell kinds before items words last → Spell kinds before items (words ++ more) (last ++ more)
spell_wider kinds before [] words last more h = ap (λ (x : List (List ℕ)). x ++ more) h
spell_wider kinds before (item ∷ items) [] last more h = absurd h
spell_wider kinds before (item ∷ items) (word ∷ words) last more h = (
  h.0,
  h.1,
  begins_wider before word words more h.0 h.2,
  follow_wider kinds (following h.0) words more h.1 h.3,
  h.4,
  subst (λ (x : List (List ℕ)). Spell kinds (before ++ item ∷ []) items x (last ++ more)) (sym (drop-append-le (length (following h.0)) words more h.2.enough))
      (spell_wider kinds (before ++ item ∷ []) items (drop (length (following h.0)) words) last more h.5),
)

-- ---- one item more

pub spell_then : (kinds : List ℕ) (before items more : List Item) (words middle last : List (List ℕ)) → Spell kinds before items words middle → Spell kinds (behind before items) more middle last → Spell kinds before (items ++ more) words last
spell_then kinds before [] more words middle last h k = subst (λ (x : List (List ℕ)). Spell kinds before more x last) (sym h) k
spell_then kinds before (item ∷ items) more [] middle last h k = absurd h
spell_then kinds before (item ∷ items) more (word ∷ words) middle last h k =
    (h.0, h.1, h.2, h.3, h.4, spell_then kinds (before ++ item ∷ []) items more (drop (length (following h.0)) words) middle last h.5 k)

no_more : {A : Type 0} (pick : Item → Option A) → pick ForceItem ≡ None → filter_map pick (ForceItem ∷ []) ≡ []
no_more pick none = rw none refl

-- `-force` adds nothing to what is picked otherwise
picks_same : {A : Type 0} (pick : Item → Option A) → pick ForceItem ≡ None → (items : List Item) → filter_map pick (items ++ ForceItem ∷ []) ≡ filter_map pick items
picks_same pick none items =
    filter_map-append pick items (ForceItem ∷ []) ∙ (ap (λ x. filter_map pick items ++ x) (no_more pick none) ∙ append-nil (filter_map pick items))

or_false : (a b : Bool) → b ≡ false → (a || b) ≡ a
or_false true b h = refl
or_false false b h = h

any_same : (test : Item → Bool) → test ForceItem ≡ false → (items : List Item) → list_any test (items ++ ForceItem ∷ []) ≡ list_any test items
any_same test none items =
    list_any-append test items (ForceItem ∷ []) ∙ or_false (list_any test items) (list_any test (ForceItem ∷ [])) (rw none refl)

count_same : (test : Item → Bool) → test ForceItem ≡ false → (items : List Item) → count_by test (items ++ ForceItem ∷ []) ≡ count_by test items
count_same test none [] = sum_by-cons (λ (i : Item). cond (test i) 1 0) ForceItem [] ∙ (ap (λ (b : Bool). cond b 1 0 + count_by test []) none ∙ zero-add (count_by test []))
count_same test none (x ∷ items) =
    sum_by-cons (λ (i : Item). cond (test i) 1 0) x (items ++ ForceItem ∷ []) ∙ (ap (λ (n : ℕ). cond (test x) 1 0 + n) (count_same test none items) ∙ sym (sum_by-cons (λ (i : Item). cond (test i) 1 0) x items))

or_true : (a : Bool) → (a || true) ≡ true
or_true true = refl
or_true false = refl

any_force : (items : List Item) → list_any is_force (items ++ ForceItem ∷ []) ≡ true
any_force [] = refl
any_force (item ∷ items) = rw (any_force items) (or_true (is_force item))

made_same : (items : List Item) → made items ≡ None → made (items ++ ForceItem ∷ []) ≡ None
made_same [] h = refl
made_same (item ∷ items) h = h

own_step : (stops : Bool) (own : Option Parameter) (more less : List Parameter) → more ≡ less → cond stops [] (cons_option own more) ≡ cond stops [] (cons_option own less)
own_step true own more less e = refl
own_step false own more less e = ap (cons_option own) e

own_same : (items : List Item) → own_params (items ++ ForceItem ∷ []) ≡ own_params items
own_same [] = refl
own_same (x ∷ items) = own_step (is_stage x) (own_in x) (own_params (items ++ ForceItem ∷ [])) (own_params items) (own_same items)

stage_same : (file : Option (List ℕ)) (items : List Item) (all : List StageFile) → stage_before file (items ++ ForceItem ∷ []) all ≡ stage_before file items all
stage_same None items all = refl
stage_same (Some file) items all = ap (λ (params : List Parameter). (record { file = file; params = params }) ∷ all) (own_same items)

stages_same : (items : List Item) → stages (items ++ ForceItem ∷ []) ≡ stages items
stages_same [] = refl
stages_same (item ∷ items) =
    ap (stage_before (file_in item) (items ++ ForceItem ∷ [])) (stages_same items) ∙ stage_same (file_in item) items (stages items)

spells_force : (kinds : List ℕ) (items : List Item) → made items ≡ None → Spell kinds items (ForceItem ∷ []) (codes "-force" ∷ []) []
spells_force kinds items none =
    (Force, [], record { known = refl; enough = omega arith; placed = ap (λ (x : Option ℕ). not (is_some x)) none }, tt, refl, refl)

whole_same : (items : List Item) → made items ≡ None → is_whole items ≡ true → is_whole (items ++ ForceItem ∷ []) ≡ true
whole_same items none h =
    rw (made_same items none, any_same is_stage refl items, count_same is_plain refl items) (rw none at h)

command_same : (items : List Item) → made items ≡ None → forced (command_of items) ≡ command_of (items ++ ForceItem ∷ [])
unfolding command_of
command_same items none =
    rw (stages_same items, picks_same global_in refl items, picks_same depth_in refl items, any_force items, any_same (is_watch 1) refl items, any_same (is_watch 2) refl items, any_same (is_watch 3) refl items, any_same (is_watch 4) refl items, any_same is_verbose refl items, made_same items none, picks_same plain_in refl items, none) refl

pub force_is_accepted : ForceIsAccepted
unfolding command_of
force_is_accepted kinds words command h without =
    let items = h.0 in
    let none : made items ≡ None = sym (ap (λ (c : Command). c.make) h.3) ∙ without in (
      items ++ ForceItem ∷ [],
      spell_then kinds [] items (ForceItem ∷ []) (words ++ codes "-force" ∷ []) (codes "-force" ∷ []) []
          (spell_wider kinds [] items words [] (codes "-force" ∷ []) h.1)
          (subst (λ (x : List Item). Spell kinds x (ForceItem ∷ []) (codes "-force" ∷ []) []) (sym (behind_append [] items)) (spells_force kinds items none)),
      whole_same items none h.2,
      ap forced h.3 ∙ command_same items none,
    )
