-- Words that mean nothing are impossible.
use Rattle.std.proofs.Common.{◌≡◌, ℕ, ◌+◌, ◌-◌, ◌≤◌, List, [], ◌∷◌, ◌++◌, length, drop, Bool, true, false, Option, Some, None, Ok, Err, ◌⊎◌, inl, inr, refl, sym, ap, ◌∙◌, subst, length-drop, arith, zero, suc}
use Rattle.std.proofs.lemmas.Bool.Decides.{leb_tells}
use Rattle.command_line.specs.declared.item.Item.{Item}
use Rattle.command_line.specs.declared.option.Kind.{Kind}
use Rattle.command_line.specs.Options.{Rule, kind_of, following}
use Rattle.command_line.specs.Following.{Value, Follow, Break}
use Rattle.command_line.specs.Items.{item_of, command_of, is_whole, may_follow}
use Rattle.command_line.specs.CommandWords.{Begins, Spell, FailsAt, SomeMeaning}
use Rattle.command_line.proofs.Once.{behind, behind_append}

-- ---- the words behind an option pass, or one fails

follow_or : (kinds : List ℕ) (rules : List Rule) (words : List (List ℕ)) → length rules ≤ length words → ((values : List Value) → Follow kinds rules words values → ⊥) → ((values : List Value) → Break kinds rules words values → ⊥) → ⊥
follow_or kinds [] words h ended failed = ended [] tt
follow_or kinds (rule ∷ rules) [] h ended failed = absurd (omega arith)
follow_or kinds (rule ∷ rules) (word ∷ words) h ended failed =
    let fits : length rules ≤ length words = omega arith in
    failed [] (λ value says. follow_or kinds rules words fits (λ values f. ended (value ∷ values) (says, f)) (λ values b. failed (value ∷ values) (says, b)))

-- ---- a word begins something, or nothing

same_kind : (k l : Kind) → Some k ≡ Some l → k ≡ l
same_kind k l e = cc

placed_by : (items : List Item) (word : List ℕ) (words : List (List ℕ)) (kind : Kind) (test : Bool) → kind_of word ≡ Some kind → length (following kind) ≤ length words → may_follow items kind ≡ test → ((k : Kind) × Begins items word words k) ⊎ ((k : Kind) → Begins items word words k → ⊥)
placed_by items word words kind true e h p = inl (kind, record { known = e; enough = h; placed = p })
placed_by items word words kind false e h p = inr (λ k b.
    let same : kind ≡ k = same_kind kind k (sym e ∙ b.known) in
    let placed : may_follow items kind ≡ true = subst (λ (x : Kind). may_follow items x ≡ true) (sym same) b.placed in
    cc)

begins_by : (items : List Item) (word : List ℕ) (words : List (List ℕ)) (kind : Option Kind) → kind_of word ≡ kind → ((k : Kind) × Begins items word words k) ⊎ ((k : Kind) → Begins items word words k → ⊥)
begins_by items word words None e = inr (λ k b. let known = b.known in cc)
begins_by items word words (Some kind) e =
    elim (leb_tells (length (following kind)) (length words)) [
      | inl h ↦ placed_by items word words kind (may_follow items kind) e h.1 refl
      | inr h ↦ inr (λ k b.
          let enough : length (following kind) ≤ length words = subst (λ (x : Kind). length (following x) ≤ length words) (sym (same_kind kind k (sym e ∙ b.known))) b.enough in
          let short = h.1 in
          absurd (omega arith))
    ]

-- ---- items

-- what stands last is no longer than all
shorter : (kinds : List ℕ) (before items : List Item) (words last : List (List ℕ)) → Spell kinds before items words last → length last ≤ length words
shorter kinds before [] words last h = let e = ap length h in omega arith
shorter kinds before (item ∷ items) [] last h = absurd h
shorter kinds before (item ∷ items) (word ∷ words) last h =
    let n = length (following h.0) in
    let e = length-drop n words in
    let f : length last ≤ length (drop n words) = shorter kinds (before ++ item ∷ []) items (drop n words) last h.5 in
    omega arith

end_by : (kinds : List ℕ) (before : List Item) (test : Bool) → is_whole before ≡ test → (is_whole before ≡ true → ⊥) → (FailsAt kinds before [] 0 → ⊥) → ⊥
end_by kinds before true e ended failed = ended e
end_by kinds before false e ended failed = failed (e, refl)

-- all words are items, or some word fails behind items
some_end : (n : ℕ) (kinds : List ℕ) (before : List Item) (words : List (List ℕ)) → length words ≤ n
    → ((items : List Item) → Spell kinds before items words [] → is_whole (behind before items) ≡ true → ⊥)
    → ((items : List Item) (last : List (List ℕ)) (place : ℕ) → Spell kinds before items words last → FailsAt kinds (behind before items) last place → ⊥) → ⊥
some_end n kinds before [] h ended failed = end_by kinds before (is_whole before) refl (ended [] refl) (failed [] [] 0 refl)
some_end zero kinds before (word ∷ words) h ended failed = absurd (omega arith)
some_end (suc n) kinds before (word ∷ words) h ended failed =
    elim (begins_by before word words (kind_of word) refl) [
      | inl b ↦ follow_or kinds (following b.0) words b.1.enough
          (λ values f.
          let count = length (following b.0) in
          let e = length-drop count words in
          let fits : length (drop count words) ≤ n = omega arith in
          some_end n kinds (before ++ item_of word b.0 values ∷ []) (drop count words) fits
          (λ items s w. ended (item_of word b.0 values ∷ items) (b.0, values, b.1, f, refl, s) w)
          (λ items last place s w. failed (item_of word b.0 values ∷ items) last place (b.0, values, b.1, f, refl, s) w))
          (λ values f. failed [] (word ∷ words) (length values + 1) refl (inr (b.0, values, b.1, f, refl)))
      | inr none ↦ failed [] (word ∷ words) 0 refl (inl (none, refl))
    ]

pub some_meaning : SomeMeaning
some_meaning kinds words none =
    some_end (length words) kinds [] words (omega arith)
    (λ items s w. none (Ok (command_of items)) (items, s, subst (λ (x : List Item). is_whole x ≡ true) (behind_append [] items) w, refl))
    (λ items last place s f.
    let l : length last ≤ length words = shorter kinds [] items words last s in
    none (Err (length words - length last + place)) (items, last, place, s, subst (λ (x : List Item). FailsAt kinds x last place) (behind_append [] items) f, omega arith))
