-- The words of an accepted command have the source before the destination.
use Rattle.std.proofs.Common.{◌≡◌, ℕ, ◌+◌, ◌≤◌, List, [], ◌∷◌, ◌++◌, length, count_by, drop, take, Bool, true, false, Option, Some, None, ◌⊎◌, inl, inr, ◌&&◌, ◌||◌, nat_le, cond, refl, sym, ap, ◌∙◌, subst, append_assoc, arith}
use Rattle.std.specs.Option.{is_some}
use Rattle.std.specs.List.{list_any, cons_option}
use Rattle.std.proofs.lemmas.List.{take-append-drop}
use Rattle.std.proofs.lemmas.List.Sums.{sum_by-cons}
use Rattle.std.proofs.lemmas.Bool.Decides.{nat_tests}
use Rattle.command_line.specs.declared.command.Command.{Command}
use Rattle.command_line.specs.declared.item.Item.{Item}
use Rattle.command_line.specs.declared.option.Kind.{Kind}
use Rattle.command_line.specs.declared.option.Kind.TheVariants.{Plain, Stage, Param, Format, Force, Watch, Verbose, Make}
use Rattle.command_line.specs.Options.{following}
use Rattle.command_line.specs.Following.{Value}
use Rattle.command_line.specs.Items.{item_of, command_of, is_whole, made, plains, plain_in, is_plain, is_stage, first_word, rest}
use Rattle.command_line.specs.CommandWords.{Spell, SourceIsFirst, InOrder}

-- the word stands among the words
record Stands (word : List ℕ) (words : List (List ℕ)) : Type 0 where
  front : List (List ℕ)
  back : List (List ℕ)
  joined : words ≡ front ++ word ∷ back

behind_front : (n : ℕ) (first : List ℕ) (words front back : List (List ℕ)) → drop n words ≡ front ++ back → first ∷ words ≡ (first ∷ (take n words ++ front)) ++ back
behind_front n first words front back h =
    ap (λ (x : List (List ℕ)). first ∷ x) (sym (take-append-drop n words) ∙ (ap (λ (x : List (List ℕ)). take n words ++ x) h ∙ sym (append_assoc (take n words) front back)))

stands_behind : (n : ℕ) (first word : List ℕ) (words : List (List ℕ)) → Stands word (drop n words) → Stands word (first ∷ words)
stands_behind n first word words h =
    record { front = first ∷ (take n words ++ h.front); back = h.back; joined = behind_front n first words h.front (word ∷ h.back) h.joined }

order_behind : (n : ℕ) (first one two : List ℕ) (words : List (List ℕ)) → InOrder one two (drop n words) → InOrder one two (first ∷ words)
order_behind n first one two words h =
    (first ∷ (take n words ++ h.0), h.1, h.2, behind_front n first words h.0 (one ∷ (h.1 ++ two ∷ h.2)) h.3)

order_here : (n : ℕ) (first two : List ℕ) (words : List (List ℕ)) → Stands two (drop n words) → InOrder first two (first ∷ words)
order_here n first two words h =
    ([], take n words ++ h.front, h.back, ap (λ (x : List (List ℕ)). first ∷ x) (sym (take-append-drop n words) ∙ (ap (λ (x : List (List ℕ)). take n words ++ x) h.joined ∙ sym (append_assoc (take n words) h.front (two ∷ h.back)))))

-- an item is plain by its first word
plain_word : (word : List ℕ) (kind : Kind) (values : List Value) → (plain_in (item_of word kind values) ≡ None) ⊎ (plain_in (item_of word kind values) ≡ Some word)
plain_word word Plain values = inr refl
plain_word word Stage values = inl refl
plain_word word (Param is_global count) values = inl refl
plain_word word Format values = inl refl
plain_word word Force values = inl refl
plain_word word Watch values = inl refl
plain_word word Verbose values = inl refl
plain_word word Make values = inl refl

plain_here : (word : List ℕ) (item : Item) (kind : Kind) (values : List Value) → item ≡ item_of word kind values → (plain_in item ≡ None) ⊎ (plain_in item ≡ Some word)
plain_here word item kind values e = subst (λ (x : Item). (plain_in x ≡ None) ⊎ (plain_in x ≡ Some word)) (sym e) (plain_word word kind values)

plains_without : (item : Item) (items : List Item) → plain_in item ≡ None → plains (item ∷ items) ≡ plains items
plains_without item items e = ap (λ (x : Option (List ℕ)). cons_option x (plains items)) e

plains_with : (word : List ℕ) (item : Item) (items : List Item) → plain_in item ≡ Some word → plains (item ∷ items) ≡ word ∷ plains items
plains_with word item items e = ap (λ (x : Option (List ℕ)). cons_option x (plains items)) e

head_same : (x y : List ℕ) (xs ys : List (List ℕ)) → x ∷ xs ≡ y ∷ ys → x ≡ y
head_same x y xs ys e = cc

tail_same : (x y : List ℕ) (xs ys : List (List ℕ)) → x ∷ xs ≡ y ∷ ys → xs ≡ ys
tail_same x y xs ys e = cc

stands_first : (n : ℕ) (first word : List ℕ) (words : List (List ℕ)) → first ≡ word → Stands word (first ∷ words)
stands_first n first word words e = record { front = []; back = words; joined = ap (λ (x : List ℕ). x ∷ words) e }

-- the first plain word stands among the words
first_stands : (kinds : List ℕ) (before items : List Item) (words last : List (List ℕ)) (one : List ℕ) (more : List (List ℕ)) → Spell kinds before items words last → plains items ≡ one ∷ more → Stands one words
first_stands kinds before [] words last one more h e = cc
first_stands kinds before (item ∷ items) [] last one more h e = absurd h
first_stands kinds before (item ∷ items) (word ∷ words) last one more h e =
    elim (plain_here word item h.0 h.1 h.4) [
      | inl none ↦ stands_behind (length (following h.0)) word one words (first_stands kinds (before ++ item ∷ []) items (drop (length (following h.0)) words) last one more h.5 (sym (plains_without item items none) ∙ e))
      | inr some ↦ stands_first 0 word one words (head_same word one (plains items) more (sym (plains_with word item items some) ∙ e))
    ]

-- the first plain word stands before the second
in_order : (kinds : List ℕ) (before items : List Item) (words last : List (List ℕ)) (one two : List ℕ) (more : List (List ℕ)) → Spell kinds before items words last → plains items ≡ one ∷ two ∷ more → InOrder one two words
in_order kinds before [] words last one two more h e = cc
in_order kinds before (item ∷ items) [] last one two more h e = absurd h
in_order kinds before (item ∷ items) (word ∷ words) last one two more h e =
    elim (plain_here word item h.0 h.1 h.4) [
      | inl none ↦ order_behind (length (following h.0)) word one two words (in_order kinds (before ++ item ∷ []) items (drop (length (following h.0)) words) last one two more h.5 (sym (plains_without item items none) ∙ e))
      | inr some ↦
          let whole : word ∷ plains items ≡ one ∷ two ∷ more = sym (plains_with word item items some) ∙ e in
          let behind = first_stands kinds (before ++ item ∷ []) items (drop (length (following h.0)) words) last two more h.5 (tail_same word one (plains items) (two ∷ more) whole) in
          subst (λ (x : List ℕ). InOrder x two (word ∷ words)) (head_same word one (plains items) (two ∷ more) whole) (order_here (length (following h.0)) word two words behind)
    ]

-- two plain words at least
two_of : (words : List (List ℕ)) → 2 ≤ length words → (one : List ℕ) × (two : List ℕ) × (more : List (List ℕ)) × (words ≡ one ∷ two ∷ more)
two_of [] h = absurd (omega arith)
two_of (one ∷ []) h = absurd (omega arith)
two_of (one ∷ two ∷ more) h = (one, two, more, refl)

and_right : (a b : Bool) → (a && b) ≡ true → b ≡ true
and_right true b h = h
and_right false b h = cc

count_step : (word : Option (List ℕ)) (n : ℕ) (words : List (List ℕ)) → n ≡ length words → cond (is_some word) 1 0 + n ≡ length (cons_option word words)
count_step None n words e = omega arith
count_step (Some word) n words e = omega arith

plain_count : (items : List Item) → count_by is_plain items ≡ length (plains items)
plain_count [] = refl
plain_count (x ∷ items) = sum_by-cons (λ (i : Item). cond (is_plain i) 1 0) x items ∙ count_step (plain_in x) (count_by is_plain items) (plains items) (plain_count items)

two_plains : (items : List Item) → is_whole items ≡ true → made items ≡ None → 2 ≤ length (plains items)
two_plains items h none =
    let e : (is_some (made items) || (list_any is_stage items && nat_le 2 (count_by is_plain items))) ≡ true = h in
    let f : (list_any is_stage items && nat_le 2 (count_by is_plain items)) ≡ true = rw none at e in
    let g : nat_le 2 (count_by is_plain items) ≡ true = and_right (list_any is_stage items) (nat_le 2 (count_by is_plain items)) f in
    let c = plain_count items in
    grind (arith, nat_tests)

pub source_is_first : SourceIsFirst
unfolding command_of
source_is_first kinds words command h without =
    let items = h.0 in
    let none : made items ≡ None = sym (ap (λ (c : Command). c.make) h.3) ∙ without in
    let two = two_of (plains items) (two_plains items h.2 none) in
    let source : command.source ≡ two.0 = ap (λ (c : Command). c.source) h.3 ∙ ap (λ (x : List (List ℕ)). first_word x) two.3 in
    let destination : command.destination ≡ two.1 = ap (λ (c : Command). c.destination) h.3 ∙ ap (λ (x : List (List ℕ)). first_word (rest x)) two.3 in
    subst (λ (x : List ℕ). InOrder x command.destination words) (sym source)
    (subst (λ (x : List ℕ). InOrder two.0 x words) (sym destination) (in_order kinds [] items words [] two.0 two.1 two.2 h.1 two.3))
