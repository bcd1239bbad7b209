-- Words mean one thing.
use Rattle.std.proofs.Common.{◌≡◌, ℕ, List, [], ◌∷◌, ◌++◌, length, drop, true, Some, Ok, Err, inl, inr, refl, sym, ap, ◌∙◌, subst, append_assoc, append-nil, arith}
use Rattle.fix_num.specs.Decimal.{SpellsOnce, decimal_raw}
use Rattle.fix_num.specs.declared.TheConstants.{FRACTION}
use Rattle.command_line.specs.declared.command.Command.{Command}
use Rattle.command_line.specs.declared.item.Item.{Item}
use Rattle.command_line.specs.declared.option.Kind.{Kind}
use Rattle.command_line.specs.Options.{Rule, File, Name, Number, Depth, Watcher, Whole, following}
use Rattle.command_line.specs.Following.{Value, Text, Raw, Natural, Says, Follow, Break}
use Rattle.command_line.specs.Items.{item_of, command_of, is_whole}
use Rattle.command_line.specs.CommandWords.{Begins, Spell, FailsAt, CommandWords, OneMeaning}

-- ---- one word

text_said : (kinds : List ℕ) (word : List ℕ) (v : Value) → Says kinds File word v → v ≡ Text word
text_said kinds word (Text bytes) h = ap Text h
text_said kinds word (Raw x) h = absurd h
text_said kinds word (Natural n) h = absurd h

name_said : (kinds : List ℕ) (word : List ℕ) (v : Value) → Says kinds Name word v → v ≡ Text word
name_said kinds word (Text bytes) h = ap Text h.1
name_said kinds word (Raw x) h = absurd h
name_said kinds word (Natural n) h = absurd h

number_once : SpellsOnce → (kinds : List ℕ) (word : List ℕ) (v w : Value) → Says kinds Number word v → Says kinds Number word w → v ≡ w
number_once once kinds word (Raw x) (Raw y) h k = ap Raw (h.3 ∙ (ap (decimal_raw FRACTION) (once word h.0 k.0 h.1 k.1) ∙ sym k.3))
number_once once kinds word (Raw x) (Text b) h k = absurd k
number_once once kinds word (Raw x) (Natural n) h k = absurd k
number_once once kinds word (Text b) w h k = absurd h
number_once once kinds word (Natural n) w h k = absurd h

depth_once : (kinds : List ℕ) (word : List ℕ) (v w : Value) → Says kinds Depth word v → Says kinds Depth word w → v ≡ w
depth_once kinds word (Natural m) (Natural n) h k = let e : Some m ≡ Some n = sym h ∙ k in cc
depth_once kinds word (Natural m) (Text b) h k = absurd k
depth_once kinds word (Natural m) (Raw x) h k = absurd k
depth_once kinds word (Text b) w h k = absurd h
depth_once kinds word (Raw x) w h k = absurd h

watcher_once : (kinds : List ℕ) (word : List ℕ) (v w : Value) → Says kinds Watcher word v → Says kinds Watcher word w → v ≡ w
watcher_once kinds word (Natural m) (Natural n) h k = let e : Some m ≡ Some n = sym h ∙ k in cc
watcher_once kinds word (Natural m) (Text b) h k = absurd k
watcher_once kinds word (Natural m) (Raw x) h k = absurd k
watcher_once kinds word (Text b) w h k = absurd h
watcher_once kinds word (Raw x) w h k = absurd h

whole_once : (kinds : List ℕ) (word : List ℕ) (v w : Value) → Says kinds Whole word v → Says kinds Whole word w → v ≡ w
whole_once kinds word (Natural m) (Natural n) h k = ap Natural (h.value ∙ sym k.value)
whole_once kinds word (Natural m) (Text b) h k = absurd k
whole_once kinds word (Natural m) (Raw x) h k = absurd k
whole_once kinds word (Text b) w h k = absurd h
whole_once kinds word (Raw x) w h k = absurd h

-- what a word says is one thing
pub says_once : SpellsOnce → (kinds : List ℕ) (rule : Rule) (word : List ℕ) (v w : Value) → Says kinds rule word v → Says kinds rule word w → v ≡ w
says_once once kinds File word v w h k = text_said kinds word v h ∙ sym (text_said kinds word w k)
says_once once kinds Name word v w h k = name_said kinds word v h ∙ sym (name_said kinds word w k)
says_once once kinds Number word v w h k = number_once once kinds word v w h k
says_once once kinds Depth word v w h k = depth_once kinds word v w h k
says_once once kinds Watcher word v w h k = watcher_once kinds word v w h k
says_once once kinds Whole word v w h k = whole_once kinds word v w h k

-- ---- the words behind an option

cons_both : {A : Type 0} (x y : A) (xs ys : List A) → x ≡ y → xs ≡ ys → x ∷ xs ≡ y ∷ ys
cons_both x y xs ys e f = cc

follow_once : SpellsOnce → (kinds : List ℕ) (rules : List Rule) (words : List (List ℕ)) (vs ws : List Value) → Follow kinds rules words vs → Follow kinds rules words ws → vs ≡ ws
follow_once once kinds [] words [] [] h k = refl
follow_once once kinds [] words [] (w ∷ ws) h k = absurd k
follow_once once kinds [] words (v ∷ vs) ws h k = absurd h
follow_once once kinds (rule ∷ rules) [] vs ws h k = absurd h
follow_once once kinds (rule ∷ rules) (word ∷ words) [] ws h k = absurd h
follow_once once kinds (rule ∷ rules) (word ∷ words) (v ∷ vs) [] h k = absurd k
follow_once once kinds (rule ∷ rules) (word ∷ words) (v ∷ vs) (w ∷ ws) h k =
    cons_both v w vs ws (says_once once kinds rule word v w h.0 k.0) (follow_once once kinds rules words vs ws h.1 k.1)

break_once : SpellsOnce → (kinds : List ℕ) (rules : List Rule) (words : List (List ℕ)) (vs ws : List Value) → Break kinds rules words vs → Break kinds rules words ws → length vs ≡ length ws
break_once once kinds [] words vs ws h k = absurd h
break_once once kinds (rule ∷ rules) [] vs ws h k = absurd h
break_once once kinds (rule ∷ rules) (word ∷ words) [] [] h k = refl
break_once once kinds (rule ∷ rules) (word ∷ words) [] (w ∷ ws) h k = absurd (h w k.0)
break_once once kinds (rule ∷ rules) (word ∷ words) (v ∷ vs) [] h k = absurd (k v h.0)
break_once once kinds (rule ∷ rules) (word ∷ words) (v ∷ vs) (w ∷ ws) h k =
    let e = break_once once kinds rules words vs ws h.1 k.1 in omega arith

follow_no_break : (kinds : List ℕ) (rules : List Rule) (words : List (List ℕ)) (vs ws : List Value) → Follow kinds rules words vs → Break kinds rules words ws → ⊥
follow_no_break kinds [] words vs ws h k = k
follow_no_break kinds (rule ∷ rules) [] vs ws h k = k
follow_no_break kinds (rule ∷ rules) (word ∷ words) [] ws h k = h
follow_no_break kinds (rule ∷ rules) (word ∷ words) (v ∷ vs) [] h k = k v h.0
follow_no_break kinds (rule ∷ rules) (word ∷ words) (v ∷ vs) (w ∷ ws) h k = follow_no_break kinds rules words vs ws h.1 k.1

-- ---- items

some_same : {A : Type 0} (x y : A) → Some x ≡ Some y → x ≡ y
some_same x y e = cc

begins_once : (items : List Item) (word : List ℕ) (words : List (List ℕ)) (k l : Kind) → Begins items word words k → Begins items word words l → k ≡ l
begins_once items word words k l h g = some_same k l (sym h.known ∙ g.known)

-- items behind others
abbrev pub behind : List Item → List Item → List Item
behind before [] = before
behind before (item ∷ items) = behind (before ++ item ∷ []) items

pub behind_append : (before items : List Item) → behind before items ≡ before ++ items
behind_append before [] = sym (append-nil before)
behind_append before (item ∷ items) = behind_append (before ++ item ∷ []) items ∙ append_assoc before (item ∷ []) items

-- no item stands at the first of the words
abbrev pub Stops : List ℕ → List Item → List (List ℕ) → Type 0
Stops kinds items [] = Unit {0}
Stops kinds items (word ∷ words) = (kind : Kind) (values : List Value) → Begins items word words kind → Follow kinds (following kind) words values → ⊥

-- the items behind a word of this kind, and where they stop
abbrev RestOf : List ℕ → List Item → Item → List Item → List ℕ → List (List ℕ) → List (List ℕ) → Kind → Type 0
RestOf kinds before item items word words last kind =
    (values : List Value) × Begins before word words kind × Follow kinds (following kind) words values × (item ≡ item_of word kind values) × Spell kinds (before ++ item ∷ []) items (drop (length (following kind)) words) last

abbrev Ends : List ℕ → List Item → List Item → List (List ℕ) → List (List ℕ) → Item → Type 0
Ends kinds before items words last item = Spell kinds (before ++ item ∷ []) items words last × Stops kinds (behind (before ++ item ∷ []) items) last

both_same : (i j : Item) (is js : List Item) (last end : List (List ℕ)) → i ≡ j → (is ≡ js) × (last ≡ end) → ((i ∷ is) ≡ (j ∷ js)) × (last ≡ end)
both_same i j is js last end e h = (cons_both i j is js e h.0, h.1)

-- words are spelled by one list of items up to one place where no item stands
pub spell_once : SpellsOnce → (kinds : List ℕ) (before is js : List Item) (words last end : List (List ℕ)) → Spell kinds before is words last → Spell kinds before js words end → Stops kinds (behind before is) last → Stops kinds (behind before js) end → (is ≡ js) × (last ≡ end)
spell_once once kinds before [] [] words last end h k s t = (refl, sym h ∙ k)
spell_once once kinds before [] (j ∷ js) [] last end h k s t = absurd k
spell_once once kinds before [] (j ∷ js) (word ∷ words) last end h k s t =
    let stopped : Stops kinds before (word ∷ words) = subst (Stops kinds before) (sym h) s in
    absurd (stopped k.0 k.1 k.2 k.3)
spell_once once kinds before (i ∷ is) [] [] last end h k s t = absurd h
spell_once once kinds before (i ∷ is) [] (word ∷ words) last end h k s t =
    let stopped : Stops kinds before (word ∷ words) = subst (Stops kinds before) (sym k) t in
    absurd (stopped h.0 h.1 h.2 h.3)
spell_once once kinds before (i ∷ is) (j ∷ js) [] last end h k s t = absurd h
spell_once once kinds before (i ∷ is) (j ∷ js) (word ∷ words) last end h k s t =
    let other : RestOf kinds before j js word words end h.0 =
    subst (RestOf kinds before j js word words end) (begins_once before word words k.0 h.0 k.2 h.2) (k.1, k.2, k.3, k.4, k.5) in
    let same : j ≡ i =
    other.3 ∙ (ap (item_of word h.0) (follow_once once kinds (following h.0) words other.0 h.1 other.2 h.3) ∙ sym h.4) in
    let ends : Ends kinds before js (drop (length (following h.0)) words) end i =
    subst (Ends kinds before js (drop (length (following h.0)) words) end) same (other.4, t) in
    both_same i j is js last end (sym same) (spell_once once kinds (before ++ i ∷ []) is js (drop (length (following h.0)) words) last end h.5 ends.0 s ends.1)

-- ---- failing words

pub fails_stops : (kinds : List ℕ) (items : List Item) (words : List (List ℕ)) (place : ℕ) → FailsAt kinds items words place → Stops kinds items words
fails_stops kinds items [] place h = tt
fails_stops kinds items (word ∷ words) place (inl h) = λ kind values b f. h.0 kind b
fails_stops kinds items (word ∷ words) place (inr h) = λ kind values b f.
    let broken : Break kinds (following kind) words h.1 =
    subst (λ (k : Kind). Break kinds (following k) words h.1) (begins_once items word words h.0 kind h.2 b) h.3 in
    follow_no_break kinds (following kind) words values h.1 f broken

fails_once : SpellsOnce → (kinds : List ℕ) (items : List Item) (words : List (List ℕ)) (m n : ℕ) → FailsAt kinds items words m → FailsAt kinds items words n → m ≡ n
fails_once once kinds items [] m n h k = h.1 ∙ sym k.1
fails_once once kinds items (word ∷ words) m n (inl h) (inl k) = h.1 ∙ sym k.1
fails_once once kinds items (word ∷ words) m n (inl h) (inr k) = absurd (h.0 k.0 k.2)
fails_once once kinds items (word ∷ words) m n (inr h) (inl k) = absurd (k.0 h.0 h.2)
fails_once once kinds items (word ∷ words) m n (inr h) (inr k) =
    let broken : Break kinds (following h.0) words k.1 =
    subst (λ (a : Kind). Break kinds (following a) words k.1) (begins_once items word words k.0 h.0 k.2 h.2) k.3 in
    let e = break_once once kinds (following h.0) words h.1 k.1 h.3 broken in
    let f = h.4 in
    let g = k.4 in
    omega arith

-- ---- the meaning

-- the items that spell words up to a place where no item stands
record Read (kinds : List ℕ) (words : List (List ℕ)) (items : List Item) (last : List (List ℕ)) : Type 0 where
  spelled : Spell kinds [] items words last
  stopped : Stops kinds items last

read_once : SpellsOnce → (kinds : List ℕ) (words : List (List ℕ)) (is js : List Item) (last end : List (List ℕ)) → Read kinds words is last → Read kinds words js end → (is ≡ js) × (last ≡ end)
read_once once kinds words is js last end h k =
    spell_once once kinds [] is js words last end h.spelled k.spelled
    (subst (λ (items : List Item). Stops kinds items last) (sym (behind_append [] is)) h.stopped)
    (subst (λ (items : List Item). Stops kinds items end) (sym (behind_append [] js)) k.stopped)

not_whole : (kinds : List ℕ) (items others : List Item) (last : List (List ℕ)) (place : ℕ) → is_whole items ≡ true → FailsAt kinds others last place → items ≡ others → [] ≡ last → ⊥
not_whole kinds items others [] place h k e f = let w : is_whole others ≡ true = subst (λ (x : List Item). is_whole x ≡ true) e h in cc (k.0)
not_whole kinds items others (word ∷ words) place h k e f = cc

ok_err : SpellsOnce → (kinds : List ℕ) (words : List (List ℕ)) (command : Command) (place : ℕ) → CommandWords kinds words (Ok command) → CommandWords kinds words (Err place) → ⊥
ok_err once kinds words command place h k =
    let same = read_once once kinds words h.0 k.0 [] k.1 (record { spelled = h.1; stopped = tt }) (record { spelled = k.3; stopped = fails_stops kinds k.0 k.1 k.2 k.4 }) in
    not_whole kinds h.0 k.0 k.1 k.2 h.2 k.4 same.0 same.1

fails_both : SpellsOnce → (kinds : List ℕ) (items others : List Item) (last end : List (List ℕ)) (m n : ℕ) → FailsAt kinds items last m → FailsAt kinds others end n → items ≡ others → last ≡ end → m ≡ n
fails_both once kinds items others last end m n h k e f =
    fails_once once kinds others end m n (subst (λ (x : List Item). FailsAt kinds x end m) e (subst (λ (x : List (List ℕ)). FailsAt kinds items x m) f h)) k

pub one_meaning : SpellsOnce → OneMeaning
one_meaning once kinds words (Ok a) (Ok b) h k =
    let same = read_once once kinds words h.0 k.0 [] [] (record { spelled = h.1; stopped = tt }) (record { spelled = k.1; stopped = tt }) in
    ap Ok (h.3 ∙ (ap command_of same.0 ∙ sym k.3))
one_meaning once kinds words (Ok a) (Err n) h k = absurd (ok_err once kinds words a n h k)
one_meaning once kinds words (Err m) (Ok b) h k = absurd (ok_err once kinds words b m k h)
one_meaning once kinds words (Err m) (Err n) h k =
    let same = read_once once kinds words h.0 k.0 h.1 k.1 (record { spelled = h.3; stopped = fails_stops kinds h.0 h.1 h.2 h.4 }) (record { spelled = k.3; stopped = fails_stops kinds k.0 k.1 k.2 k.4 }) in
    let e = fails_both once kinds h.0 k.0 h.1 k.1 h.2 k.2 h.4 k.4 same.0 same.1 in
    let l = ap length same.1 in
    let p = h.5 in
    let q = k.5 in
    let r : m ≡ n = omega arith in
    ap Err r
