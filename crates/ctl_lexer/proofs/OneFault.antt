-- A text has at most one fault, and none where tokens stand for it.
use Rattle.std.proofs.Common.{◌≡◌, ℕ, ◌+◌, true, false, List, [], ◌∷◌, drop, slice_index, eqb, arith, sym, subst, ◌∙◌, cond, refl}
use Rattle.std.specs.Prelude.{nat_le}
use Rattle.std.proofs.lemmas.Bool.Decides.{nat_tests}
use Rattle.ctl_tree.specs.declared.token.Token.{Token}
use Rattle.ctl_tree.specs.declared.fault.LexKind.{LexKind}
use Rattle.ctl_tree.specs.declared.fault.LexKind.TheVariants.{NoToken, OpenComment, OpenText, Literal, NotAscii}
use Rattle.ctl_tree.specs.TokenBytes.{begins_number}
use Rattle.ctl_tree.specs.Tokens.{begins_comment, IsToken, CoversFrom, StandsFor, NothingBegins, IsKindOf, HasFault}
use Rattle.ctl_lexer.proofs.Spaces.{same_place}
use Rattle.ctl_lexer.proofs.Cover.{token_blocked, nothing_blocked, same_len, stops}

-- the kind of a fault, by the bytes that stand there
kind_there : List ℕ → LexKind
kind_there bytes = cond (begins_comment bytes) OpenComment (cond (eqb (slice_index bytes 0) 34) OpenText (cond (begins_number bytes) Literal (cond (nat_le 128 (slice_index bytes 0)) NotAscii NoToken)))

is_kind_there : (kind : LexKind) (bytes : List ℕ) → IsKindOf kind bytes → kind_there bytes ≡ kind
unfolding kind_there
is_kind_there OpenComment bytes h = rw h refl
is_kind_there OpenText bytes h =
    let a : begins_comment bytes ≡ false = grind (arith, nat_tests) in
    let b : eqb (slice_index bytes 0) 34 ≡ true = grind (arith, nat_tests) in
    rw (a, b) refl
is_kind_there Literal bytes h =
    let a : begins_comment bytes ≡ false = grind (arith, nat_tests) in
    let b : eqb (slice_index bytes 0) 34 ≡ false = grind (arith, nat_tests) in
    rw (a, b, h) refl
is_kind_there NotAscii bytes h =
    let a : begins_comment bytes ≡ false = grind (arith, nat_tests) in
    let b : eqb (slice_index bytes 0) 34 ≡ false = grind (arith, nat_tests) in
    let d : begins_number bytes ≡ false = grind (arith, nat_tests) in
    let e : nat_le 128 (slice_index bytes 0) ≡ true = grind (arith, nat_tests) in
    rw (a, b, d, e) refl
is_kind_there NoToken bytes h =
    let few = h.3 in
    let e : nat_le 128 (slice_index bytes 0) ≡ false = grind (arith, nat_tests) in
    rw (h.0, h.1, h.2, e) refl

same_kind : (bytes : List ℕ) (kind other : LexKind) → IsKindOf kind bytes → IsKindOf other bytes → kind ≡ other
same_kind bytes kind other h k = sym (is_kind_there kind bytes h) ∙ is_kind_there other bytes k

same_stop : (F : ℕ) (text : List ℕ) (from p q : ℕ) (ts us : List Token) → CoversFrom F text from ts p → NothingBegins F (drop p text) → CoversFrom F text from us q → NothingBegins F (drop q text) → p ≡ q
same_stop F text from p q [] [] c n d m = same_place text from p q c d (nothing_blocked F text p n) (nothing_blocked F text q m)
same_stop F text from p q [] (u ∷ us) c n d m =
    let e : p ≡ u.at = same_place text from p u.at c d.0 (nothing_blocked F text p n) (token_blocked text u.at d.1.spelled) in
    let P : ℕ → Type 0 = λ at. IsToken F u.kind (drop at text) u.len in
    absurd (n.no_token u.kind u.len (subst P (sym e) d.1.spelled))
same_stop F text from p q (t ∷ ts) [] c n d m =
    let e : q ≡ t.at = same_place text from q t.at d c.0 (nothing_blocked F text q m) (token_blocked text t.at c.1.spelled) in
    let P : ℕ → Type 0 = λ at. IsToken F t.kind (drop at text) t.len in
    absurd (m.no_token t.kind t.len (subst P (sym e) c.1.spelled))
same_stop F text from p q (t ∷ ts) (u ∷ us) c n d m =
    let e : t.at ≡ u.at = same_place text from t.at u.at c.0 d.0 (token_blocked text t.at c.1.spelled) (token_blocked text u.at d.1.spelled) in
    let l : t.len ≡ u.len = same_len F text t u e c.1 d.1 in
    let f : u.at + u.len ≡ t.at + t.len = omega arith in
    let P : ℕ → Type 0 = λ k. CoversFrom F text k us q in
    same_stop F text (t.at + t.len) p q ts us c.2 n (subst P f d.2) m

pub one_fault : (F : ℕ) (text : List ℕ) (at other : ℕ) (kind other_kind : LexKind) → HasFault F text at kind → HasFault F text other other_kind → (at ≡ other) × (kind ≡ other_kind)
one_fault F text at other kind other_kind h k =
    let e = same_stop F text 0 at other h.tokens k.tokens h.before h.nothing_there k.before k.nothing_there in
    let P : ℕ → Type 0 = λ p. IsKindOf other_kind (drop p text) in
    (e, same_kind (drop at text) kind other_kind h.is_kind (subst P (sym e) k.is_kind))

pub no_tokens : (F : ℕ) (text : List ℕ) (at : ℕ) (kind : LexKind) (tokens : List Token) → HasFault F text at kind → StandsFor F tokens text → ⊥
no_tokens F text at kind tokens h s = stops F text 0 at h.tokens tokens h.before h.nothing_there s
