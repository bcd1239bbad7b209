-- Tokens that cover a text, piece by piece.
use Rattle.std.proofs.Common.{◌≡◌, ℕ, ◌+◌, ◌<◌, ◌≤◌, List, [], ◌∷◌, ◌++◌, length, take, drop, arith, sym, ap, subst, ◌∙◌, inl, inr, refl, cond, Bool, Option}
use Rattle.std.specs.Prelude.{count_by}
use Rattle.std.specs.List.{sum_by}
use Rattle.std.proofs.lemmas.Bool.{false≢true}
use Rattle.std.proofs.lemmas.List.{length-drop, take-take, drop-take}
use Rattle.std.proofs.lemmas.List.Sums.{sum_by-take-drop}
use Rattle.ctl_tree.specs.declared.token.Token.{Token}
use Rattle.ctl_tree.specs.declared.token.TokenKind.{TokenKind}
use Rattle.ctl_tree.specs.TokenBytes.{is_blank}
use Rattle.ctl_tree.specs.Tokens.{IsGap, IsToken, StandsIn, CoversFrom, Covers, NothingBegins, nothing, blank, comment}
use Rattle.ctl_tree.specs.Lines.{line_at}
use Rattle.ctl_lexer.specs.declared.front.Piece.{Piece}
use Rattle.ctl_lexer.specs.declared.front.Piece.TheVariants.{Space, Token as TokenPiece}
use Rattle.ctl_lexer.specs.Means.{IsPiece, piece_len, piece_kind, piece_tokens, tokens_of}
use Rattle.ctl_lexer.proofs.Longest.{longest_some, longest_no_blank, same_longest}
use Rattle.ctl_lexer.proofs.Spaces.{front, comment_within, comment_begins, gap_join, Blocked, blocked, end_blocked, same_place}

-- a token does not end past the text
pub token_within : {F : ℕ} {kind : TokenKind} (text : List ℕ) (at : ℕ) {n : ℕ} → IsToken F kind (drop at text) n → at + n ≤ length text
token_within text at {n = n} t =
    let some = longest_some (drop at text) n t.whole in
    let within = t.whole.within in
    omega (arith, length-drop at text)

-- no gap begins where a token does
pub token_blocked : {F : ℕ} {kind : TokenKind} (text : List ℕ) (at : ℕ) {n : ℕ} → IsToken F kind (drop at text) n → Blocked text at
token_blocked text at {n = n} t = blocked text at
    (λ b. longest_no_blank (drop at text) n t.whole (ap is_blank (front text at) ∙ b))
    (λ m c. false≢true (sym t.apart ∙ comment_begins (drop at text) m c))

pub token_some : {F : ℕ} {kind : TokenKind} (text : List ℕ) (at : ℕ) {n : ℕ} → IsToken F kind (drop at text) n → at < length text
token_some text at {n = n} t =
    let some = longest_some (drop at text) n t.whole in
    let within = token_within text at t in
    omega arith

-- tokens after others

gap_before : (F : ℕ) (text : List ℕ) (from p q : ℕ) (us : List Token) → IsGap text from p → CoversFrom F text p us q → CoversFrom F text from us q
gap_before F text from p q [] g c = gap_join text from p q g c
gap_before F text from p q (u ∷ us) g c = (gap_join text from p u.at g c.0, c.1, c.2)

pub covers_more : (F : ℕ) (text : List ℕ) (from p q : ℕ) (ts us : List Token) → CoversFrom F text from ts p → CoversFrom F text p us q → CoversFrom F text from (ts ++ us) q
covers_more F text from p q [] us c d = gap_before F text from p q us c d
covers_more F text from p q (t ∷ ts) us c d = (c.0, c.1, covers_more F text (t.at + t.len) p q ts us c.2 d)

-- one piece

pub piece_within : (F : ℕ) (text : List ℕ) (at : ℕ) (piece : Piece) → at ≤ length text → IsPiece F (drop at text) piece → at + piece_len piece ≤ length text
piece_within F text at (Space n) le (inl b) = let e = b.0 in let some = b.1 in omega (arith, length-drop at text)
piece_within F text at (Space n) le (inr c) = let w = comment_within (drop at text) n c in omega (arith, length-drop at text)
piece_within F text at (TokenPiece kind n) le t = token_within text at t

pub piece_covers : (F : ℕ) (text : List ℕ) (at line : ℕ) (piece : Piece) → at < length text → line ≡ line_at text at → IsPiece F (drop at text) piece
    → CoversFrom F text at (piece_tokens piece at line) (at + piece_len piece)
piece_covers F text at line (Space n) lt counted (inl b) =
    let e : n ≡ 1 = b.0 in
    blank lt (ap is_blank (sym (front text at)) ∙ b.2) (nothing (omega arith) (omega arith))
piece_covers F text at line (Space n) lt counted (inr c) = comment n c (nothing (piece_within F text at (Space n) (omega arith) (inr c)) refl)
piece_covers F text at line (TokenPiece kind n) lt counted t = (nothing (omega arith) refl, record { spelled = t; line = counted }, nothing (token_within text at t) refl)

pub piece_put : (F : ℕ) (text : List ℕ) (at line : ℕ) (piece : Piece) (kind : Option TokenKind) (len : ℕ) (tokens more : List Token) → at < length text → line ≡ line_at text at
    → IsPiece F (drop at text) piece → kind ≡ piece_kind piece → len ≡ piece_len piece → Covers F text tokens at → more ≡ tokens ++ tokens_of kind len at line → Covers F text more (at + len)
piece_put F text at line piece kind len tokens more lt counted p k l c e =
    let f : more ≡ tokens ++ piece_tokens piece at line = e ∙ (λ i. tokens ++ tokens_of (k i) (l i) at line) in
    let P : List Token → Type 0 = λ ts. Covers F text ts (at + piece_len piece) in
    let Q : ℕ → Type 0 = λ n. Covers F text more (at + n) in
    subst Q (sym l) (subst P (sym f) (covers_more F text 0 at (at + piece_len piece) tokens (piece_tokens piece at line) c (piece_covers F text at line piece lt counted p)))

pub count_more : (p : ℕ → Bool) (xs : List ℕ) (i n : ℕ) → count_by p (take (i + n) xs) ≡ count_by p (take i xs) + count_by p (take n (drop i xs))
count_more p xs i n =
    let le : i ≤ i + n = omega arith in
    sym (sum_by-take-drop (λ x. cond (p x) 1 0) (take (i + n) xs) i) ∙ (λ k. sum_by (λ x. cond (p x) 1 0) (take-take i (i + n) xs le k) + sum_by (λ x. cond (p x) 1 0) (drop-take i n xs k))

-- the text from its start
pub at_start : (F : ℕ) (text : List ℕ) → Covers F text [] 0
at_start F text = nothing (omega arith) refl

-- where nothing begins, no other list goes on

pub nothing_blocked : (F : ℕ) (text : List ℕ) (p : ℕ) → NothingBegins F (drop p text) → Blocked text p
nothing_blocked F text p n = blocked text p
    (λ b. false≢true (sym n.no_blank ∙ ap is_blank (front text p) ∙ b))
    n.no_comment

nothing_before : (F : ℕ) (text : List ℕ) (p : ℕ) → NothingBegins F (drop p text) → p < length text
nothing_before F text p n = let more = n.more in omega (arith, length-drop p text)

pub same_len : (F : ℕ) (text : List ℕ) (t u : Token) → t.at ≡ u.at → StandsIn F text t → StandsIn F text u → t.len ≡ u.len
same_len F text t u e s r =
    let P : ℕ → Type 0 = λ at. IsToken F u.kind (drop at text) u.len in
    let k = subst P (sym e) r.spelled in
    same_longest (drop t.at text) t.len u.len s.spelled.whole k.whole

pub stops : (F : ℕ) (text : List ℕ) (from p : ℕ) (ts us : List Token) → CoversFrom F text from ts p → NothingBegins F (drop p text) → CoversFrom F text from us (length text) → ⊥
stops F text from p [] [] c n d =
    let lt = nothing_before F text p n in
    let e = same_place text from p (length text) c d (nothing_blocked F text p n) (end_blocked text) in
    omega arith
stops F text from p [] (u ∷ us) c n d =
    let e : p ≡ u.at = same_place text from p u.at c d.0 (nothing_blocked F text p n) (token_blocked text u.at d.1.spelled) in
    let P : ℕ → Type 0 = λ at. IsToken F u.kind (drop at text) u.len in
    n.no_token u.kind u.len (subst P (sym e) d.1.spelled)
stops F text from p (t ∷ ts) [] c n d =
    let e = same_place text from t.at (length text) c.0 d (token_blocked text t.at c.1.spelled) (end_blocked text) in
    let lt = token_some text t.at c.1.spelled in
    omega arith
stops F text from p (t ∷ ts) (u ∷ us) c n d =
    let e : t.at ≡ u.at = same_place text from t.at u.at c.0 d.0 (token_blocked text t.at c.1.spelled) (token_blocked text u.at d.1.spelled) in
    let l : t.len ≡ u.len = same_len F text t u e c.1 d.1 in
    let f : u.at + u.len ≡ t.at + t.len = omega arith in
    let P : ℕ → Type 0 = λ k. CoversFrom F text k us (length text) in
    stops F text (t.at + t.len) p ts us c.2 n (subst P f d.2)
