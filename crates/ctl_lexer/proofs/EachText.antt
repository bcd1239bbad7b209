-- Tokens stand for each text, or it has a fault.
use Rattle.std.proofs.Common.{◌≡◌, ℕ, zero, suc, ◌+◌, ◌<◌, ◌≤◌, ◌⊎◌, inl, inr, List, [], ◌++◌, length, drop, Result, Ok, Err, refl, subst, arith}
use Rattle.std.proofs.lemmas.Bool.{cases_lt}
use Rattle.std.proofs.lemmas.List.{length-drop}
use Rattle.fix_num.specs.Decimal.{SpellsOnce}
use Rattle.ctl_tree.specs.declared.fault.LexKind.{LexKind}
use Rattle.ctl_tree.specs.declared.token.Token.{Token}
use Rattle.ctl_tree.specs.Lines.{line_at}
use Rattle.ctl_tree.specs.Tokens.{Covers, StandsFor, HasFault}
use Rattle.ctl_lexer.specs.declared.front.Piece.{Piece}
use Rattle.ctl_lexer.specs.declared.front.Piece.TheVariants.{Space, Token as TokenPiece}
use Rattle.ctl_lexer.specs.Means.{IsPiece, IsFront, piece_len, piece_tokens}
use Rattle.ctl_lexer.specs.Laws.{TokensOrFault}
use Rattle.ctl_lexer.proofs.Longest.{longest_some}
use Rattle.ctl_lexer.proofs.Spaces.{comment_long}
use Rattle.ctl_lexer.proofs.Cover.{at_start, covers_more, piece_within, piece_covers}
use Rattle.ctl_lexer.proofs.FrontThere.{front_there}

-- tokens that cover the text up to a place further on
record Further (F : ℕ) (text : List ℕ) (at : ℕ) : Type 0 where
  pub place : ℕ
  pub tokens : List Token
  pub covered : Covers F text tokens place
  pub further : at < place
  pub within : place ≤ length text

abbrev Fault : ℕ → List ℕ → Type 0
Fault F text = (at : ℕ) × (kind : LexKind) × HasFault F text at kind

piece_some : (F : ℕ) (bytes : List ℕ) (piece : Piece) → IsPiece F bytes piece → 0 < piece_len piece
piece_some F bytes (Space n) (inl blank) = let one = blank.0 in omega arith
piece_some F bytes (Space n) (inr comment) = let long = comment_long bytes n comment in omega arith
piece_some F bytes (TokenPiece kind n) token = longest_some bytes n token.whole

go_on : (F : ℕ) (text : List ℕ) (at : ℕ) (tokens : List Token) → Covers F text tokens at → at < length text → (found : Result Piece LexKind) → IsFront F (drop at text) found → Further F text at ⊎ Fault F text
go_on F text at tokens covered lt (Err kind) h = inr (at, kind, record { tokens = tokens; before = covered; nothing_there = h.0; is_kind = h.1 })
go_on F text at tokens covered lt (Ok piece) h =
    let some = piece_some F (drop at text) piece h in
    inl record {
      place = at + piece_len piece;
      tokens = tokens ++ piece_tokens piece at (line_at text at);
      covered = covers_more F text 0 at (at + piece_len piece) tokens (piece_tokens piece at (line_at text at)) covered (piece_covers F text at (line_at text at) piece lt refl h);
      further = omega arith;
      within = piece_within F text at piece (omega arith) h;
    }

-- so many bytes at most are left
from_place : SpellsOnce → (F : ℕ) (text : List ℕ) (left at : ℕ) (tokens : List Token) → Covers F text tokens at → at ≤ length text → length text ≤ at + left → ((ts : List Token) × StandsFor F ts text) ⊎ Fault F text
from_place once F text zero at tokens covered within few =
    let e : at ≡ length text = omega arith in
    let P : ℕ → Type 0 = λ k. Covers F text tokens k in
    inl (tokens, subst P e covered)
from_place once F text (suc left) at tokens covered within few = elim (cases_lt at (length text)) [
  | inr past ↦
      let e : at ≡ length text = omega arith in
      let P : ℕ → Type 0 = λ k. Covers F text tokens k in
      inl (tokens, subst P e covered)
  | inl lt ↦
      let more : 0 < length (drop at text) = omega (arith, length-drop at text) in
      let front = front_there once F (drop at text) more in
      elim (go_on F text at tokens covered lt front.0 front.1) [
        | inl next ↦ let further = next.further in from_place once F text left next.place next.tokens next.covered next.within (omega arith)
        | inr fault ↦ inr fault
      ]
]

pub tokens_or_fault : SpellsOnce → TokensOrFault
tokens_or_fault once F text = from_place once F text (length text) 0 [] (at_start F text) (omega arith) (omega arith)
