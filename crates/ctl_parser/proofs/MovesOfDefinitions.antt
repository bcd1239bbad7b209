-- The moves of the symbols of parameters, definitions and modules, by what stands at the place.
use Rattle.std.proofs.Common.{arith, ◌≡◌, ◌≢◌, ℕ, ◌+◌, ◌<◌, [], ◌∷◌, Bool, true, false, List, length, slice_get, Option, Some, None, ap, ap₂, refl, inl, inr}
use Rattle.std.proofs.lemmas.Option.{slice_get_cases}
use Rattle.std.specs.Option.{option_map}
use Rattle.ctl_tree.specs.declared.keyword.Keyword.TheVariants.{Namespace, Struct, Const, Void, Import, Ctlversion}
use Rattle.ctl_tree.specs.declared.sign.Sign.TheVariants.{OpenRound, CloseRound, CloseCurly, Comma, Semicolon}
use Rattle.ctl_tree.specs.declared.token.TokenKind.{TokenKind}
use Rattle.ctl_tree.specs.declared.token.TokenKind.TheVariants.{Word, Text, Whole, Sign as SignKind}
use Rattle.ctl_tree.specs.Lexemes.{Lexeme, kind_at}
use Rattle.ctl_tree.specs.Modules.{ends}
use Rattle.grammar_machine.specs.Front.{begins_result}
use Rattle.grammar_machine.specs.Machine.{TheSign, TheName, Shape, Sizes, Block, Parameter, Parameters, MoreParameters, Result, Field, MoreFields, Definition, Definitions, Stops, Expands, first_move, parameters_move, more_parameters_move, result_move, more_fields_move, may_end_move, definition_move, begins_definition, definitions_move, imports_move, version_move, one_move, import_text_move, end_move}

-- parameters

pub some_parameter : (n : ℕ) (k : Option TokenKind) → k ≢ Some (SignKind CloseRound) → parameters_move n k ≡ Expands 0 (Parameter n ∷ MoreParameters n ∷ [])
some_parameter n (Some (SignKind CloseRound)) h = absurd (h refl)
some_parameter n _ h = refl

pub no_more_parameters : (n : ℕ) (k : Option TokenKind) → k ≢ Some (SignKind Comma) → k ≢ Some (SignKind CloseRound) → more_parameters_move n k ≡ Stops
no_more_parameters n (Some (SignKind Comma)) h h' = absurd (h refl)
no_more_parameters n (Some (SignKind CloseRound)) h h' = absurd (h' refl)
no_more_parameters n _ h h' = refl

-- definitions

pub some_result : (n : ℕ) (k : Option TokenKind) → k ≢ Some (Word Void) → result_move n k ≡ Expands 0 (Shape ∷ Sizes n ∷ [])
some_result n (Some (Word Void)) h = absurd (h refl)
some_result n _ h = refl

pub more_fields : (n : ℕ) (k : Option TokenKind) → k ≢ Some (SignKind CloseCurly) → more_fields_move n k ≡ Expands 0 (Field n ∷ MoreFields n ∷ [])
more_fields n (Some (SignKind CloseCurly)) h = absurd (h refl)
more_fields n _ h = refl

pub not_ended : (k : Option TokenKind) → k ≢ Some (SignKind Semicolon) → may_end_move k ≡ Expands 0 []
not_ended (Some (SignKind Semicolon)) h = absurd (h refl)
not_ended _ h = refl

pub function_move : (n : ℕ) (k : Option TokenKind) → begins_result k ≡ true → definition_move n k ≡ Expands (n + 1) (Result n ∷ TheName ∷ TheSign OpenRound ∷ Parameters n ∷ Block (n + 1) ∷ [])
function_move n (Some (Word Namespace)) h = absurd cc
function_move n (Some (Word Struct)) h = absurd cc
function_move n (Some (Word Const)) h = absurd cc
function_move n k h = ap (λ b. first_move b (n + 1) (Result n ∷ TheName ∷ TheSign OpenRound ∷ Parameters n ∷ Block (n + 1) ∷ [])) h

pub function_left : (k : Option TokenKind) → k ≢ Some (Word Namespace) → k ≢ Some (Word Struct) → k ≢ Some (Word Const) → begins_definition k ≡ true → begins_result k ≡ true
function_left (Some (Word Namespace)) h h' h'' b = absurd (h refl)
function_left (Some (Word Struct)) h h' h'' b = absurd (h' refl)
function_left (Some (Word Const)) h h' h'' b = absurd (h'' refl)
function_left _ h h' h'' b = b

pub first_definition : (n : ℕ) (k : Option TokenKind) → ends k ≡ false → begins_definition k ≡ true → definitions_move n (ends k) (begins_definition k) ≡ Expands n (Definition n ∷ Definitions n ∷ [])
first_definition n k e b = ap₂ (definitions_move n) e b

pub no_definition : (n : ℕ) (k : Option TokenKind) → ends k ≡ false → begins_definition k ≡ false → definitions_move n (ends k) (begins_definition k) ≡ Stops
no_definition n k e b = ap₂ (definitions_move n) e b

pub definitions_end : (n : ℕ) (k : Option TokenKind) → ends k ≡ true → definitions_move n (ends k) (begins_definition k) ≡ Expands 0 []
definitions_end n k e = ap (λ ended. definitions_move n ended (begins_definition k)) e

-- modules

pub no_version : (k : Option TokenKind) → k ≢ Some (Word Ctlversion) → version_move k ≡ Expands 0 []
no_version (Some (Word Ctlversion)) h = absurd (h refl)
no_version _ h = refl

pub no_one : (k : Option TokenKind) → k ≢ Some (Whole 1) → one_move k ≡ Stops
no_one k h = grind (arith, h)

pub no_import : (k : Option TokenKind) → k ≢ Some (Word Import) → imports_move k ≡ Expands 0 []
no_import (Some (Word Import)) h = absurd (h refl)
no_import _ h = refl

pub no_text : (k : Option TokenKind) (shown : Bool) → k ≢ Some Text → import_text_move k shown ≡ Stops
no_text (Some Text) shown h = absurd (h refl)
no_text _ shown h = refl

-- a token is left

end_at_token : (k : Option TokenKind) → (k ≡ None → ⊥) → end_move k ≡ Stops
end_at_token None h = absurd (h refl)
end_at_token (Some kind) h = refl

some_lexeme : (o : Option Lexeme) (lexeme : Lexeme) → o ≡ Some lexeme → option_map (λ (l : Lexeme). l.kind) o ≡ None → ⊥
some_lexeme None lexeme e h = absurd cc
some_lexeme (Some other) lexeme e h = absurd cc

pub left_over : (lexemes : List Lexeme) (i : ℕ) → i < length lexemes → end_move (kind_at lexemes i) ≡ Stops
left_over lexemes i lt =
    elim ((slice_get_cases lexemes i).1) [
      | inl there ↦ end_at_token (kind_at lexemes i) (some_lexeme (slice_get lexemes i) there.0 there.2)
      | inr past ↦ absurd (omega (arith, lt, past.0))
    ]
