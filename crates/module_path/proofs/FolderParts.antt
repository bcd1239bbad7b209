-- The folders of a path, part by part.
use Rattle.std.proofs.Common.{◌≡◌, ℕ, ◌<◌, ◌==◌, Bool, false, List, [], ◌∷◌, ◌++◌, length, All, arith, refl, sym, ap, ◌∙◌, append_assoc, filter}
use Rattle.std.specs.List.{slice_split, position_or_len, before_first, after_first}
use Rattle.std.proofs.lemmas.List.Sums.{fails_before_first}
use Rattle.std.proofs.lemmas.List.Splits.{slice_split_none, slice_split_first}
use Rattle.module_path.specs.ModuleFiles.{folders_of, is_named}
use Rattle.module_path.specs.Means.{as_folder}

abbrev is_colon : ℕ → Bool
is_colon b = b == 58

named_first : (part : List ℕ) (parts : List (List ℕ)) → filter is_named (part ∷ parts) ≡ as_folder part ++ filter is_named parts
named_first [] parts = refl
named_first (b ∷ part) parts = refl

alone : (part : List ℕ) → filter is_named (part ∷ []) ≡ as_folder part
alone [] = refl
alone (b ∷ part) = refl

-- a path without a colon is one folder, unless it is empty
pub folders_none : (path : List ℕ) → position_or_len is_colon path ≡ length path → folders_of path ≡ as_folder path
folders_none path e =
    let none : All (λ b. is_colon b ≡ false) path = λ k d l. fails_before_first is_colon path k d (omega (arith, e, l)) in
    ap (filter is_named) (slice_split_none is_colon path none) ∙ alone path

-- the first folder stands before the first colon
pub folders_first : (path : List ℕ) → position_or_len is_colon path < length path → folders_of path ≡ as_folder (before_first is_colon path) ++ folders_of (after_first is_colon path)
folders_first path l = ap (filter is_named) (slice_split_first is_colon path 0 l) ∙ named_first (before_first is_colon path) (slice_split is_colon (after_first is_colon path))

-- the folder before the first colon was put last
pub folder_put : (before after : List (List ℕ)) (path rest folder more : List ℕ) → after ≡ before ++ as_folder folder → folder ≡ before_first is_colon rest → more ≡ after_first is_colon rest → position_or_len is_colon rest < length rest
    → before ++ folders_of rest ≡ folders_of path → after ++ folders_of more ≡ folders_of path
folder_put before after path rest folder more put first others l e =
    ap (λ (f : List (List ℕ)). f ++ folders_of more) put ∙ append_assoc before (as_folder folder) (folders_of more)
    ∙ ap (λ (f : List ℕ). before ++ (as_folder f ++ folders_of more)) first ∙ ap (λ (m : List ℕ). before ++ (as_folder (before_first is_colon rest) ++ folders_of m)) others
    ∙ ap (λ (f : List (List ℕ)). before ++ f) (sym (folders_first rest l)) ∙ e

-- the last folder was put last
pub last_put : (before after : List (List ℕ)) (path rest : List ℕ) → after ≡ before ++ as_folder rest → position_or_len is_colon rest ≡ length rest → before ++ folders_of rest ≡ folders_of path → after ≡ folders_of path
last_put before after path rest put l e = put ∙ ap (λ (f : List (List ℕ)). before ++ f) (sym (folders_none rest l)) ∙ e
