-- Lists of parts each of which is there.
use Rattle.std.proofs.Common.{◌≡◌, List, [], ◌∷◌, ◌++◌, Option, Some, None, refl, ap, append_assoc, sym}
use Rattle.ctl_check_size.specs.Constants.{with_part}

-- these parts, and behind them the others where each of them is there
abbrev pub behind : {A : Type 0} → List A → Option (List A) → Option (List A)
behind done rest = with_part rest (λ parts. Some (done ++ parts))

pub nothing_before : {A : Type 0} (rest : Option (List A)) → behind [] rest ≡ rest
nothing_before None = refl
nothing_before (Some parts) = refl

pub one_more : {A : Type 0} (done : List A) (a : A) (rest : Option (List A)) → behind (done ++ a ∷ []) rest ≡ behind done (with_part rest (λ parts. Some (a ∷ parts)))
one_more done a None = refl
one_more done a (Some parts) = ap Some (append_assoc done (a ∷ []) parts)
