-- How the logic stores the calls on a file box, and what files in memory are seen as.
use Rattle.std.specs.Prelude.{◌≡◌, ℕ, List, Bool, Option, cond, ◌==◌, refl}
use mathlib.Core.Path.{ap}
use Rattle.std.specs.Coded.{Coded, code_by, coded×, coded_ℕ, coded_bool, coded_list, coded_option}
use Rattle.std.specs.FinMap as map
use Rattle.outside.specs.Calls.{FileCall, FileCallKind, Fetch, Has, Store, file_call}
use Rattle.outside.specs.Files.{Held}
use Rattle.outside.specs.MemBox.{BoxState}

abbrev pub number_of : FileCallKind → ℕ
number_of Fetch = 0
number_of Has = 1
number_of Store = 2

abbrev pub kind_of : ℕ → FileCallKind
kind_of n = cond (n == 0) Fetch (cond (n == 1) Has Store)

pub kind_of-number_of : (kind : FileCallKind) → kind_of (number_of kind) ≡ kind
kind_of-number_of Fetch = refl
kind_of-number_of Has = refl
kind_of-number_of Store = refl

abbrev pub coded_calls : Coded (List FileCall)
coded_calls =
    coded_list (code_by (ℕ × (List ℕ × Bool)) (coded× coded_ℕ (coded× (coded_list coded_ℕ) coded_bool))
    (λ c. (number_of c.kind, (c.name, c.failed))) (λ p. file_call (kind_of p.0) p.1.0 p.1.1) (λ c. ap (λ kind. file_call kind c.name c.failed) (kind_of-number_of c.kind)))

-- Such a state is stored as the pairs of its fields.
abbrev pub coded_state : Coded BoxState
coded_state =
    code_by (Held × (List FileCall × (ℕ × (ℕ × (List ℕ × (ℕ × Option (List ℕ × ℕ)))))))
    (coded× (map.code (coded_list coded_ℕ) (coded_list coded_ℕ)) (coded× coded_calls (coded× coded_ℕ (coded× coded_ℕ (coded× (coded_list coded_ℕ) (coded× coded_ℕ (coded_option (coded× (coded_list coded_ℕ) coded_ℕ))))))))
    (λ b. (b.held, (b.asked, (b.faults, (b.lost, (b.failing, (b.torn, b.room)))))))
    (λ p. record { held = p.0; asked = p.1.0; faults = p.1.1.0; lost = p.1.1.1.0; failing = p.1.1.1.1.0; torn = p.1.1.1.1.1.0; room = p.1.1.1.1.1.1 }) (λ _. refl)
