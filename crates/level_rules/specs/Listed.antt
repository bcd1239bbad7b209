-- What holds of the instances that are reached, however calls go.
use Rattle.std.specs.Prelude.{◌≡◌, ◌<◌, ℕ, List, [], ◌∷◌, Some, Bool, true, false, slice_get}
use Rattle.level_rules.specs.declared.instance.Instance.{Instance}
use Rattle.level_rules.specs.Reached.{is_among, number_in, visit, reached}

-- each of these functions stands before the nth
abbrev pub AllBefore : ℕ → List Instance → Type 0
AllBefore n [] = Unit {0}
AllBefore n (i ∷ instances) = (i.function < n) × AllBefore n instances

-- what is called stands before its caller
abbrev pub Lowers : (Instance → List Instance) → Type 0
Lowers calls = (i : Instance) → AllBefore i.function (calls i)

-- each of these is listed
abbrev pub AllListed : List Instance → List Instance → Type 0
AllListed table [] = Unit {0}
AllListed table (i ∷ instances) = (is_among table i ≡ true) × AllListed table instances

-- the entry is listed, and what each calls that is listed
abbrev pub Closed : (Instance → List Instance) → Type 0
Closed calls = (entry : Instance) → (is_among (reached calls entry) entry ≡ true) × ((i : Instance) → is_among (reached calls entry) i ≡ true → AllListed (reached calls entry) (calls i))

-- none stands among those after it
abbrev pub Distinct : List Instance → Type 0
Distinct [] = Unit {0}
Distinct (i ∷ instances) = (is_among instances i ≡ false) × Distinct instances

-- each is listed once
abbrev pub Once : (Instance → List Instance) → Type 0
Once calls = (entry : Instance) → Distinct (reached calls entry)

-- each of these passes a test
abbrev pub AllPass : (Instance → Bool) → List Instance → Type 0
AllPass test [] = Unit {0}
AllPass test (i ∷ instances) = (test i ≡ true) × AllPass test instances

-- nothing is listed that some set lacks which has the entry and is closed under calls
abbrev pub Reachable : (Instance → List Instance) → Type 0
Reachable calls = (entry : Instance) (test : Instance → Bool) → test entry ≡ true → ((i : Instance) → test i ≡ true → AllPass test (calls i)) → AllPass test (reached calls entry)

-- calls go no deeper than the number of the entry's function
abbrev pub Deeper : (Instance → List Instance) → Type 0
Deeper calls = (entry : Instance) (depth : ℕ) → entry.function < depth → visit calls depth [] entry ≡ reached calls entry

-- what is listed has a number
abbrev pub Numbered : Type 0
Numbered = (table : List Instance) (i : Instance) → is_among table i ≡ true → slice_get table (number_in table i) ≡ Some i

-- However calls go to functions before, the instances that are reached are the least set that has the entry's and is
-- closed under calls, each once.
pub record ReachedIsLeast : Type 0 where
  pub closed : (calls : Instance → List Instance) → Lowers calls → Closed calls
  pub once : (calls : Instance → List Instance) → Once calls
  pub reachable : (calls : Instance → List Instance) → Reachable calls
  pub deeper : (calls : Instance → List Instance) → Lowers calls → Deeper calls
  pub numbered : Numbered
