-- What a text in quotes stands for.
use Rattle.std.specs.Prelude.{ℕ, ◌-◌, ◌==◌, List, [], ◌∷◌, length, take, drop, if◌then◌else◌}

-- the byte that a backslash and a byte stand for: \n and \t are a line feed and a tab, any other byte is itself
abbrev pub escaped : ℕ → ℕ
escaped b = if b == 110 then 10 else (if b == 116 then 9 else b)

-- bytes in which a backslash takes the next one with it
abbrev pub unescaped : List ℕ → List ℕ
unescaped [] = []
unescaped (b ∷ []) = b ∷ []
unescaped (b ∷ c ∷ rest) = if b == 92 then escaped c ∷ unescaped rest else b ∷ unescaped (c ∷ rest)

-- the bytes that a text with its quotes stands for
abbrev pub unquoted : List ℕ → List ℕ
unquoted bytes = unescaped (take (length bytes - 2) (drop 1 bytes))
