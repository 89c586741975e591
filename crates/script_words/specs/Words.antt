-- What is read of a line's words.
use Rattle.std.specs.Prelude.{ℕ, ◌≤◌, Option, IfSome}
use Rattle.script_words.specs.declared.numbers.Word.{Word}

-- "N, V, C, E, MSF and the given count are u64"
abbrev pub largest : ℕ
largest = 18446744073709551615

-- a number up to a limit, with its word's end up to a place
abbrev pub UpTo : ℕ → ℕ → Option Word → Type 0
UpTo limit place word = IfSome word (λ w. (w.value ≤ limit) × (w.next ≤ place))

-- as many bytes as there is room for
abbrev pub LengthBy : ℕ → Option ℕ → Type 0
LengthBy room word = IfSome word (λ n. n ≤ room)
