-- What the row loops ask of the lists.
use Rattle.std.specs.Prelude.{ℕ, ◌≡◌, List, length}

pub record OneLength (starts ends : List ℕ) : Type 0 where
  pub one_length : length ends ≡ length starts
