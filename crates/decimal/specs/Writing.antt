-- A text written into a buffer. A writer from right to left is given where it ends and answers where it starts, one from left to right
-- the other way about; `Room` and `Written` name the end first.
use Rattle.std.specs.Prelude.{ℕ, ◌+◌, ◌≤◌, ◌≡◌, List, ◌++◌, length, take, drop}

-- the buffer with the bytes s in place of those from index at on
unfoldable pub put : List ℕ → ℕ → List ℕ → List ℕ
put s at buffer = take at buffer ++ (s ++ drop (at + length s) buffer)

-- there is room for s before index end
pub record Room (s : List ℕ) (end : ℕ) (buffer : List ℕ) : Type 0 where
  pub before : length s ≤ end
  pub within : end ≤ length buffer

-- s stands from index start to index end, and every other byte is as it was
pub record Written (s : List ℕ) (end start : ℕ) (entry exit : List ℕ) : Type 0 where
  pub ends : start + length s ≡ end
  pub bytes : exit ≡ put s start entry
