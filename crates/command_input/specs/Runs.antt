-- The bytes of a kind at the front of a text.
use Rattle.std.specs.Prelude.{ℕ, suc, Bool, cond, List, [], ◌∷◌}

-- how many bytes stand before the first that p does not hold of
unfoldable pub run_length : (ℕ → Bool) → List ℕ → ℕ
run_length p [] = 0
run_length p (b ∷ s) = cond (p b) (suc (run_length p s)) 0
