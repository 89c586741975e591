-- How far the bytes of a kind reach.
use Rattle.std.specs.Prelude.{ℕ, ◌+◌, Bool, List, drop}
use Rattle.kernel_rules.specs.Lines.{span}

-- the place after the bytes of a kind that stand from place i on
abbrev pub after_span : (ℕ → Bool) → List ℕ → ℕ → ℕ
after_span p l i = i + span p (drop i l)
