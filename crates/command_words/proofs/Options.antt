-- Whether a word begins with `--`.
use Prim.Native.Nat.{ℕ}
use mathlib.Core.Path.{◌≡◌, refl}
use mathlib.Core.List.{List, [], ◌∷◌}
use lib.Dec.{eqb}
use native.Mathlib.Omega.{arith}
use Rattle.std.specs.List.{starts_with}
use Rattle.std.proofs.lemmas.Bool.Decides.{nat_tests}
use Rattle.rules.specs.Examples.{bytes}
use Rattle.kernel_rules.specs.Lines.{same}
use Rattle.command_words.specs.Words.{is_option}

dash : (b : ℕ) → eqb 45 b ≡ eqb b 45
dash b = grind (arith, nat_tests)

pub two_dashes : (w : List ℕ) → starts_with eqb w (45 ∷ 45 ∷ []) ≡ is_option w
unfolding is_option same bytes
two_dashes [] = refl
two_dashes (b ∷ []) = rw dash refl
two_dashes (b ∷ d ∷ w) = rw (dash b, dash d) refl
