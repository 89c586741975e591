-- The digits of a clock's number, as the loop meets them.
use Rattle.std.specs.Prelude.{Some, None}
use Prim.Native.Nat.{ℕ, ◌+◌, ◌*◌, ◌-◌, ◌/◌, ◌≤◌, ◌<◌}
use mathlib.Core.Path.{◌≡◌, refl, sym, ◌∙◌}
use mathlib.Core.Bool.{true, false, ◌&&◌, cond}
use mathlib.Core.List.{List, [], ◌∷◌}
use lib.Dec.{leb}
use lib.ListN.{length, get_or, drop, drop_of_length-le}
use borrow.Author.Tests.{le-leb, lt-leb}
use native.Mathlib.Omega.{arith}
use Rattle.base.proofs.Lists.{drop_next}
use Rattle.rules.specs.Text.{is_digit}
use Rattle.command_words.specs.Clock.{spelled_behind, spelled}

pub no_digit : (limit : ℕ) (s : List ℕ) → length s ≡ 0 → None ≡ spelled limit s
unfolding spelled
no_digit limit [] h = refl
no_digit limit (b ∷ s) h = absurd (omega arith)

pub some_digits : (limit : ℕ) (s : List ℕ) → (length s ≡ 0 → ⊥) → spelled limit s ≡ spelled_behind limit 0 s
unfolding spelled
some_digits limit [] h = absurd (h refl)
some_digits limit (b ∷ s) h = refl

-- the byte at i, behind the value
module _ (s : List ℕ) (limit i value : ℕ) (h : i < length s) (inv : spelled limit s ≡ spelled_behind limit value (drop i s)) where
  stepped : spelled limit s ≡ cond (is_digit (get_or s i 0) && leb (value * 10 + (get_or s i 0 - 48)) limit) (spelled_behind limit (value * 10 + (get_or s i 0 - 48)) (drop (i + 1) s)) None
  unfolding spelled_behind
  stepped = inv ∙ rw (drop_next s i 0 h)

  pub no_such_digit : is_digit (get_or s i 0) ≡ false → None ≡ spelled limit s
  no_such_digit e = sym (stepped ∙ rw e)

  pub too_large : is_digit (get_or s i 0) ≡ true → (limit - (get_or s i 0 - 48)) / 10 < value → None ≡ spelled limit s
  too_large e o = sym (stepped ∙ rw (e, lt-leb (value * 10 + (get_or s i 0 - 48)) limit (omega arith)))

  pub one_more : is_digit (get_or s i 0) ≡ true → value ≤ (limit - (get_or s i 0 - 48)) / 10 → get_or s i 0 - 48 ≤ limit → spelled limit s ≡ spelled_behind limit (value * 10 + (get_or s i 0 - 48)) (drop (i + 1) s)
  one_more e o l = stepped ∙ rw (e, le-leb (value * 10 + (get_or s i 0 - 48)) limit (omega arith))

pub all_digits : (s : List ℕ) (limit i value : ℕ) → length s ≤ i → spelled limit s ≡ spelled_behind limit value (drop i s) → Some value ≡ spelled limit s
unfolding spelled_behind
all_digits s limit i value h inv = sym (inv ∙ rw (drop_of_length-le s {i = i} h))
