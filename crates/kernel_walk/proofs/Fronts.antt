-- What stands at the front of a line's rest, before the tokens of the lines after it.
--     skip_values                  what stands between the values
--     front_close, front_value     the list's end, a value
--     own_none, own_open, own_value     the front of what an assignment is given
use Prim.Native.Nat.{ℕ, zero, suc, ◌-◌, ◌<◌}
use mathlib.Core.Path.{◌≡◌, refl, ap, ◌∙◌}
use mathlib.Core.Bool.{true, false, true≢false}
use mathlib.Core.List.{List, [], ◌∷◌, ◌++◌}
use lib.ListN.{take, drop}
use native.Mathlib.Numerals.{add-one}
use native.Mathlib.Omega.{arith}
use borrow.Author.Tests.{eqb-true}
use Rattle.base.proofs.Tests.{by_test}
use Rattle.kernel_rules.specs.Lines.{is_gap, span}
use Rattle.kernel_rules.specs.Tokens.{is_comma, is_open, is_close, width_at, token_at, tokens_from, tokens_of}
use Rattle.kernel_rules.specs.Assignments.{until_close, values_in}
use Rattle.kernel_tokens.proofs.Tokens.{tokens_pass, width_some}
use Rattle.kernel_walk.specs.Places.{is_between}

-- the token at the front, and the rest
tokens_first : (b : ℕ) (s : List ℕ) → tokens_of (b ∷ s) ≡ token_at (b ∷ s) ++ tokens_of (drop (width_at (b ∷ s) - 1) s)
unfolding tokens_from
tokens_first b s = ap (λ (ts : List (List ℕ)). token_at (b ∷ s) ++ ts) (tokens_pass (width_at (b ∷ s) - 1) s)

module _ (b : ℕ) (s : List ℕ) (more : List (List ℕ)) where
  -- a byte between two values, at the front
  front_gap : is_gap b ≡ true → until_close (tokens_of (b ∷ s) ++ more) ≡ until_close (tokens_of s ++ more)
  unfolding token_at width_at
  front_gap t = rw (tokens_first b s, t)

  front_comma : is_comma b ≡ true → until_close (tokens_of (b ∷ s) ++ more) ≡ until_close (tokens_of s ++ more)
  unfolding token_at width_at until_close
  front_comma t = rw (tokens_first b s, eqb-true b 44 t)

  pub front_close : is_close b ≡ true → until_close (tokens_of (b ∷ s) ++ more) ≡ []
  unfolding token_at width_at until_close
  front_close t = rw (tokens_first b s, eqb-true b 41 t)

  -- one token that is a value
  value_first :
      (w : ℕ)
      → 0 < w
      → is_comma b ≡ false
      → is_close b ≡ false
      → until_close (take w (b ∷ s) ∷ (tokens_of (drop (w - 1) s) ++ more)) ≡ take w (b ∷ s) ∷ until_close (tokens_of (drop w (b ∷ s)) ++ more)
  unfolding until_close
  value_first zero h f g = absurd (omega arith)
  value_first (suc w) h f g = rw (g, f, down)
    where
      down : suc w - 1 ≡ w
      down = omega arith

-- a token that stands in no gap
token_here : (b : ℕ) (s : List ℕ) → is_gap b ≡ false → tokens_of (b ∷ s) ≡ take (width_at (b ∷ s)) (b ∷ s) ∷ tokens_of (drop (width_at (b ∷ s) - 1) s)
unfolding token_at
token_here b s f = tokens_first b s ∙ rw f

-- a byte that stands not between values is no gap and no comma
no_gap : (b : ℕ) → is_between b ≡ false → is_gap b ≡ false
no_gap b f = by_test (is_gap b) (λ t. absurd (true≢false (rw t at f))) (λ g. g)

no_comma : (b : ℕ) → is_between b ≡ false → is_comma b ≡ false
no_comma b f = rw (no_gap b f) at f

pub front_value :
    (b : ℕ) (s : List ℕ) (more : List (List ℕ))
    → is_between b ≡ false
    → is_close b ≡ false
    → until_close (tokens_of (b ∷ s) ++ more)
    ≡ take (width_at (b ∷ s)) (b ∷ s) ∷ until_close (tokens_of (drop (width_at (b ∷ s)) (b ∷ s)) ++ more)
front_value b s more f g = rw (token_here b s (no_gap b f)) (value_first b s more (width_at (b ∷ s)) (width_some (b ∷ s) (omega arith)) (no_comma b f) g)

pub skip_values : (s : List ℕ) (more : List (List ℕ)) → until_close (tokens_of s ++ more) ≡ until_close (tokens_of (drop (span is_between s) s) ++ more)
unfolding span
skip_values [] more = refl
skip_values (b ∷ s) more =
    by_test (is_between b)
    (λ t. passed t ∙ skip_values s more ∙ rw (t, add-one))
    (λ f. rw f)
  where
    passed : is_between b ≡ true → until_close (tokens_of (b ∷ s) ++ more) ≡ until_close (tokens_of s ++ more)
    passed t = by_test (is_gap b) (λ g. front_gap b s more g) (λ g. front_comma b s more (rw g at t))

-- the values that an assignment is given, by the first byte of them
pub own_none : (more : List (List ℕ)) → values_in (tokens_of []) more ≡ []
unfolding values_in tokens_from
own_none more = refl

pub own_open : (b : ℕ) (s : List ℕ) (more : List (List ℕ)) → is_open b ≡ true → values_in (tokens_of (b ∷ s)) more ≡ until_close (tokens_of s ++ more)
unfolding values_in token_at width_at
own_open b s more t = rw (tokens_first b s, eqb-true b 40 t)

single : (b : ℕ) (s : List ℕ) (ts more : List (List ℕ)) (w : ℕ) → 0 < w → is_open b ≡ false → values_in (take w (b ∷ s) ∷ ts) more ≡ take w (b ∷ s) ∷ []
unfolding values_in
single b s ts more zero h g = absurd (omega arith)
single b s ts more (suc w) h g = rw g

pub own_value : (b : ℕ) (s : List ℕ) (more : List (List ℕ)) → is_gap b ≡ false → is_open b ≡ false → values_in (tokens_of (b ∷ s)) more ≡ take (width_at (b ∷ s)) (b ∷ s) ∷ []
own_value b s more f g = rw (token_here b s f) (single b s _ more (width_at (b ∷ s)) (width_some (b ∷ s) (omega arith)) g)
