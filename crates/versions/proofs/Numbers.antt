-- Stamps of one partition and of the next are never the same: the last digits before their `/` differ.
use Prim.Native.Nat.{ℕ, zero, suc, ◌+◌, ◌-◌, ◌/◌, ◌%◌, max}
use native.Mathlib.Omega.{arith}
use mathlib.Core.Path.{◌≡◌, sym, ap, ◌∙◌}
use mathlib.Core.Bool.{cond}
use mathlib.Core.List.{List, [], ◌∷◌, ◌++◌, append_assoc}
use lib.Dec.{eqb}
use borrow.Author.Tests.{ne_eqb}
use Rattle.rules.specs.Print.{digit_count, last_digits, padded}

-- the byte before the first `/`, after the byte b
last_before : ℕ → List ℕ → ℕ
last_before b [] = b
last_before b (c ∷ s) = cond (eqb c 47) b (last_before c s)

-- a digit is no `/`
past_digit : (b d : ℕ) (s : List ℕ) → last_before b ((48 + d) ∷ s) ≡ last_before (48 + d) s
unfolding last_before
past_digit b d s = rw (ne_eqb (48 + d) 47 (λ e. omega arith))

past_digits : (w x b d : ℕ) (s : List ℕ) → last_before b (last_digits w x ++ ((48 + d) ∷ s)) ≡ last_before (48 + d) s
unfolding last_digits
past_digits zero x b d s = past_digit b d s
past_digits (suc w) x b d s =
    rw append_assoc (past_digits w (x / 10) b (x % 10) ((48 + d) ∷ s) ∙ past_digit (48 + x % 10) d s)

last_digit : (w x : ℕ) (s : List ℕ) → last_before 0 (last_digits (suc w) x ++ (47 ∷ s)) ≡ 48 + x % 10
unfolding last_digits last_before
last_digit w x s = rw append_assoc (past_digits w (x / 10) 0 (x % 10) (47 ∷ s))

last_padded : (x : ℕ) (s : List ℕ) → last_before 0 (padded 1 x ++ (47 ∷ s)) ≡ 48 + x % 10
unfolding padded
last_padded x s =
    let e : max 1 (digit_count x) ≡ suc (max 1 (digit_count x) - 1) = omega arith in
    rw e (last_digit (max 1 (digit_count x) - 1) x s)

pub numbers_differ : (x : ℕ) (s r : List ℕ) → padded 1 x ++ (47 ∷ s) ≡ padded 1 (x + 1) ++ (47 ∷ r) → ⊥
numbers_differ x s r e = let d = sym (last_padded x s) ∙ ap (last_before 0) e ∙ last_padded (x + 1) r in omega arith
