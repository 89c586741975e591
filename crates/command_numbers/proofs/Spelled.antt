-- Digits as a number kept up to the cap.
use Prim.Native.Nat.{ℕ, zero, suc, ◌+◌, ◌-◌, ◌*◌, ◌≤◌, ◌<◌, min}
use mathlib.Core.Path.{◌≡◌, refl, sym, ◌∙◌}
use mathlib.Core.Bool.{Bool, true, false, not}
use mathlib.Core.List.{List, [], ◌∷◌, ◌++◌}
use lib.Dec.{eqb}
use lib.ListN.{length, get_or, drop, replicate, drop_of_length-le, length-append, length-take, length-replicate, get_or-eq_default, get_or-replicate}
use lib.Seq.{get_or-take, get_or-drop}
use native.Mathlib.Omega.{arith}
use borrow.Author.Tests.{eq-eqb, ne_eqb}
use Rattle.base.specs.Scans.{all}
use Rattle.base.proofs.Lists.{drop_next}
use Rattle.rules.specs.Text.{is_digit}
use Rattle.command_rules.specs.Input.{spelled_from}
use Rattle.command_input.specs.Runs.{run_length}
use Rattle.command_input.proofs.Runs.{run_next, run_stop, run_past}
use Rattle.command_numbers.specs.Given.{number_cap}
use Rattle.command_numbers.specs.Places.{nine_decimals}

-- a cap before the last digits is as one behind them
pub capped_same : (s : List ℕ) (x y : ℕ) → min x number_cap ≡ min y number_cap → min (spelled_from x s) number_cap ≡ min (spelled_from y s) number_cap
unfolding spelled_from
capped_same [] x y e = e
capped_same (b ∷ s) x y e = capped_same s (10 * x + (b - 48)) (10 * y + (b - 48)) (omega arith)

pub spelled_append : (s t : List ℕ) (x : ℕ) → spelled_from x (s ++ t) ≡ spelled_from (spelled_from x s) t
unfolding spelled_from
spelled_append [] t x = refl
spelled_append (b ∷ s) t x = spelled_append s t (10 * x + (b - 48))

-- a walk along digits: what is left from here has the value of the whole
module _ (s : List ℕ) (x i w : ℕ) (e : w ≡ min (spelled_from x (drop i s)) number_cap) where
  pub number_next : (y d : ℕ) → i < length s → d ≡ get_or s i 0 - 48 → y ≡ min (10 * x + d) number_cap → w ≡ min (spelled_from y (drop (i + 1) s)) number_cap
  unfolding spelled_from
  number_next y d l f g =
      e
      ∙ rw (drop_next s i 0 l) (capped_same (drop (i + 1) s) (10 * x + (get_or s i 0 - 48)) y (rw (← f) (omega arith)))

  pub number_done : length s ≤ i → x ≤ number_cap → x ≡ w
  unfolding spelled_from
  number_done l h = sym (e ∙ rw (drop_of_length-le s l) (omega arith))

-- nine decimals
pub nine_length : (s : List ℕ) → length (nine_decimals s) ≡ 9
unfolding nine_decimals
nine_length s = rw (length-take, length-append, length-replicate) (omega arith)

padded_at : (s : List ℕ) (i : ℕ) → i < 9 → get_or (s ++ replicate 9 48) i 0 ≡ get_or s i 48
padded_at [] i h = get_or-replicate 9 i 48 0 h
padded_at (b ∷ s) zero h = refl
padded_at (b ∷ s) (suc i) h = padded_at s i (omega arith)

nine_at : (s : List ℕ) (i : ℕ) → i < 9 → get_or (nine_decimals s) i 0 ≡ get_or s i 48
unfolding nine_decimals
nine_at s i h = get_or-take 9 (s ++ replicate 9 48) i 0 h ∙ padded_at s i h

module _ (s : List ℕ) (from x i w : ℕ) (e : w ≡ min (spelled_from x (drop i (nine_decimals (drop from s)))) number_cap) where
  pub decimals_next : (y b d : ℕ) → i < 9 → b ≡ get_or s (from + i) 48 → d ≡ b - 48 → y ≡ min (10 * x + d) number_cap
      → w ≡ min (spelled_from y (drop (i + 1) (nine_decimals (drop from s)))) number_cap
  decimals_next y b d l f g h =
      number_next (nine_decimals (drop from s)) x i w e y d (rw (nine_length (drop from s)) l)
      (g ∙ rw (f, nine_at (drop from s) i l, get_or-drop from s i 48)) h

  pub decimals_done : 9 ≤ i → x ≤ number_cap → x ≡ w
  decimals_done l h = number_done (nine_decimals (drop from s)) x i w e (rw (nine_length (drop from s)) l) h

-- the digit at a place, `0` behind the end
pub decimal_in : (s : List ℕ) (i : ℕ) → i < length s → get_or s i 0 ≡ get_or s i 48
decimal_in [] i l = absurd (omega arith)
decimal_in (b ∷ s) zero l = refl
decimal_in (b ∷ s) (suc i) l = decimal_in s i (omega arith)

pub decimal_past : (s : List ℕ) (i : ℕ) → length s ≤ i → 48 ≡ get_or s i 48
decimal_past s i l = sym (get_or-eq_default s 48 l)

-- nothing but `0` from a place on
module _ (s : List ℕ) (i : ℕ) (w : Bool) (e : w ≡ all (λ b. eqb b 48) (drop i s)) where
  pub zeros_next : i < length s → get_or s i 0 ≡ 48 → w ≡ all (λ b. eqb b 48) (drop (i + 1) s)
  unfolding all
  zeros_next l z = e ∙ rw (drop_next s i 0 l, eq-eqb (get_or s i 0) 48 z)

  pub zeros_out : i < length s → (get_or s i 0 ≡ 48 → ⊥) → false ≡ w
  unfolding all
  zeros_out l n = sym (e ∙ rw (drop_next s i 0 l, ne_eqb (get_or s i 0) 48 n))

  pub zeros_done : length s ≤ i → true ≡ w
  unfolding all
  zeros_done l = sym (e ∙ rw (drop_of_length-le s l))

-- the place where digits end
module _ (s : List ℕ) (i e : ℕ) (h : e ≡ i + run_length is_digit (drop i s)) where
  pub digits_next : (t : Bool) → i < length s → t ≡ is_digit (get_or s i 0) → not t ≡ false → e ≡ i + 1 + run_length is_digit (drop (i + 1) s)
  digits_next = run_next is_digit s i e h

  pub digits_stop : (t : Bool) → i < length s → t ≡ is_digit (get_or s i 0) → not t ≡ true → i ≡ e
  digits_stop = run_stop is_digit s i e h

  pub digits_past : length s ≤ i → i ≡ e
  digits_past = run_past is_digit s i e h
