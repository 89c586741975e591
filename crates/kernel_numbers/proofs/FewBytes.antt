-- Few bytes: every digit of a number in them has room.
use Prim.Native.Nat.{ℕ, ◌+◌, ◌-◌, ◌*◌, ◌^◌, ◌≤◌, ◌<◌}
use mathlib.Core.Path.{◌≡◌, refl, sym, ap, ◌∙◌}
use mathlib.Core.Bool.{Bool, true}
use mathlib.Core.List.{List}
use lib.ListN.{length, drop, get_or}
use native.Mathlib.Nat.{pow-succ'}
use native.Mathlib.Numerals.{add-one}
use native.Mathlib.Omega.{arith}
use borrow.Author.Tests.{lt-ltb}
use Rattle.rules.specs.Text.{is_digit}
use Rattle.std.specs.Prelude.{Option, Some}
use Rattle.kernel_numbers.specs.declared.Digits.{Digits}
use Rattle.kernel_numbers.specs.Pass.{digits, with_digit, digits_from, few, Fitting}
use Rattle.kernel_numbers.proofs.Quotients.{ten_pos, ten_le}
use Rattle.kernel_numbers.proofs.Steps.{run_next}

-- h, of at most `at` digits, and one digit more
module _ (h at d : ℕ) (l : h < 10 ^ at) (m : d ≤ 9) where
  tens : 10 ^ (at + 1) ≡ 10 * 10 ^ at
  tens = rw (add-one at, pow-succ' 10 at)

  pub few_digits : (x : ℕ) → x ≡ h * 10 + d → x < 10 ^ (at + 1)
  few_digits x e = omega (arith, tens)

  pub few_room : (len : ℕ) → at < len → len ≤ few → h * 10 + d < 2 ^ 64
  few_room len i j = omega (arith, few_digits (h * 10 + d) refl, ten_le (at + 1) 19 (omega arith))

  pub few_in : (len x : ℕ) → at < len → len ≤ few → x ≡ h * 10 + d → Some (digits x 0) ≡ with_digit (Some (digits h 0)) d
  unfolding with_digit
  few_in len x i j e = rw (e, lt-ltb (h * 10 + d) (2 ^ 64) (few_room len i j))

pub few_next : (s : List ℕ) (at : ℕ) (t : Bool) → at < length s → t ≡ is_digit (get_or s at 0) → t ≡ true → (R : Option Digits) (h x : ℕ)
    → length s ≤ few → h < 10 ^ at → get_or s at 0 - 48 ≤ 9 → x ≡ h * 10 + (get_or s at 0 - 48)
    → R ≡ digits_from (Some (digits h 0)) (drop at s) → R ≡ digits_from (Some (digits x 0)) (drop (at + 1) s)
few_next s at t l e n R h x j b m i = run_next s at t l e R (Some (digits h 0)) (Some (digits x 0)) n (few_in h at (get_or s at 0 - 48) b m (length s) x l j i)

-- what is kept where nothing came before, and at a later place
pub fitting_none : (len at : ℕ) → Fitting len at (Some (digits 0 0))
fitting_none len at h = (0, refl, ten_pos at)

pub fitting_later : (len at to : ℕ) (k : Option Digits) → at ≤ to → Fitting len at k → Fitting len to k
fitting_later len at to k h f l = let g = f l in (g.0, g.1, omega (arith, g.2, ten_le at to h))

pub fitting_long : (len at : ℕ) (k : Option Digits) → few < len → Fitting len at k
fitting_long len at k h l = absurd (omega arith)

-- in few bytes
module _ (len at : ℕ) (D : Option Digits) (f : Fitting len at D) (h : len ≤ few) where
  module _ (k : Digits) (e : D ≡ Some k) where
    same : k ≡ digits (f h).0 0
    same = let z : Some k ≡ Some (digits (f h).0 0) = sym e ∙ (f h).1 in cc

    pub fitting_head : k.head < 10 ^ at
    fitting_head = rw same (f h).2

    pub fitting_run : (s : List ℕ) (x : ℕ) → Some (digits x 0) ≡ digits_from (Some (digits k.head 0)) s → Some (digits x 0) ≡ digits_from D s
    fitting_run s x i = i ∙ ap (λ (q : Option Digits). digits_from q s) (rw (e, same))

pub fitting_few : (len at x : ℕ) → x < 10 ^ at → Fitting len at (Some (digits x 0))
fitting_few len at x l h = (x, refl, l)
