-- A name in two parts, and the number of a name among the ten.
use Prim.Native.Nat.{ℕ, ◌+◌, ◌-◌, ◌≤◌, ◌<◌}
use mathlib.Core.Path.{◌≡◌, refl, sym, ap, ◌∙◌}
use mathlib.Core.Bool.{Bool, true, false, not, ◌&&◌}
use mathlib.Core.List.{List, [], ◌∷◌, ◌++◌}
use lib.Dec.{eqb}
use lib.ListN.{length, take, drop, get_or, length-append, length-drop}
use lib.Seq.{take_all}
use borrow.Author.Tests.{not-true, not-false, eqb-true, eqb-false}
use native.Mathlib.Omega.{arith}
use Rattle.base.proofs.Tests.{by_test}
use Rattle.base.proofs.Scans.{first_is, first_none}
use Rattle.kernel_rules.specs.declared.Stage.TheVariants.{Data}
use Rattle.kernel_rules.specs.Lines.{same, part}
use Rattle.kernel_rules.specs.Names.{name_list, names, number_or, which, assigns}
use Rattle.kernel_lines.proofs.Sameness.{other_length}
use Rattle.kernel_heads.specs.declared.Part.{Part}
use Rattle.kernel_heads.specs.Parts.{Named}

-- two parts
same_joined : (w a b : List ℕ) → length a ≤ length w → same w (a ++ b) ≡ (same (take (length a) w) a && same (drop (length a) w) b)
unfolding same
same_joined w [] b h = refl
same_joined [] (x ∷ a) b h = absurd (omega arith)
same_joined (y ∷ w) (x ∷ a) b h = rw (same_joined w a b (omega arith)) (joined (eqb y x) (same (take (length a) w) a) (same (drop (length a) w) b))
  where
    joined : (p q r : Bool) → (p && (q && r)) ≡ ((p && q) && r)
    joined true q r = refl
    joined false q r = refl

module _ (w a b : List ℕ) where
  pub joined_length : (length w ≡ length a + length b → ⊥) → false ≡ same w (a ++ b)
  joined_length f = other_length w (a ++ b) (λ e. f (e ∙ length-append a b))

  module _ (h : length w ≡ length a + length b) (t : Bool) (e : t ≡ same (take (length a) w) a) where
    pub joined_other : not t ≡ true → false ≡ same w (a ++ b)
    joined_other f = sym (same_joined w a b (omega arith) ∙ rw (← e, not-true t f))

    pub joined_rest : (r : Bool) → not t ≡ false → r ≡ same (take (length a + length b - length a) (drop (length a) w)) b → r ≡ same w (a ++ b)
    joined_rest r f x = x ∙ ap (λ (s : List ℕ). same s b) whole ∙ sym (same_joined w a b (omega arith) ∙ rw (← e, not-false t f))
      where
        whole : take (length a + length b - length a) (drop (length a) w) ≡ drop (length a) w
        whole = take_all (length a + length b - length a) (drop (length a) w) (omega (arith, length-drop (length a) w))

-- what is left of ten numbers
above : (n k : ℕ) → n ≤ k → (k ≡ n → ⊥) → n + 1 ≤ k
above n k h f = omega arith

lowest : (k : ℕ) → 0 ≤ k
lowest k = omega arith

nine_is : (k : ℕ) → 9 ≤ k → k < 10 → k ≡ 9
nine_is k a b = omega arith

pub last_number :
    (k : ℕ) → k < names → (k ≡ 0 → ⊥) → (k ≡ 1 → ⊥) → (k ≡ 2 → ⊥) → (k ≡ 3 → ⊥) → (k ≡ 4 → ⊥) → (k ≡ 5 → ⊥) → (k ≡ 6 → ⊥) → (k ≡ 7 → ⊥) → (k ≡ 8 → ⊥)
    → k ≡ 9
last_number k h f0 f1 f2 f3 f4 f5 f6 f7 f8 =
    nine_is k (above 8 k (above 7 k (above 6 k (above 5 k (above 4 k (above 3 k (above 2 k (above 1 k (above 0 k (lowest k) f0) f1) f2) f3) f4) f5) f6) f7) f8) h

-- the number of a name, as a loop over the names meets it
abbrev pub is_named : List ℕ → List ℕ → ℕ → Bool
is_named digits w k = same w (get_or (name_list digits) k [])

-- none of the first k names
abbrev pub NoneOf : List ℕ → List ℕ → ℕ → Type 0
NoneOf digits w k = (j : ℕ) → j < k → is_named digits w j ≡ false

pub none_start : (digits w : List ℕ) → NoneOf digits w 0
none_start digits w j h = absurd (omega arith)

module _ (digits w : List ℕ) (k : ℕ) (before : NoneOf digits w k) where
  pub none_next : (t : Bool) → t ≡ is_named digits w k → t ≡ false → NoneOf digits w (k + 1)
  none_next t e f j h = by_test (eqb j k) (λ y. rw (eqb-true j k y) (sym e ∙ f)) (λ n. before j (less (eqb-false j k n)))
    where
      less : (j ≡ k → ⊥) → j < k
      less d = omega arith

  pub named_here : (t : Bool) → k < names → t ≡ is_named digits w k → t ≡ true → k ≡ which digits w
  unfolding which number_or
  named_here t h e y = rw (first_is (is_named digits w) names k (record { below = h; holds = sym e ∙ y; before = before }))

  pub named_none : names ≤ k → names ≡ which digits w
  unfolding which number_or
  named_none h = rw (first_none (is_named digits w) names (λ j l. before j (omega arith)))

-- the name that a line of data assigns
pub assigned_name : (digits l : List ℕ) (n : Part) (k : ℕ) → Named l n → k ≡ which digits (part l n.start n.end) → k ≡ assigns digits Data l
unfolding assigns
assigned_name digits l n k named e = e ∙ rw named.bytes
