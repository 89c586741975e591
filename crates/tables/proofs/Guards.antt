-- A guard, `unless k t` or `unless_at k o`, that was passed, or that refused, whatever follows it.
use Prim.Native.Nat.{ℕ}
use mathlib.Core.Path.{◌≡◌, refl}
use mathlib.Core.Bool.{Bool, true, false}
use mathlib.Core.Option.{Option, none, some}
use Rattle.rules.specs.Answer.{Answer, refused, numbered, placed, unless, unless_at, and_then, Numbered}

module _ {A : Type 0} where
  pub passed : (k : ℕ) (t : Bool) (x y : Answer A) → t ≡ true → y ≡ x → y ≡ unless k t x
  unfolding unless
  passed k t x y h e = rw h e

  pub passed_at : (k : ℕ) (o : Option ℕ) (x y : Answer A) → o ≡ none → y ≡ x → y ≡ unless_at k o x
  unfolding unless_at
  passed_at k o x y h e = rw h e

  module _ {B : Type 0} where
    -- a refusal, of whatever answer
    other : {j k : Numbered} → ◌≡◌ {A = Answer A} (refused j) (refused k) → ◌≡◌ {A = Answer B} (refused k) (refused j)
    other h = cc

    pub refused_same : (k : Numbered) (j : ℕ) (t : Bool) (x : Answer A) (y : Answer B) → unless j t x ≡ refused k → (x ≡ refused k → refused k ≡ y) → refused k ≡ unless j t y
    unfolding unless
    refused_same k j true x y e f = f e
    refused_same k j false x y e f = other {j = numbered j} e

    pub refused_same_at : (k : Numbered) (j : ℕ) (o : Option ℕ) (x : Answer A) (y : Answer B) → unless_at j o x ≡ refused k → (x ≡ refused k → refused k ≡ y) → refused k ≡ unless_at j o y
    unfolding unless_at
    refused_same_at k j none x y e f = f e
    refused_same_at k j (some i) x y e f = other {j = placed j i} e

    pub then-unless : (k : ℕ) (t : Bool) (a : Answer A) (f : A → Answer B) → and_then (unless k t a) f ≡ unless k t (and_then a f)
    unfolding unless and_then
    then-unless k true a f = refl
    then-unless k false a f = refl

    pub then-unless-at : (k : ℕ) (o : Option ℕ) (a : Answer A) (f : A → Answer B) → and_then (unless_at k o a) f ≡ unless_at k o (and_then a f)
    unfolding unless_at and_then
    then-unless-at k none a f = refl
    then-unless-at k (some i) a f = refl
