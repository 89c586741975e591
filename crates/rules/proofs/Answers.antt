-- Where a call answers, each of its tests holds.
use Prim.Native.Nat.{ℕ}
use mathlib.Core.Path.{◌≡◌, refl}
use mathlib.Core.Bool.{Bool, true, false}
use mathlib.Core.Option.{Option, none, some}
use native.Mathlib.Omega.{arith}
use Rattle.rules.specs.Answer.{Answer, answer, refused, unless, unless_at, Numbered}

module _ {A : Type 0} where
  pub payload : {x y : A} → ◌≡◌ {A = Answer A} (answer x) (answer y) → x ≡ y
  payload q = cc

  pub not_answer : {k : Numbered} {v : A} → ◌≡◌ {A = Answer A} (refused k) (answer v) → ⊥
  not_answer h = let z : ◌≡◌ {A = ℕ} 0 1 = cc in omega arith

  pub unless-test : (k : ℕ) (t : Bool) (a : Answer A) (v : A) → unless k t a ≡ answer v → t ≡ true
  unfolding unless
  unless-test k true a v h = refl
  unless-test k false a v h = absurd (not_answer h)

  pub unless-rest : (k : ℕ) (t : Bool) (a : Answer A) (v : A) → unless k t a ≡ answer v → a ≡ answer v
  unfolding unless
  unless-rest k true a v h = h
  unless-rest k false a v h = absurd (not_answer h)

  pub unless-at-none : (k : ℕ) (o : Option ℕ) (a : Answer A) (v : A) → unless_at k o a ≡ answer v → o ≡ none
  unfolding unless_at
  unless-at-none k none a v h = refl
  unless-at-none k (some i) a v h = absurd (not_answer h)

  pub unless-at-rest : (k : ℕ) (o : Option ℕ) (a : Answer A) (v : A) → unless_at k o a ≡ answer v → a ≡ answer v
  unfolding unless_at
  unless-at-rest k none a v h = h
  unless-at-rest k (some i) a v h = absurd (not_answer h)
