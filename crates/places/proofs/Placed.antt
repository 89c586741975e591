-- What is known of every refusal of a call that has a place, rung by rung of the call's ladder.
use Rattle.std.specs.Prelude.{Some, None}
use Prim.Native.Nat.{ℕ}
use mathlib.Core.Path.{◌≡◌, refl, sym, ap, subst}
use mathlib.Core.Bool.{Bool, true, false}
use mathlib.Core.Logic.{◌⊎◌, inl, inr}
use mathlib.Core.Option.{Option, none, some}
use native.Mathlib.Omega.{arith}
use Rattle.rules.specs.Answer.{Answer, answer, refused, refuse, refuse_at, unless, unless_at, and_then, Numbered}
use Rattle.rules.proofs.Answers.{not_answer}

module _ {A : Type 0} where
  same_refusal : {r q : Numbered} → ◌≡◌ {A = Answer A} (refused r) (refused q) → r ≡ q
  same_refusal h = cc

  same_number : {k i n j : ℕ} → ◌≡◌ {A = Answer A} (refuse_at k i) (refuse_at n j) → k ≡ n
  same_number h = ap (λ r. r.number) (same_refusal h)

  same_place : {k i n j : ℕ} → ◌≡◌ {A = Answer A} (refuse_at k i) (refuse_at n j) → i ≡ j
  same_place {k} {i} {n} {j} h = let e : Some i ≡ Some j = ap (λ r. r.place) (same_refusal h) in cc

  pub no_place : {k n j : ℕ} → ◌≡◌ {A = Answer A} (refuse k) (refuse_at n j) → ⊥
  no_place {k} {n} {j} h =
      let e : None ≡ Some j = ap (λ r. r.place) (same_refusal h) in
      let z : ◌≡◌ {A = ℕ} 0 1 = cc in
      omega arith

-- every refusal with a place has a number and a place of which Q holds
module _ (Q : ℕ → ℕ → Type 0) where
  abbrev pub Placed : {A : Type 0} → Answer A → Type 0
  Placed a = (k i : ℕ) → a ≡ refuse_at k i → Q k i

  module _ {A : Type 0} where
    pub of_answer : (x : A) → Placed (answer x)
    of_answer x k i h = absurd (not_answer (sym h))

    of_number : (n : ℕ) → Placed {A = A} (refuse n)
    of_number n k i h = absurd (no_place h)

    pub of_unless : (n : ℕ) (t : Bool) (a : Answer A) → (t ≡ true → Placed a) → Placed (unless n t a)
    unfolding unless
    of_unless n true a f = f refl
    of_unless n false a f = of_number n

    pub of_unless_at : (n : ℕ) (o : Option ℕ) (a : Answer A) → ((i : ℕ) → o ≡ some i → Q n i) → (o ≡ none → Placed a) → Placed (unless_at n o a)
    unfolding unless_at
    of_unless_at n none a q f = f refl
    of_unless_at n (some j) a q f = λ k i h. subst (λ m. Q m i) (same_number h) (subst (Q n) (same_place h) (q j refl))

  pub of_then : {A B : Type 0} (a : Answer A) (f : A → Answer B) → Placed a → ((x : A) → a ≡ answer x → Placed (f x)) → Placed (and_then a f)
  unfolding and_then
  of_then {A} (answer x) f p q = q x refl
  of_then {A} (refused r) f p q = λ k i h. p k i (ap {B = Answer A} refused (same_refusal h))

-- One rung back: what a refusal with a place says of the rungs before it.
module _ {A : Type 0} {k i : ℕ} where
  pub past_unless : (n : ℕ) (t : Bool) (a : Answer A) → unless n t a ≡ refuse_at k i → (t ≡ true) × (a ≡ refuse_at k i)
  unfolding unless
  past_unless n true a h = (refl, h)
  past_unless n false a h = absurd (no_place h)

  pub past_unless_at : (n : ℕ) (o : Option ℕ) (a : Answer A) → unless_at n o a ≡ refuse_at k i → ((k ≡ n) × (o ≡ some i)) ⊎ ((o ≡ none) × (a ≡ refuse_at k i))
  unfolding unless_at
  past_unless_at n none a h = inr (refl, h)
  past_unless_at n (some j) a h = inl (sym (same_number h), ap some (same_place h))

pub past_then : {A B : Type 0} {k i : ℕ} (a : Answer A) (f : A → Answer B) → and_then a f ≡ refuse_at k i → (a ≡ refuse_at k i) ⊎ ((x : A) × (a ≡ answer x) × (f x ≡ refuse_at k i))
unfolding and_then
past_then (answer x) f h = inr (x, refl, h)
past_then {A} (refused r) f h = inl (ap {B = Answer A} refused (same_refusal h))
