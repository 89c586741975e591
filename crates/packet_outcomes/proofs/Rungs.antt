-- One rung back: what a refusal without a place says of the rungs before it.
use Prim.Native.Nat.{ℕ}
use mathlib.Core.Path.{◌≡◌, refl, sym, ap}
use mathlib.Core.Bool.{Bool, true, false}
use mathlib.Core.List.{List}
use mathlib.Core.Logic.{◌⊎◌, inl, inr, ⊎_elim}
use mathlib.Core.Option.{Option, none, some}
use Rattle.base.specs.Scans.{among, is_none}
use Rattle.base.proofs.Tests.{not_both}
use Rattle.rules.specs.Answer.{Answer, refuse, numbered, unless, unless_at}
use Rattle.outcomes.specs.Refusals.{OnlyRefuses}
use Rattle.places.proofs.Placed.{no_place}

module _ {A : Type 0} {n : ℕ} where
  same_number : {k : ℕ} → ◌≡◌ {A = Answer A} (refuse k) (refuse n) → k ≡ n
  same_number {k} h = let e : numbered k ≡ numbered n = cc in ap (λ r. r.number) e

  pub at_or_past : (k : ℕ) (t : Bool) (a : Answer A) → unless k t a ≡ refuse n → ((k ≡ n) × (t ≡ false)) ⊎ ((t ≡ true) × (a ≡ refuse n))
  unfolding unless
  at_or_past k true a h = inr (refl, h)
  at_or_past k false a h = inl (same_number h, refl)

  pub past : (k : ℕ) (t : Bool) (a : Answer A) → (k ≡ n → ⊥) → unless k t a ≡ refuse n → (t ≡ true) × (a ≡ refuse n)
  past k t a other h = ⊎_elim (λ w. absurd (other w.0)) (λ w. w) (at_or_past k t a h)

  pub past_at : (k : ℕ) (o : Option ℕ) (a : Answer A) → unless_at k o a ≡ refuse n → (is_none o ≡ true) × (a ≡ refuse n)
  unfolding unless_at
  past_at k none a h = (refl, h)
  past_at k (some i) a h = absurd (no_place (sym h))

  pub outside : {places : ℕ → Bool} {ks : List ℕ} {a : Answer A} → OnlyRefuses places ks a → among n ks ≡ false → a ≡ refuse n → ⊥
  outside w f h = not_both (w (numbered n) h).number f
