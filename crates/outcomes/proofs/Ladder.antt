-- The ladder of a call, rung by rung: its refusals are those of its rungs.
use Prim.Native.Nat.{ℕ}
use mathlib.Core.Path.{◌≡◌, refl, sym, subst}
use mathlib.Core.Bool.{Bool, true, false}
use mathlib.Core.List.{List}
use mathlib.Core.Option.{Option, none, some}
use Rattle.base.specs.Scans.{among}
use Rattle.rules.specs.declared.Layout.{Layout}
use Rattle.rules.specs.Answer.{Answer, answer, refused, refuse, numbered, placed, unless, unless_at, and_then, Numbered}
use Rattle.rules.specs.Partitions.{Partitions}
use Rattle.rules.specs.Segments.{Segments}
use Rattle.rules.specs.Accepted.{accepted}
use Rattle.rules.proofs.Answers.{not_answer}
use Rattle.outcomes.specs.Refusals.{has_place, OneOf, OnlyRefuses}

module _ {A : Type 0} {places : ℕ → Bool} {ks : List ℕ} where
  pub answers : (x : A) → OnlyRefuses places ks (answer x)
  answers x r e = absurd (not_answer (sym e))

  refuses : (r : Numbered) → OneOf places ks r → OnlyRefuses {A = A} places ks (refused r)
  refuses r w q e = let same : r ≡ q = cc in subst (OneOf places ks) same w

  pub last_rung : (n : ℕ) → among n ks ≡ true → places n ≡ false → OnlyRefuses {A = A} places ks (refuse n)
  last_rung n h p = refuses (numbered n) (record { number = h; place = sym p })

  -- what follows may need the test
  pub rung_then : (n : ℕ) (b : Bool) {a : Answer A} → among n ks ≡ true → places n ≡ false → (b ≡ true → OnlyRefuses places ks a) → OnlyRefuses places ks (unless n b a)
  unfolding unless
  rung_then n true h p f = f refl
  rung_then n false h p f = last_rung n h p

  pub rung : (n : ℕ) (b : Bool) {a : Answer A} → among n ks ≡ true → places n ≡ false → OnlyRefuses places ks a → OnlyRefuses places ks (unless n b a)
  rung n b h p f = rung_then n b h p (λ t. f)

  pub rung_at : (n : ℕ) (o : Option ℕ) {a : Answer A} → among n ks ≡ true → places n ≡ true → OnlyRefuses places ks a → OnlyRefuses places ks (unless_at n o a)
  unfolding unless_at
  rung_at n none h p f = f
  rung_at n (some i) h p f = refuses (placed n i) (record { number = h; place = sym p })

  -- a step after another, which may need what that one answers
  pub then : {B : Type 0} (b : Answer B) {f : B → Answer A} → OnlyRefuses places ks b → ((x : B) → b ≡ answer x → OnlyRefuses places ks (f x)) → OnlyRefuses places ks (and_then b f)
  unfolding and_then
  then (answer x) h g = g x refl
  then (refused r) h g = refuses r (h r refl)

-- under any set that has 1, 2 and 3
pub accepted_only : {A : Type 0} {ks : List ℕ} → among 1 ks ≡ true → among 2 ks ≡ true → among 3 ks ≡ true
    → (l : Layout) (p : Partitions) (g : Segments) {a : Answer A} → OnlyRefuses has_place ks a → OnlyRefuses has_place ks (accepted l p g a)
unfolding accepted has_place among
accepted_only one two three l p g h = rung 1 _ one refl (rung_at 2 _ two refl (rung_at 3 _ three refl h))
