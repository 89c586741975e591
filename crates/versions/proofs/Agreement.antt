-- Two answers agree where they are the same, or where the older is refused with one of the numbers; and steps that both take keep it so.
use Prim.Native.Nat.{ℕ}
use mathlib.Core.Path.{◌≡◌, refl, sym, ◌∙◌}
use mathlib.Core.Bool.{Bool, true, false}
use mathlib.Core.List.{List}
use Rattle.base.specs.Scans.{among}
use Rattle.rules.specs.Answer.{Answer, answer, refused, unless, and_then, Numbered}
use Rattle.rules.proofs.Answers.{not_answer}
use Rattle.versions.specs.Versions.{Agree}

module _ {A : Type 0} {numbers : List ℕ} where
  pub agree_same : {a b : Answer A} → a ≡ b → Agree numbers a b
  agree_same {a} {b} p = record { same = λ x e. sym p ∙ e; refuses = λ x k n o. clash n o }
    where
      clash : {x : A} {k : Numbered} → b ≡ answer x → a ≡ refused k → among k.number numbers ≡ true
      clash n o = cc

  pub agree_refused : {a b : Answer A} (k : Numbered) → a ≡ refused k → among k.number numbers ≡ true → Agree numbers a b
  agree_refused {a} {b} k r m = record { same = λ x e. clash e; refuses = λ x j n o. number o }
    where
      clash : {x : A} → a ≡ answer x → b ≡ answer x
      clash e = cc

      number : {j : Numbered} → a ≡ refused j → among j.number numbers ≡ true
      number o = cc

  pub agree_unless : {a b : Answer A} (k : ℕ) (t : Bool) → Agree numbers a b → Agree numbers (unless k t a) (unless k t b)
  unfolding unless
  agree_unless k true h = h
  agree_unless k false h = agree_same refl

  pub agree_then : {B : Type 0} {f g : B → Answer A} (a b : Answer B) → Agree numbers a b → ((x : B) → Agree numbers (f x) (g x)) → Agree numbers (and_then a f) (and_then b g)
  unfolding and_then
  agree_then (answer x) b h s = rw (h.same x refl) (s x)
  agree_then (refused k) (answer y) h s = agree_refused k refl (h.refuses y k refl refl)
  agree_then (refused k) (refused j) h s = record { same = λ x e. absurd (not_answer e); refuses = λ x i n o. absurd (not_answer n) }
