-- Which table is refused, and with what: whatever is asked of the two, refused exactly where one is not accepted.
use Rattle.std.specs.Prelude.{ℕ, ◌≡◌, List, [], ◌∷◌, ◌↔◌}
use Rattle.rules.specs.Answer.{answer, refused, Numbered}
use Rattle.outcomes.specs.Refusals.{has_place, OnlyRefuses}
use Rattle.versions.specs.Versions.{Table, Accepted}
use Rattle.succession_rules.specs.OfTwo.{answered, older_refused, newer_refused, checked, of_two}

-- 2 and 3 with a place
unfoldable pub table_refusals : List ℕ
table_refusals = 1 ∷ 2 ∷ 3 ∷ []

-- of one table
pub record TableChecked (t : Table) : Type 0 where
  pub passes : Accepted t ↔ (checked t ≡ answer t)
  pub only : OnlyRefuses has_place table_refusals (checked t)

-- of two: what is answered, the older's refusal, and the newer's where the older is accepted
pub record RefusedExactly {A : Type 0} (older newer : Table) (a : A) : Type 0 where
  pub answers : (b : A) → (of_two older newer a ≡ answered b) ↔ (Accepted older × Accepted newer × (a ≡ b))
  pub older_out : (k : Numbered) → (of_two older newer a ≡ older_refused k) ↔ (checked older ≡ refused k)
  pub newer_out : (k : Numbered) → (of_two older newer a ≡ newer_refused k) ↔ (Accepted older × (checked newer ≡ refused k))
