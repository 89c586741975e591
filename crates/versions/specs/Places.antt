-- What the places of request 3 do to demand 3. A text is read by the layout alone, so that tables with one layout refuse it alike, place included;
-- and the refusals that demand 3 names have no place.
use Rattle.std.specs.Prelude.{ℕ, ◌≡◌, true, List, [], ◌∷◌, ◌↔◌, ℤ, None}
use Rattle.base.specs.Scans.{among}
use Rattle.rules.specs.Answer.{Answer, refused, Numbered}
use Rattle.versions.specs.Versions.{Table, Accepted, Says, same-n, same_moduli, same_offsets, read_by, printed, time_by, count_by, older_refuses_stamp, older_refuses_count, older_refuses_time}

-- the refusals of a text
abbrev pub of_text : List ℕ
of_text = 4 ∷ 5 ∷ 6 ∷ 7 ∷ 8 ∷ 9 ∷ []

abbrev pub TextRefusedAlike : Type 0
TextRefusedAlike =
    (older newer : Table) → Accepted older → Accepted newer → Says older newer same-n → Says older newer same_moduli → Says older newer same_offsets
    → (s : List ℕ) (r : Numbered) → among r.number of_text ≡ true → (read_by older s ≡ refused r) ↔ (read_by newer s ≡ refused r)

-- where a call is refused with one of these numbers, then without a place
abbrev pub WithoutPlace : {A : Type 0} → List ℕ → Answer A → Type 0
WithoutPlace numbers a = (r : Numbered) → a ≡ refused r → among r.number numbers ≡ true → r.place ≡ None

-- of every table, accepted or not
pub record NamedHaveNoPlace (t : Table) : Type 0 where
  pub reading : (s : List ℕ) → WithoutPlace older_refuses_stamp (read_by t s)
  pub printing : (e : ℕ) (b : List ℕ) → WithoutPlace older_refuses_count (printed t e b)
  pub time_of_lem : (e : ℕ) → WithoutPlace older_refuses_count (time_by t e)
  pub count_at_lem : (time : ℤ) → WithoutPlace older_refuses_time (count_by t time)
