-- What a call over two tables answers.
use Rattle.std.specs.Prelude.{ℕ, List, ℤ, Result, Ok, Err}
use Rattle.rules.specs.declared.Layout.{Layout}
use Rattle.rules.specs.Answer.{Answer, answer, refused, Numbered, as_numbered}
use Rattle.rules.specs.Partitions.{partitions}
use Rattle.rules.specs.Segments.{segments}
use Rattle.rules.specs.Accepted.{accepted}
use Rattle.versions.specs.Versions.{Table}
use Rattle.succession_rules.specs.declared.TableRefusal.{TableRefusal}
use Rattle.succession_rules.specs.declared.TableRefusal.TheVariants as Refused

-- a table by its lists
abbrev pub table_of : Layout → List ℕ → List ℕ → List ℕ → List ℤ → List ℕ → Table
table_of l ss es cs ts rs = record { layout = l; partitions = partitions ss es; segments = segments cs ts rs }

-- a value, "or which table is refused, and its refusal"
pub data OfTwo (A : Type 0) : Type 0 where
  answered : A → OfTwo A
  older_refused : Numbered → OfTwo A
  newer_refused : Numbered → OfTwo A

-- a table that passes 1, 2 and 3, or its refusal
unfoldable pub checked : Table → Answer Table
checked t = accepted t.layout t.partitions t.segments (answer t)

module _ {A : Type 0} where
  unfoldable pub refused_first : Answer Table → Answer Table → A → OfTwo A
  refused_first (refused k) newer a = older_refused k
  refused_first (answer o) (refused k) a = newer_refused k
  refused_first (answer o) (answer n) a = answered a

  -- the older is checked whole first, then the newer
  abbrev pub of_two : Table → Table → A → OfTwo A
  of_two older newer a = refused_first (checked older) (checked newer) a

-- What a call's result says: `answered_as` where the answer is told by f, `answered_of` where it is the value.
abbrev pub refused_table : {A : Type 0} → TableRefusal → OfTwo A
refused_table (Refused.Older k) = older_refused (as_numbered k)
refused_table (Refused.Newer k) = newer_refused (as_numbered k)

abbrev pub answered_as : {A B : Type 0} → (A → B) → Result A TableRefusal → OfTwo B
answered_as f (Ok a) = answered (f a)
answered_as f (Err k) = refused_table k

abbrev pub answered_of : {A : Type 0} → Result A TableRefusal → OfTwo A
answered_of = answered_as (λ a. a)
