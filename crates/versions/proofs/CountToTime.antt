-- The time of an encoded count: up to the older's total both tables choose one segment and follow one line.
use Prim.Native.Nat.{ℕ, ◌≤◌}
use native.Mathlib.Omega.{arith}
use mathlib.Core.Path.{◌≡◌, refl, sym, ap}
use mathlib.Core.Option.{Option, none, some}
use lib.Dec.{leb}
use borrow.Author.Tests.{leb-true, le-leb, lt-leb}
use Rattle.base.specs.Scans.{among}
use Rattle.base.proofs.Tests.{by_test}
use Rattle.base.proofs.Scans.{last_found}
use Rattle.rules.specs.Answer.{answer, numbered, unless, time_of_count}
use Rattle.rules.specs.Segments.{Segments, segments_in, row_of, line_at}
use Rattle.rules.specs.Time.{segment_of, time_on, time_in}
use Rattle.versions.specs.Versions.{Agree, older_refuses_count}
use Rattle.versions.proofs.Agreement.{agree_same, agree_refused}
use Rattle.versions.proofs.Lists.{last_more}
use Rattle.versions.proofs.Segments.{KeptSegments, count_same}

-- total is the older's, grown the newer's
module _ (unit total grown : ℕ) (up : total ≤ grown) (g h : Segments) (kept : KeptSegments unit total g h) (e : ℕ) where
  segment_same : e ≤ total → segment_of h.counts e ≡ segment_of g.counts e
  unfolding segment_of
  segment_same b =
      last_more (λ i. leb (row_of g i).count e) (λ i. leb (row_of h i).count e) (segments_in g) (segments_in h) kept.more
      (λ i c. rw (count_same unit total g h kept i c))
      (λ i c d. lt-leb (row_of h i).count e (omega (arith, kept.further i c d)))

  line_same : (x : Option ℕ) → segment_of g.counts e ≡ x → time_on unit h e x ≡ time_on unit g e x
  unfolding time_on segment_of
  line_same none s = refl
  line_same (some i) s = ap (λ r. answer (time_of_count (line_at unit r e))) (kept.rows i (last_found (λ i. leb (row_of g i).count e) (segments_in g) i s).below)

  pub time_agrees : Agree older_refuses_count (time_in unit total g e) (time_in unit grown h e)
  unfolding time_in unless among
  time_agrees =
      by_test (leb e total)
      (λ t. let b : e ≤ total = leb-true _ _ t in
      agree_same (rw (t, le-leb e grown (omega arith), segment_same b) (sym (line_same (segment_of g.counts e) refl))))
      (λ f. agree_refused (numbered 12) (rw f) refl)
