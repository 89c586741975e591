-- The count at a time: while the older's answer is at most its total, no further segment has begun, since the newer does not step back at the seam.
use Prim.Native.Nat.{ℕ, zero, suc, ◌+◌, ◌-◌, ◌*◌, ◌≤◌, ◌<◌}
use native.Mathlib.Omega.{arith}
use native.Mathlib.Nat.{mul_comm, add-zero}
use mathlib.Core.Path.{◌≡◌, refl, sym, ap, ◌∙◌}
use mathlib.Core.Bool.{Bool, true, false}
use mathlib.Core.Option.{some}
use mathlib.Core.Logic.{⊎_elim}
use lib.Dec.{leb}
use lib.IntN.{ℤ}
use lib.Signed.{le_z}
use borrow.Author.Tests.{ltb-true, ltb-false, leb-true, le-leb, lt-leb, lt-ltb}
use Rattle.base.specs.Scans.{among, last_below}
use Rattle.base.specs.Rounding.{round_up}
use Rattle.base.specs.Signed.{elapsed}
use Rattle.base.proofs.Rounding.{at_most_up, down_at_least}
use Rattle.base.proofs.Tests.{by_test}
use Rattle.base.proofs.Scans.{Last, last_or, last_is, last_none}
use Rattle.base.proofs.Signed.{after-later}
use Rattle.rules.specs.declared.Segment.{Segment}
use Rattle.rules.specs.Answer.{refuse, numbered, unless}
use Rattle.rules.specs.Segments.{Segments, segments_in, row_of, has_next, line_at, overtakes}
use Rattle.rules.specs.Time.{segment_at, ticks_since, line_count, stopped_at, not_beyond, count_on, count_in}
use Rattle.versions.specs.Versions.{Agree, older_refuses_time}
use Rattle.versions.proofs.Agreement.{agree_same, agree_refused, agree_unless}
use Rattle.versions.proofs.Lists.{last_more}
use Rattle.versions.proofs.Signed.{not_later, later_elapsed}
use Rattle.versions.proofs.Segments.{KeptSegments, count_same, time_same}

-- a line that does not overtake the next segment has reached that one's count once it has begun
line_reaches : (unit : ℕ) (s next : Segment) (t : ℤ) → 1 ≤ unit → 1 ≤ s.rate → overtakes unit s next ≡ false → le_z next.time t ≡ true
    → next.count ≤ line_count unit s t
unfolding overtakes line_at line_count ticks_since
line_reaches unit s next t pu pr h b =
    let far = next.count - s.count in
    let d = later_elapsed s.time t (round_up (s.rate * far) unit) (not_later next.time _ t h b) in
    let m = at_most_up (s.rate * far) unit (elapsed s.time t) pu d in
    let c = down_at_least (elapsed s.time t * unit) s.rate far pr (rw (mul_comm s.rate far) at m) in
    omega arith

-- a count below the next segment's is not stopped
stop_free : (g : Segments) (i c : ℕ) → (i + 1 < segments_in g → c < (row_of g (i + 1)).count) → stopped_at g.counts i c ≡ c
unfolding stopped_at
stop_free g i c f =
    by_test (has_next g.counts i) (λ y. rw (y, lt-leb (row_of g (i + 1)).count c (f (ltb-true _ _ y)))) (λ n. rw n)

-- segment i has begun at t
abbrev begun : Segments → ℤ → ℕ → Bool
begun g t i = le_z (row_of g i).time t

-- total is the older's, grown the newer's
module _ (unit total grown : ℕ) (pu : 1 ≤ unit) (up : total ≤ grown) (g h : Segments) (kept : KeptSegments unit total g h) (t : ℤ) where
  -- no segment that only the newer has is begun
  abbrev NoneFurther : Type 0
  NoneFurther = (j : ℕ) → segments_in g ≤ j → j < segments_in h → begun h t j ≡ false

  -- the count that the line of segment i reaches
  abbrev reached : ℕ → ℕ
  reached i = line_count unit (row_of g i) t

  reached_same : (i : ℕ) → i < segments_in g → line_count unit (row_of h i) t ≡ reached i
  reached_same i b = ap (λ s. line_count unit s t) (kept.rows i b)

  -- after a segment that has not begun none has
  after-by : (i d : ℕ) → i + d < segments_in h → begun h t i ≡ false → begun h t (i + d) ≡ false
  after-by i zero b f = rw (add-zero i) f
  after-by i (suc d) b f =
      let e : i + suc d ≡ i + d + 1 = omega arith in
      rw e (after-later (row_of h (i + d)).time _ t (kept.grow (i + d) (omega arith)) (after-by i d (omega arith) f))

  none_after : (i : ℕ) → i ≤ segments_in g → begun h t i ≡ false → NoneFurther
  none_after i c f j b d = let e : i + (j - i) ≡ j = omega arith in rw e at (after-by i (j - i) (omega arith) f)

  none_after_kept : (i : ℕ) → i < segments_in g → begun g t i ≡ false → NoneFurther
  none_after_kept i b f = none_after i (omega arith) (rw (time_same unit total g h kept i b) f)

  -- While the last old segment's line is at most the older's total, the next segment has not begun.
  next_not_begun : (i : ℕ) → i + 1 ≡ segments_in g → i + 1 < segments_in h → reached i ≤ total → begun h t (i + 1) ≡ false
  next_not_begun i e b c =
      by_test (begun h t (i + 1))
      (λ y. let r = line_reaches unit (row_of h i) (row_of h (i + 1)) t pu (kept.positive i (omega arith)) (kept.forward i e b) y in
      absurd (omega (arith, reached_same i (omega arith), kept.further (i + 1) (omega arith) b)))
      (λ f. f)

  none_after_last : (i : ℕ) → i + 1 ≡ segments_in g → reached i ≤ total → NoneFurther
  none_after_last i e c j b d = none_after (i + 1) (omega arith) (next_not_begun i e (omega arith) c) j b d

  older_segment : segment_at g.times t ≡ last_below (begun g t) (segments_in g)
  unfolding segment_at
  older_segment = rw kept.older_times

  newer_segment : segment_at h.times t ≡ last_below (begun h t) (segments_in h)
  unfolding segment_at
  newer_segment = rw kept.newer_times

  segment_same : NoneFurther → segment_at h.times t ≡ last_below (begun g t) (segments_in g)
  segment_same f =
      newer_segment
      ∙ last_more (begun g t) (begun h t) (segments_in g) (segments_in h) kept.more (λ i b. rw (time_same unit total g h kept i b)) f

  -- the count at t on segment i, in each table
  abbrev SameCount : ℕ → Type 0
  SameCount i = stopped_at h.counts i (line_count unit (row_of h i) t) ≡ stopped_at g.counts i (reached i)

  -- the stop below the next segment's count
  stopped_inner : (i : ℕ) → i + 1 < segments_in g → SameCount i
  unfolding stopped_at
  stopped_inner i b =
      rw (reached_same i (omega arith), count_same unit total g h kept (i + 1) b, lt-ltb (i + 1) (segments_in g) b, lt-ltb (i + 1) (segments_in h) (omega arith))

  free_last : (i : ℕ) → i + 1 ≡ segments_in g → stopped_at g.counts i (reached i) ≡ reached i
  free_last i e = stop_free g i (reached i) (λ b. absurd (omega arith))

  stopped_last : (i : ℕ) → i + 1 ≡ segments_in g → reached i ≤ total → SameCount i
  stopped_last i e c =
      let same = reached_same i (omega arith) in
      stop_free h i _ (λ b. omega (arith, kept.further (i + 1) (omega arith) b)) ∙ same ∙ sym (free_last i e)

  agree_at : (i : ℕ) → SameCount i → Agree older_refuses_time (count_on unit total g t (some i)) (count_on unit grown h t (some i))
  unfolding count_on not_beyond unless among
  agree_at i e =
      let c = stopped_at g.counts i (reached i) in
      by_test (leb c total)
      (λ y. let b : c ≤ total = leb-true _ _ y in agree_same (rw (e, y, le-leb c grown (omega arith))))
      (λ f. agree_refused (numbered 14) (rw f) refl)

  found_same : (i : ℕ) → Last (begun g t) (segments_in g) i → NoneFurther → segment_at h.times t ≡ some i
  found_same i w f = segment_same f ∙ last_is (begun g t) (segments_in g) i w

  refused_last : (i : ℕ) → i + 1 ≡ segments_in g → leb (reached i) total ≡ false → count_on unit total g t (some i) ≡ refuse 14
  unfolding count_on not_beyond unless
  refused_last i e f = rw (free_last i e, f)

  agree_found : (i : ℕ) → Last (begun g t) (segments_in g) i → Agree older_refuses_time (count_on unit total g t (some i)) (count_on unit grown h t (segment_at h.times t))
  unfolding among
  agree_found i w =
      by_test (has_next g.counts i)
      (λ y. let b : i + 1 < segments_in g = ltb-true _ _ y in
      rw (found_same i w (none_after_kept (i + 1) b (w.after (i + 1) (omega arith) b))) (agree_at i (stopped_inner i b)))
      (λ n. let e : i + 1 ≡ segments_in g = omega (arith, ltb-false, w.below) in
      by_test (leb (reached i) total)
      (λ y. let c : reached i ≤ total = leb-true _ _ y in
      rw (found_same i w (none_after_last i e c)) (agree_at i (stopped_last i e c)))
      (λ f. agree_refused (numbered 14) (refused_last i e f) refl))

  none_same : ((i : ℕ) → i < segments_in g → begun g t i ≡ false) → count_on unit total g t (segment_at g.times t) ≡ count_on unit grown h t (segment_at h.times t)
  unfolding count_on
  none_same f = rw (segment_same (none_after_kept 0 (omega arith) (f 0 (omega arith))), older_segment, last_none (begun g t) (segments_in g) f)

  on_segments : Agree older_refuses_time (count_on unit total g t (segment_at g.times t)) (count_on unit grown h t (segment_at h.times t))
  on_segments =
      ⊎_elim
      (λ w. rw (older_segment, last_is (begun g t) (segments_in g) w.0 w.1) (agree_found w.0 w.1))
      (λ f. agree_same (none_same f))
      (last_or (begun g t) (segments_in g))

  pub count_agrees : Agree older_refuses_time (count_in unit total g t) (count_in unit grown h t)
  unfolding count_in
  count_agrees = agree_unless 14 _ on_segments
