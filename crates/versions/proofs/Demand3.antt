-- "An older table never misleads about a newer stamp", for any two tables.
use Prim.Native.Nat.{ℕ, ◌≤◌}
use native.Mathlib.Omega.{arith}
use mathlib.Core.Path.{◌≡◌, refl, ap}
use mathlib.Core.List.{List}
use lib.Dec.{leb}
use lib.IntN.{ℤ}
use lib.ListN.{length, drop}
use lib.Seq.{take-append_seam}
use borrow.Author.Tests.{leb-true, le-leb}
use Rattle.base.specs.Scans.{among}
use Rattle.base.proofs.Tests.{by_test}
use Rattle.base.proofs.Scans.{nothing}
use Rattle.rules.specs.Answer.{Answer, answer, refused, numbered, unless, unless_at, and_then}
use Rattle.rules.specs.Layout.{product_of, unit_of}
use Rattle.rules.specs.Partitions.{partitions_fault, end_of, total_of}
use Rattle.rules.specs.Segments.{segments_fault}
use Rattle.rules.specs.Stamp.{read_stamp}
use Rattle.rules.specs.Print.{fitting, stamp_print, print_stamp, length_printed, buffer_after}
use Rattle.rules.specs.Accepted.{accepted_stamps, accepted}
use Rattle.rules.specs.Time.{time_of, count_at}
use Rattle.versions.specs.Versions.{Table, Accepted, last_in, Hypothesis, Agree, older_refuses_stamp, older_refuses_count, older_refuses_time}
use Rattle.versions.specs.Versions.{read_by, print_by, time_by, count_by, PrintedAnswer, shown, printed, Exception, Apart, older_print, newer_print, NeverMisleads}
use Rattle.versions.specs.Seam.{SaysAtSeam, NeverMisleadsAtSeam}
use Rattle.versions.proofs.Agreement.{agree_same, agree_refused, agree_then}
use Rattle.versions.proofs.Layouts.{OneLayout, unit_same}
use Rattle.versions.proofs.Partitions.{KeptPartitions, total_up}
use Rattle.versions.proofs.Seam.{says_at_seam}
use Rattle.versions.proofs.Kept.{one_layout, kept_partitions, kept_segments, unit}
use Rattle.versions.proofs.CountToTime.{time_agrees}
use Rattle.versions.proofs.TimeToCount.{count_agrees}
use Rattle.versions.proofs.Reading.{encode_agrees}
use Rattle.versions.proofs.Printing.{stamp_same, older_last, newer_next, older_end, newer_start}
use Rattle.versions.proofs.Numbers.{numbers_differ}

-- an accepted table passes the checks
module _ (t : Table) (ok : Accepted t) where
  pub through_two : {A : Type 0} (a : Answer A) → accepted_stamps t.layout t.partitions a ≡ a
  unfolding unless unless_at
  through_two a = rw (ok.layout, nothing (partitions_fault (product_of t.layout) t.partitions) ok.partitions)

  pub through_three : {A : Type 0} (a : Answer A) → accepted t.layout t.partitions t.segments a ≡ a
  unfolding accepted unless_at
  through_three a = rw (through_two, nothing (segments_fault (unit_of t.layout) (total_of t.partitions) t.segments) ok.segments)

  pub print_is : (e room : ℕ) → print_by t e room ≡ unless 12 (leb e (total_of t.partitions)) (fitting room (stamp_print t.layout t.partitions e))
  unfolding print_stamp
  print_is e room = through_two (unless 12 (leb e (total_of t.partitions)) (fitting room (stamp_print t.layout t.partitions e)))

-- what is shown is the print, whatever the buffer held
only_print : Answer (List ℕ) → Answer PrintedAnswer
only_print r = and_then r (λ s. answer (record { returned = length s; bytes = s }))

shown_print : (r : Answer (List ℕ)) (b : List ℕ) → shown r b ≡ only_print r
unfolding shown only_print and_then length_printed buffer_after
shown_print (answer s) b = ap (λ f. answer (record { returned = length s; bytes = f })) (take-append_seam s (drop (length s) b))
shown_print (refused k) b = refl

-- a stamp is read by the layout and the partitions alone
pub reads_agree : (older newer : Table) → Accepted older → Accepted newer → OneLayout older.layout newer.layout → KeptPartitions older.partitions newer.partitions
    → (s : List ℕ) → Agree older_refuses_stamp (read_by older s) (read_by newer s)
unfolding read_stamp
reads_agree older newer was is one rows s =
    rw (through_two older was, through_two newer is, one.moduli, one.offsets)
    (agree_then _ _ (agree_same refl) (encode_agrees _ _ rows))

module _ (older newer : Table) (was : Accepted older) (is : Accepted newer) (says : (h : Hypothesis) → SaysAtSeam older newer h) where
  one : OneLayout older.layout newer.layout
  one = one_layout older newer was is says

  rows : KeptPartitions older.partitions newer.partitions
  rows = kept_partitions older newer was is says

  times_agree : (e : ℕ) → Agree older_refuses_count (time_by older e) (time_by newer e)
  unfolding time_of
  times_agree e =
      rw (through_three older was, through_three newer is, ← unit_same _ _ one)
      (time_agrees _ _ _ (total_up _ _ rows) _ _ (kept_segments older newer was is says) e)

  counts_agree : (t : ℤ) → Agree older_refuses_time (count_by older t) (count_by newer t)
  unfolding count_at
  counts_agree t =
      rw (through_three older was, through_three newer is, ← unit_same _ _ one)
      (count_agrees _ _ _ (unit older newer was is says) (total_up _ _ rows) _ _ (kept_segments older newer was is says) t)

  print_same : (e room : ℕ) → e ≤ total_of older.partitions → (Exception older newer e → ⊥) → print_by newer e room ≡ print_by older e room
  unfolding unless
  print_same e room b outside =
      rw (print_is older was, print_is newer is, le-leb e (total_of older.partitions) b, le-leb e (total_of newer.partitions) (omega (arith, total_up _ _ rows)))
      (ap (fitting room) (stamp_same _ _ _ _ one rows e b (λ t d m. outside (omega arith))))

  prints_agree : (e : ℕ) (b c : List ℕ) → length b ≡ length c → (Exception older newer e → ⊥) → Agree older_refuses_count (printed older e b) (printed newer e c)
  unfolding only_print among unless and_then
  prints_agree e b c same outside =
      by_test (leb e (total_of older.partitions))
      (λ y. agree_same (rw (shown_print _ b, shown_print _ c, same, print_same e (length c) (leb-true _ _ y) outside)))
      (λ n. agree_refused (numbered 12) (rw (shown_print _ b, print_is older was, n)) refl)

  module _ (e : ℕ) (x : Exception older newer e) where
    total : e ≡ total_of older.partitions
    total = omega arith

    kept_end : end_of newer.partitions (last_in older) ≡ end_of older.partitions (last_in older)
    kept_end = omega arith

    older_prints : (room : ℕ) → print_by older e room ≡ fitting room (older_print older)
    unfolding stamp_print unless
    older_prints room =
        rw
        (print_is older was, le-leb e (total_of older.partitions) (omega (arith, total)), older_last _ _ rows e total, older_end _ _ rows e total)

    newer_prints : (room : ℕ) → print_by newer e room ≡ fitting room (newer_print older newer)
    unfolding stamp_print unless
    newer_prints room =
        let fits : e ≤ total_of newer.partitions = omega (arith, total, total_up _ _ rows) in
        let next = newer_next _ _ rows e total kept_end (omega arith) in
        rw (print_is newer is, le-leb e (total_of newer.partitions) fits, next, newer_start _ _ rows e total kept_end)

    apart : Apart older newer e
    apart = record { older_prints = older_prints; newer_prints = newer_prints; differ = numbers_differ _ _ _ }

pub at_seam : NeverMisleadsAtSeam
at_seam older newer was is says =
    record {
      reading = reads_agree older newer was is (one older newer was is says) (rows older newer was is says);
      printing = prints_agree older newer was is says;
      exception = apart older newer was is says;
      time_of_lem = times_agree older newer was is says;
      count_at_lem = counts_agree older newer was is says;
    }

pub demand_3 : NeverMisleads
demand_3 older newer was is says = at_seam older newer was is (says_at_seam older newer says)
