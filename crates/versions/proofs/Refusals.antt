-- Where only the newer prints, the older refuses 12: its print would not be the longer one.
use Prim.Native.Nat.{ℕ, ◌+◌, ◌≤◌, ◌<◌}
use native.Mathlib.Omega.{arith}
use mathlib.Core.Path.{◌≡◌, sym}
use mathlib.Core.Bool.{true}
use mathlib.Core.List.{List}
use lib.Dec.{leb}
use lib.ListN.{length}
use borrow.Author.Tests.{leb-true, leb-false, le-leb, lt-leb}
use Rattle.base.specs.Scans.{among}
use Rattle.base.proofs.Tests.{by_test}
use Rattle.rules.specs.Answer.{answer, refused, numbered, unless, and_then, Numbered}
use Rattle.rules.specs.Layout.{product_of}
use Rattle.rules.specs.Partitions.{total_of, partitions_ok}
use Rattle.rules.specs.Print.{partition_of, fitting, stamp_print, length_printed, buffer_after}
use Rattle.rules.proofs.Answers.{not_answer}
use Rattle.roundtrip.specs.RoundTrip.{TenSlots}
use Rattle.roundtrip.proofs.Digits.{digits_grow}
use Rattle.print_order.specs.Order.{stamp_length}
use Rattle.print_order.proofs.Stamps.{stamps_one_length}
use Rattle.versions.specs.Versions.{Table, Accepted, Hypothesis, older_refuses_count, PrintedAnswer, shown, printed}
use Rattle.versions.specs.Seam.{SaysAtSeam}
use Rattle.versions.specs.Needed.{RefusedEverywhere}
use Rattle.versions.proofs.Partitions.{total_up}
use Rattle.versions.proofs.Seam.{says_at_seam}
use Rattle.versions.proofs.Kept.{one_layout, kept_partitions}
use Rattle.versions.proofs.Layouts.{print_same}
use Rattle.versions.proofs.Printing.{partition_up}
use Rattle.versions.proofs.Demand3.{print_is}

-- a print that is shown fits, and one that is refused does not
module _ (s b : List ℕ) where
  shown_fits : (a : PrintedAnswer) → shown (fitting (length b) s) b ≡ answer a → length s ≤ length b
  unfolding shown fitting unless and_then length_printed buffer_after
  shown_fits a h = by_test (leb (length s) (length b)) (λ t. leb-true _ _ t) (λ f. absurd (not_answer (rw f at h)))

  refused_short : (k : Numbered) → shown (fitting (length b) s) b ≡ refused k → length b < length s
  unfolding shown fitting unless and_then length_printed buffer_after
  refused_short k h = by_test (leb (length s) (length b)) (λ t. absurd (not_answer (sym (rw t at h)))) (λ f. leb-false _ _ f)

module _ (older newer : Table) (was : Accepted older) (is : Accepted newer) (says : (h : Hypothesis) → SaysAtSeam older newer h) (slots : TenSlots older.layout) (e : ℕ) where
  stamp_layout : stamp_print newer.layout newer.partitions e ≡ stamp_print older.layout newer.partitions e
  unfolding stamp_print
  stamp_layout = rw (print_same older.layout newer.layout (one_layout older newer was is says))

  product_layout : product_of newer.layout ≡ product_of older.layout
  unfolding product_of
  product_layout = rw (one_layout older newer was is says).moduli

  -- the newer's print of e is no shorter than the older's
  print_up : e ≤ total_of older.partitions → length (stamp_print older.layout older.partitions e) ≤ length (stamp_print newer.layout newer.partitions e)
  unfolding stamp_length
  print_up h =
      let rows = kept_partitions older newer was is says in
      let good : partitions_ok (product_of older.layout) newer.partitions ≡ true = rw (← product_layout) is.partitions in
      let same : stamp_print newer.layout newer.partitions e ≡ stamp_print older.layout newer.partitions e = stamp_layout in
      rw (
        same,
        stamps_one_length older.layout older.partitions slots was.layout was.partitions e h,
        stamps_one_length older.layout newer.partitions slots was.layout good e (omega (arith, total_up older.partitions newer.partitions rows)),
      )
      (omega (arith, digits_grow (partition_of older.partitions e + 1) (partition_of newer.partitions e + 1) (omega (arith, partition_up older.partitions newer.partitions rows e h))))

  within : (b c : List ℕ) → length b ≡ length c → (a : PrintedAnswer) (k : Numbered) → printed newer e c ≡ answer a → printed older e b ≡ refused k → e ≤ total_of older.partitions → ⊥
  unfolding unless
  within b c same a k gives refuses h =
      let total = le-leb e (total_of older.partitions) h in
      let total' = le-leb e (total_of newer.partitions) (omega (arith, total_up older.partitions newer.partitions (kept_partitions older newer was is says))) in
      let fits = shown_fits _ c a (rw (print_is newer is, total') at gives) in
      let short = refused_short _ b k (rw (print_is older was, total) at refuses) in
      omega (arith, print_up h)

  beyond : (b : List ℕ) (k : Numbered) → printed older e b ≡ refused k → total_of older.partitions < e → among k.number older_refuses_count ≡ true
  unfolding unless shown and_then length_printed among
  beyond b k refuses h =
      let twelve = rw (print_is older was, lt-leb e (total_of older.partitions) h) at refuses in
      let same : numbered 12 ≡ k = cc in
      rw (← same)

pub refused_everywhere : RefusedEverywhere
refused_everywhere older newer was is says slots e b c same a k gives refuses =
    let seam = says_at_seam older newer says in
    by_test (leb e (total_of older.partitions))
    (λ t. absurd (within older newer was is seam slots e b c same a k gives refuses (leb-true _ _ t)))
    (λ f. beyond older newer was is seam slots e b k refuses (leb-false _ _ f))
