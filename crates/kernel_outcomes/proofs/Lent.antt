-- What an answer tells: the tables are accepted, the lent lists hold them, and every call takes what a caller makes of them.
use Prim.Native.Nat.{ℕ, ◌≤◌}
use mathlib.Core.Path.{◌≡◌, refl, sym, ap, subst, ◌∙◌}
use mathlib.Core.Bool.{true}
use mathlib.Core.List.{List, [], ◌∷◌}
use lib.IntN.{ℤ}
use lib.Dec.{eqb}
use lib.ListN.{length, drop, length-append, length-drop}
use lib.Seq.{take_at, drop_at, take_all}
use borrow.Author.Tests.{leb-true, eqb-true}
use native.Mathlib.Omega.{arith}
use Rattle.base.specs.Scans.{is_none}
use Rattle.base.proofs.Scans.{nothing}
use Rattle.base.proofs.Tests.{and_first, and_second, all_of_head, all_of_tail}
use Rattle.rules.specs.declared.Layout.{Layout}
use Rattle.rules.specs.Answer.{Answer, answer, refused, unless, unless_at, and_then, Numbered}
use Rattle.rules.specs.Layout.{moduli_of, offsets_of, layout_ok, product_of, msf_of, unit_of}
use Rattle.rules.specs.Partitions.{total_of, partitions_fault}
use Rattle.rules.specs.Segments.{segments_fault}
use Rattle.rules.specs.Accepted.{accepted_stamps, accepted}
use Rattle.rules.proofs.Answers.{payload, not_answer, unless-test, unless-rest, unless-at-none, unless-at-rest}
use Rattle.rules.proofs.Accepted.{layout_slots, partitions_facts, segments_facts}
use Rattle.kernel_rules.specs.Lines.{kernel_lines}
use Rattle.kernel_rules.specs.Names.{clock_digits}
use Rattle.kernel_rules.specs.Tables.{Lists, Tables, layout_in, partitions_in, segments_in, tables_accepted}
use Rattle.kernel_rules.specs.Kernel.{lines_read, fits, read_kernel, front, fronts, lists_after}
use Rattle.kernel_outcomes.specs.Lent.{Accepted, Written, AllWritten, LayoutOf, partitions_from, segments_from}

-- a list written to the front of a longer one
written : {A : Type 0} (s lent : List A) → length s ≤ length lent → Written s lent (front s lent)
unfolding front
written s lent h =
    record {
      front = take_at s (drop (length s) lent) (length s) refl;
      rest = drop_at s (drop (length s) lent) (length s) refl;
      same_length = omega (arith, length-append s (drop (length s) lent), length-drop (length s) lent);
    }

all_written : (t : Tables) (lent : Lists) → fits t.lists lent ≡ true → AllWritten t.lists lent (lists_after (answer t) lent)
unfolding fits lists_after fronts
all_written t lent h =
    let h1 = all_of_tail _ _ h in
    let h2 = all_of_tail _ _ h1 in
    let h3 = all_of_tail _ _ h2 in
    let h4 = all_of_tail _ _ h3 in
    let h5 = all_of_tail _ _ h4 in
    let h6 = all_of_tail _ _ h5 in
    record {
      moduli = written _ _ (leb-true _ _ (all_of_head _ _ h));
      offsets = written _ _ (leb-true _ _ (all_of_head _ _ h1));
      starts = written _ _ (leb-true _ _ (all_of_head _ _ h2));
      ends = written _ _ (leb-true _ _ (all_of_head _ _ h3));
      counts = written _ _ (leb-true _ _ (all_of_head _ _ h4));
      times = written _ _ (leb-true _ _ (all_of_head _ _ h5));
      rates = written _ _ (leb-true _ _ (all_of_head _ _ h6));
    }

-- an accepted table is the one that was given
tables_accepted_lem : (s t : Tables) → tables_accepted s ≡ answer t → (s ≡ t) × Accepted t
unfolding tables_accepted accepted
tables_accepted_lem s t h =
    let a = unless-test 1 _ _ t h in
    let h1 = unless-rest 1 _ _ t h in
    let l = unless-test 1 _ _ t h1 in
    let h2 = unless-rest 1 _ _ t h1 in
    let p = unless-at-none 2 _ _ t h2 in
    let h3 = unless-at-rest 2 _ _ t h2 in
    let g = unless-at-none 3 _ _ t h3 in
    let e : s ≡ t = payload (unless-at-rest 3 _ _ t h3) in (
      e,
      subst Accepted e
          (record {
            moduli_length = eqb-true _ _ (and_first _ _ a);
            offsets_length = eqb-true _ _ (and_second (eqb (length s.lists.moduli) s.n) _ a);
            layout = l;
            partitions = ap is_none p;
            segments = ap is_none g;
          }),
    )

lines_accepted : (digits : List ℕ) (ls : List (List ℕ)) (t : Tables) → lines_read digits ls ≡ answer t → Accepted t
unfolding lines_read
lines_accepted digits [] t h = absurd (not_answer h)
lines_accepted digits (l ∷ ls) t h = (tables_accepted_lem _ t (unless-rest 20 _ _ t (unless-rest 19 _ _ t (unless-rest 18 _ _ t h)))).1

-- the tables of an answer are those of its lines, and they fit
read_steps : (a : Answer Tables) (lent : Lists) (t : Tables) → and_then a (λ s. unless 16 (fits s.lists lent) (answer s)) ≡ answer t → (a ≡ answer t) × (fits t.lists lent ≡ true)
unfolding and_then
read_steps (answer s) lent t h =
    let e : s ≡ t = payload (unless-rest 16 _ _ t h) in
    (rw e, subst (λ x. fits x.lists lent ≡ true) e (unless-test 16 _ _ t h))
read_steps (refused k) lent t h = absurd (not_answer h)

module _ (text : List ℕ) (clock : ℤ) (lent : Lists) where
  abbrev after : Lists
  after = lists_after (read_kernel text clock lent) lent

  -- a refusal leaves the lent lists
  pub refused_kept : (k : Numbered) → read_kernel text clock lent ≡ refused k → after ≡ lent
  unfolding lists_after fronts
  refused_kept k h = rw h

  module _ (t : Tables) (h : read_kernel text clock lent ≡ answer t) where
    pub read_accepted : Accepted t
    unfolding read_kernel
    read_accepted = lines_accepted _ (kernel_lines text) t (read_steps (lines_read (clock_digits clock) (kernel_lines text)) lent t h).0

    pub read_written : AllWritten t.lists lent after
    unfolding read_kernel
    read_written = rw h (all_written t lent (read_steps (lines_read (clock_digits clock) (kernel_lines text)) lent t h).1)

    pub partitions_read : partitions_from t after ≡ partitions_in t.lists
    unfolding partitions_from
    partitions_read =
        let w = read_written in
        let one = (partitions_facts _ _ read_accepted.partitions).one_length in
        rw (w.starts.front, ← one, w.ends.front)

    pub segments_read : segments_from t after ≡ segments_in t.lists
    unfolding segments_from
    segments_read =
        let w = read_written in
        let f = segments_facts _ _ _ read_accepted.segments in
        rw (w.counts.front, ← f.times_length, w.times.front, f.times_length, ← f.rates_length, w.rates.front)

    module _ (l : Layout) (made : LayoutOf t after l) where
      moduli_made : moduli_of l ≡ moduli_of (layout_in t)
      unfolding layout_in
      moduli_made =
          let long = read_accepted.moduli_length in
          made.moduli ∙ (rw long at read_written.moduli.front) ∙ sym (take_all t.n t.lists.moduli (omega arith))

      offsets_made : offsets_of l ≡ offsets_of (layout_in t)
      unfolding layout_in
      offsets_made =
          let long = read_accepted.offsets_length in
          made.offsets ∙ (rw long at read_written.offsets.front) ∙ sym (take_all t.n t.lists.offsets (omega arith))

      product_made : product_of l ≡ product_of (layout_in t)
      unfolding product_of
      product_made = rw moduli_made

      unit_made : unit_of l ≡ unit_of (layout_in t)
      unfolding unit_of msf_of
      unit_made = rw moduli_made

      n_made : l.n ≡ (layout_in t).n
      unfolding layout_in
      n_made = made.n

      delimiter_made : l.delimiter ≡ (layout_in t).delimiter
      unfolding layout_in
      delimiter_made = made.delimiter

      pub layout_read : layout_ok l ≡ true
      layout_read = layout_slots l (layout_in t) n_made moduli_made offsets_made delimiter_made ∙ read_accepted.layout

      -- so that "1, 2, 3 (those the call uses)" let every call go on: those on stamps, and those on times
      pub stamps_taken : {A : Type 0} (a : Answer A) → accepted_stamps l (partitions_from t after) a ≡ a
      unfolding unless unless_at
      stamps_taken a = rw (layout_read, partitions_read, product_made, nothing (partitions_fault (product_of (layout_in t)) (partitions_in t.lists)) read_accepted.partitions)

      pub read_taken : {A : Type 0} (a : Answer A) → accepted l (partitions_from t after) (segments_from t after) a ≡ a
      unfolding accepted unless_at
      read_taken a =
          rw (
            stamps_taken,
            partitions_read,
            segments_read,
            unit_made,
            nothing (segments_fault (unit_of (layout_in t)) (total_of (partitions_in t.lists)) (segments_in t.lists)) read_accepted.segments,
          )
