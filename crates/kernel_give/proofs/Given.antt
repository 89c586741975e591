-- From the checks and the handing out to what the call answers and leaves in the lent lists.
use Rattle.rules.specs.declared.refusal.Refusal.TheVariants as R
use Rattle.rules.specs.declared.refusal.Refusal.{Refusal}
use Rattle.std.specs.Prelude.{Result, Ok, Err}
use Prim.Native.Nat.{ℕ, ◌≤◌, ◌<◌, min}
use mathlib.Core.Path.{◌≡◌, refl, sym, ap, ◌∙◌}
use mathlib.Core.List.{List}
use mathlib.Core.Bool.{Bool, true, false}
use lib.IntN.{ℤ}
use lib.Dec.{leb}
use lib.ListN.{length, take}
use lib.Seq.{length-take-le, take_all}
use borrow.Author.Tests.{leb-true, leb-false}
use native.Mathlib.Omega.{arith}
use Rattle.base.proofs.Tests.{by_test}
use Rattle.rules.specs.Answer.{Answer, answer, refused, unless, and_then, Numbered, as_numbered, answer_of}
use Rattle.rules.proofs.Answers.{payload, not_answer, unless-rest, unless-at-rest}
use Rattle.kernel_rules.specs.declared.Kernel.{Kernel}
use Rattle.kernel_rules.specs.Tables.{Lists, Tables}
use Rattle.kernel_rules.specs.Kernel.{kernel_given, fits, lists_after}
use Rattle.kernel_tables.specs.Given.{tables_with, Kept, kept_with, kept_accepted}
use Rattle.kernel_lists.specs.Handed.{handed}
use Rattle.kernel_gather.specs.declared.Gathered.{Gathered}
use Rattle.kernel_gather.specs.Gathered.{kept_in}
use Rattle.kernel_give.specs.Fitting.{fitting, Gives}

-- accepted tables are those that were asked about
accepted_is : (k : Kept) (u : Tables) → kept_accepted k ≡ answer u → k.tables ≡ u
unfolding kept_accepted
accepted_is k u h =
    payload (unless-at-rest 3 _ _ u (unless-at-rest 2 _ _ u (unless-rest 1 _ _ u (unless-rest 1 _ _ u h))))

answered : (a : Answer Tables) (k : Kernel) → answer k ≡ kernel_given a → (u : Tables) × (a ≡ answer u)
unfolding kernel_given
answered (answer u) k h = (u, refl)
answered (refused j) k h = absurd (not_answer (sym h))

given_refused : (a : Answer Tables) (k : Numbered) → refused k ≡ kernel_given a → a ≡ refused k
unfolding kernel_given
given_refused (answer u) k h = absurd (not_answer h)
given_refused (refused j) k h = let z : k ≡ j = cc in rw z

module _ (k : Kept) (lent : Lists) (r : Result Kernel Refusal) (e : answer_of r ≡ kernel_given (kept_accepted k)) where
  pub give_refused : (why : Refusal) → r ≡ Err why → Gives k lent (Err why) lent
  unfolding fitting and_then kernel_given lists_after
  give_refused why h = let w : kept_accepted k ≡ refused (as_numbered why) = given_refused (kept_accepted k) (as_numbered why) (rw h at e) in record { given = rw w; lists = rw w }

  module _ (v : Kernel) (h : r ≡ Ok v) where
    abbrev t : Tables
    t = k.tables

    good : kept_accepted k ≡ answer t
    good = let a = answered (kept_accepted k) v (rw h at e) in a.1 ∙ ap (λ (u : Tables). answer u) (sym (accepted_is k a.0 a.1))

    pub give_short : (b : Bool) (after : Lists) → b ≡ fits t.lists lent → b ≡ false → after ≡ handed b t.lists lent → Gives k lent (Err R.BufferTooShort) after
    unfolding fitting and_then kernel_given lists_after unless handed
    give_short b after f n l = let w : fits t.lists lent ≡ false = sym f ∙ n in record { given = rw (good, w); lists = l ∙ rw (n, good, w) }

    pub give_read : (b : Bool) (after : Lists) → b ≡ fits t.lists lent → b ≡ true → after ≡ handed b t.lists lent → Gives k lent (Ok v) after
    unfolding fitting and_then lists_after unless handed
    give_read b after f y l =
        let w : fits t.lists lent ≡ true = sym f ∙ y in
        let same : answer v ≡ kernel_given (kept_accepted k) = rw h at e in
        record { given = same ∙ rw (good, w); lists = l ∙ rw (y, good, w) }

-- the part of a list that is there, of its first n
module _ {A : Type 0} (xs : List A) (n k : ℕ) (e : k ≡ min n (length xs)) where
  pub cut : k ≡ length (take k xs)
  cut = sym (length-take-le k xs (omega arith))

  take_there : take k xs ≡ take n xs
  take_there = by_test (leb n (length xs)) (λ h. ap (λ j. take j xs) (least (leb-true _ _ h))) (λ h. over (leb-false _ _ h))
    where
      least : n ≤ length xs → k ≡ n
      least h = omega arith

      over : length xs < n → take k xs ≡ take n xs
      over h = take_all k xs (omega arith) ∙ sym (take_all n xs (omega arith))

-- the parts of the arrays that are given are what was gathered
module _ (g : Gathered) (ms os ss es cs : List ℕ) (ts : List ℤ) (rs : List ℕ) (m o s e c t r partitions segments shorter : ℕ) where
  pub all_there :
      m ≡ min g.moduli (length ms)
      → o ≡ min g.offsets (length os)
      → s ≡ min g.starts (length ss)
      → e ≡ min g.ends (length es)
      → c ≡ min g.counts (length cs)
      → t ≡ min g.times (length ts)
      → r ≡ min g.rates (length rs)
      → partitions ≡ min g.starts g.ends
      → shorter ≡ min g.times g.rates
      → segments ≡ min g.counts shorter
      → (lent : Lists) (a : Result Kernel Refusal) (after : Lists)
      → Gives (kept_with (tables_with g.n g.delimiter g.system (take m ms) (take o os) (take s ss) (take e es) (take c cs) (take t ts) (take r rs)) partitions segments) lent a after
      → Gives (kept_in g ms os ss es cs ts rs) lent a after
  all_there em eo es' ee ec et er ep eu eq lent a after given =
      rw (
        take_there ms g.moduli m em,
        take_there os g.offsets o eo,
        take_there ss g.starts s es',
        take_there es g.ends e ee,
        take_there cs g.counts c ec,
        take_there ts g.times t et,
        take_there rs g.rates r er,
        ep,
        eq,
        eu,
      ) at given
