-- What each way out of parsing a text or a stamp says.
use Rattle.rules.specs.declared.refusal.Refusal.{Refusal}
use Rattle.std.specs.Prelude.{Result, Ok, Err}
use Prim.Native.Nat.{ℕ, ◌+◌, ◌-◌, ◌≤◌, ◌<◌, min}
use mathlib.Core.Path.{◌≡◌, refl, sym, ap, subst, ◌∙◌}
use mathlib.Core.Bool.{Bool, true, false, cond, ◌&&◌}
use mathlib.Core.List.{List}
use mathlib.Core.Logic.{⊎_elim}
use mathlib.Core.Option.{none, some}
use lib.Dec.{ltb, eqb}
use lib.ListN.{length, take, drop}
use native.Mathlib.Omega.{arith}
use borrow.Author.Tests.{le-leb, lt-leb, lt-ltb, ltb-true, ltb-false, eqb-true, eqb-false}
use Rattle.base.specs.Scans.{among}
use Rattle.base.proofs.Tests.{by_test, not_both, and_both, and_first, and_second}
use Rattle.base.proofs.Scans.{First, first_or}
use Rattle.rules.specs.Limits.{longest_text}
use Rattle.rules.specs.declared.Reading.{Reading}
use Rattle.rules.specs.Answer.{Answer, answer, refused, refuse, placed, unless, unless_at, fails_at, and_then, Numbered, as_numbered, answer_of}
use Rattle.rules.specs.Text.{not_allowed_from, fields_from, fields_count, bytes_count, parse_text}
use Rattle.rules.specs.Stamp.{slash_in, front_number, named, unnamed, parsed_at, parse_stamp}
use Rattle.fields.specs.declared.Pass.{Pass}
use Rattle.fields.specs.declared.Scanned.{Scanned}
use Rattle.fields.specs.Pass.{field_cap, begun, scan_from, front_scan_from, total}
use Rattle.fields.proofs.Over.{run}
use Rattle.fields.proofs.Ladder.{counted}
use Rattle.fields.proofs.Front.{Scan, scan_of, front_value}
use Rattle.fields.proofs.Stops.{all_allowed, whole_pass, not_allowed}
use Rattle.parse.specs.ParsedStamp.{capped}
use Rattle.parse.proofs.Slash.{slash, slash_first, slash_none, no_slash, no_slash_before, among_found, among_none}

-- a text from the place i on
module _ (ms os s : List ℕ) (i : ℕ) (b : Pass) (z : b ≡ begun) (w : Scanned) (e : w ≡ scan_from ms os (length s) b i (drop i s)) (l : i ≤ length s) where
  pub count_other : (k : Numbered) → w.at < length s → k ≡ placed 5 w.at → refused k ≡ bytes_count ms os s i
  unfolding bytes_count unless_at
  count_other k h f = rw (not_allowed ms os (length s) s b i w e l h, f)

  pub count_all : (r : Result Reading Refusal) → length os ≡ length ms → 1 ≤ length ms → length s ≤ w.at → answer_of r ≡ total ms os (length s) w.pass → answer_of r ≡ bytes_count ms os s i
  unfolding bytes_count unless_at
  count_all r o n h c =
      rw (all_allowed ms os (length s) s b i w e l h)
      (c
      ∙ ap (total ms os (length s)) (whole_pass ms os (length s) s b i w e l h ∙ ap (λ (q : Pass). run ms os (length s) q i (drop i s)) z)
      ∙ counted ms os (length s) o i (drop i s) n)

-- 4, then what the text says
module _ (ms os s : List ℕ) where
  pub text_long : longest_text < length s → refuse 4 ≡ parse_text ms os s
  unfolding parse_text unless
  text_long h = rw (lt-leb (length s) longest_text h)

  pub text_short : (a : Answer Reading) → length s ≤ longest_text → a ≡ bytes_count ms os s 0 → a ≡ parse_text ms os s
  unfolding parse_text unless
  text_short a h e = rw (le-leb (length s) longest_text h) e

  pub stamp_long : longest_text < length s → refuse 4 ≡ capped (parse_stamp ms os s)
  unfolding parse_stamp unless capped
  stamp_long h = rw (lt-leb (length s) longest_text h)

-- the cap is one of the number alone
capped_named : (k : ℕ) (a : Answer Reading) → capped (and_then a (λ c. answer (named k c))) ≡ and_then a (λ c. answer (named (min k field_cap) c))
unfolding capped and_then
capped_named k (answer c) = refl
capped_named k (refused n) = refl

capped_unnamed : (a : Answer Reading) → capped (and_then a (λ c. answer (unnamed c))) ≡ and_then a (λ c. answer (unnamed c))
unfolding capped and_then
capped_unnamed (answer c) = refl
capped_unnamed (refused n) = refl

-- a short text after its front part is scanned; t: a `/` ends it
module _ (ms os s : List ℕ) (short : length s ≤ longest_text) (w : Scanned) (e : w ≡ front_scan_from begun 0 s) (t : Bool) (d : t ≡ (ltb w.at (length s) && slash s w.at)) where
  parse_short : parse_stamp ms os s ≡ parsed_at ms os s (slash_in s)
  unfolding parse_stamp unless
  parse_short = rw (le-leb (length s) longest_text short)

  scanned : Scan ms os (length s) s w
  scanned = scan_of ms os (length s) s w e

  pub front_within : w.at ≤ length s
  front_within = scanned.within

  module _ (y : t ≡ true) where
    below : w.at < length s
    below = ltb-true _ _ (and_first (ltb w.at (length s)) _ (sym d ∙ y))

    slash_here : slash_in s ≡ some w.at
    slash_here =
        slash_first s w.at
        (record { below = below; holds = and_second (ltb w.at (length s)) _ (sym d ∙ y); before = scanned.no_slash })

    pub front_place : w.at + 1 ≤ length s
    front_place = omega (arith, below)

    pub front_small : (m : ℕ) → longest_text < m → w.at + 1 < m
    front_small m h = omega (arith, below)

    pub front_bad : (k : Numbered) → w.pass.present ≡ false → k ≡ placed 5 w.at → refused k ≡ capped (parse_stamp ms os s)
    unfolding parsed_at unless_at fails_at capped
    front_bad k n f = rw (parse_short, slash_here, scanned.here, n, f)

    module _ (some_fields : 1 ≤ length ms) where
      number_is : w.pass.value ≡ min (front_number (take w.at s)) field_cap
      unfolding front_number
      number_is =
          ap (λ (q : Pass). q.value) scanned.passed
          ∙ front_value ms os (length s) some_fields (take w.at s) (ap (λ (q : Pass). q.field) (sym scanned.passed) ∙ scanned.field)

      module _ (k : Result Reading Refusal) (g : w.pass.present ≡ true) (c : answer_of k ≡ bytes_count ms os s (w.at + 1)) where
        after_named : and_then (answer_of k) (λ q. answer (named w.pass.value q)) ≡ capped (parse_stamp ms os s)
        unfolding parsed_at unless_at fails_at
        after_named =
            rw (parse_short, slash_here, scanned.here, g)
            (ap (λ x. and_then x (λ q. answer (named w.pass.value q))) c
            ∙ ap (λ v. and_then (bytes_count ms os s (w.at + 1)) (λ q. answer (named v q))) number_is
            ∙ sym (capped_named (front_number (take w.at s)) (bytes_count ms os s (w.at + 1))))

        pub stamp_named : (q : Reading) → k ≡ Ok q → answer (named w.pass.value q) ≡ capped (parse_stamp ms os s)
        unfolding and_then
        stamp_named q h = rw h at after_named

        pub named_refused : (n : Refusal) → k ≡ Err n → refused (as_numbered n) ≡ capped (parse_stamp ms os s)
        unfolding and_then
        named_refused n h = rw h at after_named

  -- no `/` ends it: the pass goes on
  module _ (n : t ≡ false) (v : Scanned) (g : v ≡ scan_from ms os (length s) w.pass w.at (drop w.at s)) where
    -- no `/`, and every byte is allowed
    module _ (k : Result Reading Refusal) (o : length os ≡ length ms) (some_fields : 1 ≤ length ms) (h : length s ≤ v.at) (c : answer_of k ≡ total ms os (length s) v.pass) where
      after_count : and_then (answer_of k) (λ q. answer (unnamed q)) ≡ capped (parse_stamp ms os s)
      unfolding parsed_at bytes_count unless_at
      after_count =
          let good : not_allowed_from 0 s ≡ none = scanned.allowed ∙ all_allowed ms os (length s) s w.pass w.at v g front_within h in
          let passed : v.pass ≡ run ms os (length s) begun 0 s = whole_pass ms os (length s) s w.pass w.at v g front_within h ∙ sym scanned.onward in
          rw (parse_short, slash_none s (no_slash s 0 good), good)
          (ap (λ x. and_then x (λ q. answer (unnamed q))) (c ∙ ap (total ms os (length s)) passed ∙ counted ms os (length s) o 0 s some_fields)
          ∙ sym (capped_unnamed (fields_count ms os (length s) (fields_from 0 s))))

      pub stamp_unnamed : (q : Reading) → k ≡ Ok q → answer (unnamed q) ≡ capped (parse_stamp ms os s)
      unfolding and_then
      stamp_unnamed q e = rw e at after_count

      pub unnamed_refused : (n : Refusal) → k ≡ Err n → refused (as_numbered n) ≡ capped (parse_stamp ms os s)
      unfolding and_then
      unnamed_refused n e = rw e at after_count

    -- a byte that is not allowed, with a `/` behind it or without
    module _ (h : v.at < length s) where
      bad : not_allowed_from 0 s ≡ some v.at
      bad = scanned.allowed ∙ not_allowed ms os (length s) s w.pass w.at v g front_within h

      pub stamp_other : (k : Numbered) (i : ℕ) → i ≡ cond (among 47 (drop v.at s)) w.at v.at → k ≡ placed 5 i → refused k ≡ capped (parse_stamp ms os s)
      unfolding parsed_at unless_at bytes_count and_then capped
      stamp_other k i c f =
          ⊎_elim
          (λ q. let j = q.0 in
          let from = after j q.1 in
          rw (parse_short, slash_first s j q.1, scanned.further j (beyond j q.1) (omega (arith, q.1.below)), f, c, among_found s (j - v.at) v.at j (omega (arith, from)) q.1.below q.1.holds))
          (λ q. rw (parse_short, slash_none s q, bad, f, c, among_none s (length s) v.at (omega arith) q))
          (first_or (slash s) (length s))
        where
          after : (j : ℕ) → First (slash s) (length s) j → v.at ≤ j
          after j q =
              by_test (ltb j v.at)
              (λ l. absurd (not_both q.holds (no_slash_before s 0 v.at bad j (omega (arith, ltb-true j v.at l)))))
              (λ l. ltb-false j v.at l)

          here : (j : ℕ) → First (slash s) (length s) j → j ≤ w.at → (ltb w.at (length s) && slash s w.at) ≡ true
          here j q l =
              by_test (eqb j w.at)
              (λ m. subst (λ i. (ltb i (length s) && slash s i) ≡ true) (eqb-true j w.at m) (and_both (lt-ltb j (length s) q.below) q.holds))
              (λ m. absurd (not_both q.holds (scanned.no_slash j (less (eqb-false j w.at m)))))
            where
              less : (j ≡ w.at → ⊥) → j < w.at
              less u = omega arith

          beyond : (j : ℕ) → First (slash s) (length s) j → w.at < j
          beyond j q =
              by_test (ltb w.at j)
              (λ l. ltb-true w.at j l)
              (λ l. absurd (not_both (here j q (ltb-false w.at j l)) (sym d ∙ n)))
