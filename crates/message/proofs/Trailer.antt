-- What the trailer of a message says at each way out of reading it.
use Rattle.rules.specs.declared.refusal.Refusal.{Refusal}
use Rattle.std.specs.Prelude.{Result, Ok, Err}
use Prim.Native.Nat.{ℕ, ◌+◌, ◌-◌, ◌*◌, ◌≤◌, ◌<◌}
use mathlib.Core.Path.{◌≡◌, sym, ap, ◌∙◌}
use mathlib.Core.Bool.{Bool, true, false, not, ◌&&◌}
use mathlib.Core.List.{List}
use lib.Dec.{leb}
use lib.ListN.{length, get_or, take, drop}
use native.Mathlib.Omega.{arith}
use borrow.Author.Tests.{le-leb, lt-leb, leb-true, not-true, not-false}
use Rattle.base.proofs.Tests.{and_second}
use Rattle.rules.specs.Limits.{longest_text}
use Rattle.rules.specs.declared.Layout.{Layout}
use Rattle.rules.specs.declared.Reading.{Reading}
use Rattle.rules.specs.Partitions.{Partitions}
use Rattle.rules.specs.Answer.{Answer, answer, refused, refuse, unless, and_then, as_numbered, answer_of}
use Rattle.rules.specs.Stamp.{read_stamp}
use Rattle.rules.specs.Message.{text_length, accepted_message, text_in, read_message}
use Rattle.rules.proofs.Answers.{payload, not_answer, unless-test, unless-rest}
use Rattle.tables.proofs.Guards.{passed, refused_same, then-unless}
use Rattle.message.specs.Part.{start_in, TextAt}

module _ (m : List ℕ) where
  pub too_short_lem : length m < 2 → refuse 21 ≡ start_in m
  unfolding start_in accepted_message unless
  too_short_lem h = rw (lt-leb 2 (length m) h)

  module _ (d : ℕ) (e : d ≡ 256 * get_or m (length m - 2) 0 + get_or m (length m - 1) 0) (h : 2 ≤ length m) where
    distance : text_length m ≡ d
    unfolding text_length
    distance = sym e

    pub none_back : d < 1 → refuse 22 ≡ start_in m
    unfolding start_in accepted_message unless
    none_back i = rw (le-leb 2 (length m) h, distance, lt-leb 1 d i)

    module _ (i : 1 ≤ d) where
      module _ {t : Bool} (test : t ≡ (leb d longest_text && leb d (length m - 2))) where
        pub too_far : not t ≡ true → refuse 23 ≡ start_in m
        unfolding start_in accepted_message unless
        too_far n = rw (le-leb 2 (length m) h, distance, le-leb 1 d i, ← test, not-true t n)

        pub begins : not t ≡ false → answer (length m - 2 - d) ≡ start_in m
        unfolding start_in accepted_message unless
        begins n = rw (le-leb 2 (length m) h, distance, le-leb 1 d i, ← test, not-false t n)

        pub in_reach : not t ≡ false → d ≤ length m - 2
        in_reach n = leb-true d (length m - 2) (and_second (leb d longest_text) _ (sym test ∙ not-false t n))

module _ (m : List ℕ) where
  -- the bytes from there to the trailer are the text
  module _ (i : ℕ) (w : TextAt m i) where
    pub part_is : take (length m - 2 - i) (drop i m) ≡ text_in m
    unfolding text_in
    part_is =
        let back : length m - 2 - (length m - 2 - text_length m) ≡ text_length m = omega (arith, w.within) in
        rw (w.start, back)

  pub then-accepted : {A B : Type 0} (a : Answer A) (f : A → Answer B) → and_then (accepted_message m a) f ≡ accepted_message m (and_then a f)
  unfolding accepted_message
  then-accepted a f = then-unless 21 _ _ f ∙ ap (unless 21 _) (then-unless 22 _ _ f ∙ ap (unless 22 _) (then-unless 23 _ a f))

  -- for a caller of `answer_of`
  module _ (r : Result ℕ Refusal) (e : answer_of r ≡ start_in m) where
    pub start_refused : {A : Type 0} (k : Refusal) (a : Answer A) → r ≡ Err k → refused (as_numbered k) ≡ accepted_message m a
    unfolding start_in accepted_message
    start_refused k a h =
        refused_same (as_numbered k) 21 _ _ _ (rw h at (sym e))
        (λ q. refused_same (as_numbered k) 22 _ _ _ q (λ u. refused_same (as_numbered k) 23 _ _ _ u (λ z. absurd (not_answer (sym z)))))

    module _ (i : ℕ) (h : r ≡ Ok i) where
      begun : start_in m ≡ answer i
      begun = rw h at (sym e)

      record Checked : Type 0 where
        pub trailer : leb 2 (length m) ≡ true
        pub some_text : leb 1 (text_length m) ≡ true
        pub near : (leb (text_length m) longest_text && leb (text_length m) (length m - 2)) ≡ true
        pub start : i ≡ length m - 2 - text_length m

      checked : Checked
      unfolding start_in accepted_message
      checked =
          let h1 = unless-rest 21 _ _ i begun in
          let h2 = unless-rest 22 _ _ i h1 in
          record { trailer = unless-test 21 _ _ i begun; some_text = unless-test 22 _ _ i h1; near = unless-test 23 _ _ i h2; start = sym (payload (unless-rest 23 _ _ i h2)) }

      pub start_at : TextAt m i
      start_at =
          record { trailer = leb-true _ _ checked.trailer; within = leb-true _ _ (and_second (leb (text_length m) longest_text) _ checked.near); start = checked.start }

      pub start_accepted : {A : Type 0} (x a : Answer A) → x ≡ a → x ≡ accepted_message m a
      unfolding accepted_message
      start_accepted x a q = passed 21 _ _ x checked.trailer (passed 22 _ _ x checked.some_text (passed 23 _ a x checked.near q))

module _ (l : Layout) (p : Partitions) (m : List ℕ) (r : Result ℕ Refusal) (e : answer_of r ≡ start_in m) where
  pub message_refused : (k : Refusal) → r ≡ Err k → refused (as_numbered k) ≡ read_message l p m
  unfolding read_message
  message_refused k h = start_refused m r e k _ h

  pub message_read : (i : ℕ) (s : List ℕ) (x : Answer Reading) → r ≡ Ok i → s ≡ text_in m → x ≡ read_stamp l p s → x ≡ read_message l p m
  unfolding read_message
  message_read i s x h t q = start_accepted m r e i h x _ (q ∙ rw t)
