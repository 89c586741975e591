-- The length of the packet at the front of some bytes: it goes by two octets, and a whole packet is known by them.
use Prim.Native.Nat.{ℕ, ◌+◌, ◌*◌, ◌≤◌, ◌<◌}
use mathlib.Core.Path.{◌≡◌, sym, ◌∙◌}
use mathlib.Core.Bool.{true, false}
use mathlib.Core.List.{List, ◌++◌}
use lib.ListN.{length, get_or, get_or-append, length-append}
use borrow.Author.Tests.{le-leb, lt-leb, leb-true, leb-false}
use native.Mathlib.Omega.{arith}
use Rattle.base.proofs.Lists.{drop_next}
use Rattle.packet_rules.specs.Octets.{big_from}
use Rattle.packet_rules.specs.Header.{header_octets, word_at, packet_length}
use Rattle.packet_rules.specs.Walk.{is_whole}

pub word_at_lem : (i : ℕ) (s : List ℕ) → i + 2 ≤ length s → word_at i s ≡ 256 * get_or s i 0 + get_or s (i + 1) 0
unfolding word_at big_from
word_at_lem i s h = rw (drop_next s i 0 (omega arith), drop_next s (i + 1) 0 (omega arith)) (omega arith)

pub length_at : (s : List ℕ) → header_octets ≤ length s → packet_length s ≡ header_octets + ((256 * get_or s 4 0 + get_or s 5 0) + 1)
length_at s h = omega (arith, word_at_lem 4 s (omega arith))

-- a test of the two lengths, and what it says
module _ (s : List ℕ) where
  pub whole : packet_length s ≤ length s → is_whole s ≡ true
  unfolding is_whole
  whole h = le-leb (packet_length s) (length s) h

  pub not_whole : length s < packet_length s → is_whole s ≡ false
  unfolding is_whole
  not_whole h = lt-leb (packet_length s) (length s) h

  pub whole_length : is_whole s ≡ true → packet_length s ≤ length s
  unfolding is_whole
  whole_length h = leb-true (packet_length s) (length s) h

  pub not_whole_length : is_whole s ≡ false → length s < packet_length s
  unfolding is_whole
  not_whole_length h = leb-false (packet_length s) (length s) h

  -- further bytes do not change it, once the header is there
  pub length_more : (t : List ℕ) → header_octets ≤ length s → packet_length (s ++ t) ≡ packet_length s
  length_more t h =
      let all : header_octets ≤ length (s ++ t) = omega (arith, length-append s t) in
      length_at (s ++ t) all ∙ rw (get_or-append s t 0 4 (omega arith), get_or-append s t 0 5 (omega arith)) (sym (length_at s h))
