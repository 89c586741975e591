-- One step: what it answers, and what it leaves in the buffer.
use Prim.Native.Nat.{ℕ, ◌+◌, ◌-◌, ◌≤◌, ◌<◌}
use mathlib.Core.Path.{◌≡◌, refl, sym, ◌∙◌}
use mathlib.Core.Bool.{true, false}
use mathlib.Core.List.{List, ◌++◌}
use lib.Dec.{leb, eqb}
use lib.ListN.{length, get_or, take, drop, length-append, length-drop}
use lib.Seq.{take_at, drop_at, length-take-le}
use borrow.Author.Tests.{leb-true, leb-false, eqb-true, eqb-false}
use native.Mathlib.Omega.{arith}
use Rattle.base.proofs.Tests.{by_test}
use Rattle.base.proofs.Lists.{all_append, all_get_d}
use Rattle.rules.specs.Answer.{Answer, answer, refused, Numbered}
use Rattle.rules.specs.Print.{buffer_after}
use Rattle.rules.proofs.Answers.{payload, unless-test, unless-rest}
use Rattle.packet_rules.specs.Header.{header_octets, packet_length}
use Rattle.packet_rules.specs.Walk.{tail_room, is_whole, left, Found, in_chunk, in_buffer, only_tail, found_in, next_packet, written_by, tail_buffer_after}
use Rattle.packet_rules.proofs.Lengths.{length_at, whole_length, not_whole_length}
use Rattle.packet_rules.specs.Octets.{octets_only}
use Rattle.packet_dump.specs.Dump.{Front}
use Rattle.packet_dump.proofs.Lists.{all_take, all_drop}

-- of octets, a packet's length is at most 65,542
module _ (s : List ℕ) (octets : octets_only s ≡ true) where
  pub longest : header_octets ≤ length s → packet_length s ≤ tail_room
  longest h =
      omega (arith, length_at s h, leb-true (get_or s 4 0) 255 (all_get_d _ s 4 octets (omega arith)), leb-true (get_or s 5 0) 255 (all_get_d _ s 5 octets (omega arith)))

  pub short_rest : is_whole s ≡ false → length s < tail_room
  short_rest f =
      by_test (leb header_octets (length s))
      (λ t. omega (arith, not_whole_length s f, longest (leb-true header_octets (length s) t)))
      (λ u. omega (arith, leb-false header_octets (length s) u))

  pub short_packet : is_whole s ≡ true → packet_length s ≤ tail_room
  short_packet t = longest (omega (arith, whole_length s t))

-- bytes written to the front of a buffer
front_of : (x b : List ℕ) (n : ℕ) → length x ≡ n → Front n x b (x ++ drop (length x) b)
front_of x b n l = record { front = take_at x _ n l; behind = rw l (drop_at x (drop n b) n l) }

pub front_length : (x b : List ℕ) → length x ≤ length b → length (x ++ drop (length x) b) ≡ length b
front_length x b h = rw (length-append, length-drop) (omega arith)

module _ (b : List ℕ) (tail : ℕ) (chunk : List ℕ) (at : ℕ) where
  pub left_octets : octets_only (take tail b) ≡ true → octets_only chunk ≡ true → octets_only (left b tail chunk at) ≡ true
  unfolding left
  left_octets h k = all_append _ (take tail b) (drop at chunk) h (all_drop _ at chunk k)

  -- an answer is what is found of the bytes that are left: one of three
  found : (f : Found) → next_packet b tail chunk at ≡ answer f → f ≡ found_in tail at (left b tail chunk at)
  unfolding next_packet
  found f h = sym (payload (unless-rest 25 _ _ f (unless-rest 25 _ _ f (unless-rest 16 _ _ f h))))

  enough_room : (f : Found) → next_packet b tail chunk at ≡ answer f → tail_room ≤ length b
  unfolding next_packet
  enough_room f h = leb-true tail_room (length b) (unless-test 16 _ _ f h)

  abbrev size : ℕ
  size = packet_length (left b tail chunk at)

  pub by_found : {A : Type 0} {f : Found} → f ≡ found_in tail at (left b tail chunk at)
      → (is_whole (left b tail chunk at) ≡ true → tail ≡ 0 → f ≡ in_chunk at (at + size) → A)
      → (is_whole (left b tail chunk at) ≡ true → 0 < tail → f ≡ in_buffer size (at + (size - tail)) → A)
      → (is_whole (left b tail chunk at) ≡ false → f ≡ only_tail (length (left b tail chunk at)) → A)
      → A
  unfolding found_in
  by_found e chunk-case buffer-case tail-case =
      by_test (is_whole (left b tail chunk at))
      (λ w. by_test (eqb tail 0)
      (λ z. chunk-case w (eqb-true tail 0 z) (e ∙ rw (w, z)))
      (λ z. buffer-case w (positive (eqb-false tail 0 z)) (e ∙ rw (w, z))))
      (λ w. tail-case w (e ∙ rw w))
    where
      positive : (tail ≡ 0 → ⊥) → 0 < tail
      positive n = omega arith

  -- the buffer afterwards, by the answer
  pub after-chunk : (start end : ℕ) → next_packet b tail chunk at ≡ answer (in_chunk start end) → tail_buffer_after b tail chunk at ≡ b
  unfolding tail_buffer_after written_by buffer_after
  after-chunk start end h = rw h

  pub after-joined : (n next : ℕ) → next_packet b tail chunk at ≡ answer (in_buffer n next)
      → tail_buffer_after b tail chunk at ≡ take n (left b tail chunk at) ++ drop (length (take n (left b tail chunk at))) b
  unfolding tail_buffer_after written_by buffer_after
  after-joined n next h = rw h

  pub after_tail : (n : ℕ) → next_packet b tail chunk at ≡ answer (only_tail n) → tail_buffer_after b tail chunk at ≡ left b tail chunk at ++ drop (length (left b tail chunk at)) b
  unfolding tail_buffer_after written_by buffer_after
  after_tail n h = rw h

  pub after-refused : (k : Numbered) → next_packet b tail chunk at ≡ refused k → tail_buffer_after b tail chunk at ≡ b
  unfolding tail_buffer_after written_by buffer_after
  after-refused k h = rw h

  -- a packet joined in the buffer is whole; the tail is all that is left
  module _ (n next : ℕ) (h : next_packet b tail chunk at ≡ answer (in_buffer n next)) where
    joined_is : (is_whole (left b tail chunk at) ≡ true) × (n ≡ size)
    joined_is =
        by_found (found (in_buffer n next) h)
        (λ w z e. absurd (let u : ◌≡◌ {A = ℕ} 0 1 = cc in omega arith))
        (λ w z e. (w, cc))
        (λ w e. absurd (let u : ◌≡◌ {A = ℕ} 0 1 = cc in omega arith))

    joined_length : length (take n (left b tail chunk at)) ≡ n
    joined_length = length-take-le n (left b tail chunk at) (omega (arith, joined_is.1, whole_length (left b tail chunk at) joined_is.0))

    pub joined_fits : octets_only (left b tail chunk at) ≡ true → length (take n (left b tail chunk at)) ≤ length b
    joined_fits o = omega (arith, joined_length, joined_is.1, short_packet (left b tail chunk at) o joined_is.0, enough_room (in_buffer n next) h)

    pub front_joined : Front n (take n (left b tail chunk at)) b (tail_buffer_after b tail chunk at)
    front_joined = rw (after-joined n next h) (front_of (take n (left b tail chunk at)) b n joined_length)

  module _ (n : ℕ) (h : next_packet b tail chunk at ≡ answer (only_tail n)) where
    tail_is : (is_whole (left b tail chunk at) ≡ false) × (length (left b tail chunk at) ≡ n)
    tail_is =
        by_found (found (only_tail n) h)
        (λ w z e. absurd (let u : ◌≡◌ {A = ℕ} 0 1 = cc in omega arith))
        (λ w z e. absurd (let u : ◌≡◌ {A = ℕ} 0 1 = cc in omega arith))
        (λ w e. (w, cc))

    pub tail_fits : octets_only (left b tail chunk at) ≡ true → length (left b tail chunk at) ≤ length b
    tail_fits o = omega (arith, short_rest (left b tail chunk at) o tail_is.0, enough_room (only_tail n) h)

    pub front_tail : Front n (left b tail chunk at) b (tail_buffer_after b tail chunk at)
    front_tail = rw (after_tail n h) (front_of (left b tail chunk at) b n tail_is.1)

-- of octets: what is written fits the buffer
pub after-length : (b : List ℕ) (tail : ℕ) (chunk : List ℕ) (at : ℕ) → octets_only b ≡ true → octets_only chunk ≡ true → length (tail_buffer_after b tail chunk at) ≡ length b
after-length b tail chunk at ob oc = by_answer (next_packet b tail chunk at) refl
  where
    octets : octets_only (left b tail chunk at) ≡ true
    octets = left_octets b tail chunk at (all_take _ tail b ob) oc

    by_answer : (a : Answer Found) → next_packet b tail chunk at ≡ a → length (tail_buffer_after b tail chunk at) ≡ length b
    by_answer (answer (in_chunk start end)) h = rw (after-chunk b tail chunk at start end h)
    by_answer (answer (in_buffer n next)) h = rw (after-joined b tail chunk at n next h) (front_length (take n (left b tail chunk at)) b (joined_fits b tail chunk at n next h octets))
    by_answer (answer (only_tail n)) h = rw (after_tail b tail chunk at n h) (front_length (left b tail chunk at) b (tail_fits b tail chunk at n h octets))
    by_answer (refused k) h = rw (after-refused b tail chunk at k h)
