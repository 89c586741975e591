-- The caller's loop cuts what it walks over: by steps over a chunk, and by chunks over a dump.
use Prim.Native.Nat.{ℕ, zero, suc, ◌+◌, ◌-◌, ◌≤◌, ◌<◌}
use mathlib.Core.Path.{◌≡◌, refl, sym, ap, ◌∙◌}
use mathlib.Core.Bool.{true, false}
use mathlib.Core.List.{List, [], ◌∷◌, ◌++◌, flatten, append-nil, append_assoc}
use lib.Dec.{leb}
use lib.ListN.{length, take, drop, length-append, length-drop}
use lib.Seq.{length-take-le, drop-drop, drop-append-add}
use borrow.Author.Tests.{le-leb, leb-true, leb-false}
use native.Mathlib.Omega.{arith}
use Rattle.base.specs.Scans.{all}
use Rattle.base.proofs.Tests.{by_test}
use Rattle.rules.specs.Answer.{Answer, answer, unless, and_then}
use Rattle.packet_rules.specs.Octets.{big_from}
use Rattle.packet_rules.specs.Header.{header_octets, word_at, packet_length}
use Rattle.packet_rules.specs.Walk.{tail_room, is_whole, left, in_chunk, in_buffer, only_tail, found_in, next_packet, tail_buffer_after}
use Rattle.packet_rules.proofs.Lengths.{whole_length, not_whole_length, length_more}
use Rattle.packet_rules.specs.Octets.{octets_only}
use Rattle.packet_dump.specs.Packets.{Cuts}
use Rattle.packet_dump.specs.Walks.{Walk, walked, preceded, go_on, walk_chunk, steps_for, walk_dump}
use Rattle.packet_dump.proofs.Lists.{all_first, all_second}
use Rattle.packet_dump.proofs.Cutting.{cuts_nil, cuts_cons, cuts_join}
use Rattle.packet_dump.proofs.Steps.{short_rest, joined_fits, tail_fits, left_octets, by_found, after-chunk, after-joined, after_tail, front_joined, front_tail, front_length}

-- a tail of octets with which the walk goes on
pub record Ready (b : List ℕ) (tail : ℕ) : Type 0 where
  pub room : tail_room ≤ length b
  pub octets : octets_only (take tail b) ≡ true
  pub none : is_whole (take tail b) ≡ false
  pub short : tail < tail_room

-- a walk over s with an answer that cuts s
pub record Cutting (s : List ℕ) (a : Answer Walk) : Type 0 where
  pub walk : Walk
  pub answers : a ≡ answer walk
  pub cuts : Cuts s walk.packets (take walk.tail walk.buffer)
  pub ready : Ready walk.buffer walk.tail

pub empty_ready : (b : List ℕ) → tail_room ≤ length b → Ready b 0
unfolding all is_whole word_at big_from
empty_ready b h = record { room = h; octets = refl; none = refl; short = omega arith }

-- a packet, and then a walk over what stands behind it
packet_first : (s p : List ℕ) {a : Answer Walk} → is_whole s ≡ true → p ≡ take (packet_length s) s → Cutting (drop (packet_length s) s) a → Cutting s (preceded (p ∷ []) a)
unfolding preceded and_then
packet_first s p w e c =
    record {
      walk = walked (p ∷ c.walk.packets) c.walk.buffer c.walk.tail;
      answers = rw c.answers;
      cuts = rw e (cuts_cons s w c.cuts);
      ready = c.ready;
    }

module _ {b : List ℕ} {tail : ℕ} (r : Ready b tail) where
  pub held : length (take tail b) ≡ tail
  held = length-take-le tail b (omega (arith, r.room, r.short))

  module _ (chunk : List ℕ) (at : ℕ) where
    pub step : next_packet b tail chunk at ≡ answer (found_in tail at (left b tail chunk at))
    unfolding next_packet unless
    step = rw (le-leb tail_room (length b) r.room, le-leb tail tail_room (omega (arith, r.short)), r.none)

    left_length : length (left b tail chunk at) ≡ tail + (length chunk - at)
    unfolding left
    left_length = rw (length-append, held, length-drop)

    -- a packet reaches behind the tail
    behind_tail : tail < packet_length (left b tail chunk at)
    unfolding left
    behind_tail =
        by_test (leb header_octets tail)
        (λ t. let h = leb-true header_octets tail t in
        omega (arith, held, not_whole_length (take tail b) r.none, length_more (take tail b) (drop at chunk) (omega (arith, held))))
        (λ f. omega (arith, leb-false header_octets tail f))

    -- what is left behind a packet, in both cases
    next_chunk : tail ≡ 0 → drop (packet_length (left b tail chunk at)) (left b tail chunk at) ≡ drop (at + packet_length (left b tail chunk at)) chunk
    unfolding left
    next_chunk z = rw z (drop-drop (packet_length (drop at chunk)) at chunk)

    next_joined : (n : ℕ) → tail < n → drop n (left b tail chunk at) ≡ drop (at + (n - tail)) chunk
    unfolding left
    next_joined n h =
        let all : length (take tail b) + (n - tail) ≡ n = omega (arith, held) in
        ap (λ m. drop m (take tail b ++ drop at chunk)) (sym all) ∙ (drop-append-add (take tail b) (drop at chunk) (n - tail) ∙ drop-drop (n - tail) at chunk)

    given_chunk : (n : ℕ) → tail ≡ 0 → take (at + n - at) (drop at chunk) ≡ take n (left b tail chunk at)
    unfolding left
    given_chunk n z = let e : at + n - at ≡ n = omega arith in rw (z, e)

    -- one step, where the steps after it cut what is left then
    module _ (octets : octets_only chunk ≡ true) (k : ℕ) (few : length chunk - at < suc k)
        (again : (c : List ℕ) (next : ℕ) → Ready c 0 → length chunk - next < k → Cutting (drop next chunk) (walk_chunk k c 0 chunk next)) where
      abbrev s : List ℕ
      s = left b tail chunk at

      abbrev n : ℕ
      n = packet_length (left b tail chunk at)

      all_octets : octets_only s ≡ true
      all_octets = left_octets b tail chunk at r.octets octets

      in-chunk : is_whole s ≡ true → tail ≡ 0 → next_packet b tail chunk at ≡ answer (in_chunk at (at + n)) → Cutting s (walk_chunk (suc k) b tail chunk at)
      unfolding walk_chunk and_then go_on
      in-chunk w z e =
          rw (e, after-chunk b tail chunk at at (at + n) e)
          (packet_first s _ w (given_chunk n z) (rw (next_chunk z) (again b (at + n) (empty_ready b r.room) (omega (arith, left_length, whole_length s w)))))

      in_buffer_lem : is_whole s ≡ true → 0 < tail → next_packet b tail chunk at ≡ answer (in_buffer n (at + (n - tail))) → Cutting s (walk_chunk (suc k) b tail chunk at)
      unfolding walk_chunk and_then go_on
      in_buffer_lem w z e =
          rw e
          (packet_first s _ w (front_joined b tail chunk at n (at + (n - tail)) e).front
          (rw (next_joined n behind_tail) (again _ (at + (n - tail)) (empty_ready _ room) (omega (arith, left_length, behind_tail, whole_length s w)))))
        where
          room : tail_room ≤ length (tail_buffer_after b tail chunk at)
          room =
              rw (after-joined b tail chunk at n (at + (n - tail)) e, front_length (take n s) b (joined_fits b tail chunk at n (at + (n - tail)) e all_octets))
              r.room

      only_tail_lem : is_whole s ≡ false → next_packet b tail chunk at ≡ answer (only_tail (length s)) → Cutting s (walk_chunk (suc k) b tail chunk at)
      unfolding walk_chunk and_then go_on
      only_tail_lem w e =
          rw e
          (record {
            walk = walked [] (tail_buffer_after b tail chunk at) (length s);
            answers = refl;
            cuts = rw front (cuts_nil s w);
            ready = record { room = room; octets = rw front all_octets; none = rw front w; short = short_rest s all_octets w };
          })
        where
          front : take (length s) (tail_buffer_after b tail chunk at) ≡ s
          front = (front_tail b tail chunk at (length s) e).front

          room : tail_room ≤ length (tail_buffer_after b tail chunk at)
          room =
              rw (after_tail b tail chunk at (length s) e, front_length s b (tail_fits b tail chunk at (length s) e all_octets)) r.room

      step_cut : Cutting s (walk_chunk (suc k) b tail chunk at)
      step_cut =
          by_found b tail chunk at refl
          (λ w z e. in-chunk w z (step ∙ ap answer e))
          (λ w z e. in_buffer_lem w z (step ∙ ap answer e))
          (λ w e. only_tail_lem w (step ∙ ap answer e))

-- at most k steps, where they are more than the bytes that are left of the chunk
chunk_cut : (k : ℕ) {b : List ℕ} {tail : ℕ} → Ready b tail → (chunk : List ℕ) (at : ℕ) → octets_only chunk ≡ true → length chunk - at < k → Cutting (left b tail chunk at) (walk_chunk k b tail chunk at)
unfolding left
chunk_cut zero r chunk at o h = absurd (omega arith)
chunk_cut (suc k) r chunk at o h = step_cut r chunk at o k h (λ c next q l. chunk_cut k q chunk next o l)

-- a walk, and then a walk over more bytes from the tail that it left
walk_on : {s v : List ℕ} {a : Answer Walk} (u : List ℕ) (f : Walk → Answer Walk) → s ++ u ≡ v → Cutting s a
    → ((w : Walk) → Ready w.buffer w.tail → Cutting (take w.tail w.buffer ++ u) (f w))
    → Cutting v (and_then a (λ w. preceded w.packets (f w)))
unfolding preceded and_then
walk_on {s} {v} {a} u f e c again = both (again c.walk c.ready)
  where
    both : Cutting (take c.walk.tail c.walk.buffer ++ u) (f c.walk) → Cutting v (and_then a (λ w. preceded w.packets (f w)))
    both d =
        record {
          walk = walked (c.walk.packets ++ d.walk.packets) d.walk.buffer d.walk.tail;
          answers = rw (c.answers, d.answers);
          cuts = rw (← e) (cuts_join u c.cuts d.cuts);
          ready = d.ready;
        }

first_chunk : {b : List ℕ} {tail : ℕ} (more : ℕ) → Ready b tail → (c : List ℕ) → octets_only c ≡ true → Cutting (take tail b ++ c) (walk_chunk (steps_for more c) b tail c 0)
unfolding left
first_chunk more r c o = chunk_cut (steps_for more c) r c 0 o (omega arith)

pub dump_cut : (more : ℕ) {b : List ℕ} {tail : ℕ} → Ready b tail → (chunks : List (List ℕ)) → octets_only (flatten chunks) ≡ true → Cutting (take tail b ++ flatten chunks) (walk_dump more b tail chunks)
unfolding walk_dump flatten
dump_cut more {b} {tail} r [] o = rw append-nil (record { walk = walked [] b tail; answers = refl; cuts = cuts_nil (take tail b) r.none; ready = r })
dump_cut more {b} {tail} r (c ∷ cs) o =
    walk_on (flatten cs) (λ w. walk_dump more w.buffer w.tail cs) (append_assoc (take tail b) c (flatten cs)) (first_chunk more r c (all_first _ c (flatten cs) o))
    (λ w q. dump_cut more q cs (all_second _ c (flatten cs) o))
