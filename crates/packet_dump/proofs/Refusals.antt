-- A step gives no refusal outside its set, and each of it.
use Prim.Native.Nat.{ℕ, ◌+◌, ◌≤◌, ◌<◌}
use mathlib.Core.Path.{◌≡◌, refl}
use mathlib.Core.Bool.{true}
use mathlib.Core.List.{List, []}
use lib.ListN.{length, take}
use borrow.Author.Tests.{le-leb, lt-leb}
use native.Mathlib.Omega.{arith}
use Rattle.base.specs.Scans.{among}
use Rattle.rules.specs.Answer.{refuse, unless}
use Rattle.outcomes.specs.Refusals.{has_place}
use Rattle.outcomes.proofs.Ladder.{answers, rung}
use Rattle.packet_rules.specs.Walk.{tail_room, is_whole, next_packet}
use Rattle.packet_dump.specs.Refusals.{walk_refusals, Refusals}

module _ (b : List ℕ) (tail : ℕ) (chunk : List ℕ) (at : ℕ) where
  too_short_lem : length b < tail_room → next_packet b tail chunk at ≡ refuse 16
  unfolding next_packet unless
  too_short_lem h = rw (lt-leb tail_room (length b) h)

  too_long : tail_room ≤ length b → tail_room < tail → next_packet b tail chunk at ≡ refuse 25
  unfolding next_packet unless
  too_long h k = rw (le-leb tail_room (length b) h, lt-leb tail tail_room k)

  whole_tail : tail_room ≤ length b → tail ≤ tail_room → is_whole (take tail b) ≡ true → next_packet b tail chunk at ≡ refuse 25
  unfolding next_packet unless
  whole_tail h k w = rw (le-leb tail_room (length b) h, le-leb tail tail_room k, w)

pub refusals : Refusals
unfolding next_packet walk_refusals has_place among
refusals =
    record {
      walk = λ b tail chunk at. rung 16 _ refl refl (rung 25 _ refl refl (rung 25 _ refl refl (answers _)));
      too_short_lem = too_short_lem;
      too_long = too_long;
      whole_tail = whole_tail;
      given = λ b h. (rw (too_short_lem [] 0 [] 0 (omega arith), too_long b (tail_room + 1) [] 0 h (omega arith)), refl);
    }
