-- The promises, from the cut that the loop makes and from the only one that there is.
use Prim.Native.Nat.{ℕ, ◌≤◌}
use mathlib.Core.Path.{◌≡◌, sym, ap, ◌∙◌}
use mathlib.Core.Bool.{true}
use mathlib.Core.List.{List, flatten}
use lib.ListN.{length, take}
use Rattle.rules.specs.Answer.{answer}
use Rattle.rules.proofs.Answers.{payload}
use borrow.Author.Tests.{le-leb}
use Rattle.packet_rules.specs.Walk.{tail_room, left, next_packet}
use Rattle.packet_rules.specs.Octets.{octets_only}
use Rattle.packet_dump.specs.Packets.{packets_in, rest_in}
use Rattle.packet_dump.specs.Walks.{Walk, walk_dump}
use Rattle.packet_dump.specs.Dump.{Gives, GoesOn, Dump, FrontOnly, Buffers}
use Rattle.packet_dump.proofs.Cutting.{cuts_in, only_cut}
use Rattle.packet_dump.proofs.Steps.{after-chunk, after-refused, after-length, front_joined, front_tail}
use Rattle.packet_dump.proofs.Walks.{Ready, Cutting, empty_ready, held, step, dump_cut}

module _ (more : ℕ) (b : List ℕ) (chunks : List (List ℕ)) (room : tail_room ≤ length b) (octets : octets_only (flatten chunks) ≡ true) where
  cut : Cutting (flatten chunks) (walk_dump more b 0 chunks)
  cut = dump_cut more (empty_ready b room) chunks octets

  parts : (cut.walk.packets ≡ packets_in (flatten chunks)) × (take cut.walk.tail cut.walk.buffer ≡ rest_in (flatten chunks))
  parts = only_cut (flatten chunks) cut.walk.packets _ cut.cuts

  gives : Gives (flatten chunks) (walk_dump more b 0 chunks)
  gives = record { walk = cut.walk; answers = cut.answers; packets = parts.0; tail = parts.1 }

  module _ (w : Walk) (h : walk_dump more b 0 chunks ≡ answer w) where
    cut_walk : cut.walk ≡ w
    cut_walk = payload (sym cut.answers ∙ h)

    ready : Ready w.buffer w.tail
    ready = rw cut_walk at cut.ready

    packets_are : w.packets ≡ packets_in (flatten chunks)
    packets_are = rw (← cut_walk) parts.0

    tail_is : take w.tail w.buffer ≡ rest_in (flatten chunks)
    tail_is = rw (← cut_walk) parts.1

    tail_length : w.tail ≡ length (rest_in (flatten chunks))
    tail_length = sym (held ready) ∙ ap length tail_is

    goes_on : GoesOn w.buffer w.tail
    goes_on = record { room = ready.room; short = ready.short; none = ready.none; next = step ready }

same : (more others : ℕ) (b d : List ℕ) (chunks pieces : List (List ℕ)) (w v : Walk)
    → tail_room ≤ length b
    → tail_room ≤ length d
    → octets_only (flatten chunks) ≡ true
    → flatten chunks ≡ flatten pieces
    → walk_dump more b 0 chunks ≡ answer w
    → walk_dump others d 0 pieces ≡ answer v
    → (w.packets ≡ v.packets) × (w.tail ≡ v.tail) × (take w.tail w.buffer ≡ take v.tail v.buffer)
same more others b d chunks pieces w v room space o e h k =
    let q : octets_only (flatten pieces) ≡ true = rw (← e) o in (
      packets_are more b chunks room o w h ∙ rw e (sym (packets_are others d pieces space q v k)),
      tail_length more b chunks room o w h ∙ rw e (sym (tail_length others d pieces space q v k)),
      tail_is more b chunks room o w h ∙ rw e (sym (tail_is others d pieces space q v k)),
    )

pub dump : Dump
dump = record { gives = gives; same = same; cuts = cuts_in; only = only_cut; goes_on = λ more b chunks w room octets h. goes_on more b chunks room octets w h }

pub front_only : FrontOnly
unfolding next_packet left
front_only b d tail chunk at h k e = rw (le-leb tail_room (length b) h, le-leb tail_room (length d) k, e)

pub buffers : Buffers
buffers =
    record {
      same_length = after-length;
      in-chunk = λ b tail chunk at. after-chunk b tail chunk at;
      in_buffer_lem = λ b tail chunk at. front_joined b tail chunk at;
      only_tail_lem = λ b tail chunk at. front_tail b tail chunk at;
      refused_leaves = λ b tail chunk at. after-refused b tail chunk at;
    }
