-- A line by what is asked of it.
use Rattle.rules.specs.declared.refusal.Refusal.{Refusal}
use Rattle.std.specs.Prelude.{Result, Ok, Err}
use Prim.Native.Nat.{ℕ, ◌≤◌}
use mathlib.Core.Path.{◌≡◌, ap, ◌∙◌}
use mathlib.Core.Bool.{Bool}
use mathlib.Core.List.{List}
use lib.IntN.{ℤ}
use lib.ListN.{length, take}
use Rattle.rules.specs.declared.Layout.{Layout}
use Rattle.rules.specs.declared.TimedStamp.{TimedStamp}
use Rattle.rules.specs.declared.CountAtTime.{CountAtTime}
use Rattle.rules.specs.Answer.{Answer, answer, refused, and_then, as_numbered, answer_of}
use Rattle.rules.specs.Limits.{longest_text}
use Rattle.rules.specs.Partitions.{Partitions}
use Rattle.rules.specs.Segments.{Segments}
use Rattle.rules.specs.Time.{count_at}
use Rattle.rules.specs.StampTime.{time_of_message}
use Rattle.versions.specs.Versions.{Table}
use Rattle.tables.specs.declared.Basis.{Basis}
use Rattle.tables.specs.Accept.{StampsFacts, TableFacts}
use Rattle.command_rules.specs.declared.Query.{Query}
use Rattle.command_rules.specs.declared.Query.TheVariants as Asked
use Rattle.command_rules.specs.Input.{without_return, read_count, read_time_by, read_hex}
use Rattle.command_rules.specs.Lines.{answered_line, stamp_by, message_by, print_by, time_line, stamp_line, count_field, count_line, compare_line, line_by, line_of}
use Rattle.command_answers.specs.declared.Put.{Put}
use Rattle.command_answers.specs.Put.{PutLine}
use Rattle.command_input.specs.Given.{hex_answer, hex_length, longest_message}
use Rattle.command_numbers.specs.Given.{capped_count, capped_time}
use Rattle.command_line.specs.Ready.{Ready, ready}
use Rattle.command_numbers.proofs.Near.{print_near, count_near, count_then, count_refused, time_then, time_refused}

-- a message in hex
module _ (t : Table) (s : List ℕ) (q : Result ℕ Refusal) (after : List ℕ) (e : hex_answer q after ≡ read_hex s) where
  pub hex_timed : (n : ℕ) (x : Answer TimedStamp) → q ≡ Ok n → x ≡ time_of_message t.layout t.partitions t.segments (take n after) → x ≡ message_by t s
  unfolding message_by and_then
  hex_timed n x h v = let m : answer (take n after) ≡ read_hex s = rw h at e in v ∙ rw (← m)

  pub hex_out : (k : Refusal) → q ≡ Err k → refused (as_numbered k) ≡ message_by t s
  unfolding message_by and_then
  hex_out k h = let m : refused (as_numbered k) ≡ read_hex s = rw h at e in rw (← m)

pub hex_fits : (q : Result ℕ Refusal) (n : ℕ) (after : List ℕ) → q ≡ Ok n → hex_length q ≤ longest_message → length after ≡ longest_message → n ≤ length after
hex_fits q n after h l e = rw e (rw h at l)

module _ {r : Put} {at : ℕ} {entry exit : List ℕ} where
  -- an encoded count
  module _ (l : Layout) (p : Partitions) (b : Basis) (f : StampsFacts l p b) (s : List ℕ) (q : Result ℕ Refusal) (e : answer_of q ≡ capped_count (read_count s)) where
    pub stamp_line_lem : (n : ℕ) → q ≡ Ok n → PutLine (answered_line (print_by l p n)) r at entry exit → PutLine (stamp_line l p s) r at entry exit
    unfolding stamp_line
    stamp_line_lem n h w = rw (← count_then (print_by l p) q (read_count s) e (λ m. print_near l p b f m longest_text) n h) w

    pub stamp_out : (k : Refusal) → q ≡ Err k → PutLine (answered_line (refused (as_numbered k))) r at entry exit → PutLine (stamp_line l p s) r at entry exit
    unfolding stamp_line
    stamp_out k h w = rw (← count_refused (print_by l p) q (read_count s) e k h) w

  -- a time
  module _ (seconds : Bool) (t : Table) (s : List ℕ) (q : Result ℤ Refusal) (e : answer_of q ≡ capped_time (read_time_by seconds s)) where
    pub count_line_lem : (time : ℤ) (x : Answer CountAtTime) → q ≡ Ok time → x ≡ count_at t.layout t.partitions t.segments time
        → PutLine (answered_line (count_field x)) r at entry exit → PutLine (count_line seconds t s) r at entry exit
    unfolding count_line
    count_line_lem time x h v w =
        rw (← time_then (λ z. count_field (count_at t.layout t.partitions t.segments z)) q (read_time_by seconds s) e (λ z. ap count_field (count_near t.layout t.partitions t.segments z)) time h, ← v) w

    pub count_out : (k : Refusal) → q ≡ Err k → PutLine (answered_line (refused (as_numbered k))) r at entry exit → PutLine (count_line seconds t s) r at entry exit
    unfolding count_line
    count_out k h w = rw (← time_refused (λ time. count_field (count_at t.layout t.partitions t.segments time)) q (read_time_by seconds s) e k h) w

  -- by the query
  module _ (q : Query) (seconds : Bool) (o n : Table) (s : List ℕ) where
    pub asks_time : q ≡ Asked.Time → (x : Answer TimedStamp) → x ≡ stamp_by o s → PutLine (time_line seconds o.layout o.partitions x) r at entry exit → PutLine (line_by q seconds o n s) r at entry exit
    unfolding line_by
    asks_time h x e w = rw (h, ← e) w

    pub asks_messages : q ≡ Asked.Messages → (x : Answer TimedStamp) → x ≡ message_by o s → PutLine (time_line seconds o.layout o.partitions x) r at entry exit → PutLine (line_by q seconds o n s) r at entry exit
    unfolding line_by
    asks_messages h x e w = rw (h, ← e) w

    pub asks_stamp : q ≡ Asked.Stamp → PutLine (stamp_line o.layout o.partitions s) r at entry exit → PutLine (line_by q seconds o n s) r at entry exit
    unfolding line_by
    asks_stamp h w = rw h w

    pub asks_count : q ≡ Asked.Count → PutLine (count_line seconds o s) r at entry exit → PutLine (line_by q seconds o n s) r at entry exit
    unfolding line_by
    asks_count h w = rw h w

    pub asks_compare : q ≡ Asked.Compare → (x y : Answer TimedStamp) → x ≡ stamp_by o s → y ≡ stamp_by n s → PutLine (compare_line seconds x y) r at entry exit → PutLine (line_by q seconds o n s) r at entry exit
    unfolding line_by
    asks_compare h x y e f w = rw (h, ← e, ← f) w

    pub asks_compare_messages : q ≡ Asked.CompareMessages → (x y : Answer TimedStamp) → x ≡ message_by o s → y ≡ message_by n s → PutLine (compare_line seconds x y) r at entry exit → PutLine (line_by q seconds o n s) r at entry exit
    unfolding line_by
    asks_compare_messages h x y e f w = rw (h, ← e, ← f) w

    -- the line without its byte 13
    pub line_text : (k : ℕ) → take k s ≡ without_return s → PutLine (line_by q seconds o n (take k s)) r at entry exit → PutLine (line_of q seconds o n s) r at entry exit
    unfolding line_of
    line_text k e w = rw (← e) w

-- the facts of each table
module _ {l : Layout} {p : Partitions} {g : Segments} {b : Basis} {l' : Layout} {p' : Partitions} {g' : Segments} {b' : Basis} where
  pub older_facts : Ready l p g b l' p' g' b' → TableFacts l p g b
  older_facts (ready f f') = f

  pub newer_facts : Ready l p g b l' p' g' b' → TableFacts l' p' g' b'
  newer_facts (ready f f') = f'

  pub older_stamps : Ready l p g b l' p' g' b' → StampsFacts l p b
  older_stamps (ready f f') = f.stamps
