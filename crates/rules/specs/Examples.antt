-- The cases that document 01 marks *, as one table with one statement.
use Rattle.std.specs.Prelude.{ℕ, ◌≡◌, refl, List, [], ◌∷◌, map, ℤ, pos, negsuc}
use Prim.Native.Char.{code}
use Prim.Native.String.{String, [] as empty, ◌∷◌ as ◌then◌}
use Rattle.rules.specs.declared.Layout.{Layout}
use Rattle.rules.specs.declared.Reading.{Reading}
use Rattle.rules.specs.declared.TimeOfCount.{TimeOfCount}
use Rattle.rules.specs.declared.CountAtTime.{CountAtTime}
use Rattle.rules.specs.Answer.{Answer, answer, refuse, refuse_at, reading, time_of_count, count_at_time}
use Rattle.rules.specs.Partitions.{Partitions, partitions}
use Rattle.rules.specs.Segments.{Segments, segments}
use Rattle.rules.specs.Text.{read_text}
use Rattle.rules.specs.Stamp.{read_stamp}
use Rattle.rules.specs.Print.{print_stamp}
use Rattle.rules.specs.Time.{time_of, count_at}
use Rattle.rules.specs.Computing.{computing}

-- the bytes of a text
unfoldable pub bytes : String → List ℕ
bytes empty = []
bytes (c then s) = code c ∷ bytes s

-- "Table A: moduli 100, 10; offsets 0; delimiter 1. Partitions 0..500 and 200..900, total 1,200. Segments (0, -1000, 25,000) and (600, 1000, 30,000)."
unfoldable pub layout_a : Layout
layout_a =
    record {
      n = 2;
      moduli = 100 ∷ 10 ∷ 0 ∷ 0 ∷ 0 ∷ 0 ∷ 0 ∷ 0 ∷ 0 ∷ 0 ∷ [];
      offsets = 0 ∷ 0 ∷ 0 ∷ 0 ∷ 0 ∷ 0 ∷ 0 ∷ 0 ∷ 0 ∷ 0 ∷ [];
      delimiter = 1;
    }

unfoldable pub partitions_a : Partitions
partitions_a = partitions (0 ∷ 200 ∷ []) (500 ∷ 900 ∷ [])

unfoldable pub segments_a : Segments
segments_a = segments (0 ∷ 600 ∷ []) (negsuc 999 ∷ pos 1000 ∷ []) (25_000 ∷ 30_000 ∷ [])

-- "Moduli 65536, 60, 800, offsets 0, 0, 1"
unfoldable pub layout_b : Layout
layout_b =
    record {
      n = 3;
      moduli = 65_536 ∷ 60 ∷ 800 ∷ 0 ∷ 0 ∷ 0 ∷ 0 ∷ 0 ∷ 0 ∷ 0 ∷ [];
      offsets = 0 ∷ 0 ∷ 1 ∷ 0 ∷ 0 ∷ 0 ∷ 0 ∷ 0 ∷ 0 ∷ 0 ∷ [];
      delimiter = 2;
    }

pub data Question : Type 0 where
  text : Layout → String → Question
  stamp : String → Question
  print : ℕ → Question
  time_of_lem : ℕ → Question
  count_at_lem : ℤ → Question

pub data Reply : Type 0 where
  read : Answer Reading → Reply
  printed : Answer (List ℕ) → Reply
  time : Answer TimeOfCount → Reply
  count : Answer CountAtTime → Reply

-- under table A where the question names no layout
unfoldable pub reply : Question → Reply
reply (text l s) = read (read_text l (bytes s))
reply (stamp s) = read (read_stamp layout_a partitions_a (bytes s))
reply (print e) = printed (print_stamp layout_a partitions_a e 96)
reply (time_of_lem e) = time (time_of layout_a partitions_a segments_a e)
reply (count_at_lem t) = count (count_at layout_a partitions_a segments_a t)

pub record Case : Type 0 where
  pub asked : Question
  pub expected : Reply

unfoldable pub case : Question → Reply → Case
case q r = record { asked = q; expected = r }

unfoldable pub starred : List Case
starred =
    case (text layout_a "12.3") (read (answer (reading 123)))
    ∷ case (text layout_a "5.13") (read (answer (reading 63)))
    ∷ case (text layout_a ".5") (read (refuse 6))
    ∷ case (text layout_a "12..") (read (refuse_at 7 4))
    ∷ case (stamp "1/50.0") (read (answer (reading 500)))
    ∷ case (stamp "1/50.1") (read (refuse 11))
    ∷ case (stamp "50.1") (read (answer (reading 801)))
    ∷ case (print 500) (printed (answer (bytes "2/20.0")))
    ∷ case (print 1_200) (printed (answer (bytes "2/90.0")))
    ∷ case (time_of_lem 1) (time (answer (time_of_count (negsuc 996))))
    ∷ case (count_at_lem (negsuc 996)) (count (answer (count_at_time 1)))
    ∷ case (count_at_lem (pos 700)) (count (answer (count_at_time 599)))
    ∷ case (count_at_lem (pos 2_803)) (count (refuse 14))
    ∷ case (text layout_b "20538:39:768") (read (answer (reading 985_855_967)))
    ∷ []

pub starred_hold : map (λ c. reply c.asked) starred ≡ map (λ c. c.expected) starred
unfolding computing bytes layout_a partitions_a segments_a layout_b reply case starred
starred_hold = refl
