-- A print that fits the buffer, and one that does not.
use Rattle.rules.specs.declared.refusal.Refusal.TheVariants as R
use Rattle.std.specs.Prelude.{Ok, Err}
use Prim.Native.Nat.{ℕ, ◌≤◌, ◌<◌}
use mathlib.Core.Path.{◌≡◌, ◌∙◌}
use mathlib.Core.List.{List}
use lib.ListN.{length}
use native.Mathlib.Omega.{arith}
use borrow.Author.Tests.{le-leb, lt-leb}
use Rattle.base.specs.Scans.{product}
use Rattle.rules.specs.Answer.{unless}
use Rattle.rules.specs.Print.{fields_print, fitting, length_printed, buffer_after}
use Rattle.roundtrip.specs.Fields.{AllFields}
use Rattle.print_order.specs.Order.{fields_length}
use Rattle.decimal.specs.Writing.{Room, Written}
use Rattle.decimal.proofs.RightToLeft.{put_front}
use Rattle.field_print.proofs.Widths.{print_length}
use Rattle.buffer_print.specs.Printed.{Printed}

module _ (s : List ℕ) (n : ℕ) (long : n ≡ length s) (room : ℕ) where
  pub print_fits : (start : ℕ) (entry exit : List ℕ) → n ≤ room → Written s n start entry exit → Printed (fitting room s) (Ok n) entry exit
  unfolding fitting unless length_printed buffer_after
  print_fits start entry exit h w =
      let fits = le-leb (length s) room (omega arith) in
      let front : start ≡ 0 = omega (arith, w.ends) in
      record {
        answers = rw (fits, long);
        bytes = w.bytes ∙ rw (fits, front, put_front);
      }

  pub print_short : (entry : List ℕ) → room < n → Printed (fitting room s) (Err R.BufferTooShort) entry entry
  unfolding fitting unless length_printed buffer_after
  print_short entry h =
      let short = lt-leb (length s) room (omega arith) in
      record { answers = rw short; bytes = rw short }

-- the fields alone
module _ (ms os : List ℕ) (f : AllFields ms os) (c : ℕ) (below : c < product ms) (n : ℕ) (e : n ≡ fields_length ms os) (d : ℕ) where
  long : n ≡ length (fields_print d c ms os)
  long = print_length ms os f d c n below e

  pub fields_room : (end : ℕ) (b : List ℕ) → n ≤ end → end ≤ length b → Room (fields_print d c ms os) end b
  fields_room end b h k = record { before = omega (arith, long); within = k }

  pub fields_fit : (start room : ℕ) (entry exit : List ℕ) → n ≤ room → Written (fields_print d c ms os) n start entry exit
      → Printed (fitting room (fields_print d c ms os)) (Ok n) entry exit
  fields_fit start room = print_fits (fields_print d c ms os) n long room start

  pub fields_short : (room : ℕ) (entry : List ℕ) → room < n → Printed (fitting room (fields_print d c ms os)) (Err R.BufferTooShort) entry entry
  fields_short room = print_short (fields_print d c ms os) n long room
