-- A partition's number and `/` in front of the fields.
use Rattle.rules.specs.declared.refusal.Refusal.TheVariants as R
use Rattle.std.specs.Prelude.{Ok, Err}
use Prim.Native.Nat.{ℕ, ◌+◌, max, ◌≤◌, ◌<◌}
use mathlib.Core.Path.{◌≡◌, ◌∙◌}
use mathlib.Core.List.{List, [], ◌∷◌, ◌++◌, append_assoc}
use lib.ListN.{length, length-append}
use native.Mathlib.Omega.{arith}
use Rattle.rules.specs.Answer.{numbered}
use Rattle.rules.specs.Print.{digit_count, last_digits, padded, fields_print, fitting}
use Rattle.decimal.specs.Writing.{Room, Written}
use Rattle.roundtrip.proofs.Digits.{digits_some, padded_length}
use Rattle.decimal.proofs.RightToLeft.{written_append}
use Rattle.buffer_print.specs.Printed.{Printed}
use Rattle.buffer_print.proofs.Fitting.{print_fits, print_short}

-- the number unpadded
module _ (number digits : ℕ) (e : digits ≡ digit_count number) where
  padded_digits : last_digits digits number ≡ padded 1 number
  unfolding padded
  padded_digits = let m : digits ≡ max 1 (digit_count number) = omega (arith, digits_some number) in rw m

  pub number_length : length (padded 1 number) ≡ digits
  number_length = padded_length 1 number ∙ omega (arith, digits_some number)

  module _ (end at : ℕ) (b b1 : List ℕ) (r : Room (padded 1 number ++ (47 ∷ [])) end b) (w : Written (47 ∷ []) end at b b1) where
    pub number_room : length b1 ≡ length b → Room (last_digits digits number) at b1
    number_room l = rw padded_digits (record { before = omega (arith, length-append (padded 1 number) (47 ∷ []), r.before, w.ends); within = omega (arith, r.within, w.ends) })

    pub number_written : (start : ℕ) (b2 : List ℕ) → Written (last_digits digits number) at start b1 b2 → Written (padded 1 number ++ (47 ∷ [])) end start b b2
    number_written start b2 v = written_append (padded 1 number) (47 ∷ []) end at start b b1 b2 r w (rw padded_digits at v)

  pub slash_room : (end : ℕ) (b : List ℕ) → Room (padded 1 number ++ (47 ∷ [])) end b → Room (47 ∷ []) end b
  slash_room end b r = record { before = omega (arith, length-append (padded 1 number) (47 ∷ []), r.before); within = r.within }

  -- in front of the fields of a count
  module _ (ms os : List ℕ) (d c n : ℕ) (long : n ≡ length (fields_print d c ms os)) where
    numbered_length : digits + 1 + n ≡ length (padded 1 number ++ (47 ∷ fields_print d c ms os))
    numbered_length = rw (length-append, number_length, long) (omega arith)

    pub numbered_room : (b : List ℕ) → digits + 1 + n ≤ length b → Room (fields_print d c ms os) (digits + 1 + n) b
    numbered_room b h = record { before = omega (arith, long); within = h }

    pub rest_room : (at : ℕ) (b b1 : List ℕ) → digits + 1 + n ≤ length b → Written (fields_print d c ms os) (digits + 1 + n) at b b1 → length b1 ≡ length b
        → Room (padded 1 number ++ (47 ∷ [])) at b1
    rest_room at b b1 h v l =
        record {
          before = omega (arith, length-append (padded 1 number) (47 ∷ []), number_length, v.ends, long);
          within = omega (arith, v.ends);
        }

    pub numbered_fit : (at start : ℕ) (b b1 b2 : List ℕ) → digits + 1 + n ≤ length b
        → Written (fields_print d c ms os) (digits + 1 + n) at b b1 → Written (padded 1 number ++ (47 ∷ [])) at start b1 b2
        → Printed (fitting (length b) (padded 1 number ++ (47 ∷ fields_print d c ms os))) (Ok (digits + 1 + n)) b b2
    numbered_fit at start b b1 b2 h v u =
        print_fits (padded 1 number ++ (47 ∷ fields_print d c ms os)) (digits + 1 + n) numbered_length (length b) start b b2 h
        (rw slash at (written_append (padded 1 number ++ (47 ∷ [])) (fields_print d c ms os) (digits + 1 + n) at start b b1 b2 room v u))
      where
        slash : (padded 1 number ++ (47 ∷ [])) ++ fields_print d c ms os ≡ padded 1 number ++ (47 ∷ fields_print d c ms os)
        slash = append_assoc (padded 1 number) (47 ∷ []) (fields_print d c ms os)

        room : Room ((padded 1 number ++ (47 ∷ [])) ++ fields_print d c ms os) (digits + 1 + n) b
        room = rw slash (record { before = omega (arith, numbered_length); within = h })

    pub numbered_short : (b : List ℕ) → length b < digits + 1 + n
        → Printed (fitting (length b) (padded 1 number ++ (47 ∷ fields_print d c ms os))) (Err R.BufferTooShort) b b
    numbered_short b h = print_short (padded 1 number ++ (47 ∷ fields_print d c ms os)) (digits + 1 + n) numbered_length (length b) b h
