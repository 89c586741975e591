-- The lines before the rows, as the code puts them.
use Prim.Native.Nat.{ℕ, ◌+◌, ◌≤◌, ◌<◌}
use mathlib.Core.Path.{◌≡◌}
use mathlib.Core.List.{List, [], ◌∷◌, ◌++◌, append_assoc}
use lib.IntN.{ℤ}
use lib.ListN.{length, get_or}
use mir.Syntax.{w64}
use mir.Val.{SFits, to_z, of_z}
use mir.Facts.{to_z-of_z}
use borrow.Author.Tests.{eq-eqb, ne_eqb}
use native.Mathlib.Numerals.{add-one}
use native.Mathlib.Omega.{arith}
use Rattle.rules.specs.declared.Layout.{Layout}
use Rattle.rules.specs.Facts.{LayoutFacts}
use Rattle.rules.specs.Limits.{most_fields}
use Rattle.rules.specs.Examples.{bytes}
use Rattle.rules.specs.Print.{delimiter_byte}
use Rattle.decimal.specs.Writing.{Written}
use Rattle.decimal.proofs.LeftToRight.{nothing_written, written_same_length, written_then}
use Rattle.number_text.specs.Numbers.{decimal_of, time_bytes, longest_number}
use Rattle.command_rules.specs.Describe.{rows_text, system_name, clock_line, system_line, delimiter_line, field_line, head_text}
use Rattle.command_ends.specs.Ends.{longest_clock, longest_system, longest_delimiter, longest_field, longest_head, field_row, field_rows, FieldsIn}
use Rattle.command_ends.proofs.Parts.{written_three}

-- a title and a number
module _ (title : List ℕ) (x after at place : ℕ) {entry out : List ℕ} (room : at + length title + longest_number + 1 ≤ length entry) (w : Written title place at entry out) where
  pub titled_room : place + longest_number < length out
  titled_room = omega (arith, w.ends, written_same_length w (omega (arith, w.ends)))

  pub titled_put : (r : ℕ) {exit : List ℕ} → Written (decimal_of x ++ (after ∷ [])) r place out exit → Written (title ++ (decimal_of x ++ (after ∷ []))) r at entry exit
  titled_put r v = written_then w v (omega (arith, w.ends))

  pub titled_short : (r : ℕ) → r ≤ place + longest_number + 1 → r ≤ at + length title + longest_number + 1
  titled_short r h = omega (arith, w.ends)

-- the clock
module _ (clock : ℤ) (f : SFits w64 clock) (at place : ℕ) {entry out : List ℕ} (room : at + longest_clock ≤ length entry) (w : Written (99 ∷ 108 ∷ 111 ∷ 99 ∷ 107 ∷ 9 ∷ []) place at entry out) where
  pub clock_room : place + longest_number + 1 < length out
  clock_room = omega (arith, w.ends, written_same_length w (omega (arith, w.ends)))

  pub clock_put : (r : ℕ) {exit : List ℕ} → Written (time_bytes (to_z w64 (of_z w64 clock)) ++ (10 ∷ [])) r place out exit → Written (clock_line clock) r at entry exit
  unfolding clock_line bytes
  clock_put r v = written_then w (rw (to_z-of_z f) at v) (omega (arith, w.ends))

  pub clock_short : (r : ℕ) → r ≤ place + longest_number + 1 → r ≤ at + longest_clock
  clock_short r h = omega (arith, w.ends)

-- the time system
module _ (code r at : ℕ) {entry exit : List ℕ} where
  pub tdb_put : code ≡ 1 → Written (84 ∷ 68 ∷ 66 ∷ 10 ∷ []) r at entry exit → Written (system_name code ++ (10 ∷ [])) r at entry exit
  unfolding system_name bytes
  tdb_put h w = rw (eq-eqb _ _ h) w

  pub tdt_put : (code ≡ 1 → ⊥) → Written (84 ∷ 68 ∷ 84 ∷ 10 ∷ []) r at entry exit → Written (system_name code ++ (10 ∷ [])) r at entry exit
  unfolding system_name bytes
  tdt_put h w = rw (ne_eqb _ _ h) w

  pub system_put : (place : ℕ) {out : List ℕ} → at + longest_system ≤ length entry → Written ((116 ∷ 105 ∷ 109 ∷ 101 ∷ 32 ∷ 115 ∷ 121 ∷ 115 ∷ 116 ∷ 101 ∷ 109 ∷ 9 ∷ []) ++ (decimal_of code ++ (9 ∷ []))) place at entry out → place ≤ at + 12 + longest_number + 1
      → Written (system_name code ++ (10 ∷ [])) r place out exit → Written (system_line code) r at entry exit
  unfolding system_line bytes
  system_put place room w h v = rw (append_assoc (decimal_of code) (9 ∷ []) (system_name code ++ (10 ∷ []))) at (written_then w v (omega arith))

  -- the delimiter
  pub delimiter_put : (place end byte : ℕ) {first second : List ℕ} → at + longest_delimiter ≤ length entry → Written ((100 ∷ 101 ∷ 108 ∷ 105 ∷ 109 ∷ 105 ∷ 116 ∷ 101 ∷ 114 ∷ 9 ∷ []) ++ (decimal_of code ++ (9 ∷ []))) place at entry first → place ≤ at + 10 + longest_number + 1
      → byte ≡ delimiter_byte code → Written (byte ∷ []) end place first second → end ≡ place + 1 → Written (10 ∷ []) r end second exit → Written (delimiter_line code) r at entry exit
  unfolding delimiter_line bytes
  delimiter_put place end byte room w h e v k z = rw (append_assoc (decimal_of code) (9 ∷ []) (byte ∷ 10 ∷ []), e) at (written_three w v z (omega arith) (omega arith))

-- a field
module _ (number modulus offset at a b r : ℕ) {entry first second exit : List ℕ} (room : at + longest_field ≤ length entry)
    (w : Written ((102 ∷ 105 ∷ 101 ∷ 108 ∷ 100 ∷ 9 ∷ []) ++ (decimal_of number ++ (9 ∷ []))) a at entry first) (h : a ≤ at + 6 + longest_number + 1)
    (v : Written (decimal_of modulus ++ (9 ∷ [])) b a first second) (k : b ≤ a + longest_number + 1) (z : Written (decimal_of offset ++ (10 ∷ [])) r b second exit) where
  pub field_put : Written (field_row number modulus offset) r at entry exit
  unfolding field_row bytes
  field_put = rw (append_assoc (decimal_of number) (9 ∷ []) ((decimal_of modulus ++ (9 ∷ [])) ++ (decimal_of offset ++ (10 ∷ []))), append_assoc (decimal_of modulus) (9 ∷ []) (decimal_of offset ++ (10 ∷ []))) at (written_three w v z (omega arith) (omega arith))

-- the fields one by one
module _ (ms os : List ℕ) (at : ℕ) (entry : List ℕ) where
  pub fields_begin : Written (field_rows ms os 0) at at entry entry
  unfolding field_rows rows_text
  fields_begin = nothing_written at entry

  pub fields_next : (i place r number modulus offset : ℕ) {out exit : List ℕ} → Written (field_rows ms os i) place at entry out
      → Written (field_row number modulus offset) r place out exit → number ≡ i + 1 → modulus ≡ get_or ms i 0 → offset ≡ get_or os i 0
      → place ≤ length entry → Written (field_rows ms os (i + 1)) r at entry exit
  unfolding field_rows rows_text
  fields_next i place r number modulus offset w v e f g h = rw add-one (written_then w (rw (e, f, g) at v) h)

  pub fields_all : (i n place : ℕ) {out : List ℕ} → Written (field_rows ms os i) place at entry out → i ≤ n → n ≤ i → Written (field_rows ms os n) place at entry out
  fields_all i n place w h k = let e : i ≡ n = omega arith in rw e at w

-- what the fields ask of an accepted layout
pub fields_in : (l : Layout) (ms os : List ℕ) → LayoutFacts l → length ms ≡ most_fields → length os ≡ most_fields → FieldsIn l.n ms os
fields_in l ms os f a b = record { few = f.few_fields; moduli_in = omega (arith, f.few_fields); offsets_in = omega (arith, f.few_fields) }

pub head_put : (clock : ℤ) (system : ℕ) (l : Layout) (f : SFits w64 clock) (a b c r : ℕ) {entry first second third exit : List ℕ} → longest_head ≤ length entry
    → Written (clock_line (to_z w64 (of_z w64 clock))) a 0 entry first → a ≤ 0 + longest_clock
    → Written (system_line system) b a first second → b ≤ a + longest_system
    → Written (delimiter_line l.delimiter) c b second third → c ≤ b + longest_delimiter
    → Written (field_rows l.moduli l.offsets l.n) r c third exit → Written (head_text clock system l) r 0 entry exit
unfolding head_text field_rows field_row field_line
head_put clock system l f a b c r {entry} room w h v k u m z =
    let two = written_then (rw (to_z-of_z f) at w) v (omega arith) in
    rw (append_assoc (clock_line clock) (system_line system) (delimiter_line l.delimiter ++ rows_text (field_line l) l.n)) at
    (written_three two u z (omega arith) (omega arith))
