-- The exact set of refusals of reading a kernel, in their order, of which 2 and 3 have a place. proofs/Refusals.antt shows that no other is
-- given; here a text gives each.
use Rattle.std.specs.Prelude.{ℕ, ◌+◌, refl, List, [], ◌∷◌, ◌++◌, ℤ, pos, take, drop}
use Prim.Native.String.{String}
use Rattle.rules.specs.Answer.{Answer, numbered, placed}
use Rattle.outcomes.specs.Refusals.{has_place, OnlyRefuses}
use Rattle.outcomes.specs.Given.{Given}
use Rattle.kernel_rules.specs.Tables.{Lists, Tables}
use Rattle.kernel_rules.specs.Kernel.{read_kernel}
use Rattle.kernel_rules.specs.Examples.{joined, tables_a}
use Rattle.kernel_rules.specs.Edits.{short_a, editing}

unfoldable pub kernel_refusals : List ℕ
kernel_refusals = 18 ∷ 19 ∷ 20 ∷ 1 ∷ 2 ∷ 3 ∷ 16 ∷ []

-- every refusal is one of these
abbrev pub OnlyThese : {A : Type 0} → Answer A → Type 0
OnlyThese a = OnlyRefuses has_place kernel_refusals a

abbrev pub KernelRefusals : Type 0
KernelRefusals = (text : List ℕ) (clock : ℤ) (lent : Lists) → OnlyThese (read_kernel text clock lent)

-- table A's text with another line i
unfoldable pub text_with : ℕ → String → List ℕ
text_with i l = joined (take i short_a ++ (l ∷ drop (i + 1) short_a))

unfoldable pub no_room : Lists
no_room = record { moduli = []; offsets = []; starts = []; ends = []; counts = []; times = []; rates = [] }

unfoldable pub read_a : List ℕ → Answer Tables
read_a s = read_kernel s (pos 77) tables_a.lists

pub refusals_given :
    Given
    (read_a (text_with 0 "KPL/CK")
    ∷ read_a (text_with 3 "SCLK_DATA_TYPE_77=2")
    ∷ read_a (text_with 5 "SCLK01_N_FIELDS_77=2.5")
    ∷ read_a (text_with 8 "SCLK01_OUTPUT_DELIM_77=6")
    ∷ read_a (text_with 9 "SCLK_PARTITION_START_77=(0 900)")
    ∷ read_a (text_with 12 "600 1E-6 9E-9)")
    ∷ read_kernel (joined short_a) (pos 77) no_room
    ∷ [])
    (numbered 18 ∷ numbered 19 ∷ numbered 20 ∷ numbered 1 ∷ placed 2 1 ∷ placed 3 1 ∷ numbered 16 ∷ [])
    kernel_refusals
unfolding editing joined kernel_refusals text_with no_room read_a
refusals_given = (refl, refl)
