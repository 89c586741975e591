-- Lines of a kernel text by computation: the stage that each leaves, and the names that lines assign.
use Rattle.std.specs.Prelude.{ℕ, ◌≡◌, refl, List, [], ◌∷◌, ◌++◌, map, ℤ, pos, negsuc}
use Prim.Native.String.{String}
use Rattle.rules.specs.Examples.{bytes}
use Rattle.kernel_rules.specs.declared.Stage.{Stage}
use Rattle.kernel_rules.specs.declared.Stage.TheVariants.{Comment, Data, Opened, Numbers, Strings, Forbidden}
use Rattle.kernel_rules.specs.Assignments.{after_lines}
use Rattle.kernel_rules.specs.Names.{clock_digits, assigns}
use Rattle.kernel_rules.specs.Computing.{reading}

-- lines, and the stages that they begin in and leave
pub record Case : Type 0 where
  pub stage : Stage
  pub lines : List (List ℕ)
  pub leaves : Stage

unfoldable pub case : Stage → String → Stage → Case
case p l q = record { stage = p; lines = bytes l ∷ []; leaves = q }

unfoldable pub two_lines : Stage → String → String → Stage → Case
two_lines p l m q = record { stage = p; lines = bytes l ∷ bytes m ∷ []; leaves = q }

-- a line of data with one byte more behind it
unfoldable pub with_byte : String → ℕ → Stage → Case
with_byte l b q = record { stage = Data; lines = (bytes l ++ (b ∷ [])) ∷ []; leaves = q }

unfoldable pub cases : List Case
cases =
    -- one value, or a list that ends on its line or not
    case Data "X = 1" Data
    ∷ case Data " \t X \t = \t 1 \t " Data
    ∷ case Data "X = 'a b'" Data
    ∷ case Data "X = @2026-11-16" Data
    ∷ case Data "X = ( 1 2 )" Data
    ∷ case Data "X = (" Opened
    ∷ case Data "X = ( 1, @2" Numbers
    ∷ case Data "X = ( 'a'" Strings
    ∷ case Data "X = abc" Forbidden
    -- the same name twice, and any other name
    ∷ two_lines Data "X = 1" "X = 1" Data
    ∷ two_lines Data "X += 1" "any/name-at-all*[] = ('a' 'b')" Data
    -- name, operator and value on one line, with nothing behind
    ∷ two_lines Data "X =" "1" Forbidden
    ∷ case Data "X = 1 2" Forbidden
    ∷ case Data "X = 1," Forbidden
    ∷ case Data "X = 1 (" Forbidden
    ∷ case Data "X = ( 1 ) ;" Forbidden
    ∷ case Data "X = 1 Y = 2" Forbidden
    ∷ case Data "X" Forbidden
    ∷ case Data "= 1" Forbidden
    ∷ case Data "1" Forbidden
    -- the operator needs no blanks, so no name ends in `+`
    ∷ case Data "X=1" Data
    ∷ case Data "X=(1,2)" Data
    ∷ case Data "X+=1" Data
    ∷ case Data "X+ = 1" Forbidden
    ∷ case Data "X++=1" Forbidden
    ∷ case Data "X+Y = 1" Data
    ∷ case Data "+X = 1" Data
    ∷ case Data "+= 1" Forbidden
    -- what a name may not have; 32 bytes and 33
    ∷ case Data "X Y = 1" Forbidden
    ∷ case Data "X,Y = 1" Forbidden
    ∷ case Data "X(1) = 1" Forbidden
    ∷ case Data "X) = 1" Forbidden
    ∷ case Data "12345678901234567890123456789012 = 1" Data
    ∷ case Data "12345678901234567890123456789012+=1" Data
    ∷ case Data "123456789012345678901234567890123 = 1" Forbidden
    -- a comma in parentheses is as a blank
    ∷ case Data "X = ( 1,,2 )" Data
    ∷ case Data "X = ( ,1 2, )" Data
    ∷ case Data "X = ( )" Forbidden
    ∷ case Data "X = ( , )" Forbidden
    ∷ case Data "X = (( 1 ))" Forbidden
    ∷ case Data "X = )" Forbidden
    ∷ case Data "X = ," Forbidden
    -- lists over lines; an empty line and a \begindata line do nothing
    ∷ two_lines Data "X = (" ")" Forbidden
    ∷ two_lines Data "X = (" "1 )" Data
    ∷ two_lines Opened "" "'a'" Strings
    ∷ two_lines Numbers " \t" ")" Data
    ∷ case Opened "\\begindata" Opened
    ∷ case Numbers "\\begindata" Numbers
    ∷ case Strings " \\begindata\t" Strings
    ∷ case Numbers "Y = 1" Forbidden
    -- no list is open at a \begintext line
    ∷ case Opened "\\begintext" Forbidden
    ∷ case Numbers "\\begintext" Forbidden
    ∷ case Strings "\\begintext" Forbidden
    -- the markers, and lines that are none
    ∷ case Comment "\\begindata" Data
    ∷ case Comment "\t \\begindata \t" Data
    ∷ case Comment "\\begindata x" Comment
    ∷ case Comment "\\BEGINDATA" Comment
    ∷ case Comment "X = (" Comment
    ∷ case Comment "\\begintext" Comment
    ∷ case Data "\\begindata" Data
    ∷ case Data "\\begintext" Comment
    ∷ case Data " \\begintext\t" Comment
    ∷ case Data "\\begintext x" Forbidden
    ∷ case Data "\\BEGINTEXT" Forbidden
    ∷ case Data "\\begindata x" Forbidden
    ∷ case Data "X = '\\begintext'" Data
    ∷ case Data "X = '=(,'" Data
    ∷ two_lines Data "\\begintext" "X = (" Comment
    -- nothing is allowed after a line that is forbidden
    ∷ two_lines Data "X" "\\begindata" Forbidden
    ∷ two_lines Data "X" "\\begintext" Forbidden
    ∷ two_lines Data "X" "X = 1" Forbidden
    -- dates
    ∷ case Data "X = @" Data
    ∷ case Data "X = @a'b=c" Data
    ∷ case Data "X = @a b" Forbidden
    ∷ case Data "X = @a(b)" Forbidden
    -- bytes of a data line, in strings too
    ∷ case Data "" Data
    ∷ case Data " \t " Data
    ∷ with_byte "X = 1" 9 Data
    ∷ with_byte "X = @" 126 Data
    ∷ with_byte "X = 1" 0 Forbidden
    ∷ with_byte "X = 1" 13 Forbidden
    ∷ with_byte "X = @" 127 Forbidden
    ∷ with_byte "X = @" 228 Forbidden
    ∷ with_byte "" 13 Forbidden
    -- 132 bytes and 133
    ∷ case Data "X                                                                                                                              = 123" Data
    ∷ case Data "X                                                                                                                              = 1234" Forbidden
    ∷ []

pub cases_hold : map (λ c. after_lines c.stage c.lines) cases ≡ map (λ c. c.leaves) cases
unfolding reading case two_lines with_byte cases
cases_hold = refl

-- the number of the name that a line assigns to the clock; 10 for none of the ten
pub record Named : Type 0 where
  pub clock : ℤ
  pub stage : Stage
  pub line : String
  pub name : ℕ

unfoldable pub named : ℤ → Stage → String → ℕ → Named
named c p l k = record { clock = c; stage = p; line = l; name = k }

unfoldable pub lines : List Named
lines =
    named (pos 77) Data "SCLK_KERNEL_ID = ( @2026 )" 0
    ∷ named (pos 77) Data " SCLK_DATA_TYPE_77=1" 1
    ∷ named (negsuc 76) Data "SCLK_DATA_TYPE_77 = 1" 1
    ∷ named (pos 77) Data "SCLK01_TIME_SYSTEM_77 = 1" 2
    ∷ named (pos 77) Data "SCLK01_N_FIELDS_77 = 2" 3
    ∷ named (pos 77) Data "SCLK01_MODULI_77 += 2" 4
    ∷ named (pos 77) Data "SCLK01_OFFSETS_77 = ( 0" 5
    ∷ named (pos 77) Data "SCLK01_OUTPUT_DELIM_77 = 1" 6
    ∷ named (pos 77) Data "SCLK01_COEFFICIENTS_77 = (" 7
    ∷ named (pos 0) Data "SCLK_PARTITION_START_0 = 1" 8
    ∷ named (pos 77) Data "SCLK_PARTITION_END_77 = 1" 9
    -- byte for byte
    ∷ named (pos 77) Data "sclk_kernel_id = 1" 10
    ∷ named (pos 77) Data "SCLK_DATA_TYPE_077 = 1" 10
    ∷ named (pos 77) Data "SCLK_DATA_TYPE_7 = 1" 10
    ∷ named (pos 77) Data "SCLK_DATA_TYPE_777 = 1" 10
    ∷ named (pos 77) Data "SCLK_DATA_TYPE_-77 = 1" 10
    ∷ named (pos 77) Data "SCLK_KERNEL_ID_77 = 1" 10
    ∷ named (pos 77) Data "X = 1" 10
    ∷ named (pos 77) Data "" 10
    -- only in data, outside lists
    ∷ named (pos 77) Comment "SCLK_DATA_TYPE_77 = 1" 10
    ∷ named (pos 77) Opened "SCLK_DATA_TYPE_77 = 1" 10
    ∷ named (pos 77) Numbers "SCLK_DATA_TYPE_77 = 1" 10
    ∷ named (pos 77) Strings "SCLK_DATA_TYPE_77 = 1" 10
    ∷ named (pos 77) Forbidden "SCLK_DATA_TYPE_77 = 1" 10
    ∷ []

pub lines_named : map (λ n. assigns (clock_digits n.clock) n.stage (bytes n.line)) lines ≡ map (λ n. n.name) lines
unfolding reading named lines
lines_named = refl
