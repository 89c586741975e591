-- How the form is read where a second reader could read it otherwise: lines in a data block, and the stage that they leave.
-- Data: they are well formed, and what follows them is read as before. Forbidden: the text is refused 19. The theorems of kernel_outcomes say both of whole texts.
use Rattle.std.specs.Prelude.{ℕ, ◌≡◌, refl, List, [], ◌∷◌, ◌++◌, map, replicate}
use Prim.Native.String.{String}
use Rattle.rules.specs.Examples.{bytes}
use Rattle.kernel_rules.specs.declared.Stage.{Stage}
use Rattle.kernel_rules.specs.declared.Stage.TheVariants.{Comment, Data, Opened, Numbers, Strings, Forbidden}
use Rattle.kernel_rules.specs.Lines.{trimmed}
use Rattle.kernel_rules.specs.Assignments.{after_lines}
use Rattle.kernel_rules.specs.Computing.{reading}

pub record Form : Type 0 where
  pub lines : List (List ℕ)
  pub expected : Stage

unfoldable pub form : Stage → List (List ℕ) → Form
form p ls = record { lines = ls; expected = p }

-- one line, several lines, each of one stage
unfoldable pub line : Stage → String → Form
line p l = form p (bytes l ∷ [])

unfoldable pub lines : Stage → List String → Form
lines p ls = form p (map bytes ls)

unfoldable pub each : Stage → List String → List Form
each p ls = map (line p) ls

-- the stage after these lines of data
unfoldable pub left : Form → Stage
left f = after_lines Data (map trimmed f.lines)

-- `unfolding forming` lets such a table compute
unfoldable pub forming : Type 0
unfolding reading form line lines each left
forming = Unit {0}

-- "an assignment which that form forbids": of any name, wherever it stands in the data
unfoldable pub assignments : List Form
assignments =
    line Forbidden "X = abc"
    ∷ lines Forbidden ("X = 1" ∷ "X = abc" ∷ "X = 1" ∷ [])
    ∷ lines Forbidden ("\\begintext" ∷ "\\begindata" ∷ "X = abc" ∷ [])
    ∷ lines Comment ("\\begintext" ∷ "X = abc" ∷ [])
    ∷ lines Data ("X = 1" ∷ "X = 1" ∷ "X += ( 1 @a )" ∷ "X = ('a'" ∷ "'b')" ∷ "SCLK_DATA_TYPE_7 = 3" ∷ "Y = 1E400" ∷ [])
    ∷ []

-- Name, operator and the value or `(` stand on one line, one assignment a line, nothing behind it.
unfoldable pub own_lines : List Form
own_lines =
    lines Forbidden ("X =" ∷ "1" ∷ [])
    ∷ lines Forbidden ("X" ∷ "= 1" ∷ [])
    ∷ lines Forbidden ("X =" ∷ "( 1 )" ∷ [])
    ∷ each Forbidden
    ("X = 1 2" ∷ "X = 1," ∷ "X = ( 1 ) ;" ∷ "X = ( 1 ) ," ∷ "X = ( 1 ) )" ∷ "X = 1 Y = 2" ∷ "X" ∷ "= 1" ∷ "X =" ∷ "1" ∷ "X = ( 1 ) 2" ∷ "X = 'a' 'b'" ∷ "X = 1(" ∷ [])

-- The operator needs no blanks, so a name cannot end in `+`. A name is 1 to 32 bytes, none of them blank, tab, ( ) , =
unfoldable pub operators : List Form
operators =
    each Data ("X=1" ∷ "X=(1,2)" ∷ "X+=1" ∷ "X+Y = 1" ∷ "+X += 1" ∷ "  X  +=  ( 1 )" ∷ "x'@;\\=1" ∷ [])
    ++ each Forbidden ("X+ = 1" ∷ "X++=1" ∷ "X + = 1" ∷ "+=1" ∷ "X == 1" ∷ "X =+= 1" ∷ "X Y = 1" ∷ "X,Y = 1" ∷ "(X = 1" ∷ "X) = 1" ∷ "(=1" ∷ [])
    ++ (form Data ((replicate 32 88 ++ bytes "=1") ∷ []) ∷ form Forbidden ((replicate 33 88 ++ bytes "=1") ∷ []) ∷ form Forbidden ((88 ∷ 9 ∷ bytes "Y=1") ∷ []) ∷ [])

-- A comma in parentheses is as a blank. In a list: strings only, or numbers and dates only.
unfoldable pub lists : List Form
lists =
    each Data ("X = ( 1,,2 )" ∷ "X = ( ,1 2, )" ∷ "X=(1)" ∷ "X = ('a''b','c')" ∷ "X = ( 1 @a .5 )" ∷ [])
    ++ each Forbidden ("X = ( )" ∷ "X = ()" ∷ "X = ( , )" ∷ "X = (( 1 ))" ∷ "X = ( 1 ( 2 ) )" ∷ "X = )" ∷ "X = ," ∷ "X = ( 'a' 1 )" ∷ "X = ( @a 'b' )" ∷ "X = ( 1 a )" ∷ "X = ( 1 Y = 2 )" ∷ [])
    ++ each Opened ("X = (" ∷ "X=( ,," ∷ [])
    ++ each Numbers ("X = ( 1" ∷ "X = (@," ∷ [])
    ++ each Strings ("X = ( 'a'" ∷ "X = ('=',''" ∷ [])
    ++ (lines Data ("X = (" ∷ "" ∷ "," ∷ "1" ∷ "  " ∷ "2" ∷ ")" ∷ [])
    ∷ lines Data ("X = ( 'a'" ∷ "'b' )" ∷ "Y = ( 1" ∷ "@b )" ∷ [])
    ∷ lines Forbidden ("X = (" ∷ ")" ∷ [])
    ∷ lines Forbidden ("X = ( 1" ∷ "'a' )" ∷ [])
    ∷ lines Forbidden ("X = ( 'a'" ∷ "1 )" ∷ [])
    ∷ lines Forbidden ("X = ( 1" ∷ ") Y = 2" ∷ [])
    ∷ lines Forbidden ("X = ( 1" ∷ "Y = 2" ∷ [])
    ∷ [])

-- No list is open at a \begintext line. A \begindata line in data does nothing, also in a list. Any line may stand between two blocks.
unfoldable pub blocks : List Form
blocks =
    lines Forbidden ("X = (" ∷ "\\begintext" ∷ [])
    ∷ lines Forbidden ("X = ( 1" ∷ "\\begintext" ∷ "\\begindata" ∷ ")" ∷ [])
    ∷ lines Forbidden ("X = ( 'a'" ∷ "\\begintext" ∷ [])
    ∷ lines Data ("\\begindata" ∷ "X = 1" ∷ "\\begindata" ∷ [])
    ∷ lines Data ("X = (" ∷ "\\begindata" ∷ "1" ∷ "\\begindata" ∷ ")" ∷ "Y = ( 'a'" ∷ "\\begindata" ∷ ")" ∷ [])
    ∷ lines Comment ("\\begintext" ∷ "\\begintext" ∷ "X = (" ∷ [])
    ∷ lines Data ("\\begintext" ∷ "X = (" ∷ "\\begindata" ∷ [])
    ∷ []

-- A marker is a whole line, in lower case, with any blanks and tabs around it. A string may hold one.
unfoldable pub markers : List Form
markers =
    each Forbidden ("\\begintext x" ∷ "\\BEGINTEXT" ∷ "\\begindata x" ∷ "\\BEGINDATA" ∷ "begintext" ∷ "\\begintex" ∷ "\\begin text" ∷ [])
    ++ each Comment ("\\begintext" ∷ "  \\begintext  " ∷ [])
    ++ each Data ("X = '= ( , \\begintext'" ∷ "X = ( '\\begintext' )" ∷ [])
    ++ (lines Comment ("\\begintext" ∷ "\\begindata x" ∷ "\\BEGINDATA" ∷ "x \\begindata" ∷ [])
    ∷ form Comment ((9 ∷ 32 ∷ bytes "\\begintext" ++ (32 ∷ 9 ∷ [])) ∷ [])
    ∷ form Comment ((bytes "\\begintext" ++ (32 ∷ 13 ∷ 32 ∷ [])) ∷ [])
    ∷ form Forbidden ((bytes "\\begintext" ++ (13 ∷ 13 ∷ [])) ∷ [])
    ∷ form Comment ((replicate 133 32 ++ bytes "\\begintext") ∷ [])
    ∷ [])

-- Bytes 32 to 126 and the tab in data, also in strings, at most 132 of them; any in comments. What is dropped at a line's end is not counted.
unfoldable pub data_bytes : List Form
data_bytes =
    map (λ b. form Forbidden ((bytes "X = @" ++ (b ∷ [])) ∷ [])) (0 ∷ 31 ∷ 127 ∷ 128 ∷ 255 ∷ [])
    ++ map (λ b. form Data ((bytes "X = @" ++ (b ∷ [])) ∷ [])) (9 ∷ 13 ∷ 32 ∷ 33 ∷ 126 ∷ [])
    ++ map (λ b. form Forbidden ((bytes "X = 'a" ++ (b ∷ bytes "'")) ∷ [])) (0 ∷ 13 ∷ 127 ∷ 200 ∷ [])
    ++ map (λ b. form Forbidden (bytes "X = (" ∷ (b ∷ []) ∷ bytes "1)" ∷ [])) (0 ∷ 127 ∷ [])
    ++ (form Comment (bytes "\\begintext" ∷ (0 ∷ 13 ∷ 127 ∷ 255 ∷ bytes " = (") ∷ replicate 133 88 ∷ [])
    ∷ form Forbidden ((bytes "X = 1" ++ (13 ∷ 13 ∷ [])) ∷ [])
    ∷ form Data ((9 ∷ bytes "X" ++ (9 ∷ bytes "=" ++ (9 ∷ bytes "'" ++ (9 ∷ bytes "'" ++ (9 ∷ []))))) ∷ [])
    ∷ form Data ((bytes "X = 1" ++ replicate 126 32 ++ (9 ∷ [])) ∷ [])
    ∷ form Forbidden ((bytes "X = 1" ++ replicate 127 32 ++ (9 ∷ [])) ∷ [])
    ∷ form Data ((bytes "X = 1" ++ replicate 150 32 ++ (13 ∷ 32 ∷ [])) ∷ [])
    ∷ form Data ((9 ∷ 32 ∷ 9 ∷ []) ∷ (13 ∷ []) ∷ [] ∷ [])
    ∷ form Forbidden ((replicate 132 32 ++ (9 ∷ [])) ∷ [])
    ∷ [])

-- "a date may have any text after `@`", up to a blank, tab, comma or parenthesis. A string is closed on its line; at most 80 characters, `''` is one.
unfoldable pub dates_and_strings : List Form
dates_and_strings =
    each Data ("X = @" ∷ "X = @a'b=c" ∷ "X = ( @1,@2 3 )" ∷ "X = (@a)" ∷ "X = ''" ∷ "X = 'it''s'" ∷ "X = ('a','b' 'c')" ∷ "X = ''''" ∷ [])
    ++ each Forbidden
    ("X = @a b" ∷ "X = @a(b)" ∷ "X = @a,b" ∷ "X = a@" ∷ "X = '" ∷ "X = 'a" ∷ "X = '''" ∷ "X = 'a'b" ∷ "X = 'a'@" ∷ "X = ('a'(" ∷ "X = a'b'" ∷ "X = \"a\"" ∷ [])
    ++ (lines Forbidden ("X = ( 'a" ∷ "b' )" ∷ [])
    ∷ form Data ((bytes "X = '" ++ replicate 80 32 ++ bytes "'") ∷ [])
    ∷ form Forbidden ((bytes "X = '" ++ replicate 81 32 ++ bytes "'") ∷ [])
    ∷ form Data ((bytes "X = '''" ++ replicate 79 32 ++ bytes "'") ∷ [])
    ∷ form Forbidden ((bytes "X = '''" ++ replicate 80 32 ++ bytes "'") ∷ [])
    ∷ [])

-- A number: a digit before or after the point, one after a letter, and nothing behind.
unfoldable pub numbers : List Form
numbers =
    each Data ("X = 1" ∷ "X = +1" ∷ "X = -1." ∷ "X = .5" ∷ "X = -.5" ∷ "X = 1.5E3" ∷ "X = 1.e+3" ∷ "X = .1D-03" ∷ "X = 1d3" ∷ "X = 007" ∷ [])
    ++ each Forbidden
    ("X = ." ∷ "X = +" ∷ "X = -.E1" ∷ "X = E1" ∷ "X = 1E" ∷ "X = 1E+" ∷ "X = 1.2.3" ∷ "X = 1E5.5" ∷ "X = 1 E5" ∷ "X = +-1" ∷ "X = 1F3" ∷ "X = 0x1" ∷ "X = 1E5D3" ∷ "X = 1-" ∷ "X = 1E 5" ∷ [])

unfoldable pub forms : List Form
forms = assignments ++ own_lines ++ operators ++ lists ++ blocks ++ markers ++ data_bytes ++ dates_and_strings ++ numbers

pub forms_hold : map left forms ≡ map (λ f. f.expected) forms
unfolding forming assignments own_lines operators lists blocks markers data_bytes dates_and_strings numbers forms
forms_hold = refl
