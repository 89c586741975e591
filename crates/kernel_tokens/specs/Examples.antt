-- Lines of a list by computation: their tokens, and what the line leaves of a list that has just been opened.
use Rattle.std.specs.Prelude.{ℕ, ◌≡◌, refl, List, [], ◌∷◌, map}
use Prim.Native.String.{String}
use Rattle.rules.specs.Examples.{bytes}
use Rattle.kernel_rules.specs.declared.Stage.{Stage}
use Rattle.kernel_rules.specs.declared.Stage.TheVariants.{Data, Opened, Numbers, Strings, Forbidden}
use Rattle.kernel_rules.specs.Tokens.{tokens_of, items}
use Rattle.kernel_rules.specs.Computing.{reading}

pub record Case : Type 0 where
  pub text : String
  pub tokens : List String
  pub leaves : Stage

unfoldable pub case : String → List String → Stage → Case
case l ts p = record { text = l; tokens = ts; leaves = p }

-- what the definitions say of a line
pub record Read : Type 0 where
  pub tokens : List (List ℕ)
  pub leaves : Stage

unfoldable pub read : String → Read
read l = record { tokens = tokens_of (bytes l); leaves = items Opened (tokens_of (bytes l)) }

unfoldable pub expected : Case → Read
expected c = record { tokens = map bytes c.tokens; leaves = c.leaves }

unfoldable pub cases : List Case
cases =
    -- blanks, tabs and commas between values
    case "" [] Opened
    ∷ case " \t " [] Opened
    ∷ case "1 2" ("1" ∷ "2" ∷ []) Numbers
    ∷ case "1\t-2.5E+3 " ("1" ∷ "-2.5E+3" ∷ []) Numbers
    ∷ case "1,,2" ("1" ∷ "," ∷ "," ∷ "2" ∷ []) Numbers
    ∷ case ",1 2," ("," ∷ "1" ∷ "2" ∷ "," ∷ []) Numbers
    ∷ case " , " ("," ∷ []) Opened
    -- the closing parenthesis: at least one value before it, nothing behind it
    ∷ case "1)" ("1" ∷ ")" ∷ []) Data
    ∷ case "1 2 ) " ("1" ∷ "2" ∷ ")" ∷ []) Data
    ∷ case ",1,)" ("," ∷ "1" ∷ "," ∷ ")" ∷ []) Data
    ∷ case ")" (")" ∷ []) Forbidden
    ∷ case ",)" ("," ∷ ")" ∷ []) Forbidden
    ∷ case "1 ) ;" ("1" ∷ ")" ∷ ";" ∷ []) Forbidden
    ∷ case "1 ) ," ("1" ∷ ")" ∷ "," ∷ []) Forbidden
    ∷ case "1 ) )" ("1" ∷ ")" ∷ ")" ∷ []) Forbidden
    -- one that opens within a list
    ∷ case "( 1 ))" ("(" ∷ "1" ∷ ")" ∷ ")" ∷ []) Forbidden
    ∷ case "1(2)" ("1" ∷ "(" ∷ "2" ∷ ")" ∷ []) Forbidden
    -- what is no number
    ∷ case "abc" ("abc" ∷ []) Forbidden
    ∷ case "1'2'" ("1'2'" ∷ []) Forbidden
    ∷ case "1 2E )" ("1" ∷ "2E" ∷ ")" ∷ []) Forbidden
    -- a date has any text up to a blank, tab, comma or parenthesis
    ∷ case "@" ("@" ∷ []) Numbers
    ∷ case "@2026-11-16/12:00 1" ("@2026-11-16/12:00" ∷ "1" ∷ []) Numbers
    ∷ case "@a'b=c)" ("@a'b=c" ∷ ")" ∷ []) Data
    ∷ case "@a,@b\t@c" ("@a" ∷ "," ∷ "@b" ∷ "@c" ∷ []) Numbers
    ∷ case "@a b" ("@a" ∷ "b" ∷ []) Forbidden
    ∷ case "@a(b)" ("@a" ∷ "(" ∷ "b" ∷ ")" ∷ []) Forbidden
    -- a string may hold what ends other values; doubled quotes are one quote
    ∷ case "'a b'" ("'a b'" ∷ []) Strings
    ∷ case "'=(,)\\begintext' 'x')" ("'=(,)\\begintext'" ∷ "'x'" ∷ ")" ∷ []) Data
    ∷ case "''" ("''" ∷ []) Strings
    ∷ case "''''" ("''''" ∷ []) Strings
    ∷ case "'it''s','a'''" ("'it''s'" ∷ "," ∷ "'a'''" ∷ []) Strings
    -- unclosed, or not closed where the value ends
    ∷ case "'" ("'" ∷ []) Forbidden
    ∷ case "'a b )" ("'a b )" ∷ []) Forbidden
    ∷ case "'a''" ("'a''" ∷ []) Forbidden
    ∷ case "'''" ("'''" ∷ []) Forbidden
    ∷ case "'a'b c" ("'a'b" ∷ "c" ∷ []) Forbidden
    ∷ case "'a'b'c d" ("'a'b'c" ∷ "d" ∷ []) Forbidden
    -- strings only, or numbers and dates only
    ∷ case "'a' 1" ("'a'" ∷ "1" ∷ []) Forbidden
    ∷ case "1 'a'" ("1" ∷ "'a'" ∷ []) Forbidden
    ∷ case "@ 'a'" ("@" ∷ "'a'" ∷ []) Forbidden
    -- 80 characters and 81; a doubled quote is one of them
    ∷ case
    "'12345678901234567890123456789012345678901234567890123456789012345678901234567890'"
    ("'12345678901234567890123456789012345678901234567890123456789012345678901234567890'" ∷ [])
    Strings
    ∷ case
    "'123456789012345678901234567890123456789012345678901234567890123456789012345678901'"
    ("'123456789012345678901234567890123456789012345678901234567890123456789012345678901'" ∷ [])
    Forbidden
    ∷ case
    "'''''345678901234567890123456789012345678901234567890123456789012345678901234567890'"
    ("'''''345678901234567890123456789012345678901234567890123456789012345678901234567890'" ∷ [])
    Strings
    ∷ case
    "'''''3456789012345678901234567890123456789012345678901234567890123456789012345678901'"
    ("'''''3456789012345678901234567890123456789012345678901234567890123456789012345678901'" ∷ [])
    Forbidden
    ∷ []

pub cases_hold : map (λ c. read c.text) cases ≡ map expected cases
unfolding reading case cases read expected
cases_hold = refl
