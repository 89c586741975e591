-- What stands on a data line: commas, parentheses, and values as they are written. And what each does to a list.
use Rattle.std.specs.Prelude.{ℕ, zero, suc, ◌+◌, ◌-◌, Bool, true, false, not, ◌&&◌, ◌||◌, cond, List, [], ◌∷◌, ◌++◌, eqb, leb, length, take, drop, get_or}
use Rattle.kernel_rules.specs.declared.Quoted.{Quoted}
use Rattle.kernel_rules.specs.declared.Stage.{Stage}
use Rattle.kernel_rules.specs.declared.Stage.TheVariants.{Comment, Data, Opened, Numbers, Strings, Forbidden}
use Rattle.kernel_rules.specs.Lines.{is_gap, span}
use Rattle.kernel_rules.specs.Numbers.{is_number}

abbrev pub is_comma : ℕ → Bool
is_comma b = eqb b 44

abbrev pub is_open : ℕ → Bool
is_open b = eqb b 40

abbrev pub is_close : ℕ → Bool
is_close b = eqb b 41

abbrev pub is_quote : ℕ → Bool
is_quote b = eqb b 39

-- a date begins with `@`
abbrev pub is_at : ℕ → Bool
is_at b = eqb b 64

-- a value "ends before a blank, tab, comma, parenthesis or the line's end"
abbrev pub ends_value : ℕ → Bool
ends_value b = is_gap b || is_comma b || is_open b || is_close b

abbrev pub in_value : ℕ → Bool
in_value b = not (ends_value b)

-- A string: `'` bytes `'`, and `''` inside is one quote.
-- quote: one stands directly before, which closes the string unless another follows. w bytes and c characters came before.
abbrev pub quoted_at : ℕ → ℕ → Bool → Quoted
quoted_at w c e = record { width = w; chars = c; closed = e }

unfoldable pub quoted : ℕ → ℕ → Bool → List ℕ → Quoted
quoted w c quote [] = quoted_at w c quote
quoted w c quote (b ∷ s) =
    cond (quote && not (is_quote b)) (quoted_at w c true)
    (quoted (w + 1) (c + cond (not quote && is_quote b) 0 1) (not quote && is_quote b) s)

-- what follows the opening quote: up to the closing one, and on to a value's end
unfoldable pub string_width : List ℕ → ℕ
string_width s = (quoted 0 0 false s).width + span in_value (drop (quoted 0 0 false s).width s)

-- the width of the gap byte, comma, parenthesis or value at the front
unfoldable pub width_at : List ℕ → ℕ
width_at [] = 0
width_at (b ∷ s) = cond (ends_value b) 1 (cond (is_quote b) (string_width s + 1) (span in_value s + 1))

-- the token at the front, none in a gap
unfoldable pub token_at : List ℕ → List (List ℕ)
token_at s = cond (is_gap (get_or s 0 0)) [] (take (width_at s) s ∷ [])

-- k: how many bytes of the token before are left to pass
unfoldable pub tokens_from : ℕ → List ℕ → List (List ℕ)
tokens_from k [] = []
tokens_from (suc k) (b ∷ s) = tokens_from k s
tokens_from zero (b ∷ s) = token_at (b ∷ s) ++ tokens_from (width_at (b ∷ s) - 1) s

abbrev pub tokens_of : List ℕ → List (List ℕ)
tokens_of s = tokens_from 0 s

-- "at most 80 characters", and closed where the value ends
abbrev pub longest_string : ℕ
longest_string = 80

unfoldable pub closes_at_end : Quoted → List ℕ → Bool
closes_at_end q s = q.closed && leb q.chars longest_string && eqb q.width (length s)

unfoldable pub is_string : List ℕ → Bool
is_string t = closes_at_end (quoted 0 0 false (drop 1 t)) (drop 1 t)

-- a date "may have any text after `@`"
unfoldable pub is_number_or_date : List ℕ → Bool
is_number_or_date t = is_at (get_or t 0 0) || is_number t

-- In a list: "strings only, or numbers and dates only". Outside one nothing stands.
unfoldable pub with_number : Stage → Bool → Stage
with_number Opened good = cond good Numbers Forbidden
with_number Numbers good = cond good Numbers Forbidden
with_number Strings good = Forbidden
with_number Comment good = Forbidden
with_number Data good = Forbidden
with_number Forbidden good = Forbidden

unfoldable pub with_string : Stage → Bool → Stage
with_string Opened good = cond good Strings Forbidden
with_string Strings good = cond good Strings Forbidden
with_string Numbers good = Forbidden
with_string Comment good = Forbidden
with_string Data good = Forbidden
with_string Forbidden good = Forbidden

-- a comma is as a blank
unfoldable pub with_comma : Stage → Stage
with_comma Opened = Opened
with_comma Numbers = Numbers
with_comma Strings = Strings
with_comma Comment = Forbidden
with_comma Data = Forbidden
with_comma Forbidden = Forbidden

-- "one VALUE or more"
unfoldable pub with_close : Stage → Stage
with_close Numbers = Data
with_close Strings = Data
with_close Opened = Forbidden
with_close Comment = Forbidden
with_close Data = Forbidden
with_close Forbidden = Forbidden

-- one token more, by its first byte b
unfoldable pub item_by : Stage → ℕ → List ℕ → Stage
item_by p b t =
    cond (is_comma b) (with_comma p)
    (cond (is_open b) Forbidden
    (cond (is_close b) (with_close p)
    (cond (is_quote b) (with_string p (is_string t)) (with_number p (is_number_or_date t)))))

unfoldable pub item : Stage → List ℕ → Stage
item p t = item_by p (get_or t 0 0) t

unfoldable pub items : Stage → List (List ℕ) → Stage
items p [] = p
items p (t ∷ ts) = items (item p t) ts
