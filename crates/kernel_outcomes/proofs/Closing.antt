-- The values of an assignment depend on the lines up to its closing parenthesis alone.
use Prim.Native.Nat.{ℕ, zero, suc, ◌+◌, ◌-◌, ◌≤◌, ◌<◌}
use mathlib.Core.Path.{◌≡◌, refl, ◌∙◌}
use mathlib.Core.Bool.{Bool, true, false, not, ◌&&◌, ◌||◌, cond}
use mathlib.Core.List.{List, [], ◌∷◌, ◌++◌}
use lib.Dec.{eqb, ltb}
use lib.ListN.{length, drop, get_or, drop_of_length-le, length-take, length-drop}
use lib.Seq.{get_or-take, get_or-drop}
use borrow.Author.Tests.{eqb-true, ltb-true, ltb-false, not-true}
use native.Mathlib.Numerals.{add-one}
use native.Mathlib.Omega.{arith}
use Rattle.base.specs.Scans.{all}
use Rattle.base.proofs.Tests.{by_test, not_both, and_first, and_second, or_first, or_neither}
use Rattle.base.proofs.Lists.{all_get_d}
use Rattle.kernel_rules.specs.declared.Stage.{Stage}
use Rattle.kernel_rules.specs.declared.Stage.TheVariants.{Comment, Data, Opened, Numbers, Strings, Forbidden}
use Rattle.kernel_rules.specs.Lines.{is_gap, trim_to, span, after_gap, part, same, begin_data, begin_text, is_marker, is_data_line, is_empty_line}
use Rattle.kernel_rules.specs.Tokens.{
  is_comma,
  is_open,
  is_close,
  is_quote,
  tokens_from,
  tokens_of,
  is_string,
  is_number_or_date,
  with_number,
  with_string,
  with_comma,
  item_by,
  item,
  items,
}
use Rattle.kernel_rules.specs.Assignments.{
  is_equals,
  equals_at,
  value_at,
  is_name,
  name_in,
  value_stage,
  assigned,
  begins_data,
  begins_text,
  plain_stage,
  after_line,
  after_lines,
  ends_well,
  until_close,
  tokens_of_lines,
  values_in,
  values_of,
}

-- one of the tokens is a closing parenthesis
unfoldable has_close : List (List ℕ) → Bool
has_close [] = false
has_close (t ∷ ts) = is_close (get_or t 0 0) || has_close ts

until_close_lem : (ts x y : List (List ℕ)) → has_close ts ≡ true → until_close (ts ++ x) ≡ until_close (ts ++ y)
unfolding until_close has_close
until_close_lem [] x y h = absurd (not_both h refl)
until_close_lem (t ∷ ts) x y h = by_test (is_close (get_or t 0 0)) (λ c. rw c) (λ c. rw (c, until_close_lem ts x y (rw c at h)))

close_first : (ts us : List (List ℕ)) → has_close (ts ++ us) ≡ false → has_close ts ≡ false
unfolding has_close
close_first [] us h = refl
close_first (t ∷ ts) us h =
    by_test (is_close (get_or t 0 0)) (λ c. absurd (not_both (or_first _ c) h)) (λ c. or_neither c (close_first ts us (rw c at h)))

close_second : (ts us : List (List ℕ)) → has_close (ts ++ us) ≡ false → has_close us ≡ false
unfolding has_close
close_second [] us h = h
close_second (t ∷ ts) us h =
    by_test (is_close (get_or t 0 0)) (λ c. absurd (not_both (or_first _ c) h)) (λ c. close_second ts us (rw c at h))

-- Without a closing parenthesis an open list stays open, and a forbidden line stays one.
number_open : (p : Stage) (good : Bool) → ends_well (with_number p good) ≡ false
unfolding ends_well with_number
number_open Comment good = refl
number_open Data good = refl
number_open Opened true = refl
number_open Opened false = refl
number_open Numbers true = refl
number_open Numbers false = refl
number_open Strings good = refl
number_open Forbidden good = refl

string_open : (p : Stage) (good : Bool) → ends_well (with_string p good) ≡ false
unfolding ends_well with_string
string_open Comment good = refl
string_open Data good = refl
string_open Opened true = refl
string_open Opened false = refl
string_open Numbers good = refl
string_open Strings true = refl
string_open Strings false = refl
string_open Forbidden good = refl

comma_open : (p : Stage) → ends_well (with_comma p) ≡ false
unfolding ends_well with_comma
comma_open Comment = refl
comma_open Data = refl
comma_open Opened = refl
comma_open Numbers = refl
comma_open Strings = refl
comma_open Forbidden = refl

forbidden_open : ends_well Forbidden ≡ false
unfolding ends_well
forbidden_open = refl

item_open : (p : Stage) (t : List ℕ) → is_close (get_or t 0 0) ≡ false → ends_well (item p t) ≡ false
unfolding item item_by
item_open p t c =
    by_test (is_comma (get_or t 0 0)) (λ h. rw h (comma_open p))
    (λ h.
    by_test (is_open (get_or t 0 0)) (λ o. rw (h, o) forbidden_open)
    (λ o.
    by_test (is_quote (get_or t 0 0)) (λ q. rw (h, o, c, q) (string_open p (is_string t)))
    (λ q. rw (h, o, c, q) (number_open p (is_number_or_date t)))))

items_open : (p : Stage) (ts : List (List ℕ)) → ends_well p ≡ false → has_close ts ≡ false → ends_well (items p ts) ≡ false
unfolding items has_close
items_open p [] e h = e
items_open p (t ∷ ts) e h =
    by_test (is_close (get_or t 0 0)) (λ c. absurd (not_both (or_first _ c) h))
    (λ c. items_open (item p t) ts (item_open p t c) (rw c at h))

data_open : (p : Stage) → ends_well p ≡ false → ends_well (begins_data p) ≡ false
unfolding ends_well begins_data
data_open Comment e = e
data_open Data e = e
data_open Opened e = e
data_open Numbers e = e
data_open Strings e = e
data_open Forbidden e = e

text_open : (p : Stage) → ends_well p ≡ false → ends_well (begins_text p) ≡ false
unfolding ends_well begins_text
text_open Comment e = e
text_open Data e = e
text_open Opened e = e
text_open Numbers e = e
text_open Strings e = e
text_open Forbidden e = e

-- the tokens of a line in a list
in_list_lem : (p : Stage) (l : List ℕ) → ends_well p ≡ false → has_close (tokens_of l) ≡ false → ends_well (cond (is_data_line l) (items p (tokens_of l)) Forbidden) ≡ false
unfolding ends_well
in_list_lem p l e h = by_test (is_data_line l) (λ d. rw d (items_open p (tokens_of l) e h)) (λ d. rw d)

plain_open : (p : Stage) (l : List ℕ) → ends_well p ≡ false → has_close (tokens_of l) ≡ false → ends_well (plain_stage p l) ≡ false
unfolding plain_stage ends_well
plain_open Comment l e h = absurd (not_both refl e)
plain_open Data l e h = absurd (not_both refl e)
plain_open Opened l e h = in_list_lem Opened l e h
plain_open Numbers l e h = in_list_lem Numbers l e h
plain_open Strings l e h = in_list_lem Strings l e h
plain_open Forbidden l e h = refl

line_open : (p : Stage) (l : List ℕ) → ends_well p ≡ false → has_close (cond (is_marker begin_data l) [] (tokens_of l)) ≡ false → ends_well (after_line p l) ≡ false
unfolding after_line
line_open p l e h =
    by_test (is_marker begin_data l) (λ d. rw d (data_open p e))
    (λ d. by_test (is_marker begin_text l) (λ x. rw (d, x) (text_open p e)) (λ x. rw (d, x) (plain_open p l e (rw d at h))))

lines_open : (p : Stage) (ls : List (List ℕ)) → ends_well p ≡ false → has_close (tokens_of_lines ls) ≡ false → ends_well (after_lines p ls) ≡ false
unfolding after_lines tokens_of_lines
lines_open p [] e h = e
lines_open p (l ∷ ls) e h =
    let now = cond (is_marker begin_data l) [] (tokens_of l) in
    lines_open (after_line p l) ls (line_open p l e (close_first now (tokens_of_lines ls) h)) (close_second now (tokens_of_lines ls) h)

pub lines_append : (p : Stage) (a b : List (List ℕ)) → after_lines p (a ++ b) ≡ after_lines (after_lines p a) b
unfolding after_lines
lines_append p [] b = refl
lines_append p (l ∷ a) b = lines_append (after_line p l) a b

-- a forbidden line is never mended
pub stays_forbidden : (ls : List (List ℕ)) → after_lines Forbidden ls ≡ Forbidden
unfolding after_lines after_line begins_data begins_text plain_stage
stays_forbidden [] = refl
stays_forbidden (l ∷ ls) =
    by_test (is_marker begin_data l) (λ d. rw d (stays_forbidden ls))
    (λ d. by_test (is_marker begin_text l) (λ x. rw (d, x) (stays_forbidden ls)) (λ x. rw (d, x) (stays_forbidden ls)))

never_well : (ls : List (List ℕ)) → ends_well (after_lines Forbidden ls) ≡ false
unfolding ends_well
never_well ls = rw (stays_forbidden ls)

-- where the lines end well, the list is closed in them
closed_in : (ts : List (List ℕ)) (ls : List (List ℕ)) → ends_well (after_lines (items Opened ts) ls) ≡ true → has_close (ts ++ tokens_of_lines ls) ≡ true
unfolding ends_well
closed_in ts ls h =
    by_test (has_close (ts ++ tokens_of_lines ls)) (λ c. c)
    (λ c.
    absurd
    (not_both h (lines_open (items Opened ts) ls (items_open Opened ts refl (close_first ts (tokens_of_lines ls) c)) (close_second ts (tokens_of_lines ls) c))))

append_assoc : (s t u : List (List ℕ)) → (s ++ t) ++ u ≡ s ++ (t ++ u)
append_assoc [] t u = refl
append_assoc (a ∷ s) t u = rw (append_assoc s t u)

tokens_append : (ls x : List (List ℕ)) → tokens_of_lines (ls ++ x) ≡ tokens_of_lines ls ++ tokens_of_lines x
unfolding tokens_of_lines
tokens_append [] x = refl
tokens_append (l ∷ ls) x = rw (tokens_append ls x, append_assoc (cond (is_marker begin_data l) [] (tokens_of l)) (tokens_of_lines ls) (tokens_of_lines x))

open_values : (ts ls x y : List (List ℕ)) → ends_well (after_lines (items Opened ts) ls) ≡ true
    → until_close (ts ++ tokens_of_lines (ls ++ x)) ≡ until_close (ts ++ tokens_of_lines (ls ++ y))
open_values ts ls x y h =
    rw (tokens_append ls x, tokens_append ls y, ← (append_assoc ts (tokens_of_lines ls) (tokens_of_lines x)), ← (append_assoc ts (tokens_of_lines ls) (tokens_of_lines y)))
    (until_close_lem (ts ++ tokens_of_lines ls) (tokens_of_lines x) (tokens_of_lines y) (closed_in ts ls h))

opened_items : items Opened [] ≡ Opened
unfolding items
opened_items = refl

-- by the tokens of the value on the assignment's own line
values_in_lem : (ts ls x y : List (List ℕ)) → ends_well (after_lines (value_stage ts) ls) ≡ true
    → values_in ts (tokens_of_lines (ls ++ x)) ≡ values_in ts (tokens_of_lines (ls ++ y))
unfolding values_in value_stage
values_in_lem [] ls x y h = refl
values_in_lem (t ∷ []) ls x y h =
    by_test (is_open (get_or t 0 0)) (λ o. rw o (open_values [] ls x y (rw opened_items (rw o at h)))) (λ o. rw o)
values_in_lem (t ∷ u ∷ ts) ls x y h =
    by_test (is_open (get_or t 0 0)) (λ o. rw o (open_values (u ∷ ts) ls x y (rw o at h))) (λ o. rw o)

-- a line without `=` has no values
span_all : (p : ℕ → Bool) (s : List ℕ) → ((i : ℕ) → i < length s → p (get_or s i 0) ≡ true) → span p s ≡ length s
unfolding span
span_all p [] h = refl
span_all p (b ∷ s) h = rw (h 0 (omega arith), span_all p s (λ i l. h (suc i) (omega arith)), add-one)

module _ (l : List ℕ) (h : (i : ℕ) → i < length l → is_equals (get_or l i 0) ≡ false) where
  no_equals : equals_at l ≡ length l
  unfolding equals_at
  no_equals = span_all (λ b. not (is_equals b)) l (λ i b. rw (h i b))

  past_the_end : length l ≤ value_at l
  unfolding value_at after_gap
  past_the_end = omega (arith, no_equals)

  no_values : (ls : List (List ℕ)) → values_of l ls ≡ []
  unfolding values_of tokens_from values_in
  no_values ls = rw (drop_of_length-le l past_the_end)

-- a line of blanks and tabs has none, nor has a marker
gap_no_equals : (b : ℕ) → is_gap b ≡ true → is_equals b ≡ false
gap_no_equals b h =
    by_test (eqb b 32) (λ t. rw (eqb-true b 32 t)) (λ f. let e : b ≡ 9 = eqb-true b 9 (rw f at h) in rw e)

span_at : (p : ℕ → Bool) (s : List ℕ) (i : ℕ) → i < span p s → p (get_or s i 0) ≡ true
unfolding span
span_at p [] i h = absurd (omega arith)
span_at p (b ∷ s) zero h = by_test (p b) (λ t. t) (λ f. absurd (let z : 0 < 0 = rw f at h in omega arith))
span_at p (b ∷ s) (suc i) h =
    by_test (p b) (λ t. span_at p s i (let z : suc i < span p s + 1 = rw t at h in omega arith))
    (λ f. absurd (let z : suc i < 0 = rw f at h in omega arith))

trim_at : (p : ℕ → Bool) (s : List ℕ) (n i : ℕ) → trim_to p s n ≤ i → i < n → p (get_or s i 0) ≡ true
unfolding trim_to
trim_at p s zero i h b = absurd (omega arith)
trim_at p s (suc n) i h b =
    by_test (p (get_or s n 0))
    (λ t.
    by_test (ltb i n) (λ u. trim_at p s n i (rw t at h) (ltb-true i n u))
    (λ u. let low = ltb-false i n u in let e : i ≡ n = omega arith in rw e t))
    (λ f. absurd (let z : suc n ≤ i = rw f at h in omega arith))

same_equal : (s t : List ℕ) → same s t ≡ true → s ≡ t
unfolding same
same_equal [] [] h = refl
same_equal [] (y ∷ t) h = absurd (not_both h refl)
same_equal (x ∷ s) [] h = absurd (not_both h refl)
same_equal (x ∷ s) (y ∷ t) h = rw (eqb-true x y (and_first _ _ h), same_equal s t (and_second (eqb x y) _ h))

module _ (l : List ℕ) (i low high : ℕ) where
  -- the byte i of a list, by its part from low to high
  part_at : low ≤ i → i < high → get_or (part l low high) (i - low) 0 ≡ get_or l i 0
  part_at a b =
      let e : low + (i - low) ≡ i = omega arith in
      get_or-take (high - low) (drop low l) (i - low) 0 (omega arith) ∙ get_or-drop low l (i - low) 0 ∙ rw e

  part_long : low ≤ i → i < high → i < length l → i - low < length (part l low high)
  part_long a b c = omega (arith, length-take (high - low) (drop low l), length-drop low l)

before_gap : (l : List ℕ) (i : ℕ) → i < after_gap l 0 → is_gap (get_or l i 0) ≡ true
unfolding after_gap
before_gap l i h = span_at is_gap l i (omega arith)

marker_no_equals : (m l : List ℕ) → all (λ b. not (is_equals b)) m ≡ true → is_marker m l ≡ true → (i : ℕ) → i < length l → is_equals (get_or l i 0) ≡ false
unfolding is_marker
marker_no_equals m l plain h i b =
    by_test (ltb i (after_gap l 0)) (λ t. gap_no_equals (get_or l i 0) (before_gap l i (ltb-true i _ t)))
    (λ f.
    by_test (ltb i (trim_to is_gap l (length l))) (λ t. inside (ltb-false i (after_gap l 0) f) (ltb-true i _ t))
    (λ g. gap_no_equals (get_or l i 0) (trim_at is_gap l (length l) i (ltb-false i _ g) b)))
  where
    inside : after_gap l 0 ≤ i → i < trim_to is_gap l (length l) → is_equals (get_or l i 0) ≡ false
    inside low high =
        let e = same_equal (part l (after_gap l 0) (trim_to is_gap l (length l))) m h in
        let here = part_at l i (after_gap l 0) (trim_to is_gap l (length l)) low high in
        let long = part_long l i (after_gap l 0) (trim_to is_gap l (length l)) low high b in
        not-true _ (rw here at (all_get_d (λ x. not (is_equals x)) (part l (after_gap l 0) (trim_to is_gap l (length l))) (i - after_gap l 0) (rw e plain) long))

-- an assignment's own line, where the lines after it end well
module _ (l : List ℕ) (ls x y : List (List ℕ)) where
  none_either : ((i : ℕ) → i < length l → is_equals (get_or l i 0) ≡ false) → values_of l (ls ++ x) ≡ values_of l (ls ++ y)
  none_either h = rw (no_values l h (ls ++ x), no_values l h (ls ++ y))

  assigned_values : ends_well (after_lines (assigned l) ls) ≡ true → values_of l (ls ++ x) ≡ values_of l (ls ++ y)
  unfolding assigned values_of
  assigned_values h =
      by_test (ltb (equals_at l) (length l) && is_name (name_in l)) (λ t. values_in_lem _ ls x y (rw t at h))
      (λ f. absurd (not_both (rw f at h) (never_well ls)))

  plain_values : ends_well (after_lines (plain_stage Data l) ls) ≡ true → values_of l (ls ++ x) ≡ values_of l (ls ++ y)
  unfolding plain_stage is_empty_line
  plain_values h =
      by_test (is_data_line l)
      (λ d.
      by_test (all is_gap l) (λ e. none_either (λ i b. gap_no_equals (get_or l i 0) (all_get_d is_gap l i e b)))
      (λ e. assigned_values (rw (d, e) at h)))
      (λ d. absurd (not_both (rw d at h) (never_well ls)))

  -- If the lines ls after an assignment's own end outside any list, its values do not depend on what follows them.
  pub values_closed : ends_well (after_lines (after_line Data l) ls) ≡ true → values_of l (ls ++ x) ≡ values_of l (ls ++ y)
  unfolding after_line all
  values_closed h =
      by_test (is_marker begin_data l) (λ d. none_either (marker_no_equals begin_data l refl d))
      (λ d.
      by_test (is_marker begin_text l) (λ e. none_either (marker_no_equals begin_text l refl e))
      (λ e. plain_values (rw (d, e) at h)))
