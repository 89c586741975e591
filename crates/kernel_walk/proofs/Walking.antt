-- The walk over the values of a list, by places in the text.
--     values_skip, skip_stops      what stands between values is passed
--     values_close, values_value, values_line, values_none     what then stands there
use Prim.Native.Nat.{ℕ, ◌+◌, ◌-◌, ◌≤◌, ◌<◌, min}
use mathlib.Core.Path.{◌≡◌, refl, sym, ap, ◌∙◌}
use mathlib.Core.Bool.{Bool, true, false, not, cond, true≢false}
use mathlib.Core.List.{List, [], ◌∷◌, ◌++◌}
use lib.Dec.{eqb}
use lib.ListN.{length, take, drop, get_or, length-take, length-drop, drop_of_length-le}
use lib.Seq.{get_or-drop}
use native.Mathlib.Omega.{arith}
use borrow.Author.Tests.{eq-eqb, ne_eqb, not-true, not-false}
use Rattle.lines.specs.Steps.{line_in, taken_in}
use Rattle.kernel_rules.specs.Lines.{is_gap, part, span, after_gap, kernel_lines, begin_data, is_marker}
use Rattle.kernel_rules.specs.Tokens.{width_at, tokens_from, tokens_of}
use Rattle.kernel_rules.specs.Assignments.{is_plus, equals_at, value_at, until_close, tokens_of_lines, values_in, values_of}
use Rattle.kernel_lines.specs.declared.Line.{Line}
use Rattle.kernel_lines.specs.Places.{line_at}
use Rattle.kernel_lines.proofs.Trimming.{kept_within}
use Rattle.kernel_lines.proofs.Places.{lines_here, lines_none}
use Rattle.kernel_walk.specs.declared.Value.{Value}
use Rattle.kernel_walk.specs.Places.{is_between, line_here, values_here, values_from, values_with, Within}
use Rattle.kernel_walk.proofs.Parts.{part_length, part_drop, part_take, part_none, part_get_d, part_next, span_stops}
use Rattle.kernel_walk.proofs.Fronts.{skip_values, front_close, front_value, own_open, own_value}

-- a place and the line's end, between which the values' tokens stand; `next` begins the lines after it
module _ (text : List ℕ) (at end next : ℕ) where
  pub values_skip : (r : ℕ) → r ≡ at + span is_between (part text at end) → values_from text at end next ≡ values_from text r end next
  unfolding values_from
  values_skip r e =
      skip_values (part text at end) (tokens_of_lines (kernel_lines (drop next text)))
      ∙ rw (part_drop text at end (span is_between (part text at end)), ← e)

  pub skip_stops : (r : ℕ) → r ≡ at + span is_between (part text at end) → r < end → end ≤ length text → is_between (get_or text r 0) ≡ false
  skip_stops r e h k =
      ap (λ (b : ℕ). is_between b) (ap (λ (i : ℕ). get_or text i 0) e ∙ sym (part_get_d text at end (span is_between (part text at end)) (omega arith)))
      ∙ span_stops is_between (part text at end) (omega (arith, part_length text at end k))

  pub values_close : at < end → end ≤ length text → get_or text at 0 ≡ 41 → values_from text at end next ≡ []
  unfolding values_from
  values_close h k e = rw (part_next text at end h k) (front_close (get_or text at 0) _ _ (eq-eqb _ _ e))

  pub values_value :
      (w : ℕ)
      → at < end
      → end ≤ length text
      → is_between (get_or text at 0) ≡ false
      → (get_or text at 0 ≡ 41 → ⊥)
      → w ≡ width_at (part text at end)
      → at + w ≤ end
      → values_from text at end next ≡ part text at (at + w) ∷ values_from text (at + w) end next
  unfolding values_from
  values_value w h k f g e l =
      first (part text at end) (part_next text at end h k)
      ∙ rw (← e, part_take text at end w l, part_drop text at end w)
    where
      more : List (List ℕ)
      more = tokens_of_lines (kernel_lines (drop next text))

      first :
          (s : List ℕ)
          → s ≡ get_or text at 0 ∷ part text (at + 1) end
          → until_close (tokens_of s ++ more) ≡ take (width_at s) s ∷ until_close (tokens_of (drop (width_at s) s) ++ more)
      first s q = rw q (front_value (get_or text at 0) (part text (at + 1) end) more f (ne_eqb _ _ g))

  pub values_none : end ≤ at → length text ≤ next → values_from text at end next ≡ []
  unfolding values_from tokens_of_lines tokens_from until_close
  values_none h k = rw (part_none text at end h, lines_none text next k)

  pub values_line :
      (l : Line) (m : Bool) (start : ℕ)
      → end ≤ at
      → next < length text
      → l ≡ line_at text next
      → m ≡ is_marker begin_data (part text next l.end)
      → start ≡ cond m l.end next
      → values_from text at end next ≡ values_from text start l.end l.next
  unfolding values_from tokens_of_lines tokens_from
  values_line l m start h k e em es =
      rw (part_none text at end h, lines_here text next l e k, ← em, es)
      (ap (λ (ts : List (List ℕ)). until_close (ts ++ tokens_of_lines (kernel_lines (drop l.next text)))) (by_marker m))
    where
      by_marker : (m : Bool) → cond m [] (tokens_of (part text next l.end)) ≡ tokens_of (part text (cond m l.end next) l.end)
      by_marker true = rw (part_none text l.end l.end (omega arith))
      by_marker false = refl

-- a byte, as it is tested
module _ (b : ℕ) (g : Bool) (e : g ≡ is_gap b) where
  pub between_gap : g ≡ true → true ≡ is_between b
  between_gap t = rw (← e, t)

  pub between_comma : g ≡ false → eqb b 44 ≡ is_between b
  between_comma f = rw (← e, f)

-- the loop over what stands between values
module _ (text : List ℕ) (end i R : ℕ) (e : R ≡ i + span is_between (part text i end)) where
  module _ (t : Bool) (h : i < end) (k : end ≤ length text) (p : t ≡ is_between (get_or text i 0)) where
    pub between_turn : not t ≡ false → R ≡ i + 1 + span is_between (part text (i + 1) end)
    unfolding span
    between_turn f = e ∙ rw (part_next text i end h k, ← p, not-false t f) (omega arith)

    pub between_stop : not t ≡ true → i ≡ R
    unfolding span
    between_stop f = sym (e ∙ rw (part_next text i end h k, ← p, not-true t f) (omega arith))

  pub between_end : end ≤ i → i ≡ R
  unfolding span
  between_end h = sym (e ∙ rw (part_none text i end h) (omega arith))

-- where the tokens of a line begin
module _ (text : List ℕ) (start end : ℕ) (m : Bool) (e : m ≡ is_marker begin_data (part text start end)) where
  pub start_marker : m ≡ true → end ≡ cond (is_marker begin_data (part text start end)) end start
  start_marker t = rw (← e, t)

  pub start_line : m ≡ false → start ≡ cond (is_marker begin_data (part text start end)) end start
  start_line f = rw (← e, f)

-- no value, at a place
abbrev pub no_value : ℕ → Value
no_value e = record { found = false; from = e; to = e; end = e; next = e }

abbrev pub a_value : ℕ → ℕ → ℕ → ℕ → Value
a_value from to end next = record { found = true; from = from; to = to; end = end; next = next }

pub none_within : (text : List ℕ) (at e : ℕ) (v : Value) → v ≡ no_value e → at ≤ e → e ≤ length text → Within text at v
none_within text at e v q h k =
    rw q (record { behind = h; some = λ t. absurd (true≢false (sym t)); ends = omega arith; line = omega arith; onward = omega arith; text_end = k })

pub none_with : (text : List ℕ) (e : ℕ) (v : Value) → v ≡ no_value e → values_with text v ≡ []
unfolding values_with
none_with text e v q = rw q

pub within_later : (text : List ℕ) (at from : ℕ) (v : Value) → at ≤ from → Within text from v → Within text at v
within_later text at from v h w =
    record { behind = omega (arith, w.behind); some = w.some; ends = w.ends; line = w.line; onward = w.onward; text_end = w.text_end }

-- a token stays on its line
width_fits : (text : List ℕ) (from w end : ℕ) → from ≤ end → 0 + w ≤ length (part text from end) → from + w ≤ end
width_fits text from w end h k = omega (arith, length-take (end - from) (drop from text))

pub one_within :
    (text : List ℕ) (from w end next : ℕ)
    → from < end
    → 1 ≤ w
    → 0 + w ≤ length (part text from end)
    → end ≤ next
    → next ≤ length text
    → Within text from (a_value from (from + w) end next)
one_within text from w end next f h k l m =
    record { behind = omega arith; some = λ t. omega arith; ends = omega arith; line = width_fits text from w end (omega arith) k; onward = l; text_end = m }

-- what stands at a place, as the code tells it
module _ (text : List ℕ) (from end next : ℕ) (h : from < end) (k : end ≤ next) (l : next ≤ length text) where
  pub here_close : (v : Value) → get_or text from 0 ≡ 41 → v ≡ no_value end → values_with text v ≡ values_from text from end next
  here_close v e q = none_with text end v q ∙ sym (values_close text from end next h (omega arith) e)

  pub here_value :
      (w : ℕ)
      → is_between (get_or text from 0) ≡ false
      → (get_or text from 0 ≡ 41 → ⊥)
      → w ≡ width_at (part text from end)
      → 0 + w ≤ length (part text from end)
      → values_with text (a_value from (from + w) end next) ≡ values_from text from end next
  unfolding values_with
  here_value w f g e m = sym (values_value text from end next w h (omega arith) f g e (width_fits text from w end (omega arith) m))

-- a line ends before the next begins
pub end_next : (text : List ℕ) (at : ℕ) (l : Line) → l ≡ line_at text at → l.end ≤ l.next
unfolding line_at taken_in
end_next text at l e = rw e (omega (arith, kept_within (line_in (drop at text))))

-- The loop over lines: from a place on, the walk goes on to the first byte of a token.
pub record Walk (text : List ℕ) (at end next from stop more : ℕ) : Type 0 where
  pub behind : at ≤ from
  pub line : from ≤ stop
  pub onward : stop ≤ more
  pub text_end : more ≤ length text
  pub same : values_from text at end next ≡ values_from text from stop more
  pub stops : from < stop → is_between (get_or text from 0) ≡ false

module _ (text : List ℕ) (at end next : ℕ) where
  pub walk_start :
      (from : ℕ)
      → from ≡ at + span is_between (part text at end)
      → at ≤ from
      → from ≤ end
      → end ≤ next
      → next ≤ length text
      → Walk text at end next from end next
  walk_start from e h k l m =
      record {
        behind = h;
        line = k;
        onward = l;
        text_end = m;
        same = values_skip text at end next from e;
        stops = λ f. skip_stops text at end next from e f (omega arith);
      }

  module _ (from stop more : ℕ) (w : Walk text at end next from stop more) where
    pub walk_turn :
        (l : Line) (start go : ℕ)
        → stop ≤ from
        → more < length text
        → l ≡ line_at text more
        → more ≤ l.end
        → l.next ≤ length text
        → start ≡ cond (is_marker begin_data (part text more l.end)) l.end more
        → more ≤ start
        → go ≡ start + span is_between (part text start l.end)
        → start ≤ go
        → go ≤ l.end
        → Walk text at end next go l.end l.next
    walk_turn l start go f g e i j es x eg y z =
        record {
          behind = omega (arith, w.behind, w.line, w.onward);
          line = z;
          onward = end_next text more l e;
          text_end = j;
          same =
              w.same
              ∙ values_line text from stop more l (is_marker begin_data (part text more l.end)) start f g e refl es
              ∙ values_skip text start l.end l.next go eg;
          stops = λ h. skip_stops text start l.end l.next go eg h (omega (arith, end_next text more l e));
        }

    pub walk_none : (v : Value) → stop ≤ from → length text ≤ more → v ≡ no_value stop → values_with text v ≡ values_from text at end next
    walk_none v f g q = none_with text stop v q ∙ sym (w.same ∙ values_none text from stop more f g)

    pub walk_found : (v : Value) → values_with text v ≡ values_from text from stop more → values_with text v ≡ values_from text at end next
    walk_found v e = e ∙ sym w.same

-- What an assignment is given, from the place of its first byte on.
module _ (text : List ℕ) (from end next : ℕ) (h : from < end) (k : end ≤ next) (l : next ≤ length text) where
  abbrev pub Given : Value → Type 0
  Given v = values_with text v ≡ values_in (tokens_of (part text from end)) (tokens_of_lines (kernel_lines (drop next text)))

  pub given_list : (v : Value) → get_or text from 0 ≡ 40 → values_with text v ≡ values_from text (from + 1) end next → Given v
  unfolding values_from
  given_list v e q = q ∙ rw (part_next text from end h (omega arith)) (sym (own_open (get_or text from 0) _ _ (eq-eqb _ _ e)))

  pub given_one :
      (w : ℕ)
      → is_gap (get_or text from 0) ≡ false
      → (get_or text from 0 ≡ 40 → ⊥)
      → w ≡ width_at (part text from end)
      → 0 + w ≤ length (part text from end)
      → Given (a_value from (from + w) (from + w) (length text))
  unfolding values_with
  given_one w f g e m =
      rw (values_none text (from + w) (from + w) (length text) (omega arith) (omega arith))
      (sym (first (part text from end) (part_next text from end h (omega arith)) ∙ rw (← e, part_take text from end w (width_fits text from w end (omega arith) m))))
    where
      more : List (List ℕ)
      more = tokens_of_lines (kernel_lines (drop next text))

      first : (s : List ℕ) → s ≡ get_or text from 0 ∷ part text (from + 1) end → values_in (tokens_of s) more ≡ take (width_at s) s ∷ []
      first s q = rw q (own_value (get_or text from 0) (part text (from + 1) end) more f (ne_eqb _ _ g))

-- after a gap stands no gap
gap_stops : (l : List ℕ) (i : ℕ) → after_gap l i < length l → is_gap (get_or l (after_gap l i) 0) ≡ false
unfolding after_gap
gap_stops l i h = rw (← get_or-drop i l (span is_gap (drop i l)) 0) (span_stops is_gap (drop i l) (omega (arith, length-drop i l)))

-- The line at a place as the line of an assignment, with its value's place i.
module _ (text : List ℕ) (at : ℕ) (l : Line) (e : l ≡ line_at text at) (i : ℕ) (k : l.end ≤ length text) where
  pub own_gap : at ≤ l.end → i ≡ min (value_at (part text at l.end)) (length (part text at l.end)) → i < l.end - at → is_gap (get_or text (at + i) 0) ≡ false
  unfolding value_at
  own_gap h v m =
      ap (λ (b : ℕ). is_gap b) (sym (part_get_d text at l.end i (omega arith)))
      ∙ rw same (gap_stops (part text at l.end) (equals_at (part text at l.end) + 1) (rw (← same, part_length text at l.end k) m))
    where
      same : i ≡ value_at (part text at l.end)
      same = omega (arith, part_length text at l.end k)

  module _ (d : drop i (part text at l.end) ≡ drop (value_at (part text at l.end)) (part text at l.end)) where
    pub own_nothing : (r : Value) → l.end - at ≤ i → r ≡ no_value l.end → values_with text r ≡ values_here text at
    unfolding values_of values_in tokens_from
    own_nothing r h q =
        none_with text l.end r q
        ∙ rw (← e, ← d, drop_of_length-le (part text at l.end) {i = i} (rw (part_length text at l.end k) h))

    pub own_given :
        (r : Value)
        → values_with text r ≡ values_in (tokens_of (part text (at + i) l.end)) (tokens_of_lines (kernel_lines (drop l.next text)))
        → values_with text r ≡ values_here text at
    unfolding values_of
    own_given r q = q ∙ rw (← e, ← d, part_drop text at l.end i)

pub plain_is : (text : List ℕ) (at : ℕ) (l : Line) (p : Bool) → l ≡ line_at text at → p ≡ is_plus (part text at l.end) → not p ≡ not (is_plus (line_here text at))
plain_is text at l p e q = rw (q, e)

-- the value that was found and those after it; or none
module _ (text : List ℕ) (v : Value) where
  pub with_found : v.found ≡ true → values_with text v ≡ part text v.from v.to ∷ values_from text v.to v.end v.next
  unfolding values_with
  with_found f = rw f

  pub with_none : v.found ≡ false → values_with text v ≡ []
  unfolding values_with
  with_none f = rw f
