-- The loop over the lines: what is kept of the lines before a place has, with the lines from there on, the answer of the whole.
use Prim.Native.Nat.{ℕ, zero, suc, ◌+◌, ◌≤◌, ◌<◌}
use mathlib.Core.Path.{◌≡◌, refl, sym, ap, subst, ◌∙◌}
use mathlib.Core.Bool.{Bool, true, false, cond, and-true}
use mathlib.Core.List.{List, [], ◌∷◌, ◌++◌, append-nil}
use lib.Dec.{eqb, ltb, leb}
use lib.ListN.{length, drop, get_or, set, replicate, length-append, length-set}
use lib.Seq.{get_or-set_same, get_or-set_other}
use borrow.Author.Tests.{eq-eqb, ne_eqb, eqb-true, eqb-false, lt-ltb, le-ltb, le-leb, lt-leb}
use native.Mathlib.Omega.{arith}
use Rattle.std.specs.Prelude.{Some, None}
use Rattle.base.specs.Scans.{all_below}
use Rattle.base.proofs.Tests.{by_test, not_both, and_out_second}
use Rattle.base.proofs.Scans.{all_from, all_out}
use Rattle.kernel_rules.specs.declared.Stage.{Stage}
use Rattle.kernel_rules.specs.declared.Stage.TheVariants.{Comment}
use Rattle.kernel_rules.specs.Lines.{kernel_lines, part}
use Rattle.kernel_rules.specs.Assignments.{after_line, after_lines, ends_well}
use Rattle.kernel_rules.specs.Names.{assignment, given, assigns, names}
use Rattle.kernel_lines.specs.declared.Line.{Line}
use Rattle.kernel_lines.specs.Places.{line_at}
use Rattle.kernel_lines.proofs.Places.{lines_here, lines_none}
use Rattle.kernel_find.specs.Slots.{form_ok, assignment_at, slot_at, FoundAll}

-- a slot
slot_none : (s : List ℕ) → slot_at s 0 ≡ []
unfolding slot_at
slot_none s = refl

slot_some : (s : List ℕ) (n : ℕ) → 0 < n → slot_at s n ≡ assignment_at s n ∷ []
unfolding slot_at
slot_some s n h = rw (ne_eqb n 0 (λ x. omega arith))

slot_few : (s : List ℕ) (n : ℕ) → length (slot_at s n) ≤ 1
unfolding slot_at
slot_few s n = by_test (eqb n 0) (λ t. rw t (omega arith)) (λ f. rw f (omega arith))

slot_one : (s : List ℕ) (n : ℕ) → (n ≡ 0 → ⊥) → length (slot_at s n) ≡ 1
slot_one s n f = rw (slot_some s n (omega arith))

abbrev lines_from : List ℕ → ℕ → List (List ℕ)
lines_from s at = kernel_lines (drop at s)

-- the lines before the place `at`, of the lines from `from` on
pub record Walk (s : List ℕ) (from : ℕ) (digits slots : List ℕ) (at : ℕ) (stage : Stage) : Type 0 where
  pub reached : from ≤ at
  pub within : at ≤ length s
  pub begun : 0 < from
  pub long : length slots ≡ names + 1
  pub spare : get_or slots names 0 ≡ 0
  pub after : after_lines Comment (lines_from s from) ≡ after_lines stage (lines_from s at)
  pub so_far : (k : ℕ) → k < names → given digits k Comment (lines_from s from) ≡ slot_at s (get_or slots k 0) ++ given digits k stage (lines_from s at)
  pub before : (k : ℕ) → k < names → get_or slots k 0 < length s
  pub behind : (k : ℕ) → k < names → 0 < get_or slots k 0 → from ≤ get_or slots k 0

module _ (s : List ℕ) (from : ℕ) (digits slots : List ℕ) (at : ℕ) (stage : Stage) (w : Walk s from digits slots at stage) where
  module _ (l : List ℕ) (ls : List (List ℕ)) (e : lines_from s at ≡ l ∷ ls) (k : ℕ) (ek : k ≡ assigns digits stage l) where
    -- a line of a name that has no slot yet, or of none of the ten
    module _ (v next : ℕ) (st : Stage) (hk : k ≤ names) (z : get_or slots k 0 ≡ 0) (ev : v ≡ cond (ltb k names) at 0) (es : st ≡ after_line stage l) (here : at < length s) (a : assignment l ls ≡ assignment_at s at) (onward : at < next) (hn : next ≤ length s) (en : ls ≡ lines_from s next) where
      own : get_or (set slots k v) k 0 ≡ v
      own = get_or-set_same slots k v 0 (omega (arith, w.long))

      other : (i : ℕ) → (k ≡ i → ⊥) → get_or (set slots k v) i 0 ≡ get_or slots i 0
      other i f = get_or-set_other slots k i v 0 (λ x. f (sym x))

      filled : (i : ℕ) → i < names → k ≡ i → get_or (set slots k v) i 0 ≡ at
      filled i h x = ap (λ (j : ℕ). get_or (set slots k v) j 0) (sym x) ∙ own ∙ ev ∙ rw (lt-ltb k names (omega arith))

      -- a fact of the new slots is one of the place and of the old slots
      each : (P : ℕ → Type 0) (i : ℕ) → i < names → P at → P (get_or slots i 0) → P (get_or (set slots k v) i 0)
      each P i h p q = by_test (eqb k i) (λ t. subst P (sym (filled i h (eqb-true k i t))) p) (λ f. subst P (sym (other i (eqb-false k i f))) q)

      still_spare : get_or (set slots k v) names 0 ≡ 0
      still_spare = by_test (eqb k names) (λ t. last (eqb-true k names t)) (λ f. other names (eqb-false k names f) ∙ w.spare)
        where
          last : k ≡ names → get_or (set slots k v) names 0 ≡ 0
          last x = ap (λ (j : ℕ). get_or (set slots k v) j 0) (sym x) ∙ own ∙ ev ∙ rw (le-ltb k names (omega arith))

      empty : (i : ℕ) → k ≡ i → get_or slots i 0 ≡ 0
      empty i x = ap (λ (j : ℕ). get_or slots j 0) (sym x) ∙ z

      mine : (i : ℕ) → i < names → k ≡ i → slot_at s (get_or slots i 0) ++ ((assignment l ls ∷ []) ++ given digits i st ls) ≡ slot_at s (get_or (set slots k v) i 0) ++ given digits i st ls
      mine i h x = rw (empty i x, filled i h x, slot_none s, slot_some s at (omega (arith, w.begun, w.reached)), a)

      free_slot : Walk s from digits (set slots k v) next st
      unfolding after_lines given
      free_slot =
          record {
            reached = omega (arith, w.reached);
            within = hn;
            begun = w.begun;
            long = length-set slots k v ∙ w.long;
            spare = still_spare;
            after = w.after ∙ rw (e, ← es, en);
            so_far = λ i h. w.so_far i h ∙ rw (e, ← ek, ← es) (by_test (eqb k i) (λ t. rw (t, ← en) (mine i h (eqb-true k i t))) (λ f. rw (f, ← en, other i (eqb-false k i f))));
            before = λ i h. each (λ n. n < length s) i h here (w.before i h);
            behind = λ i h. each (λ n. 0 < n → from ≤ n) i h (λ _. w.reached) (w.behind i h);
          }

    -- a line of a name that has a slot
    taken_slot : k ≤ names → (get_or slots k 0 ≡ 0 → ⊥) → false ≡ form_ok digits (lines_from s from)
    unfolding form_ok given
    taken_slot hk f =
        sym (and_out_second (ends_well (after_lines Comment (lines_from s from))) (all_out (λ i. leb (length (given digits i Comment (lines_from s from))) 1) names k named (lt-leb (length (given digits k Comment (lines_from s from))) 1 two)))
      where
        named : k < names
        named = by_test (eqb k names) (λ t. absurd (f (ap (λ (j : ℕ). get_or slots j 0) (eqb-true k names t) ∙ w.spare))) (λ g. less (eqb-false k names g))
          where
            less : (k ≡ names → ⊥) → k < names
            less d = omega arith

        both : given digits k Comment (lines_from s from) ≡ slot_at s (get_or slots k 0) ++ (assignment l ls ∷ given digits k (after_line stage l) ls)
        both = w.so_far k named ∙ rw (e, eq-eqb (assigns digits stage l) k (sym ek))

        two : 1 < length (given digits k Comment (lines_from s from))
        two = rw both (omega (arith, length-append (slot_at s (get_or slots k 0)) (assignment l ls ∷ given digits k (after_line stage l) ls), slot_one s (get_or slots k 0) f))

  -- the line as the code finds it
  module _ (r : Line) (k : ℕ) (h : at < length s) (er : r ≡ line_at s at) (ek : k ≡ assigns digits stage (part s at r.end)) (hk : k ≤ names) where
    line_here_lem : assignment (part s at r.end) (lines_from s r.next) ≡ assignment_at s at
    unfolding assignment_at
    line_here_lem = rw er

    pub walk_turn : (v : ℕ) (st : Stage) → get_or slots k 0 ≡ 0 → v ≡ cond (ltb k names) at 0 → st ≡ after_line stage (part s at r.end) → at < r.next → r.next ≤ length s → Walk s from digits (set slots k v) r.next st
    walk_turn v st z ev es hn hl = free_slot (part s at r.end) (lines_from s r.next) (lines_here s at r er h) k ek v r.next st hk z ev es h line_here_lem hn hl refl

    pub walk_twice : (get_or slots k 0 ≡ 0 → ⊥) → FoundAll s from digits None
    walk_twice f = sym (taken_slot (part s at r.end) (lines_from s r.next) (lines_here s at r er h) k ek hk f)

  -- the text's end
  module _ (h : length s ≤ at) where
    all_given : (k : ℕ) → k < names → given digits k Comment (lines_from s from) ≡ slot_at s (get_or slots k 0)
    unfolding given
    all_given k l = w.so_far k l ∙ rw (lines_none s at h) (append-nil (slot_at s (get_or slots k 0)))

    stage_last : after_lines Comment (lines_from s from) ≡ stage
    unfolding after_lines
    stage_last = w.after ∙ rw (lines_none s at h)

    few : all_below (λ k. leb (length (given digits k Comment (lines_from s from))) 1) names ≡ true
    few = all_from (λ k. leb (length (given digits k Comment (lines_from s from))) 1) names (λ k l. le-leb (length (given digits k Comment (lines_from s from))) 1 (rw (all_given k l) (slot_few s (get_or slots k 0))))

    form_told : (g : Bool) → g ≡ ends_well stage → form_ok digits (lines_from s from) ≡ g
    unfolding form_ok
    form_told g e = sym (e ∙ rw (stage_last, few) (sym (and-true (ends_well stage))))

    pub walk_end : (g : Bool) → g ≡ ends_well stage → g ≡ true → FoundAll s from digits (Some slots)
    walk_end g e t =
        record {
          good = form_told g e ∙ t;
          assigned = λ k l. all_given k l;
          long = w.long;
          within = record { place = w.before };
          behind = w.behind;
        }

    pub walk_bad : (g : Bool) → g ≡ ends_well stage → g ≡ false → FoundAll s from digits None
    walk_bad g e t = form_told g e ∙ t

-- no line yet
abbrev zeros : ℕ → List ℕ
zeros n = replicate n 0

zeros_at : (n i : ℕ) → get_or (zeros n) i 0 ≡ 0
zeros_at zero i = refl
zeros_at (suc n) zero = refl
zeros_at (suc n) (suc i) = zeros_at n i

pub walk_start : (s : List ℕ) (from : ℕ) (digits : List ℕ) → 0 < from → from ≤ length s → Walk s from digits (zeros 11) from Comment
walk_start s from digits p h =
    record {
      reached = omega arith;
      within = h;
      begun = p;
      long = refl;
      spare = zeros_at 11 names;
      after = refl;
      so_far = λ k l. rw (zeros_at 11 k, slot_none s);
      before = λ k l. rw (zeros_at 11 k) (omega arith);
      behind = λ k l x. absurd (none k x);
    }
  where
    none : (k : ℕ) → 0 < get_or (zeros 11) k 0 → ⊥
    none k x = omega (arith, zeros_at 11 k)
