-- A front part as the code scans it: where it stops, which byte is then at fault, and that its number is the value kept.
use Prim.Native.Nat.{ℕ, zero, suc, ◌+◌, ◌-◌, ◌≤◌, ◌<◌, min, zero-le}
use mathlib.Core.Path.{◌≡◌, refl, sym, ap, ◌∙◌}
use mathlib.Core.Bool.{Bool, true, false, cond}
use mathlib.Core.List.{List, [], ◌∷◌}
use mathlib.Core.Option.{some}
use lib.Dec.{ltb, eqb}
use lib.ListN.{length, get_or, take, drop}
use borrow.Author.Tests.{eqb-true}
use native.Mathlib.Nat.{add-zero, zero-add}
use native.Mathlib.Omega.{arith}
use Rattle.base.proofs.Tests.{by_test, not_both, or_only_first}
use Rattle.rules.specs.Answer.{fails_at}
use Rattle.rules.specs.Text.{Field, Before, edge, number, gap, is_digit, is_blank, is_allowed, not_allowed_from, after, after_blank, fields_from}
use Rattle.rules.specs.Stamp.{stands_in_front, has_number, front_fault_from, front_fault, first_value}
use Rattle.fields.specs.declared.Fault.{Fault}
use Rattle.fields.specs.declared.Fault.TheVariants as Faults
use Rattle.fields.specs.declared.Pass.{Pass}
use Rattle.fields.specs.declared.Scanned.{Scanned}
use Rattle.fields.specs.Pass.{field_cap, begun, before, digit_in, with_blank, next, step, front_step, front_scan_from}
use Rattle.fields.proofs.Steps.{cond_yes, no_gap}
use Rattle.fields.proofs.Over.{filled, run, over, split}

-- what can stand in a front part is a blank, or a digit that is not after a gap
blank_or_digit : (w : Before) (b : ℕ) → stands_in_front w b ≡ true → is_digit b ≡ false → b ≡ 32
unfolding stands_in_front
blank_or_digit edge b h n = eqb-true b 32 (or_only_first (is_blank b) (is_digit b) h n)
blank_or_digit number b h n = eqb-true b 32 (or_only_first (is_blank b) (is_digit b) h n)
blank_or_digit gap b h n = eqb-true b 32 h

no_digit_after_gap : (b : ℕ) → stands_in_front gap b ≡ true → is_digit b ≡ true → ⊥
unfolding stands_in_front
no_digit_after_gap b h d = not_both (rw (eqb-true b 32 h) at d) refl

-- a gap is one after a digit
abbrev Sound : Pass → Type 0
Sound p = p.gap ≡ true → p.present ≡ true

-- one byte that stands
module _ (p : Pass) (good : Sound p) (i b : ℕ) (h : stands_in_front (before p) b ≡ true) where
  gapless : is_digit b ≡ true → p.gap ≡ false
  unfolding before
  gapless d = by_test p.gap (λ g. absurd (no_digit_after_gap b (rw g at h) d)) (λ n. n)

  same_step : (ms os : List ℕ) (end : ℕ) → step ms os end p i b ≡ front_step p i b
  unfolding step front_step
  same_step ms os end =
      by_test (is_digit b)
      (λ d. cond_yes _ _ d ∙ sym (no_gap ms os end p i (b - 48) (gapless d)) ∙ sym (cond_yes _ _ d))
      (λ n. let e = blank_or_digit (before p) b h n in rw e)

  sound_step : Sound (front_step p i b)
  unfolding front_step
  sound_step = either (is_digit b)
    where
      either : (t : Bool) → Sound (cond t (digit_in p i (b - 48)) (with_blank p))
      either true g = refl
      either false g = g

  before_step : before (front_step p i b) ≡ after (before p) b
  unfolding front_step after after_blank before
  before_step =
      by_test (is_digit b)
      (λ d. rw d)
      (λ n. let e = blank_or_digit (before p) b h n in rw e (blank p.gap p.present good))
    where
      blank : (g t : Bool) → (g ≡ true → t ≡ true) → cond t gap (cond t number edge) ≡ after_blank (cond g gap (cond t number edge))
      blank true true f = refl
      blank true false f = absurd (not_both (f refl) refl)
      blank false true f = refl
      blank false false f = refl

  is_allowed_lem : is_allowed b ≡ true
  is_allowed_lem =
      by_test (is_digit b)
      (λ d. rw d)
      (λ n. let e = blank_or_digit (before p) b h n in rw e)

  no_slash_here : eqb b 47 ≡ false
  no_slash_here = by_test (eqb b 47) (λ t. absurd (not_both (rw (eqb-true b 47 t) at is_allowed_lem) refl)) (λ f. f)

has_number_lem : (p : Pass) → Sound p → has_number (before p) ≡ p.present
unfolding before
has_number_lem p good = either p.gap p.present good
  where
    either : (g t : Bool) → (g ≡ true → t ≡ true) → has_number (cond g gap (cond t number edge)) ≡ t
    either true t f = sym (f refl)
    either false true f = refl
    either false false f = refl

module _ (ms os : List ℕ) (end : ℕ) where
  -- the scan of a front part t from the place i on stops j bytes later
  record Front (p : Pass) (i : ℕ) (t : List ℕ) (j : ℕ) : Type 0 where
    pub place : (front_scan_from p i t).at ≡ i + j
    pub within : j ≤ length t
    pub field : (front_scan_from p i t).pass.field ≡ p.field
    -- the bytes before are passed as any others, and none is a `/`
    pub passed : (front_scan_from p i t).pass ≡ run ms os end p i (take j t)
    pub onward : run ms os end p i t ≡ run ms os end (front_scan_from p i t).pass (i + j) (drop j t)
    pub allowed : not_allowed_from i t ≡ not_allowed_from (i + j) (drop j t)
    pub no_slash : (k : ℕ) → k < j → eqb (get_or t k 0) 47 ≡ false
    -- a front part that ends there, or further on
    pub here : front_fault_from (before p) i (take j t) ≡ fails_at (i + j) (front_scan_from p i t).pass.present
    pub further : (k : ℕ) → j < k → k ≤ length t → front_fault_from (before p) i (take k t) ≡ some (i + j)

  module _ (b : ℕ) (t : List ℕ) (p : Pass) (i : ℕ) (good : Sound p) where
    -- a byte that stands, and one that does not
    goes : stands_in_front (before p) b ≡ true → (j : ℕ) → Front (front_step p i b) (i + 1) t j → Front p i (b ∷ t) (suc j)
    unfolding front_scan_from run not_allowed_from front_fault_from
    goes y j w =
        let up : i + 1 + j ≡ i + suc j = omega arith in
        let same = same_step p good i b y ms os end in
        let then = before_step p good i b y in
        record {
          place = rw y (w.place ∙ up);
          within = omega (arith, w.within);
          field = rw y (w.field ∙ step_field);
          passed = rw y (w.passed ∙ ap (λ (q : Pass). run ms os end q (i + 1) (take j t)) (sym same));
          onward = rw y (ap (λ (q : Pass). run ms os end q (i + 1) t) same ∙ w.onward ∙ ap (λ k. run ms os end (front_scan_from (front_step p i b) (i + 1) t).pass k (drop j t)) up);
          allowed = rw (is_allowed_lem p good i b y) (w.allowed ∙ rw up);
          no_slash = slashes;
          here = rw (y, ← then) (w.here ∙ rw up);
          further = later;
        }
      where
        step_field : (front_step p i b).field ≡ p.field
        step_field = unfold front_step in either (is_digit b)
          where
            either : (d : Bool) → (cond d (digit_in p i (b - 48)) (with_blank p)).field ≡ p.field
            either true = refl
            either false = refl

        slashes : (k : ℕ) → k < suc j → eqb (get_or (b ∷ t) k 0) 47 ≡ false
        slashes zero l = no_slash_here p good i b y
        slashes (suc k) l = w.no_slash k (omega arith)

        later : (k : ℕ) → suc j < k → k ≤ length (b ∷ t) → front_fault_from (before p) i (take k (b ∷ t)) ≡ some (i + suc j)
        later zero l c = absurd (omega arith)
        later (suc k) l c =
            let up : i + 1 + j ≡ i + suc j = omega arith in
            rw (y, ← before_step p good i b y) (w.further k (omega arith) (omega arith) ∙ rw up)

    stays : stands_in_front (before p) b ≡ false → Front p i (b ∷ t) 0
    unfolding front_scan_from run not_allowed_from front_fault_from
    stays n =
        record {
          place = rw n (sym (add-zero i));
          within = zero-le;
          field = rw n;
          passed = rw n;
          onward = rw (n, add-zero);
          allowed = rw add-zero;
          no_slash = λ k l. absurd (omega arith);
          here = rw (n, has_number_lem p good, add-zero);
          further = later;
        }
      where
        later : (k : ℕ) → 0 < k → k ≤ length (b ∷ t) → front_fault_from (before p) i (take k (b ∷ t)) ≡ some (i + 0)
        later zero l c = absurd (omega arith)
        later (suc k) l c = rw (n, add-zero)

  fronts : (t : List ℕ) (p : Pass) (i : ℕ) → Sound p → (j : ℕ) × Front p i t j
  unfolding front_scan_from run not_allowed_from front_fault_from
  fronts [] p i good = (
    0,
    record {
      place = sym (add-zero i);
      within = zero-le;
      field = refl;
      passed = refl;
      onward = refl;
      allowed = refl;
      no_slash = λ k l. absurd (omega arith);
      here = rw (has_number_lem p good, add-zero);
      further = λ k l c. absurd (omega arith);
    },
  )
  fronts (b ∷ t) p i good =
      by_test (stands_in_front (before p) b)
      (λ y. let r = fronts t (front_step p i b) (i + 1) (sound_step p good i b y) in (suc r.0, goes b t p i good y r.0 r.1))
      (λ n. (0, stays b t p i good n))

  -- the scan w from a text's start on
  pub record Scan (s : List ℕ) (w : Scanned) : Type 0 where
    pub within : w.at ≤ length s
    pub field : w.pass.field ≡ 0
    pub passed : w.pass ≡ run ms os end begun 0 (take w.at s)
    pub onward : run ms os end begun 0 s ≡ run ms os end w.pass w.at (drop w.at s)
    pub allowed : not_allowed_from 0 s ≡ not_allowed_from w.at (drop w.at s)
    pub no_slash : (k : ℕ) → k < w.at → eqb (get_or s k 0) 47 ≡ false
    pub here : front_fault (take w.at s) ≡ fails_at w.at w.pass.present
    pub further : (k : ℕ) → w.at < k → k ≤ length s → front_fault (take k s) ≡ some w.at

  pub scan_of : (s : List ℕ) (w : Scanned) → w ≡ front_scan_from begun 0 s → Scan s w
  unfolding before
  scan_of s w e =
      let r = fronts s begun 0 (λ g. absurd (not_both g refl)) in
      let a = r.1 in
      let at : w.at ≡ r.0 = omega (arith, a.place, ap (λ (x : Scanned). x.at) e) in
      let pass : w.pass ≡ (front_scan_from begun 0 s).pass = ap (λ (x : Scanned). x.pass) e in
      record {
        within = rw at a.within;
        field = rw pass a.field;
        passed = rw (at, pass) a.passed;
        onward = rw (at, pass) (rw zero-add at a.onward);
        allowed = rw at (rw zero-add at a.allowed);
        no_slash = rw at a.no_slash;
        here = rw (at, pass) (rw zero-add at a.here);
        further = rw at (rw zero-add at a.further);
      }

  -- a field after the first is not the first
  module _ (some_fields : 1 ≤ length ms) where
    next_later : (p : Pass) → 1 ≤ (next ms os end p).field
    unfolding next
    next_later p = either (ltb p.field (length ms)) _ _ (either (ltb (p.field + 1) (length ms)) _ _ (omega arith) some_fields) some_fields
      where
        either : (t : Bool) (a b : Pass) → 1 ≤ a.field → 1 ≤ b.field → 1 ≤ (cond t a b).field
        either true a b x y = x
        either false a b x y = y

    stays_later : (fs : List Field) (k sum : ℕ) (fault : Fault) (found : ℕ) (f : Field) → 1 ≤ k → 1 ≤ (over ms os end k sum fault found f fs).field
    unfolding over
    stays_later [] k sum fault found f h = h
    stays_later (g ∷ fs) k sum fault found f h = let q = next ms os end (filled k sum fault found f) in stays_later fs q.field q.sum q.fault q.found g (next_later (filled k sum fault found f))

    value : (f : Field) (fs : List Field) → (over ms os end 0 0 Faults.None 0 f fs).field ≡ 0 → (over ms os end 0 0 Faults.None 0 f fs).value ≡ min (first_value (f ∷ fs)) field_cap
    unfolding over
    value f [] h = refl
    value f (g ∷ fs) h =
        let q = next ms os end (filled 0 0 Faults.None 0 f) in
        absurd (omega (arith, h, stays_later fs q.field q.sum q.fault q.found g (next_later (filled 0 0 Faults.None 0 f))))

    pub front_value : (t : List ℕ) → (run ms os end begun 0 t).field ≡ 0 → (run ms os end begun 0 t).value ≡ min (first_value (fields_from 0 t)) field_cap
    front_value t h =
        let w = split ms os end 0 t in
        ap (λ (p : Pass). p.value) w.passed
        ∙ value w.first w.rest (ap (λ (p : Pass). p.field) (sym w.passed) ∙ h)
        ∙ ap (λ fs. min (first_value fs) field_cap) (sym w.fields)
