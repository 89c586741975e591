-- The pass over bytes is a pass over the fields of rules' specs/Text.antt.
use Prim.Native.Nat.{ℕ, ◌+◌, ◌-◌, ◌*◌, min}
use mathlib.Core.Path.{◌≡◌, refl, sym, ap, ◌∙◌}
use mathlib.Core.Bool.{Bool, true, false, cond}
use mathlib.Core.List.{List, [], ◌∷◌, ◌++◌, append_assoc, append-nil}
use lib.Dec.{ltb}
use lib.ListN.{length}
use Rattle.base.proofs.Tests.{by_test}
use Rattle.rules.specs.Text.{
  Symbol,
  mark,
  digit,
  Before,
  edge,
  number,
  gap,
  Digit,
  digit_at,
  Field,
  first_digit,
  is_digit,
  is_mark,
  is_present,
  digit_after,
  symbols_at,
  after_blank,
  after,
  symbols_from,
  with_digit,
  between,
  fields_from,
  value_from,
  value_of,
}
use Rattle.fields.specs.declared.Fault.{Fault}
use Rattle.fields.specs.declared.Fault.TheVariants as Faults
use Rattle.fields.specs.declared.Pass.{Pass}
use Rattle.fields.specs.Pass as pass
use Rattle.fields.specs.Pass.{field_cap, sum_with, fault_with, found_with, ticks_in, fault_in, surplus_in, begun, digit_in, with_blank, fresh, next, step}
use Rattle.fields.proofs.Steps.{cond_yes, cond_no, after-gap, no_gap}
use Rattle.fields.proofs.Caps.{cap_mul_add}

abbrev pub pass_of : ℕ → Bool → Bool → ℕ → ℕ → ℕ → Fault → ℕ → Pass
pass_of k p g a v sum fault found = record { field = k; first = a; value = v; sum = sum; found = found; present = p; gap = g; fault = fault }

-- the flags of the pass, by what stands before the next byte
present_in : Before → Bool
present_in edge = false
present_in number = true
present_in gap = true

gap_in : Before → Bool
gap_in edge = false
gap_in number = false
gap_in gap = true

-- the pass at the field f, of the number k
abbrev pub filled : ℕ → ℕ → Fault → ℕ → Field → Pass
filled k sum fault found f = pass_of k (is_present f) false (first_digit f) (min (value_of f) field_cap) sum fault found

-- blanks at the end do not matter
abbrev pub ended : Pass → Pass
ended p = pass_of p.field p.present false p.first p.value p.sum p.fault p.found

-- one more digit
value_append : (v : ℕ) (ds : Field) (d : Digit) → value_from v (ds ++ (d ∷ [])) ≡ value_from v ds * 10 + d.value
unfolding value_from
value_append v [] d = refl
value_append v (x ∷ ds) d = value_append (v * 10 + x.value) ds d

value_more : (ds : Field) (d : Digit) (v : ℕ) → v ≡ min (value_of ds) field_cap → min (v * 10 + d.value) field_cap ≡ min (value_of (ds ++ (d ∷ []))) field_cap
unfolding value_of
value_more ds d v e = rw (e, cap_mul_add, value_append)

present_more : (ds : Field) (d : Digit) → is_present (ds ++ (d ∷ [])) ≡ true
present_more [] d = refl
present_more (x ∷ ds) d = refl

first_more : (ds : Field) (d : Digit) → cond (is_present ds) (first_digit ds) d.place ≡ first_digit (ds ++ (d ∷ []))
first_more [] d = refl
first_more (x ∷ ds) d = refl

-- the symbols that the byte b at the place i ends
module _ (w : Before) (i b : ℕ) (s : List ℕ) where
  symbols_digit : is_digit b ≡ true → symbols_from w i (b ∷ s) ≡ digit_after w (digit_at i b) ++ symbols_from number (i + 1) s
  unfolding symbols_from symbols_at after
  symbols_digit d = rw d

  module _ (d : is_digit b ≡ false) where
    symbols_mark : is_mark b ≡ true → symbols_from w i (b ∷ s) ≡ (mark ∷ symbols_from edge (i + 1) s)
    unfolding symbols_from symbols_at after
    symbols_mark m = rw (d, m)

    symbols_blank : is_mark b ≡ false → symbols_from w i (b ∷ s) ≡ symbols_from (after_blank w) (i + 1) s
    unfolding symbols_from symbols_at after
    symbols_blank m = rw (d, m)

between_some : (s : List Symbol) → (f : Field) × (fs : List Field) × (between s ≡ (f ∷ fs))
unfolding between with_digit
between_some [] = ([], [], refl)
between_some (mark ∷ s) = ([], between s, refl)
between_some (digit d ∷ s) = let r = between_some s in (d ∷ r.0, r.1, rw r.2)

module _ (ms os : List ℕ) (end : ℕ) where
  module _ (p : Pass) (i b : ℕ) where
    step_digit : is_digit b ≡ true → step ms os end p i b ≡ pass.with_digit ms os end p i (b - 48)
    unfolding step
    step_digit d = cond_yes _ _ d

    module _ (d : is_digit b ≡ false) where
      step_mark : is_mark b ≡ true → step ms os end p i b ≡ next ms os end p
      unfolding step
      step_mark m = cond_no _ _ d ∙ cond_yes _ _ m

      step_blank : is_mark b ≡ false → step ms os end p i b ≡ with_blank p
      unfolding step
      step_blank m = cond_no _ _ d ∙ cond_no _ _ m

  -- over bytes that begin at the place i
  unfoldable pub run : Pass → ℕ → List ℕ → Pass
  run p i [] = p
  run p i (b ∷ s) = run (step ms os end p i b) (i + 1) s

  -- over the field f, of the number k, and the fields after it
  unfoldable pub over : ℕ → ℕ → Fault → ℕ → Field → List Field → Pass
  over k sum fault found f [] = filled k sum fault found f
  over k sum fault found f (g ∷ fs) =
      let p = next ms os end (filled k sum fault found f) in
      over p.field p.sum p.fault p.found g fs

  -- over fields the first of which begins with the digits ds
  from : ℕ → ℕ → Fault → ℕ → Field → List Field → Pass
  from k sum fault found ds [] = over k sum fault found ds []
  from k sum fault found ds (f ∷ fs) = over k sum fault found (ds ++ f) fs

  next_shape : (p : Pass) → next ms os end p ≡ fresh (next ms os end p).field (next ms os end p).sum (next ms os end p).fault (next ms os end p).found
  unfolding next
  next_shape p = shape (ltb p.field (length ms)) _ _ (shape (ltb (p.field + 1) (length ms)) _ _ refl refl) refl
    where
      shape : (t : Bool) (a b : Pass) → a ≡ fresh a.field a.sum a.fault a.found → b ≡ fresh b.field b.sum b.fault b.found → cond t a b ≡ fresh (cond t a b).field (cond t a b).sum (cond t a b).fault (cond t a b).found
      shape true a b e f = e
      shape false a b e f = f

  -- what the pass gives for the bytes s, after the digits ds of the field k
  abbrev Read : List ℕ → Type 0
  Read s =
      (w : Before) (i k a v sum : ℕ) (fault : Fault) (found : ℕ) (ds : Field) →
      present_in w ≡ is_present ds →
      a ≡ first_digit ds →
      v ≡ min (value_of ds) field_cap →
      ended (run (pass_of k (present_in w) (gap_in w) a v sum fault found) i s) ≡ from k sum fault found ds (between (symbols_from w i s))

  -- a mark closes the field
  next_is : (g : Bool) (p : Bool) (k a v sum : ℕ) (fault : Fault) (found : ℕ) (ds : Field) → p ≡ is_present ds → a ≡ first_digit ds → v ≡ min (value_of ds) field_cap → next ms os end (pass_of k p g a v sum fault found) ≡ next ms os end (filled k sum fault found ds)
  unfolding next sum_with fault_with found_with ticks_in fault_in surplus_in
  next_is g p k a v sum fault found ds e c f = rw (e, c, f)

  closes : (k sum : ℕ) (fault : Fault) (found : ℕ) (ds : Field) (fs : List Field) → from k sum fault found ds ([] ∷ fs) ≡ over k sum fault found ds fs
  unfolding from
  closes k sum fault found ds fs = rw append-nil

  reads_end : Read []
  unfolding run symbols_from between from over
  reads_end w i k a v sum fault found ds e c f = rw (append-nil, e, c, f)

  from_digit : (k sum : ℕ) (fault : Fault) (found : ℕ) (ds : Field) (d : Digit) (fs : List Field) → from k sum fault found ds (with_digit d fs) ≡ from k sum fault found (ds ++ (d ∷ [])) fs
  unfolding from with_digit
  from_digit k sum fault found ds d [] = refl
  from_digit k sum fault found ds d (f ∷ fs) = rw append_assoc

  module _ (k sum : ℕ) (fault : Fault) (found : ℕ) (ds : Field) where
    abbrev then : Pass
    then = next ms os end (filled k sum fault found ds)

    new_value : (d : Digit) → min (then.value * 10 + d.value) field_cap ≡ min (value_of (d ∷ [])) field_cap
    unfolding value_of value_from
    new_value d = ap (λ (q : Pass). min (q.value * 10 + d.value) field_cap) (next_shape (filled k sum fault found ds))

    new_first : (i : ℕ) → cond then.present then.first i ≡ i
    new_first i = ap (λ (q : Pass). cond q.present q.first i) (next_shape (filled k sum fault found ds))

    over_digit : (d : Digit) (fs : List Field) → over k sum fault found ds (with_digit d fs) ≡ from then.field then.sum then.fault then.found (d ∷ []) fs
    unfolding from with_digit over
    over_digit d [] = refl
    over_digit d (f ∷ fs) = refl

    over_mark : (f : Field) (fs : List Field) → over k sum fault found ds (f ∷ fs) ≡ from then.field then.sum then.fault then.found [] (f ∷ fs)
    unfolding from over
    over_mark f fs = refl

  module _ (s : List ℕ) (ih : Read s) (i b : ℕ) where
    -- the pass after b, and the symbols that b ends
    goes : (p q : Pass) (k sum : ℕ) (fault : Fault) (found : ℕ) (ds : Field) (w : Before) (x : List Symbol) (r : Pass) →
        step ms os end p i b ≡ q →
        symbols_from w i (b ∷ s) ≡ x →
        ended (run q (i + 1) s) ≡ r →
        r ≡ from k sum fault found ds (between x) →
        ended (run p i (b ∷ s)) ≡ from k sum fault found ds (between (symbols_from w i (b ∷ s)))
    unfolding run
    goes p q k sum fault found ds w x r e f g h = ap (λ (a : Pass). ended (run a (i + 1) s)) e ∙ g ∙ h ∙ ap (λ (a : List Symbol). from k sum fault found ds (between a)) (sym f)

    -- what is to be shown of b and s
    abbrev Reads : Before → Type 0
    Reads w =
        (k a v sum : ℕ) (fault : Fault) (found : ℕ) (ds : Field) →
        present_in w ≡ is_present ds →
        a ≡ first_digit ds →
        v ≡ min (value_of ds) field_cap →
        ended (run (pass_of k (present_in w) (gap_in w) a v sum fault found) i (b ∷ s)) ≡ from k sum fault found ds (between (symbols_from w i (b ∷ s)))

    module _ (t : is_digit b ≡ true) where
      abbrev d : Digit
      d = digit_at i b

      same_field : (w : Before) → gap_in w ≡ false → digit_after w d ≡ (digit d ∷ []) → Reads w
      unfolding between present_in gap_in
      same_field w g x k a v sum fault found ds e c f =
          let p = pass_of k (present_in w) (gap_in w) a v sum fault found in
          goes p (digit_in p i (b - 48)) k sum fault found ds w (digit d ∷ symbols_from number (i + 1) s) _
          (step_digit p i b t ∙ sym (no_gap ms os end p i (b - 48) g))
          (symbols_digit w i b s t ∙ ap (λ (z : List Symbol). z ++ symbols_from number (i + 1) s) x)
          (ih number (i + 1) k _ _ sum fault found (ds ++ (d ∷ [])) (sym (present_more ds d)) (rw (e, c) (first_more ds d)) (value_more ds d v f))
          (sym (from_digit k sum fault found ds d (between (symbols_from number (i + 1) s))))

      digit_reads : (w : Before) → Reads w
      unfolding digit_after present_in gap_in between
      digit_reads edge k a v sum fault found ds e c f = same_field edge refl refl k a v sum fault found ds e c f
      digit_reads number k a v sum fault found ds e c f = same_field number refl refl k a v sum fault found ds e c f
      digit_reads gap k a v sum fault found ds e c f =
          let p = pass_of k true true a v sum fault found in
          goes p (digit_in (then k sum fault found ds) i (b - 48)) k sum fault found ds gap (mark ∷ digit d ∷ symbols_from number (i + 1) s) _
          (step_digit p i b t ∙ sym (after-gap ms os end p (then k sum fault found ds) i (b - 48) refl (sym (next_is true true k a v sum fault found ds e c f))))
          (symbols_digit gap i b s t)
          (ih number (i + 1) _ _ _ _ _ _ (d ∷ []) refl (new_first k sum fault found ds i) (new_value k sum fault found ds d))
          (sym (closes k sum fault found ds _ ∙ over_digit k sum fault found ds d (between (symbols_from number (i + 1) s))))

    module _ (n : is_digit b ≡ false) where
      mark_reads : is_mark b ≡ true → (w : Before) → Reads w
      unfolding present_in gap_in between value_of value_from
      mark_reads m w k a v sum fault found ds e c f =
          let r = between_some (symbols_from edge (i + 1) s) in
          let q = then k sum fault found ds in
          goes (pass_of k (present_in w) (gap_in w) a v sum fault found) (fresh q.field q.sum q.fault q.found) k sum fault found ds w (mark ∷ symbols_from edge (i + 1) s) _
          (step_mark _ i b n m ∙ next_is (gap_in w) (present_in w) k a v sum fault found ds e c f ∙ next_shape (filled k sum fault found ds))
          (symbols_mark w i b s n m)
          (ih edge (i + 1) q.field 0 0 q.sum q.fault q.found [] refl refl refl)
          (rw r.2 (sym (closes k sum fault found ds _ ∙ over_mark k sum fault found ds r.0 r.1)))

      blank_reads : is_mark b ≡ false → (w : Before) → Reads w
      unfolding present_in gap_in after_blank
      blank_reads m edge k a v sum fault found ds e c f =
          goes (pass_of k false false a v sum fault found) (pass_of k false false a v sum fault found) k sum fault found ds edge (symbols_from edge (i + 1) s) _ (step_blank _ i b n m) (symbols_blank edge i b s n m) (ih edge (i + 1) k a v sum fault found ds e c f) refl
      blank_reads m number k a v sum fault found ds e c f =
          goes (pass_of k true false a v sum fault found) (pass_of k true true a v sum fault found) k sum fault found ds number (symbols_from gap (i + 1) s) _ (step_blank _ i b n m) (symbols_blank number i b s n m) (ih gap (i + 1) k a v sum fault found ds e c f) refl
      blank_reads m gap k a v sum fault found ds e c f =
          goes (pass_of k true true a v sum fault found) (pass_of k true true a v sum fault found) k sum fault found ds gap (symbols_from gap (i + 1) s) _ (step_blank _ i b n m) (symbols_blank gap i b s n m) (ih gap (i + 1) k a v sum fault found ds e c f) refl

  reads_all : (s : List ℕ) → Read s
  reads_all [] w i = reads_end w i
  reads_all (b ∷ s) w i =
      by_test (is_digit b)
      (λ t. digit_reads s (reads_all s) i b t w)
      (λ n. by_test (is_mark b) (λ m. mark_reads s (reads_all s) i b n m w) (λ m. blank_reads s (reads_all s) i b n m w))

  -- the fields of a text that begins at the place i, as a first one and the rest
  pub record Split (i : ℕ) (s : List ℕ) : Type 0 where
    pub first : Field
    pub rest : List Field
    pub fields : fields_from i s ≡ (first ∷ rest)
    pub passed : ended (run begun i s) ≡ over 0 0 Faults.None 0 first rest

  pub split : (i : ℕ) (s : List ℕ) → Split i s
  unfolding fields_from present_in gap_in from value_of value_from
  split i s =
      let r = between_some (symbols_from edge i s) in
      record { first = r.0; rest = r.1; fields = r.2; passed = reads_all s edge i 0 0 0 0 Faults.None 0 [] refl refl refl ∙ ap (from 0 0 Faults.None 0 []) r.2 }
