-- What follows an operator: the tokens from a place on, and the stage that they leave.
use Prim.Native.Nat.{ℕ, suc, ◌+◌, ◌≤◌, ◌<◌}
use mathlib.Core.Path.{◌≡◌, refl, sym, ap, ◌∙◌}
use mathlib.Core.Bool.{Bool, true, false, not, cond}
use mathlib.Core.List.{List, [], ◌∷◌}
use lib.ListN.{length, drop, get_or, length-drop}
use lib.Seq.{drop-drop, get_or-drop}
use borrow.Author.Tests.{eq-eqb, ne_eqb, lt-ltb, le-ltb, not-true, not-false}
use native.Mathlib.Omega.{arith}
use Rattle.base.proofs.Tests.{by_test}
use Rattle.base.proofs.Lists.{drop_next}
use Rattle.kernel_rules.specs.declared.Stage.{Stage}
use Rattle.kernel_rules.specs.declared.Stage.TheVariants.{Opened, Forbidden}
use Rattle.kernel_rules.specs.Lines.{is_gap, span, after_gap, part}
use Rattle.kernel_rules.specs.Tokens.{is_open, width_at, token_at, tokens_from, tokens_of, item, items, with_close}
use Rattle.kernel_rules.specs.Assignments.{value_stage, equals_at, is_name, value_at, assigned}
use Rattle.kernel_tokens.proofs.Tokens.{token_first, tokens_here, tokens_end}
use Rattle.kernel_heads.specs.declared.Part.{Part}
use Rattle.kernel_heads.specs.Parts.{Named}

-- no gap byte stands after a gap
gap_over : (s : List ℕ) → span is_gap s < length s → is_gap (get_or s (span is_gap s) 0) ≡ false
unfolding span
gap_over [] h = absurd (omega arith)
gap_over (b ∷ s) h = by_test (is_gap b) (λ t. rw t (rw succ (gap_over s (less t h)))) (λ f. rw (f, f))
  where
    succ : span is_gap s + 1 ≡ suc (span is_gap s)
    succ = omega arith

    less : is_gap b ≡ true → cond (is_gap b) (span is_gap s + 1) 0 < length (b ∷ s) → span is_gap s < length s
    less t g = let k : span is_gap s + 1 < length (b ∷ s) = rw t at g in omega arith

-- a gap has no tokens
gap_passed : (s : List ℕ) → tokens_of s ≡ tokens_of (drop (span is_gap s) s)
unfolding span tokens_from token_at width_at
gap_passed [] = refl
gap_passed (b ∷ s) = by_test (is_gap b) (λ t. rw (t, succ) (gap_passed s)) (λ f. ap (λ (k : ℕ). tokens_of (drop k (b ∷ s))) (sym (none f)))
  where
    succ : span is_gap s + 1 ≡ suc (span is_gap s)
    succ = omega arith

    none : is_gap b ≡ false → span is_gap (b ∷ s) ≡ 0
    none f = rw f

module _ (l : List ℕ) (i : ℕ) where
  pub tokens_gap : tokens_of (drop i l) ≡ tokens_of (drop (after_gap l i) l)
  unfolding after_gap
  tokens_gap = gap_passed (drop i l) ∙ ap tokens_of (drop-drop (span is_gap (drop i l)) i l)

  pub after-gap : (a : ℕ) → a ≡ after_gap l i → a < length l → is_gap (get_or l a 0) ≡ false
  unfolding after_gap
  after-gap a e h = rw (e, ← get_or-drop i l (span is_gap (drop i l)) 0) (gap_over (drop i l) (omega (arith, length-drop i l)))

-- a list, one value, and a value with more behind it
stage_list : (t : List ℕ) (ts : List (List ℕ)) → is_open (get_or t 0 0) ≡ true → value_stage (t ∷ ts) ≡ items Opened ts
unfolding value_stage items
stage_list t [] e = rw e
stage_list t (u ∷ ts) e = rw e

stage_one : (t : List ℕ) → is_open (get_or t 0 0) ≡ false → value_stage (t ∷ []) ≡ with_close (item Opened t)
unfolding value_stage
stage_one t f = rw f

stage_more : (t u : List ℕ) (ts : List (List ℕ)) → is_open (get_or t 0 0) ≡ false → value_stage (t ∷ u ∷ ts) ≡ Forbidden
unfolding value_stage
stage_more t u ts f = rw f

module _ (l : List ℕ) (from a : ℕ) (e : a ≡ after_gap l from) where
  from_value : tokens_of (drop from l) ≡ tokens_of (drop a l)
  from_value = tokens_gap l from ∙ rw (← e)

  pub value_none : length l ≤ a → Forbidden ≡ value_stage (tokens_of (drop from l))
  unfolding value_stage
  value_none h = rw (from_value, tokens_end l a h)

  module _ (h : a < length l) where
    open_width : get_or l a 0 ≡ 40 → 1 ≡ width_at (drop a l)
    unfolding width_at
    open_width b = rw (drop_next l a 0 h, b)

    pub value_list : (r : Stage) → get_or l a 0 ≡ 40 → r ≡ items Opened (tokens_of (drop (a + 1) l)) → r ≡ value_stage (tokens_of (drop from l))
    value_list r b x =
        x ∙ sym (ap value_stage (from_value ∙ tokens_here l a h 1 (after-gap l from a e h) (open_width b)) ∙ stage_list (part l a (a + 1)) (tokens_of (drop (a + 1) l)) (eq-eqb _ _ (token_first l a 1 (omega arith) ∙ b)))

    module _ (b : get_or l a 0 ≡ 40 → ⊥) (w : ℕ) (ew : w ≡ width_at (drop a l)) (some : 1 ≤ w) (z : ℕ) (ez : z ≡ after_gap l (a + w)) where
      here : tokens_of (drop from l) ≡ part l a (a + w) ∷ tokens_of (drop z l)
      here = from_value ∙ tokens_here l a h w (after-gap l from a e h) ew ∙ ap (λ (ts : List (List ℕ)). part l a (a + w) ∷ ts) (tokens_gap l (a + w) ∙ rw (← ez))

      closed : is_open (get_or (part l a (a + w)) 0 0) ≡ false
      closed = ne_eqb _ _ (λ x. b (sym (token_first l a w some) ∙ x))

      pub value_more : z < length l → Forbidden ≡ value_stage (tokens_of (drop from l))
      value_more k = sym (ap value_stage (here ∙ ap (λ (ts : List (List ℕ)). part l a (a + w) ∷ ts) (tokens_here l z k (width_at (drop z l)) (after-gap l (a + w) z ez k) refl)) ∙ stage_more _ _ _ closed)

      pub value_one : (t r : Stage) → length l ≤ z → t ≡ item Opened (part l a (a + w)) → r ≡ with_close t → r ≡ value_stage (tokens_of (drop from l))
      value_one t r k x y = y ∙ ap with_close x ∙ sym (ap value_stage (here ∙ rw (tokens_end l z k)) ∙ stage_one (part l a (a + w)) closed)

-- an assignment's own line
module _ (l : List ℕ) (q : ℕ) (e : q ≡ equals_at l) where
  pub assigned_none : length l ≤ q → Forbidden ≡ assigned l
  unfolding assigned
  assigned_none h = rw (← e, le-ltb q (length l) h)

  module _ (h : q < length l) (n : Part) (named : Named l n) (t : Bool) (y : t ≡ is_name (part l n.start n.end)) where
    pub assigned_unnamed : not t ≡ true → Forbidden ≡ assigned l
    unfolding assigned
    assigned_unnamed f = rw (← e, lt-ltb q (length l) h, ← named.bytes, ← y, not-true t f)

    pub assigned_value : (r : Stage) → not t ≡ false → r ≡ value_stage (tokens_of (drop (q + 1) l)) → r ≡ assigned l
    unfolding assigned value_at
    assigned_value r f x = x ∙ ap value_stage (tokens_gap l (q + 1)) ∙ rw (← e, lt-ltb q (length l) h, ← named.bytes, ← y, not-false t f)
