-- What may stand between the lines of a kernel text and change nothing: comments, empty lines, whole blocks, assignments of other names.
use Prim.Native.Nat.{ℕ, ◌<◌}
use mathlib.Core.Path.{◌≡◌, refl, sym, ◌∙◌}
use mathlib.Core.Bool.{Bool, true, false, not, ◌||◌}
use mathlib.Core.List.{List, [], ◌∷◌, ◌++◌, map}
use lib.Dec.{eqb}
use lib.ListN.{length}
use borrow.Author.Tests.{eqb-true, ne_eqb, not-true}
use native.Mathlib.Omega.{arith}
use Rattle.base.specs.Scans.{all_of}
use Rattle.base.proofs.Tests.{by_test, not_both, and_first, and_second}
use Rattle.base.proofs.Scans.{all_same}
use Rattle.kernel_rules.specs.declared.Stage.{Stage}
use Rattle.kernel_rules.specs.declared.Stage.TheVariants.{Comment, Data, Opened, Numbers, Strings, Forbidden}
use Rattle.kernel_rules.specs.Lines.{begin_data, begin_text, is_marker}
use Rattle.kernel_rules.specs.Numbers.{is_number}
use Rattle.kernel_rules.specs.Assignments.{name_in, is_plus, begins_text, plain_stage, after_line, after_lines, ends_well, values_of}
use Rattle.kernel_rules.specs.Names.{Assignment, assignment, assigns, which, given, names}
use Rattle.kernel_rules.specs.Tables.{kernel_id, time_system, is_list, every, name_ok, values_given, values, assignments_ok, exact_ok, tables_of}
use Rattle.kernel_rules.specs.Kernel.{lines_read}
use Rattle.kernel_outcomes.specs.Passing.{Passed, no_data, in_list, within}
use Rattle.kernel_outcomes.proofs.Closing.{lines_append, values_closed}

-- all that is asked of an assignment: its operator and its values
record Meaning : Type 0 where
  plus : Bool
  values : List (List ℕ)

unfoldable meaning : Assignment → Meaning
meaning a = record { plus = is_plus a.line; values = values_of a.line a.after }

unfoldable ok_by : ℕ → List Meaning → Bool
ok_by k [] = eqb k time_system
ok_by k (m ∷ []) =
    all_of (not m.plus ∷ (is_list k || eqb (length m.values) 1) ∷ (eqb k kernel_id || every is_number m.values) ∷ [])
ok_by k (m ∷ o ∷ more) = false

unfoldable values_by : List Meaning → List (List ℕ)
values_by [] = []
values_by (m ∷ more) = m.values

ok_by_lem : (k : ℕ) (found : List Assignment) → name_ok k found ≡ ok_by k (map meaning found)
unfolding name_ok ok_by meaning
ok_by_lem k [] = refl
ok_by_lem k (a ∷ []) = refl
ok_by_lem k (a ∷ b ∷ more) = refl

values_by_lem : (found : List Assignment) → values_given found ≡ values_by (map meaning found)
unfolding values_given values_by meaning
values_by_lem [] = refl
values_by_lem (a ∷ more) = refl

-- the stages where a name is assigned
in-data : (digits : List ℕ) (k : ℕ) (p : Stage) (l : List ℕ) → k < names → eqb (assigns digits p l) k ≡ true → p ≡ Data
unfolding assigns
in-data digits k Data l b h = refl
in-data digits k Comment l b h = absurd (let e = eqb-true names k h in omega arith)
in-data digits k Opened l b h = absurd (let e = eqb-true names k h in omega arith)
in-data digits k Numbers l b h = absurd (let e = eqb-true names k h in omega arith)
in-data digits k Strings l b h = absurd (let e = eqb-true names k h in omega arith)
in-data digits k Forbidden l b h = absurd (let e = eqb-true names k h in omega arith)

own_line : (p : Stage) (l : List ℕ) (a x y : List (List ℕ)) → p ≡ Data → ends_well (after_lines (after_line p l) a) ≡ true → meaning (assignment l (a ++ x)) ≡ meaning (assignment l (a ++ y))
unfolding meaning
own_line p l a x y e w = rw (values_closed l a x y (rw e at w))

module _ (digits : List ℕ) where
  abbrev meanings : ℕ → Stage → List (List ℕ) → List Meaning
  meanings k p ls = map meaning (given digits k p ls)

  -- Two texts with the same assignments of the ten names, as far as operator and values go, are read alike.
  module _
      (ls ms : List (List ℕ)) (e : ends_well (after_lines Comment ls) ≡ ends_well (after_lines Comment ms))
      (h : (k : ℕ) → k < names → meanings k Comment ls ≡ meanings k Comment ms)
    where
      same_values : (k : ℕ) → k < names → values digits ls k ≡ values digits ms k
      same_values k b = values_by_lem (given digits k Comment ls) ∙ rw (h k b) (sym (values_by_lem (given digits k Comment ms)))

      same_ok : (k : ℕ) → k < names → name_ok k (given digits k Comment ls) ≡ name_ok k (given digits k Comment ms)
      same_ok k b = ok_by_lem k (given digits k Comment ls) ∙ rw (h k b) (sym (ok_by_lem k (given digits k Comment ms)))

      same_assignments : assignments_ok digits ls ≡ assignments_ok digits ms
      unfolding assignments_ok
      same_assignments =
          rw (
            e,
            all_same (λ k. name_ok k (given digits k Comment ls)) (λ k. name_ok k (given digits k Comment ms)) names same_ok,
            same_values 1 (omega arith),
            same_values 2 (omega arith),
          )

      same_exact : exact_ok (values digits ls) ≡ exact_ok (values digits ms)
      unfolding exact_ok
      same_exact =
          rw (
            same_values 3 (omega arith),
            same_values 4 (omega arith),
            same_values 5 (omega arith),
            same_values 6 (omega arith),
            same_values 7 (omega arith),
            same_values 8 (omega arith),
            same_values 9 (omega arith),
          )

      same_tables : tables_of (values digits ls) ≡ tables_of (values digits ms)
      unfolding tables_of
      same_tables =
          rw (
            same_values 2 (omega arith),
            same_values 3 (omega arith),
            same_values 4 (omega arith),
            same_values 5 (omega arith),
            same_values 6 (omega arith),
            same_values 7 (omega arith),
            same_values 8 (omega arith),
            same_values 9 (omega arith),
          )

      same_read : (f : List ℕ) → lines_read digits (f ∷ ls) ≡ lines_read digits (f ∷ ms)
      unfolding lines_read
      same_read f = rw (same_assignments, same_exact, same_tables)

  -- lines that give nothing are no assignments of the lines behind them
  given_past : (k : ℕ) (p : Stage) (b c : List (List ℕ)) → given digits k p b ≡ [] → given digits k p (b ++ c) ≡ given digits k (after_lines p b) c
  unfolding given after_lines
  given_past k p [] c h = refl
  given_past k p (l ∷ b) c h =
      by_test (eqb (assigns digits p l) k) (λ t. absurd (some_not_none (rw t at h))) (λ f. rw f (given_past k (after_line p l) b c (rw f at h)))
    where
      some_not_none : {a : Assignment} {more : List Assignment} → ◌≡◌ {A = List Assignment} (a ∷ more) [] → ⊥
      some_not_none q = let z : ◌≡◌ {A = ℕ} 0 1 = cc in omega arith

  -- what follows lines that end well does not change what they give
  given_before : (k : ℕ) → k < names → (p : Stage) (a x y : List (List ℕ)) → ends_well (after_lines p a) ≡ true
      → meanings k (after_lines p a) x ≡ meanings k (after_lines p a) y → meanings k p (a ++ x) ≡ meanings k p (a ++ y)
  unfolding given after_lines
  given_before k b p [] x y w h = h
  given_before k b p (l ∷ a) x y w h =
      by_test (eqb (assigns digits p l) k)
      (λ t. rw t (rw (own_line p l a x y (in-data digits k p l b t) w, given_before k b (after_line p l) a x y w h)))
      (λ f. rw f (given_before k b (after_line p l) a x y w h))

  -- The lines b may stand between a and c, or not.
  module _ (f : List ℕ) (a b c : List (List ℕ)) (w : ends_well (after_lines Comment a) ≡ true) (passed : Passed digits (after_lines Comment a) b) where
    past : (k : ℕ) → k < names → meanings k Comment (a ++ (b ++ c)) ≡ meanings k Comment (a ++ c)
    past k l =
        given_before k l Comment a (b ++ c) c w
        (rw (given_past k (after_lines Comment a) b c (passed.gives_none k l), passed.stays))

    same_end : ends_well (after_lines Comment (a ++ (b ++ c))) ≡ ends_well (after_lines Comment (a ++ c))
    same_end = rw (lines_append Comment a (b ++ c), lines_append (after_lines Comment a) b c, passed.stays, lines_append Comment a c)

    pub passed_over_lem : lines_read digits (f ∷ a ++ (b ++ c)) ≡ lines_read digits (f ∷ a ++ c)
    passed_over_lem = same_read (a ++ (b ++ c)) (a ++ c) same_end past f

  -- Outside data: any lines but a \begindata line.
  comment_line : (l : List ℕ) → is_marker begin_data l ≡ false → after_line Comment l ≡ Comment
  unfolding after_line begins_text plain_stage
  comment_line l d = by_test (is_marker begin_text l) (λ e. rw (d, e)) (λ e. rw (d, e))

  comments_stay : (b : List (List ℕ)) → no_data b ≡ true → after_lines Comment b ≡ Comment
  unfolding after_lines no_data
  comments_stay [] h = refl
  comments_stay (l ∷ b) h =
      rw (comment_line l (not-true _ (and_first _ _ h))) (comments_stay b (and_second (not (is_marker begin_data l)) _ h))

  comments_none : (k : ℕ) → k < names → (b : List (List ℕ)) → no_data b ≡ true → given digits k Comment b ≡ []
  unfolding given assigns no_data
  comments_none k n [] h = refl
  comments_none k n (l ∷ b) h =
      rw (ne_eqb names k (λ e. omega arith), comment_line l (not-true _ (and_first _ _ h)))
      (comments_none k n b (and_second (not (is_marker begin_data l)) _ h))

  pub comments_over : (f : List ℕ) (a b c : List (List ℕ)) → after_lines Comment a ≡ Comment → no_data b ≡ true → lines_read digits (f ∷ a ++ (b ++ c)) ≡ lines_read digits (f ∷ a ++ c)
  unfolding ends_well
  comments_over f a b c h d =
      passed_over_lem f a b c (rw h)
      (rw h (record { stays = comments_stay b d; gives_none = λ k n. comments_none k n b d }))

  -- In data: an assignment of another name, its own line and those of its list.
  in_list_lem : (p : Stage) (l : List ℕ) → in_list p ≡ true → assigns digits p l ≡ names
  unfolding in_list assigns
  in_list_lem Comment l h = refl
  in_list_lem Data l h = absurd (not_both h refl)
  in_list_lem Opened l h = refl
  in_list_lem Numbers l h = refl
  in_list_lem Strings l h = refl
  in_list_lem Forbidden l h = refl

  within_none : (k : ℕ) → k < names → (p : Stage) (ls : List (List ℕ)) → within p ls ≡ true → given digits k p ls ≡ []
  unfolding given within
  within_none k n p [] h = refl
  within_none k n p (l ∷ ls) h =
      rw (in_list_lem p l (and_first _ _ h), ne_eqb names k (λ e. omega arith))
      (within_none k n (after_line p l) ls (and_second (in_list p) _ h))

  other_none : (k : ℕ) → k < names → (l : List ℕ) (more : List (List ℕ)) → which digits (name_in l) ≡ names → within (after_line Data l) more ≡ true → given digits k Data (l ∷ more) ≡ []
  unfolding given assigns
  other_none k n l more e h = rw (e, ne_eqb names k (λ q. omega arith)) (within_none k n (after_line Data l) more h)

  pub other_over : (f : List ℕ) (a : List (List ℕ)) (l : List ℕ) (more c : List (List ℕ)) → after_lines Comment a ≡ Data
      → which digits (name_in l) ≡ names → within (after_line Data l) more ≡ true → after_lines (after_line Data l) more ≡ Data
      → lines_read digits (f ∷ a ++ ((l ∷ more) ++ c)) ≡ lines_read digits (f ∷ a ++ c)
  unfolding ends_well after_lines
  other_over f a l more c h e w d =
      passed_over_lem f a (l ∷ more) c (rw h) (rw h (record { stays = d; gives_none = λ k n. other_none k n l more e w }))
