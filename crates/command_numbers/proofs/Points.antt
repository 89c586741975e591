-- The parts of decimal seconds, by the places where the code finds them to end.
use Prim.Native.Nat.{ℕ, suc, ◌+◌, ◌-◌, ◌≤◌, ◌<◌}
use mathlib.Core.Path.{◌≡◌, refl, sym, ap, ◌∙◌}
use mathlib.Core.Bool.{true, false}
use mathlib.Core.List.{List, [], ◌∷◌, ◌++◌, append-nil}
use mathlib.Core.Option.{none, some}
use lib.Dec.{eqb, ltb}
use lib.ListN.{length, get_or, take, drop, drop_of_length-le, length-drop, get_or-eq_default}
use lib.Seq.{drop-drop, get_or-drop}
use native.Mathlib.Nat.{add-zero}
use native.Mathlib.Omega.{arith}
use borrow.Author.Tests.{eq-eqb, ne_eqb, eqb-true, eqb-false, ltb-true, ltb-false, leb-true}
use Rattle.base.proofs.Tests.{by_test, and_first}
use Rattle.base.proofs.Lists.{drop_next}
use Rattle.rules.specs.Text.{is_digit}
use Rattle.command_rules.specs.Input.{first_other, point_fault, whole_part, decimals}
use Rattle.command_input.specs.Runs.{run_length}
use Rattle.command_input.proofs.Runs.{other_found, other_missing}
use Rattle.command_numbers.specs.Places.{point_end}

-- the place behind a point
module _ (s : List ℕ) (i : ℕ) where
  pub point_there : get_or s i 0 ≡ 46 → i + 1 ≡ point_end s i
  unfolding point_end
  point_there h = rw (eq-eqb (get_or s i 0) 46 h)

  pub no_point : (get_or s i 0 ≡ 46 → ⊥) → i ≡ point_end s i
  unfolding point_end
  no_point h = rw (ne_eqb (get_or s i 0) 46 h)

  pub point_past : length s ≤ i → i ≡ point_end s i
  unfolding point_end
  point_past h = rw (get_or-eq_default s 0 h)

-- a digit is no point
not_point : (b : ℕ) → is_digit b ≡ true → eqb b 46 ≡ false
not_point b h = ne_eqb b 46 (λ e. low e (leb-true 48 b (and_first _ _ h)))
  where
    low : b ≡ 46 → 48 ≤ b → ⊥
    low e l = omega arith

-- the digits in front change none of the parts
fault_behind : (u : List ℕ) (i : ℕ) → point_fault i u ≡ point_fault (i + run_length is_digit u) (drop (run_length is_digit u) u)
unfolding point_fault run_length
fault_behind [] i = refl
fault_behind (b ∷ u) i =
    by_test (is_digit b)
    (λ t. rw t (fault_behind u (i + 1) ∙ rw (moved (run_length is_digit u))))
    (λ f. simp (f, add-zero i))
  where
    moved : (n : ℕ) → i + 1 + n ≡ i + suc n
    moved n = omega arith

whole_behind : (u : List ℕ) → whole_part u ≡ take (run_length is_digit u) u ++ whole_part (drop (run_length is_digit u) u)
unfolding whole_part run_length
whole_behind [] = refl
whole_behind (b ∷ u) = by_test (is_digit b) (λ t. rw (t, not_point b t) (ap (λ l. b ∷ l) (whole_behind u))) (λ f. rw f)

decimals_behind : (u : List ℕ) → decimals u ≡ decimals (drop (run_length is_digit u) u)
unfolding decimals run_length
decimals_behind [] = refl
decimals_behind (b ∷ u) = by_test (is_digit b) (λ t. rw (t, not_point b t) (decimals_behind u)) (λ f. rw f)

-- the byte behind them is none
ended : (u : List ℕ) → run_length is_digit u < length u → is_digit (get_or u (run_length is_digit u) 0) ≡ false
unfolding run_length
ended [] h = absurd (omega arith)
ended (b ∷ u) h = by_test (is_digit b) (λ t. rw t (ended u (less (rw t at h)))) (λ f. rw f f)
  where
    less : suc (run_length is_digit u) < suc (length u) → run_length is_digit u < length u
    less l = omega arith

-- of the text s: the digits from i on end at q, the decimals begin at a and end at e
module _ (s : List ℕ) (i q a e : ℕ) (hq : q ≡ i + run_length is_digit (drop i s)) (ha : a ≡ point_end s q) (he : e ≡ a + run_length is_digit (drop a s)) where
  rest : drop (run_length is_digit (drop i s)) (drop i s) ≡ drop q s
  rest = drop-drop (run_length is_digit (drop i s)) i s ∙ ap (λ n. drop n s) (sym hq)

  no_digit : q < length s → is_digit (get_or s q 0) ≡ false
  no_digit l =
      ap (λ n. is_digit (get_or s n 0)) hq
      ∙ ap is_digit (sym (get_or-drop i s (run_length is_digit (drop i s)) 0))
      ∙ ended (drop i s) (omega (arith, length-drop i s))

  -- what is left of each part at q, by the byte that stands there
  at_point : q < length s → get_or s q 0 ≡ 46 → (drop q s ≡ 46 ∷ drop a s)
  at_point l p = let same : a ≡ q + 1 = ha ∙ sym (point_there s q p) in rw same (drop_next s q 0 l ∙ rw p)

  at_other : q < length s → (get_or s q 0 ≡ 46 → ⊥) → a ≡ q
  at_other l p = ha ∙ sym (no_point s q p)

  at_end : length s ≤ q → a ≡ q
  at_end l = ha ∙ sym (point_past s q l)

  fault_at : point_fault q (drop q s) ≡ first_other is_digit a (drop a s)
  unfolding point_fault first_other
  fault_at =
      by_test (ltb q (length s))
      (λ t. by_test (eqb (get_or s q 0) 46)
      (λ p. let same : a ≡ q + 1 = ha ∙ sym (point_there s q (eqb-true _ _ p)) in rw (at_point (ltb-true _ _ t) (eqb-true _ _ p), same))
      (λ p. rw (at_other (ltb-true _ _ t) (eqb-false _ _ p), drop_next s q 0 (ltb-true _ _ t), no_digit (ltb-true _ _ t), p)))
      (λ f. rw (at_end (ltb-false _ _ f), drop_of_length-le s (ltb-false _ _ f)))

  fault_is : point_fault i (drop i s) ≡ first_other is_digit a (drop a s)
  fault_is = fault_behind (drop i s) i ∙ rw (rest, ← hq) fault_at

  pub fault_found : e < length s → point_fault i (drop i s) ≡ some e
  fault_found l = fault_is ∙ other_found is_digit s a e he l

  -- where nothing else follows
  module _ (l : length s ≤ e) where
    pub fault_missing : point_fault i (drop i s) ≡ none
    fault_missing = fault_is ∙ other_missing is_digit s a e he l

    -- no byte but a point ends the whole seconds
    only_point : q < length s → get_or s q 0 ≡ 46
    unfolding run_length
    only_point h =
        by_test (eqb (get_or s q 0) 46) (λ t. eqb-true _ _ t)
        (λ f. absurd (stuck (at_other h (eqb-false _ _ f)) (rw (at_other h (eqb-false _ _ f), drop_next s q 0 h, no_digit h) at he)))
      where
        stuck : a ≡ q → e ≡ q + 0 → ⊥
        stuck x y = omega arith

    left_whole : whole_part (drop q s) ≡ []
    unfolding whole_part
    left_whole =
        by_test (ltb q (length s))
        (λ t. rw (at_point (ltb-true _ _ t) (only_point (ltb-true _ _ t))))
        (λ f. rw (drop_of_length-le s (ltb-false _ _ f)))

    left_decimals : decimals (drop q s) ≡ drop a s
    unfolding decimals
    left_decimals =
        by_test (ltb q (length s))
        (λ t. rw (at_point (ltb-true _ _ t) (only_point (ltb-true _ _ t))))
        (λ f. rw (at_end (ltb-false _ _ f), drop_of_length-le s (ltb-false _ _ f)))

    pub whole_is : whole_part (drop i s) ≡ take (q - i) (drop i s)
    whole_is =
        let size : run_length is_digit (drop i s) ≡ q - i = omega arith in
        whole_behind (drop i s) ∙ rw (rest, left_whole, append-nil, size)

    pub decimals_are : decimals (drop i s) ≡ drop a s
    decimals_are = decimals_behind (drop i s) ∙ rw rest left_decimals
