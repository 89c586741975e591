-- The seven tests of a heading as the code asks them, and what stands at the place of a name.
use Prim.Native.Nat.{ℕ, ◌<◌}
use mathlib.Core.Path.{◌≡◌, refl, sym, ◌∙◌}
use mathlib.Core.Bool.{Bool, true, false, not, ◌&&◌, ◌||◌, cond, and-true}
use mathlib.Core.List.{List, [], ◌∷◌}
use lib.Dec.{eqb}
use lib.ListN.{length, get_or}
use borrow.Author.Tests.{eq-eqb, ne_eqb}
use native.Mathlib.Omega.{arith}
use Rattle.base.specs.Scans.{all_of, among}
use Rattle.base.proofs.Tests.{by_test, not_both}
use Rattle.kernel_rules.specs.declared.Number.{Number}
use Rattle.kernel_rules.specs.declared.Number.TheVariants.{Plus}
use Rattle.kernel_rules.specs.Assignments.{is_plus, values_of}
use Rattle.kernel_rules.specs.Numbers.{is_number}
use Rattle.kernel_rules.specs.Names.{Assignment, names}
use Rattle.kernel_rules.specs.Tables.{every, is_list, name_ok, is_exactly, is_unsigned, unsigned}
use Rattle.kernel_find.specs.Slots.{assignment_at, slot_at, Placed}
use Rattle.kernel_walk.specs.Places.{line_here, lines_behind}
use Rattle.kernel_values.specs.declared.One.{One}
use Rattle.kernel_values.specs.Reads.{is_formed, first_number, one_read}
use Rattle.kernel_values.proofs.Numbers.{formed_is}
use Rattle.std.specs.Prelude.{Option, Some, None}
use Rattle.kernel_heading.specs.declared.Heading.{Heading}
use Rattle.kernel_heading.specs.Names.{number_given, is_system, system_of, single_of, heading_good, heading_of, heading_read}
use Rattle.kernel_heading.proofs.Names.{one_of, HeadingFacts, heading_facts}

-- what stands at the place of a name
module _ (text : List ℕ) (at k : ℕ) where
  module _ (absent : at ≡ 0) where
    pub single_absent : (r : Option Number) → r ≡ cond (eqb k 2) (Some (Plus 1)) None → r ≡ single_of k (slot_at text at)
    unfolding slot_at name_ok number_given single_of
    single_absent r e = e ∙ rw (eq-eqb at 0 absent)

  module _ (there : at ≡ 0 → ⊥) (one : One) (read : one ≡ one_read (line_here text at) (lines_behind text at)) where
    abbrev vs : List (List ℕ)
    vs = values_of (line_here text at) (lines_behind text at)

    -- with one value, whether it is a number is told by its number
    formed : (us : List (List ℕ)) → eqb (length us) 1 ≡ true → every is_number us ≡ is_formed (first_number us)
    unfolding every first_number
    formed us h = let o = one_of us h in rw (o.1, formed_is 0 o.0) (and-true (is_number o.0))

    tests : (p : Bool) (us : List (List ℕ)) → (p && (eqb (length us) 1 && ((eqb k 0 || is_formed (first_number us)) && true))) ≡ (p && (eqb (length us) 1 && ((eqb k 0 || every is_number us) && true)))
    tests p us = by_test (eqb (length us) 1) (λ t. rw (t, formed us t)) (λ f. rw f)

    abbrev given : Bool
    given = all_of (one.plain ∷ one.single ∷ (eqb k 0 || is_formed one.number) ∷ [])

    given_good : is_list k ≡ false → given ≡ name_ok k (slot_at text at)
    unfolding slot_at assignment_at name_ok one_read all_of
    given_good l = rw (read, ne_eqb at 0 there, l) (tests (not (is_plus (line_here text at))) vs)

    given_value : one.number ≡ number_given (slot_at text at)
    unfolding slot_at assignment_at number_given one_read
    given_value = rw (read, ne_eqb at 0 there)

    pub single_given : (r : Option Number) → is_list k ≡ false → r ≡ cond given (Some one.number) None → r ≡ single_of k (slot_at text at)
    unfolding single_of
    single_given r l e = e ∙ rw (given_good l, given_value)

-- the places of the names with one value
module _ (n : ℕ) (slots : List ℕ) (p : Placed n slots) where
  asks : (k : ℕ) → k < names → is_list k ≡ false → (get_or slots k 0 < n) × (is_list k ≡ false)
  asks k l e = (p.place k l, e)

  pub asks_id : (get_or slots 0 0 < n) × (is_list 0 ≡ false)
  unfolding among
  asks_id = asks 0 (omega arith) refl

  pub asks_type : (get_or slots 1 0 < n) × (is_list 1 ≡ false)
  unfolding among
  asks_type = asks 1 (omega arith) refl

  pub asks_system : (get_or slots 2 0 < n) × (is_list 2 ≡ false)
  unfolding among
  asks_system = asks 2 (omega arith) refl

  pub asks_fields : (get_or slots 3 0 < n) × (is_list 3 ≡ false)
  unfolding among
  asks_fields = asks 3 (omega arith) refl

  pub asks_delimiter : (get_or slots 6 0 < n) × (is_list 6 ≡ false)
  unfolding among
  asks_delimiter = asks 6 (omega arith) refl

-- a name by what is read of it
module _ (k : ℕ) (g : List Assignment) where
  single_none : single_of k g ≡ None → name_ok k g ≡ false
  unfolding single_of
  single_none e = by_test (name_ok k g) (λ t. absurd (some_not (rw t at e))) (λ f. f)
    where
      some_not : Some (number_given g) ≡ None → ⊥
      some_not h = absurd cc

  single_some : (n : Number) → single_of k g ≡ Some n → (name_ok k g ≡ true) × (n ≡ number_given g)
  unfolding single_of
  single_some n e = by_test (name_ok k g) (λ t. (t, same (rw t at e))) (λ f. absurd (none_not (rw f at e)))
    where
      same : Some (number_given g) ≡ Some n → n ≡ number_given g
      same i = cc

      none_not : (◌≡◌ {A = Option Number} None (Some n)) → ⊥
      none_not i = absurd cc

-- the heading from its parts: a name that is not given as it may be
module _ (g : ℕ → List Assignment) where
  heading_bad : (HeadingFacts g → ⊥) → None ≡ heading_read g
  unfolding heading_read
  heading_bad h = by_test (heading_good g) (λ t. absurd (h (heading_facts g t))) (λ f. rw f)

  module _ (o : Option Number) (none : o ≡ None) where
    pub bad_id : o ≡ single_of 0 (g 0) → None ≡ heading_read g
    bad_id e = heading_bad (λ f. not_both f.n0 (single_none 0 (g 0) (sym e ∙ none)))

    pub bad_type : o ≡ single_of 1 (g 1) → None ≡ heading_read g
    bad_type e = heading_bad (λ f. not_both f.n1 (single_none 1 (g 1) (sym e ∙ none)))

    pub bad_system : o ≡ single_of 2 (g 2) → None ≡ heading_read g
    bad_system e = heading_bad (λ f. not_both f.n2 (single_none 2 (g 2) (sym e ∙ none)))

    pub bad_fields : o ≡ single_of 3 (g 3) → None ≡ heading_read g
    bad_fields e = heading_bad (λ f. not_both f.n3 (single_none 3 (g 3) (sym e ∙ none)))

    pub bad_delimiter : o ≡ single_of 6 (g 6) → None ≡ heading_read g
    bad_delimiter e = heading_bad (λ f. not_both f.n6 (single_none 6 (g 6) (sym e ∙ none)))

  -- all are; t: the type and the system are known
  module _ (id kind sys n d : Number) (e0 : single_of 0 (g 0) ≡ Some id) (e1 : single_of 1 (g 1) ≡ Some kind) (e2 : single_of 2 (g 2) ≡ Some sys) (e3 : single_of 3 (g 3) ≡ Some n) (e6 : single_of 6 (g 6) ≡ Some d)
      (t : Bool) (et : t ≡ (is_exactly 1 kind && is_system sys)) where
    good_told : heading_good g ≡ t
    unfolding heading_good all_of
    good_told =
        rw (
          (single_some 0 (g 0) id e0).0,
          (single_some 1 (g 1) kind e1).0,
          (single_some 2 (g 2) sys e2).0,
          (single_some 3 (g 3) n e3).0,
          (single_some 6 (g 6) d e6).0,
          et,
          (single_some 1 (g 1) kind e1).1,
          (single_some 2 (g 2) sys e2).1,
          and-true (is_system (number_given (g 2))),
        )

    pub heading_none : t ≡ false → None ≡ heading_read g
    unfolding heading_read
    heading_none f = rw (good_told, f)

    pub heading_some : (u v : Bool) (a b y : ℕ) → t ≡ true → u ≡ is_unsigned n → v ≡ is_unsigned d → a ≡ unsigned n → b ≡ unsigned d → y ≡ system_of sys
        → Some (record { exact = u && v; n = a; delimiter = b; system = y }) ≡ heading_read g
    unfolding heading_read heading_of
    heading_some u v a b y h eu ev ea eb ey =
        rw (good_told, h, eu, ev, ea, eb, ey, (single_some 2 (g 2) sys e2).1, (single_some 3 (g 3) n e3).1, (single_some 6 (g 6) d e6).1)
