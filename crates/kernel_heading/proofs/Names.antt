-- The names with one value, where they are given as they may be.
use Prim.Native.Nat.{ℕ}
use mathlib.Core.Path.{◌≡◌, refl, sym, ap, ◌∙◌}
use mathlib.Core.Bool.{true, false, ◌||◌, and-true}
use mathlib.Core.List.{List, [], ◌∷◌}
use lib.Dec.{eqb}
use lib.ListN.{length}
use native.Mathlib.Omega.{arith}
use borrow.Author.Tests.{eqb-true}
use Rattle.base.specs.Scans.{all_of, among}
use Rattle.std.specs.Prelude.{Option, Some, None}
use Rattle.kernel_heading.specs.declared.Heading.{Heading}
use Rattle.base.proofs.Tests.{by_test, not_both, and_both, all_of_head, all_of_tail}
use Rattle.kernel_rules.specs.Assignments.{values_of}
use Rattle.kernel_rules.specs.Names.{Assignment}
use Rattle.kernel_rules.specs.Tables.{every, is_list, name_ok, values_given, whole, is_exactly, type_ok, system_ok, is_unsigned, unsigned, are_whole, first_or}
use Rattle.kernel_values.specs.Reads.{first_number}
use Rattle.kernel_heading.specs.Names.{number_given, is_system, heading_good, heading_of, heading_read}

-- a name with one value, where it is given
pub record OneValue (g : List Assignment) : Type 0 where
  pub value : List ℕ
  pub values_are : values_given g ≡ value ∷ []
  pub number_is : number_given g ≡ whole value

pub one_of : (vs : List (List ℕ)) → eqb (length vs) 1 ≡ true → (v : List ℕ) × (vs ≡ v ∷ [])
one_of [] h = absurd (not_both h refl)
one_of (v ∷ []) h = (v, refl)
one_of (v ∷ w ∷ vs) h = absurd (omega (arith, eqb-true (length (v ∷ w ∷ vs)) 1 h))

pub one_value : (k : ℕ) (g : List Assignment) → is_list k ≡ false → eqb k 2 ≡ false → name_ok k g ≡ true → OneValue g
unfolding name_ok values_given number_given first_number
one_value k [] l t h = absurd (not_both h t)
one_value k (a ∷ []) l t h =
    let s : (is_list k || eqb (length (values_of a.line a.after)) 1) ≡ true = all_of_head _ _ (all_of_tail _ _ h) in
    let one = one_of (values_of a.line a.after) (rw l at s) in
    record { value = one.0; values_are = one.1; number_is = ap first_number one.1 }
one_value k (a ∷ b ∷ more) l t h = absurd (not_both h refl)

pub type_same : (g : List Assignment) → OneValue g → type_ok (values_given g) ≡ is_exactly 1 (number_given g)
unfolding type_ok every
type_same g o = rw (o.values_are, o.number_is) (and-true (is_exactly 1 (whole o.value)))

pub whole_same : (g : List Assignment) → OneValue g → are_whole (values_given g) ≡ is_unsigned (number_given g)
unfolding every
whole_same g o = rw (o.values_are, o.number_is) (and-true (is_unsigned (whole o.value)))

pub first_same : (d : ℕ) (g : List Assignment) → OneValue g → first_or d (values_given g) ≡ unsigned (number_given g)
unfolding first_or
first_same d g o = rw (o.values_are, o.number_is)

-- the time system may be absent
pub record System (g : List Assignment) : Type 0 where
  pub ok : system_ok (values_given g) ≡ is_system (number_given g)
  pub number : first_or 1 (values_given g) ≡ unsigned (number_given g)

pub system : (g : List Assignment) → name_ok 2 g ≡ true → System g
unfolding name_ok values_given number_given first_number system_ok is_system every first_or is_exactly unsigned among
system [] h = record { ok = refl; number = refl }
system (a ∷ []) h =
    let s : eqb (length (values_of a.line a.after)) 1 ≡ true = all_of_head _ _ (all_of_tail _ _ h) in
    let one = one_of (values_of a.line a.after) s in
    record {
      ok = ap system_ok one.1 ∙ and-true _ ∙ sym (ap (λ (vs : List (List ℕ)). is_system (first_number vs)) one.1);
      number = ap (first_or 1) one.1 ∙ sym (ap (λ (vs : List (List ℕ)). unsigned (first_number vs)) one.1);
    }
system (a ∷ b ∷ more) h = absurd (not_both h refl)

-- the tests of a heading
pub record HeadingFacts (g : ℕ → List Assignment) : Type 0 where
  pub n0 : name_ok 0 (g 0) ≡ true
  pub n1 : name_ok 1 (g 1) ≡ true
  pub n2 : name_ok 2 (g 2) ≡ true
  pub n3 : name_ok 3 (g 3) ≡ true
  pub n6 : name_ok 6 (g 6) ≡ true
  pub type : is_exactly 1 (number_given (g 1)) ≡ true
  pub system_is : is_system (number_given (g 2)) ≡ true

pub heading_facts : (g : ℕ → List Assignment) → heading_good g ≡ true → HeadingFacts g
unfolding heading_good
heading_facts g h =
    let h1 = all_of_tail _ _ h in
    let h2 = all_of_tail _ _ h1 in
    let h3 = all_of_tail _ _ h2 in
    let h4 = all_of_tail _ _ h3 in
    let h5 = all_of_tail _ _ h4 in
    let h6 = all_of_tail _ _ h5 in
    record {
      n0 = all_of_head _ _ h;
      n1 = all_of_head _ _ h1;
      n2 = all_of_head _ _ h2;
      n3 = all_of_head _ _ h3;
      n6 = all_of_head _ _ h4;
      type = all_of_head _ _ h5;
      system_is = all_of_head _ _ h6;
    }

pub facts_heading : (g : ℕ → List Assignment) → HeadingFacts g → heading_good g ≡ true
unfolding heading_good all_of
facts_heading g f =
    and_both f.n0 (and_both f.n1 (and_both f.n2 (and_both f.n3 (and_both f.n6 (and_both f.type (and_both f.system_is refl))))))

-- what is read of a heading tells it
pub read_none : (g : ℕ → List Assignment) → heading_read g ≡ None → heading_good g ≡ false
unfolding heading_read
read_none g e = by_test (heading_good g) (λ t. absurd (some_not (rw t at e))) (λ f. f)
  where
    some_not : Some (heading_of g) ≡ None → ⊥
    some_not h = absurd cc

pub read_some : (g : ℕ → List Assignment) (h : Heading) → heading_read g ≡ Some h → (heading_good g ≡ true) × (h ≡ heading_of g)
unfolding heading_read
read_some g h e = by_test (heading_good g) (λ t. (t, same (rw t at e))) (λ f. absurd (none_not (rw f at e)))
  where
    same : Some (heading_of g) ≡ Some h → h ≡ heading_of g
    same i = cc

    none_not : (◌≡◌ {A = Option Heading} None (Some h)) → ⊥
    none_not i = absurd cc
