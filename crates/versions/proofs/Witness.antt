-- Demand 3 is not empty, its exception is needed, and each of its numbers is given.
use Prim.Native.Nat.{ℕ}
use native.Mathlib.Omega.{arith}
use mathlib.Core.Path.{◌≡◌, refl, ap}
use Rattle.rules.specs.Answer.{Answer, answer, refused}
use Rattle.base.proofs.Tests.{not_both}
use Rattle.versions.specs.Versions.{Hypothesis, PrintedAnswer, Demand3}
use Rattle.versions.specs.Versions.{same-n, same_moduli, same_offsets, same-delimiter, kept-starts, kept-ends, last_end, kept-counts, kept-times, kept-rates, further-counts, no_step_back}
use Rattle.versions.specs.Seam.{SaysAtSeam}
use Rattle.versions.specs.Needed.{nine, ten, ExceptionNeeded, cut_a, table_a, Witness, NumbersGiven, back_two, back_three, SeamAsksLess}
use Rattle.versions.proofs.Meets.{meets_says, passes_accepted, meets_all, demand_3_by_tests}
use Rattle.versions.proofs.WrittenOut.{written_out}

pub witness : Witness
unfolding written_out
witness =
    record {
      accepted_older = passes_accepted cut_a refl;
      accepted_newer = passes_accepted table_a refl;
      says = meets_all cut_a table_a refl;
      exception = record { total = refl; kept_end = refl; added = omega arith };
      older_prints = refl;
      newer_prints = refl;
    }

seam_says : (h : Hypothesis) → SaysAtSeam back_two back_three h
unfolding written_out
seam_says same-n = meets_says back_two back_three same-n refl
seam_says same_moduli = meets_says back_two back_three same_moduli refl
seam_says same_offsets = meets_says back_two back_three same_offsets refl
seam_says same-delimiter = meets_says back_two back_three same-delimiter refl
seam_says kept-starts = meets_says back_two back_three kept-starts refl
seam_says kept-ends = meets_says back_two back_three kept-ends refl
seam_says last_end = meets_says back_two back_three last_end refl
seam_says kept-counts = meets_says back_two back_three kept-counts refl
seam_says kept-times = meets_says back_two back_three kept-times refl
seam_says kept-rates = meets_says back_two back_three kept-rates refl
seam_says further-counts = meets_says back_two back_three further-counts refl
seam_says no_step_back = refl

pub seam_asks_less : SeamAsksLess
unfolding written_out
seam_asks_less =
    record {
      accepted_older = passes_accepted back_two refl;
      accepted_newer = passes_accepted back_three refl;
      says = seam_says;
      steps_back_lem = λ h. not_both refl h;
    }

pub demand_3_of_A : Demand3 cut_a table_a
unfolding written_out
demand_3_of_A = demand_3_by_tests cut_a table_a refl refl refl

pub numbers_given : NumbersGiven
unfolding written_out
numbers_given =
    record {
      stamps_refused = refl;
      stamps_read = refl;
      print_refused = refl;
      print_given = refl;
      time_refused = refl;
      time_given = refl;
      count_refused = refl;
      count_given = refl;
    }

returned_by : Answer PrintedAnswer → ℕ
returned_by (answer p) = p.returned
returned_by (refused k) = 0

pub exception_needed : ExceptionNeeded
unfolding written_out returned_by
exception_needed =
    record {
      accepted_older = passes_accepted nine refl;
      accepted_newer = passes_accepted ten refl;
      says = meets_all nine ten refl;
      older_into_four = refl;
      newer_into_four = refl;
      not_the_same = λ h. let e : ◌≡◌ {A = ℕ} 4 3 = ap returned_by (h.same _ refl) in omega arith;
      older_into_three = refl;
      newer_into_three = refl;
      not_answered = λ h. let e : ◌≡◌ {A = ℕ} 0 3 = ap returned_by (h.same _ refl) in omega arith;
    }
