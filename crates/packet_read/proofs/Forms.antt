-- The form of a packet: each way out of its check, and what a caller has of it.
use Rattle.rules.specs.declared.refusal.Refusal.{Refusal}
use Rattle.std.specs.Prelude.{Result, Ok, Err}
use Prim.Native.Nat.{ℕ, ◌+◌, ◌≤◌, ◌<◌}
use mathlib.Core.Path.{◌≡◌, refl, sym, ◌∙◌, ap}
use mathlib.Core.Bool.{Bool, true, false, not}
use mathlib.Core.List.{List, [], ◌∷◌}
use lib.Dec.{leb, eqb}
use lib.ListN.{length, get_or}
use native.Mathlib.Omega.{arith}
use borrow.Author.Tests.{eq-eqb, ne_eqb, le-leb, lt-leb, leb-true, not-true, not-false}
use Rattle.base.specs.Scans.{all_of}
use Rattle.rules.specs.Answer.{Answer, answer, refused, refuse, unless, as_numbered, answer_of}
use Rattle.rules.proofs.Answers.{payload, not_answer, unless-test, unless-rest}
use Rattle.tables.proofs.Guards.{passed, refused_same}
use Rattle.packet_rules.specs.declared.TimeOctets.{TimeOctets}
use Rattle.packet_rules.specs.Octets.{bits}
use Rattle.packet_rules.specs.Header.{word_at, header_in, octets_in, agency_epoch, time_end, packet_length}
use Rattle.packet_rules.specs.Read.{form_ok, accepted_packet}
use Rattle.packet_read.specs.Form.{octets_by, TimeThere}

-- the four tests of the form, by the first word and the P-field
abbrev pub form_tests : ℕ → ℕ → Bool
form_tests w p = all_of (eqb (bits 13 3 w) 0 ∷ eqb (bits 11 1 w) 1 ∷ eqb (bits 7 1 p) 0 ∷ eqb (bits 4 3 p) agency_epoch ∷ [])

-- the fields that are handed through
module _ (s : List ℕ) (w v : ℕ) (ew : w ≡ word_at 0 s) (ev : v ≡ word_at 2 s) where
  pub header_is : (a b d e : ℕ) → a ≡ bits 12 1 w → b ≡ bits 0 11 w → d ≡ bits 14 2 v → e ≡ bits 0 14 v → record { kind = a; apid = b; flags = d; sequence = e } ≡ header_in s
  header_is a b d e ea eb ed ee = rw (ea, eb, ed, ee, ew, ev)

-- the octets of the time, by the P-field
module _ (p c f : ℕ) (ec : c ≡ bits 2 2 p) (ef : f ≡ bits 0 2 p) where
  pub octets_are : record { coarse = c + 1; fine = f } ≡ octets_by p
  octets_are = rw (ec, ef)

module _ (s : List ℕ) where
  abbrev pub checked : Answer TimeOctets
  checked = accepted_packet s (answer (octets_in s))

  pub under_seven : length s < 7 → refuse 25 ≡ checked
  unfolding accepted_packet unless
  under_seven h = rw (ne_eqb (length s) (packet_length s) (λ e. omega arith))

  module _ (w : ℕ) (ew : w ≡ word_at 4 s) where
    pub another_length : (length s ≡ 7 + w → ⊥) → refuse 25 ≡ checked
    unfolding accepted_packet unless
    another_length h = rw (ne_eqb (length s) (packet_length s) (λ e. h (omega arith)))

    module _ (len : length s ≡ 7 + w) (t : Bool) (first p : ℕ) (et : t ≡ form_tests first p) (ef : first ≡ word_at 0 s) (ep : p ≡ get_or s 6 0) where
      long : eqb (length s) (packet_length s) ≡ true
      long = eq-eqb (length s) (packet_length s) (omega arith)

      form : form_ok s ≡ t
      unfolding form_ok
      form = sym (et ∙ rw (ef, ep))

      pub bad_form : not t ≡ true → refuse 26 ≡ checked
      unfolding accepted_packet unless
      bad_form n = rw (long, form, not-true t n)

      module _ (n : not t ≡ false) (o : TimeOctets) (eo : o ≡ octets_by p) (end : ℕ) (ee : end ≡ time_end o) where
        same : o ≡ octets_in s
        same = eo ∙ rw ep

        ends : time_end (octets_in s) ≡ end
        ends = sym (ee ∙ ap (λ (x : TimeOctets). time_end x) same)

        pub time_past : length s < end → refuse 25 ≡ checked
        unfolding accepted_packet unless
        time_past h = rw (long, form, not-false t n, lt-leb (time_end (octets_in s)) (length s) (rw ends h))

        pub time_within : end ≤ length s → answer o ≡ checked
        unfolding accepted_packet unless
        time_within h = rw (long, form, not-false t n, le-leb (time_end (octets_in s)) (length s) (rw ends h), same)

-- for a caller of `check_packet`
module _ (s : List ℕ) (f : Result TimeOctets Refusal) (e : answer_of f ≡ checked s) where
  pub form_refused : {A : Type 0} (k : Refusal) (a : Answer A) → f ≡ Err k → refused (as_numbered k) ≡ accepted_packet s a
  unfolding accepted_packet
  form_refused k a h =
      refused_same (as_numbered k) 25 _ _ _ (rw h at (sym e))
      (λ q. refused_same (as_numbered k) 26 _ _ _ q (λ u. refused_same (as_numbered k) 25 _ _ _ u (λ z. absurd (not_answer (sym z)))))

  module _ (o : TimeOctets) (h : f ≡ Ok o) where
    whole : checked s ≡ answer o
    whole = rw h at (sym e)

    record Tests : Type 0 where
      pub length_good : eqb (length s) (packet_length s) ≡ true
      pub form_good : form_ok s ≡ true
      pub time_good : leb (time_end (octets_in s)) (length s) ≡ true
      pub octets : octets_in s ≡ o

    tests : Tests
    unfolding accepted_packet
    tests =
        let h1 = unless-rest 25 _ _ o whole in
        let h2 = unless-rest 26 _ _ o h1 in
        record { length_good = unless-test 25 _ _ o whole; form_good = unless-test 26 _ _ o h1; time_good = unless-test 25 _ _ o h2; octets = payload (unless-rest 25 _ _ o h2) }

    pub form_time : TimeThere o s
    unfolding bits
    form_time = rw (← tests.octets) (record { octets = refl; coarse = omega arith; fine = omega arith; there = leb-true _ _ tests.time_good })

    pub form_accepted : {A : Type 0} (x a : Answer A) → x ≡ a → x ≡ accepted_packet s a
    unfolding accepted_packet
    form_accepted x a q = passed 25 _ _ x tests.length_good (passed 26 _ _ x tests.form_good (passed 25 _ a x tests.time_good q))

    pub form_octets : o ≡ octets_in s
    form_octets = sym tests.octets
