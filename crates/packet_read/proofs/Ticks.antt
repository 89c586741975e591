-- The ticks of a time: whole units are whole ticks, and a count past every partition is refused, whatever it is.
use Prim.Native.Nat.{ℕ, ◌+◌, ◌*◌, ◌/◌, ◌^◌, ◌≤◌, ◌<◌, min}
use mathlib.Core.Path.{◌≡◌, sym, ◌∙◌, ap}
use mathlib.Core.List.{List}
use lib.Dec.{leb}
use lib.ListN.{take, drop}
use mir.Syntax.{w64}
use mir.Val.{Fits}
use native.Mathlib.Nat.{mul-add-div_right, add-mul, mul_assoc, mul_comm, mul-le-mul, one-le-pow, pow-le-pow_right}
use native.Mathlib.Omega.{arith}
use borrow.Author.Tests.{lt-leb, leb-true, leb-false}
use Rattle.base.specs.Rounding.{round_down}
use Rattle.base.proofs.Tests.{by_test, and_out_second}
use Rattle.base.proofs.Scans.{first_none}
use Rattle.rules.specs.Limits.{largest_p, largest_msf}
use Rattle.rules.specs.Answer.{refuse, and_then}
use Rattle.rules.specs.Partitions.{Partitions, partitions_in, start_of, end_of}
use Rattle.rules.specs.Stamp.{holds, encode_found, encode_first}
use Rattle.packet_rules.specs.declared.TimeOctets.{TimeOctets}
use Rattle.packet_rules.specs.Octets.{big}
use Rattle.packet_rules.specs.Header.{time_start}
use Rattle.packet_rules.specs.Read.{ticks, ticks_in, packet_at}
use Rattle.packet_read.specs.Form.{Held}

-- the whole units are whole ticks
pub ticks_split : (m f coarse fine : ℕ) → ticks m f coarse fine ≡ coarse * m + fine * m / 256 ^ f
unfolding ticks round_down
ticks_split m f coarse fine = rw spread (mul-add-div_right {m = 256 ^ f} (one-le-pow f 256 (omega arith)) (coarse * m) (fine * m))
  where
    spread : (coarse * 256 ^ f + fine) * m ≡ coarse * m * 256 ^ f + fine * m
    spread = add-mul (coarse * 256 ^ f) fine m ∙ ap (λ (x : ℕ). x + fine * m) (mul_assoc coarse (256 ^ f) m ∙ ap (λ (x : ℕ). coarse * x) (mul_comm (256 ^ f) m) ∙ sym (mul_assoc coarse m (256 ^ f)))

module _ (m f fine : ℕ) (small : m ≤ largest_msf) (few : f ≤ 3) (below : fine < 256 ^ f) where
  pub fine_fits : Fits w64 (fine * m)
  fine_fits =
      let bound : fine ≤ 16_777_215 = omega (arith, below, pow-le-pow_right {n = 256} (omega arith) {i = f} {j = 3} few) in
      record { fits = omega (arith, mul-le-mul bound small) }

module _ (m f coarse fine a r : ℕ) where
  pub ticks_capped : a ≡ fine * m / 256 ^ f → r ≡ min (coarse * m + a) largest_p → r ≡ min (ticks m f coarse fine) largest_p
  ticks_capped e h = h ∙ rw (ticks_split m f coarse fine, e)

pub time_capped : (m : ℕ) (o : TimeOctets) (s : List ℕ) (coarse fine r : ℕ) → coarse ≡ big (take o.coarse (drop time_start s)) → fine ≡ big (take o.fine (drop (time_start + o.coarse) s))
    → r ≡ min (ticks m o.fine coarse fine) largest_p → r ≡ min (ticks_in m o s) largest_p
unfolding ticks_in
time_capped m o s coarse fine r ec ef h = h ∙ rw (ec, ef)

-- no partition holds the largest P or more
none_held : (p : Partitions) → Held p → (c : ℕ) → largest_p ≤ c → encode_first p c ≡ refuse 11
unfolding encode_first encode_found holds
none_held p h c large =
    rw (first_none (holds p c) (partitions_in p) (λ i b. and_out_second (leb (start_of p i) c) (lt-leb c (end_of p i) (omega (arith, h.small i b)))))

pub cap_same : (p : Partitions) → Held p → (s : List ℕ) (c : ℕ) → packet_at p s (min c largest_p) ≡ packet_at p s c
unfolding packet_at and_then
cap_same p h s c =
    by_test (leb c largest_p)
    (λ t. let e : min c largest_p ≡ c = omega (arith, leb-true c largest_p t) in rw e)
    (λ f. let e : min c largest_p ≡ largest_p = omega (arith, leb-false c largest_p f) in
    rw (e, none_held p h largest_p (omega arith), none_held p h c (omega (arith, leb-false c largest_p f))))
