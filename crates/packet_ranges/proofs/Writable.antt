-- The ranges of what a packet is written from, test by test.
use Prim.Native.Nat.{ℕ, zero, suc, ◌*◌, ◌%◌, ◌^◌, ◌≤◌}
use mathlib.Core.Path.{◌≡◌, refl}
use native.Mathlib.Omega.{arith}
use mathlib.Core.Bool.{Bool, true, false, ◌&&◌}
use mathlib.Core.List.{List, [], ◌∷◌}
use borrow.Author.Tests.{leb-true}
use Rattle.base.specs.Scans.{all_of}
use Rattle.base.proofs.Tests.{all_of_head, all_of_tail}
use Rattle.packet_rules.specs.declared.PacketHeader.{PacketHeader}
use Rattle.packet_rules.specs.declared.TimeOctets.{TimeOctets}
use Rattle.packet_rules.specs.Header.{most_coarse, most_fine}
use Rattle.packet_rules.specs.Write.{writable}
use Rattle.packet_ranges.specs.Octets.{OctetsFacts}

-- a modulus of octets, as the code shifts it
pub octet_power : (n : ℕ) → n ≤ 3 → 1 * 2 ^ (8 * n) % 2 ^ 64 ≡ 256 ^ n
octet_power zero h = refl
octet_power (suc zero) h = refl
octet_power (suc (suc zero)) h = refl
octet_power (suc (suc (suc zero))) h = refl
octet_power (suc (suc (suc (suc n)))) h = absurd (omega arith)

-- tests in two parts
pub both : (a b c d : Bool) (r : List Bool) → all_of (a ∷ b ∷ c ∷ d ∷ r) ≡ (all_of (a ∷ b ∷ c ∷ d ∷ []) && all_of r)
unfolding all_of
both false b c d r = refl
both true false c d r = refl
both true true false d r = refl
both true true true false r = refl
both true true true true r = refl

module _ (h : PacketHeader) (o : TimeOctets) (m : ℕ) where
  pub writable_octets : writable h o m ≡ true → OctetsFacts o
  unfolding writable
  writable_octets t =
      let t1 = all_of_tail _ _ t in
      record { some_coarse = leb-true 1 o.coarse (all_of_head _ _ t); coarse = leb-true o.coarse most_coarse (all_of_head _ _ t1); fine = leb-true o.fine most_fine (all_of_head _ _ (all_of_tail _ _ t1)) }
