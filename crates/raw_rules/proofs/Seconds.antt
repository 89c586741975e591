-- A carry changes nothing in the sum: seconds and subtick make one count.
use Prim.Native.Nat.{ℕ, ◌+◌, ◌*◌}
use mathlib.Core.Path.{◌≡◌}
use lib.Dec.{eqb}
use native.Mathlib.Omega.{arith}
use borrow.Author.Tests.{eqb-true}
use Rattle.base.proofs.Tests.{by_test}
use Rattle.raw_rules.specs.Seconds.{with_carry}

pub carry_sum : (seconds subtick : ℕ) → with_carry seconds subtick ≡ seconds * 256 + subtick
unfolding with_carry
carry_sum seconds subtick =
    by_test (eqb subtick 256)
    (λ t. rw t (omega (arith, eqb-true subtick 256 t)))
    (λ f. rw f)
