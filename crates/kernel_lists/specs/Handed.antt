-- The lent lists afterwards, and the room that each of seven has.
use Rattle.std.specs.Prelude.{ℕ, ◌≤◌, Bool, true, false}
use Rattle.kernel_rules.specs.Tables.{Lists}
use Rattle.kernel_rules.specs.Kernel.{fronts}

-- the lists handed out stand at the fronts of those lent, where all fit
unfoldable pub handed : Bool → Lists → Lists → Lists
handed true g lent = fronts g lent
handed false g lent = lent

pub record Rooms (n0 m0 n1 m1 n2 m2 n3 m3 n4 m4 n5 m5 n6 m6 : ℕ) : Type 0 where
  pub f0 : n0 ≤ m0
  pub f1 : n1 ≤ m1
  pub f2 : n2 ≤ m2
  pub f3 : n3 ≤ m3
  pub f4 : n4 ≤ m4
  pub f5 : n5 ≤ m5
  pub f6 : n6 ≤ m6
