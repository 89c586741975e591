use native.Mathlib.Omega.{arith}
use Rattle.doubles.proofs.Tests.{exact}
use Rattle.doubles.proofs.forward.Goals as goal

pub int_to_float-given : goal.int_to_float-given
int_to_float-given c = exact _ (omega arith)
