-- What is answered of kept tables and lent lists, 1, 2 and 3, then 16, and what the lent lists are afterwards.
use Rattle.rules.specs.declared.refusal.Refusal.{Refusal}
use Rattle.kernel_rules.specs.declared.Kernel.{Kernel}
use Rattle.std.specs.Prelude.{◌≡◌, Result}
use Rattle.rules.specs.Answer.{Answer, answer, unless, and_then, answer_of}
use Rattle.kernel_rules.specs.Tables.{Lists, Tables}
use Rattle.kernel_rules.specs.Kernel.{kernel_given, fits, lists_after}
use Rattle.kernel_tables.specs.Given.{Kept, kept_accepted}

unfoldable pub fitting : Kept → Lists → Answer Tables
fitting k lent = and_then (kept_accepted k) (λ u. unless 16 (fits u.lists lent) (answer u))

pub record Gives (k : Kept) (lent : Lists) (r : Result Kernel Refusal) (after : Lists) : Type 0 where
  pub given : answer_of r ≡ kernel_given (fitting k lent)
  pub lists : after ≡ lists_after (fitting k lent) lent
