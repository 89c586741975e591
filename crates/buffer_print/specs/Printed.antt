-- What a print answers and leaves in the buffer.
use Rattle.rules.specs.declared.refusal.Refusal.{Refusal}
use Rattle.std.specs.Prelude.{ℕ, ◌≡◌, List, Result}
use Rattle.rules.specs.Answer.{Answer, answer_of}
use Rattle.rules.specs.Print.{length_printed, buffer_after}

-- r and the buffer are as the print p says
pub record Printed (p : Answer (List ℕ)) (r : Result ℕ Refusal) (entry exit : List ℕ) : Type 0 where
  pub answers : answer_of r ≡ length_printed p
  pub bytes : exit ≡ buffer_after p entry
