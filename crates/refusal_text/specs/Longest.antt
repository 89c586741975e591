-- The most bytes of a sentence, and of a refusal with the byte after it: two numbers of 20 digits and their tabs, and the sentence.
use Rattle.std.specs.Prelude.{ℕ, ◌+◌}

abbrev pub longest_sentence : ℕ
longest_sentence = 41

abbrev pub longest_refusal : ℕ
longest_refusal = 21 + 21 + longest_sentence + 1
