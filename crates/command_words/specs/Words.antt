-- What one word of the command line is.
use Rattle.std.specs.Prelude.{ℕ, Bool, cond, List, ltb, length, take}
use Rattle.rules.specs.Examples.{bytes}
use Rattle.kernel_rules.specs.Lines.{same}
use Rattle.command_words.specs.declared.Command.TheVariants.{Time, Stamp, Count, Describe, Compare}
use Rattle.command_words.specs.declared.First.{First}
use Rattle.command_words.specs.declared.Later.{Later}

-- "The command word comes first"; "`--help` (as the first word ..)"
unfoldable pub first_of : List ℕ → First
first_of w =
    cond (same w (bytes "time")) (First.Command Time)
    (cond (same w (bytes "stamp")) (First.Command Stamp)
    (cond (same w (bytes "count")) (First.Command Count)
    (cond (same w (bytes "describe")) (First.Command Describe)
    (cond (same w (bytes "compare")) (First.Command Compare)
    (cond (same w (bytes "--help")) First.Help First.Other)))))

-- "words that begin with `--` are options"
unfoldable pub is_option : List ℕ → Bool
is_option w = same (take 2 w) (bytes "--")

unfoldable pub option_of : List ℕ → Later
option_of w =
    cond (same w (bytes "--hex")) Later.Hex
    (cond (same w (bytes "--seconds")) Later.Seconds
    (cond (same w (bytes "--help")) Later.Help Later.Unknown))

-- No path is longer.
abbrev pub longest_word : ℕ
longest_word = 4095

unfoldable pub later_of : List ℕ → Later
later_of w = cond (ltb longest_word (length w)) Later.Unknown (cond (is_option w) (option_of w) Later.Plain)
