-- The two markers, and the stage after a line.
use Prim.Native.Nat.{ℕ, zero, suc, ◌+◌, ◌-◌, ◌≤◌, ◌<◌}
use mathlib.Core.Path.{◌≡◌, refl, ◌∙◌}
use mathlib.Core.Bool.{Bool, true, false}
use mathlib.Core.List.{List, [], ◌∷◌}
use lib.ListN.{length, take, drop, get_or, drop_of_length-le}
use borrow.Author.Tests.{ne_eqb}
use Rattle.base.proofs.Lists.{drop_next}
use Rattle.kernel_rules.specs.declared.Stage.{Stage}
use Rattle.kernel_rules.specs.Lines.{is_gap, after_gap, trim_to, part, same, begin_data, begin_text, is_marker}
use Rattle.kernel_rules.specs.Assignments.{begins_data, begins_text, plain_stage, after_line}
use Rattle.kernel_heads.specs.declared.Part.{Part}
use Rattle.kernel_heads.specs.Parts.{Stripped}

pub marker_is : (m l : List ℕ) (n : Part) (t : Bool) → Stripped l (length l) n → t ≡ same (part l n.start n.end) m → t ≡ is_marker m l
unfolding is_marker
marker_is m l n t s e = e ∙ rw s.bytes

-- a marker begins with a backslash
other_first : (k x : ℕ) (s m : List ℕ) → (x ≡ 92 → ⊥) → same (take k (x ∷ s)) (92 ∷ m) ≡ false
unfolding same
other_first zero x s m f = refl
other_first (suc k) x s m f = rw (ne_eqb x 92 f)

empty_first : (k : ℕ) (m : List ℕ) → same (take k []) (92 ∷ m) ≡ false
unfolding same
empty_first zero m = refl
empty_first (suc k) m = refl

module _ (m l : List ℕ) (a : ℕ) (e : a ≡ after_gap l 0) where
  no_marker : length l ≤ a → is_marker (92 ∷ m) l ≡ false
  unfolding is_marker
  no_marker h = rw (← e, drop_of_length-le l h) (empty_first (trim_to is_gap l (length l) - a) m)

  other_line : a < length l → (get_or l a 0 ≡ 92 → ⊥) → is_marker (92 ∷ m) l ≡ false
  unfolding is_marker
  other_line h f = rw (← e, drop_next l a 0 h) (other_first (trim_to is_gap l (length l) - a) (get_or l a 0) (drop (a + 1) l) m f)

-- a line that is no marker, by its first byte
module _ (p r : Stage) (l : List ℕ) (e : r ≡ plain_stage p l) where
  no_markers : is_marker begin_data l ≡ false → is_marker begin_text l ≡ false → r ≡ after_line p l
  unfolding after_line
  no_markers f g = e ∙ rw (f, g)

  module _ (a : ℕ) (ea : a ≡ after_gap l 0) where
    pub line_blank : length l ≤ a → r ≡ after_line p l
    line_blank h = no_markers (no_marker (drop 1 begin_data) l a ea h) (no_marker (drop 1 begin_text) l a ea h)

    pub line_other : a < length l → (get_or l a 0 ≡ 92 → ⊥) → r ≡ after_line p l
    line_other h f = no_markers (other_line (drop 1 begin_data) l a ea h f) (other_line (drop 1 begin_text) l a ea h f)

-- the markers
module _ (p r : Stage) (l : List ℕ) (t : Bool) (y : t ≡ is_marker begin_data l) where
  pub line_data : t ≡ true → r ≡ begins_data p → r ≡ after_line p l
  unfolding after_line
  line_data h e = e ∙ rw (← y, h)

  module _ (f : t ≡ false) (u : Bool) (z : u ≡ is_marker begin_text l) where
    pub line_text : u ≡ true → r ≡ begins_text p → r ≡ after_line p l
    unfolding after_line
    line_text h e = e ∙ rw (← y, f, ← z, h)

    pub line_plain : u ≡ false → r ≡ plain_stage p l → r ≡ after_line p l
    unfolding after_line
    line_plain h e = e ∙ rw (← y, f, ← z, h)
