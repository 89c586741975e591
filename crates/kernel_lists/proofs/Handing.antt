-- From the seven copies to the lists as one.
use Prim.Native.Nat.{ℕ}
use mathlib.Core.Path.{◌≡◌, refl, sym, ◌∙◌}
use mathlib.Core.Bool.{Bool, true, false, not}
use mathlib.Core.List.{List, [], ◌∷◌}
use lib.Dec.{leb}
use lib.IntN.{ℤ}
use lib.ListN.{length}
use borrow.Author.Tests.{not-true, not-false}
use Rattle.base.specs.Scans.{all_of}
use Rattle.kernel_rules.specs.Tables.{Lists, lists_of}
use Rattle.kernel_rules.specs.Kernel.{front, fronts, fits}
use Rattle.kernel_lists.specs.Handed.{handed}

module _ (g lent : Lists) where
  abbrev room : Bool
  room =
      all_of
      (leb (length g.moduli) (length lent.moduli)
      ∷ leb (length g.offsets) (length lent.offsets)
      ∷ leb (length g.starts) (length lent.starts)
      ∷ leb (length g.ends) (length lent.ends)
      ∷ leb (length g.counts) (length lent.counts)
      ∷ leb (length g.times) (length lent.times)
      ∷ leb (length g.rates) (length lent.rates)
      ∷ [])

  pub none_handed : (b : Bool) → b ≡ room → not b ≡ true → (false ≡ fits g lent) × (lent ≡ handed false g lent)
  unfolding fits handed
  none_handed b e n = (sym (not-true b n) ∙ e, refl)

  pub all_handed : (b : Bool) → b ≡ room → not b ≡ false → (ms os ss es cs : List ℕ) (ts : List ℤ) (rs : List ℕ)
      → ms ≡ front g.moduli lent.moduli → os ≡ front g.offsets lent.offsets → ss ≡ front g.starts lent.starts → es ≡ front g.ends lent.ends
      → cs ≡ front g.counts lent.counts → ts ≡ front g.times lent.times → rs ≡ front g.rates lent.rates
      → (true ≡ fits g lent) × (lists_of ms os ss es cs ts rs ≡ handed true g lent)
  unfolding fits handed fronts
  all_handed b e n ms os ss es cs ts rs m o s d c t r = (sym (not-false b n) ∙ e, rw (m, o, s, d, c, t, r))
