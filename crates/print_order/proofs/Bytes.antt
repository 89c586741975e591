-- Byte order: of two texts at most one stands before the other, and texts that begin alike stand as their rests do.
use Prim.Native.Nat.{ℕ, ◌<◌}
use mathlib.Core.Path.{◌≡◌, refl, sym}
use mathlib.Core.Bool.{true, false, ◌&&◌, true≢false}
use mathlib.Core.List.{List, [], ◌∷◌, ◌++◌}
use mathlib.Core.Logic.{◌⊎◌, inl, inr, ⊎_elim}
use lib.Dec.{ltb, eqb}
use lib.ListN.{length}
use borrow.Author.Tests.{lt-ltb, le-ltb, ltb-true, ltb-false, eq-eqb, ne_eqb, eqb-true}
use native.Mathlib.Omega.{arith}
use Rattle.base.proofs.Tests.{by_test, and_first, and_second}
use Rattle.print_order.specs.Order.{sorts_before}

module _ (a b : ℕ) (s t : List ℕ) where
  -- the first bytes decide, or they are the same and the rests decide
  pub sorts_less : a < b → sorts_before (a ∷ s) (b ∷ t) ≡ true
  unfolding sorts_before
  sorts_less h = rw (lt-ltb a b h)

  sorts_more : b < a → sorts_before (a ∷ s) (b ∷ t) ≡ false
  unfolding sorts_before
  sorts_more h = rw (le-ltb a b (omega arith), ne_eqb a b (λ e. omega arith))

  pub sorts_rest : a ≡ b → sorts_before (a ∷ s) (b ∷ t) ≡ sorts_before s t
  unfolding sorts_before
  sorts_rest e = rw (le-ltb a b (omega arith), eq-eqb a b e)

  sorts_either : sorts_before (a ∷ s) (b ∷ t) ≡ true → (a < b) ⊎ ((a ≡ b) × (sorts_before s t ≡ true))
  unfolding sorts_before
  sorts_either h =
      by_test (ltb a b)
      (λ l. inl (ltb-true a b l))
      (λ l. inr (both (rw l at h)))
    where
      both : (eqb a b && sorts_before s t) ≡ true → (a ≡ b) × (sorts_before s t ≡ true)
      both r = (eqb-true a b (and_first (eqb a b) (sorts_before s t) r), and_second (eqb a b) (sorts_before s t) r)

sorts_itself : (s : List ℕ) → sorts_before s s ≡ false
unfolding sorts_before
sorts_itself [] = refl
sorts_itself (b ∷ s) = rw (sorts_rest b b s s refl) (sorts_itself s)

pub sorts_one_way : (s t : List ℕ) → sorts_before s t ≡ true → sorts_before t s ≡ false
unfolding sorts_before
sorts_one_way s [] h = absurd (true≢false (sym h))
sorts_one_way [] (b ∷ t) h = refl
sorts_one_way (a ∷ s) (b ∷ t) h =
    ⊎_elim (λ l. sorts_more b a t s l) (λ w. rw (sorts_rest b a t s (sym w.0)) (sorts_one_way s t w.1)) (sorts_either a b s t h)

-- texts of one length decide whatever follows them, and a common front decides nothing
pub sorts_front : (s t r q : List ℕ) → length s ≡ length t → sorts_before s t ≡ true → sorts_before (s ++ r) (t ++ q) ≡ true
unfolding sorts_before
sorts_front s [] r q e h = absurd (true≢false (sym h))
sorts_front [] (b ∷ t) r q e h = absurd (omega arith)
sorts_front (a ∷ s) (b ∷ t) r q e h =
    ⊎_elim
    (λ l. sorts_less a b (s ++ r) (t ++ q) l)
    (λ w. rw (sorts_rest a b (s ++ r) (t ++ q) w.0) (sorts_front s t r q (omega arith) w.1))
    (sorts_either a b s t h)

pub sorts_same : (s r q : List ℕ) → sorts_before (s ++ r) (s ++ q) ≡ sorts_before r q
sorts_same [] r q = refl
sorts_same (b ∷ s) r q = rw (sorts_rest b b (s ++ r) (s ++ q) refl) (sorts_same s r q)

-- Two texts stand as two numbers do if the smaller number's stands first.
pub sorts_as : (s t : List ℕ) (c d : ℕ) → (c < d → sorts_before s t ≡ true) → (c ≡ d → s ≡ t) → (d < c → sorts_before t s ≡ true) → sorts_before s t ≡ ltb c d
sorts_as s t c d less same more =
    by_test (ltb c d)
    (λ l. rw l (less (ltb-true c d l)))
    (λ l. rw l
    (by_test (ltb d c)
    (λ g. sorts_one_way t s (more (ltb-true d c g)))
    (λ g. let e : c ≡ d = omega (arith, ltb-false c d l, ltb-false d c g) in rw (same e) (sorts_itself t))))
