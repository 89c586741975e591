-- Eight bytes of a list as one number.
use Rattle.std.proofs.Common.{◌≡◌, ℕ, zero, suc, ◌+◌, ◌*◌, ◌<◌, ◌≤◌, List, [], ◌∷◌, length, get_or, take, drop, sym, refl, ap, ◌∙◌, arith, length-take, drop-cons}
use lib.ListN.{get_or-eq_default}
use Rattle.std.specs.Int.{w64, from_le_bytes}
use Rattle.c_rules.specs.Numbers.{little, numbers}

get_d_take : (n : ℕ) (xs : List ℕ) (i : ℕ) → i < n → get_or (take n xs) i 0 ≡ get_or xs i 0
get_d_take zero xs i h = absurd (omega arith)
get_d_take (suc n) [] i h = refl
get_d_take (suc n) (x ∷ xs) zero h = refl
get_d_take (suc n) (x ∷ xs) (suc i) h = get_d_take n xs i (omega arith)

little_next : (n k j : ℕ) (s : List ℕ) → suc k ≡ j → k < length s → little (take (suc n) (drop k s)) ≡ get_or s k 0 + 256 * little (take n (drop j s))
unfolding little
little_next n k j s e h = rw (← e, drop-cons s k 0 h)

eight : (s : List ℕ) (k : ℕ) → k + 8 ≤ length s → get_or s k 0 + 256 * (get_or s (k + 1) 0 + 256 * (get_or s (k + 2) 0 + 256 * (get_or s (k + 3) 0 + 256 * (get_or s (k + 4) 0 + 256 * (get_or s (k + 5) 0 + 256 * (get_or s (k + 6) 0 + 256 * get_or s (k + 7) 0)))))) ≡ little (take 8 (drop k s))
unfolding little
eight s k h = sym (
    little_next 7 k (k + 1) s (omega arith) (omega arith)
    ∙ ap (λ (x : ℕ). get_or s k 0 + 256 * x) (little_next 6 (k + 1) (k + 2) s (omega arith) (omega arith)
    ∙ ap (λ (x : ℕ). get_or s (k + 1) 0 + 256 * x) (little_next 5 (k + 2) (k + 3) s (omega arith) (omega arith)
    ∙ ap (λ (x : ℕ). get_or s (k + 2) 0 + 256 * x) (little_next 4 (k + 3) (k + 4) s (omega arith) (omega arith)
    ∙ ap (λ (x : ℕ). get_or s (k + 3) 0 + 256 * x) (little_next 3 (k + 4) (k + 5) s (omega arith) (omega arith)
    ∙ ap (λ (x : ℕ). get_or s (k + 4) 0 + 256 * x) (little_next 2 (k + 5) (k + 6) s (omega arith) (omega arith)
    ∙ ap (λ (x : ℕ). get_or s (k + 5) 0 + 256 * x) (little_next 1 (k + 6) (k + 7) s (omega arith) (omega arith)
    ∙ ap (λ (x : ℕ). get_or s (k + 6) 0 + 256 * x) (little_next 0 (k + 7) (k + 8) s (omega arith) (omega arith) ∙ last))))))))
  where
    last : get_or s (k + 7) 0 + 256 * little (take 0 (drop (k + 8) s)) ≡ get_or s (k + 7) 0
    last = omega arith

pub joined_is : (s : List ℕ) (i : ℕ) → 8 * i + 8 ≤ length s → (r : ℕ)
    → r ≡ from_le_bytes w64 (get_or s (8 * i) 0 ∷ get_or s (8 * i + 1) 0 ∷ get_or s (8 * i + 2) 0 ∷ get_or s (8 * i + 3) 0 ∷ get_or s (8 * i + 4) 0 ∷ get_or s (8 * i + 5) 0 ∷ get_or s (8 * i + 6) 0 ∷ get_or s (8 * i + 7) 0 ∷ [])
    → r ≡ little (take 8 (drop (8 * i) s))
joined_is s i h r e = omega (arith, e, eight s (8 * i) h)

-- a slot of the first n
pub full_slot : (s : List ℕ) (n i : ℕ) → i < n → (r : ℕ) → r ≡ get_or (numbers s) i 0 → r ≡ get_or (take n (numbers s)) i 0
full_slot s n i h r e = e ∙ sym (get_d_take n (numbers s) i h)

pub empty_slot : (s : List ℕ) (n i : ℕ) → n ≤ i → 0 ≡ get_or (take n (numbers s)) i 0
empty_slot s n i h = sym (get_or-eq_default (take n (numbers s)) 0 (omega (arith, length-take n (numbers s))))
