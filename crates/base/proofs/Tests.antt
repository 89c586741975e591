-- Tests as equations `b ≡ true` and `b ≡ false`: a case split, and the tests of `&&`, `||`, `not`, `all_of`.
use mathlib.Core.Path.{◌≡◌, refl, sym, ◌∙◌}
use mathlib.Core.Bool.{Bool, true, false, ◌&&◌, ◌||◌, true≢false}
use mathlib.Core.List.{List, ◌∷◌}
use Prim.Native.Nat.{ℕ, ◌≤◌}
use native.Mathlib.Nat.{lt_of_not-le, not-le_of_lt}
use borrow.Author.Tests.{leb-true, leb-false, le-leb, lt-leb}
use lib.Dec.{leb}
use Rattle.base.specs.Scans.{all_of}

pub by_test {ℓ} : {A : Type ℓ} (b : Bool) → (b ≡ true → A) → (b ≡ false → A) → A
by_test true t f = t refl
by_test false t f = f refl

pub not_both : {b : Bool} → b ≡ true → b ≡ false → ⊥
not_both {b} t f = let z : true ≡ false = cc in true≢false z

pub and_both : {a b : Bool} → a ≡ true → b ≡ true → (a && b) ≡ true
and_both {a} {b} p q = rw (p, q)

pub and_first : (a b : Bool) → (a && b) ≡ true → a ≡ true
and_first true b h = refl
and_first false b h = h

pub and_second : (a b : Bool) → (a && b) ≡ true → b ≡ true
and_second true b h = h
and_second false true h = refl
and_second false false h = h

pub and_out_first : {a : Bool} (b : Bool) → a ≡ false → (a && b) ≡ false
and_out_first {a} b p = rw p

pub and_out_second : (a : Bool) {b : Bool} → b ≡ false → (a && b) ≡ false
and_out_second true h = h
and_out_second false h = refl

pub or_first : {a : Bool} (b : Bool) → a ≡ true → (a || b) ≡ true
or_first {a} b p = rw p

pub or_second : (a : Bool) {b : Bool} → b ≡ true → (a || b) ≡ true
or_second true h = refl
or_second false h = h

pub or_neither : {a b : Bool} → a ≡ false → b ≡ false → (a || b) ≡ false
or_neither {a} {b} p q = rw (p, q)

-- of two tests of which one holds, and not the second
pub or_only_first : (a b : Bool) → (a || b) ≡ true → b ≡ false → a ≡ true
or_only_first true b h n = refl
or_only_first false b h n = absurd (not_both h n)

-- of two tests of which neither holds
pub neither_first : (a b : Bool) → (a || b) ≡ false → a ≡ false
neither_first true b h = h
neither_first false b h = refl

pub neither_second : (a b : Bool) → (a || b) ≡ false → b ≡ false
neither_second true b h = absurd (not_both refl h)
neither_second false b h = h

-- of a list of tests that all hold, the first and the rest
pub all_of_head : (t : Bool) (ts : List Bool) → all_of (t ∷ ts) ≡ true → t ≡ true
unfolding all_of
all_of_head t ts h = and_first t (all_of ts) h

pub all_of_tail : (t : Bool) (ts : List Bool) → all_of (t ∷ ts) ≡ true → all_of ts ≡ true
unfolding all_of
all_of_tail t ts h = and_second t (all_of ts) h

-- of two tests that hold in the same cases
pub same_test : (a b : Bool) → (a ≡ true → b ≡ true) → (b ≡ true → a ≡ true) → a ≡ b
same_test true true f g = refl
same_test true false f g = sym (f refl)
same_test false true f g = g refl
same_test false false f g = refl

-- two comparisons that agree
pub leb_same : (a b c d : ℕ) → (a ≤ b → c ≤ d) → (c ≤ d → a ≤ b) → leb a b ≡ leb c d
leb_same a b c d to from =
    by_test (leb a b) (λ t. t ∙ sym (le-leb c d (to (leb-true a b t))))
    (λ f. f ∙ sym (lt-leb c d (lt_of_not-le (λ h. not-le_of_lt (leb-false a b f) (from h)))))
