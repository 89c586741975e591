-- The sentence of a number that has none of its own.
use Prim.Native.Nat.{ℕ, zero, suc}
use mathlib.Core.Path.{◌≡◌, refl}
use Rattle.rules.specs.Examples.{bytes}
use Rattle.command_rules.specs.Sentences.{entry_or, sentences, sentence}

pub last_resort : (k : ℕ) → (k ≡ 1 → ⊥) → (k ≡ 2 → ⊥) → (k ≡ 3 → ⊥) → (k ≡ 4 → ⊥) → (k ≡ 5 → ⊥) → (k ≡ 6 → ⊥) → (k ≡ 7 → ⊥) → (k ≡ 8 → ⊥) → (k ≡ 9 → ⊥) → (k ≡ 10 → ⊥) → (k ≡ 11 → ⊥) → (k ≡ 12 → ⊥) → (k ≡ 13 → ⊥) → (k ≡ 14 → ⊥) → (k ≡ 16 → ⊥) → (k ≡ 18 → ⊥) → (k ≡ 19 → ⊥) → (k ≡ 20 → ⊥) → (k ≡ 21 → ⊥) → (k ≡ 22 → ⊥) → (k ≡ 23 → ⊥) → bytes "refused" ≡ sentence k
unfolding bytes entry_or sentences sentence
last_resort zero _ _ _ _ _ _ _ _ _ _ _ _ _ _ _ _ _ _ _ _ _ = refl
last_resort (suc zero) h _ _ _ _ _ _ _ _ _ _ _ _ _ _ _ _ _ _ _ _ = absurd (h refl)
last_resort (suc (suc zero)) _ h _ _ _ _ _ _ _ _ _ _ _ _ _ _ _ _ _ _ _ = absurd (h refl)
last_resort (suc (suc (suc zero))) _ _ h _ _ _ _ _ _ _ _ _ _ _ _ _ _ _ _ _ _ = absurd (h refl)
last_resort (suc (suc (suc (suc zero)))) _ _ _ h _ _ _ _ _ _ _ _ _ _ _ _ _ _ _ _ _ = absurd (h refl)
last_resort (suc (suc (suc (suc (suc zero))))) _ _ _ _ h _ _ _ _ _ _ _ _ _ _ _ _ _ _ _ _ = absurd (h refl)
last_resort (suc (suc (suc (suc (suc (suc zero)))))) _ _ _ _ _ h _ _ _ _ _ _ _ _ _ _ _ _ _ _ _ = absurd (h refl)
last_resort (suc (suc (suc (suc (suc (suc (suc zero))))))) _ _ _ _ _ _ h _ _ _ _ _ _ _ _ _ _ _ _ _ _ = absurd (h refl)
last_resort (suc (suc (suc (suc (suc (suc (suc (suc zero)))))))) _ _ _ _ _ _ _ h _ _ _ _ _ _ _ _ _ _ _ _ _ = absurd (h refl)
last_resort (suc (suc (suc (suc (suc (suc (suc (suc (suc zero))))))))) _ _ _ _ _ _ _ _ h _ _ _ _ _ _ _ _ _ _ _ _ = absurd (h refl)
last_resort (suc (suc (suc (suc (suc (suc (suc (suc (suc (suc zero)))))))))) _ _ _ _ _ _ _ _ _ h _ _ _ _ _ _ _ _ _ _ _ = absurd (h refl)
last_resort (suc (suc (suc (suc (suc (suc (suc (suc (suc (suc (suc zero))))))))))) _ _ _ _ _ _ _ _ _ _ h _ _ _ _ _ _ _ _ _ _ = absurd (h refl)
last_resort (suc (suc (suc (suc (suc (suc (suc (suc (suc (suc (suc (suc zero)))))))))))) _ _ _ _ _ _ _ _ _ _ _ h _ _ _ _ _ _ _ _ _ = absurd (h refl)
last_resort (suc (suc (suc (suc (suc (suc (suc (suc (suc (suc (suc (suc (suc zero))))))))))))) _ _ _ _ _ _ _ _ _ _ _ _ h _ _ _ _ _ _ _ _ = absurd (h refl)
last_resort (suc (suc (suc (suc (suc (suc (suc (suc (suc (suc (suc (suc (suc (suc zero)))))))))))))) _ _ _ _ _ _ _ _ _ _ _ _ _ h _ _ _ _ _ _ _ = absurd (h refl)
last_resort (suc (suc (suc (suc (suc (suc (suc (suc (suc (suc (suc (suc (suc (suc (suc zero))))))))))))))) _ _ _ _ _ _ _ _ _ _ _ _ _ _ _ _ _ _ _ _ _ = refl
last_resort (suc (suc (suc (suc (suc (suc (suc (suc (suc (suc (suc (suc (suc (suc (suc (suc zero)))))))))))))))) _ _ _ _ _ _ _ _ _ _ _ _ _ _ h _ _ _ _ _ _ = absurd (h refl)
last_resort (suc (suc (suc (suc (suc (suc (suc (suc (suc (suc (suc (suc (suc (suc (suc (suc (suc zero))))))))))))))))) _ _ _ _ _ _ _ _ _ _ _ _ _ _ _ _ _ _ _ _ _ = refl
last_resort (suc (suc (suc (suc (suc (suc (suc (suc (suc (suc (suc (suc (suc (suc (suc (suc (suc (suc zero)))))))))))))))))) _ _ _ _ _ _ _ _ _ _ _ _ _ _ _ h _ _ _ _ _ = absurd (h refl)
last_resort (suc (suc (suc (suc (suc (suc (suc (suc (suc (suc (suc (suc (suc (suc (suc (suc (suc (suc (suc zero))))))))))))))))))) _ _ _ _ _ _ _ _ _ _ _ _ _ _ _ _ h _ _ _ _ = absurd (h refl)
last_resort (suc (suc (suc (suc (suc (suc (suc (suc (suc (suc (suc (suc (suc (suc (suc (suc (suc (suc (suc (suc zero)))))))))))))))))))) _ _ _ _ _ _ _ _ _ _ _ _ _ _ _ _ _ h _ _ _ = absurd (h refl)
last_resort (suc (suc (suc (suc (suc (suc (suc (suc (suc (suc (suc (suc (suc (suc (suc (suc (suc (suc (suc (suc (suc zero))))))))))))))))))))) _ _ _ _ _ _ _ _ _ _ _ _ _ _ _ _ _ _ h _ _ = absurd (h refl)
last_resort (suc (suc (suc (suc (suc (suc (suc (suc (suc (suc (suc (suc (suc (suc (suc (suc (suc (suc (suc (suc (suc (suc zero)))))))))))))))))))))) _ _ _ _ _ _ _ _ _ _ _ _ _ _ _ _ _ _ _ h _ = absurd (h refl)
last_resort (suc (suc (suc (suc (suc (suc (suc (suc (suc (suc (suc (suc (suc (suc (suc (suc (suc (suc (suc (suc (suc (suc (suc zero))))))))))))))))))))))) _ _ _ _ _ _ _ _ _ _ _ _ _ _ _ _ _ _ _ _ h = absurd (h refl)
last_resort (suc (suc (suc (suc (suc (suc (suc (suc (suc (suc (suc (suc (suc (suc (suc (suc (suc (suc (suc (suc (suc (suc (suc (suc k)))))))))))))))))))))))) _ _ _ _ _ _ _ _ _ _ _ _ _ _ _ _ _ _ _ _ _ = refl
