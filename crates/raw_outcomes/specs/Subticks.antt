-- The subtick against document 002's words: "sub = round( 256.0 * (sub + 0.5) / 1000000.0)".
use Rattle.std.specs.Prelude.{ℕ, ◌+◌, ◌*◌, ◌≤◌, ◌<◌, ◌/◌, ◌%◌, ◌≡◌, leb, eqb}
use Rattle.rules.specs.Answer.{answer}
use Rattle.raw_rules.specs.Seconds.{largest_microsecond, subtick_of, read_seconds}

-- "round() - rounds range [N.5 to {N+1}.5) to {N+1}": n is the nearest whole number to x / d, half up. That is n - ½ ≤ x / d < n + ½, here multiplied by 2×d.
pub record Nearest (x d n : ℕ) : Type 0 where
  pub from : 2 * n * d ≤ 2 * x + d
  pub below : 2 * x < 2 * n * d + d

-- 256×(us + ½) / 10^6 is such a fraction: 256×(2×us + 1) / (2×10^6)
abbrev pub NearestSubtick : ℕ → ℕ → Type 0
NearestSubtick us n = Nearest (256 * (2 * us + 1)) (2 * 1_000_000) n

-- "998,047 carries"
abbrev pub first_carried : ℕ
first_carried = 998_047

-- A half is rounded up, as the words say; no subtick comes to one.
pub record HalfUp : Type 0 where
  pub up : Nearest 1 2 1
  pub not_down : Nearest 1 2 0 → ⊥
  pub no_half : (us n : ℕ) → 2 * (256 * (2 * us + 1)) ≡ (2 * n + 1) * (2 * 1_000_000) → ⊥

pub record Subticks : Type 0 where
  -- for every us, the subtick is the nearest, and nothing else is
  pub nearest : (us : ℕ) → NearestSubtick us (subtick_of us)
  pub only : (us n : ℕ) → NearestSubtick us n → n ≡ subtick_of us
  -- the count is seconds×256 + subtick, with a carry or without
  pub count : (seconds us : ℕ) → us ≤ largest_microsecond → read_seconds seconds us ≡ answer (seconds * 256 + subtick_of us)
  -- from where on a subtick is 256, and what second and subtick a count then has
  pub carries : (us : ℕ) → us ≤ largest_microsecond → eqb (subtick_of us) 256 ≡ leb first_carried us
  pub carried_seconds : (seconds us e : ℕ) → read_seconds seconds us ≡ answer e → first_carried ≤ us → (e / 256 ≡ seconds + 1) × (e % 256 ≡ 0)
  pub plain_seconds : (seconds us e : ℕ) → read_seconds seconds us ≡ answer e → us < first_carried → (e / 256 ≡ seconds) × (e % 256 ≡ subtick_of us)
