-- Two's complement, and a time's eight bytes.
use Rattle.std.proofs.Common.{◌≡◌, ℕ, suc, ◌-◌, ◌/◌, ◌^◌, List, ◌++◌, ltb, ℤ, pos, negsuc, refl, ap, ◌∙◌, arith, w64, to_z, of_z}
use Rattle.std.specs.Int.{to_le_bytes}
use Rattle.base.proofs.Tests.{by_test}
use Rattle.c_rules.specs.Numbers.{signed_of, unsigned_of, bytes_of, time_bytes}

pub signed_is : (w : ℕ) (t : ℤ) → t ≡ to_z w64 w → t ≡ signed_of w
unfolding signed_of
signed_is w t e =
    let same : 2 ^ 64 - suc w ≡ 2 ^ 64 - 1 - w = omega arith in
    e ∙ by_test (ltb w (2 ^ 63)) (λ t. rw t) (λ f. rw (f, same))

unsigned_is : (t : ℤ) → of_z w64 t ≡ unsigned_of t
unfolding unsigned_of
unsigned_is (pos n) = refl
unsigned_is (negsuc n) = omega arith

bytes_are : (w : ℕ) → to_le_bytes w64 w ≡ bytes_of 8 w
unfolding bytes_of
bytes_are w =
    let e2 : w / 256 / 256 ≡ w / 65_536 = omega arith in
    let e3 : w / 65_536 / 256 ≡ w / 16_777_216 = omega arith in
    let e4 : w / 16_777_216 / 256 ≡ w / 4_294_967_296 = omega arith in
    let e5 : w / 4_294_967_296 / 256 ≡ w / 1_099_511_627_776 = omega arith in
    let e6 : w / 1_099_511_627_776 / 256 ≡ w / 281_474_976_710_656 = omega arith in
    let e7 : w / 281_474_976_710_656 / 256 ≡ w / 72_057_594_037_927_936 = omega arith in
    rw (e2, e3, e4, e5, e6, e7)

pub time_put : (t : ℤ) (rest bytes written : List ℕ) → bytes ≡ to_le_bytes w64 (of_z w64 t) → written ≡ bytes → written ++ rest ≡ time_bytes t ++ rest
unfolding time_bytes
time_put t rest bytes written e w = ap (λ (l : List ℕ). l ++ rest) (w ∙ e ∙ bytes_are (of_z w64 t) ∙ ap (bytes_of 8) (unsigned_is t))
