-- "A clock has n cascading fields". The layout is accepted exactly where each of the tests holds.
use Rattle.std.specs.Prelude.{ℕ, ◌*◌, Bool, List, [], ◌∷◌, leb, take, drop}
use Rattle.base.specs.Scans.{all_of, all, product}
use Rattle.rules.specs.Limits.{most_fields, largest_offset, largest_p, largest_msf, last_delimiter, picoseconds}
use Rattle.rules.specs.declared.Layout.{Layout}

-- "Slots after the n-th are not looked at."
abbrev pub moduli_of : Layout → List ℕ
moduli_of l = take l.n l.moduli

abbrev pub offsets_of : Layout → List ℕ
offsets_of l = take l.n l.offsets

-- "P, the product of the moduli"
unfoldable pub product_of : Layout → ℕ
product_of l = product (moduli_of l)

-- "MSF, the product of all moduli but the first (1 if n is 1)": the ticks of one first-field count
unfoldable pub msf_of : Layout → ℕ
msf_of l = product (drop 1 (moduli_of l))

-- 1,000×MSF: a rate over it is a tick in nanoseconds
unfoldable pub unit_of : Layout → ℕ
unit_of l = picoseconds * msf_of l

-- "n from 1 to 10. Each has a modulus of at least 1 and an offset from 0 to 1,000. P .. is at most 10^15. MSF .. is at most 10^12."
-- "The output delimiter is a code", 1 to 5.
unfoldable pub layout_ok : Layout → Bool
layout_ok l =
    all_of
    (leb 1 l.n
    ∷ leb l.n most_fields
    ∷ all (λ m. leb 1 m) (moduli_of l)
    ∷ all (λ o. leb o largest_offset) (offsets_of l)
    ∷ leb (product_of l) largest_p
    ∷ leb (msf_of l) largest_msf
    ∷ leb 1 l.delimiter
    ∷ leb l.delimiter last_delimiter
    ∷ [])
