-- The calls: the tables first.
use Rattle.rules.specs.declared.refusal.Refusal.{Refusal}
use Rattle.std.specs.Prelude.{Result, Ok, Err}
use Prim.Native.Nat.{ℕ, ◌≤◌}
use mathlib.Core.Path.{◌≡◌}
use mathlib.Core.List.{List}
use lib.ListN.{length}
use Rattle.rules.specs.Limits.{most_fields}
use Rattle.rules.specs.declared.Layout.{Layout}
use Rattle.rules.specs.declared.Reading.{Reading}
use Rattle.rules.specs.Answer.{Answer, refused, and_then, as_numbered, answer_of}
use Rattle.rules.specs.Layout.{moduli_of, offsets_of, product_of}
use Rattle.rules.specs.Partitions.{Partitions}
use Rattle.rules.specs.Text.{parse_text, read_text}
use Rattle.rules.specs.Stamp.{parse_stamp, encode, read_stamp}
use Rattle.rules.specs.Facts.{LayoutFacts}
use Rattle.layouts.specs.declared.Measured.{Measured}
use Rattle.layouts.specs.Measure.{measure_of}
use Rattle.tables.specs.declared.Basis.{Basis}
use Rattle.tables.specs.Accept.{stamps_basis}
use Rattle.tables.proofs.Accepted.{layout_refused, layout_good, layout_accepted, stamps_refused, stamps_facts, stamps_accepted}
use Rattle.encode.specs.Listed.{Listed}
use Rattle.encode.proofs.Sums.{listed}

module _ (l : Layout) where
  pub some_fields : LayoutFacts l → 1 ≤ l.n
  some_fields f = f.fields

  pub few_fields : (xs : List ℕ) → LayoutFacts l → length xs ≡ most_fields → l.n ≤ length xs
  few_fields xs f h = rw h f.few_fields

  module _ (m : Result Measured Refusal) (e : answer_of m ≡ measure_of l) where
    pub text_refused : (s : List ℕ) (k : Refusal) → m ≡ Err k → refused (as_numbered k) ≡ read_text l s
    unfolding read_text
    text_refused s k h = layout_refused l m e k _ h

    module _ (v : Measured) (h : m ≡ Ok v) where
      pub text_layout : LayoutFacts l
      text_layout = layout_good l m e v h

      pub text_accepted : (s : List ℕ) (a : Answer Reading) → a ≡ parse_text (moduli_of l) (offsets_of l) s → a ≡ read_text l s
      unfolding read_text
      text_accepted s a f = layout_accepted l m e v h a _ f

    module _ (p : Partitions) (r : Result Basis Refusal) (f : answer_of r ≡ and_then (answer_of m) (stamps_basis p)) where
      pub stamp_refused : (s : List ℕ) (k : Refusal) → r ≡ Err k → refused (as_numbered k) ≡ read_stamp l p s
      unfolding read_stamp
      stamp_refused s k h = stamps_refused l p m e r f k _ h

      module _ (b : Basis) (h : r ≡ Ok b) where
        pub stamp_layout : LayoutFacts l
        stamp_layout = (stamps_facts l p m e r f b h).layout

        pub stamp_listed : Listed p
        stamp_listed = listed (product_of l) p (stamps_facts l p m e r f b h).partitions

        pub stamp_accepted : (s : List ℕ) (a : Answer Reading) → a ≡ and_then (parse_stamp (moduli_of l) (offsets_of l) s) (encode p) → a ≡ read_stamp l p s
        unfolding read_stamp
        stamp_accepted s a g = stamps_accepted l p m e r f b h a _ g
