use borrow.Author.Rules.{rules}
use mathlib.Core.Path.{sym, ◌∙◌}
use Rattle.kernel_listing.proofs.Lists.{place_4, place_5, place_7, place_8, place_9, lists_good_lem, lists_exact_lem, list_length, rows_lengths, front_roomed}
use Rattle.kernel_listing.proofs.read_lists.Goals as goal

pub read_list-m-requires : goal.read_list-m-requires
read_list-m-requires c = place_4 _ _ c.requires.placed

pub read_list-o-requires : goal.read_list-o-requires
read_list-o-requires c = search (place_5, rules)

pub read_rows-c-requires-clause-at_in_bounds : goal.read_rows-c-requires-clause-at_in_bounds
read_rows-c-requires-clause-at_in_bounds c = place_7 _ _ c.requires.placed

pub read_rows-c-requires-clause-times_len : goal.read_rows-c-requires-clause-times_len
read_rows-c-requires-clause-times_len c = (c.requires.room.times ∙ sym c.requires.room.counts, c.requires.room.rates ∙ sym c.requires.room.counts)

pub read_list-s-requires : goal.read_list-s-requires
read_list-s-requires c = place_8 _ _ c.requires.placed

pub read_list-e-requires : goal.read_list-e-requires
read_list-e-requires c = place_9 _ _ c.requires.placed

pub returns : goal.returns
returns c = let columns = rows_lengths c.read_rows-c.result _ c.read_rows-c.ensures.value in
    record {
      good = lists_good_lem _ c.read_list-m.result c.read_list-o.result c.read_list-s.result c.read_list-e.result c.read_rows-c.result c.read_list-m.ensures.value c.read_list-o.ensures.value c.read_list-s.ensures.value c.read_list-e.ensures.value c.read_rows-c.ensures.value _ c.all_five.ensures;
      exact = lists_exact_lem _ c.read_list-m.result c.read_list-o.result c.read_list-s.result c.read_list-e.result c.read_rows-c.result c.read_list-m.ensures.value c.read_list-o.ensures.value c.read_list-s.ensures.value c.read_list-e.ensures.value c.read_rows-c.ensures.value _ c.all_five-2.ensures;
      moduli = front_roomed _ _ _ _ c.requires.room.moduli c.read_list-m.ensures.out_after;
      offsets = front_roomed _ _ _ _ c.requires.room.offsets c.read_list-o.ensures.out_after;
      starts = front_roomed _ _ _ _ c.requires.room.starts c.read_list-s.ensures.out_after;
      ends = front_roomed _ _ _ _ c.requires.room.ends c.read_list-e.ensures.out_after;
      counts = front_roomed _ _ _ _ c.requires.room.counts c.read_rows-c.ensures.counts_after;
      times = front_roomed _ _ _ _ c.requires.room.counts c.read_rows-c.ensures.times_after;
      rates = front_roomed _ _ _ _ c.requires.room.counts c.read_rows-c.ensures.rates_after;
      counted =
          record {
            starts = list_length c.read_list-s.result _ c.read_list-s.ensures.value;
            ends = list_length c.read_list-e.result _ c.read_list-e.ensures.value;
            counts = columns.0;
            times = columns.1;
            rates = columns.2;
          };
    }
