-- What reading the five lists gives, and what the arrays keep of them.
use Rattle.std.specs.Prelude.{ℕ, ◌+◌, ◌/◌, ◌≡◌, List, ℤ, length, take}
use Rattle.kernel_rules.specs.Names.{Assignment}
use Rattle.kernel_rules.specs.Tables.{values_given, are_whole, numbers, counts_in, times_in, rates_in}
use Rattle.kernel_values.specs.Reads.{times_of, rates_of}
use Rattle.kernel_tables.specs.Given.{field_room, partition_room, segment_room}
use Rattle.kernel_listing.specs.declared.Listing.{Listing}
use Rattle.kernel_listing.specs.declared.Listed.{Listed}
use Rattle.kernel_listing.specs.declared.Rows.{Rows}
use Rattle.kernel_listing.specs.Lists.{list_ok, rows_exact, lists_good, lists_exact}

unfoldable pub listed_of : List Assignment → Listed
listed_of g = record { good = list_ok g; exact = are_whole (values_given g); count = length (values_given g) }

-- of the coefficients the first column has the values 0, 3, .., the second 1, 4, .., the third 2, 5, ..
unfoldable pub rows_of : List Assignment → Rows
rows_of g =
    record {
      good = list_ok g;
      exact = rows_exact (values_given g);
      counts = (length (values_given g) + 2) / 3;
      times = (length (values_given g) + 1) / 3;
      rates = length (values_given g) / 3;
    }

-- the arrays have room for one number more than the lists may have
pub record Room (ms os ss es cs : List ℕ) (ts : List ℤ) (rs : List ℕ) : Type 0 where
  pub moduli : length ms ≡ field_room
  pub offsets : length os ≡ field_room
  pub starts : length ss ≡ partition_room
  pub ends : length es ≡ partition_room
  pub counts : length cs ≡ segment_room
  pub times : length ts ≡ segment_room
  pub rates : length rs ≡ segment_room

-- how long the lists of partitions and of segments are, kept or not
pub record Counted (g : ℕ → List Assignment) (r : Listing) : Type 0 where
  pub starts : r.starts ≡ length (numbers (values_given (g 8)))
  pub ends : r.ends ≡ length (numbers (values_given (g 9)))
  pub counts : r.counts ≡ length (numbers (counts_in (values_given (g 7))))
  pub times : r.times ≡ length (times_of (times_in (values_given (g 7))))
  pub rates : r.rates ≡ length (rates_of (rates_in (values_given (g 7))))

-- what is told of the lists, and what the arrays keep of them
pub record ListsKept (g : ℕ → List Assignment) (r : Listing) (ms os ss es cs : List ℕ) (ts : List ℤ) (rs : List ℕ) : Type 0 where
  pub good : r.good ≡ lists_good g
  pub exact : r.exact ≡ lists_exact g
  pub moduli : take r.moduli ms ≡ take field_room (numbers (values_given (g 4)))
  pub offsets : take r.offsets os ≡ take field_room (numbers (values_given (g 5)))
  pub starts : take r.starts ss ≡ take partition_room (numbers (values_given (g 8)))
  pub ends : take r.ends es ≡ take partition_room (numbers (values_given (g 9)))
  pub counts : take r.counts cs ≡ take segment_room (numbers (counts_in (values_given (g 7))))
  pub times : take r.times ts ≡ take segment_room (times_of (times_in (values_given (g 7))))
  pub rates : take r.rates rs ≡ take segment_room (rates_of (rates_in (values_given (g 7))))
  pub counted : Counted g r
