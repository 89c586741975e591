-- The limits in code are the limits of the definitions.
use Rattle.std.specs.Prelude.{◌≡◌}
use Rattle.rules.specs.Limits.{
  most_fields,
  largest_p,
  largest_msf,
  largest_offset,
  last_delimiter,
  most_partitions,
  most_segments,
  latest_time,
  earliest_time,
  picoseconds,
  largest_rate,
  longest_text,
}
use Rattle.layouts.specs.declared.limits.Limits.{Limits}

pub record SameLimits (r : Limits) : Type 0 where
  pub most_fields : r.most_fields ≡ most_fields
  pub largest_p : r.largest_p ≡ largest_p
  pub largest_msf : r.largest_msf ≡ largest_msf
  pub largest_offset : r.largest_offset ≡ largest_offset
  pub last_delimiter : r.last_delimiter ≡ last_delimiter
  pub most_partitions : r.most_partitions ≡ most_partitions
  pub most_segments : r.most_segments ≡ most_segments
  pub latest_time : r.latest_time ≡ latest_time
  pub earliest_time : r.earliest_time ≡ earliest_time
  pub picoseconds : r.picoseconds ≡ picoseconds
  pub largest_rate : r.largest_rate ≡ largest_rate
  pub longest_text : r.longest_text ≡ longest_text
