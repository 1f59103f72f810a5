-- The trials of numbers, computed.
use mathlib.Core.Path.{refl}
use Rattle.number.specs.Number.{groups, number, groups_of}
use Rattle.number.specs.Trials.{Trials}

pub trials : Trials
unfolding groups number groups_of
trials = record {
  zero-is-read = refl;
  last-of-one = refl;
  first-of-two = refl;
  low-group-first = refl;
  last-of-all = refl;
  written = refl;
  no_byte = refl;
  cut_off = refl;
  not-shortest = refl;
  not-shortest-later = refl;
  two-to-the-32 = refl;
  over-five = refl;
}
