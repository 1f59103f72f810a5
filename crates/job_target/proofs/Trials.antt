-- The trials of targets, computed.
use mathlib.Core.Path.{refl}
use Rattle.entity.specs.Logic.{any_in, has}
use Rattle.number.specs.Number.{groups, number}
use Rattle.reading.specs.Reading.{tested, times, distinct}
use Rattle.job_target.specs.Target.{bank, reg, class, classes, target}
use Rattle.job_target.specs.Trials.{Trials}

pub trials : Trials
unfolding any_in has groups number tested times distinct bank reg class classes target
trials = record {
  swap-full = refl;
  nothing = refl;
  no-units = refl;
  units-513 = refl;
  banks-9 = refl;
  size_32 = refl;
  class-cut-off = refl;
  unknown-class = refl;
  great-class = refl;
  memory-2 = refl;
  foreign-bank = refl;
  units-none = refl;
  unit-twice = refl;
  unit-3 = refl;
  classes-65 = refl;
  member-twice = refl;
  members-many = refl;
  order-twice = refl;
  order-4097 = refl;
  order-4096 = refl;
  orders-4097 = refl;
}
