use mathlib.Core.Path.{refl}
use Rattle.price.specs.Price.{in_range, price_in, total_of}
use Rattle.cheaper.specs.Cheaper.{refused19, choice_of}
use Rattle.cheaper.specs.Trials.{Trials}

pub trials : Trials
unfolding in_range price_in total_of refused19 choice_of
trials = record {
  moves-first = refl;
  same_first = refl;
  others-nothing = refl;
  by_kind = refl;
  both-empty = refl;
  price-outside = refl;
  longest = refl;
  first-too-long = refl;
  second-too-long = refl;
}
