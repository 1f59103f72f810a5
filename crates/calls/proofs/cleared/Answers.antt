-- `cleared` meets its contract: only the cache of an opened function is cleared.
use Rattle.calls.proofs.Opening.{cache-kept, cache-cleared}
use Rattle.calls.proofs.cleared.Goals as goal

pub returns-in-Refused : goal.returns-in-Refused
returns-in-Refused c x t f h = cache-kept t f c.args.cache.now x _ (rw c.in-Refused.is at h)

pub returns-in-Yes : goal.returns-in-Yes
returns-in-Yes c x t f h = cache-cleared t f c.args.cache.now x _ (rw c.in-Yes.is at h) c.clear.ensures
