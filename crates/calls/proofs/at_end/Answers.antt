-- `at_end` meets its contract: 8 where something is left.
use Rattle.calls.proofs.Opening.{not_opened, left_over, all_read}
use Rattle.calls.proofs.at_end.Goals as goal

pub returns-then-next-s : goal.returns-then-next-s
returns-then-next-s c x t f h = left_over c.args.s.now t f x _ c.if-next-s.true (rw c.in-At.is at h)

pub returns-in-Refused : goal.returns-in-Refused
returns-in-Refused c x t f h = not_opened c.args.s.now t f x _ (rw c.in-Refused.is at h)

pub returns-else-next-s : goal.returns-else-next-s
returns-else-next-s c x t f h = all_read c.args.s.now t f x _ c.if-next-s.false (rw c.in-At.is at h)
