-- `key_at` meets its contract: the key stands in its cell, which is in the table since there are few keys.
use mathlib.Core.Path.{sym}
use native.Mathlib.Omega.{arith}
use Rattle.sparse.proofs.Laws.{length-keys, key-there}
use Rattle.sparse.proofs.key_at.Goals as goal

pub overflow_mul-result : goal.overflow_mul-result
overflow_mul-result c = omega (arith, length-keys c.args.t.now)

pub overflow_add-result : goal.overflow_add-result
overflow_add-result c = omega (arith, length-keys c.args.t.now)

pub offset_bounds-t-j : goal.offset_bounds-t-j
offset_bounds-t-j c = omega (arith, length-keys c.args.t.now)

pub bounds-t-j : goal.bounds-t-j
bounds-t-j c = omega (arith, length-keys c.args.t.now)

pub returns : goal.returns
returns c = sym (key-there c.args.t.now c.args.j c.requires.1)
