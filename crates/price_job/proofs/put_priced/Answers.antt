-- `put_priced` meets its contract: the words are those of the job, and their text has room.
use mathlib.Core.Path.{◌≡◌, sym, ◌∙◌}
use borrow.Author.Rules.{rules}
use Rattle.price_job.proofs.Stood.{answered, refused, cut, text-stood, room-stood}
use Rattle.price_job.proofs.put_priced.Goals as goal

pub slice_bounds-put_edges-end : goal.slice_bounds-put_edges-end
slice_bounds-put_edges-end c =
    let s = c in
    let j = c.answer_job in
    let h = answered s.args.kept_evictions s.args.s.now s.args.words.now j.new.words s.requires.1 _ (rw c.in-Answered.is at j.ensures.wholly) in
    h.fits

pub slice_bounds-put_edges-end-in-Answered : goal.slice_bounds-put_edges-end-in-Answered
slice_bounds-put_edges-end-in-Answered c =
    let s = c in
    let j = c.answer_job in
    let h = answered s.args.kept_evictions s.args.s.now s.args.words.now j.new.words s.requires.1 _ (rw c.in-Answered.is at j.ensures.wholly) in
    cut s.args.kept_evictions s.args.s.now s.args.words.now j.new.words s.requires.1 _ _ h

pub put_edges-requires : goal.put_edges-requires
put_edges-requires c =
    let s = c in
    let j = c.answer_job in
    let h = answered s.args.kept_evictions s.args.s.now s.args.words.now j.new.words s.requires.1 _ (rw c.in-Answered.is at j.ensures.wholly) in
    (s.requires.0, rw (sym (cut s.args.kept_evictions s.args.s.now s.args.words.now j.new.words s.requires.1 _ _ h)) h.few, room-stood s.args.kept_evictions s.args.s.now s.args.words.now j.new.words s.requires.1 _ _ h s.args.p s.args.runs.now _ s.requires.0 s.requires.2)

pub slice_bounds-put_edges-end-in-Refused : goal.slice_bounds-put_edges-end-in-Refused
slice_bounds-put_edges-end-in-Refused c =
    let s = c in
    let j = c.answer_job in
    let h = refused s.args.kept_evictions s.args.s.now s.args.words.now j.new.words s.requires.1 _ _ (rw c.in-Refused.is at j.ensures.wholly) in
    h.fits

pub slice_bounds-put_edges-end-in-Refused-2 : goal.slice_bounds-put_edges-end-in-Refused-2
slice_bounds-put_edges-end-in-Refused-2 c =
    let s = c in
    let j = c.answer_job in
    let h = refused s.args.kept_evictions s.args.s.now s.args.words.now j.new.words s.requires.1 _ _ (rw c.in-Refused.is at j.ensures.wholly) in
    cut s.args.kept_evictions s.args.s.now s.args.words.now j.new.words s.requires.1 _ _ h

pub put_edges-requires-in-Refused : goal.put_edges-requires-in-Refused
put_edges-requires-in-Refused c =
    let s = c in
    let j = c.answer_job in
    let h = refused s.args.kept_evictions s.args.s.now s.args.words.now j.new.words s.requires.1 _ _ (rw c.in-Refused.is at j.ensures.wholly) in
    (s.requires.0, rw (sym (cut s.args.kept_evictions s.args.s.now s.args.words.now j.new.words s.requires.1 _ _ h)) h.few, room-stood s.args.kept_evictions s.args.s.now s.args.words.now j.new.words s.requires.1 _ _ h s.args.p s.args.runs.now _ s.requires.0 s.requires.2)

pub returns-in-Answered : goal.returns-in-Answered
returns-in-Answered c =
    let s = c in
    let j = c.answer_job in
    let h = answered s.args.kept_evictions s.args.s.now s.args.words.now j.new.words s.requires.1 _ (rw c.in-Answered.is at j.ensures.wholly) in
    record { put = rw (text-stood s.args.kept_evictions s.args.s.now s.args.words.now j.new.words s.requires.1 _ _ h s.args.p s.args.runs.now) at c.put_edges.ensures; anything = (tt, tt, tt, tt, tt, tt, tt, tt, tt, tt, tt, tt, tt, tt) }

pub returns-in-Refused : goal.returns-in-Refused
returns-in-Refused c =
    let s = c in
    let j = c.answer_job in
    let h = refused s.args.kept_evictions s.args.s.now s.args.words.now j.new.words s.requires.1 _ _ (rw c.in-Refused.is at j.ensures.wholly) in
    record { put = rw (text-stood s.args.kept_evictions s.args.s.now s.args.words.now j.new.words s.requires.1 _ _ h s.args.p s.args.runs.now) at c.put_edges-in-Refused.ensures; anything = (tt, tt, tt, tt, tt, tt, tt, tt, tt, tt, tt, tt, tt, tt) }
