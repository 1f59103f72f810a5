use Rattle.frame_calls.proofs.Opening.{most-low, not_opened, left_over, low-slots, all_read}
use Rattle.frame_calls.proofs.open_in.Goals as goal

pub read_beginning_within-requires : goal.read_beginning_within-requires
read_beginning_within-requires c =
    let start = c in
    let pre = c.requires in
    rw c.most_slots-most.ensures (most-low start.args.frame.now start.args.i (pre))

pub returns-then-next-s : goal.returns-then-next-s
returns-then-next-s c =
    let start = c in
    let read-beginning-within = c.read_beginning_within in
    let least-slots = c.least_slots-least in
    let most-slots = c.most_slots-most in
    left_over start.args.frame.now start.args.i start.args.kept_evictions start.args.s.now read-beginning-within.new.t read-beginning-within.new.f start.args.cache.now _ _ least-slots.ensures most-slots.ensures read-beginning-within.result _ c.in-At.is c.if-next-s.true read-beginning-within.ensures

pub note_slots-requires : goal.note_slots-requires
note_slots-requires c =
    let start = c in
    let read-beginning-within = c.read_beginning_within in
    let least-slots = c.least_slots-least in
    let most-slots = c.most_slots-most in
    low-slots start.args.frame.now start.args.i start.args.kept_evictions start.args.s.now read-beginning-within.new.t read-beginning-within.new.f start.args.cache.now _ _ least-slots.ensures most-slots.ensures read-beginning-within.result _ c.in-At.is read-beginning-within.ensures

pub returns-in-Refused : goal.returns-in-Refused
returns-in-Refused c =
    let start = c in
    let read-beginning-within = c.read_beginning_within in
    let least-slots = c.least_slots-least in
    let most-slots = c.most_slots-most in
    not_opened start.args.frame.now start.args.i start.args.kept_evictions start.args.s.now read-beginning-within.new.t read-beginning-within.new.f start.args.cache.now _ _ least-slots.ensures most-slots.ensures read-beginning-within.result _ c.in-Refused.is read-beginning-within.ensures

pub returns-else-next-s : goal.returns-else-next-s
returns-else-next-s c =
    let start = c in
    let read-beginning-within = c.read_beginning_within in
    let least-slots = c.least_slots-least in
    let most-slots = c.most_slots-most in
    let pre = c.requires in
    all_read start.args.frame.now start.args.i start.args.kept_evictions start.args.s.now read-beginning-within.new.t read-beginning-within.new.f start.args.cache.now _ _ least-slots.ensures most-slots.ensures read-beginning-within.result _ c.in-At.is read-beginning-within.ensures c.if-next-s.false (pre) _ _ c.clear.ensures c.note_slots.ensures
