-- `add_named_move` meets its contract: 9, then 10, then what `place_move` answers.
use mathlib.Core.Path.{sym, ◌∙◌}
use Rattle.entity.specs.Place.{place_at}
use borrow.Author.Tests.{not-true, not-false}
use Rattle.entries.proofs.Fates.{writable, value-known}
use Rattle.entries.proofs.Adding.{same_code, foreign-source, foreign-dest, self-move}
use Rattle.entries.proofs.add_named_move.Goals as goal

pub value_bank-bank-requires : goal.value_bank-bank-requires
value_bank-bank-requires c = (value-known c.args.t.now c.args.f.now c.requires.0 c.args.v.0 c.requires.2.rest.value-named).0

pub of_bank-requires : goal.of_bank-requires
of_bank-requires c = let s = c in (writable _ _ s.requires.0 (place_at s.args.source.0) s.requires.2.source-named).known

pub returns-then-not-of_bank : goal.returns-then-not-of_bank
returns-then-not-of_bank c =
    let s = c in
    foreign-source _ _ _ _ s.requires.0 s.requires.1 _ _ _ s.requires.2 (rw (← c.value_bank-bank.ensures) (sym c.of_bank.ensures ∙ not-true _ c.if-not-of_bank.true-raw))

pub of_bank-requires-2 : goal.of_bank-requires-2
of_bank-requires-2 c = let s = c in (writable _ _ s.requires.0 (place_at s.args.dest.0) s.requires.2.rest.dest-named).known

pub returns-then-not-of_bank-2 : goal.returns-then-not-of_bank-2
returns-then-not-of_bank-2 c =
    let s = c in
    foreign-dest _ _ _ _ s.requires.0 s.requires.1 _ _ _ s.requires.2 (rw (← c.value_bank-bank.ensures) (sym c.of_bank.ensures ∙ not-false _ c.if-not-of_bank.false-raw)) (rw (← c.value_bank-bank.ensures) (sym c.of_bank-2.ensures ∙ not-true _ c.if-not-of_bank-2.true-raw))

pub returns-then-eq : goal.returns-then-eq
returns-then-eq c =
    let s = c in
    self-move _ _ _ _ s.requires.0 s.requires.1 _ _ _ s.requires.2 (rw (← c.value_bank-bank.ensures) (sym c.of_bank.ensures ∙ not-false _ c.if-not-of_bank.false-raw)) (rw (← c.value_bank-bank.ensures) (sym c.of_bank-2.ensures ∙ not-false _ c.if-not-of_bank-2.false-raw)) (same_code _ _ ∙ sym c.if-eq.ensures)

pub place_move-requires : goal.place_move-requires
place_move-requires c =
    let s = c in
    let n = s.requires.2 in (
      s.requires.0,
      s.requires.1,
      record {
        less = n.rest.less;
        source-named = n.source-named;
        dest-named = n.rest.dest-named;
        value-named = n.rest.value-named;
        source-bank = rw (← c.value_bank-bank.ensures) (sym c.of_bank.ensures ∙ not-false _ c.if-not-of_bank.false-raw);
        dest-bank = rw (← c.value_bank-bank.ensures) (sym c.of_bank-2.ensures ∙ not-false _ c.if-not-of_bank-2.false-raw);
        differ = same_code _ _ ∙ sym c.if-eq.ensures;
      },
    )
