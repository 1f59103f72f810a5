-- `add_remat` meets its contract: 15, then 2, then what `add_named_remat` answers.
use mathlib.Core.Path.{sym, ◌∙◌}
use native.Mathlib.Omega.{arith}
use borrow.Author.Tests.{leb-true, leb-false, not-true, not-false}
use Rattle.entity.specs.Place.{place_at}
use Rattle.entries.proofs.Fates.{both-named, code_fits, value-fits}
use Rattle.entries.proofs.Adding.{refused-15, unnamed-remat}
use Rattle.entries.proofs.add_remat.Goals as goal

pub returns-then-is_full : goal.returns-then-is_full
returns-then-is_full c = let s = c in refused-15 _ _ _ _ s.requires.0 s.requires.1 _ (leb-true 128 _ (sym c.is_full.ensures ∙ c.if-is_full.true))

pub returns-then-not-names_remat : goal.returns-then-not-names_remat
returns-then-not-names_remat c =
    let s = c in
    unnamed-remat _ _ _ _ s.requires.0 s.requires.1 _ _ (leb-false 128 _ (sym c.is_full.ensures ∙ c.if-is_full.false)) (sym c.names_remat.ensures ∙ not-true _ c.if-not-names_remat.true-raw)

pub overflow_cast-dest : goal.overflow_cast-dest
overflow_cast-dest c =
    let s = c in
    let t = s.args.t.now in
    let f = s.args.f.now in
    omega (arith, code_fits t f s.requires.0 s.args.dest (both-named t f s.requires.0 (place_at s.args.dest) s.args.value (sym c.names_remat.ensures ∙ not-false _ c.if-not-names_remat.false-raw)).0)

pub overflow_cast-value : goal.overflow_cast-value
overflow_cast-value c =
    let s = c in
    let t = s.args.t.now in
    let f = s.args.f.now in
    omega (arith, value-fits t f s.requires.0 s.args.value (both-named t f s.requires.0 (place_at s.args.dest) s.args.value (sym c.names_remat.ensures ∙ not-false _ c.if-not-names_remat.false-raw)).1)

pub add_named_remat-requires : goal.add_named_remat-requires
add_named_remat-requires c =
    let s = c in
    let t = s.args.t.now in
    let f = s.args.f.now in
    let n = both-named t f s.requires.0 (place_at s.args.dest) s.args.value (sym c.names_remat.ensures ∙ not-false _ c.if-not-names_remat.false-raw) in
    (s.requires.0, s.requires.1, record { less = leb-false 128 _ (sym c.is_full.ensures ∙ c.if-is_full.false); dest-named = n.0; value-named = n.1 })
