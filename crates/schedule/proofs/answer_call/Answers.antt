-- By its kind; after it the formula stands, and the others can.
use Rattle.schedule.specs.Lists.{called}
use lib.ListN.{drop}
use mathlib.Core.Path.{refl}
use native.Mathlib.Omega.{arith}
use Rattle.schedule.proofs.Standing.{stands_after}
use Rattle.schedule.proofs.Answering.{no_kind, takes-kind, patch-kind}
use Rattle.schedule.proofs.answer_call.Goals as goal

pub returns-then-kind-eq2 : goal.returns-then-kind-eq2
returns-then-kind-eq2 c =
    let s = c in
    let a = s.args in
    let b = c.below in
    let p = c.put_taken-len in
    let y = takes-kind a.frame.now p.new.frame a.i a.t.now a.f.now a.cache.now p.new.cache a.slots.now a.slots.now a.left a.left a.out.now p.new.out p.result a.s.now a.at _ b.result b.ensures _ _ c.in-Is.is c.if-kind-eq2.true refl p.ensures refl refl in
    record { answered_as = y; frame_ok = stands_after a.frame.now p.new.frame a.i a.t.now a.f.now a.cache.now p.new.cache a.slots.now a.slots.now a.left a.left a.out.now p.new.out p.result a.s.now a.at _ s.requires.0 s.requires.1 s.requires.2 s.requires.4 (omega (arith, s.well_formed.1.1.1.1.1.1.1.0)) (called (drop a.at a.s.now)) y }

pub returns-in-Refused : goal.returns-in-Refused
returns-in-Refused c =
    let s = c in
    let a = s.args in
    let b = c.below in
    let p = c.ended in
    let y = no_kind a.frame.now a.frame.now a.i a.t.now a.f.now a.cache.now a.cache.now a.slots.now a.slots.now a.left p.result.left a.out.now p.new.out p.result.len a.s.now a.at p.result.at b.result b.ensures _ c.in-Refused.is p.ensures.0 refl refl refl p.ensures.2 p.ensures.1 in
    record { answered_as = y; frame_ok = stands_after a.frame.now a.frame.now a.i a.t.now a.f.now a.cache.now a.cache.now a.slots.now a.slots.now a.left p.result.left a.out.now p.new.out p.result.len a.s.now a.at p.result.at s.requires.0 s.requires.1 s.requires.2 s.requires.4 (omega (arith, s.well_formed.1.1.1.1.1.1.1.0)) (called (drop a.at a.s.now)) y }

pub returns-else-kind-eq2 : goal.returns-else-kind-eq2
returns-else-kind-eq2 c =
    let s = c in
    let a = s.args in
    let b = c.below in
    let p = c.answer_patch in
    let y = patch-kind a.frame.now p.new.frame a.i a.t.now a.f.now a.cache.now p.new.cache a.slots.now p.new.slots a.left p.result.left a.out.now p.new.out p.result.len a.s.now a.at p.result.at b.result b.ensures _ _ c.in-Is.is c.if-kind-eq2.false p.ensures in
    record { answered_as = y; frame_ok = stands_after a.frame.now p.new.frame a.i a.t.now a.f.now a.cache.now p.new.cache a.slots.now p.new.slots a.left p.result.left a.out.now p.new.out p.result.len a.s.now a.at p.result.at s.requires.0 s.requires.1 s.requires.2 s.requires.4 (omega (arith, s.well_formed.1.1.1.1.1.1.1.0)) (called (drop a.at a.s.now)) y }
