-- `first_pass` meets its contract: the first moves are dealt with, and the others are left.
use Rattle.closing.specs.State.{work}
use Rattle.visiting.proofs.Passing.{first_for, Passing}
use Rattle.visiting.proofs.first_pass.Given as goal

abbrev pub invariant-loop-m : goal.invariant-loop-m
invariant-loop-m l =
    Passing l.t l.f l.cache l.e (first_for l.t l.f l.cache l.e) l.initial.q (work l.initial.edits l.initial.available l.initial.slots l.initial.sources l.initial.d l.initial.marks l.initial.c) l.m l.q (work l.edits l.available l.slots l.sources l.d l.marks l.c)
