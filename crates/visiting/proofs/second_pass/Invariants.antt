-- `second_pass` meets its contract: the first moves are visited, and the others are left.
use lib.ListN.{length}
use Rattle.visits.specs.Marks.{moves_of}
use Rattle.closing.specs.State.{work}
use Rattle.visiting.proofs.Visited.{visit_for}
use Rattle.visiting.proofs.Passing.{Passing}
use Rattle.visiting.proofs.second_pass.Given as goal

abbrev pub invariant-loop-m : goal.invariant-loop-m
invariant-loop-m l =
    Passing l.t l.f l.cache l.e (visit_for l.t l.f l.cache l.e (length (moves_of l.e))) l.initial.q (work l.initial.edits l.initial.available l.initial.slots l.initial.sources l.initial.d l.initial.marks l.initial.c) l.m l.q (work l.edits l.available l.slots l.sources l.d l.marks l.c)
