-- The count, then as many numbers.
use mathlib.Core.Path.{refl}
use native.Mathlib.Omega.{arith}
use Rattle.schedule.proofs.Reading.{few-numbers, no-count, no-list, a-list}
use Rattle.schedule.proofs.read_list.Goals as goal

pub read_numbers-requires : goal.read_numbers-requires
read_numbers-requires c =
    let a = c.args in
    let b = c.below in
    omega (arith, few-numbers a.s.now a.at b.result b.ensures a.numbers.now _ _ c.in-Is.is)

pub returns-in-Refused : goal.returns-in-Refused
returns-in-Refused c =
    let a = c.args in
    let b = c.below in
    no-count a.s.now a.at b.result b.ensures a.numbers.now _ c.in-Refused.is

pub returns-in-Refused-read_numbers : goal.returns-in-Refused-read_numbers
returns-in-Refused-read_numbers c =
    let a = c.args in
    let b = c.below in
    let q = c.read_numbers in
    no-list a.s.now a.at b.result b.ensures q.new.numbers _ _ c.in-Is.is _ refl q.result q.ensures _ c.in-Refused-read_numbers.is

pub returns-in-At : goal.returns-in-At
returns-in-At c =
    let a = c.args in
    let b = c.below in
    let q = c.read_numbers in
    a-list a.s.now a.at b.result b.ensures q.new.numbers _ _ c.in-Is.is _ refl q.result q.ensures _ c.in-At.is
