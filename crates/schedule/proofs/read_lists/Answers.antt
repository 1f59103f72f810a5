-- The free units, then the numbers of the entries.
use mathlib.Core.Path.{refl}
use Rattle.schedule.proofs.Reading.{no-free, no-numbers, a-patch}
use Rattle.schedule.proofs.read_lists.Goals as goal

pub returns-in-Refused : goal.returns-in-Refused
returns-in-Refused c =
    let a = c.args in
    let b = c.read_list in
    no-free a.s.now a.at b.new.numbers a.numbers.now b.result b.ensures _ c.in-Refused.is

pub returns-in-Refused-read_list : goal.returns-in-Refused-read_list
returns-in-Refused-read_list c =
    let a = c.args in
    let b = c.read_list in
    let q = c.read_list-in-Is in
    no-numbers a.s.now a.at b.new.numbers q.new.numbers b.result b.ensures _ _ c.in-Is.is q.result q.ensures _ c.in-Refused-read_list.is

pub returns-in-Is-read_list : goal.returns-in-Is-read_list
returns-in-Is-read_list c =
    let a = c.args in
    let b = c.read_list in
    let q = c.read_list-in-Is in
    a-patch a.s.now a.at b.new.numbers q.new.numbers b.result b.ensures _ _ c.in-Is.is q.result q.ensures _ _ c.in-Is-read_list.is _ _ refl refl
