-- `read` meets its contract: the kind of a word decides.
use borrow.Author.Rules.{rules}
use borrow.Author.Tests.{ne_eqb}
use Rattle.edit.specs.Word.{kind_in, edit_of}
use Rattle.edit.proofs.read.Goals as goal

pub returns-in-1 : goal.returns-in-1
unfolding edit_of
returns-in-1 c = rw c.in-1.is

pub returns-in-2 : goal.returns-in-2
unfolding edit_of
returns-in-2 c = rw c.in-2.is

pub returns-in-3 : goal.returns-in-3
unfolding edit_of
returns-in-3 c = rw c.in-3.is c.spill_read.ensures

pub returns-in-4 : goal.returns-in-4
unfolding edit_of
returns-in-4 c = rw c.in-4.is c.reload_read.ensures

pub returns-in_default : goal.returns-in_default
unfolding edit_of
returns-in_default c = rw (ne_eqb (kind_in c.args.word) 1 (search rules), ne_eqb (kind_in c.args.word) 2 (search rules), ne_eqb (kind_in c.args.word) 3 (search rules), ne_eqb (kind_in c.args.word) 4 (search rules))
