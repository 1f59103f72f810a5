-- `put_patch` meets its contract: the line, then the lines of the words.
use Rattle.print.proofs.Printing.{patch-line-room, lines-room, patch-put}
use Rattle.print.proofs.put_patch.Goals as goal

pub put_patch_line-at-requires : goal.put_patch_line-at-requires
put_patch_line-at-requires c = let s = c in patch-line-room _ s.args.list.now _ _ _ _ s.requires.0 s.requires.1

pub put_edits-requires : goal.put_edits-requires
put_edits-requires c =
    let p = c in
    let s = p in
    (s.requires.0, lines-room _ s.args.list.now _ _ _ _ s.requires.0 _ _ p.put_patch_line-at.ensures s.requires.1)

pub returns : goal.returns
returns c =
    let e = c in
    let p = e in
    let s = p in
    patch-put _ s.args.list.now _ _ _ _ s.requires.0 _ _ p.put_patch_line-at.ensures e.put_edits.ensures
