-- `put_edge_at` meets its contract.
use Rattle.edges.proofs.Laws.{part-is, part-long, part-few}
use Rattle.price_text.proofs.put_edge_at.Goals as goal

pub slice_bounds-put_edge-end : goal.slice_bounds-put_edge-end
slice_bounds-put_edge-end c = let s = c in part-long s.args.words.now s.args.from s.args.count s.requires.0

pub put_edge-requires : goal.put_edge-requires
put_edge-requires c =
    let s = c in
    (s.requires.2, s.requires.3, part-few s.args.words.now s.args.from s.args.count s.requires.1, s.requires.4, rw (part-is s.args.words.now s.args.from s.args.count) s.requires.5)

pub returns : goal.returns
returns c =
    let s = c in
    rw (part-is s.args.words.now s.args.from s.args.count) at c.put_edge.ensures
