-- `remat` meets its contract.
use native.Mathlib.Omega.{arith}
use Rattle.remats.proofs.Known.{read_fits}
use Rattle.remats.proofs.Direct.{one-remat}
use Rattle.remats.proofs.remat.Goals as goal

pub push_remat-requires : goal.push_remat-requires
push_remat-requires c =
    let s = c in
    let fits = s.requires.0.fits s.args.i s.requires.1 in
    (s.requires.2, record { to-small = (read_fits _ _ _ c.remat_dest-to.ensures fits).small; from-small = omega arith; value-small = omega (arith, c.remat_value-v.ensures, fits.value) })

pub make_available-requires : goal.make_available-requires
make_available-requires c =
    let s = c in
    (read_fits _ _ _ c.remat_dest-to.ensures (s.requires.0.fits s.args.i s.requires.1)).known

pub returns : goal.returns
returns c =
    one-remat _ _ _ _ _ _ _ _ _ _ c.remat_dest-to.ensures c.remat_value-v.ensures c.push_remat.ensures c.make_available.ensures
