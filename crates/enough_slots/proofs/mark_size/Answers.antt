-- One size is marked, of the 32.
use Rattle.reginfo.specs.Table.{reg_info_of}
use Rattle.reginfo.proofs.Accepted.{known-bank}
use Rattle.small_set.proofs.Laws.{store_true}
use Rattle.function.specs.Table.{function_of}
use Rattle.function.proofs.Laws.{known-value, bank-there}
use Rattle.enough_slots.proofs.Laws.{size_low}
use Rattle.enough_slots.proofs.mark_size.Goals as goal

pub value_bank-requires : goal.value_bank-requires
value_bank-requires c =
    let s = c in known-value (reg_info_of s.args.t.now) (function_of s.args.f.now) s.requires.0.function s.args.v.0 s.requires.1

pub spillslot_size-z-requires : goal.spillslot_size-z-requires
spillslot_size-z-requires c =
    let s = c in rw c.value_bank.ensures (known-bank (reg_info_of s.args.t.now) s.requires.0.target _ (bank-there (reg_info_of s.args.t.now) (function_of s.args.f.now) s.requires.0.function s.args.v.0 s.requires.1))

pub bounds-sizes-z : goal.bounds-sizes-z
bounds-sizes-z c =
    let s = c in
    rw (c.spillslot_size-z.ensures, c.value_bank.ensures) (size_low s.args.t.now s.args.f.now s.requires.0 s.args.v.0 s.requires.1)

pub returns : goal.returns
returns c =
    let s = c in
    rw (c.spillslot_size-z.ensures, c.value_bank.ensures) (store_true s.args.sizes.now _ (rw c.told-sizes (size_low s.args.t.now s.args.f.now s.requires.0 s.args.v.0 s.requires.1)))
