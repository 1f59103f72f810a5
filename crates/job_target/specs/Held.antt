-- A bank as the table holds it: 65535 stands for every class number from there on, which the class count refuses.
use Rattle.std.specs.Prelude.{ℕ, List, ltb}
use Rattle.entity.specs.Logic.{pick}
use Rattle.reginfo.specs.RegInfo.{Bank}
use Rattle.number.specs.Read.{Read, got, then}
use Rattle.number.specs.Number.{number}
use Rattle.reading.specs.Reading.{between}

abbrev pub held : ℕ → ℕ
held n = pick (ltb n 65535) n 65535

unfoldable pub held_bank : Bank → Bank
held_bank b = record { size = b.size; top = held b.top; stack = held b.stack }

unfoldable pub bank_held : List ℕ → Read Bank
bank_held l = then (between 0 31 l) (λ size r. then (number r) (λ top q. then (number q) (λ stack p. got (record { size = size; top = held top; stack = held stack }) p)))
