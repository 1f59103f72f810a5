-- `step` meets its contract.
use mathlib.Core.Path.{refl}
use native.Mathlib.Omega.{arith}
use borrow.Author.Tests.{lt-ltb, le-ltb, lt-leb, le-leb}
use Rattle.arguments.proofs.step.Goals as goal

pub returns-then-n-ge4294967296 : goal.returns-then-n-ge4294967296
returns-then-n-ge4294967296 c = rw (le-ltb _ 4294967296 c.if-n-ge4294967296.true) (refl, omega arith)

pub returns-then-byte-lt48 : goal.returns-then-byte-lt48
returns-then-byte-lt48 c = rw (lt-ltb _ 4294967296 c.if-n-ge4294967296.false, lt-leb 48 _ c.if-byte-lt48.true) (refl, omega arith)

pub returns-then-byte-gt57 : goal.returns-then-byte-gt57
returns-then-byte-gt57 c = rw (lt-ltb _ 4294967296 c.if-n-ge4294967296.false, le-leb 48 _ c.if-byte-lt48.false, lt-leb _ 57 c.if-byte-gt57.true) (refl, omega arith)

pub returns : goal.returns
returns c = rw (lt-ltb _ 4294967296 c.if-n-ge4294967296.false, le-leb 48 _ c.if-byte-lt48.false, le-leb _ 57 c.if-byte-gt57.false) (refl, omega arith)
