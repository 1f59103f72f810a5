-- What is packed into the allocator's number is read back from it.
use Prim.Native.Nat.{ℕ, suc, ◌+◌, ◌*◌, ◌/◌, ◌%◌, ◌<◌}
use mathlib.Core.Path.{◌≡◌, ap, ◌∙◌}
use mathlib.Core.List.{List}
use native.Mathlib.Omega.{arith}
use Rattle.reginfo.specs.RegInfo.{RegInfo}
use Rattle.reginfo.specs.Refused.{Accepted}
use Rattle.reginfo.proofs.Accepted.{regs-fit, banks-fit}
use Rattle.scratch.specs.declared.Held.{Held}
use Rattle.scratch.specs.declared.Evicted.{Evicted}
use Rattle.scratch.specs.declared.Evicted.TheVariants.{Nothing, One, Two}
use Rattle.scratch.specs.declared.ScratchAllocator.{ScratchAllocator}
use Rattle.scratch.specs.State.{word_of, held_at, held_in, made_of, evicted_in, Small, AllSmall, Keeps, HeldFits, AllFit, T, Fits}

-- what a target names is small enough
module _ (t : RegInfo) (ok : Accepted t) where
  pub small : (e : Held) → HeldFits t e → Small e
  small e h = (omega (arith, h.0, (regs-fit t ok).1), h.1, omega (arith, h.2, (banks-fit t ok).1))

  all_small : (v : Evicted) → AllFit t v → AllSmall v
  all_small Nothing h = tt
  all_small (One e) h = small e h
  all_small (Two e o) h = (small e h.0, small o h.1)

pub held_small : {a b n : ℕ} {t : List ℕ} {k : ScratchAllocator} {edits slots cache : List ℕ} → Accepted (T t) → Fits a b n t k edits slots cache → AllSmall (evicted_in k)
held_small {a} {b} {n} {t} {k} ok h = all_small (T t) ok (evicted_in k) h.held

module _ (e : Held) (h : Small e) where
  abbrev body : ℕ
  body = (e.reg.0 * 8192 + e.slot.0) * 8 + e.bank.0

  pub low : word_of e < 67108864
  unfolding word_of
  low = omega (arith, h.0, h.1, h.2)

  reg_at : body / 65536 ≡ e.reg.0
  reg_at = omega (arith, h.1, h.2)

  slot_at : body / 8 ≡ e.reg.0 * 8192 + e.slot.0
  slot_at = omega (arith, h.2)

  slot-in : body / 8 % 8192 ≡ e.slot.0
  slot-in = ap (λ (x : ℕ). x % 8192) slot_at ∙ omega (arith, h.1)

  bank-at : body % 8 ≡ e.bank.0
  bank-at = omega (arith, h.2)

  held_back : held_at body ≡ e
  unfolding held_at
  held_back = rw (reg_at, slot-in, bank-at)

  word-is : word_of e ≡ suc body
  unfolding word_of
  word-is = omega arith

-- none, one or two
one-back : (e : Held) → Small e → held_in (word_of e) 0 ≡ One e
one-back e h = rw (word-is e h, held_back e h)

two_back : (e o : Held) → Small e → Small o → held_in (word_of e) (word_of o) ≡ Two e o
two_back e o h g = rw (word-is e h, word-is o g, held_back e h, held_back o g)

module _ (k k' : ScratchAllocator) where
  -- the parts of a number
  made-low : made_of k < 4096
  unfolding made_of
  made-low = omega arith

  parts : (n o : ℕ) → n < 67108864 → k'.packed ≡ (o * 67108864 + n) * 4096 + made_of k → (evicted_in k' ≡ held_in n o) × (made_of k' ≡ made_of k)
  unfolding evicted_in made_of
  parts n o h e =
      let whole : k'.packed / 4096 ≡ o * 67108864 + n = omega (arith, e) in
      let newer : k'.packed / 4096 % 67108864 ≡ n = ap (λ (x : ℕ). x % 67108864) whole ∙ omega (arith, h) in
      let older : k'.packed / 274877906944 ≡ o = omega (arith, e, h) in
      (rw (newer, older), omega (arith, e))

  pub none_kept : k'.packed ≡ k.packed % 4096 → Keeps Nothing k k'
  unfolding made_of
  none_kept e = let p = parts 0 0 (omega arith) (omega (arith, e)) in record { is = p.0; made = p.1 }

  pub one_kept : (e : Held) → Small e → k'.packed ≡ word_of e * 4096 + k.packed % 4096 → Keeps (One e) k k'
  unfolding made_of
  one_kept e h q = let p = parts (word_of e) 0 (low e h) (omega (arith, q)) in record { is = p.0 ∙ one-back e h; made = p.1 }

  pub two-kept : (e o : Held) → Small e → Small o → k'.packed ≡ (word_of o * 67108864 + word_of e) * 4096 + k.packed % 4096 → Keeps (Two e o) k k'
  unfolding made_of
  two-kept e o h g q = let p = parts (word_of e) (word_of o) (low e h) q in record { is = p.0 ∙ two_back e o h g; made = p.1 }

  -- a slot more
  pub one_more : made_of k < 4095 → k'.packed ≡ k.packed + 1 → (evicted_in k' ≡ evicted_in k) × (made_of k' ≡ made_of k + 1)
  unfolding evicted_in made_of
  one_more h e =
      let newer : k'.packed / 4096 ≡ k.packed / 4096 = omega (arith, e, h) in
      let older : k'.packed / 274877906944 ≡ k.packed / 274877906944 = omega (arith, e, h) in
      (rw (newer, older), omega (arith, e, h))

-- as it is read
pub none_in : (k : ScratchAllocator) → k.packed / 4096 % 67108864 ≡ 0 → Nothing ≡ evicted_in k
unfolding evicted_in
none_in k e = rw e

pub one_in : (k : ScratchAllocator) (n : ℕ) → k.packed / 4096 % 67108864 ≡ n + 1 → k.packed / 274877906944 ≡ 0 → One (held_at n) ≡ evicted_in k
unfolding evicted_in
one_in k n e d = let q : k.packed / 4096 % 67108864 ≡ suc n = omega (arith, e) in rw (q, d)

pub two_in : (k : ScratchAllocator) (n o : ℕ) → k.packed / 4096 % 67108864 ≡ n + 1 → k.packed / 274877906944 ≡ o + 1 → Two (held_at n) (held_at o) ≡ evicted_in k
unfolding evicted_in
two_in k n o e d =
    let q : k.packed / 4096 % 67108864 ≡ suc n = omega (arith, e) in
    let r : k.packed / 274877906944 ≡ suc o = omega (arith, d) in
    rw (q, r)

-- a new one
pub fresh : (k : ScratchAllocator) (n : ℕ) → n < 4096 → k.packed ≡ n → (evicted_in k ≡ Nothing) × (made_of k ≡ n)
unfolding evicted_in made_of
fresh k n h e =
    let newer : k.packed / 4096 ≡ 0 = omega (arith, h, e) in
    let none : k.packed / 4096 % 67108864 ≡ 0 = ap (λ (x : ℕ). x % 67108864) newer in
    (rw none, omega (arith, h, e))
