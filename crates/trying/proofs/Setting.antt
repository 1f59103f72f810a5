-- A setting: the function's table with it, and what is reported.
use Prim.Native.Nat.{ℕ, zero, suc, ◌+◌, ◌-◌, ◌*◌, ◌<◌, ◌≤◌}
use native.Mathlib.Omega.{arith}
use mathlib.Core.Path.{◌≡◌, refl, sym, ap, subst, ◌∙◌}
use mathlib.Core.Bool.{Bool, true, false}
use mathlib.Core.List.{List, [], ◌∷◌, map}
use mathlib.Core.Option.{Option, none}
use borrow.Author.Tests.{eq-eqb, ne_eqb, le-ltb}
use lib.ListN.{length, get_or, set, replicate, get_or-replicate, length-map}
use lib.Seq.{get_or-set_same, get_or-set_other}
use Rattle.entity.specs.Logic.{pick, no, indices}
use Rattle.reginfo.specs.RegInfo.{RegInfo}
use Rattle.reginfo.specs.Refused.{or_else}
use Rattle.reginfo.specs.Table.{reg_info_of}
use Rattle.function.specs.Function.{ValueData, Function, num_values, value_bank, remat_cost, remat_class, is_setting}
use Rattle.function.specs.Refused as refused
use Rattle.function.specs.Known.{Checked}
use Rattle.function.specs.Table.{value_at, function_of}
use Rattle.rules.specs.Edit.{filter}
use Rattle.rules.specs.Scratch.{empty_cache}
use Rattle.rules.specs.Patch.{Answer}
use Rattle.slots.specs.Stacks.{cache_of}
use Rattle.price.specs.declared.Prices.{Prices}
use Rattle.price.specs.Totals.{added}
use Rattle.trying.specs.Tried.{Tries, no_tries, with_kept, drawings}
use Rattle.trying.specs.Report.{Reported, refusals_in, edits_in}
use Rattle.trying.specs.Steps.{cell_of, Room, Many, SettingTried}
use Rattle.trying.proofs.Tally.{not_some}

-- the values stand before the setting's cell
value_stays : (f : List ℕ) (k v : ℕ) → v < 4096 → value_at (set f 16387 k) v ≡ value_at f v
unfolding value_at
value_stays f k v h =
    rw (get_or-set_other f 16387 (v * 4) k 0 (λ e. omega arith), get_or-set_other f 16387 (1 + v * 4) k 0 (λ e. omega arith), get_or-set_other f 16387 (2 + v * 4) k 0 (λ e. omega arith))

values-stay : (f : List ℕ) (k i n : ℕ) → i + n ≤ 4096 → map (value_at (set f 16387 k)) (indices i n) ≡ map (value_at f) (indices i n)
unfolding indices
values-stay f k i zero h = refl
values-stay f k i (suc n) h =
    ap (λ (v : ValueData). v ∷ map (value_at (set f 16387 k)) (indices (i + 1) n)) (value_stays f k i (omega arith))
    ∙ ap (λ (l : List ValueData). value_at f i ∷ l) (values-stay f k (i + 1) n (omega arith))

many-values : (i n : ℕ) → length (indices i n) ≡ n
unfolding indices
many-values i zero = refl
many-values i (suc n) = ap suc (many-values (i + 1) n)

pub kept_set : (f : List ℕ) (k : ℕ) → length f ≡ 16388 → num_values (function_of f) ≤ 4096 → function_of (set f 16387 k) ≡ with_kept k (function_of f)
unfolding function_of
kept_set f k n h =
    let few : get_or f 16384 0 ≤ 4096 = omega (arith, h, length-map (indices 0 (get_or f 16384 0)) (value_at f), many-values 0 (get_or f 16384 0)) in
    rw (
      get_or-set_other f 16387 16384 k 0 (λ e. omega arith),
      get_or-set_other f 16387 16385 k 0 (λ e. omega arith),
      get_or-set_other f 16387 16386 k 0 (λ e. omega arith),
      get_or-set_same f 16387 k 0 (omega arith),
      values-stay f k 0 (get_or f 16384 0) (omega arith),
    )

-- an accepted function is accepted at each setting
values_same : (t : RegInfo) (f : Function) (k : ℕ) (l : List ℕ) → refused.values_refusal t (with_kept k f) l ≡ refused.values_refusal t f l
unfolding refused.values_refusal refused.value_fits refused.foreign_class value_bank remat_cost remat_class
values_same t f k [] = refl
values_same t f k (v ∷ l) = rw (values_same t f k l)

accepted-at : (t : RegInfo) (f : Function) (k : ℕ) → refused.Accepted t f → is_setting k ≡ true → refused.Accepted t (with_kept k f)
unfolding refused.function_refusal refused.counts_fit
accepted-at t f k h g = rw (g, values_same t f k (indices 0 (num_values f))) (go (is_setting f.kept) _ h)
  where
    go : (b : Bool) (o : Option ℕ) → or_else (no b) 22 o ≡ none → o ≡ none
    go true o e = e
    go false o e = absurd (not_some 22 (sym e))

pub checked-at : (t f f' : List ℕ) (k : ℕ) → Checked t f → is_setting k ≡ true → function_of f' ≡ with_kept k (function_of f) → Checked t f'
checked-at t f f' k c g e =
    record { target = c.target; indexed = c.indexed; function = subst (refused.Accepted (reg_info_of t)) (sym e) (accepted-at (reg_info_of t) (function_of f) k c.function g) }

-- a fresh table
pub no-counts : (i : ℕ) → i < 263 → get_or (replicate {A = ℕ} 263 0) i 0 ≡ 0
no-counts i h = get_or-replicate 263 i 0 0 h

pub room_at : (t : List ℕ) (n : ℕ) → n ≤ 1024 → t ≡ replicate 263 0 → Room (n * 9) t
room_at t n h e = λ i l. omega (arith, ap (λ (x : List ℕ). get_or x i 0) e ∙ no-counts i l)

refusals-cell : (p : Prices) (l : List Answer) (j : ℕ) → cell_of p l (7 + j) ≡ refusals_in j l
unfolding cell_of
refusals-cell p l j = let e : 7 + j - 7 ≡ j = omega arith in rw (le-ltb (7 + j) 7 (omega arith), e)

-- what stands in the cells is what is reported
pub reported : (t : List ℕ) (p : Prices) (l : List Answer) → length t ≡ 263 → ((i : ℕ) → i < 263 → get_or t i 0 ≡ cell_of p l i) → Reported (set t 5 (get_or t 4 0)) p l
unfolding cell_of
reported t p l n g =
    record {
      accepted = other 0 (λ e. omega arith) ∙ g 0 (omega arith);
      moves = other 1 (λ e. omega arith) ∙ g 1 (omega arith);
      remats = other 2 (λ e. omega arith) ∙ g 2 (omega arith);
      spills = other 3 (λ e. omega arith) ∙ g 3 (omega arith);
      reloads = other 4 (λ e. omega arith) ∙ g 4 (omega arith);
      evictions = get_or-set_same t 5 (get_or t 4 0) 0 (omega arith) ∙ g 4 (omega arith);
      price = other 6 (λ e. omega arith) ∙ g 6 (omega arith);
      refusals = λ j h. other (7 + j) (λ e. omega arith) ∙ g (7 + j) (omega arith) ∙ refusals-cell p l j;
    }
  where
    other : (i : ℕ) → (i ≡ 5 → ⊥) → get_or (set t 5 (get_or t 4 0)) i 0 ≡ get_or t i 0
    other i d = get_or-set_other t 5 i (get_or t 4 0) 0 d

-- nothing is drawn where there are no values
pub untried : (t f f' : List ℕ) (kept : ℕ) (p : Prices) (seed count : ℕ) (tally : List ℕ) → Checked t f → is_setting kept ≡ true → function_of f' ≡ with_kept kept (function_of f)
    → num_values (function_of f') ≡ 0 → tally ≡ replicate 263 0 → SettingTried t f kept p seed count f' tally
unfolding filter edits_in added
untried t f f' kept p seed count tally c g e n z =
    let none : num_values (function_of f) ≡ 0 = ap num_values (sym e) ∙ n in
    let zero-at : (i : ℕ) → i < 263 → get_or tally i 0 ≡ 0 = λ i h. ap (λ (l : List ℕ). get_or l i 0) z ∙ no-counts i h in
    record {
      reported =
          subst (λ (b : Bool). Reported tally p (pick b (no_tries seed empty_cache) (drawings (reg_info_of t) (with_kept kept (function_of f)) count seed empty_cache)).answers) (sym (eq-eqb (num_values (function_of f)) 0 none))
          (record {
            accepted = zero-at 0 (omega arith);
            moves = zero-at 1 (omega arith);
            remats = zero-at 2 (omega arith);
            spills = zero-at 3 (omega arith);
            reloads = zero-at 4 (omega arith);
            evictions = zero-at 5 (omega arith);
            price = zero-at 6 (omega arith);
            refusals = λ j h. zero-at (7 + j) (omega arith);
          });
      function = e;
      checked = checked-at t f f' kept c g e;
    }

-- and what was drawn is reported
pub tried-out : (t f f' : List ℕ) (kept : ℕ) (p : Prices) (seed count : ℕ) (cache cache' tally₀ tally tally' : List ℕ) → Checked t f → is_setting kept ≡ true → function_of f' ≡ with_kept kept (function_of f)
    → 0 < num_values (function_of f') → tally₀ ≡ replicate 263 0 → cache_of cache ≡ empty_cache
    → Many f' p (drawings (reg_info_of t) (function_of f') count seed (cache_of cache)) (count * 9) tally₀ tally cache' → tally' ≡ set tally 5 (get_or tally 4 0) → length tally ≡ 263
    → SettingTried t f kept p seed count f' tally'
tried-out t f f' kept p seed count cache cache' tally₀ tally tally' c g e n z k m w l =
    let some-values : num_values (function_of f) ≡ 0 → ⊥ = λ q. let y : num_values (function_of f') ≡ 0 = ap num_values e ∙ q in absurd (omega arith) in
    let is : drawings (reg_info_of t) (function_of f') count seed (cache_of cache) ≡ drawings (reg_info_of t) (with_kept kept (function_of f)) count seed empty_cache = rw (e, k) refl in
    record {
      reported =
          subst (λ (b : Bool). Reported tally' p (pick b (no_tries seed empty_cache) (drawings (reg_info_of t) (with_kept kept (function_of f)) count seed empty_cache)).answers) (sym (ne_eqb (num_values (function_of f)) 0 some-values))
          (subst (λ (x : List ℕ). Reported x p (drawings (reg_info_of t) (with_kept kept (function_of f)) count seed empty_cache).answers) (sym w)
          (reported tally p (drawings (reg_info_of t) (with_kept kept (function_of f)) count seed empty_cache).answers l
          (λ i h. omega (arith, m.adds i h, ap (λ (x : List ℕ). get_or x i 0) z ∙ no-counts i h, ap (λ (x : Tries). cell_of p x.answers i) is))));
      function = e;
      checked = checked-at t f f' kept c g e;
    }
