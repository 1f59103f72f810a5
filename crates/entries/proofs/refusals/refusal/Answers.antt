-- `refusal` meets its contract: 13, then 14, then 16.
use mathlib.Core.Path.{◌≡◌, sym, ◌∙◌}
use mathlib.Core.Bool.{true, false}
use borrow.Author.Tests.{lt-ltb, le-ltb}
use Rattle.reginfo.specs.Refused.{first_of}
use Rattle.reginfo.specs.Table.{reg_info_of}
use Rattle.function.specs.Table.{function_of}
use Rattle.rules.specs.Patch.{free_destination, last_overlaps, patch_conditions}
use Rattle.entries.specs.Table.{sorted_of}
use Rattle.entries.specs.Known.{free_in}
use Rattle.entries.proofs.Free.{free-is}
use Rattle.entries.proofs.refusals.refusal.Goals as goal

pub returns-then-free_destination : goal.returns-then-free_destination
unfolding patch_conditions first_of
returns-then-free_destination c p same =
    let s = c in
    let T = reg_info_of s.args.t.now in
    let F = function_of s.args.f.now in
    let a = sorted_of s.args.e.now in
    let x : free_destination T F p a ≡ true = sym (c.free_destination.ensures ∙ free-is T s.requires.0.target F a s.args.e.now s.args.w.now s.requires.1 (free_in s.args.given s.args.free.now) p same) ∙ c.if-free_destination.true in
    rw x

pub returns-then-last_overlaps : goal.returns-then-last_overlaps
unfolding patch_conditions first_of
returns-then-last_overlaps c p same =
    let s = c in
    let T = reg_info_of s.args.t.now in
    let F = function_of s.args.f.now in
    let a = sorted_of s.args.e.now in
    let x : free_destination T F p a ≡ false = sym (c.free_destination.ensures ∙ free-is T s.requires.0.target F a s.args.e.now s.args.w.now s.requires.1 (free_in s.args.given s.args.free.now) p same) ∙ c.if-free_destination.false in
    let y : last_overlaps T F a ≡ true = sym c.last_overlaps.ensures ∙ c.if-last_overlaps.true in
    rw (x, y)

pub returns-then-room-edit_bound : goal.returns-then-room-edit_bound
unfolding patch_conditions first_of
returns-then-room-edit_bound c p same =
    let s = c in
    let T = reg_info_of s.args.t.now in
    let F = function_of s.args.f.now in
    let a = sorted_of s.args.e.now in
    let x : free_destination T F p a ≡ false = sym (c.free_destination.ensures ∙ free-is T s.requires.0.target F a s.args.e.now s.args.w.now s.requires.1 (free_in s.args.given s.args.free.now) p same) ∙ c.if-free_destination.false in
    let y : last_overlaps T F a ≡ false = sym c.last_overlaps.ensures ∙ c.if-last_overlaps.false in
    rw (x, y, ← c.edit_bound.ensures, lt-ltb s.args.room _ c.if-room-edit_bound.true)

pub returns : goal.returns
unfolding patch_conditions first_of
returns c p same =
    let s = c in
    let T = reg_info_of s.args.t.now in
    let F = function_of s.args.f.now in
    let a = sorted_of s.args.e.now in
    let x : free_destination T F p a ≡ false = sym (c.free_destination.ensures ∙ free-is T s.requires.0.target F a s.args.e.now s.args.w.now s.requires.1 (free_in s.args.given s.args.free.now) p same) ∙ c.if-free_destination.false in
    let y : last_overlaps T F a ≡ false = sym c.last_overlaps.ensures ∙ c.if-last_overlaps.false in
    rw (x, y, ← c.edit_bound.ensures, le-ltb s.args.room _ c.if-room-edit_bound.false)
