use Rattle.std.proofs.Common.{◌≡◌, ◌∙◌, ℕ, suc, ◌+◌, ◌≤◌, ◌<◌, arith, refl, length, take, List, subst}
use Rattle.std.specs.List.{list_any, sum_by}
use Rattle.zr_base.specs.declared.space.Entry.{Entry}
use Rattle.zr_rules.specs.Mappings.{entry_at}
use Rattle.zr_chain.specs.Touches.{Splits, begins_before, ends_by}
use Rattle.zr_indirect.specs.Mapped.{IsLeaving}
use Rattle.zr_space.specs.Views.{Kept, kept_of}
use Rattle.zr_space.specs.FreeVisits.{FreesImages, is_image, is_image_by, overlap}
use Rattle.zr_space.proofs.FreeImages.{was_leaving}
use Rattle.zr_space.proofs.ImageSteps.{images_none, images_as, starts, starts_small, ends_all, next_there, next_gone, all_small, entry_is, next_known, next_device, next_units, next_room, next_source, next_spare}
use Rattle.zr_space.proofs.Views.{kept_read}
use Rattle.zr_space.proofs.images.free_images.Goals as goal

pub loop-i-init : goal.loop-i-init
loop-i-init c =
    let whole = c.args._whole.now in
    let s = c.args.slabs.now in
    let devs : List Kept = c.args.devs.now.items in
    let d = c.args.dev in
    let r = c.requires in
    let y : Kept = record { row = c.behind-devs.inside.row; uses = c.behind-devs.inside.units; moves = c.behind-devs.inside.moves } in
    let is : y ≡ kept_of devs d = c.behind-devs.view_is ∙ kept_read devs d c.index.result.now c.requires.known c.index.ensures in
    let first : Splits (ends_by c.args.e.start) (kept_of devs d).moves.entries c.entries_in-first.result.0 = subst (λ (z : Kept). Splits (ends_by c.args.e.start) z.moves.entries c.entries_in-first.result.0) is c.entries_in-first.ensures.first in
    let small = starts_small whole s devs d c.args.e r.space r.leaving r.used c.entries_in-first.result.0 first in
    record {
      frees = images_none whole s devs (λ j u. list_any (is_image_by c.args.e j u) (take c.entries_in-first.result.0 (kept_of devs d).moves.entries)) r.space (starts whole s devs d c.args.e r.space r.leaving r.used c.entries_in-first.result.0 first);
      source = refl;
      spare = λ j. omega (arith, small);
    }

pub free_copies-requires-clause-known : goal.free_copies-requires-clause-known
free_copies-requires-clause-known c =
    let whole = c.args._whole.now in
    let s = c.args.slabs.now in
    let devs : List Kept = c.args.devs.now.items in
    let d = c.args.dev in
    let r = c.requires in
    let now : List Kept = c.loop-i.devs.items in
    let i = c.loop-i.invariant in
    let y0 : Kept = record { row = c.behind-devs.inside.row; uses = c.behind-devs.inside.units; moves = c.behind-devs.inside.moves } in
    let is0 : y0 ≡ kept_of devs d = c.behind-devs.view_is ∙ kept_read devs d c.index.result.now c.requires.known c.index.ensures in
    let end : Splits (begins_before c.args.e.start c.args.e.len) (kept_of devs d).moves.entries c.entries_in-first.result.1 = subst (λ (z : Kept). Splits (begins_before c.args.e.start c.args.e.len) z.moves.entries c.entries_in-first.result.1) is0 c.entries_in-first.ensures.end in
    let lt : c.loop-i.i < length (kept_of devs d).moves.entries = let w = end.within in let t = c.loop-i-test.true in omega (arith, w, t) in
    let there : d < length now = let n = i.frees.count in let k = c.requires.known in omega (arith, n, k) in
    let y : Kept = record { row = c.behind-devs-in-loop-i.inside.row; uses = c.behind-devs-in-loop-i.inside.units; moves = c.behind-devs-in-loop-i.inside.moves } in
    let is : y ≡ kept_of now d = c.behind-devs-in-loop-i.view_is ∙ kept_read now d c.index-in-loop-i.result.now there c.index-in-loop-i.ensures in
    let x : Entry = c.entry_of-entry.result in
    let at : x ≡ entry_at (kept_of devs d).moves.entries c.loop-i.i = entry_is whole s devs d c.args.e r.space r.leaving r.used now x y c.loop-i.i i.source is c.entry_of-entry.ensures.value in
    next_known whole s devs d c.args.e r.space r.leaving r.used c.loop-i.slabs now _ c.loop-i.i x lt at i.frees

pub free_copies-requires-clause-device : goal.free_copies-requires-clause-device
free_copies-requires-clause-device c =
    let whole = c.args._whole.now in
    let s = c.args.slabs.now in
    let devs : List Kept = c.args.devs.now.items in
    let d = c.args.dev in
    let r = c.requires in
    let now : List Kept = c.loop-i.devs.items in
    let i = c.loop-i.invariant in
    let y0 : Kept = record { row = c.behind-devs.inside.row; uses = c.behind-devs.inside.units; moves = c.behind-devs.inside.moves } in
    let is0 : y0 ≡ kept_of devs d = c.behind-devs.view_is ∙ kept_read devs d c.index.result.now c.requires.known c.index.ensures in
    let end : Splits (begins_before c.args.e.start c.args.e.len) (kept_of devs d).moves.entries c.entries_in-first.result.1 = subst (λ (z : Kept). Splits (begins_before c.args.e.start c.args.e.len) z.moves.entries c.entries_in-first.result.1) is0 c.entries_in-first.ensures.end in
    let lt : c.loop-i.i < length (kept_of devs d).moves.entries = let w = end.within in let t = c.loop-i-test.true in omega (arith, w, t) in
    let there : d < length now = let n = i.frees.count in let k = c.requires.known in omega (arith, n, k) in
    let y : Kept = record { row = c.behind-devs-in-loop-i.inside.row; uses = c.behind-devs-in-loop-i.inside.units; moves = c.behind-devs-in-loop-i.inside.moves } in
    let is : y ≡ kept_of now d = c.behind-devs-in-loop-i.view_is ∙ kept_read now d c.index-in-loop-i.result.now there c.index-in-loop-i.ensures in
    let x : Entry = c.entry_of-entry.result in
    let at : x ≡ entry_at (kept_of devs d).moves.entries c.loop-i.i = entry_is whole s devs d c.args.e r.space r.leaving r.used now x y c.loop-i.i i.source is c.entry_of-entry.ensures.value in
    next_device whole s devs d c.args.e r.space r.leaving r.used c.loop-i.slabs now _ c.loop-i.i x lt at i.frees

pub free_copies-requires-clause-copies : goal.free_copies-requires-clause-copies
free_copies-requires-clause-copies c =
    let whole = c.args._whole.now in
    let s = c.args.slabs.now in
    let devs : List Kept = c.args.devs.now.items in
    let d = c.args.dev in
    let r = c.requires in
    let now : List Kept = c.loop-i.devs.items in
    let i = c.loop-i.invariant in
    let y0 : Kept = record { row = c.behind-devs.inside.row; uses = c.behind-devs.inside.units; moves = c.behind-devs.inside.moves } in
    let is0 : y0 ≡ kept_of devs d = c.behind-devs.view_is ∙ kept_read devs d c.index.result.now c.requires.known c.index.ensures in
    let end : Splits (begins_before c.args.e.start c.args.e.len) (kept_of devs d).moves.entries c.entries_in-first.result.1 = subst (λ (z : Kept). Splits (begins_before c.args.e.start c.args.e.len) z.moves.entries c.entries_in-first.result.1) is0 c.entries_in-first.ensures.end in
    let lt : c.loop-i.i < length (kept_of devs d).moves.entries = let w = end.within in let t = c.loop-i-test.true in omega (arith, w, t) in
    let there : d < length now = let n = i.frees.count in let k = c.requires.known in omega (arith, n, k) in
    let y : Kept = record { row = c.behind-devs-in-loop-i.inside.row; uses = c.behind-devs-in-loop-i.inside.units; moves = c.behind-devs-in-loop-i.inside.moves } in
    let is : y ≡ kept_of now d = c.behind-devs-in-loop-i.view_is ∙ kept_read now d c.index-in-loop-i.result.now there c.index-in-loop-i.ensures in
    let x : Entry = c.entry_of-entry.result in
    let at : x ≡ entry_at (kept_of devs d).moves.entries c.loop-i.i = entry_is whole s devs d c.args.e r.space r.leaving r.used now x y c.loop-i.i i.source is c.entry_of-entry.ensures.value in
    next_there whole s devs d c.args.e r.space r.leaving r.used c.loop-i.slabs now c.loop-i.i x.dev c.copy_by.result lt i.frees (next_units whole s devs d c.args.e r.space r.leaving r.used c.loop-i.i x c.copy_by.result at c.copy_by.ensures.units)

pub free_copies-requires-clause-room : goal.free_copies-requires-clause-room
free_copies-requires-clause-room c =
    let whole = c.args._whole.now in
    let s = c.args.slabs.now in
    let devs : List Kept = c.args.devs.now.items in
    let d = c.args.dev in
    let r = c.requires in
    let now : List Kept = c.loop-i.devs.items in
    let i = c.loop-i.invariant in
    let y0 : Kept = record { row = c.behind-devs.inside.row; uses = c.behind-devs.inside.units; moves = c.behind-devs.inside.moves } in
    let is0 : y0 ≡ kept_of devs d = c.behind-devs.view_is ∙ kept_read devs d c.index.result.now c.requires.known c.index.ensures in
    let end : Splits (begins_before c.args.e.start c.args.e.len) (kept_of devs d).moves.entries c.entries_in-first.result.1 = subst (λ (z : Kept). Splits (begins_before c.args.e.start c.args.e.len) z.moves.entries c.entries_in-first.result.1) is0 c.entries_in-first.ensures.end in
    let lt : c.loop-i.i < length (kept_of devs d).moves.entries = let w = end.within in let t = c.loop-i-test.true in omega (arith, w, t) in
    let there : d < length now = let n = i.frees.count in let k = c.requires.known in omega (arith, n, k) in
    let y : Kept = record { row = c.behind-devs-in-loop-i.inside.row; uses = c.behind-devs-in-loop-i.inside.units; moves = c.behind-devs-in-loop-i.inside.moves } in
    let is : y ≡ kept_of now d = c.behind-devs-in-loop-i.view_is ∙ kept_read now d c.index-in-loop-i.result.now there c.index-in-loop-i.ensures in
    let x : Entry = c.entry_of-entry.result in
    let at : x ≡ entry_at (kept_of devs d).moves.entries c.loop-i.i = entry_is whole s devs d c.args.e r.space r.leaving r.used now x y c.loop-i.i i.source is c.entry_of-entry.ensures.value in
    let leaving : IsLeaving (kept_of devs d).moves = was_leaving whole s devs d r.space r.leaving in
    next_room whole s devs d c.args.e r.space r.leaving r.used now c.loop-i.i x c.copy_by.result lt at leaving.rising c.copy_by.ensures.few (λ j known. (r.room j known).0) i.spare

pub loop-i-preserved : goal.loop-i-preserved
loop-i-preserved c =
    let whole = c.args._whole.now in
    let s = c.args.slabs.now in
    let devs : List Kept = c.args.devs.now.items in
    let d = c.args.dev in
    let r = c.requires in
    let now : List Kept = c.loop-i.devs.items in
    let i = c.loop-i.invariant in
    let y0 : Kept = record { row = c.behind-devs.inside.row; uses = c.behind-devs.inside.units; moves = c.behind-devs.inside.moves } in
    let is0 : y0 ≡ kept_of devs d = c.behind-devs.view_is ∙ kept_read devs d c.index.result.now c.requires.known c.index.ensures in
    let end : Splits (begins_before c.args.e.start c.args.e.len) (kept_of devs d).moves.entries c.entries_in-first.result.1 = subst (λ (z : Kept). Splits (begins_before c.args.e.start c.args.e.len) z.moves.entries c.entries_in-first.result.1) is0 c.entries_in-first.ensures.end in
    let lt : c.loop-i.i < length (kept_of devs d).moves.entries = let w = end.within in let t = c.loop-i-test.true in omega (arith, w, t) in
    let there : d < length now = let n = i.frees.count in let k = c.requires.known in omega (arith, n, k) in
    let y : Kept = record { row = c.behind-devs-in-loop-i.inside.row; uses = c.behind-devs-in-loop-i.inside.units; moves = c.behind-devs-in-loop-i.inside.moves } in
    let is : y ≡ kept_of now d = c.behind-devs-in-loop-i.view_is ∙ kept_read now d c.index-in-loop-i.result.now there c.index-in-loop-i.ensures in
    let x : Entry = c.entry_of-entry.result in
    let at : x ≡ entry_at (kept_of devs d).moves.entries c.loop-i.i = entry_is whole s devs d c.args.e r.space r.leaving r.used now x y c.loop-i.i i.source is c.entry_of-entry.ensures.value in
    let one : suc c.loop-i.i ≡ c.loop-i.i + 1 = omega arith in
    record {
      frees = subst (λ (n : ℕ). FreesImages s c.free_copies.new.slabs devs c.free_copies.new.devs.items (λ j u. list_any (is_image_by c.args.e j u) (take n (kept_of devs d).moves.entries))) one
          (next_gone whole s devs d c.args.e r.space r.leaving r.used c.loop-i.slabs c.free_copies.new.slabs now c.free_copies.new.devs.items c.loop-i.i x.dev c.copy_by.result lt i.frees c.free_copies.ensures
          (next_units whole s devs d c.args.e r.space r.leaving r.used c.loop-i.i x c.copy_by.result at c.copy_by.ensures.units));
      source = next_source whole s devs d c.args.e r.space r.leaving r.used c.loop-i.slabs c.free_copies.new.slabs now c.free_copies.new.devs.items c.loop-i.i x c.copy_by.result lt at c.free_copies.ensures i.source;
      spare = subst (λ (n : ℕ). (j : ℕ) → (kept_of devs j).uses.spare ≤ (kept_of c.free_copies.new.devs.items j).uses.spare + sum_by (overlap c.args.e) (take n (kept_of devs d).moves.entries)) one
          (next_spare whole s devs d c.args.e r.space r.leaving r.used c.loop-i.slabs c.free_copies.new.slabs now c.free_copies.new.devs.items c.loop-i.i x c.copy_by.result lt at c.copy_by.ensures.few c.free_copies.ensures i.spare);
    }

pub returns-clause-frees : goal.returns-clause-frees
returns-clause-frees c =
    let whole = c.args._whole.now in
    let s = c.args.slabs.now in
    let devs : List Kept = c.args.devs.now.items in
    let d = c.args.dev in
    let r = c.requires in
    let y0 : Kept = record { row = c.behind-devs.inside.row; uses = c.behind-devs.inside.units; moves = c.behind-devs.inside.moves } in
    let is0 : y0 ≡ kept_of devs d = c.behind-devs.view_is ∙ kept_read devs d c.index.result.now c.requires.known c.index.ensures in
    let end : Splits (begins_before c.args.e.start c.args.e.len) (kept_of devs d).moves.entries c.entries_in-first.result.1 = subst (λ (z : Kept). Splits (begins_before c.args.e.start c.args.e.len) z.moves.entries c.entries_in-first.result.1) is0 c.entries_in-first.ensures.end in
    let past : c.entries_in-first.result.1 ≤ c.loop-i.i = let t = c.loop-i-test.false in omega (arith, t) in
    images_as s c.loop-i.slabs devs c.loop-i.devs.items _ (is_image (kept_of devs d).moves.entries c.args.e) (ends_all whole s devs d c.args.e r.space r.leaving r.used c.entries_in-first.result.1 c.loop-i.i end past) c.loop-i.invariant.frees

pub returns-clause-spare : goal.returns-clause-spare
returns-clause-spare c = λ j.
    let whole = c.args._whole.now in
    let s = c.args.slabs.now in
    let devs : List Kept = c.args.devs.now.items in
    let d = c.args.dev in
    let r = c.requires in
    let leaving : IsLeaving (kept_of devs d).moves = was_leaving whole s devs d r.space r.leaving in
    let all = all_small whole s devs d c.args.e r.space r.leaving r.used leaving.rising c.loop-i.i in
    let left = c.loop-i.invariant.spare j in
    omega (arith, all, left)
