use Rattle.std.proofs.Common.{◌∙◌, ◌<◌, refl, arith, length}
use Rattle.std.proofs.lemmas.List.{length-map}
use Rattle.zr_base.specs.Extents.{HasAll}
use Rattle.zr_metaslab.specs.Devices.{extent_of}
use Rattle.zr_space.specs.Views.{Kept, part_in, space_of}
use Rattle.zr_space.specs.Drops.{IsMeta}
use Rattle.zr_space.proofs.Views.{kept_read}
use Rattle.zr_space.proofs.Keeps.{spare_space}
use Rattle.zr_space.proofs.Frames.{space_itself}
use Rattle.zr_space.proofs.Discards.{on_err}
use Rattle.zr_space.proofs.Drops.{IsDropped, in_range, all_saved, none_freed, saved_space, meta_space, drops_meta, drops_saved, never, meta_keeps, saved_keeps}
use Rattle.zr_space.proofs.space.Space.drop_meta.Goals as goal

pub drop_saved-requires-clause-in_range : goal.drop_saved-requires-clause-in_range
drop_saved-requires-clause-in_range c =
    let k : Kept = record { row = c.device.inside.row; uses = c.device.inside.units; moves = c.device.inside.moves } in
    let meta : IsMeta (space_of c.self.inside.whole c.self.inside.devs.items) c.args.a = rw c.self.view_is c.requires.meta in
    let there : c.args.a.dev < length c.self.inside.devs.items = let l = meta.known in let e = length-map c.self.inside.devs.items part_in in omega (arith, l, e) in
    let dropped : IsDropped c.self.inside.whole c.self.inside.slabs c.self.inside.devs.items c.args.a k = record {
      space = c.self.invariant;
      meta = meta;
      kept = c.device.view_is ∙ kept_read c.self.inside.devs.items c.args.a.dev c.index_mut-device.result.now there c.index_mut-device.ensures.value;
    } in
    let r = in_range c.self.inside.whole c.self.inside.slabs c.self.inside.devs.items c.args.a k dropped in
    rw c.extent_of-e.ensures r

pub drop_saved-requires-clause-there : goal.drop_saved-requires-clause-there
drop_saved-requires-clause-there c =
    let k : Kept = record { row = c.device.inside.row; uses = c.device.inside.units; moves = c.device.inside.moves } in
    let meta : IsMeta (space_of c.self.inside.whole c.self.inside.devs.items) c.args.a = rw c.self.view_is c.requires.meta in
    let there : c.args.a.dev < length c.self.inside.devs.items = let l = meta.known in let e = length-map c.self.inside.devs.items part_in in omega (arith, l, e) in
    let dropped : IsDropped c.self.inside.whole c.self.inside.slabs c.self.inside.devs.items c.args.a k = record {
      space = c.self.invariant;
      meta = meta;
      kept = c.device.view_is ∙ kept_read c.self.inside.devs.items c.args.a.dev c.index_mut-device.result.now there c.index_mut-device.ensures.value;
    } in
    let all : HasAll c.device.inside.units.saved (extent_of c.args.a) = all_saved c.self.inside.whole c.self.inside.slabs c.self.inside.devs.items c.args.a k dropped (λ h. never (c.if-covers.ensures.1 (rw c.extent_of-e.ensures rw c.meta.ensures h))) in
    rw c.extent_of-e.ensures all

pub drop_saved-requires-clause-apart : goal.drop_saved-requires-clause-apart
drop_saved-requires-clause-apart c =
    let k : Kept = record { row = c.device.inside.row; uses = c.device.inside.units; moves = c.device.inside.moves } in
    let meta : IsMeta (space_of c.self.inside.whole c.self.inside.devs.items) c.args.a = rw c.self.view_is c.requires.meta in
    let there : c.args.a.dev < length c.self.inside.devs.items = let l = meta.known in let e = length-map c.self.inside.devs.items part_in in omega (arith, l, e) in
    let dropped : IsDropped c.self.inside.whole c.self.inside.slabs c.self.inside.devs.items c.args.a k = record {
      space = c.self.invariant;
      meta = meta;
      kept = c.device.view_is ∙ kept_read c.self.inside.devs.items c.args.a.dev c.index_mut-device.result.now there c.index_mut-device.ensures.value;
    } in
    rw c.extent_of-e.ensures (none_freed c.self.inside.whole c.self.inside.slabs c.self.inside.devs.items c.args.a k dropped)

pub invariant_of-self-2 : goal.invariant_of-self-2
invariant_of-self-2 c =
    let k : Kept = record { row = c.device.inside.row; uses = c.device.inside.units; moves = c.device.inside.moves } in
    let meta : IsMeta (space_of c.self.inside.whole c.self.inside.devs.items) c.args.a = rw c.self.view_is c.requires.meta in
    let there : c.args.a.dev < length c.self.inside.devs.items = let l = meta.known in let e = length-map c.self.inside.devs.items part_in in omega (arith, l, e) in
    let dropped : IsDropped c.self.inside.whole c.self.inside.slabs c.self.inside.devs.items c.args.a k = record {
      space = c.self.invariant;
      meta = meta;
      kept = c.device.view_is ∙ kept_read c.self.inside.devs.items c.args.a.dev c.index_mut-device.result.now there c.index_mut-device.ensures.value;
    } in
    let all : HasAll c.device.inside.units.saved (extent_of c.args.a) = all_saved c.self.inside.whole c.self.inside.slabs c.self.inside.devs.items c.args.a k dropped (λ h. never (c.if-covers.ensures.1 (rw c.extent_of-e.ensures rw c.meta.ensures h))) in
    saved_space c.self.inside.whole c.self.inside.slabs c.self.inside.devs.items c.args.a k dropped c.drop_saved.new.self (rw c.extent_of-e.ensures at c.in_ok-drop_saved.ensures.ok) all

pub returns-clause-ok : goal.returns-clause-ok
returns-clause-ok c =
    let k : Kept = record { row = c.device.inside.row; uses = c.device.inside.units; moves = c.device.inside.moves } in
    let meta : IsMeta (space_of c.self.inside.whole c.self.inside.devs.items) c.args.a = rw c.self.view_is c.requires.meta in
    let there : c.args.a.dev < length c.self.inside.devs.items = let l = meta.known in let e = length-map c.self.inside.devs.items part_in in omega (arith, l, e) in
    let dropped : IsDropped c.self.inside.whole c.self.inside.slabs c.self.inside.devs.items c.args.a k = record {
      space = c.self.invariant;
      meta = meta;
      kept = c.device.view_is ∙ kept_read c.self.inside.devs.items c.args.a.dev c.index_mut-device.result.now there c.index_mut-device.ensures.value;
    } in
    let all : HasAll c.device.inside.units.saved (extent_of c.args.a) = all_saved c.self.inside.whole c.self.inside.slabs c.self.inside.devs.items c.args.a k dropped (λ h. never (c.if-covers.ensures.1 (rw c.extent_of-e.ensures rw c.meta.ensures h))) in
    rw (← c.self.view_is) (drops_saved c.self.inside.whole c.self.inside.slabs c.self.inside.devs.items c.args.a k dropped c.drop_saved.new.self (rw c.extent_of-e.ensures at c.in_ok-drop_saved.ensures.ok) all)

pub returns-clause-parts : goal.returns-clause-parts
returns-clause-parts c =
    let k : Kept = record { row = c.device.inside.row; uses = c.device.inside.units; moves = c.device.inside.moves } in
    let meta : IsMeta (space_of c.self.inside.whole c.self.inside.devs.items) c.args.a = rw c.self.view_is c.requires.meta in
    let there : c.args.a.dev < length c.self.inside.devs.items = let l = meta.known in let e = length-map c.self.inside.devs.items part_in in omega (arith, l, e) in
    let dropped : IsDropped c.self.inside.whole c.self.inside.slabs c.self.inside.devs.items c.args.a k = record {
      space = c.self.invariant;
      meta = meta;
      kept = c.device.view_is ∙ kept_read c.self.inside.devs.items c.args.a.dev c.index_mut-device.result.now there c.index_mut-device.ensures.value;
    } in
    let all : HasAll c.device.inside.units.saved (extent_of c.args.a) = all_saved c.self.inside.whole c.self.inside.slabs c.self.inside.devs.items c.args.a k dropped (λ h. never (c.if-covers.ensures.1 (rw c.extent_of-e.ensures rw c.meta.ensures h))) in
    rw (← c.self.view_is) (saved_keeps c.self.inside.whole c.self.inside.slabs c.self.inside.devs.items c.args.a k dropped c.drop_saved.new.self (rw c.extent_of-e.ensures at c.in_ok-drop_saved.ensures.ok) all)

pub invariant_of-self-then-covers : goal.invariant_of-self-then-covers
invariant_of-self-then-covers c =
    let k : Kept = record { row = c.device.inside.row; uses = c.device.inside.units; moves = c.device.inside.moves } in
    let meta : IsMeta (space_of c.self.inside.whole c.self.inside.devs.items) c.args.a = rw c.self.view_is c.requires.meta in
    let there : c.args.a.dev < length c.self.inside.devs.items = let l = meta.known in let e = length-map c.self.inside.devs.items part_in in omega (arith, l, e) in
    let dropped : IsDropped c.self.inside.whole c.self.inside.slabs c.self.inside.devs.items c.args.a k = record {
      space = c.self.invariant;
      meta = meta;
      kept = c.device.view_is ∙ kept_read c.self.inside.devs.items c.args.a.dev c.index_mut-device.result.now there c.index_mut-device.ensures.value;
    } in
    let all : HasAll c.device.inside.units.meta (extent_of c.args.a) = rw c.meta.ensures at (rw c.extent_of-e.ensures at (c.if-covers.ensures.0 refl)) in
    meta_space c.self.inside.whole c.self.inside.slabs c.self.inside.devs.items c.args.a k dropped c.drop_meta.new.self (rw c.extent_of-e.ensures at c.in_ok-drop_meta.ensures.ok) all

pub returns-then-covers-clause-ok : goal.returns-then-covers-clause-ok
returns-then-covers-clause-ok c =
    let k : Kept = record { row = c.device.inside.row; uses = c.device.inside.units; moves = c.device.inside.moves } in
    let meta : IsMeta (space_of c.self.inside.whole c.self.inside.devs.items) c.args.a = rw c.self.view_is c.requires.meta in
    let there : c.args.a.dev < length c.self.inside.devs.items = let l = meta.known in let e = length-map c.self.inside.devs.items part_in in omega (arith, l, e) in
    let dropped : IsDropped c.self.inside.whole c.self.inside.slabs c.self.inside.devs.items c.args.a k = record {
      space = c.self.invariant;
      meta = meta;
      kept = c.device.view_is ∙ kept_read c.self.inside.devs.items c.args.a.dev c.index_mut-device.result.now there c.index_mut-device.ensures.value;
    } in
    let all : HasAll c.device.inside.units.meta (extent_of c.args.a) = rw c.meta.ensures at (rw c.extent_of-e.ensures at (c.if-covers.ensures.0 refl)) in
    rw (← c.self.view_is) (drops_meta c.self.inside.whole c.self.inside.slabs c.self.inside.devs.items c.args.a k dropped c.drop_meta.new.self (rw c.extent_of-e.ensures at c.in_ok-drop_meta.ensures.ok) all)

pub returns-then-covers-clause-parts : goal.returns-then-covers-clause-parts
returns-then-covers-clause-parts c =
    let k : Kept = record { row = c.device.inside.row; uses = c.device.inside.units; moves = c.device.inside.moves } in
    let meta : IsMeta (space_of c.self.inside.whole c.self.inside.devs.items) c.args.a = rw c.self.view_is c.requires.meta in
    let there : c.args.a.dev < length c.self.inside.devs.items = let l = meta.known in let e = length-map c.self.inside.devs.items part_in in omega (arith, l, e) in
    let dropped : IsDropped c.self.inside.whole c.self.inside.slabs c.self.inside.devs.items c.args.a k = record {
      space = c.self.invariant;
      meta = meta;
      kept = c.device.view_is ∙ kept_read c.self.inside.devs.items c.args.a.dev c.index_mut-device.result.now there c.index_mut-device.ensures.value;
    } in
    let all : HasAll c.device.inside.units.meta (extent_of c.args.a) = rw c.meta.ensures at (rw c.extent_of-e.ensures at (c.if-covers.ensures.0 refl)) in
    rw (← c.self.view_is) (meta_keeps c.self.inside.whole c.self.inside.slabs c.self.inside.devs.items c.args.a k dropped c.drop_meta.new.self (rw c.extent_of-e.ensures at c.in_ok-drop_meta.ensures.ok) all)

pub invariant_of-self : goal.invariant_of-self
invariant_of-self c =
    let k : Kept = record { row = c.device.inside.row; uses = c.device.inside.units; moves = c.device.inside.moves } in
    let meta : IsMeta (space_of c.self.inside.whole c.self.inside.devs.items) c.args.a = rw c.self.view_is c.requires.meta in
    let there : c.args.a.dev < length c.self.inside.devs.items = let l = meta.known in let e = length-map c.self.inside.devs.items part_in in omega (arith, l, e) in
    let here = c.device.view_is ∙ kept_read c.self.inside.devs.items c.args.a.dev c.index_mut-device.result.now there c.index_mut-device.ensures.value in
    spare_space c.self.inside.slabs c.self.inside.slabs c.self.inside.devs.items c.args.a.dev k c.drop_meta.new.self c.self.invariant there here c.in_err-drop_meta.ensures.err refl

pub returns-in_err-drop_meta-clause-err : goal.returns-in_err-drop_meta-clause-err
returns-in_err-drop_meta-clause-err c =
    let k : Kept = record { row = c.device.inside.row; uses = c.device.inside.units; moves = c.device.inside.moves } in
    let meta : IsMeta (space_of c.self.inside.whole c.self.inside.devs.items) c.args.a = rw c.self.view_is c.requires.meta in
    let there : c.args.a.dev < length c.self.inside.devs.items = let l = meta.known in let e = length-map c.self.inside.devs.items part_in in omega (arith, l, e) in
    let here = c.device.view_is ∙ kept_read c.self.inside.devs.items c.args.a.dev c.index_mut-device.result.now there c.index_mut-device.ensures.value in
    on_err c.from_residual.result _ (space_itself c.self.inside.whole c.self.inside.devs.items c.args.a.dev k c.drop_meta.new.self here c.in_err-drop_meta.ensures.err ∙ c.self.view_is)

pub invariant_of-self-in_err-drop_saved : goal.invariant_of-self-in_err-drop_saved
invariant_of-self-in_err-drop_saved c =
    let k : Kept = record { row = c.device.inside.row; uses = c.device.inside.units; moves = c.device.inside.moves } in
    let meta : IsMeta (space_of c.self.inside.whole c.self.inside.devs.items) c.args.a = rw c.self.view_is c.requires.meta in
    let there : c.args.a.dev < length c.self.inside.devs.items = let l = meta.known in let e = length-map c.self.inside.devs.items part_in in omega (arith, l, e) in
    let here = c.device.view_is ∙ kept_read c.self.inside.devs.items c.args.a.dev c.index_mut-device.result.now there c.index_mut-device.ensures.value in
    spare_space c.self.inside.slabs c.self.inside.slabs c.self.inside.devs.items c.args.a.dev k c.drop_saved.new.self c.self.invariant there here c.in_err-drop_saved.ensures.err refl

pub returns-in_err-drop_saved-clause-err : goal.returns-in_err-drop_saved-clause-err
returns-in_err-drop_saved-clause-err c =
    let k : Kept = record { row = c.device.inside.row; uses = c.device.inside.units; moves = c.device.inside.moves } in
    let meta : IsMeta (space_of c.self.inside.whole c.self.inside.devs.items) c.args.a = rw c.self.view_is c.requires.meta in
    let there : c.args.a.dev < length c.self.inside.devs.items = let l = meta.known in let e = length-map c.self.inside.devs.items part_in in omega (arith, l, e) in
    let here = c.device.view_is ∙ kept_read c.self.inside.devs.items c.args.a.dev c.index_mut-device.result.now there c.index_mut-device.ensures.value in
    on_err c.from_residual-in_err-drop_saved.result _ (space_itself c.self.inside.whole c.self.inside.devs.items c.args.a.dev k c.drop_saved.new.self here c.in_err-drop_saved.ensures.err ∙ c.self.view_is)
