use Rattle.std.proofs.Common.{◌≡◌, ◌∙◌, ◌<◌, refl, arith, length}
use Rattle.std.proofs.lemmas.List.{length-map}
use Rattle.zr_space.specs.Metadata.{IsMetaOn}
use Rattle.zr_space.specs.Views.{Kept, kept_of, part_in, space_of}
use Rattle.zr_space.proofs.Views.{kept_read}
use Rattle.zr_space.proofs.Keeps.{spare_space}
use Rattle.zr_space.proofs.Frames.{space_itself}
use Rattle.zr_space.proofs.Discards.{on_err}
use Rattle.zr_space.proofs.Drops.{IsDropped, in_range, none_freed, meta_space, drops_meta, meta_keeps}
use Rattle.zr_space.proofs.MetaRuns.{meta_covers, less_meta, same_saved}
use Rattle.zr_space.proofs.space.Space.drop_meta_run.Goals as goal

pub drop_meta-requires-clause-in_range : goal.drop_meta-requires-clause-in_range
drop_meta-requires-clause-in_range c =
    let devs = c.self.inside.devs.items in
    let k : Kept = record { row = c.device.inside.row; uses = c.device.inside.units; moves = c.device.inside.moves } in
    let has : IsMetaOn (space_of c.self.inside.whole devs) c.args.dev c.args.a = rw c.self.view_is c.requires.meta in
    let there : c.args.a.dev < length devs = let l = has.is.known in let e = length-map devs part_in in omega (arith, l, e) in
    let here : k ≡ kept_of devs c.args.a.dev = c.device.view_is ∙ kept_read devs c.args.a.dev c.index_mut-device.result.now there c.index_mut-device.ensures.value in
    let dropped : IsDropped c.self.inside.whole c.self.inside.slabs devs c.args.a k = record { space = c.self.invariant; meta = has.is; kept = here } in
    let r = in_range c.self.inside.whole c.self.inside.slabs devs c.args.a k dropped in
    rw c.extent_of-e.ensures r

pub drop_meta-requires-clause-there : goal.drop_meta-requires-clause-there
drop_meta-requires-clause-there c =
    let devs = c.self.inside.devs.items in
    let k : Kept = record { row = c.device.inside.row; uses = c.device.inside.units; moves = c.device.inside.moves } in
    let has : IsMetaOn (space_of c.self.inside.whole devs) c.args.dev c.args.a = rw c.self.view_is c.requires.meta in
    let there : c.args.a.dev < length devs = let l = has.is.known in let e = length-map devs part_in in omega (arith, l, e) in
    let here : k ≡ kept_of devs c.args.a.dev = c.device.view_is ∙ kept_read devs c.args.a.dev c.index_mut-device.result.now there c.index_mut-device.ensures.value in
    let dropped : IsDropped c.self.inside.whole c.self.inside.slabs devs c.args.a k = record { space = c.self.invariant; meta = has.is; kept = here } in
    let all = meta_covers c.self.inside.whole c.self.inside.slabs devs c.args.a k c.self.invariant here has.current in
    rw c.extent_of-e.ensures all

pub drop_meta-requires-clause-apart : goal.drop_meta-requires-clause-apart
drop_meta-requires-clause-apart c =
    let devs = c.self.inside.devs.items in
    let k : Kept = record { row = c.device.inside.row; uses = c.device.inside.units; moves = c.device.inside.moves } in
    let has : IsMetaOn (space_of c.self.inside.whole devs) c.args.dev c.args.a = rw c.self.view_is c.requires.meta in
    let there : c.args.a.dev < length devs = let l = has.is.known in let e = length-map devs part_in in omega (arith, l, e) in
    let here : k ≡ kept_of devs c.args.a.dev = c.device.view_is ∙ kept_read devs c.args.a.dev c.index_mut-device.result.now there c.index_mut-device.ensures.value in
    let dropped : IsDropped c.self.inside.whole c.self.inside.slabs devs c.args.a k = record { space = c.self.invariant; meta = has.is; kept = here } in
    rw c.extent_of-e.ensures (none_freed c.self.inside.whole c.self.inside.slabs devs c.args.a k dropped)

pub invariant_of-self-2 : goal.invariant_of-self-2
invariant_of-self-2 c =
    let devs = c.self.inside.devs.items in
    let k : Kept = record { row = c.device.inside.row; uses = c.device.inside.units; moves = c.device.inside.moves } in
    let has : IsMetaOn (space_of c.self.inside.whole devs) c.args.dev c.args.a = rw c.self.view_is c.requires.meta in
    let there : c.args.a.dev < length devs = let l = has.is.known in let e = length-map devs part_in in omega (arith, l, e) in
    let here : k ≡ kept_of devs c.args.a.dev = c.device.view_is ∙ kept_read devs c.args.a.dev c.index_mut-device.result.now there c.index_mut-device.ensures.value in
    let dropped : IsDropped c.self.inside.whole c.self.inside.slabs devs c.args.a k = record { space = c.self.invariant; meta = has.is; kept = here } in
    let all = meta_covers c.self.inside.whole c.self.inside.slabs devs c.args.a k c.self.invariant here has.current in
    meta_space c.self.inside.whole c.self.inside.slabs devs c.args.a k dropped c.drop_meta.new.self (rw c.extent_of-e.ensures at c.in_ok-drop_meta.ensures.ok) all

pub returns-clause-ok : goal.returns-clause-ok
returns-clause-ok c =
    let devs = c.self.inside.devs.items in
    let k : Kept = record { row = c.device.inside.row; uses = c.device.inside.units; moves = c.device.inside.moves } in
    let has : IsMetaOn (space_of c.self.inside.whole devs) c.args.dev c.args.a = rw c.self.view_is c.requires.meta in
    let there : c.args.a.dev < length devs = let l = has.is.known in let e = length-map devs part_in in omega (arith, l, e) in
    let here : k ≡ kept_of devs c.args.a.dev = c.device.view_is ∙ kept_read devs c.args.a.dev c.index_mut-device.result.now there c.index_mut-device.ensures.value in
    let dropped : IsDropped c.self.inside.whole c.self.inside.slabs devs c.args.a k = record { space = c.self.invariant; meta = has.is; kept = here } in
    let all = meta_covers c.self.inside.whole c.self.inside.slabs devs c.args.a k c.self.invariant here has.current in
    let drops = rw c.extent_of-e.ensures at c.in_ok-drop_meta.ensures.ok in
    rw (← c.self.view_is) (record {
      at = c.args.a;
      meta = has;
      drops = drops_meta c.self.inside.whole c.self.inside.slabs devs c.args.a k dropped c.drop_meta.new.self drops all;
      parts = meta_keeps c.self.inside.whole c.self.inside.slabs devs c.args.a k dropped c.drop_meta.new.self drops all;
      saved = same_saved c.self.inside.whole devs c.args.a k c.drop_meta.new.self here drops;
      less = less_meta c.self.inside.whole devs c.args.a k c.drop_meta.new.self there has.is.some here drops;
    })

pub invariant_of-self : goal.invariant_of-self
invariant_of-self c =
    let devs = c.self.inside.devs.items in
    let k : Kept = record { row = c.device.inside.row; uses = c.device.inside.units; moves = c.device.inside.moves } in
    let has : IsMetaOn (space_of c.self.inside.whole devs) c.args.dev c.args.a = rw c.self.view_is c.requires.meta in
    let there : c.args.a.dev < length devs = let l = has.is.known in let e = length-map devs part_in in omega (arith, l, e) in
    let here : k ≡ kept_of devs c.args.a.dev = c.device.view_is ∙ kept_read devs c.args.a.dev c.index_mut-device.result.now there c.index_mut-device.ensures.value in
    spare_space c.self.inside.slabs c.self.inside.slabs devs c.args.a.dev k c.drop_meta.new.self c.self.invariant there here c.in_err-drop_meta.ensures.err refl

pub returns-in_err-drop_meta-clause-err : goal.returns-in_err-drop_meta-clause-err
returns-in_err-drop_meta-clause-err c =
    let devs = c.self.inside.devs.items in
    let k : Kept = record { row = c.device.inside.row; uses = c.device.inside.units; moves = c.device.inside.moves } in
    let has : IsMetaOn (space_of c.self.inside.whole devs) c.args.dev c.args.a = rw c.self.view_is c.requires.meta in
    let there : c.args.a.dev < length devs = let l = has.is.known in let e = length-map devs part_in in omega (arith, l, e) in
    let here : k ≡ kept_of devs c.args.a.dev = c.device.view_is ∙ kept_read devs c.args.a.dev c.index_mut-device.result.now there c.index_mut-device.ensures.value in
    on_err c.from_residual.result _ (space_itself c.self.inside.whole devs c.args.a.dev k c.drop_meta.new.self here c.in_err-drop_meta.ensures.err ∙ c.self.view_is)
