use Rattle.std.proofs.Common.{◌≡◌, ◌∙◌, arith, sym, ap, subst}
use Rattle.zr_base.specs.Extents.{HasAll, HasNone}
use Rattle.zr_rules.specs.Places.{is_on}
use Rattle.zr_indirect.specs.Mapped.{Mapped}
use Rattle.zr_indirect.specs.Changes.{IsCopiedOrLeft}
use Rattle.zr_space.specs.Views.{Kept, kept_of}
use Rattle.zr_space.proofs.FreeLeaving.{IsLetGo, state, held, unmarked, there, left_space, left_frees, left_spare, left_rows}
use Rattle.zr_space.proofs.images.free_leaving.Goals as goal

pub free_units-requires-clause-held : goal.free_units-requires-clause-held
free_units-requires-clause-held c =
    let r = c.requires in
    subst (λ (k : Kept). HasAll k.uses.held c.args.e) (sym c.free_images.ensures.source) (held c.args.whole.now c.args.slabs.now c.args.devs.now.items c.args.dev c.args.e r.space r.leaving r.used)

pub free_units-requires-clause-room : goal.free_units-requires-clause-room
free_units-requires-clause-room c =
    let room = (c.requires.room c.args.dev c.requires.known).0 in
    let same = ap (λ (k : Kept). k.uses.spare) c.free_images.ensures.source in
    omega (arith, room, same)

pub mark_copied-requires-clause-known : goal.mark_copied-requires-clause-known
mark_copied-requires-clause-known c =
    let a = c.free_images.ensures.frees.count in
    let b = c.free_units.ensures.others.count in
    let k = c.requires.known in
    omega (arith, a, b, k)

pub mark_copied-requires-clause-leaving : goal.mark_copied-requires-clause-leaving
mark_copied-requires-clause-leaving c =
    let r = c.requires in
    ap (λ (k : Kept). k.moves.state) c.free_units.ensures.here ∙ (ap (λ (k : Kept). k.moves.state) c.free_images.ensures.source ∙ state c.args.whole.now c.args.slabs.now c.args.devs.now.items c.args.dev c.args.e r.space r.leaving r.used)

pub mark_copied-requires-clause-unmarked : goal.mark_copied-requires-clause-unmarked
mark_copied-requires-clause-unmarked c =
    let r = c.requires in
    let same : (kept_of c.free_units.new.devs.items c.args.dev).moves ≡ (kept_of c.args.devs.now.items c.args.dev).moves = ap (λ (k : Kept). k.moves) c.free_units.ensures.here ∙ ap (λ (k : Kept). k.moves) c.free_images.ensures.source in
    subst (λ (m : Mapped). HasNone m.fresh c.args.e) (sym same) (unmarked c.args.whole.now c.args.slabs.now c.args.devs.now.items c.args.dev c.args.e r.space r.leaving r.used)

pub mark_copied-requires-clause-there : goal.mark_copied-requires-clause-there
mark_copied-requires-clause-there c =
    let r = c.requires in
    let same : (kept_of c.free_units.new.devs.items c.args.dev).moves ≡ (kept_of c.args.devs.now.items c.args.dev).moves = ap (λ (k : Kept). k.moves) c.free_units.ensures.here ∙ ap (λ (k : Kept). k.moves) c.free_images.ensures.source in
    subst (λ (m : Mapped). IsCopiedOrLeft m c.args.e) (sym same) (there c.args.whole.now c.args.slabs.now c.args.devs.now.items c.args.dev c.args.e r.space r.leaving r.used)

pub mark_copied-requires-clause-room : goal.mark_copied-requires-clause-room
mark_copied-requires-clause-room c =
    let r = c.requires in
    let same : (kept_of c.free_units.new.devs.items c.args.dev).moves ≡ (kept_of c.args.devs.now.items c.args.dev).moves = ap (λ (k : Kept). k.moves) c.free_units.ensures.here ∙ ap (λ (k : Kept). k.moves) c.free_images.ensures.source in
    let off = ap is_on (state c.args.whole.now c.args.slabs.now c.args.devs.now.items c.args.dev c.args.e r.space r.leaving r.used) in
    let room = (r.room c.args.dev r.known).1 off in
    let spare = ap (λ (m : Mapped). m.spare) same in
    let some = r.some in
    omega (arith, room, spare, some)

pub returns-clause-space : goal.returns-clause-space
returns-clause-space c =
    let r = c.requires in
    let done : IsLetGo c.args.whole.now c.args.slabs.now c.free_images.new.slabs c.free_units.new.slabs c.args.devs.now.items c.free_images.new.devs.items c.free_units.new.devs.items c.mark_copied.new.devs.items c.args.dev c.args.e =
    record { space = r.space; known = r.known; leaves = r.leaving; used = r.used; images = c.free_images.ensures.frees; source = c.free_images.ensures.source; frees = c.free_units.ensures; marks = c.mark_copied.ensures } in
    left_space c.args.whole.now c.args.slabs.now c.free_images.new.slabs c.free_units.new.slabs c.args.devs.now.items c.free_images.new.devs.items c.free_units.new.devs.items c.mark_copied.new.devs.items c.args.dev c.args.e done

pub returns-clause-frees : goal.returns-clause-frees
returns-clause-frees c =
    let r = c.requires in
    let done : IsLetGo c.args.whole.now c.args.slabs.now c.free_images.new.slabs c.free_units.new.slabs c.args.devs.now.items c.free_images.new.devs.items c.free_units.new.devs.items c.mark_copied.new.devs.items c.args.dev c.args.e =
    record { space = r.space; known = r.known; leaves = r.leaving; used = r.used; images = c.free_images.ensures.frees; source = c.free_images.ensures.source; frees = c.free_units.ensures; marks = c.mark_copied.ensures } in
    left_frees c.args.whole.now c.args.slabs.now c.free_images.new.slabs c.free_units.new.slabs c.args.devs.now.items c.free_images.new.devs.items c.free_units.new.devs.items c.mark_copied.new.devs.items c.args.dev c.args.e done

pub returns-clause-room : goal.returns-clause-room
returns-clause-room c =
    let r = c.requires in
    let done : IsLetGo c.args.whole.now c.args.slabs.now c.free_images.new.slabs c.free_units.new.slabs c.args.devs.now.items c.free_images.new.devs.items c.free_units.new.devs.items c.mark_copied.new.devs.items c.args.dev c.args.e =
    record { space = r.space; known = r.known; leaves = r.leaving; used = r.used; images = c.free_images.ensures.frees; source = c.free_images.ensures.source; frees = c.free_units.ensures; marks = c.mark_copied.ensures } in
    left_spare c.args.whole.now c.args.slabs.now c.free_images.new.slabs c.free_units.new.slabs c.args.devs.now.items c.free_images.new.devs.items c.free_units.new.devs.items c.mark_copied.new.devs.items c.args.dev c.args.e done r.some c.free_images.ensures.spare

pub returns-clause-rows : goal.returns-clause-rows
returns-clause-rows c =
    let r = c.requires in
    let done : IsLetGo c.args.whole.now c.args.slabs.now c.free_images.new.slabs c.free_units.new.slabs c.args.devs.now.items c.free_images.new.devs.items c.free_units.new.devs.items c.mark_copied.new.devs.items c.args.dev c.args.e =
    record { space = r.space; known = r.known; leaves = r.leaving; used = r.used; images = c.free_images.ensures.frees; source = c.free_images.ensures.source; frees = c.free_units.ensures; marks = c.mark_copied.ensures } in
    left_rows c.args.whole.now c.args.slabs.now c.free_images.new.slabs c.free_units.new.slabs c.args.devs.now.items c.free_images.new.devs.items c.free_units.new.devs.items c.mark_copied.new.devs.items c.args.dev c.args.e done
