use Rattle.std.proofs.Common.{◌≡◌, List, ℕ, Option, sym, ◌∙◌, ap, subst}
use Rattle.zr_base.specs.declared.space.SpaceParts.{SpaceParts}
use Rattle.zr_cache.specs.Entries.{entries}
use Rattle.zr_cache.specs.declared.table.Cache.{Cache}
use Rattle.zr_image.specs.Reading.{store_of}
use Rattle.zr_rules.specs.Devices.{devices_of}
use Rattle.zr_rules.specs.Space.{Space}
use Rattle.zr_vdev.specs.Runs.{view_of}
use Rattle.zr_roots.proofs.Reading.{blocks_stand, holds_image, unread_by}
use Rattle.zr_roots.proofs.whole.read_blocks.Goals as goal

pub returns-clause-stand : goal.returns-clause-stand
returns-clause-stand g c = λ t.
    let v = c.new-store.result in
    let same = c.new-store.ensures in
    let m = c.args.meta in
    let own = c.read_root.ensures in
    let none = ap (λ (k : Cache). entries k) same.cache ∙ c.in_ok-cache.ensures.empty in
    let holds = holds_image v.slots.now (g.S.Shelf.tells v.shelf.now) (g.S.Shelf.world v.shelf.now).now.seen v.space.now v.cache.now none (subst (λ s. g.S.Shelf.tells s) (sym same.shelf) t) in
    let image = store_of (view_of (g.S.Shelf.world v.shelf.now).now.seen v.slots.now v.space.now) in
    let disks = (g.S.Shelf.world c.args.shelf.now).now.seen in
    let slots = c.args.found.now.slots in
    let is : image ≡ store_of (record { disks = disks; slots = slots; devices = devices_of m.parts.devs }) =
    ap (λ s. store_of (view_of (g.S.Shelf.world s).now.seen v.slots.now v.space.now)) same.shelf
    ∙ (ap (λ (ss : List (Option ℕ)). store_of (view_of disks ss v.space.now)) same.slots
    ∙ (ap (λ (s : Space). store_of (view_of disks slots s)) same.space ∙ ap (λ (ps : SpaceParts). store_of (record { disks = disks; slots = slots; devices = devices_of ps.devs })) c.requires.parts)) in
    blocks_stand disks slots c.args.found.now.root.txg m image is c.read_root.result own.root (own.live image holds) (own.place image holds) (λ since at. own.older image since holds at)

pub returns-clause-unread : goal.returns-clause-unread
returns-clause-unread g c = unread_by _ _ c.read_root.result c.read_root.ensures.cause
