use Rattle.std.proofs.Common.{◌≡◌, List, ℕ, Option, map, sym, ◌∙◌, ap, subst}
use Rattle.zr_bptr.specs.declared.Bptr.{Bptr}
use Rattle.zr_cache.specs.Entries.{entries}
use Rattle.zr_cache.specs.declared.table.Cache.{Cache}
use Rattle.zr_image.specs.Reading.{store_of}
use Rattle.zr_import.specs.Words.{ReadsMeta, meta_reach}
use Rattle.zr_import.specs.declared.metadata.Meta.{Meta}
use Rattle.zr_roots.specs.Standing.{StandsMeta, image_of}
use Rattle.zr_rules.specs.Space.{Space}
use Rattle.zr_store.specs.Store.{Stored}
use Rattle.zr_vdev.specs.Runs.{view_of}
use Rattle.zr_roots.proofs.Reading.{both_ok, holds_image, unread_by}
use Rattle.zr_roots.proofs.Unread.{blank_image, blank_mounted}
use Rattle.zr_roots.proofs.base.read_metadata.Goals as goal

pub new-store-requires : goal.new-store-requires
new-store-requires g c = blank_mounted c.args.found.now.root c.requires.root c.in_ok-space.space c.in_ok-space.ensures (g.S.Shelf.sizes c.args.shelf.now) c.args.found.now.slots c.requires.disks

pub returns-clause-stands : goal.returns-clause-stands
returns-clause-stands g c = λ t.
    let v = c.new-store.result in
    let same = c.new-store.ensures in
    let u = c.args.found.now.root in
    let none = ap (λ (k : Cache). entries k) same.cache ∙ c.in_ok-cache.ensures.empty in
    let holds = holds_image v.slots.now (g.S.Shelf.tells v.shelf.now) (g.S.Shelf.world v.shelf.now).now.seen v.space.now v.cache.now none (subst (λ s. g.S.Shelf.tells s) (sym same.shelf) t) in
    let image = store_of (view_of (g.S.Shelf.world v.shelf.now).now.seen v.slots.now v.space.now) in
    let disks = (g.S.Shelf.world c.args.shelf.now).now.seen in
    let is : image ≡ image_of disks c.args.found.now.slots u =
    ap (λ s. store_of (view_of (g.S.Shelf.world s).now.seen v.slots.now v.space.now)) same.shelf
    ∙ (ap (λ (ss : List (Option ℕ)). store_of (view_of disks ss v.space.now)) same.slots
    ∙ (ap (λ (s : Space). store_of (view_of disks c.args.found.now.slots s)) same.space ∙ blank_image u c.requires.root c.in_ok-space.space c.in_ok-space.ensures disks c.args.found.now.slots)) in
    both_ok c.read_meta.result (λ (m : Meta). ReadsMeta image u m.head m.parts) (λ (m : Meta). m.at ≡ map (λ (b : Bptr). b.at) (meta_reach image u m.head)) (StandsMeta disks c.args.found.now.slots u)
    (λ m reads at. record { reads = subst (λ (s : Stored). ReadsMeta s u m.head m.parts) is reads; at = subst (λ (s : Stored). m.at ≡ map (λ (b : Bptr). b.at) (meta_reach s u m.head)) is at })
    (c.read_meta.ensures.reads image holds) (c.read_meta.ensures.at image holds)

pub returns-clause-unread : goal.returns-clause-unread
returns-clause-unread g c = unread_by _ _ c.read_meta.result c.read_meta.ensures.cause
