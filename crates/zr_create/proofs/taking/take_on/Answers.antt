use Rattle.std.proofs.Common.{◌≡◌, ℕ, ◌<◌, List, length, map, [], Some, sym, ◌∙◌, ap, subst, get_or}
use Rattle.std.specs.Prelude.{slice_index}
use Rattle.std.proofs.lemmas.List.{length-map}
use Rattle.std.proofs.Math.ListN.{get_or-map}
use Rattle.zr_label.specs.Blocks.{IsLabel}
use Rattle.zr_label.specs.declared.root.Label.{Label}
use Rattle.zr_newest.proofs.Prepared.{prepared_from}
use Rattle.zr_newest.specs.Newest.{PreparesSlot}
use Rattle.zr_slots.specs.Phases.{Prepares}
use Rattle.zr_sync.proofs.Disks.{works_prepared}
use Rattle.zr_create.proofs.Rows.{any_version, sized}
use Rattle.zr_create.proofs.Beside.{prepared_beside}
use Rattle.zr_create.proofs.Copies.{copies_kept}
use Rattle.zr_create.proofs.Keeping.{objects_kept}
use Rattle.zr_create.proofs.Taken.{taken}
use Rattle.zr_create.proofs.Trees.{trees_kept}
use Rattle.zr_create.proofs.taking.take_on.Goals as goal

pub returns-in_err-prepare_device-clause-disks : goal.returns-in_err-prepare_device-clause-disks
returns-in_err-prepare_device-clause-disks g c = λ t. works_prepared (slice_index (g.S.Shelf.sizes c.args.shelf.now) c.args.slot) c.args.slot _ c.prepare_device.result (g.S.Shelf.world c.args.shelf.now) (g.S.Shelf.world c.prepare_device.new.shelf) (c.prepare_device.ensures.order t)

pub returns-in_err-push_streams-clause-disks : goal.returns-in_err-push_streams-clause-disks
returns-in_err-push_streams-clause-disks g c = λ t. works_prepared (slice_index (g.S.Shelf.sizes c.args.shelf.now) c.args.slot) c.args.slot _ c.prepare_device.result (g.S.Shelf.world c.args.shelf.now) (g.S.Shelf.world c.prepare_device.new.shelf) (c.prepare_device.ensures.order t)

pub returns-in_err-add_dev-clause-disks : goal.returns-in_err-add_dev-clause-disks
returns-in_err-add_dev-clause-disks g c = λ t. works_prepared (slice_index (g.S.Shelf.sizes c.args.shelf.now) c.args.slot) c.args.slot _ c.prepare_device.result (g.S.Shelf.world c.args.shelf.now) (g.S.Shelf.world c.prepare_device.new.shelf) (c.prepare_device.ensures.order t)

pub returns-clause-disks : goal.returns-clause-disks
returns-clause-disks g c = λ t. works_prepared (slice_index (g.S.Shelf.sizes c.args.shelf.now) c.args.slot) c.args.slot _ c.prepare_device.result (g.S.Shelf.world c.args.shelf.now) (g.S.Shelf.world c.prepare_device.new.shelf) (c.prepare_device.ensures.order t)

pub returns-clause-pool : goal.returns-clause-pool
returns-clause-pool g c =
    taken (g.S.Shelf.sizes c.args.shelf.now) c.args.pool.now c.args.slot c.args.units c.requires.pool c.requires.few c.requires.exists (sized _ c.args.pool.now.version c.args.units c.requires.pool.version c.requires.units) c.requires.free
    (g.S.Shelf.sizes c.prepare_device.new.shelf) c.txg-txg.result c.enter.new.table c.add_dev.new.self c.push_streams.new.streams c.prepare_device.ensures.sizes c.txg-txg.ensures c.enter.ensures c.in_ok-add_dev.ensures.ok c.in_ok-push_streams.ensures.lawful c.in_ok-push_streams.ensures.count

pub returns-clause-stays : goal.returns-clause-stays
returns-clause-stays g c = λ objects h.
    let x = c.args.pool.now in
    let told = h.held.told in
    let w0 = g.S.Shelf.world c.args.shelf.now in
    let w1 = g.S.Shelf.world c.prepare_device.new.shelf in
    objects_kept (g.S.Shelf.sizes c.args.shelf.now) x c.args.slot c.args.units c.requires.pool c.requires.free c.txg-txg.result c.enter.new.table c.add_dev.new.self c.push_streams.new.streams c.enter.ensures c.in_ok-add_dev.ensures.ok
    w0.now.seen w1.now.seen (prepared_beside (slice_index (g.S.Shelf.sizes c.args.shelf.now) c.args.slot) c.args.slot _ c.prepare_device.result w0 w1 (c.prepare_device.ensures.order told))
    (g.S.Shelf.tells c.args.shelf.now) (g.S.Shelf.tells c.prepare_device.new.shelf) objects (c.prepare_device.ensures.told told) h

pub returns-clause-trees : goal.returns-clause-trees
returns-clause-trees g c = λ h.
    let x = c.args.pool.now in
    let told = h.1.held.told in
    let w0 = g.S.Shelf.world c.args.shelf.now in
    let w1 = g.S.Shelf.world c.prepare_device.new.shelf in
    trees_kept (g.S.Shelf.sizes c.args.shelf.now) x c.args.slot c.args.units c.requires.pool c.requires.free c.txg-txg.result c.enter.new.table c.add_dev.new.self c.push_streams.new.streams c.enter.ensures c.in_ok-add_dev.ensures.ok c.in_ok-add_dev.ensures.opened
    c.in_ok-push_streams.ensures.items w0.now.seen w1.now.seen (prepared_beside (slice_index (g.S.Shelf.sizes c.args.shelf.now) c.args.slot) c.args.slot _ c.prepare_device.result w0 w1 (c.prepare_device.ensures.order told)) (g.S.Shelf.tells c.args.shelf.now) (g.S.Shelf.tells c.prepare_device.new.shelf) (c.prepare_device.ensures.told told) h

pub returns-clause-copies : goal.returns-clause-copies
returns-clause-copies g c = λ t.
    let w0 = g.S.Shelf.world c.args.shelf.now in
    let w1 = g.S.Shelf.world c.prepare_device.new.shelf in
    copies_kept (g.S.Shelf.sizes c.args.shelf.now) c.args.pool.now c.args.slot c.args.units c.requires.pool c.requires.free c.txg-txg.result c.enter.new.table c.add_dev.new.self c.push_streams.new.streams c.enter.ensures c.in_ok-add_dev.ensures.ok
    w0.now.seen w1.now.seen (prepared_beside (slice_index (g.S.Shelf.sizes c.args.shelf.now) c.args.slot) c.args.slot _ c.prepare_device.result w0 w1 (c.prepare_device.ensures.order t))

-- ---- the slot

pub returns-clause-labelled : goal.returns-clause-labelled
returns-clause-labelled g c = λ t.
    let old = c.args.shelf.now in
    let new = c.prepare_device.new.shelf in
    let before = (g.S.Shelf.world old).now.seen in
    let after = (g.S.Shelf.world new).now.seen in
    let sizes = g.S.Shelf.sizes old in
    let slot = c.args.slot in
    let x = c.args.pool.now in
    let size = slice_index sizes slot in
    let told = c.prepare_device.ensures.told t in
    let sized_old = (g.S.Shelf.sound old t).sized in
    let sized_new = (g.S.Shelf.sound new told).sized in
    let same : map length after ≡ map length before = sized_new ∙ (c.prepare_device.ensures.sizes ∙ sym sized_old) in
    let long : length (get_or after slot []) ≡ size = sym (get_or-map (λ (bytes : List ℕ). length bytes) after slot []) ∙ ap (λ (ns : List ℕ). get_or ns slot 0) (sized_new ∙ c.prepare_device.ensures.sizes) in
    let known : slot < length before = subst (λ (n : ℕ). slot < n) (sym (ap (λ (ns : List ℕ). length ns) sized_old) ∙ length-map before length) c.requires.exists in
    let fits = sized size x.version c.args.units c.requires.pool.version c.requires.units in
    let own = c.in_ok-prepare_device.ensures in
    let label = c.label_of-label.result in
    let is = c.label_of-label.ensures.value ∙ ap (λ (n : ℕ). record { guid = x.guid; index = x.table.count; added = n; units = c.args.units; name = x.name }) c.txg-txg.ensures in
    subst (λ (l : Label). PreparesSlot before after slot l) is
    (prepared_from before after slot size label known same long (fits.units_any ∙ sym (ap (λ (l : Label). Some l.units) is)) (prepared_beside size slot label c.prepare_device.result (g.S.Shelf.world old) (g.S.Shelf.world new) (c.prepare_device.ensures.order t)) (own.labels t) (own.rings t))

pub returns-in_err-prepare_device-clause-prepares : goal.returns-in_err-prepare_device-clause-prepares
returns-in_err-prepare_device-clause-prepares g c = λ t.
    let size = slice_index (g.S.Shelf.sizes c.args.shelf.now) c.args.slot in
    let x = c.args.pool.now in
    let is = c.label_of-label.ensures.value ∙ ap (λ (n : ℕ). record { guid = x.guid; index = x.table.count; added = n; units = c.args.units; name = x.name }) c.txg-txg.ensures in
    (c.prepare_device.result, subst (λ (l : Label). Prepares size c.args.slot l c.prepare_device.result (g.S.Shelf.world c.args.shelf.now) (g.S.Shelf.world c.prepare_device.new.shelf)) is (c.prepare_device.ensures.order t))

pub returns-in_err-push_streams-clause-prepares : goal.returns-in_err-push_streams-clause-prepares
returns-in_err-push_streams-clause-prepares g c = λ t.
    let size = slice_index (g.S.Shelf.sizes c.args.shelf.now) c.args.slot in
    let x = c.args.pool.now in
    let is = c.label_of-label.ensures.value ∙ ap (λ (n : ℕ). record { guid = x.guid; index = x.table.count; added = n; units = c.args.units; name = x.name }) c.txg-txg.ensures in
    (c.prepare_device.result, subst (λ (l : Label). Prepares size c.args.slot l c.prepare_device.result (g.S.Shelf.world c.args.shelf.now) (g.S.Shelf.world c.prepare_device.new.shelf)) is (c.prepare_device.ensures.order t))

pub returns-in_err-add_dev-clause-prepares : goal.returns-in_err-add_dev-clause-prepares
returns-in_err-add_dev-clause-prepares g c = λ t.
    let size = slice_index (g.S.Shelf.sizes c.args.shelf.now) c.args.slot in
    let x = c.args.pool.now in
    let is = c.label_of-label.ensures.value ∙ ap (λ (n : ℕ). record { guid = x.guid; index = x.table.count; added = n; units = c.args.units; name = x.name }) c.txg-txg.ensures in
    (c.prepare_device.result, subst (λ (l : Label). Prepares size c.args.slot l c.prepare_device.result (g.S.Shelf.world c.args.shelf.now) (g.S.Shelf.world c.prepare_device.new.shelf)) is (c.prepare_device.ensures.order t))

pub returns-clause-prepares : goal.returns-clause-prepares
returns-clause-prepares g c = λ t.
    let size = slice_index (g.S.Shelf.sizes c.args.shelf.now) c.args.slot in
    let x = c.args.pool.now in
    let is = c.label_of-label.ensures.value ∙ ap (λ (n : ℕ). record { guid = x.guid; index = x.table.count; added = n; units = c.args.units; name = x.name }) c.txg-txg.ensures in
    (c.prepare_device.result, subst (λ (l : Label). Prepares size c.args.slot l c.prepare_device.result (g.S.Shelf.world c.args.shelf.now) (g.S.Shelf.world c.prepare_device.new.shelf)) is (c.prepare_device.ensures.order t))

pub returns-in_err-prepare_device-clause-label : goal.returns-in_err-prepare_device-clause-label
returns-in_err-prepare_device-clause-label g c =
    let x = c.args.pool.now in
    let is = c.label_of-label.ensures.value ∙ ap (λ (n : ℕ). record { guid = x.guid; index = x.table.count; added = n; units = c.args.units; name = x.name }) c.txg-txg.ensures in
    subst (λ (l : Label). IsLabel l) is c.label_of-label.ensures.lawful

pub returns-in_err-push_streams-clause-label : goal.returns-in_err-push_streams-clause-label
returns-in_err-push_streams-clause-label g c =
    let x = c.args.pool.now in
    let is = c.label_of-label.ensures.value ∙ ap (λ (n : ℕ). record { guid = x.guid; index = x.table.count; added = n; units = c.args.units; name = x.name }) c.txg-txg.ensures in
    subst (λ (l : Label). IsLabel l) is c.label_of-label.ensures.lawful

pub returns-in_err-add_dev-clause-label : goal.returns-in_err-add_dev-clause-label
returns-in_err-add_dev-clause-label g c =
    let x = c.args.pool.now in
    let is = c.label_of-label.ensures.value ∙ ap (λ (n : ℕ). record { guid = x.guid; index = x.table.count; added = n; units = c.args.units; name = x.name }) c.txg-txg.ensures in
    subst (λ (l : Label). IsLabel l) is c.label_of-label.ensures.lawful

pub returns-clause-label : goal.returns-clause-label
returns-clause-label g c =
    let x = c.args.pool.now in
    let is = c.label_of-label.ensures.value ∙ ap (λ (n : ℕ). record { guid = x.guid; index = x.table.count; added = n; units = c.args.units; name = x.name }) c.txg-txg.ensures in
    subst (λ (l : Label). IsLabel l) is c.label_of-label.ensures.lawful

pub returns-in_err-prepare_device-clause-disk : goal.returns-in_err-prepare_device-clause-disk
returns-in_err-prepare_device-clause-disk g c = let x = c.args.pool.now in any_version _ x.version c.requires.pool.version (sized _ x.version c.args.units c.requires.pool.version c.requires.units).size_is

pub returns-in_err-push_streams-clause-disk : goal.returns-in_err-push_streams-clause-disk
returns-in_err-push_streams-clause-disk g c = let x = c.args.pool.now in any_version _ x.version c.requires.pool.version (sized _ x.version c.args.units c.requires.pool.version c.requires.units).size_is

pub returns-in_err-add_dev-clause-disk : goal.returns-in_err-add_dev-clause-disk
returns-in_err-add_dev-clause-disk g c = let x = c.args.pool.now in any_version _ x.version c.requires.pool.version (sized _ x.version c.args.units c.requires.pool.version c.requires.units).size_is

pub returns-clause-disk : goal.returns-clause-disk
returns-clause-disk g c = let x = c.args.pool.now in any_version _ x.version c.requires.pool.version (sized _ x.version c.args.units c.requires.pool.version c.requires.units).size_is
