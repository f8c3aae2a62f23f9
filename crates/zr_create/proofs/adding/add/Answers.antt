use Rattle.std.proofs.Common.{◌≡◌, ◌≢◌, ◌+◌, ℕ, ◌<◌, inl, inr, false, true, List, length, refl, subst, sym, ap, ◌∙◌, arith}
use Rattle.std.specs.Prelude.{IsTrue, slice_index}
use Rattle.zr_label.specs.Geometry.{is_disk_size}
use Rattle.zr_label.specs.declared.root.Label.{Label}
use Rattle.zr_last.proofs.Ending.{leaves_by}
use Rattle.zr_last.specs.Last.{ShowsLast}
use Rattle.zr_scan.specs.Scan.{IsFirstLabel}
use Rattle.zr_shelf.specs.Disks.{Stand, disk}
use Rattle.zr_sync.specs.declared.open.Table.{Table}
use Rattle.zr_sync.specs.Heads.{IsSeen}
use Rattle.zr_sync.specs.Pools.{IsOpen}
use Rattle.zr_sync.proofs.Disks.{works_more, works_still}
use Rattle.zr_create.proofs.Taken.{IsFree}
use Rattle.zr_create.proofs.Checking.{next_free}
use Rattle.zr_create.proofs.Copies.{copies_still}
use Rattle.zr_create.proofs.Keeping.{objects_still}
use Rattle.zr_create.proofs.Lasting.{grown_last, next_alone, next_few, slot_known, still_alone}
use Rattle.zr_create.specs.Adding.{IsNextSlot, PreparesNext}
use Rattle.zr_create.specs.Devices.{next_label}
use Rattle.zr_shelf.proofs.Runs.{still as unmoved}
use Rattle.zr_slots.specs.Phases.{IsPrepared}
use Rattle.zr_sync.proofs.Ending.{ends_by}
use Rattle.zr_sync.specs.Ends.{EndsCommitted}
use Rattle.zr_sync.specs.Leads.{CommitsObjects}
use Rattle.zr_create.proofs.Trees.{trees_still}
use Rattle.zr_sync.proofs.Leading.{committed_told}
use Rattle.zr_sync.proofs.Regrouping.{begins_again}
use Rattle.zr_sync.proofs.Retelling.{trees_told}
use Rattle.zr_sync.specs.Trees.{HasLastTrees}
use Rattle.zr_sync.specs.Trees.Stage.{Had}
use Rattle.zr_create.proofs.adding.add.Goals as goal

pub returns-in_err-check_next-clause-disks : goal.returns-in_err-check_next-clause-disks
returns-in_err-check_next-clause-disks g c = λ t. works_still (g.S.Shelf.world c.args.shelf.now) (g.S.Shelf.world c.check_next.new.shelf) (c.check_next.ensures.still t)

pub returns-in_err-commit-clause-disks : goal.returns-in_err-commit-clause-disks
returns-in_err-commit-clause-disks g c = λ t.
    let told = c.check_next.ensures.told t in
    let w0 = g.S.Shelf.world c.args.shelf.now in
    let w1 = g.S.Shelf.world c.check_next.new.shelf in
    let w2 = g.S.Shelf.world c.commit.new.shelf in
    works_more w0 w1 w2 (works_still w0 w1 (c.check_next.ensures.still t)) (c.commit.ensures.disks told)

pub take_on-requires-clause-free : goal.take_on-requires-clause-free
take_on-requires-clause-free g c =
    subst (λ (t : Table). IsFree t.slots c.args.slot) (sym c.in_ok-commit.ensures.same.table)
    (next_free (g.S.Shelf.sizes c.args.shelf.now) (g.S.Shelf.tells c.args.shelf.now) (g.S.Shelf.world c.args.shelf.now).now.seen c.args.pool.now c.args.slot c.in_ok-check_next.ensures.allowed)

pub returns-in_err-take_on-clause-disks : goal.returns-in_err-take_on-clause-disks
returns-in_err-take_on-clause-disks g c = λ t.
    let told = c.check_next.ensures.told t in
    let told2 = c.commit.ensures.told told in
    let w0 = g.S.Shelf.world c.args.shelf.now in
    let w1 = g.S.Shelf.world c.check_next.new.shelf in
    let w2 = g.S.Shelf.world c.commit.new.shelf in
    let w3 = g.S.Shelf.world c.take_on.new.shelf in
    works_more w0 w1 w3 (works_still w0 w1 (c.check_next.ensures.still t)) (works_more w1 w2 w3 (c.commit.ensures.disks told) (c.take_on.ensures.disks told2))

pub returns-in_err-commit-2-clause-disks : goal.returns-in_err-commit-2-clause-disks
returns-in_err-commit-2-clause-disks g c = λ t.
    let told = c.check_next.ensures.told t in
    let told2 = c.commit.ensures.told told in
    let told3 = c.take_on.ensures.told told2 in
    let w0 = g.S.Shelf.world c.args.shelf.now in
    let w1 = g.S.Shelf.world c.check_next.new.shelf in
    let w2 = g.S.Shelf.world c.commit.new.shelf in
    let w3 = g.S.Shelf.world c.take_on.new.shelf in
    let w4 = g.S.Shelf.world c.commit-2.new.shelf in
    works_more w0 w1 w4 (works_still w0 w1 (c.check_next.ensures.still t)) (works_more w1 w2 w4 (c.commit.ensures.disks told) (works_more w2 w3 w4 (c.take_on.ensures.disks told2) (c.commit-2.ensures.disks told3)))

pub returns-clause-told : goal.returns-clause-told
returns-clause-told g c = λ t. c.commit-2.ensures.told (c.take_on.ensures.told (c.commit.ensures.told (c.check_next.ensures.told t)))

pub returns-clause-disks : goal.returns-clause-disks
returns-clause-disks g c = λ t.
    let told = c.check_next.ensures.told t in
    let told2 = c.commit.ensures.told told in
    let told3 = c.take_on.ensures.told told2 in
    let w0 = g.S.Shelf.world c.args.shelf.now in
    let w1 = g.S.Shelf.world c.check_next.new.shelf in
    let w2 = g.S.Shelf.world c.commit.new.shelf in
    let w3 = g.S.Shelf.world c.take_on.new.shelf in
    let w4 = g.S.Shelf.world c.commit-2.new.shelf in
    works_more w0 w1 w4 (works_still w0 w1 (c.check_next.ensures.still t)) (works_more w1 w2 w4 (c.commit.ensures.disks told) (works_more w2 w3 w4 (c.take_on.ensures.disks told2) (c.commit-2.ensures.disks told3)))

pub returns-clause-objects : goal.returns-clause-objects
returns-clause-objects g c = λ objects h.
    let told = h.held.told in
    let before = objects_still (g.S.Shelf.tells c.args.shelf.now) (g.S.Shelf.tells c.check_next.new.shelf) (g.S.Shelf.world c.args.shelf.now) (g.S.Shelf.world c.check_next.new.shelf) c.args.pool.now objects (c.check_next.ensures.told told) (c.check_next.ensures.still told) h in
    c.in_ok-commit-2.ensures.stays objects (c.in_ok-take_on.ensures.stays objects (c.in_ok-commit.ensures.stays objects before))

pub returns-clause-trees : goal.returns-clause-trees
returns-clause-trees g c = λ h.
    let told = h.1.held.told in
    let second = c.commit.new.shelf in
    let before = trees_still (g.S.Shelf.tells c.args.shelf.now) (g.S.Shelf.tells c.check_next.new.shelf) (g.S.Shelf.world c.args.shelf.now) (g.S.Shelf.world c.check_next.new.shelf) c.args.pool.now (c.check_next.ensures.told told) (c.check_next.ensures.still told) h in
    let here = c.in_ok-commit.ensures in
    let again = begins_again (g.S.Shelf.tells second) (g.S.Shelf.world second).now.seen c.commit.new.pool here.ends.ended.opened (here.trees before) in
    c.in_ok-commit-2.ensures.trees (c.in_ok-take_on.ensures.trees again)

pub returns-clause-moves : goal.returns-clause-moves
returns-clause-moves g c = λ h.
    let told = h.1.held.told in
    let second = c.commit.new.shelf in
    let before = trees_still (g.S.Shelf.tells c.args.shelf.now) (g.S.Shelf.tells c.check_next.new.shelf) (g.S.Shelf.world c.args.shelf.now) (g.S.Shelf.world c.check_next.new.shelf) c.args.pool.now (c.check_next.ensures.told told) (c.check_next.ensures.still told) h in
    let here = c.in_ok-commit.ensures in
    let again = begins_again (g.S.Shelf.tells second) (g.S.Shelf.world second).now.seen c.commit.new.pool here.ends.ended.opened (here.trees before) in
    c.in_ok-commit-2.ensures.moves (c.in_ok-take_on.ensures.trees again)

pub returns-clause-copies : goal.returns-clause-copies
returns-clause-copies g c = λ t h.
    let told = c.check_next.ensures.told t in
    let told2 = c.commit.ensures.told told in
    let before = copies_still (g.S.Shelf.world c.args.shelf.now) (g.S.Shelf.world c.check_next.new.shelf) c.args.pool.now (c.check_next.ensures.still t) h in
    c.in_ok-commit-2.ensures.copies (c.take_on.ensures.told told2) (c.in_ok-take_on.ensures.copies told2 (c.in_ok-commit.ensures.copies told before))

-- ---- what is left

pub returns-clause-ends : goal.returns-clause-ends
returns-clause-ends g c = λ objects h.
    let t = h.held.told in
    let told = c.check_next.ensures.told t in
    let told3 = c.take_on.ensures.told (c.commit.ensures.told told) in
    let third = c.take_on.new.shelf in
    let fourth = c.commit-2.new.shelf in
    let before = objects_still (g.S.Shelf.tells c.args.shelf.now) (g.S.Shelf.tells c.check_next.new.shelf) (g.S.Shelf.world c.args.shelf.now) (g.S.Shelf.world c.check_next.new.shelf) c.args.pool.now objects told (c.check_next.ensures.still t) h in
    let held = c.in_ok-take_on.ensures.stays objects (c.in_ok-commit.ensures.stays objects before) in
    let there = c.in_ok-commit-2.ensures in
    let seen : IsSeen (g.S.Shelf.tells third) (g.S.Shelf.world third).now.seen c.take_on.new.pool = record { told = held.held.told; read = held.held.read } in
    leaves_by (g.S.Shelf.sizes third) (g.S.Shelf.sizes fourth) c.take_on.new.pool c.commit-2.new.pool (g.S.Shelf.world third) (g.S.Shelf.world fourth) c.in_ok-take_on.ensures.pool there.pool there.txg (there.written told3) there.ends.ended.opened there.empty (there.stands seen) (there.safe seen)

-- ---- the last root

pub returns-clause-shown : goal.returns-clause-shown
returns-clause-shown g c = λ t h.
    let told = c.check_next.ensures.told t in
    let told2 = c.commit.ensures.told told in
    let told3 = c.take_on.ensures.told told2 in
    let old = c.args.shelf.now in
    let first = c.check_next.new.shelf in
    let second = c.commit.new.shelf in
    let third = c.take_on.new.shelf in
    let fourth = c.commit-2.new.shelf in
    let a = c.args.pool.now in
    let b = c.commit.new.pool in
    let third_pool = c.take_on.new.pool in
    let d = c.commit-2.new.pool in
    let slot = c.args.slot in
    let units = c.in-Some.units in
    let here = c.in_ok-commit.ensures in
    let there = c.in_ok-commit-2.ensures in
    let taken = c.in_ok-take_on.ensures in
    let same = ap (λ (s : Stand). s.seen) (c.check_next.ensures.still t).now in
    let free =
    subst (λ (table : Table). IsFree table.slots slot) (sym here.same.table)
    (next_free (g.S.Shelf.sizes old) (g.S.Shelf.tells old) (g.S.Shelf.world old).now.seen a slot c.in_ok-check_next.ensures.allowed) in
    let few : b.table.count < 32 =
    let n = ap (λ (table : Table). table.count) here.same.table in
    let low = next_few (g.S.Shelf.sizes old) (g.S.Shelf.tells old) (g.S.Shelf.world old).now.seen a slot c.in_ok-check_next.ensures.allowed in
    omega (arith, n, low) in
    let alone =
    subst
    (λ (ds : List (List ℕ)). (other : ℕ) (m : Label) → other ≢ slot → other < length ds → IsFirstLabel (length (disk ds other)) (disk ds other) m → m.guid ≡ a.guid → m.index ≡ a.table.count → m.added ≡ a.group.txg + 1 → ⊥)
    (sym same) (next_alone (g.S.Shelf.sizes old) (g.S.Shelf.tells old) t (g.S.Shelf.world old).now.seen a slot c.in_ok-check_next.ensures.allowed) in
    grown_last (g.S.Shelf.world first) (g.S.Shelf.world second) (g.S.Shelf.world third) (g.S.Shelf.world fourth) (g.S.Shelf.sizes first) (g.S.Shelf.sizes second) (g.S.Shelf.sizes third) (g.S.Shelf.sizes fourth) a b third_pool d slot units
    (subst (λ (ns : List ℕ). IsOpen ns a) (sym c.check_next.ensures.sizes) c.requires.pool) here.pool (g.S.Shelf.sound first told).sized here.txg here.last (here.written told) here.same.guid here.same.table few free taken.taken (taken.labelled told2) taken.pool there.pool
    (g.S.Shelf.sound third told3).sized there.txg there.last (there.written told3) there.same.guid there.same.table alone (subst (λ (ds : List (List ℕ)). ShowsLast ds a) (sym same) h)

-- ---- wherever it stops

pub returns-in_err-check_next-clause-stops : goal.returns-in_err-check_next-clause-stops
returns-in_err-check_next-clause-stops g c = λ objects h.
    let still = c.check_next.ensures.still h.held.told in
    let world = g.S.Shelf.world c.check_next.new.shelf in
    (world, still, inl (unmoved world world refl))

pub returns-in_err-commit-clause-stops : goal.returns-in_err-commit-clause-stops
returns-in_err-commit-clause-stops g c = λ objects h.
    let old = c.args.shelf.now in
    let first = c.check_next.new.shelf in
    let still = c.check_next.ensures.still h.held.told in
    let before = objects_still (g.S.Shelf.tells old) (g.S.Shelf.tells first) (g.S.Shelf.world old) (g.S.Shelf.world first) c.args.pool.now objects (c.check_next.ensures.told h.held.told) still h in
    (g.S.Shelf.world first, still, inr (inl (subst (λ (n : List ℕ). CommitsObjects (HasLastTrees (g.S.Shelf.world first).now.seen c.args.pool.now) n c.args.pool.now false objects (g.S.Shelf.world first) (g.S.Shelf.world c.commit.new.shelf)) c.check_next.ensures.sizes (c.commit.ensures.leads objects before))))

pub returns-in_err-take_on-clause-stops : goal.returns-in_err-take_on-clause-stops
returns-in_err-take_on-clause-stops g c = λ objects h.
    let old = c.args.shelf.now in
    let first = c.check_next.new.shelf in
    let second = c.commit.new.shelf in
    let a = c.args.pool.now in
    let b = c.commit.new.pool in
    let slot = c.args.slot in
    let t = h.held.told in
    let told = c.check_next.ensures.told t in
    let told2 = c.commit.ensures.told told in
    let still = c.check_next.ensures.still t in
    let same = ap (λ (s : Stand). s.seen) still.now in
    let before = objects_still (g.S.Shelf.tells old) (g.S.Shelf.tells first) (g.S.Shelf.world old) (g.S.Shelf.world first) a objects told still h in
    let here = c.in_ok-commit.ensures in
    let sizes2 = c.commit.ensures.sizes ∙ c.check_next.ensures.sizes in
    let allowed = c.in_ok-check_next.ensures.allowed in
    let alone =
    subst
    (λ (ds : List (List ℕ)). (other : ℕ) (m : Label) → other ≢ slot → other < length ds → IsFirstLabel (length (disk ds other)) (disk ds other) m → m.guid ≡ a.guid → m.index ≡ a.table.count → m.added ≡ a.group.txg + 1 → ⊥)
    (sym same) (next_alone (g.S.Shelf.sizes old) (g.S.Shelf.tells old) t (g.S.Shelf.world old).now.seen a slot allowed) in
    let next : IsNextSlot (g.S.Shelf.sizes old) (g.S.Shelf.world second).now.seen b slot c.in-Some.units = record {
      known = slot_known (g.S.Shelf.sizes old) (g.S.Shelf.sizes second) (g.S.Shelf.world second).now.seen slot sizes2 (g.S.Shelf.sound second told2).sized c.requires.exists;
      used = subst (λ (n : List ℕ). IsTrue (is_disk_size 2 (slice_index n slot))) sizes2 c.take_on.ensures.disk;
      free = subst (λ (table : Table). IsFree table.slots slot) (sym here.same.table) (next_free (g.S.Shelf.sizes old) (g.S.Shelf.tells old) (g.S.Shelf.world old).now.seen a slot allowed);
      few = (let n = ap (λ (table : Table). table.count) here.same.table in let low = next_few (g.S.Shelf.sizes old) (g.S.Shelf.tells old) (g.S.Shelf.world old).now.seen a slot allowed in omega (arith, n, low));
      lawful = c.take_on.ensures.label;
      alone = still_alone (g.S.Shelf.sizes first) (g.S.Shelf.sizes second) a b (g.S.Shelf.world first) (g.S.Shelf.world second) slot (subst (λ (ns : List ℕ). IsOpen ns a) (sym c.check_next.ensures.sizes) c.requires.pool) here.pool (g.S.Shelf.sound first told).sized here.txg here.last (here.written told) here.same.guid here.same.table alone;
    } in
    let ends : EndsCommitted (g.S.Shelf.sizes old) false a b objects (g.S.Shelf.world first) (g.S.Shelf.world second) =
    subst (λ (n : List ℕ). EndsCommitted n false a b objects (g.S.Shelf.world first) (g.S.Shelf.world second)) c.check_next.ensures.sizes
    (ends_by c.commit.ensures.sizes here.pool here.same here.last here.txg here.written here.ends here.empty here.stands here.safe here.trees here.moves here.copies before (here.stays objects before)) in
    let prepares = subst (λ (n : List ℕ). PreparesNext n slot c.in-Some.units b (g.S.Shelf.world second) (g.S.Shelf.world c.take_on.new.shelf)) sizes2 (c.take_on.ensures.prepares told2) in
    (g.S.Shelf.world first, still, inr (inr (record { ended = b; mid = g.S.Shelf.world second; first = ends; units = c.in-Some.units; next = next; rest = inl prepares })))

pub returns-in_err-commit-2-clause-stops : goal.returns-in_err-commit-2-clause-stops
returns-in_err-commit-2-clause-stops g c = λ objects h.
    let old = c.args.shelf.now in
    let first = c.check_next.new.shelf in
    let second = c.commit.new.shelf in
    let a = c.args.pool.now in
    let b = c.commit.new.pool in
    let slot = c.args.slot in
    let t = h.held.told in
    let told = c.check_next.ensures.told t in
    let told2 = c.commit.ensures.told told in
    let still = c.check_next.ensures.still t in
    let same = ap (λ (s : Stand). s.seen) still.now in
    let before = objects_still (g.S.Shelf.tells old) (g.S.Shelf.tells first) (g.S.Shelf.world old) (g.S.Shelf.world first) a objects told still h in
    let here = c.in_ok-commit.ensures in
    let sizes2 = c.commit.ensures.sizes ∙ c.check_next.ensures.sizes in
    let allowed = c.in_ok-check_next.ensures.allowed in
    let alone =
    subst
    (λ (ds : List (List ℕ)). (other : ℕ) (m : Label) → other ≢ slot → other < length ds → IsFirstLabel (length (disk ds other)) (disk ds other) m → m.guid ≡ a.guid → m.index ≡ a.table.count → m.added ≡ a.group.txg + 1 → ⊥)
    (sym same) (next_alone (g.S.Shelf.sizes old) (g.S.Shelf.tells old) t (g.S.Shelf.world old).now.seen a slot allowed) in
    let next : IsNextSlot (g.S.Shelf.sizes old) (g.S.Shelf.world second).now.seen b slot c.in-Some.units = record {
      known = slot_known (g.S.Shelf.sizes old) (g.S.Shelf.sizes second) (g.S.Shelf.world second).now.seen slot sizes2 (g.S.Shelf.sound second told2).sized c.requires.exists;
      used = subst (λ (n : List ℕ). IsTrue (is_disk_size 2 (slice_index n slot))) sizes2 c.take_on.ensures.disk;
      free = subst (λ (table : Table). IsFree table.slots slot) (sym here.same.table) (next_free (g.S.Shelf.sizes old) (g.S.Shelf.tells old) (g.S.Shelf.world old).now.seen a slot allowed);
      few = (let n = ap (λ (table : Table). table.count) here.same.table in let low = next_few (g.S.Shelf.sizes old) (g.S.Shelf.tells old) (g.S.Shelf.world old).now.seen a slot allowed in omega (arith, n, low));
      lawful = c.take_on.ensures.label;
      alone = still_alone (g.S.Shelf.sizes first) (g.S.Shelf.sizes second) a b (g.S.Shelf.world first) (g.S.Shelf.world second) slot (subst (λ (ns : List ℕ). IsOpen ns a) (sym c.check_next.ensures.sizes) c.requires.pool) here.pool (g.S.Shelf.sound first told).sized here.txg here.last (here.written told) here.same.guid here.same.table alone;
    } in
    let ends : EndsCommitted (g.S.Shelf.sizes old) false a b objects (g.S.Shelf.world first) (g.S.Shelf.world second) =
    subst (λ (n : List ℕ). EndsCommitted n false a b objects (g.S.Shelf.world first) (g.S.Shelf.world second)) c.check_next.ensures.sizes
    (ends_by c.commit.ensures.sizes here.pool here.same here.last here.txg here.written here.ends here.empty here.stands here.safe here.trees here.moves here.copies before (here.stays objects before)) in
    let prepares = subst (λ (n : List ℕ). PreparesNext n slot c.in-Some.units b (g.S.Shelf.world second) (g.S.Shelf.world c.take_on.new.shelf)) sizes2 (c.take_on.ensures.prepares told2) in
    let third = c.take_on.new.shelf in
    let fourth = c.commit-2.new.shelf in
    let taken = c.in_ok-take_on.ensures in
    let sizes3 = c.take_on.ensures.sizes ∙ sizes2 in
    let last = HasLastTrees (g.S.Shelf.world first).now.seen a in
    let more : last → HasLastTrees (g.S.Shelf.world third).now.seen c.take_on.new.pool = λ had.
    let was = trees_told Had (Unit {0}) (g.S.Shelf.tells first) (g.S.Shelf.world first).now.seen a told had in
    let again = begins_again (g.S.Shelf.tells second) (g.S.Shelf.world second).now.seen b here.ends.ended.opened (here.trees was) in
    trees_told Had (g.S.Shelf.tells third) (Unit {0}) (g.S.Shelf.world third).now.seen c.take_on.new.pool tt (taken.trees again) in
    let held = taken.stays objects (here.stays objects before) in
    let prepared = subst (λ (n : List ℕ). IsPrepared (slice_index n slot) slot (next_label b c.in-Some.units) (g.S.Shelf.world second) (g.S.Shelf.world third)) sizes2 (taken.prepared told2) in (
      g.S.Shelf.world first,
      still,
      inr (inr (record {
        ended = b;
        mid = g.S.Shelf.world second;
        first = ends;
        units = c.in-Some.units;
        next = next;
        rest = inr (record {
          labelled = g.S.Shelf.world third;
          prepared = prepared;
          labels = taken.labelled told2;
          taken = c.take_on.new.pool;
          ready = subst (λ (n : List ℕ). IsOpen n c.take_on.new.pool) sizes3 taken.pool;
          takes = taken.taken;
          commits = subst (λ (n : List ℕ). CommitsObjects last n c.take_on.new.pool true objects (g.S.Shelf.world third) (g.S.Shelf.world fourth)) sizes3
              (committed_told (HasLastTrees (g.S.Shelf.world third).now.seen c.take_on.new.pool) last (g.S.Shelf.sizes third) c.take_on.new.pool true objects (g.S.Shelf.world third) (g.S.Shelf.world fourth) more (c.commit-2.ensures.leads objects held));
        });
      })),
    )

pub returns-clause-stops : goal.returns-clause-stops
returns-clause-stops g c = λ objects h.
    let old = c.args.shelf.now in
    let first = c.check_next.new.shelf in
    let second = c.commit.new.shelf in
    let a = c.args.pool.now in
    let b = c.commit.new.pool in
    let slot = c.args.slot in
    let t = h.held.told in
    let told = c.check_next.ensures.told t in
    let told2 = c.commit.ensures.told told in
    let still = c.check_next.ensures.still t in
    let same = ap (λ (s : Stand). s.seen) still.now in
    let before = objects_still (g.S.Shelf.tells old) (g.S.Shelf.tells first) (g.S.Shelf.world old) (g.S.Shelf.world first) a objects told still h in
    let here = c.in_ok-commit.ensures in
    let sizes2 = c.commit.ensures.sizes ∙ c.check_next.ensures.sizes in
    let allowed = c.in_ok-check_next.ensures.allowed in
    let alone =
    subst
    (λ (ds : List (List ℕ)). (other : ℕ) (m : Label) → other ≢ slot → other < length ds → IsFirstLabel (length (disk ds other)) (disk ds other) m → m.guid ≡ a.guid → m.index ≡ a.table.count → m.added ≡ a.group.txg + 1 → ⊥)
    (sym same) (next_alone (g.S.Shelf.sizes old) (g.S.Shelf.tells old) t (g.S.Shelf.world old).now.seen a slot allowed) in
    let next : IsNextSlot (g.S.Shelf.sizes old) (g.S.Shelf.world second).now.seen b slot c.in-Some.units = record {
      known = slot_known (g.S.Shelf.sizes old) (g.S.Shelf.sizes second) (g.S.Shelf.world second).now.seen slot sizes2 (g.S.Shelf.sound second told2).sized c.requires.exists;
      used = subst (λ (n : List ℕ). IsTrue (is_disk_size 2 (slice_index n slot))) sizes2 c.take_on.ensures.disk;
      free = subst (λ (table : Table). IsFree table.slots slot) (sym here.same.table) (next_free (g.S.Shelf.sizes old) (g.S.Shelf.tells old) (g.S.Shelf.world old).now.seen a slot allowed);
      few = (let n = ap (λ (table : Table). table.count) here.same.table in let low = next_few (g.S.Shelf.sizes old) (g.S.Shelf.tells old) (g.S.Shelf.world old).now.seen a slot allowed in omega (arith, n, low));
      lawful = c.take_on.ensures.label;
      alone = still_alone (g.S.Shelf.sizes first) (g.S.Shelf.sizes second) a b (g.S.Shelf.world first) (g.S.Shelf.world second) slot (subst (λ (ns : List ℕ). IsOpen ns a) (sym c.check_next.ensures.sizes) c.requires.pool) here.pool (g.S.Shelf.sound first told).sized here.txg here.last (here.written told) here.same.guid here.same.table alone;
    } in
    let ends : EndsCommitted (g.S.Shelf.sizes old) false a b objects (g.S.Shelf.world first) (g.S.Shelf.world second) =
    subst (λ (n : List ℕ). EndsCommitted n false a b objects (g.S.Shelf.world first) (g.S.Shelf.world second)) c.check_next.ensures.sizes
    (ends_by c.commit.ensures.sizes here.pool here.same here.last here.txg here.written here.ends here.empty here.stands here.safe here.trees here.moves here.copies before (here.stays objects before)) in
    let prepares = subst (λ (n : List ℕ). PreparesNext n slot c.in-Some.units b (g.S.Shelf.world second) (g.S.Shelf.world c.take_on.new.shelf)) sizes2 (c.take_on.ensures.prepares told2) in
    let third = c.take_on.new.shelf in
    let fourth = c.commit-2.new.shelf in
    let taken = c.in_ok-take_on.ensures in
    let sizes3 = c.take_on.ensures.sizes ∙ sizes2 in
    let last = HasLastTrees (g.S.Shelf.world first).now.seen a in
    let more : last → HasLastTrees (g.S.Shelf.world third).now.seen c.take_on.new.pool = λ had.
    let was = trees_told Had (Unit {0}) (g.S.Shelf.tells first) (g.S.Shelf.world first).now.seen a told had in
    let again = begins_again (g.S.Shelf.tells second) (g.S.Shelf.world second).now.seen b here.ends.ended.opened (here.trees was) in
    trees_told Had (g.S.Shelf.tells third) (Unit {0}) (g.S.Shelf.world third).now.seen c.take_on.new.pool tt (taken.trees again) in
    let held = taken.stays objects (here.stays objects before) in
    let prepared = subst (λ (n : List ℕ). IsPrepared (slice_index n slot) slot (next_label b c.in-Some.units) (g.S.Shelf.world second) (g.S.Shelf.world third)) sizes2 (taken.prepared told2) in (
      g.S.Shelf.world first,
      still,
      inr (inr (record {
        ended = b;
        mid = g.S.Shelf.world second;
        first = ends;
        units = c.in-Some.units;
        next = next;
        rest = inr (record {
          labelled = g.S.Shelf.world third;
          prepared = prepared;
          labels = taken.labelled told2;
          taken = c.take_on.new.pool;
          ready = subst (λ (n : List ℕ). IsOpen n c.take_on.new.pool) sizes3 taken.pool;
          takes = taken.taken;
          commits = subst (λ (n : List ℕ). CommitsObjects last n c.take_on.new.pool true objects (g.S.Shelf.world third) (g.S.Shelf.world fourth)) sizes3
              (committed_told (HasLastTrees (g.S.Shelf.world third).now.seen c.take_on.new.pool) last (g.S.Shelf.sizes third) c.take_on.new.pool true objects (g.S.Shelf.world third) (g.S.Shelf.world fourth) more (c.commit-2.ensures.leads objects held));
        });
      })),
    )
