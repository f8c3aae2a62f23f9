use Rattle.std.proofs.Common.{◌≡◌, ◌≤◌, ℕ, true, List, Ok, inl, inr, length, refl, subst, sym, ◌∙◌, ap, arith}
use Rattle.std.proofs.lemmas.List.{length-map}
use Rattle.zr_shelf.specs.Disks.{Stand}
use Rattle.std.specs.FinMap as map
use Rattle.zr_rules.specs.Space.{Space}
use Rattle.zr_create.specs.Devices.{HaveDisks, HasDevicesIn}
use Rattle.zr_create.proofs.Staying.{still_in}
use Rattle.zr_sync.proofs.Disks.{works_more, works_still}
use Rattle.zr_create.proofs.Checking.{new_disks}
use Rattle.zr_shelf.proofs.Runs.{still as unmoved}
use Rattle.zr_create.specs.Making.{PreparesFirst, PreparesInPart}
use Rattle.zr_create.specs.Refusals.{ChecksNew}
use Rattle.zr_sync.specs.Leads.{CommitsObjects}
use Rattle.zr_sync.specs.Pools.{IsOpen}
use Rattle.zr_slots.specs.Checks.{AreNamed}
use Rattle.zr_sync.proofs.Ending.{ends_by}
use Rattle.zr_sync.specs.Ends.{EndsCommitted}
use Rattle.zr_create.proofs.Going.{with_some}
use Rattle.zr_create.proofs.Lasting.{new_last, new_names, none_rooted}
use Rattle.zr_create.proofs.Nothing.{new_serve, none_held}
use Rattle.zr_create.proofs.Trees.{blank_trees}
use Rattle.zr_sync.proofs.Leading.{committed_told}
use Rattle.zr_sync.proofs.Regrouping.{begins_again}
use Rattle.zr_sync.specs.Trees.{HasLastTrees}
use Rattle.zr_create.proofs.making.create.Goals as goal

pub returns-in_err-check_new-clause-disks : goal.returns-in_err-check_new-clause-disks
returns-in_err-check_new-clause-disks g c = λ t. works_still (g.S.Shelf.world c.args.shelf.now) (g.S.Shelf.world c.check_new.new.shelf) (c.check_new.ensures.still t)

pub returns-in_err-pool-clause-disks : goal.returns-in_err-pool-clause-disks
returns-in_err-pool-clause-disks g c = λ t. works_still (g.S.Shelf.world c.args.shelf.now) (g.S.Shelf.world c.check_new.new.shelf) (c.check_new.ensures.still t)

pub take_all-requires-clause-pool : goal.take_all-requires-clause-pool
take_all-requires-clause-pool g c = c.in_ok-pool.ensures.pool (g.S.Shelf.sizes c.check_new.new.shelf)

pub take_all-requires-clause-sized : goal.take_all-requires-clause-sized
take_all-requires-clause-sized g c =
    subst (λ (v : ℕ). HaveDisks (g.S.Shelf.sizes c.check_new.new.shelf) v c.args.named.now) (sym c.in_ok-pool.ensures.named.version_is)
    (subst (λ (n : List ℕ). HaveDisks n c.args.version c.args.named.now) (sym c.check_new.ensures.sizes)
    (new_disks (g.S.Shelf.sizes c.args.shelf.now) (g.S.Shelf.tells c.args.shelf.now) (g.S.Shelf.world c.args.shelf.now).now.seen c.args.version c.args.guid c.args.named.now c.in_ok-check_new.ensures.allowed))

pub returns-in_err-take_all-clause-disks : goal.returns-in_err-take_all-clause-disks
returns-in_err-take_all-clause-disks g c = λ t.
    let told = c.check_new.ensures.told t in
    let w0 = g.S.Shelf.world c.args.shelf.now in
    let w1 = g.S.Shelf.world c.check_new.new.shelf in
    let w2 = g.S.Shelf.world c.take_all.new.shelf in
    works_more w0 w1 w2 (works_still w0 w1 (c.check_new.ensures.still t)) (c.take_all.ensures.disks told)

pub returns-in_err-commit-clause-disks : goal.returns-in_err-commit-clause-disks
returns-in_err-commit-clause-disks g c = λ t.
    let told = c.check_new.ensures.told t in
    let told2 = c.take_all.ensures.told told in
    let w0 = g.S.Shelf.world c.args.shelf.now in
    let w1 = g.S.Shelf.world c.check_new.new.shelf in
    let w2 = g.S.Shelf.world c.take_all.new.shelf in
    let w3 = g.S.Shelf.world c.commit.new.shelf in
    works_more w0 w1 w3 (works_still w0 w1 (c.check_new.ensures.still t)) (works_more w1 w2 w3 (c.take_all.ensures.disks told) (c.commit.ensures.disks told2))

pub returns-clause-disks : goal.returns-clause-disks
returns-clause-disks g c = λ t.
    let told = c.check_new.ensures.told t in
    let told2 = c.take_all.ensures.told told in
    let w0 = g.S.Shelf.world c.args.shelf.now in
    let w1 = g.S.Shelf.world c.check_new.new.shelf in
    let w2 = g.S.Shelf.world c.take_all.new.shelf in
    let w3 = g.S.Shelf.world c.commit.new.shelf in
    works_more w0 w1 w3 (works_still w0 w1 (c.check_new.ensures.still t)) (works_more w1 w2 w3 (c.take_all.ensures.disks told) (c.commit.ensures.disks told2))

pub returns-clause-objects : goal.returns-clause-objects
returns-clause-objects g c = λ t.
    let told = c.check_new.ensures.told t in
    let first = c.check_new.new.shelf in
    let none = none_held (g.S.Shelf.tells first) (g.S.Shelf.world first).now.seen c.in_ok-pool.pool told c.in_ok-pool.ensures.blank in
    c.in_ok-commit.ensures.stays map.empty (c.in_ok-take_all.ensures.stays map.empty none)

pub returns-clause-recorded : goal.returns-clause-recorded
returns-clause-recorded g c = λ t.
    let told = c.check_new.ensures.told t in
    let first = c.check_new.new.shelf in
    let blank = blank_trees (g.S.Shelf.tells first) (g.S.Shelf.world first).now.seen c.in_ok-pool.pool told c.in_ok-pool.ensures.blank in
    c.in_ok-commit.ensures.trees (c.in_ok-take_all.ensures.trees blank)

pub returns-clause-trees : goal.returns-clause-trees
returns-clause-trees g c = λ t.
    let told = c.check_new.ensures.told t in
    let first = c.check_new.new.shelf in
    let last = c.commit.new.shelf in
    let blank = blank_trees (g.S.Shelf.tells first) (g.S.Shelf.world first).now.seen c.in_ok-pool.pool told c.in_ok-pool.ensures.blank in
    let done = c.in_ok-commit.ensures in
    begins_again (g.S.Shelf.tells last) (g.S.Shelf.world last).now.seen c.commit.new.pool done.ends.ended.opened (done.trees (c.in_ok-take_all.ensures.trees blank))

pub returns-clause-ends : goal.returns-clause-ends
returns-clause-ends g c = λ t.
    let told = c.check_new.ensures.told t in
    let first = c.check_new.new.shelf in
    let before = c.take_all.new.pool in
    let none = none_held (g.S.Shelf.tells first) (g.S.Shelf.world first).now.seen c.in_ok-pool.pool told c.in_ok-pool.ensures.blank in
    let held = c.in_ok-take_all.ensures.stays map.empty none in
    let done = c.in_ok-commit.ensures in
    let commits = ends_by c.commit.ensures.sizes done.pool done.same done.last done.txg done.written done.ends done.empty done.stands done.safe done.trees done.moves done.copies held (done.stays map.empty held) in
    record {
      blank = before;
      before = g.S.Shelf.world c.take_all.new.shelf;
      commits = subst (λ (n : List ℕ). EndsCommitted n true before c.commit.new.pool map.empty (g.S.Shelf.world c.take_all.new.shelf) (g.S.Shelf.world c.commit.new.shelf)) (sym c.commit.ensures.sizes) commits;
    }

pub returns-clause-devices : goal.returns-clause-devices
returns-clause-devices g c =
    let blank = c.in_ok-pool.ensures.blank in
    let same = c.in_ok-commit.ensures.same in
    still_in (g.S.Shelf.sizes c.args.shelf.now) (g.S.Shelf.sizes c.check_new.new.shelf) 1 c.args.named.now c.take_all.new.pool c.commit.new.pool c.check_new.ensures.sizes same.table same.version
    (subst (λ (t : ℕ). HasDevicesIn (g.S.Shelf.sizes c.check_new.new.shelf) t c.args.named.now c.take_all.new.pool) blank.txg c.in_ok-take_all.ensures.devices)

pub returns-clause-clear : goal.returns-clause-clear
returns-clause-clear g c = c.in_ok-commit.ensures.same.ckpt ∙ (c.in_ok-take_all.ensures.same.ckpt ∙ ap (λ (x : Space). x.parts.ckpt) c.in_ok-pool.ensures.blank.space)

-- ---- the last root

pub returns-clause-last : goal.returns-clause-last
returns-clause-last g c = λ t.
    let told = c.check_new.ensures.told t in
    let told2 = c.take_all.ensures.told told in
    let old = c.args.shelf.now in
    let first = c.check_new.new.shelf in
    let second = c.take_all.new.shelf in
    let third = c.commit.new.shelf in
    let named = c.args.named.now in
    let x = c.take_all.new.pool in
    let y = c.commit.new.pool in
    let taken = c.in_ok-take_all.ensures in
    let done = c.in_ok-commit.ensures in
    let same = ap (λ (s : Stand). s.seen) (c.check_new.ensures.still t).now in
    let count : length (g.S.Shelf.world first).now.seen ≡ length (g.S.Shelf.sizes old) = sym (length-map (g.S.Shelf.world first).now.seen length) ∙ ap (λ (ns : List ℕ). length ns) ((g.S.Shelf.sound first told).sized ∙ c.check_new.ensures.sizes) in
    let more : length (g.S.Shelf.world second).now.seen ≡ length (g.S.Shelf.sizes old) =
    sym (length-map (g.S.Shelf.world second).now.seen length) ∙ ap (λ (ns : List ℕ). length ns) ((g.S.Shelf.sound second told2).sized ∙ (c.take_all.ensures.sizes ∙ c.check_new.ensures.sizes)) in
    let checks = subst (λ (ds : List (List ℕ)). ChecksNew (g.S.Shelf.sizes old) (g.S.Shelf.tells old) ds c.args.version c.args.guid named (Ok tt)) (sym same) c.in_ok-check_new.ensures.allowed in
    let inside = subst (λ (n : ℕ). AreNamed n named) (sym count) c.requires.named in
    let some : 1 ≤ x.table.count = let n = taken.devices.count in let least = c.requires.some in omega (arith, n, least) in
    let ready = with_some (g.S.Shelf.sizes second) x taken.pool some in
    new_last (g.S.Shelf.world first) (g.S.Shelf.world second) (g.S.Shelf.sizes old) (g.S.Shelf.sizes first) (g.S.Shelf.sizes second) (g.S.Shelf.tells old) t c.args.version c.args.guid c.in_ok-pool.pool.group.txg named checks inside x
    (taken.same.guid ∙ c.in_ok-pool.ensures.named.guid_is) taken.devices taken.only (taken.labelled told) ready (more ∙ sym count) (g.S.Shelf.world third) (g.S.Shelf.sizes third) y done.pool (g.S.Shelf.sound second told2).sized done.txg done.last (done.written told2) done.same.guid done.same.table

-- ---- wherever it stops

pub returns-in_err-check_new-clause-stops : goal.returns-in_err-check_new-clause-stops
returns-in_err-check_new-clause-stops g c = λ t. let world = g.S.Shelf.world c.check_new.new.shelf in (world, c.check_new.ensures.still t, inl (unmoved world world refl))

pub returns-in_err-pool-clause-stops : goal.returns-in_err-pool-clause-stops
returns-in_err-pool-clause-stops g c = λ t. let world = g.S.Shelf.world c.check_new.new.shelf in (world, c.check_new.ensures.still t, inl (unmoved world world refl))

pub returns-in_err-take_all-clause-stops : goal.returns-in_err-take_all-clause-stops
returns-in_err-take_all-clause-stops g c = λ t.
    let old = c.args.shelf.now in
    let named = c.args.named.now in
    let still = c.check_new.ensures.still t in
    let w1 = g.S.Shelf.world c.check_new.new.shelf in
    let w2 = g.S.Shelf.world c.take_all.new.shelf in
    let checks = subst (λ (ds : List (List ℕ)). ChecksNew (g.S.Shelf.sizes old) (g.S.Shelf.tells old) ds c.args.version c.args.guid named (Ok tt)) (sym (ap (λ (s : Stand). s.seen) still.now)) c.in_ok-check_new.ensures.allowed in (
      w1,
      still,
      inr (record {
        unused = none_rooted (g.S.Shelf.sizes old) (g.S.Shelf.tells old) t w1.now.seen c.args.version c.args.guid named checks;
        rest = inl (subst (λ (n : List ℕ). PreparesInPart n named w1 w2) c.check_new.ensures.sizes (c.take_all.ensures.prepares (c.check_new.ensures.told t)));
      }),
    )

pub returns-in_err-commit-clause-stops : goal.returns-in_err-commit-clause-stops
returns-in_err-commit-clause-stops g c = λ t.
    let told = c.check_new.ensures.told t in
    let told2 = c.take_all.ensures.told told in
    let old = c.args.shelf.now in
    let first = c.check_new.new.shelf in
    let second = c.take_all.new.shelf in
    let named = c.args.named.now in
    let x = c.take_all.new.pool in
    let taken = c.in_ok-take_all.ensures in
    let blank = c.in_ok-pool.ensures.blank in
    let still = c.check_new.ensures.still t in
    let sizes2 = c.take_all.ensures.sizes ∙ c.check_new.ensures.sizes in
    let count : length (g.S.Shelf.world first).now.seen ≡ length (g.S.Shelf.sizes old) = sym (length-map (g.S.Shelf.world first).now.seen length) ∙ ap (λ (ns : List ℕ). length ns) ((g.S.Shelf.sound first told).sized ∙ c.check_new.ensures.sizes) in
    let more : length (g.S.Shelf.world second).now.seen ≡ length (g.S.Shelf.sizes old) =
    sym (length-map (g.S.Shelf.world second).now.seen length) ∙ ap (λ (ns : List ℕ). length ns) ((g.S.Shelf.sound second told2).sized ∙ sizes2) in
    let checks = subst (λ (ds : List (List ℕ)). ChecksNew (g.S.Shelf.sizes old) (g.S.Shelf.tells old) ds c.args.version c.args.guid named (Ok tt)) (sym (ap (λ (s : Stand). s.seen) still.now)) c.in_ok-check_new.ensures.allowed in
    let inside = subst (λ (n : ℕ). AreNamed n named) (sym count) c.requires.named in
    let some : 1 ≤ x.table.count = let n = taken.devices.count in let least = c.requires.some in omega (arith, n, least) in
    let ready = with_some (g.S.Shelf.sizes second) x taken.pool some in
    let service = new_serve (g.S.Shelf.sizes second) (g.S.Shelf.sizes first) _ named x taken.pool taken.devices in
    let none = none_held (g.S.Shelf.tells first) (g.S.Shelf.world first).now.seen c.in_ok-pool.pool told blank in
    let held = taken.stays map.empty none in (
      g.S.Shelf.world first,
      still,
      inr (record {
        unused = none_rooted (g.S.Shelf.sizes old) (g.S.Shelf.tells old) t (g.S.Shelf.world first).now.seen c.args.version c.args.guid named checks;
        rest = inr (record {
          labelled = g.S.Shelf.world second;
          prepared = subst (λ (n : List ℕ). PreparesFirst n named (length named) (g.S.Shelf.world first) (g.S.Shelf.world second)) c.check_new.ensures.sizes (taken.prepared told);
          pool = x;
          ready = subst (λ (n : List ℕ). IsOpen n x) sizes2 ready;
          first = taken.same.last ∙ blank.last;
          service = service;
          names = new_names (g.S.Shelf.world first) (g.S.Shelf.world second) (g.S.Shelf.sizes old) (g.S.Shelf.sizes first) (g.S.Shelf.sizes second) (g.S.Shelf.tells old) t c.args.version c.args.guid c.in_ok-pool.pool.group.txg named checks inside x
              (taken.same.guid ∙ c.in_ok-pool.ensures.named.guid_is) taken.devices taken.only (taken.labelled told) ready (more ∙ sym count);
          commits = subst (λ (n : List ℕ). CommitsObjects ⊥ n x true map.empty (g.S.Shelf.world second) (g.S.Shelf.world c.commit.new.shelf)) sizes2
              (committed_told (HasLastTrees (g.S.Shelf.world second).now.seen x) ⊥ (g.S.Shelf.sizes second) x true map.empty (g.S.Shelf.world second) (g.S.Shelf.world c.commit.new.shelf) (λ never. absurd never) (c.commit.ensures.leads map.empty held));
        });
      }),
    )

pub returns-clause-stops : goal.returns-clause-stops
returns-clause-stops g c = λ t.
    let told = c.check_new.ensures.told t in
    let told2 = c.take_all.ensures.told told in
    let old = c.args.shelf.now in
    let first = c.check_new.new.shelf in
    let second = c.take_all.new.shelf in
    let named = c.args.named.now in
    let x = c.take_all.new.pool in
    let taken = c.in_ok-take_all.ensures in
    let blank = c.in_ok-pool.ensures.blank in
    let still = c.check_new.ensures.still t in
    let sizes2 = c.take_all.ensures.sizes ∙ c.check_new.ensures.sizes in
    let count : length (g.S.Shelf.world first).now.seen ≡ length (g.S.Shelf.sizes old) = sym (length-map (g.S.Shelf.world first).now.seen length) ∙ ap (λ (ns : List ℕ). length ns) ((g.S.Shelf.sound first told).sized ∙ c.check_new.ensures.sizes) in
    let more : length (g.S.Shelf.world second).now.seen ≡ length (g.S.Shelf.sizes old) =
    sym (length-map (g.S.Shelf.world second).now.seen length) ∙ ap (λ (ns : List ℕ). length ns) ((g.S.Shelf.sound second told2).sized ∙ sizes2) in
    let checks = subst (λ (ds : List (List ℕ)). ChecksNew (g.S.Shelf.sizes old) (g.S.Shelf.tells old) ds c.args.version c.args.guid named (Ok tt)) (sym (ap (λ (s : Stand). s.seen) still.now)) c.in_ok-check_new.ensures.allowed in
    let inside = subst (λ (n : ℕ). AreNamed n named) (sym count) c.requires.named in
    let some : 1 ≤ x.table.count = let n = taken.devices.count in let least = c.requires.some in omega (arith, n, least) in
    let ready = with_some (g.S.Shelf.sizes second) x taken.pool some in
    let service = new_serve (g.S.Shelf.sizes second) (g.S.Shelf.sizes first) _ named x taken.pool taken.devices in
    let none = none_held (g.S.Shelf.tells first) (g.S.Shelf.world first).now.seen c.in_ok-pool.pool told blank in
    let held = taken.stays map.empty none in (
      g.S.Shelf.world first,
      still,
      inr (record {
        unused = none_rooted (g.S.Shelf.sizes old) (g.S.Shelf.tells old) t (g.S.Shelf.world first).now.seen c.args.version c.args.guid named checks;
        rest = inr (record {
          labelled = g.S.Shelf.world second;
          prepared = subst (λ (n : List ℕ). PreparesFirst n named (length named) (g.S.Shelf.world first) (g.S.Shelf.world second)) c.check_new.ensures.sizes (taken.prepared told);
          pool = x;
          ready = subst (λ (n : List ℕ). IsOpen n x) sizes2 ready;
          first = taken.same.last ∙ blank.last;
          service = service;
          names = new_names (g.S.Shelf.world first) (g.S.Shelf.world second) (g.S.Shelf.sizes old) (g.S.Shelf.sizes first) (g.S.Shelf.sizes second) (g.S.Shelf.tells old) t c.args.version c.args.guid c.in_ok-pool.pool.group.txg named checks inside x
              (taken.same.guid ∙ c.in_ok-pool.ensures.named.guid_is) taken.devices taken.only (taken.labelled told) ready (more ∙ sym count);
          commits = subst (λ (n : List ℕ). CommitsObjects ⊥ n x true map.empty (g.S.Shelf.world second) (g.S.Shelf.world c.commit.new.shelf)) sizes2
              (committed_told (HasLastTrees (g.S.Shelf.world second).now.seen x) ⊥ (g.S.Shelf.sizes second) x true map.empty (g.S.Shelf.world second) (g.S.Shelf.world c.commit.new.shelf) (λ never. absurd never) (c.commit.ensures.leads map.empty held));
        });
      }),
    )
