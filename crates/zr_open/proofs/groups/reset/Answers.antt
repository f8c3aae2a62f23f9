use Rattle.std.proofs.Common.{inl, rules, ◌≡◌, ◌+◌, ◌≤◌, ℕ, List, [], Err, refl, sym, ◌∙◌, ap, subst, arith}
use Rattle.zr_base.specs.declared.space.Dva.{Dva}
use Rattle.zr_import.specs.declared.roots.Root.{Root}
use Rattle.zr_label.specs.Blocks.{IsUber}
use Rattle.zr_label.specs.declared.root.Uber.{Uber}
use Rattle.zr_shelf.proofs.Runs.{still}
use Rattle.zr_sync.specs.Pools.{IsOpen}
use Rattle.zr_sync.specs.declared.fault.Fault.TheVariants.{No}
use Rattle.zr_open.specs.Opened.{IsFresh, MayRefuse}
use Rattle.zr_open.specs.Rewound.{rewound}
use Rattle.zr_open.specs.Roots.{HasParts, meta_of}
use Rattle.zr_meta.specs.Heads.{IsSaved}
use Rattle.zr_sync.specs.Pools.{saved_block}
use Rattle.zr_open.proofs.Beside.{has_saved, lawful_saved}
use Rattle.zr_open.proofs.Going.{resets}
use Rattle.zr_open.proofs.Grouping.{as_reset, back, same_disks_of, stands_back}
use Rattle.zr_open.proofs.Looking.{looked_moved}
use Rattle.zr_open.proofs.OwnTrees.{own_trees, shown_bytes}
use Rattle.zr_open.proofs.Resting.{leaves_shown}
use Rattle.zr_open.proofs.groups.reset.Goals as goal

pub returns-in_err-pool-clause-refused : goal.returns-in_err-pool-clause-refused
returns-in_err-pool-clause-refused g c = λ r is.
    let told = c.in_err-pool.field-0.0 in
    let e : c.from_residual-in_err-pool.result ≡ Err told = search rules in
    let both = sym e ∙ is in
    let same : told ≡ No r = cc in
    subst (λ (meta : List Dva). MayRefuse meta r) c.saved_meta.ensures (c.in_err-pool.ensures.refused r (ap Err same))

pub show-requires-clause-pool : goal.show-requires-clause-pool
show-requires-clause-pool g c =
    let sizes = g.S.Shelf.sizes c.args.shelf.now in
    let u = c.args.then.now.found.root in
    c.in_ok-pool.ensures.open sizes
    (same_disks_of sizes c.args.then.now.found.slots c.rewound.result u (ap (λ (x : Uber). x.rows) c.rewound.ensures.is) (ap (λ (x : Uber). x.count) c.rewound.ensures.is) c.requires.looked.mounted)

pub returns-clause-pool : goal.returns-clause-pool
returns-clause-pool g c =
    let sizes = g.S.Shelf.sizes c.args.shelf.now in
    let u = c.args.then.now.found.root in
    subst (λ (ns : List ℕ). IsOpen ns c.in_ok-pool.pool) (sym c.in_ok-show.ensures.sizes)
    (c.in_ok-pool.ensures.open sizes
    (same_disks_of sizes c.args.then.now.found.slots c.rewound.result u (ap (λ (x : Uber). x.rows) c.rewound.ensures.is) (ap (λ (x : Uber). x.count) c.rewound.ensures.is) c.requires.looked.mounted))

pub returns-clause-objects : goal.returns-clause-objects
returns-clause-objects g c = λ t h.
    let sizes = g.S.Shelf.sizes c.args.shelf.now in
    let tells = g.S.Shelf.tells c.args.shelf.now in
    let disks = (g.S.Shelf.world c.args.shelf.now).now.seen in
    let l = c.args.then.now in
    let u = l.found.root in
    let own = c.in_ok-pool.ensures in
    let pool = c.in_ok-pool.pool in
    let next = c.rewound.ensures.is in
    let sound = g.S.Shelf.sound c.args.shelf.now t in
    let ready = own.open sizes (same_disks_of sizes l.found.slots c.rewound.result u (ap (λ (x : Uber). x.rows) next) (ap (λ (x : Uber). x.count) next) h.mounted) in
    let fresh = subst (λ (x : Uber). IsFresh x pool) next own.fresh in
    let parts = subst (λ (r : Root). HasParts r (meta_of l.saved) pool) c.in_ok-reset.ensures (subst (λ (meta : List Dva). HasParts c.reset.new.self meta pool) c.saved_meta.ensures own.parts) in
    let le = c.requires.below in
    let held = as_reset tells t disks sizes sound.sized l (looked_moved (Unit {0}) tells disks disks (λ x. tt) (λ x. refl) sizes l h) (c.args.current.now.txg + 1) (omega (arith, le)) pool (subst IsUber next c.rewound.ensures.lawful) ready fresh parts own.slots in
    record {
      objects = held.objects;
      are = held.are;
      holds = record { stored = held.holds.stored; held = c.in_ok-show.ensures.keeps held.holds.stored held.holds.held; has = held.holds.has };
      ckpt = held.ckpt;
    }

pub checkpoint_of-requires-clause-there : goal.checkpoint_of-requires-clause-there
checkpoint_of-requires-clause-there g c = let l = c.args.then.now in let h = c.requires.looked in has_saved ⊥ [] l.found.slots l.found.root l.root l.saved h.beside

pub checkpoint_of-requires-clause-lawful : goal.checkpoint_of-requires-clause-lawful
checkpoint_of-requires-clause-lawful g c = let l = c.args.then.now in let h = c.requires.looked in lawful_saved ⊥ [] l.found.slots l.found.root l.root l.saved h.beside

pub open-requires-clause-saved : goal.open-requires-clause-saved
open-requires-clause-saved g c = λ told.
    subst (λ (r : Root). IsSaved r.head.ckpt (saved_block c.in_ok-checkpoint.checkpoint)) (sym c.in_ok-reset.ensures)
    (subst (IsSaved c.args.then.now.root.head.ckpt) (sym c.in_ok-checkpoint.ensures.block) c.requires.looked.head.saved)

-- ---- what it leaves

pub returns-clause-leaves : goal.returns-clause-leaves
returns-clause-leaves g c = λ t h.
    let sizes = g.S.Shelf.sizes c.args.shelf.now in
    let disks = (g.S.Shelf.world c.args.shelf.now).now.seen in
    let l = c.args.then.now in
    let u = l.found.root in
    let own = c.in_ok-pool.ensures in
    let pool = c.in_ok-pool.pool in
    let next = c.rewound.ensures.is in
    let txg = c.args.current.now.txg + 1 in
    let sound = g.S.Shelf.sound c.args.shelf.now t in
    let ready = own.open sizes (same_disks_of sizes l.found.slots c.rewound.result u (ap (λ (x : Uber). x.rows) next) (ap (λ (x : Uber). x.count) next) h.mounted) in
    let fresh = subst (λ (x : Uber). IsFresh x pool) next own.fresh in
    let parts = subst (λ (r : Root). HasParts r (meta_of l.saved) pool) c.in_ok-reset.ensures (subst (λ (meta : List Dva). HasParts c.reset.new.self meta pool) c.saved_meta.ensures own.parts) in
    let le : u.txg ≤ txg = (let below = c.requires.below in omega (arith, below)) in
    let is = subst IsUber next c.rewound.ensures.lawful in
    let there = stands_back (Unit {0}) tt disks sizes sound.sized l h txg le pool is ready fresh parts own.slots in
    leaves_shown disks sizes (rewound u txg) pool (back (Unit {0}) tt disks sizes sound.sized l h txg le pool is ready fresh parts own.slots) (meta_of l.saved) is ready fresh h.head parts there c.args.current.now c.rewound.result
    (g.S.Shelf.world c.args.shelf.now) (g.S.Shelf.world c.show.new.shelf) refl c.rewound.ensures.lawful (c.in_ok-show.ensures.shown t)

pub returns-clause-trees : goal.returns-clause-trees
returns-clause-trees g c = λ t h.
    let sizes = g.S.Shelf.sizes c.args.shelf.now in
    let disks = (g.S.Shelf.world c.args.shelf.now).now.seen in
    let l = c.args.then.now in
    let u = l.found.root in
    let own = c.in_ok-pool.ensures in
    let pool = c.in_ok-pool.pool in
    let next = c.rewound.ensures.is in
    let txg = c.args.current.now.txg + 1 in
    let sound = g.S.Shelf.sound c.args.shelf.now t in
    let ready = own.open sizes (same_disks_of sizes l.found.slots c.rewound.result u (ap (λ (x : Uber). x.rows) next) (ap (λ (x : Uber). x.count) next) h.mounted) in
    let fresh = subst (λ (x : Uber). IsFresh x pool) next own.fresh in
    let parts = subst (λ (r : Root). HasParts r (meta_of l.saved) pool) c.in_ok-reset.ensures (subst (λ (meta : List Dva). HasParts c.reset.new.self meta pool) c.saved_meta.ensures own.parts) in
    let le : u.txg ≤ txg = (let below = c.requires.below in omega (arith, below)) in
    let is = subst IsUber next c.rewound.ensures.lawful in
    let there = stands_back (Unit {0}) tt disks sizes sound.sized l h txg le pool is ready fresh parts own.slots in
    own_trees (g.S.Shelf.tells c.show.new.shelf) (c.in_ok-show.ensures.told t) disks (g.S.Shelf.world c.show.new.shelf).now.seen sizes (rewound u txg) pool (back (Unit {0}) tt disks sizes sound.sized l h txg le pool is ready fresh parts own.slots) (meta_of l.saved) is ready fresh h.head parts there
    (shown_bytes sizes pool c.args.current.now c.rewound.result (g.S.Shelf.world c.args.shelf.now) (g.S.Shelf.world c.show.new.shelf) ready c.rewound.ensures.lawful (c.in_ok-show.ensures.shown t) disks refl)

-- ---- wherever it stops

pub returns-in_err-checkpoint-clause-stops : goal.returns-in_err-checkpoint-clause-stops
returns-in_err-checkpoint-clause-stops g c = λ t rest h. inl (still (g.S.Shelf.world c.args.shelf.now) (g.S.Shelf.world c.args.shelf.now) refl)

pub returns-in_err-reset-clause-stops : goal.returns-in_err-reset-clause-stops
returns-in_err-reset-clause-stops g c = λ t rest h. inl (still (g.S.Shelf.world c.args.shelf.now) (g.S.Shelf.world c.args.shelf.now) refl)

pub returns-in_err-pool-clause-stops : goal.returns-in_err-pool-clause-stops
returns-in_err-pool-clause-stops g c = λ t rest h. inl (still (g.S.Shelf.world c.args.shelf.now) (g.S.Shelf.world c.args.shelf.now) refl)

pub returns-in_err-show-clause-stops : goal.returns-in_err-show-clause-stops
returns-in_err-show-clause-stops g c = λ t rest h.
    let sizes = g.S.Shelf.sizes c.args.shelf.now in
    let l = c.args.then.now in
    let u = l.found.root in
    let own = c.in_ok-pool.ensures in
    let pool = c.in_ok-pool.pool in
    let next = c.rewound.ensures.is in
    let ready = own.open sizes (same_disks_of sizes l.found.slots c.rewound.result u (ap (λ (x : Uber). x.rows) next) (ap (λ (x : Uber). x.count) next) h.mounted) in
    let parts = subst (λ (r : Root). HasParts r (meta_of l.saved) pool) c.in_ok-reset.ensures (subst (λ (meta : List Dva). HasParts c.reset.new.self meta pool) c.saved_meta.ensures own.parts) in
    resets sizes (g.S.Shelf.world c.args.shelf.now) (g.S.Shelf.world c.show.new.shelf) (g.S.Shelf.sound c.args.shelf.now t).sized rest l h c.args.current.now c.rewound.result c.requires.below next c.rewound.ensures.lawful pool ready own.fresh parts own.slots (c.show.ensures.stops t)

pub returns-clause-stops : goal.returns-clause-stops
returns-clause-stops g c = λ t rest h.
    let sizes = g.S.Shelf.sizes c.args.shelf.now in
    let l = c.args.then.now in
    let u = l.found.root in
    let own = c.in_ok-pool.ensures in
    let pool = c.in_ok-pool.pool in
    let next = c.rewound.ensures.is in
    let ready = own.open sizes (same_disks_of sizes l.found.slots c.rewound.result u (ap (λ (x : Uber). x.rows) next) (ap (λ (x : Uber). x.count) next) h.mounted) in
    let parts = subst (λ (r : Root). HasParts r (meta_of l.saved) pool) c.in_ok-reset.ensures (subst (λ (meta : List Dva). HasParts c.reset.new.self meta pool) c.saved_meta.ensures own.parts) in
    resets sizes (g.S.Shelf.world c.args.shelf.now) (g.S.Shelf.world c.show.new.shelf) (g.S.Shelf.sound c.args.shelf.now t).sized rest l h c.args.current.now c.rewound.result c.requires.below next c.rewound.ensures.lawful pool ready own.fresh parts own.slots (c.show.ensures.stops t)
