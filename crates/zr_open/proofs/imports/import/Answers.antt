use Rattle.std.proofs.Common.{◌≡◌, ℕ, List, Option, Err, refl, rules, sym, ◌∙◌, ap, subst}
use Rattle.std.specs.Prelude.{IfOk}
use Rattle.zr_image.specs.Current.{slots_of}
use Rattle.zr_model.specs.State.{PoolState}
use Rattle.zr_shelf.specs.Disks.{Stand}
use Rattle.zr_sync.specs.States.{HoldsState}
use Rattle.zr_sync.specs.declared.fault.Fault.TheVariants.{No}
use Rattle.zr_current.specs.Current.{HasSlots}
use Rattle.zr_roots.specs.Standing.{Stands}
use Rattle.zr_open.specs.Looked.{IsLooked}
use Rattle.zr_open.specs.Roots.{meta_of}
use Rattle.zr_open.specs.Shown.{Shows}
use Rattle.zr_last.specs.Last.{ShowsLast}
use Rattle.zr_open.proofs.Beside.{beside_moved}
use Rattle.zr_open.proofs.Flushing.{flushes_read, flushes_still, rests_still}
use Rattle.zr_open.proofs.Lasting.{looked_last}
use Rattle.zr_open.proofs.Looking.{IsRefusedOn, refusal_moved, whole_moved}
use Rattle.zr_open.proofs.OwnTrees.{own_trees}
use Rattle.zr_open.proofs.Resting.{leaves_there}
use Rattle.zr_open.proofs.Showing.{shows_state, shows_saved}
use Rattle.zr_open.proofs.Views.{stands_same}
use Rattle.zr_vdev.specs.Runs.{view_of}
use Rattle.zr_view.specs.Views.{address_bytes}
use Rattle.zr_open.proofs.imports.import.Goals as goal

-- ---- what is done to the disks

pub returns-in_err-looked-clause-flushes : goal.returns-in_err-looked-clause-flushes
returns-in_err-looked-clause-flushes g c = λ t. flushes_still (g.S.Shelf.world c.args.shelf.now) (g.S.Shelf.world c.settle.new.shelf) (g.S.Shelf.world c.look.new.shelf) (c.settle.ensures.flushes t) (c.look.ensures.still (c.settle.ensures.told t))

pub returns-clause-flushes : goal.returns-clause-flushes
returns-clause-flushes g c = λ t. flushes_still (g.S.Shelf.world c.args.shelf.now) (g.S.Shelf.world c.settle.new.shelf) (g.S.Shelf.world c.look.new.shelf) (c.settle.ensures.flushes t) (c.look.ensures.still (c.settle.ensures.told t))

pub returns-in_err-settle-clause-reads : goal.returns-in_err-settle-clause-reads
returns-in_err-settle-clause-reads g c = λ t. (flushes_read (g.S.Shelf.world c.args.shelf.now) (g.S.Shelf.world c.settle.new.shelf) (c.settle.ensures.flushes t)).seen

pub returns-in_err-looked-clause-reads : goal.returns-in_err-looked-clause-reads
returns-in_err-looked-clause-reads g c = λ t.
    ap (λ (s : Stand). s.seen) (c.look.ensures.still (c.settle.ensures.told t)).now ∙ (flushes_read (g.S.Shelf.world c.args.shelf.now) (g.S.Shelf.world c.settle.new.shelf) (c.settle.ensures.flushes t)).seen

pub returns-clause-reads : goal.returns-clause-reads
returns-clause-reads g c = λ t.
    ap (λ (s : Stand). s.seen) (c.look.ensures.still (c.settle.ensures.told t)).now ∙ (flushes_read (g.S.Shelf.world c.args.shelf.now) (g.S.Shelf.world c.settle.new.shelf) (c.settle.ensures.flushes t)).seen

pub returns-clause-rests : goal.returns-clause-rests
returns-clause-rests g c = λ t. rests_still (g.S.Shelf.world c.settle.new.shelf) (g.S.Shelf.world c.look.new.shelf) (c.in_ok-settle.ensures.rests t) (c.look.ensures.still (c.settle.ensures.told t))

-- ---- what is found, as the disks read before

pub returns-in_err-looked-clause-refused : goal.returns-in_err-looked-clause-refused
returns-in_err-looked-clause-refused g c = λ r is.
    let old = c.args.shelf.now in
    let mid = c.settle.new.shelf in
    let told = c.in_err-looked.field-0.0 in
    let e : c.from_residual-in_err-looked.result ≡ Err told = search rules in
    let both = sym e ∙ is in
    let same : told ≡ No r = cc in
    let seen = λ (t : g.S.Shelf.tells old). (flushes_read (g.S.Shelf.world old) (g.S.Shelf.world mid) (c.settle.ensures.flushes t)).seen in
    refusal_moved (g.S.Shelf.tells mid) (g.S.Shelf.tells old) (g.S.Shelf.world mid).now.seen (g.S.Shelf.world old).now.seen c.settle.ensures.told seen (g.S.Shelf.sizes old) r
    (subst (λ (ns : List ℕ). IsRefusedOn ns (g.S.Shelf.tells mid) (g.S.Shelf.world mid).now.seen r) c.settle.ensures.sizes (c.in_err-looked.ensures.refused r (ap Err same)))

pub returns-clause-opened : goal.returns-clause-opened
returns-clause-opened g c =
    let old = c.args.shelf.now in
    let mid = c.settle.new.shelf in
    let tells = g.S.Shelf.tells old in
    let disks = (g.S.Shelf.world old).now.seen in
    let l = c.in_ok-looked.looked in
    let h = whole_moved (g.S.Shelf.tells mid) tells (g.S.Shelf.world mid).now.seen disks c.settle.ensures.told (λ t. (flushes_read (g.S.Shelf.world old) (g.S.Shelf.world mid) (c.settle.ensures.flushes t)).seen) (g.S.Shelf.sizes old) l
    (subst (λ (ns : List ℕ). IsLooked ns (g.S.Shelf.tells mid) (g.S.Shelf.world mid).now.seen l) c.settle.ensures.sizes c.in_ok-looked.ensures.looked) in
    let u = l.found.root in
    let these = slots_of u h.finds.seen in (
      u,
      h.finds,
      record {
        last = h.at.fresh.last;
        root = l.root;
        head = h.at.head;
        stands = λ t. stands_same disks these l.found.slots u l.root h.slots (h.at.stands t);
        saved = l.saved;
        beside = beside_moved tells tells disks disks these l.found.slots (λ t. t) (λ t. refl) h.slots u l.root l.saved h.at.beside;
        parts = h.at.parts;
        kept = h.at.kept;
      },
    )

pub returns-clause-fresh : goal.returns-clause-fresh
returns-clause-fresh g c =
    let old = c.args.shelf.now in
    let mid = c.settle.new.shelf in
    let l = c.in_ok-looked.looked in
    let h = whole_moved (g.S.Shelf.tells mid) (g.S.Shelf.tells old) (g.S.Shelf.world mid).now.seen (g.S.Shelf.world old).now.seen c.settle.ensures.told (λ t. (flushes_read (g.S.Shelf.world old) (g.S.Shelf.world mid) (c.settle.ensures.flushes t)).seen) (g.S.Shelf.sizes old) l
    (subst (λ (ns : List ℕ). IsLooked ns (g.S.Shelf.tells mid) (g.S.Shelf.world mid).now.seen l) c.settle.ensures.sizes c.in_ok-looked.ensures.looked) in
    (l.found.root, h.finds, h.at.fresh)

pub returns-clause-objects : goal.returns-clause-objects
returns-clause-objects g c = λ t.
    let old = c.args.shelf.now in
    let mid = c.settle.new.shelf in
    let new = c.look.new.shelf in
    let tells = g.S.Shelf.tells old in
    let w = g.S.Shelf.world old in
    let disks = w.now.seen in
    let read = flushes_read (g.S.Shelf.world old) (g.S.Shelf.world mid) (c.settle.ensures.flushes t) in
    let still = c.look.ensures.still (c.settle.ensures.told t) in
    let l = c.in_ok-looked.looked in
    let h = whole_moved (g.S.Shelf.tells mid) tells (g.S.Shelf.world mid).now.seen disks c.settle.ensures.told (λ s. (flushes_read (g.S.Shelf.world old) (g.S.Shelf.world mid) (c.settle.ensures.flushes s)).seen) (g.S.Shelf.sizes old) l
    (subst (λ (ns : List ℕ). IsLooked ns (g.S.Shelf.tells mid) (g.S.Shelf.world mid).now.seen l) c.settle.ensures.sizes c.in_ok-looked.ensures.looked) in
    let u = l.found.root in
    let these = slots_of u h.finds.seen in
    let stands = subst (λ (slots : List (Option ℕ)). Stands disks slots u l.root) (sym h.at.same) (h.at.stands t) in
    let slots = subst (HasSlots these) (sym h.at.same) h.slots in
    let beside = beside_moved tells tells disks disks these l.found.slots (λ s. s) (λ s. refl) h.slots u l.root l.saved h.at.beside in
    subst (λ (seen : List (List ℕ)). (p : PoolState) × Shows w.now.paths disks p × HoldsState (g.S.Shelf.tells new) seen l.pool p) (sym (ap (λ (s : Stand). s.seen) still.now ∙ read.seen))
    (shows_state (g.S.Shelf.tells new) (c.look.ensures.told (c.settle.ensures.told t)) w.now.paths disks (g.S.Shelf.sizes old) (g.S.Shelf.sound old t).sized u l.pool l.root h.finds.seen (h.finds.shown.shows t) h.finds.finds slots h.at.uber h.at.head
    (meta_of l.saved) (shows_saved tells t w.now.paths disks these u l.root l.saved beside) h.at.ready h.at.fresh h.at.parts h.at.mapped stands)

pub returns-clause-last : goal.returns-clause-last
returns-clause-last g c = λ t.
    let l = c.in_ok-looked.looked in
    let mid = c.settle.new.shelf in
    let told = c.settle.ensures.told t in
    let still = c.look.ensures.still told in
    subst (λ (s : Stand). ShowsLast s.seen l.pool) (sym still.now) (looked_last (g.S.Shelf.sizes mid) (g.S.Shelf.tells mid) told (g.S.Shelf.world mid).now.seen l c.in_ok-looked.ensures.looked)

-- ---- what it leaves

pub returns-clause-leaves : goal.returns-clause-leaves
returns-clause-leaves g c = λ t.
    let old = c.args.shelf.now in
    let mid = c.settle.new.shelf in
    let new = c.look.new.shelf in
    let tells = g.S.Shelf.tells old in
    let disks = (g.S.Shelf.world old).now.seen in
    let read = flushes_read (g.S.Shelf.world old) (g.S.Shelf.world mid) (c.settle.ensures.flushes t) in
    let still = c.look.ensures.still (c.settle.ensures.told t) in
    let l = c.in_ok-looked.looked in
    let h = whole_moved (g.S.Shelf.tells mid) tells (g.S.Shelf.world mid).now.seen disks c.settle.ensures.told (λ s. (flushes_read (g.S.Shelf.world old) (g.S.Shelf.world mid) (c.settle.ensures.flushes s)).seen) (g.S.Shelf.sizes old) l
    (subst (λ (ns : List ℕ). IsLooked ns (g.S.Shelf.tells mid) (g.S.Shelf.world mid).now.seen l) c.settle.ensures.sizes c.in_ok-looked.ensures.looked) in
    let u = l.found.root in
    let stands = subst (λ (slots : List (Option ℕ)). Stands disks slots u l.root) (sym h.at.same) (h.at.stands t) in
    leaves_there disks (g.S.Shelf.sizes old) u l.pool l.root (meta_of l.saved) h.at.uber h.at.ready h.at.fresh h.at.head h.at.parts stands (g.S.Shelf.world new).now (ap (λ (s : Stand). s.seen) still.now ∙ read.seen)
    (rests_still (g.S.Shelf.world mid) (g.S.Shelf.world new) (c.in_ok-settle.ensures.rests t) still)

pub returns-clause-trees : goal.returns-clause-trees
returns-clause-trees g c = λ t.
    let mid = c.settle.new.shelf in
    let new = c.look.new.shelf in
    let disks = (g.S.Shelf.world mid).now.seen in
    let told = c.settle.ensures.told t in
    let l = c.in_ok-looked.looked in
    let h = c.in_ok-looked.ensures.looked.at in
    let u = l.found.root in
    let stands = subst (λ (slots : List (Option ℕ)). Stands disks slots u l.root) (sym h.same) (h.stands told) in
    own_trees (g.S.Shelf.tells new) (c.look.ensures.told told) disks (g.S.Shelf.world new).now.seen (g.S.Shelf.sizes mid) u l.pool l.root (meta_of l.saved) h.uber h.ready h.fresh h.head h.parts stands
    (λ a. ap (λ (ds : List (List ℕ)). address_bytes (view_of ds l.pool.table.slots l.pool.space) a) (ap (λ (s : Stand). s.seen) (c.look.ensures.still told).now))
