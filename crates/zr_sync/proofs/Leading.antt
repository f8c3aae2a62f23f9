-- What the next root of a commit leads to while it is published.
use Rattle.std.proofs.Common.{◌≡◌, ◌∙◌, ℕ, Bool, List, inl, inr, refl, sym, ap, subst}
use Rattle.zr_bptr.specs.declared.Ptr.{Ptr}
use Rattle.zr_label.specs.Blocks.{IsUber}
use Rattle.zr_label.specs.declared.root.Uber.{Uber}
use Rattle.zr_lookup.specs.Groups.{IsLawfulGroup}
use Rattle.zr_model.specs.Objects.{Objects}
use Rattle.zr_shelf.specs.Counts.{Counts}
use Rattle.zr_shelf.specs.Moments.{World}
use Rattle.zr_shelf.proofs.Doings.{writes_nothing}
use Rattle.zr_shelf.proofs.Runs.{still}
use Rattle.zr_store.specs.Store.{Stored}
use Rattle.zr_txg.specs.Changes.{IsGroup}
use Rattle.zr_vdev.specs.Stores.{IsWriteInto}
use Rattle.zr_vdev.specs.declared.kind.Kind.TheVariants.{Block}
use Rattle.zr_sync.specs.Commits.{IsNextRoot, PublishesRoot}
use Rattle.zr_sync.specs.Heads.{HasHead, IsSeen}
use Rattle.zr_sync.specs.Holds.{AreTreesStored, HasBlocks, HasWritten}
use Rattle.zr_sync.specs.Leads.{CommitsObjects, LeadsTo}
use Rattle.zr_sync.specs.Moves.{TellsMoves}
use Rattle.zr_sync.specs.Objects.{HoldsObjects}
use Rattle.zr_sync.specs.Pools.{IsOpen, IsSamePool}
use Rattle.zr_sync.specs.Writes.{WritesAll}
use Rattle.zr_sync.specs.declared.open.OpenPool.{OpenPool}
use Rattle.zr_sync.proofs.Groups.{next_before, next_open, next_pool, publishes_before}
use Rattle.zr_sync.proofs.Holding.{same_holds}
use Rattle.zr_sync.proofs.Objects.{now_held}
use Rattle.zr_sync.proofs.Stays.{objects_written, trees_stored}

-- ---- what is held, whether it is told or not

pub untold : (t : Type 0) (disks : List (List ℕ)) (x : OpenPool) (objects : Objects) → HoldsObjects t disks x objects → HoldsObjects (Unit {0}) disks x objects
untold t disks x objects h = record { stored = h.stored; held = same_holds Block x.table.slots t (Unit {0}) disks disks x.space x.cache h.stored tt (λ a. refl) h.held; has = h.has }

-- ---- a commit that stops before its root is published

pub nothing_committed : (Told : Type 0) (sizes : List ℕ) (x : OpenPool) (reset : Bool) (objects : Objects) (w : World) → CommitsObjects Told sizes x reset objects w w
nothing_committed Told sizes x reset objects w = (w, writes_nothing (IsWriteInto Block x.table.slots x.space) w, inl (still w w refl))

module _ {n1 n2 : List ℕ} {c1 c2 : Counts} {t1 t2 : Type 0} {w1 w2 : World} {x y : OpenPool} (p : WritesAll n1 n2 c1 c2 t1 t2 w1 w2 x y) where
  pub blocks_committed : (Told : Type 0) → t1 → (reset : Bool) (objects : Objects) → CommitsObjects Told n1 x reset objects w1 w2
  blocks_committed Told told reset objects = (w2, p.written told, inl (still w2 w2 refl))

  -- ---- and one that comes to it

  same_pool : (u : Uber) → IsSamePool x (next_pool y u)
  same_pool u = record {
    name = ap (λ (o : OpenPool). o.name) p.rest;
    guid = ap (λ (o : OpenPool). o.guid) p.rest;
    version = ap (λ (o : OpenPool). o.version) p.rest;
    table = ap (λ (o : OpenPool). o.table) p.rest;
    ckpt = p.metadata.rows.ckpt ∙ p.blocks.rows.ckpt;
  }

  -- the objects that were written are those of the pool that goes on from the root
  next_objects : (u : Uber) (objects : Objects) (count : ℕ) → IsGroup x.group.objects count → IsLawfulGroup x.group → (h : HoldsObjects t1 w1.now.seen x objects) → HasWritten t2 w2.now.seen x y h.stored → HoldsObjects (Unit {0}) w2.now.seen (next_pool y u) objects
  next_objects u objects count group lawful h written = untold t2 w2.now.seen (next_pool y u) objects (objects_written x (next_pool y u) objects count group lawful refl h (now_held (λ m held. held) written))

  -- where the disks tell it of the pool whose blocks were written, they tell where the units of removed devices have moved
  next_moves : (u : Uber) → TellsMoves w2.now.seen y u.root u.len → TellsMoves w2.now.seen (next_pool y u) u.root u.len
  next_moves u m = record { head = m.head; lawful = m.lawful; same = m.same; streams = m.streams; stands = m.stands; spelled = m.spelled; mappings = λ dev which lt gone. let s = m.mappings dev which lt gone in record { count = s.count; stands = s.stands } }

  root_leads : (Told : Type 0) (reset : Bool) (u : Uber) (objects : Objects) (count : ℕ) → IsOpen n2 y → IsNextRoot y reset u → IsUber u → HasHead w2.now.seen y u.root u.len → IsGroup x.group.objects count → IsLawfulGroup x.group
      → (h : HoldsObjects t1 w1.now.seen x objects) → HasWritten t2 w2.now.seen x y h.stored → (Told → TellsMoves w2.now.seen y u.root u.len) → LeadsTo Told n1 w2.now.seen x u objects
  root_leads Told reset u objects count ready next lawful head group changes h written moves = record {
    next = next_pool y u;
    ready = subst (λ (n : List ℕ). IsOpen n (next_pool y u)) p.sizes (next_open n2 reset y u ready next lawful);
    same = same_pool u;
    last = refl;
    empty = refl;
    head = head;
    holds = next_objects u objects count group changes h written;
    moves = λ told. next_moves u (moves told);
  }

  pub root_committed : (Told : Type 0) (reset : Bool) (u : Uber) (root : Ptr) (len : ℕ) (objects : Objects) (count : ℕ) (w : World) → IsOpen n2 y → IsNextRoot y reset u → IsUber u → u.root ≡ root → u.len ≡ len → (IsSeen t1 w1.now.seen x → HasHead w2.now.seen y root len)
      → IsGroup x.group.objects count → IsLawfulGroup x.group → ((s : Stored) → HasBlocks t1 w1.now.seen x s → AreTreesStored x s → HasWritten t2 w2.now.seen x y s) → (t2 → PublishesRoot n2 y u w2 w)
      → (Told → TellsMoves w2.now.seen y root len) → HoldsObjects t1 w1.now.seen x objects → CommitsObjects Told n1 x reset objects w1 w
  root_committed Told reset u root len objects count w ready next lawful root_is len_is stands group changes writes published moves h =
      let told = h.held.told in
      let written = writes h.stored h.held (trees_stored x objects count group changes h) in
      let head : HasHead w2.now.seen y u.root u.len =
      subst (λ (r : Ptr). HasHead w2.now.seen y r u.len) (sym root_is) (subst (λ (n : ℕ). HasHead w2.now.seen y root n) (sym len_is) (stands (record { told = told; read = h.held.read }))) in
      let told_moves : Told → TellsMoves w2.now.seen y u.root u.len = λ t. subst (λ (r : Ptr). TellsMoves w2.now.seen y r u.len) (sym root_is) (subst (λ (n : ℕ). TellsMoves w2.now.seen y root n) (sym len_is) (moves t)) in
      (w2, p.written told, inr (u, lawful, next_before p reset u next, root_leads Told reset u objects count ready next lawful head group changes h written told_moves, publishes_before p u w2 w (published (p.told told))))

-- ---- what is told of the streams

-- what follows where more is told follows where less is
pub committed_told : (A B : Type 0) (sizes : List ℕ) (x : OpenPool) (reset : Bool) (objects : Objects) (w1 w : World) → (B → A) → CommitsObjects A sizes x reset objects w1 w → CommitsObjects B sizes x reset objects w1 w
committed_told A B sizes x reset objects w1 w more (mid, wrote, inl unmoved) = (mid, wrote, inl unmoved)
committed_told A B sizes x reset objects w1 w more (mid, wrote, inr (u, lawful, next, leads, published)) =
    (mid, wrote, inr (u, lawful, next, record { next = leads.next; ready = leads.ready; same = leads.same; last = leads.last; empty = leads.empty; head = leads.head; holds = leads.holds; moves = λ told. leads.moves (more told) }, published))
