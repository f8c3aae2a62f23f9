-- The end of a group: the next one is open.
use Rattle.std.proofs.Common.{◌≡◌, ℕ, ◌+◌, ◌≤◌, Bool, List, [], length, Some, inl, inr, refl, sym, ◌∙◌, ap, subst, arith}
use Rattle.std.specs.List.{AllByRecursion}
use Rattle.std.specs.Int.{div_ceil}
use Rattle.std.proofs.Math.Path.{fun_ext}
use Rattle.zr_base.specs.Trees.{IsHeight}
use Rattle.zr_base.specs.declared.space.CkptPart.{CkptPart}
use Rattle.zr_base.specs.declared.space.DevRow.{DevRow}
use Rattle.zr_base.specs.declared.space.Entry.{Entry}
use Rattle.zr_label.specs.Blocks.{IsUber}
use Rattle.zr_label.specs.declared.root.Uber.{Uber}
use Rattle.zr_lookup.specs.Groups.{IsChangeOf, IsLawfulGroup}
use Rattle.zr_meta.specs.Heads.{IsSaved}
use Rattle.zr_rules.specs.Devices.{Devices}
use Rattle.zr_rules.specs.Equation.{devices_in}
use Rattle.zr_rules.specs.Places.{part_of}
use Rattle.zr_rules.specs.Space.{Space}
use Rattle.zr_rules.specs.Steps.{Commits}
use Rattle.zr_txg.specs.Changes.{Changes, ObjectChange, block_count}
use Rattle.zr_vdev.specs.Mounts.{AreMounted}
use Rattle.zr_commit.proofs.Roots.{meta_tree}
use Rattle.zr_shelf.specs.Counts.{Counts}
use Rattle.zr_shelf.specs.Moments.{World}
use Rattle.zr_shelf.proofs.Runs.{still}
use Rattle.zr_sync.specs.Commits.{EndsGroup, IsNextRoot, IsShownFrom, IsShownInPart, PublishesRoot, WritesRoot}
use Rattle.zr_sync.specs.Pools.{IsOpen, IsInLimits, AreRows, saved_block}
use Rattle.zr_sync.specs.Writes.{WritesAll}
use Rattle.zr_sync.specs.declared.open.OpenPool.{OpenPool}
use Rattle.zr_sync.proofs.Rows.{rows_later}

abbrev make : ℕ → (ℕ → DevRow) → (ℕ → List Entry) → Devices
make n row entries = record { count = n; row = row; entries = entries }

-- a commit leaves the devices as they are
pub commits_devices : (reset : Bool) (old new : Space) → Commits reset old new → devices_in new ≡ devices_in old
commits_devices reset old new h =
    ap (λ (n : ℕ). make n (devices_in new).row (devices_in new).entries) h.devices
    ∙ (ap (λ (r : ℕ → DevRow). make (length old.parts.devs) r (devices_in new).entries) (fun_ext h.rows)
    ∙ ap (λ (e : ℕ → List Entry). make (length old.parts.devs) (devices_in old).row e) (fun_ext h.entries))

-- a group with no changes
empty_lawful : (g : Changes) → g.objects ≡ [] → IsLawfulGroup g
empty_lawful g none = subst (AllByRecursion IsChangeOf) (sym none) tt

empty_limits : (g : Changes) → g.objects ≡ [] → IsInLimits g
empty_limits g none = record {
  blocks = subst (λ (os : List (ℕ × ObjectChange)). block_count os ≤ 64) (sym none) (omega arith);
  objects = subst (λ (os : List (ℕ × ObjectChange)). length os ≤ 64) (sym none) (omega arith);
}

pub ended : (sizes : List ℕ) (reset : Bool) (x y : OpenPool) (u : Uber) (height : ℕ) → IsOpen sizes x → IsNextRoot x reset u → IsUber u → IsHeight (div_ceil u.len 4096) height → Commits reset x.space y.space
    → y.group.txg ≡ x.group.txg + 1 → y.group.objects ≡ [] → y ≡ record x { space = y.space; head = record { root = u.root; height = height }; last = Some u; group = y.group; turned = y.turned } → length y.turned ≡ 32 → IsOpen sizes y
ended sizes reset x y u height o next lawful tall commits txg none rest turned =
    let devices = commits_devices reset x.space y.space commits in
    let first = o.first in
    subst (IsOpen sizes) (sym rest) (record {
      version = o.version;
      guid = o.guid;
      name = o.name;
      some = o.some;
      few = o.few;
      table = subst (λ (t : ℕ). AreRows x.version t x.table.count x.table.rows) (sym txg) (rows_later x.version x.group.txg x.table.count x.table.rows o.table);
      slots = o.slots;
      first = omega (arith, txg, first);
      after = (lawful, txg ∙ ap (λ (n : ℕ). n + 1) (sym next.txg));
      group = empty_lawful y.group none;
      limits = empty_limits y.group none;
      dir = o.dir;
      head = meta_tree u.len height u.root lawful.root tall;
      streams = o.streams;
      count = o.count;
      cond = o.cond;
      turned = turned;
      saved = subst (λ (k : CkptPart). IsSaved k (saved_block x.saved)) (sym commits.ckpt) o.saved;
      checkpoint = o.checkpoint;
      spelled = commits.version ∙ o.spelled;
      devices = commits.devices ∙ o.devices;
      rows = λ d lt. commits.rows d ∙ o.rows d lt;
      lawful = commits.lawful o.lawful;
      mounted = subst (λ (ds : Devices). AreMounted sizes x.table.slots ds) (sym devices) o.mounted;
      disks = o.disks;
    })

-- the pool that goes on from a root with nothing changed yet
abbrev pub next_pool : OpenPool → Uber → OpenPool
next_pool x u = record x { last = Some u; group = record { txg = x.group.txg + 1; objects = [] } }

-- it is open where the root is the next one
pub next_open : (sizes : List ℕ) (reset : Bool) (x : OpenPool) (u : Uber) → IsOpen sizes x → IsNextRoot x reset u → IsUber u → IsOpen sizes (next_pool x u)
next_open sizes reset x u o next lawful =
    let first = o.first in
    record {
      version = o.version;
      guid = o.guid;
      name = o.name;
      some = o.some;
      few = o.few;
      table = rows_later x.version x.group.txg x.table.count x.table.rows o.table;
      slots = o.slots;
      first = omega (arith, first);
      after = (lawful, ap (λ (n : ℕ). n + 1) (sym next.txg));
      group = empty_lawful (record { txg = x.group.txg + 1; objects = [] }) refl;
      limits = empty_limits (record { txg = x.group.txg + 1; objects = [] }) refl;
      dir = o.dir;
      head = o.head;
      streams = o.streams;
      count = o.count;
      cond = o.cond;
      turned = o.turned;
      saved = o.saved;
      checkpoint = o.checkpoint;
      spelled = o.spelled;
      devices = o.devices;
      rows = o.rows;
      lawful = o.lawful;
      mounted = o.mounted;
      disks = o.disks;
    }

-- the rows of the devices stay
pub ends_row : (reset : Bool) (old new : Space) → EndsGroup reset old new → (d : ℕ) → (part_of new.parts.devs d).row ≡ (part_of old.parts.devs d).row
ends_row reset old new h d = h.ended.rows d ∙ ((h.metadata.rows.each d).row ∙ (h.blocks.rows.each d).row)

-- ---- the pool before its blocks were written

pub shown_before : {n1 n2 : List ℕ} {c1 c2 : Counts} {t1 t2 : Type 0} {w1 w2 : World} {x y : OpenPool} → WritesAll n1 n2 c1 c2 t1 t2 w1 w2 x y → (u : Uber) (a b : World) → IsShownFrom n2 y u a b → IsShownFrom n1 x u a b
shown_before {n1 = n1} {n2 = n2} {x = x} {y = y} p u a b h =
    let is : IsShownFrom n1 (record x { space = y.space; cache = y.cache; dir = y.dir; streams = y.streams; cond = y.cond }) u a b =
    subst (λ (o : OpenPool). IsShownFrom n1 o u a b) p.rest (subst (λ (n : List ℕ). IsShownFrom n y u a b) p.sizes h) in
    record { both = is.both; all = is.all; in_both = is.in_both; all_both = is.all_both; in_all = is.in_all; all_all = is.all_all; published = is.published }

-- the root that follows is the next one of the pool whose blocks were written
pub next_before : {n1 n2 : List ℕ} {c1 c2 : Counts} {t1 t2 : Type 0} {w1 w2 : World} {x y : OpenPool} → WritesAll n1 n2 c1 c2 t1 t2 w1 w2 x y → (reset : Bool) (u : Uber) → IsNextRoot y reset u → IsNextRoot x reset u
next_before {x = x} {y = y} p reset u h =
    let is : IsNextRoot (record x { space = y.space; cache = y.cache; dir = y.dir; streams = y.streams; cond = y.cond }) reset u = subst (λ (o : OpenPool). IsNextRoot o reset u) p.rest h in
    record { txg = is.txg; version = is.version; guid = is.guid; name = is.name; count = is.count; rows = is.rows; reset_is = is.reset_is }

part_before : {n1 n2 : List ℕ} {c1 c2 : Counts} {t1 t2 : Type 0} {w1 w2 : World} {x y : OpenPool} → WritesAll n1 n2 c1 c2 t1 t2 w1 w2 x y → (u : Uber) (a b : World) → IsShownInPart n2 y u a b → IsShownInPart n1 x u a b
part_before {n1 = n1} {n2 = n2} {x = x} {y = y} p u a b h =
    let is : IsShownInPart n1 (record x { space = y.space; cache = y.cache; dir = y.dir; streams = y.streams; cond = y.cond }) u a b =
    subst (λ (o : OpenPool). IsShownInPart n1 o u a b) p.rest (subst (λ (n : List ℕ). IsShownInPart n y u a b) p.sizes h) in
    record { both = is.both; all = is.all; in_both = is.in_both; all_both = is.all_both; in_all = is.in_all; all_all = is.all_all; published = is.published }

-- a root is published for the pool as it was before its blocks were written
pub publishes_before : {n1 n2 : List ℕ} {c1 c2 : Counts} {t1 t2 : Type 0} {w1 w2 : World} {x y : OpenPool} → WritesAll n1 n2 c1 c2 t1 t2 w1 w2 x y → (u : Uber) (a b : World) → PublishesRoot n2 y u a b → PublishesRoot n1 x u a b
publishes_before p u a b (inl unmoved) = inl unmoved
publishes_before p u a b (inr (inl part)) = inr (inl (part_before p u a b part))
publishes_before p u a b (inr (inr shown)) = inr (inr (shown_before p u a b shown))

-- where it stops before a root is published, blocks alone were written
pub stops_early : {n1 n2 : List ℕ} {c1 c2 : Counts} {t1 t2 : Type 0} {w1 w2 : World} {x y : OpenPool} → WritesAll n1 n2 c1 c2 t1 t2 w1 w2 x y → t1 → (reset : Bool) → WritesRoot n1 x reset w1 w2
stops_early {w2 = w2} p told reset = (w2, p.written told, inl (still w2 w2 refl))

-- and then the root is
pub publishes_then : {n1 n2 : List ℕ} {c1 c2 : Counts} {t1 t2 : Type 0} {w1 w2 : World} {x y : OpenPool} → WritesAll n1 n2 c1 c2 t1 t2 w1 w2 x y → t1 → (reset : Bool) (u : Uber) → IsNextRoot y reset u → (w : World) → PublishesRoot n2 y u w2 w
    → WritesRoot n1 x reset w1 w
publishes_then {w2 = w2} p told reset u next w (inl unmoved) = (w2, p.written told, inl unmoved)
publishes_then {w2 = w2} p told reset u next w (inr (inl part)) = (w2, p.written told, inr (u, next_before p reset u next, inl (part_before p u w2 w part)))
publishes_then {w2 = w2} p told reset u next w (inr (inr shown)) = (w2, p.written told, inr (u, next_before p reset u next, inr (shown_before p u w2 w shown)))
