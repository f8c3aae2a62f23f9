-- A root that is saved, and one that is saved no more.
use Rattle.std.proofs.Common.{◌≡◌, ◌∙◌, ◌⊎◌, inl, inr, ℕ, ◌+◌, ◌<◌, ◌^◌, Bool, true, false, List, [], ◌∷◌, length, take, get_or, replicate, sum_by, ◌==◌, Option, Some, None, Result, Ok, Err, refl, sym, ap, subst, arith, if◌then◌else◌}
use Rattle.std.specs.Prelude.{All, MatchBool, IfOk, IfSome, OnOk, Vec}
use Rattle.std.specs.Global.{Global}
use Rattle.std.proofs.Math.Path.{fun_ext}
use Rattle.std.proofs.lemmas.Bool.Decides.{nat_tests}
use Rattle.std.proofs.lemmas.List.{get_or-replicate}
use Rattle.zr_base.specs.declared.space.CkptPart.{CkptPart}
use Rattle.zr_base.specs.declared.space.CkptPart.TheVariants.{Clear, Discarding, Held}
use Rattle.zr_base.specs.declared.space.DevRow.{DevRow}
use Rattle.zr_base.specs.declared.space.Dva.{Dva}
use Rattle.zr_base.specs.declared.space.Entry.{Entry}
use Rattle.zr_base.specs.declared.space.Extent.{Extent}
use Rattle.zr_bptr.specs.declared.Tree.{Tree}
use Rattle.zr_bptr.specs.Spelling.{IsTree}
use Rattle.zr_meta.specs.Heads.{IsSaved}
use Rattle.zr_model.specs.Objects.{Objects}
use Rattle.zr_rules.specs.Devices.{Devices}
use Rattle.zr_rules.specs.Equation.{devices_in}
use Rattle.zr_rules.specs.Frees.{in_any}
use Rattle.zr_rules.specs.Places.{in_address, part_of}
use Rattle.zr_rules.specs.Roles.{Role, discarded, dropped, saved, is_live_role, is_copy_role}
use Rattle.zr_rules.specs.Roles.Role.{DeferredMeta, SavedMeta}
use Rattle.zr_rules.specs.Space.{Space, role_at, IsLawful}
use Rattle.zr_rules.specs.Steps.{HoldsCheckpoint, Discards, DiscardsSome, is_among, kept_extents, with_ckpt}
use Rattle.zr_shelf.specs.Counts.{Counts}
use Rattle.zr_shelf.specs.Moments.{World}
use Rattle.zr_space.specs.Saved.{GivesSaved, saved_left}
use Rattle.zr_vdev.specs.Mounts.{AreMounted}
use Rattle.zr_vdev.specs.Stores.{KeepsOthers}
use Rattle.zr_vdev.specs.declared.kind.Kind.TheVariants.{Block, Meta}
use Rattle.zr_vdev.proofs.Alike.{copies_stay, metadata_no_copy}
use Rattle.zr_vdev.proofs.Follows.{gives_others, others_itself, others_more, rows_devices, space_step}
use Rattle.zr_vdev.proofs.Frames.{held_beside}
use Rattle.zr_vdev.proofs.Held.{read_same}
use Rattle.zr_sync.specs.Checkpoints.{GivesSavedMeta, SavesRoot, DropsRoot}
use Rattle.zr_sync.specs.Empty.{no_cond, no_streams}
use Rattle.zr_sync.specs.Heads.{IsSeen}
use Rattle.zr_sync.specs.Objects.{HoldsObjects}
use Rattle.zr_sync.specs.Pools.{AreCondStreams, AreStreams, IsCheckpoint, IsOpen, IsSameIdentity, IsSamePool, saved_block}
use Rattle.zr_sync.specs.declared.open.Checkpoint.{Checkpoint}
use Rattle.zr_sync.specs.declared.open.DeviceStreams.{DeviceStreams}
use Rattle.zr_sync.specs.declared.open.OpenPool.{OpenPool}
use Rattle.zr_sync.proofs.Holding.{StaysLive, live_holds}
use Rattle.zr_sync.proofs.Standing.{seen_devices}
use Rattle.zr_sync.proofs.Stays.{objects_stay}

-- ---- what is given back

if_true : {A : Type 0} (b : Bool) (x y : A) → b ≡ true → (if b then x else y) ≡ x
if_true true x y h = refl
if_true false x y h = cc

if_false : {A : Type 0} (b : Bool) (x y : A) → b ≡ false → (if b then x else y) ≡ y
if_false true x y h = cc
if_false false x y h = refl

abbrev IsGiven : Role → Role → Type 0
IsGiven old new = (new ≡ old) ⊎ ((old ≡ SavedMeta) × (new ≡ DeferredMeta))

run_roles : (old new : Space) → GivesSaved old new → (d u : ℕ) → IsGiven (role_at old d u) (role_at new d u)
run_roles old new g d u = (elim (in_address g.at d u) as (λ (b : Bool). in_address g.at d u ≡ b → IsGiven (role_at old d u) (role_at new d u)) [
  | true ↦ λ is.
      let dev : d ≡ g.at.dev = grind (arith, nat_tests, is) in
      let here : in_address g.at g.at.dev u ≡ true = subst (λ (e : ℕ). in_address g.at e u ≡ true) dev is in
      let has : role_at old d u ≡ SavedMeta = subst (λ (e : ℕ). role_at old e u ≡ SavedMeta) (sym dev) (g.saved.saved u here) in
      let any : in_any (g.at ∷ []) d u ≡ true = grind (arith, nat_tests, is) in
      inr (has, g.drops.roles d u ∙ (if_true (in_any (g.at ∷ []) d u) _ _ any ∙ ap dropped has))
  | false ↦ λ is.
      let any : in_any (g.at ∷ []) d u ≡ false = grind (arith, nat_tests, is) in
      inl (g.drops.roles d u ∙ if_false (in_any (g.at ∷ []) d u) _ _ any)
]) refl

none_left : (old new : Space) → saved_left new < saved_left old → old.saved_meta ≡ [] → ⊥
none_left old new less none = let left : saved_left old ≡ 0 = ap (λ (list : List Dva). sum_by (λ (a : Dva). a.len) list) none in omega (arith, less, left)

gives_run : (old new : Space) → GivesSaved old new → GivesSavedMeta old new
gives_run old new g = record {
  roles = run_roles old new g;
  others = gives_others Meta old new g.at 0 g.saved.is (g.drops, g.parts);
  nothing = λ none. absurd (none_left old new g.less none);
}

pub gives_itself : (s : Space) → GivesSavedMeta s s
gives_itself s = record { roles = λ d u. inl refl; others = others_itself Meta s; nothing = λ none. refl }

given_then : (a b c : Role) → IsGiven a b → IsGiven b c → IsGiven a c
given_then a b c (inl p) (inl q) = inl (q ∙ p)
given_then a b c (inl p) (inr q) = inr (sym p ∙ q.0, q.1)
given_then a b c (inr p) (inl q) = inr (p.0, q ∙ p.1)
given_then a b c (inr p) (inr q) = inr (p.0, q.1)

gives_then : (a b c : Space) → GivesSavedMeta a b → GivesSavedMeta b c → GivesSavedMeta a c
gives_then a b c p q = record {
  roles = λ d u. given_then (role_at a d u) (role_at b d u) (role_at c d u) (p.roles d u) (q.roles d u);
  others = others_more Meta a b c p.others q.others;
  nothing = λ none. let same = p.nothing none in q.nothing (subst (λ (s : Space). s.saved_meta ≡ []) (sym same) none) ∙ same;
}

pub gives_step : (first mid new : Space) (b : Bool) → GivesSavedMeta first mid → (b ≡ true → GivesSaved mid new) → (b ≡ false → (new ≡ mid) × (mid.saved_meta ≡ [])) → GivesSavedMeta first new
gives_step first mid new true g did left = gives_then first mid new g (gives_run mid new (did refl))
gives_step first mid new false g did left = let n = left refl in subst (GivesSavedMeta first) (sym n.0) g

pub none_step : (mid new : Space) (b : Bool) → (b ≡ false → (new ≡ mid) × (mid.saved_meta ≡ [])) → b ≡ false → new.saved_meta ≡ []
none_step mid new b left is = let n = left is in ap (λ (s : Space). s.saved_meta) n.0 ∙ n.1

pub less_step : (mid new : Space) (b : Bool) → (b ≡ true → GivesSaved mid new) → (b ≡ false → (new ≡ mid) × (mid.saved_meta ≡ [])) → saved_left new + (if b then 1 else 0) < saved_left mid + 1
less_step mid new true did left = let g = did refl in let less = g.less in omega (arith, less)
less_step mid new false did left = let n = left refl in let same = ap (λ (s : Space). saved_left s) n.0 in omega (arith, same)

-- ---- streams

pub cleared : (n i : ℕ) (d : DeviceStreams) → i < n → get_or (replicate n no_streams) i d ≡ no_streams
cleared n i d inside = get_or-replicate n i no_streams d inside

-- ---- the devices, and what is live

abbrev make : ℕ → (ℕ → DevRow) → (ℕ → List Entry) → Devices
make n row entries = record { count = n; row = row; entries = entries }

pub held_devices : (txg : ℕ) (old new : Space) → HoldsCheckpoint old new txg → devices_in new ≡ devices_in old
held_devices txg old new h =
    ap (λ (n : ℕ). make n (devices_in new).row (devices_in new).entries) h.devices
    ∙ (ap (λ (r : ℕ → DevRow). make (length old.parts.devs) r (devices_in new).entries) (fun_ext (λ d. (h.each d).row))
    ∙ ap (λ (e : ℕ → List Entry). make (length old.parts.devs) (devices_in old).row e) (fun_ext (λ d. (h.each d).entries)))

saved_live : (r : Role) → is_live_role (saved r) ≡ is_live_role r
saved_live r = grind (arith)

saved_copy : (r : Role) → is_copy_role (saved r) ≡ is_copy_role r
saved_copy r = grind (arith)

held_live : (txg : ℕ) (old new : Space) → HoldsCheckpoint old new txg → StaysLive old new
held_live txg old new h = record {
  devices = held_devices txg old new h;
  counts = λ d. (h.each d).counts;
  fresh = h.fresh;
  live = λ d u. ap is_live_role (h.roles d u) ∙ saved_live (role_at old d u);
  copy = λ d u is. sym (ap is_copy_role (h.roles d u) ∙ saved_copy (role_at old d u)) ∙ is;
}

pub ckpt_role : (s : Space) (c : CkptPart) (d u : ℕ) → role_at (with_ckpt s c) d u ≡ role_at s d u
unfolding role_at
ckpt_role s c d u = refl

pub ckpt_live : (s : Space) (c : CkptPart) → StaysLive s (with_ckpt s c)
ckpt_live s c = record { devices = refl; counts = λ d. refl; fresh = λ d u. refl; live = λ d u. ap is_live_role (ckpt_role s c d u); copy = λ d u is. sym (ap is_copy_role (ckpt_role s c d u)) ∙ is }

pub ckpt_lawful : (s : Space) (c : CkptPart) → IsLawful s → IsLawful (with_ckpt s c)
ckpt_lawful s c l = record { devices = l.devices; sets = l.sets; once = l.once; copies = l.copies; born = l.born }

-- ---- objects

-- they stay where metadata is given back
given_objects : (n : List ℕ) (c : Counts) (t : Type 0) (w : World) (x : OpenPool) (given : Space) (objects : Objects) → AreMounted n x.table.slots (devices_in x.space) → KeepsOthers Meta x.space given
    → HoldsObjects t w.now.seen x objects → HoldsObjects t w.now.seen (record x { space = given }) objects
given_objects n c t w x given objects mounted others h =
    objects_stay x (record x { space = given }) objects refl refl h
    (held_beside Block x.table.slots n n c c t t w w x.space given None x.cache x.cache h.stored mounted.apart
    (space_step Meta x.table.slots n c t w x.space given x.cache x.cache others (λ disks read. read_same disks x.table.slots x.space given x.cache (rows_devices x.space given others.rows) read) (λ disks stand. copies_stay disks x.table.slots x.space given (metadata_no_copy x.space given others) stand) refl)
    h.held)

-- and where the devices and what is live do
pub live_objects : (t : Type 0) (disks : List (List ℕ)) (x y : OpenPool) (objects : Objects) → StaysLive x.space y.space → y.table ≡ x.table → y.cache ≡ x.cache → y.dir ≡ x.dir → y.group ≡ x.group → HoldsObjects t disks x objects → HoldsObjects t disks y objects
live_objects t disks x y objects stays table cache dir group h = objects_stay x y objects dir group h (live_holds t disks x y h.stored stays table cache h.held)

-- ---- a root that is saved

module _ (x y : OpenPool) (s : SavesRoot x y) where
  given_devices : devices_in s.given ≡ devices_in x.space
  given_devices = rows_devices x.space s.given s.gives.others.rows

  pub saves_devices : devices_in y.space ≡ devices_in x.space
  saves_devices = held_devices s.root.txg s.given y.space s.holds ∙ given_devices

  pub saves_seen : (t : Type 0) (disks : List (List ℕ)) → IsSeen t disks x → IsSeen t disks y
  saves_seen t disks seen = seen_devices t disks x y saves_devices (ap (λ (o : OpenPool). o.table) s.rest) (ap (λ (o : OpenPool). o.cache) s.rest) seen

  pub saves_objects : (n : List ℕ) (c : Counts) (t : Type 0) (w : World) (objects : Objects) → IsOpen n x → HoldsObjects t w.now.seen x objects → HoldsObjects t w.now.seen y objects
  saves_objects n c t w objects o h =
      live_objects t w.now.seen (record x { space = s.given }) y objects (held_live s.root.txg s.given y.space s.holds)
      (ap (λ (p : OpenPool). p.table) s.rest) (ap (λ (p : OpenPool). p.cache) s.rest) (ap (λ (p : OpenPool). p.dir) s.rest) (ap (λ (p : OpenPool). p.group) s.rest)
      (given_objects n c t w x s.given objects o.mounted s.gives.others h)

no_streams_lawful : (d : DeviceStreams) → d ≡ no_streams → AreStreams d
no_streams_lawful d is = subst AreStreams (sym is) (record { held = (refl, refl); kept = (refl, refl); entries = (refl, refl); counts = (refl, refl); fresh = (refl, refl); late1 = (refl, refl); late2 = (refl, refl) })

no_tree_lawful : (t : Tree) → t ≡ no_streams.held.tree → IsTree t
no_tree_lawful t is = subst IsTree (sym is) (record { lawful = tt; level = tt; low = omega arith })

held_saved : (txg : ℕ) (part : CkptPart) (c : Checkpoint) (o : Option Checkpoint) → part ≡ Held txg → o ≡ Some c → length c.block ≡ 4096 → txg < 2 ^ 64 → IsSaved part (saved_block o)
held_saved txg part c o part_is is long small = subst (λ (k : CkptPart). IsSaved k (saved_block o)) (sym part_is) (subst (λ (b : Option Checkpoint). IsSaved (Held txg) (saved_block b)) (sym is) (long, small))

held_lawful : (c : Checkpoint) (o : Option Checkpoint) → o ≡ Some c → IsCheckpoint c → IfSome o IsCheckpoint
held_lawful c o is lawful = subst (λ (b : Option Checkpoint). IfSome b IsCheckpoint) (sym is) lawful

-- the pool is open as before
pub saves_open : (sizes : List ℕ) (x y : OpenPool) (given : Space) (c : Checkpoint) (txg : ℕ) → IsOpen sizes x → GivesSavedMeta x.space given → HoldsCheckpoint given y.space txg → txg < 2 ^ 64 → length c.block ≡ 4096 → c.head ≡ x.head → c.streams ≡ x.streams → y.saved ≡ Some c
    → All (λ (d : DeviceStreams). d ≡ no_streams) y.streams.items → length y.streams.items ≡ length x.streams.items → y.head ≡ no_streams.held.tree → c.cond ≡ x.cond → y.cond ≡ no_cond → y ≡ record x { space = y.space; saved = y.saved; head = y.head; streams = y.streams; cond = y.cond } → IsOpen sizes y
saves_open sizes x y given c txg o gives holds small long c_head c_streams saved streams count head c_cond cond rest =
    let rows = gives.others.rows in
    let devices : devices_in y.space ≡ devices_in x.space = held_devices txg given y.space holds ∙ rows_devices x.space given rows in
    subst (IsOpen sizes) (sym rest) (record {
      version = o.version;
      guid = o.guid;
      name = o.name;
      some = o.some;
      few = o.few;
      table = o.table;
      slots = o.slots;
      first = o.first;
      after = o.after;
      group = o.group;
      limits = o.limits;
      dir = o.dir;
      head = no_tree_lawful y.head head;
      streams = λ i d lt. no_streams_lawful _ (streams i d lt);
      count = count ∙ o.count;
      cond = subst AreCondStreams (sym cond) (record { entries = (refl, refl); counts = (refl, refl) });
      turned = o.turned;
      saved = held_saved txg y.space.parts.ckpt c y.saved holds.ckpt_is saved long small;
      checkpoint = held_lawful c y.saved saved (record { head = subst IsTree (sym c_head) o.head; streams = subst (λ (v : Vec DeviceStreams Global). All AreStreams v.items) (sym c_streams) o.streams; cond = subst AreCondStreams (sym c_cond) o.cond });
      spelled = holds.version ∙ (rows.version ∙ o.spelled);
      devices = holds.devices ∙ (rows.devices ∙ o.devices);
      rows = λ d lt. (holds.each d).row ∙ ((rows.each d).row ∙ o.rows d lt);
      lawful = holds.lawful (rows.lawful o.lawful);
      mounted = subst (λ (ds : Devices). AreMounted sizes x.table.slots ds) (sym devices) o.mounted;
      disks = o.disks;
    })

-- ---- a root that is saved no more

module _ (x y : OpenPool) (r : DropsRoot x y) where
  pub drops_devices : devices_in y.space ≡ devices_in x.space
  drops_devices = rows_devices (with_ckpt x.space Discarding) y.space r.gives.others.rows

  pub drops_seen : (t : Type 0) (disks : List (List ℕ)) → IsSeen t disks x → IsSeen t disks y
  drops_seen t disks seen = seen_devices t disks x y drops_devices (ap (λ (o : OpenPool). o.table) r.rest) (ap (λ (o : OpenPool). o.cache) r.rest) seen

  pub drops_objects : (n : List ℕ) (c : Counts) (t : Type 0) (w : World) (objects : Objects) → IsOpen n x → HoldsObjects t w.now.seen x objects → HoldsObjects t w.now.seen y objects
  drops_objects n c t w objects o h =
      let mid : OpenPool = record x { space = with_ckpt x.space Discarding; saved = None } in
      subst (λ (p : OpenPool). HoldsObjects t w.now.seen p objects) (sym r.rest)
      (given_objects n c t w mid y.space objects o.mounted r.gives.others
      (live_objects t w.now.seen x mid objects (ckpt_live x.space Discarding) refl refl refl refl h))

pub drops_open : (sizes : List ℕ) (x y : OpenPool) → IsOpen sizes x → GivesSavedMeta (with_ckpt x.space Discarding) y.space → y ≡ record x { space = y.space; saved = None } → IsOpen sizes y
drops_open sizes x y o gives rest =
    let rows = gives.others.rows in
    let devices : devices_in y.space ≡ devices_in x.space = rows_devices (with_ckpt x.space Discarding) y.space rows in
    subst (IsOpen sizes) (sym rest) (record {
      version = o.version;
      guid = o.guid;
      name = o.name;
      some = o.some;
      few = o.few;
      table = o.table;
      slots = o.slots;
      first = o.first;
      after = o.after;
      group = o.group;
      limits = o.limits;
      dir = o.dir;
      head = o.head;
      streams = o.streams;
      count = o.count;
      cond = o.cond;
      turned = o.turned;
      saved = subst (λ (k : CkptPart). IsSaved k None) (sym rows.ckpt) tt;
      checkpoint = tt;
      spelled = rows.version ∙ o.spelled;
      devices = rows.devices ∙ o.devices;
      rows = λ d lt. (rows.each d).row ∙ o.rows d lt;
      lawful = rows.lawful (ckpt_lawful x.space Discarding o.lawful);
      mounted = subst (λ (ds : Devices). AreMounted sizes x.table.slots ds) (sym devices) o.mounted;
      disks = o.disks;
    })

-- ---- the same pool

pub saves_same : (a x y b : OpenPool) → IsSamePool a x → SavesRoot x y → IsSamePool y b → IsSameIdentity a b
saves_same a x y b p s q = record {
  name = q.name ∙ (ap (λ (o : OpenPool). o.name) s.rest ∙ p.name);
  guid = q.guid ∙ (ap (λ (o : OpenPool). o.guid) s.rest ∙ p.guid);
  version = q.version ∙ (ap (λ (o : OpenPool). o.version) s.rest ∙ p.version);
  table = q.table ∙ (ap (λ (o : OpenPool). o.table) s.rest ∙ p.table);
}

pub drops_same : (x y b : OpenPool) → DropsRoot x y → IsSamePool y b → IsSameIdentity x b
drops_same x y b r q = record {
  name = q.name ∙ ap (λ (o : OpenPool). o.name) r.rest;
  guid = q.guid ∙ ap (λ (o : OpenPool). o.guid) r.rest;
  version = q.version ∙ ap (λ (o : OpenPool). o.version) r.rest;
  table = q.table ∙ ap (λ (o : OpenPool). o.table) r.rest;
}

-- ---- what was kept is given back

-- the devices and what is live stay
pub discards_devices : (old new : Space) (es : List (ℕ × Extent)) → Discards old new es → devices_in new ≡ devices_in old
discards_devices old new es g =
    ap (λ (n : ℕ). make n (devices_in new).row (devices_in new).entries) g.frame.devices
    ∙ (ap (λ (r : ℕ → DevRow). make (length old.parts.devs) r (devices_in new).entries) (fun_ext (λ d. (g.frame.each d).row))
    ∙ ap (λ (e : ℕ → List Entry). make (length old.parts.devs) (devices_in old).row e) (fun_ext (λ d. (g.frame.each d).entries)))

discarded_live : (b : Bool) (r : Role) → is_live_role (if b then discarded r else r) ≡ is_live_role r
discarded_live true r = grind (arith)
discarded_live false r = refl

discarded_copy : (b : Bool) (r : Role) → is_copy_role (if b then discarded r else r) ≡ is_copy_role r
discarded_copy true r = grind (arith)
discarded_copy false r = refl

discards_live : (old new : Space) (es : List (ℕ × Extent)) → Discards old new es → StaysLive old new
discards_live old new es g = record {
  devices = discards_devices old new es g;
  counts = λ d. (g.frame.each d).counts;
  fresh = g.fresh;
  live = λ d u. ap is_live_role (g.roles d u) ∙ discarded_live (is_among es d u) (role_at old d u);
  copy = λ d u is. sym (ap is_copy_role (g.roles d u) ∙ discarded_copy (is_among es d u) (role_at old d u)) ∙ is;
}

-- a step of discarding leaves the devices, what is live and what makes a pool open
pub record KeepsLive (old new : Space) : Type 0 where
  pub live : StaysLive old new
  pub version : new.parts.version ≡ old.parts.version
  pub count : length new.parts.devs ≡ length old.parts.devs
  pub rows : (d : ℕ) → (part_of new.parts.devs d).row ≡ (part_of old.parts.devs d).row
  pub lawful : IsLawful old → IsLawful new

pub some_live : (old new : Space) (units : ℕ) → DiscardsSome old units new → KeepsLive old new
some_live old new units d = by_cases (length (take 64 (kept_extents old)) == 0) d.1
  where
    by_cases : (b : Bool) → MatchBool b (new ≡ with_ckpt old Clear) (Discards old new (take 64 (kept_extents old))) → KeepsLive old new
    by_cases true is = subst (KeepsLive old) (sym is) (record { live = ckpt_live old Clear; version = refl; count = refl; rows = λ d. refl; lawful = ckpt_lawful old Clear })
    by_cases false g = record {
      live = discards_live old new (take 64 (kept_extents old)) g;
      version = g.frame.version;
      count = g.frame.devices;
      rows = λ d. (g.frame.each d).row;
      lawful = g.frame.lawful;
    }

pub discards_objects : (t : Type 0) (disks : List (List ℕ)) (x y : OpenPool) (objects : Objects) → KeepsLive x.space y.space → y ≡ record x { space = y.space } → HoldsObjects t disks x objects → HoldsObjects t disks y objects
discards_objects t disks x y objects k rest h =
    live_objects t disks x y objects k.live (ap (λ (p : OpenPool). p.table) rest) (ap (λ (p : OpenPool). p.cache) rest) (ap (λ (p : OpenPool). p.dir) rest) (ap (λ (p : OpenPool). p.group) rest) h

unsaved : (b : Bool) (part : CkptPart) (o : Option Checkpoint) → part ≡ (if b then Clear else Discarding) → IsSaved Discarding (saved_block o) → IsSaved part (saved_block o)
unsaved true part None is saved = subst (λ (k : CkptPart). IsSaved k None) (sym is) tt
unsaved true part (Some c) is saved = absurd saved
unsaved false part o is saved = subst (λ (k : CkptPart). IsSaved k (saved_block o)) (sym is) saved

pub discards_open : (sizes : List ℕ) (x y : OpenPool) (b : Bool) → IsOpen sizes x → KeepsLive x.space y.space → x.space.parts.ckpt ≡ Discarding → y.space.parts.ckpt ≡ (if b then Clear else Discarding) → y ≡ record x { space = y.space } → IsOpen sizes y
discards_open sizes x y b o k was ckpt rest =
    subst (IsOpen sizes) (sym rest) (record {
      version = o.version;
      guid = o.guid;
      name = o.name;
      some = o.some;
      few = o.few;
      table = o.table;
      slots = o.slots;
      first = o.first;
      after = o.after;
      group = o.group;
      limits = o.limits;
      dir = o.dir;
      head = o.head;
      streams = o.streams;
      count = o.count;
      cond = o.cond;
      turned = o.turned;
      saved = unsaved b y.space.parts.ckpt x.saved ckpt (subst (λ (c : CkptPart). IsSaved c (saved_block x.saved)) was o.saved);
      checkpoint = o.checkpoint;
      spelled = k.version ∙ o.spelled;
      devices = k.count ∙ o.devices;
      rows = λ d lt. k.rows d ∙ o.rows d lt;
      lawful = k.lawful o.lawful;
      mounted = subst (λ (ds : Devices). AreMounted sizes x.table.slots ds) (sym k.live.devices) o.mounted;
      disks = o.disks;
    })

-- what was done where the answer is Ok
pub ok_with : {T E : Type 0} (r : Result T E) (Q : T → Type 0) (P : Type 0) → IfOk r Q → ((x : T) → Q x → P) → OnOk r P
ok_with (Ok x) Q P q f = f x q
ok_with (Err e) Q P q f = tt
