-- The trees of a pool stand on its disks, by whatever these are told to read so, and of a pool of which little has changed.
use Rattle.std.proofs.Common.{◌≡◌, ◌∙◌, ◌⊎◌, inl, inr, ℕ, ◌≤◌, ◌==◌, Bool, true, false, List, [], length, take, None, refl, sym, ap, subst, arith, if◌then◌else◌}
use Rattle.std.specs.Prelude.{MatchBool, slice_index_or}
use Rattle.std.proofs.lemmas.Bool.Decides.{nat_tests}
use Rattle.zr_base.specs.declared.space.CkptPart.TheVariants.{Clear}
use Rattle.zr_base.specs.declared.space.Dva.{Dva}
use Rattle.zr_base.specs.declared.space.Entry.{Entry}
use Rattle.zr_beside.specs.Beside.{Standing}
use Rattle.zr_bptr.specs.declared.Tree.{Tree}
use Rattle.zr_cache.specs.declared.table.Cache.{Cache}
use Rattle.zr_rules.specs.Devices.{Devices}
use Rattle.zr_rules.specs.Equation.{devices_in, live_hits}
use Rattle.zr_rules.specs.Frees.{IsSameRoot}
use Rattle.zr_rules.specs.Places.{part_of, units_of_dev}
use Rattle.zr_rules.specs.Roles.{Role, discarded}
use Rattle.zr_rules.specs.Roles.Role.{Meta, SavedMeta}
use Rattle.zr_rules.specs.Space.{Space, role_at}
use Rattle.zr_rules.specs.Steps.{Discards, DiscardsSome, is_among, kept_extents, with_ckpt}
use Rattle.zr_space.specs.Drops.{HasRole, IsMeta}
use Rattle.zr_store.specs.Store.{Now, Stored, Swaps}
use Rattle.zr_vdev.proofs.Held.{read_same}
use Rattle.zr_vdev.proofs.Moves.{held_again, read_held, retold}
use Rattle.zr_vdev.proofs.Whole.{meta_same}
use Rattle.zr_vdev.specs.Stores.{HoldsBlocks, addresses_of, is_current}
use Rattle.zr_vdev.specs.declared.kind.Kind.TheVariants.{Meta as MetaKind}
use Rattle.zr_view.specs.Views.{address_bytes}
use Rattle.zr_sync.specs.Heads.{IsSeen}
use Rattle.zr_sync.specs.Mappings.{HasFirst, IsSpelled, is_turned, turned_at}
use Rattle.zr_sync.specs.Streams.{HasMeta}
use Rattle.zr_sync.specs.Trees.{Place, Stage, HasTrees, HoldsStreams, IsAt, IsCondAt, every, head_tree, one_stage}
use Rattle.zr_sync.specs.Trees.Place.{OfLog, OfMapping, FirstLate, SecondLate}
use Rattle.zr_sync.specs.Trees.Stage.{Had, Untold}
use Rattle.zr_sync.specs.Words.{IsLastLog, log_was}
use Rattle.zr_sync.specs.declared.mappings.MappingStream.{MappingStream}
use Rattle.zr_sync.specs.declared.open.CondStreams.{CondStreams}
use Rattle.zr_sync.specs.declared.open.OpenPool.{OpenPool}
use Rattle.zr_sync.specs.declared.open.Table.{Table}
use Rattle.zr_sync.specs.declared.open.Turned.{Turned}
use Rattle.zr_sync.specs.declared.words.Log.{Log}
use Rattle.zr_sync.specs.declared.words.Log.TheVariants.{Held, Kept, Fresh}
use Rattle.zr_sync.proofs.Recording.{stand_still}
use Rattle.zr_sync.proofs.SavedRoots.{ckpt_role, discards_devices}

streams_told : (stage : ℕ → Place → Stage) (cond : MappingStream → Stage) (others : List Standing) (t1 t2 : Type 0) (disks : List (List ℕ)) (pool : OpenPool) → t2 → HoldsStreams stage cond others t1 disks pool → HoldsStreams stage cond others t2 disks pool
streams_told stage cond others t1 t2 disks pool told h = record {
  stored = h.stored;
  held = retold MetaKind pool.table.slots t1 t2 disks pool.space None pool.cache h.stored told h.held;
  words = h.words;
  cond = h.cond;
  beside = h.beside;
  counts = h.counts;
  cond_counts = h.cond_counts;
  are = h.are;
  are_cond = h.are_cond;
}

pub trees_told : (stage : Stage) (t1 t2 : Type 0) (disks : List (List ℕ)) (pool : OpenPool) → t2 → HasTrees stage t1 disks pool → HasTrees stage t2 disks pool
trees_told stage t1 t2 disks pool told h = (h.0, streams_told _ _ _ t1 t2 disks pool told h.1)

-- ---- the same trees of a pool of which little has changed

-- what the last root has of each log and of each mapping is the same, and what is condensed
pub record IsSamePast (x y : OpenPool) : Type 0 where
  pub root : IsSameRoot x.space y.space
  pub entries : (d : ℕ) → (part_of y.space.parts.devs d).entries ≡ (part_of x.space.parts.devs d).entries
  pub counts : (d : ℕ) → (part_of y.space.parts.devs d).counts ≡ (part_of x.space.parts.devs d).counts
  pub condensed : y.space.parts.cond ≡ x.space.parts.cond
  pub version : y.version ≡ x.version
  pub turned : y.turned ≡ x.turned
  pub streams : y.streams ≡ x.streams
  pub cond : y.cond ≡ x.cond
  pub table : y.table ≡ x.table
  pub head : y.head ≡ x.head

was_same : (x y : OpenPool) → IsSamePast x y → (log : Log) (d u : ℕ) → log_was log y.space d u ≡ log_was log x.space d u
was_same x y past Held d u = past.root.held d u
was_same x y past Kept d u = past.root.kept d u
was_same x y past Fresh d u = past.root.fresh d u

past_at : (x y : OpenPool) → IsSamePast x y → (e : ℕ) (p : Place) (ws : List ℕ) → IsAt Had x e p ws → IsAt Had y e p ws
past_at x y past e (OfLog log) ws is = subst (λ (v : ℕ). IsLastLog v y.space e log ws) (sym past.version) (record { set = is.set; log_is = is.log_is; units = λ u. is.units u ∙ sym (was_same x y past log e u) })
past_at x y past e (OfMapping which) ws is =
    let same : is_turned which (turned_at y e) ≡ is_turned which (turned_at x e) = ap (λ (ts : List Turned). is_turned which (slice_index_or ts e (record { entries = false; counts = false }))) past.turned in (
      λ still. subst (λ (es : List Entry). HasFirst which es (part_of y.space.parts.devs e).counts ws) (sym (past.entries e)) (subst (λ (cs : List ℕ). HasFirst which (part_of x.space.parts.devs e).entries cs ws) (sym (past.counts e)) (is.0 (sym same ∙ still))),
      subst (λ (es : List Entry). IsSpelled es (part_of y.space.parts.devs e).counts) (sym (past.entries e)) (subst (λ (cs : List ℕ). IsSpelled (part_of x.space.parts.devs e).entries cs) (sym (past.counts e)) is.1),
    )
past_at x y past e FirstLate ws is = tt
past_at x y past e SecondLate ws is = tt

past_cond_at : (x y : OpenPool) → IsSamePast x y → (which : MappingStream) (ws : List ℕ) → IsCondAt Had x which ws → IsCondAt Had y which ws
past_cond_at x y past which ws is = λ c at.
    let had = is c (sym past.condensed ∙ at) in
    (λ done. had.0 (sym (ap (λ (t : CondStreams). t.done) past.cond) ∙ done), had.1)

-- where the disks hold the same blocks of metadata
pub trees_stay : (t1 t2 : Type 0) (d1 d2 : List (List ℕ)) (x y : OpenPool) → IsSamePast x y → ((s : Stored) → HasMeta t1 d1 x s → Now (HasMeta t2 d2 y) (λ n. Swaps s n [] [])) → HasTrees Had t1 d1 x → HasTrees Had t2 d2 y
trees_stay t1 t2 d1 d2 x y past held h =
    let later = held h.1.stored h.1.held in
    let still : HoldsStreams (every Had) (one_stage Had) (head_tree x.head h.0) t2 d2 y =
    stand_still (every Had) (every Had) (one_stage Had) (one_stage Had) (head_tree x.head h.0) t1 t2 d1 d2 x y h.1 past.streams past.cond past.table later.stored later.held later.is
    (λ e p ws lt is. past_at x y past e p ws is) (λ which ws is. past_cond_at x y past which ws is) in
    (h.0, subst (λ (t : Tree). HoldsStreams (every Had) (one_stage Had) (head_tree t h.0) t2 d2 y) (sym past.head) still)

-- the space has not changed
past_of_space : (x y : OpenPool) → y.space ≡ x.space → y.version ≡ x.version → y.turned ≡ x.turned → y.streams ≡ x.streams → y.cond ≡ x.cond → y.table ≡ x.table → y.head ≡ x.head → IsSamePast x y
past_of_space x y space version turned streams cond table head = record {
  root = subst (λ (s : Space). IsSameRoot x.space s) (sym space) (record { held = λ d u. refl; kept = λ d u. refl; fresh = λ d u. refl });
  entries = λ d. ap (λ (s : Space). (part_of s.parts.devs d).entries) space;
  counts = λ d. ap (λ (s : Space). (part_of s.parts.devs d).counts) space;
  condensed = ap (λ (s : Space). s.parts.cond) space;
  version = version;
  turned = turned;
  streams = streams;
  cond = cond;
  table = table;
  head = head;
}

still_stored : (holds : Stored → Type 0) (s : Stored) → holds s → Now holds (λ n. Swaps s n [] [])
still_stored holds s held = record { stored = s; held = held; is = record { stored = λ weight. refl; kept = λ b none some. refl } }

-- the group alone changes
pub group_leaves : (tells : Type 0) (disks : List (List ℕ)) (x y : OpenPool) → y ≡ record x { group = y.group } → HasTrees Had tells disks x → HasTrees Had tells disks y
group_leaves tells disks x y rest =
    trees_stay tells tells disks disks x y
    (past_of_space x y (ap (λ (o : OpenPool). o.space) rest) (ap (λ (o : OpenPool). o.version) rest) (ap (λ (o : OpenPool). o.turned) rest) (ap (λ (o : OpenPool). o.streams) rest) (ap (λ (o : OpenPool). o.cond) rest) (ap (λ (o : OpenPool). o.table) rest) (ap (λ (o : OpenPool). o.head) rest))
    (λ s held. still_stored (HasMeta tells disks y) s (subst (λ (o : OpenPool). HasMeta tells disks o s) (sym rest) held))

-- the cache alone changes, and has what stands there
pub cache_leaves : (t1 t2 : Type 0) (disks : List (List ℕ)) (x y : OpenPool) → y ≡ record x { cache = y.cache } → IsSeen t2 disks y → HasTrees Had t1 disks x → HasTrees Had t2 disks y
cache_leaves t1 t2 disks x y rest seen =
    trees_stay t1 t2 disks disks x y
    (past_of_space x y (ap (λ (o : OpenPool). o.space) rest) (ap (λ (o : OpenPool). o.version) rest) (ap (λ (o : OpenPool). o.turned) rest) (ap (λ (o : OpenPool). o.streams) rest) (ap (λ (o : OpenPool). o.cond) rest) (ap (λ (o : OpenPool). o.table) rest) (ap (λ (o : OpenPool). o.head) rest))
    (λ s held. still_stored (HasMeta t2 disks y) s (subst (λ (o : OpenPool). HasMeta t2 disks o s) (sym rest) (seen_now s held)))
  where
    z : OpenPool
    z = record x { cache = y.cache }

    seen_now : (s : Stored) → HasMeta t1 disks x s → HasMeta t2 disks z s
    seen_now s held = read_held MetaKind x.table.slots t1 t2 disks disks x.space None x.cache y.cache s seen.told (subst (λ (o : OpenPool). IsSeen t2 disks o) rest seen).read (λ a h. refl) held

-- ---- what is kept is given back

-- The devices and their mappings stay, and what is metadata stays so, of which no more comes.
pub record StaysMeta (old new : Space) : Type 0 where
  pub devices : devices_in new ≡ devices_in old
  pub current : (d u : ℕ) → is_current (role_at new d u) ≡ is_current (role_at old d u)
  pub meta : (d u : ℕ) → role_at old d u ≡ Meta → role_at new d u ≡ Meta
  pub saved : (d u : ℕ) → role_at old d u ≡ SavedMeta → role_at new d u ≡ SavedMeta

still_meta : (old new : Space) (a : Dva) → StaysMeta old new → IsMeta old a → IsMeta new a
still_meta old new a stays is =
    let known = is.known in
    let within = is.within in
    let count : length new.parts.devs ≡ length old.parts.devs = ap (λ (ds : Devices). ds.count) stays.devices in
    let units : units_of_dev new.parts.devs a.dev ≡ units_of_dev old.parts.devs a.dev = ap (λ (ds : Devices). (ds.row a.dev).units) stays.devices in
    record { known = omega (arith, known, count); some = is.some; within = omega (arith, within, units); used = used is.used }
  where
    used : HasRole old a Meta ⊎ HasRole old a SavedMeta → HasRole new a Meta ⊎ HasRole new a SavedMeta
    used (inl all) = inl (λ u lies. stays.meta a.dev u (all u lies))
    used (inr all) = inr (λ u lies. stays.saved a.dev u (all u lies))

pub meta_again : (t1 t2 : Type 0) (disks : List (List ℕ)) (x y : OpenPool) (s : Stored) → t2 → StaysMeta x.space y.space → y.table ≡ x.table → y.cache ≡ x.cache → HasMeta t1 disks x s → Now (HasMeta t2 disks y) (λ n. Swaps s n [] [])
meta_again t1 t2 disks x y s told stays table cache held =
    subst (λ (w : Table). Now (HoldsBlocks MetaKind w.slots t2 disks y.space None y.cache) (λ n. Swaps s n [] [])) (sym table)
    (subst (λ (k : Cache). Now (HoldsBlocks MetaKind x.table.slots t2 disks y.space None k) (λ n. Swaps s n [] [])) (sym cache)
    (held_again MetaKind x.table.slots t1 t2 disks disks x.space y.space None x.cache x.cache s told (read_same disks x.table.slots x.space y.space x.cache stays.devices held.read)
    (λ a h. record { used = still_meta x.space y.space a stays h.used; whole = tt })
    (λ a h. ap (λ (ds : Devices). address_bytes (record { disks = disks; slots = x.table.slots; devices = ds }) a) stays.devices)
    (λ d u. subst (λ (ds : Devices). live_hits ds (addresses_of s.pointers) d u ≤ 1) (sym stays.devices) (held.once d u))
    (meta_same x.space y.space (addresses_of s.pointers) stays.devices stays.current held.all)
    tt
    held))

still_role : (r q : Role) → (q ≡ Meta) ⊎ (q ≡ SavedMeta) → (b : Bool) → r ≡ q → (if b then discarded r else r) ≡ q
still_role r q is false same = same
still_role r q (inl is) true same = ap discarded (same ∙ is) ∙ sym is
still_role r q (inr is) true same = ap discarded (same ∙ is) ∙ sym is

discarded_role : (r : Role) → is_current (discarded r) ≡ is_current r
discarded_role r = grind (arith, nat_tests)

discarded_current : (b : Bool) (r : Role) → is_current (if b then discarded r else r) ≡ is_current r
discarded_current true r = discarded_role r
discarded_current false r = refl

discards_meta : (old new : Space) (units : ℕ) → DiscardsSome old units new → StaysMeta old new
discards_meta old new units d = by_cases (length (take 64 (kept_extents old)) == 0) d.1
  where
    by_cases : (b : Bool) → MatchBool b (new ≡ with_ckpt old Clear) (Discards old new (take 64 (kept_extents old))) → StaysMeta old new
    by_cases true is = subst (StaysMeta old) (sym is) (record { devices = refl; current = λ d u. ap is_current (ckpt_role old Clear d u); meta = λ d u r. ckpt_role old Clear d u ∙ r; saved = λ d u r. ckpt_role old Clear d u ∙ r })
    by_cases false g = record {
      devices = discards_devices old new (take 64 (kept_extents old)) g;
      current = λ d u. ap is_current (g.roles d u) ∙ discarded_current (is_among (take 64 (kept_extents old)) d u) (role_at old d u);
      meta = λ d u r. g.roles d u ∙ still_role (role_at old d u) Meta (inl refl) (is_among (take 64 (kept_extents old)) d u) r;
      saved = λ d u r. g.roles d u ∙ still_role (role_at old d u) SavedMeta (inr refl) (is_among (take 64 (kept_extents old)) d u) r;
    }

discards_past : (x y : OpenPool) (units : ℕ) → y ≡ record x { space = y.space } → DiscardsSome x.space units y.space → IsSamePast x y
discards_past x y units rest d = by_cases (length (take 64 (kept_extents x.space)) == 0) d.1
  where
    past : IsSameRoot x.space y.space → ((d : ℕ) → (part_of y.space.parts.devs d).entries ≡ (part_of x.space.parts.devs d).entries) → ((d : ℕ) → (part_of y.space.parts.devs d).counts ≡ (part_of x.space.parts.devs d).counts) → y.space.parts.cond ≡ x.space.parts.cond → IsSamePast x y
    past root entries counts cond = record {
      root = root;
      entries = entries;
      counts = counts;
      condensed = cond;
      version = ap (λ (o : OpenPool). o.version) rest;
      turned = ap (λ (o : OpenPool). o.turned) rest;
      streams = ap (λ (o : OpenPool). o.streams) rest;
      cond = ap (λ (o : OpenPool). o.cond) rest;
      table = ap (λ (o : OpenPool). o.table) rest;
      head = ap (λ (o : OpenPool). o.head) rest;
    }

    same_root : IsSameRoot x.space (with_ckpt x.space Clear)
    same_root = record { held = λ d u. refl; kept = λ d u. refl; fresh = λ d u. refl }

    by_cases : (b : Bool) → MatchBool b (y.space ≡ with_ckpt x.space Clear) (Discards x.space y.space (take 64 (kept_extents x.space))) → IsSamePast x y
    by_cases true is =
        past (subst (λ (s : Space). IsSameRoot x.space s) (sym is) same_root) (λ d. ap (λ (s : Space). (part_of s.parts.devs d).entries) is) (λ d. ap (λ (s : Space). (part_of s.parts.devs d).counts) is)
        (ap (λ (s : Space). s.parts.cond) is)
    by_cases false g = past g.frame.root (λ d. (g.frame.each d).entries) (λ d. (g.frame.each d).counts) g.frame.cond

-- a step of discarding leaves the trees
pub discards_trees : (t : Type 0) (disks : List (List ℕ)) (x y : OpenPool) (units : ℕ) → DiscardsSome x.space units y.space → y ≡ record x { space = y.space } → HasTrees Had t disks x → HasTrees Had t disks y
discards_trees t disks x y units d rest =
    trees_stay t t disks disks x y (discards_past x y units rest d) (λ s held. meta_again t t disks x y s held.told (discards_meta x.space y.space units d) (ap (λ (o : OpenPool). o.table) rest) (ap (λ (o : OpenPool). o.cache) rest) held)

-- ---- where all is to be written anew

-- The pool is another, with the same streams. Nothing is told of their words any more but that the mappings can be spelled.
pub untold_trees : (t : Type 0) (disks : List (List ℕ)) (x y : OpenPool) → StaysMeta x.space y.space → ((d : ℕ) → (part_of y.space.parts.devs d).counts ≡ (part_of x.space.parts.devs d).counts) → ((d : ℕ) → (part_of y.space.parts.devs d).entries ≡ (part_of x.space.parts.devs d).entries)
    → y.space.parts.cond ≡ x.space.parts.cond → y.streams ≡ x.streams → y.cond ≡ x.cond → y.table ≡ x.table → y.cache ≡ x.cache → y.head ≡ x.head → HasTrees Had t disks x → HasTrees Untold t disks y
untold_trees t disks x y stays counts entries condensed streams conds table cache head h =
    let later = meta_again t t disks x y h.1.stored h.1.held.told stays table cache h.1.held in
    let still : HoldsStreams (every Untold) (one_stage Untold) (head_tree x.head h.0) t disks y =
    stand_still (every Had) (every Untold) (one_stage Had) (one_stage Untold) (head_tree x.head h.0) t t disks disks x y h.1 streams conds table later.stored later.held later.is
    (λ e p ws lt is. untold_at e p ws is) (λ which ws is c at. (is c (sym condensed ∙ at)).1) in
    (h.0, subst (λ (w : Tree). HoldsStreams (every Untold) (one_stage Untold) (head_tree w h.0) t disks y) (sym head) still)
  where
    untold_at : (e : ℕ) (p : Place) (ws : List ℕ) → IsAt Had x e p ws → IsAt Untold y e p ws
    untold_at e (OfLog log) ws is = tt
    untold_at e (OfMapping which) ws is = subst (λ (es : List Entry). IsSpelled es (part_of y.space.parts.devs e).counts) (sym (entries e)) (subst (λ (cs : List ℕ). IsSpelled (part_of x.space.parts.devs e).entries cs) (sym (counts e)) is.1)
    untold_at e FirstLate ws is = tt
    untold_at e SecondLate ws is = tt
