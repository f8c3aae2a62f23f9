-- The trees of a pool that is opened stand beside each other on its disks, as its root has them.
use Rattle.std.proofs.Common.{◌≡◌, ◌==◌, inl, inr, ℕ, zero, suc, ◌-◌, ◌<◌, ◌≤◌, Bool, true, false, if◌then◌else◌, List, [], ◌∷◌, ◌++◌, length, map, take, Option, Some, None, Ok, refl, sym, ◌∙◌, ap, subst, arith}
use Rattle.std.specs.Prelude.{All, slice_index_or}
use Rattle.std.specs.List.{AllByRecursion, sum_by}
use Rattle.std.proofs.lemmas.Bool.{cases_lt}
use Rattle.std.proofs.lemmas.List.{take_all}
use Rattle.std.proofs.lemmas.List.Elements.{All-append, All-cons, All-nil}
use Rattle.std.proofs.lemmas.List.Sums.{sum_by-append}
use Rattle.std.proofs.Math.ListN.{get_or-eq_default}
use Rattle.zr_base.specs.declared.space.CondPart.{CondPart}
use Rattle.zr_base.specs.declared.space.DevPart.{DevPart}
use Rattle.zr_base.specs.declared.space.DevRow.{DevRow}
use Rattle.zr_base.specs.declared.space.Dva.{Dva}
use Rattle.zr_base.specs.declared.space.Entry.{Entry}
use Rattle.zr_base.specs.declared.space.SpaceParts.{SpaceParts}
use Rattle.zr_beside.proofs.Staying.{weigh_first, weigh_two}
use Rattle.zr_beside.specs.Beside as side
use Rattle.zr_beside.specs.Beside.{Standing, Stands as StandsIn, of_stream, of_tree}
use Rattle.zr_bptr.specs.declared.Bptr.{Bptr}
use Rattle.zr_bptr.specs.declared.Ptr.{Ptr}
use Rattle.zr_bptr.specs.declared.Ptr.TheVariants.{Hole, At}
use Rattle.zr_bptr.specs.declared.Tree.{Tree}
use Rattle.zr_image.specs.Current.{reset_of, row_at}
use Rattle.zr_image.specs.Reading.{bare_devices}
use Rattle.zr_image.specs.Roots.{head_tree, rows_of, without_late}
use Rattle.zr_import.specs.Words.{HaveWords, meta_reach}
use Rattle.zr_import.specs.declared.roots.Root.{Root}
use Rattle.zr_label.specs.Blocks.{IsUber, no_row}
use Rattle.zr_label.specs.declared.root.Uber.{Uber}
use Rattle.zr_meta.specs.Heads.{IsHead, IsStream, IsTreeOf, head_bytes}
use Rattle.zr_meta.specs.Parts.{IsCondPart, piece, pieces}
use Rattle.zr_meta.specs.Streams.{SpellsMapping, SpellsPart}
use Rattle.zr_meta.specs.declared.CondAt.{CondAt}
use Rattle.zr_meta.specs.declared.Head.{Head}
use Rattle.zr_meta.specs.declared.Stream.{Stream}
use Rattle.zr_open.proofs.Opening.{head_lawful}
use Rattle.zr_open.proofs.Parted.{StandEach, device_stands, devices_stand, devices_weight, each_stand, last_two, nothing, of_streams, of_trees, parts_each, reach_all, rows_stand, two_all, words_in, words_of}
use Rattle.zr_open.proofs.Planted.{planted, reach_units, stand_planted, store}
use Rattle.zr_sync.proofs.AllMeta.{HasUnits}
use Rattle.zr_open.proofs.Serving.{address_same}
use Rattle.zr_open.specs.Opened.{IsFresh}
use Rattle.zr_open.specs.Roots.{HasParts}
use Rattle.zr_open.specs.Streams.{HasStreams, untold_cond}
use Rattle.zr_root.proofs.Standing.{has_none}
use Rattle.zr_root.specs.Streams.{HasWords}
use Rattle.zr_roots.proofs.Rows.{past_rows, taken_is}
use Rattle.zr_roots.specs.Standing.{Stands, image_of}
use Rattle.zr_rules.specs.Equation.{devices_in}
use Rattle.zr_rules.specs.Logs.{IsLog}
use Rattle.zr_rules.specs.Places.{address_hits, no_part, part_of}
use Rattle.zr_shelf.specs.Moments.{World}
use Rattle.zr_space.specs.Drops.{IsMeta}
use Rattle.zr_store.specs.Store.{Stored}
use Rattle.zr_sync.proofs.KeptSets.{fresh_before, held_before, kept_before}
use Rattle.zr_sync.proofs.Holding.{published_bytes}
use Rattle.zr_sync.specs.Commits.{IsShownFrom}
use Rattle.zr_sync.specs.Heads.{cond_streams, told_of}
use Rattle.zr_sync.specs.Mappings.{HasFirst, IsSpelled, cond_stream, mapping_words}
use Rattle.zr_sync.specs.Pools.{AreCondStreams, IsOpen}
use Rattle.zr_sync.specs.Streams.{streams_at}
use Rattle.zr_sync.specs.Trees.{HasTrees, HoldsStreams, IsAt, IsCondAt, Place, cond_trees, device_trees, every, one_stage, stream_in}
use Rattle.zr_sync.specs.Trees as trees
use Rattle.zr_sync.specs.Trees.Place.{OfLog, OfMapping, FirstLate, SecondLate}
use Rattle.zr_sync.specs.Trees.Stage.{Had}
use Rattle.zr_sync.specs.Words.{IsLastLog}
use Rattle.zr_sync.specs.declared.mappings.MappingStream.{MappingStream}
use Rattle.zr_sync.specs.declared.mappings.MappingStream.TheVariants.{Entries, Counts}
use Rattle.zr_sync.specs.declared.open.CondStreams.{CondStreams}
use Rattle.zr_sync.specs.declared.open.OpenPool.{OpenPool}
use Rattle.zr_sync.specs.declared.words.Log.{Log}
use Rattle.zr_sync.specs.declared.words.Log.TheVariants.{Held, Kept, Fresh}
use Rattle.zr_tree.specs.Blocks.{FitsAt}
use Rattle.zr_tree.specs.Trees.{tree_reach}
use Rattle.zr_vdev.proofs.Uses.{meta_stays}
use Rattle.zr_vdev.specs.Runs.{view_of}
use Rattle.zr_vdev.specs.Stores.{addresses_of}
use Rattle.zr_view.specs.Views.{address_bytes}

-- ---- streams that have units

tree_fits : (n height : ℕ) (root : Ptr) → IsTreeOf n height root → FitsAt height root
tree_fits n height Hole is = (tt, tt)
tree_fits n height (At b) is = (is.2, is.4)

streams_units : (s : Stored) (ts : List Stream) (words : List ℕ) → AllByRecursion IsStream ts → HaveWords s ts words → All HasUnits (reach_all s ts)
streams_units s [] words are h = All-nil HasUnits
streams_units s (t ∷ ts) words are (own, (rest, (is, (here, others)))) =
    All-append HasUnits (tree_reach s t.tree) (reach_all s ts) (reach_units s t.tree.height t.tree.root (tree_fits t.words t.tree.height t.tree.root are.0) here.bytes.are_leaves.whole) (streams_units s ts rest are.1 others)

-- ---- parts whose late sets do not count

abbrev bare : DevPart → DevPart
bare p = record p { late1 = []; late2 = [] }

bare_each : (ps : List DevPart) (d : ℕ) → bare (part_of (map bare ps) d) ≡ bare (part_of ps d)
bare_each [] d = refl
bare_each (p ∷ ps) zero = refl
bare_each (p ∷ ps) (suc d) = bare_each ps d

counted_each : (b : Bool) (parts : SpaceParts) (d : ℕ) → bare (part_of (if b then without_late parts else parts).devs d) ≡ bare (part_of parts.devs d)
counted_each true parts d = bare_each parts.devs d
counted_each false parts d = refl

counted_cond : (b : Bool) (parts : SpaceParts) → (if b then without_late parts else parts).cond ≡ parts.cond
counted_cond true parts = refl
counted_cond false parts = refl

-- ---- the words of a mapping

-- all of them are the first ones
all_first : (which : MappingStream) (entries : List Entry) (counts ws : List ℕ) → length counts ≡ length entries → ws ≡ mapping_words which entries counts → HasFirst which entries counts ws
all_first Entries entries counts ws each is = (length entries, omega arith, is ∙ ap (λ (es : List Entry). mapping_words Entries es counts) (sym (take_all (length entries) entries (omega arith))))
all_first Counts entries counts ws each is = (length entries, omega arith, is ∙ sym (take_all (length entries) counts (omega (arith, each))))

pub spelled_is : (es cs : List ℕ) (entries : List Entry) (counts : List ℕ) → SpellsMapping es cs (record { entries = entries; counts = counts }) → IsSpelled entries counts
spelled_is es cs entries counts h = record { storable = h.entries_are.lawful; each = sym h.each }

-- the words of a condensing are the last
abbrev cond_words : List (List ℕ) → Option CondAt → MappingStream → List ℕ
cond_words ps None which = []
cond_words ps (Some c) Entries = piece ps (length ps - 2)
cond_words ps (Some c) Counts = piece ps (length ps - 1)

cond_stands : (s : Stored) (before : List Stream) (at : Option CondAt) (t : CondStreams) (ps : List (List ℕ)) → AreCondStreams t → untold_cond at t ≡ 0 → StandEach s (before ++ cond_streams at t) ps → (which : MappingStream) → HasWords s (cond_stream which t) (cond_words ps at which)
cond_stands s before None t ps are none h Entries = has_none s t.entries [] (omega (arith, none)) are.entries refl
cond_stands s before None t ps are none h Counts = has_none s t.counts [] (omega (arith, none)) are.counts refl
cond_stands s before (Some c) t ps are none h Entries = (last_two s before t.entries t.counts ps h).0
cond_stands s before (Some c) t ps are none h Counts = (last_two s before t.entries t.counts ps h).1

cond_first : (ps : List (List ℕ)) (at : Option CondAt) (c : CondPart) → IsCondPart at ps (Some c) → (which : MappingStream) → HasFirst which c.entries c.counts (cond_words ps at which) × IsSpelled c.entries c.counts
cond_first ps None c h which = absurd h
cond_first ps (Some at) c h Entries = let m = h.2 in (all_first Entries c.entries c.counts (piece ps (length ps - 2)) (sym m.each) m.entries_are.spelling, spelled_is _ _ c.entries c.counts m)
cond_first ps (Some at) c h Counts = let m = h.2 in (all_first Counts c.entries c.counts (piece ps (length ps - 1)) (sym m.each) m.counts_are.spelling, spelled_is _ _ c.entries c.counts m)

cond_weight : (s : Stored) (weight : Bptr → ℕ) (at : Option CondAt) (t : CondStreams) (words : MappingStream → List ℕ) → AreCondStreams t → untold_cond at t ≡ 0 → sum_by weight (side.blocks_of s (cond_trees t words)) ≡ sum_by weight (reach_all s (cond_streams at t))
cond_weight s weight None t words are none =
    let all = of_trees s weight (t.entries ∷ t.counts ∷ []) (cond_trees t words) refl in
    let x = nothing s weight t.entries (omega (arith, none)) are.entries in
    let y = nothing s weight t.counts (omega (arith, none)) are.counts in
    omega (arith, all, x, y)
cond_weight s weight (Some c) t words are none =
    let all = of_trees s weight (t.entries ∷ t.counts ∷ []) (cond_trees t words) refl in
    let told = of_streams s weight (t.entries ∷ t.counts ∷ []) in
    omega (arith, all, told)

-- ---- the pool

-- The disks hold the trees of the pool's streams and of this head beside each other, and in the streams of each device's mapping stand all its words.
pub record HoldsMappings (tells : Type 0) (disks : List (List ℕ)) (pool : OpenPool) (h : Head) : Type 0 where
  pub streams : HoldsStreams (every Had) (one_stage Had) (trees.head_tree pool.head (head_bytes h)) tells disks pool
  pub mapping : (d : ℕ) → d < pool.table.count
      → SpellsMapping (streams.words d (OfMapping Entries)) (streams.words d (OfMapping Counts)) (record { entries = (part_of pool.space.parts.devs d).entries; counts = (part_of pool.space.parts.devs d).counts })

-- The disks are others now, on which each address reads as on those where the root was read.
module _ (tells : Type 0) (told : tells) (disks seen : List (List ℕ)) (sizes : List ℕ) (u : Uber) (pool : OpenPool) (r : Root) (saved : List Dva) (lawful : IsUber u) (ready : IsOpen sizes pool) (fresh : IsFresh u pool) (is_head : IsHead (rows_of u) r.head) (parts : HasParts r saved pool)
    (stands : Stands disks pool.table.slots u r) (same : (a : Dva) → address_bytes (view_of seen pool.table.slots pool.space) a ≡ address_bytes (view_of disks pool.table.slots pool.space) a) where
  abbrev image : Stored
  image = image_of disks pool.table.slots u

  abbrev ps : List Bptr
  ps = meta_reach image u r.head

  -- ---- its blocks

  counted : (d v : ℕ) → address_hits (addresses_of ps) d v ≡ address_hits pool.space.meta d v
  counted d v = sym (parts.space.meta_is d v ∙ ap (λ (list : List Dva). address_hits list d v) stands.meta)

  long : All HasUnits ps
  long =
      let root = head_lawful u lawful in
      All-append HasUnits (tree_reach image (head_tree u)) (reach_all image r.head.streams)
      (reach_units image (head_tree u).height (head_tree u).root (root.level, root.lawful) stands.reads.head.are_leaves.whole)
      (streams_units image r.head.streams stands.reads.words is_head.streams stands.reads.streams)

  row_is : (d : ℕ) → (part_of pool.space.parts.devs d).row ≡ row_at u d
  row_is d = elim (cases_lt d u.count) [
    | inl lt ↦ ready.rows d (let n = fresh.count in omega (arith, n, lt)) ∙ ap (λ (rs : List DevRow). slice_index_or rs d no_row) fresh.rows
    | inr ge ↦
        let n = fresh.count in let m = ready.devices in
        ap (λ (p : DevPart). p.row) (get_or-eq_default pool.space.parts.devs no_part {n = d} (omega (arith, n, m, ge))) ∙ sym (past_rows u lawful d ge)
  ]

  -- metadata is on devices that are there, so it reads as on the bare devices
  reads : (b : Bptr) → IsMeta pool.space b.at → address_bytes (view_of seen pool.table.slots pool.space) b.at ≡ image.bytes b
  reads b is = same b.at ∙ address_same disks pool.table.slots (devices_in pool.space) (bare_devices u) (ready.devices ∙ fresh.count) row_is b.at (meta_stays pool.space b.at is)

  -- ---- its streams

  abbrev rows : List DevRow
  rows = rows_of u

  has : HasStreams rows r.head pool.streams.items pool.cond
  has = subst (λ (rs : List DevRow). HasStreams rs r.head pool.streams.items pool.cond) (ap (λ (n : ℕ). take n pool.table.rows) fresh.count ∙ ap (λ (rs : List DevRow). take u.count rs) fresh.rows) parts.streams

  many : length rows ≡ pool.table.count
  many = taken_is u lawful ∙ sym fresh.count

  listed : length pool.streams.items ≡ length rows
  listed = ready.count ∙ sym many

  abbrev qs : List (List ℕ)
  qs = pieces r.head.streams stands.reads.words

  each : StandEach image (told_of r.head.form rows pool.streams.items ++ cond_streams r.head.cond pool.cond) qs
  each = subst (λ (ts : List Stream). StandEach image ts qs) (sym has.are) (each_stand image r.head.streams stands.reads.words stands.reads.streams)

  abbrev words : ℕ → Place → List ℕ
  words dev place = words_in (words_of r.head.form rows qs dev) place

  abbrev cond : MappingStream → List ℕ
  cond which = cond_words qs r.head.cond which

  stand : (dev : ℕ) (place : Place) → dev < pool.table.count → HasWords image (stream_in place (streams_at pool dev)) (words dev place)
  stand dev place lt =
      let n = many in
      devices_stand image r.head.form rows pool.streams.items (cond_streams r.head.cond pool.cond) qs listed ready.streams has.untold has.late each dev place (omega (arith, lt, n))

  cond_stand : (which : MappingStream) → HasWords image (cond_stream which pool.cond) (cond which)
  cond_stand which = cond_stands image (told_of r.head.form rows pool.streams.items) r.head.cond pool.cond qs ready.cond has.idle each which

  -- ---- its trees

  abbrev all : List Standing
  all = side.rows_of (λ dev. device_trees (streams_at pool dev) (words dev)) pool.table.count ++ (cond_trees pool.cond cond ++ trees.head_tree pool.head (head_bytes r.head))

  weighed : (weight : Bptr → ℕ) → sum_by weight (side.blocks_of image all) ≡ sum_by weight ps
  weighed weight =
      let row : ℕ → List Standing = λ dev. device_trees (streams_at pool dev) (words dev) in
      let two = weigh_two image (side.rows_of row pool.table.count) (cond_trees pool.cond cond ++ trees.head_tree pool.head (head_bytes r.head)) weight in
      let three = weigh_two image (cond_trees pool.cond cond) (trees.head_tree pool.head (head_bytes r.head)) weight in
      let last = weigh_first image (of_tree pool.head (head_bytes r.head)) [] weight in
      let devices = devices_weight image weight r.head.form rows pool.streams.items words listed ready.streams has.untold has.late in
      let count = ap (λ (n : ℕ). sum_by weight (side.blocks_of image (side.rows_of row n))) many in
      let condensing = cond_weight image weight r.head.cond pool.cond cond ready.cond has.idle in
      let streams = two_all image weight (told_of r.head.form rows pool.streams.items) (cond_streams r.head.cond pool.cond) in
      let are = ap (λ (ts : List Stream). sum_by weight (reach_all image ts)) has.are in
      let head = ap (λ (t : Tree). sum_by weight (tree_reach image t)) fresh.head in
      let sum = sum_by-append weight (tree_reach image (head_tree u)) (reach_all image r.head.streams) in
      omega (arith, two, three, last, devices, count, condensing, streams, are, head, sum)

  all_stand : All (StandsIn image) all
  all_stand =
      All-append (StandsIn image) (side.rows_of (λ dev. device_trees (streams_at pool dev) (words dev)) pool.table.count) (cond_trees pool.cond cond ++ trees.head_tree pool.head (head_bytes r.head))
      (rows_stand image (λ dev. device_trees (streams_at pool dev) (words dev)) pool.table.count (λ dev lt. device_stands image (streams_at pool dev) (words dev) (λ place. stand dev place lt)))
      (All-cons (StandsIn image) (of_stream pool.cond.entries (cond Entries)) (of_stream pool.cond.counts (cond Counts) ∷ trees.head_tree pool.head (head_bytes r.head)) (cond_stand Entries).bytes
      (All-cons (StandsIn image) (of_stream pool.cond.counts (cond Counts)) (trees.head_tree pool.head (head_bytes r.head)) (cond_stand Counts).bytes
      (All-cons (StandsIn image) (of_tree pool.head (head_bytes r.head)) [] (subst (λ (t : Tree). StandsIn image (of_tree t (head_bytes r.head))) (sym fresh.head) stands.reads.head) (All-nil (StandsIn image)))))

  -- ---- its words

  abbrev told_parts : SpaceParts
  told_parts = stands.reads.parts

  as_told : (d : ℕ) → bare (part_of pool.space.parts.devs d) ≡ bare (part_of told_parts.devs d)
  as_told d = ap (λ (p : SpaceParts). bare (part_of p.devs d)) (parts.space.parts_are ∙ stands.reads.counted_is) ∙ counted_each (reset_of u == u.txg) told_parts d

  same_cond : pool.space.parts.cond ≡ told_parts.cond
  same_cond = ap (λ (p : SpaceParts). p.cond) (parts.space.parts_are ∙ stands.reads.counted_is) ∙ counted_cond (reset_of u == u.txg) told_parts

  part : (d : ℕ) → d < pool.table.count → SpellsPart u.version d r.head.ckpt (words_of r.head.form rows qs d) (part_of told_parts.devs d)
  part d lt = let n = many in parts_each u.version r.head.form r.head.ckpt 0 rows qs told_parts.devs stands.reads.spelled.devices d d (omega (arith, lt, n)) (omega arith)

  log_at : (d : ℕ) (log : Log) → d < pool.table.count → IsLastLog pool.version pool.space d log (words d (OfLog log))
  log_at d Held lt = record {
    set = (part_of pool.space.parts.devs d).held;
    log_is = subst (λ (v : ℕ). IsLog v d (words d (OfLog Held)) (part_of pool.space.parts.devs d).held) (sym fresh.version) (subst (λ (p : DevPart). IsLog u.version d (words d (OfLog Held)) p.held) (sym (as_told d)) (part d lt).sets.held_is.log);
    units = λ v. sym (held_before pool.space d v (parts.space.opened d));
  }
  log_at d Kept lt = record {
    set = (part_of pool.space.parts.devs d).kept;
    log_is = subst (λ (v : ℕ). IsLog v d (words d (OfLog Kept)) (part_of pool.space.parts.devs d).kept) (sym fresh.version) (subst (λ (p : DevPart). IsLog u.version d (words d (OfLog Kept)) p.kept) (sym (as_told d)) (part d lt).sets.kept_is.log);
    units = λ v. sym (kept_before pool.space d v (parts.space.opened d));
  }
  log_at d Fresh lt = record {
    set = (part_of pool.space.parts.devs d).fresh;
    log_is = subst (λ (v : ℕ). IsLog v d (words d (OfLog Fresh)) (part_of pool.space.parts.devs d).fresh) (sym fresh.version) (subst (λ (p : DevPart). IsLog u.version d (words d (OfLog Fresh)) p.fresh) (sym (as_told d)) (part d lt).fresh.log);
    units = λ v. sym (fresh_before pool.space d v (parts.space.opened d));
  }

  mapping : (d : ℕ) → d < pool.table.count → SpellsMapping (words d (OfMapping Entries)) (words d (OfMapping Counts)) (record { entries = (part_of pool.space.parts.devs d).entries; counts = (part_of pool.space.parts.devs d).counts })
  mapping d lt = subst (λ (p : DevPart). SpellsMapping (words d (OfMapping Entries)) (words d (OfMapping Counts)) (record { entries = p.entries; counts = p.counts })) (sym (as_told d)) (part d lt).mapping

  at : (d : ℕ) (place : Place) → d < pool.table.count → IsAt Had pool d place (words d place)
  at d (OfLog log) lt = log_at d log lt
  at d (OfMapping Entries) lt =
      let m = mapping d lt in
      let p : DevPart = part_of pool.space.parts.devs d in
      (λ same. all_first Entries p.entries p.counts (words d (OfMapping Entries)) (sym m.each) m.entries_are.spelling, spelled_is _ _ p.entries p.counts m)
  at d (OfMapping Counts) lt =
      let m = mapping d lt in
      let p : DevPart = part_of pool.space.parts.devs d in
      (λ same. all_first Counts p.entries p.counts (words d (OfMapping Counts)) (sym m.each) m.counts_are.spelling, spelled_is _ _ p.entries p.counts m)
  at d FirstLate lt = tt
  at d SecondLate lt = tt

  cond_at_had : (which : MappingStream) → IsCondAt Had pool which (cond which)
  cond_at_had which c is =
      let own = cond_first qs r.head.cond c (subst (λ (x : Option CondPart). IsCondPart r.head.cond qs x) (sym same_cond ∙ is) stands.reads.spelled.cond) which in
      (λ done. own.0, own.1)

  -- ---- all of it

  pub own_streams : HoldsMappings tells seen pool r.head
  own_streams = record {
    streams = record {
      stored = store tells told seen pool ready.lawful fresh.cache ps counted long;
      held = planted tells told seen pool ready.lawful fresh.cache ps counted long;
      words = words;
      cond = cond;
      beside = stand_planted tells told seen pool ready.lawful fresh.cache ps counted long image reads all weighed all_stand;
      counts = λ dev place lt. (stand dev place lt).count;
      cond_counts = λ which. (cond_stand which).count;
      are = at;
      are_cond = cond_at_had;
    };
    mapping = mapping;
  }

  pub own_trees : HasTrees Had tells seen pool
  own_trees = (head_bytes r.head, own_streams.streams)

-- a root that was published leaves all that addresses read
pub shown_bytes : (sizes : List ℕ) (pool : OpenPool) (last v : Uber) (read now : World) → IsOpen sizes pool → IsUber v → IsShownFrom sizes (record pool { last = Some last }) v read now → (disks : List (List ℕ)) → read.now.seen ≡ disks
    → (a : Dva) → address_bytes (view_of now.now.seen pool.table.slots pool.space) a ≡ address_bytes (view_of disks pool.table.slots pool.space) a
shown_bytes sizes pool last v read now ready is shown disks same a =
    published_bytes sizes shown.both shown.all v (Ok tt) read now pool ready is shown.published a ∙ ap (λ (ds : List (List ℕ)). address_bytes (view_of ds pool.table.slots pool.space) a) same
