-- An open pool through the steps of a commit.
use Rattle.std.proofs.Common.{◌≡◌, ℕ, ◌≤◌, ◌<◌, ◌^◌, true, List, length, get_or, Option, Some, refl, sym, ◌∙◌, ap, subst, arith}
use Rattle.std.specs.Prelude.{slice_index, slice_index_or, slice_set, All}
use Rattle.std.proofs.lemmas.List.Elements.{All-set}
use Rattle.zr_base.specs.Counts.{HasRisen}
use Rattle.zr_base.specs.declared.space.CkptPart.{CkptPart}
use Rattle.zr_base.specs.declared.space.DevRow.{DevRow}
use Rattle.zr_label.specs.Blocks.{no_row}
use Rattle.zr_label.specs.Geometry.{units_of_size}
use Rattle.zr_meta.specs.Heads.{IsSaved}
use Rattle.zr_rules.specs.Places.{units_of_dev}
use Rattle.zr_rules.specs.Roles.{Role}
use Rattle.zr_rules.specs.Space.{role_at}
use Rattle.zr_shelf.specs.Counts.{Counts, NoneFell}
use Rattle.zr_shelf.specs.Doings.{WritesOnly}
use Rattle.zr_shelf.specs.Moments.{World}
use Rattle.zr_shelf.proofs.Doings.{writes_more}
use Rattle.zr_vdev.specs.Puts.{IsWriteOf}
use Rattle.zr_vdev.specs.Stores.{Continues, IsWriteInto, KeepsOthers, may_write}
use Rattle.zr_vdev.specs.declared.kind.Kind.TheVariants.{Block, Meta}
use Rattle.zr_vdev.proofs.Follows.{continues_itself, continues_more, narrower, others_itself, widen}
use Rattle.zr_vdev.proofs.Frames.{continues_mounted}
use Rattle.zr_sync.specs.declared.open.DeviceStreams.{DeviceStreams}
use Rattle.zr_sync.specs.declared.open.OpenPool.{OpenPool}
use Rattle.zr_lookup.specs.Groups.{IsLawfulGroup}
use Rattle.zr_sync.specs.Pools.{AreCondStreams, AreStreams, IsOpen, IsInLimits, AreRows, IsAfter, IsDirectory, saved_block}
use Rattle.zr_sync.specs.Writes.{WritesMetadata, WritesTrees, WritesBlocks, WritesAll}
use Rattle.zr_sync.proofs.Copies.{step_copies}
use Rattle.zr_sync.proofs.Rows.{row_few}
use Rattle.zr_sync.proofs.Disks.{works_more, works_trees, works_metadata}

-- ---- faults

pub risen_later : (a b c : ℕ) → a ≤ b → HasRisen b c → HasRisen a c
risen_later a b c le risen = omega (arith, le, risen)

pub risen_before : (a b c : ℕ) → HasRisen a b → b ≤ c → HasRisen a c
risen_before a b c risen le = omega (arith, le, risen)

pub falls_more : (a b c : Counts) → NoneFell a b → NoneFell b c → NoneFell a c
falls_more a b c p q =
    let d = p.disk in let e = q.disk in
    let f = p.attach in let g = q.attach in
    let h = p.input in let i = q.input in
    let j = p.output in let k = q.output in
    record { disk = omega (arith, d, e); attach = omega (arith, f, g); input = omega (arith, h, i); output = omega (arith, j, k) }

-- ---- what a step leaves alone

pub metadata_itself : (n : List ℕ) (c : Counts) (t : Type 0) (w : World) (a : OpenPool) → WritesMetadata n n c c t t w w a a
metadata_itself n c t w a = record { goes = continues_itself Meta a.table.slots n c t w a.space a.cache; rest = refl; count = refl }

pub metadata_more : (n1 n2 n3 : List ℕ) (c1 c2 c3 : Counts) (t1 t2 t3 : Type 0) (w1 w2 w3 : World) (x y z : OpenPool)
    → WritesMetadata n1 n2 c1 c2 t1 t2 w1 w2 x y → WritesMetadata n2 n3 c2 c3 t2 t3 w2 w3 y z → WritesMetadata n1 n3 c1 c3 t1 t3 w1 w3 x z
metadata_more n1 n2 n3 c1 c2 c3 t1 t2 t3 w1 w2 w3 x y z p q =
    let same : y.table.slots ≡ x.table.slots = ap (λ (o : OpenPool). o.table.slots) p.rest in
    record {
      goes = continues_more Meta x.table.slots n1 n2 n3 c1 c2 c3 t1 t2 t3 w1 w2 w3 x.space y.space z.space x.cache y.cache z.cache p.goes
          (subst (λ (slots : List (Option ℕ)). Continues Meta slots n2 n3 c2 c3 t2 t3 w2 w3 y.space z.space y.cache z.cache) same q.goes);
      rest = q.rest ∙ ap (λ (o : OpenPool). record o { space = z.space; cache = z.cache; streams = z.streams; cond = z.cond }) p.rest;
      count = q.count ∙ p.count;
    }

pub metadata_open : (n1 n2 : List ℕ) (c1 c2 : Counts) (t1 t2 : Type 0) (w1 w2 : World) (x y : OpenPool)
    → IsOpen n1 x → WritesMetadata n1 n2 c1 c2 t1 t2 w1 w2 x y → All AreStreams y.streams.items → AreCondStreams y.cond → IsOpen n2 y
metadata_open n1 n2 c1 c2 t1 t2 w1 w2 x y o p streams cond =
    let rows = p.goes.space.rows in
    subst (IsOpen n2) (sym p.rest) (record {
      version = o.version;
      guid = o.guid;
      name = o.name;
      some = o.some;
      few = o.few;
      table = o.table;
      slots = o.slots;
      first = o.first;
      after = o.after;
      group = o.group;
      limits = o.limits;
      dir = o.dir;
      head = o.head;
      streams = streams;
      count = p.count ∙ o.count;
      cond = cond;
      turned = o.turned;
      saved = subst (λ (k : CkptPart). IsSaved k (saved_block x.saved)) (sym rows.ckpt) o.saved;
      checkpoint = o.checkpoint;
      spelled = rows.version ∙ o.spelled;
      devices = rows.devices ∙ o.devices;
      rows = λ d lt. (rows.each d).row ∙ o.rows d lt;
      lawful = rows.lawful o.lawful;
      mounted = continues_mounted x.space y.space p.goes o.mounted;
      disks = λ d slot lt is. subst (λ (n : List ℕ). units_of_size (slice_index n slot) 2 ≡ Some (slice_index_or x.table.rows d no_row).units) (sym p.goes.sizes) (o.disks d slot lt is);
    })

-- a step that leaves all but the space, the cache and the streams
pub step_open : {n1 n2 : List ℕ} {c1 c2 : Counts} {t1 t2 : Type 0} {w1 w2 : World} (x y : OpenPool)
    → IsOpen n1 x → Continues Meta x.table.slots n1 n2 c1 c2 t1 t2 w1 w2 x.space y.space x.cache y.cache → y ≡ record x { space = y.space; cache = y.cache; streams = y.streams; cond = y.cond } → length y.streams.items ≡ length x.streams.items
    → All AreStreams y.streams.items → AreCondStreams y.cond → IsOpen n2 y
step_open {n1} {n2} {c1} {c2} {t1} {t2} {w1} {w2} x y o goes rest count streams cond =
    metadata_open n1 n2 c1 c2 t1 t2 w1 w2 x y o (record { goes = goes; rest = rest; count = count }) streams cond

-- a step that leaves all but the streams
pub streams_step : (n : List ℕ) (c : Counts) (t : Type 0) (w : World) (x y : OpenPool) → y ≡ record x { streams = y.streams } → length y.streams.items ≡ length x.streams.items → WritesMetadata n n c c t t w w x y
streams_step n c t w x y rest count =
    subst (WritesMetadata n n c c t t w w x) (sym rest) (record { goes = continues_itself Meta x.table.slots n c t w x.space x.cache; rest = refl; count = count })

pub streams_open : (n : List ℕ) (c : Counts) (t : Type 0) (w : World) (x y : OpenPool) → IsOpen n x → y ≡ record x { streams = y.streams } → length y.streams.items ≡ length x.streams.items → All AreStreams y.streams.items → IsOpen n y
streams_open n c t w x y o rest count streams = metadata_open n n c c t t w w x y o (streams_step n c t w x y rest count) streams (subst AreCondStreams (sym (ap (λ (p : OpenPool). p.cond) rest)) o.cond)

-- the streams of a device
pub streams_at : (xs : List DeviceStreams) (i : ℕ) (a : DeviceStreams) → i < length xs → a ≡ get_or xs i a → All AreStreams xs → AreStreams a
streams_at xs i a lt is all = subst AreStreams (sym is) (all i a lt)

pub streams_set : (xs : List DeviceStreams) (i : ℕ) (a : DeviceStreams) → AreStreams a → All AreStreams xs → All AreStreams (slice_set xs i a)
streams_set xs i a new all = All-set AreStreams xs i a new all

pub blocks_open : (n1 n2 : List ℕ) (c1 c2 : Counts) (t1 t2 : Type 0) (w1 w2 : World) (x y : OpenPool)
    → IsOpen n1 x → WritesBlocks n1 n2 c1 c2 t1 t2 w1 w2 x y → IsLawfulGroup y.group → IsInLimits y.group → IsOpen n2 y
blocks_open n1 n2 c1 c2 t1 t2 w1 w2 x y o p lawful limits =
    let rows = p.goes.space.rows in
    let txg = p.txg in
    subst (IsOpen n2) (sym p.rest) (record {
      version = o.version;
      guid = o.guid;
      name = o.name;
      some = o.some;
      few = o.few;
      table = subst (λ (t : ℕ). AreRows x.version t x.table.count x.table.rows) (sym txg) o.table;
      slots = o.slots;
      first = subst (λ (t : ℕ). 1 ≤ t) (sym txg) o.first;
      after = subst (λ (t : ℕ). IsAfter x.last t) (sym txg) o.after;
      group = lawful;
      limits = limits;
      dir = o.dir;
      head = o.head;
      streams = o.streams;
      count = o.count;
      cond = o.cond;
      turned = o.turned;
      saved = subst (λ (k : CkptPart). IsSaved k (saved_block x.saved)) (sym rows.ckpt) o.saved;
      checkpoint = o.checkpoint;
      spelled = rows.version ∙ o.spelled;
      devices = rows.devices ∙ o.devices;
      rows = λ d lt. (rows.each d).row ∙ o.rows d lt;
      lawful = rows.lawful o.lawful;
      mounted = continues_mounted x.space y.space p.goes o.mounted;
      disks = λ d slot lt is. subst (λ (n : List ℕ). units_of_size (slice_index n slot) 2 ≡ Some (slice_index_or x.table.rows d no_row).units) (sym p.goes.sizes) (o.disks d slot lt is);
    })

pub trees_open : (n1 n2 : List ℕ) (c1 c2 : Counts) (t1 t2 : Type 0) (w1 w2 : World) (x y : OpenPool)
    → IsOpen n1 x → WritesTrees n1 n2 c1 c2 t1 t2 w1 w2 x y → IsDirectory y.dir → IsOpen n2 y
trees_open n1 n2 c1 c2 t1 t2 w1 w2 x y o p dir =
    let rows = p.goes.space.rows in
    subst (IsOpen n2) (sym p.rest) (record {
      version = o.version;
      guid = o.guid;
      name = o.name;
      some = o.some;
      few = o.few;
      table = o.table;
      slots = o.slots;
      first = o.first;
      after = o.after;
      group = o.group;
      limits = o.limits;
      dir = dir;
      head = o.head;
      streams = o.streams;
      count = o.count;
      cond = o.cond;
      turned = o.turned;
      saved = subst (λ (k : CkptPart). IsSaved k (saved_block x.saved)) (sym rows.ckpt) o.saved;
      checkpoint = o.checkpoint;
      spelled = rows.version ∙ o.spelled;
      devices = rows.devices ∙ o.devices;
      rows = λ d lt. (rows.each d).row ∙ o.rows d lt;
      lawful = rows.lawful o.lawful;
      mounted = continues_mounted x.space y.space p.goes o.mounted;
      disks = λ d slot lt is. subst (λ (n : List ℕ). units_of_size (slice_index n slot) 2 ≡ Some (slice_index_or x.table.rows d no_row).units) (sym p.goes.sizes) (o.disks d slot lt is);
    })

-- one step after another
pub metadata_then : {n1 n2 n3 : List ℕ} {c1 c2 c3 : Counts} {t1 t2 t3 : Type 0} {w1 w2 w3 : World} {x y z : OpenPool}
    → WritesMetadata n1 n2 c1 c2 t1 t2 w1 w2 x y → WritesMetadata n2 n3 c2 c3 t2 t3 w2 w3 y z → WritesMetadata n1 n3 c1 c3 t1 t3 w1 w3 x z
metadata_then {n1} {n2} {n3} {c1} {c2} {c3} {t1} {t2} {t3} {w1} {w2} {w3} {x} {y} {z} p q =
    metadata_more n1 n2 n3 c1 c2 c3 t1 t2 t3 w1 w2 w3 x y z p q

pub metadata_table : {n1 n2 : List ℕ} {c1 c2 : Counts} {t1 t2 : Type 0} {w1 w2 : World} {x y : OpenPool}
    → WritesMetadata n1 n2 c1 c2 t1 t2 w1 w2 x y → y.table ≡ x.table
metadata_table p = ap (λ (o : OpenPool). o.table) p.rest

-- what is free to metadata is free to blocks, and was so before blocks were put
metadata_may : (r : Role) → may_write Meta r ≡ true → may_write Block r ≡ true
metadata_may r may = grind (arith, may)

metadata_into_free : (x y : OpenPool) → KeepsOthers Block x.space y.space → y.table.slots ≡ x.table.slots → (a b : World) → WritesOnly (IsWriteInto Meta y.table.slots y.space) a b → WritesOnly (IsWriteInto Block x.table.slots x.space) a b
metadata_into_free x y others slots a b writes =
    narrower Block x.table.slots x.space y.space others a b
    (widen (IsWriteInto Meta y.table.slots y.space) (IsWriteInto Block x.table.slots y.space)
    (λ w into. record { at = into.at; is = subst (λ (s : List (Option ℕ)). IsWriteOf s into.at w) slots into.is; some = into.some; open_units = λ u in_it. metadata_may (role_at y.space into.at.dev u) (into.open_units u in_it) })
    a b writes)

-- the trees, and then the metadata
pub all_written : {n1 n2 n3 : List ℕ} {c1 c2 c3 : Counts} {t1 t2 t3 : Type 0} {w1 w2 w3 : World} {x y z : OpenPool}
    → WritesTrees n1 n2 c1 c2 t1 t2 w1 w2 x y → WritesMetadata n2 n3 c2 c3 t2 t3 w2 w3 y z → WritesAll n1 n3 c1 c3 t1 t3 w1 w3 x z
all_written {n1} {n2} {n3} {c1} {c2} {c3} {t1} {t2} {t3} {w1} {w2} {w3} {x} {y} {z} p q = record {
  sizes = q.goes.sizes ∙ p.goes.sizes;
  none_fell = falls_more c1 c2 c3 p.goes.none_fell q.goes.none_fell;
  told = λ t. q.goes.told (p.goes.told t);
  disks = λ t. works_more w1 w2 w3 (works_trees n1 n2 c1 c2 t1 t2 w1 w2 x y t p) (works_metadata n2 n3 c2 c3 t2 t3 w2 w3 y z (p.goes.told t) q);
  written = λ t. writes_more (IsWriteInto Block x.table.slots x.space) w1 w2 w3 (p.goes.written t) (metadata_into_free x y p.goes.space (ap (λ (o : OpenPool). o.table.slots) p.rest) w2 w3 (q.goes.written (p.goes.told t)));
  copies = λ t had. step_copies w2 w3 y z (ap (λ (o : OpenPool). o.table.slots) q.rest) (q.goes.copies (p.goes.told t)) (step_copies w1 w2 x y (ap (λ (o : OpenPool). o.table.slots) p.rest) (p.goes.copies t) had);
  mid = y.space;
  blocks = p.goes.space;
  metadata = q.goes.space;
  rest =
      q.rest
      ∙ (ap (λ (o : OpenPool). record o { space = z.space; cache = z.cache; streams = z.streams; cond = z.cond }) p.rest
      ∙ ap (λ (o : OpenPool). record x { space = z.space; cache = z.cache; dir = o.dir; streams = z.streams; cond = z.cond }) (sym q.rest));
}

pub trees_written : {n1 n2 : List ℕ} {c1 c2 : Counts} {t1 t2 : Type 0} {w1 w2 : World} {x y : OpenPool}
    → WritesTrees n1 n2 c1 c2 t1 t2 w1 w2 x y → WritesAll n1 n2 c1 c2 t1 t2 w1 w2 x y
trees_written {n1} {n2} {c1} {c2} {t1} {t2} {w1} {w2} {x} {y} p = record {
  sizes = p.goes.sizes;
  none_fell = p.goes.none_fell;
  told = p.goes.told;
  disks = λ t. works_trees n1 n2 c1 c2 t1 t2 w1 w2 x y t p;
  written = p.goes.written;
  copies = λ t. step_copies w1 w2 x y (ap (λ (o : OpenPool). o.table.slots) p.rest) (p.goes.copies t);
  mid = y.space;
  blocks = p.goes.space;
  metadata = others_itself Meta y.space;
  rest = p.rest ∙ ap (λ (o : OpenPool). record x { space = y.space; cache = y.cache; dir = y.dir; streams = o.streams; cond = o.cond }) (sym p.rest);
}

-- ---- devices

pub small_device : (n : List ℕ) (x : OpenPool) (d : ℕ) → IsOpen n x → d < x.table.count → units_of_dev x.space.parts.devs d ≤ 2 ^ 26
small_device n x d o lt =
    let few = row_few x.version x.group.txg x.table.count x.table.rows d o.few lt o.table in
    let same : units_of_dev x.space.parts.devs d ≡ (slice_index_or x.table.rows d no_row).units = ap (λ (r : DevRow). r.units) (o.rows d lt) in
    omega (arith, few, same)
