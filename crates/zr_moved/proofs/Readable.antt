-- Whoever reads a root whose disks tell where the units of removed devices have moved is led where the pool is.
use Rattle.std.proofs.Common.{◌≡◌, ◌==◌, inl, inr, ℕ, zero, suc, ◌<◌, ◌^◌, Bool, true, false, if◌then◌else◌, List, [], ◌∷◌, ◌++◌, map, length, get_or, take, Option, refl, sym, ◌∙◌, ap, subst, arith}
use Rattle.std.specs.Prelude.{All, slice_index_or}
use Rattle.std.proofs.lemmas.Bool.{cases_lt}
use Rattle.std.proofs.lemmas.List.{get_or-take, length-map}
use Rattle.std.proofs.Math.ListN.{get_or-eq_default, get_or-map}
use Rattle.zr_base.specs.Words.{words}
use Rattle.zr_base.specs.declared.space.DevPart.{DevPart}
use Rattle.zr_base.specs.declared.space.DevRow.{DevRow}
use Rattle.zr_base.specs.declared.space.SpaceParts.{SpaceParts}
use Rattle.zr_bptr.specs.declared.Bptr.{Bptr}
use Rattle.zr_bptr.specs.declared.Ptr.{Ptr}
use Rattle.zr_bptr.specs.declared.Ptr.TheVariants.{Hole, At}
use Rattle.zr_bptr.specs.declared.Tree.{Tree}
use Rattle.zr_current.specs.Current.{GoesOnFrom, HasSlots}
use Rattle.zr_image.specs.Current.{reset_of, row_at, slots_of}
use Rattle.zr_image.specs.Reading.{bare_devices, store_of}
use Rattle.zr_image.specs.Roots as image
use Rattle.zr_image.specs.Roots.{head_tree, rows_of, without_late}
use Rattle.zr_image.specs.StateOf.{AreObjects}
use Rattle.zr_import.specs.Words.{ReadsMeta}
use Rattle.zr_label.specs.Blocks.{IsMetaRoot, IsUber, no_row}
use Rattle.zr_label.specs.declared.root.Uber.{Uber}
use Rattle.zr_meta.specs.Heads.{IsHead, head_bytes}
use Rattle.zr_meta.specs.Parts.{pieces}
use Rattle.zr_meta.specs.Streams.{SpellsPart}
use Rattle.zr_meta.specs.declared.Head.{Head}
use Rattle.zr_meta.specs.declared.Stream.{Stream}
use Rattle.zr_model.specs.State.{PoolState}
use Rattle.zr_moved.proofs.Entries.{one_mapping, words_small}
use Rattle.zr_moved.proofs.Leading.{same_store}
use Rattle.zr_moved.proofs.Mapped.{entries_stand}
use Rattle.zr_moved.proofs.OneHead.{one_head}
use Rattle.zr_open.proofs.Left.{counted_rows, parts_rows, rows_in}
use Rattle.zr_open.proofs.Parted.{StandEach, each_stand, parts_each, words_of}
use Rattle.zr_open.proofs.Serving.{address_same}
use Rattle.zr_open.proofs.Views.{store_same}
use Rattle.zr_open.specs.Shown.{Shows}
use Rattle.zr_root.proofs.Beside.{bytes_beside, one_value}
use Rattle.zr_root.specs.Streams.{HasBytes, HasWords, IsTreeFor}
use Rattle.zr_roots.proofs.Rows.{past_rows, taken_is}
use Rattle.zr_roots.specs.Standing.{image_of}
use Rattle.zr_rules.specs.Devices.{devices_of}
use Rattle.zr_rules.specs.Equation.{devices_in}
use Rattle.zr_rules.specs.Places.{is_gone, no_part, part_of, state_of_dev}
use Rattle.zr_space.specs.Drops.{IsMeta}
use Rattle.zr_store.proofs.Meeting.{at_each}
use Rattle.zr_store.specs.Store.{Stored}
use Rattle.zr_sync.specs.Heads.{cond_streams, told_of}
use Rattle.zr_sync.specs.Mappings.{words_at}
use Rattle.zr_sync.specs.Moves.{StandsInMeta, TellsMoves}
use Rattle.zr_sync.specs.Pools.{IsAfter, IsOpen}
use Rattle.zr_sync.specs.Streams.{streams_at}
use Rattle.zr_sync.specs.declared.mappings.MappingStream.TheVariants.{Entries}
use Rattle.zr_sync.specs.declared.open.OpenPool.{OpenPool}
use Rattle.zr_tree.specs.Trees.{tree_reach}
use Rattle.zr_vdev.proofs.Uses.{meta_stays}
use Rattle.zr_vdev.specs.Runs.{view_of}

-- ---- late sets do not matter

entries_bare : (ps : List DevPart) (d : ℕ) → (part_of (map (λ (p : DevPart). record p { late1 = []; late2 = [] }) ps) d).entries ≡ (part_of ps d).entries
entries_bare [] d = refl
entries_bare (p ∷ ps) zero = refl
entries_bare (p ∷ ps) (suc d) = entries_bare ps d

counted_entries : (b : Bool) (parts : SpaceParts) (d : ℕ) → (part_of (if b then without_late parts else parts).devs d).entries ≡ (part_of parts.devs d).entries
counted_entries true parts d = entries_bare parts.devs d
counted_entries false parts d = refl

row_of : (devs : List DevPart) (rows : List DevRow) (d : ℕ) → rows_in devs ≡ rows → (part_of devs d).row ≡ get_or rows d no_row
row_of devs rows d are = sym (get_or-map (λ (p : DevPart). p.row) devs d no_part) ∙ ap (λ (rs : List DevRow). get_or rs d no_row) are

-- ---- what tells is read on the bare devices

module _ (disks : List (List ℕ)) (sizes : List ℕ) (u : Uber) (pool : OpenPool) (ready : IsOpen sizes pool) (from : GoesOnFrom u pool) (moves : TellsMoves disks pool u.root u.len) where
  abbrev own : Stored
  own = store_of (view_of disks pool.table.slots pool.space)

  abbrev bare : Stored
  bare = image_of disks pool.table.slots u

  abbrev h : Head
  h = moves.head

  abbrev rows : List DevRow
  rows = rows_of u

  is_uber : IsUber u
  is_uber = (subst (λ (o : Option Uber). IsAfter o pool.group.txg) from.last ready.after).0

  row_is : (d : ℕ) → (part_of pool.space.parts.devs d).row ≡ row_at u d
  row_is d = elim (cases_lt d u.count) [
    | inl lt ↦ ready.rows d (let n = from.count in omega (arith, n, lt)) ∙ ap (λ (rs : List DevRow). slice_index_or rs d no_row) from.rows
    | inr ge ↦
        let n = from.count in let m = ready.devices in
        ap (λ (p : DevPart). p.row) (get_or-eq_default pool.space.parts.devs no_part {n = d} (omega (arith, n, m, ge))) ∙ sym (past_rows u is_uber d ge)
  ]

  -- a row of the root
  row_told : (d : ℕ) → get_or rows d no_row ≡ row_at u d
  row_told d = elim (cases_lt d u.count) [
    | inl lt ↦ get_or-take u.count u.rows d no_row lt
    | inr ge ↦ let t = taken_is u is_uber in get_or-eq_default rows no_row (omega (arith, t, ge)) ∙ sym (past_rows u is_uber d ge)
  ]

  many : length rows ≡ pool.table.count
  many = taken_is u is_uber ∙ sym from.count

  rows_same : take pool.table.count pool.table.rows ≡ rows
  rows_same = ap (λ (n : ℕ). take n pool.table.rows) from.count ∙ ap (λ (rs : List DevRow). take u.count rs) from.rows

  tree_for : (root : Ptr) → IsMetaRoot root u.len → IsTreeFor u.len root (head_tree (record u { root = root }))
  tree_for Hole is = absurd is
  tree_for (At b) is = (refl, is.2)

  -- metadata is on devices that are there
  reads_bare : (b : Bptr) → IsMeta pool.space b.at → bare.bytes b ≡ own.bytes b
  reads_bare b is = sym (address_same disks pool.table.slots (devices_in pool.space) (bare_devices u) (ready.devices ∙ from.count) row_is b.at (meta_stays pool.space b.at is))

  stands_bare : (t : Tree) (bytes : List ℕ) → StandsInMeta pool.space (view_of disks pool.table.slots pool.space) t bytes → HasBytes bare t bytes
  stands_bare t bytes has = bytes_beside own bare t bytes (λ b met. reads_bare b (at_each (IsMeta pool.space) (tree_reach own t) b.at has.blocks met)) has.stands

  head_lawful : IsHead rows h
  head_lawful = subst (λ (rs : List DevRow). IsHead rs h) rows_same moves.lawful

  head_stands : HasBytes bare (head_tree u) (head_bytes h)
  head_stands = stands_bare (head_tree u) (head_bytes h) (moves.stands (head_tree u) (tree_for u.root is_uber.root))

  streams_are : told_of h.form rows pool.streams.items ++ cond_streams h.cond pool.cond ≡ h.streams
  streams_are = subst (λ (rs : List DevRow). told_of h.form rs pool.streams.items ++ cond_streams h.cond pool.cond ≡ h.streams) rows_same moves.streams

  -- ---- a head that stands there, and what the words of its streams record

  module _ (k : Head) (counted : SpaceParts) (is_head : IsHead rows k) (reads : ReadsMeta bare u k counted) where
    pub same_head : k ≡ h
    same_head = one_head bare (head_tree u) rows k h is_head head_lawful reads.head head_stands

    told : ReadsMeta bare u h counted
    told = subst (λ (x : Head). ReadsMeta bare u x counted) same_head reads

    abbrev qs : List (List ℕ)
    qs = pieces h.streams told.words

    each : StandEach bare (told_of h.form rows pool.streams.items ++ cond_streams h.cond pool.cond) qs
    each = subst (λ (ts : List Stream). StandEach bare ts qs) (sym streams_are) (each_stand bare h.streams told.words told.streams)

    part : (d : ℕ) → d < pool.table.count → SpellsPart u.version d h.ckpt (words_of h.form rows qs d) (part_of told.parts.devs d)
    part d lt = let n = many in parts_each u.version h.form h.ckpt 0 rows qs told.parts.devs told.spelled.devices d d (omega (arith, lt, n)) (omega arith)

    gone_row : (d : ℕ) → is_gone (state_of_dev pool.space.parts.devs d) ≡ true → is_gone (get_or rows d no_row).state ≡ true
    gone_row d gone = ap (λ (r : DevRow). is_gone r.state) (row_told d ∙ sym (row_is d)) ∙ gone

    -- the words that were read of the mapping of a removed device are the pool's own
    same_words : (d : ℕ) → d < pool.table.count → is_gone (state_of_dev pool.space.parts.devs d) ≡ true → words_at pool d Entries ≡ (words_of h.form rows qs d).entries
    same_words d lt gone =
        let n = many in
        let count = ready.count in
        let m = moves.mappings d Entries lt gone in
        let spells = (part d lt).mapping.entries_are in
        let mine : HasWords bare (streams_at pool d).entries (words_at pool d Entries) =
        record { count = m.count; bytes = stands_bare (streams_at pool d).entries.tree (words (words_at pool d Entries)) m.stands } in
        let read = entries_stand bare h.form rows pool.streams.items (cond_streams h.cond pool.cond) qs (omega (arith, count, n)) each d (omega (arith, lt, n)) (gone_row d gone) in
        one_value bare (streams_at pool d).entries (words_at pool d Entries) (words_of h.form rows qs d).entries
        (words_small (part_of pool.space.parts.devs d).entries (moves.spelled d lt gone).storable)
        (subst (λ (ns : List ℕ). All (λ (x : ℕ). x < 2 ^ 64) ns) (sym spells.spelling) (words_small (part_of told.parts.devs d).entries spells.lawful))
        mine read

    same_known : (d : ℕ) → d < pool.table.count → is_gone (state_of_dev pool.space.parts.devs d) ≡ true → (part_of pool.space.parts.devs d).entries ≡ (part_of counted.devs d).entries
    same_known d lt gone =
        let spells = (part d lt).mapping.entries_are in
        one_mapping (part_of pool.space.parts.devs d).entries (part_of told.parts.devs d).entries (moves.spelled d lt gone).storable spells.lawful (same_words d lt gone ∙ spells.spelling)
        ∙ sym (ap (λ (ps : SpaceParts). (part_of ps.devs d).entries) told.counted_is ∙ counted_entries (reset_of u == u.txg) told.parts d)

    same_entries : (d : ℕ) → is_gone (state_of_dev pool.space.parts.devs d) ≡ true → (part_of pool.space.parts.devs d).entries ≡ (part_of counted.devs d).entries
    same_entries d gone = elim (cases_lt d pool.table.count) [
      | inl lt ↦ same_known d lt gone
      | inr ge ↦
          let m = ready.devices in
          let none : is_gone (state_of_dev pool.space.parts.devs d) ≡ false = ap (λ (p : DevPart). is_gone p.row.state) (get_or-eq_default pool.space.parts.devs no_part {n = d} (omega (arith, m, ge))) in
          absurd cc
    ]

    rows_are : rows_in counted.devs ≡ rows
    rows_are =
        ap (λ (ps : SpaceParts). rows_in ps.devs) told.counted_is
        ∙ (counted_rows (reset_of u == u.txg) told.parts ∙ parts_rows u.version h.form h.ckpt 0 rows _ told.parts.devs told.spelled.devices)

    as_many : length pool.space.parts.devs ≡ length counted.devs
    as_many = ready.devices ∙ sym (sym (length-map counted.devs (λ (p : DevPart). p.row)) ∙ ap (λ (rs : List DevRow). length rs) rows_are ∙ many)

    row_read : (d : ℕ) → (part_of pool.space.parts.devs d).row ≡ (part_of counted.devs d).row
    row_read d = row_is d ∙ sym (row_of counted.devs rows d rows_are ∙ row_told d)

    -- the disks by the parts that were read are those by the pool's space
    pub same_image : own ≡ store_of (record { disks = disks; slots = pool.table.slots; devices = devices_of counted.devs })
    same_image = same_store disks pool.table.slots (devices_in pool.space) (devices_of counted.devs) as_many row_read same_entries

-- ---- what is shown

module _ (paths disks : List (List ℕ)) (sizes : List ℕ) (u : Uber) (pool : OpenPool) (p : PoolState) (ready : IsOpen sizes pool) (from : GoesOnFrom u pool) (moves : TellsMoves disks pool u.root u.len)
    (shows : Shows paths disks p) (same_root : shows.root.uber ≡ u) (slots : HasSlots (slots_of u shows.seen) pool.table.slots) where
  abbrev root : image.Root
  root = shows.root

  abbrev these : List (Option ℕ)
  these = slots_of u shows.seen

  here : image_of disks pool.table.slots u ≡ image_of disks these u
  here = store_same disks these pool.table.slots (bare_devices u) slots

  read_head : IsHead (rows_of u) root.head
  read_head = subst (λ (v : Uber). IsHead (rows_of v) root.head) same_root shows.stands.head

  reads_these : ReadsMeta (image_of disks these u) u root.head root.parts
  reads_these = subst (λ (v : Uber). ReadsMeta (image_of disks (slots_of v shows.seen) v) v root.head root.parts) same_root shows.stands.reads

  reads : ReadsMeta (image_of disks pool.table.slots u) u root.head root.parts
  reads = subst (λ (s : Stored). ReadsMeta s u root.head root.parts) (sym here) reads_these

  objects_are : AreObjects (store_of (record { disks = disks; slots = these; devices = devices_of root.parts.devs })) root.head.dir p.objects
  objects_are = subst (λ (v : Uber). AreObjects (store_of (record { disks = disks; slots = slots_of v shows.seen; devices = devices_of root.parts.devs })) root.head.dir p.objects) same_root shows.means.objects

  same_dir : root.head.dir ≡ pool.dir
  same_dir = ap (λ (k : Head). k.dir) (same_head disks sizes u pool ready from moves root.head root.parts read_head reads) ∙ moves.same

  -- the objects that are shown are those of the pool's directory
  pub moved_objects : AreObjects (store_of (view_of disks pool.table.slots pool.space)) pool.dir p.objects
  moved_objects =
      subst (λ (t : Tree). AreObjects (store_of (view_of disks pool.table.slots pool.space)) t p.objects) same_dir
      (subst (λ (s : Stored). AreObjects s root.head.dir p.objects)
      (sym (same_image disks sizes u pool ready from moves root.head root.parts read_head reads ∙ store_same disks these pool.table.slots (devices_of root.parts.devs) slots)) objects_are)
