-- The trees of the streams of a pool with a device more, and of one without devices.
use Rattle.std.proofs.Common.{◌≡◌, ◌∙◌, inl, inr, ℕ, zero, suc, ◌+◌, ◌<◌, ◌≤◌, ◌&&◌, ◌||◌, not, Bool, true, false, List, [], ◌∷◌, ◌++◌, length, None, Some, refl, sym, ap, subst, arith, if◌then◌else◌}
use Rattle.std.specs.Global.{Global}
use Rattle.std.specs.Prelude.{All, Vec, nat_lt, slice_index_or}
use Rattle.std.proofs.lemmas.Bool.Decides.{nat_tests}
use Rattle.std.proofs.lemmas.Bool.{cases_lt}
use Rattle.std.proofs.lemmas.List.{append_assoc, get_or_append_left, get_or_past}
use Rattle.std.proofs.lemmas.List.Elements.{All-nil, All-cons}
use Rattle.std.proofs.Math.Seq.{get_or-append_seam}
use Rattle.zr_base.specs.declared.space.CondPart.{CondPart}
use Rattle.zr_base.specs.declared.space.DevPart.{DevPart}
use Rattle.zr_base.specs.declared.space.Entry.{Entry}
use Rattle.zr_base.specs.Extents.{has_unit}
use Rattle.zr_base.specs.Words.{words}
use Rattle.zr_beside.specs.Beside.{Standing, StandBeside, Stands, of_stream, rows_of}
use Rattle.zr_beside.proofs.Beside.{others}
use Rattle.zr_bptr.specs.declared.Bptr.{Bptr}
use Rattle.zr_bptr.specs.declared.Ptr.TheVariants.{Hole}
use Rattle.zr_bptr.specs.declared.Tree.{Tree}
use Rattle.zr_cache.specs.Entries.{entries}
use Rattle.zr_held.specs.Steps.{no_tree}
use Rattle.zr_root.specs.Streams.{HasBytes, HasSum, IsUnitAt}
use Rattle.zr_rules.specs.Logs.{IsLog}
use Rattle.zr_rules.specs.Places.{no_part, part_of}
use Rattle.zr_rules.specs.Space.{OpenSets, Space, nothing_opened, opened_of, role_at}
use Rattle.zr_rules.specs.Steps as steps
use Rattle.zr_shelf.specs.Disks.{Stand}
use Rattle.zr_shelf.specs.Moments.{World, IsStill}
use Rattle.zr_store.specs.Store.{IsOnce, Stored, Swaps}
use Rattle.zr_tree.specs.Trees.{IsAmong}
use Rattle.zr_vdev.proofs.Moves.{bytes_now, holds_all}
use Rattle.zr_vdev.specs.Stores.{IsStoredAt, is_current}
use Rattle.zr_vdev.specs.declared.kind.Kind.TheVariants.{Meta}
use Rattle.zr_sync.proofs.Retelling.{trees_told}
use Rattle.zr_sync.specs.Empty.{no_cond, no_stream, no_streams}
use Rattle.zr_sync.specs.Mappings.{HasFirst, IsSpelled, cond_stream}
use Rattle.zr_sync.specs.Pools.{IsPool}
use Rattle.zr_sync.specs.Streams.{HasMeta, streams_at}
use Rattle.zr_sync.specs.Trees.{HasTrees, IsAt, IsCondAt, Place, cond_trees, device_trees, head_tree, stream_in}
use Rattle.zr_sync.specs.Trees.Place.{OfLog, OfMapping, FirstLate, SecondLate}
use Rattle.zr_sync.specs.Trees.Stage.{Had}
use Rattle.zr_sync.specs.Words.{log_was}
use Rattle.zr_sync.specs.declared.mappings.MappingStream.{MappingStream}
use Rattle.zr_sync.specs.declared.mappings.MappingStream.TheVariants.{Entries, Counts}
use Rattle.zr_sync.specs.declared.open.CondStreams.{CondStreams}
use Rattle.zr_sync.specs.declared.open.DeviceStreams.{DeviceStreams}
use Rattle.zr_sync.specs.declared.open.OpenPool.{OpenPool}
use Rattle.zr_sync.specs.declared.open.Table.{Table}
use Rattle.zr_sync.specs.declared.words.Log.{Log}
use Rattle.zr_sync.specs.declared.words.Log.TheVariants.{Held, Kept, Fresh}
use Rattle.zr_create.specs.Blank.{IsBlank}
use Rattle.zr_create.specs.Devices.{new_row, with_device}
use Rattle.zr_create.proofs.Beside.{KeepsOtherDisks}
use Rattle.zr_create.proofs.Grown.{part_stays}
use Rattle.zr_create.proofs.Keeping.{meta_stays}
use Rattle.zr_create.proofs.Nothing.{absent_here, nothing_cached}
use Rattle.zr_create.proofs.Taken.{IsFree, new_part}

-- ---- disks that stay

-- the same disks, told of anew
pub trees_still : (told is_told : Type 0) (a b : World) (pool : OpenPool) → is_told → IsStill a b → HasTrees Had told a.now.seen pool → HasTrees Had is_told b.now.seen pool
trees_still told is_told a b pool tells still h =
    subst (λ (disks : List (List ℕ)). HasTrees Had is_told disks pool) (ap (λ (s : Stand). s.seen) (sym still.now)) (trees_told Had told is_told a.now.seen pool tells h)

-- ---- trees of no words

empty_bytes : (n : Stored) → HasBytes n no_stream.tree (words [])
empty_bytes n = record {
  leaves = [];
  are_leaves = record { places = λ index. nothing (nat_lt index 1); units = All-nil (IsUnitAt 0); whole = λ b among. absurd (none_among b among) };
  count = refl;
  long = All-nil (λ b. length (n.bytes b) ≡ 4096);
  sums = All-nil (HasSum n);
  spelling = refl;
}
  where
    nothing : (b : Bool) → (if b then Hole else Hole) ≡ Hole
    nothing true = refl
    nothing false = refl

    none_among : (b : Bptr) → IsAmong b [] → ⊥
    none_among b among = let one = among (λ x. 1) in omega (arith, one)

abbrev nothing_at : Place → List ℕ
nothing_at place = []

abbrev nothing_in : MappingStream → List ℕ
nothing_in which = []

-- so many trees of no words
abbrev holes : ℕ → List Standing
holes zero = []
holes (suc k) = of_stream no_stream [] ∷ holes k

holes_stand : (n : Stored) (k : ℕ) → All (Stands n) (holes k)
holes_stand n zero = All-nil (Stands n)
holes_stand n (suc k) = All-cons (Stands n) (of_stream no_stream []) (holes k) (empty_bytes n) (holes_stand n k)

empty_row : (n : Stored) → All (Stands n) (device_trees no_streams nothing_at)
empty_row n = holes_stand n 7

no_words : (place : Place) → length (nothing_at place) ≡ (stream_in place no_streams).words
no_words (OfLog Held) = refl
no_words (OfLog Kept) = refl
no_words (OfLog Fresh) = refl
no_words (OfMapping Entries) = refl
no_words (OfMapping Counts) = refl
no_words FirstLate = refl
no_words SecondLate = refl

no_cond_words : (which : MappingStream) → length (nothing_in which) ≡ (cond_stream which no_cond).words
no_cond_words Entries = refl
no_cond_words Counts = refl

empty_log : (version dev : ℕ) → IsLog version dev [] []
empty_log version dev = record {
  changes = [];
  spelling = record { lawful = tt; spelling = refl };
  replay = record { turns = λ u. tt; members = λ u. refl; maximal = tt };
  anew = [];
  is_anew = record { runs = []; cut = refl; spelling = record { lawful = tt; spelling = refl } };
  short = omega arith;
}

first_none : (which : MappingStream) (entries : List Entry) (counts : List ℕ) → HasFirst which entries counts []
first_none Entries entries counts = (0, omega arith, refl)
first_none Counts entries counts = (0, omega arith, refl)

-- ---- helpers

if_true : {A : Type 0} (b : Bool) (x y : A) → b ≡ true → (if b then x else y) ≡ x
if_true true x y is = refl
if_true false x y is = cc

if_false : {A : Type 0} (b : Bool) (x y : A) → b ≡ false → (if b then x else y) ≡ y
if_false true x y is = cc
if_false false x y is = refl

below : (n m : ℕ) → n < m → nat_lt n m ≡ true
below n m lt = grind (arith, nat_tests, lt)

not_below : (n : ℕ) → nat_lt n n ≡ false
not_below n = grind (arith, nat_tests)

rows_same : (f g : ℕ → List Standing) (n : ℕ) → ((i : ℕ) → i < n → g i ≡ f i) → rows_of g n ≡ rows_of f n
rows_same f g zero same = refl
rows_same f g (suc n) same = ap (λ (xs : List Standing). xs ++ g n) (rows_same f g n (λ i lt. same i (omega (arith, lt)))) ∙ ap (λ (xs : List Standing). rows_of f n ++ xs) (same n (omega arith))

rows_more : (g : ℕ → List Standing) (n m : ℕ) → m ≡ n + 1 → rows_of g m ≡ rows_of g n ++ g n
rows_more g n m is = let next : m ≡ suc n = omega (arith, is) in ap (λ (k : ℕ). rows_of g k) next

-- what a set was at the last root is told by what is recorded of the device, and by what the open group did
was_by : (log : Log) (s t : Space) (d u : ℕ) → part_of t.parts.devs d ≡ part_of s.parts.devs d → opened_of t d ≡ opened_of s d → log_was log t d u ≡ log_was log s d u
was_by Held s t d u part same =
    ap (λ (p : DevPart). (has_unit p.held u && not (has_unit (opened_of t d).born u)) || has_unit (opened_of t d).deferred u) part
    ∙ ap (λ (o : OpenSets). (has_unit (part_of s.parts.devs d).held u && not (has_unit o.born u)) || has_unit o.deferred u) same
was_by Kept s t d u part same =
    ap (λ (p : DevPart). (has_unit p.kept u && not (has_unit (opened_of t d).kept.came u)) || has_unit (opened_of t d).kept.went u) part
    ∙ ap (λ (o : OpenSets). (has_unit (part_of s.parts.devs d).kept u && not (has_unit o.kept.came u)) || has_unit o.kept.went u) same
was_by Fresh s t d u part same =
    ap (λ (p : DevPart). (has_unit p.fresh u && not (has_unit (opened_of t d).fresh.came u)) || has_unit (opened_of t d).fresh.went u) part
    ∙ ap (λ (o : OpenSets). (has_unit (part_of s.parts.devs d).fresh u && not (has_unit o.fresh.came u)) || has_unit o.fresh.went u) same

-- a new device had nothing
was_none : (log : Log) (t : Space) (units txg d u : ℕ) → part_of t.parts.devs d ≡ new_part units txg → opened_of t d ≡ nothing_opened → false ≡ log_was log t d u
was_none Held t units txg d u part same =
    sym (ap (λ (p : DevPart). (has_unit p.held u && not (has_unit (opened_of t d).born u)) || has_unit (opened_of t d).deferred u) part ∙ ap (λ (o : OpenSets). has_unit o.deferred u) same)
was_none Kept t units txg d u part same =
    sym (ap (λ (p : DevPart). (has_unit p.kept u && not (has_unit (opened_of t d).kept.came u)) || has_unit (opened_of t d).kept.went u) part ∙ ap (λ (o : OpenSets). has_unit o.kept.went u) same)
was_none Fresh t units txg d u part same =
    sym (ap (λ (p : DevPart). (has_unit p.fresh u && not (has_unit (opened_of t d).fresh.came u)) || has_unit (opened_of t d).fresh.went u) part ∙ ap (λ (o : OpenSets). has_unit o.fresh.went u) same)

-- ---- a device more

module _ (sizes : List ℕ) (x : OpenPool) (slot units : ℕ) (o : IsPool 0 sizes x) (free : IsFree x.table.slots slot) (txg : ℕ) (table : Table) (space : Space) (streams : Vec DeviceStreams Global)
    (is_table : table ≡ with_device x.table slot (new_row units txg)) (adds : steps.AddsDevice x.space space units txg) (opened : (d : ℕ) → opened_of space d ≡ opened_of x.space d) (items : streams.items ≡ x.streams.items ++ no_streams ∷ []) where
  abbrev y : OpenPool
  y = record x { table = table; space = space; streams = streams }

  count_more : table.count ≡ x.table.count + 1
  count_more = ap (λ (t : Table). t.count) is_table

  part_before : (d : ℕ) → d < x.table.count → part_of space.parts.devs d ≡ part_of x.space.parts.devs d
  part_before d lt = part_stays x.space space units txg adds d (let n = o.devices in omega (arith, lt, n))

  part_last : part_of space.parts.devs x.table.count ≡ new_part units txg
  part_last =
      ap (λ (ps : List DevPart). part_of ps x.table.count) adds.devs
      ∙ subst (λ (k : ℕ). part_of (x.space.parts.devs ++ new_part units txg ∷ []) k ≡ new_part units txg) o.devices (get_or-append_seam x.space.parts.devs (new_part units txg) [] no_part)

  opened_last : opened_of space x.table.count ≡ nothing_opened
  opened_last = opened x.table.count ∙ get_or_past x.space.opened x.table.count nothing_opened (let n = o.devices in let m = o.lawful.devices in omega (arith, n, m))

  streams_before : (e : ℕ) → e < x.table.count → streams_at y e ≡ streams_at x e
  streams_before e lt = ap (λ (ss : List DeviceStreams). slice_index_or ss e no_streams) items ∙ get_or_append_left x.streams.items (no_streams ∷ []) no_streams e (let n = o.count in omega (arith, lt, n))

  streams_last : streams_at y x.table.count ≡ no_streams
  streams_last =
      ap (λ (ss : List DeviceStreams). slice_index_or ss x.table.count no_streams) items
      ∙ subst (λ (k : ℕ). slice_index_or (x.streams.items ++ no_streams ∷ []) k no_streams ≡ no_streams) o.count (get_or-append_seam x.streams.items no_streams [] no_streams)

  -- ---- what the words are

  at_before : (e : ℕ) (p : Place) (ws : List ℕ) → e < x.table.count → IsAt Had x e p ws → IsAt Had y e p ws
  at_before e (OfLog log) ws lt is = record { set = is.set; log_is = is.log_is; units = λ u. is.units u ∙ sym (was_by log x.space space e u (part_before e lt) (opened e)) }
  at_before e (OfMapping which) ws lt is = (
    λ same. subst (λ (p : DevPart). HasFirst which p.entries p.counts ws) (sym (part_before e lt)) (is.0 same),
    subst (λ (p : DevPart). IsSpelled p.entries p.counts) (sym (part_before e lt)) is.1,
  )
  at_before e FirstLate ws lt is = tt
  at_before e SecondLate ws lt is = tt

  at_last : (p : Place) → IsAt Had y x.table.count p []
  at_last (OfLog log) = record { set = []; log_is = empty_log x.version x.table.count; units = λ u. was_none log space units txg x.table.count u part_last opened_last }
  at_last (OfMapping which) = (
    λ same. first_none which (part_of space.parts.devs x.table.count).entries (part_of space.parts.devs x.table.count).counts,
    subst (λ (p : DevPart). IsSpelled p.entries p.counts) (sym part_last) (record { storable = tt; each = refl }),
  )
  at_last FirstLate = tt
  at_last SecondLate = tt

  cond_at : (which : MappingStream) (ws : List ℕ) → IsCondAt Had x which ws → IsCondAt Had y which ws
  cond_at which ws is = λ c at. is c (sym adds.cond ∙ at)

  -- ---- where they stand

  module _ (w : ℕ → Place → List ℕ) where
    abbrev now_words : ℕ → Place → List ℕ
    now_words e = if nat_lt e x.table.count then w e else nothing_at

    words_before : (e : ℕ) → e < x.table.count → now_words e ≡ w e
    words_before e lt = if_true (nat_lt e x.table.count) (w e) nothing_at (below e x.table.count lt)

    words_last : now_words x.table.count ≡ nothing_at
    words_last = if_false (nat_lt x.table.count x.table.count) (w x.table.count) nothing_at (not_below x.table.count)

    row_before : (e : ℕ) → e < x.table.count → device_trees (streams_at y e) (now_words e) ≡ device_trees (streams_at x e) (w e)
    row_before e lt = ap (λ (t : DeviceStreams). device_trees t (now_words e)) (streams_before e lt) ∙ ap (λ (v : Place → List ℕ). device_trees (streams_at x e) v) (words_before e lt)

    row_last : device_trees (streams_at y x.table.count) (now_words x.table.count) ≡ device_trees no_streams nothing_at
    row_last = ap (λ (t : DeviceStreams). device_trees t (now_words x.table.count)) streams_last ∙ ap (λ (v : Place → List ℕ). device_trees no_streams v) words_last

    rows_are : rows_of (λ e. device_trees (streams_at y e) (now_words e)) table.count ≡ rows_of (λ e. device_trees (streams_at x e) (w e)) x.table.count ++ device_trees no_streams nothing_at
    rows_are =
        rows_more (λ e. device_trees (streams_at y e) (now_words e)) x.table.count table.count count_more
        ∙ (ap (λ (xs : List Standing). xs ++ device_trees (streams_at y x.table.count) (now_words x.table.count)) (rows_same (λ e. device_trees (streams_at x e) (w e)) (λ e. device_trees (streams_at y e) (now_words e)) x.table.count row_before)
        ∙ ap (λ (r : List Standing). rows_of (λ e. device_trees (streams_at x e) (w e)) x.table.count ++ r) row_last)

    beside_more : (s n : Stored) (rest : List Standing) → StandBeside s (rows_of (λ e. device_trees (streams_at x e) (w e)) x.table.count ++ rest) → Swaps s n [] [] → IsOnce n
        → StandBeside n (rows_of (λ e. device_trees (streams_at y e) (now_words e)) table.count ++ rest)
    beside_more s n rest h swaps once =
        let front = rows_of (λ e. device_trees (streams_at x e) (w e)) x.table.count in
        subst (λ (xs : List Standing). StandBeside n (xs ++ rest)) (sym rows_are)
        (subst (λ (xs : List Standing). StandBeside n xs) (sym (append_assoc front (device_trees no_streams nothing_at) rest)) (others s n front [] (device_trees no_streams nothing_at) rest h swaps once (empty_row n)))

    -- a device of before, or the new one
    each_device : (Is : ℕ → Type 0) → ((e : ℕ) → e < x.table.count → Is e) → Is x.table.count → (e : ℕ) → e < table.count → Is e
    each_device Is before last e lt = elim (cases_lt e x.table.count) [
      | inl less ↦ before e less
      | inr le ↦ subst (λ (k : ℕ). Is k) (let n = count_more in omega (arith, lt, le, n)) last
    ]

    counts_more : ((e : ℕ) (p : Place) → e < x.table.count → length (w e p) ≡ (stream_in p (streams_at x e)).words) → (e : ℕ) (p : Place) → e < table.count → length (now_words e p) ≡ (stream_in p (streams_at y e)).words
    counts_more was e p lt =
        each_device (λ (k : ℕ). length (now_words k p) ≡ (stream_in p (streams_at y k)).words)
        (λ k less. ap (λ (v : Place → List ℕ). length (v p)) (words_before k less) ∙ (was k p less ∙ ap (λ (t : DeviceStreams). (stream_in p t).words) (sym (streams_before k less))))
        (ap (λ (v : Place → List ℕ). length (v p)) words_last ∙ (no_words p ∙ ap (λ (t : DeviceStreams). (stream_in p t).words) (sym streams_last))) e lt

    are_more : ((e : ℕ) (p : Place) → e < x.table.count → IsAt Had x e p (w e p)) → (e : ℕ) (p : Place) → e < table.count → IsAt Had y e p (now_words e p)
    are_more was e p lt =
        each_device (λ (k : ℕ). IsAt Had y k p (now_words k p))
        (λ k less. subst (λ (v : Place → List ℕ). IsAt Had y k p (v p)) (sym (words_before k less)) (at_before k p (w k p) less (was k p less)))
        (subst (λ (v : Place → List ℕ). IsAt Had y x.table.count p (v p)) (sym words_last) (at_last p)) e lt

  -- what is written to the slot leaves the trees, and the new device has empty ones
  pub trees_kept : (before now : List (List ℕ)) → KeepsOtherDisks slot before now → (told is_told : Type 0) → is_told → HasTrees Had told before x → HasTrees Had is_told now y
  trees_kept before now kept told is_told tells (bytes, h) =
      let next = meta_stays sizes x slot units o free txg table space streams is_table adds before now kept told is_told h.stored tells h.held in (
        bytes,
        record {
          stored = next.stored;
          held = next.held;
          words = now_words h.words;
          cond = h.cond;
          beside = beside_more h.words h.stored next.stored (cond_trees x.cond h.cond ++ head_tree x.head bytes) h.beside next.is next.held.alone;
          counts = counts_more h.words h.counts;
          cond_counts = h.cond_counts;
          are = are_more h.words h.are;
          are_cond = λ which. cond_at which (h.cond which) (h.are_cond which);
        },
      )

-- ---- no devices

no_cond_part : (c : CondPart) → None ≡ Some c → ⊥
no_cond_part c is = cc

-- a pool without devices has no streams
pub blank_trees : (tells : Type 0) (disks : List (List ℕ)) (pool : OpenPool) → tells → IsBlank pool → HasTrees Had tells disks pool
blank_trees tells disks pool told blank =
    let none_current : (d u : ℕ) → is_current (role_at pool.space d u) ≡ false = λ d u. ap is_current (absent_here pool.space (ap (λ (s : Space). s.parts.devs) blank.space) d u) in
    let none : Stored = record { pointers = []; bytes = bytes_now Meta pool.table.slots disks pool.space None } in
    let held : HasMeta tells disks pool none = holds_all Meta pool.table.slots tells disks pool.space None pool.cache [] told (nothing_cached disks pool.table.slots pool.space pool.cache blank.cache) refl (All-nil (λ (b : Bptr). IsStoredAt Meta pool.space None b.at)) (λ d u. omega arith) (record { used = λ d u is. absurd (let no = none_current d u in cc); current = λ d u some. absurd (omega (arith, some)) }) tt in
    let all : StandBeside none (rows_of (λ dev. device_trees (streams_at pool dev) nothing_at) 0 ++ (cond_trees no_cond nothing_in ++ head_tree no_tree [])) = record { stored = λ weight. (let least : 0 ≤ 0 = omega arith in least); whole = λ weight. (let least : 0 ≤ 0 = omega arith in least); once = held.alone; stand = holes_stand none 3 } in
    let count = blank.count in (
      [],
      record {
        stored = none;
        held = held;
        words = λ dev. nothing_at;
        cond = nothing_in;
        beside =
            subst (λ (n : ℕ). StandBeside none (rows_of (λ dev. device_trees (streams_at pool dev) nothing_at) n ++ (cond_trees pool.cond nothing_in ++ head_tree pool.head []))) (sym blank.count)
            (subst (λ (t : CondStreams). StandBeside none (rows_of (λ dev. device_trees (streams_at pool dev) nothing_at) 0 ++ (cond_trees t nothing_in ++ head_tree pool.head []))) (sym blank.cond)
            (subst (λ (t : Tree). StandBeside none (rows_of (λ dev. device_trees (streams_at pool dev) nothing_at) 0 ++ (cond_trees no_cond nothing_in ++ head_tree t []))) (sym blank.head) all));
        counts = λ dev place lt. absurd (omega (arith, lt, count));
        cond_counts = λ which. no_cond_words which ∙ ap (λ (t : CondStreams). (cond_stream which t).words) (sym blank.cond);
        are = λ dev place lt. absurd (omega (arith, lt, count));
        are_cond = λ which c at. let no : None ≡ Some c = sym (ap (λ (s : Space). s.parts.cond) blank.space) ∙ at in absurd (no_cond_part c no);
      },
    )
