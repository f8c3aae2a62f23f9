-- What a commit's streams record once its group has ended, and while blocks of objects are written.
use Rattle.std.proofs.Common.{◌≡◌, ◌∙◌, ℕ, ◌<◌, ◌≤◌, Bool, true, false, List, [], Option, None, refl, sym, ap, subst, if◌then◌else◌, arith}
use Rattle.std.specs.Prelude.{nat_lt}
use Rattle.std.proofs.lemmas.Bool.Decides.{nat_tests}
use Rattle.std.proofs.lemmas.List.{append-nil}
use Rattle.std.proofs.lemmas.List.Elements.{All-nil}
use Rattle.zr_base.specs.declared.space.Dva.{Dva}
use Rattle.zr_base.specs.declared.space.Entry.{Entry}
use Rattle.zr_base.specs.declared.space.Extent.{Extent}
use Rattle.zr_base.specs.declared.space.LateRun.{LateRun}
use Rattle.zr_beside.specs.Beside.{Standing, StandBeside, Stands}
use Rattle.zr_beside.proofs.Beside.{others}
use Rattle.zr_cache.specs.declared.table.Cache.{Cache}
use Rattle.zr_rules.specs.Devices.{Devices}
use Rattle.zr_rules.specs.Equation.{live_hits}
use Rattle.zr_rules.specs.Logs.{IsLate, IsLog}
use Rattle.zr_rules.specs.Places.{part_of}
use Rattle.zr_rules.specs.Roles.{Role, aged, cleared}
use Rattle.zr_rules.specs.Space.{Space, opened_of, role_at}
use Rattle.zr_rules.specs.Steps.{Commits}
use Rattle.zr_shelf.specs.Counts.{Counts}
use Rattle.zr_shelf.specs.Moments.{World}
use Rattle.zr_space.specs.Drops.{IsMeta}
use Rattle.zr_space.specs.Turning.{TurnsParts, waiting_runs}
use Rattle.zr_store.specs.Store.{IsOnce, Stored, Now, Swaps}
use Rattle.zr_view.specs.Views.{address_bytes}
use Rattle.zr_vdev.specs.Runs.{view_of}
use Rattle.zr_vdev.specs.Stores.{HoldsBlocks, KeepsOthers, addresses_of, is_current}
use Rattle.zr_vdev.specs.declared.kind.Kind.TheVariants.{Block, Meta}
use Rattle.zr_vdev.proofs.Frames.{held_beside}
use Rattle.zr_vdev.proofs.Held.{read_same}
use Rattle.zr_vdev.proofs.Moves.{held_again}
use Rattle.zr_vdev.proofs.Whole.{meta_same}
use Rattle.zr_sync.specs.Mappings.{IsSpelled, mapping_words, words_at}
use Rattle.zr_sync.specs.Pools.{IsOpen}
use Rattle.zr_sync.specs.Streams.{HasMeta}
use Rattle.zr_sync.specs.Trees.{Place, Stage, AreFirst, HoldsStreams, IsAt, IsCondAt, MaySpell, every, first_stage, one_stage, settling, writing}
use Rattle.zr_sync.specs.Trees.Place.{OfLog, OfMapping, FirstLate, SecondLate}
use Rattle.zr_sync.specs.Trees.Stage.{Given, Written, Recorded}
use Rattle.zr_sync.specs.Words.{IsLastLog, log_set}
use Rattle.zr_sync.specs.Writes.{WritesTrees}
use Rattle.zr_sync.specs.declared.logs.Logs.{Logs}
use Rattle.zr_sync.specs.declared.logs.Logs.TheVariants.{Grow, Anew}
use Rattle.zr_sync.specs.declared.mappings.MappingStream.{MappingStream}
use Rattle.zr_sync.specs.declared.open.OpenPool.{OpenPool}
use Rattle.zr_sync.specs.declared.open.Table.{Table}
use Rattle.zr_sync.specs.declared.words.Log.{Log}
use Rattle.zr_sync.specs.declared.words.Log.TheVariants.{Held, Kept, Fresh}
use Rattle.zr_sync.proofs.Groups.{commits_devices}
use Rattle.zr_sync.proofs.Holding.{same_holds}
use Rattle.zr_sync.proofs.Progress.{writing_none}
use Rattle.zr_sync.proofs.Stages.{last_log_stays, mapping_stays, spelled_stays}

-- ---- the same trees in another store of the same blocks

-- where no block came or left
still_beside : (s n : Stored) (all : List Standing) → StandBeside s all → Swaps s n [] [] → IsOnce n → StandBeside n all
still_beside s n all h swaps once =
    subst (λ (xs : List Standing). StandBeside n xs) (append-nil all)
    (others s n all [] [] [] (subst (λ (xs : List Standing). StandBeside s xs) (sym (append-nil all)) h) swaps once (All-nil (Stands n)))

-- the pool's trees stand as they stood, where its streams and its table do
module _ (stage next : ℕ → Place → Stage) (cond cond_next : MappingStream → Stage) (more : List Standing) (t1 t2 : Type 0) (d1 d2 : List (List ℕ)) (x y : OpenPool) (h : HoldsStreams stage cond more t1 d1 x) (streams : y.streams ≡ x.streams) (conds : y.cond ≡ x.cond) (table : y.table ≡ x.table) (n : Stored) (held : HasMeta t2 d2 y n) (swaps : Swaps h.stored n [] [])
    (are : (e : ℕ) (p : Place) (ws : List ℕ) → e < x.table.count → IsAt (stage e p) x e p ws → IsAt (next e p) y e p ws) (are_cond : (which : MappingStream) (ws : List ℕ) → IsCondAt (cond which) x which ws → IsCondAt (cond_next which) y which ws) where
  pub stand_still : HoldsStreams next cond_next more t2 d2 y
  stand_still =
      record {
        stored = n;
        held = held;
        words = h.words;
        cond = h.cond;
        beside = rw streams rw conds rw table (still_beside h.stored n _ h.beside swaps held.alone);
        counts = rw streams rw table h.counts;
        cond_counts = rw conds h.cond_counts;
        are = λ e p lt. let below = subst (λ (w : Table). e < w.count) table lt in are e p (h.words e p) below (h.are e p below);
        are_cond = λ which. are_cond which (h.cond which) (h.are_cond which);
      }

-- ---- blocks of objects

pub first_stays : (logs : Logs) (x y : OpenPool) → KeepsOthers Block x.space y.space → y.version ≡ x.version → y.turned ≡ x.turned → (e : ℕ) (p : Place) (ws : List ℕ) → IsAt (first_stage logs) x e p ws → IsAt (first_stage logs) y e p ws
first_stays Grow x y kept version turned e (OfLog log) ws is = subst (λ (v : ℕ). IsLastLog v y.space e log ws) (sym version) (last_log_stays Block x.space y.space kept x.version e log ws is)
first_stays Grow x y kept version turned e (OfMapping which) ws is = mapping_stays Block x y kept turned e which ws is
first_stays Grow x y kept version turned e FirstLate ws is = tt
first_stays Grow x y kept version turned e SecondLate ws is = tt
first_stays Anew x y kept version turned e (OfLog log) ws is = tt
first_stays Anew x y kept version turned e (OfMapping which) ws is = spelled_stays Block x y kept e is
first_stays Anew x y kept version turned e FirstLate ws is = tt
first_stays Anew x y kept version turned e SecondLate ws is = tt

pub first_cond_stays : (logs : Logs) (x y : OpenPool) → KeepsOthers Block x.space y.space → y.cond ≡ x.cond → (which : MappingStream) (ws : List ℕ) → IsCondAt (first_stage logs) x which ws → IsCondAt (first_stage logs) y which ws
first_cond_stays Grow x y kept cond which ws is = λ c at.
    let had = is c (sym kept.rows.cond ∙ at) in
    (λ done. had.0 (sym (ap (λ t. t.done) cond) ∙ done), had.1)
first_cond_stays Anew x y kept cond which ws is = λ c at. is c (sym kept.rows.cond ∙ at)

-- the trees of objects that are written leave those of streams
pub trees_leave : (n1 n2 : List ℕ) (c1 c2 : Counts) (t1 t2 : Type 0) (w1 w2 : World) (x y : OpenPool) → IsOpen n1 x → WritesTrees n1 n2 c1 c2 t1 t2 w1 w2 x y → (logs : Logs) (stage : ℕ → Place → Stage) (cond : MappingStream → Stage) (more : List Standing) → AreFirst (first_stage logs) stage cond
    → HoldsStreams stage cond more t1 w1.now.seen x → HoldsStreams stage cond more t2 w2.now.seen y
trees_leave n1 n2 c1 c2 t1 t2 w1 w2 x y o wrote logs stage cond more first h =
    let rest = wrote.rest in
    let slots : y.table.slots ≡ x.table.slots = ap (λ (p : OpenPool). p.table.slots) rest in
    let later = subst (λ (ss : List (Option ℕ)). Now (HoldsBlocks Meta ss t2 w2.now.seen y.space None y.cache) (λ n. Swaps h.stored n [] [])) (sym slots)
    (held_beside Meta x.table.slots n1 n2 c1 c2 t1 t2 w1 w2 x.space y.space None x.cache y.cache h.stored o.mounted.apart wrote.goes h.held) in
    stand_still stage stage cond cond more t1 t2 w1.now.seen w2.now.seen x y h (ap (λ (p : OpenPool). p.streams) rest) (ap (λ (p : OpenPool). p.cond) rest) (ap (λ (p : OpenPool). p.table) rest) later.stored later.held later.is
    (λ e p ws lt is. subst (λ (s : Stage). IsAt s y e p ws) (sym (first.devices e p)) (first_stays logs x y wrote.goes.space (ap (λ (q : OpenPool). q.version) rest) (ap (λ (q : OpenPool). q.turned) rest) e p ws (subst (λ (s : Stage). IsAt s x e p ws) (first.devices e p) is)))
    (λ which ws is. subst (λ (s : Stage). IsCondAt s y which ws) (sym (first.cond_is which)) (first_cond_stays logs x y wrote.goes.space (ap (λ (q : OpenPool). q.cond) rest) which ws (subst (λ (s : Stage). IsCondAt s x which ws) (first.cond_is which) is)))

-- at its begin a commit has written nothing
pub begins_first : (first : Stage) → AreFirst first (writing first 0) (one_stage first)
begins_first first = record { devices = λ dev place. writing_none first dev place; cond_is = λ which. refl }

-- ---- the end of a group

set_stays : (reset : Bool) (a b : Space) → TurnsParts reset a b → (log : Log) (d : ℕ) → log_set log (part_of b.parts.devs d) ≡ log_set log (part_of a.parts.devs d)
set_stays reset a b turns Held d = turns.held d
set_stays reset a b turns Kept d = turns.kept d
set_stays reset a b turns Fresh d = turns.fresh d

no_late_set : (version dev : ℕ) → IsLate version dev [] []
no_late_set version dev = record { blocks = []; meta = []; blocks_maximal = tt; meta_maximal = tt; all = refl; block_runs = []; meta_runs = []; blocks_cut = refl; meta_cut = refl; spelling = record { lawful = tt; spelling = refl } }

below_all : (n m : ℕ) → n < m → nat_lt n m ≡ true
below_all n m lt = grind (arith, nat_tests, lt)

stage_of : (b : Bool) (x y : Stage) → b ≡ true → (if b then x else y) ≡ x
stage_of true x y is = refl
stage_of false x y is = cc

mapping_ends : (reset : Bool) (x y : OpenPool) → Commits reset x.space y.space → (dev : ℕ) (which : MappingStream) → words_at y dev which ≡ words_at x dev which
mapping_ends reset x y commits dev which =
    ap (λ (es : List Entry). mapping_words which es (part_of y.space.parts.devs dev).counts) (commits.entries dev) ∙ ap (λ (cs : List ℕ). mapping_words which (part_of x.space.parts.devs dev).entries cs) (commits.counts dev)

spelled_ends : (reset : Bool) (x y : OpenPool) → Commits reset x.space y.space → (dev : ℕ) → MaySpell x dev → MaySpell y dev
spelled_ends reset x y commits dev spelled =
    subst (λ (es : List Entry). IsSpelled es (part_of y.space.parts.devs dev).counts) (sym (commits.entries dev)) (subst (λ (cs : List ℕ). IsSpelled (part_of x.space.parts.devs dev).entries cs) (sym (commits.counts dev)) spelled)

-- behind it each stream records its part
at_end : (first : Stage) (reset : Bool) (count : ℕ) (x y : OpenPool) → y.version ≡ x.version → Commits reset x.space y.space → TurnsParts reset x.space y.space → (e : ℕ) (p : Place) (ws : List ℕ) → e < count → IsAt (settling first reset count e p) x e p ws → IsAt Recorded y e p ws
at_end first true count x y version commits turns e (OfLog log) ws lt is = rw version (subst (λ (es : List Extent). IsLog x.version e ws es) (sym (set_stays true x.space y.space turns log e)) is)
at_end first false count x y version commits turns e (OfLog log) ws lt is = rw version (subst (λ (es : List Extent). IsLog x.version e ws es) (sym (set_stays false x.space y.space turns log e)) is)
at_end first true count x y version commits turns e (OfMapping which) ws lt is = (is.0 ∙ sym (mapping_ends true x y commits e which), spelled_ends true x y commits e is.1)
at_end first false count x y version commits turns e (OfMapping which) ws lt is = (is.0 ∙ sym (mapping_ends false x y commits e which), spelled_ends false x y commits e is.1)
at_end first true count x y version commits turns e FirstLate ws lt is =
    let none : ws ≡ [] = subst (λ (s : Stage). IsAt s x e FirstLate ws) (stage_of (nat_lt e count) Given first (below_all e count lt)) is in
    subst (λ (runs : List LateRun). IsLate y.version e ws runs) (sym (turns.first e)) (subst (λ (us : List ℕ). IsLate y.version e us []) (sym none) (no_late_set y.version e))
at_end first false count x y version commits turns e FirstLate ws lt is =
    let late : IsLate x.version e ws (waiting_runs (opened_of x.space e)) = subst (λ (s : Stage). IsAt s x e FirstLate ws) (stage_of (nat_lt e count) Written Given (below_all e count lt)) is in
    subst (λ (runs : List LateRun). IsLate y.version e ws runs) (sym (turns.first e)) (rw version late)
at_end first true count x y version commits turns e SecondLate ws lt is =
    let none : ws ≡ [] = subst (λ (s : Stage). IsAt s x e SecondLate ws) (stage_of (nat_lt e count) Given first (below_all e count lt)) is in
    subst (λ (runs : List LateRun). IsLate y.version e ws runs) (sym (turns.second e)) (subst (λ (us : List ℕ). IsLate y.version e us []) (sym none) (no_late_set y.version e))
at_end first false count x y version commits turns e SecondLate ws lt is =
    let late : IsLate x.version e ws (part_of x.space.parts.devs e).late1 = subst (λ (s : Stage). IsAt s x e SecondLate ws) (stage_of (nat_lt e count) Written Given (below_all e count lt)) is in
    subst (λ (runs : List LateRun). IsLate y.version e ws runs) (sym (turns.second e)) (rw version late)

aged_current : (r : Role) → is_current (aged r) ≡ is_current r
aged_current r = grind (arith, nat_tests)

cleared_current : (r : Role) → is_current (cleared r) ≡ is_current r
cleared_current r = grind (arith, nat_tests)

end_current : (reset : Bool) (r : Role) → is_current (if reset then cleared r else aged r) ≡ is_current r
end_current true r = cleared_current r
end_current false r = aged_current r

-- a group that ends leaves what the disks hold of metadata
meta_ends : (reset : Bool) (t : Type 0) (disks : List (List ℕ)) (x y : OpenPool) (s : Stored) → y.table ≡ x.table → y.cache ≡ x.cache → Commits reset x.space y.space → ((a : Dva) → IsMeta x.space a → IsMeta y.space a) → HasMeta t disks x s → Now (HasMeta t disks y) (λ n. Swaps s n [] [])
meta_ends reset t disks x y s table cache commits metas held =
    let devices = commits_devices reset x.space y.space commits in
    subst (λ (w : Table). Now (HoldsBlocks Meta w.slots t disks y.space None y.cache) (λ n. Swaps s n [] [])) (sym table)
    (subst (λ (k : Cache). Now (HoldsBlocks Meta x.table.slots t disks y.space None k) (λ n. Swaps s n [] [])) (sym cache)
    (held_again Meta x.table.slots t t disks disks x.space y.space None x.cache x.cache s held.told (read_same disks x.table.slots x.space y.space x.cache devices held.read)
    (λ a h. record { used = metas a h.used; whole = tt })
    (λ a h. ap (λ (ds : Devices). address_bytes (record { disks = disks; slots = x.table.slots; devices = ds }) a) devices)
    (λ d u. subst (λ (ds : Devices). live_hits ds (addresses_of s.pointers) d u ≤ 1) (sym devices) (held.once d u))
    (meta_same x.space y.space (addresses_of s.pointers) devices (λ d u. ap is_current (commits.roles d u) ∙ end_current reset (role_at x.space d u)) held.all)
    tt
    held))

-- A root is published, and the group ends: each stream records its part.
pub records : (first : Stage) (reset : Bool) (more : List Standing) (t1 t2 : Type 0) (d1 d2 : List (List ℕ)) (x y : OpenPool) → (t1 → t2) → (t1 → (a : Dva) → address_bytes (view_of d2 x.table.slots x.space) a ≡ address_bytes (view_of d1 x.table.slots x.space) a)
    → y.version ≡ x.version → y.table ≡ x.table → y.cache ≡ x.cache → y.streams ≡ x.streams → y.cond ≡ x.cond → Commits reset x.space y.space → TurnsParts reset x.space y.space → ((a : Dva) → IsMeta x.space a → IsMeta y.space a)
    → HoldsStreams (settling first reset x.table.count) (one_stage Written) more t1 d1 x → HoldsStreams (every Recorded) (one_stage Recorded) more t2 d2 y
records first reset more t1 t2 d1 d2 x y told same version table cache streams cond commits turns metas h =
    let published : HasMeta t2 d2 x h.stored = same_holds Meta x.table.slots t1 t2 d1 d2 x.space x.cache h.stored (told h.held.told) (same h.held.told) h.held in
    let later = meta_ends reset t2 d2 x y h.stored table cache commits metas published in
    stand_still (settling first reset x.table.count) (every Recorded) (one_stage Written) (one_stage Recorded) more t1 t2 d1 d2 x y h streams cond table later.stored later.held later.is
    (λ e p ws lt is. at_end first reset x.table.count x y version commits turns e p ws lt is)
    (λ which ws is c at. is c (sym commits.cond ∙ at))
