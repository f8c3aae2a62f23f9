-- What a commit has recorded, as the next group finds it.
use Rattle.std.proofs.Common.{◌≡◌, ◌∙◌, ℕ, List, [], length, Option, None, sym, ap, subst, arith}
use Rattle.std.proofs.lemmas.List.{take_all}
use Rattle.zr_base.specs.declared.space.Entry.{Entry}
use Rattle.zr_bptr.specs.declared.Tree.{Tree}
use Rattle.zr_rules.specs.Places.{part_of}
use Rattle.zr_rules.specs.Space.{Space, nothing_opened, opened_of}
use Rattle.zr_shelf.specs.Counts.{Counts}
use Rattle.zr_shelf.specs.Moments.{World}
use Rattle.zr_store.specs.Store.{Now, Swaps}
use Rattle.zr_vdev.specs.Stores.{HoldsBlocks}
use Rattle.zr_vdev.specs.declared.kind.Kind.TheVariants.{Meta}
use Rattle.zr_vdev.proofs.Frames.{held_beside}
use Rattle.zr_sync.specs.Mappings.{HasFirst, IsSpelled, mapping_words}
use Rattle.zr_sync.specs.Pools.{IsOpen}
use Rattle.zr_sync.specs.Trees.{Place, HasJustBegun, HasTrees, HoldsStreams, IsAt, every, head_tree, one_stage}
use Rattle.zr_sync.specs.Trees.Place.{OfLog, OfMapping, FirstLate, SecondLate}
use Rattle.zr_sync.specs.Trees.Stage.{Had, Recorded}
use Rattle.zr_sync.specs.Words.{IsLastLog, IsLogNow, log_has, log_was}
use Rattle.zr_sync.specs.Writes.{WritesBlocks}
use Rattle.zr_sync.specs.declared.logs.Logs.TheVariants.{Grow}
use Rattle.zr_sync.specs.declared.mappings.MappingStream.{MappingStream}
use Rattle.zr_sync.specs.declared.mappings.MappingStream.TheVariants.{Entries, Counts as CountsOf}
use Rattle.zr_sync.specs.declared.open.OpenPool.{OpenPool}
use Rattle.zr_sync.specs.declared.words.Log.{Log}
use Rattle.zr_sync.specs.declared.words.Log.TheVariants.{Held, Kept, Fresh}
use Rattle.zr_sync.proofs.KeptSets.{held_before, kept_before, fresh_before}
use Rattle.zr_sync.proofs.Recording.{first_cond_stays, first_stays, stand_still}

was_is : (log : Log) (s : Space) (d u : ℕ) → opened_of s d ≡ nothing_opened → log_was log s d u ≡ log_has log s d u
was_is Held s d u none = held_before s d u none
was_is Kept s d u none = kept_before s d u none
was_is Fresh s d u none = fresh_before s d u none

last_of_now : (version : ℕ) (s : Space) (d : ℕ) (log : Log) (ws : List ℕ) → opened_of s d ≡ nothing_opened → IsLogNow version s d log ws → IsLastLog version s d log ws
last_of_now version s d Held ws none is = record { set = (part_of s.parts.devs d).held; log_is = is; units = λ u. sym (was_is Held s d u none) }
last_of_now version s d Kept ws none is = record { set = (part_of s.parts.devs d).kept; log_is = is; units = λ u. sym (was_is Kept s d u none) }
last_of_now version s d Fresh ws none is = record { set = (part_of s.parts.devs d).fresh; log_is = is; units = λ u. sym (was_is Fresh s d u none) }

-- all of them are the first ones
all_first : (which : MappingStream) (entries : List Entry) (counts ws : List ℕ) → IsSpelled entries counts → ws ≡ mapping_words which entries counts → HasFirst which entries counts ws
all_first Entries entries counts ws spelled is = (length entries, omega arith, is ∙ ap (λ (es : List Entry). mapping_words Entries es counts) (sym (take_all (length entries) entries (omega arith))))
all_first CountsOf entries counts ws spelled is = (length entries, omega arith, is ∙ sym (take_all (length entries) counts (let each = spelled.each in omega (arith, each))))

begins_at : (pool : OpenPool) → HasJustBegun pool → (e : ℕ) (p : Place) (ws : List ℕ) → IsAt Recorded pool e p ws → IsAt Had pool e p ws
begins_at pool begun e (OfLog log) ws is = last_of_now pool.version pool.space e log ws (begun e) is
begins_at pool begun e (OfMapping which) ws is = (λ same. all_first which (part_of pool.space.parts.devs e).entries (part_of pool.space.parts.devs e).counts ws is.1 is.0, is.1)
begins_at pool begun e FirstLate ws is = tt
begins_at pool begun e SecondLate ws is = tt

pub begins_again : (tells : Type 0) (disks : List (List ℕ)) (pool : OpenPool) → HasJustBegun pool → HasTrees Recorded tells disks pool → HasTrees Had tells disks pool
begins_again tells disks pool begun trees =
    let h = trees.1 in (
      trees.0,
      record {
        stored = h.stored;
        held = h.held;
        words = h.words;
        cond = h.cond;
        beside = h.beside;
        counts = h.counts;
        cond_counts = h.cond_counts;
        are = λ e p lt. begins_at pool begun e p (h.words e p) (h.are e p lt);
        are_cond = λ which c at. let is = h.are_cond which c at in (λ done. all_first which c.entries c.counts (h.cond which) is.1 is.0, is.1);
      },
    )

-- blocks of objects leave the trees of streams
pub blocks_leave : (n1 n2 : List ℕ) (c1 c2 : Counts) (t1 t2 : Type 0) (w1 w2 : World) (x y : OpenPool) → IsOpen n1 x → WritesBlocks n1 n2 c1 c2 t1 t2 w1 w2 x y → HasTrees Had t1 w1.now.seen x → HasTrees Had t2 w2.now.seen y
blocks_leave n1 n2 c1 c2 t1 t2 w1 w2 x y o wrote trees =
    let h = trees.1 in
    let rest = wrote.rest in
    let more = head_tree x.head trees.0 in
    let slots : y.table.slots ≡ x.table.slots = ap (λ (p : OpenPool). p.table.slots) rest in
    let later = subst (λ (ss : List (Option ℕ)). Now (HoldsBlocks Meta ss t2 w2.now.seen y.space None y.cache) (λ n. Swaps h.stored n [] [])) (sym slots)
    (held_beside Meta x.table.slots n1 n2 c1 c2 t1 t2 w1 w2 x.space y.space None x.cache y.cache h.stored o.mounted.apart wrote.goes h.held) in
    let now =
    stand_still (every Had) (every Had) (one_stage Had) (one_stage Had) more t1 t2 w1.now.seen w2.now.seen x y h (ap (λ (p : OpenPool). p.streams) rest) (ap (λ (p : OpenPool). p.cond) rest) (ap (λ (p : OpenPool). p.table) rest) later.stored later.held later.is
    (λ e p ws lt is. first_stays Grow x y wrote.goes.space (ap (λ (q : OpenPool). q.version) rest) (ap (λ (q : OpenPool). q.turned) rest) e p ws is)
    (λ which ws is. first_cond_stays Grow x y wrote.goes.space (ap (λ (q : OpenPool). q.cond) rest) which ws is) in
    (trees.0, subst (λ (t : Tree). HoldsStreams (every Had) (one_stage Had) (head_tree t trees.0) t2 w2.now.seen y) (sym (ap (λ (p : OpenPool). p.head) rest)) now)
