-- What becomes of the trees of a condensing.
use Rattle.std.proofs.Common.{◌≡◌, ◌≢◌, ◌∙◌, ℕ, Bool, true, false, List, [], ◌∷◌, ◌++◌, Some, length, refl, sym, ap, subst, arith, if◌then◌else◌}
use Rattle.std.specs.Prelude.{All, nat_lt}
use Rattle.std.proofs.lemmas.List.{append-nil, append_assoc}
use Rattle.std.proofs.lemmas.List.Elements.{All-nil, All-cons}
use Rattle.zr_base.specs.declared.space.CondPart.{CondPart}
use Rattle.zr_base.specs.declared.space.Entry.{Entry}
use Rattle.zr_base.specs.Words.{words}
use Rattle.zr_beside.specs.Beside.{Standing, StandBeside, Stands, blocks_of, of_stream}
use Rattle.zr_beside.proofs.Beside.{one_stored, one_bytes}
use Rattle.zr_beside.proofs.Staying.{weigh_two}
use Rattle.zr_bptr.specs.declared.Bptr.{Bptr}
use Rattle.zr_bptr.specs.declared.Ptr.TheVariants.{Hole}
use Rattle.zr_commit.specs.Logs.{Rewrites, streams_reach}
use Rattle.zr_meta.specs.declared.Stream.{Stream}
use Rattle.zr_root.specs.Streams.{HasBytes, HasSum, HasWords, IsUnitAt}
use Rattle.zr_store.specs.Store.{AreStored, Now, Stored, Swaps}
use Rattle.zr_tree.specs.Trees.{IsAmong, tree_reach}
use Rattle.zr_vdev.specs.Stores.{KeepsOthers}
use Rattle.zr_vdev.specs.declared.kind.Kind.TheVariants.{Meta}
use Rattle.zr_sync.specs.Empty.{no_cond, no_stream}
use Rattle.zr_sync.specs.Mappings.{HasFirst, IsSpelled, cond_stream, mapping_words, with_cond_stream}
use Rattle.zr_sync.specs.Streams.{HasMeta}
use Rattle.zr_sync.specs.Trees.{Place, Stage, HasNoLateYet, HoldsStreams, IsCondAt, cond_trees, first_stage, one_stage}
use Rattle.zr_sync.specs.Trees.Stage.{Had, Untold, Given, Written, Recorded}
use Rattle.zr_sync.specs.declared.logs.Logs.{Logs}
use Rattle.zr_sync.specs.declared.logs.Logs.TheVariants.{Grow, Anew}
use Rattle.zr_sync.specs.declared.mappings.MappingStream.{MappingStream}
use Rattle.zr_sync.specs.declared.mappings.MappingStream.TheVariants.{Entries, Counts}
use Rattle.zr_sync.specs.declared.open.CondStreams.{CondStreams}
use Rattle.zr_sync.specs.declared.open.OpenPool.{OpenPool}
use Rattle.zr_sync.proofs.HeadTrees.{behind_changed, rows_in}
use Rattle.zr_sync.proofs.Stages.{IsSameFrame, alike_yet, at_stays}

-- ---- stages

-- the first stream is written, and the second is not yet
abbrev pub half : Stage → MappingStream → Stage
half first Entries = Written
half first Counts = first

pub apart : Entries ≡ Counts → ⊥
apart e = cc

pub half_more : (first : Stage) (other : MappingStream) → other ≢ Entries → half first other ≡ one_stage first other
half_more first Entries ne = absurd (ne refl)
half_more first Counts ne = refl

pub all_more : (first : Stage) (other : MappingStream) → other ≢ Counts → one_stage Written other ≡ half first other
all_more first Entries ne = refl
all_more first Counts ne = absurd (ne refl)

-- once the streams of a condensing that is done are given back, none is done
pub none_done : (x y : CondStreams) → y ≡ (if x.done then no_cond else x) → y.done ≡ false
none_done x y is = (elim x.done as (λ (b : Bool). x.done ≡ b → y ≡ (if b then no_cond else x) → y.done ≡ false) [
  | true ↦ λ was so. ap (λ (t : CondStreams). t.done) so
  | false ↦ λ was so. ap (λ (t : CondStreams). t.done) so ∙ was
]) refl is

-- what one of the streams has at its stage stays so, where the condensing is still as much done
pub cond_still : (x y : OpenPool) → KeepsOthers Meta x.space y.space → y.cond.done ≡ x.cond.done → (stage : Stage) (which : MappingStream) (ws : List ℕ) → IsCondAt stage x which ws → IsCondAt stage y which ws
cond_still x y others done Had which ws is = λ c at.
    let had = is c (sym others.rows.cond ∙ at) in
    (λ not_done. had.0 (sym done ∙ not_done), had.1)
cond_still x y others done Untold which ws is = λ c at. is c (sym others.rows.cond ∙ at)
cond_still x y others done Given which ws is = is
cond_still x y others done Written which ws is = λ c at. is c (sym others.rows.cond ∙ at)
cond_still x y others done Recorded which ws is = λ c at. is c (sym others.rows.cond ∙ at)

-- ---- one of the streams

abbrev front : MappingStream → CondStreams → (MappingStream → List ℕ) → List Standing
front Entries t w = []
front Counts t w = of_stream t.entries (w Entries) ∷ []

abbrev back : MappingStream → CondStreams → (MappingStream → List ℕ) → List Standing → List Standing
back Entries t w more = of_stream t.counts (w Counts) ∷ more
back Counts t w more = more

-- the words of the streams, of which those of one are others
abbrev cond_with : MappingStream → (MappingStream → List ℕ) → List ℕ → MappingStream → List ℕ
cond_with Entries w ns Entries = ns
cond_with Entries w ns Counts = w Counts
cond_with Counts w ns Entries = w Entries
cond_with Counts w ns Counts = ns

old_pair : (which : MappingStream) (t : CondStreams) (w : MappingStream → List ℕ) (more : List Standing) → cond_trees t w ++ more ≡ front which t w ++ (of_stream (cond_stream which t) (w which) ∷ back which t w more)
old_pair Entries t w more = refl
old_pair Counts t w more = refl

new_pair : (which : MappingStream) (t : CondStreams) (w : MappingStream → List ℕ) (stream : Stream) (ns : List ℕ) (more : List Standing) → cond_trees (with_cond_stream which t stream) (cond_with which w ns) ++ more ≡ front which t w ++ (of_stream stream ns ∷ back which t w more)
new_pair Entries t w stream ns more = refl
new_pair Counts t w stream ns more = refl

pub still_done : (which : MappingStream) (t : CondStreams) (stream : Stream) → (with_cond_stream which t stream).done ≡ t.done
still_done Entries t stream = refl
still_done Counts t stream = refl

counts_with : (which : MappingStream) (t : CondStreams) (w : MappingStream → List ℕ) (stream : Stream) (ns : List ℕ) → length ns ≡ stream.words → ((other : MappingStream) → length (w other) ≡ (cond_stream other t).words) → (other : MappingStream) → length (cond_with which w ns other) ≡ (cond_stream other (with_cond_stream which t stream)).words
counts_with Entries t w stream ns count counts Entries = count
counts_with Entries t w stream ns count counts Counts = counts Counts
counts_with Counts t w stream ns count counts Entries = counts Entries
counts_with Counts t w stream ns count counts Counts = count

each_is : (which : MappingStream) (w : MappingStream → List ℕ) (ns : List ℕ) (Is : MappingStream → List ℕ → Type 0) → Is which ns → ((other : MappingStream) → other ≢ which → Is other (w other)) → (other : MappingStream) → Is other (cond_with which w ns other)
each_is Entries w ns Is here there Entries = here
each_is Entries w ns Is here there Counts = there Counts (λ e. apart (sym e))
each_is Counts w ns Is here there Entries = there Entries apart
each_is Counts w ns Is here there Counts = here

-- what stands in one of the streams
pub cond_stands : (stage : ℕ → Place → Stage) (cond : MappingStream → Stage) (more : List Standing) (tells : Type 0) (disks : List (List ℕ)) (x : OpenPool) (h : HoldsStreams stage cond more tells disks x) (which : MappingStream)
    → AreStored (tree_reach h.stored (cond_stream which x.cond).tree) h.stored × HasWords h.stored (cond_stream which x.cond) (h.cond which)
cond_stands stage cond more tells disks x h which =
    let w = of_stream (cond_stream which x.cond) (h.cond which) in
    let before = front which x.cond h.cond in
    let behind = back which x.cond h.cond more in
    let beside : StandBeside h.stored ((rows_in x h.words ++ before) ++ (w ∷ behind)) =
    subst (λ (all : List Standing). StandBeside h.stored all) (ap (λ (xs : List Standing). rows_in x h.words ++ xs) (old_pair which x.cond h.cond more) ∙ sym (append_assoc (rows_in x h.words) before (w ∷ behind))) h.beside in
    (one_stored h.stored (rows_in x h.words ++ before) behind w beside, record { count = h.cond_counts which; bytes = one_bytes h.stored (rows_in x h.words ++ before) behind w beside })

-- one of the streams is written
module _ (stage : ℕ → Place → Stage) (cond next : MappingStream → Stage) (more : List Standing) (t1 t2 : Type 0) (d1 d2 : List (List ℕ)) (x y : OpenPool) (f : IsSameFrame x y) (kept : KeepsOthers Meta x.space y.space) (count : y.table.count ≡ x.table.count) (streams : y.streams.items ≡ x.streams.items) (none : HasNoLateYet stage)
    (h : HoldsStreams stage cond more t1 d1 x) (which : MappingStream) (stream : Stream) (ns : List ℕ) (same : y.cond ≡ with_cond_stream which x.cond stream) (wrote : Now (HasMeta t2 d2 y) (λ n. Rewrites h.stored n (cond_stream which x.cond) stream ns))
    (now : (c : CondPart) → x.space.parts.cond ≡ Some c → (ns ≡ mapping_words which c.entries c.counts) × IsSpelled c.entries c.counts) (turned : next which ≡ Written) (rest : (other : MappingStream) → other ≢ which → next other ≡ cond other) where
  abbrev v : MappingStream → List ℕ
  v = cond_with which h.cond ns

  done : y.cond.done ≡ x.cond.done
  done = ap (λ (t : CondStreams). t.done) same ∙ still_done which x.cond stream

  this_is : IsCondAt (next which) y which ns
  this_is = subst (λ (s : Stage). IsCondAt s y which ns) (sym turned) (λ c at. now c (sym kept.rows.cond ∙ at))

  other_is : (other : MappingStream) → other ≢ which → IsCondAt (next other) y other (h.cond other)
  other_is other ne = subst (λ (s : Stage). IsCondAt s y other (h.cond other)) (sym (rest other ne)) (cond_still x y kept done (cond other) other (h.cond other) (h.are_cond other))

  swapped : Swaps h.stored wrote.stored (blocks_of h.stored (of_stream (cond_stream which x.cond) (h.cond which) ∷ [])) (blocks_of wrote.stored (of_stream stream ns ∷ []))
  swapped =
      subst (λ (bs : List Bptr). Swaps h.stored wrote.stored bs (blocks_of wrote.stored (of_stream stream ns ∷ []))) (sym (append-nil (tree_reach h.stored (cond_stream which x.cond).tree)))
      (subst (λ (bs : List Bptr). Swaps h.stored wrote.stored (tree_reach h.stored (cond_stream which x.cond).tree) bs) (sym (append-nil (tree_reach wrote.stored stream.tree))) wrote.is.swaps)

  pub cond_written : HoldsStreams stage next more t2 d2 y
  cond_written =
      behind_changed stage cond next more more t1 t2 d1 d2 x y h count streams v (front which x.cond h.cond) (of_stream (cond_stream which x.cond) (h.cond which) ∷ []) (of_stream stream ns ∷ []) (back which x.cond h.cond more) (old_pair which x.cond h.cond more)
      (ap (λ (t : CondStreams). cond_trees t v ++ more) same ∙ new_pair which x.cond h.cond stream ns more) wrote.stored wrote.held swapped (All-cons (Stands wrote.stored) (of_stream stream ns) [] wrote.is.stands.bytes (All-nil (Stands wrote.stored)))
      (λ other. counts_with which x.cond h.cond stream ns wrote.is.stands.count h.cond_counts other ∙ ap (λ (t : CondStreams). (cond_stream other t).words) (sym same)) (λ e p ws lt is. at_stays x y f kept (stage e p) e p ws (alike_yet x y stage none e p) is)
      (each_is which h.cond ns (λ other ws. IsCondAt (next other) y other ws) this_is other_is)

-- ---- a condensing that is done

-- nothing stands in a tree of no words
empty_stands : (n : Stored) → HasBytes n no_stream.tree (words [])
empty_stands n = record {
  leaves = [];
  are_leaves = record { places = λ index. nothing (nat_lt index 1); units = All-nil (IsUnitAt 0); whole = λ b among. absurd (none_among b among) };
  count = refl;
  long = All-nil (λ b. length (n.bytes b) ≡ 4096);
  sums = All-nil (HasSum n);
  spelling = refl;
}
  where
    nothing : (b : Bool) → (if b then Hole else Hole) ≡ Hole
    nothing true = refl
    nothing false = refl

    none_among : (b : Bptr) → IsAmong b [] → ⊥
    none_among b among = let one = among (λ x. 1) in omega (arith, one)

abbrev nothing_in : MappingStream → List ℕ
nothing_in which = []

abbrev both : CondStreams → List Stream
both t = t.entries ∷ t.counts ∷ []

no_words : (which : MappingStream) → length (nothing_in which) ≡ (cond_stream which no_cond).words
no_words Entries = refl
no_words Counts = refl

first_none : (which : MappingStream) (entries : List Entry) (counts : List ℕ) → HasFirst which entries counts []
first_none Entries entries counts = (0, omega arith, refl)
first_none Counts entries counts = (0, omega arith, refl)

-- the blocks of both streams are stored
pub both_stored : (stage : ℕ → Place → Stage) (cond : MappingStream → Stage) (more : List Standing) (tells : Type 0) (disks : List (List ℕ)) (x : OpenPool) (h : HoldsStreams stage cond more tells disks x) → AreStored (streams_reach h.stored (both x.cond)) h.stored
both_stored stage cond more tells disks x h weight =
    let held = h.beside.stored weight in
    let a = weigh_two h.stored (rows_in x h.words) (cond_trees x.cond h.cond ++ more) weight in
    let b = weigh_two h.stored (cond_trees x.cond h.cond) more weight in
    omega (arith, held, a, b)

-- what was told of a stream holds of one of no words
none_told : (logs : Logs) (x y : OpenPool) → KeepsOthers Meta x.space y.space → (which : MappingStream) (ws : List ℕ) → IsCondAt (first_stage logs) x which ws → IsCondAt (first_stage logs) y which []
none_told Grow x y kept which ws is = λ c at. (λ not_done. first_none which c.entries c.counts, (is c (sym kept.rows.cond ∙ at)).1)
none_told Anew x y kept which ws is = λ c at. is c (sym kept.rows.cond ∙ at)

-- both streams of a condensing that is done are given back
module _ (logs : Logs) (stage : ℕ → Place → Stage) (more : List Standing) (t1 t2 : Type 0) (d1 d2 : List (List ℕ)) (x y : OpenPool) (f : IsSameFrame x y) (kept : KeepsOthers Meta x.space y.space) (count : y.table.count ≡ x.table.count) (streams : y.streams.items ≡ x.streams.items) (none : HasNoLateYet stage) (same : y.cond ≡ no_cond)
    (h : HoldsStreams stage (one_stage (first_stage logs)) more t1 d1 x) (gives : Now (HasMeta t2 d2 y) (λ n. Swaps h.stored n (streams_reach h.stored (both x.cond)) [])) where
  both_stand : All (Stands gives.stored) (cond_trees no_cond nothing_in)
  both_stand =
      All-cons (Stands gives.stored) (of_stream no_stream []) (of_stream no_stream [] ∷ []) (empty_stands gives.stored)
      (All-cons (Stands gives.stored) (of_stream no_stream []) [] (empty_stands gives.stored) (All-nil (Stands gives.stored)))

  pub cond_given : HoldsStreams stage (one_stage (first_stage logs)) more t2 d2 y
  cond_given =
      behind_changed stage (one_stage (first_stage logs)) (one_stage (first_stage logs)) more more t1 t2 d1 d2 x y h count streams nothing_in [] (cond_trees x.cond h.cond) (cond_trees no_cond nothing_in) more refl (ap (λ (t : CondStreams). cond_trees t nothing_in ++ more) same) gives.stored gives.held gives.is both_stand
      (λ which. no_words which ∙ ap (λ (t : CondStreams). (cond_stream which t).words) (sym same)) (λ e p ws lt is. at_stays x y f kept (stage e p) e p ws (alike_yet x y stage none e p) is)
      (λ which. none_told logs x y kept which (h.cond which) (h.are_cond which))
