-- The trees of late sets, which a commit gives back and writes.
use Rattle.std.proofs.Common.{◌≡◌, ◌≢◌, ◌∙◌, ℕ, ◌+◌, ◌<◌, Bool, true, false, List, [], ◌∷◌, ◌++◌, length, refl, sym, ap, subst, arith, if◌then◌else◌}
use Rattle.std.specs.Prelude.{All, nat_lt, slice_set}
use Rattle.std.specs.List.{sum_by}
use Rattle.std.proofs.lemmas.Bool.Decides.{nat_tests}
use Rattle.std.proofs.lemmas.List.Elements.{All-nil, All-cons}
use Rattle.std.proofs.lemmas.List.Sums.{sum_by-append}
use Rattle.zr_beside.specs.Beside.{Standing, StandBeside, StandIn, Stands, blocks_of, of_stream, rows_of}
use Rattle.zr_beside.proofs.Beside.{comes_in, same_blocks}
use Rattle.zr_beside.proofs.Rows.{around}
use Rattle.zr_beside.proofs.Staying.{weigh_two}
use Rattle.zr_bptr.specs.declared.Bptr.{Bptr}
use Rattle.zr_bptr.specs.declared.Ptr.{Ptr}
use Rattle.zr_bptr.specs.declared.Ptr.TheVariants.{Hole, At}
use Rattle.zr_base.specs.Words.{words}
use Rattle.zr_commit.specs.Logs.{streams_reach}
use Rattle.zr_meta.specs.Heads.{IsStream, IsTreeOf}
use Rattle.zr_meta.specs.declared.Stream.{Stream}
use Rattle.zr_root.specs.Streams.{StoresWords}
use Rattle.zr_root.proofs.Words.{hole_bytes}
use Rattle.zr_store.specs.Store.{Stored, AreStored, IsOnce, Now, Swaps, one_at}
use Rattle.zr_tree.specs.Trees.{reach, tree_reach}
use Rattle.zr_vdev.specs.Stores.{KeepsOthers, WaitsStill}
use Rattle.zr_vdev.specs.declared.kind.Kind.TheVariants.{Meta}
use Rattle.zr_sync.specs.Empty.{no_stream, no_streams}
use Rattle.zr_sync.specs.Pools.{AreStreams}
use Rattle.zr_sync.specs.Streams.{HasMeta, WritesLates, late_streams, streams_at}
use Rattle.zr_sync.specs.Trees.{Place, Stage, HasNoLateYet, HoldsStreams, IsAt, device_trees, cond_trees, giving, is_late, laying, stream_in, writing}
use Rattle.zr_sync.specs.Trees.Place.{OfLog, OfMapping, FirstLate, SecondLate}
use Rattle.zr_sync.specs.Trees.Stage.{Given, Written}
use Rattle.zr_sync.specs.declared.mappings.MappingStream.{MappingStream}
use Rattle.zr_sync.specs.declared.mappings.MappingStream.TheVariants.{Entries, Counts}
use Rattle.zr_sync.specs.declared.open.DeviceStreams.{DeviceStreams}
use Rattle.zr_sync.specs.declared.open.OpenPool.{OpenPool}
use Rattle.zr_sync.specs.declared.words.Log.{Log}
use Rattle.zr_sync.specs.declared.words.Log.TheVariants.{Held, Kept, Fresh}
use Rattle.zr_sync.proofs.Stages.{IsSameFrame, WaitsAlike, alike_still, alike_yet, at_stays, cond_stays}
use Rattle.zr_sync.proofs.TreeRows.{row_written}

-- ---- the stages

one_more : (e dev : ℕ) → e ≢ dev → nat_lt e (dev + 1) ≡ nat_lt e dev
one_more e dev ne = grind (arith, nat_tests, ne)

this_one : (dev : ℕ) → nat_lt dev (dev + 1) ≡ true
this_one dev = grind (arith, nat_tests)

not_yet : (dev : ℕ) → nat_lt dev dev ≡ false
not_yet dev = grind (arith, nat_tests)

below : (e count : ℕ) → e < count → nat_lt e count ≡ true
below e count lt = grind (arith, nat_tests, lt)

none_below : (e : ℕ) → nat_lt e 0 ≡ false
none_below e = grind (arith, nat_tests)

giving_elsewhere : (first : Stage) (dev e : ℕ) (p : Place) → e ≢ dev → giving first (dev + 1) e p ≡ giving first dev e p
giving_elsewhere first dev e p ne = ap (λ (b : Bool). if is_late p then (if b then Given else first) else Written) (one_more e dev ne)

laying_elsewhere : (dev e : ℕ) (p : Place) → e ≢ dev → laying (dev + 1) e p ≡ laying dev e p
laying_elsewhere dev e p ne = ap (λ (b : Bool). if is_late p then (if b then Written else Given) else Written) (one_more e dev ne)

given_or_first : (first : Stage) → first ≢ Written → (b : Bool) → (if b then Given else first) ≡ Written → ⊥
given_or_first first unwritten true e = cc
given_or_first first unwritten false e = unwritten e

pub giving_no_late : (first : Stage) → first ≢ Written → (dev : ℕ) → HasNoLateYet (giving first dev)
giving_no_late first unwritten dev e is = given_or_first first unwritten (nat_lt e dev) is

-- where all other streams are written none is given back yet
pub all_first : (first : Stage) (count e : ℕ) (p : Place) → e < count → giving first 0 e p ≡ writing first count e p
all_first first count e p lt =
    ap (λ (b : Bool). if is_late p then (if b then Given else first) else Written) (none_below e)
    ∙ sym (ap (λ (b : Bool). if b then (if is_late p then first else Written) else first) (below e count lt))

-- where all late sets are given back none is written yet
pub all_given : (first : Stage) (count e : ℕ) (p : Place) → e < count → laying 0 e p ≡ giving first count e p
all_given first count e p lt =
    ap (λ (b : Bool). if is_late p then (if b then Written else Given) else Written) (none_below e)
    ∙ sym (ap (λ (b : Bool). if is_late p then (if b then Given else first) else Written) (below e count lt))

-- ---- the blocks of a device's late sets

-- the trees of a device that stand before its late sets
abbrev before_lates : DeviceStreams → (Place → List ℕ) → List Standing
before_lates t w =
    of_stream t.held (w (OfLog Held)) ∷ of_stream t.kept (w (OfLog Kept)) ∷ of_stream t.entries (w (OfMapping Entries)) ∷ of_stream t.counts (w (OfMapping Counts))
    ∷ of_stream t.fresh (w (OfLog Fresh)) ∷ []

abbrev two_trees : Stream → Stream → List ℕ → List ℕ → List Standing
two_trees a b ns ms = of_stream a ns ∷ of_stream b ms ∷ []

-- the last trees of a row are stored
row_stored : (s : Stored) (f : ℕ → List Standing) (count d : ℕ) (first some rest : List Standing) → d < count → f d ≡ first ++ some → StandBeside s (rows_of f count ++ rest) → AreStored (blocks_of s some) s
row_stored s f count d first some rest lt is h weight =
    let a = around f f count d lt (λ i other. refl) in
    let held = h.stored weight in
    let u = weigh_two s (rows_of f count) rest weight in
    let v = ap (λ (xs : List Standing). sum_by weight (blocks_of s xs)) a.old in
    let x = weigh_two s a.front (f d ++ a.back) weight in
    let y = weigh_two s (f d) a.back weight in
    let z = ap (λ (xs : List Standing). sum_by weight (blocks_of s xs)) is in
    let w = weigh_two s first some weight in
    omega (arith, held, u, v, x, y, z, w)

pub lates_stored : (stage : ℕ → Place → Stage) (cond : MappingStream → Stage) (others : List Standing) (t1 : Type 0) (d1 : List (List ℕ)) (x : OpenPool) (h : HoldsStreams stage cond others t1 d1 x) (dev : ℕ) → dev < x.table.count → AreStored (streams_reach h.stored (late_streams (streams_at x dev))) h.stored
lates_stored stage cond others t1 d1 x h dev there =
    let t = streams_at x dev in
    let w = h.words dev in
    row_stored h.stored (λ e. device_trees (streams_at x e) (h.words e)) x.table.count dev (before_lates t w) (two_trees t.late1 t.late2 (w FirstLate) (w SecondLate)) (cond_trees x.cond h.cond ++ others) there refl h.beside

-- a stream of no words has no blocks
none_reached : (s : Stored) (ns height : ℕ) (root : Ptr) → IsTreeOf ns height root → ns ≡ 0 → reach s height root ≡ []
none_reached s ns height Hole is none = ap (λ (k : ℕ). reach s k Hole) is.1
none_reached s ns height (At b) is none = let some = is.0 in absurd (omega (arith, some, none))

empty_reached : (s : Stored) (t : Stream) → IsStream t → t.words ≡ 0 → tree_reach s t.tree ≡ []
empty_reached s t is none = none_reached s t.words t.tree.height t.tree.root is none

two_empty : (s : Stored) (a b : Stream) → IsStream a → IsStream b → a.words ≡ 0 → b.words ≡ 0 → streams_reach s (a ∷ b ∷ []) ≡ []
two_empty s a b first second no_first no_second =
    ap (λ (bs : List Bptr). bs ++ (tree_reach s b.tree ++ [])) (empty_reached s a first no_first) ∙ ap (λ (bs : List Bptr). bs ++ []) (empty_reached s b second no_second)

-- ---- two streams that came

module _ (s mid n : Stored) (once : IsOnce n) (a b : Stream) (ns ms : List ℕ) (first : StoresWords s mid a ns) (second : StoresWords mid n b ms) where
  first_beside : StandIn mid (of_stream a ns ∷ [])
  first_beside = record {
    stored = λ weight.
        let came = first.came.stored weight in
        let one = sum_by-append weight (tree_reach mid a.tree) [] in
        omega (arith, came, one);
    once = λ at.
        let came = second.came.stored (one_at at) in
        let one = once at in
        omega (arith, came, one);
    stand = All-cons (Stands mid) (of_stream a ns) [] first.stands.bytes (All-nil (Stands mid));
  }

  both_beside : StandIn n (two_trees a b ns ms)
  both_beside = comes_in mid n (of_stream a ns ∷ []) [] b.tree (words ms) first_beside once second.came second.stands.bytes

  first_same : blocks_of n (of_stream a ns ∷ []) ≡ blocks_of mid (of_stream a ns ∷ [])
  first_same = same_blocks mid n (of_stream a ns ∷ []) [] [] (tree_reach n b.tree) first_beside second.came

  pub both_stand : All (Stands n) (two_trees a b ns ms)
  both_stand = both_beside.stand

  pub both_came : Swaps s n [] (blocks_of n (two_trees a b ns ms))
  both_came = record {
    stored = λ weight.
        let one = first.came.stored weight in
        let two = second.came.stored weight in
        let u = weigh_two n (of_stream a ns ∷ []) (of_stream b ms ∷ []) weight in
        let v = ap (λ (bs : List Bptr). sum_by weight bs) first_same in
        let w = sum_by-append weight (tree_reach mid a.tree) [] in
        let x = sum_by-append weight (tree_reach n b.tree) [] in
        omega (arith, one, two, u, v, w, x);
    kept = λ p free had.
        let came = first.came.stored (one_at p.at) in
        second.came.kept p refl (omega (arith, came, had)) ∙ first.came.kept p refl had;
  }

-- ---- the late sets of a device are others

-- the words of a device's streams, of which those of its late sets are others
abbrev with_lates : (Place → List ℕ) → List ℕ → List ℕ → Place → List ℕ
with_lates w ns ms (OfLog log) = w (OfLog log)
with_lates w ns ms (OfMapping which) = w (OfMapping which)
with_lates w ns ms FirstLate = ns
with_lates w ns ms SecondLate = ms

module _ (stage next : ℕ → Place → Stage) (cond : MappingStream → Stage) (others : List Standing) (t1 t2 : Type 0) (d1 d2 : List (List ℕ)) (x y : OpenPool) (f : IsSameFrame x y) (kept : KeepsOthers Meta x.space y.space) (same : y.cond ≡ x.cond) (count : y.table.count ≡ x.table.count)
    (dev : ℕ) (there : dev < x.table.count) (listed : dev < length x.streams.items) (h : HoldsStreams stage cond others t1 d1 x) (alike : (e : ℕ) (p : Place) → WaitsAlike (stage e p) p x y) (elsewhere : (e : ℕ) (p : Place) → e ≢ dev → next e p ≡ stage e p)
    (same_log : (log : Log) → next dev (OfLog log) ≡ stage dev (OfLog log)) (same_mapping : (which : MappingStream) → next dev (OfMapping which) ≡ stage dev (OfMapping which)) (a b : Stream) (ns ms : List ℕ)
    (streams : y.streams.items ≡ slice_set x.streams.items dev (record (streams_at x dev) { late1 = a; late2 = b })) (n : Stored) (held : HasMeta t2 d2 y n) (swaps : Swaps h.stored n (streams_reach h.stored (late_streams (streams_at x dev))) (blocks_of n (two_trees a b ns ms)))
    (stand : All (Stands n) (two_trees a b ns ms)) (first_count : length ns ≡ a.words) (second_count : length ms ≡ b.words) (first_is : IsAt (next dev FirstLate) y dev FirstLate ns) (second_is : IsAt (next dev SecondLate) y dev SecondLate ms) where
  abbrev t : DeviceStreams
  t = streams_at x dev

  abbrev now : DeviceStreams
  now = record t { late1 = a; late2 = b }

  abbrev v : Place → List ℕ
  v = with_lates (h.words dev) ns ms

  stays : (e : ℕ) (p : Place) (ws : List ℕ) → IsAt (stage e p) x e p ws → IsAt (stage e p) y e p ws
  stays e p ws is = at_stays x y f kept (stage e p) e p ws (alike e p) is

  v_counts : (p : Place) → length (v p) ≡ (stream_in p now).words
  v_counts (OfLog Held) = h.counts dev (OfLog Held) there
  v_counts (OfLog Kept) = h.counts dev (OfLog Kept) there
  v_counts (OfLog Fresh) = h.counts dev (OfLog Fresh) there
  v_counts (OfMapping Entries) = h.counts dev (OfMapping Entries) there
  v_counts (OfMapping Counts) = h.counts dev (OfMapping Counts) there
  v_counts FirstLate = first_count
  v_counts SecondLate = second_count

  v_are : (p : Place) → IsAt (next dev p) y dev p (v p)
  v_are (OfLog log) = subst (λ (s : Stage). IsAt s y dev (OfLog log) (h.words dev (OfLog log))) (sym (same_log log)) (stays dev (OfLog log) (h.words dev (OfLog log)) (h.are dev (OfLog log) there))
  v_are (OfMapping which) = subst (λ (s : Stage). IsAt s y dev (OfMapping which) (h.words dev (OfMapping which))) (sym (same_mapping which)) (stays dev (OfMapping which) (h.words dev (OfMapping which)) (h.are dev (OfMapping which) there))
  v_are FirstLate = first_is
  v_are SecondLate = second_is

  pub lates_turned : HoldsStreams next cond others t2 d2 y
  lates_turned =
      row_written stage next cond others t1 t2 d1 d2 x y h dev there listed now count same streams v (before_lates t (h.words dev)) (two_trees t.late1 t.late2 (h.words dev FirstLate) (h.words dev SecondLate)) (two_trees a b ns ms) [] refl refl n held swaps stand v_counts v_are
      (λ e p ws ne lt was. subst (λ (s : Stage). IsAt s y e p ws) (sym (elsewhere e p ne)) (stays e p ws was)) (λ which ws is. cond_stays x y kept same (cond which) which ws is)

-- ---- given back

given_here : (first : Stage) (b : Bool) → b ≡ true → (if b then Given else first) ≡ Given
given_here first true is = refl
given_here first false is = cc

module _ (first : Stage) (unwritten : first ≢ Written) (cond : MappingStream → Stage) (others : List Standing) (t1 t2 : Type 0) (d1 d2 : List (List ℕ)) (x y : OpenPool) (f : IsSameFrame x y) (kept : KeepsOthers Meta x.space y.space) (same : y.cond ≡ x.cond) (count : y.table.count ≡ x.table.count) (dev : ℕ) (there : dev < x.table.count) (listed : dev < length x.streams.items) (h : HoldsStreams (giving first dev) cond others t1 d1 x)
    (streams : y.streams.items ≡ slice_set x.streams.items dev (record (streams_at x dev) { late1 = no_stream; late2 = no_stream })) (gave : Now (HasMeta t2 d2 y) (λ n. Swaps h.stored n (streams_reach h.stored (late_streams (streams_at x dev))) [])) where
  none_stand : All (Stands gave.stored) (two_trees no_stream no_stream [] [])
  none_stand = All-cons (Stands gave.stored) (of_stream no_stream []) (of_stream no_stream [] ∷ []) (hole_bytes gave.stored) (All-cons (Stands gave.stored) (of_stream no_stream []) [] (hole_bytes gave.stored) (All-nil (Stands gave.stored)))

  none_at : (p : Place) (s : Stage) → s ≡ Given → IsAt s y dev p []
  none_at p s is = subst (λ (r : Stage). IsAt r y dev p []) (sym is) refl

  pub lates_given : HoldsStreams (giving first (dev + 1)) cond others t2 d2 y
  lates_given =
      lates_turned (giving first dev) (giving first (dev + 1)) cond others t1 t2 d1 d2 x y f kept same count dev there listed h (λ e p. alike_yet x y (giving first dev) (giving_no_late first unwritten dev) e p) (λ e p ne. giving_elsewhere first dev e p ne) (λ log. refl) (λ which. refl) no_stream no_stream [] [] streams gave.stored gave.held gave.is none_stand refl refl
      (none_at FirstLate (giving first (dev + 1) dev FirstLate) (given_here first (nat_lt dev (dev + 1)) (this_one dev))) (none_at SecondLate (giving first (dev + 1) dev SecondLate) (given_here first (nat_lt dev (dev + 1)) (this_one dev)))

-- ---- written

written_here : (b : Bool) → b ≡ true → (if b then Written else Given) ≡ Written
written_here true is = refl
written_here false is = cc

given_yet : (b : Bool) → b ≡ false → (if b then Written else Given) ≡ Given
given_yet true is = cc
given_yet false is = refl

-- the streams of a device of an open pool
lawful_streams : (x : OpenPool) (dev : ℕ) → All AreStreams x.streams.items → dev < length x.streams.items → AreStreams (streams_at x dev)
lawful_streams x dev all listed = all dev no_streams listed

module _ (cond : MappingStream → Stage) (others : List Standing) (t1 t2 : Type 0) (d1 d2 : List (List ℕ)) (x y : OpenPool) (f : IsSameFrame x y) (kept : KeepsOthers Meta x.space y.space) (still : WaitsStill x.space y.space) (same : y.cond ≡ x.cond) (count : y.table.count ≡ x.table.count) (dev : ℕ) (there : dev < x.table.count) (listed : dev < length x.streams.items) (lawful : All AreStreams x.streams.items)
    (h : HoldsStreams (laying dev) cond others t1 d1 x) (wrote : Now (HasMeta t2 d2 y) (λ n. WritesLates h.stored n x y dev)) where
  abbrev w : WritesLates h.stored wrote.stored x y dev
  w = wrote.is

  -- what was given back has no words
  no_words : (p : Place) → laying dev dev p ≡ Given → (stream_in p (streams_at x dev)).words ≡ 0
  no_words p is = sym (h.counts dev p there) ∙ ap (λ (ws : List ℕ). length ws) (subst (λ (s : Stage). IsAt s x dev p (h.words dev p)) is (h.are dev p there))

  none_left : streams_reach h.stored (late_streams (streams_at x dev)) ≡ []
  none_left =
      let are = lawful_streams x dev lawful listed in
      two_empty h.stored (streams_at x dev).late1 (streams_at x dev).late2 are.late1 are.late2 (no_words FirstLate (given_yet (nat_lt dev dev) (not_yet dev))) (no_words SecondLate (given_yet (nat_lt dev dev) (not_yet dev)))

  alike : (stage : Stage) (p : Place) → WaitsAlike stage p x y
  alike stage p = alike_still x y f.lawful_old f.lawful kept still stage p

  now_at : (p : Place) (ws : List ℕ) → laying (dev + 1) dev p ≡ Written → IsAt Written x dev p ws → IsAt (laying (dev + 1) dev p) y dev p ws
  now_at p ws is had = subst (λ (s : Stage). IsAt s y dev p ws) (sym is) (at_stays x y f kept Written dev p ws (alike Written p) had)

  pub lates_written : HoldsStreams (laying (dev + 1)) cond others t2 d2 y
  lates_written =
      lates_turned (laying dev) (laying (dev + 1)) cond others t1 t2 d1 d2 x y f kept same count dev there listed h (λ e p. alike (laying dev e p) p) (λ e p ne. laying_elsewhere dev e p ne) (λ log. refl) (λ which. refl) w.late1 w.late2 w.words1 w.words2 w.streams wrote.stored wrote.held
      (subst (λ (bs : List Bptr). Swaps h.stored wrote.stored bs (blocks_of wrote.stored (two_trees w.late1 w.late2 w.words1 w.words2))) (sym none_left) (both_came h.stored w.mid wrote.stored wrote.held.alone w.late1 w.late2 w.words1 w.words2 w.first w.second))
      (both_stand h.stored w.mid wrote.stored wrote.held.alone w.late1 w.late2 w.words1 w.words2 w.first w.second) w.first.stands.count w.second.stands.count
      (now_at FirstLate w.words1 (written_here (nat_lt dev (dev + 1)) (this_one dev)) w.first_is) (now_at SecondLate w.words2 (written_here (nat_lt dev (dev + 1)) (this_one dev)) w.second_is)
