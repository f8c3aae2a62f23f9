-- Where streams of one device are given back, their trees have no words any more, and all others stand as they stood.
use Rattle.std.proofs.Common.{◌≡◌, ◌≢◌, ℕ, ◌+◌, ◌<◌, Bool, true, false, List, [], ◌∷◌, ◌++◌, length, refl, ap, subst, arith}
use Rattle.std.specs.Prelude.{All, ◌&&◌, if◌then◌else◌, nat_eq, slice_set}
use Rattle.std.specs.List.{sum_by}
use Rattle.std.proofs.lemmas.Bool.Decides.{nat_tests}
use Rattle.std.proofs.lemmas.List.Elements.{All-cons, All-head, All-nil, All-tail, All-append}
use Rattle.zr_beside.proofs.Beside.{given_back_in, same_blocks}
use Rattle.zr_beside.proofs.Rows.{around}
use Rattle.zr_beside.proofs.Staying.{all_back, all_front, weigh_first, weigh_two}
use Rattle.zr_beside.specs.Beside.{Standing, StandBeside, StandIn, Stands, blocks_of, of_stream, rows_of}
use Rattle.zr_bptr.specs.declared.Bptr.{Bptr}
use Rattle.zr_meta.specs.declared.Stream.{Stream}
use Rattle.zr_root.proofs.Words.{hole_bytes}
use Rattle.zr_store.specs.Store.{AreStored, IsOnce, Now, Stored, Swaps, one_at}
use Rattle.zr_sync.proofs.Stages.{IsSameFrame, alike_unless, at_stays, cond_stays}
use Rattle.zr_sync.proofs.TreeRows.{row_written}
use Rattle.zr_sync.specs.Empty.{no_stream}
use Rattle.zr_sync.specs.Streams.{HasMeta, streams_at}
use Rattle.zr_sync.specs.Trees.{Place, Stage, HoldsStreams, IsAt, cond_trees, device_trees, every, one_stage, stream_in}
use Rattle.zr_sync.specs.Trees.Place.{OfLog, OfMapping, FirstLate, SecondLate}
use Rattle.zr_sync.specs.Trees.Stage.{Had, Untold, Written}
use Rattle.zr_sync.specs.declared.mappings.MappingStream.TheVariants.{Counts, Entries}
use Rattle.zr_sync.specs.declared.open.DeviceStreams.{DeviceStreams}
use Rattle.zr_sync.specs.declared.open.OpenPool.{OpenPool}
use Rattle.zr_sync.specs.declared.words.Log.TheVariants.{Fresh, Held, Kept}
use Rattle.zr_vdev.specs.Stores.{KeepsOthers}
use Rattle.zr_vdev.specs.declared.kind.Kind.TheVariants.{Meta}
use Rattle.zr_removal.specs.Trees.{freeing}

-- ---- trees of which some go

-- a stream with the words in it, and whether it goes
pub record Marked : Type 0 where
  pub goes : Bool
  pub stream : Stream
  pub words : List ℕ

-- those that stood, those that go, those that stay, and what is left: a tree of no words for each that goes
abbrev pub stood : List Marked → List Standing
stood [] = []
stood (m ∷ ms) = of_stream m.stream m.words ∷ stood ms

abbrev pub gone : List Marked → List Standing
gone [] = []
gone (m ∷ ms) = if m.goes then of_stream m.stream m.words ∷ gone ms else gone ms

abbrev pub staying : List Marked → List Standing
staying [] = []
staying (m ∷ ms) = if m.goes then staying ms else of_stream m.stream m.words ∷ staying ms

abbrev pub stream_left : Bool → Stream → Stream
stream_left goes stream = if goes then no_stream else stream

abbrev pub words_left : Bool → List ℕ → List ℕ
words_left goes words = if goes then [] else words

abbrev pub left : List Marked → List Standing
left [] = []
left (m ∷ ms) = of_stream (stream_left m.goes m.stream) (words_left m.goes m.words) ∷ left ms

-- what they weigh
weighs_both : (s : Stored) (weight : Bptr → ℕ) (ms : List Marked) → sum_by weight (blocks_of s (stood ms)) ≡ sum_by weight (blocks_of s (gone ms)) + sum_by weight (blocks_of s (staying ms))
weighs_both s weight [] = refl
weighs_both s weight (m ∷ ms) = by (of_stream m.stream m.words) (weighs_both s weight ms) m.goes
  where
    by : (this : Standing) → sum_by weight (blocks_of s (stood ms)) ≡ sum_by weight (blocks_of s (gone ms)) + sum_by weight (blocks_of s (staying ms)) → (b : Bool) → sum_by weight (blocks_of s (this ∷ stood ms)) ≡ sum_by weight (blocks_of s (if b then this ∷ gone ms else gone ms)) + sum_by weight (blocks_of s (if b then staying ms else this ∷ staying ms))
    by this rest true = let x = weigh_first s this (stood ms) weight in let y = weigh_first s this (gone ms) weight in omega (arith, rest, x, y)
    by this rest false = let x = weigh_first s this (stood ms) weight in let y = weigh_first s this (staying ms) weight in omega (arith, rest, x, y)

weighs_left : (s : Stored) (weight : Bptr → ℕ) (ms : List Marked) → sum_by weight (blocks_of s (left ms)) ≡ sum_by weight (blocks_of s (staying ms))
weighs_left s weight [] = refl
weighs_left s weight (m ∷ ms) = by (weighs_left s weight ms) m.goes
  where
    by : sum_by weight (blocks_of s (left ms)) ≡ sum_by weight (blocks_of s (staying ms)) → (b : Bool) → sum_by weight (blocks_of s (of_stream (stream_left b m.stream) (words_left b m.words) ∷ left ms)) ≡ sum_by weight (blocks_of s (if b then staying ms else of_stream m.stream m.words ∷ staying ms))
    by rest true = rest
    by rest false = let x = weigh_first s (of_stream m.stream m.words) (left ms) weight in let y = weigh_first s (of_stream m.stream m.words) (staying ms) weight in omega (arith, rest, x, y)

-- what is said of all is said of those that go, and of those that stay
of_gone : (P : Standing → Type 0) (ms : List Marked) → All P (stood ms) → All P (gone ms)
of_gone P [] all = All-nil P
of_gone P (m ∷ ms) all = by (of_gone P ms (All-tail P (of_stream m.stream m.words) (stood ms) all)) m.goes
  where
    by : All P (gone ms) → (b : Bool) → All P (if b then of_stream m.stream m.words ∷ gone ms else gone ms)
    by rest true = All-cons P (of_stream m.stream m.words) (gone ms) (All-head P (of_stream m.stream m.words) (stood ms) all) rest
    by rest false = rest

of_staying : (P : Standing → Type 0) (ms : List Marked) → All P (stood ms) → All P (staying ms)
of_staying P [] all = All-nil P
of_staying P (m ∷ ms) all = by (of_staying P ms (All-tail P (of_stream m.stream m.words) (stood ms) all)) m.goes
  where
    by : All P (staying ms) → (b : Bool) → All P (if b then staying ms else of_stream m.stream m.words ∷ staying ms)
    by rest true = rest
    by rest false = All-cons P (of_stream m.stream m.words) (staying ms) (All-head P (of_stream m.stream m.words) (stood ms) all) rest

stands_left : (n : Stored) (ms : List Marked) → All (Stands n) (staying ms) → All (Stands n) (left ms)
stands_left n [] all = All-nil (Stands n)
stands_left n (m ∷ ms) all = by m.stream m.words (λ rest. stands_left n ms rest) m.goes all
  where
    by : (stream : Stream) (ws : List ℕ) → (All (Stands n) (staying ms) → All (Stands n) (left ms)) → (b : Bool) → All (Stands n) (if b then staying ms else of_stream stream ws ∷ staying ms) → All (Stands n) (of_stream (stream_left b stream) (words_left b ws) ∷ left ms)
    by stream ws others true rest = All-cons (Stands n) (of_stream no_stream []) (left ms) (hole_bytes n) (others rest)
    by stream ws others false rest = All-cons (Stands n) (of_stream stream ws) (left ms) (All-head (Stands n) (of_stream stream ws) (staying ms) rest) (others (All-tail (Stands n) (of_stream stream ws) (staying ms) rest))

module _ (s n : Stored) (ms : List Marked) (h : StandIn s (stood ms)) (once : IsOnce n) (swaps : Swaps s n (blocks_of s (gone ms)) []) where
  -- first those that go, and then those that stay
  in_order : StandIn s (gone ms ++ (staying ms ++ []))
  in_order = record {
    stored = λ weight.
        let all = h.stored weight in
        let both = weighs_both s weight ms in
        let x = weigh_two s (gone ms) (staying ms ++ []) weight in
        let y = weigh_two s (staying ms) [] weight in
        omega (arith, all, both, x, y);
    once = h.once;
    stand = All-append (Stands s) (gone ms) (staying ms ++ []) (of_gone (Stands s) ms h.stand) (All-append (Stands s) (staying ms) [] (of_staying (Stands s) ms h.stand) (All-nil (Stands s)));
  }

  same_staying : blocks_of n (staying ms ++ []) ≡ blocks_of s (staying ms ++ [])
  same_staying = same_blocks s n [] (gone ms) (staying ms ++ []) [] in_order swaps

  pub left_stand : All (Stands n) (left ms)
  left_stand = stands_left n ms (all_front (Stands n) (staying ms) [] (given_back_in s n [] (gone ms) (staying ms ++ []) in_order once swaps).stand)

  pub left_swaps : Swaps s n (blocks_of s (stood ms)) (blocks_of n (left ms))
  left_swaps = record {
    stored = λ weight.
        let all = swaps.stored weight in
        let both = weighs_both s weight ms in
        let now = weighs_left n weight ms in
        let same = ap (λ (bs : List Bptr). sum_by weight bs) same_staying in
        let x = weigh_two s (staying ms) [] weight in
        let y = weigh_two n (staying ms) [] weight in
        omega (arith, all, both, now, same, x, y);
    kept = λ b none had.
        swaps.kept b (let both = weighs_both s (one_at b.at) ms in omega (arith, both, none)) had;
  }

-- those that go are stored
gone_stored : (s : Stored) (ms : List Marked) → AreStored (blocks_of s (stood ms)) s → AreStored (blocks_of s (gone ms)) s
gone_stored s ms all weight = let held = all weight in let both = weighs_both s weight ms in omega (arith, held, both)

-- ---- those of a device

-- the streams of a device with their words, of which these go
abbrev pub marked : (Place → Bool) → DeviceStreams → (Place → List ℕ) → List Marked
marked goes t w =
    record { goes = goes (OfLog Held); stream = t.held; words = w (OfLog Held) } ∷ record { goes = goes (OfLog Kept); stream = t.kept; words = w (OfLog Kept) }
    ∷ record { goes = goes (OfMapping Entries); stream = t.entries; words = w (OfMapping Entries) } ∷ record { goes = goes (OfMapping Counts); stream = t.counts; words = w (OfMapping Counts) }
    ∷ record { goes = goes (OfLog Fresh); stream = t.fresh; words = w (OfLog Fresh) } ∷ record { goes = goes FirstLate; stream = t.late1; words = w FirstLate }
    ∷ record { goes = goes SecondLate; stream = t.late2; words = w SecondLate } ∷ []

abbrev pub streams_left : (Place → Bool) → DeviceStreams → DeviceStreams
streams_left goes t = record {
  held = stream_left (goes (OfLog Held)) t.held;
  kept = stream_left (goes (OfLog Kept)) t.kept;
  entries = stream_left (goes (OfMapping Entries)) t.entries;
  counts = stream_left (goes (OfMapping Counts)) t.counts;
  fresh = stream_left (goes (OfLog Fresh)) t.fresh;
  late1 = stream_left (goes FirstLate) t.late1;
  late2 = stream_left (goes SecondLate) t.late2;
}

-- a row of trees is stored, and each stands
row_beside : (s : Stored) (f : ℕ → List Standing) (count d : ℕ) (rest : List Standing) → d < count → StandBeside s (rows_of f count ++ rest) → StandIn s (f d)
row_beside s f count d rest lt h =
    let a = around f f count d lt (λ i other. refl) in
    let stand = subst (λ (ws : List Standing). All (Stands s) ws) a.old (all_front (Stands s) (rows_of f count) rest h.stand) in
    record {
      stored = λ weight.
          let held = h.stored weight in
          let u = weigh_two s (rows_of f count) rest weight in
          let v = ap (λ (xs : List Standing). sum_by weight (blocks_of s xs)) a.old in
          let x = weigh_two s a.front (f d ++ a.back) weight in
          let y = weigh_two s (f d) a.back weight in
          omega (arith, held, u, v, x, y);
      once = h.once;
      stand = all_front (Stands s) (f d) a.back (all_back (Stands s) a.front (f d ++ a.back) stand);
    }

and_is : (dev : ℕ) (b : Bool) → (nat_eq dev dev && b) ≡ b
and_is dev b = grind (arith, nat_tests)

elsewhere : (dev e : ℕ) (b : Bool) → e ≢ dev → (nat_eq e dev && b) ≡ false
elsewhere dev e b ne = grind (arith, nat_tests, ne)

staged : (b c : Bool) → b ≡ c → (if b then Untold else Had) ≡ (if c then Untold else Had)
staged b c is = ap (λ (x : Bool). if x then Untold else Had) is

no_had_late : (p : Place) → p ≡ FirstLate → Had ≢ Written
no_had_late p first is = cc

module _ (goes : Place → Bool) (others : List Standing) (t1 : Type 0) (d1 : List (List ℕ)) (x : OpenPool) (dev : ℕ) (there : dev < x.table.count) (h : HoldsStreams (freeing goes dev) (one_stage Had) others t1 d1 x) where
  abbrev all_marked : List Marked
  all_marked = marked goes (streams_at x dev) (h.words dev)

  row_stands : StandIn h.stored (stood all_marked)
  row_stands = row_beside h.stored (λ e. device_trees (streams_at x e) (h.words e)) x.table.count dev (cond_trees x.cond h.cond ++ others) there h.beside

  pub places_stored : AreStored (blocks_of h.stored (gone all_marked)) h.stored
  places_stored = gone_stored h.stored all_marked row_stands.stored

module _ (goes : Place → Bool) (others : List Standing) (t1 t2 : Type 0) (d1 d2 : List (List ℕ)) (x y : OpenPool) (f : IsSameFrame x y) (kept : KeepsOthers Meta x.space y.space) (same : y.cond ≡ x.cond) (count : y.table.count ≡ x.table.count)
    (dev : ℕ) (there : dev < x.table.count) (listed : dev < length x.streams.items) (h : HoldsStreams (freeing goes dev) (one_stage Had) others t1 d1 x) where
  abbrev t : DeviceStreams
  t = streams_at x dev

  abbrev ms : List Marked
  ms = marked goes t (h.words dev)

  module _ (streams : y.streams.items ≡ slice_set x.streams.items dev (streams_left goes t)) (gave : Now (HasMeta t2 d2 y) (λ n. Swaps h.stored n (blocks_of h.stored (gone ms)) [])) (empty : (p : Place) → goes p ≡ true → IsAt Had y dev p []) where
    abbrev v : Place → List ℕ
    v p = words_left (goes p) (h.words dev p)

    count_left : (b : Bool) (ws : List ℕ) (stream : Stream) → length ws ≡ stream.words → length (words_left b ws) ≡ (stream_left b stream).words
    count_left true ws stream is = refl
    count_left false ws stream is = is

    v_counts : (p : Place) → length (v p) ≡ (stream_in p (streams_left goes t)).words
    v_counts (OfLog Held) = count_left (goes (OfLog Held)) (h.words dev (OfLog Held)) t.held (h.counts dev (OfLog Held) there)
    v_counts (OfLog Kept) = count_left (goes (OfLog Kept)) (h.words dev (OfLog Kept)) t.kept (h.counts dev (OfLog Kept) there)
    v_counts (OfLog Fresh) = count_left (goes (OfLog Fresh)) (h.words dev (OfLog Fresh)) t.fresh (h.counts dev (OfLog Fresh) there)
    v_counts (OfMapping Entries) = count_left (goes (OfMapping Entries)) (h.words dev (OfMapping Entries)) t.entries (h.counts dev (OfMapping Entries) there)
    v_counts (OfMapping Counts) = count_left (goes (OfMapping Counts)) (h.words dev (OfMapping Counts)) t.counts (h.counts dev (OfMapping Counts) there)
    v_counts FirstLate = count_left (goes FirstLate) (h.words dev FirstLate) t.late1 (h.counts dev FirstLate there)
    v_counts SecondLate = count_left (goes SecondLate) (h.words dev SecondLate) t.late2 (h.counts dev SecondLate there)

    stays : (e : ℕ) (p : Place) (ws : List ℕ) → IsAt Had x e p ws → IsAt Had y e p ws
    stays e p ws is = at_stays x y f kept Had e p ws (alike_unless x y Had p (no_had_late p)) is

    at_left : (p : Place) (b : Bool) (ws : List ℕ) → (b ≡ true → IsAt Had y dev p []) → IsAt (if b then Untold else Had) x dev p ws → IsAt Had y dev p (words_left b ws)
    at_left p true ws none is = none refl
    at_left p false ws none is = stays dev p ws is

    v_are : (p : Place) → IsAt Had y dev p (v p)
    v_are p = at_left p (goes p) (h.words dev p) (empty p) (subst (λ (s : Stage). IsAt s x dev p (h.words dev p)) (staged (nat_eq dev dev && goes p) (goes p) (and_is dev (goes p))) (h.are dev p there))

    pub places_given : HoldsStreams (every Had) (one_stage Had) others t2 d2 y
    places_given =
        row_written (freeing goes dev) (every Had) (one_stage Had) others t1 t2 d1 d2 x y h dev there listed (streams_left goes t) count same streams v [] (stood ms) (left ms) [] refl refl gave.stored gave.held
        (left_swaps h.stored gave.stored ms (row_stands goes others t1 d1 x dev there h) gave.held.alone gave.is) (left_stand h.stored gave.stored ms (row_stands goes others t1 d1 x dev there h) gave.held.alone gave.is) v_counts v_are
        (λ e p ws ne lt was. stays e p ws (subst (λ (s : Stage). IsAt s x e p ws) (staged (nat_eq e dev && goes p) false (elsewhere dev e (goes p) ne)) was))
        (λ which ws is. cond_stays x y kept same Had which ws is)
