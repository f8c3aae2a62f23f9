-- The words of all streams of a head, cut into those of each device and of a condensing, and the trees in which they stand.
use Rattle.std.proofs.Common.{◌≡◌, ◌==◌, ℕ, zero, suc, ◌+◌, ◌-◌, ◌<◌, ◌≤◌, Bool, true, false, if◌then◌else◌, List, [], ◌∷◌, ◌++◌, length, map, take, drop, get_or, refl, sym, ◌∙◌, ap, subst, arith}
use Rattle.std.specs.Prelude.{All}
use Rattle.std.specs.List.{flat_map, sum_by}
use Rattle.std.proofs.lemmas.Bool.Decides.{nat_tests}
use Rattle.std.proofs.lemmas.Grind.{flat_map-append}
use Rattle.std.proofs.lemmas.List.{append_assoc, append-nil, drop_at, take_at}
use Rattle.std.proofs.lemmas.List.Elements.{All-append, All-cons, All-head, All-nil, All-tail}
use Rattle.std.proofs.lemmas.List.Sums.{sum_by-append}
use Rattle.zr_base.specs.declared.space.CkptPart.{CkptPart}
use Rattle.zr_base.specs.declared.space.DevPart.{DevPart}
use Rattle.zr_base.specs.declared.space.DevRow.{DevRow}
use Rattle.zr_base.specs.declared.space.DevState.{DevState}
use Rattle.zr_base.specs.declared.space.DevState.TheVariants.{On, Leaving, Gone}
use Rattle.zr_beside.proofs.Staying.{weigh_first, weigh_two}
use Rattle.zr_beside.specs.Beside.{Standing, Stands, blocks_of, of_stream, rows_of}
use Rattle.zr_bptr.specs.declared.Bptr.{Bptr}
use Rattle.zr_bptr.specs.declared.Ptr.{Ptr}
use Rattle.zr_bptr.specs.declared.Ptr.TheVariants.{Hole, At}
use Rattle.zr_bptr.specs.declared.Tree.{Tree}
use Rattle.zr_import.specs.Words.{HaveWords}
use Rattle.zr_label.specs.Blocks.{no_row}
use Rattle.zr_meta.specs.declared.Stream.{Stream}
use Rattle.zr_meta.specs.declared.part.DevWords.{DevWords}
use Rattle.zr_meta.specs.Heads.{IsStream, IsTreeOf, stream_count}
use Rattle.zr_meta.specs.Parts.{AreParts, device_words, devices_words, piece, pieces}
use Rattle.zr_meta.specs.Streams.{SpellsPart}
use Rattle.zr_open.specs.Streams.{HasNoLate, untold_in, untold_of}
use Rattle.zr_root.proofs.Standing.{has_none}
use Rattle.zr_root.specs.Streams.{HasWords}
use Rattle.zr_rules.specs.Places.{part_of}
use Rattle.zr_store.specs.Store.{Stored}
use Rattle.zr_sync.specs.Empty.{no_stream, no_streams}
use Rattle.zr_sync.specs.Pools.{AreStreams}
use Rattle.zr_sync.specs.Heads.{streams_in, told_in, told_of}
use Rattle.zr_sync.specs.Trees.{Place, device_trees, stream_in}
use Rattle.zr_sync.specs.Trees.Place.{OfLog, OfMapping, FirstLate, SecondLate}
use Rattle.zr_sync.specs.declared.mappings.MappingStream.TheVariants.{Entries, Counts}
use Rattle.zr_sync.specs.declared.open.DeviceStreams.{DeviceStreams}
use Rattle.zr_sync.specs.declared.words.Log.TheVariants.{Held, Kept, Fresh}
use Rattle.zr_tree.specs.Trees.{reach, tree_reach}

-- ---- the words of each stream

-- each list of words stands in its stream
abbrev pub StandEach : Stored → List Stream → List (List ℕ) → Type 0
StandEach s [] [] = Unit {0}
StandEach s [] (p ∷ ps) = ⊥
StandEach s (t ∷ ts) [] = ⊥
StandEach s (t ∷ ts) (p ∷ ps) = HasWords s t p × StandEach s ts ps

pub each_stand : (s : Stored) (ts : List Stream) (words : List ℕ) → HaveWords s ts words → StandEach s ts (pieces ts words)
each_stand s [] words h = tt
each_stand s (t ∷ ts) words (own, (rest, (is, (here, others)))) =
    subst (λ (ns : List ℕ). HasWords s t (take t.words ns) × StandEach s ts (pieces ts (drop t.words ns))) (sym is) (
      subst (λ (ns : List ℕ). HasWords s t ns) (sym (take_at own rest t.words here.count)) here,
      subst (λ (ns : List ℕ). StandEach s ts (pieces ts ns)) (sym (drop_at own rest t.words here.count)) (each_stand s ts rest others),
    )

pub each_front : (s : Stored) (xs ys : List Stream) (ps : List (List ℕ)) → StandEach s (xs ++ ys) ps → StandEach s xs (take (length xs) ps)
each_front s [] ys ps h = tt
each_front s (x ∷ xs) ys [] h = absurd h
each_front s (x ∷ xs) ys (p ∷ ps) h = (h.0, each_front s xs ys ps h.1)

pub each_back : (s : Stored) (xs ys : List Stream) (ps : List (List ℕ)) → StandEach s (xs ++ ys) ps → StandEach s ys (drop (length xs) ps)
each_back s [] ys ps h = h
each_back s (x ∷ xs) ys [] h = absurd h
each_back s (x ∷ xs) ys (p ∷ ps) h = each_back s xs ys ps h.1

pub each_at : (s : Stored) (ts : List Stream) (ps : List (List ℕ)) (i : ℕ) → StandEach s ts ps → i < length ts → HasWords s (get_or ts i no_stream) (piece ps i)
each_at s [] ps i h lt = absurd (omega (arith, lt))
each_at s (t ∷ ts) [] i h lt = absurd h
each_at s (t ∷ ts) (p ∷ ps) zero h lt = h.0
each_at s (t ∷ ts) (p ∷ ps) (suc i) h lt = each_at s ts ps i h.1 (omega (arith, lt))

none_past : (s : Stored) (ts : List Stream) (ps : List (List ℕ)) (i : ℕ) → StandEach s ts ps → length ts ≤ i → length (piece ps i) ≡ 0
none_past s [] [] i h le = refl
none_past s [] (p ∷ ps) i h le = absurd h
none_past s (t ∷ ts) [] i h le = absurd h
none_past s (t ∷ ts) (p ∷ ps) zero h le = absurd (omega (arith, le))
none_past s (t ∷ ts) (p ∷ ps) (suc i) h le = none_past s ts ps i h.1 (omega (arith, le))

each_length : (s : Stored) (ts : List Stream) (ps : List (List ℕ)) → StandEach s ts ps → length ps ≡ length ts
each_length s [] [] h = refl
each_length s [] (p ∷ ps) h = absurd h
each_length s (t ∷ ts) [] h = absurd h
each_length s (t ∷ ts) (p ∷ ps) h = let rest = each_length s ts ps h.1 in omega (arith, rest)

two_behind : (xs : List Stream) (a b : Stream) → length (xs ++ (a ∷ b ∷ [])) ≡ length xs + 2
two_behind [] a b = refl
two_behind (x ∷ xs) a b = let rest = two_behind xs a b in omega (arith, rest)

-- the last two streams have the last two lists
pub last_two : (s : Stored) (xs : List Stream) (a b : Stream) (ps : List (List ℕ)) → StandEach s (xs ++ (a ∷ b ∷ [])) ps → HasWords s a (piece ps (length ps - 2)) × HasWords s b (piece ps (length ps - 1))
last_two s [] a b [] h = absurd h
last_two s [] a b (p ∷ []) h = absurd h.1
last_two s [] a b (p ∷ q ∷ []) h = (h.0, h.1.0)
last_two s [] a b (p ∷ q ∷ r ∷ ps) h = absurd h.1.1
last_two s (x ∷ xs) a b [] h = absurd h
last_two s (x ∷ xs) a b (p ∷ ps) h =
    let rest = last_two s xs a b ps h.1 in
    let long = each_length s (xs ++ (a ∷ b ∷ [])) ps h.1 in
    let two = two_behind xs a b in
    let first : suc (length ps - 2) ≡ suc (length ps) - 2 = omega (arith, long, two) in
    let second : suc (length ps - 1) ≡ suc (length ps) - 1 = omega (arith, long, two) in
    (subst (λ (k : ℕ). HasWords s a (piece (p ∷ ps) k)) first rest.0, subst (λ (k : ℕ). HasWords s b (piece (p ∷ ps) k)) second rest.1)

-- ---- those of one device

-- the words of a stream
abbrev pub words_in : DevWords → Place → List ℕ
words_in w (OfLog Held) = w.held
words_in w (OfLog Kept) = w.kept
words_in w (OfLog Fresh) = w.fresh
words_in w (OfMapping Entries) = w.entries
words_in w (OfMapping Counts) = w.counts
words_in w FirstLate = w.late1
words_in w SecondLate = w.late2

module _ (s : Stored) (row : DevRow) (d : DeviceStreams) (are : AreStreams d) (ps : List (List ℕ)) where
  on_stand : (first : Bool) → untold_in On d ≡ 0 → (first ≡ true → HasNoLate d) → StandEach s (take (if first then 2 else 4) (streams_in On d)) ps → (place : Place) → HasWords s (stream_in place d) (words_in (device_words row On ps) place)
  on_stand true none late h (OfLog Held) = each_at s (d.held ∷ d.kept ∷ []) ps 0 h (omega arith)
  on_stand true none late h (OfLog Kept) = each_at s (d.held ∷ d.kept ∷ []) ps 1 h (omega arith)
  on_stand true none late h FirstLate = has_none s d.late1 (piece ps 2) (late refl).late1 are.late1 (none_past s (d.held ∷ d.kept ∷ []) ps 2 h (omega arith))
  on_stand true none late h SecondLate = has_none s d.late2 (piece ps 3) (late refl).late2 are.late2 (none_past s (d.held ∷ d.kept ∷ []) ps 3 h (omega arith))
  on_stand false none late h (OfLog Held) = each_at s (d.held ∷ d.kept ∷ d.late1 ∷ d.late2 ∷ []) ps 0 h (omega arith)
  on_stand false none late h (OfLog Kept) = each_at s (d.held ∷ d.kept ∷ d.late1 ∷ d.late2 ∷ []) ps 1 h (omega arith)
  on_stand false none late h FirstLate = each_at s (d.held ∷ d.kept ∷ d.late1 ∷ d.late2 ∷ []) ps 2 h (omega arith)
  on_stand false none late h SecondLate = each_at s (d.held ∷ d.kept ∷ d.late1 ∷ d.late2 ∷ []) ps 3 h (omega arith)
  on_stand first none late h (OfLog Fresh) = has_none s d.fresh [] (omega (arith, none)) are.fresh refl
  on_stand first none late h (OfMapping Entries) = has_none s d.entries [] (omega (arith, none)) are.entries refl
  on_stand first none late h (OfMapping Counts) = has_none s d.counts [] (omega (arith, none)) are.counts refl

  leaving_stand : (first : Bool) → (first ≡ true → HasNoLate d) → StandEach s (take (if first then 5 else 7) (streams_in Leaving d)) ps → (place : Place) → HasWords s (stream_in place d) (words_in (device_words row Leaving ps) place)
  leaving_stand true late h (OfLog Held) = each_at s (d.held ∷ d.kept ∷ d.entries ∷ d.counts ∷ d.fresh ∷ []) ps 0 h (omega arith)
  leaving_stand true late h (OfLog Kept) = each_at s (d.held ∷ d.kept ∷ d.entries ∷ d.counts ∷ d.fresh ∷ []) ps 1 h (omega arith)
  leaving_stand true late h (OfMapping Entries) = each_at s (d.held ∷ d.kept ∷ d.entries ∷ d.counts ∷ d.fresh ∷ []) ps 2 h (omega arith)
  leaving_stand true late h (OfMapping Counts) = each_at s (d.held ∷ d.kept ∷ d.entries ∷ d.counts ∷ d.fresh ∷ []) ps 3 h (omega arith)
  leaving_stand true late h (OfLog Fresh) = each_at s (d.held ∷ d.kept ∷ d.entries ∷ d.counts ∷ d.fresh ∷ []) ps 4 h (omega arith)
  leaving_stand true late h FirstLate = has_none s d.late1 (piece ps 5) (late refl).late1 are.late1 (none_past s (d.held ∷ d.kept ∷ d.entries ∷ d.counts ∷ d.fresh ∷ []) ps 5 h (omega arith))
  leaving_stand true late h SecondLate = has_none s d.late2 (piece ps 6) (late refl).late2 are.late2 (none_past s (d.held ∷ d.kept ∷ d.entries ∷ d.counts ∷ d.fresh ∷ []) ps 6 h (omega arith))
  leaving_stand false late h (OfLog Held) = each_at s (streams_in Leaving d) ps 0 h (omega arith)
  leaving_stand false late h (OfLog Kept) = each_at s (streams_in Leaving d) ps 1 h (omega arith)
  leaving_stand false late h (OfMapping Entries) = each_at s (streams_in Leaving d) ps 2 h (omega arith)
  leaving_stand false late h (OfMapping Counts) = each_at s (streams_in Leaving d) ps 3 h (omega arith)
  leaving_stand false late h (OfLog Fresh) = each_at s (streams_in Leaving d) ps 4 h (omega arith)
  leaving_stand false late h FirstLate = each_at s (streams_in Leaving d) ps 5 h (omega arith)
  leaving_stand false late h SecondLate = each_at s (streams_in Leaving d) ps 6 h (omega arith)

  gone_stand : untold_in Gone d ≡ 0 → StandEach s (streams_in Gone d) ps → (place : Place) → HasWords s (stream_in place d) (words_in (device_words row Gone ps) place)
  gone_stand none h (OfMapping Entries) = each_at s (streams_in Gone d) ps 0 h (omega arith)
  gone_stand none h (OfMapping Counts) = each_at s (streams_in Gone d) ps 1 h (omega arith)
  gone_stand none h (OfLog Fresh) = each_at s (streams_in Gone d) ps 2 h (omega arith)
  gone_stand none h (OfLog Held) = has_none s d.held [] (omega (arith, none)) are.held refl
  gone_stand none h (OfLog Kept) = has_none s d.kept [] (omega (arith, none)) are.kept refl
  gone_stand none h FirstLate = has_none s d.late1 [] (omega (arith, none)) are.late1 refl
  gone_stand none h SecondLate = has_none s d.late2 [] (omega (arith, none)) are.late2 refl

  own_stand : (form : ℕ) (state : DevState) → untold_in state d ≡ 0 → ((form == 1) ≡ true → HasNoLate d) → StandEach s (told_in form state d) ps → (place : Place) → HasWords s (stream_in place d) (words_in (device_words row state ps) place)
  own_stand form On none late h = on_stand (form == 1) none late h
  own_stand form Leaving none late h = leaving_stand (form == 1) late h
  own_stand form Gone none late h = gone_stand none h

is_first : (form : ℕ) → (form == 1) ≡ true → form ≡ 1
is_first form is = grind (arith, nat_tests, is)

pub told_count : (form : ℕ) (state : DevState) (d : DeviceStreams) → length (told_in form state d) ≡ stream_count form state
told_count form On d = by (form == 1)
  where
    by : (b : Bool) → length (take (if b then 2 else 4) (streams_in On d)) ≡ (if b then 2 else 4)
    by true = refl
    by false = refl
told_count form Leaving d = by (form == 1)
  where
    by : (b : Bool) → length (take (if b then 5 else 7) (streams_in Leaving d)) ≡ (if b then 5 else 7)
    by true = refl
    by false = refl
told_count form Gone d = refl

-- ---- those of all devices

-- a device of no words
abbrev pub no_words : DevWords
no_words = record { row = no_row; held = []; kept = []; entries = []; counts = []; fresh = []; late1 = []; late2 = [] }

-- the words of a device by its index
abbrev pub words_of : ℕ → List DevRow → List (List ℕ) → ℕ → DevWords
words_of form rows ps i = get_or (devices_words form rows ps) i no_words

pub devices_stand : (s : Stored) (form : ℕ) (rows : List DevRow) (devices : List DeviceStreams) (more : List Stream) (ps : List (List ℕ)) → length devices ≡ length rows → All AreStreams devices → untold_of rows devices ≡ 0 → (form ≡ 1 → All HasNoLate devices)
    → StandEach s (told_of form rows devices ++ more) ps → (i : ℕ) (place : Place) → i < length rows → HasWords s (stream_in place (get_or devices i no_streams)) (words_in (words_of form rows ps i) place)
devices_stand s form [] devices more ps same are none late h i place lt = absurd (omega (arith, lt))
devices_stand s form (r ∷ rows) [] more ps same are none late h i place lt = absurd (omega (arith, same))
devices_stand s form (r ∷ rows) (d ∷ devices) more ps same are none late h zero place lt =
    let own = told_in form r.state d in
    let split : StandEach s (own ++ (told_of form rows devices ++ more)) ps = subst (λ (ts : List Stream). StandEach s ts ps) (append_assoc own (told_of form rows devices) more) h in
    own_stand s r d (All-head AreStreams d devices are) (take (stream_count form r.state) ps) form r.state (omega (arith, none)) (λ first. All-head HasNoLate d devices (late (is_first form first)))
    (subst (λ (n : ℕ). StandEach s own (take n ps)) (told_count form r.state d) (each_front s own (told_of form rows devices ++ more) ps split)) place
devices_stand s form (r ∷ rows) (d ∷ devices) more ps same are none late h (suc i) place lt =
    let own = told_in form r.state d in
    let split : StandEach s (own ++ (told_of form rows devices ++ more)) ps = subst (λ (ts : List Stream). StandEach s ts ps) (append_assoc own (told_of form rows devices) more) h in
    devices_stand s form rows devices more (drop (stream_count form r.state) ps) (omega (arith, same)) (All-tail AreStreams d devices are) (omega (arith, none)) (λ first. All-tail HasNoLate d devices (late first))
    (subst (λ (n : ℕ). StandEach s (told_of form rows devices ++ more) (drop n ps)) (told_count form r.state d) (each_back s own (told_of form rows devices ++ more) ps split)) i place (omega (arith, lt))

-- each device records its part
pub parts_each : (version form : ℕ) (ckpt : CkptPart) (dev : ℕ) (rows : List DevRow) (ps : List (List ℕ)) (parts : List DevPart) → AreParts version ckpt dev (devices_words form rows ps) parts
    → (i e : ℕ) → i < length rows → dev + i ≡ e → SpellsPart version e ckpt (words_of form rows ps i) (part_of parts i)
parts_each version form ckpt dev [] ps parts are i e lt is = absurd (omega (arith, lt))
parts_each version form ckpt dev (r ∷ rows) ps [] are i e lt is = absurd are
parts_each version form ckpt dev (r ∷ rows) ps (p ∷ parts) are zero e lt is =
    let same : dev ≡ e = omega (arith, is) in
    subst (λ (k : ℕ). SpellsPart version k ckpt (device_words r r.state (take (stream_count form r.state) ps)) p) same are.0
parts_each version form ckpt dev (r ∷ rows) ps (p ∷ parts) are (suc i) e lt is =
    parts_each version form ckpt (dev + 1) rows (drop (stream_count form r.state) ps) parts are.1 i e (omega (arith, lt)) (omega (arith, is))

-- ---- what the trees weigh

abbrev pub reach_all : Stored → List Stream → List Bptr
reach_all s ts = flat_map (λ (t : Stream). tree_reach s t.tree) ts

no_reach : (s : Stored) (t : Stream) → t.words ≡ 0 → IsStream t → tree_reach s t.tree ≡ []
no_reach s t none is = go t.words t.tree.height t.tree.root none is
  where
    go : (n height : ℕ) (root : Ptr) → n ≡ 0 → IsTreeOf n height root → reach s height root ≡ []
    go n height (At b) zero_is h = absurd (let some = h.0 in omega (arith, zero_is, some))
    go n height Hole zero_is h = ap (λ (l : ℕ). reach s l Hole) h.1

module _ (s : Stored) (weight : Bptr → ℕ) where
  abbrev pub weigh : Stream → ℕ
  weigh t = sum_by weight (tree_reach s t.tree)

  pub nothing : (t : Stream) → t.words ≡ 0 → IsStream t → weigh t ≡ 0
  nothing t none is = ap (λ (bs : List Bptr). sum_by weight bs) (no_reach s t none is)

  abbrev pub total : List Stream → ℕ
  total [] = 0
  total (t ∷ ts) = weigh t + total ts

  pub of_streams : (ts : List Stream) → sum_by weight (reach_all s ts) ≡ total ts
  of_streams [] = refl
  of_streams (t ∷ ts) = let sum = sum_by-append weight (tree_reach s t.tree) (reach_all s ts) in let rest = of_streams ts in omega (arith, sum, rest)

  pub two_all : (xs ys : List Stream) → sum_by weight (reach_all s (xs ++ ys)) ≡ sum_by weight (reach_all s xs) + sum_by weight (reach_all s ys)
  two_all xs ys = ap (λ (bs : List Bptr). sum_by weight bs) (flat_map-append (λ (t : Stream). tree_reach s t.tree) xs ys) ∙ sum_by-append weight (reach_all s xs) (reach_all s ys)

  -- the trees of these streams, with any words
  pub of_trees : (ts : List Stream) (all : List Standing) → map (λ (w : Standing). w.tree) all ≡ map (λ (t : Stream). t.tree) ts → sum_by weight (blocks_of s all) ≡ total ts
  of_trees [] [] is = refl
  of_trees [] (w ∷ all) is = absurd cc
  of_trees (t ∷ ts) [] is = absurd cc
  of_trees (t ∷ ts) (w ∷ all) is =
      let here : w.tree ≡ t.tree = cc in
      let others : map (λ (w : Standing). w.tree) all ≡ map (λ (t : Stream). t.tree) ts = cc in
      let sum = weigh_first s w all weight in
      let rest = of_trees ts all others in
      let first = ap (λ (x : Tree). sum_by weight (tree_reach s x)) here in
      omega (arith, sum, rest, first)

  device_total : (d : DeviceStreams) (words : Place → List ℕ) → sum_by weight (blocks_of s (device_trees d words)) ≡ weigh d.held + weigh d.kept + weigh d.entries + weigh d.counts + weigh d.fresh + weigh d.late1 + weigh d.late2
  device_total d words =
      let all = of_trees (d.held ∷ d.kept ∷ d.entries ∷ d.counts ∷ d.fresh ∷ d.late1 ∷ d.late2 ∷ []) (device_trees d words) refl in
      omega (arith, all)

  module _ (d : DeviceStreams) (are : AreStreams d) (words : Place → List ℕ) where
    on_weight : (first : Bool) → untold_in On d ≡ 0 → (first ≡ true → HasNoLate d) → sum_by weight (blocks_of s (device_trees d words)) ≡ sum_by weight (reach_all s (take (if first then 2 else 4) (streams_in On d)))
    on_weight true none late =
        let all = device_total d words in
        let told = of_streams (d.held ∷ d.kept ∷ []) in
        let a = nothing d.entries (omega (arith, none)) are.entries in
        let b = nothing d.counts (omega (arith, none)) are.counts in
        let c = nothing d.fresh (omega (arith, none)) are.fresh in
        let x = nothing d.late1 (late refl).late1 are.late1 in
        let y = nothing d.late2 (late refl).late2 are.late2 in
        omega (arith, all, told, a, b, c, x, y)
    on_weight false none late =
        let all = device_total d words in
        let told = of_streams (d.held ∷ d.kept ∷ d.late1 ∷ d.late2 ∷ []) in
        let a = nothing d.entries (omega (arith, none)) are.entries in
        let b = nothing d.counts (omega (arith, none)) are.counts in
        let c = nothing d.fresh (omega (arith, none)) are.fresh in
        omega (arith, all, told, a, b, c)

    leaving_weight : (first : Bool) → (first ≡ true → HasNoLate d) → sum_by weight (blocks_of s (device_trees d words)) ≡ sum_by weight (reach_all s (take (if first then 5 else 7) (streams_in Leaving d)))
    leaving_weight true late =
        let all = device_total d words in
        let told = of_streams (d.held ∷ d.kept ∷ d.entries ∷ d.counts ∷ d.fresh ∷ []) in
        let x = nothing d.late1 (late refl).late1 are.late1 in
        let y = nothing d.late2 (late refl).late2 are.late2 in
        omega (arith, all, told, x, y)
    leaving_weight false late =
        let all = device_total d words in
        let told = of_streams (d.held ∷ d.kept ∷ d.entries ∷ d.counts ∷ d.fresh ∷ d.late1 ∷ d.late2 ∷ []) in
        omega (arith, all, told)

    own_weight : (form : ℕ) (state : DevState) → untold_in state d ≡ 0 → ((form == 1) ≡ true → HasNoLate d) → sum_by weight (blocks_of s (device_trees d words)) ≡ sum_by weight (reach_all s (told_in form state d))
    own_weight form On none late = on_weight (form == 1) none late
    own_weight form Leaving none late = leaving_weight (form == 1) late
    own_weight form Gone none late =
        let all = device_total d words in
        let told = of_streams (d.entries ∷ d.counts ∷ d.fresh ∷ []) in
        let a = nothing d.held (omega (arith, none)) are.held in
        let b = nothing d.kept (omega (arith, none)) are.kept in
        let x = nothing d.late1 (omega (arith, none)) are.late1 in
        let y = nothing d.late2 (omega (arith, none)) are.late2 in
        omega (arith, all, told, a, b, x, y)

  rows_front : (row : ℕ → List Standing) (n : ℕ) → rows_of row (suc n) ≡ row 0 ++ rows_of (λ i. row (suc i)) n
  rows_front row zero = sym (append-nil (row 0))
  rows_front row (suc n) = ap (λ (xs : List Standing). xs ++ row (suc n)) (rows_front row n) ∙ append_assoc (row 0) (rows_of (λ i. row (suc i)) n) (row (suc n))

  pub devices_weight : (form : ℕ) (rows : List DevRow) (devices : List DeviceStreams) (words : ℕ → Place → List ℕ) → length devices ≡ length rows → All AreStreams devices → untold_of rows devices ≡ 0 → (form ≡ 1 → All HasNoLate devices)
      → sum_by weight (blocks_of s (rows_of (λ i. device_trees (get_or devices i no_streams) (words i)) (length rows))) ≡ sum_by weight (reach_all s (told_of form rows devices))
  devices_weight form [] devices words same are none late = refl
  devices_weight form (r ∷ rows) [] words same are none late = absurd (omega (arith, same))
  devices_weight form (r ∷ rows) (d ∷ devices) words same are none late =
      let cut : sum_by weight (blocks_of s (rows_of (λ i. device_trees (get_or (d ∷ devices) i no_streams) (words i)) (suc (length rows)))) ≡ sum_by weight (blocks_of s (device_trees d (words 0) ++ rows_of (λ i. device_trees (get_or devices i no_streams) (words (suc i))) (length rows))) =
      ap (λ (all : List Standing). sum_by weight (blocks_of s all)) (rows_front (λ i. device_trees (get_or (d ∷ devices) i no_streams) (words i)) (length rows)) in
      let two = weigh_two s (device_trees d (words 0)) (rows_of (λ i. device_trees (get_or devices i no_streams) (words (suc i))) (length rows)) weight in
      let own = own_weight d (All-head AreStreams d devices are) (words 0) form r.state (omega (arith, none)) (λ first. All-head HasNoLate d devices (late (is_first form first))) in
      let rest = devices_weight form rows devices (λ i. words (suc i)) (omega (arith, same)) (All-tail AreStreams d devices are) (omega (arith, none)) (λ first. All-tail HasNoLate d devices (late first)) in
      let told = two_all (told_in form r.state d) (told_of form rows devices) in
      omega (arith, cut, two, own, rest, told)

-- ---- they stand

pub device_stands : (s : Stored) (d : DeviceStreams) (words : Place → List ℕ) → ((place : Place) → HasWords s (stream_in place d) (words place)) → All (Stands s) (device_trees d words)
device_stands s d words stand =
    All-cons (Stands s) (of_stream d.held (words (OfLog Held))) (of_stream d.kept (words (OfLog Kept)) ∷ of_stream d.entries (words (OfMapping Entries)) ∷ of_stream d.counts (words (OfMapping Counts)) ∷ of_stream d.fresh (words (OfLog Fresh)) ∷ of_stream d.late1 (words FirstLate) ∷ of_stream d.late2 (words SecondLate) ∷ []) (stand (OfLog Held)).bytes
    (All-cons (Stands s) (of_stream d.kept (words (OfLog Kept))) (of_stream d.entries (words (OfMapping Entries)) ∷ of_stream d.counts (words (OfMapping Counts)) ∷ of_stream d.fresh (words (OfLog Fresh)) ∷ of_stream d.late1 (words FirstLate) ∷ of_stream d.late2 (words SecondLate) ∷ []) (stand (OfLog Kept)).bytes
    (All-cons (Stands s) (of_stream d.entries (words (OfMapping Entries))) (of_stream d.counts (words (OfMapping Counts)) ∷ of_stream d.fresh (words (OfLog Fresh)) ∷ of_stream d.late1 (words FirstLate) ∷ of_stream d.late2 (words SecondLate) ∷ []) (stand (OfMapping Entries)).bytes
    (All-cons (Stands s) (of_stream d.counts (words (OfMapping Counts))) (of_stream d.fresh (words (OfLog Fresh)) ∷ of_stream d.late1 (words FirstLate) ∷ of_stream d.late2 (words SecondLate) ∷ []) (stand (OfMapping Counts)).bytes
    (All-cons (Stands s) (of_stream d.fresh (words (OfLog Fresh))) (of_stream d.late1 (words FirstLate) ∷ of_stream d.late2 (words SecondLate) ∷ []) (stand (OfLog Fresh)).bytes
    (All-cons (Stands s) (of_stream d.late1 (words FirstLate)) (of_stream d.late2 (words SecondLate) ∷ []) (stand FirstLate).bytes
    (All-cons (Stands s) (of_stream d.late2 (words SecondLate)) [] (stand SecondLate).bytes (All-nil (Stands s))))))))

pub rows_stand : (s : Stored) (row : ℕ → List Standing) (n : ℕ) → ((i : ℕ) → i < n → All (Stands s) (row i)) → All (Stands s) (rows_of row n)
rows_stand s row zero each = All-nil (Stands s)
rows_stand s row (suc n) each = All-append (Stands s) (rows_of row n) (row n) (rows_stand s row n (λ i lt. each i (omega (arith, lt)))) (each n (omega arith))
