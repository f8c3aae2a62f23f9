-- The units of the trees of streams, by their words.
use Rattle.std.proofs.Common.{◌≡◌, ℕ, zero, suc, ◌+◌, ◌*◌, ◌<◌, ◌≤◌, ◌==◌, Bool, true, false, List, [], ◌∷◌, length, refl, ap, arith, ⊎_elim}
use Rattle.std.specs.Int.{div_ceil}
use Rattle.std.specs.List.{sum_by, range_with_len}
use Rattle.std.proofs.lemmas.Bool.{cases_eq, cases_lt}
use Rattle.std.proofs.lemmas.Bool.Decides.{nat_tests}
use Rattle.std.proofs.lemmas.List.Sums.{sum_by-cons}
use Rattle.zr_base.specs.declared.space.DevPart.{DevPart}
use Rattle.zr_base.specs.declared.space.DevState.{DevState}
use Rattle.zr_base.specs.declared.space.DevState.TheVariants.{On, Leaving, Gone}
use Rattle.zr_base.specs.declared.space.Sizes.{Sizes}
use Rattle.zr_base.specs.Trees.{tree_units}
use Rattle.zr_owed.proofs.RoomLaws.{log_units, other_units, parts, past_fits, tree_units_mono}
use Rattle.zr_rules.specs.Columns.{role_count, device_streams, device_words, late_meta_units, late1_meta, sizes}
use Rattle.zr_rules.specs.Owed.{head_units, metadata_units, set_words, stream_units, tree_blocks, words_to_come}
use Rattle.zr_rules.specs.Places.{is_gone, is_on, no_part, part_of, state_of_dev}
use Rattle.zr_rules.specs.Space.{Space}
use Rattle.zr_reckon.specs.Base.{device_base, base_words}
use Rattle.zr_reckon.specs.Uses.{is_dropped_role, dropped_units}
use Rattle.zr_reckon.proofs.Counting.{by_index, sum_less, sum_both, sum_at, sum_zero, only_at}
use Rattle.zr_reckon.proofs.MetaTurns.{none_dropped}
use Rattle.zr_reckon.proofs.Frames.{sum_same}
use Rattle.zr_reserve.specs.Covered.{AddsNothing, HasFewMetadata}
use Rattle.zr_reserve.specs.Commits.{IsBegun}
use Rattle.zr_reserve.specs.Streams.{Words, stream_tree, device_trees, AreWordsOf, AreTrees, first_late_words, second_late_words, coming_late_words, no_late_words}
use Rattle.zr_reserve.specs.Wrote.{Wrote, units_of}
use Rattle.zr_reserve.proofs.Counted.{same_streams}
use Rattle.zr_reserve.proofs.Kept.{grown, head_less}

-- ---- one stream

-- a log on disk
log_tree : (words anew : ℕ) → words ≤ 2 * anew + 512 → 128 * stream_tree words ≤ anew + 512
log_tree words anew le = by_test (words == 0) refl
  where
    by_test : (b : Bool) → (words == 0) ≡ b → 128 * stream_tree words ≤ anew + 512
    by_test true is = rw is (omega arith)
    by_test false is =
        let l = log_units anew in
        let a = parts words 512 (omega arith) in
        let b = parts (2 * anew + 512) 512 (omega arith) in
        let m = tree_units_mono (div_ceil words 512) (div_ceil (2 * anew + 512) 512) (omega (arith, a, b, le)) in
        rw is (omega (arith, l, m))

-- another stream
other_tree : (words most : ℕ) → words ≤ most → 128 * stream_tree words ≤ most + 512
other_tree words most le = by_test (words == 0) refl
  where
    by_test : (b : Bool) → (words == 0) ≡ b → 128 * stream_tree words ≤ most + 512
    by_test true is = rw is (omega arith)
    by_test false is =
        let some : 0 < words = grind (arith, nat_tests, is) in
        let o = other_units words some in
        rw is (omega (arith, o, le))

none_tree : (words : ℕ) → words ≡ 0 → stream_tree words ≡ 0
none_tree words is = ap stream_tree is

-- ---- one device

abbrev device_anew : Space → ℕ → ℕ
device_anew s d =
    set_words s.parts.version (part_of s.parts.devs d).held + set_words s.parts.version (part_of s.parts.devs d).kept + 4 * length (part_of s.parts.devs d).entries
    + set_words s.parts.version (part_of s.parts.devs d).fresh

device_tree : (s : Space) (d late1 late2 : ℕ) (w : Words) → AreWordsOf s d late1 late2 w → 128 * device_trees w ≤ device_anew s d + late1 + late2 + 512 * device_streams (state_of_dev s.parts.devs d)
device_tree s d late1 late2 w a = by_state (state_of_dev s.parts.devs d) refl
  where
    h : 128 * stream_tree w.held ≤ set_words s.parts.version (part_of s.parts.devs d).held + 512
    h = log_tree w.held _ a.held

    k : 128 * stream_tree w.kept ≤ set_words s.parts.version (part_of s.parts.devs d).kept + 512
    k = log_tree w.kept _ a.kept

    f : 128 * stream_tree w.fresh ≤ set_words s.parts.version (part_of s.parts.devs d).fresh + 512
    f = log_tree w.fresh _ a.fresh

    e : 128 * stream_tree w.entries ≤ 3 * length (part_of s.parts.devs d).entries + 512
    e = other_tree w.entries _ a.entries

    c : 128 * stream_tree w.counts ≤ length (part_of s.parts.devs d).entries + 512
    c = other_tree w.counts _ a.counts

    x : 128 * stream_tree w.late1 ≤ late1 + 512
    x = other_tree w.late1 _ a.first_late

    y : 128 * stream_tree w.late2 ≤ late2 + 512
    y = other_tree w.late2 _ a.second_late

    by_state : (st : DevState) → state_of_dev s.parts.devs d ≡ st → 128 * device_trees w ≤ device_anew s d + late1 + late2 + 512 * device_streams (state_of_dev s.parts.devs d)
    by_state On is =
        let n = a.service (ap is_on is) in
        let z1 = none_tree w.fresh (omega (arith, n)) in
        let z2 = none_tree w.entries (omega (arith, n)) in
        let z3 = none_tree w.counts (omega (arith, n)) in
        let four = ap device_streams is in
        omega (arith, h, k, x, y, z1, z2, z3, four)
    by_state Leaving is =
        let seven = ap device_streams is in
        omega (arith, h, k, f, e, c, x, y, seven)
    by_state Gone is =
        let n = a.gone (ap is_gone is) in
        let z1 = none_tree w.held (omega (arith, n)) in
        let z2 = none_tree w.kept (omega (arith, n)) in
        let z3 = none_tree w.late1 (omega (arith, n)) in
        let z4 = none_tree w.late2 (omega (arith, n)) in
        let three = ap device_streams is in
        omega (arith, f, e, c, z1, z2, z3, z4, three)

-- ---- all of them

sum_of_five : (f g h k : ℕ → ℕ) (xs : List ℕ) → sum_by (λ d. f d + g d + h d + 512 * k d) xs ≡ sum_by f xs + sum_by g xs + sum_by h xs + 512 * sum_by k xs
sum_of_five f g h k [] = refl
sum_of_five f g h k (x ∷ xs) =
    let r = sum_of_five f g h k xs in
    let a = sum_by-cons f x xs in
    let b = sum_by-cons g x xs in
    let c = sum_by-cons h x xs in
    let e = sum_by-cons k x xs in
    let z = sum_by-cons (λ (d : ℕ). f d + g d + h d + 512 * k d) x xs in
    omega (arith, r, a, b, c, e, z)

sum_times : (f : ℕ → ℕ) (xs : List ℕ) → sum_by (λ d. 128 * f d) xs ≡ 128 * sum_by f xs
sum_times f [] = refl
sum_times f (x ∷ xs) =
    let r = sum_times f xs in
    let a = sum_by-cons f x xs in
    let b = sum_by-cons (λ (d : ℕ). 128 * f d) x xs in
    omega (arith, r, a, b)

-- the entries of one device are among those of all
past_part : (xs : List DevPart) (d : ℕ) → length xs ≤ d → part_of xs d ≡ no_part
past_part [] d le = refl
past_part (x ∷ xs) zero le = absurd (omega (arith, le))
past_part (x ∷ xs) (suc d) le = past_part xs d (omega (arith, le))

abbrev entries_on : Space → ℕ → ℕ
entries_on s d = length (part_of s.parts.devs d).entries

one_mapping : (s : Space) (d : ℕ) → entries_on s d ≤ sum_by (entries_on s) (range_with_len 0 (length s.parts.devs))
one_mapping s d = ⊎_elim
    (λ known.
    let a = sum_at d (entries_on s d) (length s.parts.devs) known in
    let b = sum_less (only_at d (entries_on s d)) (entries_on s) (range_with_len 0 (length s.parts.devs)) (λ e. ⊎_elim
    (λ here. let same = ap (entries_on s) here in grind (arith, nat_tests, here, same))
    (λ away. grind (arith, nat_tests, away))
    (cases_eq e d)) in
    omega (arith, a, b))
    (λ beyond. let none = ap (λ (p : DevPart). length p.entries) (past_part s.parts.devs d beyond) in omega (arith, none))
    (cases_lt d (length s.parts.devs))

trees_few : (s : Space) (late1 late2 : ℕ → ℕ) (units : ℕ) → AreTrees s late1 late2 units
    → 128 * units ≤ 128 * (head_units (sizes s 0 0) + 4 * (sizes s 0 0).streams) + sum_by (λ d. device_anew s d + 4 * entries_on s d) (range_with_len 0 (length s.parts.devs))
    + sum_by late1 (range_with_len 0 (length s.parts.devs)) + sum_by late2 (range_with_len 0 (length s.parts.devs))
trees_few s late1 late2 units t =
    let range = range_with_len 0 (length s.parts.devs) in
    let trees = λ (d : ℕ). device_trees (t.words d) in
    let streams = λ (d : ℕ). device_streams (state_of_dev s.parts.devs d) in
    let a = sum_times trees range in
    let b = sum_less (λ (d : ℕ). 128 * device_trees (t.words d)) (λ (d : ℕ). device_anew s d + late1 d + late2 d + 512 * device_streams (state_of_dev s.parts.devs d)) range
    (λ d. device_tree s d (late1 d) (late2 d) (t.words d) (t.each d)) in
    let c = sum_of_five (device_anew s) late1 late2 streams range in
    let k = by_index (λ (p : DevPart). device_streams p.row.state) s.parts.devs in
    let m = one_mapping s t.device in
    let e = other_tree (3 * t.worked) (3 * t.worked) (omega arith) in
    let g = other_tree t.worked t.worked (omega arith) in
    let w = t.fewer in
    let sum = t.sum in
    let both = sum_both (λ (d : ℕ). device_anew s d + 4 * entries_on s d) (device_anew s) (λ (d : ℕ). 4 * entries_on s d) range (λ d. refl) in
    let four = sum_four (entries_on s) range in
    omega (arith, a, b, c, k, m, e, g, w, sum, both, four)
  where
    sum_four : (f : ℕ → ℕ) (xs : List ℕ) → sum_by (λ d. 4 * f d) xs ≡ 4 * sum_by f xs
    sum_four f [] = refl
    sum_four f (x ∷ xs) =
        let r = sum_four f xs in
        let a = sum_by-cons f x xs in
        let b = sum_by-cons (λ (d : ℕ). 4 * f d) x xs in
        omega (arith, r, a, b)

-- ---- of a root

three_sums : (x y z w p q : ℕ → ℕ) (xs : List ℕ) → ((d : ℕ) → x d + y d + z d ≤ w d + p d + q d) → sum_by x xs + sum_by y xs + sum_by z xs ≤ sum_by w xs + sum_by p xs + sum_by q xs
three_sums x y z w p q [] le = omega arith
three_sums x y z w p q (d ∷ ds) le =
    let r = three_sums x y z w p q ds le in
    let l = le d in
    let a = sum_by-cons x d ds in
    let b = sum_by-cons y d ds in
    let c = sum_by-cons z d ds in
    let e = sum_by-cons w d ds in
    let f = sum_by-cons p d ds in
    let g = sum_by-cons q d ds in
    omega (arith, r, l, a, b, c, e, f, g)

pub root_few : (s : Space) → AreTrees s (first_late_words s) (second_late_words s) (units_of s.meta) → HasFewMetadata s
root_few s t =
    let range = range_with_len 0 (length s.parts.devs) in
    let f = trees_few s (first_late_words s) (second_late_words s) (units_of s.meta) t in
    let first = λ (d : ℕ). late_meta_units (part_of s.parts.devs d).late1 in
    let second = λ (d : ℕ). late_meta_units (part_of s.parts.devs d).late2 in
    let a = by_index (λ (p : DevPart). late_meta_units p.late1) s.parts.devs in
    let b = by_index (λ (p : DevPart). late_meta_units p.late2) s.parts.devs in
    let g = three_sums (λ (d : ℕ). device_anew s d + 4 * entries_on s d) (first_late_words s) (second_late_words s) (device_words s) first second range (λ d. omega arith) in
    record { few = omega (arith, f, a, b, g) }

-- ---- within a commit

owed_metadata : (s : Sizes) (metadata words uncopied late1 late2 : ℕ) → words + 10 * uncopied + 64 ≤ words_to_come s → 128 * metadata ≤ 128 * (head_units s + 4 * s.streams) + words + late1 + late2
    → late1 ≤ s.past → late2 ≤ s.past → metadata ≤ metadata_units s
owed_metadata s metadata words uncopied late1 late2 grew is a b =
    let w = parts (words_to_come s) 128 (omega arith) in
    let x = past_fits (stream_units s) s.past in
    omega (arith, w, x, grew, is, a, b)

pub put_few : (old mid : Space) (changed objects most blocks frees metadata given : ℕ) → IsBegun old → Wrote old mid most blocks frees metadata given
    → most ≤ (sizes old 0 0).gone + 7 → blocks ≤ tree_blocks (sizes old changed objects) → frees ≤ tree_blocks (sizes old changed objects) → given ≤ (sizes old 0 0).past
    → AreTrees mid (coming_late_words mid) (first_late_words mid) metadata → metadata ≤ metadata_units (sizes old changed objects)
put_few old mid changed objects most blocks frees metadata given begun w le b f g t =
    let range = range_with_len 0 (length mid.parts.devs) in
    let few = trees_few mid (coming_late_words mid) (first_late_words mid) metadata t in
    let first = λ (d : ℕ). late_meta_units (part_of mid.parts.devs d).late1 in
    let a = by_index (λ (p : DevPart). late_meta_units p.late1) mid.parts.devs in
    let stays = sum_same old mid w.devices (λ d. (w.each d).row) (λ (p : DevPart). late_meta_units p.late1) (λ d. ap late_meta_units (w.each d).late1) in
    let sums = three_sums (λ (d : ℕ). device_anew mid d + 4 * entries_on mid d) (coming_late_words mid) (first_late_words mid) (device_words mid) (role_count mid is_dropped_role) first range (λ d. omega arith) in
    let streams = same_streams old mid most blocks frees metadata given w in
    let head = ap (λ (n : ℕ). tree_units (div_ceil (535 + 17 * n) 512)) streams in
    let words = w.words in
    let uncopied = w.uncopied in
    let waits = w.waits in
    let none = none_dropped old begun.lawful begun.none in
    let tree = grown (sizes old 0 0).gone (tree_blocks (sizes old changed objects)) most blocks frees le b f in
    owed_metadata (sizes old changed objects) metadata (sizes mid 0 0).words (sizes mid 0 0).uncopied (dropped_units mid) (late1_meta mid.parts.devs)
    (omega (arith, words, uncopied, tree)) (omega (arith, few, sums, a, streams, head)) (omega (arith, waits, none, g)) (omega (arith, stays))

pub put_few_reset : (start old mid : Space) (changed objects most blocks frees metadata given : ℕ) → AddsNothing true start old → Wrote old mid most blocks frees metadata given
    → most ≤ (sizes start 0 0).gone + 7 → blocks ≤ tree_blocks (sizes start changed objects) → frees ≤ tree_blocks (sizes start changed objects)
    → AreTrees mid no_late_words no_late_words metadata → metadata ≤ metadata_units (sizes start changed objects)
put_few_reset start old mid changed objects most blocks frees metadata given n w le b f t =
    let range = range_with_len 0 (length mid.parts.devs) in
    let few = trees_few mid no_late_words no_late_words metadata t in
    let none = sum_zero range in
    let sums = sum_less (λ (d : ℕ). device_anew mid d + 4 * entries_on mid d) (device_base mid) range (λ d. omega arith) in
    let streams = same_streams old mid most blocks frees metadata given w in
    let fewer = n.streams in
    let head = head_less (sizes start changed objects) (sizes mid 0 0) (omega (arith, streams, fewer)) in
    let base = w.base in
    let words = n.words in
    let u1 = w.uncopied in
    let u2 = n.uncopied in
    let tree = grown (sizes start 0 0).gone (tree_blocks (sizes start changed objects)) most blocks frees le b f in
    owed_metadata (sizes start changed objects) metadata (base_words mid) (sizes mid 0 0).uncopied 0 0
    (omega (arith, base, words, u1, u2, tree)) (omega (arith, few, none, sums, streams, fewer, head)) (omega arith) (omega arith)
