-- The streams of a head, cut into those of its devices.
use Rattle.std.proofs.Common.{◌≡◌, ◌==◌, ℕ, ◌+◌, ◌<◌, Bool, false, if◌then◌else◌, List, [], ◌∷◌, ◌++◌, length, take, drop, get_or, refl, sym, ◌∙◌, ap, arith}
use Rattle.std.proofs.lemmas.Bool.Decides.{nat_tests}
use Rattle.std.proofs.lemmas.List.{append_assoc, drop_more, length-take-le, take_more}
use Rattle.std.proofs.lemmas.List.Elements.{All-cons, All-head, All-nil, All-tail}
use Rattle.std.proofs.lemmas.List.Sums.{sum_by-cons}
use Rattle.std.specs.Prelude.{All}
use Rattle.zr_base.specs.declared.space.DevRow.{DevRow}
use Rattle.zr_base.specs.declared.space.DevState.{DevState}
use Rattle.zr_base.specs.declared.space.DevState.TheVariants.{On, Leaving, Gone}
use Rattle.zr_label.specs.Blocks.{no_row}
use Rattle.zr_meta.specs.Heads.{IsHead, stream_count, stream_total}
use Rattle.zr_meta.specs.declared.Head.{Head}
use Rattle.zr_meta.specs.declared.Stream.{Stream}
use Rattle.zr_open.specs.Streams.{untold_in, untold_of}
use Rattle.zr_sync.specs.Heads.{told_in, told_of}
use Rattle.zr_sync.specs.declared.open.DeviceStreams.{DeviceStreams}

-- ---- the streams of one device

is_other : (form : ℕ) → (form ≡ 1 → ⊥) → (form == 1) ≡ false
is_other form other = grind (arith, nat_tests, other)

-- a head of another form than the first has those of the late sets behind the others
late_last : (form : ℕ) (state : DevState) (d : DeviceStreams) (a b : Stream) (own : List Stream) → (form ≡ 1 → ⊥) → (state ≡ Gone → ⊥) → told_in 1 state d ++ (a ∷ b ∷ []) ≡ own → told_in form state (record d { late1 = a; late2 = b }) ≡ own
late_last form On d a b own other there is =
    ap (λ (t : Bool). take (if t then 2 else 4) (d.held ∷ d.kept ∷ a ∷ b ∷ [])) (is_other form other) ∙ is
late_last form Leaving d a b own other there is =
    ap (λ (t : Bool). take (if t then 5 else 7) (d.held ∷ d.kept ∷ d.entries ∷ d.counts ∷ d.fresh ∷ a ∷ b ∷ [])) (is_other form other) ∙ is
late_last form Gone d a b own other there is = absurd (there refl)

-- there are two of them
pub late_count : (form : ℕ) (state : DevState) → (form ≡ 1 → ⊥) → (state ≡ Gone → ⊥) → stream_count form state ≡ stream_count 1 state + 2
late_count form On other there = ap (λ (t : Bool). if t then 2 else 4) (is_other form other)
late_count form Leaving other there = ap (λ (t : Bool). if t then 5 else 7) (is_other form other)
late_count form Gone other there = absurd (there refl)

two : (xs : List Stream) (x : Stream) → length xs ≡ 2 → get_or xs 0 x ∷ get_or xs 1 x ∷ [] ≡ xs
two [] x is = absurd (omega (arith, is))
two (a ∷ []) x is = absurd (omega (arith, is))
two (a ∷ b ∷ []) x is = refl
two (a ∷ b ∷ c ∷ more) x is = absurd (omega (arith, is))

-- so the streams of a device in the first form, and those two, are the streams that the head has
pub with_late : (form : ℕ) (state : DevState) (d : DeviceStreams) (first late own : List Stream) (x : Stream) → (form ≡ 1 → ⊥) → (state ≡ Gone → ⊥) → told_in 1 state d ≡ first → first ++ late ≡ own → length late ≡ 2
    → told_in form state (record d { late1 = get_or late 0 x; late2 = get_or late 1 x }) ≡ own
with_late form state d first late own x other there are split long =
    late_last form state d (get_or late 0 x) (get_or late 1 x) own other there
    (ap (λ (xs : List Stream). xs ++ (get_or late 0 x ∷ get_or late 1 x ∷ [])) are ∙ (ap (λ (xs : List Stream). first ++ xs) (two late x long) ∙ split))

-- what the late sets of a device that is there have is told
pub late_untold : (state : DevState) (d : DeviceStreams) (a b : Stream) → (state ≡ Gone → ⊥) → untold_in state d ≡ 0 → untold_in state (record d { late1 = a; late2 = b }) ≡ 0
late_untold On d a b there none = none
late_untold Leaving d a b there none = refl
late_untold Gone d a b there none = absurd (there refl)

-- ---- those of all devices

-- one device more behind the others
pub one_more : (form : ℕ) (rows : List DevRow) (all : List DeviceStreams) (r : DevRow) (d : DeviceStreams) → length all ≡ length rows → told_of form (rows ++ r ∷ []) (all ++ d ∷ []) ≡ told_of form rows all ++ told_in form r.state d
one_more form [] [] r d same = append_nil (told_in form r.state d)
  where
    append_nil : (xs : List Stream) → xs ++ [] ≡ xs
    append_nil [] = refl
    append_nil (x ∷ xs) = ap (λ (ys : List Stream). x ∷ ys) (append_nil xs)
one_more form [] (x ∷ all) r d same = absurd (omega (arith, same))
one_more form (q ∷ rows) [] r d same = absurd (omega (arith, same))
one_more form (q ∷ rows) (x ∷ all) r d same =
    ap (λ (ys : List Stream). told_in form q.state x ++ ys) (one_more form rows all r d (omega (arith, same))) ∙ sym (append_assoc (told_in form q.state x) (told_of form rows all) (told_in form r.state d))

-- so many streams are left for the devices from an index on
abbrev pub left_total : List DevRow → Head → ℕ
left_total rows h = stream_total h.form rows h.cond

pub first_total : (rows : List DevRow) (h : Head) → IsHead rows h → length h.streams ≡ left_total rows h
first_total rows h is = is.count

pub next_total : (r : DevRow) (rows : List DevRow) (h : Head) → left_total (r ∷ rows) h ≡ stream_count h.form r.state + left_total rows h
next_total r rows h = let sum = sum_by-cons (λ (x : DevRow). stream_count h.form x.state) r rows in omega (arith, sum)

-- the streams of the device at an index, and those behind it
pub step_total : (rows : List DevRow) (i n : ℕ) (h : Head) → i < length rows → n ≡ left_total (drop i rows) h → n ≡ stream_count h.form (get_or rows i no_row).state + left_total (drop (i + 1) rows) h
step_total rows i n h lt is = is ∙ (ap (λ (rs : List DevRow). left_total rs h) (drop_more rows i no_row lt) ∙ next_total (get_or rows i no_row) (drop (i + 1) rows) h)

pub step_each : (form : ℕ) (rows : List DevRow) (i : ℕ) (all : List DeviceStreams) (d : DeviceStreams) (own others rest streams : List Stream) → i < length rows → length all ≡ i → told_in form (get_or rows i no_row).state d ≡ own → own ++ others ≡ rest
    → told_of form (take i rows) all ++ rest ≡ streams → told_of form (take (i + 1) rows) (all ++ d ∷ []) ++ others ≡ streams
step_each form rows i all d own others rest streams lt count is split each =
    let long = length-take-le i rows (omega (arith, lt)) in
    let front = told_of form (take i rows) all in
    ap (λ (rs : List DevRow). told_of form rs (all ++ d ∷ []) ++ others) (take_more rows i no_row lt)
    ∙ (ap (λ (xs : List Stream). xs ++ others) (one_more form (take i rows) all (get_or rows i no_row) d (omega (arith, count, long)))
    ∙ (append_assoc front (told_in form (get_or rows i no_row).state d) others
    ∙ (ap (λ (xs : List Stream). front ++ (xs ++ others)) is ∙ (ap (λ (xs : List Stream). front ++ xs) split ∙ each))))

-- what is not told of one device more
more_untold : (rows : List DevRow) (all : List DeviceStreams) (r : DevRow) (d : DeviceStreams) → length all ≡ length rows → untold_of (rows ++ r ∷ []) (all ++ d ∷ []) ≡ untold_of rows all + untold_in r.state d
more_untold [] [] r d same = omega (arith)
more_untold [] (x ∷ all) r d same = absurd (omega (arith, same))
more_untold (q ∷ rows) [] r d same = absurd (omega (arith, same))
more_untold (q ∷ rows) (x ∷ all) r d same = let rest = more_untold rows all r d (omega (arith, same)) in omega (arith, rest)

pub step_untold : (rows : List DevRow) (i : ℕ) (all : List DeviceStreams) (d : DeviceStreams) → i < length rows → length all ≡ i → untold_in (get_or rows i no_row).state d ≡ 0 → untold_of (take i rows) all ≡ 0 → untold_of (take (i + 1) rows) (all ++ d ∷ []) ≡ 0
step_untold rows i all d lt count one none =
    let long = length-take-le i rows (omega (arith, lt)) in
    let more = more_untold (take i rows) all (get_or rows i no_row) d (omega (arith, count, long)) in
    let cut = ap (λ (rs : List DevRow). untold_of rs (all ++ d ∷ [])) (take_more rows i no_row lt) in
    omega (arith, more, cut, one, none)

-- one more of which this holds
pub all_more : (P : DeviceStreams → Type 0) (all : List DeviceStreams) (d : DeviceStreams) → All P all → P d → All P (all ++ d ∷ [])
all_more P [] d each is = All-cons P d [] is (All-nil P)
all_more P (x ∷ all) d each is = All-cons P x (all ++ d ∷ []) (All-head P x all each) (all_more P all d (All-tail P x all each) is)
