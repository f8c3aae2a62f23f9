-- What steps on streams leave of the trees that stand beside each other.
use Rattle.std.proofs.Common.{◌≡◌, ◌≢◌, ◌∙◌, ℕ, zero, suc, ◌<◌, ◌&&◌, Bool, true, false, List, [], ◌∷◌, ◌++◌, length, refl, sym, ap, subst, arith, if◌then◌else◌}
use Rattle.std.specs.Prelude.{All, nat_eq, slice_set, slice_index_or}
use Rattle.std.proofs.lemmas.Bool.Decides.{nat_tests}
use Rattle.std.proofs.lemmas.List.{get_or-set_same, get_or-set_other, append-nil}
use Rattle.std.proofs.lemmas.List.Elements.{All-nil, All-cons}
use Rattle.zr_beside.specs.Beside.{Standing, StandBeside, Stands, blocks_of, of_stream, rows_of}
use Rattle.zr_beside.proofs.Rows.{row_changes, in_row}
use Rattle.zr_commit.specs.Logs.{Rewrites}
use Rattle.zr_meta.specs.declared.Stream.{Stream}
use Rattle.zr_root.specs.Streams.{HasWords}
use Rattle.zr_store.specs.Store.{Stored, AreStored, Now, Swaps}
use Rattle.zr_tree.specs.Trees.{tree_reach}
use Rattle.zr_sync.specs.Empty.{no_streams}
use Rattle.zr_sync.specs.Mappings.{cond_stream}
use Rattle.zr_sync.specs.Streams.{HasMeta, streams_at}
use Rattle.zr_sync.specs.Trees.{Place, Stage, HoldsStreams, IsAt, IsCondAt, WritesPlace, cond_trees, device_trees, is_place, place_number, stream_in, with_stream}
use Rattle.zr_sync.specs.Trees.Place.{OfLog, OfMapping, FirstLate, SecondLate}
use Rattle.zr_sync.specs.Trees.Stage.{Written}
use Rattle.zr_sync.specs.declared.mappings.MappingStream.{MappingStream}
use Rattle.zr_sync.specs.declared.mappings.MappingStream.TheVariants.{Entries, Counts}
use Rattle.zr_sync.specs.declared.open.CondStreams.{CondStreams}
use Rattle.zr_sync.specs.declared.open.DeviceStreams.{DeviceStreams}
use Rattle.zr_sync.specs.declared.open.OpenPool.{OpenPool}
use Rattle.zr_sync.specs.declared.words.Log.TheVariants.{Held, Kept, Fresh}

-- ---- one device

never : true ≡ false → ⊥
never e = cc

same_number : (n : ℕ) → nat_eq n n ≡ true
same_number n = grind (arith, nat_tests)

other_number : (a b : ℕ) → a ≢ b → nat_eq a b ≡ false
other_number a b ne = grind (arith, nat_tests, ne)

equal_numbers : (a b : ℕ) → nat_eq a b ≡ true → a ≡ b
equal_numbers a b is = grind (arith, nat_tests, is)

unequal_numbers : (a b : ℕ) → nat_eq a b ≡ false → a ≢ b
unequal_numbers a b is e = never (sym (ap (λ (k : ℕ). nat_eq a k) (sym e) ∙ same_number a) ∙ is)

-- the trees before one of a device, and those behind it
abbrev before : Place → DeviceStreams → (Place → List ℕ) → List Standing
before (OfLog Held) t w = []
before (OfLog Kept) t w = of_stream t.held (w (OfLog Held)) ∷ []
before (OfMapping Entries) t w = of_stream t.held (w (OfLog Held)) ∷ of_stream t.kept (w (OfLog Kept)) ∷ []
before (OfMapping Counts) t w = of_stream t.held (w (OfLog Held)) ∷ of_stream t.kept (w (OfLog Kept)) ∷ of_stream t.entries (w (OfMapping Entries)) ∷ []
before (OfLog Fresh) t w = of_stream t.held (w (OfLog Held)) ∷ of_stream t.kept (w (OfLog Kept)) ∷ of_stream t.entries (w (OfMapping Entries)) ∷ of_stream t.counts (w (OfMapping Counts)) ∷ []
before FirstLate t w = of_stream t.held (w (OfLog Held)) ∷ of_stream t.kept (w (OfLog Kept)) ∷ of_stream t.entries (w (OfMapping Entries)) ∷ of_stream t.counts (w (OfMapping Counts)) ∷ of_stream t.fresh (w (OfLog Fresh)) ∷ []
before SecondLate t w = of_stream t.held (w (OfLog Held)) ∷ of_stream t.kept (w (OfLog Kept)) ∷ of_stream t.entries (w (OfMapping Entries)) ∷ of_stream t.counts (w (OfMapping Counts)) ∷ of_stream t.fresh (w (OfLog Fresh)) ∷ of_stream t.late1 (w FirstLate) ∷ []

abbrev behind : Place → DeviceStreams → (Place → List ℕ) → List Standing
behind (OfLog Held) t w = of_stream t.kept (w (OfLog Kept)) ∷ of_stream t.entries (w (OfMapping Entries)) ∷ of_stream t.counts (w (OfMapping Counts)) ∷ of_stream t.fresh (w (OfLog Fresh)) ∷ of_stream t.late1 (w FirstLate) ∷ of_stream t.late2 (w SecondLate) ∷ []
behind (OfLog Kept) t w = of_stream t.entries (w (OfMapping Entries)) ∷ of_stream t.counts (w (OfMapping Counts)) ∷ of_stream t.fresh (w (OfLog Fresh)) ∷ of_stream t.late1 (w FirstLate) ∷ of_stream t.late2 (w SecondLate) ∷ []
behind (OfMapping Entries) t w = of_stream t.counts (w (OfMapping Counts)) ∷ of_stream t.fresh (w (OfLog Fresh)) ∷ of_stream t.late1 (w FirstLate) ∷ of_stream t.late2 (w SecondLate) ∷ []
behind (OfMapping Counts) t w = of_stream t.fresh (w (OfLog Fresh)) ∷ of_stream t.late1 (w FirstLate) ∷ of_stream t.late2 (w SecondLate) ∷ []
behind (OfLog Fresh) t w = of_stream t.late1 (w FirstLate) ∷ of_stream t.late2 (w SecondLate) ∷ []
behind FirstLate t w = of_stream t.late2 (w SecondLate) ∷ []
behind SecondLate t w = []

-- the words of a device's streams, of which those of one place are others
abbrev words_with : Place → (Place → List ℕ) → List ℕ → Place → List ℕ
words_with place w ns p = if nat_eq (place_number p) (place_number place) then ns else w p

old_row : (place : Place) (t : DeviceStreams) (w : Place → List ℕ) → device_trees t w ≡ before place t w ++ (of_stream (stream_in place t) (w place) ∷ behind place t w)
old_row (OfLog Held) t w = refl
old_row (OfLog Kept) t w = refl
old_row (OfMapping Entries) t w = refl
old_row (OfMapping Counts) t w = refl
old_row (OfLog Fresh) t w = refl
old_row FirstLate t w = refl
old_row SecondLate t w = refl

new_row : (place : Place) (t : DeviceStreams) (w : Place → List ℕ) (stream : Stream) (ns : List ℕ) → device_trees (with_stream place t stream) (words_with place w ns) ≡ before place t w ++ (of_stream stream ns ∷ behind place t w)
new_row (OfLog Held) t w stream ns = refl
new_row (OfLog Kept) t w stream ns = refl
new_row (OfMapping Entries) t w stream ns = refl
new_row (OfMapping Counts) t w stream ns = refl
new_row (OfLog Fresh) t w stream ns = refl
new_row FirstLate t w stream ns = refl
new_row SecondLate t w stream ns = refl

-- a place by its number
abbrev place_at : ℕ → Place
place_at zero = OfLog Held
place_at (suc zero) = OfLog Kept
place_at (suc (suc zero)) = OfMapping Entries
place_at (suc (suc (suc zero))) = OfMapping Counts
place_at (suc (suc (suc (suc zero)))) = OfLog Fresh
place_at (suc (suc (suc (suc (suc zero))))) = FirstLate
place_at n = SecondLate

numbered : (p : Place) → place_at (place_number p) ≡ p
numbered (OfLog Held) = refl
numbered (OfLog Kept) = refl
numbered (OfMapping Entries) = refl
numbered (OfMapping Counts) = refl
numbered (OfLog Fresh) = refl
numbered FirstLate = refl
numbered SecondLate = refl

same_place : (p q : Place) → nat_eq (place_number p) (place_number q) ≡ true → p ≡ q
same_place p q is = sym (numbered p) ∙ (ap place_at (equal_numbers (place_number p) (place_number q) is) ∙ numbered q)

-- a stream at another place stays
other_stream : (place p : Place) (t : DeviceStreams) (stream : Stream) → nat_eq (place_number p) (place_number place) ≡ false → stream_in p (with_stream place t stream) ≡ stream_in p t
other_stream (OfLog Held) (OfLog Held) t stream ne = absurd (never ne)
other_stream (OfLog Held) (OfLog Kept) t stream ne = refl
other_stream (OfLog Held) (OfLog Fresh) t stream ne = refl
other_stream (OfLog Held) (OfMapping Entries) t stream ne = refl
other_stream (OfLog Held) (OfMapping Counts) t stream ne = refl
other_stream (OfLog Held) FirstLate t stream ne = refl
other_stream (OfLog Held) SecondLate t stream ne = refl
other_stream (OfLog Kept) (OfLog Held) t stream ne = refl
other_stream (OfLog Kept) (OfLog Kept) t stream ne = absurd (never ne)
other_stream (OfLog Kept) (OfLog Fresh) t stream ne = refl
other_stream (OfLog Kept) (OfMapping Entries) t stream ne = refl
other_stream (OfLog Kept) (OfMapping Counts) t stream ne = refl
other_stream (OfLog Kept) FirstLate t stream ne = refl
other_stream (OfLog Kept) SecondLate t stream ne = refl
other_stream (OfLog Fresh) (OfLog Held) t stream ne = refl
other_stream (OfLog Fresh) (OfLog Kept) t stream ne = refl
other_stream (OfLog Fresh) (OfLog Fresh) t stream ne = absurd (never ne)
other_stream (OfLog Fresh) (OfMapping Entries) t stream ne = refl
other_stream (OfLog Fresh) (OfMapping Counts) t stream ne = refl
other_stream (OfLog Fresh) FirstLate t stream ne = refl
other_stream (OfLog Fresh) SecondLate t stream ne = refl
other_stream (OfMapping Entries) (OfLog Held) t stream ne = refl
other_stream (OfMapping Entries) (OfLog Kept) t stream ne = refl
other_stream (OfMapping Entries) (OfLog Fresh) t stream ne = refl
other_stream (OfMapping Entries) (OfMapping Entries) t stream ne = absurd (never ne)
other_stream (OfMapping Entries) (OfMapping Counts) t stream ne = refl
other_stream (OfMapping Entries) FirstLate t stream ne = refl
other_stream (OfMapping Entries) SecondLate t stream ne = refl
other_stream (OfMapping Counts) (OfLog Held) t stream ne = refl
other_stream (OfMapping Counts) (OfLog Kept) t stream ne = refl
other_stream (OfMapping Counts) (OfLog Fresh) t stream ne = refl
other_stream (OfMapping Counts) (OfMapping Entries) t stream ne = refl
other_stream (OfMapping Counts) (OfMapping Counts) t stream ne = absurd (never ne)
other_stream (OfMapping Counts) FirstLate t stream ne = refl
other_stream (OfMapping Counts) SecondLate t stream ne = refl
other_stream FirstLate (OfLog Held) t stream ne = refl
other_stream FirstLate (OfLog Kept) t stream ne = refl
other_stream FirstLate (OfLog Fresh) t stream ne = refl
other_stream FirstLate (OfMapping Entries) t stream ne = refl
other_stream FirstLate (OfMapping Counts) t stream ne = refl
other_stream FirstLate FirstLate t stream ne = absurd (never ne)
other_stream FirstLate SecondLate t stream ne = refl
other_stream SecondLate (OfLog Held) t stream ne = refl
other_stream SecondLate (OfLog Kept) t stream ne = refl
other_stream SecondLate (OfLog Fresh) t stream ne = refl
other_stream SecondLate (OfMapping Entries) t stream ne = refl
other_stream SecondLate (OfMapping Counts) t stream ne = refl
other_stream SecondLate FirstLate t stream ne = refl
other_stream SecondLate SecondLate t stream ne = absurd (never ne)

this_stream : (place : Place) (t : DeviceStreams) (stream : Stream) → stream_in place (with_stream place t stream) ≡ stream
this_stream (OfLog Held) t stream = refl
this_stream (OfLog Kept) t stream = refl
this_stream (OfLog Fresh) t stream = refl
this_stream (OfMapping Entries) t stream = refl
this_stream (OfMapping Counts) t stream = refl
this_stream FirstLate t stream = refl
this_stream SecondLate t stream = refl

if_is : {A : Type 0} (b : Bool) (x y : A) → b ≡ true → (if b then x else y) ≡ x
if_is true x y is = refl
if_is false x y is = cc

if_not : {A : Type 0} (b : Bool) (x y : A) → b ≡ false → (if b then x else y) ≡ y
if_not true x y is = cc
if_not false x y is = refl

-- ---- all devices

-- the words of all devices, of which those of one are others
abbrev all_with : ℕ → (ℕ → Place → List ℕ) → (Place → List ℕ) → ℕ → Place → List ℕ
all_with dev w v e = if nat_eq e dev then v else w e

-- Trees of one device come in the place of others.
module _ (stage now_stage : ℕ → Place → Stage) (cond_stage : MappingStream → Stage) (beside_them : List Standing) (t1 t2 : Type 0) (d1 d2 : List (List ℕ)) (x y : OpenPool) (h : HoldsStreams stage cond_stage beside_them t1 d1 x) (dev : ℕ) (there : dev < x.table.count) (listed : dev < length x.streams.items) (t : DeviceStreams)
    (count : y.table.count ≡ x.table.count) (cond : y.cond ≡ x.cond) (streams : y.streams.items ≡ slice_set x.streams.items dev t) where
  here : streams_at y dev ≡ t
  here = ap (λ (xs : List DeviceStreams). slice_index_or xs dev no_streams) streams ∙ get_or-set_same x.streams.items dev t no_streams listed

  elsewhere : (e : ℕ) → e ≢ dev → streams_at y e ≡ streams_at x e
  elsewhere e ne = ap (λ (xs : List DeviceStreams). slice_index_or xs e no_streams) streams ∙ get_or-set_other x.streams.items dev e t no_streams ne

  module _ (v : Place → List ℕ) (first gone came last : List Standing) (old : device_trees (streams_at x dev) (h.words dev) ≡ first ++ (gone ++ last)) (new : device_trees t v ≡ first ++ (came ++ last)) (n : Stored) (held : HasMeta t2 d2 y n) (swaps : Swaps h.stored n (blocks_of h.stored gone) (blocks_of n came)) (stand : All (Stands n) came)
      (counts : (p : Place) → length (v p) ≡ (stream_in p t).words) (are : (p : Place) → IsAt (now_stage dev p) y dev p (v p)) (others_are : (e : ℕ) (p : Place) (ws : List ℕ) → e ≢ dev → e < x.table.count → IsAt (stage e p) x e p ws → IsAt (now_stage e p) y e p ws)
      (cond_are : (which : MappingStream) (ws : List ℕ) → IsCondAt (cond_stage which) x which ws → IsCondAt (cond_stage which) y which ws) where
    abbrev words_now : ℕ → Place → List ℕ
    words_now = all_with dev h.words v

    words_here : words_now dev ≡ v
    words_here = if_is (nat_eq dev dev) v (h.words dev) (same_number dev)

    words_there : (e : ℕ) → e ≢ dev → words_now e ≡ h.words e
    words_there e ne = if_not (nat_eq e dev) v (h.words e) (other_number e dev ne)

    rows_there : (e : ℕ) → e ≢ dev → device_trees (streams_at y e) (words_now e) ≡ device_trees (streams_at x e) (h.words e)
    rows_there e ne = ap (λ (s : DeviceStreams). device_trees s (words_now e)) (elsewhere e ne) ∙ ap (λ (w : Place → List ℕ). device_trees (streams_at x e) w) (words_there e ne)

    row_here : device_trees (streams_at y dev) (words_now dev) ≡ first ++ (came ++ last)
    row_here = ap (λ (s : DeviceStreams). device_trees s (words_now dev)) here ∙ (ap (λ (w : Place → List ℕ). device_trees t w) words_here ∙ new)

    beside_now : StandBeside n (rows_of (λ e. device_trees (streams_at y e) (words_now e)) y.table.count ++ (cond_trees y.cond h.cond ++ beside_them))
    beside_now =
        subst (λ (k : ℕ). StandBeside n (rows_of (λ e. device_trees (streams_at y e) (words_now e)) k ++ (cond_trees y.cond h.cond ++ beside_them))) (sym count)
        (subst (λ (t : CondStreams). StandBeside n (rows_of (λ e. device_trees (streams_at y e) (words_now e)) x.table.count ++ (cond_trees t h.cond ++ beside_them))) (sym cond)
        (row_changes h.stored n (λ e. device_trees (streams_at x e) (h.words e)) (λ e. device_trees (streams_at y e) (words_now e)) x.table.count dev first gone came last (cond_trees x.cond h.cond ++ beside_them) there rows_there old row_here h.beside held.alone swaps stand))

    counts_now : (e : ℕ) (p : Place) → e < y.table.count → length (words_now e p) ≡ (stream_in p (streams_at y e)).words
    counts_now e p lt = (elim (nat_eq e dev) as (λ (b : Bool). nat_eq e dev ≡ b → length (words_now e p) ≡ (stream_in p (streams_at y e)).words) [
      | true ↦ λ is.
          let same = equal_numbers e dev is in
          subst (λ (k : ℕ). length (words_now k p) ≡ (stream_in p (streams_at y k)).words) (sym same) (ap (λ (w : Place → List ℕ). length (w p)) words_here ∙ (counts p ∙ ap (λ (s : DeviceStreams). (stream_in p s).words) (sym here)))
      | false ↦ λ is.
          let ne = unequal_numbers e dev is in
          ap (λ (w : Place → List ℕ). length (w p)) (words_there e ne) ∙ (h.counts e p (subst (λ (k : ℕ). e < k) count lt) ∙ ap (λ (s : DeviceStreams). (stream_in p s).words) (sym (elsewhere e ne)))
    ]) refl

    are_now : (e : ℕ) (p : Place) → e < y.table.count → IsAt (now_stage e p) y e p (words_now e p)
    are_now e p lt = (elim (nat_eq e dev) as (λ (b : Bool). nat_eq e dev ≡ b → IsAt (now_stage e p) y e p (words_now e p)) [
      | true ↦ λ is.
          let same = equal_numbers e dev is in
          subst (λ (k : ℕ). IsAt (now_stage k p) y k p (words_now k p)) (sym same) (subst (λ (w : Place → List ℕ). IsAt (now_stage dev p) y dev p (w p)) (sym words_here) (are p))
      | false ↦ λ is.
          let ne = unequal_numbers e dev is in
          let below = subst (λ (k : ℕ). e < k) count lt in
          subst (λ (w : Place → List ℕ). IsAt (now_stage e p) y e p (w p)) (sym (words_there e ne)) (others_are e p (h.words e p) ne below (h.are e p below))
    ]) refl

    pub row_written : HoldsStreams now_stage cond_stage beside_them t2 d2 y
    row_written = record {
      stored = n;
      held = held;
      words = words_now;
      cond = h.cond;
      beside = beside_now;
      counts = counts_now;
      cond_counts = λ which. h.cond_counts which ∙ ap (λ c. (cond_stream which c).words) (sym cond);
      are = are_now;
      are_cond = λ which. cond_are which (h.cond which) (h.are_cond which);
    }

-- ---- one stream

-- what stands in a stream
pub place_stands : (stage : ℕ → Place → Stage) (cond_stage : MappingStream → Stage) (beside_them : List Standing) (t1 : Type 0) (d1 : List (List ℕ)) (x : OpenPool) (h : HoldsStreams stage cond_stage beside_them t1 d1 x) (dev : ℕ) (place : Place) → dev < x.table.count
    → AreStored (tree_reach h.stored (stream_in place (streams_at x dev)).tree) h.stored × HasWords h.stored (stream_in place (streams_at x dev)) (h.words dev place)
place_stands stage cond_stage beside_them t1 d1 x h dev place there =
    let t = streams_at x dev in
    let w = h.words dev in
    let is = in_row h.stored (λ e. device_trees (streams_at x e) (h.words e)) x.table.count dev (before place t w) (behind place t w) (cond_trees x.cond h.cond ++ beside_them) (of_stream (stream_in place t) (w place)) there (old_row place t w) h.beside in
    (is.0, record { count = h.counts dev place there; bytes = is.1 })

not_this : (dev e : ℕ) (place p : Place) → e ≢ dev → is_place dev place e p ≡ false
not_this dev e place p ne = ap (λ (b : Bool). b && nat_eq (place_number p) (place_number place)) (other_number e dev ne)

and_no : (b : Bool) → (b && false) ≡ false
and_no true = refl
and_no false = refl

not_there : (dev : ℕ) (place p : Place) → nat_eq (place_number p) (place_number place) ≡ false → is_place dev place dev p ≡ false
not_there dev place p ne = ap (λ (b : Bool). nat_eq dev dev && b) ne ∙ and_no (nat_eq dev dev)

-- one stream of a device is written
module _ (first : Stage) (stage now_stage : ℕ → Place → Stage) (cond_stage : MappingStream → Stage) (beside_them : List Standing) (t1 t2 : Type 0) (d1 d2 : List (List ℕ)) (x y : OpenPool) (h : HoldsStreams stage cond_stage beside_them t1 d1 x) (dev : ℕ) (there : dev < x.table.count) (listed : dev < length x.streams.items) (place : Place) (stream : Stream) (ns : List ℕ)
    (count : y.table.count ≡ x.table.count) (cond : y.cond ≡ x.cond) (streams : y.streams.items ≡ slice_set x.streams.items dev (with_stream place (streams_at x dev) stream)) (turn : WritesPlace first stage now_stage dev place) (wrote : Now (HasMeta t2 d2 y) (λ n. Rewrites h.stored n (stream_in place (streams_at x dev)) stream ns))
    (is_now : IsAt Written y dev place ns) (stays : (e : ℕ) (p : Place) (ws : List ℕ) → e < x.table.count → IsAt (stage e p) x e p ws → IsAt (stage e p) y e p ws) (cond_stays : (which : MappingStream) (ws : List ℕ) → IsCondAt (cond_stage which) x which ws → IsCondAt (cond_stage which) y which ws) where
  abbrev t : DeviceStreams
  t = streams_at x dev

  abbrev v : Place → List ℕ
  v = words_with place (h.words dev) ns

  v_counts : (p : Place) → length (v p) ≡ (stream_in p (with_stream place t stream)).words
  v_counts p = (elim (nat_eq (place_number p) (place_number place)) as (λ (b : Bool). nat_eq (place_number p) (place_number place) ≡ b → length (v p) ≡ (stream_in p (with_stream place t stream)).words) [
    | true ↦ λ is.
        ap (λ (ws : List ℕ). length ws) (if_is (nat_eq (place_number p) (place_number place)) ns (h.words dev p) is)
        ∙ (wrote.is.stands.count ∙ ap (λ (s : Stream). s.words) (sym (this_stream place t stream) ∙ ap (λ (q : Place). stream_in q (with_stream place t stream)) (sym (same_place p place is))))
    | false ↦ λ ne.
        ap (λ (ws : List ℕ). length ws) (if_not (nat_eq (place_number p) (place_number place)) ns (h.words dev p) ne)
        ∙ (h.counts dev p there ∙ ap (λ (s : Stream). s.words) (sym (other_stream place p t stream ne)))
  ]) refl

  v_are : (p : Place) → IsAt (now_stage dev p) y dev p (v p)
  v_are p = (elim (nat_eq (place_number p) (place_number place)) as (λ (b : Bool). nat_eq (place_number p) (place_number place) ≡ b → IsAt (now_stage dev p) y dev p (v p)) [
    | true ↦ λ is.
        let same = same_place p place is in
        subst (λ (ws : List ℕ). IsAt (now_stage dev p) y dev p ws) (sym (if_is (nat_eq (place_number p) (place_number place)) ns (h.words dev p) is))
        (subst (λ (q : Place). IsAt (now_stage dev q) y dev q ns) (sym same) (subst (λ (s : Stage). IsAt s y dev place ns) (sym turn.is) is_now))
    | false ↦ λ ne.
        subst (λ (ws : List ℕ). IsAt (now_stage dev p) y dev p ws) (sym (if_not (nat_eq (place_number p) (place_number place)) ns (h.words dev p) ne))
        (subst (λ (s : Stage). IsAt s y dev p (h.words dev p)) (sym (turn.others dev p (not_there dev place p ne))) (stays dev p (h.words dev p) there (h.are dev p there)))
  ]) refl

  swapped : Swaps h.stored wrote.stored (blocks_of h.stored (of_stream (stream_in place t) (h.words dev place) ∷ [])) (blocks_of wrote.stored (of_stream stream ns ∷ []))
  swapped =
      subst (λ bs. Swaps h.stored wrote.stored bs (blocks_of wrote.stored (of_stream stream ns ∷ []))) (sym (append-nil (tree_reach h.stored (stream_in place t).tree)))
      (subst (λ bs. Swaps h.stored wrote.stored (tree_reach h.stored (stream_in place t).tree) bs) (sym (append-nil (tree_reach wrote.stored stream.tree))) wrote.is.swaps)

  pub place_written : HoldsStreams now_stage cond_stage beside_them t2 d2 y
  place_written =
      row_written stage now_stage cond_stage beside_them t1 t2 d1 d2 x y h dev there listed (with_stream place t stream) count cond streams v (before place t (h.words dev)) (of_stream (stream_in place t) (h.words dev place) ∷ []) (of_stream stream ns ∷ []) (behind place t (h.words dev))
      (old_row place t (h.words dev)) (new_row place t (h.words dev) stream ns) wrote.stored wrote.held swapped (All-cons (Stands wrote.stored) (of_stream stream ns) [] wrote.is.stands.bytes (All-nil (Stands wrote.stored))) v_counts v_are
      (λ e p ws ne lt was. subst (λ (s : Stage). IsAt s y e p ws) (sym (turn.others e p (not_this dev e place p ne))) (stays e p ws lt was)) cond_stays
