-- What is read is one of the images.
use Rattle.std.proofs.Common.{◌≡◌, ◌⊎◌, inl, inr, ◌+◌, ◌<◌, ◌≤◌, Option, Some, None, zero, suc, take, List, [], ◌∷◌, ◌++◌, ℕ, Bool, true, false, if◌then◌else◌, length, map, drop, get_or, refl, sym, ◌∙◌, ap, subst, arith, length-append, string_bytes}
use Rattle.std.proofs.lemmas.List.{take_more, get_or_append_left, get_or-append_right, map_push, length-map}
use Rattle.std.proofs.lemmas.Bool.{cases_lt}
use Rattle.zr_shelf.specs.Disks.{Stand, PendingWrite, disk, part, MayLeave, IsSameOutside, IsSound, IsUntouched, taken_to}
use Rattle.zr_shelf.specs.Moments.{World}
use Rattle.zr_shelf.specs.Memory.{start, next, run, take_on, world_of, stand_after, as_pending, after_write, FitsIn, IsLawful, front_to, bytes_of, paths_of, sizes_of}
use Rattle.zr_shelf.specs.Choices.{IsShown}
use Rattle.zr_shelf.specs.declared.memory.Call.{Call}
use Rattle.zr_shelf.specs.declared.memory.Deed.{Deed}
use Rattle.zr_shelf.specs.declared.memory.Deed.TheVariants.{Attached, Wrote, Flushed, Sent}
use Rattle.zr_shelf.specs.declared.memory.DiskFile.{DiskFile}
use Rattle.zr_shelf.specs.declared.memory.History.{History}
use Rattle.zr_shelf.proofs.Parts.{outside_more, outside_weaker, outside_refl}
use Rattle.zr_shelf.proofs.Puts.{Fits, outside-after_write}
use Rattle.zr_shelf.proofs.Kept.{stand_on, sizes_are, run_push}

-- the same disk more on both
pub outside_attach : (writes : List PendingWrite) (a b : List (List ℕ)) (more : List ℕ) → IsSameOutside writes a b → IsSameOutside writes (a ++ more ∷ []) (b ++ more ∷ [])
outside_attach writes a b more same = record {
  sizes = map_push length b more ∙ ap (λ (l : List ℕ). l ++ length more ∷ []) same.sizes ∙ sym (map_push length a more);
  bytes = λ slot at n untouched. at_slot slot at n untouched (cases_lt slot (length a));
}
  where
    size : length b ≡ length a
    size = let e = ap length same.sizes in omega (arith, e, length-map a length, length-map b length)

    at_slot : (slot at n : ℕ) → IsUntouched writes slot at n → (slot < length a) ⊎ (length a ≤ slot) → part (disk (b ++ more ∷ []) slot) at n ≡ part (disk (a ++ more ∷ []) slot) at n
    at_slot slot at n untouched (inl lt) =
        ap (λ (l : List ℕ). part l at n) (get_or_append_left b (more ∷ []) [] slot (omega (arith, lt, size)))
        ∙ same.bytes slot at n untouched
        ∙ sym (ap (λ (l : List ℕ). part l at n) (get_or_append_left a (more ∷ []) [] slot lt))
    at_slot slot at n untouched (inr ge) = ap (λ (l : List ℕ). part l at n)
        (get_or-append_right b (more ∷ []) (length a) slot [] size ge ∙ sym (get_or-append_right a (more ∷ []) (length a) slot [] refl ge))

-- what is read is an image, with a path for each disk
pub record IsGood (s : Stand) : Type 0 where
  pub paths : length s.paths ≡ length s.seen
  pub readable : MayLeave s s.seen

good_write : (s : Stand) (w : PendingWrite) (done : Bool) → Fits s.seen w → IsGood s → (length s.paths ≡ length (if done then after_write s.seen w else s.seen)) × IsSameOutside (w ∷ s.writes) s.durable (if done then after_write s.seen w else s.seen)
good_write s w true fits good =
    let outside = outside-after_write s.seen w fits in
    let e = ap length outside.sizes in
    (good.paths ∙ omega (arith, e, length-map (after_write s.seen w) length, length-map s.seen length), outside_more s.writes w s.durable s.seen (after_write s.seen w) good.readable outside)
good_write s w false fits good = (good.paths, outside_weaker s.writes w s.durable s.seen good.readable)

good_after : (s : Stand) (deed : Deed) → FitsIn s.seen deed → IsGood s → IsGood (stand_after s deed)
good_after s (Attached file make) fits good =
    let g = good.paths in
    record {
      paths = omega (arith, g, length-append s.paths (string_bytes file.path ∷ []), length-append s.seen (file.bytes.items ∷ []));
      readable = outside_attach s.writes s.durable s.seen file.bytes.items good.readable;
    }
good_after s (Wrote asked) fits good =
    let both = good_write s (as_pending asked) asked.done (record { slot = fits.0; range = fits.1 }) good in
    record { paths = both.0; readable = both.1 }
good_after s Flushed fits good = record { paths = good.paths; readable = outside_refl [] s.seen }
good_after s (Sent bytes) fits good = record { paths = good.paths; readable = good.readable }

good_taken : (s : Stand) (left : List ℕ) → IsGood s → IsGood (taken_to s left)
good_taken s left good = record { paths = good.paths; readable = good.readable }

good_on : (w : World) (n : ℕ) → IsGood w.now → IsGood (take_on w n).now
good_on w n good = subst IsGood (sym (stand_on w n)) (good_taken w.now (drop n w.now.left) good)

fits_on : (w : World) (n : ℕ) (deed : Deed) → FitsIn w.now.seen deed → FitsIn (take_on w n).now.seen deed
fits_on w n deed fits = subst (λ (s : Stand). FitsIn s.seen deed) (sym (stand_on w n)) fits

pub good_run : (w : World) (calls : List Call) → IsLawful w calls → IsGood w.now → IsGood (run w calls).now
good_run w [] lawful good = good
good_run w (call ∷ calls) lawful good =
    good_run (next w call) calls lawful.1 (good_after (take_on w call.since).now call.deed (fits_on w call.since call.deed lawful.0) (good_on w call.since good))

pub sound_of : (h : History) (disks : List DiskFile) → bytes_of disks ≡ (world_of h).now.seen → paths_of disks ≡ (world_of h).now.paths → IsLawful (start h.input.items) h.calls.items → IsSound (sizes_of disks) (world_of h).now
sound_of h disks seen paths lawful =
    let good = good_on (run (start h.input.items) h.calls.items) h.since (good_run (start h.input.items) h.calls.items lawful (record { paths = refl; readable = outside_refl [] [] })) in
    let p = ap length paths in
    record {
      paths = omega (arith, p, length-map disks (λ (f : DiskFile). string_bytes f.path), length-map disks (λ (f : DiskFile). length f.bytes.items));
      sized = sym (ap (map length) seen) ∙ sizes_are disks;
      readable = good.readable;
    }

-- the copies at a moment of takes
pub shown_on : (choice : List ℕ) (w : World) (n : ℕ) (seen image : List DiskFile) (place : ℕ) → IsShown choice w.now seen image place → IsShown choice (take_on w n).now seen image place
shown_on choice w n seen image place shown =
    subst (λ (s : Stand). IsShown choice s seen image place) (sym (stand_on w n))
    (record { bytes = shown.bytes; paths = shown.paths; same_paths = shown.same_paths; leaves = shown.leaves; slots = shown.slots; count = shown.count; as_chosen = shown.as_chosen })

-- both copies have the disks' sizes
pub sizes_shown : (choice : List ℕ) (s : Stand) (seen image : List DiskFile) (place : ℕ) → IsGood s → IsShown choice s seen image place → map length (bytes_of image) ≡ map length (bytes_of seen)
sizes_shown choice s seen image place good shown = shown.leaves.sizes ∙ sym good.readable.sizes ∙ sym (ap (map length) shown.bytes)

lawful_take : (w : World) (n : ℕ) (calls : List Call) → IsLawful w calls → IsLawful w (take n calls)
lawful_take w zero calls lawful = tt
lawful_take w (suc n) [] lawful = tt
lawful_take w (suc n) (call ∷ calls) lawful = (lawful.0, lawful_take (next w call) n calls lawful.1)

pub lawful_until : (w : World) (found : Option ℕ) (calls : List Call) → IsLawful w calls → IsLawful w (front_to found calls)
lawful_until w None calls lawful = lawful
lawful_until w (Some n) calls lawful = lawful_take w n calls lawful

-- the call in this place is to a place that is there
pub fits_at : (w : World) (calls : List Call) (i : ℕ) (d : Call) → IsLawful w calls → i < length calls → FitsIn (run w (take i calls)).now.seen (get_or calls i d).deed
fits_at w [] i d lawful lt = absurd (omega arith)
fits_at w (call ∷ calls) zero d lawful lt = lawful.0
fits_at w (call ∷ calls) (suc i) d lawful lt = fits_at (next w call) calls i d lawful.1 (omega arith)

pub good_take : (w : World) (calls : List Call) (i : ℕ) → IsLawful w calls → IsGood w.now → IsGood (run w (take i calls)).now
good_take w calls i lawful good = good_run w (take i calls) (lawful_take w i calls lawful) good

pub run_more : (w : World) (calls : List Call) (i : ℕ) (d : Call) → i < length calls → run w (take (i + 1) calls) ≡ next (run w (take i calls)) (get_or calls i d)
run_more w calls i d lt = ap (λ (cs : List Call). run w cs) (take_more calls i d lt) ∙ run_push w (take i calls) (get_or calls i d)

-- at first there is nothing
pub good_start : (input : List ℕ) → IsGood (start input).now
good_start input = record { paths = refl; readable = outside_refl [] [] }
