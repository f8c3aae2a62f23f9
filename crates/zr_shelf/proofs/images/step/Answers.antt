use Rattle.std.proofs.Common.{refl, ◌<◌, length-append, length-set, ◌≡◌, List, [], ◌∷◌, ◌++◌, ℕ, length, map, sym, ◌∙◌, ap, subst, arith, string_bytes, Option, Result, Ok, Err, OnOk}
use Rattle.std.specs.Prelude.{slice_index}
use Rattle.std.specs.List.{AllByRecursion}
use Rattle.std.proofs.Math.ListN.{set}
use Rattle.std.proofs.lemmas.List.{length-map, get_or_append_left, set-append_left}
use Rattle.zr_shelf.specs.Disks.{Stand, PendingWrite, MayLeave, disk}
use Rattle.zr_shelf.specs.Memory.{bytes_of, paths_of, stand_after, after_write, FitsIn}
use Rattle.zr_shelf.specs.Choices.{came, front_of, chosen, IsShown}
use Rattle.zr_shelf.specs.declared.memory.Asked.{Asked}
use Rattle.zr_shelf.specs.declared.memory.Deed.{Deed}
use Rattle.zr_shelf.specs.declared.memory.Deed.TheVariants.{Attached, Wrote}
use Rattle.zr_shelf.specs.declared.memory.DiskFile.{DiskFile}
use Rattle.zr_shelf.proofs.ByteByByte.{size_at}
use Rattle.zr_shelf.proofs.Sound.{outside_attach}
use Rattle.zr_shelf.proofs.Parts.{replaced}
use Rattle.zr_shelf.proofs.images.step.Goals as goal

-- a place that is there is there on disks of the same sizes
fits_same : (a b : List (List ℕ)) (asked : Asked) → map length a ≡ map length b → FitsIn b (Wrote asked) → FitsIn a (Wrote asked)
fits_same a b asked same fits =
    let count = ap length same in
    let size = size_at a b asked.slot same in
    let there = fits.0 in
    let range = fits.1 in
    (omega (arith, count, there, length-map a length, length-map b length), omega (arith, size, range))

pub write_image-requires-clause-fits : goal.write_image-requires-clause-fits
write_image-requires-clause-fits c =
    fits_same (bytes_of c.args.image.now.items) (bytes_of c.args.seen.now.items) c.in-Wrote.asked c.requires.sizes (subst (λ (d : Deed). FitsIn (bytes_of c.args.seen.now.items) d) c.in-Wrote.is c.requires.fits)

-- the disk more is beside the slots that are written
after_write_attach : (disks : List (List ℕ)) (more : List ℕ) (w : PendingWrite) → w.slot < length disks → after_write (disks ++ more ∷ []) w ≡ after_write disks w ++ more ∷ []
after_write_attach disks more w there =
    let old = disk disks w.slot in
    ap (λ (l : List ℕ). set (disks ++ more ∷ []) w.slot (replaced l w.at w.bytes)) (get_or_append_left disks (more ∷ []) [] w.slot there)
    ∙ set-append_left disks (more ∷ []) w.slot (replaced old w.at w.bytes) there

length-chosen : (choice : List ℕ) (writes : List PendingWrite) (disks : List (List ℕ)) → length (chosen choice writes disks) ≡ length disks
length-chosen choice [] disks = refl
length-chosen choice (w ∷ older) disks = length-set _ _ _ ∙ length-chosen choice older disks

chosen_attach : (choice : List ℕ) (writes : List PendingWrite) (disks : List (List ℕ)) (more : List ℕ) → AllByRecursion (λ w. w.slot < length disks) writes → chosen choice writes (disks ++ more ∷ []) ≡ chosen choice writes disks ++ more ∷ []
chosen_attach choice [] disks more slots = refl
chosen_attach choice (w ∷ older) disks more slots =
    let front = front_of w (came (slice_index choice (length older)) (length w.bytes)) in
    let here = slots.0 in
    ap (λ (l : List (List ℕ)). after_write l front) (chosen_attach choice older disks more slots.1)
    ∙ after_write_attach (chosen choice older disks) more front (omega (arith, here, length-chosen choice older disks))

slots_attach : (writes : List PendingWrite) (disks : List (List ℕ)) (more : List ℕ) → AllByRecursion (λ w. w.slot < length disks) writes → AllByRecursion (λ w. w.slot < length (disks ++ more ∷ [])) writes
slots_attach [] disks more slots = tt
slots_attach (w ∷ older) disks more slots =
    let here = slots.0 in (omega (arith, here, length-append disks (more ∷ [])), slots_attach older disks more slots.1)

shown_attached : (choice : List ℕ) (s : Stand) (file : DiskFile) (make : Option ℕ) (seen image seen' image' : List DiskFile) (place : ℕ) → bytes_of seen' ≡ bytes_of seen ++ file.bytes.items ∷ [] → paths_of seen' ≡ paths_of seen ++ string_bytes file.path ∷ [] → bytes_of image' ≡ bytes_of image ++ file.bytes.items ∷ [] → paths_of image' ≡ paths_of image ++ string_bytes file.path ∷ [] → IsShown choice s seen image place → IsShown choice (stand_after s (Attached file make)) seen' image' place
shown_attached choice s file make seen image seen' image' place b p ib ip shown = record {
  bytes = b ∙ ap (λ (l : List (List ℕ)). l ++ file.bytes.items ∷ []) shown.bytes;
  paths = p ∙ ap (λ (l : List (List ℕ)). l ++ string_bytes file.path ∷ []) shown.paths;
  same_paths = ip ∙ ap (λ (l : List (List ℕ)). l ++ string_bytes file.path ∷ []) shown.same_paths;
  leaves = subst (MayLeave (stand_after s (Attached file make))) (sym ib) (outside_attach s.writes s.durable (bytes_of image) file.bytes.items shown.leaves);
  slots = slots_attach s.writes s.durable file.bytes.items shown.slots;
  count = shown.count;
  as_chosen = ib ∙ ap (λ (l : List (List ℕ)). l ++ file.bytes.items ∷ []) shown.as_chosen ∙ sym (chosen_attach choice s.writes s.durable file.bytes.items shown.slots);
}

on_all : {T E : Type 0} (A B C D F : Type 0) (r : Result T E) → OnOk r A → OnOk r B → OnOk r C → OnOk r D → (A → B → C → D → F) → OnOk r F
on_all A B C D F (Ok x) a b c d f = f a b c d
on_all A B C D F (Err e) a b c d f = tt

pub returns-in-Attached-clause-shown : goal.returns-in-Attached-clause-shown
returns-in-Attached-clause-shown c =
    let choice = c.args.choice.now in
    let place = c.args.place.now in
    let e = c.attach_both.ensures in
    on_all _ _ _ _ ((s : Stand) → IsShown choice s c.args.seen.now.items c.args.image.now.items place → IsShown choice (stand_after s c.args.deed.now) c.attach_both.new.seen.items c.attach_both.new.image.items place)
    c.attach_both.result e.seen e.seen_paths e.image e.image_paths
    (λ b p ib ip s shown. subst (λ (d : Deed). IsShown choice (stand_after s d) c.attach_both.new.seen.items c.attach_both.new.image.items place) (sym c.in-Attached.is)
    (shown_attached choice s c.in-Attached.file c.in-Attached._make c.args.seen.now.items c.args.image.now.items c.attach_both.new.seen.items c.attach_both.new.image.items place b p ib ip shown))
