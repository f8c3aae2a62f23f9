use Rattle.std.proofs.Common.{◌≡◌, inl, inr, ◌+◌, ◌<◌, ◌≤◌, List, ℕ, length, [], ◌∷◌, ◌++◌, take, drop, refl, sym, ◌∙◌, ap, subst, arith, string_bytes, length-append, Option, Some, None, true, false, Vec, Global}
use Rattle.std.specs.Prelude.{MatchOption, is_some}
use Rattle.std.proofs.lemmas.List.{take_more, take-append-le, drop-append-le}
use Rattle.zr_shelf.specs.Memory.{NoneHasPath, HasPathAt}
use Rattle.zr_shelf.specs.Choices.{AreOthers, IsOther, IsCopy}
use Rattle.zr_shelf.specs.declared.memory.DiskFile.{DiskFile}
use Rattle.zr_shelf.proofs.images.add_others.Goals.{then-is_none+in_ok-copied_file+in_ok-push, else-is_none}
use Rattle.zr_shelf.proofs.images.add_others.Goals as goal

-- a file more of the folder that is a disk
others_without : (disks folder : List DiskFile) (file : DiskFile) (others : List DiskFile) → AreOthers disks folder others → ¬ IsOther disks file → AreOthers disks (folder ++ file ∷ []) others
others_without disks [] file others none is_disk = inl (is_disk, none)
others_without disks (first ∷ folder) file others found is_disk =
    elim found [
      | inl p ↦ inl (p.0, others_without disks folder file others p.1 is_disk)
      | inr q ↦ inr (q.0, (q.1.0, q.1.1, q.1.2, q.1.3, others_without disks folder file q.1.1 q.1.4 is_disk))
    ]

-- and one that is none
others_with : (disks folder : List DiskFile) (file copy : DiskFile) (others : List DiskFile) → AreOthers disks folder others → IsOther disks file → IsCopy file copy → AreOthers disks (folder ++ file ∷ []) (others ++ copy ∷ [])
others_with disks [] file copy others none other same = inr (other, (copy, [], ap (λ (l : List DiskFile). l ++ copy ∷ []) none, same, refl))
others_with disks (first ∷ folder) file copy others found other same =
    elim found [
      | inl p ↦ inl (p.0, others_with disks folder file copy others p.1 other same)
      | inr q ↦ inr (q.0, (q.1.0, q.1.1 ++ copy ∷ [], ap (λ (l : List DiskFile). l ++ copy ∷ []) q.1.2, q.1.3, others_with disks folder file copy q.1.1 q.1.4 other same))
    ]

-- the search found no disk of the path
other_of : (disks front : List DiskFile) (file : DiskFile) (text : List ℕ) (found : Option ℕ) → front ≡ disks → text ≡ string_bytes file.path → MatchOption found (NoneHasPath front text (length front)) (λ k. (k < length front) × HasPathAt front text k) → is_some found ≡ false → IsOther disks file
other_of disks front file text None front_is text_is none e =
    subst (λ (t : List ℕ). NoneHasPath disks t (length disks)) text_is (subst (λ (d : List DiskFile). NoneHasPath d text (length d)) front_is none)
other_of disks front file text (Some k) front_is text_is has e = absurd (cc)

-- the search found one
disk_of : (disks front : List DiskFile) (file : DiskFile) (text : List ℕ) (found : Option ℕ) → front ≡ disks → text ≡ string_bytes file.path → MatchOption found (NoneHasPath front text (length front)) (λ k. (k < length front) × HasPathAt front text k) → is_some found ≡ true → ¬ IsOther disks file
disk_of disks front file text None front_is text_is none e = absurd (cc)
disk_of disks front file text (Some k) front_is text_is has e = λ other.
    let there : NoneHasPath front text (length front) =
    subst (λ (d : List DiskFile). NoneHasPath d text (length d)) (sym front_is) (subst (λ (t : List ℕ). NoneHasPath disks t (length disks)) (sym text_is) other) in
    there k has.0 has.1

-- one file of the folder more, which is copied behind the others
step_with : (disks folder image image' : List DiskFile) (n i : ℕ) (file copy : DiskFile) → image' ≡ image ++ copy ∷ [] → n ≤ length image → take (i + 1) folder ≡ take i folder ++ file ∷ [] → AreOthers disks (take i folder) (drop n image) → IsOther disks file → IsCopy file copy → AreOthers disks (take (i + 1) folder) (drop n image')
step_with disks folder image image' n i file copy items within more others other same =
    subst (λ (f : List DiskFile). AreOthers disks f (drop n image')) (sym more)
    (subst (AreOthers disks (take i folder ++ file ∷ [])) (sym (ap (drop n) items ∙ drop-append-le n image (copy ∷ []) within))
    (others_with disks (take i folder) file copy (drop n image) others other same))

pub loop-file-preserved : goal.loop-file-preserved
loop-file-preserved c =
    let disks = c.args.image.now.items in
    let folder = c.args.folder.now in
    let image = c.loop-file.image.items in
    let n = c.len-disks.result in
    let i = c.loop-file.file-index in
    let file = c.file-item.result in
    let so_far = c.loop-file.invariant in
    let front_is : take n c.deref.result.now ≡ disks = ap (take n) c.deref.ensures.value ∙ so_far.front in
    let more : take (i + 1) folder ≡ take i folder ++ file ∷ [] = take_more folder i file c.loop-file-test.true ∙ ap (λ (f : DiskFile). take i folder ++ f ∷ []) (sym c.file-item.is) in
    elim c.if-is_none.branch [
      | then-is_none+in_ok-copied_file+in_ok-push w ↦
          let copy = w.in_ok-copied_file.field-0 in
          let items : c.if-is_none.image.items ≡ image ++ copy ∷ [] = ap (λ (v : Vec DiskFile Global). v.items) w.image-is ∙ w.in_ok-push.ensures.items in
          let other = other_of disks (take n c.deref.result.now) file c.as_str.result.now c.find.result front_is c.as_str.ensures.value c.find.ensures w.if-is_none.ensures in
          record {
            count = so_far.count;
            within = omega (arith, so_far.within, ap length items, length-append image (copy ∷ []));
            front = ap (take n) items ∙ take-append-le n image (copy ∷ []) so_far.within ∙ so_far.front;
            others = step_with disks folder image c.if-is_none.image.items n i file copy items so_far.within more so_far.others other w.in_ok-copied_file.ensures;
          }
      | else-is_none w ↦
          let items : c.if-is_none.image.items ≡ image = ap (λ (v : Vec DiskFile Global). v.items) w.image-is in
          let is_disk = disk_of disks (take n c.deref.result.now) file c.as_str.result.now c.find.result front_is c.as_str.ensures.value c.find.ensures w.if-is_none.ensures in
          record {
            count = so_far.count;
            within = omega (arith, so_far.within, ap length items);
            front = ap (take n) items ∙ so_far.front;
            others = subst (λ (v : List DiskFile). AreOthers disks (take (i + 1) folder) (drop n v)) (sym items)
                (subst (λ (f : List DiskFile). AreOthers disks f (drop n image)) (sym more) (others_without disks (take i folder) file (drop n image) so_far.others is_disk));
          }
    ]
