-- What a write in memory does to the parts of the disks.
use Rattle.std.proofs.Common.{take, ◌≡◌, ◌⊎◌, inl, inr, ℕ, ◌+◌, ◌<◌, ◌≤◌, List, [], ◌∷◌, length, map, get_or, sym, ◌∙◌, ap, arith}
use Rattle.std.proofs.Math.ListN.{set}
use Rattle.std.proofs.lemmas.Bool.{cases_eq, cases_lt}
use Rattle.std.proofs.lemmas.List.{length-take-le, get_or-set_same, get_or-set_other, map-set, set-get_or, length-map, get_or-map}
use Rattle.zr_shelf.specs.Disks.{disk, part, PendingWrite, Meets, IsSameOutside}
use Rattle.zr_shelf.proofs.Parts.{replaced, length-replaced, part-before, part-behind, part-within}
use Rattle.zr_shelf.specs.Memory.{after_write}

-- the write is to a place that is there
pub record Fits (disks : List (List ℕ)) (w : PendingWrite) : Type 0 where
  pub slot : w.slot < length disks
  pub range : w.at + length w.bytes ≤ length (disk disks w.slot)

pub fits_from_sizes : (disks : List (List ℕ)) (slot at : ℕ) (bytes : List ℕ) → slot < length (map length disks) → at + length bytes ≤ get_or (map length disks) slot 0 → Fits disks (record { slot = slot; at = at; bytes = bytes })
fits_from_sizes disks slot at bytes exists fits =
    let here : slot < length disks = omega (arith, exists, length-map disks length) in
    record { slot = here; range = omega (arith, fits, get_or-map length disks slot [] 0 here) }

module _ (disks : List (List ℕ)) (w : PendingWrite) (fits : Fits disks w) where
  written : disk (after_write disks w) w.slot ≡ replaced (disk disks w.slot) w.at w.bytes
  written = get_or-set_same disks w.slot (replaced (disk disks w.slot) w.at w.bytes) [] fits.slot

  pub sizes-after_write : map length (after_write disks w) ≡ map length disks
  sizes-after_write =
      map-set length disks w.slot (replaced (disk disks w.slot) w.at w.bytes)
      ∙ ap (λ (n : ℕ). set (map length disks) w.slot n) (length-replaced (disk disks w.slot) w.at w.bytes fits.range)
      ∙ same_size
    where
      same_size : set (map length disks) w.slot (length (disk disks w.slot)) ≡ map length disks
      same_size = sym (map-set length disks w.slot (disk disks w.slot)) ∙ ap (map length) (set-get_or disks w.slot [])

  -- the bytes are in place
  pub part-written : part (disk (after_write disks w) w.slot) w.at (length w.bytes) ≡ w.bytes
  part-written = ap (λ (l : List ℕ). part l w.at (length w.bytes)) written ∙ part-within (disk disks w.slot) w.at w.bytes fits.range

  part-other : (slot at n : ℕ) → ¬ Meets w slot at n → part (disk (after_write disks w) slot) at n ≡ part (disk disks slot) at n
  part-other slot at n apart = elim (cases_eq slot w.slot) [
    | inl is ↦ here is (cases_lt w.at (at + n)) (cases_lt at (w.at + length w.bytes))
    | inr other ↦ ap (λ (l : List ℕ). part l at n) (get_or-set_other disks w.slot slot (replaced (disk disks w.slot) w.at w.bytes) [] other)
  ]
    where
      same : slot ≡ w.slot → part (replaced (disk disks w.slot) w.at w.bytes) at n ≡ part (disk disks w.slot) at n → part (disk (after_write disks w) slot) at n ≡ part (disk disks slot) at n
      same is p =
          ap (λ (s : ℕ). part (disk (after_write disks w) s) at n) is ∙ ap (λ (l : List ℕ). part l at n) written ∙ p ∙ ap (λ (s : ℕ). part (disk disks s) at n) (sym is)

      here : slot ≡ w.slot → (w.at < at + n) ⊎ (at + n ≤ w.at) → (at < w.at + length w.bytes) ⊎ (w.at + length w.bytes ≤ at) → part (disk (after_write disks w) slot) at n ≡ part (disk disks slot) at n
      here is (inr before) _ = same is (part-before (disk disks w.slot) w.at w.bytes fits.range at n before)
      here is (inl begins) (inr behind) = same is (part-behind (disk disks w.slot) w.at w.bytes fits.range at n behind)
      here is (inl begins) (inl ends) = absurd (apart (record { same = sym is; begins = begins; ends = ends }))

  pub outside-after_write : IsSameOutside (w ∷ []) disks (after_write disks w)
  outside-after_write = record { sizes = sizes-after_write; bytes = λ slot at n untouched. part-other slot at n untouched.0 }

-- a front of the bytes changes nothing outside their range
pub outside-front : (disks : List (List ℕ)) (slot at n : ℕ) (bytes : List ℕ) → n ≤ length bytes → Fits disks (record { slot = slot; at = at; bytes = bytes }) → IsSameOutside (record { slot = slot; at = at; bytes = bytes } ∷ []) disks (after_write disks (record { slot = slot; at = at; bytes = take n bytes }))
outside-front disks slot at n bytes le fits =
    let w : PendingWrite = record { slot = slot; at = at; bytes = take n bytes } in
    let size = length-take-le n bytes le in
    let small : Fits disks w = record { slot = fits.slot; range = let r = fits.range in omega (arith, r, size, le) } in
    let outside = outside-after_write disks w small in
    record { sizes = outside.sizes; bytes = λ s a k untouched. outside.bytes s a k ((λ m. let e = m.ends in untouched.0 (record { same = m.same; begins = m.begins; ends = omega (arith, e, size, le) })), tt) }
