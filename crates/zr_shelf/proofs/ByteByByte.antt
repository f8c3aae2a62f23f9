-- The same, said of single bytes.
use Rattle.std.proofs.Common.{◌≡◌, inl, inr, ℕ, ◌+◌, ◌<◌, ◌≤◌, List, [], ◌∷◌, length, map, drop, get_or, sym, ◌∙◌, ap, arith, length-drop, length-take}
use Rattle.std.proofs.lemmas.List.{same_lists, get_or-take, get_or-drop, get_or-map, get_or_past, length-map}
use Rattle.std.proofs.lemmas.Bool.{cases_lt}
use Rattle.zr_shelf.specs.Disks.{disk, part, PendingWrite, IsUntouched, IsSameOutside}

pub record Covers (w : PendingWrite) (slot i : ℕ) : Type 0 where
  pub same : w.slot ≡ slot
  pub from : w.at ≤ i
  pub to : i < w.at + length w.bytes

abbrev pub IsOutside : List PendingWrite → ℕ → ℕ → Type 0
IsOutside [] slot i = Unit {0}
IsOutside (w ∷ writes) slot i = (¬ Covers w slot i) × IsOutside writes slot i

-- each byte outside the ranges stays
pub record KeepsBytes (writes : List PendingWrite) (old new : List (List ℕ)) : Type 0 where
  pub sizes : map length new ≡ map length old
  pub bytes : (slot i d : ℕ) → IsOutside writes slot i → get_or (disk new slot) i d ≡ get_or (disk old slot) i d

outside_all : (writes : List PendingWrite) (slot at n i : ℕ) → IsUntouched writes slot at n → at ≤ i → i < at + n → IsOutside writes slot i
outside_all [] slot at n i untouched low high = tt
outside_all (w ∷ writes) slot at n i untouched low high = (
  λ c. let f = c.from in let t = c.to in untouched.0 (record { same = c.same; begins = omega (arith, f, high); ends = omega (arith, t, low) }),
  outside_all writes slot at n i untouched.1 low high,
)

pub size_at : (a b : List (List ℕ)) (slot : ℕ) → map length a ≡ map length b → length (disk a slot) ≡ length (disk b slot)
size_at a b slot same = elim (cases_lt slot (length a)) [
  | inl lt ↦ let n : length a ≡ length b = omega (arith, ap length same, length-map a length, length-map b length) in
      sym (get_or-map length a slot [] 0 lt) ∙ ap (λ (s : List ℕ). get_or s slot 0) same ∙ get_or-map length b slot [] 0 (omega (arith, n, lt))
  | inr past ↦ let n : length a ≡ length b = omega (arith, ap length same, length-map a length, length-map b length) in
      ap length (get_or_past a slot [] past) ∙ sym (ap length (get_or_past b slot [] (omega (arith, n, past))))
]

pub ranges_from_bytes : (writes : List PendingWrite) (old new : List (List ℕ)) → KeepsBytes writes old new → IsSameOutside writes old new
ranges_from_bytes writes old new keeps = record {
  sizes = keeps.sizes;
  bytes = λ slot at n untouched.
      let size = size_at new old slot keeps.sizes in
      let a = length-take n (drop at (disk new slot)) in
      let b = length-take n (drop at (disk old slot)) in
      let c = length-drop at (disk new slot) in
      let e = length-drop at (disk old slot) in
      same_lists (part (disk new slot) at n) (part (disk old slot) at n) (omega (arith, a, b, c, e, size)) (λ k d lt.
      let small : k < n = omega (arith, lt, a) in
      get_or-take n (drop at (disk new slot)) k d small ∙ get_or-drop at (disk new slot) k d
      ∙ keeps.bytes slot (at + k) d (outside_all writes slot at n (at + k) untouched (omega arith) (omega (arith, small)))
      ∙ sym (get_or-drop at (disk old slot) k d) ∙ sym (get_or-take n (drop at (disk old slot)) k d small));
}
