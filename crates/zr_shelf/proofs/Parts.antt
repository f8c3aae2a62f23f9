-- What a write does to the parts of the disks.
use Rattle.std.proofs.Common.{◌≡◌, ℕ, ◌+◌, ◌-◌, ◌≤◌, List, [], ◌∷◌, ◌++◌, length, take, drop, refl, sym, ◌∙◌, ap, arith, append_assoc, length-append, length-drop}
use Rattle.std.proofs.lemmas.List.{take_at, drop_at, take-take, take-append-le, drop-take, drop-drop, length-take-le}
use Rattle.zr_shelf.specs.Disks.{part, PendingWrite, IsSameOutside}

-- the bytes with others in place of those at an offset
abbrev pub replaced : List ℕ → ℕ → List ℕ → List ℕ
replaced old at bytes = take at old ++ bytes ++ drop (at + length bytes) old

module _ (old : List ℕ) (at : ℕ) (bytes : List ℕ) (fits : at + length bytes ≤ length old) where
  front : length (take at old) ≡ at
  front = length-take-le at old (omega arith)

  front_and_bytes : length (take at old ++ bytes) ≡ at + length bytes
  front_and_bytes = omega (arith, length-append (take at old) bytes, front)

  pub length-replaced : length (replaced old at bytes) ≡ length old
  length-replaced = omega (arith, length-append (take at old ++ bytes) (drop (at + length bytes) old), front_and_bytes, length-drop (at + length bytes) old)

  pub part-before : (from n : ℕ) → from + n ≤ at → part (replaced old at bytes) from n ≡ part old from n
  part-before from n before =
      let rest = drop (at + length bytes) old in
      let early : take (from + n) (replaced old at bytes) ≡ take (from + n) old =
      ap (λ (l : List ℕ). take (from + n) l) (append_assoc (take at old) bytes rest)
      ∙ take-append-le (from + n) (take at old) (bytes ++ rest) (omega (arith, front))
      ∙ take-take (from + n) at old before in
      sym (drop-take from n (replaced old at bytes)) ∙ ap (λ (l : List ℕ). drop from l) early ∙ drop-take from n old

  pub part-behind : (from n : ℕ) → at + length bytes ≤ from → part (replaced old at bytes) from n ≡ part old from n
  part-behind from n behind =
      let k = from - (at + length bytes) in
      let is : at + length bytes + k ≡ from = omega arith in
      let late : drop from (replaced old at bytes) ≡ drop from old =
      ap (λ (j : ℕ). drop j (replaced old at bytes)) (sym is)
      ∙ sym (drop-drop k (at + length bytes) (replaced old at bytes))
      ∙ ap (λ (l : List ℕ). drop k l) (drop_at (take at old ++ bytes) (drop (at + length bytes) old) (at + length bytes) front_and_bytes)
      ∙ drop-drop k (at + length bytes) old
      ∙ ap (λ (j : ℕ). drop j old) is in
      ap (λ (l : List ℕ). take n l) late

  pub part-within : part (replaced old at bytes) at (length bytes) ≡ bytes
  part-within =
      let rest = drop (at + length bytes) old in
      ap (λ (l : List ℕ). take (length bytes) (drop at l)) (append_assoc (take at old) bytes rest)
      ∙ ap (λ (l : List ℕ). take (length bytes) l) (drop_at (take at old) (bytes ++ rest) at front)
      ∙ take_at bytes rest (length bytes) refl

pub outside_refl : (writes : List PendingWrite) (disks : List (List ℕ)) → IsSameOutside writes disks disks
outside_refl writes disks = record { sizes = refl; bytes = λ slot at n untouched. refl }

-- one write more
pub outside_more : (writes : List PendingWrite) (w : PendingWrite) (a b c : List (List ℕ)) → IsSameOutside writes a b → IsSameOutside (w ∷ []) b c → IsSameOutside (w ∷ writes) a c
outside_more writes w a b c first then = record {
  sizes = then.sizes ∙ first.sizes;
  bytes = λ slot at n untouched. then.bytes slot at n (untouched.0, tt) ∙ first.bytes slot at n untouched.1;
}

pub outside_weaker : (writes : List PendingWrite) (w : PendingWrite) (a b : List (List ℕ)) → IsSameOutside writes a b → IsSameOutside (w ∷ writes) a b
outside_weaker writes w a b same = record { sizes = same.sizes; bytes = λ slot at n untouched. same.bytes slot at n untouched.1 }
