-- Writes of the same bytes at places that lie apart.
use Rattle.std.proofs.Common.{◌≡◌, inl, inr, ℕ, zero, suc, ◌+◌, ◌<◌, ◌≤◌, List, [], ◌∷◌, length, get_or, sym, ◌∙◌, subst, arith, Result}
use Rattle.std.specs.Prelude.{Contains, slice_index}
use Rattle.std.specs.List.{AllByRecursion}
use Rattle.std.proofs.lemmas.Bool.{cases_lt}
use Rattle.std.proofs.lemmas.List.{length-map, get_or-map}
use Rattle.zr_shelf.specs.Disks.{disk, part, PendingWrite, Meets, IsUntouched, IsSameOutside, IsWritten, Reads, Stand}
use Rattle.zr_shelf.specs.Moments.{World, Writes}
use Rattle.zr_shelf.specs.Doings.{Adds, WritesOnly}
use Rattle.zr_shelf.specs.Doings.Adds.{added_none, added}
use Rattle.zr_shelf.specs.declared.desk.DeskErr.{DeskErr}
use Rattle.zr_shelf.proofs.Parts.{outside_refl}
use Rattle.zr_shelf.proofs.Doings.{added_throughout, writes_more, writes_write}
use Rattle.zr_scan.specs.Puts.{puts, AreSpread}

-- a range that none of the writes meets is not met by one of them
pub untouched_apart : (ws : List PendingWrite) (w : PendingWrite) (slot at n : ℕ) → IsUntouched ws slot at n → Contains ws w → ¬ Meets w slot at n
untouched_apart [] w slot at n untouched has = absurd (omega (arith, has.1))
untouched_apart (x ∷ ws) w slot at n untouched (zero, lt, is) = subst (λ (y : PendingWrite). ¬ Meets y slot at n) is untouched.0
untouched_apart (x ∷ ws) w slot at n untouched (suc k, lt, is) = untouched_apart ws w slot at n untouched.1 (k, omega arith, is)

-- outside the writes that were allowed the disks read as before
pub rest_same : (ws : List PendingWrite) (old new : World) → WritesOnly (Contains ws) old new → IsSameOutside ws old.now.seen new.now.seen
rest_same ws old new only = (added_throughout P (Contains ws) keeps old new only (outside_refl ws old.now.seen)).1
  where
    P : Stand → Type 0
    P s = IsSameOutside ws old.now.seen s.seen

    keeps : (a b : Stand) → Adds (Contains ws) a b → P a → P b
    keeps a b (added_none is) h = subst P (sym is) h
    keeps a b (added w may written) h = record {
      sizes = written.seen.sizes ∙ h.sizes;
      bytes = λ slot at n untouched. written.seen.bytes slot at n (untouched_apart ws w slot at n untouched may, tt) ∙ h.bytes slot at n untouched;
    }

-- a fact of each is one of the one at i
pub each_at : (P : ℕ → Type 0) (xs : List ℕ) (i : ℕ) → i < length xs → AllByRecursion P xs → P (get_or xs i 0)
each_at P [] i lt h = absurd (omega arith)
each_at P (x ∷ xs) zero lt h = h.0
each_at P (x ∷ xs) (suc i) lt h = each_at P xs i (omega arith) h.1

spread_first : (n at : ℕ) (places : List ℕ) (i : ℕ) → i < length places → AreSpread n (at ∷ places) → at + n ≤ get_or places i 0
spread_first n at [] i lt h = absurd (omega arith)
spread_first n at (next ∷ places) zero lt h = h.0
spread_first n at (next ∷ places) (suc i) lt h = let later = spread_first n next places i (omega arith) h.1 in let first = h.0 in omega arith

spread_rest : (n at : ℕ) (places : List ℕ) → AreSpread n (at ∷ places) → AreSpread n places
spread_rest n at [] h = tt
spread_rest n at (next ∷ places) h = h.1

-- a later place lies behind an earlier one
pub spread_apart : (n : ℕ) (places : List ℕ) (j i : ℕ) → j < i → i < length places → AreSpread n places → get_or places j 0 + n ≤ get_or places i 0
spread_apart n [] j i lt in_list h = absurd (omega arith)
spread_apart n (at ∷ places) j zero lt in_list h = absurd (omega arith)
spread_apart n (at ∷ places) zero (suc i) lt in_list h = spread_first n at places i (omega arith) h
spread_apart n (at ∷ places) (suc j) (suc i) lt in_list h = spread_apart n places j i (omega arith) (omega arith) (spread_rest n at places h)

abbrev pub one_put : ℕ → List ℕ → ℕ → PendingWrite
one_put slot bytes at = record { slot = slot; at = at; bytes = bytes }

-- the write at place i is one of them
pub put_among : (slot : ℕ) (places bytes : List ℕ) (i : ℕ) → i < length places → Contains (puts slot places bytes) (one_put slot bytes (get_or places i 0))
put_among slot places bytes i lt = (i, omega (arith, length-map places (one_put slot bytes)), get_or-map (one_put slot bytes) places i 0 (one_put slot bytes (get_or places i 0)) lt)

-- the first i places read as was written
abbrev pub AreThere : ℕ → List ℕ → List ℕ → ℕ → List (List ℕ) → Type 0
AreThere slot places bytes i disks = (j : ℕ) → j < i → part (disk disks slot) (slice_index places j) (length bytes) ≡ bytes

-- one more
pub there_more : (slot : ℕ) (places bytes : List ℕ) (i : ℕ) (old new : Stand) → i < length places → AreSpread (length bytes) places →
    AreThere slot places bytes i old.seen → IsWritten old (one_put slot bytes (get_or places i 0)) new → Reads new.seen (one_put slot bytes (get_or places i 0)) → AreThere slot places bytes (i + 1) new.seen
there_more slot places bytes i old new lt spread before written reads j jl = elim (cases_lt j i) [
  | inl small ↦
      let behind = spread_apart (length bytes) places j i small lt spread in
      written.seen.bytes slot (get_or places j 0) (length bytes) ((λ m. let begins = m.begins in omega (arith, begins, behind)), tt) ∙ before j small
  | inr large ↦
      let is : j ≡ i = omega arith in
      subst (λ (k : ℕ). part (disk new.seen slot) (get_or places k 0) (length bytes) ≡ bytes) (sym is) reads
]

-- one write more was made, or was tried
pub put_more : (slot : ℕ) (places bytes : List ℕ) (i : ℕ) (r : Result (Unit {0}) DeskErr) (old mid new : World) → i < length places →
    WritesOnly (Contains (puts slot places bytes)) old mid → Writes (one_put slot bytes (get_or places i 0)) r mid new → WritesOnly (Contains (puts slot places bytes)) old new
put_more slot places bytes i r old mid new lt so_far call =
    writes_more (Contains (puts slot places bytes)) old mid new so_far (writes_write (Contains (puts slot places bytes)) (one_put slot bytes (get_or places i 0)) r mid new (put_among slot places bytes i lt) call)
