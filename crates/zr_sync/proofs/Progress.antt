-- How the stages of a commit go on, stream by stream and device by device.
use Rattle.std.proofs.Common.{◌≡◌, ◌≢◌, ◌∙◌, ℕ, ◌+◌, ◌<◌, ◌≤◌, ◌&&◌, Bool, true, false, List, refl, sym, ap, subst, arith, if◌then◌else◌}
use Rattle.std.specs.Prelude.{nat_eq, nat_lt}
use Rattle.std.proofs.lemmas.Bool.Decides.{nat_tests}
use Rattle.zr_beside.specs.Beside.{Standing}
use Rattle.zr_sync.specs.Trees.{Place, Stage, HasNoLateYet, HoldsStreams, IsAt, WritesPlace, is_late, place_number, writing}
use Rattle.zr_sync.specs.Trees.Place.{OfLog, OfMapping, FirstLate, SecondLate}
use Rattle.zr_sync.specs.Trees.Stage.{Written}
use Rattle.zr_sync.specs.declared.mappings.MappingStream.{MappingStream}
use Rattle.zr_sync.specs.declared.mappings.MappingStream.TheVariants.{Entries, Counts}
use Rattle.zr_sync.specs.declared.open.OpenPool.{OpenPool}
use Rattle.zr_sync.specs.declared.words.Log.TheVariants.{Held, Kept, Fresh}

-- ---- the same stages

pub restaged : (s t : ℕ → Place → Stage) (cond : MappingStream → Stage) (others : List Standing) (tells : Type 0) (disks : List (List ℕ)) (pool : OpenPool) → ((e : ℕ) (p : Place) → e < pool.table.count → t e p ≡ s e p) → HoldsStreams s cond others tells disks pool → HoldsStreams t cond others tells disks pool
restaged s t cond others tells disks pool same h = record {
  stored = h.stored;
  held = h.held;
  words = h.words;
  cond = h.cond;
  beside = h.beside;
  counts = h.counts;
  cond_counts = h.cond_counts;
  are = λ e p lt. subst (λ (x : Stage). IsAt x pool e p (h.words e p)) (sym (same e p lt)) (h.are e p lt);
  are_cond = h.are_cond;
}

-- ---- within one device

-- the stages while the first so many streams of a device are written, in the order of a head
abbrev pub within : Stage → ℕ → ℕ → ℕ → Place → Stage
within first dev k e p = if nat_lt e dev then (if is_late p then first else Written) else (if nat_eq e dev && nat_lt (place_number p) k then Written else first)

-- a choice that does not hang on a test
either : {A : Type 0} (b : Bool) (x : A) → (if b then x else x) ≡ x
either true x = refl
either false x = refl

chosen : {A : Type 0} (b : Bool) (x y : A) → b ≡ true → (if b then x else y) ≡ x
chosen true x y is = refl
chosen false x y is = cc

passed : {A : Type 0} (b : Bool) (x y : A) → b ≡ false → (if b then x else y) ≡ y
passed true x y is = cc
passed false x y is = refl

not_below : (n : ℕ) → nat_lt n n ≡ false
not_below n = grind (arith, nat_tests)

same_here : (n k : ℕ) → n ≡ k → (nat_eq n n && nat_lt k (k + 1)) ≡ true
same_here n k is = grind (arith, nat_tests, is)

not_here : (dev k : ℕ) → (nat_eq dev dev && nat_lt k k) ≡ false
not_here dev k = grind (arith, nat_tests)

is_here : (dev k : ℕ) → (nat_eq dev dev && nat_lt k (k + 1)) ≡ true
is_here dev k = grind (arith, nat_tests)

one_more : (e dev n k : ℕ) → (nat_eq e dev && nat_eq n k) ≡ false → (nat_eq e dev && nat_lt n (k + 1)) ≡ (nat_eq e dev && nat_lt n k)
one_more e dev n k unless = grind (arith, nat_tests, unless)

pub within_next : (first : Stage) (dev : ℕ) (place : Place) → WritesPlace first (within first dev (place_number place)) (within first dev (place_number place + 1)) dev place
within_next first dev place =
    let k = place_number place in
    record {
      was = passed (nat_lt dev dev) (if is_late place then first else Written) (if nat_eq dev dev && nat_lt k k then Written else first) (not_below dev) ∙ passed (nat_eq dev dev && nat_lt k k) Written first (not_here dev k);
      is = passed (nat_lt dev dev) (if is_late place then first else Written) (if nat_eq dev dev && nat_lt k (k + 1) then Written else first) (not_below dev) ∙ chosen (nat_eq dev dev && nat_lt k (k + 1)) Written first (is_here dev k);
      others = λ e p unless. ap (λ (b : Bool). if nat_lt e dev then (if is_late p then first else Written) else (if b then Written else first)) (one_more e dev (place_number p) k unless);
    }

pub within_no_late : (first : Stage) → first ≢ Written → (dev k : ℕ) → k ≤ 5 → HasNoLateYet (within first dev k)
within_no_late first unwritten dev k few e is =
    let none : (nat_eq e dev && nat_lt 5 k) ≡ false = grind (arith, nat_tests, few) in
    unwritten (sym (ap (λ (b : Bool). if nat_lt e dev then first else (if b then Written else first)) none ∙ either (nat_lt e dev) first) ∙ is)

pub within_none : (first : Stage) (dev e : ℕ) (p : Place) → within first dev 0 e p ≡ writing first dev e p
within_none first dev e p = ap (λ (b : Bool). if nat_lt e dev then (if is_late p then first else Written) else (if b then Written else first)) (nothing (nat_eq e dev) (place_number p))
  where
    nothing : (b : Bool) (n : ℕ) → (b && nat_lt n 0) ≡ false
    nothing b n = grind (arith, nat_tests)

-- one device more
pub within_all : (first : Stage) (dev e : ℕ) (p : Place) → writing first (dev + 1) e p ≡ within first dev 5 e p
within_all first dev e p = (elim (nat_lt e dev) as (λ (b : Bool). nat_lt e dev ≡ b → writing first (dev + 1) e p ≡ within first dev 5 e p) [
  | true ↦ λ is.
      let below : nat_lt e (dev + 1) ≡ true = grind (arith, nat_tests, is) in
      chosen (nat_lt e (dev + 1)) (if is_late p then first else Written) first below ∙ sym (chosen (nat_lt e dev) (if is_late p then first else Written) (if nat_eq e dev && nat_lt (place_number p) 5 then Written else first) is)
  | false ↦ λ is. at_or_above is ∙ sym (passed (nat_lt e dev) (if is_late p then first else Written) (if nat_eq e dev && nat_lt (place_number p) 5 then Written else first) is)
]) refl
  where
    of_place : (q : Place) → (if is_late q then first else Written) ≡ (if nat_lt (place_number q) 5 then Written else first)
    of_place (OfLog Held) = refl
    of_place (OfLog Kept) = refl
    of_place (OfLog Fresh) = refl
    of_place (OfMapping Entries) = refl
    of_place (OfMapping Counts) = refl
    of_place FirstLate = refl
    of_place SecondLate = refl

    at_or_above : nat_lt e dev ≡ false → writing first (dev + 1) e p ≡ (if nat_eq e dev && nat_lt (place_number p) 5 then Written else first)
    at_or_above is = (elim (nat_eq e dev) as (λ (b : Bool). nat_eq e dev ≡ b → writing first (dev + 1) e p ≡ (if b && nat_lt (place_number p) 5 then Written else first)) [
      | true ↦ λ here.
          let below : nat_lt e (dev + 1) ≡ true = grind (arith, nat_tests, here) in
          chosen (nat_lt e (dev + 1)) (if is_late p then first else Written) first below ∙ of_place p
      | false ↦ λ other.
          let above : nat_lt e (dev + 1) ≡ false = grind (arith, nat_tests, is, other) in
          passed (nat_lt e (dev + 1)) (if is_late p then first else Written) first above
    ]) refl

-- ---- from one part of a commit to the next

pub writing_no_late : (first : Stage) → first ≢ Written → (count : ℕ) → HasNoLateYet (writing first count)
writing_no_late first unwritten count e is = unwritten (sym (either (nat_lt e count) first) ∙ is)

-- at its begin a commit has written nothing
pub writing_none : (first : Stage) (e : ℕ) (p : Place) → writing first 0 e p ≡ first
writing_none first e p = passed (nat_lt e 0) (if is_late p then first else Written) first (below_none e)
  where
    below_none : (n : ℕ) → nat_lt n 0 ≡ false
    below_none n = grind (arith, nat_tests)
