-- What the checks of the slots came to.
use Rattle.std.proofs.Common.{◌≡◌, inl, inr, ℕ, zero, suc, ◌+◌, ◌<◌, Bool, true, false, not, cond, List, [], ◌∷◌, length, get_or, Option, None, Some, Result, Ok, Err, refl, sym, ◌∙◌, ap, subst, arith}
use Rattle.std.specs.Prelude.{slice_index, Contains, IsErrAnd}
use Rattle.std.specs.List.{find}
use Rattle.std.proofs.lemmas.List.{get_or_past, get_or_default}
use Rattle.std.proofs.lemmas.Bool.{cases_lt}
use Rattle.zr_base.specs.declared.refusal.Refusal.{Refusal}
use Rattle.zr_label.specs.Geometry.{is_disk_size}
use Rattle.zr_label.specs.declared.root.Seen.{Seen}
use Rattle.zr_image.specs.Current.{ShowsAll}
use Rattle.zr_slots.specs.Checks.{AreLawful, bad_size, MayCreateOn, MayAddOn}
use Rattle.zr_view.specs.Views.{slot_of}
use Rattle.zr_sync.specs.declared.fault.Fault.{Fault}
use Rattle.zr_sync.specs.declared.fault.Fault.TheVariants.{No}
use Rattle.zr_sync.specs.declared.open.OpenPool.{OpenPool}
use Rattle.zr_create.specs.Devices.{HaveDisks}
use Rattle.zr_create.specs.Refusals.{ChecksNew, ChecksNext}
use Rattle.zr_create.proofs.Taken.{IsFree}

-- ---- the outcome, of the sizes and what is shown as they were read

pub checks_new : (sizes read : List ℕ) (tells : Type 0) (disks : List (List ℕ)) (version guid : ℕ) (named : List ℕ) (seen looked : List Seen) (outcome : Result (Unit {0}) Refusal) → read ≡ sizes → looked ≡ seen → length seen ≡ length sizes → AreLawful seen → (tells → ShowsAll disks seen)
    → MayCreateOn read looked version guid named outcome → ChecksNew sizes tells disks version guid named outcome
checks_new sizes read tells disks version guid named seen looked outcome read_is looked_is count lawful shows checks = record {
  seen = seen;
  shown = record { count = count; lawful = lawful; shows = shows };
  checks = subst (λ (n : List ℕ). MayCreateOn n seen version guid named outcome) read_is (subst (λ (s : List Seen). MayCreateOn read s version guid named outcome) looked_is checks);
}

pub checks_next : (sizes read : List ℕ) (tells : Type 0) (disks : List (List ℕ)) (pool : OpenPool) (slot txg added : ℕ) (seen looked : List Seen) (outcome : Result (Unit {0}) Refusal) → read ≡ sizes → looked ≡ seen → txg ≡ pool.group.txg → added ≡ txg + 1 → length seen ≡ length sizes → AreLawful seen → (tells → ShowsAll disks seen)
    → MayAddOn read looked pool.version slot pool.table.slots pool.guid pool.table.count added outcome → ChecksNext sizes tells disks pool slot outcome
checks_next sizes read tells disks pool slot txg added seen looked outcome read_is looked_is txg_is added_is count lawful shows checks = record {
  seen = seen;
  shown = record { count = count; lawful = lawful; shows = shows };
  checks =
      subst (λ (n : List ℕ). MayAddOn n seen pool.version slot pool.table.slots pool.guid pool.table.count (pool.group.txg + 1) outcome) read_is
      (subst (λ (s : List Seen). MayAddOn read s pool.version slot pool.table.slots pool.guid pool.table.count (pool.group.txg + 1) outcome) looked_is
      (subst (λ (a : ℕ). MayAddOn read looked pool.version slot pool.table.slots pool.guid pool.table.count a outcome) (added_is ∙ ap (λ (g : ℕ). g + 1) txg_is) checks));
}

-- the refusal that was passed on
pub refused_same : {A : Type 0} (first r : Refusal) (result : Result A Fault) → IsErrAnd result (λ f. f ≡ No first) → result ≡ Err (No r) → first ≡ r
refused_same first r (Ok a) was is = absurd was
refused_same first r (Err f) was is = cc

-- ---- what they allow

passes_none : (p : ℕ → Bool) (xs : List ℕ) → ((x : ℕ) → find p xs ≡ Some x → ⊥) → (k : ℕ) → k < length xs → p (get_or xs k 0) ≡ false
passes_none p [] none k lt = absurd (omega arith)
passes_none p (x ∷ xs) none k lt = (elim (p x) as (λ (b : Bool). p x ≡ b → p (get_or (x ∷ xs) k 0) ≡ false) [
  | true ↦ λ is. absurd (none x (ap (λ b. cond b (Some x) (find p xs)) is))
  | false ↦ λ is. at_or_behind p x xs k lt is (λ j small. passes_none p xs (λ y found. none y (ap (λ b. cond b (Some x) (find p xs)) is ∙ found)) j small)
]) refl
  where
    at_or_behind : (p : ℕ → Bool) (x : ℕ) (xs : List ℕ) (k : ℕ) → k < length (x ∷ xs) → p x ≡ false → ((j : ℕ) → j < length xs → p (get_or xs j 0) ≡ false) → p (get_or (x ∷ xs) k 0) ≡ false
    at_or_behind p x xs zero lt here behind = here
    at_or_behind p x xs (suc j) lt here behind = behind j (omega arith)

not_not : (b : Bool) → not b ≡ false → b ≡ true
not_not true is = refl
not_not false is = absurd cc

have_disks : (sizes : List ℕ) (version : ℕ) (slots : List ℕ) → ((slot : ℕ) → bad_size sizes version slots ≡ Some slot → ⊥) → HaveDisks sizes version slots
have_disks sizes version slots none k lt = not_not (is_disk_size version (slice_index sizes (slice_index slots k))) (passes_none (λ slot. not (is_disk_size version (slice_index sizes slot))) slots none k lt)

pub new_disks : (sizes : List ℕ) (tells : Type 0) (disks : List (List ℕ)) (version guid : ℕ) (named : List ℕ) → ChecksNew sizes tells disks version guid named (Ok tt) → HaveDisks sizes version named
new_disks sizes tells disks version guid named checks = elim checks.checks [
  | inl passed ↦ have_disks sizes version named passed.1
  | inr failed ↦ absurd (let no : Ok tt ≡ Err failed.0 = failed.2 in cc)
]

has_slot : (slots : List (Option ℕ)) (d slot : ℕ) → slot_of slots d ≡ Some slot → Contains slots (Some slot)
has_slot slots d slot at = elim (cases_lt d (length slots)) [
  | inl lt ↦ (d, lt, get_or_default slots d (Some slot) None lt ∙ at)
  | inr past ↦ let none : None ≡ Some slot = sym (get_or_past slots d None past) ∙ at in absurd cc
]

pub next_free : (sizes : List ℕ) (tells : Type 0) (disks : List (List ℕ)) (pool : OpenPool) (slot : ℕ) → ChecksNext sizes tells disks pool slot (Ok tt) → IsFree pool.table.slots slot
next_free sizes tells disks pool slot checks d at = elim checks.checks [
  | inl sized ↦ elim sized.2 [
    | inl free ↦ free.1 slot (refl, inl (has_slot pool.table.slots d slot at))
    | inr failed ↦ let no : Ok tt ≡ Err failed.0 = failed.2 in cc
  ]
  | inr failed ↦ let no : Ok tt ≡ Err failed.0 = failed.2 in cc
]
