-- One call more in memory.
use Rattle.std.proofs.Common.{◌≡◌, inl, inr, ◌+◌, ◌<◌, ◌≤◌, List, [], ◌∷◌, ◌++◌, ℕ, length, map, take, drop, get_or, refl, sym, ◌∙◌, ap, subst, zero, suc, arith, take-append-drop}
use Rattle.std.proofs.lemmas.List.{get_or-map, length-map}
use Rattle.std.proofs.lemmas.Bool.{cases_lt}
use Rattle.std.proofs.lemmas.List.{drop-drop}
use Rattle.zr_shelf.specs.Disks.{Stand, disk, taken_to}
use Rattle.zr_shelf.specs.Moments.{World, Steps, Throughout, IsTaken}
use Rattle.zr_shelf.specs.Memory.{start, next, run, take_on, stand_after, FitsIn, IsLawful, bytes_of, sizes_of}
use Rattle.zr_shelf.specs.declared.memory.Call.{Call}
use Rattle.zr_shelf.specs.declared.memory.Deed.{Deed}
use Rattle.zr_shelf.specs.declared.memory.DiskFile.{DiskFile}
use Rattle.zr_shelf.proofs.Runs.{started, goes_on}

pub run_push : (w : World) (calls : List Call) (call : Call) → run w (calls ++ call ∷ []) ≡ next (run w calls) call
run_push w [] call = refl
run_push w (c ∷ calls) call = run_push (next w c) calls call

-- what a call does to the world so far
abbrev pub after : World → Deed → World
after w deed = record { now = stand_after w.now deed; past = w.now ∷ w.past }

module _ (input : List ℕ) (calls more : List Call) (moment since : ℕ) (deed : Deed) (items : more ≡ calls ++ record { moment = moment; since = since; deed = deed } ∷ []) where
  pub now_next : run (start input) more ≡ after (take_on (run (start input) calls) since) deed
  now_next = ap (λ (cs : List Call). run (start input) cs) items ∙ run_push (start input) calls (record { moment = moment; since = since; deed = deed })

  pub stepped : (change : Stand → Stand → Type 0) → change (take_on (run (start input) calls) since).now (stand_after (take_on (run (start input) calls) since).now deed) → Steps change (take_on (run (start input) calls) since) (run (start input) more)
  stepped change h = subst (Steps change (take_on (run (start input) calls) since)) (sym now_next) (record { past = refl; step = h })

lawful_push : (w : World) (calls : List Call) (call : Call) → IsLawful w calls → FitsIn (run w calls).now.seen call.deed → IsLawful w (calls ++ call ∷ [])
lawful_push w [] call h fits = (fits, tt)
lawful_push w (c ∷ calls) call h fits = (h.0, lawful_push (next w c) calls call h.1 fits)

pub lawful_more : (w : World) (calls more : List Call) (call : Call) → more ≡ calls ++ call ∷ [] → IsLawful w calls → FitsIn (run w calls).now.seen call.deed → IsLawful w more
lawful_more w calls more call items h fits = subst (IsLawful w) (sym items) (lawful_push w calls call h fits)

-- takes change nothing but what is left
pub stand_on : (w : World) (n : ℕ) → (take_on w n).now ≡ taken_to w.now (drop n w.now.left)
stand_on w zero = refl
stand_on w (suc n) = refl

pub seen_on : (w : World) (n : ℕ) → (take_on w n).now.seen ≡ w.now.seen
seen_on w zero = refl
seen_on w (suc n) = refl

-- more of the input is taken, a byte at each moment
pub take_more : (w : World) (from to : ℕ) → from ≤ to → Throughout (λ stand. (left : List ℕ) × (stand ≡ taken_to (take_on w from).now left)) (take_on w from) (take_on w to)
take_more w from zero le =
    let is : from ≡ zero = omega arith in
    subst (λ (k : ℕ). Throughout (λ stand. (left : List ℕ) × (stand ≡ taken_to (take_on w k).now left)) (take_on w k) (take_on w zero)) (sym is) (started _ w)
take_more w from (suc to) le = elim (cases_lt from (suc to)) [
  | inl lt ↦ goes_on (λ stand. (left : List ℕ) × (stand ≡ taken_to (take_on w from).now left)) (λ old new. Unit {0}) (take_on w from) (take_on w to) (take_on w (suc to))
      (take_more w from to (omega arith))
      (record { past = refl; step = tt })
      (drop (suc to) w.now.left, ap (λ (s : Stand). taken_to s (drop (suc to) w.now.left)) (sym (stand_on w from)))
  | inr ge ↦ let is : from ≡ suc to = omega arith in
      subst (λ (k : ℕ). Throughout (λ stand. (left : List ℕ) × (stand ≡ taken_to (take_on w k).now left)) (take_on w k) (take_on w (suc to))) (sym is) (started _ (take_on w (suc to)))
]

-- the next bytes are taken
pub took : (w : World) (since n : ℕ) (front : List ℕ) → front ≡ take n (take_on w since).now.left → IsTaken front (take_on w since) (take_on w (since + n))
took w since n front is =
    let left = (take_on w since).now.left in
    let from_start : drop (since + n) w.now.left ≡ drop n left = sym (drop-drop n since w.now.left) ∙ ap (drop n) (sym (ap (λ (s : Stand). s.left) (stand_on w since))) in
    record {
      left = (
        drop n left,
        sym (take-append-drop n left) ∙ ap (λ (l : List ℕ). l ++ drop n left) (sym is),
        stand_on w (since + n) ∙ ap (λ (l : List ℕ). taken_to w.now l) from_start ∙ ap (λ (s : Stand). taken_to s (drop n left)) (sym (stand_on w since)),
      );
      since = take_more w since (since + n) (omega arith);
    }

-- sizes are those of the bytes
pub sizes_are : (files : List DiskFile) → map length (bytes_of files) ≡ sizes_of files
sizes_are [] = refl
sizes_are (f ∷ files) = ap (λ (l : List ℕ). length f.bytes.items ∷ l) (sizes_are files)

-- a place that is there, as a disk has it
pub in_disk : (files : List DiskFile) (slot n : ℕ) → slot < length (sizes_of files) → n ≤ get_or (sizes_of files) slot 0 → (slot < length files) × (n ≤ length (disk (bytes_of files) slot))
in_disk files slot n there fits =
    let here : slot < length files = omega (arith, there, length-map files (λ (f : DiskFile). length f.bytes.items)) in
    let is : slot < length (bytes_of files) = omega (arith, here, length-map files (λ (f : DiskFile). f.bytes.items)) in
    let size : get_or (sizes_of files) slot 0 ≡ length (disk (bytes_of files) slot) = ap (λ (l : List ℕ). get_or l slot 0) (sym (sizes_are files)) ∙ get_or-map length (bytes_of files) slot [] 0 is in
    (here, omega (arith, fits, size))
