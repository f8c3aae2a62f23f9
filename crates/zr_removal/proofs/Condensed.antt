-- A step of condensing keeps each device's row, and a device that is due is found in order.
use Rattle.std.proofs.Common.{◌≡◌, ◌∙◌, inl, inr, ℕ, zero, suc, ◌+◌, ◌<◌, ◌≤◌, Bool, true, false, ◌==◌, List, [], ◌∷◌, length, drop, Option, Some, None, refl, sym, ap, add-one, arith, if◌then◌else◌}
use Rattle.std.specs.Prelude.{◌&&◌, MatchBool}
use Rattle.std.proofs.lemmas.Bool.{cases_eq}
use Rattle.zr_base.specs.declared.space.CondPart.{CondPart}
use Rattle.zr_base.specs.declared.space.Condensed.{Condensed}
use Rattle.zr_base.specs.declared.space.DevPart.{DevPart}
use Rattle.zr_base.specs.declared.space.Entry.{Entry}
use Rattle.zr_base.specs.declared.space.Extent.{Extent}
use Rattle.zr_rules.specs.Condense.{folded, is_due}
use Rattle.zr_rules.specs.Places.{is_gone, part_of}
use Rattle.zr_rules.specs.Space.{IsLawful, Space}
use Rattle.zr_rules.specs.Steps.{Condenses, CondensesFrom, CondensesSome, Remaps, due_device, due_from, with_cond, worked}
use Rattle.zr_removal.proofs.Turned.{KeepsPlaces}

pub both_ways : {A B C : Type 0} (b : Bool) → MatchBool b A B → (A → C) → (B → C) → C
both_ways true m f g = f m
both_ways false m f g = g m

lawful_cond : (s : Space) (c : Option CondPart) → IsLawful s → IsLawful (with_cond s c)
lawful_cond s c l = record { devices = l.devices; sets = l.sets; once = l.once; copies = l.copies; born = l.born }

remaps_keep : (old new : Space) (d : ℕ) (entries : List Entry) (counts : List ℕ) (fresh : List Extent) (cond : Option CondPart) → Remaps old new d entries counts fresh cond → KeepsPlaces old new
remaps_keep old new d entries counts fresh cond r = record {
  version = r.elsewhere.version;
  ckpt = r.elsewhere.ckpt;
  devices = r.elsewhere.devices;
  row = λ e. elim (cases_eq e d) [
    | inl is ↦ ap (λ (i : ℕ). (part_of new.parts.devs i).row) is ∙ (r.row_is ∙ ap (λ (i : ℕ). (part_of old.parts.devs i).row) (sym is))
    | inr ne ↦ (r.elsewhere.others e ne).row
  ];
  lawful = λ l. r.elsewhere.lawful (lawful_cond old cond l);
}

condenses_keep : (old new : Space) (counts : List ℕ) (fresh : List Extent) (c : CondPart) (outcome : Condensed) → Condenses old counts fresh c outcome new → KeepsPlaces old new
condenses_keep old new counts fresh c outcome m =
    both_ways ((worked (part_of old.parts.devs c.dev).entries counts c).at == length (part_of old.parts.devs c.dev).entries) m
    (λ done. remaps_keep old new c.dev _ _ _ _ done.1)
    (λ kept. remaps_keep old new c.dev _ _ _ _ kept.1)

pub itself : (s : Space) → KeepsPlaces s s
itself s = record { version = refl; ckpt = refl; devices = refl; row = λ e. refl; lawful = λ l. l }

from_keeps : (cond : Option CondPart) (due : Option ℕ) (old new : Space) (outcome : Condensed) → CondensesFrom cond due old outcome new → KeepsPlaces old new
from_keeps (Some c) due old new outcome m = condenses_keep old new _ _ c outcome m
from_keeps None (Some d) old new outcome m =
    condenses_keep old new (folded (part_of old.parts.devs d).entries (part_of old.parts.devs d).counts (part_of old.parts.devs d).fresh) [] (record { dev = d; at = 0; entries = []; counts = [] }) outcome m
from_keeps None None old new outcome m = rw m.1 (itself old)

pub step_keeps : (old new : Space) (outcome : Condensed) → CondensesSome old outcome new → KeepsPlaces old new
step_keeps old new outcome m = from_keeps old.parts.cond (due_device old) old new outcome m

-- ---- the lowest device that is due

abbrev due_then : ℕ → DevPart → List DevPart → Option ℕ
due_then d p rest = if is_gone p.row.state && is_due p then Some d else due_from (d + 1) rest

due_here : (parts : List DevPart) (i d : ℕ) → i < length parts → due_from d (drop i parts) ≡ due_then d (part_of parts i) (drop (suc i) parts)
due_here [] i d lt = absurd (omega (arith, lt))
due_here (p ∷ parts) zero d lt = refl
due_here (p ∷ parts) (suc i) d lt = due_here parts i d (omega (arith, lt))

if_true : {A : Type 0} (b : Bool) (x y : A) → b ≡ true → (if b then x else y) ≡ x
if_true true x y h = refl
if_true false x y h = cc

if_false : {A : Type 0} (b : Bool) (x y : A) → b ≡ false → (if b then x else y) ≡ y
if_false true x y h = cc
if_false false x y h = refl

pub due_now : (parts : List DevPart) (d : ℕ) → d < length parts → is_gone (part_of parts d).row.state ≡ true → is_due (part_of parts d) ≡ true → due_from d (drop d parts) ≡ Some d
due_now parts d lt gone due = due_here parts d d lt ∙ if_true (is_gone (part_of parts d).row.state && is_due (part_of parts d)) _ _ (both (is_gone (part_of parts d).row.state) (is_due (part_of parts d)) gone due)
  where
    both : (a b : Bool) → a ≡ true → b ≡ true → (a && b) ≡ true
    both true true p q = refl
    both true false p q = q
    both false b p q = p

pub due_later : (parts : List DevPart) (d : ℕ) → d < length parts → (is_gone (part_of parts d).row.state && is_due (part_of parts d)) ≡ false → due_from d (drop d parts) ≡ due_from (d + 1) (drop (d + 1) parts)
due_later parts d lt not =
    due_here parts d d lt
    ∙ (if_false (is_gone (part_of parts d).row.state && is_due (part_of parts d)) _ _ not ∙ ap (λ (k : ℕ). due_from (d + 1) (drop k parts)) (sym (add-one d)))

pub due_none : (parts : List DevPart) (d : ℕ) → length parts ≤ d → due_from d (drop d parts) ≡ None
due_none [] zero le = refl
due_none [] (suc d) le = refl
due_none (p ∷ parts) zero le = absurd (omega (arith, le))
due_none (p ∷ parts) (suc d) le = past parts d (suc d) (omega (arith, le))
  where
    past : (ps : List DevPart) (i d : ℕ) → length ps ≤ i → due_from d (drop i ps) ≡ None
    past [] zero d le = refl
    past [] (suc i) d le = refl
    past (q ∷ ps) zero d le = absurd (omega (arith, le))
    past (q ∷ ps) (suc i) d le = past ps i d (omega (arith, le))
