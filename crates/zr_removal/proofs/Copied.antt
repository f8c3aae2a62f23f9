-- A step that copies keeps each device's row.
use Rattle.std.proofs.Common.{◌≡◌, ◌∙◌, ◌⊎◌, inl, inr, ℕ, List, Option, Result, Ok, Err, refl, sym, ap, subst}
use Rattle.std.specs.Prelude.{IfOk, OnOk}
use Rattle.std.proofs.lemmas.Bool.{cases_eq}
use Rattle.zr_base.specs.declared.space.Policy.{Policy}
use Rattle.zr_rules.specs.Places.{part_of}
use Rattle.zr_rules.specs.Space.{Space}
use Rattle.zr_shelf.specs.Moments.{World}
use Rattle.zr_space.specs.Plans.{MakesCopy}
use Rattle.zr_space.specs.declared.copy.Plan.{Plan}
use Rattle.zr_vdev.specs.Copies.{CopiesUnits}
use Rattle.zr_vdev.specs.declared.copy.Copied.{Copied}
use Rattle.zr_vdev.specs.declared.copy.Copied.TheVariants as copied
use Rattle.zr_removal.proofs.Condensed.{itself}
use Rattle.zr_removal.proofs.Turned.{KeepsPlaces}

makes_keep : (old new : Space) (d : ℕ) (p : Plan) → MakesCopy old new d p → KeepsPlaces old new
makes_keep old new d p m = record {
  version = m.elsewhere.version;
  ckpt = m.elsewhere.ckpt;
  devices = m.elsewhere.devices;
  row = λ e. elim (cases_eq e d) [
    | inl is ↦ ap (λ (i : ℕ). (part_of new.parts.devs i).row) is ∙ (m.row_is ∙ ap (λ (i : ℕ). (part_of old.parts.devs i).row) (sym is))
    | inr ne ↦ (m.elsewhere.others e ne).row
  ];
  lawful = m.elsewhere.lawful;
}

still : (old new : Space) → new ≡ old → KeepsPlaces old new
still old new same = subst (KeepsPlaces old) (sym same) (itself old)

pub copied_keeps : {E : Type 0} (policy : Policy) (slots : List (Option ℕ)) (told : Type 0) (before after : World) (old new : Space) (r : Result Copied E)
    → IfOk r (λ c. (n : ℕ) → c ≡ copied.Units n → CopiesUnits policy slots told before after old new n) → IfOk r (λ c. (c ≡ copied.Nothing) ⊎ (c ≡ copied.Fault) → new ≡ old) → OnOk r (KeepsPlaces old new)
copied_keeps policy slots told before after old new (Ok (copied.Units n)) units same = makes_keep old new _ _ (units n refl).makes
copied_keeps policy slots told before after old new (Ok copied.Nothing) units same = still old new (same (inl refl))
copied_keeps policy slots told before after old new (Ok copied.Fault) units same = still old new (same (inr refl))
copied_keeps policy slots told before after old new (Err e) units same = tt

pub on_ok_then : {T E P Q : Type 0} (r : Result T E) → OnOk r P → (P → Q) → OnOk r Q
on_ok_then (Ok x) p f = f p
on_ok_then (Err e) p f = tt
