use Rattle.std.proofs.Common.{◌≡◌, ◌∙◌, ℕ, zero, suc, ◌<◌, ◌≤◌, ◌^◌, List, [], ◌∷◌, ◌++◌, Option, Some, ap, refl, subst, sym, arith}
use Rattle.zr_base.specs.declared.space.DevPart.{DevPart}
use Rattle.zr_base.specs.declared.space.DevState.TheVariants.{On}
use Rattle.zr_rules.specs.Devices.{devices_of}
use Rattle.zr_rules.specs.Space.{Space}
use Rattle.zr_vdev.specs.Mounts.{AreMounted}
use Rattle.zr_view.specs.Runs.{HasDisk}
use Rattle.zr_view.specs.Views.{slot_of}
use Rattle.zr_store_rows.proofs.removals.two_devices.Goals as goal

-- a device of which nothing is used
abbrev device : DevPart
device = record { row = record { state = On; added = 1; units = 896; gone = 0 }; held = []; kept = []; entries = []; counts = []; fresh = []; late1 = []; late2 = [] }

-- the disks of the two of them
abbrev slots : List (Option ℕ)
slots = Some 0 ∷ Some 1 ∷ []

disk_of : (a b : ℕ) → 8388608 ≤ a → 8388608 ≤ b → (d : ℕ) → d < 2 → HasDisk (a ∷ b ∷ []) slots d ((devices_of (device ∷ device ∷ [])).row d).units
disk_of a b first second zero lt = record { slot = 0; is = refl; exists = omega arith; fits = omega (arith, first) }
disk_of a b first second (suc zero) lt = record { slot = 1; is = refl; exists = omega arith; fits = omega (arith, second) }
disk_of a b first second (suc (suc d)) lt = absurd (omega (arith, lt))

small : (d : ℕ) → ((devices_of (device ∷ device ∷ [])).row d).units ≤ 2 ^ 40
small zero = omega arith
small (suc zero) = omega arith
small (suc (suc d)) = omega arith

apart : (d e slot : ℕ) → slot_of slots d ≡ Some slot → slot_of slots e ≡ Some slot → d ≡ e
apart zero zero slot p q = refl
apart zero (suc zero) slot p q = let both = p ∙ sym q in absurd cc
apart zero (suc (suc e)) slot p q = absurd cc
apart (suc zero) zero slot p q = let both = p ∙ sym q in absurd cc
apart (suc zero) (suc zero) slot p q = refl
apart (suc zero) (suc (suc e)) slot p q = absurd cc
apart (suc (suc d)) e slot p q = absurd cc

two_mounted : (a b : ℕ) → 8388608 ≤ a → 8388608 ≤ b → AreMounted (a ∷ b ∷ []) slots (devices_of (device ∷ device ∷ []))
two_mounted a b first second = record { few = omega arith; disks = λ d lt there. disk_of a b first second d lt; small = small; apart = apart }

pub returns : goal.returns
returns g c =
    let one = c.in_ok-add_disk.ensures in
    let two = c.in_ok-add_disk-2.ensures in
    let sizes : g.D.Shelf.sizes c.add_disk-2.new.desk ≡ one.0 ∷ two.0 ∷ [] = two.1 ∙ ap (λ (ns : List ℕ). ns ++ two.0 ∷ []) (one.1 ∙ ap (λ (ns : List ℕ). ns ++ one.0 ∷ []) c.requires) in
    let devs : c.add_dev-2.new.self.parts.devs ≡ device ∷ device ∷ [] =
    c.in_ok-add_dev-2.ensures.ok.devs ∙ ap (λ (ps : List DevPart). ps ++ device ∷ []) (c.in_ok-add_dev.ensures.ok.devs ∙ ap (λ (s : Space). s.parts.devs ++ device ∷ []) c.new-space.ensures) in
    subst (λ (ns : List ℕ). AreMounted ns slots (devices_of c.add_dev-2.new.self.parts.devs)) (sym sizes)
    (subst (λ (ps : List DevPart). AreMounted (one.0 ∷ two.0 ∷ []) slots (devices_of ps)) (sym devs) (two_mounted one.0 two.0 one.2 two.2))
