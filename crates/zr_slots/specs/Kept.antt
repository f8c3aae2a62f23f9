-- Which groups can be gone back to, by what the slots show.
use Rattle.std.specs.Prelude.{◌≡◌, ◌≢◌, ◌⊎◌, ℕ, List, Ok, Err}
use Rattle.zr_base.specs.declared.refusal.Refusal.TheVariants.{GroupNotKept}
use Rattle.zr_label.specs.declared.root.Seen.{Seen}
use Rattle.zr_label.specs.declared.root.Uber.{Uber}
use Rattle.zr_image.specs.Checks.{Check}
use Rattle.zr_image.specs.Current.{IsGroup, IsInWindow, IsOldest, IsShown}
use Rattle.zr_slots.specs.Checks.{IsOther}

-- the group is kept and has this root, or it is refused with the oldest that is kept
abbrev pub KeepsGroup : List Seen → Uber → ℕ → Check Uber
KeepsGroup seen current txg (Ok u) = IsInWindow seen current txg × IsGroup seen current txg u
KeepsGroup seen current txg (Err r) = (oldest : ℕ) × (¬ IsInWindow seen current txg) × IsOldest seen current oldest × (r ≡ GroupNotKept oldest)

-- no slot shows a root of the group, or two are shown that differ, or one with other devices than the current root
abbrev pub IsNoGroup : List Seen → Uber → ℕ → Type 0
IsNoGroup seen current txg =
    ((u : Uber) → IsShown seen u → u.txg ≢ txg)
    ⊎ (((u : Uber) × (v : Uber) × IsShown seen u × IsShown seen v × (u.txg ≡ txg) × IsOther u v)
    ⊎ ((u : Uber) × IsShown seen u × (u.txg ≡ txg) × (u.rows ≢ current.rows)))
