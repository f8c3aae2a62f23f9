-- What the current root has stays while a mapping is condensed.
use Rattle.std.proofs.Common.{◌≡◌, ℕ, ◌<◌, List, length, Option, refl, ap, subst}
use Rattle.std.proofs.Math.ListN.{set}
use Rattle.zr_base.specs.declared.space.CondPart.{CondPart}
use Rattle.zr_base.specs.declared.space.Entry.{Entry}
use Rattle.zr_rules.specs.Frees.{IsSameRoot}
use Rattle.zr_rules.specs.Space.{Space}
use Rattle.zr_rules.specs.Steps.{with_cond}
use Rattle.zr_indirect.specs.Changes.{KeepsRoot, was_fresh_in}
use Rattle.zr_indirect.specs.Mapped.{Mapped}
use Rattle.zr_space.specs.Views.{Kept, kept_of, space_of}
use Rattle.zr_space.specs.declared.whole.Whole.{Whole}
use Rattle.zr_space.proofs.CopyRoot.{root_then, same_uses}
use Rattle.zr_space.proofs.Rooted.{same_root}

-- one device with another mapping
pub moves_root : (whole : Whole) (devs : List Kept) (d : ℕ) (k : Kept) (m : Mapped) → d < length devs → k ≡ kept_of devs d → KeepsRoot k.moves m → IsSameRoot (space_of whole devs) (space_of whole (set devs d (record k { moves = m })))
moves_root whole devs d k m there is keeps =
    same_root whole devs d (record k { moves = m }) there (same_uses (kept_of devs d).uses k.uses (ap (λ (z : Kept). z.uses) is)) (subst (λ (z : Kept). (u : ℕ) → was_fresh_in m u ≡ was_fresh_in z.moves u) is keeps)

pub put_root : (old m : Mapped) (xs : List Entry) (ns : List ℕ) → m ≡ record old { entries = xs; counts = ns; spare = m.spare } → KeepsRoot old m
put_root old m xs ns same u = ap (λ (x : Mapped). was_fresh_in x u) same

-- another condensing
pub cond_root : (s new : Space) (c : Option CondPart) → new ≡ with_cond s c → IsSameRoot s new
cond_root s new c is = rw is (record { held = λ d u. refl; kept = λ d u. refl; fresh = λ d u. refl })

pub taken_root : (old mid new : Space) (c : Option CondPart) → mid ≡ with_cond old c → IsSameRoot mid new → IsSameRoot old new
taken_root old mid new c is then = root_then old mid new (cond_root old mid c is) then
