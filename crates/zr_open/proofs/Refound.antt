-- What a commit left is found again.
use Rattle.std.proofs.Common.{◌≡◌, ℕ, Bool, List, [], length, map, Option, Some, Ok, sym, subst}
use Rattle.zr_image.specs.Current.{FindsCurrent, ShowsAll, slots_of}
use Rattle.zr_label.specs.Blocks.{IsUber}
use Rattle.zr_label.specs.declared.root.Seen.{Seen}
use Rattle.zr_label.specs.declared.root.Uber.{Uber}
use Rattle.zr_model.specs.Objects.{Objects}
use Rattle.zr_model.specs.State.{PoolState}
use Rattle.zr_shelf.specs.Moments.{World}
use Rattle.zr_sync.specs.Commits.{IsNextRoot, IsShownFrom}
use Rattle.zr_sync.specs.Heads.{HasHead}
use Rattle.zr_sync.specs.Objects.{HoldsObjects}
use Rattle.zr_sync.specs.Pools.{IsAfter, IsOpen, IsSamePool}
use Rattle.zr_sync.specs.Writes.{WritesIntoFree}
use Rattle.zr_sync.specs.declared.open.OpenPool.{OpenPool}
use Rattle.zr_rules.specs.Equation.{devices_in}
use Rattle.zr_open.specs.There.{AreThere}
use Rattle.zr_sync.specs.declared.open.Table.{Table}
use Rattle.zr_current.proofs.Committed.{commit_current, goes_on}
use Rattle.zr_open.proofs.Same.{shown_is_held}
use Rattle.zr_current.specs.Current.{GoesOnFrom, HasSlots, IsCurrentOn}
use Rattle.zr_open.specs.Shown.{Shows}

-- what is current for one pool is so for another with its slots
same_current : (disks : List (List ℕ)) (u : Uber) (old new : OpenPool) → new.table ≡ old.table → IsCurrentOn disks u old → IsCurrentOn disks u new
same_current disks u old new table h = record {
  current = h.current;
  alone = h.alone;
  slots = λ seen shown. subst (λ (t : Table). HasSlots (slots_of u seen) t.slots) (sym table) (h.slots seen shown);
}

pub commit_found : (paths : List (List ℕ)) (sizes : List ℕ) (old new : OpenPool) (reset : Bool) (last u : Uber) (before mid now : World) (seen : List Seen) (objects : Objects) (p : PoolState) → IsOpen sizes old → GoesOnFrom last old
    → map length before.now.seen ≡ sizes → ShowsAll before.now.seen seen → FindsCurrent seen (Ok last) → HasSlots (slots_of last seen) old.table.slots
    → WritesIntoFree old before mid → IsShownFrom sizes old u mid now → IsNextRoot old reset u → IsOpen sizes new → AreThere (devices_in new.space) → IsSamePool old new → new.last ≡ Some u → new.group.objects ≡ []
    → HasHead now.now.seen new u.root u.len → HoldsObjects (Unit {0}) now.now.seen new objects → Shows paths now.now.seen p → p.objects ≡ objects
commit_found paths sizes old new reset last u before mid now seen objects p ready from sized shown current slots wrote published next then on same is empty head held shows =
    let lawful : IsUber u = (subst (λ (o : Option Uber). IsAfter o new.group.txg) is then.after).0 in
    let only = commit_current sizes old reset last u before mid now ready from sized lawful next wrote published seen shown current slots in
    shown_is_held paths now.now.seen sizes u new objects p then on (goes_on old new reset u is next same) empty (same_current now.now.seen u old new same.table only) head held shows
