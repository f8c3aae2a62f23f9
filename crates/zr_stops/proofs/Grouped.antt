-- Lines of one group add up.
use Rattle.std.proofs.Common.{◌≡◌, ℕ, List, Option, refl, ◌∙◌, ap, subst}
use Rattle.zr_shelf.proofs.Doings.{writes_more, writes_nothing}
use Rattle.zr_shelf.specs.Disks.{PendingWrite}
use Rattle.zr_shelf.specs.Moments.{World}
use Rattle.zr_sync.specs.Writes.{WritesIntoFree}
use Rattle.zr_sync.specs.declared.open.OpenPool.{OpenPool}
use Rattle.zr_vdev.proofs.Follows.{widen}
use Rattle.zr_vdev.specs.Stores.{IsWriteInto, KeepsOthers}
use Rattle.zr_vdev.specs.declared.kind.Kind.TheVariants.{Block}
use Rattle.zr_stops.specs.Groups.{IsInGroup}

pub begins : (pool : OpenPool) (now : World) → IsInGroup pool now pool now
begins pool now = record { table = refl; last = refl; guid = refl; open_units = λ d u is. is; written = writes_nothing (IsWriteInto Block pool.table.slots pool.space) now }

module _ (first : OpenPool) (start : World) (old new : OpenPool) (before now : World) (group : IsInGroup first start old before) where
  into_first : (w : PendingWrite) → IsWriteInto Block old.table.slots old.space w → IsWriteInto Block first.table.slots first.space w
  into_first w h = subst (λ (t : List (Option ℕ)). IsWriteInto Block t first.space w) (ap (λ t. t.slots) group.table) (record { at = h.at; is = h.is; some = h.some; open_units = λ u inside. group.open_units h.at.dev u (h.open_units u inside) })

  -- what is written into free units lies in units that were free when the group began
  pub group_writes : WritesIntoFree old before now → WritesIntoFree first start now
  group_writes wrote =
      writes_more (IsWriteInto Block first.table.slots first.space) start before now group.written (widen (IsWriteInto Block old.table.slots old.space) (IsWriteInto Block first.table.slots first.space) into_first before now wrote)

  pub line_stays : WritesIntoFree old before now → KeepsOthers Block old.space new.space → new.table ≡ old.table → new.last ≡ old.last → new.guid ≡ old.guid → IsInGroup first start new now
  line_stays wrote keeps table last guid = record {
    table = table ∙ group.table;
    last = last ∙ group.last;
    guid = guid ∙ group.guid;
    open_units = λ d u is. group.open_units d u (keeps.writable d u is);
    written = group_writes wrote;
  }
