-- Objects stay where the same pointers are stored, and where a group is written.
use Rattle.std.proofs.Common.{◌≡◌, ℕ, List, []}
use Rattle.zr_lookup.specs.Groups.{IsLawfulGroup}
use Rattle.zr_store.specs.Store.{Swaps, Now}
use Rattle.zr_txg.specs.Changes.{IsGroup}
use Rattle.zr_model.specs.Objects.{Objects}
use Rattle.zr_held.proofs.Same.{same}
use Rattle.zr_held.proofs.Groups.{commit_stored, committed}
use Rattle.zr_sync.specs.Holds.{HasBlocks, HasWritten, AreTreesStored}
use Rattle.zr_sync.specs.Objects.{account_of, HoldsObjects}
use Rattle.zr_sync.specs.declared.open.OpenPool.{OpenPool}

-- the pool behind a look at its disks
pub objects_stay : {told_old told_new : Type 0} {disks_old disks_new : List (List ℕ)} (x y : OpenPool) (objects : Objects) → y.dir ≡ x.dir → y.group ≡ x.group → (h : HoldsObjects told_old disks_old x objects)
    → Now (HasBlocks told_new disks_new y) (λ n. Swaps h.stored n [] []) → HoldsObjects told_new disks_new y objects
objects_stay x y objects dir group h now = record {
  stored = now.stored;
  held = now.held;
  has = same h.stored now.stored (account_of x) (account_of y) objects now.is dir group h.has;
}

-- the trees of its group are stored
pub trees_stored : {told : Type 0} {disks : List (List ℕ)} (x : OpenPool) (objects : Objects) (count : ℕ) → IsGroup x.group.objects count → IsLawfulGroup x.group → (h : HoldsObjects told disks x objects) → AreTreesStored x h.stored
trees_stored x objects count group lawful h = commit_stored h.stored (account_of x) objects count group lawful h.has

-- the pool behind a commit
pub objects_written : {told_old told_new : Type 0} {disks_old disks_new : List (List ℕ)} (x y : OpenPool) (objects : Objects) (count : ℕ) → IsGroup x.group.objects count → IsLawfulGroup x.group → y.group.objects ≡ []
    → (h : HoldsObjects told_old disks_old x objects) → HasWritten told_new disks_new x y h.stored → HoldsObjects told_new disks_new y objects
objects_written x y objects count group lawful empty h now = record {
  stored = now.stored;
  held = now.held;
  has = committed h.stored now.stored (account_of x) (account_of y) objects count group lawful now.is empty now.held.alone h.has;
}
