-- What the clauses of a commit say of its end.
use Rattle.std.proofs.Common.{◌≡◌, ℕ, ◌+◌, Bool, List, [], refl, subst}
use Rattle.std.specs.Prelude.{IfSome}
use Rattle.zr_bptr.specs.declared.Ptr.{Ptr}
use Rattle.zr_model.specs.Objects.{Objects}
use Rattle.zr_shelf.specs.Moments.{World}
use Rattle.zr_sync.proofs.Leading.{untold}
use Rattle.zr_sync.proofs.Retelling.{trees_told}
use Rattle.zr_sync.specs.Commits.{EndsGroup, IsNextRoot, IsShownFrom}
use Rattle.zr_sync.specs.Copies.{KeepsCopies}
use Rattle.zr_sync.specs.Ends.{EndsCommitted}
use Rattle.zr_sync.specs.Heads.{HasDirectory, HasHead, HasSafeHead, IsSeen, head_of}
use Rattle.zr_sync.specs.Moves.{TellsMoves}
use Rattle.zr_sync.specs.Objects.{HoldsObjects}
use Rattle.zr_sync.specs.Pools.{IsOpen, IsSamePool}
use Rattle.zr_sync.specs.Trees.{HasTrees}
use Rattle.zr_sync.specs.Trees.Stage.{Had, Recorded}
use Rattle.zr_sync.specs.Writes.{WritesIntoFree}
use Rattle.zr_sync.specs.declared.open.OpenPool.{OpenPool}

pub ends_by : {n1 n2 : List ℕ} {t1 t2 : Type 0} {reset : Bool} {x y : OpenPool} {objects : Objects} {w1 w2 : World} → n2 ≡ n1 → IsOpen n2 y → IsSamePool x y → IfSome y.last (IsNextRoot x reset) → y.group.txg ≡ x.group.txg + 1
    → (t1 → IfSome y.last (λ u. (mid : World) × WritesIntoFree x w1 mid × IsShownFrom n1 x u mid w2)) → EndsGroup reset x.space y.space → y.group.objects ≡ []
    → (IsSeen t1 w1.now.seen x → IfSome y.last (λ u. HasHead w2.now.seen y u.root u.len)) → (IsSeen t1 w1.now.seen x → IfSome y.last (λ u. HasSafeHead w2.now.seen y u.root u.len))
    → (HasTrees Had t1 w1.now.seen x → HasTrees Recorded t2 w2.now.seen y) → (HasTrees Had t1 w1.now.seen x → IfSome y.last (λ u. TellsMoves w2.now.seen y u.root u.len)) → (t1 → KeepsCopies w1 w2 x y) → HoldsObjects t1 w1.now.seen x objects → HoldsObjects t2 w2.now.seen y objects → EndsCommitted n1 reset x y objects w1 w2
ends_by {t1 = t1} {t2 = t2} {x = x} {y = y} {objects = objects} {w1 = w1} {w2 = w2} sizes ready same last txg written ends empty stands safe trees moves copies before behind =
    let seen : IsSeen t1 w1.now.seen x = record { told = before.held.told; read = before.held.read } in
    record {
      pool = subst (λ (n : List ℕ). IsOpen n y) sizes ready;
      same = same;
      last = last;
      txg = txg;
      written = written before.held.told;
      ends = ends;
      empty = empty;
      stands = stands seen;
      safe = safe seen;
      stays = untold t2 w2.now.seen y objects behind;
      copies = copies before.held.told;
      moves = λ h. moves (trees_told Had (Unit {0}) t1 w1.now.seen x before.held.told h);
      trees = λ h. trees_told Recorded t2 (Unit {0}) w2.now.seen y tt (trees (trees_told Had (Unit {0}) t1 w1.now.seen x before.held.told h));
    }

-- the pool's own head is one with its directory
pub own_directory : (disks : List (List ℕ)) (pool : OpenPool) (root : Ptr) (len : ℕ) → HasHead disks pool root len → HasDirectory disks pool root len
own_directory disks pool root len has = record { head = head_of pool; lawful = has.lawful; same = refl; stands = has.stands }
