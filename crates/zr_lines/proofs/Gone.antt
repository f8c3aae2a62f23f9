-- A drop at the level of objects.
use Rattle.std.proofs.Common.{◌≡◌, ◌<◌, ℕ, List, [], Some, None, Result, Ok, Err, sym, subst}
use Rattle.std.specs.Prelude.{OnOk}
use Rattle.std.specs.FinMap as map
use Rattle.zr_bptr.specs.declared.Bptr.{Bptr}
use Rattle.zr_bptr.specs.declared.Tree.{Tree}
use Rattle.zr_txg.specs.Changes.{Changes}
use Rattle.zr_lookup.specs.Objects.{record_now, AreObjectBlocks}
use Rattle.zr_held.proofs.Same.{same}
use Rattle.zr_change.specs.Changes.{SetsObject}
use Rattle.zr_store.specs.Store.{Now, Swaps}
use Rattle.zr_model.specs.Objects.{Objects}
use Rattle.zr_held.specs.Steps.{IsObjectOf}
use Rattle.zr_held.proofs.Again.{found_again, blocks_again}
use Rattle.zr_held.proofs.Dropping.{drop_stored, dropped}
use Rattle.zr_held.proofs.Reading.{object_of}
use Rattle.zr_sync.specs.Holds.{HasBlocks}
use Rattle.zr_sync.specs.Objects.{account_of, HoldsObjects}
use Rattle.zr_sync.specs.declared.fault.Fault.{Fault}
use Rattle.zr_sync.specs.declared.open.OpenPool.{OpenPool}
use Rattle.zr_lines.specs.Drops.{AreBlocksOf, GivesUp}

-- its blocks were found, the same pointers are stored behind that, and then they went
pub gone_of : {t1 t2 : Type 0} {d1 d2 : List (List ℕ)} (t3 : Type 0) (d3 : List (List ℕ)) (x y z : OpenPool) (objects : Objects) (id : ℕ) (blocks : List Bptr) (r : Result (Unit {0}) Fault) → id < 65536
    → y.dir ≡ x.dir → y.group ≡ x.group → z.dir ≡ y.dir → (h : HoldsObjects t1 d1 x objects) → AreBlocksOf h.stored x.dir x.group id blocks
    → Now (HasBlocks t2 d2 y) (λ n. Swaps h.stored n [] []) → OnOk r (SetsObject id None y.group z.group) → OnOk r (GivesUp blocks t2 d2 y t3 d3 z)
    → OnOk r (IsObjectOf objects id (λ o. HoldsObjects t3 d3 z (map.remove objects id)))
gone_of t3 d3 x y z objects id blocks (Err e) low dir group next h are now sets gives = tt
gone_of t3 d3 x y z objects id blocks (Ok done) low dir group next h are now sets gives =
    let n = now.stored in
    let r = are.object in
    let here = same h.stored n (account_of x) (account_of y) objects now.is dir group h.has in
    let found_x = found_again h.stored n (account_of x) objects id r now.is h.has are.found in
    let found = subst (λ (t : Tree). record_now n t y.group id ≡ Some r) (sym dir) (subst (λ (g : Changes). record_now n x.dir g id ≡ Some r) (sym group) found_x) in
    let blocks_are = subst (λ (g : Changes). AreObjectBlocks n g id r blocks) (sym group) (blocks_again h.stored n (account_of x) objects id r now.is h.has are.found blocks are.blocks_are) in
    let went = gives n now.held (drop_stored n (account_of y) objects id r blocks here found blocks_are) in
    let o = object_of n (account_of y) objects id r here found in (
      o.0,
      o.1,
      record {
        stored = went.stored;
        held = went.held;
        has = dropped n went.stored (account_of y) (account_of z) objects id r blocks low next found blocks_are sets went.is went.held.alone here;
      },
    )
