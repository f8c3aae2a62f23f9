-- Addresses that a walk over objects adds.
use Rattle.std.proofs.Common.{◌≡◌, ℕ, ◌+◌, List, [], ◌++◌, Option, ◌∙◌, sym, ap, subst}
use Rattle.std.proofs.lemmas.List.{map-append, append_assoc, append-nil}
use Rattle.zr_base.specs.declared.space.Dva.{Dva}
use Rattle.zr_bptr.specs.declared.Bptr.{Bptr}
use Rattle.zr_bptr.specs.declared.Tree.{Tree}
use Rattle.zr_bptr.specs.declared.ObjRec.{ObjRec}
use Rattle.zr_lookup.specs.Objects.{record_now}
use Rattle.zr_tree.specs.Trees.{tree_reach}
use Rattle.zr_store.specs.Store.{Stored}
use Rattle.zr_txg.specs.Changes.{Changes}
use Rattle.zr_vdev.specs.Stores.{addresses_of}
use Rattle.zr_tables.specs.Walks.{AreBlocksOf, AreMetBelow}
use Rattle.zr_tables.specs.Walks.AreBlocksBelow.{none_below, one_more}

-- nothing is below the first ID
pub first_of : (s : Stored) (dir : Tree) (g : Changes) (own : List Bptr) (old new : List Dva) → own ≡ tree_reach s dir → old ≡ [] → new ≡ old ++ addresses_of own
    → AreMetBelow s dir g 0 new
first_of s dir g own old new is none after = record {
  blocks = [];
  of_objects = none_below;
  all = after ∙ (rw none rw is (ap addresses_of (sym (append-nil (tree_reach s dir)))));
}

-- and then come the blocks of the next object
pub next_of : (s : Stored) (dir : Tree) (g : Changes) (id : ℕ) (object : Option ObjRec) (old new : List Dva) → AreMetBelow s dir g id old → object ≡ record_now s dir g id
    → ((own : List Bptr) × AreBlocksOf s g id object own × (new ≡ old ++ addresses_of own)) → AreMetBelow s dir g (id + 1) new
next_of s dir g id object old new before is more =
    let own = more.0 in
    let reach = tree_reach s dir in record {
      blocks = before.blocks ++ own;
      of_objects = one_more id before.blocks own before.of_objects (subst (λ (r : Option ObjRec). AreBlocksOf s g id r own) is more.1);
      all = more.2 ∙ (ap (λ (xs : List Dva). xs ++ addresses_of own) before.all
          ∙ (sym (map-append (λ (b : Bptr). b.at) (reach ++ before.blocks) own) ∙ ap addresses_of (append_assoc reach before.blocks own)));
    }
