-- What changes behind the trees of the devices: those of the condensing, and the head.
use Rattle.std.proofs.Common.{◌≡◌, ◌∙◌, ℕ, ◌<◌, List, [], ◌∷◌, ◌++◌, Option, None, length, refl, sym, ap, subst}
use Rattle.std.specs.Prelude.{All, IfOk, OnOk, Result, Ok, Err, slice_index_or}
use Rattle.std.proofs.lemmas.List.{append-nil, append_assoc}
use Rattle.std.proofs.lemmas.List.Elements.{All-nil, All-cons}
use Rattle.zr_base.specs.declared.space.Dva.{Dva}
use Rattle.zr_beside.specs.Beside.{Standing, StandBeside, Stands, blocks_of, of_tree, rows_of}
use Rattle.zr_beside.proofs.Beside.{one_stored, others}
use Rattle.zr_bptr.specs.declared.Bptr.{Bptr}
use Rattle.zr_bptr.specs.declared.Tree.{Tree}
use Rattle.zr_cache.specs.declared.table.Cache.{Cache}
use Rattle.zr_root.specs.Streams.{StoresBytes}
use Rattle.zr_rules.specs.Space.{Space}
use Rattle.zr_store.specs.Store.{AreStored, Stored, Now, Swaps}
use Rattle.zr_tree.specs.Trees.{tree_reach}
use Rattle.zr_vdev.specs.Stores.{HoldsBlocks, KeepsOthers, WaitsStill}
use Rattle.zr_vdev.specs.declared.kind.Kind.{Kind}
use Rattle.zr_vdev.specs.declared.kind.Kind.TheVariants.{Meta}
use Rattle.zr_sync.specs.Empty.{no_streams}
use Rattle.zr_sync.specs.Mappings.{cond_stream}
use Rattle.zr_sync.specs.Streams.{HasMeta, streams_at}
use Rattle.zr_sync.specs.Trees.{Place, Stage, HasNoLateYet, HoldsStreams, IsAt, IsCondAt, cond_trees, device_trees, stream_in}
use Rattle.zr_sync.specs.declared.mappings.MappingStream.{MappingStream}
use Rattle.zr_sync.specs.declared.open.CondStreams.{CondStreams}
use Rattle.zr_sync.specs.declared.open.DeviceStreams.{DeviceStreams}
use Rattle.zr_sync.specs.declared.open.OpenPool.{OpenPool}
use Rattle.zr_sync.proofs.Stages.{IsSameFrame, alike_still, alike_yet, at_stays, cond_stays}

-- ---- what a call answers

pub both_weaker : {T E : Type 0} {P : Type 0} {Q R : T → Type 0} (r : Result T E) → ((x : T) → P → Q x → R x) → OnOk r P → IfOk r Q → IfOk r R
both_weaker (Ok x) goes p q = goes x p q
both_weaker (Err e) goes p q = tt

-- ---- a store behind which nothing was lost

pub now_lost : {kind : Kind} {slots : List (Option ℕ)} {tells : Type 0} {disks : List (List ℕ)} {space : Space} {lost : Option Dva} {cache : Cache} {is : Stored → Type 0} → lost ≡ None → Now (HoldsBlocks kind slots tells disks space lost cache) is → Now (HoldsBlocks kind slots tells disks space None cache) is
now_lost {kind} {slots} {tells} {disks} {space} {lost} {cache} {is} none before = record {
  stored = before.stored;
  held = subst (λ (at : Option Dva). HoldsBlocks kind slots tells disks space at cache before.stored) none before.held;
  is = before.is;
}

-- ---- behind the rows of the devices

-- the trees of all devices
abbrev pub rows_in : OpenPool → (ℕ → Place → List ℕ) → List Standing
rows_in x w = rows_of (λ dev. device_trees (streams_at x dev) (w dev)) x.table.count

-- Trees come in the place of others, behind those of the devices.
module _ (stage : ℕ → Place → Stage) (cond next : MappingStream → Stage) (old_others new_others : List Standing) (t1 t2 : Type 0) (d1 d2 : List (List ℕ)) (x y : OpenPool) (h : HoldsStreams stage cond old_others t1 d1 x) (count : y.table.count ≡ x.table.count) (streams : y.streams.items ≡ x.streams.items)
    (v : MappingStream → List ℕ) (first gone came last : List Standing) (old : cond_trees x.cond h.cond ++ old_others ≡ first ++ (gone ++ last)) (new : cond_trees y.cond v ++ new_others ≡ first ++ (came ++ last)) (n : Stored) (held : HasMeta t2 d2 y n) (swaps : Swaps h.stored n (blocks_of h.stored gone) (blocks_of n came)) (stand : All (Stands n) came)
    (counts : (which : MappingStream) → length (v which) ≡ (cond_stream which y.cond).words) (are : (e : ℕ) (p : Place) (ws : List ℕ) → e < x.table.count → IsAt (stage e p) x e p ws → IsAt (stage e p) y e p ws) (cond_are : (which : MappingStream) → IsCondAt (next which) y which (v which)) where
  was_beside : StandBeside h.stored ((rows_in x h.words ++ first) ++ (gone ++ last))
  was_beside = subst (λ (all : List Standing). StandBeside h.stored all) (ap (λ (xs : List Standing). rows_in x h.words ++ xs) old ∙ sym (append_assoc (rows_in x h.words) first (gone ++ last))) h.beside

  is_beside : StandBeside n (rows_in x h.words ++ (cond_trees y.cond v ++ new_others))
  is_beside =
      subst (λ (all : List Standing). StandBeside n all) (append_assoc (rows_in x h.words) first (came ++ last) ∙ ap (λ (xs : List Standing). rows_in x h.words ++ xs) (sym new))
      (others h.stored n (rows_in x h.words ++ first) gone came last was_beside swaps held.alone stand)

  now_beside : StandBeside n (rows_in y h.words ++ (cond_trees y.cond v ++ new_others))
  now_beside =
      subst (λ (k : ℕ). StandBeside n (rows_of (λ dev. device_trees (streams_at y dev) (h.words dev)) k ++ (cond_trees y.cond v ++ new_others))) (sym count)
      (subst (λ (ts : List DeviceStreams). StandBeside n (rows_of (λ dev. device_trees (slice_index_or ts dev no_streams) (h.words dev)) x.table.count ++ (cond_trees y.cond v ++ new_others))) (sym streams) is_beside)

  pub behind_changed : HoldsStreams stage next new_others t2 d2 y
  behind_changed = record {
    stored = n;
    held = held;
    words = h.words;
    cond = v;
    beside = now_beside;
    counts = λ e p lt. h.counts e p (subst (λ (k : ℕ). e < k) count lt) ∙ ap (λ (ts : List DeviceStreams). (stream_in p (slice_index_or ts e no_streams)).words) (sym streams);
    cond_counts = counts;
    are = λ e p lt. let below = subst (λ (k : ℕ). e < k) count lt in are e p (h.words e p) below (h.are e p below);
    are_cond = cond_are;
  }

-- ---- the head

-- the blocks of the head are stored
pub head_is_stored : (stage : ℕ → Place → Stage) (cond : MappingStream → Stage) (tells : Type 0) (disks : List (List ℕ)) (x : OpenPool) (head : Tree) (bytes : List ℕ) (others : List Standing) (h : HoldsStreams stage cond (of_tree head bytes ∷ others) tells disks x) → AreStored (tree_reach h.stored head) h.stored
head_is_stored stage cond tells disks x head bytes others h =
    one_stored h.stored (rows_in x h.words ++ cond_trees x.cond h.cond) others (of_tree head bytes)
    (subst (λ (all : List Standing). StandBeside h.stored all) (sym (append_assoc (rows_in x h.words) (cond_trees x.cond h.cond) (of_tree head bytes ∷ others))) h.beside)

-- The head leaves or comes, and the streams stay.
module _ (stage : ℕ → Place → Stage) (cond : MappingStream → Stage) (t1 t2 : Type 0) (d1 d2 : List (List ℕ)) (x y : OpenPool) (f : IsSameFrame x y) (kept : KeepsOthers Meta x.space y.space) (count : y.table.count ≡ x.table.count) (streams : y.streams.items ≡ x.streams.items) (same : y.cond ≡ x.cond) where
  cond_same : (w : MappingStream → List ℕ) (more : List Standing) → cond_trees y.cond w ++ more ≡ cond_trees x.cond w ++ more
  cond_same w more = ap (λ (t : CondStreams). cond_trees t w ++ more) same

  pub head_given : (bytes : List ℕ) (others : List Standing) (head : Tree) → HasNoLateYet stage → (h : HoldsStreams stage cond (of_tree head bytes ∷ others) t1 d1 x) → Now (HasMeta t2 d2 y) (λ n. Swaps h.stored n (tree_reach h.stored head) []) → HoldsStreams stage cond others t2 d2 y
  head_given bytes others head none h gives =
      behind_changed stage cond cond (of_tree head bytes ∷ others) others t1 t2 d1 d2 x y h count streams h.cond (cond_trees x.cond h.cond) (of_tree head bytes ∷ []) [] others refl (cond_same h.cond others) gives.stored gives.held
      (subst (λ (bs : List Bptr). Swaps h.stored gives.stored bs []) (sym (append-nil (tree_reach h.stored head))) gives.is) (All-nil (Stands gives.stored)) (λ which. h.cond_counts which ∙ ap (λ (t : CondStreams). (cond_stream which t).words) (sym same))
      (λ e p ws lt is. at_stays x y f kept (stage e p) e p ws (alike_yet x y stage none e p) is) (λ which. cond_stays x y kept same (cond which) which (h.cond which) (h.are_cond which))

  pub head_stored : (others : List Standing) (h : HoldsStreams stage cond others t1 d1 x) (n : Stored) → HasMeta t2 d2 y n → WaitsStill x.space y.space → (t : Tree) (bytes : List ℕ) → StoresBytes h.stored n t bytes → HoldsStreams stage cond (of_tree t bytes ∷ others) t2 d2 y
  head_stored others h n held still t bytes stores =
      behind_changed stage cond cond others (of_tree t bytes ∷ others) t1 t2 d1 d2 x y h count streams h.cond (cond_trees x.cond h.cond) [] (of_tree t bytes ∷ []) others refl (cond_same h.cond (of_tree t bytes ∷ others)) n held
      (subst (λ (bs : List Bptr). Swaps h.stored n [] bs) (sym (append-nil (tree_reach n t))) stores.came) (All-cons (Stands n) (of_tree t bytes) [] stores.stands (All-nil (Stands n))) (λ which. h.cond_counts which ∙ ap (λ (c : CondStreams). (cond_stream which c).words) (sym same))
      (λ e p ws lt is. at_stays x y f kept (stage e p) e p ws (alike_still x y f.lawful_old f.lawful kept still (stage e p) p) is) (λ which. cond_stays x y kept same (cond which) which (h.cond which) (h.are_cond which))
