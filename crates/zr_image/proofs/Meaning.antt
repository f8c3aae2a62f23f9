-- A root means the same pool by other disks on which its blocks have their bytes.
use Rattle.std.proofs.Common.{◌≡◌, ◌≢◌, ◌<◌, ◌/◌, ◌%◌, ℕ, zero, suc, inl, inr, List, [], ◌∷◌, ◌++◌, Option, Some, None, Bool, refl, sym, ap, subst, ◌∙◌, arith, Ok}
use Rattle.std.specs.Prelude.{slice_index_or}
use Rattle.std.specs.List.{Contains}
use Rattle.std.specs.FinMap as map
use Rattle.std.proofs.lemmas.List.Elements.{Contains-append_left, Contains-append_right}
use Rattle.sha2.specs.Sha256.{sha256}
use Rattle.zr_bptr.specs.declared.Bptr.{Bptr}
use Rattle.zr_bptr.specs.declared.Ptr.{Ptr}
use Rattle.zr_bptr.specs.declared.Ptr.TheVariants.{Hole, At}
use Rattle.zr_bptr.specs.declared.ObjRec.{ObjRec}
use Rattle.zr_bptr.specs.declared.Tree.{Tree}
use Rattle.zr_store.specs.Store.{Stored, hits, one_at}
use Rattle.zr_tree.specs.Trees.{tree_at, tree_leaves, tree_reach, own}
use Rattle.zr_tree.proofs.Frames.{first_of}
use Rattle.zr_tree.proofs.Others.{keeps}
use Rattle.zr_objset.specs.Records.{record_in, record_of}
use Rattle.zr_objset.proofs.Keeping.{same_record, same_block}
use Rattle.zr_objset.proofs.Spelled.{spelled}
use Rattle.zr_objset.proofs.Within.{blocks_within, leaf_within}
use Rattle.zr_model.specs.Objects.{Object, Objects}
use Rattle.zr_image.specs.Checks.{Each}
use Rattle.zr_view.specs.Views.{View}
use Rattle.zr_image.specs.Reading.{content, store_of}
use Rattle.zr_image.specs.Roots.{ReadsRecords, WalksObject, WalksAll, block_setting}
use Rattle.zr_image.specs.StateOf.{IsLost, IsObject, IsObjectOf, AreObjects}
use Rattle.zr_image.proofs.Leaves.{leaf_among}
use Rattle.zr_image.proofs.Opening.{SameAt, hits_within, object_grows}
use Rattle.zr_image.proofs.Reaching.{reach_hits}
use Rattle.zr_image.proofs.Walking.{Within, given, each_grows}

-- ---- one object

module _ (s t : Stored) (r : ObjRec) (agree : (b : Bptr) → 0 < hits (tree_reach s r.tree) b.at → t.bytes b ≡ s.bytes b) where
  leaf_at_same : (i : ℕ) → tree_at t r.tree i ≡ tree_at s r.tree i
  leaf_at_same i = (keeps s t r.tree (λ b met. let w = blocks_within s r.tree (one_at b.at) in agree b (omega (arith, w, met)))).leaves i

  lost_here : (i : ℕ) (p : Ptr) → tree_at s r.tree i ≡ p → IsLost t p → IsLost s p
  lost_here i Hole is lost = lost
  lost_here i (At q) is lost =
      let w = leaf_within s r.tree i (one_at q.at) in
      let e = ap (λ (p : Ptr). hits (own p) q.at) is in
      subst (λ (bytes : List ℕ). sha256 bytes ≢ q.sum) (agree q (omega (arith, w, e, first_of q []))) lost

  kept_here : (i : ℕ) (p : Ptr) → tree_at s r.tree i ≡ p → IsLost s p → IsLost t p
  kept_here i Hole is lost = lost
  kept_here i (At q) is lost =
      let w = leaf_within s r.tree i (one_at q.at) in
      let e = ap (λ (p : Ptr). hits (own p) q.at) is in
      subst (λ (bytes : List ℕ). sha256 bytes ≢ q.sum) (sym (agree q (omega (arith, w, e, first_of q [])))) lost

  lost_back : (i : ℕ) → IsLost t (tree_at t r.tree i) → IsLost s (tree_at s r.tree i)
  lost_back i lost = lost_here i (tree_at s r.tree i) refl (subst (λ (p : Ptr). IsLost t p) (leaf_at_same i) lost)

  lost_on : (i : ℕ) → IsLost s (tree_at s r.tree i) → IsLost t (tree_at t r.tree i)
  lost_on i lost = subst (λ (p : Ptr). IsLost t p) (sym (leaf_at_same i)) (kept_here i (tree_at s r.tree i) refl lost)

  pub object_same : (o : Object) → IsObject s r o → IsObject t r o
  object_same o is = record {
    units = is.units;
    lost_are = λ i. (λ among. lost_on i ((is.lost_are i).0 among), λ lost. (is.lost_are i).1 (lost_back i lost));
    blocks = λ i there. is.blocks i (λ lost. there (lost_on i lost)) ∙ sym (same_block s t r i (record { same = agree }));
    lost = λ i lost. is.lost i (lost_back i lost);
    nonzero = is.nonzero;
  }

-- ---- the records that were read

some_in : (xs : List (Option ObjRec)) (k : ℕ) (r : ObjRec) → slice_index_or xs k None ≡ Some r → Contains xs (Some r)
some_in [] k r is = absurd (cc)
some_in (x ∷ xs) zero r is = (0, omega arith, is)
some_in (x ∷ xs) (suc k) r is = Contains-append_right (x ∷ []) xs (Some r) (some_in xs k r is)

module _ (v : View) where
  records_grow : (b : Bptr) (before after : List (Option ObjRec)) → ReadsRecords v b before (Ok after) → Within before after
  records_grow b before after (inl (done, read, inl (records, leaf, is))) = λ x has. subst (λ (rs : List (Option ObjRec)). Contains rs x) (sym (given (before ++ records) after is)) (Contains-append_left before records x has)
  records_grow b before after (inl (done, read, inr (r, told, is))) = absurd (cc)
  records_grow b before after (inr (r, told, is)) = absurd (cc)

  record_told : (b : Bptr) (before after : List (Option ObjRec)) → ReadsRecords v b before (Ok after) → (place : ℕ) (r : ObjRec) → record_in (store_of v) (At b) place ≡ Some r → Contains after (Some r)
  record_told b before after (inl (done, read, inl (records, leaf, is))) place r found =
      let e = ap (λ (rs : List (Option ObjRec)). slice_index_or rs place None) (spelled (content v b) records leaf.spelled) in
      subst (λ (rs : List (Option ObjRec)). Contains rs (Some r)) (sym (given (before ++ records) after is)) (Contains-append_right before records (Some r) (some_in records place r (sym e ∙ found)))
  record_told b before after (inl (done, read, inr (x, told, is))) place r found = absurd (cc)
  record_told b before after (inr (x, told, is)) place r found = absurd (cc)

  all_told : (bs : List Bptr) (before after : List (Option ObjRec)) → Each (ReadsRecords v) bs before (Ok after) → (b : Bptr) → Contains bs b → (place : ℕ) (r : ObjRec) → record_in (store_of v) (At b) place ≡ Some r → Contains after (Some r)
  all_told [] before after is b (k, lt, at) place r found = absurd (omega (arith, lt))
  all_told (x ∷ xs) before after (inl (mid, first, rest)) b (zero, lt, at) place r found =
      each_grows (ReadsRecords v) (ReadsRecords v) Within (λ rs y has. has) (λ q s t f g y has. g y (f y has)) records_grow xs mid after rest (Some r)
      (record_told x before mid first place r (subst (λ (q : Bptr). record_in (store_of v) (At q) place ≡ Some r) (sym at) found))
  all_told (x ∷ xs) before after (inl (mid, first, rest)) b (suc k, lt, at) place r found = all_told xs mid after rest b (k, omega (arith, lt), at) place r found
  all_told (x ∷ xs) before after (inr (y, told, is)) b has place r found = absurd (cc)

  record_read : (dir : Tree) (records : List (Option ObjRec)) → Each (ReadsRecords v) (tree_leaves (store_of v) dir) [] (Ok records) → (id : ℕ) (r : ObjRec) → record_of (store_of v) dir id ≡ Some r → Contains records (Some r)
  record_read dir records each id r found = at_leaf (tree_at (store_of v) dir (id / 16)) refl found
    where
      at_leaf : (p : Ptr) → tree_at (store_of v) dir (id / 16) ≡ p → record_in (store_of v) p (id % 16) ≡ Some r → Contains records (Some r)
      at_leaf Hole is here = absurd (cc)
      at_leaf (At q) is here = all_told (tree_leaves (store_of v) dir) [] records each q (leaf_among (store_of v) dir (id / 16) q is) (id % 16) r here

  -- ---- the objects that were walked

  module _ (may_be : ℕ → ℕ → Bool) (txg : ℕ) where
    walked_hits : (disks : List (List ℕ)) (xs : List (Option ObjRec)) (marks live : List Bptr) → Each (WalksObject v may_be txg) xs marks (Ok live)
        → (r : ObjRec) → Contains xs (Some r) → (b : Bptr) → 0 < hits (tree_reach (store_of v) r.tree) b.at → 0 < hits live b.at
    walked_hits disks [] marks live is r (k, lt, at) b met = absurd (omega (arith, lt))
    walked_hits disks (x ∷ xs) marks live (inl (mid, first, rest)) r (zero, lt, at) b met =
        let walk = subst (λ (y : Option ObjRec). WalksObject v may_be txg y marks (Ok mid)) at first in
        hits_within mid live b.at (each_grows (WalksObject v may_be txg) (WalksObject v may_be txg) Within (λ s y has. has) (λ q s t f g y has. g y (f y has)) (object_grows v disks may_be txg) xs mid live rest)
        (reach_hits (block_setting v may_be txg r.units _) r.tree.height 0 r.tree.root marks mid walk b met)
    walked_hits disks (x ∷ xs) marks live (inl (mid, first, rest)) r (suc k, lt, at) b met = walked_hits disks xs mid live rest r (k, omega (arith, lt), at) b met
    walked_hits disks (x ∷ xs) marks live (inr (y, told, is)) r has b met = absurd (cc)

    module _ (disks : List (List ℕ)) where
      abbrev w : View
      w = record v { disks = disks }

      pub objects_same : (dir : Tree) (live : List Bptr) (objects : Objects) → SameAt v w live → WalksAll v may_be txg dir (Ok live) → AreObjects (store_of v) dir objects → AreObjects (store_of w) dir objects
      objects_same dir live objects same (inl (marks, walk, inl (records, each, rest))) are = λ id. subst (λ (x : Option ObjRec). IsObjectOf (store_of w) x (map.get objects id)) (sym (record_here id)) (moved id (record_of (store_of v) dir id) refl (map.get objects id) (are id))
        where
          within : Within marks live
          within = each_grows (WalksObject v may_be txg) (WalksObject v may_be txg) Within (λ s y has. has) (λ q s t f g y has. g y (f y has)) (object_grows v disks may_be txg) records marks live rest

          agrees : (b : Bptr) → 0 < hits (tree_reach (store_of v) dir) b.at → content w b ≡ content v b
          agrees b met = same b (hits_within marks live b.at within (reach_hits (block_setting v may_be txg 1 4096) dir.height 0 dir.root [] marks walk b met))

          record_here : (id : ℕ) → record_of (store_of w) dir id ≡ record_of (store_of v) dir id
          record_here id = same_record (store_of v) (store_of w) dir id (record { same = agrees })

          moved : (id : ℕ) (x : Option ObjRec) → record_of (store_of v) dir id ≡ x → (found : Option Object) → IsObjectOf (store_of v) x found → IsObjectOf (store_of w) x found
          moved id None is found of = of
          moved id (Some r) is None of = of
          moved id (Some r) is (Some o) of = object_same (store_of v) (store_of w) r (λ b met. same b (walked_hits disks records marks live rest r (record_read dir records each id r is) b met)) o of
      objects_same dir live objects same (inl (marks, walk, inr (r, told, is))) are = absurd (cc)
      objects_same dir live objects same (inr (r, told, is)) are = absurd (cc)
