-- The pool that the disks show has the objects that an open pool left there.
use Rattle.std.proofs.Common.{◌≡◌, ◌==◌, ℕ, suc, ◌*◌, ◌-◌, ◌<◌, ◌^◌, List, [], ◌∷◌, ◌++◌, map, length, Option, refl, sym, ◌∙◌, ap, subst, arith}
use Rattle.std.specs.List.{flat_map}
use Rattle.std.proofs.lemmas.List.{append_assoc}
use Rattle.zr_base.specs.Words.{zeros}
use Rattle.zr_base.specs.declared.space.DevRow.{DevRow}
use Rattle.zr_base.specs.declared.space.SpaceParts.{SpaceParts}
use Rattle.zr_bptr.proofs.Spelled.{one_pointer}
use Rattle.zr_bptr.specs.declared.Bptr.{Bptr}
use Rattle.zr_bptr.specs.declared.Ptr.{Ptr}
use Rattle.zr_bptr.specs.declared.Ptr.TheVariants.{At}
use Rattle.zr_bptr.specs.declared.Tree.{Tree}
use Rattle.zr_found.proofs.Alone.{one_meaning}
use Rattle.zr_image.specs.Current.{reset_of, slots_of}
use Rattle.zr_image.specs.Reading.{bare_devices, store_of}
use Rattle.zr_image.specs.Roots as image
use Rattle.zr_image.specs.Roots.{head_tree, rows_of}
use Rattle.zr_image.specs.StateOf.{AreObjects}
use Rattle.zr_import.specs.Words.{ReadsMeta}
use Rattle.zr_label.specs.declared.root.Uber.{Uber}
use Rattle.zr_meta.proofs.Backs as backs
use Rattle.zr_meta.proofs.Fronts.{height_told, root_lawful, root_told}
use Rattle.zr_meta.specs.declared.Head.{Head}
use Rattle.zr_meta.specs.Heads.{IsHead, front_bytes, head_bytes}
use Rattle.zr_model.specs.Objects.{Objects}
use Rattle.zr_model.specs.State.{PoolState}
use Rattle.zr_root.specs.Streams.{HasBytes}
use Rattle.zr_rules.specs.Devices.{devices_of}
use Rattle.zr_rules.specs.Equation.{devices_in}
use Rattle.zr_open.specs.There.{AreThere}
use Rattle.zr_store.specs.Store.{Stored}
use Rattle.zr_sync.specs.Heads.{HasHead, head_of}
use Rattle.zr_sync.specs.Objects.{HoldsObjects}
use Rattle.zr_sync.specs.Pools.{IsOpen}
use Rattle.zr_sync.specs.declared.open.OpenPool.{OpenPool}
use Rattle.zr_tree.specs.Trees.{slot}
use Rattle.zr_vdev.specs.Runs.{view_of}
use Rattle.zr_open.proofs.Left.{counted_rows, head_read, objects_meant, parts_rows, read_image, rows_in}
use Rattle.zr_open.proofs.Views.{store_same}
use Rattle.zr_current.specs.Current.{GoesOnFrom, HasSlots, IsCurrentOn}
use Rattle.zr_roots.specs.Standing.{image_of}
use Rattle.zr_open.specs.Shown.{Shows}

-- ---- one head

-- pointers that are the same at each place
pub leaves_same : (xs ys : List Bptr) → ((i : ℕ) → slot (map At xs) i ≡ slot (map At ys) i) → xs ≡ ys
leaves_same [] [] same = refl
leaves_same [] (y ∷ ys) same = absurd (let e = same 0 in cc)
leaves_same (x ∷ xs) [] same = absurd (let e = same 0 in cc)
leaves_same (x ∷ xs) (y ∷ ys) same =
    let e = same 0 in
    let first : x ≡ y = cc in
    ap (λ (b : Bptr). b ∷ xs) first ∙ ap (λ (bs : List Bptr). y ∷ bs) (leaves_same xs ys (λ i. same (suc i)))

module _ (s : Stored) (t : Tree) (table other : List DevRow) (h k : Head) (lawful : IsHead table h) (also : IsHead other k) (has : HasBytes s t (head_bytes h)) (have : HasBytes s t (head_bytes k)) where
  -- all bytes of the tree's leaves
  abbrev all_bytes : List ℕ
  all_bytes = flat_map s.bytes has.leaves

  one_tree : have.leaves ≡ has.leaves
  one_tree = leaves_same have.leaves has.leaves (λ i. sym (have.are_leaves.places i) ∙ has.are_leaves.places i)

  abbrev behind : Head → ℕ → List ℕ
  behind g n = backs.rest_of g.saved g.cond g.streams ++ zeros n

  front_of : (table : List DevRow) (g : Head) (n : ℕ) → IsHead table g → head_bytes g ++ zeros n ≡ front_bytes g.form g.ckpt g.dir ++ behind g n
  front_of rows g n is =
      ap (λ (bytes : List ℕ). bytes ++ zeros n) (backs.parts rows (head_bytes g) g (record { lawful = is; spelling = refl }))
      ∙ append_assoc (front_bytes g.form g.ckpt g.dir) (backs.rest_of g.saved g.cond g.streams) (zeros n)

  by_one : all_bytes ≡ front_bytes h.form h.ckpt h.dir ++ behind h (4096 * length has.leaves - length (head_bytes h))
  by_one = has.spelling ∙ front_of table h (4096 * length has.leaves - length (head_bytes h)) lawful

  by_other : all_bytes ≡ front_bytes k.form k.ckpt k.dir ++ behind k (4096 * length have.leaves - length (head_bytes k))
  by_other = ap (λ (bs : List Bptr). flat_map s.bytes bs) (sym one_tree) ∙ (have.spelling ∙ front_of other k (4096 * length have.leaves - length (head_bytes k)) also)

  small : (g : Head) (rows : List DevRow) → IsHead rows g → g.dir.height < 2 ^ 32
  small g rows is = let low = is.low in omega (arith, low)

  one_height : h.dir.height ≡ k.dir.height
  one_height = sym (height_told all_bytes h.form h.ckpt h.dir _ (small h table lawful) by_one) ∙ height_told all_bytes k.form k.ckpt k.dir _ (small k other also) by_other

  one_root : h.dir.root ≡ k.dir.root
  one_root =
      one_pointer _ h.dir.root k.dir.root
      (root_told all_bytes h.form h.ckpt h.dir _ (root_lawful h.dir.height h.dir.root lawful.dir) by_one)
      (root_told all_bytes k.form k.ckpt k.dir _ (root_lawful k.dir.height k.dir.root also.dir) by_other)

  -- heads in one tree have one directory
  pub one_directory : h.dir ≡ k.dir
  one_directory = ap (λ (p : Ptr). with_root p h.dir.height) one_root ∙ ap (λ (n : ℕ). with_root k.dir.root n) one_height
    where
      with_root : Ptr → ℕ → Tree
      with_root p n = record { root = p; height = n }

-- ---- what is shown

module _ (paths disks : List (List ℕ)) (sizes : List ℕ) (u : Uber) (pool : OpenPool) (p : PoolState) (ready : IsOpen sizes pool) (on : AreThere (devices_in pool.space)) (from : GoesOnFrom u pool) (k : Head) (dir : k.dir ≡ pool.dir)
    (own : IsHead (rows_of u) k × HasBytes (image_of disks pool.table.slots u) (head_tree u) (head_bytes k)) (shows : Shows paths disks p) (same_root : shows.root.uber ≡ u) (slots : HasSlots (slots_of u shows.seen) pool.table.slots) where
  abbrev root : image.Root
  root = shows.root

  abbrev these : List (Option ℕ)
  these = slots_of u shows.seen

  here : image_of disks pool.table.slots u ≡ image_of disks these u
  here = store_same disks these pool.table.slots (bare_devices u) slots

  read_head : IsHead (rows_of u) root.head
  read_head = subst (λ (v : Uber). IsHead (rows_of v) root.head) same_root shows.stands.head

  reads : ReadsMeta (image_of disks these u) u root.head root.parts
  reads = subst (λ (v : Uber). ReadsMeta (image_of disks (slots_of v shows.seen) v) v root.head root.parts) same_root shows.stands.reads

  objects_are : AreObjects (store_of (record { disks = disks; slots = these; devices = devices_of root.parts.devs })) root.head.dir p.objects
  objects_are = subst (λ (v : Uber). AreObjects (store_of (record { disks = disks; slots = slots_of v shows.seen; devices = devices_of root.parts.devs })) root.head.dir p.objects) same_root shows.means.objects

  same_dir : root.head.dir ≡ pool.dir
  same_dir =
      one_directory (image_of disks pool.table.slots u) (head_tree u) (rows_of u) (rows_of u) root.head k read_head own.0
      (subst (λ (s : Stored). HasBytes s (head_tree u) (head_bytes root.head)) (sym here) reads.head) own.1
      ∙ dir

  rows_are : rows_in root.parts.devs ≡ rows_of u
  rows_are =
      ap (λ (ps : SpaceParts). rows_in ps.devs) reads.counted_is
      ∙ (counted_rows (reset_of u == u.txg) reads.parts ∙ parts_rows u.version root.head.form root.head.ckpt 0 (rows_of u) _ reads.parts.devs reads.spelled.devices)

  -- where a head with the pool's directory is read, the objects that are shown are those of that directory
  pub objects_by_head : AreObjects (store_of (view_of disks pool.table.slots pool.space)) pool.dir p.objects
  objects_by_head =
      subst (λ (t : Tree). AreObjects (store_of (view_of disks pool.table.slots pool.space)) t p.objects) same_dir
      (subst (λ (s : Stored). AreObjects s root.head.dir p.objects)
      (sym (read_image sizes u pool ready on from root.parts.devs rows_are disks ∙ store_same disks these pool.table.slots (devices_of root.parts.devs) slots)) objects_are)

-- so it is with the pool's own head
pub shown_objects : (paths disks : List (List ℕ)) (sizes : List ℕ) (u : Uber) (pool : OpenPool) (p : PoolState) → IsOpen sizes pool → AreThere (devices_in pool.space) → GoesOnFrom u pool → HasHead disks pool u.root u.len → (shows : Shows paths disks p)
    → shows.root.uber ≡ u → HasSlots (slots_of u shows.seen) pool.table.slots → AreObjects (store_of (view_of disks pool.table.slots pool.space)) pool.dir p.objects
shown_objects paths disks sizes u pool p ready on from head shows same_root slots = objects_by_head paths disks sizes u pool p ready on from (head_of pool) refl (head_read sizes u pool ready on from disks head) shows same_root slots

-- and the objects are those that the pool holds
pub shown_is_held : (paths disks : List (List ℕ)) (sizes : List ℕ) (u : Uber) (pool : OpenPool) (objects : Objects) (p : PoolState) → IsOpen sizes pool → AreThere (devices_in pool.space) → GoesOnFrom u pool → pool.group.objects ≡ []
    → IsCurrentOn disks u pool → HasHead disks pool u.root u.len → HoldsObjects (Unit {0}) disks pool objects → Shows paths disks p → p.objects ≡ objects
shown_is_held paths disks sizes u pool objects p ready on from empty only head held shows =
    one_meaning (store_of (view_of disks pool.table.slots pool.space)) pool.dir p.objects objects
    (shown_objects paths disks sizes u pool p ready on from head shows (only.alone shows.seen shows.shown shows.root.uber shows.current) (only.slots shows.seen shows.shown)) (objects_meant (Unit {0}) disks pool objects empty held)
