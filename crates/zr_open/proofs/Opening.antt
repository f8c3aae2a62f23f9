-- The pool of a root is one that is open.
use Rattle.std.proofs.Common.{◌≡◌, inl, inr, ◌⊎◌, ℕ, ◌+◌, ◌≤◌, List, length, take, Option, Some, sym, ◌∙◌, ap, subst, arith}
use Rattle.std.specs.Prelude.{IfSome, All, slice_index, slice_index_or}
use Rattle.std.specs.List.{AllByRecursion}
use Rattle.std.specs.Int.{div_ceil}
use Rattle.std.proofs.lemmas.Bool.{cases_eq}
use Rattle.zr_base.specs.Trees.{IsHeight}
use Rattle.zr_base.specs.declared.space.DevRow.{DevRow}
use Rattle.zr_bptr.specs.Spelling.{IsTree, IsOfLevel}
use Rattle.zr_bptr.specs.declared.Ptr.{Ptr}
use Rattle.zr_bptr.specs.declared.Ptr.TheVariants.{Hole, At}
use Rattle.zr_label.specs.Geometry.{units_of_size}
use Rattle.zr_label.specs.Blocks.{IsUber, IsName, IsMetaRoot, is_row, no_row}
use Rattle.zr_label.specs.declared.root.Uber.{Uber}
use Rattle.zr_lookup.specs.Groups.{IsChangeOf}
use Rattle.zr_meta.specs.Heads.{IsHead, IsRootOf, IsSaved}
use Rattle.zr_meta.specs.declared.Head.{Head}
use Rattle.zr_meta.proofs.Fronts.{root_lawful}
use Rattle.zr_image.specs.Roots.{head_tree, rows_of}
use Rattle.zr_txg.specs.Changes.{ObjectChange, block_count}
use Rattle.zr_sync.specs.Pools.{AreCondStreams, AreStreams, AreRows, IsAfter, IsCheckpoint, IsDirectory, IsOpen, saved_block}
use Rattle.zr_sync.specs.declared.open.OpenPool.{OpenPool}
use Rattle.zr_roots.specs.Devices.{HasItsDisks}
use Rattle.zr_open.specs.Opened.{IsFresh, IsSpaceOf}
use Rattle.zr_roots.proofs.Rows.{list_all_of, mounted_rows, row_later}

one_height : (n a b : ℕ) → IsHeight n a → IsHeight n b → a ≡ b
one_height n a b p q = let one = p.least b q.reaches in let other = q.least a p.reaches in omega (arith, one, other)

-- the tree of the root's metadata
pub root_tree : (len height : ℕ) (root : Ptr) → IsMetaRoot root len → IsHeight (div_ceil len 4096) height → IsTree (record { root = root; height = height })
root_tree len height Hole meta tall = absurd meta
root_tree len height (At b) meta tall =
    let same = one_height (div_ceil len 4096) b.level height meta.2 tall in
    let low = meta.0.level in
    record { lawful = meta.0; level = same; low = omega (arith, same, low) }

of_level : (height : ℕ) (p : Ptr) → IsRootOf height p → IsOfLevel height p
of_level height Hole h = tt
of_level height (At b) h = h.0

-- the tree of the head of a root
pub head_lawful : (u : Uber) → IsUber u → IsTree (head_tree u)
head_lawful u is = by_root u.root is.root
  where
    by_root : (root : Ptr) → IsMetaRoot root u.len → IsTree (head_tree (record u { root = root }))
    by_root Hole meta = absurd meta
    by_root (At b) meta = root_tree u.len b.level (At b) meta meta.2

-- the directory of a head
pub directory : (rows : List DevRow) (h : Head) → IsHead rows h → IsDirectory h.dir
directory rows h is = record {
  tree = record { lawful = root_lawful h.dir.height h.dir.root is.dir; level = of_level h.dir.height h.dir.root is.dir; low = let low = is.low in omega (arith, low) };
  low = is.low;
  unit = is.dir;
}

-- the rows of the root are those of the group behind it
rows_are : (u : Uber) → IsUber u → AreRows u.version (u.txg + 1) u.count u.rows
rows_are u is = record {
  size = is.table.size;
  devices = list_all_of (is_row u.version u.txg) (is_row u.version (u.txg + 1)) (row_later u.version u.txg) (take u.count u.rows) is.table.devices;
  on = λ some. is.table.on;
  rest = is.table.rest;
}

either_version : (n : ℕ) → 1 ≤ n → n ≤ 2 → (n ≡ 1) ⊎ (n ≡ 2)
either_version n lo hi = elim (cases_eq n 1) [ inl one ↦ inl one | inr other ↦ inr (omega (arith, lo, hi, other)) ]

module _ (sizes : List ℕ) (u : Uber) (h : Head) (pool : OpenPool) (is : IsUber u) (head : IsHead (rows_of u) h) (disks : HasItsDisks sizes pool.table.slots u) (long : length pool.table.slots ≡ 32)
    (space : IsSpaceOf u pool.space) (fresh : IsFresh u pool) (dir : pool.dir ≡ h.dir) (root : IsTree pool.head) (streams : All AreStreams pool.streams.items) (four : length pool.streams.items ≡ u.count) (cond : AreCondStreams pool.cond) (turned : length pool.turned ≡ 32) (saved : IsSaved pool.space.parts.ckpt (saved_block pool.saved)) (checkpoint : IfSome pool.saved IsCheckpoint) where
  table_is : AreRows pool.version pool.group.txg pool.table.count pool.table.rows
  table_is =
      subst (λ (v : ℕ). AreRows v pool.group.txg pool.table.count pool.table.rows) (sym fresh.version)
      (subst (λ (t : ℕ). AreRows u.version t pool.table.count pool.table.rows) (sym fresh.txg)
      (subst (λ (n : ℕ). AreRows u.version (u.txg + 1) n pool.table.rows) (sym fresh.count)
      (subst (λ (rows : List DevRow). AreRows u.version (u.txg + 1) u.count rows) (sym fresh.rows) (rows_are u is))))

  pub is_open : IsOpen sizes pool
  is_open = record {
    version = let v = fresh.version in let lo = is.head.oldest in let hi = is.head.newest in either_version pool.version (omega (arith, v, lo)) (omega (arith, v, hi));
    guid = let g = fresh.guid in let some = is.head.guid in omega (arith, g, some);
    name = subst IsName (sym fresh.name) is.name;
    some = let n = fresh.count in let some = is.head.some in omega (arith, n, some);
    few = let n = fresh.count in let few = is.head.devices in omega (arith, n, few);
    table = table_is;
    slots = long;
    first = let t = fresh.txg in omega (arith, t);
    after = subst (λ (o : Option Uber). IsAfter o pool.group.txg) (sym fresh.last) (is, fresh.txg);
    group = subst (λ (os : List (ℕ × ObjectChange)). AllByRecursion IsChangeOf os) (sym fresh.empty) tt;
    limits = record {
      blocks = subst (λ (os : List (ℕ × ObjectChange)). block_count os ≤ 64) (sym fresh.empty) (omega arith);
      objects = subst (λ (os : List (ℕ × ObjectChange)). length os ≤ 64) (sym fresh.empty) (omega arith);
    };
    dir = subst IsDirectory (sym dir) (directory (rows_of u) h head);
    head = root;
    streams = streams;
    count = four ∙ sym fresh.count;
    cond = cond;
    turned = turned;
    saved = saved;
    checkpoint = checkpoint;
    spelled = space.version ∙ sym fresh.version;
    devices = space.rows.count ∙ sym fresh.count;
    rows = λ d lt. space.rows.each d (let n = fresh.count in omega (arith, n, lt)) ∙ ap (λ (rows : List DevRow). row_in rows d) (sym fresh.rows);
    lawful = space.lawful;
    mounted = mounted_rows u is sizes pool.table.slots pool.space disks space.rows;
    disks = λ d slot lt at. subst (λ (rows : List DevRow). units_of_size (slice_index sizes slot) 2 ≡ Some (row_in rows d).units) (sym fresh.rows) (disks.sized d slot (let n = fresh.count in omega (arith, n, lt)) at);
  }
    where
      row_in : List DevRow → ℕ → DevRow
      row_in rows d = slice_index_or rows d no_row
