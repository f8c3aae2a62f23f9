-- Who only reads a pool meets the same blocks as are held, so the units of what it meets add up.
use Rattle.std.proofs.Common.{◌≡◌, ◌∙◌, ◌≤◌, ℕ, false, List, ◌++◌, Option, None, refl, sym, ap, subst, arith}
use Rattle.std.specs.List.{sum_by}
use Rattle.zr_audit.specs.Found.{AreMeta}
use Rattle.zr_base.specs.declared.space.Dva.{Dva}
use Rattle.zr_bptr.specs.declared.Bptr.{Bptr}
use Rattle.zr_bptr.specs.declared.ObjRec.{ObjRec}
use Rattle.zr_held.specs.Held.{AreBlocksNow as AreOwnBlocks, blocks_below}
use Rattle.zr_held.proofs.Frames.{blocks_same}
use Rattle.zr_held.proofs.One.{dir_stored, object_stored}
use Rattle.zr_held.proofs.Same.{record_same}
use Rattle.zr_lookup.specs.Objects.{record_now}
use Rattle.zr_model.specs.Objects.{Objects}
use Rattle.zr_objset.proofs.Keeping.{tree_same}
use Rattle.zr_rules.specs.Equation.{devices_in, live_hits}
use Rattle.zr_rules.specs.Places.{is_leaving, one_if, state_of_dev}
use Rattle.zr_rules.specs.Resolve.{resolve_hits}
use Rattle.zr_rules.specs.Roles.{is_live_role}
use Rattle.zr_rules.specs.Space.{role_at}
use Rattle.zr_store.specs.Store.{Stored, AreStored, one_at}
use Rattle.zr_store.proofs.Meeting.{at_each}
use Rattle.zr_sync.specs.Objects.{HoldsObjects}
use Rattle.zr_sync.specs.declared.open.OpenPool.{OpenPool}
use Rattle.zr_tree.specs.Trees.{tree_reach}
use Rattle.zr_tree.proofs.Frames.{Agree, agree_back}
use Rattle.zr_vdev.specs.Stores.{HoldsRead, IsStoredAt}
use Rattle.zr_vdev.specs.declared.kind.Kind.TheVariants.{Block}
use Rattle.zr_tables.specs.Audits.{AddsUp, metadata_of}
use Rattle.zr_tables.specs.Walks.{AreLiveAddresses}
use Rattle.zr_tables.proofs.Units.{led_once, met_all}

equal : (m n : ℕ) → m ≤ n → n ≤ m → m ≡ n
equal m n le ge = omega (arith, le, ge)

module _ (told told_read : Type 0) (disks : List (List ℕ)) (pool : OpenPool) (objects : Objects) (h : HoldsObjects told disks pool objects) (s : Stored)
    (read : HoldsRead pool.table.slots told_read disks pool.space pool.cache s) where
  -- a block that is held reads as it is held
  agree : (ps : List Bptr) → AreStored ps h.stored → Agree h.stored s ps
  agree ps stored = record {
    same = λ b met.
        let few = stored (one_at b.at) in
        let there = at_each (λ (a : Dva). IsStoredAt Block pool.space None a) h.stored.pointers b.at h.held.stored (omega (arith, few, met)) in
        read.bytes b ∙ sym (h.held.there b there);
  }

  dir_agrees : Agree h.stored s (tree_reach h.stored pool.dir)
  dir_agrees = agree (tree_reach h.stored pool.dir) (dir_stored h.stored pool.dir pool.group h.has.blocks)

  each_read : (id : ℕ) → AreOwnBlocks s pool.group id (record_now s pool.dir pool.group id) (h.has.blocks.blocks id)
  each_read id =
      let reach = tree_reach h.stored pool.dir in
      let own = agree_back h.stored s reach (h.has.blocks.blocks id) (agree (reach ++ h.has.blocks.blocks id) (object_stored h.stored pool.dir pool.group h.has.blocks id)) in
      subst (λ (x : Option ObjRec). AreOwnBlocks s pool.group id x (h.has.blocks.blocks id)) (sym (record_same h.stored s pool.dir pool.group id dir_agrees))
      (blocks_same h.stored s pool.group pool.group id (λ i. refl) (record_now h.stored pool.dir pool.group id) (h.has.blocks.blocks id) own (h.has.blocks.each id))

  all_read : (weight : Bptr → ℕ) → sum_by weight h.stored.pointers ≡ sum_by weight (tree_reach s pool.dir ++ blocks_below h.has.blocks.blocks 65536)
  all_read weight =
      equal _ _ (h.has.blocks.whole 65536 (omega arith) weight) (h.has.blocks.stored 65536 weight)
      ∙ ap (λ (bs : List Bptr). sum_by weight (bs ++ blocks_below h.has.blocks.blocks 65536)) (sym (tree_same h.stored s pool.dir dir_agrees).same_reach)

  pub read_once : (live : List Dva) → AreLiveAddresses s pool.dir pool.group live → (d u : ℕ) → live_hits (devices_in pool.space) live d u ≡ one_if (is_live_role (role_at pool.space d u))
  read_once live are d u =
      ap (sum_by (λ (a : Dva). resolve_hits (devices_in pool.space) a d u)) are.all
      ∙ (met_all s pool.dir pool.group h.has.blocks.blocks each_read 65536 h.stored.pointers all_read are.blocks are.of_objects (λ (a : Dva). resolve_hits (devices_in pool.space) a d u)
      ∙ led_once pool.space h.stored.pointers h.held.stored h.held.once h.held.all d u)

  pub read_adds_up : ((d : ℕ) → is_leaving (state_of_dev pool.space.parts.devs d) ≡ false) → AreMeta pool.space (metadata_of s pool) → AddsUp s pool
  read_adds_up none metadata = record {
    saved = None;
    live = λ live are. record { once = read_once live are; copies = λ d u leaves. absurd (let e = none d in cc); kept = tt };
    metadata = metadata;
  }
