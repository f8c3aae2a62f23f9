-- The blocks that a walk over an open pool meets are those that are stored, so its live units are those to which they lead.
use Rattle.std.proofs.Common.{◌≡◌, ◌∙◌, ◌+◌, ◌<◌, ◌≤◌, ℕ, suc, Bool, true, false, List, [], ◌∷◌, ◌++◌, Option, Some, None, refl, sym, ap, arith, inl, inr}
use Rattle.std.specs.Prelude.{All}
use Rattle.std.specs.List.{sum_by}
use Rattle.std.proofs.lemmas.List.Elements.{All-head, All-tail}
use Rattle.std.proofs.lemmas.List.Sums.{sum_by-cons}
use Rattle.zr_base.specs.declared.space.Dva.{Dva}
use Rattle.zr_bptr.specs.declared.Bptr.{Bptr}
use Rattle.zr_bptr.specs.declared.ObjRec.{ObjRec}
use Rattle.zr_bptr.specs.declared.Tree.{Tree}
use Rattle.zr_held.specs.Held.{AreBlocksNow as AreOwnBlocks, AreAllOf, blocks_below}
use Rattle.zr_held.proofs.Dropping.{one_blocks}
use Rattle.zr_lookup.specs.Objects.{record_now}
use Rattle.zr_moves.specs.Account.{Account}
use Rattle.zr_rules.specs.Equation.{Adds, devices_in, live_hits}
use Rattle.zr_rules.specs.Places.{is_leaving, one_if, state_of_dev}
use Rattle.zr_rules.specs.Resolve.{resolve_hits}
use Rattle.zr_rules.specs.Roles.{is_live_role}
use Rattle.zr_rules.specs.Space.{Space, role_at}
use Rattle.zr_store.specs.Store.{Stored}
use Rattle.zr_sync.specs.Objects.{account_of}
use Rattle.zr_sync.specs.declared.open.OpenPool.{OpenPool}
use Rattle.zr_tree.specs.Trees.{tree_reach}
use Rattle.zr_txg.specs.Changes.{Changes}
use Rattle.zr_vdev.specs.Stores.{IsStoredAt, LeadsToAll, addresses_of}
use Rattle.zr_vdev.specs.declared.kind.Kind.TheVariants.{Block}
use Rattle.zr_vdev.proofs.Leading.{some_leads, zero_or}
use Rattle.zr_vdev.proofs.Uses.{use_roles}
use Rattle.zr_tables.specs.Walks.{AreBlocksBelow, AreBlocksOf, AreLiveAddresses}
use Rattle.zr_tables.specs.Walks.AreBlocksBelow.{none_below, one_more}

-- ---- one list of blocks

-- an object has one list of blocks, and none where it is not there
one_own : (s : Stored) (g : Changes) (id : ℕ) (object : Option ObjRec) (xs ys : List Bptr) → AreBlocksOf s g id object xs → AreOwnBlocks s g id object ys → xs ≡ ys
one_own s g id None xs ys none own = none ∙ sym own.0
one_own s g id (Some r) xs ys are own = one_blocks s g id r xs ys are own

-- so have the objects below an ID
one_below : (s : Stored) (dir : Tree) (g : Changes) (blocks : ℕ → List Bptr) → ((id : ℕ) → AreOwnBlocks s g id (record_now s dir g id) (blocks id))
    → (n : ℕ) (xs : List Bptr) → AreBlocksBelow s dir g n xs → xs ≡ blocks_below blocks n
one_below s dir g blocks each n xs none_below = refl
one_below s dir g blocks each n xs (one_more id front own before are) =
    let e = one_below s dir g blocks each id front before in
    let last = one_own s g id (record_now s dir g id) own (blocks id) are (each id) in
    let next : suc id ≡ id + 1 = omega arith in
    ap (λ (xs : List Bptr). xs ++ own) e ∙ (ap (λ (xs : List Bptr). blocks_below blocks id ++ xs) last ∙ ap (blocks_below blocks) next)

-- a weight of addresses is one of pointers
weight_of : (f : Dva → ℕ) (ps : List Bptr) → sum_by f (addresses_of ps) ≡ sum_by (λ (b : Bptr). f b.at) ps
weight_of f [] = refl
weight_of f (p ∷ ps) =
    let r = weight_of f ps in
    omega (arith, r, sum_by-cons f p.at (addresses_of ps), sum_by-cons (λ (b : Bptr). f b.at) p ps)

-- what a walk meets weighs what the blocks of all objects do
module _ (s : Stored) (dir : Tree) (g : Changes) (blocks : ℕ → List Bptr) (each : (id : ℕ) → AreOwnBlocks s g id (record_now s dir g id) (blocks id)) (top : ℕ)
    (ps : List Bptr) (all : (weight : Bptr → ℕ) → sum_by weight ps ≡ sum_by weight (tree_reach s dir ++ blocks_below blocks top)) where
  pub met_all : (xs : List Bptr) → AreBlocksBelow s dir g top xs → (f : Dva → ℕ) → sum_by f (addresses_of (tree_reach s dir ++ xs)) ≡ sum_by f (addresses_of ps)
  met_all xs are f =
      ap (λ (bs : List Bptr). sum_by f (addresses_of (tree_reach s dir ++ bs))) (one_below s dir g blocks each top xs are)
      ∙ (weight_of f (tree_reach s dir ++ blocks_below blocks top) ∙ (sym (all (λ (b : Bptr). f b.at)) ∙ sym (weight_of f ps)))

pub walk_is_all : (s : Stored) (a : Account) (live : List Dva) → AreAllOf s a → AreLiveAddresses s a.dir a.changes live → (f : Dva → ℕ) → sum_by f live ≡ sum_by f (addresses_of s.pointers)
walk_is_all s a live all are f = ap (sum_by f) are.all ∙ met_all s a.dir a.changes all.blocks all.each 65536 s.pointers (all.all 65536 (omega arith)) are.blocks are.of_objects f

-- ---- live units

one_where : (live : Bool) (n : ℕ) → n ≤ 1 → (live ≡ true → 0 < n) → (0 < n → live ≡ true) → n ≡ one_if live
one_where true n few some led = let more = some refl in omega (arith, few, more)
one_where false n few some led = elim (zero_or n) [
  | inl none ↦ none
  | inr more ↦ absurd (let e = led more in cc)
]

module _ (s : Space) where
  abbrev Each : Bptr → Type 0
  Each b = IsStoredAt Block s None b.at

  -- a unit to which a block leads is live
  led_live : (ps : List Bptr) → All Each ps → (d u : ℕ) → 0 < live_hits (devices_in s) (addresses_of ps) d u → is_live_role (role_at s d u) ≡ true
  led_live [] all d u some = absurd (omega (arith, some))
  led_live (p ∷ ps) all d u some = elim (zero_or (resolve_hits (devices_in s) p.at d u)) [
    | inr more ↦ use_roles Block s p.at (All-head Each p ps all).used d u (some_leads (devices_in s) p.at d u more)
    | inl none ↦ led_live ps (All-tail Each p ps all) d u (omega (arith, some, none, sum_by-cons (λ (a : Dva). resolve_hits (devices_in s) a d u) p.at (addresses_of ps)))
  ]

  -- live units are those to which the blocks lead, each once
  pub led_once : (ps : List Bptr) → All Each ps → ((d u : ℕ) → live_hits (devices_in s) (addresses_of ps) d u ≤ 1) → LeadsToAll s (addresses_of ps)
      → (d u : ℕ) → live_hits (devices_in s) (addresses_of ps) d u ≡ one_if (is_live_role (role_at s d u))
  led_once ps stored once all d u = one_where (is_live_role (role_at s d u)) (live_hits (devices_in s) (addresses_of ps) d u) (once d u) (all.used d u) (led_live ps stored d u)

-- ---- an open pool

module _ (pool : OpenPool) (s : Stored) (live : List Dva) (stored : All (λ (b : Bptr). IsStoredAt Block pool.space None b.at) s.pointers)
    (once : (d u : ℕ) → live_hits (devices_in pool.space) (addresses_of s.pointers) d u ≤ 1) (used : LeadsToAll pool.space (addresses_of s.pointers))
    (all : AreAllOf s (account_of pool)) (are : AreLiveAddresses s pool.dir pool.group live) where
  pub live_once : (d u : ℕ) → live_hits (devices_in pool.space) live d u ≡ one_if (is_live_role (role_at pool.space d u))
  live_once d u = walk_is_all s (account_of pool) live all are (λ (a : Dva). resolve_hits (devices_in pool.space) a d u) ∙ led_once pool.space s.pointers stored once used d u

  pub live_adds : ((d : ℕ) → is_leaving (state_of_dev pool.space.parts.devs d) ≡ false) → Adds pool.space live None
  live_adds none = record { once = live_once; copies = λ d u leaves. absurd (let e = none d in cc); kept = tt }
