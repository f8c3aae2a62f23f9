-- The metadata of a pool that is opened, as its space has it: the blocks of all trees of its root are stored, and the trees stand in them.
use Rattle.std.proofs.Common.{◌≡◌, ℕ, zero, suc, ◌+◌, ◌-◌, ◌<◌, List, [], ◌∷◌, ◌++◌, None, refl, ◌∙◌, ap, arith}
use Rattle.std.specs.Prelude.{All, IsTrue}
use Rattle.std.specs.List.{flat_map, sum_by}
use Rattle.std.proofs.lemmas.Bool.Decides.{nat_tests}
use Rattle.std.proofs.lemmas.List.Sums.{sum_by-cons}
use Rattle.std.proofs.lemmas.List.Elements.{All-append, All-cons, All-nil}
use Rattle.zr_base.specs.Blocks.{is_block_size}
use Rattle.zr_beside.proofs.Staying.{all_stay, blocks_stay}
use Rattle.zr_beside.specs.Beside.{Standing, StandBeside, Stands, blocks_of}
use Rattle.zr_bptr.specs.declared.Bptr.{Bptr}
use Rattle.zr_bptr.specs.declared.Ptr.{Ptr}
use Rattle.zr_bptr.specs.declared.Ptr.TheVariants.{Hole, At}
use Rattle.zr_cache.specs.Entries.{entries}
use Rattle.zr_open.proofs.Holding.{nothing_cached}
use Rattle.zr_root.proofs.Shapes.{kid_fits}
use Rattle.zr_root.specs.Streams.{AreWhole}
use Rattle.zr_rules.specs.Places.{address_hits}
use Rattle.zr_rules.specs.Space.{IsLawful}
use Rattle.zr_space.specs.Drops.{IsMeta}
use Rattle.zr_store.proofs.Meeting.{at_each}
use Rattle.zr_store.specs.Store.{Stored, one_at}
use Rattle.zr_sync.proofs.AllMeta.{HasUnits, all_there, lead_to_meta, led_once}
use Rattle.zr_sync.specs.Streams.{HasMeta}
use Rattle.zr_sync.specs.declared.open.OpenPool.{OpenPool}
use Rattle.zr_tree.proofs.Frames.{Agree}
use Rattle.zr_tree.proofs.Wholes.{among_within, within_back, within_first, within_front, within_rest}
use Rattle.zr_tree.specs.Blocks.{FitsAt}
use Rattle.zr_tree.specs.Trees.{blocks, kids, reach, slot}
use Rattle.zr_vdev.proofs.Moves.{bytes_now, holds_all}
use Rattle.zr_vdev.specs.Runs.{view_of}
use Rattle.zr_vdev.specs.Stores.{IsStoredAt, addresses_of}
use Rattle.zr_vdev.specs.declared.kind.Kind.TheVariants.{Meta}
use Rattle.zr_view.specs.Views.{address_bytes}

-- ---- the blocks of a tree have units

some_units : (n : ℕ) → IsTrue (is_block_size n) → 0 < n
some_units n is = grind (arith, nat_tests, is)

flat_units : (s : Stored) (below : ℕ) → ((p : Ptr) → FitsAt below p → AreWhole s (blocks s below p) → All HasUnits (reach s below p)) → (ps : List Ptr) → ((k : ℕ) → FitsAt below (slot ps k)) → AreWhole s (flat_map (blocks s below) ps) → All HasUnits (flat_map (reach s below) ps)
flat_units s below each [] fits whole = All-nil HasUnits
flat_units s below each (p ∷ ps) fits whole =
    let first : List Bptr = blocks s below p in
    let rest : List Bptr = flat_map (blocks s below) ps in
    All-append HasUnits (reach s below p) (flat_map (reach s below) ps) (each p (fits 0) (λ b among. whole b (among_within b first (first ++ rest) (within_front first rest) among)))
    (flat_units s below each ps (λ k. fits (suc k)) (λ b among. whole b (among_within b rest (first ++ rest) (within_back first rest) among)))

pub reach_units : (s : Stored) (level : ℕ) (p : Ptr) → FitsAt level p → AreWhole s (blocks s level p) → All HasUnits (reach s level p)
reach_units s zero Hole fits whole = All-nil HasUnits
reach_units s zero (At b) fits whole = All-cons HasUnits b [] (some_units b.at.len fits.1.size) (All-nil HasUnits)
reach_units s (suc below) Hole fits whole = All-nil HasUnits
reach_units s (suc below) (At b) fits whole =
    let rest : List Bptr = flat_map (blocks s below) (kids s below b) in
    let own = whole b (among_within b (b ∷ []) (b ∷ rest) (within_first b rest) (λ weight. let sum = sum_by-cons weight b [] in omega (arith, sum))) in
    All-cons HasUnits b (flat_map (reach s below) (kids s below b)) (some_units b.at.len fits.1.size)
    (flat_units s below (λ p below_fits below_whole. reach_units s below p below_fits below_whole) (kids s below b) (λ k. kid_fits s below b k fits.0 own) (λ c among. whole c (among_within c rest (b ∷ rest) (within_rest b rest) among)))

-- ---- what is stored

module _ (tells : Type 0) (told : tells) (disks : List (List ℕ)) (pool : OpenPool) (lawful : IsLawful pool.space) (empty : entries pool.cache ≡ []) (ps : List Bptr) (same : (d u : ℕ) → address_hits (addresses_of ps) d u ≡ address_hits pool.space.meta d u) (long : All HasUnits ps) where
  abbrev here : All (λ (b : Bptr). IsStoredAt Meta pool.space None b.at) ps
  here = all_there pool.space lawful ps same long

  abbrev pub store : Stored
  store = record { pointers = ps; bytes = bytes_now Meta pool.table.slots disks pool.space None }

  pub planted : HasMeta tells disks pool store
  planted =
      holds_all Meta pool.table.slots tells disks pool.space None pool.cache ps told (nothing_cached disks pool.table.slots pool.space pool.cache empty) refl here
      (led_once pool.space lawful ps same long) (lead_to_meta pool.space lawful ps same long) tt

  -- trees that stand on the disks, whose blocks are those that are stored, stand beside each other
  pub stand_planted : (image : Stored) → ((b : Bptr) → IsMeta pool.space b.at → address_bytes (view_of disks pool.table.slots pool.space) b.at ≡ image.bytes b) → (all : List Standing) → ((weight : Bptr → ℕ) → sum_by weight (blocks_of image all) ≡ sum_by weight ps) → All (Stands image) all → StandBeside store all
  stand_planted image is all are stand =
      let agree : Agree image store (blocks_of image all) = record {
        same = λ b met.
            let m = are (one_at b.at) in
            let there = at_each (IsStoredAt Meta pool.space None) ps b.at here (omega (arith, m, met)) in
            planted.there b there ∙ is b there.used;
      } in
      record {
        stored = λ weight. (let a = are weight in let now = ap (λ (bs : List Bptr). sum_by weight bs) (blocks_stay image store all agree) in omega (arith, a, now));
        whole = λ weight. (let a = are weight in let now = ap (λ (bs : List Bptr). sum_by weight bs) (blocks_stay image store all agree) in omega (arith, a, now));
        once = planted.alone;
        stand = all_stay image store all agree stand;
      }
