-- What a store holds while units that a put took may be lost.
use Rattle.std.proofs.Common.{◌≡◌, ℕ, ◌<◌, ◌≤◌, true, List, [], Option, Some, None, ◌∙◌, sym, subst}
use Rattle.std.specs.Prelude.{All}
use Rattle.zr_base.specs.declared.space.Dva.{Dva}
use Rattle.zr_bptr.specs.declared.Bptr.{Bptr}
use Rattle.zr_rules.specs.Resolve.{is_resolved}
use Rattle.zr_rules.specs.Space.{Space}
use Rattle.zr_rules.specs.Equation.{devices_in, live_hits}
use Rattle.zr_store.specs.Store.{Stored, IsOnce, hits}
use Rattle.zr_view.specs.Views.{address_bytes}
use Rattle.zr_cache.specs.declared.table.Cache.{Cache}
use Rattle.zr_vdev.specs.declared.kind.Kind.{Kind}
use Rattle.zr_vdev.specs.Caches.{AreRead}
use Rattle.zr_vdev.specs.Runs.{view_of}
use Rattle.zr_vdev.specs.Stores.{GivesBackLost, HoldsBlocks, IsAll, IsStoredAt, IsTaken, MayGoBack, addresses_of}

-- What is held but for the units that a put took and could not write: of units in use to which no pointer leads there may be any.
pub record HoldsBut (kind : Kind) (slots : List (Option ℕ)) (tells : Type 0) (disks : List (List ℕ)) (space : Space) (lost : Option Dva) (cache : Cache) (s : Stored) : Type 0 where
  pub told : tells
  pub taken : (at : Dva) → lost ≡ Some at → IsTaken kind space at
  pub read : AreRead disks slots space cache
  pub stored : All (λ (b : Bptr). IsStoredAt kind space lost b.at) s.pointers
  pub once : (d u : ℕ) → live_hits (devices_in space) (addresses_of s.pointers) d u ≤ 1
  pub back : MayGoBack kind space (addresses_of s.pointers)
  pub alone : IsOnce s
  pub resolves : (at : Dva) → 0 < hits s.pointers at → is_resolved (devices_in space) at ≡ true
  pub there : (b : Bptr) → IsStoredAt kind space lost b.at → s.bytes b ≡ address_bytes (view_of disks slots space) b.at
  pub nothing : (b : Bptr) → ¬ IsStoredAt kind space lost b.at → s.bytes b ≡ []

pub none_some : (at : Dva) → None ≡ Some at → ⊥
none_some at e = cc

module _ (kind : Kind) (slots : List (Option ℕ)) (told : Type 0) (disks : List (List ℕ)) (s : Space) (lost : Option Dva) (c : Cache) (st : Stored) where
  pub but_of : HoldsBlocks kind slots told disks s lost c st → HoldsBut kind slots told disks s lost c st
  but_of held = record {
    told = held.told;
    taken = λ at is. absurd (none_some at (sym held.settled ∙ is));
    read = held.read;
    stored = held.stored;
    once = held.once;
    back = held.back;
    alone = held.alone;
    resolves = held.resolves;
    there = held.there;
    nothing = held.nothing;
  }

  -- it is all where nothing is lost, and some pointer leads to each unit in use
  pub whole_of : HoldsBut kind slots told disks s lost c st → lost ≡ None → IsAll kind s (addresses_of st.pointers) → HoldsBlocks kind slots told disks s lost c st
  whole_of held settled all = record {
    told = held.told;
    settled = settled;
    read = held.read;
    stored = held.stored;
    once = held.once;
    all = all;
    back = held.back;
    alone = held.alone;
    resolves = held.resolves;
    there = held.there;
    nothing = held.nothing;
  }

-- where blocks are held nothing is lost, so nothing is to be given back
pub settled_held : (kind : Kind) (slots : List (Option ℕ)) (told : Type 0) (disks : List (List ℕ)) (old new : Space) (lost : Option Dva) (txg : ℕ) (c : Cache) (st : Stored)
    → GivesBackLost kind old new lost txg → HoldsBlocks kind slots told disks old lost c st → HoldsBlocks kind slots told disks new None c st
settled_held kind slots told disks old new None txg c st same held = subst (λ (s : Space). HoldsBlocks kind slots told disks s None c st) (sym same) held
settled_held kind slots told disks old new (Some at) txg c st gives held = absurd (none_some at (sym held.settled))
