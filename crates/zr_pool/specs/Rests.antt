-- How the disks stand between two lines, by what the pool stands for: the law of the trait.
use Rattle.std.proofs.Common.{◌≡◌, true, Option, Some, List, ℕ, refl, sym, subst}
use Rattle.std.specs.Prelude.{IfSome, None}
use Rattle.zr_command.specs.Meanings.{Disks, disks_of}
use Rattle.zr_held.proofs.Whole.{all_of}
use Rattle.zr_model.specs.Objects.{Objects}
use Rattle.zr_model.specs.Runs.{point}
use Rattle.zr_model.specs.State.{State, PoolState, Is}
use Rattle.zr_recorded.proofs.Found.{found_shows}
use Rattle.zr_recorded.specs.Crashes.{ShowsPool}
use Rattle.zr_recorded.specs.Service.{IsWhole}
use Rattle.zr_shelf.specs.Disks.{Stand}
use Rattle.zr_stops.proofs.Behind.{behind_shows}
use Rattle.zr_sync.proofs.TreeMeta.{meta_units}
use Rattle.zr_sync.specs.Objects.{account_of}
use Rattle.zr_sync.specs.Trees.{HasMetaUnits}
use Rattle.zr_sync.specs.declared.open.OpenPool.{OpenPool}
use Rattle.zr_tables.proofs.Units.{led_once}
use Rattle.zr_pool.specs.Behind.{LeavesOnly}
use Rattle.zr_pool.specs.Pools.{DeviceState, IsAsBegun, IsBehind, IsFoundBehind, HasLiveUnits, AreStanding, IsPartOf, Stands, StandsFor, stand_of}
use Rattle.zr_pool.specs.Turns.{RestsOn}

behind_leaves : (pool : Option OpenPool) (stand : Stand) (objects : Objects) → IsBehind pool (disks_of stand) objects → LeavesOnly objects (disks_of stand)
behind_leaves None stand objects h = behind_shows _ objects h.pool (stand_of (disks_of stand)) h.behind
behind_leaves (Some pool) stand objects h = behind_shows _ objects pool (stand_of (disks_of stand)) h

-- what a crash leaves of a commit that is found
finds_pool : (pool : Option OpenPool) (stand : Stand) (state : DeviceState) → Stands pool (disks_of stand) state → state.found ≡ true → IfSome pool (λ x. IsWhole x → x.saved ≡ None → (objects : Objects) → state.behind ≡ Some objects → (paths : List (List ℕ)) → ShowsPool paths objects (stand_of (disks_of stand)))
finds_pool None stand state stands is = tt
finds_pool (Some x) stand state stands is = λ whole unsaved objects last paths.
    let found : IsFoundBehind (Some x) (disks_of stand) objects = subst (λ (o : Option Objects). IfSome o (IsFoundBehind (Some x) (disks_of stand))) last (stands.found is) in
    found_shows _ objects x (stand_of (disks_of stand)) (found whole unsaved) paths

-- the live units of a pool whose objects are told
has_units : (pool : Option OpenPool) (disks : List (List ℕ)) (state : State) → StandsFor pool disks state → IfSome pool (λ x. (q : PoolState) → state.shelf ≡ Is q → HasLiveUnits disks x)
has_units None disks state stands = tt
has_units (Some x) disks state stands = λ q is.
    let h = (subst (IsPartOf disks x) is stands.part).objects in
    record {
      stored = h.stored;
      held = h.held;
      all = all_of h.stored (account_of x) q.objects h.has;
      once = led_once x.space h.stored.pointers h.held.stored h.held.once h.held.all;
    }

-- the metadata of a pool of which the trees of the streams are told to stand
has_metadata : (pool : Option OpenPool) (disks : List (List ℕ)) → AreStanding pool disks → IfSome pool (HasMetaUnits disks)
has_metadata None disks stands = tt
has_metadata (Some x) disks stands = meta_units disks x stands

pub stands_rest : (pool : Option OpenPool) (stand : Stand) (state : DeviceState) → Stands pool (disks_of stand) state → RestsOn (point stand state) (disks_of stand)
stands_rest pool stand state stands = record {
  reads = refl;
  shows = λ objects is. behind_leaves pool stand objects (subst (λ (o : Option Objects). IfSome o (IsBehind pool (disks_of stand))) is stands.behind);
  unwritten = λ first is. (subst (λ (o : Option Disks). IfSome o (IsAsBegun pool (disks_of stand))) is stands.begun).1;
  finds = λ is. subst (λ (o : Option OpenPool). IfSome o (λ x. IsWhole x → x.saved ≡ None → (objects : Objects) → state.behind ≡ Some objects → (paths : List (List ℕ)) → ShowsPool paths objects (stand_of (disks_of stand)))) (sym stands.account) (finds_pool pool stand state stands is);
  units = subst (λ (o : Option OpenPool). IfSome o (λ x. (q : PoolState) → state.told.shelf ≡ Is q → HasLiveUnits stand.seen x)) (sym stands.account) (has_units pool stand.seen state.told stands.told);
  metadata = λ is. subst (λ (o : Option OpenPool). IfSome o (HasMetaUnits stand.seen)) (sym stands.account) (has_metadata pool stand.seen (stands.trees is));
}
