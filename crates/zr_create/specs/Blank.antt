-- Pools that have just been made.
use Rattle.std.specs.Prelude.{◌≡◌, ℕ, false, [], Option, None, IsSomeAnd}
use Rattle.zr_base.specs.declared.space.CkptPart.TheVariants.{Clear}
use Rattle.zr_cache.specs.Entries.{entries}
use Rattle.zr_held.specs.Steps.{no_tree}
use Rattle.zr_label.specs.declared.root.Name.{Name}
use Rattle.zr_label.specs.declared.root.Uber.{Uber}
use Rattle.zr_rules.specs.Roles.{is_deferred_role}
use Rattle.zr_rules.specs.Space.{Space, role_at}
use Rattle.zr_space.specs.Views.{space_of}
use Rattle.zr_view.specs.Views.{slot_of}
use Rattle.zr_sync.specs.Empty.{no_cond}
use Rattle.zr_sync.specs.declared.open.OpenPool.{OpenPool}

-- the pool has this name, identity and version
pub record IsNamed (name : Name) (guid version : ℕ) (pool : OpenPool) : Type 0 where
  pub name_is : pool.name ≡ name
  pub guid_is : pool.guid ≡ guid
  pub version_is : pool.version ≡ version

-- a pool without devices, without a directory and without a head, whose first group is open and has changed nothing, of which no block is cached and no root saved, and no condensing goes on
pub record IsBlank (pool : OpenPool) : Type 0 where
  pub count : pool.table.count ≡ 0
  pub slots : (d : ℕ) → slot_of pool.table.slots d ≡ None
  pub space : pool.space ≡ space_of (record { version = pool.version; ckpt = Clear; cond = None }) []
  pub last : pool.last ≡ None
  pub txg : pool.group.txg ≡ 1
  pub objects : pool.group.objects ≡ []
  pub dir : pool.dir ≡ no_tree
  pub cache : entries pool.cache ≡ []
  pub saved : pool.saved ≡ None
  pub head : pool.head ≡ no_tree
  pub streams : pool.streams.items ≡ []
  pub cond : pool.cond ≡ no_cond

-- the last root is of this group, which was a reset
abbrev pub IsResetAt : ℕ → Option Uber → Type 0
IsResetAt txg last = IsSomeAnd last (λ u. (u.txg ≡ txg) × (u.reset ≡ txg))

-- no unit waits to be free
abbrev pub NothingWaits : Space → Type 0
NothingWaits s = (d u : ℕ) → is_deferred_role (role_at s d u) ≡ false
