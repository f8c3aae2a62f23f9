-- A pool of the first version is one of the second as it stands.
use Rattle.std.proofs.Common.{◌≡◌, ℕ, ◌==◌, Bool, true, false, List, [], ◌∷◌, take, inr, refl, sym, ap, subst, ◌∙◌, arith, if◌then◌else◌}
use Rattle.std.specs.Prelude.{IsTrue, IfSome, ◌&&◌, nat_le}
use Rattle.std.specs.List.{list_all}
use Rattle.std.proofs.lemmas.Bool.Decides.{nat_tests}
use Rattle.zr_base.specs.declared.space.DevRow.{DevRow}
use Rattle.zr_label.specs.Blocks.{is_going, is_row, most_units}
use Rattle.zr_label.specs.declared.root.Uber.{Uber}
use Rattle.zr_model.specs.Objects.{Objects}
use Rattle.zr_moves.specs.Moves.{with_version}
use Rattle.zr_rules.specs.Roles.{is_live_role, is_copy_role}
use Rattle.zr_rules.specs.Space.{Space, role_at, IsLawful}
use Rattle.zr_shelf.specs.Moments.{World}
use Rattle.zr_sync.specs.Anew.{RenewsLogs}
use Rattle.zr_sync.specs.Commits.{EndsGroup, IsNextRoot, IsShownFrom}
use Rattle.zr_sync.specs.Objects.{HoldsObjects}
use Rattle.zr_sync.specs.Pools.{IsOpen}
use Rattle.zr_sync.specs.Trees.{HasTrees}
use Rattle.zr_sync.specs.Trees.Stage.{Had, Untold}
use Rattle.zr_sync.specs.declared.open.OpenPool.{OpenPool}
use Rattle.zr_sync.proofs.Holding.{StaysLive}
use Rattle.zr_sync.proofs.Retelling.{StaysMeta, untold_trees}
use Rattle.zr_vdev.specs.Stores.{is_current}
use Rattle.zr_sync.proofs.SavedRoots.{live_objects}
use Rattle.zr_lines.specs.Upgrades.{Upgrades, renewed}

-- ---- the space

pub version_role : (s : Space) (v d u : ℕ) → role_at (with_version s v) d u ≡ role_at s d u
unfolding role_at
version_role s v d u = refl

version_live : (s : Space) (v : ℕ) → StaysLive s (with_version s v)
version_live s v = record { devices = refl; counts = λ d. refl; fresh = λ d u. refl; live = λ d u. ap is_live_role (version_role s v d u); copy = λ d u is. sym (ap is_copy_role (version_role s v d u)) ∙ is }

version_lawful : (s : Space) (v : ℕ) → IsLawful s → IsLawful (with_version s v)
version_lawful s v l = record { devices = l.devices; sets = l.sets; once = l.once; copies = l.copies; born = l.born }

-- ---- the rows: the second version has larger devices, and none that are smaller

and_parts : (a b : Bool) → IsTrue (a && b) → IsTrue a × IsTrue b
and_parts true true h = (h, h)
and_parts true false h = absurd cc
and_parts false b h = absurd cc

both_parts : (a b : Bool) → IsTrue a → IsTrue b → IsTrue (a && b)
both_parts true true p q = p
both_parts true false p q = q
both_parts false b p q = p

units_more : (version units : ℕ) → IsTrue (nat_le units (most_units version)) → IsTrue (nat_le units (most_units 2))
units_more version units h = by_cases (version == 1) h
  where
    by_cases : (b : Bool) → IsTrue (nat_le units (if b then 4193152 else 33553280)) → IsTrue (nat_le units 33553280)
    by_cases true h = grind (arith, nat_tests, h)
    by_cases false h = h

row_more : (version txg : ℕ) (r : DevRow) → IsTrue (is_row version txg r) → IsTrue (is_row 2 txg r)
row_more version txg r h =
    let a = nat_le 1 r.added in
    let b = nat_le r.added txg in
    let c = nat_le 896 r.units in
    let d = nat_le r.units (most_units version) in
    let e = is_going r.state r.added r.gone txg in
    let d' = nat_le r.units (most_units 2) in
    let four = and_parts (a && b && c && d) e h in
    let three = and_parts (a && b && c) d four.0 in
    both_parts (a && b && c && d') e (both_parts (a && b && c) d' three.0 (units_more version r.units three.1)) four.1

rows_more : (version txg : ℕ) (rows : List DevRow) → IsTrue (list_all (is_row version txg) rows) → IsTrue (list_all (is_row 2 txg) rows)
rows_more version txg [] all = all
rows_more version txg (r ∷ rows) all =
    let two = and_parts (is_row version txg r) (list_all (is_row version txg) rows) all in
    both_parts (is_row 2 txg r) (list_all (is_row 2 txg) rows) (row_more version txg r two.0) (rows_more version txg rows two.1)

-- ---- the pool

pub renewed_open : (sizes : List ℕ) (x : OpenPool) → IsOpen sizes x → IsOpen sizes (renewed x)
renewed_open sizes x o = record {
  version = inr refl;
  guid = o.guid;
  name = o.name;
  some = o.some;
  few = o.few;
  table = record { size = o.table.size; devices = rows_more x.version x.group.txg (take x.table.count x.table.rows) o.table.devices; on = o.table.on; rest = o.table.rest };
  slots = o.slots;
  first = o.first;
  after = o.after;
  group = o.group;
  limits = o.limits;
  dir = o.dir;
  head = o.head;
  streams = o.streams;
  count = o.count;
  cond = o.cond;
  turned = o.turned;
  saved = o.saved;
  checkpoint = o.checkpoint;
  spelled = refl;
  devices = o.devices;
  rows = o.rows;
  lawful = version_lawful x.space 2 o.lawful;
  mounted = o.mounted;
  disks = o.disks;
}

pub renewed_objects : (sizes : List ℕ) (t : Type 0) (disks : List (List ℕ)) (x : OpenPool) (objects : Objects) → IsOpen sizes x → HoldsObjects t disks x objects → HoldsObjects t disks (renewed x) objects
renewed_objects sizes t disks x objects o h = live_objects t disks x (renewed x) objects (version_live x.space 2) refl refl refl refl h

-- ---- the commit behind it

pub upgrades_from : (sizes : List ℕ) (told : Type 0) (now : World) (old mid new : OpenPool) → mid ≡ renewed old → IfSome new.last (IsNextRoot mid true) → EndsGroup true mid.space new.space
    → (told → IfSome new.last (λ (u : Uber). (before : World) × IsShownFrom sizes mid u before now)) → RenewsLogs mid new → new.saved ≡ mid.saved → Upgrades sizes told now old new
upgrades_from sizes told now old mid new is root resets shown logs saved = record {
  root = subst (λ (x : OpenPool). IfSome new.last (IsNextRoot x true)) is root;
  resets = subst (λ (x : OpenPool). EndsGroup true x.space new.space) is resets;
  shown = λ t. subst (λ (x : OpenPool). IfSome new.last (λ (u : Uber). (before : World) × IsShownFrom sizes x u before now)) is (shown t);
  logs = subst (λ (x : OpenPool). RenewsLogs x new) is logs;
  saved = saved ∙ ap (λ (x : OpenPool). x.saved) is;
}

-- ---- the trees of its streams

version_meta : (s : Space) (v : ℕ) → StaysMeta s (with_version s v)
version_meta s v = record { devices = refl; current = λ d u. ap is_current (version_role s v d u); meta = λ d u r. version_role s v d u ∙ r; saved = λ d u r. version_role s v d u ∙ r }

-- they stand, and what their words are is told no more, since the other version spells it otherwise
pub renewed_trees : (t : Type 0) (disks : List (List ℕ)) (x : OpenPool) → HasTrees Had t disks x → HasTrees Untold t disks (renewed x)
renewed_trees t disks x h = untold_trees t disks x (renewed x) (version_meta x.space 2) (λ d. refl) (λ d. refl) refl refl refl refl refl refl h
