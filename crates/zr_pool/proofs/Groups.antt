-- Which lines work in the group that is open, and which end it.
use Rattle.std.proofs.Common.{◌≡◌, ◌⊎◌, inl, inr, List, length, take, ℕ, ◌==◌, ◌<◌, Bool, true, false, Option, Some, refl, sym, subst, ap, arith}
use Rattle.std.specs.Prelude.{MatchBool, if◌then◌else◌, nat_lt, not, ◌&&◌, ◌||◌}
use Rattle.std.proofs.lemmas.Bool.Decides.{nat_tests}
use Rattle.zr_base.specs.declared.space.CkptPart.TheVariants.{Clear}
use Rattle.zr_base.specs.declared.space.Extent.{Extent}
use Rattle.zr_last.specs.Last.{KeepsRoot}
use Rattle.zr_lines.proofs.Stopping.{in_group_itself}
use Rattle.zr_sync.specs.Copies.{HasCopies}
use Rattle.zr_sync.specs.Ends.{EndsCommitted}
use Rattle.zr_lines.specs.Stops.{OpensNoUnit, StaysInGroup, StaysInOneGroup}
use Rattle.zr_model.specs.Objects.{Objects}
use Rattle.zr_open.specs.Flushed.{FlushesOnly}
use Rattle.zr_removal.specs.Refusals.{HasRemoval}
use Rattle.zr_rules.specs.Columns.{uncopied_units}
use Rattle.zr_rules.specs.Roles.{Role, discarded}
use Rattle.zr_rules.specs.Roles.Role.{Kept}
use Rattle.zr_rules.specs.Space.{Space, role_at}
use Rattle.zr_rules.specs.Steps.{Discards, DiscardsSome, is_among, kept_extents, with_ckpt}
use Rattle.zr_script.specs.declared.command.Command.{Command}
use Rattle.zr_script.specs.declared.command.Command.TheVariants as cmd
use Rattle.zr_script.specs.declared.reply.Reply.{Reply}
use Rattle.zr_script.specs.declared.reply.Reply.TheVariants as reply
use Rattle.zr_shelf.proofs.Doings.{writes_still}
use Rattle.zr_shelf.proofs.Runs.{still}
use Rattle.zr_shelf.specs.Disks.{Stand}
use Rattle.zr_shelf.specs.Moments.{IsStill, World}
use Rattle.zr_sync.proofs.Retelling.{cache_leaves}
use Rattle.zr_sync.proofs.SavedRoots.{ckpt_role}
use Rattle.zr_sync.specs.Heads.{IsSeen}
use Rattle.zr_sync.specs.Trees.{HasTrees}
use Rattle.zr_sync.specs.Trees.Stage.{Had}
use Rattle.zr_sync.specs.declared.open.OpenPool.{OpenPool}
use Rattle.zr_vdev.proofs.Follows.{others_itself}
use Rattle.zr_vdev.specs.Stores.{IsWriteInto, KeepsOthers, is_open_role}
use Rattle.zr_vdev.specs.declared.kind.Kind.TheVariants.{Block}
use Rattle.zr_pool.specs.Behind.{StopsInOpening, copies_or_returns, ends_no_removal, ends_reset, is_acknowledged, is_commit, is_in_group, is_readable, is_resetting, is_return, is_silent, is_writing_trees, may_stop, none_gone}
use Rattle.zr_pool.proofs.Working.{removal_works}
use Rattle.zr_pool.specs.Plain.{IsDone, is_background, is_copy, is_of_removal}
use Rattle.zr_pool.specs.Pools.{is_evacuating}
use Rattle.zr_pool.specs.Turns.{is_on_objects, is_on_pool, is_opener, is_table}

pub no_way : {P : Type 0} → false ≡ true → P
no_way e = absurd cc

-- of those on a whole pool they are a commit, or a step of discarding
pub pool_commits : (command : Command) → is_on_pool command ≡ true → is_in_group command ≡ true → (is_commit command ≡ true) ⊎ (command ≡ cmd.StepDiscard)
pool_commits cmd.Sync on group = inl refl
pool_commits cmd.Export on group = inl refl
pool_commits (cmd.Add dev) on group = no_way group
pool_commits cmd.Checkpoint on group = no_way group
pool_commits cmd.Discard on group = no_way group
pool_commits cmd.StepDiscard on group = inr refl
pool_commits cmd.Upgrade on group = no_way group
pool_commits command on group = no_way on

pub commits_in_group : (command : Command) → is_commit command ≡ true → is_in_group command ≡ true
commits_in_group cmd.Sync ends = refl
commits_in_group cmd.Export ends = refl
commits_in_group command ends = no_way ends

pub not_of_removal : (command : Command) → is_of_removal command ≡ true → is_in_group command ≡ true → ⊥
not_of_removal (cmd.Remove dev) on group = no_way group
not_of_removal cmd.Cancel on group = no_way group
not_of_removal cmd.StepEvac on group = no_way group
not_of_removal cmd.StepCondense on group = no_way group
not_of_removal command on group = no_way on

pub not_opener : (command : Command) → is_opener command ≡ true → is_in_group command ≡ true → ⊥
not_opener (cmd.Create name guid devs) on group = no_way group
not_opener (cmd.CreateOld name guid devs) on group = no_way group
not_opener cmd.Import on group = no_way group
not_opener cmd.ImportRewind on group = no_way group
not_opener (cmd.ImportTxg txg) on group = no_way group
not_opener command on group = no_way on

-- a line that makes a pool or goes back stops in no group
never : {P : Type 0} (a b : Bool) → (a && (b && false)) ≡ true → P
never true true is = no_way is
never true false is = no_way is
never false b is = no_way is

pub opening_stops : (account : Option OpenPool) (trees : Bool) (command : Command) → is_opener command ≡ true → may_stop account trees command ≡ true → ⊥
opening_stops account trees (cmd.Create name guid devs) on may = never (is_readable account trees) (none_gone account) may
opening_stops account trees (cmd.CreateOld name guid devs) on may = never (is_readable account trees) (none_gone account) may
opening_stops account trees cmd.Import on may = never (is_readable account trees) (none_gone account) may
opening_stops account trees cmd.ImportRewind on may = never (is_readable account trees) (none_gone account) may
opening_stops account trees (cmd.ImportTxg txg) on may = never (is_readable account trees) (none_gone account) may
opening_stops account trees command on may = no_way on

-- what a line wrote that makes no pool and does not go back is nothing
pub opening_nothing : (sizes : List ℕ) (command : Command) (before now : World) → ((name : List ℕ) (guid : ℕ) (devs : List (List ℕ)) → command ≡ cmd.Create name guid devs → ⊥) → ((name : List ℕ) (guid : ℕ) (devs : List (List ℕ)) → command ≡ cmd.CreateOld name guid devs → ⊥) → (command ≡ cmd.ImportRewind → ⊥) → ((txg : ℕ) → command ≡ cmd.ImportTxg txg → ⊥)
    → FlushesOnly before now → StopsInOpening sizes command before now
opening_nothing sizes (cmd.Create name guid devs) before now new old back group nothing = absurd (new name guid devs refl)
opening_nothing sizes (cmd.CreateOld name guid devs) before now new old back group nothing = absurd (old name guid devs refl)
opening_nothing sizes cmd.ImportRewind before now new old back group nothing = absurd (back refl)
opening_nothing sizes (cmd.ImportTxg txg) before now new old back group nothing = absurd (group txg refl)
opening_nothing sizes command before now new old back group nothing = nothing

pub not_resetting : (command : Command) → is_resetting command ≡ true → is_in_group command ≡ true → ⊥
not_resetting (cmd.Add dev) on group = no_way group
not_resetting cmd.Checkpoint on group = no_way group
not_resetting cmd.Discard on group = no_way group
not_resetting cmd.Upgrade on group = no_way group
not_resetting (cmd.Remove dev) on group = no_way group
not_resetting command on group = no_way on

-- a line that writes the trees of the streams ends with a reset
pub writing_resets : (command : Command) → is_writing_trees command ≡ true → is_resetting command ≡ true
writing_resets (cmd.Add dev) on = refl
writing_resets cmd.Checkpoint on = refl
writing_resets cmd.Upgrade on = refl
writing_resets command on = no_way on

-- a line that ended with a reset is one that does, or a removal was given up
pub resets_or_returns : (answer : Reply) (command : Command) → ends_reset answer command ≡ true → (is_resetting command ≡ true) ⊎ (is_return answer command ≡ true)
resets_or_returns (reply.No r) command on = no_way on
resets_or_returns answer command on = one_of (is_resetting command) (is_return answer command) on
  where
    one_of : (a b : Bool) → (a || b) ≡ true → (a ≡ true) ⊎ (b ≡ true)
    one_of true b is = inl refl
    one_of false b is = inr is

pub not_returning : (answer : Reply) (command : Command) → is_return answer command ≡ true → is_in_group command ≡ true → ⊥
not_returning (reply.Cancelled i) cmd.Cancel on group = no_way group
not_returning (reply.Cancelled i) cmd.StepEvac on group = no_way group
not_returning answer command on group = no_way on

-- it works in no group
pub not_ending : (answer : Reply) (command : Command) → ends_reset answer command ≡ true → is_in_group command ≡ true → ⊥
not_ending answer command on group = elim (resets_or_returns answer command on) [
  | inl resets ↦ not_resetting command resets group
  | inr returns ↦ not_returning answer command returns group
]

pub return_elsewhere : (answer : Reply) (command : Command) → is_return answer command ≡ true → (is_on_objects command ≡ true) ⊎ ((is_table command ≡ true) ⊎ (is_on_pool command ≡ true)) → ⊥
return_elsewhere (reply.Cancelled i) cmd.Cancel on (inl is) = no_way is
return_elsewhere (reply.Cancelled i) cmd.Cancel on (inr (inl is)) = no_way is
return_elsewhere (reply.Cancelled i) cmd.Cancel on (inr (inr is)) = no_way is
return_elsewhere (reply.Cancelled i) cmd.StepEvac on (inl is) = no_way is
return_elsewhere (reply.Cancelled i) cmd.StepEvac on (inr (inl is)) = no_way is
return_elsewhere (reply.Cancelled i) cmd.StepEvac on (inr (inr is)) = no_way is
return_elsewhere answer command on which = no_way on

-- it is none of these
pub resets_elsewhere : (command : Command) → is_resetting command ≡ true → (is_on_objects command ≡ true) ⊎ (is_table command ≡ true) → ⊥
resets_elsewhere (cmd.Add dev) on (inl is) = no_way is
resets_elsewhere (cmd.Add dev) on (inr is) = no_way is
resets_elsewhere cmd.Checkpoint on (inl is) = no_way is
resets_elsewhere cmd.Checkpoint on (inr is) = no_way is
resets_elsewhere cmd.Discard on (inl is) = no_way is
resets_elsewhere cmd.Discard on (inr is) = no_way is
resets_elsewhere cmd.Upgrade on (inl is) = no_way is
resets_elsewhere cmd.Upgrade on (inr is) = no_way is
resets_elsewhere (cmd.Remove dev) on (inl is) = no_way is
resets_elsewhere (cmd.Remove dev) on (inr is) = no_way is
resets_elsewhere command on which = no_way on

-- each of them is on a whole pool, or of a removal
pub resets_somewhere : (command : Command) → is_resetting command ≡ true → is_on_pool command ≡ false → is_of_removal command ≡ false → ⊥
resets_somewhere (cmd.Add dev) on pool removal = no_way (sym pool)
resets_somewhere cmd.Checkpoint on pool removal = no_way (sym pool)
resets_somewhere cmd.Discard on pool removal = no_way (sym pool)
resets_somewhere cmd.Upgrade on pool removal = no_way (sym pool)
resets_somewhere (cmd.Remove dev) on pool removal = no_way (sym removal)
resets_somewhere command on pool removal = no_way on

pub opens_no_reset : (command : Command) → is_opener command ≡ true → is_resetting command ≡ true → ⊥
opens_no_reset (cmd.Add dev) opens on = no_way opens
opens_no_reset cmd.Checkpoint opens on = no_way opens
opens_no_reset cmd.Discard opens on = no_way opens
opens_no_reset cmd.Upgrade opens on = no_way opens
opens_no_reset (cmd.Remove dev) opens on = no_way opens
opens_no_reset command opens on = no_way on

pub opens_no_end : (command : Command) → is_opener command ≡ true → ends_reset reply.Done command ≡ true → ⊥
opens_no_end command opens on = elim (resets_or_returns reply.Done command on) [
  | inl resets ↦ opens_no_reset command opens resets
  | inr returns ↦ no_way returns
]

pub acknowledged_commits : (answer : Reply) (command : Command) → is_acknowledged answer command ≡ true → is_commit command ≡ true
acknowledged_commits (reply.Synced txg) cmd.Sync is = refl
acknowledged_commits reply.Done cmd.Export is = refl
acknowledged_commits answer command is = no_way is

-- a line that opens a pool commits nothing that was told before it
pub opens_no_commit : (command : Command) → is_opener command ≡ true → is_acknowledged reply.Done command ≡ true → ⊥
opens_no_commit cmd.Export opens is = no_way opens
opens_no_commit command opens is = no_way is

pub no_object_commit : (command : Command) → is_on_objects command ≡ true → is_commit command ≡ true → ⊥
no_object_commit cmd.Sync on ends = no_way on
no_object_commit cmd.Export on ends = no_way on
no_object_commit command on ends = no_way ends

pub no_table_commit : (command : Command) → is_table command ≡ true → is_commit command ≡ true → ⊥
no_table_commit cmd.Sync on ends = no_way on
no_table_commit cmd.Export on ends = no_way on
no_table_commit command on ends = no_way ends

-- each of them is on an object, a table, or a whole pool
pub none_of_them : (command : Command) → is_on_objects command ≡ false → is_table command ≡ false → is_on_pool command ≡ false → is_in_group command ≡ true → ⊥
none_of_them (cmd.Make id units) a b c group = no_way (sym a)
none_of_them (cmd.Drop id) a b c group = no_way (sym a)
none_of_them (cmd.Write id off bytes) a b c group = no_way (sym a)
none_of_them (cmd.Fill id off len byte) a b c group = no_way (sym a)
none_of_them (cmd.Punch id off len) a b c group = no_way (sym a)
none_of_them (cmd.Read id off len) a b c group = no_way (sym a)
none_of_them (cmd.Sum id) a b c group = no_way (sym a)
none_of_them cmd.List a b c group = no_way (sym b)
none_of_them cmd.Status a b c group = no_way (sym b)
none_of_them cmd.Audit a b c group = no_way (sym b)
none_of_them (cmd.Estimate dev) a b c group = no_way (sym b)
none_of_them (cmd.Map index) a b c group = no_way (sym b)
none_of_them cmd.Sync a b c group = no_way (sym c)
none_of_them cmd.Export a b c group = no_way (sym c)
none_of_them cmd.StepDiscard a b c group = no_way (sym c)
none_of_them command a b c group = no_way group

-- a commit and nothing behind it
pub commit_alone : (sizes : List ℕ) (objects : Objects) (x y : OpenPool) (before now : World) → EndsCommitted sizes false x y objects before now → StaysInOneGroup sizes objects x y before now
commit_alone sizes objects x y before now ends = inr (record { next = y; start = now; commits = ends; stays = in_group_itself y now })

-- a step of discarding: what a checkpoint kept waits from there on, and is not free yet
open_before : (b : Bool) (r : Role) → is_open_role (if b then discarded r else r) ≡ true → is_open_role r ≡ true
open_before false r is = is
open_before true Kept is = no_way is
open_before true r is = is

discards_open : (old new : Space) (es : List (ℕ × Extent)) (b : Bool) → MatchBool b (new ≡ with_ckpt old Clear) (Discards old new es) → (d u : ℕ) → is_open_role (role_at new d u) ≡ true → is_open_role (role_at old d u) ≡ true
discards_open old new es true same d u is = subst (λ (r : Role). is_open_role r ≡ true) (ckpt_role old Clear d u) (subst (λ (s : Space). is_open_role (role_at s d u) ≡ true) same is)
discards_open old new es false h d u is = open_before (is_among es d u) (role_at old d u) (subst (λ (r : Role). is_open_role r ≡ true) (h.roles d u) is)

pub step_opens_none : (old new : OpenPool) (units : ℕ) → KeepsRoot old new → DiscardsSome old.space units new.space → OpensNoUnit old new
step_opens_none old new units root steps = record { root = root; units = discards_open old.space new.space (take 64 (kept_extents old.space)) (length (take 64 (kept_extents old.space)) == 0) steps.1 }

-- where nothing was done the trees stand still
still_trees : (before now : World) → IsStill before now → (x : OpenPool) → HasTrees Had (Unit {0}) before.now.seen x → HasTrees Had (Unit {0}) now.now.seen x
still_trees before now still x h = subst (λ (s : Stand). HasTrees Had (Unit {0}) s.seen x) (sym still.now) h

-- and so do copies
still_copies : (before now : World) → IsStill before now → (x : OpenPool) → HasCopies before.now.seen x → HasCopies now.now.seen x
still_copies before now still x h = subst (λ (s : Stand). HasCopies s.seen x) (sym still.now) h

-- a line that is refused
pub refused_stays : (x y : OpenPool) (before now : World) → y ≡ x → IsStill before now → StaysInGroup x y before now
refused_stays x y before now same nothing = record {
  written = writes_still (IsWriteInto Block x.table.slots x.space) before now nothing;
  space = subst (λ s. KeepsOthers Block x.space s) (sym (ap (λ (p : OpenPool). p.space) same)) (others_itself Block x.space);
  root = record { last = ap (λ (p : OpenPool). p.last) same; guid = ap (λ (p : OpenPool). p.guid) same; table = ap (λ (p : OpenPool). p.table) same };
  trees = λ h. still_trees before now nothing y (subst (λ (p : OpenPool). HasTrees Had (Unit {0}) before.now.seen p) (sym same) h);
  copies = λ h. still_copies before now nothing y (subst (λ (p : OpenPool). HasCopies before.now.seen p) (sym same) h);
}

pub same_world : (before now : World) → now ≡ before → IsStill before now
same_world before now same = subst (IsStill before) (sym same) (still before before refl)

-- a table
pub table_stays : (tells : Type 0) (x y : OpenPool) (before now : World) → y ≡ record x { cache = y.cache } → IsSeen tells now.now.seen y → IsStill before now → StaysInGroup x y before now
table_stays tells x y before now same seen still = record {
  written = writes_still (IsWriteInto Block x.table.slots x.space) before now still;
  space = subst (λ s. KeepsOthers Block x.space s) (sym (ap (λ (p : OpenPool). p.space) same)) (others_itself Block x.space);
  root = record { last = ap (λ (p : OpenPool). p.last) same; guid = ap (λ (p : OpenPool). p.guid) same; table = ap (λ (p : OpenPool). p.table) same };
  trees = λ h.
      let there = still_trees before now still x h in
      cache_leaves (Unit {0}) (Unit {0}) now.now.seen x y same (record { told = tt; read = seen.read }) there;
  copies = λ h. subst (λ (p : OpenPool). HasCopies now.now.seen p) (sym same) (still_copies before now still x h);
}

-- ---- a step in the background

pub background_no_reset : (command : Command) (answer : Reply) → is_background command answer ≡ true → ends_reset answer command ≡ true → ⊥
background_no_reset cmd.StepEvac (reply.Copied units) step on = no_way on
background_no_reset cmd.StepEvac answer step on = no_way step
background_no_reset cmd.StepCondense (reply.No r) step on = no_way step
background_no_reset cmd.StepCondense (reply.Cancelled i) step on = no_way on
background_no_reset cmd.StepCondense answer step on = no_way on
background_no_reset command answer step on = no_way step

pub background_no_commit : (command : Command) (answer : Reply) → is_background command answer ≡ true → is_acknowledged answer command ≡ true → ⊥
background_no_commit cmd.StepEvac (reply.Copied units) step is = no_way is
background_no_commit cmd.StepEvac answer step is = no_way step
background_no_commit cmd.StepCondense (reply.Synced txg) step is = no_way is
background_no_commit cmd.StepCondense reply.Done step is = no_way is
background_no_commit cmd.StepCondense answer step is = no_way is
background_no_commit command answer step is = no_way step

-- it is a line of a removal or of condensing, and none of the others
pub record IsOfRemoval (command : Command) : Type 0 where
  pub removal : is_of_removal command ≡ true
  pub objects : is_on_objects command ≡ false
  pub table : is_table command ≡ false
  pub pool : is_on_pool command ≡ false

copy_removal : (command : Command) (answer : Reply) → is_copy command answer ≡ true → IsOfRemoval command
copy_removal cmd.StepEvac answer is = record { removal = refl; objects = refl; table = refl; pool = refl }
copy_removal command answer is = no_way is

return_removal : (answer : Reply) (command : Command) → is_return answer command ≡ true → IsOfRemoval command
return_removal (reply.Cancelled i) cmd.Cancel is = record { removal = refl; objects = refl; table = refl; pool = refl }
return_removal (reply.Cancelled i) cmd.StepEvac is = record { removal = refl; objects = refl; table = refl; pool = refl }
return_removal (reply.Cancelled i) command is = no_way is
return_removal answer command is = no_way is

pub moved_removal : (command : Command) (answer : Reply) → copies_or_returns command answer ≡ true → IsOfRemoval command
moved_removal command answer is = by (is_copy command answer) refl is
  where
    by : (b : Bool) → is_copy command answer ≡ b → (b || is_return answer command) ≡ true → IsOfRemoval command
    by true copied on = copy_removal command answer copied
    by false none on = return_removal answer command on

pub background_removal : (command : Command) (answer : Reply) → is_background command answer ≡ true → IsOfRemoval command
background_removal cmd.StepEvac answer is = record { removal = refl; objects = refl; table = refl; pool = refl }
background_removal cmd.StepCondense answer is = record { removal = refl; objects = refl; table = refl; pool = refl }
background_removal command answer is = no_way is

-- ---- lines that write nothing

pub silent_objects : (command : Command) → is_silent command ≡ true → is_on_objects command ≡ false
silent_objects cmd.List on = refl
silent_objects cmd.Status on = refl
silent_objects cmd.Audit on = refl
silent_objects (cmd.Estimate dev) on = refl
silent_objects (cmd.Map index) on = refl
silent_objects cmd.StepDiscard on = refl
silent_objects cmd.StepCondense on = refl
silent_objects command on = no_way on

pub silent_pool : (command : Command) → is_silent command ≡ true → is_on_pool command ≡ true → command ≡ cmd.StepDiscard
silent_pool cmd.List on pool = no_way pool
silent_pool cmd.Status on pool = no_way pool
silent_pool cmd.Audit on pool = no_way pool
silent_pool (cmd.Estimate dev) on pool = no_way pool
silent_pool (cmd.Map index) on pool = no_way pool
silent_pool cmd.StepDiscard on pool = refl
silent_pool cmd.StepCondense on pool = no_way pool
silent_pool command on pool = no_way on

pub silent_removal : (command : Command) → is_silent command ≡ true → is_of_removal command ≡ true → command ≡ cmd.StepCondense
silent_removal cmd.List on removal = no_way removal
silent_removal cmd.Status on removal = no_way removal
silent_removal cmd.Audit on removal = no_way removal
silent_removal (cmd.Estimate dev) on removal = no_way removal
silent_removal (cmd.Map index) on removal = no_way removal
silent_removal cmd.StepDiscard on removal = no_way removal
silent_removal cmd.StepCondense on removal = refl
silent_removal command on removal = no_way on

-- one that is done leaves it told what was committed last, and commits nothing
pub silent_leaves : (command : Command) (answer : Reply) → IsDone answer → is_silent command ≡ true → (is_in_group command || is_background command answer) ≡ true
silent_leaves cmd.List answer done on = refl
silent_leaves cmd.Status answer done on = refl
silent_leaves cmd.Audit answer done on = refl
silent_leaves (cmd.Estimate dev) answer done on = refl
silent_leaves (cmd.Map index) answer done on = refl
silent_leaves cmd.StepDiscard answer done on = refl
silent_leaves cmd.StepCondense (reply.No r) done on = absurd done
silent_leaves cmd.StepCondense answer done on = refl
silent_leaves command answer done on = no_way on

pub silent_no_reset : (command : Command) (answer : Reply) → IsDone answer → is_silent command ≡ true → ends_reset answer command ≡ true → ⊥
silent_no_reset cmd.List answer done on ends = not_ending answer cmd.List ends refl
silent_no_reset cmd.Status answer done on ends = not_ending answer cmd.Status ends refl
silent_no_reset cmd.Audit answer done on ends = not_ending answer cmd.Audit ends refl
silent_no_reset (cmd.Estimate dev) answer done on ends = not_ending answer (cmd.Estimate dev) ends refl
silent_no_reset (cmd.Map index) answer done on ends = not_ending answer (cmd.Map index) ends refl
silent_no_reset cmd.StepDiscard answer done on ends = not_ending answer cmd.StepDiscard ends refl
silent_no_reset cmd.StepCondense (reply.No r) done on ends = absurd done
silent_no_reset cmd.StepCondense answer done on ends = background_no_reset cmd.StepCondense answer refl ends
silent_no_reset command answer done on ends = no_way on

pub silent_no_commit : (command : Command) (answer : Reply) → is_silent command ≡ true → is_acknowledged answer command ≡ true → ⊥
silent_no_commit cmd.Sync answer on is = no_way on
silent_no_commit cmd.Export answer on is = no_way on
silent_no_commit command (reply.Synced txg) on is = no_way is
silent_no_commit command reply.Done on is = no_way is
silent_no_commit command answer on is = no_way is

pub condense_background : (command : Command) (answer : Reply) → command ≡ cmd.StepCondense → IsDone answer → is_background command answer ≡ true
condense_background command answer is done = subst (λ (k : Command). is_background k answer ≡ true) (sym is) (by answer done)
  where
    by : (a : Reply) → IsDone a → is_background cmd.StepCondense a ≡ true
    by (reply.No r) done = absurd done
    by a done = refl

pub tables_silent : (command : Command) → is_table command ≡ true → is_silent command ≡ true
tables_silent cmd.List on = refl
tables_silent cmd.Status on = refl
tables_silent cmd.Audit on = refl
tables_silent (cmd.Estimate dev) on = refl
tables_silent (cmd.Map index) on = refl
tables_silent command on = no_way on

-- ---- a line that ends no removal, and may give one up

pub ends_none : (account : Option OpenPool) (command : Command) → ends_no_removal account command ≡ true → IsOfRemoval command
ends_none account cmd.Cancel on = record { removal = refl; objects = refl; table = refl; pool = refl }
ends_none account cmd.StepEvac on = record { removal = refl; objects = refl; table = refl; pool = refl }
ends_none account cmd.StepCondense on = record { removal = refl; objects = refl; table = refl; pool = refl }
ends_none account command on = no_way on

-- where a device is leaving units are left to copy, so a step does not end its removal
pub left_to_copy : (pool : OpenPool) (command : Command) → command ≡ cmd.StepEvac → ends_no_removal (Some pool) command ≡ true → HasRemoval pool.space → 0 < uncopied_units pool.space
left_to_copy pool command is on removal = some_left (is_evacuating pool.space) (uncopied_units pool.space) (removal_works pool.space removal) (subst (λ (k : Command). ends_no_removal (Some pool) k ≡ true) is on)
  where
    some_left : (leaving : Bool) (n : ℕ) → leaving ≡ true → (not leaving || nat_lt 0 n) ≡ true → 0 < n
    some_left true n removing some = grind (arith, nat_tests, some)
    some_left false n removing some = no_way removing
