-- Whether copies of units of a device that is leaving have the bytes of their units behind a line.
use Rattle.std.proofs.Common.{◌≡◌, ◌⊎◌, inl, inr, ℕ, List, ◌==◌, length, take, Bool, true, false, Option, Some, None, Result, Ok, Err, refl, sym, ◌∙◌, ap, subst, if◌then◌else◌}
use Rattle.std.specs.Prelude.{IfOk, IfSome, MatchBool, OnOk, not, ◌&&◌, ◌||◌}
use Rattle.zr_base.specs.declared.refusal.Refusal.{Refusal}
use Rattle.zr_base.specs.declared.space.CkptPart.TheVariants.{Clear}
use Rattle.zr_base.specs.declared.space.Extent.{Extent}
use Rattle.zr_lines.specs.Stops.{StaysInOneGroup}
use Rattle.zr_model.specs.Objects.{Objects}
use Rattle.zr_model.specs.State.{PoolState, ShelfPart, Empty, Refused, Is}
use Rattle.zr_rules.specs.Places.{is_leaving, state_of_dev}
use Rattle.zr_rules.specs.Roles.{Role, discarded, is_copy_role}
use Rattle.zr_rules.specs.Roles.Role.{Kept}
use Rattle.zr_rules.specs.Space.{Space, role_at}
use Rattle.zr_rules.specs.Steps.{Discards, DiscardsSome, is_among, kept_extents, with_ckpt}
use Rattle.zr_script.specs.declared.command.Command.{Command}
use Rattle.zr_script.specs.declared.command.Command.TheVariants as cmd
use Rattle.zr_script.specs.declared.reply.Reply.{Reply}
use Rattle.zr_script.specs.declared.reply.Reply.TheVariants as reply
use Rattle.zr_shelf.specs.Moments.{World}
use Rattle.zr_sync.specs.Copies.{HasCopies, KeepsCopies}
use Rattle.zr_sync.specs.States.{HoldsState}
use Rattle.zr_sync.specs.declared.fault.Fault.{Fault}
use Rattle.zr_sync.specs.declared.fault.Fault.TheVariants.{No, Stops}
use Rattle.zr_sync.specs.declared.open.OpenPool.{OpenPool}
use Rattle.zr_sync.proofs.SavedRoots.{ckpt_role}
use Rattle.zr_vdev.proofs.Alike.{AreNoNewCopies, copies_none, copies_stay}
use Rattle.zr_vdev.specs.Alike.{CopiesStand}
use Rattle.zr_last.specs.Last.{KeepsRoot}
use Rattle.zr_pool.specs.Behind.{StaysTold, is_in_group, spares_copies}
use Rattle.zr_pool.specs.Ends.{answer_of, is_closing}
use Rattle.zr_pool.specs.Plain.{IsDone, is_background, is_of_removal}
use Rattle.zr_pool.specs.Pools.{AreCopied, IsPartOf, is_evacuating}
use Rattle.zr_pool.specs.Turns.{is_copied, is_on_objects, is_on_pool, is_table, is_told, leaves_copies, none_leaving}
use Rattle.zr_pool.proofs.Groups.{no_way}
use Rattle.zr_pool.proofs.Turning.{left_of}
use Rattle.zr_pool.proofs.Working.{any_leaving}

-- ---- where no device is leaving

never_leaving : (s : Space) → not (is_evacuating s) ≡ true → (d : ℕ) (b : Bool) → is_leaving (state_of_dev s.parts.devs d) ≡ b → b ≡ false
never_leaving s none d true is = no_way (sym (ap not (any_leaving s.parts.devs d is)) ∙ none)
never_leaving s none d false is = refl

-- none is, so there is no copy
pub none_copied : (disks : List (List ℕ)) (pool : Option OpenPool) → none_leaving pool ≡ true → AreCopied pool disks
none_copied disks None none = tt
none_copied disks (Some y) none = copies_none disks y.table.slots y.space (λ d. never_leaving y.space none d (is_leaving (state_of_dev y.space.parts.devs d)) refl)

-- ---- of a line

-- a line that stayed in one group
pub one_group_copies : (sizes : List ℕ) (objects : Objects) (x y : OpenPool) (before now : World) → StaysInOneGroup sizes objects x y before now → KeepsCopies before now x y
one_group_copies sizes objects x y before now (inl stays) h = stays.copies h
one_group_copies sizes objects x y before now (inr behind) h = behind.stays.copies (behind.commits.copies h)

told_copies : (sizes : List ℕ) (objects : Objects) (command : Command) (x y : OpenPool) (before now : World) → StaysTold sizes objects command x y before now → KeepsCopies before now x y
told_copies sizes objects command x y before now (inl stays) = one_group_copies sizes objects x y before now stays
told_copies sizes objects command x y before now (inr step) = step.1.1.1.1

-- ---- a step of discarding: what a checkpoint kept waits from there on, and is no copy

copy_before : (b : Bool) (r : Role) → is_copy_role (if b then discarded r else r) ≡ true → is_copy_role r ≡ true
copy_before false r is = is
copy_before true Kept is = no_way is
copy_before true r is = is

discards_no_copy : (old new : Space) (es : List (ℕ × Extent)) (b : Bool) → MatchBool b (new ≡ with_ckpt old Clear) (Discards old new es) → AreNoNewCopies old new
discards_no_copy old new es true same = subst (AreNoNewCopies old) (sym same) (record { row = λ d. refl; entries = λ d. refl; marks = λ d u is. is; copy = λ d u is. subst (λ (r : Role). is_copy_role r ≡ true) (ckpt_role old Clear d u) is })
discards_no_copy old new es false h = record {
  row = λ d. (h.frame.each d).row;
  entries = λ d. (h.frame.each d).entries;
  marks = λ d u is. h.fresh d u ∙ is;
  copy = λ d u is. copy_before (is_among es d u) (role_at old d u) (subst (λ (r : Role). is_copy_role r ≡ true) (h.roles d u) is);
}

pub step_copies : (disks : List (List ℕ)) (x y : OpenPool) (units : ℕ) → KeepsRoot x y → DiscardsSome x.space units y.space → HasCopies disks x → HasCopies disks y
step_copies disks x y units root steps h =
    subst (λ t. CopiesStand disks t.slots y.space) (sym root.table)
    (copies_stay disks x.table.slots x.space y.space (discards_no_copy x.space y.space (take 64 (kept_extents x.space)) (length (take 64 (kept_extents x.space)) == 0) steps.1) h)

-- ---- lines of a removal

-- no other is one
pub removal_alone : (command : Command) → is_of_removal command ≡ true → (is_on_objects command ≡ true) ⊎ ((is_table command ≡ true) ⊎ (is_on_pool command ≡ true)) → ⊥
removal_alone (cmd.Remove dev) on (inl is) = no_way is
removal_alone (cmd.Remove dev) on (inr (inl is)) = no_way is
removal_alone (cmd.Remove dev) on (inr (inr is)) = no_way is
removal_alone cmd.Cancel on (inl is) = no_way is
removal_alone cmd.Cancel on (inr (inl is)) = no_way is
removal_alone cmd.Cancel on (inr (inr is)) = no_way is
removal_alone cmd.StepEvac on (inl is) = no_way is
removal_alone cmd.StepEvac on (inr (inl is)) = no_way is
removal_alone cmd.StepEvac on (inr (inr is)) = no_way is
removal_alone cmd.StepCondense on (inl is) = no_way is
removal_alone cmd.StepCondense on (inr (inl is)) = no_way is
removal_alone cmd.StepCondense on (inr (inr is)) = no_way is
removal_alone command on which = no_way on

either_true : (a b : Bool) → (a || b) ≡ true → (a ≡ true) ⊎ (b ≡ true)
either_true true b is = inl refl
either_true false b is = inr is

-- ---- lines that add a device or are an upgrade

spares_alone : (command : Command) → spares_copies command ≡ true → (is_on_objects command ≡ true) ⊎ (is_table command ≡ true) → ⊥
spares_alone (cmd.Add dev) on (inl is) = no_way is
spares_alone (cmd.Add dev) on (inr is) = no_way is
spares_alone cmd.Upgrade on (inl is) = no_way is
spares_alone cmd.Upgrade on (inr is) = no_way is
spares_alone command on which = no_way on

spares_pool : (command : Command) → spares_copies command ≡ true → is_on_pool command ≡ true
spares_pool (cmd.Add dev) on = refl
spares_pool cmd.Upgrade on = refl
spares_pool command on = no_way on

abbrev ChangesDevices : Command → Type 0
ChangesDevices command = (spares_copies command || is_of_removal command) ≡ true

-- one of these, or of a removal, is on no object and no table
pub copies_elsewhere : (command : Command) → ChangesDevices command → (is_on_objects command ≡ true) ⊎ (is_table command ≡ true) → ⊥
copies_elsewhere command on which = elim (either_true (spares_copies command) (is_of_removal command) on) [
  | inl spares ↦ spares_alone command spares which
  | inr removes ↦ removal_alone command removes (elim which [ inl is ↦ inl is | inr is ↦ inr (inl is) ])
]

-- it is one of these where it is on a whole pool
pub copies_on_pool : (command : Command) → ChangesDevices command → is_on_pool command ≡ true → spares_copies command ≡ true
copies_on_pool command on pool = elim (either_true (spares_copies command) (is_of_removal command) on) [
  | inl spares ↦ spares
  | inr removes ↦ absurd (removal_alone command removes (inr (inr pool)))
]

pub copies_somewhere : (command : Command) → ChangesDevices command → is_on_pool command ≡ false → is_of_removal command ≡ false → ⊥
copies_somewhere command on no_pool no_removal = elim (either_true (spares_copies command) (is_of_removal command) on) [
  | inl spares ↦ no_way (sym no_pool ∙ spares_pool command spares)
  | inr removes ↦ no_way (sym no_removal ∙ removes)
]

-- a line that leaves copies works in the group that is open or commits it, adds a device, is an upgrade, or is of a removal
in_background : (command : Command) (answer : Reply) → is_background command answer ≡ true → is_of_removal command ≡ true
in_background cmd.StepEvac answer is = refl
in_background cmd.StepCondense answer is = refl
in_background command answer is = no_way is

or_second : (a b : Bool) → b ≡ true → (a || b) ≡ true
or_second true b is = refl
or_second false b is = is

both_true : (a b : Bool) → (a && b) ≡ true → (a ≡ true) × (b ≡ true)
both_true true b is = (refl, is)
both_true false b is = no_way is

leaves_how : (command : Command) (answer : Reply) → IsDone answer → leaves_copies command answer ≡ true → (is_in_group command ≡ true) ⊎ ChangesDevices command
leaves_how command (reply.No r) done is = absurd done
leaves_how (cmd.Remove dev) answer done is = inr refl
leaves_how (cmd.Add dev) answer done is = inr refl
leaves_how cmd.Upgrade answer done is = inr refl
leaves_how command answer done is = elim (either_true (is_in_group command) (is_background command answer) is) [
  | inl group ↦ inl group
  | inr step ↦ inr (or_second (spares_copies command) (is_of_removal command) (in_background command answer step))
]

-- ---- where a pool is open

left_copied : (closing : Bool) (y : OpenPool) (disks : List (List ℕ)) → HasCopies disks y → AreCopied (left_of closing y) disks
left_copied true y disks h = tt
left_copied false y disks h = h

module _ (sizes : List ℕ) (old new : World) (part : ShelfPart) (copies : Bool) (command : Command) (x y : OpenPool) (held : IsPartOf old.now.seen x part) (stood : copies ≡ true → HasCopies old.now.seen x) where
  told_state : (part : ShelfPart) → IsPartOf old.now.seen x part → is_told part ≡ true → (p : PoolState) × HoldsState (Unit {0}) old.now.seen x p
  told_state (Is p) holds is = (p, holds)
  told_state Empty holds is = no_way is
  told_state (Refused r) holds is = no_way is

  pub open_copied : (r : Result (Option Reply) Fault) → IfOk r (λ found. IfSome found IsDone) → (is_in_group command ≡ true → (p : PoolState) → HoldsState (Unit {0}) old.now.seen x p → OnOk r (StaysTold sizes p.objects command x y old new))
      → ((p : PoolState) → HoldsState (Unit {0}) old.now.seen x p → (n : Refusal) → r ≡ Err (No n) → StaysInOneGroup sizes p.objects x y old new)
      → (ChangesDevices command → OnOk r (KeepsCopies old new x y))
      → IfOk (answer_of r) (λ found. IfSome found (λ answer. is_copied true part copies command answer (left_of (is_closing command r) y) ≡ true → AreCopied (left_of (is_closing command r) y) new.now.seen))
  open_copied (Ok None) done group group_no devices = tt
  open_copied (Ok (Some answer)) done group group_no devices = λ is.
      let pool = left_of (is_closing command (Ok (Some answer))) y in
      elim (either_true (none_leaving pool) (copies && (is_told part && leaves_copies command answer)) is) [
        | inl none ↦ none_copied new.now.seen pool none
        | inr stays ↦ let all = both_true copies (is_told part && leaves_copies command answer) stays in
            let told = both_true (is_told part) (leaves_copies command answer) all.1 in
            let p = told_state part held told.0 in
            left_copied (is_closing command (Ok (Some answer))) y new.now.seen (elim (leaves_how command answer done told.1) [
              | inl works ↦ told_copies sizes p.0.objects command x y old new (group works p.0 p.1) (stood all.0)
              | inr changes ↦ devices changes (stood all.0)
            ])
      ]
  open_copied (Err (No n)) done group group_no devices = λ is.
      elim (either_true (none_leaving (Some y)) (copies && (is_told part && true)) is) [
        | inl none ↦ none_copied new.now.seen (Some y) none
        | inr stays ↦ let all = both_true copies (is_told part && true) stays in
            let p = told_state part held (both_true (is_told part) true all.1).0 in
            one_group_copies sizes p.0.objects x y old new (group_no p.0 p.1 n refl) (stood all.0)
      ]
  open_copied (Err (Stops s)) done group group_no devices = tt

-- ---- where none is open

module _ (now : World) (part : ShelfPart) (copies : Bool) (command : Command) (pool : Option OpenPool) where
  closed_none : (answer : Reply) → is_copied false part copies command answer pool ≡ true → AreCopied pool now.now.seen
  closed_none answer is = elim (either_true (none_leaving pool) false is) [
    | inl none ↦ none_copied now.now.seen pool none
    | inr never ↦ no_way never
  ]

  pub closed_copied : (r : Result (Option Reply) Fault) → IfOk (answer_of r) (λ found. IfSome found (λ answer. is_copied false part copies command answer pool ≡ true → AreCopied pool now.now.seen))
  closed_copied (Ok None) = tt
  closed_copied (Ok (Some answer)) = closed_none answer
  closed_copied (Err (No n)) = closed_none (reply.No n)
  closed_copied (Err (Stops s)) = tt
