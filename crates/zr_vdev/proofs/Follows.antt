-- What calls of a store in a row leave alone.
use Rattle.std.proofs.Common.{◌≡◌, ℕ, ◌≤◌, ◌+◌, ◌/◌, ◌||◌, Bool, true, false, List, [], ◌∷◌, ◌++◌, length, Option, Some, None, inl, inr, ◌<◌, refl, sym, ◌∙◌, ap, subst, arith}
use Rattle.std.specs.Prelude.{if◌then◌else◌, IfSome}
use Rattle.std.proofs.lemmas.Bool.Decides.{nat_tests}
use Rattle.std.specs.Map.{remove_entry}
use Rattle.std.proofs.Math.Path.{fun_ext}
use Rattle.zr_base.specs.declared.space.Dva.{Dva}
use Rattle.zr_base.specs.declared.space.DevRow.{DevRow}
use Rattle.zr_base.specs.declared.space.Entry.{Entry}
use Rattle.zr_bptr.specs.declared.Bptr.{Bptr}
use Rattle.zr_store.specs.Causes.{Spends, IsNoRun}
use Rattle.zr_store.specs.Store.{is_size}
use Rattle.zr_rules.specs.Placement.{HasNoPlacement}
use Rattle.zr_cache.specs.Entries.{entries, is_key, capacity}
use Rattle.zr_cache.proofs.Keeping.{holds-forgotten}
use Rattle.zr_vdev.specs.Runs.{account_of}
use Rattle.zr_vdev.specs.Caches.{IsRead, AreRead}
use Rattle.zr_base.specs.declared.space.DevPart.{DevPart}
use Rattle.zr_base.specs.declared.space.Policy.{Policy}
use Rattle.zr_shelf.specs.Counts.{Counts, NoneFell}
use Rattle.zr_shelf.specs.Disks.{Stand, PendingWrite}
use Rattle.zr_shelf.specs.Moments.{World, IsStill}
use Rattle.zr_shelf.specs.Doings.{Adds, IsAdded, WritesOnly, latest}
use Rattle.zr_shelf.specs.Doings.Adds.{added_none, added}
use Rattle.zr_shelf.proofs.Doings.{writes_nothing, writes_more, writes_still}
use Rattle.zr_shelf.proofs.Runs.{still_trans}
use Rattle.zr_rules.specs.Places.{is_fresh, in_address, part_of, units_of_dev}
use Rattle.zr_rules.specs.Devices.{Devices}
use Rattle.zr_rules.specs.Roles.{Role, is_free_role, is_held_role, is_deferred_role, freed, kept_of, dropped}
use Rattle.zr_rules.specs.Roles.Role.{Free, FreshLive, Meta as MetaRole}
use Rattle.zr_rules.specs.Space.{Space, role_at}
use Rattle.zr_rules.specs.Frees.{Chain, IsSamePart, IsSameFrame, IsSameRoot, marks}
use Rattle.zr_rules.specs.Resolve.{is_resolved}
use Rattle.zr_rules.specs.Columns.{free_units, free_of}
use Rattle.zr_rules.specs.Equation.{devices_in}
use Rattle.zr_space.specs.Drops.{KeepsParts}
use Rattle.zr_view.specs.Views.{slot_of}
use Rattle.zr_cache.specs.declared.table.Cache.{Cache}
use Rattle.zr_vdev.specs.declared.kind.Kind.{Kind}
use Rattle.zr_vdev.specs.declared.kind.Kind.TheVariants as kinds
use Rattle.zr_vdev.specs.Alike.{CopiesStand}
use Rattle.zr_vdev.specs.Events.{Event, Happen, Happens}
use Rattle.zr_vdev.specs.Events.Event.{Taken, Given}
use Rattle.zr_vdev.specs.Puts.{Takes, GivesBack, MayTake, MayPut, IsWriteOf}
use Rattle.zr_vdev.specs.Stores.{GivesBackLost, IsInUse, may_write, may_change, is_current, is_open_role, IsWriteInto, KeepsRows, KeepsMarks, KeepsHeld, KeepsOthers, Continues, GivesNothing, GoesOnReading}
use Rattle.zr_vdev.proofs.Taking.{takes_frame, takes_place}
use Rattle.zr_vdev.proofs.Rooms.{room_taken, room_kept, is_short, no_room}
use Rattle.zr_vdev.proofs.Alike.{copies_stay, given_no_copy, copies_put}
use Rattle.zr_vdev.proofs.Held.{read_same}
use Rattle.zr_vdev.proofs.Uses.{IsGiven, taken_was_free, take_keeps, given_roles}

-- ---- writes

widen_step : (A B : PendingWrite → Type 0) → ((w : PendingWrite) → A w → B w) → (old new : Stand) → Adds A old new → Adds B old new
widen_step A B wider old new (added_none is) = added_none is
widen_step A B wider old new (added w may written) = added w (wider w may) written

widen_all : (A B : PendingWrite → Type 0) → ((w : PendingWrite) → A w → B w) → (more : List Stand) (first : Stand) → IsAdded A more first → IsAdded B more first
widen_all A B wider [] first h = tt
widen_all A B wider (s ∷ more) first h = (widen_step A B wider (latest more first) s h.0, widen_all A B wider more first h.1)

pub widen : (A B : PendingWrite → Type 0) → ((w : PendingWrite) → A w → B w) → (old new : World) → WritesOnly A old new → WritesOnly B old new
widen A B wider old new h = record { more = h.more; joins = h.joins; added = widen_all A B wider h.more old.now h.added }

-- ---- rows

pub frame_rows : (old new : Space) → IsSameFrame old new → KeepsRows old new
frame_rows old new f = record { version = f.version; cond = f.cond; ckpt = f.ckpt; synced = f.synced; devices = f.devices; each = f.each; lawful = f.lawful }

pub parts_rows : (old new : Space) → KeepsParts old new → KeepsRows old new
parts_rows old new f = record { version = f.version; cond = f.cond; ckpt = f.ckpt; synced = f.synced; devices = f.devices; each = f.each; lawful = λ was. f.lawful }

same_parts : (a b c : DevPart) → IsSamePart a b → IsSamePart b c → IsSamePart a c
same_parts a b c p q = record { row = q.row ∙ p.row; entries = q.entries ∙ p.entries; counts = q.counts ∙ p.counts; late1 = q.late1 ∙ p.late1; late2 = q.late2 ∙ p.late2 }

rows_itself : (s : Space) → KeepsRows s s
rows_itself s = record { version = refl; cond = refl; ckpt = refl; synced = refl; devices = refl; each = λ d. record { row = refl; entries = refl; counts = refl; late1 = refl; late2 = refl }; lawful = λ l. l }

rows_more : (a b c : Space) → KeepsRows a b → KeepsRows b c → KeepsRows a c
rows_more a b c p q = record {
  version = q.version ∙ p.version;
  cond = q.cond ∙ p.cond;
  ckpt = q.ckpt ∙ p.ckpt;
  synced = q.synced ∙ p.synced;
  devices = q.devices ∙ p.devices;
  each = λ d. same_parts (part_of a.parts.devs d) (part_of b.parts.devs d) (part_of c.parts.devs d) (p.each d) (q.each d);
  lawful = λ l. q.lawful (p.lawful l);
}

-- ---- roles

marks_itself : (kind : Kind) (s : Space) → KeepsMarks kind s s
marks_itself kinds.Block s = λ d u is. is
marks_itself kinds.Meta s = λ d u. refl

marks_more : (kind : Kind) (a b c : Space) → KeepsMarks kind a b → KeepsMarks kind b c → KeepsMarks kind a c
marks_more kinds.Block a b c p q = λ d u is. q d u (p d u is)
marks_more kinds.Meta a b c p q = λ d u. q d u ∙ p d u

takes_marks : (kind : Kind) (policy : Policy) (want : ℕ) (old new : Space) (at : Dva) → Takes kind policy want old new at → KeepsMarks kind old new
takes_marks kinds.Block policy want old new at takes = λ d u is. takes.fresh d u ∙ is
takes_marks kinds.Meta policy want old new at takes = λ d u. takes.fresh d u

or_true : (a b : Bool) → a ≡ true → (a || b) ≡ true
or_true a b is = grind (arith, nat_tests, is)

gives_marks : (kind : Kind) (old new : Space) (a : Dva) (birth : ℕ) → GivesBack kind old new a birth → KeepsMarks kind old new
gives_marks kinds.Block old new a birth gives = λ d u is. gives.fresh d u ∙ or_true (is_fresh old.parts.devs d u) (marks old a d u) is
gives_marks kinds.Meta old new a birth gives = λ d u. gives.0.fresh d u

pub root_itself : (s : Space) → IsSameRoot s s
root_itself s = record { held = λ d u. refl; kept = λ d u. refl; fresh = λ d u. refl }

root_more : (a b c : Space) → IsSameRoot a b → IsSameRoot b c → IsSameRoot a c
root_more a b c p q = record { held = λ d u. q.held d u ∙ p.held d u; kept = λ d u. q.kept d u ∙ p.kept d u; fresh = λ d u. q.fresh d u ∙ p.fresh d u }

gives_root : (kind : Kind) (old new : Space) (a : Dva) (birth : ℕ) → GivesBack kind old new a birth → IsSameRoot old new
gives_root kinds.Block old new a birth gives = gives.frame.root
gives_root kinds.Meta old new a birth gives = gives.1.root

held_itself : (kind : Kind) (s : Space) → KeepsHeld kind s s
held_itself kinds.Block s = tt
held_itself kinds.Meta s = λ d u. refl

held_more : (kind : Kind) (a b c : Space) → KeepsHeld kind a b → KeepsHeld kind b c → KeepsHeld kind a c
held_more kinds.Block a b c p q = tt
held_more kinds.Meta a b c p q = λ d u. q d u ∙ p d u

if_yes : {A : Type 0} (b : Bool) (x y : A) → b ≡ true → (if b then x else y) ≡ x
if_yes true x y h = refl
if_yes false x y h = cc

-- what a block takes, and what metadata takes
abbrev role_taken : Kind → Role
role_taken kinds.Block = FreshLive
role_taken kinds.Meta = MetaRole

pub taken_role : (kind : Kind) (policy : Policy) (want : ℕ) (old new : Space) (at : Dva) → Takes kind policy want old new at → (d u : ℕ) → in_address at d u ≡ true → role_at new d u ≡ role_taken kind
taken_role kinds.Block policy want old new at takes d u is = takes.roles d u ∙ if_yes (in_address at d u) FreshLive (role_at old d u) is
taken_role kinds.Meta policy want old new at takes d u is = takes.roles d u ∙ if_yes (in_address at d u) MetaRole (role_at old d u) is

takes_held : (kind : Kind) (policy : Policy) (want : ℕ) (old new : Space) (at : Dva) → Takes kind policy want old new at → KeepsHeld kind old new
takes_held kinds.Block policy want old new at takes = tt
takes_held kinds.Meta policy want old new at takes = λ d u. (elim (in_address at d u) as (λ (b : Bool). in_address at d u ≡ b → is_held_role (role_at new d u) ≡ is_held_role (role_at old d u)) [
  | true ↦ λ is. ap is_held_role (taken_role kinds.Meta policy want old new at takes d u is) ∙ sym (ap is_held_role (taken_was_free kinds.Meta policy want old new at takes d u is))
  | false ↦ λ is. ap is_held_role (take_keeps kinds.Meta policy want old new at takes d u is)
]) refl

dropped_held : (r : Role) → is_held_role (dropped r) ≡ is_held_role r
dropped_held r = grind (arith, nat_tests)

given_held : (old new : Role) → IsGiven kinds.Meta old new → is_held_role new ≡ is_held_role old
given_held old new (inl same) = ap is_held_role same
given_held old new (inr is) = ap is_held_role is ∙ dropped_held old

gives_held : (kind : Kind) (old new : Space) (a : Dva) (birth : ℕ) → GivesBack kind old new a birth → KeepsHeld kind old new
gives_held kinds.Block old new a birth gives = tt
gives_held kinds.Meta old new a birth gives = λ d u. given_held (role_at old d u) (role_at new d u) (given_roles kinds.Meta old new a birth gives d u)

-- what is taken waits for no group
role_taken_waits : (kind : Kind) → is_deferred_role (role_taken kind) ≡ true → ⊥
role_taken_waits kinds.Block h = cc
role_taken_waits kinds.Meta h = cc

takes_waits : (kind : Kind) (policy : Policy) (want : ℕ) (old new : Space) (at : Dva) → Takes kind policy want old new at → (d u : ℕ) → is_deferred_role (role_at new d u) ≡ true → is_deferred_role (role_at old d u) ≡ true
takes_waits kind policy want old new at takes d u waits = (elim (in_address at d u) as (λ (b : Bool). in_address at d u ≡ b → is_deferred_role (role_at old d u) ≡ true) [
  | true ↦ λ is. absurd (role_taken_waits kind (sym (ap is_deferred_role (taken_role kind policy want old new at takes d u is)) ∙ waits))
  | false ↦ λ is. sym (ap is_deferred_role (take_keeps kind policy want old new at takes d u is)) ∙ waits
]) refl

-- a put that is done gives nothing back, where none failed before
pub put_gives_nothing : (kind : Kind) (policy : Policy) (want : ℕ) (start old mid new : Space) (lost_start lost : Option Dva) (txg : ℕ) (at : Dva) → GivesNothing lost_start lost start old → GivesBackLost kind old mid lost txg → Takes kind policy want mid new at → GivesNothing lost_start None start new
put_gives_nothing kind policy want start old mid new lost_start lost txg at so_far gives takes none =
    let before = so_far none in
    let same : mid ≡ old = subst (λ (l : Option Dva). GivesBackLost kind old mid l txg) before.0 gives in
    (refl, λ d u waits. before.1 d u (sym (ap (λ (s : Space). is_deferred_role (role_at s d u)) same) ∙ takes_waits kind policy want mid new at takes d u waits))

-- events of one time after those of another
pub chain_then : (kind : Kind) (xs ys : List Event) (a b c : Space) → Chain (Happens kind) xs a b → Chain (Happens kind) ys b c → Chain (Happens kind) (xs ++ ys) a c
chain_then kind [] ys a b c first next = subst (λ (s : Space). Chain (Happens kind) ys s c) first next
chain_then kind (x ∷ xs) ys a b c (mid, step, rest) next = (mid, step, chain_then kind xs ys mid b c rest next)

pub happen_then : (kind : Kind) (a b c : Space) → Happen kind a b → Happen kind b c → Happen kind a c
happen_then kind a b c p q = (p.0 ++ q.0, chain_then kind p.0 q.0 a b c p.1 q.1)

pub others_itself : (kind : Kind) (s : Space) → KeepsOthers kind s s
others_itself kind s = record { happened = ([], refl); rows = rows_itself s; root = root_itself s; marks = marks_itself kind s; held = held_itself kind s; stays = λ d u may. refl; writable = λ d u may. may }

pub others_more : (kind : Kind) (a b c : Space) → KeepsOthers kind a b → KeepsOthers kind b c → KeepsOthers kind a c
others_more kind a b c p q = record {
  happened = happen_then kind a b c p.happened q.happened;
  rows = rows_more a b c p.rows q.rows;
  root = root_more a b c p.root q.root;
  marks = marks_more kind a b c p.marks q.marks;
  held = held_more kind a b c p.held q.held;
  stays = λ d u may. let first = p.stays d u may in q.stays d u (ap (may_change kind) first ∙ may) ∙ first;
  writable = λ d u may. p.writable d u (q.writable d u may);
}

free_written : (kind : Kind) → may_write kind Free ≡ true
free_written kinds.Block = refl
free_written kinds.Meta = refl

free_changed : (kind : Kind) → may_change kind Free ≡ true
free_changed kinds.Block = refl
free_changed kinds.Meta = refl

true_false : true ≡ false → ⊥
true_false e = cc

-- a role that the store does not change is not given back
unchanged : (kind : Kind) (old new : Role) → IsGiven kind old new → may_change kind old ≡ false → new ≡ old
unchanged kinds.Block old new (inl same) may = same
unchanged kinds.Block old new (inr (inl is)) may = is ∙ grind (arith, nat_tests, may)
unchanged kinds.Block old new (inr (inr is)) may = is ∙ grind (arith, nat_tests, may)
unchanged kinds.Meta old new (inl same) may = same
unchanged kinds.Meta old new (inr is) may = is ∙ grind (arith, nat_tests, may)

freed_written : (r : Role) → is_open_role (freed r) ≡ true → is_open_role r ≡ true
freed_written r may = grind (arith, nat_tests, may)

kept_written : (r : Role) → is_open_role (kept_of r) ≡ true → is_open_role r ≡ true
kept_written r may = grind (arith, nat_tests, may)

dropped_written : (r : Role) → is_free_role (dropped r) ≡ true → is_free_role r ≡ true
dropped_written r free = grind (arith, nat_tests, free)

-- what may be written then might be written before
written_before : (kind : Kind) (old new : Role) → IsGiven kind old new → may_write kind new ≡ true → may_write kind old ≡ true
written_before kinds.Block old new (inl same) may = sym (ap is_open_role same) ∙ may
written_before kinds.Block old new (inr (inl is)) may = freed_written old (sym (ap is_open_role is) ∙ may)
written_before kinds.Block old new (inr (inr is)) may = kept_written old (sym (ap is_open_role is) ∙ may)
written_before kinds.Meta old new (inl same) may = sym (ap is_free_role same) ∙ may
written_before kinds.Meta old new (inr is) may = dropped_written old (sym (ap is_free_role is) ∙ may)

freed_free : (r : Role) → is_free_role r ≡ true → is_free_role (freed r) ≡ true
freed_free r free = grind (arith, nat_tests, free)

kept_free : (r : Role) → is_free_role r ≡ true → is_free_role (kept_of r) ≡ true
kept_free r free = grind (arith, nat_tests, free)

dropped_free : (r : Role) → is_free_role r ≡ true → is_free_role (dropped r) ≡ true
dropped_free r free = grind (arith, nat_tests, free)

-- what is free stays free
still_free : (kind : Kind) (old new : Role) → IsGiven kind old new → is_free_role old ≡ true → is_free_role new ≡ true
still_free kinds.Block old new (inl same) free = ap is_free_role same ∙ free
still_free kinds.Block old new (inr (inl is)) free = ap is_free_role is ∙ freed_free old free
still_free kinds.Block old new (inr (inr is)) free = ap is_free_role is ∙ kept_free old free
still_free kinds.Meta old new (inl same) free = ap is_free_role same ∙ free
still_free kinds.Meta old new (inr is) free = ap is_free_role is ∙ dropped_free old free

if_true : {A : Type 0} (b : Bool) (x y : A) → b ≡ true → (if b then x else y) ≡ x
if_true true x y h = refl
if_true false x y h = cc

pub takes_others : (kind : Kind) (policy : Policy) (want : ℕ) (old new : Space) (at : Dva) → Takes kind policy want old new at → KeepsOthers kind old new
takes_others kind policy want old new at takes = record {
  happened = (Taken policy want at ∷ [], (new, takes, refl));
  rows = frame_rows old new (takes_frame kind policy want old new at takes);
  root = (takes_frame kind policy want old new at takes).root;
  marks = takes_marks kind policy want old new at takes;
  held = takes_held kind policy want old new at takes;
  stays = λ d u may. (elim (in_address at d u) as (λ (b : Bool). in_address at d u ≡ b → role_at new d u ≡ role_at old d u) [
    | true ↦ λ is. absurd (true_false (sym (ap (may_change kind) (taken_was_free kind policy want old new at takes d u is) ∙ free_changed kind) ∙ may))
    | false ↦ λ is. take_keeps kind policy want old new at takes d u is
  ]) refl;
  writable = λ d u may. (elim (in_address at d u) as (λ (b : Bool). in_address at d u ≡ b → may_write kind (role_at old d u) ≡ true) [
    | true ↦ λ is. ap (may_write kind) (taken_was_free kind policy want old new at takes d u is) ∙ free_written kind
    | false ↦ λ is. sym (ap (may_write kind) (take_keeps kind policy want old new at takes d u is)) ∙ may
  ]) refl;
}

give_rows : (kind : Kind) (old new : Space) (a : Dva) (birth : ℕ) → GivesBack kind old new a birth → KeepsRows old new
give_rows kinds.Block old new a birth gives = frame_rows old new gives.frame
give_rows kinds.Meta old new a birth gives = parts_rows old new gives.1

pub gives_others : (kind : Kind) (old new : Space) (a : Dva) (birth : ℕ) → IsInUse kind old a → GivesBack kind old new a birth → KeepsOthers kind old new
gives_others kind old new a birth used gives = record {
  happened = (Given a birth ∷ [], (new, record { used = used; gives = gives }, refl));
  rows = give_rows kind old new a birth gives;
  root = gives_root kind old new a birth gives;
  marks = gives_marks kind old new a birth gives;
  held = gives_held kind old new a birth gives;
  stays = λ d u may. unchanged kind (role_at old d u) (role_at new d u) (given_roles kind old new a birth gives d u) may;
  writable = λ d u may. written_before kind (role_at old d u) (role_at new d u) (given_roles kind old new a birth gives d u) may;
}

-- ---- metadata, while blocks are put and given back

freed_current : (r : Role) → is_current (freed r) ≡ is_current r
freed_current r = grind (arith, nat_tests)

kept_current : (r : Role) → is_current (kept_of r) ≡ is_current r
kept_current r = grind (arith, nat_tests)

given_current : (old new : Role) → IsGiven kinds.Block old new → is_current new ≡ is_current old
given_current old new (inl same) = ap is_current same
given_current old new (inr (inl is)) = ap is_current is ∙ freed_current old
given_current old new (inr (inr is)) = ap is_current is ∙ kept_current old

event_current : (e : Event) (old new : Space) → Happens kinds.Block e old new → (d u : ℕ) → is_current (role_at new d u) ≡ is_current (role_at old d u)
event_current (Taken policy want at) old new takes d u = (elim (in_address at d u) as (λ (b : Bool). in_address at d u ≡ b → is_current (role_at new d u) ≡ is_current (role_at old d u)) [
  | true ↦ λ is. ap is_current (taken_role kinds.Block policy want old new at takes d u is) ∙ sym (ap is_current (taken_was_free kinds.Block policy want old new at takes d u is))
  | false ↦ λ is. ap is_current (take_keeps kinds.Block policy want old new at takes d u is)
]) refl
event_current (Given a birth) old new gave d u = given_current (role_at old d u) (role_at new d u) (given_roles kinds.Block old new a birth gave.gives d u)

events_current : (events : List Event) (old new : Space) → Chain (Happens kinds.Block) events old new → (d u : ℕ) → is_current (role_at new d u) ≡ is_current (role_at old d u)
events_current [] old new same d u = ap (λ (s : Space). is_current (role_at s d u)) same
events_current (x ∷ xs) old new (mid, step, rest) d u = events_current xs mid new rest d u ∙ event_current x old mid step d u

-- the same units are metadata of the current root
pub blocks_current : (old new : Space) → KeepsOthers kinds.Block old new → (d u : ℕ) → is_current (role_at new d u) ≡ is_current (role_at old d u)
blocks_current old new others d u = events_current others.happened.0 old new others.happened.1 d u

-- ---- room

pub takes_room : (kind : Kind) (policy : Policy) (want : ℕ) (old new : Space) (at : Dva) → Takes kind policy want old new at → at.len ≡ want → free_units old ≤ free_units new + want
takes_room kind policy want old new at takes len =
    let frame = takes_frame kind policy want old new at takes in
    let r = room_taken old new frame.devices (λ d. (frame.each d).row) at (λ d u free out. ap is_free_role (take_keeps kind policy want old new at takes d u out) ∙ free) in
    omega (arith, r, len)

pub gives_room : (kind : Kind) (old new : Space) (a : Dva) (birth : ℕ) → GivesBack kind old new a birth → free_units old ≤ free_units new
gives_room kind old new a birth gives =
    let rows = give_rows kind old new a birth gives in
    room_kept old new rows.devices (λ d. (rows.each d).row) (λ d u free. still_free kind (role_at old d u) (role_at new d u) (given_roles kind old new a birth gives d u) free)

-- ---- the writes of a call

pub write_into : (kind : Kind) (policy : Policy) (want : ℕ) (slots : List (Option ℕ)) (old new : Space) (at : Dva) → 0 < want → Takes kind policy want old new at → (before now : World) → WritesOnly (IsWriteOf slots at) before now → WritesOnly (IsWriteInto kind slots old) before now
write_into kind policy want slots old new at some takes before now writes =
    let len = (takes_place kind policy want old new at takes).len in
    widen (IsWriteOf slots at) (IsWriteInto kind slots old)
    (λ w is. record { at = at; is = is; some = omega (arith, len, some); open_units = λ u in_it. ap (may_write kind) (taken_was_free kind policy want old new at takes at.dev u in_it) ∙ free_written kind })
    before now writes

pub narrower : (kind : Kind) (slots : List (Option ℕ)) (old mid : Space) → KeepsOthers kind old mid → (before now : World) → WritesOnly (IsWriteInto kind slots mid) before now → WritesOnly (IsWriteInto kind slots old) before now
narrower kind slots old mid others before now writes =
    widen (IsWriteInto kind slots mid) (IsWriteInto kind slots old)
    (λ w into. record { at = into.at; is = into.is; some = into.some; open_units = λ u in_it. others.writable into.at.dev u (into.open_units u in_it) })
    before now writes

-- ---- calls in a row

pub no_fall : (c : Counts) → NoneFell c c
no_fall c = record { disk = omega arith; attach = omega arith; input = omega arith; output = omega arith }

more_falls : (a b c : Counts) → NoneFell a b → NoneFell b c → NoneFell a c
more_falls a b c p q =
    let d = p.disk in let e = q.disk in
    let f = p.attach in let g = q.attach in
    let h = p.input in let i = q.input in
    let j = p.output in let k = q.output in
    record { disk = omega (arith, d, e); attach = omega (arith, f, g); input = omega (arith, h, i); output = omega (arith, j, k) }

pub continues_itself : (kind : Kind) (slots : List (Option ℕ)) (sizes : List ℕ) (counts : Counts) (told : Type 0) (world : World) (s : Space) (c : Cache) → Continues kind slots sizes sizes counts counts told told world world s s c c
continues_itself kind slots sizes counts told world s c = record {
  sizes = refl;
  none_fell = no_fall counts;
  told = λ t. t;
  space = others_itself kind s;
  written = λ t. writes_nothing (IsWriteInto kind slots s) world;
  read = λ t r. r;
  copies = λ t stand. stand;
  room = refl;
}

pub continues_more : (kind : Kind) (slots : List (Option ℕ)) (n1 n2 n3 : List ℕ) (c1 c2 c3 : Counts) (t1 t2 t3 : Type 0) (w1 w2 w3 : World) (s1 s2 s3 : Space) (k1 k2 k3 : Cache)
    → Continues kind slots n1 n2 c1 c2 t1 t2 w1 w2 s1 s2 k1 k2 → Continues kind slots n2 n3 c2 c3 t2 t3 w2 w3 s2 s3 k2 k3 → Continues kind slots n1 n3 c1 c3 t1 t3 w1 w3 s1 s3 k1 k3
continues_more kind slots n1 n2 n3 c1 c2 c3 t1 t2 t3 w1 w2 w3 s1 s2 s3 k1 k2 k3 p q = record {
  sizes = q.sizes ∙ p.sizes;
  none_fell = more_falls c1 c2 c3 p.none_fell q.none_fell;
  told = λ t. q.told (p.told t);
  space = others_more kind s1 s2 s3 p.space q.space;
  written = λ t. writes_more (IsWriteInto kind slots s1) w1 w2 w3 (p.written t) (narrower kind slots s1 s2 p.space w2 w3 (q.written (p.told t)));
  read = λ t r. q.read (p.told t) (p.read t r);
  copies = λ t stand. q.copies (p.told t) (p.copies t stand);
  room = q.room ∙ p.room;
}

pub continues_on : {M : Type 0} (kind_of : M → Kind) (slots_of : M → List (Option ℕ)) (m n : M) → n ≡ m → {n1 n2 n3 : List ℕ} {c1 c2 c3 : Counts} {t1 t2 t3 : Type 0} {w1 w2 w3 : World} {s1 s2 s3 : Space} {k1 k2 k3 : Cache}
    → Continues (kind_of m) (slots_of m) n1 n2 c1 c2 t1 t2 w1 w2 s1 s2 k1 k2 → Continues (kind_of n) (slots_of n) n2 n3 c2 c3 t2 t3 w2 w3 s2 s3 k2 k3 → Continues (kind_of m) (slots_of m) n1 n3 c1 c3 t1 t3 w1 w3 s1 s3 k1 k3
continues_on {M} kind_of slots_of m n same {n1} {n2} {n3} {c1} {c2} {c3} {t1} {t2} {t3} {w1} {w2} {w3} {s1} {s2} {s3} {k1} {k2} {k3} p q =
    continues_more (kind_of m) (slots_of m) n1 n2 n3 c1 c2 c3 t1 t2 t3 w1 w2 w3 s1 s2 s3 k1 k2 k3 p
    (subst (λ (x : M). Continues (kind_of x) (slots_of x) n2 n3 c2 c3 t2 t3 w2 w3 s2 s3 k2 k3) same q)

-- ---- devices

abbrev make : ℕ → (ℕ → DevRow) → (ℕ → List Entry) → Devices
make n row entries = record { count = n; row = row; entries = entries }

pub rows_devices : (old new : Space) → KeepsRows old new → devices_in new ≡ devices_in old
rows_devices old new rows =
    ap (λ (n : ℕ). make n (devices_in new).row (devices_in new).entries) rows.devices
    ∙ (ap (λ (r : ℕ → DevRow). make (length old.parts.devs) r (devices_in new).entries) (fun_ext (λ d. (rows.each d).row))
    ∙ ap (λ (e : ℕ → List Entry). make (length old.parts.devs) (devices_in old).row e) (fun_ext (λ d. (rows.each d).entries)))

pub give_devices : (kind : Kind) (old new : Space) (a : Dva) (birth : ℕ) → GivesBack kind old new a birth → devices_in new ≡ devices_in old
give_devices kind old new a birth gives = rows_devices old new (give_rows kind old new a birth gives)

-- ---- the calls

module _ (kind : Kind) (slots : List (Option ℕ)) (sizes : List ℕ) (counts : Counts) (told : Type 0) (world : World) where
  -- a change of the space alone
  pub space_step : (s t : Space) (c d : Cache) → KeepsOthers kind s t → ((disks : List (List ℕ)) → AreRead disks slots s c → AreRead disks slots t d) → ((disks : List (List ℕ)) → CopiesStand disks slots s → CopiesStand disks slots t) → capacity d ≡ capacity c → Continues kind slots sizes sizes counts counts told told world world s t c d
  space_step s t c d others read copies room = record {
    sizes = refl;
    none_fell = no_fall counts;
    told = λ t. t;
    space = others;
    written = λ t. writes_nothing (IsWriteInto kind slots s) world;
    read = λ t r. read world.now.seen r;
    copies = λ t stand. copies world.now.seen stand;
    room = room;
  }

  pub lost_step : (s t : Space) (c : Cache) (lost : Option Dva) (txg : ℕ) → GivesBackLost kind s t lost txg → Continues kind slots sizes sizes counts counts told told world world s t c c
  lost_step s t c None txg same = space_step s t c c (subst (KeepsOthers kind s) (sym same) (others_itself kind s)) (λ disks r. subst (λ (x : Space). AreRead disks slots x c) (sym same) r) (λ disks stand. subst (λ (x : Space). CopiesStand disks slots x) (sym same) stand) refl
  lost_step s t c (Some a) txg (inl (used, gives)) = space_step s t c c (gives_others kind s t a txg used gives) (λ disks r. read_same disks slots s t c (give_devices kind s t a txg gives) r) (λ disks stand. copies_stay disks slots s t (given_no_copy kind s t a txg (gives_others kind s t a txg used gives) gives) stand) refl
  lost_step s t c (Some a) txg (inr (not_used, same)) = space_step s t c c (subst (KeepsOthers kind s) (sym same) (others_itself kind s)) (λ disks r. subst (λ (x : Space). AreRead disks slots x c) (sym same) r) (λ disks stand. subst (λ (x : Space). CopiesStand disks slots x) (sym same) stand) refl

pub lost_room : (kind : Kind) (s t : Space) (lost : Option Dva) (txg : ℕ) → GivesBackLost kind s t lost txg → free_units s ≤ free_units t
lost_room kind s t None txg same = let e = ap (λ (x : Space). free_units x) same in omega (arith, e)
lost_room kind s t (Some a) txg (inl (used, gives)) = gives_room kind s t a txg gives
lost_room kind s t (Some a) txg (inr (not_used, same)) = let e = ap (λ (x : Space). free_units x) same in omega (arith, e)

pub read_forgotten : (disks : List (List ℕ)) (slots : List (Option ℕ)) (s : Space) (c d : Cache) (b : Bptr) → entries d ≡ remove_entry (is_key b) (entries c) → AreRead disks slots s c → AreRead disks slots s d
read_forgotten disks slots s c d b is read = holds-forgotten (IsRead disks slots s) (entries c) (entries d) read b is

-- what a call may take of the account
pub spends : (units puts frees : ℕ) (counts counts' : Counts) (s t : Space) → NoneFell counts counts' → free_units s ≤ free_units t + units → devices_in t ≡ devices_in s → Spends units puts frees (account_of counts.disk s) (account_of counts'.disk t)
spends units puts frees counts counts' s t none_fell room devices = record {
  faults = none_fell.disk;
  room = room;
  load = omega arith;
  put_load = refl;
  free_load = refl;
  resolves = λ at. ap (λ (ds : Devices). is_resolved ds at) devices;
}

take_more : (kind : Kind) (policy : Policy) (want : ℕ) (old new : Space) (taken : Option Dva) → MayTake kind policy want old new taken → free_units old ≤ free_units new + want
take_more kind policy want old new None same = let e = ap (λ (x : Space). free_units x) same in omega (arith, e)
take_more kind policy want old new (Some at) takes = takes_room kind policy want old new at takes (takes_place kind policy want old new at takes).len

pub put_room : (kind : Kind) (policy : Policy) (want : ℕ) (old mid new : Space) (lost taken : Option Dva) (txg : ℕ) → GivesBackLost kind old mid lost txg → MayTake kind policy want mid new taken → free_units old ≤ free_units new + want
put_room kind policy want old mid new lost taken txg gives takes =
    let a = lost_room kind old mid lost txg gives in
    let b = take_more kind policy want mid new taken takes in
    omega (arith, a, b)

pub may_devices : (kind : Kind) (policy : Policy) (want : ℕ) (old new : Space) (taken : Option Dva) → MayTake kind policy want old new taken → devices_in new ≡ devices_in old
may_devices kind policy want old new None same = ap devices_in same
may_devices kind policy want old new (Some at) takes = rows_devices old new (frame_rows old new (takes_frame kind policy want old new at takes))

pub may_others : (kind : Kind) (policy : Policy) (want : ℕ) (old new : Space) (taken : Option Dva) → MayTake kind policy want old new taken → KeepsOthers kind old new
may_others kind policy want old new None same = subst (KeepsOthers kind old) (sym same) (others_itself kind old)
may_others kind policy want old new (Some at) takes = takes_others kind policy want old new at takes

pub may_writes : (kind : Kind) (policy : Policy) (want : ℕ) (slots : List (Option ℕ)) (old new : Space) (before now : World) (taken : Option Dva) → 0 < want → MayPut kind policy want slots old new before now taken → WritesOnly (IsWriteInto kind slots old) before now
may_writes kind policy want slots old new before now None some (same, still) = subst (WritesOnly (IsWriteInto kind slots old) before) (sym still) (writes_nothing (IsWriteInto kind slots old) before)
may_writes kind policy want slots old new before now (Some at) some (takes, writes) = write_into kind policy want slots old new at some takes before now writes

-- a run that is missing after what was lost is given back
pub missing : (kind : Kind) (old mid : Space) (lost : Option Dva) (txg : ℕ) → GivesBackLost kind old mid lost txg → (faults want needed longest : ℕ) → 0 < want → needed ≡ want → HasNoPlacement (free_of mid) want longest → IsNoRun want (account_of faults old) needed longest
missing kind old mid lost txg gives faults want needed longest some is none = record {
  wanted = is;
  short = let s = is_short (free_of mid) want longest some none in omega (arith, s, is);
  full = λ one.
      let room = lost_room kind old mid lost txg gives in
      let zero = no_room mid longest (subst (λ (n : ℕ). HasNoPlacement (free_of mid) n longest) one none) in
      omega (arith, room, zero);
}

-- a read
pub read_step : (kind : Kind) (slots : List (Option ℕ)) (n1 n2 : List ℕ) (c1 c2 : Counts) (t1 t2 : Type 0) (w1 w2 : World) (s : Space) (k1 k2 : Cache)
    → n2 ≡ n1 → NoneFell c1 c2 → (t1 → t2) → (t1 → IsStill w1 w2) → (t1 → AreRead w1.now.seen slots s k1 → AreRead w2.now.seen slots s k2) → capacity k2 ≡ capacity k1 → Continues kind slots n1 n2 c1 c2 t1 t2 w1 w2 s s k1 k2
read_step kind slots n1 n2 c1 c2 t1 t2 w1 w2 s k1 k2 sizes none_fell told still read room = record {
  sizes = sizes;
  none_fell = none_fell;
  told = told;
  space = others_itself kind s;
  written = λ t. writes_still (IsWriteInto kind slots s) w1 w2 (still t);
  read = read;
  copies = λ t stand. subst (λ (x : Stand). CopiesStand x.seen slots s) (sym (still t).now) stand;
  room = room;
}

-- a put
pub put_step : (kind : Kind) (policy : Policy) (want : ℕ) (slots : List (Option ℕ)) (n1 n2 : List ℕ) (c1 c2 : Counts) (t1 t2 : Type 0) (w1 w2 : World) (s t : Space) (k1 k2 : Cache) (taken : Option Dva) → ((d e slot : ℕ) → slot_of slots d ≡ Some slot → slot_of slots e ≡ Some slot → d ≡ e) → 0 < want
    → n2 ≡ n1 → NoneFell c1 c2 → (t1 → t2) → MayTake kind policy want s t taken → (t1 → MayPut kind policy want slots s t w1 w2 taken) → (t1 → AreRead w1.now.seen slots s k1 → AreRead w2.now.seen slots t k2) → capacity k2 ≡ capacity k1
    → Continues kind slots n1 n2 c1 c2 t1 t2 w1 w2 s t k1 k2
put_step kind policy want slots n1 n2 c1 c2 t1 t2 w1 w2 s t k1 k2 taken apart some sizes none_fell told takes put read room = record {
  sizes = sizes;
  none_fell = none_fell;
  told = told;
  space = may_others kind policy want s t taken takes;
  written = λ is. may_writes kind policy want slots s t w1 w2 taken some (put is);
  read = read;
  copies = λ is stand. copies_put kind policy want slots apart some s t w1 w2 taken (may_others kind policy want s t taken takes) (put is) stand;
  room = room;
}

-- a block has a unit
pub some_units : (n : ℕ) → is_size n ≡ true → 0 < n / 4096
some_units n is = grind (arith, nat_tests, is)

-- what was taken lies within its device
pub taken_within : (s : Space) (taken : Option Dva) → IfSome taken (λ (at : Dva). at.start + at.len ≤ units_of_dev s.parts.devs at.dev) → (at : Dva) → taken ≡ Some at → at.start + at.len ≤ units_of_dev s.parts.devs at.dev
taken_within s None h at is = cc
taken_within s (Some a) h at is = subst (λ (x : Dva). x.start + x.len ≤ units_of_dev s.parts.devs x.dev) (same a at is) h
  where
    same : (x y : Dva) → Some x ≡ Some y → x ≡ y
    same x y e = cc

-- ---- reads in a row

pub reads_more : {slots slots' : List (Option ℕ)} {space space' : Space} → slots' ≡ slots → space' ≡ space → {n1 n2 n3 : List ℕ} {c1 c2 c3 : Counts} {t1 t2 t3 : Type 0} {w1 w2 w3 : World} {k1 k2 k3 : Cache}
    → GoesOnReading slots space n1 n2 c1 c2 t1 t2 w1 w2 k1 k2 → GoesOnReading slots' space' n2 n3 c2 c3 t2 t3 w2 w3 k2 k3 → GoesOnReading slots space n1 n3 c1 c3 t1 t3 w1 w3 k1 k3
reads_more {slots} {slots'} {space} {space'} same_slots same_space {n1} {n2} {n3} {c1} {c2} {c3} {t1} {t2} {t3} {w1} {w2} {w3} {k1} {k2} {k3} p after =
    let q : GoesOnReading slots space n2 n3 c2 c3 t2 t3 w2 w3 k2 k3 =
    subst (λ (xs : List (Option ℕ)). GoesOnReading xs space n2 n3 c2 c3 t2 t3 w2 w3 k2 k3) same_slots (subst (λ (s : Space). GoesOnReading slots' s n2 n3 c2 c3 t2 t3 w2 w3 k2 k3) same_space after) in
    record {
      sizes = q.sizes ∙ p.sizes;
      none_fell = more_falls c1 c2 c3 p.none_fell q.none_fell;
      told = λ t. q.told (p.told t);
      still = λ t. still_trans w1 w2 w3 (p.still t) (q.still (p.told t));
      read = λ t r. q.read (p.told t) (p.read t r);
      room = q.room ∙ p.room;
    }
