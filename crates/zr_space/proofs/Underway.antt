-- Units are being copied: what may be done with their place, and what becomes of the space once they are there.
use Rattle.std.proofs.Common.{◌≡◌, ℕ, ◌+◌, ◌≤◌, ◌<◌, ◌^◌, Bool, true, false, ◌==◌, List, map, length, min, refl, ◌∙◌, sym, ap, subst, arith, if◌then◌else◌, ◌∷◌, [], ◌++◌}
use Rattle.std.proofs.Math.ListN.{set}
use Rattle.std.proofs.lemmas.Bool.Decides.{nat_tests}
use Rattle.std.proofs.lemmas.List.{length-map, length-set, set-set, set-get_or}
use Rattle.zr_base.specs.declared.space.DevPart.{DevPart}
use Rattle.zr_base.specs.declared.space.DevRow.{DevRow}
use Rattle.zr_base.specs.declared.space.DevState.TheVariants.{Leaving}
use Rattle.zr_base.specs.declared.space.Dva.{Dva}
use Rattle.zr_base.specs.declared.space.Entry.{Entry}
use Rattle.zr_base.specs.declared.space.Extent.{Extent}
use Rattle.zr_base.specs.declared.space.Policy.{Policy}
use Rattle.zr_base.specs.Extents.{in_extent, HasNone}
use Rattle.zr_rules.specs.Frees.{Allocates, IsSamePart}
use Rattle.zr_rules.specs.Mappings.{end_of_last}
use Rattle.zr_rules.specs.Places.{is_on, is_leaving, part_of, state_of_dev, in_address}
use Rattle.zr_rules.specs.Roles.{Role, is_held_role}
use Rattle.zr_rules.specs.Roles.Role.{FreshLive, FreshCopy}
use Rattle.zr_rules.specs.Space.{Space, role_at, frontier}
use Rattle.zr_metaslab.specs.Devices.{Devices, Gives, free_at, units_at, extent_of}
use Rattle.zr_units.specs.Changes.{Holds, HoldsCopy, TurnsCopies}
use Rattle.zr_units.specs.Uses.{Uses}
use Rattle.zr_evac.specs.Evacuations.{IsFront}
use Rattle.zr_indirect.specs.Mapped.{Mapped, IsLeaving}
use Rattle.zr_indirect.specs.Changes.{CopiesFront}
use Rattle.zr_space.specs.Copying.{TakesHalf, IsUnderway}
use Rattle.zr_space.specs.Plans.{IsLowestOf, IsPlan, Plans, MakesCopy}
use Rattle.zr_space.specs.Views.{Kept, kept_of, nothing_kept, part_in, space_of, IsSpace}
use Rattle.zr_space.specs.declared.copy.Plan.{Plan}
use Rattle.zr_space.specs.declared.whole.Whole.{Whole}
use Rattle.zr_space.proofs.Allocs.{IsTaken, block_space, allocates, given_back}
use Rattle.zr_space.proofs.Ready.{IsPlaced, IsReady, IsEntered, leaving_as, leaving_there, there, moves_state, front, entry_space, entry_makes}
use Rattle.zr_space.proofs.Planned.{half_placed, was_free, plans}
use Rattle.zr_space.proofs.Sames.{AreSame, same_all, same_space_of}
use Rattle.zr_space.proofs.Synced.{leaving_state}
use Rattle.zr_space.proofs.Views.{part_is, kept_same, kept_other}

false_true : false ≡ true → ⊥
false_true e = cc

-- ---- a place that was free is the open group's

pub placed_then : (policy : Policy) (want : ℕ) (old mid : Space) (d : ℕ) (p : Plan) → IsPlan old d p → (p.to.dev == d) ≡ false → Allocates policy want old mid p.to → IsPlaced mid d p
placed_then policy want old mid d p h away a = record {
  leaving = ap is_leaving state ∙ h.leaving;
  above = let x = h.above in let f = same_frontier in omega (arith, x, f);
  gap = λ u le lt. ap is_held_role (same_role u) ∙ h.gap u (let f = same_frontier in omega (arith, le, f)) lt;
  held = λ u is. ap is_held_role (same_role u) ∙ h.held u is;
  some = h.some;
  few = h.few;
  len = h.len;
  known = let k = h.known in let e = a.frame.devices in omega (arith, k, e);
  on = ap (λ (r : DevRow). r.state) (a.frame.each p.to.dev).row ∙ h.on;
  taken = λ u is. a.roles p.to.dev u ∙ rw is refl;
}
  where
    state : state_of_dev mid.parts.devs d ≡ state_of_dev old.parts.devs d
    state = ap (λ (r : DevRow). r.state) (a.frame.each d).row

    same_frontier : frontier mid d ≡ frontier old d
    same_frontier = ap (λ (es : List Entry). end_of_last es) (a.frame.each d).entries

    same_role : (u : ℕ) → role_at mid d u ≡ role_at old d u
    same_role u = let r = a.roles d u in let off : in_address p.to d u ≡ false = grind (arith, nat_tests, away) in r ∙ rw off refl

-- the place is on another device than the units
pub other_device : (whole : Whole) (devs : List Kept) (d : ℕ) (p : Plan) → IsPlan (space_of whole devs) d p → (p.to.dev == d) ≡ false
other_device whole devs d p h = by (p.to.dev == d) refl
  where
    by : (b : Bool) → (p.to.dev == d) ≡ b → (p.to.dev == d) ≡ false
    by true is =
        let same : p.to.dev ≡ d = grind (arith, nat_tests, is) in
        absurd (false_true (sym (ap is_leaving h.on) ∙ subst (λ i. is_leaving (state_of_dev (map part_in devs) i) ≡ true) (sym same) h.leaving))
    by false is = is

then_part : (a b c : DevPart) → IsSamePart a b → IsSamePart b c → IsSamePart a c
then_part a b c x y = record { row = y.row ∙ x.row; entries = y.entries ∙ x.entries; counts = y.counts ∙ x.counts; late1 = y.late1 ∙ x.late1; late2 = y.late2 ∙ x.late2 }

-- taken and turned into copies, the units have become copies
pub made_from : (policy : Policy) (want : ℕ) (old mid new : Space) (d : ℕ) (p : Plan) → Allocates policy want old mid p.to → (part_of mid.parts.devs d).fresh ≡ (part_of old.parts.devs d).fresh → MakesCopy mid new d p → MakesCopy old new d p
made_from policy want old mid new d p a marks b =
    let f = a.frame in
    record {
      row_is = b.row_is ∙ (f.each d).row;
      entries = b.entries ∙ ap (λ (es : List Entry). es ++ record { src = p.from.start; dev = p.to.dev; dst = p.to.start; len = p.from.len } ∷ []) (f.each d).entries;
      counts = b.counts ∙ ap (λ (ns : List ℕ). ns ++ 0 ∷ []) (f.each d).counts;
      fresh = b.fresh ∙ marks;
      synced = b.synced ∙ f.synced;
      roles = λ e u. role_by (in_address p.to e u) (role_at new e u) (role_at mid e u) (role_at old e u) (b.roles e u) (a.roles e u);
      elsewhere = record {
        version = b.elsewhere.version ∙ f.version;
        cond = b.elsewhere.cond ∙ f.cond;
        ckpt = b.elsewhere.ckpt ∙ f.ckpt;
        meta = b.elsewhere.meta ∙ a.meta;
        saved_meta = b.elsewhere.saved_meta ∙ f.saved_meta;
        devices = b.elsewhere.devices ∙ f.devices;
        others = λ other ne. then_part (part_of old.parts.devs other) (part_of mid.parts.devs other) (part_of new.parts.devs other) (f.each other) (b.elsewhere.others other ne);
        fresh = λ other u ne. b.elsewhere.fresh other u ne ∙ a.fresh other u;
        lawful = λ was. b.elsewhere.lawful (f.lawful was);
      };
    }
  where
    role_by : (c : Bool) (r m o : Role) → r ≡ (if c then FreshCopy else m) → m ≡ (if c then FreshLive else o) → r ≡ (if c then FreshCopy else o)
    role_by true r m o x y = x
    role_by false r m o x y = x ∙ y

-- ---- the place

module _ (whole : Whole) (t : Devices) (devs : List Kept) (d : ℕ) (p : Plan) (h : IsUnderway whole t devs d p) where
  pub known : p.to.dev < length devs
  known = let k = h.plan.known in let l = length-map devs part_in in omega (arith, k, l)

  pub taken_from : (k : Kept) → k ≡ kept_of devs p.to.dev → IsTaken whole h.was t devs p.to k
  taken_from k is = record { space = h.space; takes = h.taken; known = h.place.known; serves = h.place.serves; kept = is }

  pub unheld : HasNone (kept_of devs p.to.dev).uses.held (extent_of p.to)
  unheld u at = let f = h.taken.were_free u at in let o = (h.space.account p.to.dev).once u in grind (arith, nat_tests, f, o)

  pub unborn : HasNone (kept_of devs p.to.dev).uses.born (extent_of p.to)
  unborn u at = let none = unheld u at in let b = (h.space.account p.to.dev).born u in grind (arith, nat_tests, none, b)

  pub uncopied : HasNone (kept_of devs p.to.dev).uses.copies (extent_of p.to)
  uncopied u at = let none = unheld u at in let b = (h.space.account p.to.dev).copying.held u in grind (arith, nat_tests, none, b)

  pub some : 0 < p.to.len
  some = let s = h.plan.some in let l = h.plan.len in omega (arith, s, l)

  pub ends : p.to.start + p.to.len < 2 ^ 40
  ends = let w = h.taken.within in let e = h.space.units p.to.dev in let m = (h.space.account p.to.dev).small in omega (arith, w, e, m)

  pub within : p.to.start + p.to.len ≤ units_at t p.to.dev
  within = let w = h.taken.within in let e = h.taken.devices.units p.to.dev in omega (arith, w, e)

  pub gone : (u : ℕ) → in_extent (extent_of p.to) u ≡ true → free_at t p.to.dev u ≡ false
  gone u at = let f = h.taken.free p.to.dev u in grind (arith, nat_tests, f, at)

  -- given back, all is as it was
  pub back : (v : Devices) → Gives t v p.to.dev (extent_of p.to) → IsSpace whole v devs
  back v gives =
      subst (λ (ks : List Kept). IsSpace whole v ks) (set-get_or devs p.to.dev nothing_kept)
      (given_back h.was t v devs p.to (kept_of devs p.to.dev) (kept_of devs p.to.dev).uses (taken_from (kept_of devs p.to.dev) refl) refl gives)

-- ---- it begins

-- what a plan is made from: the devices, those with room for the entry, and the place that was taken
pub record IsBegun (policy : Policy) (whole : Whole) (s t : Devices) (devs next : List Kept) (d : ℕ) (front : Extent) (to : Dva) : Type 0 where
  pub space : IsSpace whole s devs
  pub same : AreSame devs next
  pub lowest : IsLowestOf (space_of whole devs) d front
  pub half : TakesHalf policy (min 256 front.len) s t to
  pub units : (j : ℕ) → j < length devs → 1 ≤ (kept_of next j).uses.spare
  pub room : (j : ℕ) → j < length devs → is_on (kept_of next j).moves.state ≡ false → 0 < (kept_of next j).moves.spare

abbrev pub plan_for : Extent → Dva → Plan
plan_for front to = record { from = record { start = front.start; len = to.len }; to = to }

module _ (policy : Policy) (whole : Whole) (s t : Devices) (devs next : List Kept) (d : ℕ) (front : Extent) (to : Dva) (h : IsBegun policy whole s t devs next d front to) where
  pub begun_plans : Plans policy (space_of whole devs) d (plan_for front to)
  begun_plans = plans policy (space_of whole devs) d front to h.lowest (half_placed whole s t devs policy (min 256 front.len) to h.space h.half) (was_free whole s t devs to h.space h.half.taken)

  is_leaving_here : is_leaving (kept_of devs d).row.state ≡ true
  is_leaving_here = leaving_as whole devs d h.lowest.leaving

  off : is_on (kept_of next d).moves.state ≡ false
  off = ap is_on (ap (λ (k : Kept). k.moves.state) (h.same.each d) ∙ ((h.space.moved d).state ∙ leaving_state (kept_of devs d).row.state is_leaving_here))

  pub begun_under : IsUnderway whole t next d (plan_for front to)
  begun_under = record {
    was = s;
    policy = policy;
    space = same_all whole s devs next h.same h.space;
    plan = subst (λ (x : Space). IsPlan x d (plan_for front to)) (sym (same_space_of whole devs next h.same)) begun_plans.plan;
    place = h.half.place;
    taken = h.half.taken;
    units = let k = h.half.place.known in let e = h.space.devices in h.units to.dev (omega (arith, k, e));
    room = h.room d (leaving_there devs d is_leaving_here) off;
  }

-- ---- the copy

-- what is kept of both devices, as they are read and written
pub record IsDone (whole : Whole) (t : Devices) (devs : List Kept) (d : ℕ) (p : Plan) (k1 k2 : Kept) (y : Uses) (m : Mapped) : Type 0 where
  pub under : IsUnderway whole t devs d p
  pub first : k1 ≡ kept_of devs p.to.dev
  pub second : k2 ≡ kept_of devs d
  pub holds : HoldsCopy k1.uses y (extent_of p.to)
  pub copies : CopiesFront k2.moves m p.from p.to.dev p.to.start
  pub leaves : IsLeaving m

-- units that are taken for a block, and not for a copy yet
abbrev pub for_block : Uses → Uses → Uses
for_block x y = record x { held = y.held; born = y.born; spare = y.spare }

module _ (whole : Whole) (t : Devices) (devs : List Kept) (d : ℕ) (p : Plan) (h : IsUnderway whole t devs d p) (k1 : Kept) (y : Uses) (first : k1 ≡ kept_of devs p.to.dev) (holds : HoldsCopy k1.uses y (extent_of p.to)) where
  abbrev pub block : Kept
  block = record k1 { uses = for_block k1.uses y }

  abbrev pub mid : List Kept
  mid = set devs p.to.dev (record k1 { uses = for_block k1.uses y })

  holds_block : Holds k1.uses (for_block k1.uses y) (extent_of p.to)
  holds_block = record { held = holds.held; born = holds.born; others = refl }

  pub turns : TurnsCopies (for_block k1.uses y) y (extent_of p.to)
  turns = record { copies = holds.copies; others = holds.others }

  mid_space : IsSpace whole t mid
  mid_space = block_space whole h.was t devs p.to k1 (taken_from whole t devs d p h k1 first) (for_block k1.uses y) holds_block

  pub mid_allocates : Allocates h.policy p.to.len (space_of whole devs) (space_of whole mid) p.to
  mid_allocates = allocates whole h.was t devs p.to k1 (taken_from whole t devs d p h k1 first) p.to.len h.policy (for_block k1.uses y) holds_block h.place

  pub away : (p.to.dev == d) ≡ false
  away = other_device whole devs d p h.plan

  pub ready : IsReady whole t mid d p
  ready = record { space = mid_space; plan = placed_then h.policy p.to.len (space_of whole devs) (space_of whole mid) d p h.plan away mid_allocates }

  pub mid_place : kept_of mid p.to.dev ≡ block
  mid_place = kept_same devs p.to.dev block (known whole t devs d p h)

  pub mid_source : kept_of mid d ≡ kept_of devs d
  mid_source = kept_other devs p.to.dev d block (let a = away in grind (arith, nat_tests, a))

  pub marks : (part_of (space_of whole mid).parts.devs d).fresh ≡ (part_of (space_of whole devs).parts.devs d).fresh
  marks = ap (λ (q : DevPart). q.fresh) (part_is mid d) ∙ (ap (λ (k : Kept). k.moves.fresh) mid_source ∙ sym (ap (λ (q : DevPart). q.fresh) (part_is devs d)))

  pub source_there : d < length devs
  source_there = let n = there whole t mid d p ready in let l = length-set devs p.to.dev block in omega (arith, n, l)

  pub source_state : (kept_of devs d).moves.state ≡ Leaving
  source_state = subst (λ (k : Kept). k.moves.state ≡ Leaving) mid_source (moves_state whole t mid d p ready)

  pub source_front : IsFront (kept_of devs d).moves.left p.from
  source_front = subst (λ (k : Kept). IsFront k.moves.left p.from) mid_source (front whole t mid d p ready)

module _ (whole : Whole) (t : Devices) (devs : List Kept) (d : ℕ) (p : Plan) (k1 k2 : Kept) (y : Uses) (m : Mapped) (h : IsDone whole t devs d p k1 k2 y m) where
  abbrev pub next : List Kept
  next = set (set devs p.to.dev (record k1 { uses = y })) d (record k2 { moves = m })

  entered : IsEntered whole t (mid whole t devs d p h.under k1 y h.first h.holds) d p (block whole t devs d p h.under k1 y h.first h.holds) k2 y m
  entered = record {
    ready = ready whole t devs d p h.under k1 y h.first h.holds;
    first = sym (mid_place whole t devs d p h.under k1 y h.first h.holds);
    second = h.second ∙ sym (mid_source whole t devs d p h.under k1 y h.first h.holds);
    turns = turns whole t devs d p h.under k1 y h.first h.holds;
    copies = h.copies;
    leaves = h.leaves;
  }

  over : set (set (mid whole t devs d p h.under k1 y h.first h.holds) p.to.dev (record k1 { uses = y })) d (record k2 { moves = m }) ≡ next
  over = ap (λ (ks : List Kept). set ks d (record k2 { moves = m })) (set-set devs p.to.dev (record k1 { uses = for_block k1.uses y }) (record k1 { uses = y }))

  pub done_space : IsSpace whole t next
  done_space = subst (IsSpace whole t) over (entry_space whole t (mid whole t devs d p h.under k1 y h.first h.holds) d p (block whole t devs d p h.under k1 y h.first h.holds) k2 y m entered)

  pub done_makes : MakesCopy (space_of whole devs) (space_of whole next) d p
  done_makes =
      made_from h.under.policy p.to.len (space_of whole devs) (space_of whole (mid whole t devs d p h.under k1 y h.first h.holds)) (space_of whole next) d p
      (mid_allocates whole t devs d p h.under k1 y h.first h.holds) (marks whole t devs d p h.under k1 y h.first h.holds)
      (subst (λ (ks : List Kept). MakesCopy (space_of whole (mid whole t devs d p h.under k1 y h.first h.holds)) (space_of whole ks) d p) over
      (entry_makes whole t (mid whole t devs d p h.under k1 y h.first h.holds) d p (block whole t devs d p h.under k1 y h.first h.holds) k2 y m entered))
