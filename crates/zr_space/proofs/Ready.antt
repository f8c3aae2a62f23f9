-- A plan of a space, as its devices are kept.
use Rattle.std.proofs.Common.{◌≡◌, ℕ, ◌+◌, ◌-◌, ◌≤◌, ◌<◌, ◌^◌, Bool, true, false, ◌==◌, List, map, length, refl, ◌∙◌, sym, ap, subst, arith, ⊎_elim}
use Rattle.std.proofs.Math.ListN.{set}
use Rattle.std.proofs.lemmas.Bool.{cases_lt}
use Rattle.std.proofs.lemmas.Bool.Decides.{nat_tests}
use Rattle.std.proofs.lemmas.List.{length-map}
use Rattle.zr_base.specs.declared.space.DevPart.{DevPart}
use Rattle.zr_base.specs.declared.space.DevState.TheVariants.{On, Leaving}
use Rattle.zr_base.specs.Extents.{has_unit, in_extent, HasNone, HasAll}
use Rattle.zr_rules.specs.Mappings.{end_of_last}
use Rattle.zr_rules.specs.Places.{is_on, is_leaving, part_of, state_of_dev, in_address}
use Rattle.zr_rules.specs.Roles.{is_held_role}
use Rattle.zr_rules.specs.Roles.Role.{FreshLive}
use Rattle.zr_rules.specs.Space.{Space, role_at, frontier}
use Rattle.zr_metaslab.specs.Devices.{Devices, free_at, count_at, extent_of}
use Rattle.zr_units.specs.Uses.{Uses}
use Rattle.zr_units.specs.Changes.{TurnsCopies}
use Rattle.zr_evac.specs.Evacuations.{IsFront}
use Rattle.zr_indirect.specs.Mapped.{Mapped, IsLeaving}
use Rattle.zr_indirect.specs.Changes.{CopiesFront}
use Rattle.zr_space.specs.Plans.{MakesCopy}
use Rattle.zr_space.specs.Views.{Kept, kept_of, part_in, space_of, IsSpace}
use Rattle.zr_space.specs.declared.copy.Plan.{Plan}
use Rattle.zr_space.specs.declared.whole.Whole.{Whole}
use Rattle.zr_space.proofs.Entering.{AreFresh, fresh_unit}
use Rattle.zr_space.proofs.Fronts.{IsNextHeld, front_is}
use Rattle.zr_space.proofs.Making.{IsMade, made_space, makes}
use Rattle.zr_space.proofs.Planning.{held_as}
use Rattle.zr_space.proofs.Roles.{roles_are}
use Rattle.zr_space.proofs.Synced.{leaving_state}
use Rattle.zr_space.proofs.Turning.{none_beyond}
use Rattle.zr_space.proofs.Views.{part_is}

false_true : false ≡ true → ⊥
false_true e = cc

-- a device that is leaving is there
pub leaving_there : (devs : List Kept) (d : ℕ) → is_leaving (kept_of devs d).row.state ≡ true → d < length devs
leaving_there devs d is =
    ⊎_elim (λ lt. lt) (λ past. absurd (false_true (sym (ap (λ (k : Kept). is_leaving k.row.state) (none_beyond devs d past)) ∙ is))) (cases_lt d (length devs))

-- the device that is leaving is the one of which the space says it
pub leaving_as : (whole : Whole) (devs : List Kept) (d : ℕ) → is_leaving (part_of (map part_in devs) d).row.state ≡ true → is_leaving (kept_of devs d).row.state ≡ true
leaving_as whole devs d is = sym (ap (λ (p : DevPart). is_leaving p.row.state) (part_is devs d)) ∙ is

-- The device is leaving, and the units are those that it holds from its frontier on. As many units of a device in service are the open group's.
pub record IsPlaced (s : Space) (d : ℕ) (p : Plan) : Type 0 where
  pub leaving : is_leaving (state_of_dev s.parts.devs d) ≡ true
  pub above : frontier s d ≤ p.from.start
  pub gap : (u : ℕ) → frontier s d ≤ u → u < p.from.start → is_held_role (role_at s d u) ≡ false
  pub held : (u : ℕ) → in_extent p.from u ≡ true → is_held_role (role_at s d u) ≡ true
  pub some : 0 < p.from.len
  pub few : p.from.len ≤ 256
  pub len : p.to.len ≡ p.from.len
  pub known : p.to.dev < length s.parts.devs
  pub on : state_of_dev s.parts.devs p.to.dev ≡ On
  pub taken : (u : ℕ) → in_address p.to p.to.dev u ≡ true → role_at s p.to.dev u ≡ FreshLive

pub record IsReady (whole : Whole) (s : Devices) (devs : List Kept) (d : ℕ) (p : Plan) : Type 0 where
  pub space : IsSpace whole s devs
  pub plan : IsPlaced (space_of whole devs) d p

module _ (whole : Whole) (s : Devices) (devs : List Kept) (d : ℕ) (p : Plan) (h : IsReady whole s devs d p) where
  pub leaving : is_leaving (kept_of devs d).row.state ≡ true
  leaving = leaving_as whole devs d h.plan.leaving

  pub there : d < length devs
  there = leaving_there devs d leaving

  pub known : p.to.dev < length devs
  known = let k = h.plan.known in let l = length-map devs part_in in omega (arith, k, l)

  on : (kept_of devs p.to.dev).row.state ≡ On
  on = sym (ap (λ (q : DevPart). q.row.state) (part_is devs p.to.dev)) ∙ h.plan.on

  pub fresh : AreFresh (kept_of devs p.to.dev).uses (extent_of p.to)
  fresh u is = sym (roles_are whole devs p.to.dev u h.space) ∙ h.plan.taken u (grind (arith, nat_tests, is))

  pub uncopied : HasNone (kept_of devs p.to.dev).uses.copies (extent_of p.to)
  uncopied u is = (fresh_unit (kept_of devs p.to.dev).uses u (fresh u is)).3

  pub held : HasAll (kept_of devs p.to.dev).uses.held (extent_of p.to)
  held u is = (fresh_unit (kept_of devs p.to.dev).uses u (fresh u is)).0

  pub ends : p.to.start + p.to.len < 2 ^ 40
  ends =
      let some = h.plan.some in
      let len = h.plan.len in
      let at : in_extent (extent_of p.to) (p.to.start + p.to.len - 1) ≡ true = grind (arith, nat_tests, some, len) in
      let is = held (p.to.start + p.to.len - 1) at in
      let o = (h.space.account p.to.dev).once (p.to.start + p.to.len - 1) in
      let m = (h.space.account p.to.dev).small in
      grind (arith, nat_tests, is, o, some, len, m)

  was_leaving : IsLeaving (kept_of devs d).moves
  was_leaving = (h.space.moved d).leaving (leaving_state (kept_of devs d).row.state leaving)

  same_frontier : frontier (space_of whole devs) d ≡ (kept_of devs d).moves.opened
  same_frontier = ap (λ (q : DevPart). end_of_last q.entries) (part_is devs d) ∙ sym was_leaving.marks.frontier

  pub moves_state : (kept_of devs d).moves.state ≡ Leaving
  moves_state = (h.space.moved d).state ∙ leaving_state (kept_of devs d).row.state leaving

  pub moves_off : is_on (kept_of devs d).moves.state ≡ false
  moves_off = ap is_on moves_state

  -- the place is on another device
  pub other_device : (d == p.to.dev) ≡ false
  other_device = by (d == p.to.dev) refl
    where
      by : (b : Bool) → (d == p.to.dev) ≡ b → (d == p.to.dev) ≡ false
      by true is =
          let same : d ≡ p.to.dev = grind (arith, nat_tests, is) in
          absurd (false_true (sym (ap is_leaving on) ∙ subst (λ i. is_leaving (kept_of devs i).row.state ≡ true) same leaving))
      by false is = is

  held_role : (u : ℕ) → is_held_role (role_at (space_of whole devs) d u) ≡ has_unit (kept_of devs d).uses.held u
  held_role u = ap is_held_role (roles_are whole devs d u h.space) ∙ held_as (free_at s d) (count_at s d) (kept_of devs d).uses (h.space.account d) u

  next : IsNextHeld (kept_of devs d).uses.held (kept_of devs d).moves.opened p.from
  next = record {
    some = h.plan.some;
    above = let a = h.plan.above in let f = same_frontier in omega (arith, a, f);
    gap = λ u le lt. sym (held_role u) ∙ h.plan.gap u (let f = same_frontier in omega (arith, le, f)) lt;
    covered = λ u is. sym (held_role u) ∙ h.plan.held u is;
  }

  pub front : IsFront (kept_of devs d).moves.left p.from
  front = front_is (kept_of devs d).moves.left (kept_of devs d).uses.held (kept_of devs d).moves.opened p.from was_leaving.left_maximal (h.space.tied d leaving).left next h.plan.few

  pub made : (y : Uses) (m : Mapped) → TurnsCopies (kept_of devs p.to.dev).uses y (extent_of p.to) → CopiesFront (kept_of devs d).moves m p.from p.to.dev p.to.start → IsLeaving m → IsMade whole s devs d p y m
  made y m turns copies leaves = record {
    space = h.space;
    there = there;
    leaving = leaving;
    known = known;
    on = on;
    some = h.plan.some;
    len = h.plan.len;
    next = next;
    fresh = fresh;
    turns = turns;
    copies = copies;
    leaves = leaves;
  }

-- what was kept of both devices, and what is
pub record IsEntered (whole : Whole) (s : Devices) (devs : List Kept) (d : ℕ) (p : Plan) (k1 k2 : Kept) (y : Uses) (m : Mapped) : Type 0 where
  pub ready : IsReady whole s devs d p
  pub first : k1 ≡ kept_of devs p.to.dev
  pub second : k2 ≡ kept_of devs d
  pub turns : TurnsCopies k1.uses y (extent_of p.to)
  pub copies : CopiesFront k2.moves m p.from p.to.dev p.to.start
  pub leaves : IsLeaving m

module _ (whole : Whole) (s : Devices) (devs : List Kept) (d : ℕ) (p : Plan) (k1 k2 : Kept) (y : Uses) (m : Mapped) (h : IsEntered whole s devs d p k1 k2 y m) where
  is_made : IsMade whole s devs d p y m
  is_made = made whole s devs d p h.ready y m
      (subst (λ (k : Kept). TurnsCopies k.uses y (extent_of p.to)) h.first h.turns)
      (subst (λ (k : Kept). CopiesFront k.moves m p.from p.to.dev p.to.start) h.second h.copies)
      h.leaves

  pub entry_space : IsSpace whole s (set (set devs p.to.dev (record k1 { uses = y })) d (record k2 { moves = m }))
  entry_space =
      subst (λ (k : Kept). IsSpace whole s (set (set devs p.to.dev (record k { uses = y })) d (record k2 { moves = m }))) (sym h.first)
      (subst (λ (k : Kept). IsSpace whole s (set (set devs p.to.dev (record (kept_of devs p.to.dev) { uses = y })) d (record k { moves = m }))) (sym h.second) (made_space whole s devs d p y m is_made))

  pub entry_makes : MakesCopy (space_of whole devs) (space_of whole (set (set devs p.to.dev (record k1 { uses = y })) d (record k2 { moves = m }))) d p
  entry_makes =
      subst (λ (k : Kept). MakesCopy (space_of whole devs) (space_of whole (set (set devs p.to.dev (record k { uses = y })) d (record k2 { moves = m }))) d p) (sym h.first)
      (subst (λ (k : Kept). MakesCopy (space_of whole devs) (space_of whole (set (set devs p.to.dev (record (kept_of devs p.to.dev) { uses = y })) d (record k { moves = m }))) d p) (sym h.second) (makes whole s devs d p y m is_made))
