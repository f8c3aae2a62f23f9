-- What a plan is, and that a plan and the entry for it together are a copy.
use Rattle.std.proofs.Common.{◌≡◌, ℕ, zero, suc, ◌≤◌, true, false, List, [], ◌∷◌, ◌++◌, min, refl, ◌∙◌, ap, subst, arith}
use Rattle.std.proofs.lemmas.Bool.Decides.{nat_tests}
use Rattle.zr_base.specs.declared.space.DevState.{DevState}
use Rattle.zr_base.specs.declared.space.DevState.TheVariants.{On, Leaving, Gone}
use Rattle.zr_base.specs.declared.space.Dva.{Dva}
use Rattle.zr_base.specs.declared.space.Extent.{Extent}
use Rattle.zr_base.specs.declared.space.Policy.{Policy}
use Rattle.zr_rules.specs.Columns as columns
use Rattle.zr_rules.specs.Places.{is_on, part_of, state_of_dev, in_address}
use Rattle.zr_rules.specs.Roles.Role.{Free}
use Rattle.zr_rules.specs.Space.{Space, role_at}
use Rattle.zr_rules.specs.Steps.{Copies, IsFirstHalf, half as halved}
use Rattle.zr_metaslab.specs.Devices as slab
use Rattle.zr_metaslab.specs.Devices.{Devices, Takes, free_at, extent_of}
use Rattle.zr_space.specs.Copying.{TakesHalf}
use Rattle.zr_space.specs.Plans.{IsLowestOf, MakesCopy, Plans}
use Rattle.zr_space.specs.Views.{Kept, kept_of, space_of, role_in, IsSpace}
use Rattle.zr_space.specs.declared.copy.Plan.{Plan}
use Rattle.zr_space.specs.declared.whole.Whole.{Whole}
use Rattle.zr_space.proofs.Keeps.{same_free}
use Rattle.zr_space.proofs.Placing.{placed, same_back, somewhere}
use Rattle.zr_space.proofs.Planning.{placement_run}
use Rattle.zr_space.proofs.Roles.{roles_are}

false_true : false ≡ true → ⊥
false_true e = cc

-- ---- the plan

on_state : (st : DevState) → is_on st ≡ true → st ≡ On
on_state On is = refl
on_state Leaving is = absurd (false_true is)
on_state Gone is = absurd (false_true is)

-- where a half was taken from the allocator it has a place, and no longer one has
pub half_placed : (whole : Whole) (s t : Devices) (devs : List Kept) (policy : Policy) (most : ℕ) (at : Dva) → IsSpace whole s devs → TakesHalf policy most s t at → IsFirstHalf (space_of whole devs) policy most at.len at
half_placed whole s t devs policy most at space h =
    let same = same_free whole s devs space in
    record {
      k = h.k;
      half_is = h.half_is;
      some = h.some;
      place = placed (slab.free_of s) (columns.free_of (space_of whole devs)) policy at.len at same h.place;
      none = λ j lt other p. h.none j lt (somewhere (columns.free_of (space_of whole devs)) (slab.free_of s) (halved j most) (same_back (slab.free_of s) (columns.free_of (space_of whole devs)) same) (placement_run (columns.free_of (space_of whole devs)) policy (halved j most) other p));
    }

-- what the allocator gave out was free
pub was_free : (whole : Whole) (s t : Devices) (devs : List Kept) (at : Dva) → IsSpace whole s devs → Takes s t at.dev (extent_of at) → (u : ℕ) → in_address at at.dev u ≡ true → role_at (space_of whole devs) at.dev u ≡ Free
was_free whole s t devs at space taken u is =
    let free = taken.were_free u (grind (arith, nat_tests, is)) in
    let o = (space.account at.dev).once u in
    let role : role_in (kept_of devs at.dev).uses u ≡ Free = grind (arith, nat_tests, o, free) in
    roles_are whole devs at.dev u space ∙ role

half_most : (n k : ℕ) → halved k n ≤ n
half_most n zero = omega arith
half_most n (suc k) = let r = half_most n k in omega (arith, r)

-- the device is leaving and what it holds follows the frontier, and a device in service has free units
pub plans : (policy : Policy) (s : Space) (d : ℕ) (front : Extent) (to : Dva) → IsLowestOf s d front → IsFirstHalf s policy (min 256 front.len) to.len to → ((u : ℕ) → in_address to to.dev u ≡ true → role_at s to.dev u ≡ Free)
    → Plans policy s d (record { from = record { start = front.start; len = to.len }; to = to })
plans policy s d front to low half free =
    let most : to.len ≤ min 256 front.len = let k = half_most (min 256 front.len) half.k in let e = half.half_is in omega (arith, k, e) in
    record {
      front = front;
      lowest = low;
      start = refl;
      half = half;
      plan = record {
        leaving = low.leaving;
        above = low.above;
        gap = low.gap;
        held = λ u is. low.held u (grind (arith, nat_tests, is, most));
        some = half.some;
        few = omega (arith, most);
        len = refl;
        known = half.place.known;
        on = on_state (state_of_dev s.parts.devs to.dev) half.place.serves;
        free = free;
      };
    }

-- ---- the law

pub copies : (policy : Policy) (old new : Space) (d : ℕ) (p : Plan) → Plans policy old d p → MakesCopy old new d p → Copies policy old new d p.from.len
copies policy old new d p a b = record {
  front = a.front;
  lowest = a.lowest.lowest;
  at = p.to;
  first = subst (λ n. IsFirstHalf old policy (min 256 a.front.len) n p.to) a.plan.len a.half;
  row_is = b.row_is;
  entries = b.entries ∙ ap (λ (s : ℕ). (part_of old.parts.devs d).entries ++ record { src = s; dev = p.to.dev; dst = p.to.start; len = p.from.len } ∷ []) a.start;
  counts = b.counts;
  fresh = b.fresh;
  synced = b.synced;
  roles = b.roles;
  elsewhere = b.elsewhere;
}
