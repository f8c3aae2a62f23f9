-- What all visits of an address come to, a free does.
use Rattle.std.proofs.Common.{◌≡◌, ℕ, ◌+◌, ◌-◌, ◌≤◌, ◌<◌, Bool, true, false, ◌==◌, ◌&&◌, ◌||◌, nat_lt, List, [], ◌∷◌, refl, ◌∙◌, sym, ap, ap₂, subst, ⊎_elim, arith, if◌then◌else◌}
use Rattle.std.specs.List.{AllByRecursion, list_any}
use Rattle.std.proofs.lemmas.Bool.Decides.{nat_tests}
use Rattle.std.proofs.lemmas.List.Elements.{recursion_from_All}
use Rattle.zr_base.specs.declared.space.CkptPart.{CkptPart}
use Rattle.zr_base.specs.declared.space.Dva.{Dva}
use Rattle.zr_base.specs.declared.space.DevPart.{DevPart}
use Rattle.zr_base.specs.declared.space.Entry.{Entry}
use Rattle.zr_base.specs.declared.space.Extent.{Extent}
use Rattle.zr_base.specs.Extents.{in_extent}
use Rattle.zr_rules.specs.Places.{one_if, is_leaving, part_of, is_fresh}
use Rattle.zr_rules.specs.Devices.{Devices, state_at}
use Rattle.zr_rules.specs.Mappings.{end_of_last}
use Rattle.zr_rules.specs.Resolve.{IsRanked, leads_to}
use Rattle.zr_rules.specs.Roles.{Role, freed, kept_of as kept_role}
use Rattle.zr_rules.specs.Space.{Space, role_at, is_copy_by}
use Rattle.zr_rules.specs.Frees.{Frees, keeps, is_copy_of, leads_to_copied}
use Rattle.zr_rules.specs.Equation.{devices_in}
use Rattle.zr_metaslab.specs.Devices.{Devices as Slabs}
use Rattle.zr_chain.specs.declared.visit.Visited.{Visited}
use Rattle.zr_chain.specs.declared.visit.Visited.TheVariants.{Hop, Piece}
use Rattle.zr_chain.specs.Visits.{Visits, hop_hits}
use Rattle.zr_chain.proofs.Ways.{cases_bool}
use Rattle.zr_space.specs.declared.whole.Whole.{Whole}
use Rattle.zr_space.specs.Freeing.{end_hits, MayFree, IsFit, IsKnown}
use Rattle.zr_space.specs.FreeVisits.{CanFree, FreesVisits, any_let_go, any_marked, is_image_by, is_marked, is_let_go, let_go}
use Rattle.zr_space.specs.Live.{IsFreeable}
use Rattle.zr_space.specs.Views.{Kept, kept_of, part_in, space_of, IsSpace}
use Rattle.zr_space.proofs.Freeing.{all_known, ends_are, fit_ends, leads_hits, may_free, told_all}
use Rattle.zr_space.proofs.FreeImages.{find_any, find_copy, has_copy, each_ends, live_unmarked}
use Rattle.zr_space.proofs.Passing.{all_mapped, passed_once}
use Rattle.zr_space.proofs.Views.{part_is}

false_true : false ≡ true → ⊥
false_true e = cc

-- a part of the visits lies on a device that is leaving, and the unit is the copy of one of its
abbrev any_image : Devices → List Visited → ℕ → ℕ → Bool
any_image ds [] d u = false
any_image ds (Hop dev e ∷ vs) d u = any_image ds vs d u
any_image ds (Piece split dev e ∷ vs) d u = (is_leaving (state_at ds dev) && list_any (is_image_by e d u) (ds.entries dev)) || any_image ds vs d u

goes_more : (here image : Bool) (n : ℕ) (rest : Bool) → ((here || image) || (nat_lt 0 n || rest)) ≡ (nat_lt 0 (one_if here + n) || (image || rest))
goes_more true image n rest = grind (arith, nat_tests)
goes_more false true n rest = grind (arith, nat_tests)
goes_more false false n rest = grind (arith, nat_tests)

gone_all : (ds : Devices) (vs : List Visited) (d u : ℕ) → any_let_go ds vs d u ≡ (nat_lt 0 (end_hits vs d u) || any_image ds vs d u)
gone_all ds [] d u = refl
gone_all ds (Hop dev e ∷ vs) d u = gone_all ds vs d u
gone_all ds (Piece split dev e ∷ vs) d u =
    ap (λ (b : Bool). is_let_go ds (Piece split dev e) d u || b) (gone_all ds vs d u)
    ∙ goes_more ((dev == d) && in_extent e u) (is_leaving (state_at ds dev) && list_any (is_image_by e d u) (ds.entries dev)) (end_hits vs d u) (any_image ds vs d u)

-- the units of the hops, and what was copied of the parts on a device that is leaving
marked_all : (ds : Devices) (vs : List Visited) (d u : ℕ) → any_marked ds vs d u ≡ (nat_lt 0 (hop_hits vs d u) || (is_leaving (state_at ds d) && (nat_lt 0 (end_hits vs d u) && nat_lt u (end_of_last (ds.entries d)))))
marked_all ds [] d u = none (is_leaving (state_at ds d))
  where
    none : (b : Bool) → false ≡ (b && false)
    none true = refl
    none false = refl
marked_all ds (Hop dev e ∷ vs) d u =
    ap (λ (b : Bool). ((dev == d) && in_extent e u) || b) (marked_all ds vs d u)
    ∙ hop ((dev == d) && in_extent e u) (hop_hits vs d u) (is_leaving (state_at ds d) && (nat_lt 0 (end_hits vs d u) && nat_lt u (end_of_last (ds.entries d))))
  where
    hop : (here : Bool) (n : ℕ) (rest : Bool) → (here || (nat_lt 0 n || rest)) ≡ (nat_lt 0 (one_if here + n) || rest)
    hop true n rest = grind (arith, nat_tests)
    hop false n rest = grind (arith, nat_tests)
marked_all ds (Piece split dev e ∷ vs) d u = ⊎_elim
    (λ here.
    let same : dev ≡ d = grind (arith, nat_tests, here) in
    let own : is_marked ds (Piece split dev e) d u ≡ (is_leaving (state_at ds d) && (((dev == d) && in_extent e u) && nat_lt u (end_of_last (ds.entries d)))) =
    ap (λ (i : ℕ). is_leaving (state_at ds i) && (((dev == d) && in_extent e u) && nat_lt u (end_of_last (ds.entries i)))) same in
    ap₂ (λ (a b : Bool). a || b) own (marked_all ds vs d u)
    ∙ part ((dev == d) && in_extent e u) (is_leaving (state_at ds d)) (nat_lt u (end_of_last (ds.entries d))) (nat_lt 0 (hop_hits vs d u)) (end_hits vs d u))
    (λ other.
    let off : is_marked ds (Piece split dev e) d u ≡ false = let z : ((dev == d) && in_extent e u) ≡ false = rw other refl in rw z (none (is_leaving (state_at ds dev))) in
    let zero_here : one_if ((dev == d) && in_extent e u) + end_hits vs d u ≡ end_hits vs d u = let z : ((dev == d) && in_extent e u) ≡ false = rw other refl in let bit = ap one_if z in omega (arith, bit) in
    ap₂ (λ (a b : Bool). a || b) off (marked_all ds vs d u)
    ∙ ap (λ (n : ℕ). nat_lt 0 (hop_hits vs d u) || (is_leaving (state_at ds d) && (nat_lt 0 n && nat_lt u (end_of_last (ds.entries d))))) (sym zero_here))
    (cases_bool (dev == d))
  where
    none : (b : Bool) → (b && false) ≡ false
    none true = refl
    none false = refl

    part : (here leaves below hop : Bool) (n : ℕ) → ((leaves && (here && below)) || (hop || (leaves && (nat_lt 0 n && below)))) ≡ (hop || (leaves && (nat_lt 0 (one_if here + n) && below)))
    part true true true true n = grind (arith, nat_tests)
    part true true true false n = grind (arith, nat_tests)
    part here leaves below hop n = grind (arith, nat_tests)

-- ---- the copies

same_bool : (a b : Bool) → (a ≡ true → b ≡ true) → (b ≡ true → a ≡ true) → a ≡ b
same_bool true b f g = sym (f refl)
same_bool false true f g = g refl
same_bool false false f g = refl

either_true : (a b : Bool) → a ≡ true → (a || b) ≡ true
either_true true b e = refl
either_true false b e = absurd (false_true e)

or_true : (a b : Bool) → b ≡ true → (a || b) ≡ true
or_true true b e = refl
or_true false b e = e

-- where a part that lies on a leaving device has a unit of which the other is the copy
record FoundPart (ds : Devices) (vs : List Visited) (d u : ℕ) : Type 0 where
  dev : ℕ
  at : Extent
  leaves : is_leaving (state_at ds dev) ≡ true
  image : list_any (is_image_by at d u) (ds.entries dev) ≡ true
  among : (w : ℕ) → in_extent at w ≡ true → 0 < end_hits vs dev w

find_part : (ds : Devices) (vs : List Visited) (d u : ℕ) → any_image ds vs d u ≡ true → FoundPart ds vs d u
find_part ds [] d u is = absurd (false_true is)
find_part ds (Hop dev e ∷ vs) d u is = let rest = find_part ds vs d u is in record { dev = rest.dev; at = rest.at; leaves = rest.leaves; image = rest.image; among = rest.among }
find_part ds (Piece split dev e ∷ vs) d u is = ⊎_elim
    (λ here. record {
      dev = dev;
      at = e;
      leaves = one (is_leaving (state_at ds dev)) (list_any (is_image_by e d u) (ds.entries dev)) here;
      image = two (is_leaving (state_at ds dev)) (list_any (is_image_by e d u) (ds.entries dev)) here;
      among = λ w inside. itself dev w (end_hits vs dev w) inside;
    })
    (λ other.
    let rest = find_part ds vs d u (sym (rw other refl) ∙ is) in
    record { dev = rest.dev; at = rest.at; leaves = rest.leaves; image = rest.image; among = λ w inside. let some = rest.among w inside in omega (arith, some) })
    (cases_bool (is_leaving (state_at ds dev) && list_any (is_image_by e d u) (ds.entries dev)))
  where
    one : (a b : Bool) → (a && b) ≡ true → a ≡ true
    one true b x = refl
    one false b x = absurd (false_true x)

    two : (a b : Bool) → (a && b) ≡ true → b ≡ true
    two true b x = x
    two false b x = absurd (false_true x)

    itself : (i w n : ℕ) → in_extent e w ≡ true → 0 < one_if ((i == i) && in_extent e w) + n
    itself i w n inside = grind (arith, nat_tests, inside)

-- a part of the visits that has the unit
has_part : (ds : Devices) (vs : List Visited) (i w d u : ℕ) → is_leaving (state_at ds i) ≡ true → 0 < end_hits vs i w → ((e : Extent) → in_extent e w ≡ true → list_any (is_image_by e d u) (ds.entries i) ≡ true) → any_image ds vs d u ≡ true
has_part ds [] i w d u leaves some image = absurd (omega (arith, some))
has_part ds (Hop dev e ∷ vs) i w d u leaves some image = has_part ds vs i w d u leaves some image
has_part ds (Piece split dev e ∷ vs) i w d u leaves some image = ⊎_elim
    (λ here.
    let same : i ≡ dev = grind (arith, nat_tests, here) in
    let inside : in_extent e w ≡ true = grind (arith, nat_tests, here) in
    let l : is_leaving (state_at ds dev) ≡ true = ap (λ (j : ℕ). is_leaving (state_at ds j)) (sym same) ∙ leaves in
    let m : list_any (is_image_by e d u) (ds.entries dev) ≡ true = ap (λ (j : ℕ). list_any (is_image_by e d u) (ds.entries j)) (sym same) ∙ image e inside in
    rw l rw m refl)
    (λ other.
    let rest = has_part ds vs i w d u leaves (let z = ap one_if other in omega (arith, some, z)) image in
    or_true (is_leaving (state_at ds dev) && list_any (is_image_by e d u) (ds.entries dev)) (any_image ds vs d u) rest)
    (cases_bool ((dev == i) && in_extent e w))

always : {A : Type 0} (xs : List A) → AllByRecursion (λ (x : A). Unit {0}) xs
always [] = tt
always (x ∷ xs) = (tt, always xs)

-- what may be freed may be gone through visit by visit
pub can_free : (s : Space) (a : Dva) (old new : List Visited) → IsRanked (devices_in s) → IsFreeable s a → (v : Visits (devices_in s) a old new) → CanFree s v.visits
can_free s a old new ranked f v =
    let ds : Devices = devices_in s in
    let may : MayFree s v.visits = may_free s a old new f.some ranked f.resolves v f in
    record {
      apart = may.apart;
      once = λ d u. let p = v.passed d u in let o = passed_once ds a d u ranked f.known f.resolves f.once in omega (arith, p, o);
      known = recursion_from_All (IsKnown ds) v.visits (all_known s a old new f.some ranked f.resolves v);
      mapped = all_mapped ds a old new f.some v;
      fit = recursion_from_All (IsFit s) v.visits may.fit;
      room = may.room;
    }

module _ (whole : Whole) (slabs : Slabs) (devs : List Kept) (a : Dva) (old new : List Visited) (space : IsSpace whole slabs devs) (ranked : IsRanked (devices_in (space_of whole devs))) (f : IsFreeable (space_of whole devs) a) (v : Visits (devices_in (space_of whole devs)) a old new) where
  abbrev s : Space
  s = space_of whole devs

  abbrev ds : Devices
  ds = devices_in s

  may : MayFree s v.visits
  may = may_free s a old new f.some ranked f.resolves v f

  fit : AllByRecursion (IsFit s) v.visits
  fit = recursion_from_All (IsFit s) v.visits may.fit

  ends : (d u : ℕ) → nat_lt 0 (end_hits v.visits d u) ≡ leads_to ds a d u
  ends d u = ap (λ (n : ℕ). nat_lt 0 n) (ends_are ds a old new d u f.resolves v) ∙ sym (leads_hits ds a d u)

  led : (d u : ℕ) → leads_to ds a d u ≡ true → 0 < end_hits v.visits d u
  led d u leads = some (end_hits v.visits d u) (ends d u ∙ leads)
    where
      some : (n : ℕ) → nat_lt 0 n ≡ true → 0 < n
      some n is = grind (arith, nat_tests, is)

  leaves_in : (d : ℕ) → is_leaving (state_at ds d) ≡ true → is_leaving (kept_of devs d).row.state ≡ true
  leaves_in d is = sym (ap (λ (p : DevPart). is_leaving p.row.state) (part_is devs d)) ∙ is

  to_copy : (d u : ℕ) → any_image ds v.visits d u ≡ true → is_copy_of s a d u ≡ true
  to_copy d u is =
      let p = find_part ds v.visits d u is in
      let k : Kept = kept_of devs p.dev in
      let leaves = leaves_in p.dev p.leaves in
      let image : list_any (is_image_by p.at d u) k.moves.entries ≡ true = subst (λ (q : DevPart). list_any (is_image_by p.at d u) q.entries ≡ true) (part_is devs p.dev) p.image in
      let x = find_any (λ (y : Entry). y.src + y.len ≤ k.moves.opened) (is_image_by p.at d u) k.moves.entries (each_ends whole slabs devs p.dev space leaves) image in
      let w : ℕ = x.one.src + (u - x.one.dst) in
      let i = x.is in
      let inside : in_extent p.at w ≡ true = grind (arith, nat_tests, i) in
      let below : w < k.moves.opened = let h = x.holds in grind (arith, nat_tests, i, h) in
      let some = p.among w inside in
      let unmarked = live_unmarked whole slabs devs p.dev space leaves w (fit_ends s v.visits fit p.dev w some) below in
      let leads : leads_to ds a p.dev w ≡ true = sym (ends p.dev w) ∙ grind (arith, nat_tests, some) in
      let puts : leads_to_copied s a (part_in k) p.dev d u x.one ≡ true = let copy : is_copy_by (part_in k) d u x.one ≡ true = grind (arith, nat_tests, i, unmarked) in rw copy leads in
      has_copy s a 0 s.parts.devs d u p.dev p.leaves
      (subst (λ (q : DevPart). list_any (leads_to_copied s a q (0 + p.dev) d u) q.entries ≡ true) (sym (part_is devs p.dev))
      (let z : p.dev ≡ 0 + p.dev = omega arith in subst (λ (n : ℕ). list_any (leads_to_copied s a (part_in k) n d u) k.moves.entries ≡ true) z (x.any (leads_to_copied s a (part_in k) p.dev d u) puts)))

  from_copy : (d u : ℕ) → is_copy_of s a d u ≡ true → any_image ds v.visits d u ≡ true
  from_copy d u is =
      let c = find_copy s a 0 s.parts.devs d u is in
      let z : 0 + c.place ≡ c.place = omega arith in
      let any : list_any (leads_to_copied s a (part_of s.parts.devs c.place) c.place d u) (part_of s.parts.devs c.place).entries ≡ true =
      subst (λ (n : ℕ). list_any (leads_to_copied s a (part_of s.parts.devs c.place) n d u) (part_of s.parts.devs c.place).entries ≡ true) z c.any in
      let x = find_any (λ (y : Entry). Unit {0}) (leads_to_copied s a (part_of s.parts.devs c.place) c.place d u) (part_of s.parts.devs c.place).entries (always (part_of s.parts.devs c.place).entries) any in
      let w : ℕ = x.one.src + (u - x.one.dst) in
      let both = x.is in
      let copy : is_copy_by (part_of s.parts.devs c.place) d u x.one ≡ true = left (is_copy_by (part_of s.parts.devs c.place) d u x.one) (leads_to ds a c.place w) both in
      let leads : leads_to ds a c.place w ≡ true = right (is_copy_by (part_of s.parts.devs c.place) d u x.one) (leads_to ds a c.place w) both in
      let some : 0 < end_hits v.visits c.place w = led c.place w leads in
      has_part ds v.visits c.place w d u c.leaves some
      (λ e inside. x.any (is_image_by e d u) (grind (arith, nat_tests, copy, inside)))
    where
      left : (a b : Bool) → (a && b) ≡ true → a ≡ true
      left true b e = refl
      left false b e = absurd (false_true e)

      right : (a b : Bool) → (a && b) ≡ true → b ≡ true
      right true b e = e
      right false b e = absurd (false_true e)

  images : (d u : ℕ) → any_image ds v.visits d u ≡ is_copy_of s a d u
  images d u = same_bool (any_image ds v.visits d u) (is_copy_of s a d u) (to_copy d u) (from_copy d u)

  -- while a device is leaving no checkpoint is held
  quiet : (birth d u : ℕ) → keeps whole.ckpt birth ≡ true → is_copy_of s a d u ≡ false
  quiet birth d u kept = ⊎_elim
      (λ yes.
      let p = find_part ds v.visits d u (from_copy d u yes) in
      let clear = (space.tied p.dev (leaves_in p.dev p.leaves)).quiet in
      absurd (false_true (sym (ap (λ (c : CkptPart). keeps c birth) clear) ∙ kept)))
      (λ no. no)
      (cases_bool (is_copy_of s a d u))

  pub frees_whole : (t : Space) (birth : ℕ) → FreesVisits (keeps whole.ckpt birth) s t v.visits → Frees s t a birth
  frees_whole t birth g = record {
    roles = λ d u.
        g.roles d u
        ∙ (ap (λ (b : Bool). if b then let_go (keeps whole.ckpt birth) (role_at s d u) else role_at s d u) (gone_all ds v.visits d u ∙ ap₂ (λ (x y : Bool). x || y) (ends d u) (images d u))
        ∙ role_is (leads_to ds a d u) (is_copy_of s a d u) (keeps whole.ckpt birth) (role_at s d u) (quiet birth d u));
    fresh = λ d u.
        g.fresh d u
        ∙ ap (λ (b : Bool). is_fresh s.parts.devs d u || b)
        (marked_all ds v.visits d u
        ∙ ap₂ (λ (n : ℕ) (x : Bool). nat_lt 0 n || (is_leaving (state_at ds d) && (x && nat_lt u (end_of_last (ds.entries d))))) (v.passed d u) (ends d u));
    meta = g.meta;
    frame = g.frame;
  }
    where
      role_is : (leads copy kept : Bool) (r : Role) → (kept ≡ true → copy ≡ false) → (if leads || copy then let_go kept r else r) ≡ (if leads then (if kept then kept_role r else freed r) else (if copy then freed r else r))
      role_is true copy kept r quiet = refl
      role_is false false kept r quiet = refl
      role_is false true true r quiet = absurd (false_true (sym (quiet refl)))
      role_is false true false r quiet = refl

pub frees_told : (whole : Whole) (slabs : Slabs) (devs : List Kept) (a : Dva) (list vs : List Visited) (kept : Bool) (birth : ℕ) (t : Space) → IsSpace whole slabs devs → IsFreeable (space_of whole devs) a → Visits (devices_in (space_of whole devs)) a [] list → vs ≡ list → kept ≡ keeps whole.ckpt birth
    → FreesVisits kept (space_of whole devs) t vs → Frees (space_of whole devs) t a birth
frees_told whole slabs devs a list vs kept birth t space f v same is g =
    let told : vs ≡ v.visits = same ∙ told_all (devices_in (space_of whole devs)) a [] list refl v in
    frees_whole whole slabs devs a [] list space space.ranked f v t birth
    (subst (λ (b : Bool). FreesVisits b (space_of whole devs) t v.visits) is (subst (λ (xs : List Visited). FreesVisits kept (space_of whole devs) t xs) told g))

-- while a checkpoint may have a block no device is leaving
pub quiet_kept : (whole : Whole) (slabs : Slabs) (devs : List Kept) (birth : ℕ) → IsSpace whole slabs devs → keeps whole.ckpt birth ≡ true → (d : ℕ) → is_leaving (kept_of devs d).row.state ≡ false
quiet_kept whole slabs devs birth space kept d = ⊎_elim
    (λ leaves. let clear = (space.tied d leaves).quiet in absurd (false_true (sym (ap (λ (c : CkptPart). keeps c birth) clear) ∙ kept)))
    (λ stays. stays)
    (cases_bool (is_leaving (kept_of devs d).row.state))
