-- What the visits of an address say of its units, and that they tell whether it may be freed.
use Rattle.std.proofs.Common.{◌≡◌, ℕ, zero, suc, ◌+◌, ◌-◌, ◌≤◌, ◌<◌, Bool, true, false, ◌==◌, ◌&&◌, ◌||◌, ◌⊎◌, max, add-one, nat_le, nat_lt, List, [], ◌∷◌, ◌++◌, map, length, Option, Some, inl, inr, refl, ◌∙◌, sym, ap, ap₂, subst, ⊎_elim, arith}
use Rattle.std.specs.Prelude.{All, slice_index}
use Rattle.std.specs.List.{AllByRecursion, range_with_len, list_any, sum_by}
use Rattle.std.proofs.lemmas.List.Elements.{All-from_recursion, recursion_from_All}
use Rattle.std.proofs.lemmas.List.Folds.{list_any-append}
use Rattle.std.proofs.lemmas.List.Sums.{sum_by-cons}
use Rattle.std.proofs.lemmas.Bool.{cases_lt}
use Rattle.std.proofs.lemmas.Bool.Decides.{nat_tests}
use Rattle.zr_base.specs.declared.space.Dva.{Dva}
use Rattle.zr_base.specs.declared.space.DevPart.{DevPart}
use Rattle.zr_base.specs.declared.space.Entry.{Entry}
use Rattle.zr_base.specs.declared.space.Extent.{Extent}
use Rattle.zr_base.specs.Extents.{in_extent, has_unit, HasAll, HasNone}
use Rattle.zr_rules.specs.Places.{Place, one_if, count_below, is_gone, is_fresh, part_of, state_of_dev}
use Rattle.zr_rules.specs.Devices.{Devices, state_at}
use Rattle.zr_rules.specs.Mappings.{entry_at}
use Rattle.zr_rules.specs.Resolve.{IsRanked, resolved, is_at, is_there, is_resolved, leads_to, resolve_hits}
use Rattle.zr_rules.specs.Roles.{is_live_role}
use Rattle.zr_rules.specs.Space.{Space, role_at}
use Rattle.zr_rules.specs.Equation.{devices_in, way_hits, ways_in, fresh_in}
use Rattle.zr_rules.specs.Steps.{meets}
use Rattle.zr_base.specs.declared.space.DevState.{DevState}
use Rattle.zr_base.specs.declared.space.DevState.TheVariants.{On, Leaving, Gone as GoneState}
use Rattle.zr_imap.specs.declared.image.Piece.{Piece as Part}
use Rattle.zr_imap.specs.Searches.{FollowFrom, piece_target}
use Rattle.zr_chain.specs.declared.visit.Visited.{Visited}
use Rattle.zr_chain.specs.declared.visit.Visited.TheVariants.{Hop, Piece}
use Rattle.zr_chain.specs.declared.visit.ChainErr.TheVariants.{NoEntry}
use Rattle.zr_chain.specs.Visits.{AreVisits, Visits, IsWithin, as_part, whole, pieces_of, parts_behind, hop_hits}
use Rattle.zr_chain.proofs.Parts.{target_first, target_later, parts_are}
use Rattle.zr_chain.proofs.Places.{each_append}
use Rattle.zr_chain.proofs.Passed.{known_behind}
use Rattle.zr_chain.proofs.Ways.{cases_bool}
use Rattle.zr_space.specs.Freeing.{end_hits, hops_in, is_shared, is_hop_at, IsInUse, IsUnmarked, IsKnown, IsFit, MayFree, AreApart, HasRoom, HasRoomIn, HaveRoom, RoomAt}
use Rattle.zr_space.specs.Live.{IsFreeable}
use Rattle.zr_space.specs.Paths.{LeadsNowhere}
use Rattle.zr_space.proofs.Freeables.{leads_each, none_some, there_of, way_one}
use Rattle.zr_space.proofs.Paths.{nowhere, part_past}
use Rattle.zr_metaslab.specs.Devices.{Devices as Slabs}
use Rattle.zr_units.specs.Uses.{Uses}
use Rattle.zr_space.specs.declared.whole.Whole.{Whole}
use Rattle.zr_space.specs.Views.{Kept, kept_of, part_in, space_of, role_in, IsSpace}
use Rattle.zr_space.proofs.Views.{part_is}
use Rattle.zr_space.proofs.Roles.{roles_are}
use Rattle.zr_space.proofs.Counts.{held_in}
use Rattle.zr_space.proofs.InUse.{held_live, live_held, live_unkept, live_uncopied}

-- ---- the devices of the visits

visits_known : (ds : Devices) (vs : List Visited) (left : List Part) → IsRanked ds → AreVisits ds left vs → AllByRecursion (λ (q : Part). q.dev < ds.count) left → AllByRecursion (IsKnown ds) vs
visits_known ds [] left ranked h known = tt
visits_known ds (v ∷ vs) [] ranked h known = absurd h
visits_known ds (Piece split d e ∷ vs) (p ∷ left) ranked h known =
    let dev : p.dev ≡ d = ap (λ (q : Part). q.dev) h.1 in
    ((omega (arith, known.0, dev), ap (λ (i : ℕ). is_gone (state_at ds i)) (sym dev) ∙ h.0), visits_known ds vs left ranked h.2 known.1)
visits_known ds (Hop d e ∷ vs) (p ∷ left) ranked h known =
    let all = each_append (λ (q : Part). q.dev < ds.count) (parts_behind p.split h.3) left (known_behind ds p h.3 ranked h.0 (parts_are ds p h.3 ranked h.0 h.4)) known.1 in
    ((omega (arith, known.0, h.1), ap (λ (i : ℕ). is_gone (state_at ds i)) h.1 ∙ h.0), visits_known ds vs (parts_behind p.split h.3 ++ left) ranked h.5 all)

-- ---- how often units lead to a place

-- how many of the n numbers from one on have the place
abbrev hits_over : (ℕ → Option Place) → ℕ → ℕ → ℕ → ℕ → ℕ
hits_over at from zero d u = 0
hits_over at from (suc n) d u = one_if (is_at (at from) d u) + hits_over at (from + 1) n d u

hits_same : (f g : ℕ → Option Place) (i j n d u : ℕ) → ((k : ℕ) → k < n → f (i + k) ≡ g (j + k)) → hits_over f i n d u ≡ hits_over g j n d u
hits_same f g i j zero d u same = refl
hits_same f g i j (suc n) d u same =
    let first : f i ≡ g j = ap f (omega arith) ∙ (same 0 (omega arith) ∙ ap g (omega arith)) in
    let rest = hits_same f g (i + 1) (j + 1) n d u (λ k lt. ap f (omega arith) ∙ (same (k + 1) (omega (arith, lt)) ∙ ap g (omega arith))) in
    ap₂ (λ (x : Option Place) (m : ℕ). one_if (is_at x d u) + m) first rest

hits_split : (f : ℕ → Option Place) (from m n d u : ℕ) → hits_over f from (m + n) d u ≡ hits_over f from m d u + hits_over f (from + m) n d u
hits_split f from zero n d u = let z : zero + n ≡ n = omega arith in let w : from + zero ≡ from = omega arith in rw (z, w) (omega arith)
hits_split f from (suc m) n d u =
    let rest = hits_split f (from + 1) m n d u in
    let s : suc m + n ≡ suc (m + n) = omega arith in
    let w : from + suc m ≡ from + 1 + m = omega arith in
    rw (s, w) (omega (arith, rest))

hits_run : (f : ℕ → Option Place) (dev at from n d u : ℕ) → ((k : ℕ) → k < n → f (from + k) ≡ Some (dev, at + k)) → hits_over f from n d u ≡ one_if ((dev == d) && (nat_le at u && nat_lt u (at + n)))
hits_run f dev at from zero d u here = grind (arith, nat_tests)
hits_run f dev at from (suc n) d u here =
    let first : f from ≡ Some (dev, at) = ap f (omega arith) ∙ (here 0 (omega arith) ∙ ap (λ (w : ℕ). Some (dev, w)) (omega arith)) in
    let one : one_if (is_at (f from) d u) ≡ one_if (dev == d && (at == u)) = ap (λ (p : Option Place). one_if (is_at p d u)) first in
    let rest = hits_run f dev (at + 1) (from + 1) n d u (λ k lt. ap f (omega arith) ∙ (here (k + 1) (omega (arith, lt)) ∙ ap (λ (w : ℕ). Some (dev, w)) (omega arith))) in
    grind (arith, nat_tests, one, rest)

-- how many of the parts have the unit
abbrev part_hits : List Part → ℕ → ℕ → ℕ
part_hits [] d u = 0
part_hits (p ∷ ps) d u = one_if ((p.dev == d) && in_extent p.at u) + part_hits ps d u

end_parts : (vs : List Visited) (d u : ℕ) → end_hits vs d u ≡ part_hits (pieces_of vs) d u
end_parts [] d u = refl
end_parts (Hop dev e ∷ vs) d u = end_parts vs d u
end_parts (Piece split dev e ∷ vs) d u = ap (λ (n : ℕ). one_if ((dev == d) && in_extent e u) + n) (end_parts vs d u)

follow_le : (from end : ℕ) (ps : List Part) → FollowFrom from end ps → from ≤ end
follow_le from end [] follow = omega (arith, follow)
follow_le from end (q ∷ ps) follow = let rest = follow_le (q.split + q.at.len) end ps follow.2 in let at = follow.0 in omega (arith, rest, at)

part_target : (ps : List Part) (from end d u : ℕ) → FollowFrom from end ps → hits_over (piece_target ps) from (end - from) d u ≡ part_hits ps d u
part_target [] from end d u follow = let z : end - from ≡ 0 = omega (arith, follow) in rw z refl
part_target (q ∷ ps) from end d u follow =
    let at = follow.0 in
    let ends = follow_le (q.split + q.at.len) end ps follow.2 in
    let parts : end - from ≡ q.at.len + (end - (q.split + q.at.len)) = omega (arith, at, ends) in
    let middle : from + q.at.len ≡ q.split + q.at.len = omega (arith, at) in
    let both = hits_split (piece_target (q ∷ ps)) from q.at.len (end - (q.split + q.at.len)) d u in
    let own = hits_run (piece_target (q ∷ ps)) q.dev q.at.start from q.at.len d u (λ k lt.
    target_first q ps (from + k) (omega (arith, at, lt)) ∙ ap (λ (w : ℕ). Some (q.dev, q.at.start + w)) (omega (arith, at))) in
    let later = hits_same (piece_target (q ∷ ps)) (piece_target ps) (q.split + q.at.len) (q.split + q.at.len) (end - (q.split + q.at.len)) d u (λ k lt. target_later q ps (q.split + q.at.len + k) (omega arith)) in
    let rest = part_target ps (q.split + q.at.len) end d u follow.2 in
    ap (λ (n : ℕ). hits_over (piece_target (q ∷ ps)) from n d u) parts
    ∙ (both ∙ ap₂ (λ (m n : ℕ). m + n) own (ap (λ (w : ℕ). hits_over (piece_target (q ∷ ps)) w (end - (q.split + q.at.len)) d u) middle ∙ (later ∙ rest)))

resolve_sum : (ds : Devices) (dev from n d u : ℕ) → sum_by (λ (p : Option Place). one_if (is_at p d u)) (map (λ (p : Place). resolved ds p.0 p.1) (map (λ (v : ℕ). (dev, v)) (range_with_len from n))) ≡ hits_over (resolved ds dev) from n d u
resolve_sum ds dev from zero d u = refl
resolve_sum ds dev from (suc n) d u =
    sum_by-cons (λ (p : Option Place). one_if (is_at p d u)) (resolved ds dev from) (map (λ (p : Place). resolved ds p.0 p.1) (map (λ (v : ℕ). (dev, v)) (range_with_len (from + 1) n)))
    ∙ ap (λ (m : ℕ). one_if (is_at (resolved ds dev from) d u) + m) (resolve_sum ds dev (from + 1) n d u)

any_hits : (ps : List (Option Place)) (d u : ℕ) → list_any (λ (p : Option Place). is_at p d u) ps ≡ nat_lt 0 (sum_by (λ (p : Option Place). one_if (is_at p d u)) ps)
any_hits [] d u = refl
any_hits (p ∷ ps) d u =
    let rest = any_hits ps d u in
    let more = list_any-append (λ (q : Option Place). is_at q d u) (p ∷ []) ps in
    let sum = sum_by-cons (λ (q : Option Place). one_if (is_at q d u)) p ps in
    more ∙ grind (arith, nat_tests, rest, sum)

pub leads_hits : (ds : Devices) (a : Dva) (d u : ℕ) → leads_to ds a d u ≡ nat_lt 0 (resolve_hits ds a d u)
leads_hits ds a d u = any_hits (map (λ (p : Place). resolved ds p.0 p.1) (map (λ (v : ℕ). (a.dev, v)) (range_with_len a.start a.len))) d u

-- an address that resolves has each of its units on a device that has it, or on one that is gone
within_all : (ds : Devices) (a : Dva) → is_resolved ds a ≡ true → (k : ℕ) → k < a.len → IsWithin ds a.dev (a.start + k)
within_all ds a all k lt = ⊎_elim
    (λ gone. inl gone)
    (λ there.
    let is : is_there ds a.dev (a.start + k) ≡ true = there_of ds a.dev (a.start + k) there (leads_each ds a all k lt) in
    inr (grind (arith, nat_tests, is)))
    (cases_bool (is_gone (state_at ds a.dev)))

-- the parts that are there have the unit as often as the address leads to it
pub ends_are : (ds : Devices) (a : Dva) (old new : List Visited) (d u : ℕ) → is_resolved ds a ≡ true → (v : Visits ds a old new) → end_hits v.visits d u ≡ resolve_hits ds a d u
ends_are ds a old new d u all v =
    let none : a.len - 0 ≡ a.len = omega arith in
    end_parts v.visits d u
    ∙ (sym (part_target (pieces_of v.visits) 0 a.len d u v.follow)
    ∙ (ap (λ (n : ℕ). hits_over (piece_target (pieces_of v.visits)) 0 n d u) none
    ∙ (hits_same (piece_target (pieces_of v.visits)) (resolved ds a.dev) 0 a.start a.len d u (λ k lt. ap (piece_target (pieces_of v.visits)) (omega arith) ∙ v.targets k lt (within_all ds a all k lt))
    ∙ sym (resolve_sum ds a.dev a.start a.len d u))))

-- ---- parts that are in use, and hops that are unmarked

in_one_or_rest : (b : Bool) (n : ℕ) → 0 < one_if b + n → b ≡ false → 0 < n
in_one_or_rest b n some not = grind (arith, nat_tests, some, not)

pub fit_ends : (s : Space) (vs : List Visited) → AllByRecursion (IsFit s) vs → (d u : ℕ) → 0 < end_hits vs d u → is_live_role (role_at s d u) ≡ true
fit_ends s [] fit d u some = absurd (omega (arith, some))
fit_ends s (Hop dev e ∷ vs) fit d u some = fit_ends s vs fit.1 d u some
fit_ends s (Piece split dev e ∷ vs) fit d u some = ⊎_elim
    (λ here.
    let same : dev ≡ d = grind (arith, nat_tests, here) in
    let inside : in_extent e u ≡ true = grind (arith, nat_tests, here) in
    ap (λ (i : ℕ). is_live_role (role_at s i u)) (sym same) ∙ fit.0 u inside)
    (λ not. fit_ends s vs fit.1 d u (in_one_or_rest ((dev == d) && in_extent e u) (end_hits vs d u) some not))
    (cases_bool ((dev == d) && in_extent e u))

pub fit_hops : (s : Space) (vs : List Visited) → AllByRecursion (IsFit s) vs → (d u : ℕ) → 0 < hop_hits vs d u → is_fresh s.parts.devs d u ≡ false
fit_hops s [] fit d u some = absurd (omega (arith, some))
fit_hops s (Piece split dev e ∷ vs) fit d u some = fit_hops s vs fit.1 d u some
fit_hops s (Hop dev e ∷ vs) fit d u some = ⊎_elim
    (λ here.
    let same : dev ≡ d = grind (arith, nat_tests, here) in
    let inside : in_extent e u ≡ true = grind (arith, nat_tests, here) in
    ap (λ (i : ℕ). is_fresh s.parts.devs i u) (sym same) ∙ fit.0 u inside)
    (λ not. fit_hops s vs fit.1 d u (in_one_or_rest ((dev == d) && in_extent e u) (hop_hits vs d u) some not))
    (cases_bool ((dev == d) && in_extent e u))

itself : (dev : ℕ) (e : Extent) (u n : ℕ) → in_extent e u ≡ true → 0 < one_if ((dev == dev) && in_extent e u) + n
itself dev e u n inside = grind (arith, nat_tests, inside)

pub all_fit : (s : Space) (vs : List Visited) → ((d u : ℕ) → 0 < end_hits vs d u → is_live_role (role_at s d u) ≡ true) → ((d u : ℕ) → 0 < hop_hits vs d u → is_fresh s.parts.devs d u ≡ false) → AllByRecursion (IsFit s) vs
all_fit s [] ends hops = tt
all_fit s (Hop dev e ∷ vs) ends hops =
    (λ u inside. hops dev u (itself dev e u (hop_hits vs dev u) inside), all_fit s vs ends (λ d u some. hops d u (omega (arith, some))))
all_fit s (Piece split dev e ∷ vs) ends hops =
    (λ u inside. ends dev u (itself dev e u (end_hits vs dev u) inside), all_fit s vs (λ d u some. ends d u (omega (arith, some))) hops)

-- ---- whether the address may be freed

count_same : (n : ℕ) (f g : ℕ → Bool) → ((k : ℕ) → f k ≡ g k) → count_below n f ≡ count_below n g
count_same zero f g same = refl
count_same (suc n) f g same = ap₂ (λ (m : ℕ) (b : Bool). m + one_if b) (count_same n f g same) (same n)

module _ (s : Space) (a : Dva) (old new : List Visited) (some : 0 < a.len) (ranked : IsRanked (devices_in s)) (all : is_resolved (devices_in s) a ≡ true) (v : Visits (devices_in s) a old new) where
  hops_are : (d u : ℕ) → hop_hits v.visits d u ≡ way_hits (devices_in s) (a ∷ []) d u
  hops_are d u = v.passed d u ∙ sym (way_one (devices_in s) a d u)

  ways_are : (d : ℕ) (e : Entry) → hops_in v.visits d e ≡ ways_in (devices_in s) (a ∷ []) d e
  ways_are d e = count_same e.len (λ k. nat_lt 0 (hop_hits v.visits d (e.src + k))) (λ k. nat_lt 0 (way_hits (devices_in s) (a ∷ []) d (e.src + k))) (λ k. ap (λ (n : ℕ). nat_lt 0 n) (hops_are d (e.src + k)))

  is_known : a.dev < (devices_in s).count
  is_known = ⊎_elim (λ lt. lt) (λ past. absurd (past_none past)) (cases_lt a.dev (devices_in s).count)
    where
      past_none : length s.parts.devs ≤ a.dev → ⊥
      past_none past =
          let there : is_gone (state_at (devices_in s) a.dev) ≡ false = ap (λ (p : DevPart). is_gone p.row.state) (part_past s.parts.devs a.dev past) in
          let out : is_there (devices_in s) a.dev (a.start + 0) ≡ false = grind (arith, nat_tests, past) in
          none_some (resolved (devices_in s) a.dev (a.start + 0)) (nowhere (devices_in s).count (devices_in s) a.dev (a.start + 0) there out) (leads_each (devices_in s) a all 0 some)

  pub all_known : All (IsKnown (devices_in s)) v.visits
  all_known =
      let not : (a.len == 0) ≡ false = grind (arith, nat_tests, some) in
      let order : AreVisits (devices_in s) (as_part a ∷ []) v.visits = subst (λ (left : List Part). AreVisits (devices_in s) left v.visits) (rw not refl) v.order in
      All-from_recursion (IsKnown (devices_in s)) v.visits (visits_known (devices_in s) v.visits (as_part a ∷ []) ranked order (is_known, tt))

  pub freeable : MayFree s v.visits → IsFreeable s a
  freeable m =
      let fit = recursion_from_All (IsFit s) v.visits m.fit in
      record {
        known = is_known;
        some = some;
        resolves = all;
        once = λ d u. let apart = m.apart d u in let is = ends_are (devices_in s) a old new d u all v in omega (arith, apart, is);
        used = λ d u leads. let hits = leads_hits (devices_in s) a d u in let is = ends_are (devices_in s) a old new d u all v in fit_ends s v.visits fit d u (grind (arith, nat_tests, hits, is, leads));
        spends = record {
          passed = λ d u some. let is = hops_are d u in fit_hops s v.visits fit d u (omega (arith, is, some));
          entries = λ d i gone lt. let room = m.room d i gone lt in let is = ways_are d (entry_at ((devices_in s).entries d) i) in omega (arith, room, is);
        };
      }

  pub may_free : IsFreeable s a → MayFree s v.visits
  may_free f = record {
    apart = λ d u. let once = f.once d u in let is = ends_are (devices_in s) a old new d u all v in omega (arith, once, is);
    fit = All-from_recursion (IsFit s) v.visits
        (all_fit s v.visits
        (λ d u some. let hits = leads_hits (devices_in s) a d u in let is = ends_are (devices_in s) a old new d u all v in f.used d u (grind (arith, nat_tests, hits, is, some)))
        (λ d u some. let is = hops_are d u in f.spends.passed d u (omega (arith, is, some))));
    room = λ d i gone lt. let room = f.spends.entries d i gone lt in let is = ways_are d (entry_at ((devices_in s).entries d) i) in omega (arith, room, is);
  }

-- what was told is the visits, where nothing was before
pub told_all : (ds : Devices) (a : Dva) (old new : List Visited) → old ≡ [] → (v : Visits ds a old new) → new ≡ v.visits
told_all ds a old new none v = v.appended ∙ ap (λ (vs : List Visited). vs ++ v.visits) none

-- an address of which a unit leads nowhere may not be freed
pub never_free : (s : Space) (a : Dva) (dev unit : ℕ) → LeadsNowhere (devices_in s) a (NoEntry dev unit) → IsFreeable s a → ⊥
never_free s a dev unit none f = none_some (resolved (devices_in s) a.dev (a.start + none.0)) none.2 (leads_each (devices_in s) a f.resolves none.0 none.1)

-- ---- units in use, and marks

module _ (whole : Whole) (slabs : Slabs) (devs : List Kept) (space : IsSpace whole slabs devs) (d : ℕ) (e : Extent) where
  abbrev x : Uses
  x = (kept_of devs d).uses

  role : (u : ℕ) → is_live_role (role_at (space_of whole devs) d u) ≡ is_live_role (role_in x u)
  role u = ap is_live_role (roles_are whole devs d u space)

  pub in_use : HasAll x.held e → HasNone x.kept e → HasNone x.copies e → IsInUse (space_of whole devs) d e
  in_use all unkept uncopied u inside = role u ∙ held_live x u (held_in _ _ x (space.account d) u (all u inside)) (all u inside) (unkept u inside) (uncopied u inside)

  pub use_held : IsInUse (space_of whole devs) d e → HasAll x.held e
  use_held used u inside = live_held x u (sym (role u) ∙ used u inside)

  pub use_unkept : IsInUse (space_of whole devs) d e → HasNone x.kept e
  use_unkept used u inside = live_unkept x u (sym (role u) ∙ used u inside)

  pub use_uncopied : IsInUse (space_of whole devs) d e → HasNone x.copies e
  use_uncopied used u inside = live_uncopied x u (sym (role u) ∙ used u inside)

  fresh_is : (u : ℕ) → is_fresh (space_of whole devs).parts.devs d u ≡ has_unit (kept_of devs d).moves.fresh u
  fresh_is u = ap (λ (p : DevPart). has_unit p.fresh u) (part_is devs d)

  pub none_marked : HasNone (kept_of devs d).moves.fresh e → IsUnmarked (space_of whole devs) d e
  none_marked none u inside = fresh_is u ∙ none u inside

  pub marked_none : IsUnmarked (space_of whole devs) d e → HasNone (kept_of devs d).moves.fresh e
  marked_none none u inside = sym (fresh_is u) ∙ none u inside

-- ---- parts without a common unit

any_cons : (p : Visited → Bool) (v : Visited) (vs : List Visited) → list_any p (v ∷ vs) ≡ (p v || list_any p vs)
any_cons p v vs = list_any-append p (v ∷ []) vs ∙ grind (arith, nat_tests)

-- two extents with a common unit have the one at which the later begins
common : (d dev : ℕ) (e g : Extent) (u : ℕ) → in_extent e u ≡ true → ((dev == d) && in_extent g u) ≡ true → ((d == dev) && (in_extent e (max e.start g.start) && in_extent g (max e.start g.start))) ≡ true
common d dev e g u inside has = grind (arith, nat_tests, inside, has)

false_true : false ≡ true → ⊥
false_true e = cc

unshared_none : (split d : ℕ) (e : Extent) (vs : List Visited) (u : ℕ) → list_any (is_shared (Piece split d e)) vs ≡ false → in_extent e u ≡ true → end_hits vs d u ≡ 0
unshared_none split d e [] u none inside = refl
unshared_none split d e (Hop dev g ∷ vs) u none inside =
    let both = any_cons (is_shared (Piece split d e)) (Hop dev g) vs in
    unshared_none split d e vs u (grind (arith, nat_tests, both, none)) inside
unshared_none split d e (Piece other dev g ∷ vs) u none inside =
    let both = any_cons (is_shared (Piece split d e)) (Piece other dev g) vs in
    let rest = unshared_none split d e vs u (grind (arith, nat_tests, both, none)) inside in
    let apart : ((d == dev) && (in_extent e (max e.start g.start) && in_extent g (max e.start g.start))) ≡ false = grind (arith, nat_tests, both, none) in
    let here : ((dev == d) && in_extent g u) ≡ false = ⊎_elim (λ yes. absurd (false_true (sym apart ∙ common d dev e g u inside yes))) (λ no. no) (cases_bool ((dev == d) && in_extent g u)) in
    rw here (omega (arith, rest))

shared_some : (split d : ℕ) (e : Extent) (vs : List Visited) → list_any (is_shared (Piece split d e)) vs ≡ true → (u : ℕ) × (in_extent e u ≡ true) × (0 < end_hits vs d u)
shared_some split d e [] some = absurd (false_true some)
shared_some split d e (Hop dev g ∷ vs) some =
    let both = any_cons (is_shared (Piece split d e)) (Hop dev g) vs in
    shared_some split d e vs (grind (arith, nat_tests, both, some))
shared_some split d e (Piece other dev g ∷ vs) some =
    let both = any_cons (is_shared (Piece split d e)) (Piece other dev g) vs in
    ⊎_elim
    (λ here.
    let m : ℕ = max e.start g.start in
    (m, grind (arith, nat_tests, here), grind (arith, nat_tests, here)))
    (λ not.
    let rest = shared_some split d e vs (grind (arith, nat_tests, both, some, not)) in
    (rest.0, rest.1, let lt = rest.2 in omega (arith, lt)))
    (cases_bool ((d == dev) && (in_extent e (max e.start g.start) && in_extent g (max e.start g.start))))

hop_shares : (dev : ℕ) (e : Extent) (vs : List Visited) → list_any (is_shared (Hop dev e)) vs ≡ false
hop_shares dev e [] = refl
hop_shares dev e (Hop other g ∷ vs) = any_cons (is_shared (Hop dev e)) (Hop other g) vs ∙ hop_shares dev e vs
hop_shares dev e (Piece split other g ∷ vs) = any_cons (is_shared (Hop dev e)) (Piece split other g) vs ∙ hop_shares dev e vs

pub apart_more : (v : Visited) (vs : List Visited) → list_any (is_shared v) vs ≡ false → AreApart vs → AreApart (v ∷ vs)
apart_more (Hop dev e) vs none apart d u = apart d u
apart_more (Piece split dev e) vs none apart d u = ⊎_elim
    (λ here.
    let same : dev ≡ d = grind (arith, nat_tests, here) in
    let inside : in_extent e u ≡ true = grind (arith, nat_tests, here) in
    let rest : end_hits vs d u ≡ 0 = ap (λ (i : ℕ). end_hits vs i u) (sym same) ∙ unshared_none split dev e vs u none inside in
    rw here (omega (arith, rest)))
    (λ not. rw not (let rest = apart d u in omega (arith, rest)))
    (cases_bool ((dev == d) && in_extent e u))

pub apart_less : (v : Visited) (vs : List Visited) → AreApart (v ∷ vs) → AreApart vs
apart_less (Hop dev e) vs apart d u = apart d u
apart_less (Piece split dev e) vs apart d u = let all = apart d u in omega (arith, all)

pub apart_not : (v : Visited) (vs : List Visited) → list_any (is_shared v) vs ≡ true → AreApart (v ∷ vs) → ⊥
apart_not (Hop dev e) vs some apart = false_true (sym (hop_shares dev e vs) ∙ some)
apart_not (Piece split dev e) vs some apart =
    let there = shared_some split dev e vs some in
    let all = apart dev there.0 in
    let own = itself_one dev e there.0 there.1 in
    let more = there.2 in
    omega (arith, all, own, more)
  where
    itself_one : (d : ℕ) (g : Extent) (u : ℕ) → in_extent g u ≡ true → one_if ((d == d) && in_extent g u) ≡ 1
    itself_one d g u inside = grind (arith, nat_tests, inside)

-- ---- hops

pub any_hop : (d u : ℕ) (vs : List Visited) → list_any (is_hop_at d u) vs ≡ nat_lt 0 (hop_hits vs d u)
any_hop d u [] = refl
any_hop d u (Piece split dev e ∷ vs) = any_cons (is_hop_at d u) (Piece split dev e) vs ∙ any_hop d u vs
any_hop d u (Hop dev e ∷ vs) =
    let rest = any_hop d u vs in
    any_cons (is_hop_at d u) (Hop dev e) vs ∙ grind (arith, nat_tests, rest)

-- one unit more
pub count_more : (test : ℕ → Bool) (k : ℕ) → count_below (k + 1) test ≡ count_below k test + one_if (test k)
count_more test k = rw add-one refl

-- ---- entries

room_or_none : (s : Space) (all vs : List Visited) (d i : ℕ) → i < length (part_of s.parts.devs d).entries → AllByRecursion (RoomAt s all) vs
    → HasRoom s all d i ⊎ ((k : ℕ) → k < (entry_at (part_of s.parts.devs d).entries i).len → hop_hits vs d ((entry_at (part_of s.parts.devs d).entries i).src + k) ≡ 0)
room_or_none s all [] d i lt room = inr (λ k below. refl)
room_or_none s all (Piece split dev e ∷ vs) d i lt room = room_or_none s all vs d i lt room.1
room_or_none s all (Hop dev e ∷ vs) d i lt room = ⊎_elim
    (λ here.
    let same : dev ≡ d = grind (arith, nat_tests, here) in
    let met : meets e.start e.len (entry_at (part_of s.parts.devs d).entries i) ≡ true = grind (arith, nat_tests, here) in
    let own : HasRoomIn s all d e = subst (λ (j : ℕ). HasRoomIn s all j e) same room.0 in
    inl (own i lt met))
    (λ not. ⊎_elim
    (λ has. inl has)
    (λ none. inr (λ k below. let rest = none k below in missed dev d e (entry_at (part_of s.parts.devs d).entries i) k (hop_hits vs d ((entry_at (part_of s.parts.devs d).entries i).src + k)) below not rest))
    (room_or_none s all vs d i lt room.1))
    (cases_bool ((dev == d) && meets e.start e.len (entry_at (part_of s.parts.devs d).entries i)))
  where
    missed : (dev d : ℕ) (e : Extent) (x : Entry) (k n : ℕ) → k < x.len → ((dev == d) && meets e.start e.len x) ≡ false → n ≡ 0 → one_if ((dev == d) && in_extent e (x.src + k)) + n ≡ 0
    missed dev d e x k n below not rest = grind (arith, nat_tests, below, not, rest)

count_none : (n : ℕ) (test : ℕ → Bool) → ((k : ℕ) → k < n → test k ≡ false) → count_below n test ≡ 0
count_none zero test none = refl
count_none (suc n) test none = let rest = count_none n test (λ k lt. none k (omega (arith, lt))) in let last = none n (omega arith) in rw last (omega (arith, rest))

-- the counted and the fresh units of an entry are no more than its units
fits_at : (whole : Whole) (slabs : Slabs) (devs : List Kept) → IsSpace whole slabs devs → (d i : ℕ) → is_gone (state_of_dev (map part_in devs) d) ≡ true → i < length (part_of (map part_in devs) d).entries
    → slice_index (part_of (map part_in devs) d).counts i + fresh_in (part_of (map part_in devs) d) (entry_at (part_of (map part_in devs) d).entries i) ≤ (entry_at (part_of (map part_in devs) d).entries i).len
fits_at whole slabs devs space d i gone lt =
    let k : Kept = kept_of devs d in
    let state : k.row.state ≡ GoneState = gone_state k.row.state (sym (ap (λ (p : DevPart). is_gone p.row.state) (part_is devs d)) ∙ gone) in
    let fits = ((space.moved d).gone state).counts.fits in
    subst (λ (p : DevPart). i < length p.entries → slice_index p.counts i + fresh_in p (entry_at p.entries i) ≤ (entry_at p.entries i).len) (sym (part_is devs d)) (λ below. fits i below) lt
  where
    gone_state : (st : DevState) → is_gone st ≡ true → st ≡ GoneState
    gone_state On is = absurd (cc)
    gone_state Leaving is = absurd (cc)
    gone_state GoneState is = refl

pub have_all : (whole : Whole) (slabs : Slabs) (devs : List Kept) → IsSpace whole slabs devs → (vs : List Visited) → All (RoomAt (space_of whole devs) vs) vs → HaveRoom (space_of whole devs) vs
have_all whole slabs devs space vs room d i gone lt =
    let s : Space = space_of whole devs in
    let entry : Entry = entry_at (part_of s.parts.devs d).entries i in
    ⊎_elim
    (λ has. has)
    (λ none.
    let zero_in : hops_in vs d entry ≡ 0 = count_none entry.len (λ k. nat_lt 0 (hop_hits vs d (entry.src + k))) (λ k below. ap (λ (n : ℕ). nat_lt 0 n) (none k below)) in
    let fits = fits_at whole slabs devs space d i gone lt in
    omega (arith, zero_in, fits))
    (room_or_none s vs vs d i lt (recursion_from_All (RoomAt s vs) vs room))

-- and what all entries have, those have that a visit meets
pub have_met : (s : Space) (vs : List Visited) (v : Visited) → IsKnown (devices_in s) v → HaveRoom s vs → RoomAt s vs v
have_met s vs (Hop d e) known room = λ i lt met. room d i known.1 lt
have_met s vs (Piece split d e) known room = tt

-- what is read of an entry
pub record IsRead (p : DevPart) (vs : List Visited) (d i obsolete hops : ℕ) (entry : Entry) : Type 0 where
  pub entry_is : entry ≡ entry_at p.entries i
  pub obsolete_is : obsolete ≡ slice_index p.counts i + fresh_in p (entry_at p.entries i)
  pub hops_are : hops ≡ hops_in vs d entry

abbrev pub RoomIn : DevPart → List Visited → ℕ → ℕ → Type 0
RoomIn p vs d i = slice_index p.counts i + fresh_in p (entry_at p.entries i) + hops_in vs d (entry_at p.entries i) ≤ (entry_at p.entries i).len

pub room_yes : (p q : DevPart) (vs : List Visited) (d i obsolete hops : ℕ) (entry : Entry) → p ≡ q → IsRead p vs d i obsolete hops entry → obsolete + hops ≤ entry.len → RoomIn q vs d i
room_yes p q vs d i obsolete hops entry same r le =
    subst (λ (x : DevPart). RoomIn x vs d i) same
    (let h : hops ≡ hops_in vs d (entry_at p.entries i) = r.hops_are ∙ ap (hops_in vs d) r.entry_is in let l : entry.len ≡ (entry_at p.entries i).len = ap (λ (x : Entry). x.len) r.entry_is in let o = r.obsolete_is in omega (arith, h, l, o, le))

pub room_no : (p q : DevPart) (vs : List Visited) (d i obsolete hops : ℕ) (entry : Entry) → p ≡ q → IsRead p vs d i obsolete hops entry → entry.len < obsolete + hops → RoomIn q vs d i → ⊥
room_no p q vs d i obsolete hops entry same r lt has =
    let own : RoomIn p vs d i = subst (λ (x : DevPart). RoomIn x vs d i) (sym same) has in
    let h : hops ≡ hops_in vs d (entry_at p.entries i) = r.hops_are ∙ ap (hops_in vs d) r.entry_is in
    let l : entry.len ≡ (entry_at p.entries i).len = ap (λ (x : Entry). x.len) r.entry_is in
    let o = r.obsolete_is in
    absurd (omega (arith, h, l, o, lt, own))
