-- A free lets go of the units of a device that is leaving, and of their copies.
use Rattle.std.proofs.Common.{◌≡◌, ℕ, zero, suc, ◌+◌, ◌-◌, ◌≤◌, ◌<◌, Bool, true, false, ◌==◌, ◌&&◌, ◌||◌, not, nat_le, nat_lt, List, [], ◌∷◌, map, length, refl, ◌∙◌, sym, ap, ap₂, subst, ⊎_elim, arith, if◌then◌else◌}
use Rattle.std.specs.Prelude.{All}
use Rattle.std.specs.List.{AllByRecursion, list_any, sum_by}
use Rattle.std.proofs.lemmas.Bool.{cases_lt}
use Rattle.std.proofs.lemmas.Bool.Decides.{nat_tests}
use Rattle.std.proofs.lemmas.List.Sums.{sum_by-cons}
use Rattle.zr_base.specs.declared.space.DevRow.{DevRow}
use Rattle.zr_base.specs.declared.space.DevState.TheVariants.{Leaving}
use Rattle.zr_base.specs.declared.space.Entry.{Entry}
use Rattle.zr_base.specs.declared.space.Extent.{Extent}
use Rattle.zr_base.specs.Extents.{in_extent, has_unit, HasAll, HasNone}
use Rattle.zr_rules.specs.Mappings.{end_of_last, entry_at, has_source, in_source}
use Rattle.zr_rules.specs.Places.{one_if, is_on, is_leaving}
use Rattle.zr_rules.specs.Devices.{Devices, state_at}
use Rattle.zr_rules.specs.Roles.{Role, freed, is_live_role}
use Rattle.zr_rules.specs.Space.{IsSet, role_at, copy_hits, is_copy_by}
use Rattle.zr_rules.specs.Equation.{devices_in}
use Rattle.zr_metaslab.specs.Devices.{Devices as Slabs, free_at, count_at}
use Rattle.zr_units.specs.Uses.{Uses, IsAccount}
use Rattle.zr_units.specs.Changes.{FreesUnits, FreesBorn}
use Rattle.zr_indirect.specs.Mapped.{Mapped, IsLeaving}
use Rattle.zr_indirect.specs.Changes.{FreesCopied, IsCopiedOrLeft, was_fresh_in}
use Rattle.zr_chain.specs.declared.visit.Visited.{Visited}
use Rattle.zr_chain.specs.declared.visit.Visited.TheVariants.{Hop, Piece}
use Rattle.zr_chain.proofs.Ways.{cases_bool}
use Rattle.zr_space.specs.declared.whole.Whole.{Whole}
use Rattle.zr_space.specs.Freeing.{IsInUse}
use Rattle.zr_space.specs.Views.{Kept, kept_of, part_in, space_of, role_in, EndsWithin, IsMoved, IsTied, IsSpace}
use Rattle.zr_space.specs.FreeVisits.{CanFree, FreesVisit, FreesOn, FreesImages, MarksCopied, HaveSpare, is_image, is_image_by, is_let_go, is_marked, let_go}
use Rattle.zr_space.proofs.Accounts.{account_as, frees_account, frees_roles}
use Rattle.zr_space.proofs.Changing.{but_each, copies_in, AreChanged, IsSameBeside, changed_space, changed_frame, same_meta, fresh_is}
use Rattle.zr_space.proofs.Counts.{held_in}
use Rattle.zr_space.proofs.Devs.{rows_are, entries_are}
use Rattle.zr_space.proofs.FreeImages.{any_more, each_ends, hits_least, image_not_live, live_unmarked, was_leaving}
use Rattle.zr_space.proofs.FreeSteps.{NoCopies}
use Rattle.zr_space.proofs.Freeing.{use_held, use_unkept, use_uncopied}
use Rattle.zr_space.proofs.ImageSteps.{copied, loses_roles, loses_root, to_other}
use Rattle.zr_space.proofs.Keeps.{most_units, set_of}
use Rattle.zr_space.proofs.Roles.{roles_are}
use Rattle.zr_space.proofs.Rooted.{SameUses, frees_root}
use Rattle.zr_space.proofs.Sizing.{within_of}
use Rattle.zr_space.proofs.Synced.{leaving_state}

false_true : false ≡ true → ⊥
false_true e = cc

-- a copy is of no block
pub copies_apart : (whole : Whole) (s : Slabs) (devs : List Kept) (v : Visited) → IsSpace whole s devs → CanFree (space_of whole devs) (v ∷ []) → NoCopies (space_of whole devs) v
copies_apart whole s devs (Hop dev e) space can = tt
copies_apart whole s devs (Piece split dev e) space can = λ d u live. by (is_leaving (state_at (devices_in (space_of whole devs)) dev) && list_any (is_image_by e d u) ((devices_in (space_of whole devs)).entries dev)) d u live refl
  where
    one : (a b : Bool) → (a && b) ≡ true → a ≡ true
    one true b x = refl
    one false b x = absurd (false_true x)

    two : (a b : Bool) → (a && b) ≡ true → b ≡ true
    two true b x = x
    two false b x = absurd (false_true x)

    by : (b : Bool) (d u : ℕ) → is_live_role (role_at (space_of whole devs) d u) ≡ true → (is_leaving (state_at (devices_in (space_of whole devs)) dev) && list_any (is_image_by e d u) ((devices_in (space_of whole devs)).entries dev)) ≡ b
        → (is_leaving (state_at (devices_in (space_of whole devs)) dev) && list_any (is_image_by e d u) ((devices_in (space_of whole devs)).entries dev)) ≡ false
    by false d u live is = is
    by true d u live is =
        let leaves : is_leaving (kept_of devs dev).row.state ≡ true = sym (ap (λ (r : DevRow). is_leaving r.state) (rows_are devs dev)) ∙ one (is_leaving (state_at (devices_in (space_of whole devs)) dev)) (list_any (is_image_by e d u) ((devices_in (space_of whole devs)).entries dev)) is in
        let image : list_any (is_image_by e d u) (kept_of devs dev).moves.entries ≡ true = subst (λ (es : List Entry). list_any (is_image_by e d u) es ≡ true) (entries_are devs dev) (two (is_leaving (state_at (devices_in (space_of whole devs)) dev)) (list_any (is_image_by e d u) ((devices_in (space_of whole devs)).entries dev)) is) in
        absurd (image_not_live whole s devs dev space leaves e d u can.fit.0 image live)

-- ---- sums over the entries

-- the copies that there were are those that are there and those of the extent
sum_parts : (f g h : Entry → Bool) (P : Entry → Type 0) (es : List Entry) → AllByRecursion P es → ((x : Entry) → P x → one_if (f x) ≡ one_if (g x) + one_if (h x)) → sum_by (λ (x : Entry). one_if (f x)) es ≡ sum_by (λ (x : Entry). one_if (g x)) es + sum_by (λ (x : Entry). one_if (h x)) es
sum_parts f g h P [] all each = refl
sum_parts f g h P (x ∷ xs) all each =
    let rest = sum_parts f g h P xs all.1 each in
    let own = each x all.0 in
    let a = sum_by-cons (λ (y : Entry). one_if (f y)) x xs in
    let b = sum_by-cons (λ (y : Entry). one_if (g y)) x xs in
    let c = sum_by-cons (λ (y : Entry). one_if (h y)) x xs in
    omega (arith, rest, own, a, b, c)

-- a sum of one at most is whether the test holds of any
sum_any : (f : Entry → Bool) (es : List Entry) → sum_by (λ (x : Entry). one_if (f x)) es ≤ 1 → sum_by (λ (x : Entry). one_if (f x)) es ≡ one_if (list_any f es)
sum_any f [] few = refl
sum_any f (x ∷ xs) few =
    let sum = sum_by-cons (λ (y : Entry). one_if (f y)) x xs in
    let rest = sum_any f xs (omega (arith, sum, few)) in
    let any = ap one_if (any_more f x xs) in
    let join = joins (f x) (list_any f xs) (omega (arith, sum, few, rest)) in
    omega (arith, sum, rest, any, join)
  where
    joins : (a b : Bool) → one_if a + one_if b ≤ 1 → one_if a + one_if b ≡ one_if (a || b)
    joins true true le = absurd (omega (arith, le))
    joins true false le = refl
    joins false b le = omega arith

-- the copies of all devices, where those that one has put there changed
hits_but : (devs next : List Kept) (d j u : ℕ) → length next ≡ length devs → d < length devs → ((i : ℕ) → (i == d) ≡ false → copies_in (part_in (kept_of next i)) j u ≡ copies_in (part_in (kept_of devs i)) j u)
    → copy_hits (map part_in next) j u + copies_in (part_in (kept_of devs d)) j u ≡ copy_hits (map part_in devs) j u + copies_in (part_in (kept_of next d)) j u
hits_but [] next d j u count there same = absurd (omega (arith, there))
hits_but (x ∷ xs) [] d j u count there same = absurd (omega (arith, count))
hits_but (x ∷ xs) (y ∷ ys) zero j u count there same =
    let a = sum_by-cons (λ p. copies_in p j u) (part_in x) (map part_in xs) in
    let b = sum_by-cons (λ p. copies_in p j u) (part_in y) (map part_in ys) in
    let rest = all_same xs ys (omega (arith, count)) (λ i. same (suc i) (grind (arith, nat_tests))) in
    omega (arith, a, b, rest)
  where
    all_same : (xs ys : List Kept) → length ys ≡ length xs → ((i : ℕ) → copies_in (part_in (kept_of ys i)) j u ≡ copies_in (part_in (kept_of xs i)) j u) → sum_by (λ p. copies_in p j u) (map part_in ys) ≡ sum_by (λ p. copies_in p j u) (map part_in xs)
    all_same [] [] count same = refl
    all_same [] (y ∷ ys) count same = absurd (omega (arith, count))
    all_same (x ∷ xs) [] count same = absurd (omega (arith, count))
    all_same (x ∷ xs) (y ∷ ys) count same =
        let a = sum_by-cons (λ p. copies_in p j u) (part_in x) (map part_in xs) in
        let b = sum_by-cons (λ p. copies_in p j u) (part_in y) (map part_in ys) in
        let first = same 0 in
        let rest = all_same xs ys (omega (arith, count)) (λ i. same (suc i)) in
        omega (arith, a, b, first, rest)
hits_but (x ∷ xs) (y ∷ ys) (suc d) j u count there same =
    let a = sum_by-cons (λ p. copies_in p j u) (part_in x) (map part_in xs) in
    let b = sum_by-cons (λ p. copies_in p j u) (part_in y) (map part_in ys) in
    let first = same 0 (grind (arith, nat_tests)) in
    let rest = hits_but xs ys d j u (omega (arith, count)) (omega (arith, there)) (λ i ne. same (suc i) (grind (arith, nat_tests, ne))) in
    omega (arith, a, b, first, rest)

-- ---- units of a device that is leaving

module _ (whole : Whole) (s : Slabs) (devs : List Kept) (d : ℕ) (e : Extent) (space : IsSpace whole s devs) (leaves : is_leaving (kept_of devs d).row.state ≡ true) (used : IsInUse (space_of whole devs) d e) where
  abbrev pub k : Kept
  k = kept_of devs d

  pub out : IsLeaving k.moves
  out = was_leaving whole s devs d space leaves

  pub state : k.moves.state ≡ Leaving
  state = (space.moved d).state ∙ leaving_state k.row.state leaves

  pub held : HasAll k.uses.held e
  held = use_held whole s devs space d e used

  pub unkept : HasNone k.uses.kept e
  unkept = use_unkept whole s devs space d e used

  pub uncopied : HasNone k.uses.copies e
  uncopied = use_uncopied whole s devs space d e used

  pub inside : (u : ℕ) → in_extent e u ≡ true → u < k.row.units
  inside u is = let lt = held_in (free_at s d) (count_at s d) k.uses (space.account d) u (held u is) in let most = most_units k (space.rows d) in omega (arith, lt, most)

  -- no unit from the frontier on is marked
  unmarked_above : (u : ℕ) → k.moves.opened ≤ u → has_unit k.moves.fresh u ≡ false
  unmarked_above u le = by (has_unit k.moves.fresh u) refl
    where
      below : (u : ℕ) (es : List Entry) → AllByRecursion (λ (x : Entry). x.src + x.len ≤ k.moves.opened) es → has_source es u ≡ true → u < k.moves.opened
      below u [] all is = absurd (false_true is)
      below u (x ∷ xs) all is = ⊎_elim
          (λ here. let a = all.0 in grind (arith, nat_tests, here, a))
          (λ other. below u xs all.1 (sym (rw other refl) ∙ is))
          (cases_bool (in_source x u))

      by : (b : Bool) → has_unit k.moves.fresh u ≡ b → has_unit k.moves.fresh u ≡ false
      by true is = let lt = below u k.moves.entries (each_ends whole s devs d space leaves) (out.marks.sources u is) in absurd (omega (arith, lt, le))
      by false is = is

  pub unmarked : HasNone k.moves.fresh e
  unmarked u is = ⊎_elim
      (λ lt. live_unmarked whole s devs d space leaves u (used u is) lt)
      (λ le. unmarked_above u le)
      (cases_lt u k.moves.opened)

  pub there : IsCopiedOrLeft k.moves e
  there u is = ⊎_elim
      (λ lt. let c = ((space.tied d leaves).copied u (held u is) lt).0 in grind (arith, nat_tests, c))
      (λ le. let l = (space.tied d leaves).left u in let h = held u is in grind (arith, nat_tests, l, h, le))
      (cases_lt u k.moves.opened)

-- what the steps of it did
pub record IsLetGo (whole : Whole) (s t v : Slabs) (devs mid now next : List Kept) (d : ℕ) (e : Extent) : Type 0 where
  pub space : IsSpace whole s devs
  pub known : d < length devs
  pub leaves : is_leaving (kept_of devs d).row.state ≡ true
  pub used : IsInUse (space_of whole devs) d e
  pub images : FreesImages s t devs mid (is_image (kept_of devs d).moves.entries e)
  pub source : kept_of mid d ≡ kept_of devs d
  pub frees : FreesOn t v mid now d e
  pub marks : MarksCopied now next d e

module _ (whole : Whole) (s t v : Slabs) (devs mid now next : List Kept) (d : ℕ) (e : Extent) (h : IsLetGo whole s t v devs mid now next d e) where
  abbrev y : Kept
  y = kept_of devs d

  abbrev x : Kept
  x = kept_of next d

  abbrev es : List Entry
  es = y.moves.entries

  was : IsLeaving y.moves
  was = out whole s devs d e h.space h.leaves h.used

  -- what holds of the device and of each other holds of all
  on_next : (P : ℕ → Kept → Type 0) → P d x → ((j : ℕ) → (j == d) ≡ false → P j (kept_of mid j)) → (j : ℕ) → P j (kept_of next j)
  on_next P here others = but_each now next d P h.marks.others here (λ j ne. subst (P j) (sym (h.frees.others.others j ne)) (others j ne))

  now_row : (kept_of now d).row ≡ y.row
  now_row = ap (λ (z : Kept). z.row) h.frees.here ∙ ap (λ (z : Kept). z.row) h.source

  now_moves : (kept_of now d).moves ≡ y.moves
  now_moves = ap (λ (z : Kept). z.moves) h.frees.here ∙ ap (λ (z : Kept). z.moves) h.source

  row_is : x.row ≡ y.row
  row_is = ap (λ (z : Kept). z.row) h.marks.here ∙ now_row

  uses_are : x.uses ≡ (kept_of now d).uses
  uses_are = ap (λ (z : Kept). z.uses) h.marks.here

  copied_now : FreesCopied y.moves x.moves e
  copied_now = subst (λ (m : Mapped). FreesCopied m x.moves e) now_moves h.marks.frees

  freed_now : FreesUnits y.uses x.uses e
  freed_now = subst (λ (z : Uses). FreesUnits y.uses z e) (sym uses_are) (subst (λ (z : Kept). FreesUnits z.uses (kept_of now d).uses e) h.source h.frees.frees)

  entries_is : x.moves.entries ≡ es
  entries_is = ap (λ (m : Mapped). m.entries) copied_now.others

  inside_row : (u : ℕ) → in_extent e u ≡ true → u < y.row.units
  inside_row = inside whole s devs d e h.space h.leaves h.used

  moved : IsMoved x.row x.moves
  moved = subst (λ (r : DevRow). IsMoved r x.moves) (sym row_is) (record {
    state = ap (λ (m : Mapped). m.state) copied_now.others ∙ (h.space.moved d).state;
    service = λ is. absurd (false_true (sym (ap is_leaving is) ∙ h.leaves));
    leaving = λ is. h.marks.leaving;
    gone = λ is. absurd (false_true (sym (ap is_leaving is) ∙ h.leaves));
    fresh = set_of y.row.units y.row.units x.moves.fresh (omega arith) h.marks.leaving.fresh_maximal
        (λ u has. let f = copied_now.fresh u in let a = within_of y.row.units y.moves.fresh (h.space.moved d).fresh.within u in let b = inside_row u in grind (arith, nat_tests, f, a, b, has));
    came = set_of y.row.units y.row.units x.moves.came (omega arith) h.marks.leaving.came_maximal
        (λ u has. let f = copied_now.came u in let a = within_of y.row.units y.moves.came (h.space.moved d).came.within u in let b = inside_row u in grind (arith, nat_tests, f, a, b, has));
    went = subst (λ (xs : List Extent). IsSet y.row.units xs) (sym h.marks.leaving.went_none) (record { maximal = tt; within = tt });
    sources = subst (All (EndsWithin y.row.units)) (sym entries_is) (h.space.moved d).sources;
  })

  -- ---- the copies

  image_here : (u : ℕ) → is_image es e d u ≡ false
  image_here u = none es (λ i lt. (to_other whole s devs d e h.space h.leaves h.used i lt).other)
    where
      none : (xs : List Entry) → ((i : ℕ) → i < length xs → (entry_at xs i).dev ≡ d → ⊥) → list_any (is_image_by e d u) xs ≡ false
      none [] other = refl
      none (z ∷ zs) other =
          let first = other 0 (omega arith) in
          let off : (z.dev == d) ≡ false = grind (arith, nat_tests, first) in
          let not : is_image_by e d u z ≡ false = rw off refl in
          any_more (is_image_by e d u) z zs ∙ rw not (none zs (λ i lt. other (suc i) (omega (arith, lt))))

  image_copied_in : (j u : ℕ) → is_image es e j u ≡ true → has_unit (kept_of devs j).uses.copies u ≡ true
  image_copied_in = copied whole s devs d e h.space h.leaves h.used

  copies_next : (j u : ℕ) → has_unit (kept_of next j).uses.copies u ≡ (has_unit (kept_of devs j).uses.copies u && not (is_image es e j u))
  copies_next j u = on_next (λ i z. has_unit z.uses.copies u ≡ (has_unit (kept_of devs i).uses.copies u && not (is_image es e i u)))
      (let none = image_here u in let same = ap (λ (z : Uses). has_unit z.copies u) freed_now.others in grind (arith, nat_tests, none, same))
      (λ i ne. (h.images.loses i).copies u)
      j

  splits : (j u : ℕ) (z : Entry) → z.src + z.len ≤ y.moves.opened → one_if (is_copy_by (part_in y) j u z) ≡ one_if (is_copy_by (part_in x) j u z) + one_if (is_image_by e j u z)
  splits j u z below = by (in_extent e (z.src + (u - z.dst))) refl
    where
      f : has_unit x.moves.fresh (z.src + (u - z.dst)) ≡ (has_unit y.moves.fresh (z.src + (u - z.dst)) || (in_extent e (z.src + (u - z.dst)) && nat_lt (z.src + (u - z.dst)) y.moves.opened))
      f = copied_now.fresh (z.src + (u - z.dst))

      by : (b : Bool) → in_extent e (z.src + (u - z.dst)) ≡ b → one_if (is_copy_by (part_in y) j u z) ≡ one_if (is_copy_by (part_in x) j u z) + one_if (is_image_by e j u z)
      by true is =
          let none = unmarked whole s devs d e h.space h.leaves h.used (z.src + (u - z.dst)) is in
          split_yes (z.dev == j) (nat_le z.dst u) (nat_lt u (z.dst + z.len)) (has_unit y.moves.fresh (z.src + (u - z.dst))) (has_unit x.moves.fresh (z.src + (u - z.dst))) (in_extent e (z.src + (u - z.dst))) (nat_lt (z.src + (u - z.dst)) y.moves.opened) is none f
          (λ one two. grind (arith, nat_tests, one, two, below))
        where
          split_yes : (a b c was new inside lt : Bool) → inside ≡ true → was ≡ false → new ≡ (was || (inside && lt)) → (b ≡ true → c ≡ true → lt ≡ true) → one_if (a && (b && (c && not was))) ≡ one_if (a && (b && (c && not new))) + one_if (a && (b && (c && inside)))
          split_yes false b c was new inside lt is none same low = refl
          split_yes true false c was new inside lt is none same low = refl
          split_yes true true false was new inside lt is none same low = refl
          split_yes true true true was new inside lt is none same low = let l = low refl refl in grind (arith, nat_tests, is, none, same, l)
      by false is = split_no (z.dev == j) (nat_le z.dst u) (nat_lt u (z.dst + z.len)) (has_unit y.moves.fresh (z.src + (u - z.dst))) (has_unit x.moves.fresh (z.src + (u - z.dst))) (in_extent e (z.src + (u - z.dst))) (nat_lt (z.src + (u - z.dst)) y.moves.opened) is f
        where
          split_no : (a b c was new inside lt : Bool) → inside ≡ false → new ≡ (was || (inside && lt)) → one_if (a && (b && (c && not was))) ≡ one_if (a && (b && (c && not new))) + one_if (a && (b && (c && inside)))
          split_no a b c was new inside lt is same = grind (arith, nat_tests, is, same)

  hits_next : (j u : ℕ) → copy_hits (map part_in next) j u ≡ one_if (has_unit (kept_of next j).uses.copies u)
  hits_next j u =
      let but = hits_but devs next d j u count_is h.known (λ i ne. on_next (λ n z. (n == d) ≡ false → copies_in (part_in z) j u ≡ copies_in (part_in (kept_of devs n)) j u) (λ same. absurd (itself same)) (λ n other _. ap (λ (z : Kept). copies_in (part_in z) j u) (h.images.kept n)) i ne) in
      let old : copies_in (part_in y) j u ≡ sum_by (λ (z : Entry). one_if (is_copy_by (part_in y) j u z)) es = rw h.leaves refl in
      let new : copies_in (part_in x) j u ≡ sum_by (λ (z : Entry). one_if (is_copy_by (part_in x) j u z)) es = rw (ap (λ (r : DevRow). is_leaving r.state) row_is ∙ h.leaves) (ap (λ (xs : List Entry). sum_by (λ (z : Entry). one_if (is_copy_by (part_in x) j u z)) xs) entries_is) in
      let sum = sum_parts (is_copy_by (part_in y) j u) (is_copy_by (part_in x) j u) (is_image_by e j u) (λ (z : Entry). z.src + z.len ≤ y.moves.opened) es (each_ends whole s devs d h.space h.leaves) (splits j u) in
      let least = hits_least devs d j u in
      let all = h.space.copies j u in
      let bit = few (has_unit (kept_of devs j).uses.copies u) in
      let any = sum_any (is_image_by e j u) es (omega (arith, sum, old, least, all, bit)) in
      let copy = image_copied_in j u in
      let now_copies = ap one_if (copies_next j u) in
      let less = left (has_unit (kept_of devs j).uses.copies u) (is_image es e j u) copy in
      omega (arith, but, old, new, sum, any, all, now_copies, less)
    where
      few : (b : Bool) → one_if b ≤ 1
      few true = omega arith
      few false = omega arith

      left : (a b : Bool) → (b ≡ true → a ≡ true) → one_if (a && not b) + one_if b ≡ one_if a
      left true true f = refl
      left true false f = refl
      left false true f = absurd (false_true (f refl))
      left false false f = refl

      itself : (d == d) ≡ false → ⊥
      itself is = absurd (grind (arith, nat_tests, is))

      count_is : length next ≡ length devs
      count_is = h.marks.others.count ∙ (h.frees.others.count ∙ h.images.count)

  -- ---- the account

  x_account : IsAccount (free_at v d) (count_at v d) x.uses
  x_account =
      let was_account : IsAccount (free_at t d) (count_at t d) y.uses = subst (λ (z : Kept). IsAccount (free_at t d) (count_at t d) z.uses) h.source (h.images.account d) in
      let given = subst (λ (z : Kept). FreesBorn z.uses.born (kept_of now d).uses.born z.uses.freed.blocks (kept_of now d).uses.freed.blocks t v d e) h.source h.frees.given in
      subst (IsAccount (free_at v d) (count_at v d)) (sym uses_are)
      (frees_account (free_at t d) (free_at v d) (count_at t d) (count_at v d) y.uses (kept_of now d).uses e was_account (subst (λ (z : Kept). FreesUnits z.uses (kept_of now d).uses e) h.source h.frees.frees)
      (held whole s devs d e h.space h.leaves h.used) (unkept whole s devs d e h.space h.leaves h.used) (uncopied whole s devs d e h.space h.leaves h.used)
      (λ u. let b = given.free d u in grind (arith, nat_tests, b)) given.count given.born_maximal given.deferred_maximal)

  now_tied : IsTied whole x
  now_tied =
      let t0 = h.space.tied d h.leaves in
      record {
        left = λ u. let a = t0.left u in let b = copied_now.left_is u in let c = freed_now.held.members u in let o = ap (λ (m : Mapped). m.opened) copied_now.others in tied_left (has_unit y.uses.held u) (nat_le y.moves.opened u) (nat_le x.moves.opened u) (in_extent e u) (has_unit y.moves.left u) (has_unit x.moves.left u) (has_unit x.uses.held u) a b c (ap (λ (n : ℕ). nat_le n u) o);
        copied = λ u is lt.
            let c = freed_now.held.members u in
            let o = ap (λ (m : Mapped). m.opened) copied_now.others in
            let f = copied_now.fresh u in
            let was_held : has_unit y.uses.held u ≡ true = grind (arith, nat_tests, c, is) in
            let outside : in_extent e u ≡ false = grind (arith, nat_tests, c, is) in
            let both = t0.copied u was_held (omega (arith, lt, o)) in
            (ap (λ (xs : List Entry). has_source xs u) entries_is ∙ both.0, (let n = both.1 in grind (arith, nat_tests, f, n, outside)));
        quiet = t0.quiet;
        unkept = λ u. ap (λ (z : Uses). has_unit z.kept u) freed_now.others ∙ t0.unkept u;
        uncopied = λ u. ap (λ (z : Uses). has_unit z.copies u) freed_now.others ∙ t0.uncopied u;
      }
    where
      tied_left : (was above above2 inside left_was left_now now : Bool) → left_was ≡ (was && above) → left_now ≡ (left_was && not inside) → now ≡ (was && not inside) → above2 ≡ above → left_now ≡ (now && above2)
      tied_left was above above2 inside left_was left_now now a b c o = grind (arith, nat_tests, a, b, c, o)

  changed : AreChanged whole s v devs next
  changed = record {
    count = h.marks.others.count ∙ (h.frees.others.count ∙ h.images.count);
    row = on_next (λ j z. z.row ≡ (kept_of devs j).row) row_is (λ j ne. ap (λ (z : Kept). z.row) (h.images.kept j));
    entries = on_next (λ j z. z.moves.entries ≡ (kept_of devs j).moves.entries) entries_is (λ j ne. ap (λ (z : Kept). z.moves.entries) (h.images.kept j));
    counts = on_next (λ j z. z.moves.counts ≡ (kept_of devs j).moves.counts) (ap (λ (m : Mapped). m.counts) copied_now.others) (λ j ne. ap (λ (z : Kept). z.moves.counts) (h.images.kept j));
    moved = on_next (λ j z. IsMoved z.row z.moves) moved (λ j ne. subst (λ (z : Kept). IsMoved z.row z.moves) (sym (h.images.kept j)) (h.space.moved j));
    units = on_next (λ j z. z.uses.units ≡ (kept_of devs j).uses.units) (ap (λ (z : Uses). z.units) freed_now.others) (λ j ne. ap (λ (z : Uses). z.units) (h.images.loses j).others);
    account = on_next (λ j z. IsAccount (free_at v j) (count_at v j) z.uses) x_account
        (λ j ne. account_as (free_at t j) (free_at v j) (count_at t j) (count_at v j) (kept_of mid j).uses (λ u. let b = h.frees.given.free j u in grind (arith, nat_tests, b, ne)) (h.frees.given.others j ne) (h.images.account j));
    copies = hits_next;
    devices = record {
      devs = h.frees.given.devices.devs ∙ h.images.devices.devs;
      units = λ j. h.frees.given.devices.units j ∙ h.images.devices.units j;
      serves = λ j. h.frees.given.devices.serves j ∙ h.images.devices.serves j;
    };
    tied = on_next (λ j z. is_leaving z.row.state ≡ true → IsTied whole z) (λ is. now_tied)
        (λ j ne is. let l : is_leaving (kept_of devs j).row.state ≡ true = sym (ap (λ (z : Kept). is_leaving z.row.state) (h.images.kept j)) ∙ is in let same = h.space.single j d l h.leaves in absurd (absurd (grind (arith, nat_tests, same, ne))));
  }

  lost : (j u : ℕ) → is_image es e j u ≡ true → has_unit (kept_of devs j).uses.copies u ≡ true
  lost = image_copied_in

  beside : IsSameBeside devs next
  beside = record {
    meta = on_next (λ j z. z.uses.meta ≡ (kept_of devs j).uses.meta) (ap (λ (z : Uses). z.meta) freed_now.others) (λ j ne. ap (λ (z : Uses). z.meta) (h.images.loses j).others);
    saved = on_next (λ j z. z.uses.saved ≡ (kept_of devs j).uses.saved) (ap (λ (z : Uses). z.saved) freed_now.others) (λ j ne. ap (λ (z : Uses). z.saved) (h.images.loses j).others);
    late1 = on_next (λ j z. z.uses.late1 ≡ (kept_of devs j).uses.late1) (ap (λ (z : Uses). z.late1) freed_now.others) (λ j ne. ap (λ (z : Uses). z.late1) (h.images.loses j).others);
    late2 = on_next (λ j z. z.uses.late2 ≡ (kept_of devs j).uses.late2) (ap (λ (z : Uses). z.late2) freed_now.others) (λ j ne. ap (λ (z : Uses). z.late2) (h.images.loses j).others);
    synced = on_next (λ j z. z.moves.synced ≡ (kept_of devs j).moves.synced) (ap (λ (m : Mapped). m.synced) copied_now.others) (λ j ne. ap (λ (z : Kept). z.moves.synced) (h.images.kept j));
    root = on_next (λ j z. SameUses (kept_of devs j).uses z.uses) (frees_root (free_at s d) (count_at s d) y.uses x.uses e (h.space.account d) freed_now (held whole s devs d e h.space h.leaves h.used))
        (λ j ne. loses_root (free_at s j) (count_at s j) (kept_of devs j).uses (kept_of mid j).uses (is_image es e j) (h.space.account j) (h.images.loses j) (lost j));
    marks = on_next (λ j z. (u : ℕ) → was_fresh_in z.moves u ≡ was_fresh_in (kept_of devs j).moves u) (λ u. h.marks.root u ∙ ap (λ (m : Mapped). was_fresh_in m u) now_moves) (λ j ne u. ap (λ (z : Kept). was_fresh_in z.moves u) (h.images.kept j));
  }

  pub left_space : IsSpace whole v next
  left_space = changed_space whole s v devs next h.space changed

  abbrev ds : Devices
  ds = devices_in (space_of whole devs)

  ds_leaves : is_leaving (state_at ds d) ≡ true
  ds_leaves = ap (λ (r : DevRow). is_leaving r.state) (rows_are devs d) ∙ h.leaves

  goes : (split j u : ℕ) → is_let_go ds (Piece split d e) j u ≡ (((d == j) && in_extent e u) || is_image es e j u)
  goes split j u = ap₂ (λ (b : Bool) (xs : List Entry). ((d == j) && in_extent e u) || (b && list_any (is_image_by e j u) xs)) ds_leaves (entries_are devs d)

  marked : (split j u : ℕ) → is_marked ds (Piece split d e) j u ≡ (((d == j) && in_extent e u) && nat_lt u y.moves.opened)
  marked split j u =
      ap₂ (λ (b : Bool) (xs : List Entry). b && (((d == j) && in_extent e u) && nat_lt u (end_of_last xs))) ds_leaves (entries_are devs d)
      ∙ ap (λ (n : ℕ). ((d == j) && in_extent e u) && nat_lt u n) (sym was.marks.frontier)

  roles_next : (j u : ℕ) → role_in (kept_of next j).uses u ≡ (if ((d == j) && in_extent e u) || is_image es e j u then freed (role_in (kept_of devs j).uses u) else role_in (kept_of devs j).uses u)
  roles_next j u = on_next (λ i z. role_in z.uses u ≡ (if ((d == i) && in_extent e u) || is_image es e i u then freed (role_in (kept_of devs i).uses u) else role_in (kept_of devs i).uses u))
      (frees_roles (free_at s d) (count_at s d) y.uses x.uses e (h.space.account d) freed_now (held whole s devs d e h.space h.leaves h.used) (unkept whole s devs d e h.space h.leaves h.used) (uncopied whole s devs d e h.space h.leaves h.used) u
      ∙ ap (λ (b : Bool). if b then freed (role_in y.uses u) else role_in y.uses u) (sym (here (image_here u))))
      (λ i ne.
      loses_roles (free_at s i) (count_at s i) (kept_of devs i).uses (kept_of mid i).uses (is_image es e i) (h.space.account i) (h.images.loses i) (lost i) u
      ∙ ap (λ (b : Bool). if b then freed (role_in (kept_of devs i).uses u) else role_in (kept_of devs i).uses u) (sym (there_is i ne)))
      j
    where
      here : is_image es e d u ≡ false → (((d == d) && in_extent e u) || is_image es e d u) ≡ in_extent e u
      here none = by (d == d) (in_extent e u) (is_image es e d u) (grind (arith, nat_tests)) none
        where
          by : (a b c : Bool) → a ≡ true → c ≡ false → ((a && b) || c) ≡ b
          by a b c one two = grind (arith, nat_tests, one, two)

      there_is : (i : ℕ) → (i == d) ≡ false → (((d == i) && in_extent e u) || is_image es e i u) ≡ is_image es e i u
      there_is i ne = by (d == i) (in_extent e u) (is_image es e i u) (grind (arith, nat_tests, ne))
        where
          by : (a b c : Bool) → a ≡ false → ((a && b) || c) ≡ c
          by a b c off = grind (arith, nat_tests, off)

  fresh_next : (j u : ℕ) → has_unit (kept_of next j).moves.fresh u ≡ (has_unit (kept_of devs j).moves.fresh u || (((d == j) && in_extent e u) && nat_lt u y.moves.opened))
  fresh_next j u = on_next (λ i z. has_unit z.moves.fresh u ≡ (has_unit (kept_of devs i).moves.fresh u || (((d == i) && in_extent e u) && nat_lt u y.moves.opened)))
      (let f = copied_now.fresh u in grind (arith, nat_tests, f))
      (λ i ne. ap (λ (z : Kept). has_unit z.moves.fresh u) (h.images.kept i) ∙ off (d == i) (in_extent e u) (nat_lt u y.moves.opened) (has_unit (kept_of devs i).moves.fresh u) (grind (arith, nat_tests, ne)))
      j
    where
      off : (a b c f : Bool) → a ≡ false → f ≡ (f || ((a && b) && c))
      off a b c true none = refl
      off a b c false none = rw none refl

  pub left_frees : (split : ℕ) → FreesVisit false (space_of whole devs) (space_of whole next) (Piece split d e)
  left_frees split = record {
    roles = λ j u.
        roles_are whole next j u left_space
        ∙ (roles_next j u
        ∙ (ap (λ (r : Role). if ((d == j) && in_extent e u) || is_image es e j u then freed r else r) (sym (roles_are whole devs j u h.space))
        ∙ ap (λ (b : Bool). if b then let_go false (role_at (space_of whole devs) j u) else role_at (space_of whole devs) j u) (sym (goes split j u))));
    fresh = λ j u.
        fresh_is whole next j u
        ∙ (fresh_next j u
        ∙ ap₂ (λ (a b : Bool). a || b) (sym (fresh_is whole devs j u)) (sym (marked split j u)));
    meta = same_meta whole s v devs next h.space changed beside;
    frame = changed_frame whole s v devs next h.space changed beside;
  }

  pub left_spare : 0 < e.len → ((j : ℕ) → (kept_of devs j).uses.spare ≤ (kept_of mid j).uses.spare + e.len) → (n : ℕ) → HaveSpare devs (e.len + n) → HaveSpare next n
  left_spare some spare n room j lt =
      let count = changed.count in
      let had = room j (omega (arith, lt, count)) in
      on_next (λ i z. (e.len + n ≤ (kept_of devs i).uses.spare) × (is_on (kept_of devs i).moves.state ≡ false → e.len + n ≤ (kept_of devs i).moves.spare) → (n ≤ z.uses.spare) × (is_on z.moves.state ≡ false → n ≤ z.moves.spare))
      (λ w. (
        (let one = w.0 in let own = h.frees.spare in let u = ap (λ (z : Uses). z.spare) uses_are in let m = ap (λ (z : Kept). z.uses.spare) h.source in omega (arith, one, own, u, m)),
        λ off. let two = w.1 (ap is_on (state whole s devs d e h.space h.leaves h.used)) in let own = h.marks.spare in let m = ap (λ (z : Mapped). z.spare) now_moves in omega (arith, two, own, m, some),
      ))
      (λ i ne w. (
        (let one = w.0 in let own = spare i in omega (arith, one, own)),
        λ off. let st = ap (λ (z : Kept). is_on z.moves.state) (h.images.kept i) in let sp = ap (λ (z : Kept). z.moves.spare) (h.images.kept i) in let two = w.1 (sym st ∙ off) in omega (arith, two, sp),
      ))
      j had

  pub left_rows : (j : ℕ) → (kept_of next j).row ≡ (kept_of devs j).row
  left_rows = changed.row
