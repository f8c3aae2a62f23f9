-- The entry for a copy is made: a place of one device has copies, and the mapping of another, which is leaving, grows.
use Rattle.std.proofs.Common.{◌≡◌, ◌≢◌, ◌⊎◌, ℕ, zero, suc, ◌+◌, ◌-◌, ◌≤◌, ◌<◌, ◌^◌, ◌&&◌, ◌||◌, Bool, true, false, ◌==◌, nat_le, nat_lt, List, [], ◌∷◌, ◌++◌, map, length, refl, ◌∙◌, sym, ap, ap₂, subst, arith, ⊎_elim, inl, if◌then◌else◌}
use Rattle.std.proofs.Math.ListN.{set}
use Rattle.std.specs.List.{sum_by, All}
use Rattle.std.proofs.lemmas.Bool.{cases_lt}
use Rattle.std.proofs.lemmas.Bool.Decides.{nat_tests}
use Rattle.std.proofs.lemmas.List.{length-map, length-set}
use Rattle.std.proofs.lemmas.List.Elements.{All-push, All-weaker}
use Rattle.std.proofs.lemmas.List.Sums.{sum_by-cons, sum_by_push}
use Rattle.zr_base.specs.declared.space.DevPart.{DevPart}
use Rattle.zr_base.specs.declared.space.DevRow.{DevRow}
use Rattle.zr_base.specs.declared.space.DevState.TheVariants.{On}
use Rattle.zr_base.specs.declared.space.Entry.{Entry}
use Rattle.zr_base.specs.declared.space.Extent.{Extent}
use Rattle.zr_base.specs.Extents.{has_unit, in_extent}
use Rattle.zr_rules.specs.Devices.{Devices as Ways, devices_of}
use Rattle.zr_rules.specs.Mappings.{has_source, in_source}
use Rattle.zr_rules.specs.Places.{one_if, part_of, is_on, is_gone, is_leaving, in_address}
use Rattle.zr_rules.specs.Resolve.{IsRanked, IsDestination}
use Rattle.zr_rules.specs.Roles.Role.{FreshCopy}
use Rattle.zr_rules.specs.Frees.{IsSamePart}
use Rattle.zr_rules.specs.Space.{role_at, copy_hits, is_copy_by, IsSet}
use Rattle.zr_metaslab.specs.Devices.{Devices, units_at, free_at, count_at, extent_of}
use Rattle.zr_units.specs.Uses.{Uses, IsAccount}
use Rattle.zr_units.specs.Changes.{TurnsCopies}
use Rattle.zr_evac.specs.Evacuations.{EntriesEndBy}
use Rattle.zr_evac.proofs.Frontiers.{all_end}
use Rattle.zr_indirect.specs.Mapped.{Mapped, IsLeaving}
use Rattle.zr_indirect.specs.Changes.{CopiesFront}
use Rattle.zr_space.specs.Views.{Kept, kept_of, part_in, space_of, role_in, units_there, late_runs, IsMoved, IsTied, IsSpace, EndsWithin, IsCondensing}
use Rattle.zr_space.specs.declared.copy.Plan.{Plan}
use Rattle.zr_space.specs.declared.whole.Whole.{Whole}
use Rattle.zr_space.proofs.Entering.{AreFresh, turned_account, turned_roles, fresh_unit}
use Rattle.zr_space.proofs.Devs.{rows_are, entries_are}
use Rattle.zr_space.proofs.Fronts.{IsNextHeld}
use Rattle.zr_space.proofs.Frames.{meta_set, saved_set, synced_set}
use Rattle.zr_space.proofs.Keeps.{on_each, most_units, lawful, still_condensing}
use Rattle.zr_space.proofs.Roles.{roles_are}
use Rattle.zr_space.specs.Plans.{MakesCopy}
use Rattle.zr_space.proofs.Synced.{leaving_state}
use Rattle.zr_space.proofs.Views.{part_is, kept_same, kept_other}

false_true : false ≡ true → ⊥
false_true e = cc

-- ---- the hits of copies where one device's mapping is another

abbrev pub copies_in : DevPart → ℕ → ℕ → ℕ
copies_in p d u = if is_leaving p.row.state then sum_by (λ (e : Entry). one_if (is_copy_by p d u e)) p.entries else 0

pub hits_change : (devs : List Kept) (k d u : ℕ) (x : Kept) → k < length devs → copy_hits (map part_in (set devs k x)) d u + copies_in (part_in (kept_of devs k)) d u ≡ copy_hits (map part_in devs) d u + copies_in (part_in x) d u
hits_change [] k d u x there = absurd (omega (arith, there))
hits_change (y ∷ ys) zero d u x there =
    let a = sum_by-cons (λ p. copies_in p d u) (part_in x) (map part_in ys) in
    let b = sum_by-cons (λ p. copies_in p d u) (part_in y) (map part_in ys) in
    omega (arith, a, b)
hits_change (y ∷ ys) (suc k) d u x there =
    let a = sum_by-cons (λ p. copies_in p d u) (part_in y) (map part_in (set ys k x)) in
    let b = sum_by-cons (λ p. copies_in p d u) (part_in y) (map part_in ys) in
    let rest = hits_change ys k d u x (omega (arith, there)) in
    omega (arith, a, b, rest)

-- ---- sources lie below the end of the last

source_below : (u v : ℕ) (es : List Entry) → EntriesEndBy u es → has_source es v ≡ true → v < u
source_below u v [] ends is = absurd (false_true is)
source_below u v (e ∷ es) ends is =
    by (in_source e v) refl (source_below u v es ends.1)
  where
    by : (b : Bool) → in_source e v ≡ b → (has_source es v ≡ true → v < u) → v < u
    by true here rest = let last = ends.0 in grind (arith, nat_tests, last, here)
    by false other rest = rest (grind (arith, nat_tests, is, other))

source_push : (es : List Entry) (e : Entry) (u : ℕ) → has_source (es ++ e ∷ []) u ≡ (has_source es u || in_source e u)
source_push [] e u = grind (arith, nat_tests)
source_push (x ∷ xs) e u = let rest = source_push xs e u in grind (arith, nat_tests, rest)

-- ---- both devices are written

-- what is kept of the device that is leaving, and of the one that has the copy
pub record IsMade (whole : Whole) (s : Devices) (devs : List Kept) (d : ℕ) (p : Plan) (y : Uses) (m : Mapped) : Type 0 where
  pub space : IsSpace whole s devs
  pub there : d < length devs
  pub leaving : is_leaving (kept_of devs d).row.state ≡ true
  pub known : p.to.dev < length devs
  pub on : (kept_of devs p.to.dev).row.state ≡ On
  pub some : 0 < p.from.len
  pub len : p.to.len ≡ p.from.len
  pub next : IsNextHeld (kept_of devs d).uses.held (kept_of devs d).moves.opened p.from
  pub fresh : AreFresh (kept_of devs p.to.dev).uses (extent_of p.to)
  pub turns : TurnsCopies (kept_of devs p.to.dev).uses y (extent_of p.to)
  pub copies : CopiesFront (kept_of devs d).moves m p.from p.to.dev p.to.start
  pub leaves : IsLeaving m

module _ (whole : Whole) (s : Devices) (devs : List Kept) (d : ℕ) (p : Plan) (y : Uses) (m : Mapped) (h : IsMade whole s devs d p y m) where
  abbrev pub place : Kept
  place = record (kept_of devs p.to.dev) { uses = y }

  abbrev pub source : Kept
  source = record (kept_of devs d) { moves = m }

  abbrev pub next : List Kept
  next = set (set devs p.to.dev place) d source

  abbrev pub entry : Entry
  entry = record { src = p.from.start; dev = p.to.dev; dst = p.to.start; len = p.from.len }

  pub other : (p.to.dev == d) ≡ false
  other = test (p.to.dev == d) refl
    where
      stays : (kept_of devs p.to.dev).row.state ≡ On → is_leaving (kept_of devs p.to.dev).row.state ≡ false
      stays on = ap is_leaving on

      test : (b : Bool) → (p.to.dev == d) ≡ b → (p.to.dev == d) ≡ false
      test true is =
          let same : p.to.dev ≡ d = grind (arith, nat_tests, is) in
          absurd (false_true (sym (stays h.on) ∙ subst (λ i. is_leaving (kept_of devs i).row.state ≡ true) (sym same) h.leaving))
      test false is = is

  mid_there : d < length (set devs p.to.dev place)
  mid_there = let l = length-set devs p.to.dev place in let t = h.there in omega (arith, l, t)

  pub on_both : (P : ℕ → Kept → Type 0) → P p.to.dev place → P d source → ((j : ℕ) → P j (kept_of devs j)) → (j : ℕ) → P j (kept_of next j)
  on_both P at_place at_source others =
      on_each (set devs p.to.dev place) d source P mid_there at_source (λ j ne. on_each devs p.to.dev place P h.known at_place (λ i ne2. others i) j)

  pub same_rows : (j : ℕ) → (kept_of next j).row ≡ (kept_of devs j).row
  same_rows = on_both (λ j k. k.row ≡ (kept_of devs j).row) refl refl (λ j. refl)

  pub next_len : length next ≡ length devs
  next_len = length-set (set devs p.to.dev place) d source ∙ length-set devs p.to.dev place

  was_leaving : IsLeaving (kept_of devs d).moves
  was_leaving = (h.space.moved d).leaving (leaving_state (kept_of devs d).row.state h.leaving)

  tied_to : IsTied whole (kept_of devs d)
  tied_to = h.space.tied d h.leaving

  -- marks lie below the frontier, and so apart from what is copied now
  unmarked : (u : ℕ) → (kept_of devs d).moves.opened ≤ u → has_unit (kept_of devs d).moves.fresh u ≡ false
  unmarked u le = by (has_unit (kept_of devs d).moves.fresh u) refl
    where
      l : IsLeaving (kept_of devs d).moves
      l = (h.space.moved d).leaving (leaving_state (kept_of devs d).row.state h.leaving)

      by : (b : Bool) → has_unit (kept_of devs d).moves.fresh u ≡ b → has_unit (kept_of devs d).moves.fresh u ≡ false
      by true is =
          let lt = source_below (kept_of devs d).moves.opened u (kept_of devs d).moves.entries (all_end (kept_of devs d).moves.opened (kept_of devs d).moves.entries l.rising l.marks.frontier) (l.marks.sources u is) in
          absurd (omega (arith, lt, le))
      by false is = is

  -- the entry has put each unit of the source there
  puts : (j u : ℕ) → is_copy_by (part_in source) j u entry ≡ in_address p.to j u
  puts j u = by (in_address p.to j u) refl
    where
      others : m.fresh ≡ (kept_of devs d).moves.fresh
      others = ap (λ (x : Mapped). x.fresh) h.copies.others

      by : (b : Bool) → in_address p.to j u ≡ b → is_copy_by (part_in source) j u entry ≡ b
      by true is =
          let len = h.len in
          let above = h.next.above in
          let none = unmarked (p.from.start + (u - p.to.start)) (omega (arith, above)) in
          let same = ap (λ (es : List Extent). has_unit es (p.from.start + (u - p.to.start))) others in
          grind (arith, nat_tests, is, len, none, same)
      by false is = let len = h.len in grind (arith, nat_tests, is, len)

  -- the copies of the entries that there were are the same
  kept_copies : (j u : ℕ) → sum_by (λ (e : Entry). one_if (is_copy_by (part_in source) j u e)) (kept_of devs d).moves.entries ≡ sum_by (λ (e : Entry). one_if (is_copy_by (part_in (kept_of devs d)) j u e)) (kept_of devs d).moves.entries
  kept_copies j u = ap (λ (es : List Extent). sum_by (λ (e : Entry). one_if (is_copy_by (record (part_in (kept_of devs d)) { fresh = es }) j u e)) (kept_of devs d).moves.entries) others
    where
      others : m.fresh ≡ (kept_of devs d).moves.fresh
      others = ap (λ (x : Mapped). x.fresh) h.copies.others

  more : (j u : ℕ) → copies_in (part_in source) j u ≡ copies_in (part_in (kept_of devs d)) j u + one_if (in_address p.to j u)
  more j u =
      let is = h.leaving in
      let e = h.copies.entries in
      let push = sum_by_push (λ (x : Entry). one_if (is_copy_by (part_in source) j u x)) (kept_of devs d).moves.entries entry in
      let k = kept_copies j u in
      let q = ap one_if (puts j u) in
      let grown : sum_by (λ (x : Entry). one_if (is_copy_by (part_in source) j u x)) m.entries ≡ sum_by (λ (x : Entry). one_if (is_copy_by (part_in source) j u x)) ((kept_of devs d).moves.entries ++ entry ∷ []) = ap (λ (es : List Entry). sum_by (λ (x : Entry). one_if (is_copy_by (part_in source) j u x)) es) e in
      rw is (omega (arith, grown, push, k, q))

  pub hits : (j u : ℕ) → copy_hits (map part_in next) j u ≡ copy_hits (map part_in devs) j u + one_if (in_address p.to j u)
  hits j u =
      let a = hits_change devs p.to.dev j u place h.known in
      let b = hits_change (set devs p.to.dev place) d j u source mid_there in
      let c : copies_in (part_in (kept_of (set devs p.to.dev place) d)) j u ≡ copies_in (part_in (kept_of devs d)) j u = ap (λ (k : Kept). copies_in (part_in k) j u) (kept_other devs p.to.dev d place (let o = other in grind (arith, nat_tests, o))) in
      let e : copies_in (part_in place) j u ≡ copies_in (part_in (kept_of devs p.to.dev)) j u = refl in
      let f = more j u in
      omega (arith, a, b, c, e, f)

  -- a unit of the source is left to copy no more
  now_tied : IsTied whole source
  now_tied = record {
    left = λ u. left u;
    copied = λ u is below. copied u is below;
    quiet = tied_to.quiet;
    unkept = tied_to.unkept;
    uncopied = tied_to.uncopied;
  }
    where
      t : IsTied whole (kept_of devs d)
      t = h.space.tied d h.leaving

      end : m.opened ≡ p.from.start + p.from.len
      end = h.copies.opened

      below_none : (u : ℕ) → u < p.from.start → has_unit (kept_of devs d).moves.left u ≡ false
      below_none u lt =
          let was = t.left u in
          by (nat_le (kept_of devs d).moves.opened u) refl
        where
          by : (b : Bool) → nat_le (kept_of devs d).moves.opened u ≡ b → has_unit (kept_of devs d).moves.left u ≡ false
          by true is = let none = h.next.gap u (grind (arith, nat_tests, is)) lt in let was = t.left u in grind (arith, nat_tests, none, was)
          by false is = let was = t.left u in grind (arith, nat_tests, was, is)

      left : (u : ℕ) → has_unit m.left u ≡ (has_unit (kept_of devs d).uses.held u && nat_le m.opened u)
      left u =
          let was = t.left u in
          let now = h.copies.left_is.members u in
          let e = end in
          let above = h.next.above in
          let none = below_none u in
          grind (arith, nat_tests, was, now, e, above, none)

      in_new : (u : ℕ) → in_extent p.from u ≡ in_source entry u
      in_new u = refl

      copied : (u : ℕ) → has_unit (kept_of devs d).uses.held u ≡ true → u < m.opened → (has_source m.entries u ≡ true) × (has_unit m.fresh u ≡ false)
      copied u is below =
          let sources : has_source m.entries u ≡ (has_source (kept_of devs d).moves.entries u || in_source entry u) = ap (λ (es : List Entry). has_source es u) h.copies.entries ∙ source_push (kept_of devs d).moves.entries entry u in
          let marks : has_unit m.fresh u ≡ has_unit (kept_of devs d).moves.fresh u = ap (λ (x : Mapped). has_unit x.fresh u) h.copies.others in
          ⊎_elim
          (λ lt. let was = t.copied u is lt in let a = was.0 in let b = was.1 in (grind (arith, nat_tests, sources, a), marks ∙ b))
          (λ le. ((let e = end in let was = t.left u in let none = below_none u in grind (arith, nat_tests, sources, is, below, le, e, was, none)), marks ∙ unmarked u le))
          (cases_lt u (kept_of devs d).moves.opened)

  now_moved : IsMoved (kept_of devs d).row m
  now_moved = record {
    state = ap (λ (x : Mapped). x.state) h.copies.others ∙ (h.space.moved d).state;
    service = λ on. absurd (false_true (sym (ap is_leaving on) ∙ h.leaving));
    leaving = λ is. h.leaves;
    gone = λ is. absurd (false_true (sym (ap is_leaving is) ∙ h.leaving));
    fresh = subst (IsSet (kept_of devs d).row.units) (sym (ap (λ (x : Mapped). x.fresh) h.copies.others)) (h.space.moved d).fresh;
    came = subst (IsSet (kept_of devs d).row.units) (sym (ap (λ (x : Mapped). x.came) h.copies.others)) (h.space.moved d).came;
    went = subst (IsSet (kept_of devs d).row.units) (sym (ap (λ (x : Mapped). x.went) h.copies.others)) (h.space.moved d).went;
    sources = subst (All (EndsWithin (kept_of devs d).row.units)) (sym h.copies.entries) (All-push (EndsWithin (kept_of devs d).row.units) (kept_of devs d).moves.entries entry (h.space.moved d).sources source_ends);
  }
    where
      held_ends : p.from.start + p.from.len ≤ (kept_of devs d).uses.units
      held_ends =
          let some = h.some in
          let at : in_extent p.from (p.from.start + p.from.len - 1) ≡ true = grind (arith, nat_tests, some) in
          let held = h.next.covered (p.from.start + p.from.len - 1) at in
          let o = (h.space.account d).once (p.from.start + p.from.len - 1) in
          grind (arith, nat_tests, held, o, some)

      source_ends : p.from.start + p.from.len ≤ (kept_of devs d).row.units
      source_ends = let ends = held_ends in let most = most_units (kept_of devs d) (h.space.rows d) in omega (arith, ends, most)

  -- the entry leads to a device that is there
  leads : IsDestination (devices_of (map part_in devs)) d entry
  leads = record {
    known = let k = h.known in let l = length-map devs part_in in omega (arith, k, l);
    other = λ same. let o = other in absurd (grind (arith, nat_tests, same, o));
    within =
        let row = rows_are devs p.to.dev in
        let within = ends in
        let most = most_units (kept_of devs p.to.dev) (h.space.rows p.to.dev) in
        let units = ap (λ (r : DevRow). r.units) row in
        let len = h.len in
        omega (arith, within, most, units, len);
    later = inl (ap (λ (r : DevRow). is_gone r.state) (rows_are devs p.to.dev) ∙ ap is_gone h.on);
  }
    where
      ends : p.to.start + p.to.len ≤ (kept_of devs p.to.dev).uses.units
      ends =
          let some = h.some in
          let len = h.len in
          let at : in_extent (extent_of p.to) (p.to.start + p.to.len - 1) ≡ true = grind (arith, nat_tests, some, len) in
          let held = (fresh_unit (kept_of devs p.to.dev).uses (p.to.start + p.to.len - 1) (h.fresh (p.to.start + p.to.len - 1) at)).0 in
          let o = (h.space.account p.to.dev).once (p.to.start + p.to.len - 1) in
          grind (arith, nat_tests, held, o, some, len)

  abbrev new : Ways
  new = devices_of (map part_in next)

  now_ranked : IsRanked (devices_of (map part_in next))
  now_ranked j = subst (All (IsDestination new j)) (sym (entries_are next j)) (on_both (λ i k. All (IsDestination new i) k.moves.entries) (was p.to.dev) grown was j)
    where
      rows : (i : ℕ) → new.row i ≡ (devices_of (map part_in devs)).row i
      rows i = rows_are next i ∙ (same_rows i ∙ sym (rows_are devs i))

      carry : (i : ℕ) (e : Entry) → IsDestination (devices_of (map part_in devs)) i e → IsDestination new i e
      carry i e w = record {
        known = let k = w.known in let a = length-map devs part_in in let b = length-map next part_in in let l = next_len in omega (arith, k, a, b, l);
        other = w.other;
        within = subst (λ (r : DevRow). e.dst + e.len ≤ r.units) (sym (rows e.dev)) w.within;
        later = subst (λ (r : DevRow). (is_gone r.state ≡ false) ⊎ ((is_gone (new.row i).state ≡ true) × ((new.row i).gone < r.gone))) (sym (rows e.dev))
            (subst (λ (r : DevRow). (is_gone ((devices_of (map part_in devs)).row e.dev).state ≡ false) ⊎ ((is_gone r.state ≡ true) × (r.gone < ((devices_of (map part_in devs)).row e.dev).gone))) (sym (rows i)) w.later);
      }

      was : (i : ℕ) → All (IsDestination new i) (kept_of devs i).moves.entries
      was i = All-weaker (IsDestination (devices_of (map part_in devs)) i) (IsDestination new i) (carry i) (kept_of devs i).moves.entries (subst (All (IsDestination (devices_of (map part_in devs)) i)) (entries_are devs i) (h.space.ranked i))

      grown : All (IsDestination new d) m.entries
      grown = subst (All (IsDestination new d)) (sym h.copies.entries) (All-push (IsDestination new d) (kept_of devs d).moves.entries entry (was d) (carry d entry leads))

  pub made_space : IsSpace whole s next
  made_space = record {
    devices = let e = h.space.devices in let l = next_len in omega (arith, e, l);
    few = let f = h.space.few in let l = next_len in omega (arith, f, l);
    units = on_both (λ j k. units_at s j ≡ k.uses.units) (h.space.units p.to.dev ∙ sym (ap (λ (x : Uses). x.units) h.turns.others)) (h.space.units d) h.space.units;
    rows = on_both (λ j k. k.uses.units ≡ units_there k.row) (ap (λ (x : Uses). x.units) h.turns.others ∙ h.space.rows p.to.dev) (h.space.rows d) h.space.rows;
    small = λ j. subst (λ (r : DevRow). r.units < 2 ^ 40) (sym (same_rows j)) (h.space.small j);
    moved = on_both (λ j k. IsMoved k.row k.moves) (h.space.moved p.to.dev) now_moved h.space.moved;
    serves = λ j. h.space.serves j ∙ ap₂ (λ (n : ℕ) (r : DevRow). nat_lt j n && is_on r.state) (sym next_len) (sym (same_rows j));
    account = on_both (λ j k. IsAccount (free_at s j) (count_at s j) k.uses) (turned_account (free_at s p.to.dev) (count_at s p.to.dev) (kept_of devs p.to.dev).uses y (extent_of p.to) (h.space.account p.to.dev) h.turns h.fresh) (h.space.account d) h.space.account;
    copies = λ j u. hits j u ∙ copies_are u j;
    single = λ i j one two. h.space.single i j (subst (λ (r : DevRow). is_leaving r.state ≡ true) (same_rows i) one) (subst (λ (r : DevRow). is_leaving r.state ≡ true) (same_rows j) two);
    ranked = now_ranked;
    tied = λ j is. h_tied j is;
    condensing = λ c is. on_both (λ j k. IsCondensing c (kept_of devs j) → IsCondensing c k) (still_condensing c (kept_of devs p.to.dev) place refl refl refl) (λ g. absurd (false_true (sym (ap is_leaving g.gone) ∙ h.leaving))) (λ j g. g) c.dev (h.space.condensing c is);
  }
    where
      copies_are : (u j : ℕ) → copy_hits (map part_in devs) j u + one_if (in_address p.to j u) ≡ one_if (has_unit (kept_of next j).uses.copies u)
      copies_are u = on_each (set devs p.to.dev place) d source (λ j k. copy_hits (map part_in devs) j u + one_if (in_address p.to j u) ≡ one_if (has_unit k.uses.copies u)) mid_there
          (let was = h.space.copies d u in let o = other in grind (arith, nat_tests, was, o))
          (λ j ne. on_each devs p.to.dev place (λ i k. copy_hits (map part_in devs) i u + one_if (in_address p.to i u) ≡ one_if (has_unit k.uses.copies u)) h.known
          (let was = h.space.copies p.to.dev u in
          let members = h.turns.copies.members u in
          let none = (λ (at : in_extent (extent_of p.to) u ≡ true). (fresh_unit (kept_of devs p.to.dev).uses u (h.fresh u at)).3) in
          grind (arith, nat_tests, was, members, none))
          (λ i ne2. let was = h.space.copies i u in grind (arith, nat_tests, was, ne2))
          j)

      h_tied : (j : ℕ) → is_leaving (kept_of next j).row.state ≡ true → IsTied whole (kept_of next j)
      h_tied = on_each (set devs p.to.dev place) d source (λ j k. is_leaving k.row.state ≡ true → IsTied whole k) mid_there (λ is. now_tied)
          (λ j ne. on_each devs p.to.dev place (λ i k. is_leaving k.row.state ≡ true → IsTied whole k) h.known (λ is. absurd (false_true (sym (ap is_leaving h.on) ∙ is))) (λ i ne2. h.space.tied i) j)

  -- ---- what it does to the space

  roles : (j u : ℕ) → role_at (space_of whole next) j u ≡ (if in_address p.to j u then FreshCopy else role_at (space_of whole devs) j u)
  roles j u =
      roles_are whole next j u made_space
      ∙ (on_each (set devs p.to.dev place) d source (λ i k. role_in k.uses u ≡ (if in_address p.to i u then FreshCopy else role_in (kept_of devs i).uses u)) mid_there
      (let o = other in grind (arith, nat_tests, o))
      (λ i ne. on_each devs p.to.dev place (λ i2 k. role_in k.uses u ≡ (if in_address p.to i2 u then FreshCopy else role_in (kept_of devs i2).uses u)) h.known
      (let r = turned_roles (kept_of devs p.to.dev).uses y (extent_of p.to) h.turns h.fresh u in grind (arith, nat_tests, r))
      (λ i2 ne2. grind (arith, nat_tests, ne2))
      i)
      j
      ∙ ap (λ r. if in_address p.to j u then FreshCopy else r) (sym (roles_are whole devs j u h.space)))

  source_part : part_of (map part_in next) d ≡ part_in source
  source_part = part_is next d ∙ ap part_in (kept_same (set devs p.to.dev place) d source mid_there)

  same_other : (j : ℕ) → j ≢ d → IsSamePart (part_of (map part_in devs) j) (part_of (map part_in next) j)
  same_other j ne =
      subst (λ q. IsSamePart q (part_of (map part_in next) j)) (sym (part_is devs j))
      (subst (λ q. IsSamePart (part_in (kept_of devs j)) q) (sym (part_is next j))
      (on_each (set devs p.to.dev place) d source (λ i k. (i == d) ≡ false → IsSamePart (part_in (kept_of devs i)) (part_in k)) mid_there
      (λ no. absurd (let n = no in grind (arith, nat_tests, n)))
      (λ i ne2. on_each devs p.to.dev place (λ i2 k. (i2 == d) ≡ false → IsSamePart (part_in (kept_of devs i2)) (part_in k)) h.known
      (λ no. record { row = refl; entries = refl; counts = refl; late1 = ap (λ (x : Uses). late_runs x.late1) h.turns.others; late2 = ap (λ (x : Uses). late_runs x.late2) h.turns.others })
      (λ i2 ne3 no. record { row = refl; entries = refl; counts = refl; late1 = refl; late2 = refl })
      i)
      j (let n = ne in grind (arith, nat_tests, n))))

  same_marks : (j u : ℕ) → has_unit (part_of (map part_in next) j).fresh u ≡ has_unit (part_of (map part_in devs) j).fresh u
  same_marks j u =
      ap (λ (q : DevPart). has_unit q.fresh u) (part_is next j)
      ∙ (on_both (λ i k. has_unit k.moves.fresh u ≡ has_unit (kept_of devs i).moves.fresh u) refl (ap (λ (x : Mapped). has_unit x.fresh u) h.copies.others) (λ i. refl) j
      ∙ sym (ap (λ (q : DevPart). has_unit q.fresh u) (part_is devs j)))

  mid_source : kept_of (set devs p.to.dev place) d ≡ kept_of devs d
  mid_source = kept_other devs p.to.dev d place (let o = other in grind (arith, nat_tests, o))

  pub makes : MakesCopy (space_of whole devs) (space_of whole next) d p
  makes = record {
    row_is = ap (λ (q : DevPart). q.row) source_part ∙ sym (ap (λ (q : DevPart). q.row) (part_is devs d));
    entries = ap (λ (q : DevPart). q.entries) source_part ∙ (h.copies.entries ∙ ap (λ (q : DevPart). q.entries ++ entry ∷ []) (sym (part_is devs d)));
    counts = ap (λ (q : DevPart). q.counts) source_part ∙ (h.copies.counts ∙ ap (λ (q : DevPart). q.counts ++ 0 ∷ []) (sym (part_is devs d)));
    fresh = ap (λ (q : DevPart). q.fresh) source_part ∙ (ap (λ (x : Mapped). x.fresh) h.copies.others ∙ ap (λ (q : DevPart). q.fresh) (sym (part_is devs d)));
    synced = synced_set (set devs p.to.dev place) d source (ap (λ (x : Mapped). x.synced) h.copies.others ∙ ap (λ (k : Kept). k.moves.synced) (sym mid_source)) ∙ synced_set devs p.to.dev place refl;
    roles = roles;
    elsewhere = record {
      version = refl;
      cond = refl;
      ckpt = refl;
      meta = meta_set 0 d (set devs p.to.dev place) source (ap (λ (k : Kept). k.uses.meta) (sym mid_source)) ∙ meta_set 0 p.to.dev devs place (ap (λ (x : Uses). x.meta) h.turns.others);
      saved_meta = saved_set 0 d (set devs p.to.dev place) source (ap (λ (k : Kept). k.uses.saved) (sym mid_source)) ∙ saved_set 0 p.to.dev devs place (ap (λ (x : Uses). x.saved) h.turns.others);
      devices = length-map next part_in ∙ (next_len ∙ sym (length-map devs part_in));
      others = same_other;
      fresh = λ j u ne. same_marks j u;
      lawful = λ was. lawful whole s next made_space;
    };
  }
