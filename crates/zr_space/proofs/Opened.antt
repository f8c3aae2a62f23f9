-- The devices that are read are a space, where they go together.
use Rattle.std.proofs.Common.{◌≡◌, ◌≢◌, ℕ, suc, ◌≤◌, ◌<◌, ◌^◌, Bool, true, false, ◌&&◌, nat_le, List, [], ◌∷◌, map, length, refl, ◌∙◌, sym, ap, subst, arith, ⊎_elim}
use Rattle.std.specs.List.{AllByRecursion, All}
use Rattle.std.proofs.lemmas.Bool.{cases_lt}
use Rattle.std.proofs.lemmas.Bool.Decides.{nat_tests}
use Rattle.std.proofs.lemmas.List.Elements.{recursion_from_All, All-from_get_or}
use Rattle.std.proofs.lemmas.List.Sums.{sum_by-cons}
use Rattle.zr_base.specs.declared.space.DevPart.{DevPart}
use Rattle.zr_base.specs.declared.space.DevRow.{DevRow}
use Rattle.zr_base.specs.declared.space.DevState.{DevState}
use Rattle.zr_base.specs.declared.space.DevState.TheVariants.{On, Leaving, Gone}
use Rattle.zr_base.specs.declared.space.Dva.{Dva}
use Rattle.zr_base.specs.declared.space.Entry.{Entry}
use Rattle.zr_base.specs.declared.space.Extent.{Extent}
use Rattle.zr_base.specs.declared.space.SpaceParts.{SpaceParts}
use Rattle.zr_base.specs.Extents.{has_unit, IsMaximal}
use Rattle.zr_evac.specs.Evacuations.{copies_at, is_copy_in}
use Rattle.zr_metaslab.specs.Devices.{Devices, free_at, count_at}
use Rattle.zr_rules.specs.Condense.{IsWorked}
use Rattle.zr_rules.specs.Devices.{devices_of}
use Rattle.zr_rules.specs.Equation.{root_space}
use Rattle.zr_rules.specs.Mappings.{IsRising, end_of_last}
use Rattle.zr_rules.specs.Places.{address_hits, is_leaving, is_on, no_part, one_if, part_of, state_of_dev}
use Rattle.zr_rules.specs.Resolve.{IsRanked, IsDestination}
use Rattle.zr_rules.specs.Space.{copy_hits, nothing_opened, opened_of}
use Rattle.zr_units.specs.Uses.{Uses, IsAccount, IsCopying}
use Rattle.zr_indirect.specs.Mapped.{Mapped}
use Rattle.zr_space.specs.Opens.{AreReadFrom, CanOpen, IsOpened}
use Rattle.zr_space.specs.Reads.{AreCopied, HasMeta}
use Rattle.zr_space.specs.Resuming.{AreMoved, CanCondense, CanResume, HaveNoCopies, IsUnderWay, Resumes}
use Rattle.zr_space.specs.Views.{Kept, kept_of, opened_in, part_in, space_of, synced_in, units_there, meta_from, saved_from, IsMoved, IsTied, IsSpace}
use Rattle.zr_space.specs.declared.whole.Whole.{Whole}
use Rattle.zr_space.proofs.Opening.{none_opened, roles_by, same_parts}
use Rattle.zr_space.proofs.Ready.{leaving_there}
use Rattle.zr_space.proofs.Resuming.{copies_of, hits_one}
use Rattle.zr_space.proofs.Sums.{extent_hits, once_in}
use Rattle.zr_space.proofs.Synced.{leaving_state, synced_is}
use Rattle.zr_space.proofs.Turning.{none_beyond}
use Rattle.zr_space.proofs.Views.{meta_is, opened_is, part_is, saved_is}

false_true : false ≡ true → ⊥
false_true e = cc

-- copies are entered, and the account is as it was
copies_account : (f : ℕ → Bool) (n : ℕ) (x y : Uses) → y ≡ record x { copies = y.copies; spare = y.spare } → IsAccount f n x → IsCopying y → IsMaximal y.copies → IsAccount f n y
copies_account f n x y is a c m = rw is (record {
  once = a.once;
  born = a.born;
  keeping = record { held = a.keeping.held; settled = a.keeping.settled; came = a.keeping.came; went = a.keeping.went };
  copying = record {
    held = λ u has. sym (ap (λ (z : Uses). has_unit z.held u) is) ∙ c.held u has;
    unkept = λ u has. sym (ap (λ (z : Uses). has_unit z.kept u) is) ∙ c.unkept u has;
  };
  sum = a.sum;
  small = a.small;
  lists = record { held = a.lists.held; born = a.lists.born; kept = a.lists.kept; came = a.lists.came; went = a.lists.went; copies = m; freed = a.lists.freed; late1 = a.lists.late1; late2 = a.lists.late2; meta = a.lists.meta; saved = a.lists.saved };
})

-- a mapping that leads to other devices has no copies on its own
own_copies : (marks : List Extent) (es : List Entry) (d u : ℕ) → AllByRecursion (λ (e : Entry). e.dev ≢ d) es → copies_at marks es d u ≡ 0
own_copies marks [] d u all = refl
own_copies marks (e ∷ es) d u all =
    let rest = own_copies marks es d u all.1 in
    let other = all.0 in
    let first : one_if (is_copy_in marks e e.len d u) ≡ 0 = grind (arith, nat_tests, other) in
    sum_by-cons (λ (x : Entry). one_if (is_copy_in marks x x.len d u)) e es ∙ omega (arith, first, rest)

others_of : (ps : List DevPart) (d : ℕ) (es : List Entry) → AllByRecursion (IsDestination (devices_of ps) d) es → AllByRecursion (λ (e : Entry). e.dev ≢ d) es
others_of ps d [] all = tt
others_of ps d (e ∷ es) all = (all.0.other, others_of ps d es all.1)

-- where no device is leaving there is no frontier
no_frontier : (devs : List Kept) → ((d : ℕ) → (kept_of devs d).moves.synced ≡ 0) → synced_in devs ≡ 0
no_frontier [] none = refl
no_frontier (k ∷ ks) none = let rest = no_frontier ks (λ d. none (suc d)) in let first = none 0 in sum_by-cons (λ (x : Kept). x.moves.synced) k ks ∙ omega (arith, first, rest)

none_of : (k : Kept) (st : DevState) → k.row.state ≡ st → IsMoved k.row k.moves → is_leaving st ≡ false → k.moves.synced ≡ 0
none_of k On is m stays = ap (λ (x : Mapped). x.synced) (m.service is)
none_of k Leaving is m stays = absurd (true_false stays)
  where
    true_false : true ≡ false → ⊥
    true_false e = cc
none_of k Gone is m stays = (m.gone is).synced_none

-- ---- what was read, before it is known whether it goes together

module _ (parts : List DevPart) (meta saved : List Dva) (slabs : Devices) (devs : List Kept) (read : AreReadFrom parts meta saved slabs devs) where
  pub read_parts : map part_in devs ≡ parts
  read_parts = same_parts parts devs read.count (λ d lt. (read.each d lt).part)

  pub none_copied : HaveNoCopies devs
  none_copied d = ⊎_elim
      (λ lt. (read.each d (let c = read.count in omega (arith, lt, c))).copies)
      (λ past. ap (λ (k : Kept). k.uses.copies) (none_beyond devs d past))
      (cases_lt d (length devs))

  part_here : (d : ℕ) → part_in (kept_of devs d) ≡ part_of parts d
  part_here d = sym (part_is devs d) ∙ ap (λ (ps : List DevPart). part_of ps d) read_parts

  -- each mapping rises
  rising_in : (k : Kept) (st : DevState) → k.row.state ≡ st → IsMoved k.row k.moves → IsRising k.moves.entries
  rising_in k On is m = subst IsRising (sym (ap (λ (x : Mapped). x.entries) (m.service is))) tt
  rising_in k Leaving is m = (m.leaving is).rising
  rising_in k Gone is m = (m.gone is).rising

  all_rising : (d : ℕ) → IsRising (part_of parts d).entries
  all_rising d = subst IsRising (ap (λ (p : DevPart). p.entries) (part_here d)) (rising_in (kept_of devs d) (kept_of devs d).row.state refl (read.kept.moved d))

pub rising_parts : (parts : List DevPart) (meta saved : List Dva) (slabs : Devices) (devs : List Kept) → AreReadFrom parts meta saved slabs devs → All (λ (p : DevPart). IsRising p.entries) parts
rising_parts parts meta saved slabs devs read = All-from_get_or (λ (p : DevPart). IsRising p.entries) parts no_part (λ i lt. let r = all_rising parts meta saved slabs devs read i in r)

-- what a space can have, its devices can have together
module _ (parts : SpaceParts) (meta saved : List Dva) (slabs : Devices) (devs : List Kept) (read : AreReadFrom parts.devs meta saved slabs devs) (can : CanOpen parts meta saved) where
  is_here : (d : ℕ) → part_of parts.devs d ≡ part_in (kept_of devs d)
  is_here d = ap (λ (ps : List DevPart). part_of ps d) (sym (read_parts parts.devs meta saved slabs devs read)) ∙ part_is devs d

  leaving_here : (d : ℕ) → is_leaving (kept_of devs d).row.state ≡ true → is_leaving (state_of_dev parts.devs d) ≡ true
  leaving_here d is = ap (λ (p : DevPart). is_leaving p.row.state) (is_here d) ∙ is

  pub can_resume : CanResume parts.ckpt devs
  can_resume = record {
    single = λ d e one two. can.single d e (leaving_here d one) (leaving_here e two);
    under_way = λ d is.
        let e = can.evacuated d (leaving_here d is) in
        let there : d < length parts.devs = let l = leaving_there devs d is in let c = read.count in omega (arith, l, c) in
        let out : (part_of parts.devs d).row.state ≡ Leaving = leaving_state (state_of_dev parts.devs d) (leaving_here d is) in
        let frontier : end_of_last (part_of parts.devs d).entries ≡ (kept_of devs d).moves.opened = sym ((read.each d there).mapping.opened out) in
        record {
          quiet = e.quiet;
          unkept = sym (ap (λ (p : DevPart). p.kept) (is_here d)) ∙ e.unkept;
          copied = subst (λ (p : DevPart). AreCopied p.entries p.fresh p.held (kept_of devs d).moves.opened) (is_here d) (subst (λ n. AreCopied (part_of parts.devs d).entries (part_of parts.devs d).fresh (part_of parts.devs d).held n) frontier e.copied);
        };
    copies = λ d u.
        let c = can.lawful.copies d u in
        let h = ap (λ (ps : List DevPart). copy_hits ps d u) (read_parts parts.devs meta saved slabs devs read) in
        let k = ap (λ (p : DevPart). one_if (has_unit p.kept u)) (is_here d) in
        let l = ap (λ (p : DevPart). one_if (has_unit p.held u)) (is_here d) in
        omega (arith, c, h, k, l);
  }

-- ---- they are a space

module _ (parts : SpaceParts) (meta saved : List Dva) (whole : Whole) (slabs : Devices) (devs next : List Kept) (read : AreReadFrom parts.devs meta saved slabs devs) (ranked : IsRanked (devices_of parts.devs)) (r : Resumes parts.ckpt devs next) (ckpt : whole.ckpt ≡ parts.ckpt) where
  pub next_parts : map part_in next ≡ parts.devs
  next_parts = same_parts parts.devs next (r.count ∙ read.count) (λ d lt. ap part_in (r.same d) ∙ part_here parts.devs meta saved slabs devs read d)

  same_next : map part_in next ≡ map part_in devs
  same_next = next_parts ∙ sym (read_parts parts.devs meta saved slabs devs read)

  same_row : (d : ℕ) → (kept_of next d).row ≡ (kept_of devs d).row
  same_row d = ap (λ (k : Kept). k.row) (r.same d)

  same_moves : (d : ℕ) → (kept_of next d).moves ≡ (kept_of devs d).moves
  same_moves d = ap (λ (k : Kept). k.moves) (r.same d)

  same_uses : (d : ℕ) → (kept_of next d).uses ≡ record (kept_of devs d).uses { copies = (kept_of next d).uses.copies; spare = (kept_of next d).uses.spare }
  same_uses d = ap (λ (k : Kept). k.uses) (r.same d)

  pub moved_next : AreMoved next
  moved_next d = subst (λ (row : DevRow). IsMoved row (kept_of next d).moves) (sym (same_row d)) (subst (λ (m : Mapped). IsMoved (kept_of devs d).row m) (sym (same_moves d)) (read.kept.moved d))

  was_leaving : (d : ℕ) → is_leaving (kept_of next d).row.state ≡ true → is_leaving (kept_of devs d).row.state ≡ true
  was_leaving d is = sym (ap (λ (row : DevRow). is_leaving row.state) (same_row d)) ∙ is

  -- no copy lies on the device that is leaving
  uncopied : (d u : ℕ) → is_leaving (kept_of devs d).row.state ≡ true → has_unit (kept_of next d).uses.copies u ≡ false
  uncopied d u is =
      let all : AllByRecursion (IsDestination (devices_of parts.devs) d) (part_of parts.devs d).entries = recursion_from_All (IsDestination (devices_of parts.devs) d) (part_of parts.devs d).entries (ranked d) in
      let here : (part_of parts.devs d).entries ≡ (kept_of devs d).moves.entries = sym (ap (λ (p : DevPart). p.entries) (part_here parts.devs meta saved slabs devs read d)) in
      let own : copies_at (kept_of devs d).moves.fresh (kept_of devs d).moves.entries d u ≡ 0 = own_copies (kept_of devs d).moves.fresh (kept_of devs d).moves.entries d u (subst (AllByRecursion (λ (e : Entry). e.dev ≢ d)) here (others_of parts.devs d (part_of parts.devs d).entries all)) in
      let one = hits_one devs d d u is (λ j out. r.single j d out is) in
      let copies = copies_of (kept_of devs d) d u is in
      let hits = r.hits d u in
      none (has_unit (kept_of next d).uses.copies u) (omega (arith, own, one, copies, hits))
    where
      none : (b : Bool) → one_if b ≡ 0 → b ≡ false
      none b is = grind (arith, nat_tests, is)

  tied_next : (d : ℕ) → is_leaving (kept_of next d).row.state ≡ true → IsTied whole (kept_of next d)
  tied_next d is =
      let was = was_leaving d is in
      let there : d < length parts.devs = let l = leaving_there devs d was in let c = read.count in omega (arith, l, c) in
      let part = part_here parts.devs meta saved slabs devs read d in
      let out : (part_of parts.devs d).row.state ≡ Leaving = leaving_state (part_of parts.devs d).row.state (ap (λ (p : DevPart). is_leaving p.row.state) (sym part) ∙ was) in
      let m = (read.each d there).mapping in
      let way : IsUnderWay parts.ckpt (kept_of devs d) = r.under_way d was in
      subst (IsTied whole) (sym (r.same d)) (record {
        left = λ u. m.left out u ∙ (ap (λ (p : DevPart). has_unit p.held u && nat_le (end_of_last (part_of parts.devs d).entries) u) (sym part) ∙ ap (λ n. has_unit (kept_of devs d).uses.held u && nat_le n u) (sym (m.opened out)));
        copied = λ u has lt. way.copied u has lt;
        quiet = ckpt ∙ way.quiet;
        unkept = λ u. ap (λ (es : List Extent). has_unit es u) way.unkept;
        uncopied = λ u. uncopied d u was;
      })

  pub opened_space : CanCondense whole.cond next → IsSpace whole slabs next
  opened_space cond = record {
    devices = read.kept.devices ∙ sym r.count;
    few = let f = read.kept.few in let c = r.count in omega (arith, f, c);
    units = λ d. read.kept.units d ∙ sym (ap (λ (x : Uses). x.units) (same_uses d));
    rows = λ d. ap (λ (x : Uses). x.units) (same_uses d) ∙ (read.kept.rows d ∙ ap units_there (sym (same_row d)));
    small = λ d. subst (λ (row : DevRow). row.units < 2 ^ 40) (sym (same_row d)) (read.kept.small d);
    moved = moved_next;
    serves = λ d. let s = read.kept.serves d in let c = r.count in let o = ap (λ (row : DevRow). is_on row.state) (same_row d) in grind (arith, nat_tests, s, c, o);
    account = λ d. copies_account (free_at slabs d) (count_at slabs d) (kept_of devs d).uses (kept_of next d).uses (same_uses d) (read.kept.account d) (r.copying d) (r.maximal d);
    copies = λ d u. ap (λ (ps : List DevPart). copy_hits ps d u) same_next ∙ r.hits d u;
    single = λ d e one two. r.single d e (was_leaving d one) (was_leaving e two);
    ranked = subst (λ (ps : List DevPart). IsRanked (devices_of ps)) (sym next_parts) ranked;
    tied = tied_next;
    condensing = cond;
  }

  module _ (cond : CanCondense whole.cond next) (version : whole.version ≡ parts.version) (cond_is : whole.cond ≡ parts.cond) (meta_known : (d u : ℕ) → length parts.devs ≤ d → address_hits meta d u ≡ 0) (saved_known : (d u : ℕ) → length parts.devs ≤ d → address_hits saved d u ≡ 0) where
    space : IsSpace whole slabs next
    space = opened_space cond

    parts_are : (space_of whole next).parts ≡ parts
    parts_are =
        ap (λ v. record { version = v; devs = map part_in next; cond = whole.cond; ckpt = whole.ckpt }) version
        ∙ (ap (λ (ps : List DevPart). record { version = parts.version; devs = ps; cond = whole.cond; ckpt = whole.ckpt }) next_parts
        ∙ (ap (λ c. record { version = parts.version; devs = parts.devs; cond = c; ckpt = whole.ckpt }) cond_is
        ∙ ap (λ c. record { version = parts.version; devs = parts.devs; cond = parts.cond; ckpt = c }) ckpt))

    nothing : (d : ℕ) → opened_of (space_of whole next) d ≡ nothing_opened
    nothing d = opened_is whole next d ∙ (ap opened_in (r.same d) ∙ ⊎_elim
        (λ lt. (read.each d (let c = read.count in omega (arith, lt, c))).opened)
        (λ past. ap opened_in (none_beyond devs d past))
        (cases_lt d (length devs)))

    hits_as : (list : List Dva) (es old : List Extent) (d u : ℕ) → es ≡ old → IsMaximal old → ((d < length devs) → HasMeta list d old) → (length devs ≤ d → old ≡ []) → ((d u : ℕ) → length parts.devs ≤ d → address_hits list d u ≡ 0) → extent_hits es u ≡ address_hits list d u
    hits_as list es old d u same maximal has none beyond = ap (λ (xs : List Extent). extent_hits xs u) same ∙ ⊎_elim
        (λ lt. once_in 0 u old maximal ∙ sym (has lt u))
        (λ past. ap (λ (xs : List Extent). extent_hits xs u) (none past) ∙ sym (beyond d u (let c = read.count in omega (arith, past, c))))
        (cases_lt d (length devs))

    meta_hits : (d u : ℕ) → address_hits (meta_from 0 next) d u ≡ address_hits meta d u
    meta_hits d u = meta_is next d u ∙ hits_as meta (kept_of next d).uses.meta (kept_of devs d).uses.meta d u (ap (λ (x : Uses). x.meta) (same_uses d)) (read.kept.account d).lists.meta
        (λ lt. (read.each d (let c = read.count in omega (arith, lt, c))).meta_is) (λ past. ap (λ (k : Kept). k.uses.meta) (none_beyond devs d past)) meta_known

    saved_hits : (d u : ℕ) → address_hits (saved_from 0 next) d u ≡ address_hits saved d u
    saved_hits d u = saved_is next d u ∙ hits_as saved (kept_of next d).uses.saved (kept_of devs d).uses.saved d u (ap (λ (x : Uses). x.saved) (same_uses d)) (read.kept.account d).lists.saved
        (λ lt. (read.each d (let c = read.count in omega (arith, lt, c))).saved_is) (λ past. ap (λ (k : Kept). k.uses.saved) (none_beyond devs d past)) saved_known

    here : (d : ℕ) → part_in (kept_of devs d) ≡ part_of parts.devs d
    here d = part_here parts.devs meta saved slabs devs read d

    leaving_next : (d : ℕ) → is_leaving (kept_of next d).row.state ≡ is_leaving (state_of_dev parts.devs d)
    leaving_next d = ap (λ (row : DevRow). is_leaving row.state) (same_row d) ∙ ap (λ (p : DevPart). is_leaving p.row.state) (here d)

    frontier_is : (d : ℕ) → is_leaving (state_of_dev parts.devs d) ≡ true → synced_in next ≡ end_of_last (part_of parts.devs d).entries
    frontier_is d is =
        let now : is_leaving (kept_of next d).row.state ≡ true = leaving_next d ∙ is in
        let there : d < length parts.devs = let l = leaving_there next d now in let c = r.count in let e = read.count in omega (arith, l, c, e) in
        synced_is slabs next space d now ∙ (ap (λ (m : Mapped). m.synced) (same_moves d) ∙ (read.each d there).mapping.synced (leaving_state (state_of_dev parts.devs d) is))

    pub root_opens : IsOpened parts meta saved (space_of whole next)
    root_opens = record {
      parts_are = parts_are;
      opened = nothing;
      synced = frontier_is;
      still = λ none. no_frontier next (λ d. none_of (kept_of next d) (kept_of next d).row.state refl (moved_next d) (leaving_next d ∙ none d));
      meta_is = meta_hits;
      saved_is = saved_hits;
      roles = λ d u. roles_by (space_of whole next) (root_space parts meta saved) d u parts_are (nothing d ∙ sym (none_opened parts.devs d)) (meta_hits d u) (saved_hits d u);
    }

-- what is condensed of a root is of the devices that were read
pub can_condense : (parts : SpaceParts) (meta saved : List Dva) (next : List Kept) → map part_in next ≡ parts.devs → CanOpen parts meta saved → CanCondense parts.cond next
can_condense parts meta saved next same can c is =
    let h = can.condensing c is in
    let part : part_of parts.devs c.dev ≡ part_in (kept_of next c.dev) = ap (λ (ps : List DevPart). part_of ps c.dev) (sym same) ∙ part_is next c.dev in
    record { gone = sym (ap (λ (p : DevPart). p.row.state) part) ∙ h.gone; worked = subst (λ (p : DevPart). IsWorked p c) part h.worked }
