-- A free, piece by piece, and the counts behind it.
use Rattle.std.proofs.Common.{◌≡◌, inl, inr, ℕ, suc, ◌+◌, ◌-◌, ◌*◌, ◌≤◌, Bool, true, false, not, ◌&&◌, ◌||◌, ◌==◌, max, min, List, [], ◌∷◌, ◌++◌, length, refl, ◌∙◌, sym, ap, ap₂, arith, if◌then◌else◌, ⊎_elim}
use Rattle.std.specs.Prelude.{filter}
use Rattle.std.specs.List.{All, sum_by, range_with_len}
use Rattle.std.proofs.lemmas.Bool.{cases_eq}
use Rattle.std.proofs.lemmas.Bool.Decides.{nat_tests}
use Rattle.std.proofs.lemmas.List.{length-append, length-map}
use Rattle.std.proofs.lemmas.List.Elements.{All-head, All-tail}
use Rattle.std.proofs.lemmas.List.Sums.{sum_by-cons}
use Rattle.zr_base.specs.declared.space.Extent.{Extent}
use Rattle.zr_base.specs.declared.space.Dva.{Dva}
use Rattle.zr_base.specs.declared.space.DevRow.{DevRow}
use Rattle.zr_base.specs.Extents.{has_unit}
use Rattle.zr_rules.specs.Owed.{set_words}
use Rattle.zr_rules.specs.Places.{in_address, is_leaving, part_of, state_of_dev}
use Rattle.zr_rules.specs.Mappings.{end_of_last}
use Rattle.zr_rules.specs.Resolve.{is_there, leads_to, passes}
use Rattle.zr_rules.specs.Roles.{Role, freed, kept_of, is_live_role, is_copy_role, is_held_role, is_kept_role}
use Rattle.zr_rules.specs.Roles.Role.{FreshLive, Live, FreshCopy, Copy}
use Rattle.zr_rules.specs.Space.{Space, opened_of, has_place, role_at, frontier, IsLawful}
use Rattle.zr_rules.specs.Equation.{devices_in}
use Rattle.zr_rules.specs.Columns.{device_words, units_from, late_meta_units, late1_meta, late2_meta, on_parts, on_devices, units_on, sizes}
use Rattle.zr_rules.specs.Frees.{Frees, in_any, keeps, is_copy_of, freed_role}
use Rattle.zr_rules.specs.Steps.{touch}
use Rattle.zr_reckon.specs.Uses.{is_room_role, room, AllAre, IsWhole}
use Rattle.zr_reckon.specs.Base.{device_base, base_words}
use Rattle.zr_reckon.specs.Pieces.{ends_of, copies_of, IsWholeCopy, IsFreeable}
use Rattle.zr_reckon.proofs.Bits.{is_deferred_block}
use Rattle.zr_reckon.proofs.RoleSets.{held_is, kept_is, deferred_is}
use Rattle.zr_reckon.proofs.MoreSets.{all_come, all_go, has_append}
use Rattle.zr_reckon.proofs.Counting.{sum_as, sum_grows, sum_less, sum_zero}
use Rattle.zr_reckon.proofs.Frames.{words_move, base_moves, kept_same, room_grows, sized, streams_same, gone_same, sum_same, on_sum_same, on_same}
use Rattle.zr_reckon.proofs.Placed.{beyond}
use Rattle.zr_reckon.proofs.FreedKinds.{is_old_live, is_new_live, is_old_copy, live_held, freed_live_held, freed_copy_held, kept_live_held, freed_kept, kept_live_kept, live_not_kept, freed_live_deferred, live_not_deferred, kept_live_deferred, freed_copy_deferred, copy_not_deferred, live_split, live_no_copy, freed_room, kept_room, freed_from_held, kept_from_held}
use Rattle.zr_reckon.proofs.Leads.{ways, leads_into, into_leads, passes_into, into_passes}
use Rattle.zr_reckon.proofs.Copies.{copy_into, into_copy}
use Rattle.zr_reckon.proofs.Discarded.{left_less}
use Rattle.zr_reckon.proofs.Runs.{on_dev, has_on, on_count, sum_on, AreShort, short_set, short_on, short_both, short_ends, short_ways, short_copies, pieces_most, cut_at, has_cut, short_cut}

-- ---- runs by the role of their units

-- the runs of which the first unit passes
abbrev pub first_pass : Space → (Role → Bool) → List Dva → List Dva
first_pass s test list = filter (λ (m : Dva). test (role_at s m.dev m.start)) list

-- each unit of a run passes as its first one does
abbrev IsEven : Space → (Role → Bool) → Dva → Type 0
IsEven s test m = (d u : ℕ) → in_address m d u ≡ true → test (role_at s d u) ≡ test (role_at s m.dev m.start)

even_of : (s : Space) (test : Role → Bool) (m : Dva) (r : Role) → AllAre s m r → IsEven s test m
even_of s test m r all d u is =
    let same : d ≡ m.dev = grind (arith, nat_tests, is) in
    let here = ap (λ (k : ℕ). test (role_at s k u)) same ∙ ap test (all u (grind (arith, nat_tests, is))) in
    let first = ap test (all m.start (grind (arith, nat_tests, is))) in
    here ∙ sym first

pub even_block : (s : Space) (test : Role → Bool) (m : Dva) → IsWhole s m → IsEven s test m
even_block s test m (inl all) = even_of s test m FreshLive all
even_block s test m (inr all) = even_of s test m Live all

pub even_copy : (s : Space) (test : Role → Bool) (m : Dva) → IsWholeCopy s m → IsEven s test m
even_copy s test m (inl all) = even_of s test m FreshCopy all
even_copy s test m (inr all) = even_of s test m Copy all

pass_yes : (here f l t : Bool) → (here ≡ true → t ≡ true) → f ≡ (l && t) → (here || f) ≡ ((here || l) && t)
pass_yes true f l t e r = let h = e refl in grind (arith, h)
pass_yes false f l t e r = r

pass_none : (here f l t : Bool) → (here ≡ true → t ≡ false) → f ≡ (l && t) → f ≡ ((here || l) && t)
pass_none true f l t e r = let h = e refl in grind (arith, h, r)
pass_none false f l t e r = r

in_first_pass : (s : Space) (test : Role → Bool) (P : Dva → Type 0) (list : List Dva) (d u : ℕ) → ((m : Dva) → P m → IsEven s test m) → All P list → in_any (first_pass s test list) d u ≡ (in_any list d u && test (role_at s d u))
in_first_pass s test P [] d u even all = refl
in_first_pass s test P (m ∷ list) d u even all =
    by_first (test (role_at s m.dev m.start)) refl (even m (All-head P m list all) d u) (in_first_pass s test P list d u even (All-tail P m list all))
  where
    by_first : (b : Bool) → test (role_at s m.dev m.start) ≡ b → (in_address m d u ≡ true → test (role_at s d u) ≡ test (role_at s m.dev m.start)) → in_any (first_pass s test list) d u ≡ (in_any list d u && test (role_at s d u))
        → in_any (first_pass s test (m ∷ list)) d u ≡ (in_any (m ∷ list) d u && test (role_at s d u))
    by_first true is e r = rw is (pass_yes (in_address m d u) (in_any (first_pass s test list) d u) (in_any list d u) (test (role_at s d u)) (λ h. e h ∙ is) r)
    by_first false is e r = rw is (pass_none (in_address m d u) (in_any (first_pass s test list) d u) (in_any list d u) (test (role_at s d u)) (λ h. e h ∙ is) r)

short_pass : (s : Space) (test : Role → Bool) (list : List Dva) → AreShort list → AreShort (first_pass s test list)
short_pass s test [] a = tt
short_pass s test (m ∷ list) a = by_first (test (role_at s m.dev m.start)) refl (short_pass s test list a.1)
  where
    by_first : (b : Bool) → test (role_at s m.dev m.start) ≡ b → AreShort (first_pass s test list) → AreShort (first_pass s test (m ∷ list))
    by_first true is r = rw is (a.0, r)
    by_first false is r = rw is r

-- runs that pass one of two tests which exclude each other are no more than all
two_passes : (s : Space) (f g : Role → Bool) (d : ℕ) (list : List Dva) → ((r : Role) → f r ≡ true → g r ≡ false) → on_count (first_pass s f list) d + on_count (first_pass s g list) d ≤ on_count list d
two_passes s f g d [] apart = omega arith
two_passes s f g d (m ∷ list) apart = by_first (f (role_at s m.dev m.start)) (g (role_at s m.dev m.start)) refl refl (apart (role_at s m.dev m.start)) (two_passes s f g d list apart)
  where
    by_dev : (x y z : ℕ) (b : Bool) → x + y ≤ z → (if b then suc x else x) + y ≤ (if b then suc z else z)
    by_dev x y z true le = omega (arith, le)
    by_dev x y z false le = le

    on_step : (ms : List Dva) → on_count (m ∷ ms) d ≡ (if m.dev == d then suc (on_count ms d) else on_count ms d)
    on_step ms = ⊎_elim (λ here. grind (arith, nat_tests, here)) (λ away. grind (arith, nat_tests, away)) (cases_eq m.dev d)

    by_first : (a b : Bool) → f (role_at s m.dev m.start) ≡ a → g (role_at s m.dev m.start) ≡ b → (f (role_at s m.dev m.start) ≡ true → g (role_at s m.dev m.start) ≡ false)
        → on_count (first_pass s f list) d + on_count (first_pass s g list) d ≤ on_count list d → on_count (first_pass s f (m ∷ list)) d + on_count (first_pass s g (m ∷ list)) d ≤ on_count (m ∷ list) d
    by_first true true p q ex r = let x = sym q ∙ ex p in absurd (cc)
    by_first true false p q ex r =
        let x = on_step (first_pass s f list) in
        let z = on_step list in
        let w = by_dev (on_count (first_pass s f list) d) (on_count (first_pass s g list) d) (on_count list d) (m.dev == d) r in
        rw p rw q (omega (arith, x, z, w))
    by_first false true p q ex r =
        let x = on_step (first_pass s g list) in
        let z = on_step list in
        let w = by_dev (on_count (first_pass s g list) d) (on_count (first_pass s f list) d) (on_count list d) (m.dev == d) (omega (arith, r)) in
        rw p rw q (omega (arith, x, z, w))
    by_first false false p q ex r =
        let z = on_step list in
        let w = by_dev (on_count (first_pass s f list) d) (on_count (first_pass s g list) d) (on_count list d) (m.dev == d) r in
        rw p rw q (more (m.dev == d) z)
      where
        more : (b : Bool) → on_count (m ∷ list) d ≡ (if b then suc (on_count list d) else on_count list d) → on_count (first_pass s f list) d + on_count (first_pass s g list) d ≤ on_count (m ∷ list) d
        more true z = omega (arith, z, r)
        more false z = omega (arith, z, r)

-- what each unit of each run is, is each unit that is in some run
in_runs : (s : Space) (kind : Role → Bool) (P : Dva → Type 0) (list : List Dva) (d u : ℕ) → ((m : Dva) → P m → (e v : ℕ) → in_address m e v ≡ true → kind (role_at s e v) ≡ true) → All P list → in_any list d u ≡ true → kind (role_at s d u) ≡ true
in_runs s kind P [] d u each all is = absurd (cc)
in_runs s kind P (m ∷ list) d u each all is = by_first (in_address m d u) refl (each m (All-head P m list all) d u) (in_runs s kind P list d u each (All-tail P m list all))
  where
    by_first : (b : Bool) → in_address m d u ≡ b → (in_address m d u ≡ true → kind (role_at s d u) ≡ true) → (in_any list d u ≡ true → kind (role_at s d u) ≡ true) → kind (role_at s d u) ≡ true
    by_first true here a r = a here
    by_first false here a r = r (rw here at is)

run_of : (s : Space) (kind : Role → Bool) (m : Dva) (r : Role) → kind r ≡ true → AllAre s m r → (e v : ℕ) → in_address m e v ≡ true → kind (role_at s e v) ≡ true
run_of s kind m r holds all e v is =
    let same : e ≡ m.dev = grind (arith, nat_tests, is) in
    ap (λ (k : ℕ). kind (role_at s k v)) same ∙ (ap kind (all v (grind (arith, nat_tests, is))) ∙ holds)

live_run : (s : Space) (m : Dva) → IsWhole s m → (e v : ℕ) → in_address m e v ≡ true → is_live_role (role_at s e v) ≡ true
live_run s m (inl all) = run_of s is_live_role m FreshLive refl all
live_run s m (inr all) = run_of s is_live_role m Live refl all

copy_run : (s : Space) (m : Dva) → IsWholeCopy s m → (e v : ℕ) → in_address m e v ≡ true → is_copy_role (role_at s e v) ≡ true
copy_run s m (inl all) = run_of s is_copy_role m FreshCopy refl all
copy_run s m (inr all) = run_of s is_copy_role m Copy refl all

pub live_there : (s : Space) (d u : ℕ) → is_live_role (role_at s d u) ≡ true → has_place s d u ≡ true
live_there s d u is = by_test (has_place s d u) refl
  where
    by_test : (b : Bool) → has_place s d u ≡ b → b ≡ true
    by_test true h = refl
    by_test false h = let x = sym is ∙ ap is_live_role (beyond s d u h) in absurd (cc)

same_bool : (a b : Bool) → (a ≡ true → b ≡ true) → (b ≡ true → a ≡ true) → a ≡ b
same_bool true b f g = sym (f refl)
same_bool false true f g = g refl
same_bool false false f g = refl

-- ---- a unit's bits

push : (kind : Role → Bool) (x y : Bool) (p q r : Role) → kind (if x then p else (if y then q else r)) ≡ (if x then kind p else (if y then kind q else kind r))
push kind true y p q r = refl
push kind false true p q r = refl
push kind false false p q r = refl

held_bits : (new old gone freed now b c : Bool) → new ≡ (if b then freed else (if c then freed else now)) → old ≡ now → gone ≡ (b || c) → (b ≡ true → freed ≡ false) → (c ≡ true → freed ≡ false) → new ≡ (old && not gone)
held_bits new old gone freed now true c p q r f g = let h = f refl in grind (arith, p, q, r, h)
held_bits new old gone freed now false true p q r f g = let h = g refl in grind (arith, p, q, r, h)
held_bits new old gone freed now false false p q r f g = grind (arith, p, q, r)

deferred_bits : (new old come freed now b c lb oc : Bool) → new ≡ (if b then freed else (if c then freed else now)) → old ≡ now → come ≡ ((b && lb) || (c && oc))
    → (b ≡ true → freed ≡ lb) → (c ≡ true → freed ≡ oc) → (b ≡ true → now ≡ false) → (c ≡ true → now ≡ false) → (b ≡ true → c ≡ true → ⊥) → new ≡ (old || come)
deferred_bits new old come freed now true true lb oc p q r f g h k ex = absurd (ex refl refl)
deferred_bits new old come freed now true false lb oc p q r f g h k ex = let x = f refl in let y = h refl in grind (arith, p, q, r, x, y)
deferred_bits new old come freed now false true lb oc p q r f g h k ex = let x = g refl in let y = k refl in grind (arith, p, q, r, x, y)
deferred_bits new old come freed now false false lb oc p q r f g h k ex = grind (arith, p, q, r)

steady_bits : (b c x y : Bool) → x ≡ y → (if b then x else (if c then x else y)) ≡ y
steady_bits true c x y same = same
steady_bits false true x y same = same
steady_bits false false x y same = refl

kept_held_bits : (new old gone kf ff now b c ol nl : Bool) → new ≡ (if b then kf else (if c then ff else now)) → old ≡ now → gone ≡ ((b && nl) || c)
    → (b ≡ true → kf ≡ ol) → (b ≡ true → nl ≡ not ol) → (b ≡ true → now ≡ true) → (c ≡ true → ff ≡ false) → (b ≡ true → c ≡ true → ⊥) → new ≡ (old && not gone)
kept_held_bits new old gone kf ff now true true ol nl p q r f g h k ex = absurd (ex refl refl)
kept_held_bits new old gone kf ff now true false ol nl p q r f g h k ex = let x = f refl in let y = g refl in let z = h refl in split ol nl p q r x y z
  where
    split : (ol nl : Bool) → new ≡ kf → old ≡ now → gone ≡ (nl || false) → kf ≡ ol → nl ≡ not ol → now ≡ true → new ≡ (old && not gone)
    split true nl p q r x y z = grind (arith, p, q, r, x, y, z)
    split false nl p q r x y z = grind (arith, p, q, r, x, y, z)
kept_held_bits new old gone kf ff now false true ol nl p q r f g h k ex = let x = k refl in grind (arith, p, q, r, x)
kept_held_bits new old gone kf ff now false false ol nl p q r f g h k ex = grind (arith, p, q, r)

kept_kept_bits : (new old come kf ff now b c ol : Bool) → new ≡ (if b then kf else (if c then ff else now)) → old ≡ now → come ≡ (b && ol)
    → (b ≡ true → kf ≡ ol) → (b ≡ true → now ≡ false) → ff ≡ now → new ≡ (old || come)
kept_kept_bits new old come kf ff now true c ol p q r f g k = let x = f refl in let y = g refl in grind (arith, p, q, r, x, y)
kept_kept_bits new old come kf ff now false true ol p q r f g k = steady old now come new (p ∙ k) q r
  where
    steady : (o n m w : Bool) → w ≡ n → o ≡ n → m ≡ false → w ≡ (o || m)
    steady true n m w p q r = grind (arith, p, q, r)
    steady false n m w p q r = grind (arith, p, q, r)
kept_kept_bits new old come kf ff now false false ol p q r f g k = steady old now come new p q r
  where
    steady : (o n m w : Bool) → w ≡ n → o ≡ n → m ≡ false → w ≡ (o || m)
    steady true n m w p q r = grind (arith, p, q, r)
    steady false n m w p q r = grind (arith, p, q, r)

kept_deferred_bits : (new old come kf ff now b c oc : Bool) → new ≡ (if b then kf else (if c then ff else now)) → old ≡ now → come ≡ (c && oc)
    → (b ≡ true → kf ≡ false) → (b ≡ true → now ≡ false) → (c ≡ true → ff ≡ oc) → (c ≡ true → now ≡ false) → (b ≡ true → c ≡ true → ⊥) → new ≡ (old || come)
kept_deferred_bits new old come kf ff now true true oc p q r f g h k ex = absurd (ex refl refl)
kept_deferred_bits new old come kf ff now true false oc p q r f g h k ex = let x = f refl in let y = g refl in grind (arith, p, q, r, x, y)
kept_deferred_bits new old come kf ff now false true oc p q r f g h k ex = let x = h refl in let y = k refl in grind (arith, p, q, r, x, y)
kept_deferred_bits new old come kf ff now false false oc p q r f g h k ex = steady old now come new p q r
  where
    steady : (o n m w : Bool) → w ≡ n → o ≡ n → m ≡ false → w ≡ (o || m)
    steady true n m w p q r = grind (arith, p, q, r)
    steady false n m w p q r = grind (arith, p, q, r)

old_not_new : (r : Role) → is_old_live r ≡ true → is_new_live r ≡ false
old_not_new Live h = refl
old_not_new FreshLive h = absurd (cc)
old_not_new _ h = refl

sum_of_kinds : (f g h m : ℕ → ℕ) (xs : List ℕ) → sum_by (λ d. f d + 3 * g d + 3 * h d + m d) xs ≡ sum_by f xs + 3 * sum_by g xs + 3 * sum_by h xs + sum_by m xs
sum_of_kinds f g h m [] = refl
sum_of_kinds f g h m (x ∷ xs) =
    let r = sum_of_kinds f g h m xs in
    let a = sum_by-cons f x xs in
    let b = sum_by-cons g x xs in
    let c = sum_by-cons h x xs in
    let k = sum_by-cons m x xs in
    let e = sum_by-cons (λ (d : ℕ). f d + 3 * g d + 3 * h d + m d) x xs in
    omega (arith, r, a, b, c, k, e)

-- ---- what needs no pieces

module _ (old new : Space) (a : Dva) (birth : ℕ) (f : Frees old new a birth) where
  rows : (d : ℕ) → (part_of new.parts.devs d).row ≡ (part_of old.parts.devs d).row
  rows d = (f.frame.each d).row

  -- a unit stays what it is, or is freed, or is kept
  pub by_use : (d u : ℕ) (P : Role → Type 0) → P (role_at old d u) → P (freed (role_at old d u)) → P (kept_of (role_at old d u)) → P (freed_role old a birth d u)
  by_use d u P stays goes keep = choose (leads_to (devices_in old) a d u) (keeps old.parts.ckpt birth) (is_copy_of old a d u)
    where
      choose : (x y z : Bool) → P (if x then (if y then kept_of (role_at old d u) else freed (role_at old d u)) else (if z then freed (role_at old d u) else role_at old d u))
      choose true true z = keep
      choose true false z = goes
      choose false y true = goes
      choose false y false = stays

  pub free_room : room old ≤ room new
  free_room = room_grows old new f.frame.devices rows
      (λ d u is. ap is_room_role (f.roles d u) ∙ by_use d u (λ r. is_room_role r ≡ true) is (freed_room (role_at old d u) is) (kept_room (role_at old d u) is))

  module _ (l : IsLawful old) where
    m : IsLawful new
    m = f.frame.lawful l

    held_less : (d u : ℕ) → has_unit (part_of new.parts.devs d).held u ≡ true → has_unit (part_of old.parts.devs d).held u ≡ true
    held_less d u is =
        let now : is_held_role (freed_role old a birth d u) ≡ true = sym (ap is_held_role (f.roles d u)) ∙ (sym (held_is new d u m) ∙ is) in
        held_is old d u l ∙ by_use d u (λ r. is_held_role r ≡ true → is_held_role (role_at old d u) ≡ true) (λ h. h) (freed_from_held (role_at old d u)) (kept_from_held (role_at old d u)) now

    abbrev left_of : Space → ℕ → ℕ
    left_of s e = if is_leaving (state_of_dev s.parts.devs e) then sum_by (units_from (frontier s e)) (part_of s.parts.devs e).held else 0

    left : (d : ℕ) → left_of new d ≤ left_of old d
    left d = by_test (is_leaving (state_of_dev old.parts.devs d)) refl (ap (λ (r : DevRow). is_leaving r.state) (rows d))
      where
        by_test : (b : Bool) → is_leaving (state_of_dev old.parts.devs d) ≡ b → is_leaving (state_of_dev new.parts.devs d) ≡ is_leaving (state_of_dev old.parts.devs d) → left_of new d ≤ left_of old d
        by_test true is now =
            let end = ap (λ (k : ℕ). sum_by (units_from k) (part_of new.parts.devs d).held) (ap end_of_last (f.frame.each d).entries) in
            let less = left_less (frontier old d) (part_of old.parts.devs d).held (part_of new.parts.devs d).held (l.sets d).held.maximal (m.sets d).held.maximal (held_less d) in
            rw now rw is (omega (arith, end, less))
        by_test false is now = rw now rw is (omega arith)

    pub free_uncopied : (blocks objects : ℕ) → (sizes new blocks objects).uncopied ≤ (sizes old blocks objects).uncopied
    free_uncopied blocks objects =
        let s = ap (λ (j : ℕ). sum_by (left_of new) (range_with_len 0 j)) f.frame.devices in
        let g = sum_less (left_of new) (left_of old) (range_with_len 0 (length old.parts.devs)) left in
        omega (arith, s, g)

  pub free_others : (blocks objects : ℕ) → sizes new blocks objects ≡ record (sizes old blocks objects) { words = (sizes new blocks objects).words; uncopied = (sizes new blocks objects).uncopied }
  free_others blocks objects =
      all_sizes _ _ _ _ _ _ _ _ blocks objects (sizes new blocks objects).words (sizes new blocks objects).uncopied
      (ap (λ (k : ℕ). 2 + k) (streams_same old new f.frame.devices rows))
      (gone_same old new f.frame.devices rows)
      turning past
    where
      all_sizes : (s1 s2 g1 g2 t1 t2 p1 p2 : ℕ) (blocks objects words uncopied : ℕ) → s1 ≡ s2 → g1 ≡ g2 → t1 ≡ t2 → p1 ≡ p2
          → sized blocks objects words s1 g1 uncopied t1 p1 ≡ sized blocks objects words s2 g2 uncopied t2 p2
      all_sizes s1 s2 g1 g2 t1 t2 p1 p2 blocks objects words uncopied s g t p = cc

      turning : (sizes new blocks objects).turning ≡ (sizes old blocks objects).turning
      turning =
          let x : sum_by (units_on new.meta) (on_devices new) ≡ sum_by (units_on old.meta) (on_devices old) = ap₂ (λ ms ds. sum_by (units_on ms) ds) f.meta (on_same old new f.frame.devices rows) in
          let y : late1_meta (on_parts new.parts.devs) ≡ late1_meta (on_parts old.parts.devs) = on_sum_same old new f.frame.devices rows (λ p. late_meta_units p.late1) (λ d. ap late_meta_units (f.frame.each d).late1) in
          let z : late2_meta (on_parts new.parts.devs) ≡ late2_meta (on_parts old.parts.devs) = on_sum_same old new f.frame.devices rows (λ p. late_meta_units p.late2) (λ d. ap late_meta_units (f.frame.each d).late2) in
          ap₂ (λ (x y : ℕ). x + y) (ap₂ (λ (x y : ℕ). x + y) x y) z

      past : (sizes new blocks objects).past ≡ (sizes old blocks objects).past
      past =
          let x : sum_by (λ (x : Dva). x.len) new.meta ≡ sum_by (λ (x : Dva). x.len) old.meta = ap (sum_by (λ (x : Dva). x.len)) f.meta in
          let y : late1_meta new.parts.devs ≡ late1_meta old.parts.devs = sum_same old new f.frame.devices rows (λ p. late_meta_units p.late1) (λ d. ap late_meta_units (f.frame.each d).late1) in
          let z : late2_meta new.parts.devs ≡ late2_meta old.parts.devs = sum_same old new f.frame.devices rows (λ p. late_meta_units p.late2) (λ d. ap late_meta_units (f.frame.each d).late2) in
          ap₂ max x (ap₂ max y z)

  -- ---- the words, piece by piece

  module _ (l : IsLawful old) (free : IsFreeable old a) (short : a.len ≤ 32768) where
    n : IsLawful new
    n = f.frame.lawful l

    abbrev blocks : List Dva
    blocks = ends_of (devices_in old) a

    abbrev copies : List Dva
    copies = copies_of (devices_in old) a

    abbrev passed : List Dva
    passed = ways (length old.parts.devs) (devices_in old) a.dev a.start a.len

    live_is : (d u : ℕ) → in_any blocks d u ≡ true → is_live_role (role_at old d u) ≡ true
    live_is d u is = in_runs old is_live_role (IsWhole old) blocks d u (live_run old) free.blocks is

    copy_is : (d u : ℕ) → in_any copies d u ≡ true → is_copy_role (role_at old d u) ≡ true
    copy_is d u is = in_runs old is_copy_role (IsWholeCopy old) copies d u (copy_run old) free.copies is

    known : (d u : ℕ) → in_any blocks d u ≡ true → is_there (devices_in old) d u ≡ true
    known d u is = let h = live_there old d u (live_is d u is) in grind (arith, nat_tests, h)

    leads_is : (d u : ℕ) → leads_to (devices_in old) a d u ≡ in_any blocks d u
    leads_is d u = same_bool _ _ (leads_into (devices_in old) a d u) (λ is. into_leads (devices_in old) a d u (known d u is) free.rising is)

    copies_is : (d u : ℕ) → is_copy_of old a d u ≡ in_any copies d u
    copies_is d u = same_bool _ _ (copy_into old a d u) (into_copy old a d u known free.rising free.unmarked)

    passes_is : (d u : ℕ) → passes (devices_in old) a d u ≡ in_any passed d u
    passes_is d u = same_bool _ _ (passes_into (devices_in old) a d u) (into_passes (devices_in old) a d u free.rising)

    role_is : (d u : ℕ) → role_at new d u ≡ (if in_any blocks d u then (if keeps old.parts.ckpt birth then kept_of (role_at old d u) else freed (role_at old d u)) else (if in_any copies d u then freed (role_at old d u) else role_at old d u))
    role_is d u =
        f.roles d u
        ∙ ap₂ (λ (x y : Bool). if x then (if keeps old.parts.ckpt birth then kept_of (role_at old d u) else freed (role_at old d u)) else (if y then freed (role_at old d u) else role_at old d u)) (leads_is d u) (copies_is d u)

    short_blocks : AreShort blocks
    short_blocks = short_ends (length old.parts.devs) (devices_in old) a.dev a.start a.len short

    short_copied : AreShort copies
    short_copied = short_copies (devices_in old) blocks short_blocks

    abbrev old_copies : List Dva
    old_copies = first_pass old is_old_copy copies

    abbrev old_blocks : List Dva
    old_blocks = first_pass old is_old_live blocks

    abbrev new_blocks : List Dva
    new_blocks = first_pass old is_new_live blocks

    old_copies_is : (d u : ℕ) → in_any old_copies d u ≡ (in_any copies d u && is_old_copy (role_at old d u))
    old_copies_is d u = in_first_pass old is_old_copy (IsWholeCopy old) copies d u (even_copy old is_old_copy) free.copies

    old_blocks_is : (d u : ℕ) → in_any old_blocks d u ≡ (in_any blocks d u && is_old_live (role_at old d u))
    old_blocks_is d u = in_first_pass old is_old_live (IsWhole old) blocks d u (even_block old is_old_live) free.blocks

    new_blocks_is : (d u : ℕ) → in_any new_blocks d u ≡ (in_any blocks d u && is_new_live (role_at old d u))
    new_blocks_is d u = in_first_pass old is_new_live (IsWhole old) blocks d u (even_block old is_new_live) free.blocks

    apart : (d u : ℕ) → in_any blocks d u ≡ true → in_any copies d u ≡ true → ⊥
    apart d u x y = let p = live_no_copy (role_at old d u) (live_is d u x) in let q = sym (copy_is d u y) ∙ p in absurd (cc)

    has_here : (d u : ℕ) (xs ys : List Dva) → has_unit (on_dev d xs ++ on_dev d ys) u ≡ (in_any xs d u || in_any ys d u)
    has_here d u xs ys = has_append (on_dev d xs) (on_dev d ys) u ∙ ap₂ (λ (x y : Bool). x || y) (has_on xs d u) (has_on ys d u)

    few_words : (d : ℕ) (xs ys : List Dva) → AreShort xs → AreShort ys → set_words old.parts.version (on_dev d xs ++ on_dev d ys) ≤ on_count xs d + on_count ys d
    few_words d xs ys p q =
        let w = short_set old.parts.version (on_dev d xs ++ on_dev d ys) (short_both (on_dev d xs) (on_dev d ys) (short_on xs d p) (short_on ys d q)) in
        let k = length-append (on_dev d xs) (on_dev d ys) in
        omega (arith, w, k)

    -- of the blocks on a device, those that are marked where it is leaving
    abbrev marked : ℕ → ℕ
    marked d = if is_leaving (state_of_dev old.parts.devs d) then on_count blocks d else 0

    -- what is marked
    short_passed : AreShort passed
    short_passed = short_ways (length old.parts.devs) (devices_in old) a.dev a.start a.len short

    fresh_words : (d : ℕ) → set_words old.parts.version (part_of new.parts.devs d).fresh ≤ set_words old.parts.version (part_of old.parts.devs d).fresh + (on_count passed d + marked d)
    fresh_words d = by_test (is_leaving (state_of_dev old.parts.devs d)) refl
      where
        by_test : (b : Bool) → is_leaving (state_of_dev old.parts.devs d) ≡ b → set_words old.parts.version (part_of new.parts.devs d).fresh ≤ set_words old.parts.version (part_of old.parts.devs d).fresh + (on_count passed d + (if b then on_count blocks d else 0))
        by_test true is =
            let v = old.parts.version in
            let below = cut_at (frontier old d) (on_dev d blocks) in
            let w = all_come v (part_of old.parts.devs d).fresh (part_of new.parts.devs d).fresh (on_dev d passed ++ below) (l.sets d).fresh.maximal (n.sets d).fresh.maximal
            (λ u.
            let g = f.fresh d u in
            let x = has_append (on_dev d passed) below u in
            let y = has_on passed d u in
            let z = has_cut (frontier old d) u (on_dev d blocks) in
            let b = has_on blocks d u in
            let p = passes_is d u in
            let q = leads_is d u in
            grind (arith, g, x, y, z, b, p, q, is)) in
            let few = short_set v (on_dev d passed ++ below) (short_both (on_dev d passed) below (short_on passed d short_passed) (short_cut (frontier old d) (on_dev d blocks) (short_on blocks d short_blocks))) in
            let k = length-append (on_dev d passed) below in
            let c = length-map (on_dev d blocks) (λ (e : Extent). let r : Extent = record { start = e.start; len = min (e.start + e.len) (frontier old d) - e.start } in r) in
            omega (arith, w, few, k, c)
        by_test false is =
            let v = old.parts.version in
            let w = all_come v (part_of old.parts.devs d).fresh (part_of new.parts.devs d).fresh (on_dev d passed) (l.sets d).fresh.maximal (n.sets d).fresh.maximal
            (λ u.
            let g = f.fresh d u in
            let y = has_on passed d u in
            let p = passes_is d u in
            grind (arith, g, y, p, is)) in
            let few = short_set v (on_dev d passed) (short_on passed d short_passed) in
            omega (arith, w, few)

    -- where nothing is kept
    module _ (is : keeps old.parts.ckpt birth ≡ false) where
      kind_freed : (kind : Role → Bool) (d u : ℕ) → kind (role_at new d u) ≡ (if in_any blocks d u then kind (freed (role_at old d u)) else (if in_any copies d u then kind (freed (role_at old d u)) else kind (role_at old d u)))
      kind_freed kind d u = ap kind (role_is d u) ∙ (rw is (push kind (in_any blocks d u) (in_any copies d u) (freed (role_at old d u)) (freed (role_at old d u)) (role_at old d u)))

      freed_each : (d : ℕ) → (device_words new d ≤ device_words old d + (on_count passed d + 3 * on_count blocks d + 3 * on_count copies d + marked d))
          × (device_base new d ≤ device_base old d + (on_count passed d + 3 * on_count blocks d + 3 * on_count copies d + marked d))
      freed_each d =
          let v = old.parts.version in
          let w = words_move old new d f.frame.version (f.frame.each d) in
          let b = base_moves old new d f.frame.version (f.frame.each d) in
          let fresh = fresh_words d in
          let held = all_go v (part_of old.parts.devs d).held (part_of new.parts.devs d).held (on_dev d blocks ++ on_dev d copies) (l.sets d).held.maximal (n.sets d).held.maximal
          (λ u. held_bits _ _ _ _ _ (in_any blocks d u) (in_any copies d u) (held_is new d u n ∙ kind_freed is_held_role d u) (held_is old d u l) (has_here d u blocks copies)
          (λ x. freed_live_held (role_at old d u) (live_is d u x)) (λ x. freed_copy_held (role_at old d u) (copy_is d u x))) in
          let deferred = all_come v (opened_of old d).deferred (opened_of new d).deferred (on_dev d old_blocks ++ on_dev d old_copies) (l.sets d).deferred.maximal (n.sets d).deferred.maximal
          (λ u. deferred_bits _ _ _ _ _ (in_any blocks d u) (in_any copies d u) (is_old_live (role_at old d u)) (is_old_copy (role_at old d u))
          (deferred_is new d u n ∙ kind_freed is_deferred_block d u) (deferred_is old d u l) (has_here d u old_blocks old_copies ∙ ap₂ (λ (x y : Bool). x || y) (old_blocks_is d u) (old_copies_is d u))
          (λ x. freed_live_deferred (role_at old d u) (live_is d u x)) (λ x. freed_copy_deferred (role_at old d u) (copy_is d u x))
          (λ x. live_not_deferred (role_at old d u) (live_is d u x)) (λ x. copy_not_deferred (role_at old d u) (copy_is d u x)) (apart d u)) in
          let kept = ap (set_words v) (kept_same old new d d l n (λ u. kind_freed is_kept_role d u ∙ steady_bits (in_any blocks d u) (in_any copies d u) _ _ (freed_kept (role_at old d u)))) in
          let few = few_words d old_blocks old_copies (short_pass old is_old_live blocks short_blocks) (short_pass old is_old_copy copies short_copied) in
          let a1 = two_passes old is_old_live is_new_live d blocks old_not_new in
          let a2 = two_passes old is_old_copy (λ r. false) d copies (λ r h. refl) in
          let k = length-append (on_dev d blocks) (on_dev d copies) in
          (omega (arith, w, fresh, held, deferred, kept, few, a1, a2, k), omega (arith, b, fresh, held, kept, a1, a2, k))

    -- where the checkpoint may have the block
    module _ (is : keeps old.parts.ckpt birth ≡ true) where
      kind_kept : (kind : Role → Bool) (d u : ℕ) → kind (role_at new d u) ≡ (if in_any blocks d u then kind (kept_of (role_at old d u)) else (if in_any copies d u then kind (freed (role_at old d u)) else kind (role_at old d u)))
      kind_kept kind d u = ap kind (role_is d u) ∙ (rw is (push kind (in_any blocks d u) (in_any copies d u) (kept_of (role_at old d u)) (freed (role_at old d u)) (role_at old d u)))

      kept_each : (d : ℕ) → (device_words new d ≤ device_words old d + (on_count passed d + 3 * on_count blocks d + 3 * on_count copies d + marked d))
          × (device_base new d ≤ device_base old d + (on_count passed d + 3 * on_count blocks d + 3 * on_count copies d + marked d))
      kept_each d =
          let v = old.parts.version in
          let w = words_move old new d f.frame.version (f.frame.each d) in
          let b = base_moves old new d f.frame.version (f.frame.each d) in
          let fresh = fresh_words d in
          let held = all_go v (part_of old.parts.devs d).held (part_of new.parts.devs d).held (on_dev d new_blocks ++ on_dev d copies) (l.sets d).held.maximal (n.sets d).held.maximal
          (λ u. kept_held_bits _ _ _ _ _ _ (in_any blocks d u) (in_any copies d u) (is_old_live (role_at old d u)) (is_new_live (role_at old d u))
          (held_is new d u n ∙ kind_kept is_held_role d u) (held_is old d u l) (has_here d u new_blocks copies ∙ ap (λ (x : Bool). x || in_any copies d u) (new_blocks_is d u))
          (λ x. kept_live_held (role_at old d u) (live_is d u x)) (λ x. live_split (role_at old d u) (live_is d u x)) (λ x. live_held (role_at old d u) (live_is d u x))
          (λ x. freed_copy_held (role_at old d u) (copy_is d u x)) (apart d u)) in
          let kept = all_come v (part_of old.parts.devs d).kept (part_of new.parts.devs d).kept (on_dev d old_blocks) (l.sets d).kept.maximal (n.sets d).kept.maximal
          (λ u. kept_kept_bits _ _ _ _ _ _ (in_any blocks d u) (in_any copies d u) (is_old_live (role_at old d u))
          (kept_is new d u n ∙ kind_kept is_kept_role d u) (kept_is old d u l) (has_on old_blocks d u ∙ old_blocks_is d u)
          (λ x. kept_live_kept (role_at old d u) (live_is d u x)) (λ x. live_not_kept (role_at old d u) (live_is d u x)) (freed_kept (role_at old d u))) in
          let deferred = all_come v (opened_of old d).deferred (opened_of new d).deferred (on_dev d old_copies) (l.sets d).deferred.maximal (n.sets d).deferred.maximal
          (λ u. kept_deferred_bits _ _ _ _ _ _ (in_any blocks d u) (in_any copies d u) (is_old_copy (role_at old d u))
          (deferred_is new d u n ∙ kind_kept is_deferred_block d u) (deferred_is old d u l) (has_on old_copies d u ∙ old_copies_is d u)
          (λ x. kept_live_deferred (role_at old d u) (live_is d u x)) (λ x. live_not_deferred (role_at old d u) (live_is d u x))
          (λ x. freed_copy_deferred (role_at old d u) (copy_is d u x)) (λ x. copy_not_deferred (role_at old d u) (copy_is d u x)) (apart d u)) in
          let few1 = short_set v (on_dev d old_blocks) (short_on old_blocks d (short_pass old is_old_live blocks short_blocks)) in
          let few2 = short_set v (on_dev d old_copies) (short_on old_copies d (short_pass old is_old_copy copies short_copied)) in
          let a1 = two_passes old is_old_live is_new_live d blocks old_not_new in
          let a2 = two_passes old is_old_copy (λ r. false) d copies (λ r h. refl) in
          let k = length-append (on_dev d new_blocks) (on_dev d copies) in
          (omega (arith, w, fresh, held, deferred, kept, few1, few2, a1, a2, k), omega (arith, b, fresh, held, kept, few1, a1, a2, k))

    each : (d : ℕ) → (device_words new d ≤ device_words old d + (on_count passed d + 3 * on_count blocks d + 3 * on_count copies d + marked d))
        × (device_base new d ≤ device_base old d + (on_count passed d + 3 * on_count blocks d + 3 * on_count copies d + marked d))
    each d = by_test (keeps old.parts.ckpt birth) refl
      where
        by_test : (b : Bool) → keeps old.parts.ckpt birth ≡ b → (device_words new d ≤ device_words old d + (on_count passed d + 3 * on_count blocks d + 3 * on_count copies d + marked d))
            × (device_base new d ≤ device_base old d + (on_count passed d + 3 * on_count blocks d + 3 * on_count copies d + marked d))
        by_test true is = kept_each is d
        by_test false is = freed_each is d

    by_kind : (was now : ℕ → ℕ) → ((d : ℕ) → now d ≤ was d + (on_count passed d + 3 * on_count blocks d + 3 * on_count copies d + marked d))
        → sum_by now (range_with_len 0 (length old.parts.devs)) ≤ sum_by was (range_with_len 0 (length old.parts.devs)) + length passed + 3 * length blocks + 3 * length copies + sum_by marked (range_with_len 0 (length old.parts.devs))
    by_kind was now grows =
        let i = length old.parts.devs in
        let g = sum_grows now was (λ d. on_count passed d + 3 * on_count blocks d + 3 * on_count copies d + marked d) (range_with_len 0 i) grows in
        let b = sum_of_kinds (on_count passed) (on_count blocks) (on_count copies) marked (range_with_len 0 i) in
        let x = sum_on passed i in
        let y = sum_on blocks i in
        let z = sum_on copies i in
        omega (arith, g, b, x, y, z)

    -- a word for each run of a removed device, three for each that is there and each copy, and one for each that is marked
    pub words_by_kind : (groups objects : ℕ) → (sizes new groups objects).words ≤ (sizes old groups objects).words + length passed + 3 * length blocks + 3 * length copies + sum_by marked (range_with_len 0 (length old.parts.devs))
    words_by_kind groups objects =
        let s = ap (λ (j : ℕ). sum_by (device_words new) (range_with_len 0 j)) f.frame.devices in
        let g = by_kind (device_words old) (device_words new) (λ d. (each d).0) in
        omega (arith, s, g)

    pub base_by_kind : base_words new ≤ base_words old + length passed + 3 * length blocks + 3 * length copies + sum_by marked (range_with_len 0 (length old.parts.devs))
    base_by_kind =
        let s = ap (λ (j : ℕ). sum_by (device_base new) (range_with_len 0 j)) f.frame.devices in
        let g = by_kind (device_base old) (device_base new) (λ d. (each d).1) in
        omega (arith, s, g)

    pub marked_few : sum_by marked (range_with_len 0 (length old.parts.devs)) ≤ length blocks
    marked_few =
        let g = sum_less marked (on_count blocks) (range_with_len 0 (length old.parts.devs)) each_marked in
        let y = sum_on blocks (length old.parts.devs) in
        omega (arith, g, y)
      where
        choose : (b : Bool) (n : ℕ) → (if b then n else 0) ≤ n
        choose true n = omega arith
        choose false n = omega arith

        each_marked : (d : ℕ) → marked d ≤ on_count blocks d
        each_marked d = choose (is_leaving (state_of_dev old.parts.devs d)) (on_count blocks d)

    pub none_marked : ((d : ℕ) → is_leaving (state_of_dev old.parts.devs d) ≡ false) → sum_by marked (range_with_len 0 (length old.parts.devs)) ≡ 0
    none_marked none =
        let s = sum_as marked (λ d. 0) (range_with_len 0 (length old.parts.devs)) (λ d. ap (λ (b : Bool). if b then on_count blocks d else 0) (none d)) in
        let z = sum_zero (range_with_len 0 (length old.parts.devs)) in
        omega (arith, s, z)

    pub free_words : (groups objects : ℕ) → (sizes new groups objects).words ≤ (sizes old groups objects).words + 4 * touch (devices_in old) a
    free_words groups objects =
        let w = words_by_kind groups objects in
        let p = pieces_most (devices_in old) (length old.parts.devs) a.dev a.start a.len in
        omega (arith, w, marked_few, p)
