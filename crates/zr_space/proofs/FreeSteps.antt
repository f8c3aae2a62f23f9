-- A free goes on from visit to visit.
use Rattle.std.proofs.Common.{◌≡◌, ℕ, zero, suc, ◌+◌, ◌≤◌, ◌<◌, Bool, true, false, ◌==◌, ◌&&◌, ◌||◌, nat_lt, List, [], ◌∷◌, length, refl, ◌∙◌, sym, ap, subst, ⊎_elim, arith, if◌then◌else◌}
use Rattle.std.specs.Prelude.{slice_index}
use Rattle.std.specs.List.{AllByRecursion, list_any}
use Rattle.std.proofs.lemmas.Bool.Decides.{nat_tests}
use Rattle.zr_base.specs.declared.space.DevPart.{DevPart}
use Rattle.zr_base.specs.declared.space.Entry.{Entry}
use Rattle.zr_base.specs.declared.space.DevState.{DevState}
use Rattle.zr_base.specs.declared.space.DevState.TheVariants.{On, Leaving, Gone}
use Rattle.zr_base.specs.Extents.{in_extent, has_unit}
use Rattle.zr_rules.specs.Places.{one_if, count_below, is_gone, is_leaving, is_fresh, part_of, state_of_dev}
use Rattle.zr_rules.specs.Devices.{Devices, state_at}
use Rattle.zr_rules.specs.Mappings.{entry_at}
use Rattle.zr_rules.specs.Roles.{Role, is_live_role}
use Rattle.zr_rules.specs.Roles.Role.{Absent, Free, FreshLive, Live, FreshCopy, Copy, Kept as KeptRole, DeferredBlock, DeferredMeta, Late1Block, Late1Meta, Late2Block, Late2Meta, Meta, SavedMeta}
use Rattle.zr_rules.specs.Space.{Space, role_at}
use Rattle.zr_rules.specs.Frees.{IsSameFrame}
use Rattle.zr_rules.specs.Equation.{devices_in, fresh_in}
use Rattle.zr_chain.specs.declared.visit.Visited.{Visited}
use Rattle.zr_chain.specs.declared.visit.Visited.TheVariants.{Hop, Piece}
use Rattle.zr_chain.specs.Visits.{hop_hits}
use Rattle.zr_chain.proofs.Ways.{cases_bool}
use Rattle.zr_space.specs.Freeing.{end_hits, hops_in, IsKnown, HasRoom, HaveRoom}
use Rattle.zr_space.specs.FreeVisits.{is_image_by, is_let_go, is_marked, any_let_go, any_marked, let_go, LetsGo, FreesVisit, FreesVisits, IsMapped, CanFree}
use Rattle.zr_space.proofs.Devs.{devices_as}
use Rattle.zr_space.proofs.Discards.{frame_itself}
use Rattle.zr_space.proofs.Freeing.{apart_less, fit_ends, fit_hops, all_fit}
use Rattle.zr_space.proofs.Giving.{frames_join}

false_true : false ≡ true → ⊥
false_true e = cc

-- the devices are the same
pub frame_devices : (old new : Space) → IsSameFrame old new → devices_in new ≡ devices_in old
frame_devices old new frame = devices_as (devices_in new) (devices_in old) frame.devices (λ d. (frame.each d).row) (λ d. (frame.each d).entries)

-- ---- one after the other

let_go_twice : (kept : Bool) (r : Role) → let_go kept (let_go kept r) ≡ let_go kept r
let_go_twice true FreshLive = refl
let_go_twice true Live = refl
let_go_twice true Absent = refl
let_go_twice true Free = refl
let_go_twice true FreshCopy = refl
let_go_twice true Copy = refl
let_go_twice true KeptRole = refl
let_go_twice true DeferredBlock = refl
let_go_twice true DeferredMeta = refl
let_go_twice true Late1Block = refl
let_go_twice true Late1Meta = refl
let_go_twice true Late2Block = refl
let_go_twice true Late2Meta = refl
let_go_twice true Meta = refl
let_go_twice true SavedMeta = refl
let_go_twice false FreshLive = refl
let_go_twice false Live = refl
let_go_twice false Absent = refl
let_go_twice false Free = refl
let_go_twice false FreshCopy = refl
let_go_twice false Copy = refl
let_go_twice false KeptRole = refl
let_go_twice false DeferredBlock = refl
let_go_twice false DeferredMeta = refl
let_go_twice false Late1Block = refl
let_go_twice false Late1Meta = refl
let_go_twice false Late2Block = refl
let_go_twice false Late2Meta = refl
let_go_twice false Meta = refl
let_go_twice false SavedMeta = refl

either_goes : (kept x y : Bool) (r : Role) → (if y then let_go kept (if x then let_go kept r else r) else (if x then let_go kept r else r)) ≡ (if x || y then let_go kept r else r)
either_goes kept true true r = let_go_twice kept r
either_goes kept true false r = refl
either_goes kept false true r = refl
either_goes kept false false r = refl

either_marked : (was x y : Bool) → ((was || x) || y) ≡ (was || (x || y))
either_marked true x y = refl
either_marked false x y = refl

pub frees_none : (kept : Bool) (s : Space) → FreesVisits kept s s []
frees_none kept s = record { roles = λ d u. refl; fresh = λ d u. none (is_fresh s.parts.devs d u); meta = refl; frame = frame_itself s }
  where
    none : (b : Bool) → b ≡ (b || false)
    none true = refl
    none false = refl

-- one visit and then the others
pub frees_more : (kept : Bool) (s m t : Space) (v : Visited) (vs : List Visited) → FreesVisit kept s m v → FreesVisits kept m t vs → FreesVisits kept s t (v ∷ vs)
frees_more kept s m t v vs one rest =
    let same = frame_devices s m one.frame in
    let more : LetsGo kept m t (any_let_go (devices_in s) vs) (any_marked (devices_in s) vs) = subst (λ (ds : Devices). LetsGo kept m t (any_let_go ds vs) (any_marked ds vs)) same rest in
    record {
      roles = λ d u.
          more.roles d u
          ∙ (ap (λ (r : Role). if any_let_go (devices_in s) vs d u then let_go kept r else r) (one.roles d u)
          ∙ either_goes kept (is_let_go (devices_in s) v d u) (any_let_go (devices_in s) vs d u) (role_at s d u));
      fresh = λ d u.
          more.fresh d u
          ∙ (ap (λ (b : Bool). b || any_marked (devices_in s) vs d u) (one.fresh d u)
          ∙ either_marked (is_fresh s.parts.devs d u) (is_marked (devices_in s) v d u) (any_marked (devices_in s) vs d u));
      meta = more.meta ∙ one.meta;
      frame = frames_join s m t one.frame more.frame;
    }

-- ---- what may be freed before a visit may be freed after it

fewer_hops : (v : Visited) (vs : List Visited) (d u : ℕ) → hop_hits vs d u ≤ hop_hits (v ∷ vs) d u
fewer_hops (Hop dev e) vs d u = omega arith
fewer_hops (Piece split dev e) vs d u = omega arith

one_more : (v : Visited) (vs : List Visited) (d u : ℕ) → hop_hits (v ∷ []) d u ≤ hop_hits (v ∷ vs) d u
one_more (Hop dev e) vs d u = omega arith
one_more (Piece split dev e) vs d u = omega arith

one_end : (v : Visited) (vs : List Visited) (d u : ℕ) → end_hits (v ∷ []) d u ≤ end_hits (v ∷ vs) d u
one_end (Hop dev e) vs d u = omega arith
one_end (Piece split dev e) vs d u = omega arith

-- fewer of the units make up no more
count_fewer : (n : ℕ) (f g : ℕ → ℕ) → ((k : ℕ) → f k ≤ g k) → count_below n (λ k. nat_lt 0 (f k)) ≤ count_below n (λ k. nat_lt 0 (g k))
count_fewer zero f g le = omega arith
count_fewer (suc n) f g le = let rest = count_fewer n f g le in let own : one_if (nat_lt 0 (f n)) ≤ one_if (nat_lt 0 (g n)) = let l = le n in grind (arith, nat_tests, l) in omega (arith, rest, own)

-- the first visit alone may be freed
pub can_first : (s : Space) (v : Visited) (vs : List Visited) → CanFree s (v ∷ vs) → CanFree s (v ∷ [])
can_first s v vs c = record {
  apart = λ d u. let all = c.apart d u in let one = one_end v vs d u in omega (arith, all, one);
  once = λ d u. let all = c.once d u in let one = one_more v vs d u in omega (arith, all, one);
  known = (c.known.0, tt);
  mapped = (c.mapped.0, tt);
  fit = (c.fit.0, tt);
  room = λ d i gone lt.
      let room = c.room d i gone lt in
      let entry : Entry = entry_at (part_of s.parts.devs d).entries i in
      let few = count_fewer entry.len (λ k. hop_hits (v ∷ []) d (entry.src + k)) (λ k. hop_hits (v ∷ vs) d (entry.src + k)) (λ k. one_more v vs d (entry.src + k)) in
      omega (arith, room, few);
}

-- a hop that has a unit is on a device that is gone
known_gone : (ds : Devices) (vs : List Visited) (d u : ℕ) → AllByRecursion (IsKnown ds) vs → 0 < hop_hits vs d u → is_gone (state_at ds d) ≡ true
known_gone ds [] d u known some = absurd (omega (arith, some))
known_gone ds (Piece split dev e ∷ vs) d u known some = known_gone ds vs d u known.1 some
known_gone ds (Hop dev e ∷ vs) d u known some = ⊎_elim
    (λ here. let same : dev ≡ d = grind (arith, nat_tests, here) in ap (λ (i : ℕ). is_gone (state_at ds i)) (sym same) ∙ known.0.1)
    (λ not. known_gone ds vs d u known.1 (later ((dev == d) && in_extent e u) (hop_hits vs d u) some not))
    (cases_bool ((dev == d) && in_extent e u))
  where
    later : (b : Bool) (n : ℕ) → 0 < one_if b + n → b ≡ false → 0 < n
    later b n some not = grind (arith, nat_tests, some, not)

gone_stays : (st : DevState) → is_gone st ≡ true → is_leaving st ≡ false
gone_stays On is = refl
gone_stays Leaving is = absurd (false_true is)
gone_stays Gone is = refl

-- what a visit marks on a device that is gone is what its hop has
marked_gone : (ds : Devices) (v : Visited) (d u : ℕ) → is_gone (state_at ds d) ≡ true → one_if (is_marked ds v d u) ≡ hop_hits (v ∷ []) d u
marked_gone ds (Hop dev e) d u gone = omega arith
marked_gone ds (Piece split dev e) d u gone = ⊎_elim
    (λ yes.
    let same : dev ≡ d = grind (arith, nat_tests, yes) in
    let stays : is_leaving (state_at ds dev) ≡ false = gone_stays (state_at ds dev) (ap (λ (i : ℕ). is_gone (state_at ds i)) same ∙ gone) in
    absurd (false_true (sym (rw stays refl) ∙ yes)))
    (λ no. ap one_if no)
    (cases_bool (is_marked ds (Piece split dev e) d u))

hops_apart : (v : Visited) (vs : List Visited) (d u : ℕ) → hop_hits (v ∷ vs) d u ≡ hop_hits (v ∷ []) d u + hop_hits vs d u
hops_apart (Hop dev e) vs d u = omega arith
hops_apart (Piece split dev e) vs d u = omega arith

ends_apart : (v : Visited) (vs : List Visited) (d u : ℕ) → end_hits (v ∷ vs) d u ≡ end_hits (v ∷ []) d u + end_hits vs d u
ends_apart (Hop dev e) vs d u = omega arith
ends_apart (Piece split dev e) vs d u = omega arith

bit_zero : (b : Bool) → one_if b ≡ 0 → b ≡ false
bit_zero true e = absurd (omega (arith, e))
bit_zero false e = refl

-- the marks and the hops that are left are together no more than before
count_moves : (n : ℕ) (f g : ℕ → Bool) (h k : ℕ → ℕ) → ((i : ℕ) → one_if (f i) + one_if (nat_lt 0 (h i)) ≤ one_if (g i) + one_if (nat_lt 0 (k i)))
    → count_below n f + count_below n (λ i. nat_lt 0 (h i)) ≤ count_below n g + count_below n (λ i. nat_lt 0 (k i))
count_moves zero f g h k le = omega arith
count_moves (suc n) f g h k le = let rest = count_moves n f g h k le in let own = le n in omega (arith, rest, own)

moves_on : (was marked new : Bool) (one rest all : ℕ) → new ≡ (was || marked) → one_if marked ≡ one → all ≡ one + rest → all ≤ 1 → one_if new + one_if (nat_lt 0 rest) ≤ one_if was + one_if (nat_lt 0 all)
moves_on was marked new one rest all is bit sum few = grind (arith, nat_tests, is, bit, sum, few)

-- no copy is of a block
abbrev pub NoCopies : Space → Visited → Type 0
NoCopies s (Hop dev e) = Unit {0}
NoCopies s (Piece split dev e) = (d u : ℕ) → is_live_role (role_at s d u) ≡ true → (is_leaving (state_at (devices_in s) dev) && list_any (is_image_by e d u) ((devices_in s).entries dev)) ≡ false

module _ (kept : Bool) (s t : Space) (v : Visited) (vs : List Visited) (c : CanFree s (v ∷ vs)) (f : FreesVisit kept s t v) (n : NoCopies s v) where
  same : devices_in t ≡ devices_in s
  same = frame_devices s t f.frame

  -- a unit of a later part is not let go of
  not_yet : (d u : ℕ) → 0 < end_hits vs d u → is_let_go (devices_in s) v d u ≡ false
  not_yet d u some = by v (ends_apart v vs d u) (c.apart d u) n
    where
      live : is_live_role (role_at s d u) ≡ true
      live = fit_ends s vs c.fit.1 d u some

      by : (w : Visited) → end_hits (w ∷ vs) d u ≡ end_hits (w ∷ []) d u + end_hits vs d u → end_hits (w ∷ vs) d u ≤ 1 → NoCopies s w → is_let_go (devices_in s) w d u ≡ false
      by (Hop dev e) sum few apart = refl
      by (Piece split dev e) sum few apart =
          let bit : one_if ((dev == d) && in_extent e u) ≡ 0 = omega (arith, sum, few, some) in
          let one = bit_zero ((dev == d) && in_extent e u) bit in
          let two = apart d u live in
          rw one two

  end_live : (d u : ℕ) → 0 < end_hits vs d u → is_live_role (role_at t d u) ≡ true
  end_live d u some =
      let not = not_yet d u some in
      ap is_live_role (f.roles d u ∙ rw not refl) ∙ fit_ends s vs c.fit.1 d u some

  hop_fresh : (d u : ℕ) → 0 < hop_hits vs d u → is_fresh t.parts.devs d u ≡ false
  hop_fresh d u some =
      let gone = known_gone (devices_in s) vs d u c.known.1 some in
      let bit = marked_gone (devices_in s) v d u gone in
      let sum = hops_apart v vs d u in
      let few = c.once d u in
      let not = bit_zero (is_marked (devices_in s) v d u) (omega (arith, bit, sum, few, some)) in
      let was = fit_hops s vs c.fit.1 d u some in
      f.fresh d u ∙ rw was rw not refl

  room : HaveRoom t vs
  room d i gone lt =
      let p : DevPart = part_of s.parts.devs d in
      let q : DevPart = part_of t.parts.devs d in
      let es = (f.frame.each d).entries in
      let cs = (f.frame.each d).counts in
      let row = (f.frame.each d).row in
      let before : is_gone (state_of_dev s.parts.devs d) ≡ true = subst (λ r. is_gone r.state ≡ true) row gone in
      let entry : Entry = entry_at p.entries i in
      let had : HasRoom s (v ∷ vs) d i = c.room d i before (subst (λ (xs : List Entry). i < length xs) es lt) in
      let moved = count_moves entry.len (λ k. has_unit q.fresh (entry.src + k)) (λ k. has_unit p.fresh (entry.src + k)) (λ k. hop_hits vs d (entry.src + k)) (λ k. hop_hits (v ∷ vs) d (entry.src + k))
      (λ k. moves_on (is_fresh s.parts.devs d (entry.src + k)) (is_marked (devices_in s) v d (entry.src + k)) (is_fresh t.parts.devs d (entry.src + k)) (hop_hits (v ∷ []) d (entry.src + k)) (hop_hits vs d (entry.src + k)) (hop_hits (v ∷ vs) d (entry.src + k))
      (f.fresh d (entry.src + k)) (marked_gone (devices_in s) v d (entry.src + k) before) (hops_apart v vs d (entry.src + k)) (c.once d (entry.src + k))) in
      let now : slice_index p.counts i + fresh_in q entry + hops_in vs d entry ≤ entry.len = omega (arith, had, moved) in
      rw es rw cs now

  pub can_rest : CanFree t vs
  can_rest = record {
    apart = apart_less v vs c.apart;
    once = λ d u. let all = c.once d u in let less = fewer_hops v vs d u in omega (arith, all, less);
    known = subst (λ (ds : Devices). AllByRecursion (IsKnown ds) vs) (sym same) c.known.1;
    mapped = subst (λ (ds : Devices). AllByRecursion (IsMapped ds) vs) (sym same) c.mapped.1;
    fit = all_fit t vs end_live hop_fresh;
    room = room;
  }
