-- Devices that are the same, but for the changes that take no memory.
use Rattle.std.proofs.Common.{◌≡◌, ℕ, suc, ◌+◌, ◌<◌, ◌^◌, ◌&&◌, true, nat_lt, List, [], ◌∷◌, ◌++◌, map, length, refl, ◌∙◌, sym, ap, subst, arith}
use Rattle.std.proofs.Math.ListN.{set}
use Rattle.std.proofs.lemmas.List.{length-set}
use Rattle.std.proofs.lemmas.List.Sums.{sum_by-cons}
use Rattle.zr_base.specs.declared.space.DevPart.{DevPart}
use Rattle.zr_base.specs.declared.space.DevRow.{DevRow}
use Rattle.zr_base.specs.declared.space.Extent.{Extent}
use Rattle.zr_base.specs.Extents.{has_unit}
use Rattle.zr_rules.specs.Places.{one_if, is_on, is_leaving}
use Rattle.zr_rules.specs.Space.{copy_hits}
use Rattle.zr_rules.specs.Resolve.{IsRanked}
use Rattle.zr_metaslab.specs.Devices.{Devices, free_at, count_at}
use Rattle.zr_indirect.specs.Mapped.{Mapped}
use Rattle.zr_space.specs.Views.{Kept, kept_of, part_in, opened_in, space_of, synced_in, meta_from, saved_from, addresses, units_there, IsMoved, IsSameMoves, IsTied, IsSpace, IsSameKept, AreTurned}
use Rattle.zr_space.proofs.Accounts.{same_account}
use Rattle.zr_space.proofs.Devs.{same_devices}
use Rattle.zr_space.proofs.Keeps.{on_each, still_condensing}
use Rattle.zr_space.proofs.Turning.{same_then}
use Rattle.zr_space.specs.declared.whole.Whole.{Whole}

-- each device is the same
abbrev pub AreSame : List Kept → List Kept → Type 0
AreSame = AreTurned (λ (k : Kept). k)

tail_turned : (turn : Kept → Kept) (x y : Kept) (xs ys : List Kept) → AreTurned turn (x ∷ xs) (y ∷ ys) → AreTurned turn xs ys
tail_turned turn x y xs ys t = record { count = let c = t.count in omega (arith, c); each = λ d. t.each (suc d) }

-- so are they where one is written as it was
pub same_set : (first devs : List Kept) (n : ℕ) (x : Kept) → n < length devs → IsSameKept (kept_of devs n) x → AreSame first devs → AreSame first (set devs n x)
same_set first devs n x there is t = record {
  count = length-set devs n x ∙ t.count;
  each = on_each devs n x (λ d k. IsSameKept (kept_of first d) k) there (same_then (kept_of first n) (kept_of devs n) x (t.each n) is) (λ d ne. t.each d);
}

-- what a list of devices shows is the same where what each shows is
pub turned_list : {A : Type 0} (turn : Kept → Kept) (show : ℕ → List Kept → A) (more : ℕ → Kept → A → A) → ((i : ℕ) (x : Kept) (xs : List Kept) → show i (x ∷ xs) ≡ more i x (show (i + 1) xs)) → ((i : ℕ) (x y : Kept) (a : A) → IsSameKept (turn x) y → more i y a ≡ more i x a)
    → (i : ℕ) (devs next : List Kept) → AreTurned turn devs next → show i next ≡ show i devs
turned_list turn show more is same i [] [] t = refl
turned_list turn show more is same i [] (y ∷ ys) t = let c = t.count in absurd (omega (arith, c))
turned_list turn show more is same i (x ∷ xs) [] t = let c = t.count in absurd (omega (arith, c))
turned_list turn show more is same i (x ∷ xs) (y ∷ ys) t =
    is i y ys ∙ (same i x y (show (i + 1) ys) (t.each 0) ∙ (ap (more i x) (turned_list turn show more is same (i + 1) xs ys (tail_turned turn x y xs ys t)) ∙ sym (is i x xs)))

-- so is the metadata where each device's is
pub turned_meta : (turn : Kept → Kept) → ((x : Kept) → (turn x).uses.meta ≡ x.uses.meta) → (devs next : List Kept) → AreTurned turn devs next → meta_from 0 next ≡ meta_from 0 devs
turned_meta turn keeps = turned_list turn meta_from (λ i x rest. addresses i x.uses.meta ++ rest) (λ i x xs. refl) (λ i x y rest same. ap (λ (es : List Extent). addresses i es ++ rest) (ap (λ (k : Kept). k.uses.meta) same ∙ keeps x)) 0

pub turned_saved : (turn : Kept → Kept) → ((x : Kept) → (turn x).uses.saved ≡ x.uses.saved) → (devs next : List Kept) → AreTurned turn devs next → saved_from 0 next ≡ saved_from 0 devs
turned_saved turn keeps = turned_list turn saved_from (λ i x rest. addresses i x.uses.saved ++ rest) (λ i x xs. refl) (λ i x y rest same. ap (λ (es : List Extent). addresses i es ++ rest) (ap (λ (k : Kept). k.uses.saved) same ∙ keeps x)) 0

pub same_parts : (devs next : List Kept) → AreSame devs next → map part_in next ≡ map part_in devs
same_parts = turned_list (λ k. k) (λ i devs. map part_in devs) (λ i x rest. part_in x ∷ rest) (λ i x xs. refl) (λ i x y rest same. ap (λ (k : Kept). part_in k ∷ rest) same) 0

same_opened : (devs next : List Kept) → AreSame devs next → map opened_in next ≡ map opened_in devs
same_opened = turned_list (λ k. k) (λ i devs. map opened_in devs) (λ i x rest. opened_in x ∷ rest) (λ i x xs. refl) (λ i x y rest same. ap (λ (k : Kept). opened_in k ∷ rest) same) 0

same_synced : (devs next : List Kept) → AreSame devs next → synced_in next ≡ synced_in devs
same_synced = turned_list (λ k. k) (λ i devs. synced_in devs) (λ i x n. x.moves.synced + n) (λ i x xs. sum_by-cons (λ (k : Kept). k.moves.synced) x xs) (λ i x y n same. ap (λ (k : Kept). k.moves.synced + n) same) 0

same_meta : (devs next : List Kept) → AreSame devs next → meta_from 0 next ≡ meta_from 0 devs
same_meta = turned_meta (λ k. k) (λ x. refl)

same_saved : (devs next : List Kept) → AreSame devs next → saved_from 0 next ≡ saved_from 0 devs
same_saved = turned_saved (λ k. k) (λ x. refl)

-- the space is the same
pub same_space_of : (whole : Whole) (devs next : List Kept) → AreSame devs next → space_of whole next ≡ space_of whole devs
same_space_of whole devs next t = rw (same_parts devs next t) rw (same_opened devs next t) rw (same_synced devs next t) rw (same_meta devs next t) rw (same_saved devs next t) refl

pub moved_same : (r : DevRow) (m n : Mapped) → IsSameMoves m n → IsMoved r m → IsMoved r n
moved_same r m n same h = rw same (record {
  state = h.state;
  service = λ on. ap (λ (x : Mapped). record x { spare = n.spare }) (h.service on);
  leaving = λ is. let l = h.leaving is in record { marks = record { frontier = l.marks.frontier; sources = l.marks.sources; came_is = l.marks.came_is }; counts = l.counts; rising = l.rising; uncopied = l.uncopied; order = l.order; bound = l.bound; fresh_maximal = l.fresh_maximal; came_maximal = l.came_maximal; left_maximal = l.left_maximal; went_none = l.went_none };
  gone = λ is. let g = h.gone is in record { counts = g.counts; turned = g.turned; rising = g.rising; fresh_maximal = g.fresh_maximal; came_maximal = g.came_maximal; went_maximal = g.went_maximal; left_none = g.left_none; synced_none = g.synced_none; opened_none = g.opened_none };
  fresh = h.fresh;
  came = h.came;
  went = h.went;
  sources = h.sources;
})

tied_same : (whole : Whole) (x y : Kept) → IsSameKept x y → IsTied whole x → IsTied whole y
tied_same whole x y same t = rw same (record { left = t.left; copied = t.copied; quiet = t.quiet; unkept = t.unkept; uncopied = t.uncopied })

-- a space of them stays one
pub same_all : (whole : Whole) (s : Devices) (devs next : List Kept) → AreSame devs next → IsSpace whole s devs → IsSpace whole s next
same_all whole s devs next t a = record {
  devices = let e = a.devices in let c = t.count in omega (arith, e, c);
  few = let f = a.few in let c = t.count in omega (arith, f, c);
  units = λ d. a.units d ∙ sym (ap (λ (k : Kept). k.uses.units) (t.each d));
  rows = λ d. ap (λ (k : Kept). k.uses.units) (t.each d) ∙ (a.rows d ∙ ap units_there (sym (row d)));
  small = λ d. subst (λ (r : DevRow). r.units < 2 ^ 40) (sym (row d)) (a.small d);
  moved = λ d. subst (λ (r : DevRow). IsMoved r (kept_of next d).moves) (sym (row d)) (moved_same (kept_of devs d).row (kept_of devs d).moves (kept_of next d).moves (ap (λ (k : Kept). k.moves) (t.each d)) (a.moved d));
  serves = λ d. a.serves d ∙ (ap (λ n. nat_lt d n && is_on (kept_of devs d).row.state) (sym t.count) ∙ ap (λ (r : DevRow). nat_lt d (length next) && is_on r.state) (sym (row d)));
  account = λ d. same_account (free_at s d) (count_at s d) (kept_of devs d).uses (kept_of next d).uses (ap (λ (k : Kept). k.uses) (t.each d)) (a.account d);
  copies = λ d u. ap (λ (ps : List DevPart). copy_hits ps d u) (same_parts devs next t) ∙ (a.copies d u ∙ ap (λ (k : Kept). one_if (has_unit k.uses.copies u)) (sym (t.each d)));
  single = λ i j one two. a.single i j (subst (λ (r : DevRow). is_leaving r.state ≡ true) (row i) one) (subst (λ (r : DevRow). is_leaving r.state ≡ true) (row j) two);
  ranked = subst IsRanked (sym (same_devices devs next t.count row (λ d. ap (λ (k : Kept). k.moves.entries) (t.each d)))) a.ranked;
  tied = λ d is. tied_same whole (kept_of devs d) (kept_of next d) (t.each d) (a.tied d (subst (λ (r : DevRow). is_leaving r.state ≡ true) (row d) is));
  condensing = λ c is. still_condensing c (kept_of devs c.dev) (kept_of next c.dev) (row c.dev) (ap (λ (k : Kept). k.moves.entries) (t.each c.dev)) (ap (λ (k : Kept). k.moves.counts) (t.each c.dev)) (a.condensing c is);
}
  where
    row : (d : ℕ) → (kept_of next d).row ≡ (kept_of devs d).row
    row d = ap (λ (k : Kept). k.row) (t.each d)
