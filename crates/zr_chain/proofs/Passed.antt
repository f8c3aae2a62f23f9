-- The hops have each unit of a removed device as often as the units of what is left pass it.
use Rattle.std.proofs.Common.{◌≡◌, ℕ, zero, suc, ◌+◌, ◌-◌, ◌<◌, ◌≤◌, Bool, true, false, ◌&&◌, nat_le, nat_lt, List, [], ◌∷◌, ◌++◌, map, sum_by, refl, sym, ap, ap₂, subst, ◌∙◌, arith, ⊎_elim, Option, Some, None}
use Rattle.std.specs.Prelude.{◌==◌}
use Rattle.std.specs.List.{AllByRecursion, range_with_len}
use Rattle.std.proofs.lemmas.Bool.{cases_lt}
use Rattle.std.proofs.lemmas.Bool.Decides.{nat_tests}
use Rattle.std.proofs.lemmas.List.Sums.{sum_by-cons, sum_by-append}
use Rattle.zr_base.specs.declared.space.Extent.{Extent}
use Rattle.zr_base.specs.Extents.{in_extent}
use Rattle.zr_rules.specs.Places.{Place, one_if, is_gone, is_place}
use Rattle.zr_rules.specs.Devices.{Devices, state_at}
use Rattle.zr_rules.specs.Mappings.{target}
use Rattle.zr_rules.specs.Resolve.{IsRanked, passed_units}
use Rattle.zr_imap.specs.declared.image.Piece.{Piece as Part}
use Rattle.zr_imap.specs.Searches.{IsImage, FollowFrom, piece_target}
use Rattle.zr_chain.specs.Visits.{AreVisits, hop_hits, parts_behind}
use Rattle.zr_chain.specs.declared.visit.Visited.{Visited}
use Rattle.zr_chain.specs.declared.visit.Visited.TheVariants.{Hop, Piece}
use Rattle.zr_chain.proofs.Ways.{passed_gone, passed_there}
use Rattle.zr_chain.proofs.Parts.{IsShare, IsPartOf, behind, parts_are, part_of_share, target_first, target_later}
use Rattle.zr_chain.proofs.Places.{each_append}

-- ---- sums over the first numbers

abbrev pub up_to : (ℕ → ℕ) → ℕ → ℕ
up_to g zero = 0
up_to g (suc n) = g 0 + up_to (λ k. g (suc k)) n

up_to-same : (n : ℕ) (g h : ℕ → ℕ) → ((k : ℕ) → k < n → g k ≡ h k) → up_to g n ≡ up_to h n
up_to-same zero g h same = refl
up_to-same (suc n) g h same = omega (arith, same 0 (omega arith), up_to-same n (λ k. g (suc k)) (λ k. h (suc k)) (λ k lt. same (suc k) (omega arith)))

up_to-add : (n : ℕ) (g h : ℕ → ℕ) → up_to (λ k. g k + h k) n ≡ up_to g n + up_to h n
up_to-add zero g h = refl
up_to-add (suc n) g h = omega (arith, up_to-add n (λ k. g (suc k)) (λ k. h (suc k)))

up_to-zero : (n : ℕ) → up_to (λ k. 0) n ≡ 0
up_to-zero zero = refl
up_to-zero (suc n) = omega (arith, up_to-zero n)

up_to-split : (a b : ℕ) (g : ℕ → ℕ) → up_to g (a + b) ≡ up_to g a + up_to (λ k. g (a + k)) b
up_to-split zero b g =
    let n : 0 + b ≡ b = omega arith in
    let same = up_to-same b g (λ k. g (0 + k)) (λ k lt. ap g (omega arith)) in
    ap (λ (m : ℕ). up_to g m) n ∙ omega (arith, same)
up_to-split (suc a) b g =
    let n : suc a + b ≡ suc (a + b) = omega arith in
    let rest = up_to-split a b (λ k. g (suc k)) in
    let same = up_to-same b (λ k. g (suc (a + k))) (λ k. g (suc a + k)) (λ k lt. ap g (omega arith)) in
    ap (λ (m : ℕ). up_to g m) n ∙ omega (arith, rest, same)

-- ---- sums over places

-- what some units have together
abbrev pub over : (Place → ℕ) → ℕ → ℕ → ℕ → ℕ
over f d start n = sum_by f (map (λ u. (d, u)) (range_with_len start n))

over-up_to : (f : Place → ℕ) (d start n : ℕ) → over f d start n ≡ up_to (λ k. f (d, start + k)) n
over-up_to f d start zero = refl
over-up_to f d start (suc n) =
    let rest = over-up_to f d (start + 1) n in
    let same = up_to-same n (λ k. f (d, start + 1 + k)) (λ k. f (d, start + suc k)) (λ k lt. ap (λ (u : ℕ). f (d, u)) (omega arith)) in
    let first = ap (λ (u : ℕ). f (d, u)) (add_zero start) in
    sum_by-cons f (d, start) (map (λ u. (d, u)) (range_with_len (start + 1) n)) ∙ omega (arith, rest, same, first)
  where
    add_zero : (n : ℕ) → n + 0 ≡ n
    add_zero n = omega arith

-- what the place has, where there is one
abbrev pub at_place : (Place → ℕ) → Option Place → ℕ
at_place f None = 0
at_place f (Some p) = f p

-- the units of pieces that follow each other
pieces-over : (f : Place → ℕ) (from n : ℕ) (ps : List Part) → FollowFrom from (from + n) ps → up_to (λ k. at_place f (piece_target ps (from + k))) n ≡ sum_by (λ (q : Part). over f q.dev q.at.start q.at.len) ps
pieces-over f from n [] follow = let none : n ≡ 0 = omega (arith, follow) in ap (λ (m : ℕ). up_to (λ k. 0) m) none
pieces-over f from n (q ∷ qs) follow =
    let end_le : q.split + q.at.len ≤ from + n = follow_le (q.split + q.at.len) (from + n) qs follow.2 in
    let rest : ℕ = n - q.at.len in
    let whole : n ≡ q.at.len + rest = omega (arith, follow.0) in
    let end_is : from + n ≡ q.split + q.at.len + rest = omega (arith, follow.0) in
    let own : up_to (λ k. at_place f (piece_target (q ∷ qs) (from + k))) q.at.len ≡ over f q.dev q.at.start q.at.len =
    up_to-same q.at.len (λ k. at_place f (piece_target (q ∷ qs) (from + k))) (λ k. f (q.dev, q.at.start + k))
    (λ k lt.
    let place : from + k - q.split ≡ k = omega (arith, follow.0) in
    ap (λ (o : Option Place). at_place f o) (target_first q qs (from + k) (omega (arith, follow.0))) ∙ ap (λ (m : ℕ). f (q.dev, q.at.start + m)) place)
    ∙ sym (over-up_to f q.dev q.at.start q.at.len) in
    let others : up_to (λ k. at_place f (piece_target (q ∷ qs) (from + (q.at.len + k)))) rest ≡ sum_by (λ (r : Part). over f r.dev r.at.start r.at.len) qs =
    up_to-same rest (λ k. at_place f (piece_target (q ∷ qs) (from + (q.at.len + k)))) (λ k. at_place f (piece_target qs (q.split + q.at.len + k)))
    (λ k lt.
    let place : from + (q.at.len + k) ≡ q.split + q.at.len + k = omega (arith, follow.0) in
    ap (λ (m : ℕ). at_place f (piece_target (q ∷ qs) m)) place ∙ ap (λ (o : Option Place). at_place f o) (target_later q qs (q.split + q.at.len + k) (omega arith)))
    ∙ pieces-over f (q.split + q.at.len) rest qs (subst (λ (m : ℕ). FollowFrom (q.split + q.at.len) m qs) end_is follow.2) in
    let cut = up_to-split q.at.len rest (λ k. at_place f (piece_target (q ∷ qs) (from + k))) in
    let cons = sum_by-cons (λ (r : Part). over f r.dev r.at.start r.at.len) q qs in
    ap (λ (m : ℕ). up_to (λ k. at_place f (piece_target (q ∷ qs) (from + k))) m) whole ∙ omega (arith, cut, own, others, cons)
  where
    follow_le : (from end : ℕ) (ps : List Part) → FollowFrom from end ps → from ≤ end
    follow_le from end [] follow = omega (arith, follow)
    follow_le from end (q ∷ ps) follow = omega (arith, follow_le (q.split + q.at.len) end ps follow.2)

-- ---- hops

-- how often a unit passes a place
abbrev pub way : Devices → ℕ → ℕ → Place → ℕ
way ds d u p = sum_by (λ (q : Place). one_if (is_place q d u)) (passed_units ds p.0 p.1)

abbrev pub part_hits : Devices → ℕ → ℕ → Part → ℕ
part_hits ds d u p = over (way ds d u) p.dev p.at.start p.at.len

way_gone : (ds : Devices) (d u dev x : ℕ) (p : Place) → IsRanked ds → dev < ds.count → is_gone (state_at ds dev) ≡ true → target (ds.entries dev) x ≡ Some p → way ds d u (dev, x) ≡ one_if (is_place (dev, x) d u) + way ds d u p
way_gone ds d u dev x p ranked known gone is =
    ap (λ (t : List Place). sum_by (λ (q : Place). one_if (is_place q d u)) t) (passed_gone ds dev x p ranked known gone is) ∙ sum_by-cons (λ (q : Place). one_if (is_place q d u)) (dev, x) (passed_units ds p.0 p.1)

way_there : (ds : Devices) (d u dev x : ℕ) → is_gone (state_at ds dev) ≡ false → way ds d u (dev, x) ≡ 0
way_there ds d u dev x there = ap (λ (t : List Place). sum_by (λ (q : Place). one_if (is_place q d u)) t) (passed_there ds dev x there)

hits_there : (ds : Devices) (d u : ℕ) (p : Part) → is_gone (state_at ds p.dev) ≡ false → part_hits ds d u p ≡ 0
hits_there ds d u p there =
    over-up_to (way ds d u) p.dev p.at.start p.at.len
    ∙ (up_to-same p.at.len (λ k. way ds d u (p.dev, p.at.start + k)) (λ k. 0) (λ k lt. way_there ds d u p.dev (p.at.start + k) there) ∙ up_to-zero p.at.len)

-- a place of the extent is met once
once : (dev d u start n : ℕ) → up_to (λ k. one_if (is_place (dev, start + k) d u)) n ≡ one_if ((dev == d) && in_extent (record { start = start; len = n }) u)
once dev d u start zero = grind (arith, nat_tests)
once dev d u start (suc n) =
    let same = up_to-same n (λ k. one_if (is_place (dev, start + suc k) d u)) (λ k. one_if (is_place (dev, start + 1 + k) d u)) (λ k lt. ap (λ (x : ℕ). one_if (is_place (dev, x) d u)) (omega arith)) in
    let rest = once dev d u (start + 1) n in
    let more = one_more (dev == d) start n u in
    omega (arith, same, rest, more)
  where
    one_more : (b : Bool) (start n u : ℕ) → one_if (b && (start + 0 == u)) + one_if (b && (nat_le (start + 1) u && nat_lt u (start + 1 + n))) ≡ one_if (b && (nat_le start u && nat_lt u (start + suc n)))
    one_more false start n u = omega arith
    one_more true start n u = grind (arith, nat_tests)

-- a part of a removed device passes its own units, and what its parts pass
hits_gone : (ds : Devices) (d u : ℕ) (p : Part) (qs : List Part) → IsRanked ds → p.dev < ds.count → is_gone (state_at ds p.dev) ≡ true → IsImage (ds.entries p.dev) p.at qs →
    AllByRecursion (IsShare (λ j. target (ds.entries p.dev) (p.at.start + j)) p.at.len) qs → part_hits ds d u p ≡ one_if ((p.dev == d) && in_extent p.at u) + sum_by (part_hits ds d u) qs
hits_gone ds d u p qs ranked known gone image all =
    let n = p.at.len in
    let each = up_to-same n (λ k. way ds d u (p.dev, p.at.start + k)) (λ k. one_if (is_place (p.dev, p.at.start + k) d u) + at_place (way ds d u) (piece_target qs (0 + k)))
    (λ k lt. step k lt (piece_target qs k) refl) in
    let own = once p.dev d u p.at.start n in
    let parts = pieces-over (way ds d u) 0 n qs (subst (λ (m : ℕ). FollowFrom 0 m qs) (zero_plus n) image.follow) in
    let sum = up_to-add n (λ k. one_if (is_place (p.dev, p.at.start + k) d u)) (λ k. at_place (way ds d u) (piece_target qs (0 + k))) in
    over-up_to (way ds d u) p.dev p.at.start n ∙ omega (arith, each, own, parts, sum)
  where
    zero_plus : (m : ℕ) → m ≡ 0 + m
    zero_plus m = omega arith

    has_target : (k : ℕ) (qs : List Part) (from end : ℕ) → FollowFrom from end qs → from ≤ k → k < end → (x : Place) × (piece_target qs k ≡ Some x)
    has_target k [] from end follow ge lt = absurd (omega (arith, follow))
    has_target k (q ∷ qs) from end follow ge lt = ⊎_elim
        (λ in_it. ((q.dev, q.at.start + (k - q.split)), target_first q qs k in_it))
        (λ past. let rest = has_target k qs (q.split + q.at.len) end follow.2 past lt in (rest.0, target_later q qs k past ∙ rest.1))
        (cases_lt k (q.split + q.at.len))

    step : (k : ℕ) → k < p.at.len → (o : Option Place) → piece_target qs k ≡ o → way ds d u (p.dev, p.at.start + k) ≡ one_if (is_place (p.dev, p.at.start + k) d u) + at_place (way ds d u) (piece_target qs (0 + k))
    step k lt o is =
        let x = has_target k qs 0 p.at.len image.follow (omega arith) lt in
        let there : target (ds.entries p.dev) (p.at.start + k) ≡ Some x.0 = sym (image.targets k lt) ∙ x.1 in
        let at : piece_target qs (0 + k) ≡ Some x.0 = ap (λ (m : ℕ). piece_target qs m) (sym (zero_plus k)) ∙ x.1 in
        way_gone ds d u p.dev (p.at.start + k) x.0 ranked known gone there ∙ ap (λ (o : Option Place). one_if (is_place (p.dev, p.at.start + k) d u) + at_place (way ds d u) o) (sym at)

hits_behind : (ds : Devices) (d u s : ℕ) (qs : List Part) → sum_by (part_hits ds d u) (parts_behind s qs) ≡ sum_by (part_hits ds d u) qs
hits_behind ds d u s [] = refl
hits_behind ds d u s (q ∷ qs) = sum_by-cons (part_hits ds d u) (behind s q) (parts_behind s qs) ∙ (ap (λ (n : ℕ). part_hits ds d u q + n) (hits_behind ds d u s qs) ∙ sym (sum_by-cons (part_hits ds d u) q qs))

pub known_behind : (ds : Devices) (p : Part) (qs : List Part) → IsRanked ds → is_gone (state_at ds p.dev) ≡ true → AllByRecursion (IsShare (λ j. target (ds.entries p.dev) (p.at.start + j)) p.at.len) qs → AllByRecursion (λ (q : Part). q.dev < ds.count) (parts_behind p.split qs)
known_behind ds p [] ranked gone h = tt
known_behind ds p (q ∷ qs) ranked gone h = let part : IsPartOf ds p q = part_of_share ds p q ranked gone h.0 in (part.known, known_behind ds p qs ranked gone h.1)

-- the hops of the visits of what is left
pub hops_are : (ds : Devices) (d u : ℕ) (vs : List Visited) (left : List Part) → IsRanked ds → AreVisits ds left vs → AllByRecursion (λ (q : Part). q.dev < ds.count) left → hop_hits vs d u ≡ sum_by (part_hits ds d u) left
hops_are ds d u [] [] ranked h known = refl
hops_are ds d u [] (p ∷ left) ranked h known = absurd (cc)
hops_are ds d u (v ∷ vs) [] ranked h known = absurd h
hops_are ds d u (Piece split dev e ∷ vs) (p ∷ left) ranked h known =
    omega (arith, hops_are ds d u vs left ranked h.2 known.1, sum_by-cons (part_hits ds d u) p left, hits_there ds d u p h.0)
hops_are ds d u (Hop dev e ∷ vs) (p ∷ left) ranked h known =
    let shares = parts_are ds p h.3 ranked h.0 h.4 in
    let all = each_append (λ (q : Part). q.dev < ds.count) (parts_behind p.split h.3) left (known_behind ds p h.3 ranked h.0 shares) known.1 in
    let below = hops_are ds d u vs (parts_behind p.split h.3 ++ left) ranked h.5 all in
    let both = sum_by-append (part_hits ds d u) (parts_behind p.split h.3) left in
    let same = hits_behind ds d u p.split h.3 in
    let own = hits_gone ds d u p h.3 ranked known.0 h.0 h.4 shares in
    let cons = sum_by-cons (part_hits ds d u) p left in
    let hop : one_if ((dev == d) && in_extent e u) ≡ one_if ((p.dev == d) && in_extent p.at u) = ap₂ (λ (x : ℕ) (f : Extent). one_if ((x == d) && in_extent f u)) h.1 h.2 in
    omega (arith, below, both, same, own, cons, hop)
