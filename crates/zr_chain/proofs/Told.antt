-- What the visits of an address say of its units.
use Rattle.std.proofs.Common.{sum_by, ◌≡◌, ℕ, ◌+◌, ◌-◌, ◌<◌, false, List, [], ◌∷◌, refl, sym, ap, subst, ◌∙◌, arith, Option}
use Rattle.std.specs.Prelude.{◌==◌}
use Rattle.std.proofs.lemmas.Bool.Decides.{nat_tests}
use Rattle.zr_base.specs.declared.space.Dva.{Dva}
use Rattle.zr_rules.specs.Places.{Place}
use Rattle.zr_rules.specs.Devices.{Devices}
use Rattle.zr_rules.specs.Resolve.{IsRanked, resolved, pass_hits}
use Rattle.zr_imap.specs.declared.image.Piece.{Piece as Part}
use Rattle.zr_imap.specs.Searches.{FollowFrom, piece_target}
use Rattle.zr_chain.specs.declared.visit.Visited.{Visited}
use Rattle.zr_chain.specs.Visits.{touches, AreVisits, Follows, Visits, IsWithin, as_part, whole, pieces_of, hop_hits}
use Rattle.zr_chain.proofs.Parts.{target_first}
use Rattle.zr_chain.proofs.Places.{led, pieces_follow, pieces_led}
use Rattle.zr_chain.proofs.Passed.{part_hits, hops_are}
use Rattle.zr_rules.specs.Steps.{touch}
use Rattle.zr_chain.proofs.Touched.{part_touch, touched_all}
use Rattle.zr_chain.proofs.Gaps.{no_gaps}

not_zero : (n : ℕ) → 0 < n → (n == 0) ≡ false
not_zero n lt = grind (arith, nat_tests)

whole_is : (a : Dva) → 0 < a.len → whole a ≡ as_part a ∷ []
whole_is a some = rw (not_zero a.len some) refl

follows_itself : (a : Dva) → 0 < a.len → FollowFrom 0 a.len (as_part a ∷ [])
follows_itself a some = (refl, some, omega arith)

target_is : (ds : Devices) (a : Dva) (vs : List Visited) (k : ℕ) → IsRanked ds → a.dev < ds.count → AreVisits ds (as_part a ∷ []) vs → k < a.len → IsWithin ds a.dev (a.start + k) → piece_target (pieces_of vs) k ≡ resolved ds a.dev (a.start + k)
target_is ds a vs k ranked known order lt within =
    let some : 0 < a.len = omega arith in
    let back : k - 0 ≡ k = omega arith in
    pieces_led ds k vs (as_part a ∷ []) 0 a.len ranked order (follows_itself a some) (record { known = known; within = λ _ _. subst (λ (n : ℕ). IsWithin ds a.dev (a.start + n)) (sym back) within }, tt) (omega arith) lt
    ∙ (ap (λ (o : Option Place). led ds o) (target_first (as_part a) [] k (omega arith)) ∙ ap (λ (n : ℕ). resolved ds a.dev (a.start + n)) back)

passed_is : (ds : Devices) (a : Dva) (vs : List Visited) (d u : ℕ) → IsRanked ds → a.dev < ds.count → AreVisits ds (as_part a ∷ []) vs → hop_hits vs d u ≡ pass_hits ds a d u
passed_is ds a vs d u ranked known order =
    let same : part_hits ds d u (as_part a) ≡ pass_hits ds a d u = refl in
    let hops = hops_are ds d u vs (as_part a ∷ []) ranked order (known, tt) in
    omega (arith, hops, same)

touched_is : (ds : Devices) (a : Dva) (vs : List Visited) → IsRanked ds → a.dev < ds.count → 0 < a.len → AreVisits ds (as_part a ∷ []) vs → sum_by (touches ds) vs ≡ touch ds a
touched_is ds a vs ranked known some order =
    let same : part_touch ds (as_part a) ≡ touch ds a = refl in
    let all = touched_all ds vs (as_part a ∷ []) 0 a.len ranked order (follows_itself a some) (known, tt) in
    omega (arith, all, same)

pub visits_are : (ds : Devices) (a : Dva) (old new : List Visited) → IsRanked ds → a.dev < ds.count → 0 < a.len → Follows ds (as_part a ∷ []) old new → Visits ds a old new
visits_are ds a old new ranked known some h = record {
  visits = h.visits;
  appended = h.appended;
  order = subst (λ (left : List Part). AreVisits ds left h.visits) (sym (whole_is a some)) h.order;
  follow = pieces_follow ds h.visits (as_part a ∷ []) 0 a.len h.order (follows_itself a some);
  targets = λ k lt within. target_is ds a h.visits k ranked known h.order lt within;
  passed = λ d u. passed_is ds a h.visits d u ranked known h.order;
  touched = λ _. touched_is ds a h.visits ranked known some h.order;
  entries = (no_gaps ds h.visits (as_part a ∷ []) ranked h.order (known, tt)).0;
}
