-- The parts that are there follow each other over all units, and each unit is where it leads.
use Rattle.std.proofs.Common.{◌≡◌, ℕ, ◌+◌, ◌-◌, ◌<◌, ◌≤◌, true, false, List, [], ◌∷◌, ◌++◌, inr, refl, sym, ap, subst, ◌∙◌, arith, ⊎_elim, Option, Some}
use Rattle.std.specs.Prelude.{option_and_then}
use Rattle.std.specs.List.{AllByRecursion}
use Rattle.std.proofs.lemmas.Bool.{cases_lt, false≢true}
use Rattle.zr_rules.specs.Places.{Place, is_gone}
use Rattle.zr_rules.specs.Devices.{Devices, state_at}
use Rattle.zr_rules.specs.Mappings.{target}
use Rattle.zr_rules.specs.Resolve.{IsRanked, resolved}
use Rattle.zr_imap.specs.declared.image.Piece.{Piece as Part}
use Rattle.zr_imap.specs.Searches.{FollowFrom, piece_target}
use Rattle.zr_chain.specs.Visits.{AreVisits, IsWithin, pieces_of, parts_behind}
use Rattle.zr_chain.specs.declared.visit.Visited.{Visited}
use Rattle.zr_chain.specs.declared.visit.Visited.TheVariants.{Hop, Piece}
use Rattle.zr_chain.proofs.Ways.{resolved_gone, resolved_there}
use Rattle.zr_chain.proofs.Parts.{IsShare, IsPartOf, behind, parts_are, part_of_share, target_first, target_later}

-- ---- parts that follow each other

pub follow_behind : (s from end a b : ℕ) (qs : List Part) → a ≡ s + from → b ≡ s + end → FollowFrom from end qs → FollowFrom a b (parts_behind s qs)
follow_behind s from end a b [] at to follow = omega (arith, follow)
follow_behind s from end a b (q ∷ qs) at to follow =
    (omega (arith, follow.0), follow.1, follow_behind s (q.split + q.at.len) end (s + q.split + q.at.len) b qs (omega arith) to follow.2)

pub follow_append : (from middle end : ℕ) (ps qs : List Part) → FollowFrom from middle ps → FollowFrom middle end qs → FollowFrom from end (ps ++ qs)
follow_append from middle end [] qs h k = subst (λ (n : ℕ). FollowFrom n end qs) (sym h) k
follow_append from middle end (p ∷ ps) qs h k = (h.0, h.1, follow_append (p.split + p.at.len) middle end ps qs h.2 k)

-- the parts of the first part that is left, and the others
pub follow_hop : (from end : ℕ) (p : Part) (left parts : List Part) → FollowFrom from end (p ∷ left) → FollowFrom 0 p.at.len parts → FollowFrom from end (parts_behind p.split parts ++ left)
follow_hop from end p left parts follow own =
    follow_append from (p.split + p.at.len) end (parts_behind p.split parts) left (follow_behind p.split 0 p.at.len from (p.split + p.at.len) parts (omega (arith, follow.0)) refl own) follow.2

pub pieces_follow : (ds : Devices) (vs : List Visited) (left : List Part) (from end : ℕ) → AreVisits ds left vs → FollowFrom from end left → FollowFrom from end (pieces_of vs)
pieces_follow ds [] [] from end h follow = follow
pieces_follow ds [] (p ∷ left) from end h follow = absurd (cc)
pieces_follow ds (v ∷ vs) [] from end h follow = absurd h
pieces_follow ds (Piece split d e ∷ vs) (p ∷ left) from end h follow =
    subst (λ (q : Part). FollowFrom from end (q ∷ pieces_of vs)) h.1 (follow.0, follow.1, pieces_follow ds vs left (p.split + p.at.len) end h.2 follow.2)
pieces_follow ds (Hop d e ∷ vs) (p ∷ left) from end h follow =
    pieces_follow ds vs (parts_behind p.split h.3 ++ left) from end h.5 (follow_hop from end p left h.3 follow h.4.follow)

-- ---- where units are

target_behind : (s k : ℕ) (qs : List Part) → s ≤ k → piece_target (parts_behind s qs) k ≡ piece_target qs (k - s)
target_behind s k [] le = refl
target_behind s k (q ∷ qs) le = ⊎_elim
    (λ in_it.
    let place : k - (s + q.split) ≡ k - s - q.split = omega arith in
    target_first (behind s q) (parts_behind s qs) k in_it ∙ (ap (λ (n : ℕ). Some (q.dev, q.at.start + n)) place ∙ sym (target_first q qs (k - s) (omega arith))))
    (λ past. target_later (behind s q) (parts_behind s qs) k past ∙ (target_behind s k qs le ∙ sym (target_later q qs (k - s) (omega arith))))
    (cases_lt k (s + q.split + q.at.len))

target_front : (from middle k : ℕ) (ps qs : List Part) → FollowFrom from middle ps → from ≤ k → k < middle → piece_target (ps ++ qs) k ≡ piece_target ps k
target_front from middle k [] qs follow ge lt = absurd (omega (arith, follow))
target_front from middle k (p ∷ ps) qs follow ge lt = ⊎_elim
    (λ in_it. target_first p (ps ++ qs) k in_it ∙ sym (target_first p ps k in_it))
    (λ past. target_later p (ps ++ qs) k past ∙ (target_front (p.split + p.at.len) middle k ps qs follow.2 past lt ∙ sym (target_later p ps k past)))
    (cases_lt k (p.split + p.at.len))

follow_le : (from end : ℕ) (ps : List Part) → FollowFrom from end ps → from ≤ end
follow_le from end [] follow = omega (arith, follow)
follow_le from end (q ∷ ps) follow = omega (arith, follow_le (q.split + q.at.len) end ps follow.2)

target_back : (from middle k : ℕ) (ps qs : List Part) → FollowFrom from middle ps → middle ≤ k → piece_target (ps ++ qs) k ≡ piece_target qs k
target_back from middle k [] qs follow le = refl
target_back from middle k (p ∷ ps) qs follow le =
    let ends = follow_le (p.split + p.at.len) middle ps follow.2 in
    target_later p (ps ++ qs) k (omega arith) ∙ target_back (p.split + p.at.len) middle k ps qs follow.2 le

-- where a place leads
abbrev pub led : Devices → Option Place → Option Place
led ds o = option_and_then (λ (p : Place). resolved ds p.0 p.1) o

-- the device of the part is known, and has the unit with so many before it
pub record IsLed (ds : Devices) (k : ℕ) (p : Part) : Type 0 where
  pub known : p.dev < ds.count
  pub within : p.split ≤ k → k < p.split + p.at.len → IsWithin ds p.dev (p.at.start + (k - p.split))

led_behind : (ds : Devices) (p : Part) (k : ℕ) (qs : List Part) → IsRanked ds → is_gone (state_at ds p.dev) ≡ true → AllByRecursion (IsShare (λ j. target (ds.entries p.dev) (p.at.start + j)) p.at.len) qs → AllByRecursion (IsLed ds k) (parts_behind p.split qs)
led_behind ds p k [] ranked gone h = tt
led_behind ds p k (q ∷ qs) ranked gone h =
    let part : IsPartOf ds p q = part_of_share ds p q ranked gone h.0 in
    (record { known = part.known; within = λ ge lt. inr (part.within (k - (p.split + q.split)) (omega arith)) }, led_behind ds p k qs ranked gone h.1)

pub each_append : {X : Type 0} (P : X → Type 0) (xs ys : List X) → AllByRecursion P xs → AllByRecursion P ys → AllByRecursion P (xs ++ ys)
each_append P [] ys h k = k
each_append P (x ∷ xs) ys h k = (h.0, each_append P xs ys h.1 k)

-- a unit of a part that is there
there_is : (ds : Devices) (p : Part) (k : ℕ) → is_gone (state_at ds p.dev) ≡ false → IsLed ds k p → p.split ≤ k → k < p.split + p.at.len → Some (p.dev, p.at.start + (k - p.split)) ≡ resolved ds p.dev (p.at.start + (k - p.split))
there_is ds p k there is ge lt = ⊎_elim
    (λ gone. absurd (false≢true (sym there ∙ gone)))
    (λ within. sym (resolved_there ds p.dev (p.at.start + (k - p.split)) is.known there within))
    (is.within ge lt)

-- each unit of what is left is where it leads
pub pieces_led : (ds : Devices) (k : ℕ) (vs : List Visited) (left : List Part) (from end : ℕ) → IsRanked ds → AreVisits ds left vs → FollowFrom from end left → AllByRecursion (IsLed ds k) left → from ≤ k → k < end → piece_target (pieces_of vs) k ≡ led ds (piece_target left k)
pieces_led ds k [] [] from end ranked h follow led_all ge lt = absurd (omega (arith, follow))
pieces_led ds k [] (p ∷ left) from end ranked h follow led_all ge lt = absurd (cc)
pieces_led ds k (v ∷ vs) [] from end ranked h follow led_all ge lt = absurd h
pieces_led ds k (Piece split d e ∷ vs) (p ∷ left) from end ranked h follow led_all ge lt =
    ap (λ (q : Part). piece_target (q ∷ pieces_of vs) k) (sym h.1)
    ∙ ⊎_elim
    (λ in_it.
    target_first p (pieces_of vs) k in_it
    ∙ (there_is ds p k h.0 led_all.0 (omega (arith, follow.0)) in_it ∙ sym (ap (λ (o : Option Place). led ds o) (target_first p left k in_it))))
    (λ past.
    target_later p (pieces_of vs) k past
    ∙ (pieces_led ds k vs left (p.split + p.at.len) end ranked h.2 follow.2 led_all.1 past lt ∙ sym (ap (λ (o : Option Place). led ds o) (target_later p left k past))))
    (cases_lt k (p.split + p.at.len))
pieces_led ds k (Hop d e ∷ vs) (p ∷ left) from end ranked h follow led_all ge lt =
    let own = follow_behind p.split 0 p.at.len from (p.split + p.at.len) h.3 (omega (arith, follow.0)) refl h.4.follow in
    let all = each_append (IsLed ds k) (parts_behind p.split h.3) left (led_behind ds p k h.3 ranked h.0 (parts_are ds p h.3 ranked h.0 h.4)) led_all.1 in
    pieces_led ds k vs (parts_behind p.split h.3 ++ left) from end ranked h.5 (follow_hop from end p left h.3 follow h.4.follow) all ge lt
    ∙ ⊎_elim
    (λ in_it.
    let split_le : p.split ≤ k = omega (arith, follow.0) in
    let there : piece_target (parts_behind p.split h.3 ++ left) k ≡ target (ds.entries p.dev) (p.at.start + (k - p.split)) =
    target_front from (p.split + p.at.len) k (parts_behind p.split h.3) left own ge in_it ∙ (target_behind p.split k h.3 split_le ∙ h.4.targets (k - p.split) (omega arith)) in
    ap (λ (o : Option Place). led ds o) there
    ∙ (sym (resolved_gone ds p.dev (p.at.start + (k - p.split)) ranked led_all.0.known h.0) ∙ sym (ap (λ (o : Option Place). led ds o) (target_first p left k in_it))))
    (λ past.
    ap (λ (o : Option Place). led ds o) (target_back from (p.split + p.at.len) k (parts_behind p.split h.3) left own past ∙ sym (target_later p left k past)))
    (cases_lt k (p.split + p.at.len))
