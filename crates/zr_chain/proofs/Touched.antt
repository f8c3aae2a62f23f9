-- The visits are the pieces that a free touches.
use Rattle.std.proofs.Common.{◌≡◌, ℕ, zero, suc, ◌+◌, ◌<◌, Bool, true, false, List, [], ◌∷◌, ◌++◌, map, filter, sum_by, refl, sym, ap, ap₂, ◌∙◌, arith}
use Rattle.std.specs.Prelude.{if◌then◌else◌}
use Rattle.std.specs.List.{AllByRecursion}
use Rattle.std.proofs.lemmas.List.Sums.{sum_by-cons, sum_by-append}
use Rattle.std.proofs.lemmas.List.Elements.{recursion_from_All}
use Rattle.zr_base.specs.declared.space.Extent.{Extent}
use Rattle.zr_base.specs.declared.space.Dva.{Dva}
use Rattle.zr_base.specs.declared.space.Entry.{Entry}
use Rattle.zr_rules.specs.Places.{is_gone}
use Rattle.zr_rules.specs.Devices.{Devices, state_at}
use Rattle.zr_rules.specs.Resolve.{IsRanked, IsDestination}
use Rattle.zr_rules.specs.Steps.{meets, moved_part, pieces}
use Rattle.zr_imap.specs.declared.image.Piece.{Piece as Part}
use Rattle.zr_imap.specs.Searches.{FollowFrom, place_of, moved_parts}
use Rattle.zr_chain.specs.declared.visit.Visited.{Visited}
use Rattle.zr_chain.specs.declared.visit.Visited.TheVariants.{Hop, Piece}
use Rattle.zr_chain.specs.Visits.{AreVisits, touches, parts_behind}
use Rattle.zr_chain.proofs.Ranks.{later_count, fewer_after, few_after, destination_after}
use Rattle.zr_chain.proofs.Ways.{if_same}
use Rattle.zr_chain.proofs.Parts.{behind, parts_are}
use Rattle.zr_chain.proofs.Places.{each_append, follow_hop}
use Rattle.zr_chain.proofs.Passed.{known_behind}

-- pieces of an address over at most so many devices
abbrev pub pieces_at : ℕ → Devices → Dva → ℕ
pieces_at h ds m = pieces h ds m.dev m.start m.len

-- numbers that are the same at what comes after are the same over all parts that went
sum_same : (ds : Devices) (d u n : ℕ) (f g : Dva → ℕ) (es : List Entry) → is_gone (state_at ds d) ≡ true → AllByRecursion (IsDestination ds d) es → ((m : Dva) → later_count ds m.dev < later_count ds d → f m ≡ g m) →
    sum_by f (moved_parts es u n) ≡ sum_by g (moved_parts es u n)
sum_same ds d u n f g [] gone all same = refl
sum_same ds d u n f g (e ∷ es) gone all same =
    step (meets u n e) (same (moved_part u n e) (fewer_after ds d e.dev all.0.known (destination_after ds d e gone all.0))) (sum_same ds d u n f g es gone all.1 same)
  where
    step : (b : Bool) → f (moved_part u n e) ≡ g (moved_part u n e) → sum_by f (moved_parts es u n) ≡ sum_by g (moved_parts es u n) →
        sum_by f (map (moved_part u n) (if b then e ∷ filter (meets u n) es else filter (meets u n) es)) ≡ sum_by g (map (moved_part u n) (if b then e ∷ filter (meets u n) es else filter (meets u n) es))
    step true first rest = sum_by-cons f (moved_part u n e) (moved_parts es u n) ∙ (ap₂ (λ (x y : ℕ). x + y) first rest ∙ sym (sum_by-cons g (moved_part u n e) (moved_parts es u n)))
    step false first rest = rest

pieces_more : (ds : Devices) (h d u n : ℕ) → IsRanked ds → later_count ds d < h → pieces (suc h) ds d u n ≡ pieces h ds d u n
pieces_more ds zero d u n ranked lt = absurd (omega arith)
pieces_more ds (suc h) d u n ranked lt =
    if_same (is_gone (state_at ds d)) _ _ _
    (λ gone. ap (λ (x : ℕ). 1 + x)
    (sum_same ds d u n (pieces_at (suc h) ds) (pieces_at h ds) (ds.entries d) gone (recursion_from_All (IsDestination ds d) (ds.entries d) (ranked d)) (λ m fewer. pieces_more ds h m.dev m.start m.len ranked (omega arith))))

pieces_step : (ds : Devices) (h d u n : ℕ) → IsRanked ds → later_count ds d < h → is_gone (state_at ds d) ≡ true → pieces h ds d u n ≡ 1 + sum_by (pieces_at h ds) (moved_parts (ds.entries d) u n)
pieces_step ds zero d u n ranked lt gone = absurd (omega arith)
pieces_step ds (suc h) d u n ranked lt gone =
    rw gone
    (ap (λ (x : ℕ). 1 + x)
    (sum_same ds d u n (pieces_at h ds) (pieces_at (suc h) ds) (ds.entries d) gone (recursion_from_All (IsDestination ds d) (ds.entries d) (ranked d)) (λ m fewer. sym (pieces_more ds h m.dev m.start m.len ranked (omega arith)))))

pieces_there : (ds : Devices) (h d : ℕ) (e : Extent) (split : ℕ) → 0 < h → is_gone (state_at ds d) ≡ false → pieces h ds d e.start e.len ≡ touches ds (Piece split d e)
pieces_there ds zero d e split some there = absurd (omega arith)
pieces_there ds (suc h) d e split some there = rw there refl

abbrev pub part_touch : Devices → Part → ℕ
part_touch ds p = pieces ds.count ds p.dev p.at.start p.at.len

touch_behind : (ds : Devices) (s : ℕ) (qs : List Part) → sum_by (part_touch ds) (parts_behind s qs) ≡ sum_by (pieces_at ds.count ds) (map place_of qs)
touch_behind ds s [] = refl
touch_behind ds s (q ∷ qs) =
    sum_by-cons (part_touch ds) (behind s q) (parts_behind s qs) ∙ (ap (λ (n : ℕ). part_touch ds q + n) (touch_behind ds s qs) ∙ sym (sum_by-cons (pieces_at ds.count ds) (place_of q) (map place_of qs)))

-- what the visits of all that is left touch
pub touched_all : (ds : Devices) (vs : List Visited) (left : List Part) (from end : ℕ) → IsRanked ds → AreVisits ds left vs → FollowFrom from end left → AllByRecursion (λ (q : Part). q.dev < ds.count) left → sum_by (touches ds) vs ≡ sum_by (part_touch ds) left
touched_all ds [] [] from end ranked h follow known = refl
touched_all ds [] (p ∷ left) from end ranked h follow known = absurd (cc)
touched_all ds (v ∷ vs) [] from end ranked h follow known = absurd h
touched_all ds (Piece split d e ∷ vs) (p ∷ left) from end ranked h follow known =
    let rest = touched_all ds vs left (p.split + p.at.len) end ranked h.2 follow.2 known.1 in
    let first : part_touch ds p ≡ touches ds (Piece split d e) = pieces_there ds ds.count p.dev p.at p.split (omega (arith, known.0)) h.0 ∙ ap (λ (q : Part). touches ds (Piece q.split q.dev q.at)) h.1 in
    sum_by-cons (touches ds) (Piece split d e) vs ∙ (ap₂ (λ (x y : ℕ). x + y) (sym first) rest ∙ sym (sum_by-cons (part_touch ds) p left))
touched_all ds (Hop d e ∷ vs) (p ∷ left) from end ranked h follow known =
    let all = each_append (λ (q : Part). q.dev < ds.count) (parts_behind p.split h.3) left (known_behind ds p h.3 ranked h.0 (parts_are ds p h.3 ranked h.0 h.4)) known.1 in
    let rest = touched_all ds vs (parts_behind p.split h.3 ++ left) from end ranked h.5 (follow_hop from end p left h.3 follow h.4.follow) all in
    let both = sum_by-append (part_touch ds) (parts_behind p.split h.3) left in
    let parts = touch_behind ds p.split h.3 ∙ ap (λ (ms : List Dva). sum_by (pieces_at ds.count ds) ms) (h.4.cut follow.1) in
    let own = pieces_step ds ds.count p.dev p.at.start p.at.len ranked (few_after ds p.dev known.0) h.0 in
    let cons = sum_by-cons (part_touch ds) p left in
    let hop = sum_by-cons (touches ds) (Hop d e) vs in
    omega (arith, rest, both, parts, own, cons, hop)
