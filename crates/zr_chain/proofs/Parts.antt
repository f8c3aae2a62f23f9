-- The parts of a part, and visits that follow each other.
use Rattle.std.proofs.Common.{◌≡◌, ℕ, zero, suc, ◌+◌, ◌-◌, ◌<◌, ◌≤◌, ◌⊎◌, Bool, true, false, ◌||◌, nat_le, nat_lt, List, [], ◌∷◌, ◌++◌, length, take, inl, inr, ⊎_elim, MatchBool, refl, sym, ap, subst, ◌∙◌, arith, add-one, append_assoc, Option, Some}
use Rattle.std.specs.Prelude.{slice_index_or}
use Rattle.std.specs.List.{AllByRecursion, list_any}
use Rattle.std.proofs.lemmas.Bool.{lt-ltb, le-ltb}
use Rattle.std.proofs.lemmas.List.{append-nil, take_all}
use Rattle.zr_base.specs.declared.space.DevRow.{DevRow}
use Rattle.zr_base.specs.declared.space.DevState.{DevState}
use Rattle.zr_base.specs.declared.space.DevState.TheVariants.{On, Leaving, Gone}
use Rattle.zr_rules.specs.Places.{Place, is_on, is_gone, is_place}
use Rattle.zr_rules.specs.Devices.{Devices, state_at}
use Rattle.zr_rules.specs.Mappings.{target, has_source}
use Rattle.zr_rules.specs.Resolve.{IsRanked, passed_units}
use Rattle.zr_imap.specs.declared.image.Piece.{Piece as Part}
use Rattle.zr_imap.specs.Searches.{IsImage, FollowFrom, piece_target}
use Rattle.zr_chain.specs.declared.visit.ChainErr.{ChainErr}
use Rattle.zr_chain.specs.declared.visit.ChainErr.TheVariants.{NoEntry, NoMemory}
use Rattle.zr_chain.specs.Visits.{IsTold, AreVisits, Follows, PassesGap, LacksEntry, parts_behind}
use Rattle.zr_chain.specs.declared.visit.Visited.{Visited}
use Rattle.zr_chain.specs.declared.visit.Visited.TheVariants.{Hop, Piece}
use Rattle.zr_chain.proofs.Ranks.{later_count}
use Rattle.zr_chain.proofs.Ways.{IsStep, step_of, passed_gone, passes_itself, and_left_of, and_right_of, leb-le, ltb-lt}

-- no part
abbrev pub no_piece : Part
no_piece = record { split = 0; dev = 0; at = record { start = 0; len = 0 } }

-- the part with the units of another before it
abbrev pub behind : ℕ → Part → Part
behind split q = record { split = split + q.split; dev = q.dev; at = q.at }

-- ---- visits that follow each other

pub joined : (ds : Devices) (ps qs : List Part) (vs ws : List Visited) → AreVisits ds ps vs → AreVisits ds qs ws → AreVisits ds (ps ++ qs) (vs ++ ws)
joined ds [] qs [] ws h k = k
joined ds (p ∷ ps) qs [] ws h k = absurd (cc)
joined ds [] qs (v ∷ vs) ws h k = absurd h
joined ds (p ∷ ps) qs (Piece split d e ∷ vs) ws h k = (h.0, h.1, joined ds ps qs vs ws h.2 k)
joined ds (p ∷ ps) qs (Hop d e ∷ vs) ws h k = (
  h.0,
  h.1,
  h.2,
  h.3,
  h.4,
  subst (λ (left : List Part). AreVisits ds left (vs ++ ws)) (append_assoc (parts_behind p.split h.3) ps qs) (joined ds (parts_behind p.split h.3 ++ ps) qs vs ws h.5 k),
)

parts_more : (split i : ℕ) (qs : List Part) → i < length qs → parts_behind split (take (suc i) qs) ≡ parts_behind split (take i qs) ++ behind split (slice_index_or qs i no_piece) ∷ []
parts_more split i [] lt = absurd (omega arith)
parts_more split zero (q ∷ qs) lt = refl
parts_more split (suc i) (q ∷ qs) lt = ap (λ (t : List Part). behind split q ∷ t) (parts_more split i qs (omega arith))

-- one part more
pub follows_more : (ds : Devices) (split i : ℕ) (qs : List Part) (a b c : List Visited) → i < length qs → Follows ds (parts_behind split (take i qs)) a b → Follows ds (behind split (slice_index_or qs i no_piece) ∷ []) b c →
    Follows ds (parts_behind split (take (i + 1) qs)) a c
follows_more ds split i qs a b c lt h k = record {
  visits = h.visits ++ k.visits;
  appended = k.appended ∙ (ap (λ (t : List Visited). t ++ k.visits) h.appended ∙ append_assoc a h.visits k.visits);
  order = rw (add-one, parts_more split i qs lt) (joined ds (parts_behind split (take i qs)) (behind split (slice_index_or qs i no_piece) ∷ []) h.visits k.visits h.order k.order);
}

-- ---- the parts of an image

-- the units of the part are where the function says, and end by the number
pub record IsShare (T : ℕ → Option Place) (end : ℕ) (q : Part) : Type 0 where
  pub some : 0 < q.at.len
  pub ends : q.split + q.at.len ≤ end
  pub at_each : (k : ℕ) → k < q.at.len → T (q.split + k) ≡ Some (q.dev, q.at.start + k)

FollowFrom-le : (from end : ℕ) (ps : List Part) → FollowFrom from end ps → from ≤ end
FollowFrom-le from end [] follow = omega (arith, follow)
FollowFrom-le from end (q ∷ ps) follow = omega (arith, FollowFrom-le (q.split + q.at.len) end ps follow.2)

-- where a piece's own units and later ones went
pub target_first : (q : Part) (ps : List Part) (k : ℕ) → k < q.split + q.at.len → piece_target (q ∷ ps) k ≡ Some (q.dev, q.at.start + (k - q.split))
target_first q ps k lt = rw (lt-ltb k (q.split + q.at.len) lt) refl

pub target_later : (q : Part) (ps : List Part) (k : ℕ) → q.split + q.at.len ≤ k → piece_target (q ∷ ps) k ≡ piece_target ps k
target_later q ps k le = rw (le-ltb k (q.split + q.at.len) le) refl

pub shares : (T : ℕ → Option Place) (from end : ℕ) (ps : List Part) → FollowFrom from end ps → ((k : ℕ) → from ≤ k → k < end → piece_target ps k ≡ T k) → AllByRecursion (IsShare T end) ps
shares T from end [] follow same = tt
shares T from end (q ∷ ps) follow same =
    let ends : q.split + q.at.len ≤ end = FollowFrom-le (q.split + q.at.len) end ps follow.2 in (
      record {
        some = follow.1;
        ends = ends;
        at_each = λ k lt.
            let place : q.split + k - q.split ≡ k = omega arith in
            sym (same (q.split + k) (omega (arith, follow.0)) (omega arith)) ∙ (target_first q ps (q.split + k) (omega arith) ∙ ap (λ (n : ℕ). Some (q.dev, q.at.start + n)) place);
      },
      shares T (q.split + q.at.len) end ps follow.2 (λ k ge lt. sym (target_later q ps k ge) ∙ same k (omega (arith, follow.0, follow.1)) lt),
    )

each_at : {X : Type 0} (P : X → Type 0) (xs : List X) (i : ℕ) (d : X) → AllByRecursion P xs → i < length xs → P (slice_index_or xs i d)
each_at P [] i d h lt = absurd (omega arith)
each_at P (x ∷ xs) zero d h lt = h.0
each_at P (x ∷ xs) (suc i) d h lt = each_at P xs i d h.1 (omega arith)

-- the other part is one of those that the mapping of a removed device makes of a part
pub record IsPartOf (ds : Devices) (p q : Part) : Type 0 where
  pub some : 0 < q.at.len
  pub ends : q.split + q.at.len ≤ p.at.len
  pub known : q.dev < ds.count
  pub fewer : later_count ds q.dev < later_count ds p.dev
  pub at_each : (k : ℕ) → k < q.at.len → target (ds.entries p.dev) (p.at.start + (q.split + k)) ≡ Some (q.dev, q.at.start + k)
  pub within : (k : ℕ) → k < q.at.len → q.at.start + k < (ds.row q.dev).units

pub part_of_share : (ds : Devices) (p q : Part) → IsRanked ds → is_gone (state_at ds p.dev) ≡ true → IsShare (λ k. target (ds.entries p.dev) (p.at.start + k)) p.at.len q → IsPartOf ds p q
part_of_share ds p q ranked gone share =
    let first : IsStep ds p.dev (q.dev, q.at.start + 0) = step_of ds p.dev (p.at.start + (q.split + 0)) (q.dev, q.at.start + 0) ranked gone (share.at_each 0 share.some) in
    record {
      some = share.some;
      ends = share.ends;
      known = first.known;
      fewer = first.fewer;
      at_each = share.at_each;
      within = λ k lt. let step : IsStep ds p.dev (q.dev, q.at.start + k) = step_of ds p.dev (p.at.start + (q.split + k)) (q.dev, q.at.start + k) ranked gone (share.at_each k lt) in step.within;
    }

pub parts_are : (ds : Devices) (p : Part) (qs : List Part) → IsRanked ds → is_gone (state_at ds p.dev) ≡ true → IsImage (ds.entries p.dev) p.at qs → AllByRecursion (IsShare (λ k. target (ds.entries p.dev) (p.at.start + k)) p.at.len) qs
parts_are ds p qs ranked gone image = shares (λ k. target (ds.entries p.dev) (p.at.start + k)) 0 p.at.len qs image.follow (λ k ge lt. image.targets k lt)

pub part_at : (ds : Devices) (p : Part) (qs : List Part) (i : ℕ) → IsRanked ds → is_gone (state_at ds p.dev) ≡ true → IsImage (ds.entries p.dev) p.at qs → i < length qs → IsPartOf ds p (slice_index_or qs i no_piece)
part_at ds p qs i ranked gone image lt =
    part_of_share ds p (slice_index_or qs i no_piece) ranked gone
    (each_at (IsShare (λ k. target (ds.entries p.dev) (p.at.start + k)) p.at.len) qs i no_piece (parts_are ds p qs ranked gone image) lt)

-- ---- gaps

or-true : (x : Bool) → (x || true) ≡ true
or-true true = refl
or-true false = refl

-- what a part of the part passes, the part passes
pub gap_below : (ds : Devices) (p q : Part) (e : ChainErr) → IsRanked ds → p.dev < ds.count → is_gone (state_at ds p.dev) ≡ true → IsPartOf ds p q → PassesGap ds (behind p.split q) e → PassesGap ds p e
gap_below ds p q NoMemory ranked known gone part h = tt
gap_below ds p q (NoEntry dev unit) ranked known gone part h =
    let u = p.at.start + (q.split + h.place) in
    let way : passed_units ds p.dev u ≡ (p.dev, u) ∷ passed_units ds q.dev (q.at.start + h.place) = passed_gone ds p.dev u (q.dev, q.at.start + h.place) ranked known gone (part.at_each h.place h.within) in
    record {
      place = q.split + h.place;
      within = omega (arith, h.within, part.ends);
      passes = ap (λ (t : List Place). list_any (λ r. is_place r dev unit) t) way ∙ (ap (λ (b : Bool). is_place (p.dev, u) dev unit || b) h.passes ∙ or-true (is_place (p.dev, u) dev unit));
      missing = h.missing;
    }

-- a unit of the part that has no entry is passed
pub gap_here : (ds : Devices) (p : Part) (e : ChainErr) → p.dev < ds.count → is_gone (state_at ds p.dev) ≡ true → LacksEntry (ds.entries p.dev) p.dev p.at e → PassesGap ds p e
gap_here ds p NoMemory known gone h = tt
gap_here ds p (NoEntry dev unit) known gone h =
    let from : p.at.start ≤ unit = leb-le p.at.start unit (and_left_of (nat_le p.at.start unit) (nat_lt unit (p.at.start + p.at.len)) h.1) in
    let to : unit < p.at.start + p.at.len = ltb-lt unit (p.at.start + p.at.len) (and_right_of (nat_le p.at.start unit) (nat_lt unit (p.at.start + p.at.len)) h.1) in
    let at : p.at.start + (unit - p.at.start) ≡ unit = omega arith in
    record {
      place = unit - p.at.start;
      within = omega arith;
      passes = ap (λ (u : ℕ). list_any (λ q. is_place q dev unit) (passed_units ds p.dev u)) at
          ∙ (ap (λ (d : ℕ). list_any (λ q. is_place q d unit) (passed_units ds p.dev unit)) h.0 ∙ passes_itself ds p.dev unit known gone);
      missing = ap (λ (d : ℕ). has_source (ds.entries d) unit) h.0 ∙ h.2;
    }

-- ---- what is told of a part

-- what is told of a part of a removed device
pub record IsHop (ds : Devices) (p : Part) (parts : List Part) (old new : List Visited) : Type 0 where
  pub gone : is_gone (state_at ds p.dev) ≡ true
  pub told : new ≡ old ++ Hop p.dev p.at ∷ []
  pub image : IsImage (ds.entries p.dev) p.at parts

cases_told : (b : Bool) (A B : Type 0) → MatchBool b A B → ((b ≡ true) × A) ⊎ ((b ≡ false) × B)
cases_told true A B h = inl (refl, h)
cases_told false A B h = inr (refl, h)

-- a part with parts that it leads to is one of a removed device
pub hop_of : (ds : Devices) (p : Part) (parts qs : List Part) (i : ℕ) (old new : List Visited) → IsTold ds p parts old new → qs ≡ parts → i < length qs → IsHop ds p qs old new
hop_of ds p parts qs i old new told items lt = ⊎_elim
    (λ hop. record { gone = hop.0; told = hop.1.0; image = subst (λ (rs : List Part). IsImage (ds.entries p.dev) p.at rs) (sym items) hop.1.1 })
    (λ there. let none : length qs ≡ 0 = ap (λ (rs : List Part). length rs) (items ∙ there.1.1) in absurd (omega arith))
    (cases_told (is_gone (state_at ds p.dev)) ((new ≡ old ++ Hop p.dev p.at ∷ []) × IsImage (ds.entries p.dev) p.at parts) ((new ≡ old ++ Piece p.split p.dev p.at ∷ []) × (parts ≡ [])) told)

-- what is told, and then the visits of all parts that it leads to
pub follows_told : (ds : Devices) (p : Part) (parts qs : List Part) (i : ℕ) (a b c : List Visited) → IsTold ds p parts a b → qs ≡ parts → length qs ≤ i → Follows ds (parts_behind p.split (take i qs)) b c → Follows ds (p ∷ []) a c
follows_told ds p parts qs i a b c told items end h = ⊎_elim
    (λ hop. record {
      visits = Hop p.dev p.at ∷ h.visits;
      appended = h.appended ∙ (ap (λ (t : List Visited). t ++ h.visits) hop.1.0 ∙ append_assoc a (Hop p.dev p.at ∷ []) h.visits);
      order = (
        hop.0,
        refl,
        refl,
        parts,
        hop.1.1,
        subst (λ (left : List Part). AreVisits ds left h.visits) (sym (append-nil (parts_behind p.split parts)))
            (subst (λ (t : List Part). AreVisits ds (parts_behind p.split t) h.visits) (take_all i qs end ∙ items) h.order),
      );
    })
    (λ there.
    let none : parts_behind p.split (take i qs) ≡ [] = ap (λ (t : List Part). parts_behind p.split t) (take_all i qs end ∙ (items ∙ there.1.1)) in
    record {
      visits = Piece p.split p.dev p.at ∷ h.visits;
      appended = h.appended ∙ (ap (λ (t : List Visited). t ++ h.visits) there.1.0 ∙ append_assoc a (Piece p.split p.dev p.at ∷ []) h.visits);
      order = (there.0, refl, subst (λ (left : List Part). AreVisits ds left h.visits) none h.order);
    })
    (cases_told (is_gone (state_at ds p.dev)) ((b ≡ a ++ Hop p.dev p.at ∷ []) × IsImage (ds.entries p.dev) p.at parts) ((b ≡ a ++ Piece p.split p.dev p.at ∷ []) × (parts ≡ [])) told)

pub gone_is : (ds : Devices) (d : ℕ) (row : DevRow) (b : Bool) → row ≡ ds.row d → b ≡ is_gone row.state → b ≡ true → is_gone (state_at ds d) ≡ true
gone_is ds d row b read test passed = sym (ap (λ (r : DevRow). is_gone r.state) read) ∙ (sym test ∙ passed)

gone_moved : (s : DevState) → is_gone s ≡ true → is_on s ≡ false
gone_moved On gone = absurd (cc)
gone_moved Leaving gone = refl
gone_moved Gone gone = refl

pub moved_is : (ds : Devices) (d : ℕ) (row : DevRow) (b : Bool) → row ≡ ds.row d → b ≡ is_gone row.state → b ≡ true → is_on (state_at ds d) ≡ false
moved_is ds d row b read test passed = gone_moved (state_at ds d) (gone_is ds d row b read test passed)
