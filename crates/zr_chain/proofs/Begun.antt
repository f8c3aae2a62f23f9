-- A walk that stopped has visited the first parts in order.
use Rattle.std.proofs.Common.{◌≡◌, ℕ, zero, suc, ◌<◌, true, List, [], ◌∷◌, ◌++◌, length, take, drop, inl, inr, ⊎_elim, refl, sym, ap, subst, ◌∙◌, arith, append_assoc}
use Rattle.std.specs.Prelude.{slice_index_or, Result, Ok, Err, OnErr}
use Rattle.std.proofs.lemmas.List.{append-nil}
use Rattle.zr_rules.specs.Places.{is_gone}
use Rattle.zr_rules.specs.Devices.{Devices, state_at}
use Rattle.zr_imap.specs.declared.image.Piece.{Piece as Part}
use Rattle.zr_imap.specs.Searches.{IsImage}
use Rattle.zr_chain.specs.declared.visit.Visited.{Visited}
use Rattle.zr_chain.specs.declared.visit.Visited.TheVariants.{Hop, Piece}
use Rattle.zr_chain.specs.Visits.{AreVisits, AreFirstVisits, Follows, Begins, parts_behind}
use Rattle.zr_chain.proofs.Parts.{IsHop, behind, no_piece}

joined_first : (ds : Devices) (ps qs : List Part) (vs ws : List Visited) → AreVisits ds ps vs → AreFirstVisits ds qs ws → AreFirstVisits ds (ps ++ qs) (vs ++ ws)
joined_first ds [] qs [] ws h k = k
joined_first ds (p ∷ ps) qs [] ws h k = absurd (cc)
joined_first ds [] qs (v ∷ vs) ws h k = absurd h
joined_first ds (p ∷ ps) qs (Piece split d e ∷ vs) ws h k = (h.0, h.1, joined_first ds ps qs vs ws h.2 k)
joined_first ds (p ∷ ps) qs (Hop d e ∷ vs) ws h k = (
  h.0,
  h.1,
  h.2,
  inr (
    h.3,
    h.4,
    subst (λ (left : List Part). AreFirstVisits ds left (vs ++ ws)) (append_assoc (parts_behind p.split h.3) ps qs) (joined_first ds (parts_behind p.split h.3 ++ ps) qs vs ws h.5 k),
  ),
)

first_more : (ds : Devices) (ps qs : List Part) (vs : List Visited) → AreFirstVisits ds ps vs → AreFirstVisits ds (ps ++ qs) vs
first_more ds ps qs [] h = tt
first_more ds [] qs (v ∷ vs) h = absurd h
first_more ds (p ∷ ps) qs (Piece split d e ∷ vs) h = (h.0, h.1, first_more ds ps qs vs h.2)
first_more ds (p ∷ ps) qs (Hop d e ∷ vs) h = (
  h.0,
  h.1,
  h.2,
  ⊎_elim
      (λ none. inl none)
      (λ (k : (parts : List Part) × IsImage (ds.entries p.dev) p.at parts × AreFirstVisits ds (parts_behind p.split parts ++ ps) vs).
      inr (k.0, k.1, subst (λ (left : List Part). AreFirstVisits ds left vs) (append_assoc (parts_behind p.split k.0) ps qs) (first_more ds (parts_behind p.split k.0 ++ ps) qs vs k.2)))
      h.3,
)

parts_cut : (s i : ℕ) (qs : List Part) → i < length qs → (parts_behind s (take i qs) ++ behind s (slice_index_or qs i no_piece) ∷ []) ++ parts_behind s (drop (suc i) qs) ≡ parts_behind s qs
parts_cut s i [] lt = absurd (omega arith)
parts_cut s zero (q ∷ qs) lt = refl
parts_cut s (suc i) (q ∷ qs) lt = ap (λ (t : List Part). behind s q ∷ t) (parts_cut s i qs (omega arith))

-- a hop, the visits of the parts before one, and first visits of that one
pub begins_part : (ds : Devices) (p : Part) (qs : List Part) (i : ℕ) (a b c d : List Visited) → IsHop ds p qs a b → i < length qs → Follows ds (parts_behind p.split (take i qs)) b c → Begins ds (behind p.split (slice_index_or qs i no_piece) ∷ []) c d → Begins ds (p ∷ []) a d
begins_part ds p qs i a b c d hop lt h k =
    let front = parts_behind p.split (take i qs) in
    let one : List Part = behind p.split (slice_index_or qs i no_piece) ∷ [] in
    let rest = parts_behind p.split (drop (suc i) qs) in
    let cut : (front ++ one) ++ rest ≡ parts_behind p.split qs ++ [] = parts_cut p.split i qs lt ∙ sym (append-nil (parts_behind p.split qs)) in
    record {
      visits = Hop p.dev p.at ∷ (h.visits ++ k.visits);
      appended =
          k.appended
          ∙ (ap (λ (t : List Visited). t ++ k.visits) (h.appended ∙ ap (λ (t : List Visited). t ++ h.visits) hop.told)
          ∙ (append_assoc (a ++ Hop p.dev p.at ∷ []) h.visits k.visits ∙ append_assoc a (Hop p.dev p.at ∷ []) (h.visits ++ k.visits)));
      order = (
        hop.gone,
        refl,
        refl,
        inr (
          qs,
          hop.image,
          subst (λ (left : List Part). AreFirstVisits ds left (h.visits ++ k.visits)) cut (first_more ds (front ++ one) rest (h.visits ++ k.visits) (joined_first ds front one h.visits k.visits h.order k.order)),
        ),
      );
    }

-- a hop alone
pub begins_hop : (ds : Devices) (p : Part) (a b : List Visited) → is_gone (state_at ds p.dev) ≡ true → b ≡ a ++ Hop p.dev p.at ∷ [] → Begins ds (p ∷ []) a b
begins_hop ds p a b gone told = record { visits = Hop p.dev p.at ∷ []; appended = told; order = (gone, refl, refl, inl refl) }

-- nothing yet
pub begins_none : (ds : Devices) (left : List Part) (a b : List Visited) → b ≡ a → Begins ds left a b
begins_none ds left a b same = record { visits = []; appended = same ∙ sym (append-nil a); order = tt }

pub on_any_err : {T E P : Type 0} (r : Result T E) → P → OnErr r P
on_any_err (Ok x) h = tt
on_any_err (Err e) h = h
