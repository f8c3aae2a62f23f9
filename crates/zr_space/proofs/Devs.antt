-- The devices of a space as a pointer sees them: their rows and their mappings.
use Rattle.std.proofs.Common.{◌≡◌, ℕ, ◌+◌, ◌≤◌, ◌<◌, true, false, ◌==◌, List, [], ◌∷◌, ◌++◌, map, length, ◌⊎◌, inl, inr, ◌∙◌, sym, ap, subst, arith, length-append}
use Rattle.std.proofs.Math.Path.{fun_ext}
use Rattle.std.proofs.lemmas.Bool.Decides.{nat_tests}
use Rattle.std.proofs.lemmas.List.{length-map}
use Rattle.std.proofs.lemmas.List.Elements.{All-nil, All-same, All-weaker}
use Rattle.std.specs.List.{All}
use Rattle.zr_base.specs.declared.space.DevPart.{DevPart}
use Rattle.zr_base.specs.declared.space.DevRow.{DevRow}
use Rattle.zr_base.specs.declared.space.Entry.{Entry}
use Rattle.zr_rules.specs.Places.{is_gone}
use Rattle.zr_rules.specs.Devices.{Devices, devices_of}
use Rattle.zr_rules.specs.Resolve.{IsRanked, IsDestination}
use Rattle.zr_space.specs.Views.{Kept, kept_of, part_in}
use Rattle.zr_space.proofs.Views.{part_is, on_all, kept_before}

abbrev make : ℕ → (ℕ → DevRow) → (ℕ → List Entry) → Devices
make n row entries = record { count = n; row = row; entries = entries }

pub devices_as : (a b : Devices) → a.count ≡ b.count → ((d : ℕ) → a.row d ≡ b.row d) → ((d : ℕ) → a.entries d ≡ b.entries d) → a ≡ b
devices_as a b count rows entries =
    ap (λ (n : ℕ). make n a.row a.entries) count
    ∙ (ap (λ (r : ℕ → DevRow). make b.count r a.entries) (fun_ext rows)
    ∙ ap (λ (e : ℕ → List Entry). make b.count b.row e) (fun_ext entries))

pub rows_are : (devs : List Kept) (d : ℕ) → (devices_of (map part_in devs)).row d ≡ (kept_of devs d).row
rows_are devs d = ap (λ (p : DevPart). p.row) (part_is devs d)

pub entries_are : (devs : List Kept) (d : ℕ) → (devices_of (map part_in devs)).entries d ≡ (kept_of devs d).moves.entries
entries_are devs d = ap (λ (p : DevPart). p.entries) (part_is devs d)

-- where the rows and the mappings are the same a pointer sees the same devices
pub same_devices : (devs next : List Kept) → length next ≡ length devs → ((d : ℕ) → (kept_of next d).row ≡ (kept_of devs d).row) → ((d : ℕ) → (kept_of next d).moves.entries ≡ (kept_of devs d).moves.entries)
    → devices_of (map part_in next) ≡ devices_of (map part_in devs)
same_devices devs next count rows entries =
    devices_as (devices_of (map part_in next)) (devices_of (map part_in devs)) (length-map next part_in ∙ (count ∙ sym (length-map devs part_in)))
    (λ d. rows_are next d ∙ (rows d ∙ sym (rows_are devs d)))
    (λ d. entries_are next d ∙ (entries d ∙ sym (entries_are devs d)))

-- a mapping of a device with the one row may lead to a device with the other
abbrev MayLead : DevRow → DevRow → Type 0
MayLead from to = (is_gone to.state ≡ false) ⊎ ((is_gone from.state ≡ true) × (from.gone < to.gone))

module _ (devs : List Kept) (k : Kept) where
  old : Devices
  old = devices_of (map part_in devs)

  new : Devices
  new = devices_of (map part_in (devs ++ k ∷ []))

  same_row : (d : ℕ) → (d == length devs) ≡ false → new.row d ≡ old.row d
  unfolding old new
  same_row d ne = rows_are (devs ++ k ∷ []) d ∙ (ap (λ (x : Kept). x.row) (kept_before devs k d ne) ∙ sym (rows_are devs d))

  destination : (d : ℕ) → (d == length devs) ≡ false → (e : Entry) → IsDestination old d e → IsDestination new d e
  unfolding old new
  destination d ne e h =
      let known = h.known in
      let count = length-map devs part_in in
      let count2 = length-map (devs ++ k ∷ []) part_in in
      let more = length-append devs (k ∷ []) in
      let other : (e.dev == length devs) ≡ false = grind (arith, nat_tests, known, count) in
      let to = same_row e.dev other in
      record {
        known = omega (arith, known, count, count2, more);
        other = h.other;
        within = subst (λ (r : DevRow). e.dst + e.len ≤ r.units) (sym to) h.within;
        later = subst (λ (r : DevRow). MayLead (new.row d) r) (sym to) (subst (λ (r : DevRow). MayLead r (old.row e.dev)) (sym (same_row d ne)) h.later);
      }

  -- a device more without a mapping
  pub ranked_last : k.moves.entries ≡ [] → IsRanked (devices_of (map part_in devs)) → IsRanked (devices_of (map part_in (devs ++ k ∷ [])))
  unfolding old new
  ranked_last none ranked d =
      subst (All (IsDestination new d)) (sym (entries_are (devs ++ k ∷ []) d))
      (on_all devs k (λ i x. All (IsDestination new i) x.moves.entries)
      (All-same (IsDestination new (length devs)) k.moves.entries [] none (All-nil (IsDestination new (length devs))))
      (λ i ne. subst (All (IsDestination new i)) (entries_are devs i) (All-weaker (IsDestination old i) (IsDestination new i) (destination i ne) (old.entries i) (ranked i)))
      d)

-- ---- a device in service begins to leave

-- a mapping may lead to and from both rows alike
pub record IsSameWay (a b : DevRow) : Type 0 where
  pub gone : is_gone b.state ≡ is_gone a.state
  pub went : b.gone ≡ a.gone
  pub units : b.units ≡ a.units

pub ranked_as : (a b : Devices) → b.count ≡ a.count → ((d : ℕ) → b.entries d ≡ a.entries d) → ((d : ℕ) → IsSameWay (a.row d) (b.row d)) → IsRanked a → IsRanked b
ranked_as a b count entries ways ranked d = subst (All (IsDestination b d)) (sym (entries d)) (All-weaker (IsDestination a d) (IsDestination b d) weaker (a.entries d) (ranked d))
  where
    may : (from to : DevRow) (from2 to2 : DevRow) → IsSameWay from from2 → IsSameWay to to2 → MayLead from to → MayLead from2 to2
    may from to from2 to2 f t (inl there) = inl (t.gone ∙ there)
    may from to from2 to2 f t (inr later) = inr (f.gone ∙ later.0, (let l = later.1 in let x = f.went in let y = t.went in omega (arith, l, x, y)))

    weaker : (e : Entry) → IsDestination a d e → IsDestination b d e
    weaker e h = record {
      known = let k = h.known in omega (arith, k, count);
      other = h.other;
      within = let w = h.within in let u = (ways e.dev).units in omega (arith, w, u);
      later = may (a.row d) (a.row e.dev) (b.row d) (b.row e.dev) (ways d) (ways e.dev) h.later;
    }
