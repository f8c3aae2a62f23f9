-- What holding a checkpoint does to the space.
use Rattle.std.proofs.Common.{◌≡◌, ℕ, zero, suc, ◌+◌, ◌<◌, false, List, [], ◌∷◌, ◌++◌, map, length, refl, ◌∙◌, sym, ap, subst, arith}
use Rattle.std.proofs.Math.ListN.{set}
use Rattle.std.proofs.lemmas.List.{length-map}
use Rattle.zr_base.specs.declared.space.DevPart.{DevPart}
use Rattle.zr_base.specs.declared.space.Dva.{Dva}
use Rattle.zr_base.specs.declared.space.Extent.{Extent}
use Rattle.zr_base.specs.declared.space.CkptPart.TheVariants.{Held}
use Rattle.zr_base.specs.Extents.{has_unit}
use Rattle.zr_rules.specs.Places.{part_of, is_leaving, state_of_dev}
use Rattle.zr_rules.specs.Roles.{saved}
use Rattle.zr_rules.specs.Frees.{IsSamePart}
use Rattle.zr_rules.specs.Steps as steps
use Rattle.zr_metaslab.specs.Devices.{Devices, free_at, count_at}
use Rattle.zr_units.specs.Uses.{Uses, IsAccount, IsSameUses}
use Rattle.zr_units.specs.Changes.{saved_uses}
use Rattle.zr_space.specs.Views.{Kept, kept_of, part_in, space_of, role_in, synced_in, IsMoved, IsSpace, IsSameKept, AreTurned, with_saved, meta_from, saved_from, addresses}
use Rattle.zr_space.proofs.Views.{part_is}
use Rattle.zr_space.proofs.Turning.{TurnedBelow, turned_all, turned_next}
use Rattle.zr_space.proofs.Roles.{roles_are}
use Rattle.zr_space.proofs.Accounts.{same_account, saved_account, saved_roles}
use Rattle.zr_space.proofs.Keeps.{change_tied, no_leaving_space, stays_space, lawful}
use Rattle.std.proofs.lemmas.List.Sums.{sum_by-cons}
use Rattle.zr_indirect.specs.Changes.{was_fresh_in}
use Rattle.zr_space.proofs.Rooted.{was_held_is, was_kept_is, was_fresh_is, was_held_in, was_kept_in}
use Rattle.zr_space.specs.declared.whole.Whole.{Whole}

-- without metadata of a saved root no device has any
none_saved : (i : ℕ) (devs : List Kept) (d : ℕ) → saved_from i devs ≡ [] → (kept_of devs d).uses.saved ≡ []
none_saved i [] zero none = refl
none_saved i [] (suc d) none = refl
none_saved i (x ∷ xs) zero none = first x.uses.saved (saved_from (i + 1) xs) none
  where
    first : (es : List Extent) (rest : List Dva) → addresses i es ++ rest ≡ [] → es ≡ []
    first [] rest is = refl
    first (e ∷ es) rest is = cc
none_saved i (x ∷ xs) (suc d) none = none_saved (i + 1) xs d (rest_none x.uses.saved (saved_from (i + 1) xs) none)
  where
    rest_none : (es : List Extent) (rest : List Dva) → addresses i es ++ rest ≡ [] → rest ≡ []
    rest_none [] rest is = is
    rest_none (e ∷ es) rest is = cc

pub nothing_saved : (devs : List Kept) (d : ℕ) → saved_from 0 devs ≡ [] → (kept_of devs d).uses.saved ≡ []
nothing_saved devs d none = none_saved 0 devs d none

-- one device more has its metadata as the saved root's
pub record IsHeldNext (whole : Whole) (s : Devices) (devs : List Kept) (d : ℕ) (k : Kept) : Type 0 where
  pub space : IsSpace whole s devs
  pub there : d < length devs
  pub kept : k ≡ kept_of devs d
  pub none : k.uses.saved ≡ []

pub saved_space : {whole : Whole} (s : Devices) (devs : List Kept) (d : ℕ) (k : Kept) (y : Uses) → IsSameUses (saved_uses k.uses) y → IsHeldNext whole s devs d k → IsSpace whole s (set devs d (record k { uses = y }))
saved_space {whole} s devs d k y same h = stays_space s s devs d (record k { uses = y }) h.space (record {
  there = h.there;
  row = ap (λ (x : Kept). x.row) h.kept;
  entries = ap (λ (x : Kept). x.moves.entries) h.kept;
  counts = ap (λ (x : Kept). x.moves.counts) h.kept;
  fresh = ap (λ (x : Kept). x.moves.fresh) h.kept;
  moved = subst (λ (x : Kept). IsMoved x.row x.moves) (sym h.kept) (h.space.moved d);
  units = ap (λ (x : Uses). x.units) same ∙ ap (λ (x : Kept). x.uses.units) h.kept;
  account = same_account (free_at s d) (count_at s d) (saved_uses k.uses) y same (saved_account (free_at s d) (count_at s d) k.uses (subst (λ (x : Kept). IsAccount (free_at s d) (count_at s d) x.uses) (sym h.kept) (h.space.account d)) h.none);
  copies = λ u. ap (λ (x : Uses). has_unit x.copies u) same ∙ ap (λ (x : Kept). has_unit x.uses.copies u) h.kept;
  devices = record { devs = refl; units = λ j. refl; serves = λ j. refl };
  free = λ j u ne. refl;
  count = λ j ne. refl;
  tied = change_tied whole s devs d k y h.space h.kept (record { held = ap (λ (x : Uses). x.held) same; kept = ap (λ (x : Uses). x.kept) same; copies = ap (λ (x : Uses). x.copies) same });
})

saved_same : (x y : Kept) → IsSameKept x y → IsSameKept (with_saved x) (with_saved y)
saved_same x y same = ap with_saved same

-- all devices have it
pub saved_all : (first devs : List Kept) → length devs ≡ length first → TurnedBelow with_saved first devs (length devs) → AreTurned with_saved first devs
saved_all = turned_all with_saved refl saved_same

-- so has the next
pub saved_next : (first devs : List Kept) (n : ℕ) (k : Kept) (y : Uses) → n < length devs → k ≡ kept_of devs n → IsSameUses (saved_uses k.uses) y
    → TurnedBelow with_saved first devs n → TurnedBelow with_saved first (set devs n (record k { uses = y })) (n + 1)
saved_next first devs n k y there is uses so =
    turned_next with_saved refl saved_same first devs n (record k { uses = y }) there
    (subst (λ (z : Kept). IsSameKept (with_saved z) (record k { uses = y })) is (ap (λ (z : Uses). record k { uses = z }) uses)) so

-- no device is leaving, so a root can be held
pub held_space : (txg : ℕ) (whole : Whole) (t : Devices) (first devs : List Kept) → AreTurned with_saved first devs → ((d : ℕ) → is_leaving (state_of_dev (map part_in first) d) ≡ false) → IsSpace whole t devs → IsSpace (record whole { ckpt = Held txg }) t devs
held_space txg whole t first devs turned stays a =
    no_leaving_space whole (record whole { ckpt = Held txg }) t devs a
    (λ d. ap (λ (p : DevPart). is_leaving p.row.state) (part_is devs d) ∙ (ap (λ (k : Kept). is_leaving k.row.state) (turned.each d) ∙ (sym (ap (λ (p : DevPart). is_leaving p.row.state) (part_is first d)) ∙ stays d))) refl

no_meta : (i : ℕ) (old new : List Kept) → AreTurned with_saved old new → meta_from i new ≡ []
no_meta i [] [] t = refl
no_meta i [] (y ∷ ys) t = let c = t.count in absurd (omega (arith, c))
no_meta i (x ∷ xs) [] t = let c = t.count in absurd (omega (arith, c))
no_meta i (x ∷ xs) (y ∷ ys) t =
    let head : y.uses.meta ≡ [] = ap (λ (k : Kept). k.uses.meta) (t.each 0) in
    rw head (no_meta (i + 1) xs ys (record { count = let c = t.count in omega (arith, c); each = λ d. t.each (suc d) }))

meta_saved : (i : ℕ) (old new : List Kept) → AreTurned with_saved old new → saved_from i new ≡ meta_from i old
meta_saved i [] [] t = refl
meta_saved i [] (y ∷ ys) t = let c = t.count in absurd (omega (arith, c))
meta_saved i (x ∷ xs) [] t = let c = t.count in absurd (omega (arith, c))
meta_saved i (x ∷ xs) (y ∷ ys) t =
    let head : y.uses.saved ≡ x.uses.meta = ap (λ (k : Kept). k.uses.saved) (t.each 0) in
    rw head (ap (λ (list : List Dva). addresses i x.uses.meta ++ list) (meta_saved (i + 1) xs ys (record { count = let c = t.count in omega (arith, c); each = λ d. t.each (suc d) })))

synced_saved : (old new : List Kept) → AreTurned with_saved old new → synced_in new ≡ synced_in old
synced_saved [] [] t = refl
synced_saved [] (y ∷ ys) t = let c = t.count in absurd (omega (arith, c))
synced_saved (x ∷ xs) [] t = let c = t.count in absurd (omega (arith, c))
synced_saved (x ∷ xs) (y ∷ ys) t =
    let head : y.moves.synced ≡ x.moves.synced = ap (λ (k : Kept). k.moves.synced) (t.each 0) in
    let rest = synced_saved xs ys (record { count = let c = t.count in omega (arith, c); each = λ d. t.each (suc d) }) in
    let one = sum_by-cons (λ (k : Kept). k.moves.synced) x xs in
    let two = sum_by-cons (λ (k : Kept). k.moves.synced) y ys in
    omega (arith, head, rest, one, two)

pub holds : (txg : ℕ) (whole : Whole) (s t : Devices) (devs new_devs : List Kept) → AreTurned with_saved devs new_devs → IsSpace whole s devs → IsSpace (record whole { ckpt = Held txg }) t new_devs → saved_from 0 devs ≡ []
    → steps.HoldsCheckpoint (space_of whole devs) (space_of (record whole { ckpt = Held txg }) new_devs) txg
holds txg whole s t devs new_devs turned old new none =
    let next : Whole = record whole { ckpt = Held txg } in
    record {
      roles = λ d u.
          roles_are next new_devs d u new
          ∙ (ap (λ (k : Kept). role_in k.uses u) (turned.each d)
          ∙ (saved_roles (free_at s d) (count_at s d) (kept_of devs d).uses (old.account d) (nothing_saved devs d none) u
          ∙ ap saved (sym (roles_are whole devs d u old))));
      fresh = λ d u. ap (λ (p : DevPart). has_unit p.fresh u) (part_is new_devs d) ∙ (ap (λ (k : Kept). has_unit k.moves.fresh u) (turned.each d) ∙ sym (ap (λ (p : DevPart). has_unit p.fresh u) (part_is devs d)));
      ckpt_is = refl;
      meta = no_meta 0 devs new_devs turned;
      saved_meta = meta_saved 0 devs new_devs turned;
      version = refl;
      cond = refl;
      synced = synced_saved devs new_devs turned;
      devices = length-map new_devs part_in ∙ (turned.count ∙ sym (length-map devs part_in));
      each = λ d. subst (λ (p : DevPart). IsSamePart p (part_of (map part_in new_devs) d)) (sym (part_is devs d))
          (subst (λ (p : DevPart). IsSamePart (part_in (kept_of devs d)) p) (sym (part_is new_devs d ∙ ap part_in (turned.each d)))
          (record { row = refl; entries = refl; counts = refl; late1 = refl; late2 = refl }));
      root = record {
        held = λ d u. was_held_is next new_devs d u ∙ (ap (λ (k : Kept). was_held_in k.uses u) (turned.each d) ∙ sym (was_held_is whole devs d u));
        kept = λ d u. was_kept_is next new_devs d u ∙ (ap (λ (k : Kept). was_kept_in k.uses u) (turned.each d) ∙ sym (was_kept_is whole devs d u));
        fresh = λ d u. was_fresh_is next new_devs d u ∙ (ap (λ (k : Kept). was_fresh_in k.moves u) (turned.each d) ∙ sym (was_fresh_is whole devs d u));
      };
      lawful = λ was. lawful next t new_devs new;
    }
