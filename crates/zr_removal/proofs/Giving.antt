-- Metadata that is given back run by run, and what stays copied meanwhile.
use Rattle.std.proofs.Common.{◌≡◌, ◌∙◌, ◌⊎◌, inl, inr, ℕ, ◌+◌, ◌≤◌, ◌<◌, Bool, true, false, [], ◌∷◌, refl, sym, ap, subst, arith, if◌then◌else◌}
use Rattle.std.proofs.lemmas.Bool.Decides.{nat_tests}
use Rattle.zr_base.specs.declared.space.DevRow.{DevRow}
use Rattle.zr_base.specs.declared.space.Dva.{Dva}
use Rattle.zr_rules.specs.Frees.{in_any}
use Rattle.zr_rules.specs.Mappings.{end_of_last}
use Rattle.zr_rules.specs.Places.{in_address, is_held, is_leaving, one_if, state_of_dev}
use Rattle.zr_rules.specs.Roles.{Role, dropped, is_held_role, is_meta_role}
use Rattle.zr_rules.specs.Roles.Role.{DeferredMeta, Meta, SavedMeta}
use Rattle.zr_rules.specs.Space.{Space, IsLawful, frontier, has_place, role_at, set_hits}
use Rattle.zr_space.specs.Metadata.{GivesMeta, meta_left}
use Rattle.zr_space.specs.Plans.{IsCopied}
use Rattle.zr_space.specs.Saved.{GivesSaved, saved_left}
use Rattle.zr_vdev.specs.declared.kind.Kind.TheVariants as kinds
use Rattle.zr_vdev.proofs.Follows.{gives_others, others_itself, others_more}
use Rattle.zr_removal.specs.Metadata.{GivesMetadata}

if_true : {A : Type 0} (b : Bool) (x y : A) → b ≡ true → (if b then x else y) ≡ x
if_true true x y h = refl
if_true false x y h = cc

if_false : {A : Type 0} (b : Bool) (x y : A) → b ≡ false → (if b then x else y) ≡ y
if_false true x y h = cc
if_false false x y h = refl

abbrev IsGiven : Role → Role → Type 0
IsGiven old new = (new ≡ old) ⊎ ((is_meta_role old ≡ true) × (new ≡ DeferredMeta))

-- a run has one role throughout, one of metadata
run_roles : (old new : Space) (at : Dva) (r : Role) → is_meta_role r ≡ true → dropped r ≡ DeferredMeta → ((u : ℕ) → in_address at at.dev u ≡ true → role_at old at.dev u ≡ r)
    → ((d u : ℕ) → role_at new d u ≡ (if in_any (at ∷ []) d u then dropped (role_at old d u) else role_at old d u)) → (d u : ℕ) → IsGiven (role_at old d u) (role_at new d u)
run_roles old new at r meta drops has roles d u = (elim (in_address at d u) as (λ (b : Bool). in_address at d u ≡ b → IsGiven (role_at old d u) (role_at new d u)) [
  | true ↦ λ is.
      let dev : d ≡ at.dev = grind (arith, nat_tests, is) in
      let here : in_address at at.dev u ≡ true = subst (λ (e : ℕ). in_address at e u ≡ true) dev is in
      let one : role_at old d u ≡ r = subst (λ (e : ℕ). role_at old e u ≡ r) (sym dev) (has u here) in
      let any : in_any (at ∷ []) d u ≡ true = grind (arith, nat_tests, is) in
      inr (ap is_meta_role one ∙ meta, roles d u ∙ (if_true (in_any (at ∷ []) d u) _ _ any ∙ (ap dropped one ∙ drops)))
  | false ↦ λ is.
      let any : in_any (at ∷ []) d u ≡ false = grind (arith, nat_tests, is) in
      inl (roles d u ∙ if_false (in_any (at ∷ []) d u) _ _ any)
]) refl

gives_saved : (old new : Space) → GivesSaved old new → GivesMetadata old new
gives_saved old new g = record { roles = run_roles old new g.at SavedMeta refl refl g.saved.saved g.drops.roles; others = gives_others kinds.Meta old new g.at 0 g.saved.is (g.drops, g.parts) }

gives_current : (old new : Space) (d : ℕ) → GivesMeta old new d → GivesMetadata old new
gives_current old new d g = record { roles = run_roles old new g.at Meta refl refl g.meta.current g.drops.roles; others = gives_others kinds.Meta old new g.at 0 g.meta.is (g.drops, g.parts) }

pub gives_itself : (s : Space) → GivesMetadata s s
gives_itself s = record { roles = λ d u. inl refl; others = others_itself kinds.Meta s }

given_then : (a b c : Role) → IsGiven a b → IsGiven b c → IsGiven a c
given_then a b c (inl p) (inl q) = inl (q ∙ p)
given_then a b c (inl p) (inr q) = inr (sym (ap is_meta_role p) ∙ q.0, q.1)
given_then a b c (inr p) (inl q) = inr (p.0, q ∙ p.1)
given_then a b c (inr p) (inr q) = inr (p.0, q.1)

pub gives_then : (a b c : Space) → GivesMetadata a b → GivesMetadata b c → GivesMetadata a c
gives_then a b c p q = record {
  roles = λ d u. given_then (role_at a d u) (role_at b d u) (role_at c d u) (p.roles d u) (q.roles d u);
  others = others_more kinds.Meta a b c p.others q.others;
}

pub saved_step : (first mid new : Space) (b : Bool) → GivesMetadata first mid → (b ≡ true → GivesSaved mid new) → (b ≡ false → (new ≡ mid) × (mid.saved_meta ≡ [])) → GivesMetadata first new
saved_step first mid new true g did left = gives_then first mid new g (gives_saved mid new (did refl))
saved_step first mid new false g did left = subst (GivesMetadata first) (sym (left refl).0) g

pub none_saved : (mid new : Space) (b : Bool) → (b ≡ false → (new ≡ mid) × (mid.saved_meta ≡ [])) → b ≡ false → new.saved_meta ≡ []
none_saved mid new b left is = let n = left is in ap (λ (s : Space). s.saved_meta) n.0 ∙ n.1

pub less_saved : (mid new : Space) (b : Bool) → (b ≡ true → GivesSaved mid new) → (b ≡ false → (new ≡ mid) × (mid.saved_meta ≡ [])) → saved_left new + (if b then 1 else 0) < saved_left mid + 1
less_saved mid new true did left = let less = (did refl).less in omega (arith, less)
less_saved mid new false did left = let same = ap (λ (s : Space). saved_left s) (left refl).0 in omega (arith, same)

module _ (d : ℕ) (first mid new : Space) where
  pub current_step : (b : Bool) {P : Type 0} → GivesMetadata first mid → (b ≡ true → GivesMeta mid new d) → (b ≡ false → (new ≡ mid) × P) → GivesMetadata first new
  current_step true g did left = gives_then first mid new g (gives_current mid new d (did refl))
  current_step false g did left = subst (GivesMetadata first) (sym (left refl).0) g

  pub unsaved_step : (b : Bool) {P : Type 0} → mid.saved_meta ≡ [] → (b ≡ true → GivesMeta mid new d) → (b ≡ false → (new ≡ mid) × P) → new.saved_meta ≡ []
  unsaved_step true none did left = (did refl).saved ∙ none
  unsaved_step false none did left = ap (λ (s : Space). s.saved_meta) (left refl).0 ∙ none

  pub less_current : (b : Bool) {P : Type 0} → (b ≡ true → GivesMeta mid new d) → (b ≡ false → (new ≡ mid) × P) → meta_left new + (if b then 1 else 0) < meta_left mid + 1
  less_current true did left = let less = (did refl).less in omega (arith, less)
  less_current false did left = let same = ap (λ (s : Space). meta_left s) (left refl).0 in omega (arith, same)

-- ---- what is copied stays copied

-- a unit is held where its role says so
held_as : (s : Space) (d u : ℕ) → set_hits s d u ≤ one_if (has_place s d u) → is_held_role (role_at s d u) ≡ is_held s.parts.devs d u
unfolding role_at
held_as s d u once = grind (arith, nat_tests, once)

given_held : (a b : Role) → IsGiven a b → is_held_role b ≡ is_held_role a
given_held a b (inl same) = ap is_held_role same
given_held a b (inr g) = ap is_held_role g.1 ∙ sym (meta_unheld a g.0)
  where
    meta_unheld : (r : Role) → is_meta_role r ≡ true → is_held_role r ≡ false
    meta_unheld r is = grind (arith, nat_tests, is)

pub still_copied : (old new : Space) → GivesMetadata old new → IsLawful old → IsCopied old → IsCopied new
still_copied old new g lawful copied d u =
    let same = g.others.rows.each d in
    let state : is_leaving (state_of_dev new.parts.devs d) ≡ is_leaving (state_of_dev old.parts.devs d) = ap (λ (r : DevRow). is_leaving r.state) same.row in
    let from : frontier new d ≡ frontier old d = ap end_of_last same.entries in
    let held : is_held new.parts.devs d u ≡ is_held old.parts.devs d u =
    sym (held_as new d u ((g.others.rows.lawful lawful).once d u)) ∙ (given_held (role_at old d u) (role_at new d u) (g.roles d u) ∙ held_as old d u (lawful.once d u)) in
    let was = copied d u in
    grind (arith, nat_tests, state, from, held, was)
