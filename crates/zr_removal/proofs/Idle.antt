-- Where there is no metadata to be given back, nothing is changed.
use Rattle.std.proofs.Common.{◌≡◌, ◌∙◌, ℕ, ◌+◌, ◌<◌, Bool, true, false, List, [], refl, sym, ap, subst, arith}
use Rattle.std.specs.Prelude.{sum_by}
use Rattle.std.proofs.lemmas.Bool.Decides.{nat_tests}
use Rattle.zr_base.specs.declared.space.Dva.{Dva}
use Rattle.zr_rules.specs.Roles.{is_meta_role}
use Rattle.zr_rules.specs.Space.{Space, role_at}
use Rattle.zr_space.specs.Metadata.{GivesMeta}
use Rattle.zr_space.specs.Saved.{GivesSaved, saved_left}

pub idle_saved : (first mid new : Space) (b : Bool) → mid ≡ first → first.saved_meta ≡ [] → (b ≡ true → GivesSaved mid new) → (b ≡ false → (new ≡ mid) × (mid.saved_meta ≡ [])) → new ≡ first
idle_saved first mid new true same none did left =
    let less = (did refl).less in
    let nothing : saved_left mid ≡ 0 = ap (λ (s : Space). saved_left s) same ∙ ap (λ (them : List Dva). sum_by (λ (a : Dva). a.len) them) none in
    absurd (omega (arith, less, nothing))
idle_saved first mid new false same none did left = (left refl).0 ∙ same

pub idle_current : (d : ℕ) (first mid new : Space) (b : Bool) {P : Type 0} → mid ≡ first → ((u : ℕ) → is_meta_role (role_at first d u) ≡ false) → (b ≡ true → GivesMeta mid new d) → (b ≡ false → (new ≡ mid) × P) → new ≡ first
idle_current d first mid new true same none did left =
    let run = (did refl).meta in
    let at = (did refl).at in
    let some = run.is.some in
    let has = run.current at.start (grind (arith, nat_tests, some)) in
    let no_way : false ≡ true = sym (none at.start) ∙ (ap (λ (s : Space). is_meta_role (role_at s d at.start)) (sym same) ∙ (ap (λ (e : ℕ). is_meta_role (role_at mid e at.start)) (sym run.dev) ∙ ap is_meta_role has)) in
    absurd cc
idle_current d first mid new false same none did left = (left refl).0 ∙ same
