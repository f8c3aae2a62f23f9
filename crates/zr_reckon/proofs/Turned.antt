-- The units of one address turn from one role to another.
use Rattle.std.proofs.Common.{◌≡◌, ◌≢◌, ℕ, ◌+◌, ◌≤◌, Bool, true, false, not, ◌&&◌, ◌||◌, List, refl, ◌∙◌, sym, ap, arith, if◌then◌else◌, ⊎_elim}
use Rattle.std.proofs.lemmas.Bool.{cases_eq}
use Rattle.std.proofs.lemmas.Bool.Decides.{nat_tests}
use Rattle.zr_base.specs.declared.space.Extent.{Extent}
use Rattle.zr_base.specs.declared.space.Dva.{Dva}
use Rattle.zr_base.specs.Extents.{has_unit, IsMaximal}
use Rattle.zr_base.proofs.ExtentSets.{same_extents}
use Rattle.zr_rules.specs.Owed.{set_words}
use Rattle.zr_rules.specs.Places.{in_address, part_of}
use Rattle.zr_rules.specs.Roles.{Role, is_held_role, is_kept_role}
use Rattle.zr_rules.specs.Space.{Space, opened_of, role_at, IsLawful}
use Rattle.zr_reckon.specs.Sets.{IsWith, IsWithout}
use Rattle.zr_reckon.proofs.Bits.{is_deferred_block}
use Rattle.zr_reckon.proofs.RoleSets.{held_is, kept_is, deferred_is}
use Rattle.zr_reckon.proofs.SetWords.{more_words, short_words, less_words}
use Rattle.zr_reckon.proofs.Counting.{only_at}

abbrev pub extent_of : Dva → Extent
extent_of a = record { start = a.start; len = a.len }

-- a set of a device to which the units of an address come ..
pub words_with : (v d : ℕ) (es fs : List Extent) (a : Dva) → IsMaximal es → IsMaximal fs → a.len ≤ 32768 → ((u : ℕ) → has_unit fs u ≡ (has_unit es u || in_address a d u)) → set_words v fs ≤ set_words v es + only_at a.dev 1 d
words_with v d es fs a m n short same = ⊎_elim
    (λ here.
    let w : IsWith es fs (extent_of a) = record { old_maximal = m; new_maximal = n; members = λ u. let s = same u in grind (arith, nat_tests, s, here) } in
    let more = more_words v es fs (extent_of a) w in
    let one = short_words v (extent_of a) short in
    grind (arith, nat_tests, more, one, here))
    (λ away.
    let e = same_extents 0 0 fs es n m (λ u. let s = same u in grind (arith, nat_tests, s, away)) in
    let w = ap (set_words v) e in
    grind (arith, nat_tests, w, away))
    (cases_eq d a.dev)

-- .. or from which they go
pub words_without : (v d : ℕ) (es fs : List Extent) (a : Dva) → IsMaximal es → IsMaximal fs → ((u : ℕ) → has_unit fs u ≡ (has_unit es u && not (in_address a d u))) → set_words v fs ≤ set_words v es + only_at a.dev 2 d
words_without v d es fs a m n same = ⊎_elim
    (λ here.
    let w : IsWithout es fs (extent_of a) = record { old_maximal = m; new_maximal = n; members = λ u. let s = same u in grind (arith, nat_tests, s, here) } in
    let less = less_words v es fs (extent_of a) w in
    grind (arith, nat_tests, less, here))
    (λ away.
    let e = same_extents 0 0 fs es n m (λ u. let s = same u in grind (arith, nat_tests, s, away)) in
    let w = ap (set_words v) e in
    grind (arith, nat_tests, w, away))
    (cases_eq d a.dev)

pub record Turns (old new : Space) (a : Dva) (before after : Role) : Type 0 where
  pub was : (d u : ℕ) → in_address a d u ≡ true → role_at old d u ≡ before
  pub roles : (d u : ℕ) → role_at new d u ≡ (if in_address a d u then after else role_at old d u)

module _ (old new : Space) (a : Dva) (before after : Role) (t : Turns old new a before after) where
  kind_by : (kind : Role → Bool) (d u : ℕ) (b : Bool) → in_address a d u ≡ b → kind (role_at new d u) ≡ (if b then kind after else kind (role_at old d u))
  kind_by kind d u true is = ap kind (t.roles d u) ∙ (rw is refl)
  kind_by kind d u false is = ap kind (t.roles d u) ∙ (rw is refl)

  pub kind_same : (kind : Role → Bool) → kind after ≡ kind before → (d u : ℕ) → kind (role_at new d u) ≡ kind (role_at old d u)
  kind_same kind same d u = by_test (in_address a d u) refl
    where
      by_test : (b : Bool) → in_address a d u ≡ b → kind (role_at new d u) ≡ kind (role_at old d u)
      by_test true is = kind_by kind d u true is ∙ (same ∙ sym (ap kind (t.was d u is)))
      by_test false is = kind_by kind d u false is

  pub kind_away : (kind : Role → Bool) (d : ℕ) → d ≢ a.dev → (u : ℕ) → kind (role_at new d u) ≡ kind (role_at old d u)
  kind_away kind d away u = kind_by kind d u false (grind (arith, nat_tests, away))

  pub kind_with : (kind : Role → Bool) → kind before ≡ false → kind after ≡ true → (d u : ℕ) → kind (role_at new d u) ≡ (kind (role_at old d u) || in_address a d u)
  kind_with kind lacks has d u = by_test (in_address a d u) refl
    where
      by_test : (b : Bool) → in_address a d u ≡ b → kind (role_at new d u) ≡ (kind (role_at old d u) || in_address a d u)
      by_test true is = let k = kind_by kind d u true is in let w = ap kind (t.was d u is) in grind (arith, k, w, is, has, lacks)
      by_test false is = let k = kind_by kind d u false is in grind (arith, k, is)

  pub kind_without : (kind : Role → Bool) → kind before ≡ true → kind after ≡ false → (d u : ℕ) → kind (role_at new d u) ≡ (kind (role_at old d u) && not (in_address a d u))
  kind_without kind has lacks d u = by_test (in_address a d u) refl
    where
      by_test : (b : Bool) → in_address a d u ≡ b → kind (role_at new d u) ≡ (kind (role_at old d u) && not (in_address a d u))
      by_test true is = let k = kind_by kind d u true is in let w = ap kind (t.was d u is) in grind (arith, k, w, is, has, lacks)
      by_test false is = let k = kind_by kind d u false is in grind (arith, k, is)

  module _ (l : IsLawful old) (m : IsLawful new) (short : a.len ≤ 32768) (v d : ℕ) where
    pub held_comes : is_held_role before ≡ false → is_held_role after ≡ true → set_words v (part_of new.parts.devs d).held ≤ set_words v (part_of old.parts.devs d).held + only_at a.dev 1 d
    held_comes lacks has = words_with v d _ _ a (l.sets d).held.maximal (m.sets d).held.maximal short
        (λ u. held_is new d u m ∙ (kind_with is_held_role lacks has d u ∙ ap (λ (b : Bool). b || in_address a d u) (sym (held_is old d u l))))

    pub held_goes : is_held_role before ≡ true → is_held_role after ≡ false → set_words v (part_of new.parts.devs d).held ≤ set_words v (part_of old.parts.devs d).held + only_at a.dev 2 d
    held_goes has lacks = words_without v d _ _ a (l.sets d).held.maximal (m.sets d).held.maximal
        (λ u. held_is new d u m ∙ (kind_without is_held_role has lacks d u ∙ ap (λ (b : Bool). b && not (in_address a d u)) (sym (held_is old d u l))))

    pub kept_comes : is_kept_role before ≡ false → is_kept_role after ≡ true → set_words v (part_of new.parts.devs d).kept ≤ set_words v (part_of old.parts.devs d).kept + only_at a.dev 1 d
    kept_comes lacks has = words_with v d _ _ a (l.sets d).kept.maximal (m.sets d).kept.maximal short
        (λ u. kept_is new d u m ∙ (kind_with is_kept_role lacks has d u ∙ ap (λ (b : Bool). b || in_address a d u) (sym (kept_is old d u l))))

    pub deferred_comes : is_deferred_block before ≡ false → is_deferred_block after ≡ true → set_words v (opened_of new d).deferred ≤ set_words v (opened_of old d).deferred + only_at a.dev 1 d
    deferred_comes lacks has = words_with v d _ _ a (l.sets d).deferred.maximal (m.sets d).deferred.maximal short
        (λ u. deferred_is new d u m ∙ (kind_with is_deferred_block lacks has d u ∙ ap (λ (b : Bool). b || in_address a d u) (sym (deferred_is old d u l))))
