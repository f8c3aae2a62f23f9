-- Which sets of a device stay while metadata is put and given back.
use Rattle.std.proofs.Common.{◌≡◌, ℕ, Bool, true, false, not, ◌&&◌, ◌||◌, refl, sym, ◌∙◌, ap, arith}
use Rattle.std.proofs.lemmas.Bool.Decides.{nat_tests}
use Rattle.zr_base.specs.Extents.{has_unit}
use Rattle.zr_base.proofs.ExtentSets.{same_extents}
use Rattle.zr_rules.specs.Places.{part_of, is_held, is_kept, is_fresh}
use Rattle.zr_rules.specs.Roles.{Role, is_held_role, is_kept_role, is_free_role, is_meta_role, is_deferred_role}
use Rattle.zr_rules.specs.Roles.Role.{DeferredBlock, DeferredMeta}
use Rattle.zr_rules.specs.Space.{Space, OpenSets, nothing_opened, opened_of, was_held, was_kept, was_fresh, role_at, IsLawful}
use Rattle.zr_rules.specs.Frees.{MarksNothing}

-- ---- the role of a unit, by the sets that have it

-- the open group freed the unit of a block
abbrev pub is_deferred_block : Role → Bool
is_deferred_block DeferredBlock = true
is_deferred_block _ = false

-- its commit gave the unit of metadata back
abbrev pub is_deferred_meta : Role → Bool
is_deferred_meta DeferredMeta = true
is_deferred_meta _ = false

pub held_is : (s : Space) → IsLawful s → (d u : ℕ) → is_held_role (role_at s d u) ≡ is_held s.parts.devs d u
unfolding role_at
held_is s l d u = let o = l.once d u in let c = l.copies d u in grind (arith, nat_tests, o, c)

pub kept_is : (s : Space) → IsLawful s → (d u : ℕ) → is_kept_role (role_at s d u) ≡ is_kept s.parts.devs d u
unfolding role_at
kept_is s l d u = let o = l.once d u in let c = l.copies d u in grind (arith, nat_tests, o, c)

pub deferred_is : (s : Space) → IsLawful s → (d u : ℕ) → is_deferred_block (role_at s d u) ≡ has_unit (opened_of s d).deferred u
unfolding role_at
deferred_is s l d u = let o = l.once d u in grind (arith, nat_tests, o)

pub dropped_is : (s : Space) → IsLawful s → (d u : ℕ) → is_deferred_meta (role_at s d u) ≡ has_unit (opened_of s d).dropped u
unfolding role_at
dropped_is s l d u = let o = l.once d u in grind (arith, nat_tests, o)

-- ---- two roles of a unit

-- where only units that are free or metadata change their role, and held ones stay held ones, the same are kept
kept_stays : (p q : Role) → is_held_role q ≡ is_held_role p → ((is_free_role p || is_meta_role p) ≡ false → q ≡ p) → is_kept_role q ≡ is_kept_role p
kept_stays p q held stays = grind (arith, nat_tests, held, stays)

-- and where no more units wait, the same ones of blocks and of metadata wait since the open group
block_stays : (p q : Role) → ((is_free_role p || is_meta_role p) ≡ false → q ≡ p) → (is_deferred_role q ≡ true → is_deferred_role p ≡ true) → is_deferred_block q ≡ is_deferred_block p
block_stays p q stays waits = grind (arith, nat_tests, stays, waits)

meta_stays : (p q : Role) → ((is_free_role p || is_meta_role p) ≡ false → q ≡ p) → (is_deferred_role q ≡ true → is_deferred_role p ≡ true) → is_deferred_meta q ≡ is_deferred_meta p
meta_stays p q stays waits = grind (arith, nat_tests, stays, waits)

-- ---- the sets of two spaces

pub same_held : (a b : Space) → IsLawful a → IsLawful b → ((d u : ℕ) → is_held_role (role_at b d u) ≡ is_held_role (role_at a d u)) → (d : ℕ) → (part_of b.parts.devs d).held ≡ (part_of a.parts.devs d).held
same_held a b l m held d = same_extents 0 0 _ _ (m.sets d).held.maximal (l.sets d).held.maximal (λ u. sym (held_is b m d u) ∙ (held d u ∙ held_is a l d u))

pub same_kept : (a b : Space) → IsLawful a → IsLawful b → ((d u : ℕ) → is_held_role (role_at b d u) ≡ is_held_role (role_at a d u)) → ((d u : ℕ) → (is_free_role (role_at a d u) || is_meta_role (role_at a d u)) ≡ false → role_at b d u ≡ role_at a d u)
    → (d : ℕ) → (part_of b.parts.devs d).kept ≡ (part_of a.parts.devs d).kept
same_kept a b l m held stays d =
    same_extents 0 0 _ _ (m.sets d).kept.maximal (l.sets d).kept.maximal
    (λ u. sym (kept_is b m d u) ∙ (kept_stays (role_at a d u) (role_at b d u) (held d u) (stays d u) ∙ kept_is a l d u))

pub same_fresh : (a b : Space) → IsLawful a → IsLawful b → MarksNothing a b → (d : ℕ) → (part_of b.parts.devs d).fresh ≡ (part_of a.parts.devs d).fresh
same_fresh a b l m marks d = same_extents 0 0 _ _ (m.sets d).fresh.maximal (l.sets d).fresh.maximal (marks d)

pub same_waiting : (a b : Space) → IsLawful a → IsLawful b → ((d u : ℕ) → (is_free_role (role_at a d u) || is_meta_role (role_at a d u)) ≡ false → role_at b d u ≡ role_at a d u) → ((d u : ℕ) → is_deferred_role (role_at b d u) ≡ true → is_deferred_role (role_at a d u) ≡ true)
    → (d : ℕ) → ((opened_of b d).deferred ≡ (opened_of a d).deferred) × ((opened_of b d).dropped ≡ (opened_of a d).dropped)
same_waiting a b l m stays waits d =
    let deferred = same_extents 0 0 _ _ (m.sets d).deferred.maximal (l.sets d).deferred.maximal (λ u. sym (deferred_is b m d u) ∙ (block_stays (role_at a d u) (role_at b d u) (stays d u) (waits d u) ∙ deferred_is a l d u)) in
    let dropped = same_extents 0 0 _ _ (m.sets d).dropped.maximal (l.sets d).dropped.maximal (λ u. sym (dropped_is b m d u) ∙ (meta_stays (role_at a d u) (role_at b d u) (stays d u) (waits d u) ∙ dropped_is a l d u)) in
    (deferred, dropped)

-- ---- before the open group has done anything

-- nothing came to the set and nothing went
unchanged : (now : Bool) → ((now && not false) || false) ≡ now
unchanged true = refl
unchanged false = refl

pub held_before : (s : Space) (d u : ℕ) → opened_of s d ≡ nothing_opened → was_held s d u ≡ is_held s.parts.devs d u
held_before s d u none = ap (λ (o : OpenSets). (is_held s.parts.devs d u && not (has_unit o.born u)) || has_unit o.deferred u) none ∙ unchanged (is_held s.parts.devs d u)

pub kept_before : (s : Space) (d u : ℕ) → opened_of s d ≡ nothing_opened → was_kept s d u ≡ is_kept s.parts.devs d u
kept_before s d u none = ap (λ (o : OpenSets). (is_kept s.parts.devs d u && not (has_unit o.kept.came u)) || has_unit o.kept.went u) none ∙ unchanged (is_kept s.parts.devs d u)

pub fresh_before : (s : Space) (d u : ℕ) → opened_of s d ≡ nothing_opened → was_fresh s d u ≡ is_fresh s.parts.devs d u
fresh_before s d u none = ap (λ (o : OpenSets). (is_fresh s.parts.devs d u && not (has_unit o.fresh.came u)) || has_unit o.fresh.went u) none ∙ unchanged (is_fresh s.parts.devs d u)
