-- The sets of a device, by the roles of its units.
use Rattle.std.proofs.Common.{◌≡◌, ℕ, ◌+◌, ◌<◌, ◌≤◌, Bool, true, false, not, ◌&&◌, ◌||◌, nat_lt, List, [], ◌∷◌, ap, ◌∙◌, sym, arith, if◌then◌else◌}
use Rattle.std.proofs.lemmas.Bool.Decides.{nat_tests}
use Rattle.std.proofs.lemmas.List.Sums.{sum_by-cons}
use Rattle.zr_base.specs.declared.space.LateRun.{LateRun}
use Rattle.zr_base.specs.Extents.{in_extent, has_unit}
use Rattle.zr_rules.specs.Places.{one_if, part_of, is_held, is_kept, hits_late, address_hits}
use Rattle.zr_rules.specs.Roles.{is_held_role, is_kept_role}
use Rattle.zr_rules.specs.Space.{Space, opened_of, has_late, has_place, role_at, set_hits, IsLawful}
use Rattle.zr_reckon.proofs.Bits.{IsOnce, bits, role_is, is_deferred_block, is_late1_block, is_late2_block, is_late1_meta, is_late2_meta, is_current_meta, held_bit, kept_bit, deferred_bit, late1_bit, late2_bit, meta_bit, late1_meta_bit, late2_meta_bit}

some_hits : (n : ℕ) → one_if (nat_lt 0 n) ≤ n
some_hits n = grind (arith, nat_tests)

-- each kind of run of a late set counts
pub late_hits_most : (runs : List LateRun) (u : ℕ) → one_if (has_late false runs u) + one_if (has_late true runs u) ≤ hits_late runs u
late_hits_most [] u = omega arith
late_hits_most (r ∷ runs) u =
    let rest = late_hits_most runs u in
    let more = sum_by-cons (λ (q : LateRun). one_if (in_extent q.at u)) r runs in
    by_kind r.meta (in_extent r.at u) (has_late false runs u) (has_late true runs u) (hits_late runs u) rest more
  where
    by_kind : (meta here a b : Bool) (n : ℕ) → one_if a + one_if b ≤ n → hits_late (r ∷ runs) u ≡ one_if here + n → one_if (((if false then meta else not meta) && here) || a) + one_if (((if true then meta else not meta) && here) || b) ≤ hits_late (r ∷ runs) u
    by_kind meta here a b n le is = grind (arith, nat_tests, le, is)

pub once : (s : Space) (d u : ℕ) → IsLawful s → IsOnce (bits s d u)
unfolding bits
once s d u l = record {
  once =
      let o = l.once d u in
      let a = late_hits_most (part_of s.parts.devs d).late1 u in
      let b = late_hits_most (part_of s.parts.devs d).late2 u in
      let m = some_hits (address_hits s.meta d u) in
      let v = some_hits (address_hits s.saved_meta d u) in
      omega (arith, o, a, b, m, v);
  kept = let c = l.copies d u in omega (arith, c);
}

pub held_is : (s : Space) (d u : ℕ) → IsLawful s → is_held s.parts.devs d u ≡ is_held_role (role_at s d u)
unfolding bits
held_is s d u l = sym (ap is_held_role (role_is s d u) ∙ held_bit (bits s d u) (once s d u l))

pub kept_is : (s : Space) (d u : ℕ) → IsLawful s → is_kept s.parts.devs d u ≡ is_kept_role (role_at s d u)
unfolding bits
kept_is s d u l = sym (ap is_kept_role (role_is s d u) ∙ kept_bit (bits s d u) (once s d u l))

pub deferred_is : (s : Space) (d u : ℕ) → IsLawful s → has_unit (opened_of s d).deferred u ≡ is_deferred_block (role_at s d u)
unfolding bits
deferred_is s d u l = sym (ap is_deferred_block (role_is s d u) ∙ deferred_bit (bits s d u) (once s d u l))

pub late1_is : (s : Space) (d u : ℕ) → IsLawful s → has_late false (part_of s.parts.devs d).late1 u ≡ is_late1_block (role_at s d u)
unfolding bits
late1_is s d u l = sym (ap is_late1_block (role_is s d u) ∙ late1_bit (bits s d u) (once s d u l))

pub late2_is : (s : Space) (d u : ℕ) → IsLawful s → has_late false (part_of s.parts.devs d).late2 u ≡ is_late2_block (role_at s d u)
unfolding bits
late2_is s d u l = sym (ap is_late2_block (role_is s d u) ∙ late2_bit (bits s d u) (once s d u l))

pub late1_meta_is : (s : Space) (d u : ℕ) → IsLawful s → has_late true (part_of s.parts.devs d).late1 u ≡ is_late1_meta (role_at s d u)
unfolding bits
late1_meta_is s d u l = sym (ap is_late1_meta (role_is s d u) ∙ late1_meta_bit (bits s d u) (once s d u l))

pub late2_meta_is : (s : Space) (d u : ℕ) → IsLawful s → has_late true (part_of s.parts.devs d).late2 u ≡ is_late2_meta (role_at s d u)
unfolding bits
late2_meta_is s d u l = sym (ap is_late2_meta (role_is s d u) ∙ late2_meta_bit (bits s d u) (once s d u l))

pub meta_is : (s : Space) (d u : ℕ) → IsLawful s → nat_lt 0 (address_hits s.meta d u) ≡ is_current_meta (role_at s d u)
unfolding bits
meta_is s d u l = sym (ap is_current_meta (role_is s d u) ∙ meta_bit (bits s d u) (once s d u l))

-- a unit that has a use is there
pub there_is : (s : Space) (d u : ℕ) → IsLawful s → 0 < set_hits s d u → has_place s d u ≡ true
there_is s d u l some = let o = l.once d u in grind (arith, nat_tests, o, some)
