-- The role of a unit, by the sets that have it.
use Rattle.std.proofs.Common.{◌≡◌, ℕ, ◌+◌, ◌≤◌, Bool, true, false, not, nat_lt, refl, arith, if◌then◌else◌}
use Rattle.std.proofs.lemmas.Bool.Decides.{nat_tests}
use Rattle.zr_base.specs.Extents.{has_unit}
use Rattle.zr_rules.specs.Places.{one_if, part_of, is_held, is_kept, address_hits}
use Rattle.zr_rules.specs.Roles.{Role, is_held_role, is_kept_role}
use Rattle.zr_rules.specs.Roles.Role.{Absent, Free, FreshLive, Live, FreshCopy, Copy, Kept, DeferredBlock, DeferredMeta, Late1Block, Late1Meta, Late2Block, Late2Meta, Meta, SavedMeta}
use Rattle.zr_rules.specs.Space.{Space, opened_of, is_born, copy_hits, has_late, has_place, role_at}

abbrev pub is_deferred_block : Role → Bool
is_deferred_block DeferredBlock = true
is_deferred_block _ = false

abbrev pub is_late1_block : Role → Bool
is_late1_block Late1Block = true
is_late1_block _ = false

abbrev pub is_late2_block : Role → Bool
is_late2_block Late2Block = true
is_late2_block _ = false

abbrev pub is_late1_meta : Role → Bool
is_late1_meta Late1Meta = true
is_late1_meta _ = false

abbrev pub is_late2_meta : Role → Bool
is_late2_meta Late2Meta = true
is_late2_meta _ = false

abbrev pub is_current_meta : Role → Bool
is_current_meta Meta = true
is_current_meta _ = false

-- in which sets a unit is
pub record Bits : Type 0 where
  pub place : Bool
  pub held : Bool
  pub kept : Bool
  pub copy : Bool
  pub born : Bool
  pub deferred : Bool
  pub dropped : Bool
  pub late1_block : Bool
  pub late1_meta : Bool
  pub late2_block : Bool
  pub late2_meta : Bool
  pub meta : Bool
  pub saved : Bool

unfoldable pub role_of : Bits → Role
role_of b =
    if not b.place then Absent
    else (if b.held then (if b.kept then Kept else (if b.copy then (if b.born then FreshCopy else Copy) else (if b.born then FreshLive else Live)))
    else (if b.deferred then DeferredBlock
    else (if b.dropped then DeferredMeta
    else (if b.late1_block then Late1Block
    else (if b.late1_meta then Late1Meta
    else (if b.late2_block then Late2Block
    else (if b.late2_meta then Late2Meta
    else (if b.meta then Meta
    else (if b.saved then SavedMeta
    else Free)))))))))

-- one use at most
pub record IsOnce (b : Bits) : Type 0 where
  pub once : one_if b.held + one_if b.deferred + one_if b.dropped + one_if b.late1_block + one_if b.late1_meta + one_if b.late2_block + one_if b.late2_meta + one_if b.meta + one_if b.saved ≤ one_if b.place
  pub kept : one_if b.kept ≤ one_if b.held

unfoldable pub bits : Space → ℕ → ℕ → Bits
bits s d u = record {
  place = has_place s d u;
  held = is_held s.parts.devs d u;
  kept = is_kept s.parts.devs d u;
  copy = nat_lt 0 (copy_hits s.parts.devs d u);
  born = is_born s d u;
  deferred = has_unit (opened_of s d).deferred u;
  dropped = has_unit (opened_of s d).dropped u;
  late1_block = has_late false (part_of s.parts.devs d).late1 u;
  late1_meta = has_late true (part_of s.parts.devs d).late1 u;
  late2_block = has_late false (part_of s.parts.devs d).late2 u;
  late2_meta = has_late true (part_of s.parts.devs d).late2 u;
  meta = nat_lt 0 (address_hits s.meta d u);
  saved = nat_lt 0 (address_hits s.saved_meta d u);
}

pub role_is : (s : Space) (d u : ℕ) → role_at s d u ≡ role_of (bits s d u)
unfolding role_at role_of bits
role_is s d u = refl

pub held_bit : (b : Bits) → IsOnce b → is_held_role (role_of b) ≡ b.held
unfolding role_of
held_bit b o = let i = o.once in let k = o.kept in grind (arith, nat_tests, i, k)

pub kept_bit : (b : Bits) → IsOnce b → is_kept_role (role_of b) ≡ b.kept
unfolding role_of
kept_bit b o = let i = o.once in let k = o.kept in grind (arith, nat_tests, i, k)

pub deferred_bit : (b : Bits) → IsOnce b → is_deferred_block (role_of b) ≡ b.deferred
unfolding role_of
deferred_bit b o = let i = o.once in let k = o.kept in grind (arith, nat_tests, i, k)

pub late1_bit : (b : Bits) → IsOnce b → is_late1_block (role_of b) ≡ b.late1_block
unfolding role_of
late1_bit b o = let i = o.once in let k = o.kept in grind (arith, nat_tests, i, k)

pub meta_bit : (b : Bits) → IsOnce b → is_current_meta (role_of b) ≡ b.meta
unfolding role_of
meta_bit b o = let i = o.once in let k = o.kept in grind (arith, nat_tests, i, k)

pub late2_bit : (b : Bits) → IsOnce b → is_late2_block (role_of b) ≡ b.late2_block
unfolding role_of
late2_bit b o = let i = o.once in let k = o.kept in grind (arith, nat_tests, i, k)

pub late1_meta_bit : (b : Bits) → IsOnce b → is_late1_meta (role_of b) ≡ b.late1_meta
unfolding role_of
late1_meta_bit b o = let i = o.once in let k = o.kept in grind (arith, nat_tests, i, k)

pub late2_meta_bit : (b : Bits) → IsOnce b → is_late2_meta (role_of b) ≡ b.late2_meta
unfolding role_of
late2_meta_bit b o = let i = o.once in let k = o.kept in grind (arith, nat_tests, i, k)
