-- What the entry for a copy does to the space.
use Rattle.std.proofs.Common.{◌≡◌, ℕ, Bool, true, false, arith, if◌then◌else◌}
use Rattle.std.proofs.lemmas.Bool.Decides.{nat_tests}
use Rattle.zr_base.specs.declared.space.Extent.{Extent}
use Rattle.zr_base.specs.Extents.{has_unit, in_extent}
use Rattle.zr_rules.specs.Roles.Role.{FreshLive, FreshCopy}
use Rattle.zr_units.specs.Uses.{Uses, IsAccount}
use Rattle.zr_units.specs.Changes.{TurnsCopies}
use Rattle.zr_space.specs.Views.{role_in}

-- ---- the device that has the copy

-- units that the open group has for a block
abbrev pub AreFresh : Uses → Extent → Type 0
AreFresh x e = (u : ℕ) → in_extent e u ≡ true → role_in x u ≡ FreshLive

pub fresh_unit : (x : Uses) (u : ℕ) → role_in x u ≡ FreshLive → (has_unit x.held u ≡ true) × (has_unit x.born u ≡ true) × (has_unit x.kept u ≡ false) × (has_unit x.copies u ≡ false)
fresh_unit x u is = (grind (arith, nat_tests, is), grind (arith, nat_tests, is), grind (arith, nat_tests, is), grind (arith, nat_tests, is))

pub turned_account : (f : ℕ → Bool) (n : ℕ) (x y : Uses) (e : Extent) → IsAccount f n x → TurnsCopies x y e → AreFresh x e → IsAccount f n y
turned_account f n x y e a t fresh = record {
  once = λ u. let o = a.once u in let s = t.others in grind (arith, nat_tests, o, s);
  born = λ u is. let b = a.born u in let s = t.others in grind (arith, nat_tests, b, s, is);
  keeping = record {
    held = λ u is. let b = a.keeping.held u in let s = t.others in grind (arith, nat_tests, b, s, is);
    settled = λ u is. let b = a.keeping.settled u in let s = t.others in grind (arith, nat_tests, b, s, is);
    came = λ u is. let b = a.keeping.came u in let s = t.others in grind (arith, nat_tests, b, s, is);
    went = λ u is. let b = a.keeping.went u in let s = t.others in grind (arith, nat_tests, b, s, is);
  };
  copying = record {
    held = λ u is. let c = a.copying.held u in let m = t.copies.members u in let s = t.others in let h = (λ (at : in_extent e u ≡ true). (fresh_unit x u (fresh u at)).0) in grind (arith, nat_tests, c, m, s, h, is);
    unkept = λ u is. let c = a.copying.unkept u in let m = t.copies.members u in let s = t.others in let h = (λ (at : in_extent e u ≡ true). (fresh_unit x u (fresh u at)).2) in grind (arith, nat_tests, c, m, s, h, is);
  };
  sum = let m = a.sum in let s = t.others in grind (arith, m, s);
  small = let m = a.small in let s = t.others in grind (arith, m, s);
  lists = rw t.others (record { held = a.lists.held; born = a.lists.born; kept = a.lists.kept; came = a.lists.came; went = a.lists.went; copies = t.copies.maximal; freed = a.lists.freed; late1 = a.lists.late1; late2 = a.lists.late2; meta = a.lists.meta; saved = a.lists.saved });
}

pub turned_roles : (x y : Uses) (e : Extent) → TurnsCopies x y e → AreFresh x e → (u : ℕ) → role_in y u ≡ (if in_extent e u then FreshCopy else role_in x u)
turned_roles x y e t fresh u = rw t.others (let m = t.copies.members u in let f = fresh u in grind (arith, nat_tests, m, f))
