-- The first disk whose size a pool cannot have.
use Rattle.std.proofs.Common.{◌≡◌, ℕ, ◌<◌, ◌≤◌, List, length, Bool, true, false, not, cond, Option, None, Some, refl, sym, ◌∙◌, ap, arith}
use Rattle.std.specs.Prelude.{is_some, slice_index}
use Rattle.zr_label.specs.Geometry.{is_disk_size, units_of_size}
use Rattle.zr_slots.specs.Checks.{bad_size}
use Rattle.zr_slots.proofs.Finding.{find_some, find_none}

-- no units, so no size of a pool
pub unsized : (size version : ℕ) (units : Option ℕ) → units ≡ units_of_size size version → is_some units ≡ false → not (is_disk_size version size) ≡ true
unsized size version units is none = go (is_disk_size version size) _ (sym (ap is_some is) ∙ none)
  where
    go : (b : Bool) (u : ℕ) → is_some (cond b (Some u) None) ≡ false → not b ≡ true
    go true u h = absurd cc
    go false u h = refl

pub size_found : (sizes : List ℕ) (version : ℕ) (named : List ℕ) (i : ℕ) → i < length named → ((k : ℕ) → k < i → is_disk_size version (slice_index sizes (slice_index named k)) ≡ true) → not (is_disk_size version (slice_index sizes (slice_index named i))) ≡ true →
    bad_size sizes version named ≡ Some (slice_index named i)
size_found sizes version named i lt before here =
    find_some (λ slot. not (is_disk_size version (slice_index sizes slot))) named i 0 lt (λ k kl. ap not (before k kl)) here

pub size_none : (sizes : List ℕ) (version : ℕ) (named : List ℕ) (n : ℕ) → length named ≤ n → ((k : ℕ) → k < n → is_disk_size version (slice_index sizes (slice_index named k)) ≡ true) → (a : ℕ) → ¬ (bad_size sizes version named ≡ Some a)
size_none sizes version named n long all a h =
    let is = find_none (λ slot. not (is_disk_size version (slice_index sizes slot))) named 0 (λ k lt. ap not (all k (omega arith))) in
    let both : None ≡ Some a = sym is ∙ h in
    cc
