-- What it says that a current root was found.
use Rattle.std.proofs.Common.{◌≡◌, ℕ, List, Ok, sym, subst}
use Rattle.zr_base.specs.declared.refusal.Refusal.TheVariants.{NoPoolOnDevices}
use Rattle.zr_label.specs.declared.root.Uber.{Uber}
use Rattle.zr_label.specs.declared.root.Seen.{Seen}
use Rattle.zr_image.specs.Checks.{Check, ◌>>=◌, Gives, Finds}
use Rattle.zr_image.specs.Current.{IsKnown, IsCurrent, IsOnePool, HasDevices, FindsCurrent, ExcludesPair, ExcludesSlot, AreTwoPools, AreTwoRoots, AreTwoCopies, IsPair}
use Rattle.zr_image.proofs.Checking.{passed}

same_root : (u v : Uber) → Gives v (Ok u) → u ≡ v
same_root u v is = cc

module _ (seen : List Seen) where
  abbrev behind_root : Uber → Check Uber
  behind_root u = IsOnePool seen u >>= λ one. HasDevices seen u >>= λ there. Gives u

  pub finds_one_pool : (w : Uber) → FindsCurrent seen (Ok w) → IsOnePool seen w (Ok tt)
  finds_one_pool w found =
      let known = passed (IsKnown seen) (λ done. Finds (IsCurrent seen) NoPoolOnDevices >>= behind_root) w found in
      let current = passed (Finds (IsCurrent seen) NoPoolOnDevices) behind_root w known.2 in
      let one = passed (IsOnePool seen current.0) (λ done. HasDevices seen current.0 >>= λ there. Gives current.0) w current.2 in
      let there = passed (HasDevices seen current.0) (λ done. Gives current.0) w one.2 in
      subst (λ (u : Uber). IsOnePool seen u (Ok tt)) (sym (same_root w current.0 there.2)) one.1

  abbrev behind_pools : Uber → Check (Unit {0})
  behind_pools u = ExcludesPair (AreTwoRoots seen) >>= λ roots. ExcludesSlot (AreTwoRoots seen) >>= λ twice. ExcludesPair (AreTwoCopies u seen)

  pub one_root : (w : Uber) → IsOnePool seen w (Ok tt) → (p : ℕ × ℕ) → IsPair (AreTwoRoots seen) p → ⊥
  one_root w one =
      let pools = passed (ExcludesPair (AreTwoPools seen)) (λ done. behind_pools w) tt one in
      (passed (ExcludesPair (AreTwoRoots seen)) (λ done. ExcludesSlot (AreTwoRoots seen) >>= λ twice. ExcludesPair (AreTwoCopies w seen)) tt pools.2).1

  pub one_root_twice : (w : Uber) → IsOnePool seen w (Ok tt) → (slot : ℕ) → AreTwoRoots seen slot slot → ⊥
  one_root_twice w one =
      let pools = passed (ExcludesPair (AreTwoPools seen)) (λ done. behind_pools w) tt one in
      let roots = passed (ExcludesPair (AreTwoRoots seen)) (λ done. ExcludesSlot (AreTwoRoots seen) >>= λ twice. ExcludesPair (AreTwoCopies w seen)) tt pools.2 in
      (passed (ExcludesSlot (AreTwoRoots seen)) (λ done. ExcludesPair (AreTwoCopies w seen)) tt roots.2).1
