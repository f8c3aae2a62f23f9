-- A root that is shown is lawful.
use Rattle.std.proofs.Common.{◌≡◌, ℕ, List, [], Option, Some, None, Bool, true, false, not, eqb, refl, sym, ◌∙◌, ap, subst, arith}
use Rattle.std.proofs.lemmas.Bool.{eqb-true}
use Rattle.std.specs.Prelude.{MatchOption, Contains}
use Rattle.zr_label.specs.Blocks.{IsUber}
use Rattle.zr_label.specs.declared.root.Uber.{Uber}
use Rattle.zr_label.specs.declared.root.Label.{Label}
use Rattle.zr_label.specs.declared.root.Seen.{Seen}
use Rattle.zr_scan.specs.Scan.{IsOwnRoot}
use Rattle.zr_image.specs.Current.{seen_at, IsShownAt, IsCurrent}
use Rattle.zr_slots.specs.Checks.{AreLawful, IsSlotOf}
use Rattle.zr_slots.proofs.Shown.{shown_in}

pub its_own : (l : Option Label) (us : List Uber) (u : Uber) → MatchOption l (us ≡ []) (λ l. (v : Uber) → Contains us v → IsOwnRoot l v) → Contains us u → (m : Label) × (l ≡ Some m) × IsOwnRoot m u
its_own None us u h has = let none = subst (λ (vs : List Uber). Contains vs u) h has in let lt = none.1 in absurd (omega arith)
its_own (Some l) us u h has = (l, refl, h u has)

pub current_lawful : (seen : List Seen) → AreLawful seen → (u : Uber) → IsCurrent seen u → IsUber u
current_lawful seen lawful u current =
    let shown = current.shown in
    let slot = lawful shown.0 (shown_in seen shown.0 u shown.1) in
    (its_own (seen_at seen shown.0).label (seen_at seen shown.0).ubers u slot.lawful.roots shown.1).2.lawful

-- a root that is shown is of the pool of the label
pub pool_is : (seen : List Seen) (slot : ℕ) (l : Label) → IsSlotOf seen slot → (seen_at seen slot).label ≡ Some l → (u : Uber) → IsShownAt seen slot u → u.guid ≡ l.guid
pool_is seen slot l known is u has =
    let own = its_own (seen_at seen slot).label (seen_at seen slot).ubers u known.lawful.roots has in
    let both : Some own.0 ≡ Some l = sym own.1 ∙ is in
    let same : own.0 ≡ l = cc in
    own.2.suits.pool ∙ ap (λ (m : Label). m.guid) same

-- two pools are one where the test says so
pub same_pool : (a b : ℕ) → not (eqb a b) ≡ false → a ≡ b
same_pool a b h = eqb-true a b (go (eqb a b) h)
  where
    go : (t : Bool) → not t ≡ false → t ≡ true
    go true h = refl
    go false h = absurd cc
