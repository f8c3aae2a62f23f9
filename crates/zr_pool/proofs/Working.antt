-- Which actors have work on an open pool.
use Rattle.std.proofs.Common.{◌≡◌, ◌↔◌, ◌∙◌, ℕ, zero, suc, Bool, true, false, List, [], ◌∷◌, refl, sym, ap, subst}
use Rattle.std.specs.Prelude.{IsTrue, ◌||◌}
use Rattle.std.specs.List.{list_any}
use Rattle.zr_base.specs.declared.space.CkptPart.{CkptPart}
use Rattle.zr_base.specs.declared.space.CkptPart.TheVariants.{Clear, Held, Discarding}
use Rattle.zr_base.specs.declared.space.DevPart.{DevPart}
use Rattle.zr_image.specs.StateOf.{is_discarding}
use Rattle.zr_model.specs.declared.actor.Actor.{Actor}
use Rattle.zr_model.specs.declared.actor.Actor.TheVariants.{Evac, Discard, Condense}
use Rattle.zr_removal.specs.Refusals.{HasRemoval, HasWork}
use Rattle.zr_rules.specs.Places.{is_leaving, state_of_dev}
use Rattle.zr_rules.specs.Space.{Space}
use Rattle.zr_rules.specs.Steps.{has_condensing}
use Rattle.zr_model.specs.State.{State, Work}
use Rattle.zr_sync.specs.declared.open.OpenPool.{OpenPool}
use Rattle.zr_pool.specs.Pools.{IsStateOf, is_evacuating, work_of}
use Rattle.zr_pool.specs.Turns.{works_on}

false_true : false ≡ true → ⊥
false_true e = cc

-- two tests of which each holds where the other does
same_test : (a b : Bool) → (a ≡ true → b ≡ true) → (b ≡ true → a ≡ true) → a ≡ b
same_test true true f g = refl
same_test true false f g = absurd (false_true (f refl))
same_test false true f g = absurd (false_true (g refl))
same_test false false f g = refl

abbrev is_leaving_part : DevPart → Bool
is_leaving_part p = is_leaving p.row.state

or_right : (a b : Bool) → b ≡ true → (a || b) ≡ true
or_right true b is = refl
or_right false b is = is

pub any_leaving : (ps : List DevPart) (d : ℕ) → is_leaving (state_of_dev ps d) ≡ true → list_any is_leaving_part ps ≡ true
any_leaving [] d is = absurd (false_true is)
any_leaving (p ∷ ps) zero is = ap (λ (b : Bool). b || list_any is_leaving_part ps) is
any_leaving (p ∷ ps) (suc d) is = or_right (is_leaving_part p) (list_any is_leaving_part ps) (any_leaving ps d is)

-- a removal goes on
pub removal_works : (s : Space) → HasRemoval s → is_evacuating s ≡ true
removal_works s (d, leaving) = any_leaving s.parts.devs d leaving

one_leaving : (ps : List DevPart) → list_any is_leaving_part ps ≡ true → (d : ℕ) × (is_leaving (state_of_dev ps d) ≡ true)
one_leaving [] is = absurd (false_true is)
one_leaving (p ∷ ps) is = by_first (is_leaving_part p) refl (λ rest. one_leaving ps rest)
  where
    by_first : (b : Bool) → is_leaving_part p ≡ b → (list_any is_leaving_part ps ≡ true → (d : ℕ) × (is_leaving (state_of_dev ps d) ≡ true)) → (d : ℕ) × (is_leaving (state_of_dev (p ∷ ps) d) ≡ true)
    by_first true first later = (0, first)
    by_first false first later =
        let rest = later (sym (ap (λ (b : Bool). b || list_any is_leaving_part ps) first) ∙ is) in
        (suc rest.0, rest.1)

discards_so : (k : CkptPart) → is_discarding k ≡ true → k ≡ Discarding
discards_so Clear is = absurd (false_true is)
discards_so (Held txg) is = absurd (false_true is)
discards_so Discarding is = refl

-- what is answered of an actor is what the state has
pub works_so : (s : Space) (actor : Actor) (result : Bool) → (IsTrue result ↔ HasWork s actor) → result ≡ works_on true (work_of s) actor
works_so s Evac result is = same_test result (is_evacuating s) (λ yes. let w = is.0 yes in any_leaving s.parts.devs w.0 w.1) (λ any. is.1 (one_leaving s.parts.devs any))
works_so s Discard result is = same_test result (is_discarding s.parts.ckpt) (λ yes. ap is_discarding (is.0 yes)) (λ some. is.1 (discards_so s.parts.ckpt some))
works_so s Condense result is = same_test result (has_condensing s) (λ yes. is.0 yes) (λ due. is.1 due)

-- so of the state for which a pool stands
pub state_works : (disks : List (List ℕ)) (pool : OpenPool) (state : State) (actor : Actor) (result : Bool) → IsStateOf disks pool state → (IsTrue result ↔ HasWork pool.space actor) → result ≡ works_on state.is_open state.work actor
state_works disks pool state actor result stands is =
    subst (λ (b : Bool). result ≡ works_on b state.work actor) (sym stands.is_open)
    (subst (λ (w : Work). result ≡ works_on true w actor) (sym stands.work) (works_so pool.space actor result is))
