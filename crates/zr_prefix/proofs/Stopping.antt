-- What a crash shows between two lines and at a moment of one.
use Rattle.std.proofs.Common.{◌≡◌, ◌⊎◌, inl, inr, ℕ, true, List, [], Option, Some, None, refl, sym, subst}
use Rattle.std.proofs.lemmas.List.{append-nil}
use Rattle.std.specs.List.{AllByRecursion}
use Rattle.std.specs.Prelude.{IfSome, IsSomeAnd, is_some}
use Rattle.zr_command.specs.Meanings.{Disks, Run}
use Rattle.zr_image.specs.Honest.{IsLeft}
use Rattle.zr_model.specs.Objects.{Objects}
use Rattle.zr_model.specs.Runs.{Point, Turn, end_of}
use Rattle.zr_model.specs.State.{PoolState}
use Rattle.zr_open.specs.Shown.{Shows}
use Rattle.zr_pool.proofs.Beginning.{of_beginning as left_at_beginning}
use Rattle.zr_pool.specs.Behind.{IsOfBeginning, OpensTo, Showed}
use Rattle.zr_pool.specs.Pools.{DeviceState, stand_of}
use Rattle.zr_pool.specs.Turns.{IsWithin, RestsOn, on_devices}
use Rattle.zr_recorded.specs.Crashes.{ShowsPool}
use Rattle.zr_recorded.specs.Service.{IsWhole}
use Rattle.zr_script.specs.declared.command.Command.{Command}
use Rattle.zr_sync.specs.declared.open.OpenPool.{OpenPool}
use Rattle.zr_prefix.proofs.Prefixes.{begun_told, prefix_told}
use Rattle.zr_prefix.proofs.Tells.{no_way}
use Rattle.zr_prefix.specs.Prefix.{ComesOf, IsCovered, IsOfPrefix, IsTold, MayBeLost, ShowsPrefix}
use Rattle.zr_prefix.specs.Prefix.ComesOf.{of_beginning, of_opening, of_prefix}
use Rattle.zr_prefix.specs.Prefix.IsCovered.{while_closed, while_open}

some_told : {A : Type 0} → (o : Option A) → is_some o ≡ true → (a : A) × (o ≡ Some a)
some_told None some = no_way some
some_told (Some a) some = (a, refl)

module _ (p : Point DeviceState) (turns : List (Turn DeviceState)) (disks : Disks) (none : p.state.behind ≡ None) (run : Run on_devices p turns) where
  prefix : (objects : Objects) → (end_of p turns).state.behind ≡ Some objects → IsOfPrefix p turns objects
  prefix objects is = prefix_told p turns objects none run is

  -- as it was when the run began
  as_began : (first : Disks) → (end_of p turns).state.begun ≡ Some first → (due : Option Command) (image : List (List ℕ)) (objects : Objects) → IsOfBeginning first image → ComesOf p turns due image objects
  as_began first is due image objects left =
      let told = begun_told p turns first run is in
      of_beginning (inl (subst (λ (o : Option Disks). IsSomeAnd o (λ f. IsOfBeginning f image)) (sym told.0) left)) told.1

  rest_by : RestsOn (end_of p turns) disks → (due : Option Command) → IsTold (end_of p turns) → ShowsPrefix p turns due disks
  rest_by rests due (inl some) image left paths q shown =
      let last = some_told (end_of p turns).state.behind some in
      of_prefix (subst (IsOfPrefix p turns) (sym (rests.shows last.0 last.1 image left paths q shown)) (prefix last.0 last.1))
  rest_by rests due (inr some) image left paths q shown =
      let first = some_told (end_of p turns).state.begun some in
      as_began first.0 first.1 due image q.objects (left_at_beginning first.0 disks image (rests.unwritten first.0 first.1) left)

  pub rest_shows : IsTold (end_of p turns) → RestsOn (end_of p turns) disks → (due : Option Command) → ShowsPrefix p turns due disks
  rest_shows told rests due = rest_by rests due told

  -- where an import finds what was committed last
  pub pool_there : (x : OpenPool) (objects : Objects) → RestsOn (end_of p turns) disks → (end_of p turns).state.found ≡ true → (end_of p turns).state.account ≡ Some x → (end_of p turns).state.behind ≡ Some objects → IsWhole x → x.saved ≡ None
      → (image : List (List ℕ)) → IsLeft (stand_of disks) image → (paths : List (List ℕ)) → (q : PoolState) × Shows paths image q × (q.objects ≡ objects) × IsOfPrefix p turns objects
  pool_there x objects rests found account last whole unsaved image left paths =
      let finds = subst (λ (o : Option OpenPool). IfSome o (λ y. IsWhole y → y.saved ≡ None → (all : Objects) → (end_of p turns).state.behind ≡ Some all → (named : List (List ℕ)) → ShowsPool named all (stand_of disks))) account (rests.finds found) in
      let there = finds whole unsaved objects last paths image left.leaves in
      (there.0, there.1, there.2, prefix objects last)

  line_by : (command : Command) → IsTold (end_of p turns) → IsCovered (end_of p turns) command → IsWithin (end_of p turns) command disks → ShowsPrefix p turns (Some command) disks
  line_by command told (while_open some r is may) within image left paths q shown =
      let last = some_told (end_of p turns).state.behind some in
      elim (within.shows last.0 r last.1 is may image left paths q shown) [
        | inl same ↦ of_prefix (subst (IsOfPrefix p turns) (sym same) (prefix last.0 last.1))
        | inr same ↦ of_prefix (record { front = turns; back = []; parts = append-nil turns; told = (r, is, sym same); lost = tt })
      ]
  line_by command (inl some) (while_closed closed) within image left paths q shown =
      let last = some_told (end_of p turns).state.behind some in
      elim (within.opens last.0 closed last.1 image left paths q shown) [
        | inl same ↦ of_prefix (subst (IsOfPrefix p turns) (sym same) (prefix last.0 last.1))
        | inr opens ↦ of_opening opens
      ]
  line_by command (inr some) (while_closed closed) within image left paths q shown =
      let first = some_told (end_of p turns).state.begun some in
      elim (within.begins first.0 first.1 image left) [
        | inl same ↦ as_began first.0 first.1 (Some command) image q.objects same
        | inr shows ↦ by_shown (begun_told p turns first.0 run first.1).1 (shows paths q shown)
      ]
    where
      by_shown : AllByRecursion MayBeLost turns → Showed (end_of p turns).shelf q.objects ⊎ OpensTo (end_of p turns).shelf command q.objects → ComesOf p turns (Some command) image q.objects
      by_shown lost (inl showed) = of_beginning (inr showed) lost
      by_shown lost (inr opens) = of_opening opens

  pub line_shows : IsTold (end_of p turns) → (command : Command) → IsCovered (end_of p turns) command → IsWithin (end_of p turns) command disks → ShowsPrefix p turns (Some command) disks
  line_shows told command covered within = line_by command told covered within
