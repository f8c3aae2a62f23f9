-- What a stop leaves of the lines that were answered: those of a prefix, behind which none was answered with a commit.
use Rattle.std.specs.Prelude.{◌≡◌, ◌⊎◌, ℕ, true, false, List, ◌++◌, IsSomeAnd, Option, None, is_some}
use Rattle.std.specs.List.{AllByRecursion}
use Rattle.zr_command.specs.Meanings.{Disks}
use Rattle.zr_image.specs.Honest.{IsLeft}
use Rattle.zr_model.specs.Objects.{Objects}
use Rattle.zr_model.specs.Runs.{Point, Turn, end_of}
use Rattle.zr_model.specs.State.{PoolState, Is}
use Rattle.zr_open.specs.Shown.{Shows}
use Rattle.zr_pool.specs.Plain.{is_background}
use Rattle.zr_pool.specs.Behind.{IsOfBeginning, OpensTo, Showed, TellsOf, is_acknowledged, is_in_group, is_refusal, may_stop}
use Rattle.zr_pool.specs.Pools.{DeviceState, stand_of}
use Rattle.zr_script.specs.declared.command.Command.{Command}

-- it is told at the point which objects were committed last, or that nothing was written yet
abbrev pub IsTold : Point DeviceState → Type 0
IsTold p = (is_some p.state.behind ≡ true) ⊎ (is_some p.state.begun ≡ true)

-- A stop may lose the line: it works in the group that is open, copied units, or was refused, and its answer acknowledges no commit.
pub record MayBeLost (t : Turn DeviceState) : Type 0 where
  pub small : (is_in_group t.command ≡ true) ⊎ ((is_background t.command t.answer ≡ true) ⊎ (is_refusal t.answer ≡ true))
  pub unacknowledged : is_acknowledged t.answer t.command ≡ false

-- These objects are told behind a prefix of the lines, and a stop may lose each line behind it.
pub record IsOfPrefix (p : Point DeviceState) (turns : List (Turn DeviceState)) (objects : Objects) : Type 0 where
  pub front : List (Turn DeviceState)
  pub back : List (Turn DeviceState)
  pub parts : front ++ back ≡ turns
  pub told : TellsOf (end_of p front).state.told.shelf objects
  pub lost : AllByRecursion MayBeLost back

-- an honest crash may have left it when the run began, or behind a flush then
abbrev pub IsAsBegan : Point DeviceState → List (List ℕ) → Type 0
IsAsBegan p image = IsSomeAnd p.state.begun (λ first. IsOfBeginning first image)

-- What a crash shows of some lines, of which none is under way or this one:
pub data ComesOf (p : Point DeviceState) (turns : List (Turn DeviceState)) (due : Option Command) (image : List (List ℕ)) (objects : Objects) : Type 0 where
  -- the objects behind a prefix of them,
  of_prefix : IsOfPrefix p turns objects → ComesOf p turns due image objects
  -- what it would have shown when the run began, or the objects that the disks showed before the line under way, where a stop may lose each line,
  of_beginning : IsAsBegan p image ⊎ Showed (end_of p turns).shelf objects → AllByRecursion MayBeLost turns → ComesOf p turns due image objects
  -- or those of a pool which the line under way makes, or goes back to.
  of_opening : IsSomeAnd due (λ command. OpensTo (end_of p turns).shelf command objects) → ComesOf p turns due image objects

-- whatever an honest crash leaves of the disks comes of the lines, if it shows a pool
abbrev pub ShowsPrefix : Point DeviceState → List (Turn DeviceState) → Option Command → Disks → Type 0
ShowsPrefix p turns due disks = (image : List (List ℕ)) → IsLeft (stand_of disks) image → (paths : List (List ℕ)) (q : PoolState) → Shows paths image q → ComesOf p turns due image q.objects

-- What a crash shows is told at each moment of the line: of a pool that is told it works in the group that is open, or ends it by a commit, and ends no removal; or no pool is open.
pub data IsCovered (p : Point DeviceState) (command : Command) : Type 0 where
  while_open : is_some p.state.behind ≡ true → (q : PoolState) → p.state.told.shelf ≡ Is q → may_stop p.state.account p.state.trees command ≡ true → IsCovered p command
  while_closed : p.state.account ≡ None → IsCovered p command
