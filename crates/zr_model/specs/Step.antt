-- One command to a pool, as a pool of plain objects answers it.
use Rattle.std.specs.Prelude.{◌≡◌, ℕ, ◌&&◌, Bool, true, false, nat_le, List, length, if◌then◌else◌, Option, Some, None, is_some, MatchOption}
use Rattle.std.specs.FinMap as map
use Rattle.zr_base.specs.declared.refusal.Refusal.{Refusal}
use Rattle.zr_base.specs.declared.refusal.Refusal.TheVariants as refusal
use Rattle.zr_script.specs.declared.command.Command.{Command}
use Rattle.zr_script.specs.declared.command.Command.TheVariants as cmd
use Rattle.zr_script.specs.declared.reply.Reply.{Reply}
use Rattle.zr_script.specs.declared.reply.Reply.TheVariants as reply
use Rattle.zr_model.specs.Objects.{Object, Objects, blank, bytes_at, with_bytes, is_within}
use Rattle.zr_base.specs.Blocks.{is_block_size}
use Rattle.zr_model.specs.State.{PoolState, ShelfPart, Empty, Is, State, opened, created, with_objects}

-- the object is there, and the test of it holds
abbrev pub object_refusal : Option Object → (Object → Bool) → Option Refusal
object_refusal None test = Some refusal.NoSuchObject
object_refusal (Some o) test = if test o then None else Some refusal.OutOfRange

-- the first refusal of a command to these objects, in the order in which they are tried
abbrev pub refusal_of : Objects → Command → Option Refusal
refusal_of objects (cmd.Make id units) =
    if nat_le id 65535 && is_block_size units then (if is_some (map.get objects id) then Some refusal.ObjectExists else None) else Some refusal.OutOfRange
refusal_of objects (cmd.Write id off bytes) = object_refusal (map.get objects id) (λ o. is_within o.units off (length bytes))
refusal_of objects (cmd.Read id off len) = object_refusal (map.get objects id) (λ o. nat_le len 4096 && is_within o.units off len)
refusal_of objects _ = None

-- the one object changes
abbrev pub ChangesObject : PoolState → ℕ → (Object → Object) → State → Type 0
ChangesObject p id change new = (o : Object) × (map.get p.objects id ≡ Some o) × (new ≡ opened (with_objects p (map.insert p.objects id (change o))))

-- a command to an open pool that is not refused
abbrev pub Does : PoolState → Command → Reply → State → Type 0
Does p (cmd.Make id units) answer new = (answer ≡ reply.Done) × (new ≡ opened (with_objects p (map.insert p.objects id (blank units))))
Does p (cmd.Write id off bytes) answer new = (answer ≡ reply.Done) × ChangesObject p id (λ o. with_bytes o off bytes) new
Does p (cmd.Read id off len) answer new =
    (o : Object) × (map.get p.objects id ≡ Some o) × (answer ≡ reply.Data (bytes_at o.bytes off len)) × (new ≡ opened p)
Does p _ answer new = ⊥

-- an open pool: a refusal changes nothing
abbrev pub AnswersOpen : PoolState → Command → Reply → State → Type 0
AnswersOpen p command answer new = MatchOption (refusal_of p.objects command) (Does p command answer new) (λ r. (answer ≡ reply.No r) × (new ≡ opened p))

-- no pool yet: one is made on the devices of the words
abbrev pub AnswersEmpty : List (List ℕ) → Command → Reply → State → Type 0
AnswersEmpty paths (cmd.Create name guid devs) answer new = (devs ≡ paths) × (answer ≡ reply.Done) × (new ≡ opened (created name guid devs))
AnswersEmpty paths _ answer new = ⊥

abbrev pub AnswersBy : Bool → ShelfPart → List (List ℕ) → Command → Reply → State → Type 0
AnswersBy true (Is p) paths command answer new = AnswersOpen p command answer new
AnswersBy false Empty paths command answer new = AnswersEmpty paths command answer new
AnswersBy _ _ paths command answer new = ⊥

-- one command, on a shelf with these paths
abbrev pub Step : List (List ℕ) → State → Command → Reply → State → Type 0
Step paths old command answer new = AnswersBy old.is_open old.shelf paths command answer new

-- The command may stand where the pool is so: `create` on the devices of the words where there is none yet, and the others where one is open.
abbrev pub IsServed : List (List ℕ) → State → Command → Type 0
IsServed paths state (cmd.Create name guid devs) = (state.is_open ≡ false) × (devs ≡ paths)
IsServed paths state (cmd.Make id units) = state.is_open ≡ true
IsServed paths state (cmd.Write id off bytes) = state.is_open ≡ true
IsServed paths state (cmd.Read id off len) = state.is_open ≡ true
IsServed paths state _ = ⊥
