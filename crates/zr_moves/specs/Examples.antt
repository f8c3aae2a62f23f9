-- Short runs and small trees on which the definitions are tried.
use Rattle.std.specs.Prelude.{◌≡◌, ℕ, [], ◌∷◌, None}
use Rattle.zr_bptr.specs.declared.Bptr.{Bptr}
use Rattle.zr_script.specs.declared.command.Command.{Command}
use Rattle.zr_script.specs.declared.reply.Reply.{Reply}
use Rattle.std.specs.FinSet as set
use Rattle.zr_model.specs.Objects.{Object}
use Rattle.zr_model.specs.State.{State, no_pool}
use Rattle.zr_model.specs.Runs.{Point, Turn}
use Rattle.zr_moves.specs.Prefix.{Now}

-- no disks and no pool
abbrev pub nothing : Point State
nothing = record { shelf = record { paths = []; disks = [] }; state = no_pool }

-- one command that leaves all as it was
abbrev pub idle : Command → Reply → Turn State
idle command answer = record { command = command; answer = answer; point = nothing }

-- a run of one command, behind which nothing is sent
abbrev pub one_turn : Command → Reply → Now
one_turn command answer = record { before = []; start = nothing; turns = idle command answer ∷ []; doing = None; ending = [] }

-- a block of this level by its place
abbrev pub block_at : ℕ → ℕ → Bptr
block_at level start = record { at = record { dev = 0; start = start; len = 1 }; level = level; birth = 2; fill = 1; sum = [] }

-- the object has blocks of one unit, of which the first is lost
abbrev pub HasLostFirst : Object → Type 0
HasLostFirst o = (o.units ≡ 1) × (set.items o.lost ≡ 0 ∷ [])
