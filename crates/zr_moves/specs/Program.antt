-- What the program does with its words and its input, and what it leaves at each moment.
use Rattle.std.specs.Prelude.{◌≡◌, ◌≢◌, ◌⊎◌, ℕ, ◌+◌, ◌^◌, ◌≤◌, ◌<◌, ◌==◌, Bool, true, false, not, List, [], ◌∷◌, ◌++◌, length, map, take, count_by, Contains, Option, Some, None, unwrap_or, MatchOption, slice_get, if◌then◌else◌}
use Rattle.std.specs.List.{flat_map}
use Rattle.std.specs.Str.{bytes_eq}
use Rattle.sha2.specs.Sha256.{sha256}
use Rattle.zr_base.specs.declared.space.Policy.{Policy}
use Rattle.zr_base.specs.declared.refusal.Refusal.{Refusal}
use Rattle.zr_base.specs.declared.refusal.Refusal.TheVariants as refusal
use Rattle.zr_shelf.specs.Disks.{IsAtRest}
use Rattle.zr_shelf.specs.Moments.{World, Throughout}
use Rattle.zr_script.specs.declared.command.Command.{Command}
use Rattle.zr_script.specs.declared.command.Command.TheVariants as cmd
use Rattle.zr_script.specs.declared.reply.Reply.{Reply}
use Rattle.zr_script.specs.declared.reply.Reply.TheVariants as reply
use Rattle.zr_script.specs.CommandLine.{CommandLine, IsCommandLine}
use Rattle.zr_script.specs.Generated.{script_of}
use Rattle.zr_script.specs.Grammar.{IsLine}
use Rattle.zr_script.specs.Lines.{lines_of}
use Rattle.zr_script.specs.ReplyText.{End, Answered, BadWords, NoInput, NoOutput, DiskFault, BadLine, Damage, NoDevice, InputLimit, NoMemory, status_of, last_line, reply_text, generated_line}
use Rattle.zr_model.specs.State.{State}
use Rattle.zr_model.specs.Runs.{Turn, Asks, texts, bytes_to}
use Rattle.zr_moves.specs.Prefix.{Now, KeepsPrefix, KeepsSome, KeepsAll}
use Rattle.zr_moves.specs.Runs.{Standing, Act, Item, Given, Inserted, behind, turns_of, shelf_of, agenda, has_work, IsStart, Run, Happen, Plays, IsDue}
use Rattle.zr_moves.specs.Premises.{IsTrusted, HasLawfulGroups}

-- a chooser by its name, with its policy
abbrev pub Named : Type 0
Named = List ℕ × Policy

-- the policy of the chooser that the words select: the first of that name, or the first of all
abbrev pub policy_of : List Named → Option (List ℕ) → Option Policy
policy_of [] name = None
policy_of (c ∷ choosers) None = Some c.1
policy_of (c ∷ choosers) (Some name) = if bytes_eq c.0 name then Some c.1 else policy_of choosers (Some name)

-- the words are a command line for these choosers
pub record IsStarted (choosers : List Named) (words : List (List ℕ)) (line : CommandLine) (policy : Policy) : Type 0 where
  pub is_line : IsCommandLine words line
  pub policy_is : policy_of choosers line.policy ≡ Some policy

-- the line is outside the grammar
abbrev pub IsBad : List ℕ → Type 0
IsBad line = (command : Command) → IsLine line command → ⊥

-- the lines that are whole in what was taken of the input, and the bytes behind them
abbrev pub AreWhole : List ℕ → List (List ℕ) → List ℕ → Type 0
AreWhole taken lines behind = (taken ≡ flat_map (λ line. line ++ 10 ∷ []) lines ++ behind) × (Contains behind 10 → ⊥)

-- the lines of the input begin with these
abbrev pub BeginsWith : List ℕ → List (List ℕ) → Type 0
BeginsWith input lines = (more : List (List ℕ)) × (lines_of input ≡ lines ++ more)

-- the refusal tells of damage
abbrev pub TellsDamage : Refusal → Type 0
TellsDamage (refusal.Damaged at expected found) = Unit {0}
TellsDamage r = ⊥

-- What was answered when a run of a script ended so: of these lines all that was due but the rest.
abbrev pub IsEnd : End → List ℕ → List ℕ → List (List ℕ) → List (Item (List ℕ)) → Type 0
IsEnd Answered input taken lines rest =
    (rest ≡ []) × ((lines_of input ≡ lines) ⊎ ((quit : List ℕ) × (more : List (List ℕ)) × (lines_of input ≡ lines ++ quit ∷ more) × IsLine quit cmd.Quit))
IsEnd (BadLine n) input taken lines rest =
    (rest ≡ []) × (bad : List ℕ) × (more : List (List ℕ)) × (lines_of input ≡ lines ++ bad ∷ more) × IsBad bad × (n ≡ length lines + 1) × (length taken < bytes_to lines bad + 65536)
IsEnd NoInput input taken lines rest = (rest ≡ []) × (open_line : List ℕ) × AreWhole taken lines open_line
IsEnd InputLimit input taken lines rest = (rest ≡ []) × (length taken ≡ 2 ^ 32) × (open_line : List ℕ) × AreWhole taken lines open_line × (length open_line ≤ 16384)
IsEnd DiskFault input taken lines rest = BeginsWith input lines × (rest ≢ [])
IsEnd (Damage r) input taken lines rest = BeginsWith input lines × (rest ≢ []) × TellsDamage r
IsEnd NoOutput input taken lines rest = BeginsWith input lines
IsEnd NoMemory input taken lines rest = BeginsWith input lines
IsEnd BadWords input taken lines rest = ⊥
IsEnd NoDevice input taken lines rest = ⊥

-- the bytes sent: the replies in order and the last line, or where the output failed a front of that
abbrev pub IsSent : End → List (Turn State) → List ℕ → Type 0
IsSent NoOutput turns sent = (rest : List ℕ) × (end : End) × (sent ++ rest ≡ texts turns ++ last_line end)
IsSent end turns sent = sent ≡ texts turns ++ last_line end

-- how things stand behind all acts
abbrev pub last_of : Standing → List Act → Standing
last_of s [] = s
last_of s (a ∷ acts) = last_of (behind a) acts

-- A device fault or damage stops the run at the command that is due, and want of memory there or between two. Else no command is being done.
abbrev pub StopsAt : End → Type 0 → Option Command → Type 0
StopsAt DiskFault IsNext stopped = IsNext × (stopped ≢ None)
StopsAt (Damage r) IsNext stopped = IsNext × (stopped ≢ None)
StopsAt NoMemory IsNext stopped = IsNext ⊎ (stopped ≡ None)
StopsAt end IsNext stopped = stopped ≡ None

-- The replies to a script are those of one run of the pool.
pub record AnswersScript (policy : Policy) (rounds : ℕ) (start : Standing) (input taken : List ℕ) (end : End) (acts : List Act) (stopped : Option Command) (sent : List ℕ) : Type 0 where
  pub lines : List (List ℕ)
  pub front : List (Item (List ℕ))
  pub rest : List (Item (List ℕ))
  pub due : agenda rounds lines ≡ front ++ rest
  pub plays : Plays Asks front start acts
  pub run : Run policy start acts
  pub stops_at : StopsAt end (IsDue Asks rest (last_of start acts) stopped) stopped
  pub ended : IsEnd end input taken lines rest
  pub sent_is : IsSent end (turns_of acts) sent

-- what may be done behind the first j acts: the next one's command, and behind the last the one at which the run stopped
abbrev pub IsDoing : List Act → ℕ → Option Command → Option Command → Type 0
IsDoing acts j stopped doing = (doing ≡ None) ⊎ MatchOption (slice_get acts j) (doing ≡ stopped) (λ a. doing ≡ Some a.turn.command)

-- a run behind its first j acts; behind all of them the last line is sent
abbrev pub now_at : List ℕ → Standing → List Act → End → ℕ → Option Command → Now
now_at before start acts end j doing =
    record { before = before; start = start.point; turns = take j (turns_of acts); doing = doing; ending = (if j == length acts then last_line end else []) }

-- at each moment from the opening on, an honest crash leaves a prefix
abbrev pub LeavesPrefixes : Standing → List Act → End → Option Command → World → World → Type 0
LeavesPrefixes start acts end stopped opening closing =
    Throughout (λ stand. (j : ℕ) × (doing : Option Command) × (j ≤ length acts) × IsDoing acts j stopped doing
    × KeepsPrefix (HasLawfulGroups start.point.shelf) (now_at opening.now.sent start acts end j doing) stand) opening closing

-- the devices are being attached: nothing is taken, sent or written
abbrev pub IsAttaching : World → World → Type 0
IsAttaching old new = Throughout (λ stand. (stand.sent ≡ old.now.sent) × (stand.left ≡ old.now.left) × (stand.writes ≡ [])) old new

-- the shelf when all devices are attached: nothing waits to be written, and no pool is open
pub record IsOpening (paths : List (List ℕ)) (w : World) (start : Standing) : Type 0 where
  pub paths_are : w.now.paths ≡ paths
  pub rest : IsAtRest w.now
  pub shelf : start.point.shelf ≡ shelf_of w.now
  pub is_start : IsStart start

abbrev pub paths_in : CommandLine → List (List ℕ)
paths_in line = map (λ (dev : List ℕ × Option ℕ). dev.0) line.devs

-- A script that was run: the devices were attached, and from then on, where what they have can be trusted, the replies are those of one run and each moment
-- leaves a prefix.
pub record RunsScript (line : CommandLine) (policy : Policy) (old new : World) (end : End) : Type 0 where
  pub opening : World
  pub attached : IsAttaching old opening
  pub start : Standing
  pub opened : IsOpening (paths_in line) opening start
  pub taken : List ℕ
  pub input : opening.now.left ≡ taken ++ new.now.left
  pub sent : List ℕ
  pub output : new.now.sent ≡ opening.now.sent ++ sent
  pub acts : List Act
  pub stopped : Option Command
  pub answers : IsTrusted start.point.shelf → AnswersScript policy (unwrap_or line.auto 0) start opening.now.left taken end acts stopped sent
  pub happens : IsTrusted start.point.shelf → Happen acts opening new
  pub prefixes : IsTrusted start.point.shelf → LeavesPrefixes start acts end stopped opening new

abbrev pub is_refused : Turn State → Bool
is_refused t = refuses t.answer
  where
    refuses : Reply → Bool
    refuses (reply.No r) = true
    refuses answer = false

-- the reply to a `sum`, a refusal among them
abbrev pub sum_text : Turn State → List ℕ
sum_text t = text_of t.command
  where
    text_of : Command → List ℕ
    text_of (cmd.Sum id) = reply_text t.answer
    text_of command = []

-- the turns of the commands that are given, without the steps that were put in
abbrev pub given_turns : {A : Type 0} → List (Item A) → Standing → List Act → List (Turn State)
given_turns [] s acts = []
given_turns (Given c ∷ items) s [] = []
given_turns (Given c ∷ items) s (a ∷ acts) = a.turn ∷ given_turns items (behind a) acts
given_turns (Inserted c ∷ items) s [] = []
given_turns (Inserted c ∷ items) s (a ∷ acts) = if has_work s c then given_turns items (behind a) acts else given_turns items s (a ∷ acts)

-- the one line of a generated run: how many commands were accepted and refused, and the sum of the replies to its last sums
abbrev pub generated_text : ℕ → ℕ → List (Turn State) → List ℕ
generated_text number count given = generated_line number count (count_by (λ t. not (is_refused t)) given) (count_by is_refused given) (sha256 (flat_map sum_text given))

-- what is sent by a generated run that ends so: its line, the last line of the stop, or where the output failed a front of one of them
abbrev pub IsGeneratedText : End → List ℕ → List ℕ → Type 0
IsGeneratedText Answered text sent = sent ≡ text
IsGeneratedText NoOutput text sent = (rest : List ℕ) × (end : End) × ((sent ++ rest ≡ text) ⊎ (sent ++ rest ≡ last_line end))
IsGeneratedText end text sent = sent ≡ last_line end

-- a generated run is done to its end, or stops at what is due next
abbrev pub IsGeneratedEnd : End → List (Item Command) → Type 0
IsGeneratedEnd Answered rest = rest ≡ []
IsGeneratedEnd DiskFault rest = rest ≢ []
IsGeneratedEnd (Damage r) rest = (rest ≢ []) × TellsDamage r
IsGeneratedEnd NoOutput rest = Unit {0}
IsGeneratedEnd NoMemory rest = Unit {0}
IsGeneratedEnd end rest = ⊥

-- A generated run is one run of the pool over its commands.
pub record Generates (policy : Policy) (rounds number count : ℕ) (devs : List (List ℕ)) (start : Standing) (end : End) (acts : List Act) (stopped : Option Command) (sent : List ℕ) : Type 0 where
  pub front : List (Item Command)
  pub rest : List (Item Command)
  pub due : agenda rounds (script_of number count devs) ≡ front ++ rest
  pub plays : Plays (λ c command. command ≡ c) front start acts
  pub run : Run policy start acts
  pub stops_at : StopsAt end (IsDue (λ c command. command ≡ c) rest (last_of start acts) stopped) stopped
  pub ended : IsGeneratedEnd end rest
  pub sent_is : IsGeneratedText end (generated_text number count (given_turns front start acts)) sent

-- At each moment an honest crash leaves some state of the run; once its line was sent, the last one.
abbrev pub LeavesStates : Standing → List Act → End → Option Command → World → World → Type 0
LeavesStates start acts end stopped opening closing =
    Throughout (λ stand. (j : ℕ) × (doing : Option Command) × (j ≤ length acts) × IsDoing acts j stopped doing
    × KeepsSome (HasLawfulGroups start.point.shelf) (now_at opening.now.sent start acts end j doing) stand
    × (end ≡ Answered → stand.sent ≡ closing.now.sent → KeepsAll (HasLawfulGroups start.point.shelf) (now_at opening.now.sent start acts end (length acts) None) stand)) opening closing

-- the same of a generated run, which takes no input and sends one line
pub record RunsGenerated (line : CommandLine) (policy : Policy) (number count : ℕ) (old new : World) (end : End) : Type 0 where
  pub opening : World
  pub attached : IsAttaching old opening
  pub start : Standing
  pub opened : IsOpening (paths_in line) opening start
  pub input : new.now.left ≡ opening.now.left
  pub sent : List ℕ
  pub output : new.now.sent ≡ opening.now.sent ++ sent
  pub acts : List Act
  pub stopped : Option Command
  pub answers : IsTrusted start.point.shelf → Generates policy (unwrap_or line.auto 0) number count (paths_in line) start end acts stopped sent
  pub happens : IsTrusted start.point.shelf → Happen acts opening new
  pub states : IsTrusted start.point.shelf → LeavesStates start acts end stopped opening new

-- the run that the words ask for
abbrev pub RunsBy : CommandLine → Policy → World → World → End → Type 0
RunsBy line policy old new end = MatchOption line.generate (RunsScript line policy old new end) (λ n. RunsGenerated line policy n.0 n.1 old new end)

-- it ended while the devices were attached
abbrev pub EndsEarly : World → World → End → Type 0
EndsEarly old new NoDevice = IsAttaching old new
EndsEarly old new NoMemory = IsAttaching old new
EndsEarly old new end = ⊥

-- the words are no command line
abbrev pub HasNoStart : List Named → List (List ℕ) → Type 0
HasNoStart choosers words = (line : CommandLine) (policy : Policy) → IsStarted choosers words line policy → ⊥

-- no disk is attached yet, and nothing waits to be written
abbrev pub IsUnused : World → Type 0
IsUnused w = (w.now.paths ≡ []) × IsAtRest w.now

-- What the program does: nothing where the words are no command line, and else one run, unless a device or memory was missing before it.
pub record Does (choosers : List Named) (words : List (List ℕ)) (old new : World) (status : ℕ) : Type 0 where
  pub no_words : HasNoStart choosers words → ((status ≡ 1) ⊎ (status ≡ 9)) × (new.now ≡ old.now)
  pub bad_words : status ≡ 1 → HasNoStart choosers words
  pub runs : (line : CommandLine) (policy : Policy) → IsUnused old → IsStarted choosers words line policy → (end : End) × (status_of end ≡ status) × (EndsEarly old new end ⊎ RunsBy line policy old new end)
