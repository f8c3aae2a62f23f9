-- The lines of a script.
use Rattle.std.specs.Prelude.{◌≡◌, ◌⊎◌, Option, Some, None, if◌then◌else◌, ℕ, ◌≤◌, ◌==◌, IsTrue, List, [], ◌∷◌, length, codes}
use Rattle.std.specs.List.{slice_split}
use Rattle.std.specs.Str.{bytes_eq}
use Rattle.zr_script.specs.declared.command.Command.{Command}
use Rattle.zr_script.specs.declared.command.Command.TheVariants as cmd
use Rattle.zr_script.specs.declared.command.Keyword.{Keyword}
use Rattle.zr_script.specs.declared.command.Keyword.TheVariants.{CreateWord, ImportWord, ExportWord, MakeWord, DropWord, WriteWord, FillWord, PunchWord, ReadWord, SumWord, SyncWord, AddWord, RemoveWord, CheckpointWord, StepWord, ListWord, StatusWord, MapWord, AuditWord, UpgradeWord, QuitWord}
use Rattle.zr_script.specs.Words.{IsNumber, IsGuid, IsByte, IsHex, is_name, is_path, are_paths}

-- what stands between single spaces
abbrev pub words_of : List ℕ → List (List ℕ)
words_of line = slice_split (λ b. b == 32) line

-- nothing follows the keyword
abbrev pub IsAlone : Command → List (List ℕ) → Command → Type 0
IsAlone meant words command = (words ≡ []) × (command ≡ meant)

-- one number follows
abbrev pub IsOneNumber : List (List ℕ) → ℕ → Type 0
IsOneNumber words n = (a : List ℕ) × (words ≡ a ∷ []) × IsNumber a n

-- one path follows
abbrev pub IsOnePath : List (List ℕ) → List ℕ → Type 0
IsOnePath words path = (words ≡ path ∷ []) × IsTrue (is_path path)

-- three numbers follow: an object, and where in it and how much
abbrev pub IsRange : List (List ℕ) → ℕ → ℕ → ℕ → Type 0
IsRange words id off len = (a b c : List ℕ) × (words ≡ a ∷ b ∷ c ∷ []) × IsNumber a id × IsNumber b off × IsNumber c len

-- the name, the identity and the devices of a new pool follow
abbrev pub IsPool : List (List ℕ) → List ℕ → ℕ → List (List ℕ) → Type 0
IsPool words name guid devs = (a : List ℕ) × (words ≡ name ∷ a ∷ devs) × IsTrue (is_name name) × IsGuid a guid × IsTrue (are_paths devs)

-- a pool of the newest version
abbrev pub IsCreateNew : List (List ℕ) → Command → Type 0
IsCreateNew words (cmd.Create name guid devs) = IsPool words name guid devs
IsCreateNew words _ = ⊥

-- a pool of version 1
abbrev pub IsCreateOld : List (List ℕ) → Command → Type 0
IsCreateOld words (cmd.CreateOld name guid devs) = IsPool words name guid devs
IsCreateOld words _ = ⊥

-- Each kind of line, by the words behind its keyword.
abbrev pub IsCreate : List (List ℕ) → Command → Type 0
IsCreate words command = IsCreateNew words command ⊎ ((rest : List (List ℕ)) × (words ≡ codes "-1" ∷ rest) × IsCreateOld rest command)

abbrev pub IsImport : List (List ℕ) → Command → Type 0
IsImport words cmd.Import = words ≡ []
IsImport words cmd.ImportRewind = words ≡ codes "rewind" ∷ []
IsImport words (cmd.ImportTxg txg) = (a : List ℕ) × (words ≡ codes "txg" ∷ a ∷ []) × IsNumber a txg
IsImport words _ = ⊥

abbrev pub IsMake : List (List ℕ) → Command → Type 0
IsMake words (cmd.Make id units) = (a b : List ℕ) × (words ≡ a ∷ b ∷ []) × IsNumber a id × IsNumber b units
IsMake words _ = ⊥

abbrev pub IsDrop : List (List ℕ) → Command → Type 0
IsDrop words (cmd.Drop id) = IsOneNumber words id
IsDrop words _ = ⊥

abbrev pub IsWrite : List (List ℕ) → Command → Type 0
IsWrite words (cmd.Write id off bytes) = (a b c : List ℕ) × (words ≡ a ∷ b ∷ c ∷ []) × IsNumber a id × IsNumber b off × IsHex c bytes
IsWrite words _ = ⊥

abbrev pub IsFill : List (List ℕ) → Command → Type 0
IsFill words (cmd.Fill id off len byte) = (a b c d : List ℕ) × (words ≡ a ∷ b ∷ c ∷ d ∷ []) × IsNumber a id × IsNumber b off × IsNumber c len × IsByte d byte
IsFill words _ = ⊥

abbrev pub IsPunch : List (List ℕ) → Command → Type 0
IsPunch words (cmd.Punch id off len) = IsRange words id off len
IsPunch words _ = ⊥

abbrev pub IsRead : List (List ℕ) → Command → Type 0
IsRead words (cmd.Read id off len) = IsRange words id off len
IsRead words _ = ⊥

abbrev pub IsSum : List (List ℕ) → Command → Type 0
IsSum words (cmd.Sum id) = IsOneNumber words id
IsSum words _ = ⊥

abbrev pub IsAdd : List (List ℕ) → Command → Type 0
IsAdd words (cmd.Add dev) = IsOnePath words dev
IsAdd words _ = ⊥

abbrev pub IsRemove : List (List ℕ) → Command → Type 0
IsRemove words (cmd.Remove dev) = IsOnePath words dev
IsRemove words (cmd.Estimate dev) = (words ≡ codes "-n" ∷ dev ∷ []) × IsTrue (is_path dev)
IsRemove words cmd.Cancel = words ≡ codes "-s" ∷ []
IsRemove words _ = ⊥

abbrev pub IsCheckpoint : List (List ℕ) → Command → Type 0
IsCheckpoint words cmd.Checkpoint = words ≡ []
IsCheckpoint words cmd.Discard = words ≡ codes "-d" ∷ []
IsCheckpoint words _ = ⊥

abbrev pub IsStep : List (List ℕ) → Command → Type 0
IsStep words cmd.StepEvac = words ≡ codes "evac" ∷ []
IsStep words cmd.StepDiscard = words ≡ codes "discard" ∷ []
IsStep words cmd.StepCondense = words ≡ codes "condense" ∷ []
IsStep words _ = ⊥

abbrev pub IsMap : List (List ℕ) → Command → Type 0
IsMap words (cmd.Map index) = IsOneNumber words index
IsMap words _ = ⊥

-- the keyword that a word is, where it begins no line on objects, devices or roots
unfoldable pub step_keyword_of : List ℕ → Option Keyword
step_keyword_of word =
    if bytes_eq word (codes "step") then Some StepWord else (if bytes_eq word (codes "list") then Some ListWord else (if bytes_eq word (codes "status") then Some StatusWord else (
    if bytes_eq word (codes "map") then Some MapWord else (if bytes_eq word (codes "audit") then Some AuditWord else (if bytes_eq word (codes "upgrade") then Some UpgradeWord else (
    if bytes_eq word (codes "quit") then Some QuitWord else None))))))

-- the keyword that a word is, where it begins no line on objects
unfoldable pub pool_keyword_of : List ℕ → Option Keyword
pool_keyword_of word =
    if bytes_eq word (codes "create") then Some CreateWord else (if bytes_eq word (codes "import") then Some ImportWord else (if bytes_eq word (codes "export") then Some ExportWord else (
    if bytes_eq word (codes "sync") then Some SyncWord else (if bytes_eq word (codes "add") then Some AddWord else (if bytes_eq word (codes "remove") then Some RemoveWord else (
    if bytes_eq word (codes "checkpoint") then Some CheckpointWord else step_keyword_of word))))))

-- the keyword that a word is
unfoldable pub keyword_of : List ℕ → Option Keyword
keyword_of word =
    if bytes_eq word (codes "make") then Some MakeWord else (if bytes_eq word (codes "drop") then Some DropWord else (if bytes_eq word (codes "write") then Some WriteWord else (
    if bytes_eq word (codes "fill") then Some FillWord else (if bytes_eq word (codes "punch") then Some PunchWord else (if bytes_eq word (codes "read") then Some ReadWord else (
    if bytes_eq word (codes "sum") then Some SumWord else pool_keyword_of word))))))

-- the words behind a keyword are a spelling of the command
abbrev pub IsArguments : Option Keyword → List (List ℕ) → Command → Type 0
IsArguments None words command = ⊥
IsArguments (Some CreateWord) words command = IsCreate words command
IsArguments (Some ImportWord) words command = IsImport words command
IsArguments (Some ExportWord) words command = IsAlone cmd.Export words command
IsArguments (Some MakeWord) words command = IsMake words command
IsArguments (Some DropWord) words command = IsDrop words command
IsArguments (Some WriteWord) words command = IsWrite words command
IsArguments (Some FillWord) words command = IsFill words command
IsArguments (Some PunchWord) words command = IsPunch words command
IsArguments (Some ReadWord) words command = IsRead words command
IsArguments (Some SumWord) words command = IsSum words command
IsArguments (Some SyncWord) words command = IsAlone cmd.Sync words command
IsArguments (Some AddWord) words command = IsAdd words command
IsArguments (Some RemoveWord) words command = IsRemove words command
IsArguments (Some CheckpointWord) words command = IsCheckpoint words command
IsArguments (Some StepWord) words command = IsStep words command
IsArguments (Some ListWord) words command = IsAlone cmd.List words command
IsArguments (Some StatusWord) words command = IsAlone cmd.Status words command
IsArguments (Some MapWord) words command = IsMap words command
IsArguments (Some AuditWord) words command = IsAlone cmd.Audit words command
IsArguments (Some UpgradeWord) words command = IsAlone cmd.Upgrade words command
IsArguments (Some QuitWord) words command = IsAlone cmd.Quit words command

-- the words are a spelling of the command
abbrev pub IsCommand : List (List ℕ) → Command → Type 0
IsCommand [] command = ⊥
IsCommand (word ∷ words) command = IsArguments (keyword_of word) words command

-- the line is a spelling of the command
pub record IsLine (line : List ℕ) (command : Command) : Type 0 where
  pub short : length line ≤ 16384
  pub words : IsCommand (words_of line) command
