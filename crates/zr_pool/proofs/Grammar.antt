-- What the grammar says of a command.
use Rattle.std.proofs.Common.{ℕ, ◌≤◌, ◌<◌, List, [], ◌∷◌, length, Option, Some, None, inl, inr}
use Rattle.std.specs.Prelude.{IsTrue}
use Rattle.zr_script.specs.declared.command.Command.TheVariants as cmd
use Rattle.zr_script.specs.declared.command.Keyword.{Keyword}
use Rattle.zr_script.specs.declared.command.Keyword.TheVariants.{CreateWord, ImportWord, ExportWord, MakeWord, DropWord, WriteWord, FillWord, PunchWord, ReadWord, SumWord, SyncWord, AddWord, RemoveWord, CheckpointWord, StepWord, ListWord, StatusWord, MapWord, AuditWord, UpgradeWord, QuitWord}
use Rattle.zr_script.specs.Grammar.{IsLine, IsCommand, IsArguments, words_of, keyword_of}
use Rattle.zr_script.specs.Words.{is_name, are_paths}

-- a new pool has a name, an identity above 0, and different paths
pub record IsNewPool (name : List ℕ) (guid : ℕ) (devs : List (List ℕ)) : Type 0 where
  pub name_is : IsTrue (is_name name)
  pub some : 0 < guid
  pub paths : IsTrue (are_paths devs)

create_words : (k : Option Keyword) (words : List (List ℕ)) (name : List ℕ) (guid : ℕ) (devs : List (List ℕ)) → IsArguments k words (cmd.Create name guid devs) → IsNewPool name guid devs
create_words None words name guid devs h = absurd h
create_words (Some CreateWord) words name guid devs (inl p) = record { name_is = p.2; some = p.3.some; paths = p.4 }
create_words (Some CreateWord) words name guid devs (inr p) = absurd p.2
create_words (Some ImportWord) words name guid devs h = absurd h
create_words (Some ExportWord) words name guid devs h = cc
create_words (Some MakeWord) words name guid devs h = absurd h
create_words (Some DropWord) words name guid devs h = absurd h
create_words (Some WriteWord) words name guid devs h = absurd h
create_words (Some FillWord) words name guid devs h = absurd h
create_words (Some PunchWord) words name guid devs h = absurd h
create_words (Some ReadWord) words name guid devs h = absurd h
create_words (Some SumWord) words name guid devs h = absurd h
create_words (Some SyncWord) words name guid devs h = cc
create_words (Some AddWord) words name guid devs h = absurd h
create_words (Some RemoveWord) words name guid devs h = absurd h
create_words (Some CheckpointWord) words name guid devs h = absurd h
create_words (Some StepWord) words name guid devs h = absurd h
create_words (Some ListWord) words name guid devs h = cc
create_words (Some StatusWord) words name guid devs h = cc
create_words (Some MapWord) words name guid devs h = absurd h
create_words (Some AuditWord) words name guid devs h = cc
create_words (Some UpgradeWord) words name guid devs h = cc
create_words (Some QuitWord) words name guid devs h = cc

create_old_words : (k : Option Keyword) (words : List (List ℕ)) (name : List ℕ) (guid : ℕ) (devs : List (List ℕ)) → IsArguments k words (cmd.CreateOld name guid devs) → IsNewPool name guid devs
create_old_words None words name guid devs h = absurd h
create_old_words (Some CreateWord) words name guid devs (inl p) = absurd p
create_old_words (Some CreateWord) words name guid devs (inr p) = record { name_is = p.2.2; some = p.2.3.some; paths = p.2.4 }
create_old_words (Some ImportWord) words name guid devs h = absurd h
create_old_words (Some ExportWord) words name guid devs h = cc
create_old_words (Some MakeWord) words name guid devs h = absurd h
create_old_words (Some DropWord) words name guid devs h = absurd h
create_old_words (Some WriteWord) words name guid devs h = absurd h
create_old_words (Some FillWord) words name guid devs h = absurd h
create_old_words (Some PunchWord) words name guid devs h = absurd h
create_old_words (Some ReadWord) words name guid devs h = absurd h
create_old_words (Some SumWord) words name guid devs h = absurd h
create_old_words (Some SyncWord) words name guid devs h = cc
create_old_words (Some AddWord) words name guid devs h = absurd h
create_old_words (Some RemoveWord) words name guid devs h = absurd h
create_old_words (Some CheckpointWord) words name guid devs h = absurd h
create_old_words (Some StepWord) words name guid devs h = absurd h
create_old_words (Some ListWord) words name guid devs h = cc
create_old_words (Some StatusWord) words name guid devs h = cc
create_old_words (Some MapWord) words name guid devs h = absurd h
create_old_words (Some AuditWord) words name guid devs h = cc
create_old_words (Some UpgradeWord) words name guid devs h = cc
create_old_words (Some QuitWord) words name guid devs h = cc

write_words : (k : Option Keyword) (words : List (List ℕ)) (id off : ℕ) (bytes : List ℕ) → IsArguments k words (cmd.Write id off bytes) → length bytes ≤ 4096
write_words None words id off bytes h = absurd h
write_words (Some CreateWord) words id off bytes (inl p) = absurd p
write_words (Some CreateWord) words id off bytes (inr p) = absurd p.2
write_words (Some ImportWord) words id off bytes h = absurd h
write_words (Some ExportWord) words id off bytes h = cc
write_words (Some MakeWord) words id off bytes h = absurd h
write_words (Some DropWord) words id off bytes h = absurd h
write_words (Some WriteWord) words id off bytes h = h.6.most
write_words (Some FillWord) words id off bytes h = absurd h
write_words (Some PunchWord) words id off bytes h = absurd h
write_words (Some ReadWord) words id off bytes h = absurd h
write_words (Some SumWord) words id off bytes h = absurd h
write_words (Some SyncWord) words id off bytes h = cc
write_words (Some AddWord) words id off bytes h = absurd h
write_words (Some RemoveWord) words id off bytes h = absurd h
write_words (Some CheckpointWord) words id off bytes h = absurd h
write_words (Some StepWord) words id off bytes h = absurd h
write_words (Some ListWord) words id off bytes h = cc
write_words (Some StatusWord) words id off bytes h = cc
write_words (Some MapWord) words id off bytes h = absurd h
write_words (Some AuditWord) words id off bytes h = cc
write_words (Some UpgradeWord) words id off bytes h = cc
write_words (Some QuitWord) words id off bytes h = cc

in_create : (words : List (List ℕ)) (name : List ℕ) (guid : ℕ) (devs : List (List ℕ)) → IsCommand words (cmd.Create name guid devs) → IsNewPool name guid devs
in_create [] name guid devs h = absurd h
in_create (w ∷ words) name guid devs h = create_words (keyword_of w) words name guid devs h

in_create_old : (words : List (List ℕ)) (name : List ℕ) (guid : ℕ) (devs : List (List ℕ)) → IsCommand words (cmd.CreateOld name guid devs) → IsNewPool name guid devs
in_create_old [] name guid devs h = absurd h
in_create_old (w ∷ words) name guid devs h = create_old_words (keyword_of w) words name guid devs h

in_write : (words : List (List ℕ)) (id off : ℕ) (bytes : List ℕ) → IsCommand words (cmd.Write id off bytes) → length bytes ≤ 4096
in_write [] id off bytes h = absurd h
in_write (w ∷ words) id off bytes h = write_words (keyword_of w) words id off bytes h

pub create_line : (line name : List ℕ) (guid : ℕ) (devs : List (List ℕ)) → IsLine line (cmd.Create name guid devs) → IsNewPool name guid devs
create_line line name guid devs h = in_create (words_of line) name guid devs h.words

pub create_old_line : (line name : List ℕ) (guid : ℕ) (devs : List (List ℕ)) → IsLine line (cmd.CreateOld name guid devs) → IsNewPool name guid devs
create_old_line line name guid devs h = in_create_old (words_of line) name guid devs h.words

pub write_line : (line : List ℕ) (id off : ℕ) (bytes : List ℕ) → IsLine line (cmd.Write id off bytes) → length bytes ≤ 4096
write_line line id off bytes h = in_write (words_of line) id off bytes h.words
