use Rattle.std.proofs.Common.{rules}
use Rattle.zr_script.proofs.Reading.{reads_behind, finds_behind}
use Rattle.zr_script.specs.declared.command.Keyword.TheVariants.{CreateWord, ImportWord, ExportWord, MakeWord, DropWord, WriteWord, FillWord, PunchWord, ReadWord, SumWord, SyncWord, AddWord, RemoveWord, CheckpointWord, StepWord, ListWord, StatusWord, MapWord, AuditWord, UpgradeWord, QuitWord}
use Rattle.zr_script.proofs.lines.parse_arguments.Goals as goal

pub returns-in-Some-CreateWord : goal.returns-in-Some-CreateWord
returns-in-Some-CreateWord c = reads_behind c.args.keyword CreateWord _ c.parse_create.result (search rules) c.parse_create.ensures

pub returns-in-Some-ImportWord : goal.returns-in-Some-ImportWord
returns-in-Some-ImportWord c = finds_behind c.args.keyword ImportWord _ c.parse_import.result (search rules) c.parse_import.ensures

pub returns-in-Some-ExportWord : goal.returns-in-Some-ExportWord
returns-in-Some-ExportWord c = finds_behind c.args.keyword ExportWord _ c.parse_alone.result (search rules) c.parse_alone.ensures

pub returns-in-Some-MakeWord : goal.returns-in-Some-MakeWord
returns-in-Some-MakeWord c = finds_behind c.args.keyword MakeWord _ c.parse_make.result (search rules) c.parse_make.ensures

pub returns-in-Some-DropWord : goal.returns-in-Some-DropWord
returns-in-Some-DropWord c = finds_behind c.args.keyword DropWord _ c.parse_drop.result (search rules) c.parse_drop.ensures

pub returns-in-Some-WriteWord : goal.returns-in-Some-WriteWord
returns-in-Some-WriteWord c = reads_behind c.args.keyword WriteWord _ c.parse_write.result (search rules) c.parse_write.ensures

pub returns-in-Some-FillWord : goal.returns-in-Some-FillWord
returns-in-Some-FillWord c = finds_behind c.args.keyword FillWord _ c.parse_fill.result (search rules) c.parse_fill.ensures

pub returns-in-Some-PunchWord : goal.returns-in-Some-PunchWord
returns-in-Some-PunchWord c = finds_behind c.args.keyword PunchWord _ c.parse_punch.result (search rules) c.parse_punch.ensures

pub returns-in-Some-ReadWord : goal.returns-in-Some-ReadWord
returns-in-Some-ReadWord c = finds_behind c.args.keyword ReadWord _ c.parse_read.result (search rules) c.parse_read.ensures

pub returns-in-Some-SumWord : goal.returns-in-Some-SumWord
returns-in-Some-SumWord c = finds_behind c.args.keyword SumWord _ c.parse_sum.result (search rules) c.parse_sum.ensures

pub returns-in-Some-SyncWord : goal.returns-in-Some-SyncWord
returns-in-Some-SyncWord c = finds_behind c.args.keyword SyncWord _ c.parse_alone-in-Some-SyncWord.result (search rules) c.parse_alone-in-Some-SyncWord.ensures

pub returns-in-Some-AddWord : goal.returns-in-Some-AddWord
returns-in-Some-AddWord c = reads_behind c.args.keyword AddWord _ c.parse_add.result (search rules) c.parse_add.ensures

pub returns-in-Some-RemoveWord : goal.returns-in-Some-RemoveWord
returns-in-Some-RemoveWord c = reads_behind c.args.keyword RemoveWord _ c.parse_remove.result (search rules) c.parse_remove.ensures

pub returns-in-Some-CheckpointWord : goal.returns-in-Some-CheckpointWord
returns-in-Some-CheckpointWord c = finds_behind c.args.keyword CheckpointWord _ c.parse_checkpoint.result (search rules) c.parse_checkpoint.ensures

pub returns-in-Some-StepWord : goal.returns-in-Some-StepWord
returns-in-Some-StepWord c = finds_behind c.args.keyword StepWord _ c.parse_step.result (search rules) c.parse_step.ensures

pub returns-in-Some-ListWord : goal.returns-in-Some-ListWord
returns-in-Some-ListWord c = finds_behind c.args.keyword ListWord _ c.parse_alone-in-Some-ListWord.result (search rules) c.parse_alone-in-Some-ListWord.ensures

pub returns-in-Some-StatusWord : goal.returns-in-Some-StatusWord
returns-in-Some-StatusWord c = finds_behind c.args.keyword StatusWord _ c.parse_alone-in-Some-StatusWord.result (search rules) c.parse_alone-in-Some-StatusWord.ensures

pub returns-in-Some-MapWord : goal.returns-in-Some-MapWord
returns-in-Some-MapWord c = finds_behind c.args.keyword MapWord _ c.parse_map.result (search rules) c.parse_map.ensures

pub returns-in-Some-AuditWord : goal.returns-in-Some-AuditWord
returns-in-Some-AuditWord c = finds_behind c.args.keyword AuditWord _ c.parse_alone-in-Some-AuditWord.result (search rules) c.parse_alone-in-Some-AuditWord.ensures

pub returns-in-Some-UpgradeWord : goal.returns-in-Some-UpgradeWord
returns-in-Some-UpgradeWord c = finds_behind c.args.keyword UpgradeWord _ c.parse_alone-in-Some-UpgradeWord.result (search rules) c.parse_alone-in-Some-UpgradeWord.ensures

pub returns-in-Some-QuitWord : goal.returns-in-Some-QuitWord
returns-in-Some-QuitWord c = finds_behind c.args.keyword QuitWord _ c.parse_alone-in-Some-QuitWord.result (search rules) c.parse_alone-in-Some-QuitWord.ensures
