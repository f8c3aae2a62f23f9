use Rattle.std.proofs.Common.{sym, subst}
use Rattle.std.specs.Prelude.{IfOk}
use Rattle.std.proofs.lemmas.Result.{IfOk-weaker}
use Rattle.zr_space.specs.Records.{Gains}
use Rattle.zr_space.specs.declared.records.SetKind.TheVariants as set
use Rattle.zr_units.specs.Differences.{Replays}
use Rattle.zr_sync.specs.Words.{log_has, log_was}
use Rattle.zr_sync.specs.declared.words.Log.{Log}
use Rattle.zr_sync.specs.declared.words.Log.TheVariants.{Held, Kept, Fresh}
use Rattle.zr_sync.proofs.Runs.{fresh_runs, gains_runs, kept_runs}
use Rattle.zr_sync.proofs.words.changes_of.Goals as goal

pub returns-in-Held-clause-runs : goal.returns-in-Held-clause-runs
returns-in-Held-clause-runs c = IfOk-weaker c.changes.result _ _ (λ cs gains. gains_runs c.args.space.now c.args.dev cs.items c.requires.lawful c.requires.small gains) c.changes.ensures

pub returns-in-Held-clause-replays : goal.returns-in-Held-clause-replays
returns-in-Held-clause-replays c =
    let s = c.args.space.now in
    let d = c.args.dev in
    subst (λ (l : Log). IfOk c.changes.result (λ changes. Replays (log_was l s d) (log_has l s d) changes.items)) (sym c.in-Held.is)
    (IfOk-weaker c.changes.result (λ changes. Gains s d set.Held changes.items) (λ changes. Replays (log_was Held s d) (log_has Held s d) changes.items) (λ cs gains. gains.replays) c.changes.ensures)

pub returns-in-Kept-clause-runs : goal.returns-in-Kept-clause-runs
returns-in-Kept-clause-runs c = IfOk-weaker c.changes-in-Kept.result _ _ (λ cs gains. kept_runs c.args.space.now c.args.dev cs.items c.requires.lawful c.requires.small gains) c.changes-in-Kept.ensures

pub returns-in-Kept-clause-replays : goal.returns-in-Kept-clause-replays
returns-in-Kept-clause-replays c =
    let s = c.args.space.now in
    let d = c.args.dev in
    subst (λ (l : Log). IfOk c.changes-in-Kept.result (λ changes. Replays (log_was l s d) (log_has l s d) changes.items)) (sym c.in-Kept.is)
    (IfOk-weaker c.changes-in-Kept.result (λ changes. Gains s d set.Kept changes.items) (λ changes. Replays (log_was Kept s d) (log_has Kept s d) changes.items) (λ cs gains. gains.replays) c.changes-in-Kept.ensures)

pub returns-in-Fresh-clause-runs : goal.returns-in-Fresh-clause-runs
returns-in-Fresh-clause-runs c = IfOk-weaker c.changes-in-Fresh.result _ _ (λ cs gains. fresh_runs c.args.space.now c.args.dev cs.items c.requires.lawful c.requires.small gains) c.changes-in-Fresh.ensures

pub returns-in-Fresh-clause-replays : goal.returns-in-Fresh-clause-replays
returns-in-Fresh-clause-replays c =
    let s = c.args.space.now in
    let d = c.args.dev in
    subst (λ (l : Log). IfOk c.changes-in-Fresh.result (λ changes. Replays (log_was l s d) (log_has l s d) changes.items)) (sym c.in-Fresh.is)
    (IfOk-weaker c.changes-in-Fresh.result (λ changes. Gains s d set.Fresh changes.items) (λ changes. Replays (log_was Fresh s d) (log_has Fresh s d) changes.items) (λ cs gains. gains.replays) c.changes-in-Fresh.ensures)
