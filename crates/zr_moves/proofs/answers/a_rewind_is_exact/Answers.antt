use Rattle.std.proofs.Common.{false, ◌≡◌, List, None, Some, Ok, Err, Result, refl, ap}
use Rattle.zr_base.specs.declared.refusal.Refusal.{Refusal}
use Rattle.zr_script.specs.declared.command.Command.TheVariants as cmd
use Rattle.zr_script.specs.declared.reply.Reply.TheVariants as reply
use Rattle.zr_label.specs.declared.root.Seen.{Seen}
use Rattle.zr_model.specs.State.{Saved, PoolState, Is, State, no_work, opened}
use Rattle.zr_model.specs.Runs.{Shelf}
use Rattle.zr_moves.specs.Answers.{AnswersOutcome, rewound}
use Rattle.zr_moves.proofs.answers.a_rewind_is_exact.Goals as goal

by_outcome : (s : Shelf) (seen : List Seen) (p : PoolState) (saved : Saved) (new : State) (outcome : Result (Unit {0}) Refusal) → p.saved ≡ Some saved
    → AnswersOutcome s seen (record { is_open = false; shelf = Is p; work = no_work }) cmd.ImportRewind outcome reply.Done new
    → (q : PoolState) × (new ≡ opened q) × (q.objects ≡ saved.objects) × (q.devs ≡ saved.devs) × (q.saved ≡ None) × (q.name ≡ p.name) × (q.guid ≡ p.guid)
by_outcome s seen p saved new (Err r) is (told, same) = absurd (cc)
by_outcome s seen p saved new (Ok done) is (own, own_is, told, back) =
    let e : own ≡ saved = cc in
    (rewound p own, back, ap (λ (x : Saved). x.objects) e, ap (λ (x : Saved). x.devs) e, refl, refl, refl)

pub returns : goal.returns
returns c = λ s p saved new is x. by_outcome s x.seen p saved new x.outcome is x.answers
