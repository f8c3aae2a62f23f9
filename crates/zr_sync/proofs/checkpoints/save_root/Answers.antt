use Rattle.std.proofs.Common.{◌≡◌, ◌∙◌, ℕ, List, Some, length, refl, sym, ap, subst}
use Rattle.std.specs.Prelude.{All, Vec}
use Rattle.std.specs.Global.{Global}
use Rattle.zr_label.specs.Blocks.{SpellsUber}
use Rattle.zr_base.specs.declared.space.DevRow.{DevRow}
use Rattle.zr_rules.specs.Places.{is_leaving}
use Rattle.zr_sync.specs.Empty.{no_streams}
use Rattle.zr_sync.specs.declared.open.DeviceStreams.{DeviceStreams}
use Rattle.zr_sync.proofs.SavedRoots.{saves_open}
use Rattle.zr_sync.proofs.checkpoints.save_root.Goals as goal

pub hold-requires-clause-stays : goal.hold-requires-clause-stays
hold-requires-clause-stays c =
    λ d. ap (λ (r : DevRow). is_leaving r.state) (c.in_ok-give_saved.ensures.gives.others.rows.each d).row ∙ c.requires.stays d

pub returns-clause-saves : goal.returns-clause-saves
returns-clause-saves c =
    let none = c.replace-streams.ensures.after in
    record {
      root = c.last_root-root.result;
      last = c.last_root-root.ensures.last;
      block = c.in_ok-block.block;
      spelled = subst (λ (b : List ℕ). SpellsUber b c.last_root-root.result) (sym c.in_ok-block.ensures) c.encode.ensures.spelling;
      saved = ap (λ (v : Vec DeviceStreams Global). Some (record { block = c.in_ok-block.block; head = c.args.pool.now.head; streams = v; cond = c.args.pool.now.cond })) c.replace-streams.ensures.value;
      given = c.give_saved.new.space;
      gives = c.in_ok-give_saved.ensures.gives;
      holds = c.hold.ensures;
      streams = subst (λ (v : Vec DeviceStreams Global). All (λ (s : DeviceStreams). s ≡ no_streams) v.items) (sym none) c.in_ok-none.ensures.clear;
      count = ap (λ (v : Vec DeviceStreams Global). length v.items) none ∙ c.in_ok-none.ensures.count ∙ ap (λ (xs : List DeviceStreams). length xs) c.as_slice.ensures.value;
      cond = refl;
      head = refl;
      rest = refl;
    }

pub returns-clause-pool : goal.returns-clause-pool
returns-clause-pool c = λ sizes o.
    let none = c.replace-streams.ensures.after in
    saves_open sizes c.args.pool.now _ c.give_saved.new.space _ c.last_root-root.result.txg o c.in_ok-give_saved.ensures.gives c.hold.ensures
    c.last_root-root.ensures.lawful.head.txg_fits (ap (λ (b : List ℕ). length b) c.in_ok-block.ensures ∙ c.encode.ensures.size) refl c.replace-streams.ensures.value refl
    (subst (λ (v : Vec DeviceStreams Global). All (λ (s : DeviceStreams). s ≡ no_streams) v.items) (sym none) c.in_ok-none.ensures.clear)
    (ap (λ (v : Vec DeviceStreams Global). length v.items) none ∙ c.in_ok-none.ensures.count ∙ ap (λ (xs : List DeviceStreams). length xs) c.as_slice.ensures.value) refl refl refl refl
