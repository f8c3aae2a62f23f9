use Rattle.std.proofs.Common.{◌≡◌, ◌∙◌, false, List, sym, ap}
use Rattle.zr_rules.specs.Places.{is_leaving}
use Rattle.zr_space.specs.Views.{Kept, kept_of}
use Rattle.zr_space.proofs.Pieces.{held, piece_range, freed_space, freed_frees}
use Rattle.zr_space.proofs.Views.{kept_read}
use Rattle.zr_space.proofs.visits.free_piece.Goals as goal

pub free_leaving-requires-clause-in_range : goal.free_leaving-requires-clause-in_range
free_leaving-requires-clause-in_range c = piece_range c.args.whole.now c.args.slabs.now c.args.devs.now.items 0 c.args.dev c.args.e c.requires.space c.requires.used c.requires.some

pub free_units-requires-clause-held : goal.free_units-requires-clause-held
free_units-requires-clause-held c = held c.args.whole.now c.args.slabs.now c.args.devs.now.items 0 c.args.dev c.args.e c.requires.space c.requires.used

pub returns-else-is_leaving-clause-space : goal.returns-else-is_leaving-clause-space
returns-else-is_leaving-clause-space c =
    let devs : List Kept = c.args.devs.now.items in
    let stays : is_leaving (kept_of devs c.args.dev).row.state ≡ false = ap (λ (k : Kept). is_leaving k.row.state) (sym (kept_read devs c.args.dev c.index.result.now c.requires.known c.index.ensures)) ∙ (sym c.is_leaving.ensures ∙ c.if-is_leaving.false) in
    freed_space c.args.whole.now c.args.slabs.now devs 0 c.args.dev c.args.e c.requires.space c.requires.used c.free_units.new.slabs c.free_units.new.devs.items stays c.free_units.ensures

pub returns-else-is_leaving-clause-frees : goal.returns-else-is_leaving-clause-frees
returns-else-is_leaving-clause-frees c = λ split.
    let devs : List Kept = c.args.devs.now.items in
    let stays : is_leaving (kept_of devs c.args.dev).row.state ≡ false = ap (λ (k : Kept). is_leaving k.row.state) (sym (kept_read devs c.args.dev c.index.result.now c.requires.known c.index.ensures)) ∙ (sym c.is_leaving.ensures ∙ c.if-is_leaving.false) in
    freed_frees c.args.whole.now c.args.slabs.now devs split c.args.dev c.args.e c.requires.space c.requires.used c.free_units.new.slabs c.free_units.new.devs.items stays c.free_units.ensures
