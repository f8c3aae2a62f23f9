use Rattle.std.proofs.Common.{◌≡◌, ◌∷◌, ◌+◌, [], Bool, true, false, sym, subst}
use Rattle.zr_rules.specs.Space.{Space}
use Rattle.zr_chain.specs.declared.visit.Visited.{Visited}
use Rattle.zr_chain.specs.declared.visit.Visited.TheVariants.{Hop, Piece}
use Rattle.zr_space.specs.Views.{space_of}
use Rattle.zr_space.specs.FreeVisits.{CanFree, FreesVisit, HaveSpare, units_in}
use Rattle.zr_space.proofs.Hops.{in_range, fits, hop_space, hop_frees}
use Rattle.zr_space.proofs.Pieces.{held, unkept, kept_space, kept_frees}
use Rattle.zr_space.proofs.visits.free_visit.Goals as goal

can_as : (s : Space) (v w : Visited) → v ≡ w → CanFree s (v ∷ []) → CanFree s (w ∷ [])
can_as s v w same can = subst (λ (x : Visited). CanFree s (x ∷ [])) same can

frees_as : (kept one : Bool) (s t : Space) (v w : Visited) → kept ≡ one → v ≡ w → FreesVisit one s t w → FreesVisit kept s t v
frees_as kept one s t v w bit same frees = subst (λ (b : Bool). FreesVisit b s t v) (sym bit) (subst (λ (x : Visited). FreesVisit one s t x) (sym same) frees)

pub mark-requires-clause-in_range : goal.mark-requires-clause-in_range
mark-requires-clause-in_range c =
    in_range c.args.whole.now c.args.slabs.now c.args.devs.now.items c.in-Hop.dev c.in-Hop.at c.requires.space (can_as _ c.args.v (Hop c.in-Hop.dev c.in-Hop.at) c.in-Hop.is c.requires.can)

pub mark-requires-clause-fits : goal.mark-requires-clause-fits
mark-requires-clause-fits c =
    fits c.args.whole.now c.args.slabs.now c.args.devs.now.items c.in-Hop.dev c.in-Hop.at c.requires.space (can_as _ c.args.v (Hop c.in-Hop.dev c.in-Hop.at) c.in-Hop.is c.requires.can)

pub keep_units-requires-clause-held : goal.keep_units-requires-clause-held
keep_units-requires-clause-held c =
    held c.args.whole.now c.args.slabs.now c.args.devs.now.items c.in-Piece.split c.in-Piece.dev c.in-Piece.at c.requires.space (can_as _ c.args.v (Piece c.in-Piece.split c.in-Piece.dev c.in-Piece.at) c.in-Piece.is c.requires.can).fit.0

pub keep_units-requires-clause-unkept : goal.keep_units-requires-clause-unkept
keep_units-requires-clause-unkept c =
    unkept c.args.whole.now c.args.slabs.now c.args.devs.now.items c.in-Piece.split c.in-Piece.dev c.in-Piece.at c.requires.space (can_as _ c.args.v (Piece c.in-Piece.split c.in-Piece.dev c.in-Piece.at) c.in-Piece.is c.requires.can).fit.0

pub returns-in-Hop-clause-space : goal.returns-in-Hop-clause-space
returns-in-Hop-clause-space c =
    hop_space c.args.whole.now c.args.slabs.now c.args.devs.now.items c.in-Hop.dev c.in-Hop.at c.requires.space (can_as _ c.args.v (Hop c.in-Hop.dev c.in-Hop.at) c.in-Hop.is c.requires.can) c.mark.new.devs.items c.mark.ensures

pub returns-in-Hop-clause-frees : goal.returns-in-Hop-clause-frees
returns-in-Hop-clause-frees c =
    subst (λ (v : Visited). FreesVisit c.args.kept (space_of c.args.whole.now c.args.devs.now.items) (space_of c.args.whole.now c.mark.new.devs.items) v) (sym c.in-Hop.is)
    (hop_frees c.args.whole.now c.args.slabs.now c.args.devs.now.items c.in-Hop.dev c.in-Hop.at c.requires.space (can_as _ c.args.v (Hop c.in-Hop.dev c.in-Hop.at) c.in-Hop.is c.requires.can) c.mark.new.devs.items c.mark.ensures c.args.kept)

pub returns-then-kept-clause-space : goal.returns-then-kept-clause-space
returns-then-kept-clause-space c =
    kept_space c.args.whole.now c.args.slabs.now c.args.devs.now.items c.in-Piece.split c.in-Piece.dev c.in-Piece.at c.requires.space (can_as _ c.args.v (Piece c.in-Piece.split c.in-Piece.dev c.in-Piece.at) c.in-Piece.is c.requires.can).fit.0
    c.keep_units.new.slabs c.keep_units.new.devs.items (c.requires.stays c.if-kept.true c.in-Piece.dev) c.keep_units.ensures

pub returns-then-kept-clause-frees : goal.returns-then-kept-clause-frees
returns-then-kept-clause-frees c =
    frees_as c.args.kept true _ _ c.args.v (Piece c.in-Piece.split c.in-Piece.dev c.in-Piece.at) c.if-kept.true c.in-Piece.is
    (kept_frees c.args.whole.now c.args.slabs.now c.args.devs.now.items c.in-Piece.split c.in-Piece.dev c.in-Piece.at c.requires.space (can_as _ c.args.v (Piece c.in-Piece.split c.in-Piece.dev c.in-Piece.at) c.in-Piece.is c.requires.can).fit.0
    c.keep_units.new.slabs c.keep_units.new.devs.items (c.requires.stays c.if-kept.true c.in-Piece.dev) c.keep_units.ensures)

pub free_piece-requires-clause-used : goal.free_piece-requires-clause-used
free_piece-requires-clause-used c = (can_as _ c.args.v (Piece c.in-Piece.split c.in-Piece.dev c.in-Piece.at) c.in-Piece.is c.requires.can).fit.0

pub returns-else-kept-clause-frees : goal.returns-else-kept-clause-frees
returns-else-kept-clause-frees c =
    frees_as c.args.kept false _ _ c.args.v (Piece c.in-Piece.split c.in-Piece.dev c.in-Piece.at) c.if-kept.false c.in-Piece.is (c.free_piece.ensures.frees c.in-Piece.split)

pub returns-else-kept-clause-room : goal.returns-else-kept-clause-room
returns-else-kept-clause-room c = λ n room. c.free_piece.ensures.room n (subst (λ (v : Visited). HaveSpare c.args.devs.now.items (units_in v + n)) c.in-Piece.is room)
