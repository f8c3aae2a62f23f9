use Rattle.std.proofs.Common.{Option, Vec, Global, subst}
use Rattle.std.specs.Option.{option_map}
use Rattle.zr_base.specs.Readers.{Reads}
use Rattle.zr_bptr.specs.declared.Ptr.{Ptr}
use Rattle.zr_bptr.specs.Spelling.{SpellsTreeBlock}
use Rattle.zr_tree.proofs.Spelled.{spelled}
use Rattle.zr_lookup.proofs.walks.decode_pointers.Goals as goal

pub returns-clause-pointers : goal.returns-clause-pointers
returns-clause-pointers c =
    spelled c.args.bytes.now c.args.below c.args.fill c.in-Some.pointers.items
    (subst (λ (read : Option (Vec Ptr Global)). Reads (SpellsTreeBlock c.args.bytes.now c.args.below c.args.fill) (option_map (λ ps. ps.items) read)) c.in-Some.is c.in_ok-pointers.ensures)
