use Rattle.zr_meta.proofs.Fronts.{dir_told, root_told, root_lawful}
use Rattle.std.proofs.Common.{ap, Some}
use Rattle.zr_bptr.specs.declared.Tree.{Tree}
use Rattle.zr_meta.proofs.read.dir_of.Goals as goal

pub returns-in_default : goal.returns-in_default
returns-in_default c = λ form ckpt dir rest h small e.
    absurd (rw c.pointer_at.ensures at c.in_default.ensures dir.root (root_told c.args.bytes.now form ckpt dir rest (root_lawful dir.height dir.root h) e))

pub returns : goal.returns
returns c = λ form ckpt dir rest h small e.
    ap (λ (t : Tree). Some t) (dir_told c.args.bytes.now c.in-Some.root c.word_at.result form ckpt dir rest (rw c.pointer_at.ensures at c.in-Some.ensures) c.word_at.ensures h small e)
