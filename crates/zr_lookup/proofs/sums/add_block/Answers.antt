use Rattle.std.proofs.Common.{◌∙◌, ◌++◌, [], Bool, sym, ap, subst, append-nil}
use Rattle.std.specs.Prelude.{if◌then◌else◌}
use Rattle.sha2.specs.Hashers.{Holds256}
use Rattle.zr_base.specs.Words.{word}
use Rattle.zr_lookup.proofs.sums.add_block.Goals as goal

pub returns-else-has_bytes : goal.returns-else-has_bytes
returns-else-has_bytes c = λ m h.
    let none = sym c.has_bytes.ensures ∙ c.if-has_bytes.false in
    subst (Holds256 c.args.digest.now) (sym (ap (λ (b : Bool). m ++ (if b then word c.args.index ++ c.args.bytes.now else [])) none ∙ append-nil m)) h
