use Rattle.std.proofs.Common.{◌≡◌, ◌++◌, ◌∷◌, ◌∙◌, [], List, length, take, drop, sym, ap, subst, arith}
use Rattle.std.proofs.lemmas.List.{append-nil}
use Rattle.zr_base.specs.declared.space.Entry.{Entry}
use Rattle.zr_sync.proofs.MappingWords.{tail_all, tail_more}
use Rattle.zr_sync.proofs.mappings.entries_from.Goals as goal

pub loop-i-init : goal.loop-i-init
loop-i-init c =
    record {
      above = omega arith;
      tail = sym (ap (λ (xs : List Entry). take c.args.from c.in-Some.map.now.entries ++ xs) c.new-tail.ensures.items ∙ append-nil (take c.args.from c.in-Some.map.now.entries));
    }

pub loop-i-preserved : goal.loop-i-preserved
loop-i-preserved c =
    let es = c.in-Some.map.now.entries in
    let i = c.loop-i.i in
    let no_entry : Entry = record { src = 0; dev = 0; dst = 0; len = 0 } in
    let above = c.loop-i.invariant.above in
    let count = c.len-i-end.ensures.count in
    record {
      above = omega (arith, above);
      tail = tail_more es c.loop-i.tail.items c.args.from i no_entry (omega (arith, count, c.loop-i-test.true)) c.loop-i.invariant.tail
          ∙ ap (λ (xs : List Entry). take c.args.from es ++ xs) (sym (c.in_ok-push.ensures.items ∙ ap (λ (e : Entry). c.loop-i.tail.items ++ e ∷ []) c.entry.ensures.value));
    }

pub returns : goal.returns
returns c =
    let es = c.in-Some.map.now.entries in
    let count = c.len-i-end.ensures.count in
    let same = c.in-Some.ensures.0 in
    subst (λ (xs : List Entry). c.loop-i.tail.items ≡ drop c.args.from xs) same
    (tail_all es c.loop-i.tail.items c.args.from c.loop-i.i (let within = c.requires in let long = ap (λ (xs : List Entry). length xs) same in omega (arith, within, long)) (omega (arith, count, c.loop-i-test.false)) c.loop-i.invariant.tail)
