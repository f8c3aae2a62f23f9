use Rattle.std.proofs.Common.{◌≡◌, ℕ, length, drop, ◌++◌, replicate, ap, sym, ◌∙◌, arith, length-append}
use Rattle.std.proofs.Math.Seq.{drop-append_seam}
use Rattle.std.proofs.lemmas.List.{drop-replicate}
use Rattle.zr_pool.proofs.names.name_of.Goals as goal

pub returns-clause-lawful : goal.returns-clause-lawful
returns-clause-lawful c =
    let n = length c.args.bytes.now in
    let front = c.copy_from_slice.new.self in
    let back = c.split_at_mut-front.result.1.now in
    let same : front ≡ c.args.bytes.now = c.copy_from_slice.ensures.after in
    let cut : back ≡ drop n (replicate 63 0) = c.split_at_mut-front.ensures.back in
    record {
      short = c.requires;
      size = let total = length-append front back in let f = ap length same in let b = c.split_at_mut-front.ensures.back_len in omega (arith, total, f, b, c.requires);
      rest = ap (λ (k : ℕ). drop k (front ++ back)) (let f = ap length same in sym f) ∙ drop-append_seam front back ∙ cut ∙ drop-replicate n 63 0;
    }
