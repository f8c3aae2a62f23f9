use Rattle.std.proofs.Common.{◌≡◌, ◌∙◌, List, ℕ, ◌++◌, length, sym, ap, subst}
use Rattle.std.specs.Prelude.{IfOk}
use Rattle.std.proofs.lemmas.Result.{IfOk-weaker}
use Rattle.zr_commit.specs.Logs.{Rewrites}
use Rattle.zr_root.specs.Appends.{Appends}
use Rattle.zr_store.specs.Store.{Now}
use Rattle.zr_meta.specs.Heads.{IsStream}
use Rattle.zr_sync.specs.Anew.{HasCountOf}
use Rattle.zr_sync.specs.Words.{words_then}
use Rattle.zr_sync.specs.declared.words.LogWords.{LogWords}
use Rattle.zr_sync.specs.declared.words.LogWords.TheVariants.{Anew}
use Rattle.zr_sync.proofs.Streams.{appended}
use Rattle.zr_sync.proofs.stores.put_log_words.Goals as goal

pub returns-in-Grows-clause-writes : goal.returns-in-Grows-clause-writes
returns-in-Grows-clause-writes g c = λ s had held stored has.
    let old = c.args.old.now in
    let holds = g.B.Blocks.holds c.append.new.store in
    let added = c.in-Grows.added.items in
    subst (λ (w : LogWords). IfOk c.append.result (λ now. Now holds (λ n. Rewrites s n old now (words_then had w)))) (sym c.in-Grows.is)
    (subst (λ (ns : List ℕ). IfOk c.append.result (λ now. Now holds (λ n. Rewrites s n old now (had ++ ns)))) c.as_slice.ensures.value
    (IfOk-weaker c.append.result (λ now. Now holds (λ n. Appends s n old now had c.as_slice.result.now)) (λ now. Now holds (λ n. Rewrites s n old now (had ++ c.as_slice.result.now)))
    (λ now wrote. appended holds s old now had c.as_slice.result.now wrote)
    (c.append.ensures.appends s held had stored has)))

pub returns-in-Stays-clause-count : goal.returns-in-Stays-clause-count
returns-in-Stays-clause-count g c = subst (λ (w : LogWords). HasCountOf w c.args.old.now) (sym c.in-Stays.is) tt

pub returns-in-Grows-clause-count : goal.returns-in-Grows-clause-count
returns-in-Grows-clause-count g c =
    subst (λ (w : LogWords). IfOk c.append.result (HasCountOf w)) (sym c.in-Grows.is) (IfOk-weaker c.append.result IsStream (λ now. Unit {0}) (λ now h. tt) c.append.ensures.stream)

pub returns-in-Anew-clause-count : goal.returns-in-Anew-clause-count
returns-in-Anew-clause-count g c =
    subst (λ (w : LogWords). IfOk c.write_anew.result (HasCountOf w)) (sym c.in-Anew.is)
    (IfOk-weaker c.write_anew.result (λ now. now.words ≡ length c.as_slice-in-Anew.result.now) (HasCountOf (Anew c.in-Anew.anew)) (λ now count. count ∙ ap length c.as_slice-in-Anew.ensures.value) c.write_anew.ensures.count)
