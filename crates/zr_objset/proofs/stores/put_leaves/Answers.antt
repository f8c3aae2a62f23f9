use Rattle.std.proofs.Common.{◌≡◌, ◌≢◌, ◌<◌, ◌/◌, ◌∙◌, ◌-◌, ◌+◌, ◌++◌, ◌∷◌, [], ℕ, List, length, map, take, drop, get_or, length-append, Option, None, refl, sym, ap, subst, arith, rules}
use Rattle.std.proofs.lemmas.List.{map-append}
use Rattle.std.specs.Prelude.{All}
use Rattle.std.proofs.Math.Seq.{take-add}
use Rattle.std.proofs.lemmas.Result.{err_from_is_err_and}
use Rattle.std.proofs.lemmas.List.Elements.{All-push}
use Rattle.zr_bptr.specs.declared.Ptr.{Ptr}
use Rattle.zr_bptr.specs.declared.ObjRec.{ObjRec}
use Rattle.zr_store.proofs.Causes.{costs_then, costs_most, cause_then, cause_most, cause_from}
use Rattle.zr_tree.specs.Blocks.{FitsAt}
use Rattle.zr_tree.specs.Trees.{own, tree_at, tree_reach, Rises, IsTreeWay}
use Rattle.zr_tree.proofs.Wholes.{Within}
use Rattle.zr_objset.specs.Errors.{IsNoLeaf}
use Rattle.zr_objset.specs.Changes.{AllIn, leaves_of, ChangesLeaf, PutsLeaves}
use Rattle.zr_objset.proofs.Tells.{leaves_from}
use Rattle.zr_objset.proofs.Within.{flat_within}
use Rattle.zr_objset.proofs.Changing.{news_of, puts_more, rises_last}
use Rattle.zr_objset.proofs.Early.{early_tree, early_leaf, same_leaf, same_way}
use Rattle.zr_objset.proofs.Runs.{rest_is, rest_at, rest_len, first_at, next_place}
use Rattle.zr_objset.proofs.stores.put_leaves.Goals as goal

pub loop-from-preserved : goal.loop-from-preserved
loop-from-preserved g c =
    let changes = c.args.changes.now in
    let from = c.loop-from.from in
    let n = c.run_len-n.result in
    let inv = c.loop-from.invariant in
    let lt : from < length changes = omega arith in
    let d : ℕ × Option ObjRec = (0, None) in
    let place = (get_or (take (length changes - from) (drop from changes)) 0 d).0 / 16 in
    let place_is : place ≡ (get_or changes from d).0 / 16 = ap (λ (x : ℕ × Option ObjRec). x.0 / 16) (first_at changes from lt d) in
    let news = c.loop-from.news.items in
    let olds = c.loop-from.olds.items in
    let q = c.in_ok-new.new in
    let old = c.in_ok-old.old in
    let news_is : c.push-in-loop-from.new.self.items ≡ news ++ (place, q) ∷ [] = c.in_ok-push-2.ensures.items ∙ ap (λ (k : ℕ). news ++ (k, q) ∷ []) c.from-in-loop-from.ensures in
    let olds_is : c.push.new.self.items ≡ olds ++ old ∷ [] = c.in_ok-push.ensures.items in
    let some : 0 < n = c.run_len-n.ensures.some d (omega (arith, rest_len changes from lt)) refl in
    let before : All (λ (leaf : ℕ × Ptr). leaf.0 < place) news = subst (λ (k : ℕ). All (λ (leaf : ℕ × Ptr). leaf.0 < k) news) (sym place_is) (inv.before lt) in
    let more = ap (λ (xs : List (ℕ × Ptr)). length xs) news_is ∙ length-append news ((place, q) ∷ []) in
    let more_olds = ap (λ (xs : List Ptr). length xs) olds_is ∙ length-append olds (old ∷ []) in
    let id_is = c.requires.ids from d lt in
    record {
      within = search rules;
      count = omega (arith, more, some, inv.count);
      same_count = omega (arith, more, more_olds, inv.same_count);
      places = subst (All (λ (leaf : ℕ × Ptr). leaf.0 < 4096)) (sym news_is) (All-push (λ (leaf : ℕ × Ptr). leaf.0 < 4096) news (place, q) inv.places (omega (arith, place_is, id_is)));
      rises = subst Rises (sym news_is) (rises_last news place q inv.rises before);
      before = λ next.
          let past = c.run_len-n.ensures.past d (omega (arith, next, rest_len changes from lt)) in
          let past_at : (get_or changes (from + n) d).0 / 16 ≢ place = λ e. past (ap (λ (x : ℕ × Option ObjRec). x.0 / 16) (rest_at changes from lt n d) ∙ e) in
          let up = next_place changes from lt place n c.requires.rises place_is some next past_at in
          subst (All (λ (leaf : ℕ × Ptr). leaf.0 < (get_or changes (from + n) d).0 / 16)) (sym news_is)
          (All-push (λ (leaf : ℕ × Ptr). leaf.0 < (get_or changes (from + n) d).0 / 16) news (place, q) (λ k e l. let b = before k e l in omega (arith, b, up)) up);
      leaves = subst (All (λ (leaf : ℕ × Ptr). FitsAt 0 leaf.1)) (sym news_is) (All-push (λ (leaf : ℕ × Ptr). FitsAt 0 leaf.1) news (place, q) inv.leaves c.in_ok-new.ensures.fits);
      follows = λ start so_far. c.change_leaf.ensures.follows start (c.get.ensures.follows start (inv.follows start so_far));
      costs = costs_most (from + n) 0 (omega (arith, some)) (omega arith) (costs_then (costs_then inv.costs c.get.ensures.costs) c.change_leaf.ensures.costs);
      olds = λ s holds held.
          let dir = c.args.dir.now in
          let now = inv.puts s holds held in
          let old_is : old ≡ tree_at s dir place = c.in_ok-old.ensures.leaf now.stored now.held ∙ ap (tree_at now.stored dir) c.from.ensures ∙ same_leaf s now.stored (news_of news) dir place now.is.swaps held in
          let at : ℕ × Ptr → Ptr = λ (leaf : ℕ × Ptr). tree_at s dir leaf.0 in
          olds_is ∙ ap (λ (xs : List Ptr). xs ++ old ∷ []) (inv.olds s holds held) ∙ ap (λ (p : Ptr). map at news ++ p ∷ []) old_is ∙ sym (map-append at news ((place, q) ∷ [])) ∙ ap (map at) (sym news_is);
      puts = λ s holds held.
          let dir = c.args.dir.now in
          let now = inv.puts s holds held in
          let s1 = now.stored in
          let old_is : old ≡ tree_at s dir place = c.in_ok-old.ensures.leaf s1 now.held ∙ ap (tree_at s1 dir) c.from.ensures ∙ same_leaf s s1 (news_of news) dir place now.is.swaps held in
          let after = c.in_ok-new.ensures.changes s1 (c.in_ok-old.ensures.same s1 now.held) in
          let s2 = after.stored in
          let here = take n (drop from changes) in
          let one_a = subst (λ (xs : List (ℕ × Option ObjRec)). ChangesLeaf place (take n xs) s1 s2 old q) (rest_is changes from lt) after.is in
          let one = subst (λ (p : Ptr). ChangesLeaf place here s1 s2 p q) old_is one_a in
          let at = subst (λ (xs : List (ℕ × Option ObjRec)). AllIn place (take n xs)) (rest_is changes from lt) c.run_len-n.ensures.here in
          let way = same_way s s1 (news_of news) dir place now.is.swaps held (subst (IsTreeWay s1 dir) c.from.ensures (c.in_ok-old.ensures.way s1 now.held)) in
          record {
            stored = s2;
            held = after.held;
            is = subst (λ (xs : List (ℕ × Option ObjRec)). PutsLeaves dir xs s s2 c.push-in-loop-from.new.self.items) (sym (take-add from n changes))
                (subst (PutsLeaves dir (take from changes ++ here) s s2) (sym news_is) (puts_more dir place (take from changes) here s s1 s2 news q now.is one at before held way));
          };
    }

pub returns-in_err-old-clause-errors : goal.returns-in_err-old-clause-errors
returns-in_err-old-clause-errors g c = λ s holds held.
    let dir = c.args.dir.now in
    let leaves = leaves_of s dir c.args.changes.now in
    let now = c.loop-from.invariant.puts s holds held in
    let e = c.in_err-old in
    let x = c.from_residual in
    leaves_from s (tree_reach s dir) leaves (IsNoLeaf s) x.result e.field-0.0 (err_from_is_err_and x.result x.ensures.1) (early_tree s now.stored (news_of c.loop-from.news.items) leaves dir _ now.is.swaps held (e.ensures.errors now.stored now.held))

pub returns-in_err-new-clause-errors : goal.returns-in_err-new-clause-errors
returns-in_err-new-clause-errors g c = λ s holds held.
    let dir = c.args.dir.now in
    let changes = c.args.changes.now in
    let from = c.loop-from.from in
    let lt : from < length changes = omega arith in
    let d : ℕ × Option ObjRec = (0, None) in
    let place = (get_or (take (length changes - from) (drop from changes)) 0 d).0 / 16 in
    let leaves = leaves_of s dir changes in
    let into = news_of c.loop-from.news.items in
    let now = c.loop-from.invariant.puts s holds held in
    let s1 = now.stored in
    let e = c.in_err-new in
    let x = c.from_residual-in_err-new in
    let old_is : c.in_ok-old.old ≡ tree_at s dir place = c.in_ok-old.ensures.leaf s1 now.held ∙ ap (tree_at s1 dir) c.from.ensures ∙ same_leaf s s1 into dir place now.is.swaps held in
    let among = subst (λ (x : ℕ × Option ObjRec). Within (own (tree_at s dir (x.0 / 16))) leaves) (sym (first_at changes from lt d)) (flat_within (λ (x : ℕ × Option ObjRec). own (tree_at s dir (x.0 / 16))) changes from d lt) in
    leaves_from s (tree_reach s dir) leaves (IsNoLeaf s) x.result e.field-0.0 (err_from_is_err_and x.result x.ensures.1)
    (early_leaf s s1 into leaves dir place c.in_ok-old.old _ now.is.swaps held old_is among (e.ensures.errors s1 (c.in_ok-old.ensures.same s1 now.held)))

pub returns-in_err-new-clause-cause : goal.returns-in_err-new-clause-cause
returns-in_err-new-clause-cause g c =
    let e = c.in_err-new in
    let x = c.from_residual-in_err-new in
    cause_from {T = Ptr} x.result e.field-0.0 (err_from_is_err_and x.result x.ensures.1) (cause_most (length c.args.changes.now) (omega arith) (cause_then (costs_then c.loop-from.invariant.costs c.get.ensures.costs) e.ensures.cause))
