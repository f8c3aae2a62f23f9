-- Rows of trees, of which one changes.
use Rattle.std.proofs.Common.{◌≡◌, ◌≢◌, ◌<◌, ℕ, zero, suc, Bool, true, false, List, [], ◌∷◌, ◌++◌, refl, sym, ◌∙◌, ap, subst, arith}
use Rattle.std.specs.Prelude.{All, nat_lt}
use Rattle.std.proofs.lemmas.Bool.Decides.{nat_tests}
use Rattle.std.proofs.lemmas.List.{append-nil, append_assoc}
use Rattle.zr_store.specs.Store.{Stored, AreStored, IsOnce, Swaps}
use Rattle.zr_tree.specs.Trees.{tree_reach}
use Rattle.zr_root.specs.Streams.{HasBytes}
use Rattle.zr_beside.specs.Beside.{Standing, StandBeside, Stands, blocks_of, rows_of}
use Rattle.zr_beside.proofs.Beside.{others, one_stored, one_bytes}

-- rows that are the same below some row
rows_same : (f g : ℕ → List Standing) (n : ℕ) → ((i : ℕ) → i < n → g i ≡ f i) → rows_of g n ≡ rows_of f n
rows_same f g zero same = refl
rows_same f g (suc n) same = ap (λ (xs : List Standing). xs ++ g n) (rows_same f g n (λ i lt. same i (omega (arith, lt)))) ∙ ap (λ (xs : List Standing). rows_of f n ++ xs) (same n (omega arith))

-- what stands before a row, and what stands behind it
pub record Around (f g : ℕ → List Standing) (n d : ℕ) : Type 0 where
  pub front : List Standing
  pub back : List Standing
  pub old : rows_of f n ≡ front ++ (f d ++ back)
  pub new : rows_of g n ≡ front ++ (g d ++ back)

longer : (all front row back more : List Standing) → all ≡ front ++ (row ++ back) → all ++ more ≡ front ++ (row ++ (back ++ more))
longer all front row back more is =
    ap (λ (xs : List Standing). xs ++ more) is ∙ (append_assoc front (row ++ back) more ∙ ap (λ (xs : List Standing). front ++ xs) (append_assoc row back more))

last_row : (f g : ℕ → List Standing) (n d : ℕ) → d ≡ n → ((i : ℕ) → i ≢ d → g i ≡ f i) → Around f g (suc n) d
last_row f g n d is same = record {
  front = rows_of f n;
  back = [];
  old = ap (λ (xs : List Standing). rows_of f n ++ xs) (ap f (sym is) ∙ sym (append-nil (f d)));
  new = ap (λ (xs : List Standing). xs ++ g n) (rows_same f g n (λ i below. same i (λ e. omega (arith, e, is, below)))) ∙ ap (λ (xs : List Standing). rows_of f n ++ xs) (ap g (sym is) ∙ sym (append-nil (g d)));
}

lower_row : (f g : ℕ → List Standing) (n d : ℕ) → d < n → ((i : ℕ) → i ≢ d → g i ≡ f i) → Around f g n d → Around f g (suc n) d
lower_row f g n d lt same below = record {
  front = below.front;
  back = below.back ++ f n;
  old = longer (rows_of f n) below.front (f d) below.back (f n) below.old;
  new = longer (rows_of g n) below.front (g d) below.back (g n) below.new ∙ ap (λ (xs : List Standing). below.front ++ (g d ++ (below.back ++ xs))) (same n (λ e. omega (arith, e, lt)));
}

-- where all rows but one are the same
pub around : (f g : ℕ → List Standing) (n d : ℕ) → d < n → ((i : ℕ) → i ≢ d → g i ≡ f i) → Around f g n d
around f g zero d lt same = absurd (omega (arith, lt))
around f g (suc n) d lt same = (elim (nat_lt d n) as (λ (b : Bool). nat_lt d n ≡ b → Around f g (suc n) d) [
  | true ↦ λ is. let below : d < n = grind (arith, nat_tests, is) in lower_row f g n d below same (around f g n d below same)
  | false ↦ λ is. last_row f g n d (grind (arith, nat_tests, is, lt)) same
]) refl

-- the rows, with some trees of one of them between what stands before these and what stands behind them
between : (rows front row back first some last rest : List Standing) → rows ≡ front ++ (row ++ back) → row ≡ first ++ (some ++ last) → rows ++ rest ≡ (front ++ first) ++ (some ++ (last ++ (back ++ rest)))
between rows front row back first some last rest are is =
    ap (λ (xs : List Standing). xs ++ rest) are
    ∙ (append_assoc front (row ++ back) rest
    ∙ (ap (λ (xs : List Standing). front ++ xs) (append_assoc row back rest
    ∙ (ap (λ (xs : List Standing). xs ++ (back ++ rest)) is
    ∙ (append_assoc first (some ++ last) (back ++ rest)
    ∙ ap (λ (xs : List Standing). first ++ xs) (append_assoc some last (back ++ rest)))))
    ∙ sym (append_assoc front first (some ++ (last ++ (back ++ rest))))))

-- Trees of one row come in the place of others, and all other trees stand as they stood.
pub row_changes : (s n : Stored) (f g : ℕ → List Standing) (count d : ℕ) (first gone came last rest : List Standing) → d < count → ((i : ℕ) → i ≢ d → g i ≡ f i) → f d ≡ first ++ (gone ++ last) → g d ≡ first ++ (came ++ last)
    → StandBeside s (rows_of f count ++ rest) → IsOnce n → Swaps s n (blocks_of s gone) (blocks_of n came) → All (Stands n) came → StandBeside n (rows_of g count ++ rest)
row_changes s n f g count d first gone came last rest lt same old new h once swaps stand =
    let a = around f g count d lt same in
    let was = between (rows_of f count) a.front (f d) a.back first gone last rest a.old old in
    let is = between (rows_of g count) a.front (g d) a.back first came last rest a.new new in
    subst (StandBeside n) (sym is) (others s n (a.front ++ first) gone came (last ++ (a.back ++ rest)) (subst (StandBeside s) was h) swaps once stand)

-- what stands in a tree of a row
pub in_row : (s : Stored) (f : ℕ → List Standing) (count d : ℕ) (first last rest : List Standing) (w : Standing) → d < count → f d ≡ first ++ (w ∷ last) → StandBeside s (rows_of f count ++ rest) → AreStored (tree_reach s w.tree) s × HasBytes s w.tree w.bytes
in_row s f count d first last rest w lt is h =
    let a = around f f count d lt (λ i other. refl) in
    let all = subst (StandBeside s) (between (rows_of f count) a.front (f d) a.back first (w ∷ []) last rest a.old is) h in
    (one_stored s (a.front ++ first) (last ++ (a.back ++ rest)) w all, one_bytes s (a.front ++ first) (last ++ (a.back ++ rest)) w all)
