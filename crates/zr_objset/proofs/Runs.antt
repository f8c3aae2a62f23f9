-- Runs of changes that fall into one leaf.
use Rattle.std.proofs.Common.{◌≡◌, ◌≢◌, ◌∙◌, ◌+◌, ◌-◌, ◌/◌, ◌<◌, ℕ, zero, suc, List, [], ◌∷◌, length, take, drop, get_or, get_or-drop, length-drop, Option, None, ap, arith}
use Rattle.std.specs.List.{AllByRecursion}
use Rattle.std.proofs.lemmas.List.{take_all}
use Rattle.std.proofs.Math.ListN.{set}
use Rattle.zr_bptr.specs.declared.ObjRec.{ObjRec}
use Rattle.zr_objset.specs.Changes.{RisesById}

all_at : {X : Type 0} (P : X → Type 0) (xs : List X) (k : ℕ) (d : X) → AllByRecursion P xs → k < length xs → P (get_or xs k d)
all_at P [] k d all lt = absurd (omega arith)
all_at P (x ∷ xs) zero d all lt = all.0
all_at P (x ∷ xs) (suc k) d all lt = all_at P xs k d all.1 (omega arith)

pub all_set : {X : Type 0} (P : X → Type 0) (xs : List X) (k : ℕ) (x : X) → AllByRecursion P xs → P x → AllByRecursion P (set xs k x)
all_set P [] k x all p = tt
all_set P (y ∷ ys) zero x all p = (p, all.1)
all_set P (y ∷ ys) (suc k) x all p = (all.0, all_set P ys k x all.1 p)

rises_at : (xs : List (ℕ × Option ObjRec)) (i j : ℕ) (d : ℕ × Option ObjRec) → RisesById xs → i < j → j < length xs → (get_or xs i d).0 < (get_or xs j d).0
rises_at [] i j d rises lt within = absurd (omega arith)
rises_at (x ∷ xs) i zero d rises lt within = absurd (omega arith)
rises_at (x ∷ xs) zero (suc j) d rises lt within = all_at (λ (later : ℕ × Option ObjRec). x.0 < later.0) xs j d rises.0 (omega arith)
rises_at (x ∷ xs) (suc i) (suc j) d rises lt within = rises_at xs i j d rises.1 (omega arith) (omega arith)

module _ (changes : List (ℕ × Option ObjRec)) (from : ℕ) (lt : from < length changes) where
  pub rest : List (ℕ × Option ObjRec)
  rest = take (length changes - from) (drop from changes)

  pub rest_is : take (length changes - from) (drop from changes) ≡ drop from changes
  rest_is = take_all (length changes - from) (drop from changes) (omega (arith, length-drop from changes))

  pub rest_at : (n : ℕ) (d : ℕ × Option ObjRec) → get_or (take (length changes - from) (drop from changes)) n d ≡ get_or changes (from + n) d
  rest_at n d = ap (λ (xs : List (ℕ × Option ObjRec)). get_or xs n d) rest_is ∙ get_or-drop from changes n d

  pub rest_len : length (take (length changes - from) (drop from changes)) ≡ length changes - from
  rest_len = ap (λ (xs : List (ℕ × Option ObjRec)). length xs) rest_is ∙ length-drop from changes

  pub first_at : (d : ℕ × Option ObjRec) → get_or (take (length changes - from) (drop from changes)) 0 d ≡ get_or changes from d
  first_at d = rest_at 0 d ∙ ap (λ (i : ℕ). get_or changes i d) (omega arith)

  -- the change after a run falls into a later leaf
  pub next_place : (place n : ℕ) → RisesById changes → place ≡ (get_or changes from (0, None)).0 / 16 → 0 < n → from + n < length changes → (get_or changes (from + n) (0, None)).0 / 16 ≢ place → place < (get_or changes (from + n) (0, None)).0 / 16
  next_place place n rises is some within past =
      let up = rises_at changes from (from + n) (0, None) rises (omega (arith, some)) within in
      omega (arith, up, is, past)
