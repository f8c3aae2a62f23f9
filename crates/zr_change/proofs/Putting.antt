-- Blocks that are put one after another, and given back where one cannot be put.
use Rattle.std.proofs.Common.{◌≡◌, ◌∙◌, ◌+◌, ◌*◌, ◌<◌, ◌≤◌, ℕ, suc, List, [], ◌∷◌, ◌++◌, length, take, drop, get_or, refl, sym, ap, subst, arith, take-suc, length-append}
use Rattle.std.specs.Prelude.{Result, Err, IsErrOf}
use Rattle.zr_store.specs.declared.StoreErr.{StoreErr}
use Rattle.std.specs.List.{sum_by, AllZip}
use Rattle.std.proofs.Math.Nat.{mul-add, mul-le-mul_left}
use Rattle.std.proofs.lemmas.List.{take-append-drop}
use Rattle.std.proofs.lemmas.List.Sums.{sum_by-append, sum_by-cons}
use Rattle.std.proofs.lemmas.Grind.{flat_map-append}
use Rattle.zr_bptr.specs.declared.Bptr.{Bptr}
use Rattle.zr_bptr.specs.declared.Ptr.{Ptr}
use Rattle.zr_bptr.specs.declared.Ptr.TheVariants.{Hole, At}
use Rattle.zr_store.specs.Store.{Stored, Swaps, AreStored, IsOnce, hits, one_at}
use Rattle.zr_store.specs.Causes.{Account, Spends}
use Rattle.zr_store.proofs.Causes.{spends_then, spends_most, again}
use Rattle.zr_store.proofs.Keeping.{one_itself}
use Rattle.zr_tree.specs.Trees.{own}
use Rattle.zr_objset.specs.Records.{bytes_of}
use Rattle.zr_change.specs.declared.plans.Planned.{Planned}
use Rattle.zr_change.specs.Plans.{bytes_of_new, put_of, puts_of, leaves_of, IsLacking, PutsBlock, PutsPlan}

-- ---- errors

-- the error that a `?` hands on
pub err_same : {T U : Type 0} (r : Result U StoreErr) (e : StoreErr) {x : StoreErr} → (y : StoreErr) × (r ≡ Err y) × (y ≡ e) → IsErrOf r x → IsErrOf {T = T} (Err e) x
err_same {T} {U} r e {x} given is = again {T = U} {U = T} e x (subst (λ (o : Result U StoreErr). IsErrOf o x) (given.1 ∙ ap (λ (y : StoreErr). Err y) given.2) is)

-- ---- counts

pub puts_more : (plan : List Planned) (i : ℕ) (d : Planned) → i < length plan → puts_of (take (i + 1) plan) ≡ puts_of (take i plan) + put_of (get_or plan i d).new
puts_more plan i d lt =
    let p = get_or plan i d in
    let up : i + 1 ≡ suc i = omega arith in
    let parts = ap puts_of (ap (λ (k : ℕ). take k plan) up ∙ take-suc plan i d lt) in
    let weight = λ (q : Planned). put_of q.new in
    omega (arith, parts, sum_by-append weight (take i plan) (p ∷ []), sum_by-cons weight p [])

pub puts_most : (plan : List Planned) (i : ℕ) → puts_of (take i plan) ≤ puts_of plan
puts_most plan i =
    let parts = ap puts_of (sym (take-append-drop i plan)) in
    omega (arith, parts, sum_by-append (λ (q : Planned). put_of q.new) (take i plan) (drop i plan))

module _ (units : ℕ) (plan : List Planned) (i : ℕ) (d : Planned) (lt : i < length plan) {a b c : Account} (so_far : Spends (units * puts_of (take i plan)) (puts_of (take i plan)) 0 a b)
    (one : Spends (units * put_of (get_or plan i d).new) (put_of (get_or plan i d).new) 0 b c) where
  pub spends_more : Spends (units * puts_of (take (i + 1) plan)) (puts_of (take (i + 1) plan)) 0 a c
  spends_more =
      let more = puts_more plan i d lt in
      let product : units * puts_of (take (i + 1) plan) ≡ units * puts_of (take i plan) + units * put_of (get_or plan i d).new =
      ap (λ (k : ℕ). units * k) more ∙ mul-add units (puts_of (take i plan)) (put_of (get_or plan i d).new) in
      spends_most (units * puts_of (take (i + 1) plan)) (puts_of (take (i + 1) plan)) 0 (omega (arith, product)) (omega (arith, more)) (omega arith) (spends_then so_far one)

  pub spends_all : Spends (units * puts_of plan) (puts_of plan) 0 a c
  spends_all =
      let most = puts_most plan (i + 1) in
      let product : units * puts_of (take (i + 1) plan) ≤ units * puts_of plan = mul-le-mul_left units most in
      spends_most (units * puts_of plan) (puts_of plan) 0 product most (omega arith) spends_more

-- a later put lacks a run where fewer were put
pub lacking_then : (units : ℕ) (plan : List Planned) (i : ℕ) (d : Planned) (a b : Account) (needed longest : ℕ) → i < length plan → Spends (units * puts_of (take i plan)) (puts_of (take i plan)) 0 a b → IsLacking units (put_of (get_or plan i d).new) b needed longest
    → IsLacking units (puts_of plan) a needed longest
lacking_then units plan i d a b needed longest lt so_far h = record {
  wanted = h.wanted;
  short = h.short;
  full = λ one.
      let full = h.full one in
      let more = puts_more plan i d lt in
      let most = puts_most plan (i + 1) in
      let product : units * puts_of (take i plan) ≡ puts_of (take i plan) = ap (λ (k : ℕ). k * puts_of (take i plan)) one ∙ omega arith in
      let room = so_far.room in
      omega (arith, full, more, most, product, room);
}

-- ---- lists

zip_push : {A B : Type 0} (R : A → B → Type 0) (xs : List A) (ys : List B) (x : A) (y : B) → AllZip R xs ys → R x y → AllZip R (xs ++ x ∷ []) (ys ++ y ∷ [])
zip_push R [] [] x y all one = (one, tt)
zip_push R [] (z ∷ ys) x y all one = absurd all
zip_push R (w ∷ xs) [] x y all one = absurd all
zip_push R (w ∷ xs) (z ∷ ys) x y all one = (all.0, zip_push R xs ys x y all.1 one)

pub zip_more : {A B : Type 0} (R : A → B → Type 0) (xs : List A) (ys : List B) (i : ℕ) (d : A) (y : B) → i < length xs → AllZip R (take i xs) ys → R (get_or xs i d) y → AllZip R (take (i + 1) xs) (ys ++ y ∷ [])
zip_more {A} R xs ys i d y lt all one =
    let up : i + 1 ≡ suc i = omega arith in
    let parts : take (i + 1) xs ≡ take i xs ++ get_or xs i d ∷ [] = ap (λ (k : ℕ). take k xs) up ∙ take-suc xs i d lt in
    subst (λ (zs : List A). AllZip R zs (ys ++ y ∷ [])) (sym parts) (zip_push R (take i xs) ys (get_or xs i d) y all one)

leaves_append : (xs : List (ℕ × Ptr)) (x : ℕ × Ptr) → leaves_of (xs ++ x ∷ []) ≡ leaves_of xs ++ own x.1
leaves_append xs x = flat_map-append (λ (change : ℕ × Ptr). own change.1) xs (x ∷ []) ∙ ap (λ (bs : List Bptr). leaves_of xs ++ bs) (append_none (own x.1))
  where
    append_none : (bs : List Bptr) → bs ++ [] ≡ bs
    append_none [] = refl
    append_none (b ∷ bs) = ap (λ (cs : List Bptr). b ∷ cs) (append_none bs)

-- ---- what is held

pub bytes_same : (units : ℕ) (n m : Stored) (p : Ptr) → ((b : Bptr) → 0 < hits (own p) b.at → m.bytes b ≡ n.bytes b) → bytes_of m units p ≡ bytes_of n units p
bytes_same units n m Hole agree = refl
bytes_same units n m (At b) agree = agree b (omega (arith, one_itself b, sum_by-cons (one_at b.at) b []))

abbrev HasNew : ℕ → Stored → Planned → ℕ × Ptr → Type 0
HasNew units n p change = bytes_of n units change.1 ≡ bytes_of_new units p.new

-- blocks that agree have the bytes that they had
pub bytes_kept : (units : ℕ) (n m : Stored) (plan : List Planned) (cs : List (ℕ × Ptr)) → ((b : Bptr) → 0 < hits (leaves_of cs) b.at → m.bytes b ≡ n.bytes b) → AllZip (λ p change. bytes_of n units change.1 ≡ bytes_of_new units p.new) plan cs
    → AllZip (λ p change. bytes_of m units change.1 ≡ bytes_of_new units p.new) plan cs
bytes_kept units n m [] [] agree all = tt
bytes_kept units n m [] (c ∷ cs) agree all = absurd all
bytes_kept units n m (p ∷ plan) [] agree all = absurd all
bytes_kept units n m (p ∷ plan) (c ∷ cs) agree all = (
  bytes_same units n m c.1 (λ b h. let parts = sum_by-append (one_at b.at) (own c.1) (leaves_of cs) in agree b (omega (arith, h, parts))) ∙ all.0,
  bytes_kept units n m plan cs (λ b h. let parts = sum_by-append (one_at b.at) (own c.1) (leaves_of cs) in agree b (omega (arith, h, parts))) all.1,
)

pub none_put : (units : ℕ) (s : Stored) → PutsPlan units [] [] s s
none_put units s = record { swaps = record { stored = λ weight. refl; kept = λ b out stored. refl }; bytes = tt }

pub put_more : (units : ℕ) (plan : List Planned) (cs : List (ℕ × Ptr)) (i : ℕ) (d : Planned) (x : ℕ × Ptr) (s n m : Stored) → i < length plan → PutsPlan units (take i plan) cs s n → PutsBlock units (get_or plan i d).new n m x.1
    → PutsPlan units (take (i + 1) plan) (cs ++ x ∷ []) s m
put_more units plan cs i d x s n m lt before one = record {
  swaps = subst (Swaps s m []) (sym (leaves_append cs x)) (record {
    stored = λ weight. let a = before.swaps.stored weight in let b = one.swaps.stored weight in omega (arith, a, b, sum_by-append weight (leaves_of cs) (own x.1));
    kept = λ b out stored. let a = before.swaps.stored (one_at b.at) in one.swaps.kept b refl (omega (arith, a, stored)) ∙ before.swaps.kept b out stored;
  });
  bytes =
      let kept = bytes_kept units n m (take i plan) cs (λ b h. let a = before.swaps.stored (one_at b.at) in one.swaps.kept b refl (omega (arith, a, h))) before.bytes in
      zip_more (λ (p : Planned) (change : ℕ × Ptr). bytes_of m units change.1 ≡ bytes_of_new units p.new) plan cs i d x lt kept one.bytes;
}

-- what came and left again
pub gone_again : (s n m : Stored) (into : List Bptr) → IsOnce n → Swaps s n [] into → Swaps n m into [] → Swaps s m [] []
gone_again s n m into once came left = record {
  stored = λ weight. let a = came.stored weight in let b = left.stored weight in omega (arith, a, b);
  kept = λ b out stored.
      let a = came.stored (one_at b.at) in
      let o = once b.at in
      left.kept b (omega (arith, a, o, stored)) (omega (arith, a, stored)) ∙ came.kept b refl stored;
}

pub came_stored : (s n : Stored) (into : List Bptr) → Swaps s n [] into → (weight : Bptr → ℕ) → sum_by weight into ≤ sum_by weight n.pointers
came_stored s n into came weight = let a = came.stored weight in omega (arith, a)

pub stays_stored : (s n : Stored) (into xs : List Bptr) → Swaps s n [] into → AreStored xs s → AreStored xs n
stays_stored s n into xs came held = λ weight. let a = came.stored weight in let h = held weight in omega (arith, a, h)

-- as many blocks as were to be put
pub leaves_more : (plan : List Planned) (cs : List (ℕ × Ptr)) (i : ℕ) (d : Planned) (x : ℕ × Ptr) → i < length plan → length (leaves_of cs) ≡ puts_of (take i plan) → length (own x.1) ≡ put_of (get_or plan i d).new → length (leaves_of (cs ++ x ∷ [])) ≡ puts_of (take (i + 1) plan)
leaves_more plan cs i d x lt so_far one =
    let long = ap (λ (bs : List Bptr). length bs) (leaves_append cs x) ∙ length-append (leaves_of cs) (own x.1) in
    omega (arith, long, so_far, one, puts_more plan i d lt)
