-- A map in memory and the finite map that its entries make.
use Rattle.std.proofs.Common.{◌≡◌, ◌&&◌, ℕ, Bool, zero, suc, true, nat_le, length, List, [], ◌∷◌, Some, None, cond, refl, sym, ap, ◌∙◌}
use Rattle.zr_script.specs.declared.command.Command.TheVariants.{Write, Read}
use Rattle.zr_script.specs.declared.reply.Reply.TheVariants.{Done, Data}
use Rattle.zr_model.specs.Objects.{Bytes, Object, Objects, bytes_at, put_byte, with_bytes, is_within}
use Rattle.zr_model.specs.State.{PoolState, opened, with_objects}
use Rattle.zr_model.specs.Step.{AnswersOpen}
use Rattle.zr_session.specs.Memory.{IsChanged}
use Rattle.std.proofs.Math.Dec.{eqb-suc-zero}
use Rattle.std.specs.Ordering.{nat_cmp}
use Rattle.std.specs.Cmp.{nat_cmp_total, eq_by_cmp_equiv}
use Rattle.std.specs.Map.{lookup}
use Rattle.std.specs.BTreeMap.{is_at}
use Rattle.std.specs.FinSet as set
use Rattle.std.specs.FinMap.{get, insert, remove, from_entries, find, get-from_entries, get-insert, get-remove, same_map, nat_cmp-IsAntisymmetric}

find_is : {X : Type 0} (es : List (ℕ × X)) (q : ℕ) → find nat_cmp q es ≡ lookup (is_at (nat_cmp q)) es
find_is [] q = refl
find_is (e ∷ es) q = ap (cond (is_at (nat_cmp q) e.0) (Some e.1)) (find_is es q)

-- what the map has at a key
pub get_is : {X : Type 0} (es : List (ℕ × X)) (q : ℕ) → get (from_entries {R = nat_cmp} es) q ≡ lookup (is_at (nat_cmp q)) es
get_is es q = get-from_entries nat_cmp_total es q ∙ find_is es q

-- entries that differ at one key make maps that differ there
pub one_given : {X : Type 0} (es fs : List (ℕ × X)) (k : ℕ) (v : X) → ((q : ℕ) → lookup (is_at (nat_cmp q)) fs ≡ cond (is_at (nat_cmp k) q) (Some v) (lookup (is_at (nat_cmp q)) es)) → from_entries {R = nat_cmp} fs ≡ insert (from_entries es) k v
one_given es fs k v h = same_map nat_cmp_total nat_cmp-IsAntisymmetric _ _ (λ q.
    get_is fs q ∙ h q ∙ ap (λ b. cond b (Some v) (lookup (is_at (nat_cmp q)) es)) ((eq_by_cmp_equiv nat_cmp_total).symm k q)
    ∙ sym (get-insert nat_cmp_total (from_entries es) k v q ∙ ap (cond (is_at (nat_cmp q) k) (Some v)) (get_is es q)))

pub one_taken : {X : Type 0} (es fs : List (ℕ × X)) (k : ℕ) → ((q : ℕ) → lookup (is_at (nat_cmp q)) fs ≡ cond (is_at (nat_cmp k) q) None (lookup (is_at (nat_cmp q)) es)) → from_entries {R = nat_cmp} fs ≡ remove (from_entries es) k
one_taken es fs k h = same_map nat_cmp_total nat_cmp-IsAntisymmetric _ _ (λ q.
    get_is fs q ∙ h q ∙ ap (λ b. cond b None (lookup (is_at (nat_cmp q)) es)) ((eq_by_cmp_equiv nat_cmp_total).symm k q)
    ∙ sym (get-remove nat_cmp_total (from_entries es) k q ∙ ap (cond (is_at (nat_cmp q) k) None) (get_is es q)))

pub put_nonzero : (bytes : Bytes) (at b : ℕ) → (b ≡ 0 → ⊥) → put_byte bytes at b ≡ insert bytes at b
put_nonzero bytes at zero h = absurd (h refl)
put_nonzero bytes at (suc b) h = rw eqb-suc-zero refl

pub changed_none : (m n : Objects) (id off : ℕ) (bytes : List ℕ) → get m id ≡ None → IsChanged m id off bytes n
changed_none m n id off bytes e = rw e tt

pub changed_some : (m n : Objects) (id off : ℕ) (bytes : List ℕ) (o : Object) → get m id ≡ Some o → n ≡ insert m id (with_bytes o off bytes) → IsChanged m id off bytes n
changed_some m n id off bytes o e h = rw e h

pub answers_write : (p : PoolState) (m n : Objects) (id off : ℕ) (bytes : List ℕ) (o : Object) → get m id ≡ Some o → is_within o.units off (length bytes) ≡ true → IsChanged m id off bytes n
    → AnswersOpen (with_objects p m) (Write id off bytes) Done (opened (with_objects p n))
answers_write p m n id off bytes o e w h = let c = rw e at h in rw (e, w) (refl, (o, refl, ap (λ x. opened (with_objects p x)) c))

pub answers_read : (p : PoolState) (m : Objects) (id off len : ℕ) (o : Object) (bytes : List ℕ) → get m id ≡ Some o → nat_le len 4096 ≡ true → is_within o.units off len ≡ true → bytes ≡ bytes_at o.bytes off len
    → AnswersOpen (with_objects p m) (Read id off len) (Data bytes) (opened (with_objects p m))
answers_read p m id off len o bytes e l w h = rw (e, l, w) (o, refl, ap Data h, refl)

pub changed_by : (m : Objects) (es fs : List (ℕ × Object)) (id off : ℕ) (bytes : List ℕ) (o w : Object) → from_entries es ≡ m → Some o ≡ lookup (is_at (nat_cmp id)) es → w ≡ with_bytes o off bytes
    → ((q : ℕ) → lookup (is_at (nat_cmp q)) fs ≡ cond (is_at (nat_cmp id) q) (Some w) (lookup (is_at (nat_cmp q)) es)) → IsChanged m id off bytes (from_entries fs)
changed_by m es fs id off bytes o w v e we h =
    changed_some m _ id off bytes o (ap (λ n. get n id) (sym v) ∙ (get_is es id ∙ sym e)) (one_given es fs id w h ∙ (ap (λ n. insert n id w) v ∙ ap (insert m id) we))

-- a set with no member stays one
pub none_lost : (keep : ℕ → Bool) → set.retain (set.empty {R = nat_cmp}) keep ≡ set.empty
none_lost keep = set.same_set nat_cmp_total nat_cmp-IsAntisymmetric _ _ (λ q.
    set.contains-retain set.empty keep q (λ x e. ap keep (sym (nat_cmp-IsAntisymmetric q x e)))
    ∙ ap (λ b. b && keep q) (set.contains-empty nat_cmp q) ∙ sym (set.contains-empty nat_cmp q))
