-- Blocks that are filled from the front, and their parts.
use Rattle.std.proofs.Common.{◌≡◌, ℕ, zero, suc, ◌+◌, ◌-◌, ◌≤◌, List, [], ◌∷◌, ◌++◌, length, take, drop, refl, sym, ap, subst, ◌∙◌, append_assoc, zero-add, replicate, IsTrue, ◌==◌, false, arith}
use Rattle.std.specs.List.{list_all}
use Rattle.std.proofs.Math.Dec.{eqb-suc-zero}
use Rattle.std.proofs.lemmas.List.{take_at, take-replicate, drop-replicate, length-append, length-drop, length-replicate, drop-drop, drop_all, append-nil}
use Rattle.sha2.specs.Sha256.{sha256}
use Rattle.zr_label.specs.Blocks.{padding, IsFilled, summed}

pub drop_past : (done rest : List ℕ) (k : ℕ) → drop (length done + k) (done ++ rest) ≡ drop k rest
drop_past [] rest k = rw zero-add refl
drop_past (x ∷ done) rest k =
    let e : suc (length done) + k ≡ suc (length done + k) = omega arith in rw e (drop_past done rest k)

pub take_past : (done rest : List ℕ) (k : ℕ) → take (length done + k) (done ++ rest) ≡ done ++ take k rest
take_past [] rest k = rw zero-add refl
take_past (x ∷ done) rest k =
    let e : suc (length done) + k ≡ suc (length done + k) = omega arith in rw e (ap (λ (t : List ℕ). x ∷ t) (take_past done rest k))

drop-padding : (k n : ℕ) → drop k (padding n) ≡ padding (n - k)
unfolding padding
drop-padding k n = drop-replicate k n 0

take-padding : (k n : ℕ) → k ≤ n → take k (padding n) ≡ padding k
unfolding padding
take-padding k n le = take-replicate k n 0 le

pub filled_more : (block done part : List ℕ) (at : ℕ) → length done ≡ at → at + length part ≤ 4096 → IsFilled block done →
    take at block ++ (part ++ drop (at + length part) block) ≡ (done ++ part) ++ padding (4096 - length (done ++ part))
filled_more block done part at e fits h =
    let front : take at block ≡ done = ap (take at) h.1 ∙ take_at done (padding (4096 - length done)) at e in
    let back : drop (at + length part) block ≡ padding (4096 - length (done ++ part)) =
    ap (drop (at + length part)) h.1 ∙ (ap (λ (n : ℕ). drop (n + length part) (done ++ padding (4096 - length done))) (sym e)
    ∙ (drop_past done (padding (4096 - length done)) (length part) ∙ (drop-padding (length part) (4096 - length done)
    ∙ ap padding (omega (arith, length-append done part))))) in
    ap (λ (t : List ℕ). t ++ (part ++ drop (at + length part) block)) front
    ∙ (ap (λ (t : List ℕ). done ++ (part ++ t)) back ∙ sym (append_assoc done part (padding (4096 - length (done ++ part)))))

-- the bytes that are summed
pub body_of : (block content : List ℕ) → length content ≤ 4064 → IsFilled block content → take 4064 block ≡ content ++ padding (4064 - length content)
body_of block content le h =
    let n : 4064 ≡ length content + (4064 - length content) = omega arith in
    ap (take 4064) h.1 ∙ (ap (λ (k : ℕ). take k (content ++ padding (4096 - length content))) n
    ∙ (take_past content (padding (4096 - length content)) (4064 - length content)
    ∙ ap (λ (t : List ℕ). content ++ t) (take-padding (4064 - length content) (4096 - length content) (omega arith))))

pub sealed : (block content sum : List ℕ) → length content ≤ 4064 → IsFilled block content → sum ≡ sha256 (take 4064 block) → take 4064 block ++ sum ≡ summed content
unfolding summed
sealed block content sum le h is =
    let body = body_of block content le h in
    ap (λ (t : List ℕ). take 4064 block ++ t) (is ∙ ap sha256 body) ∙ ap (λ (t : List ℕ). t ++ sha256 (content ++ padding (4064 - length content))) body

-- the first part of a block
pub front_is : (x p s : List ℕ) (n : ℕ) → length x ≡ n → take n ((x ++ p) ++ s) ≡ x
front_is x p s n e = ap (take n) (append_assoc x p s) ∙ take_at x (p ++ s) n e

-- a part put behind what stands there, in the form of a write to a range
pub filled_put : (block done part put : List ℕ) (at k : ℕ) → length done ≡ at → at + length part ≤ 4096 → k ≡ length part → put ≡ part → IsFilled block done →
    IsFilled (take at block ++ (put ++ drop k (drop at block))) (done ++ part)
filled_put block done part put at k e fits long same h =
    let rest : drop k (drop at block) ≡ drop (at + length part) block = drop-drop k at block ∙ ap (λ (n : ℕ). drop (at + n) block) long in
    let size : length (done ++ part) ≤ 4096 = omega (arith, length-append done part) in
    (size, ap (λ (t : List ℕ). take at block ++ (t ++ drop k (drop at block))) same ∙ (ap (λ (t : List ℕ). take at block ++ (part ++ t)) rest ∙ filled_more block done part at e fits h))

length-padding : (n : ℕ) → length (padding n) ≡ n
unfolding padding
length-padding n = length-replicate n 0

filled_long : (block done : List ℕ) → IsFilled block done → length block ≡ 4096
filled_long block done h =
    let size = h.0 in let both = length-append done (padding (4096 - length done)) in let pad = length-padding (4096 - length done) in
    ap length h.1 ∙ omega arith

-- the sum put behind the others
pub sealed_put : (block content sum : List ℕ) → length content ≤ 4064 → IsFilled block content → sum ≡ sha256 (take 4064 block) → take 4064 block ++ (sum ++ drop 32 (drop 4064 block)) ≡ summed content
sealed_put block content sum le h is =
    let none : drop 32 (drop 4064 block) ≡ [] = drop_all 32 (drop 4064 block) (omega (arith, length-drop 4064 block, filled_long block content h)) in
    ap (λ (t : List ℕ). take 4064 block ++ (sum ++ t)) none ∙ (ap (λ (t : List ℕ). take 4064 block ++ t) (append-nil sum) ∙ sealed block content sum le h is)

not_zero : (b : ℕ) (bs : List ℕ) → list_all (λ c. c == 0) (suc b ∷ bs) ≡ false
not_zero b bs = rw eqb-suc-zero refl

-- zeros, byte by byte
pub zeros_iff : (bs : List ℕ) (n : ℕ) → length bs ≡ n → (IsTrue (list_all (λ b. b == 0) bs) → bs ≡ replicate n 0) × (bs ≡ replicate n 0 → IsTrue (list_all (λ b. b == 0) bs))
zeros_iff bs n e = (λ h. all_zeros bs h ∙ ap (λ (k : ℕ). replicate k 0) e, λ h. subst (λ (cs : List ℕ). IsTrue (list_all (λ b. b == 0) cs)) (sym h) (zeros_all n))
  where
    all_zeros : (bs : List ℕ) → IsTrue (list_all (λ b. b == 0) bs) → bs ≡ replicate (length bs) 0
    all_zeros [] h = refl
    all_zeros (zero ∷ bs) h = ap (λ (t : List ℕ). 0 ∷ t) (all_zeros bs h)
    all_zeros (suc b ∷ bs) h = absurd (cc (h, not_zero b bs))

    zeros_all : (n : ℕ) → IsTrue (list_all (λ b. b == 0) (replicate n 0))
    zeros_all zero = refl
    zeros_all (suc n) = zeros_all n
