-- Lists that are cut into pieces of one length.
use Rattle.std.proofs.Common.{◌≡◌, ◌*◌, ◌/◌, ◌<◌, ◌≤◌, ℕ, zero, suc, List, [], ◌∷◌, ◌++◌, length, take, drop, map, get_or, replicate, refl, sym, ◌∙◌, ap, arith}
use Rattle.std.specs.Prelude.{All}
use Rattle.std.specs.List.{flat_map}
use Rattle.std.specs.Simd.{first_chunks}
use Rattle.std.proofs.lemmas.List.{take-append-drop, length-drop, length-take-le, take-replicate}
use Rattle.std.proofs.lemmas.List.Elements.{All-head, All-tail, All-cons}
use Rattle.std.proofs.Math.Nat.{mul-suc}

-- the pieces make the whole
pub joined : {X : Type 0} (n k : ℕ) (xs : List X) → length xs ≡ n * k → flat_map (λ (c : List X). c) (first_chunks n k xs) ≡ xs
joined n zero [] h = refl
joined n zero (x ∷ xs) h = absurd (omega arith)
joined {X} n (suc k) xs h =
    let rest : length (drop n xs) ≡ n * k = omega (arith, length-drop n xs, mul-suc n k, h) in
    ap (λ (t : List X). take n xs ++ t) (joined n k (drop n xs) rest) ∙ take-append-drop n xs

-- what each gives, one behind the other
pub flat_map-map : {X Y : Type 0} (f : X → List Y) (xs : List X) → flat_map (λ (c : List Y). c) (map f xs) ≡ flat_map f xs
flat_map-map f [] = refl
flat_map-map {X} {Y} f (x ∷ xs) = ap (λ (t : List Y). f x ++ t) (flat_map-map f xs)

-- what each gives is a piece of the whole
pub flat_pieces : {X Y : Type 0} (f : X → List Y) (xs : List X) (n k : ℕ) (whole : List Y) → length whole ≡ n * k → map f xs ≡ first_chunks n k whole → flat_map f xs ≡ whole
flat_pieces {X} {Y} f xs n k whole h e = sym (flat_map-map f xs) ∙ ap (λ (t : List (List Y)). flat_map (λ (c : List Y). c) t) e ∙ joined n k whole h

pub length-chunks : {X : Type 0} (n k : ℕ) (xs : List X) → length (first_chunks n k xs) ≡ k
length-chunks n zero xs = refl
length-chunks n (suc k) xs = ap suc (length-chunks n k (drop n xs))

-- each piece has its length
pub long_chunks : {X : Type 0} (n k : ℕ) (xs : List X) → length xs ≡ n * k → All (λ c. length c ≡ n) (first_chunks n k xs)
long_chunks {X} n zero xs h = λ i d lt. absurd (omega arith)
long_chunks {X} n (suc k) xs h = All-cons (λ (c : List X). length c ≡ n) (take n xs) (first_chunks n k (drop n xs)) first (long_chunks n k (drop n xs) rest)
  where
    rest : length (drop n xs) ≡ n * k
    rest = omega (arith, length-drop n xs, mul-suc n k, h)

    first : length (take n xs) ≡ n
    first = length-take-le n xs (omega (arith, mul-suc n k, h))

pub map_same : {X Y : Type 0} (f g : X → Y) (xs : List X) → ((i : ℕ) (d : X) → i < length xs → g (get_or xs i d) ≡ f (get_or xs i d)) → map g xs ≡ map f xs
map_same f g [] h = refl
map_same {X} {Y} f g (x ∷ xs) h =
    ap (λ (y : Y). y ∷ map g xs) (h 0 x (omega arith)) ∙ ap (λ (ys : List Y). f x ∷ ys) (map_same f g xs (λ i d lt. h (suc i) d (omega (arith, lt))))

pub all_from_map : {X Y : Type 0} (f : X → Y) (P : Y → Type 0) (xs : List X) → All P (map f xs) → All (λ x. P (f x)) xs
all_from_map f P [] h = λ i d lt. absurd (omega arith)
all_from_map {X} {Y} f P (x ∷ xs) h =
    All-cons (λ (z : X). P (f z)) x xs (All-head P (f x) (map f xs) h) (all_from_map f P xs (All-tail P (f x) (map f xs) h))

-- the pieces, under the names of a call
pub chunks_are : {X : Type 0} (n k : ℕ) (xs ys : List X) (cs : List (List X)) → cs ≡ first_chunks n (length xs / n) xs → xs ≡ ys → length xs / n ≡ k → cs ≡ first_chunks n k ys
chunks_are {X} n k xs ys cs cut same count = cut ∙ ap (λ (j : ℕ). first_chunks n j xs) count ∙ ap (λ (zs : List X). first_chunks n k zs) same

-- what stands behind a list up to a length
pub pad_is : {X : Type 0} (n : ℕ) (x : X) (ys xs zs : List X) (k m : ℕ) → zs ≡ ys ++ take k (replicate n x) → ys ≡ xs → k ≡ m → m ≤ n → zs ≡ xs ++ replicate m x
pad_is {X} n x ys xs zs k m is same count most =
    is ∙ ap (λ (ws : List X). ws ++ take k (replicate n x)) same ∙ ap (λ (j : ℕ). xs ++ take j (replicate n x)) count ∙ ap (λ (ws : List X). xs ++ ws) (take-replicate m n x most)
