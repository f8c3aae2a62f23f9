-- The table of a pool with a device more.
use Rattle.std.proofs.Common.{◌≡◌, inl, inr, ◌⊎◌, ℕ, suc, ◌+◌, ◌<◌, ◌≤◌, ◌^◌, ◌-◌, ◌/◌, Bool, cond, true, false, List, [], ◌∷◌, length, get_or, set, take, drop, drop-cons, Option, None, Some, refl, sym, ◌∙◌, ap, subst, arith}
use Rattle.std.specs.Prelude.{◌&&◌}
use Rattle.std.specs.List.{list_all, list_any}
use Rattle.std.proofs.lemmas.Bool.Decides.{nat_tests}
use Rattle.std.proofs.lemmas.List.{take_more_set, drop-set-lt, length-set}
use Rattle.std.proofs.lemmas.List.Folds.{list_all-append, list_any-append}
use Rattle.zr_base.specs.declared.space.DevRow.{DevRow}
use Rattle.zr_label.specs.Blocks.{is_row, is_no_row}
use Rattle.zr_label.specs.Geometry.{whole, is_disk_size, units_of_size, unit_at}
use Rattle.zr_rules.specs.Places.{is_on}
use Rattle.zr_sync.specs.Pools.{AreRows}
use Rattle.zr_create.specs.Devices.{new_row}

-- what a disk of a size that is taken has
pub record IsSized (size version units : ℕ) : Type 0 where
  pub size_is : is_disk_size version size ≡ true
  pub units_any : units_of_size size 2 ≡ Some units
  pub fits : unit_at units ≤ size
  pub small : units < 2 ^ 40
  pub row : (txg : ℕ) → 1 ≤ txg → is_row version txg (new_row units txg) ≡ true

opened : (b : Bool) (n units : ℕ) → cond b (Some n) None ≡ Some units → (b ≡ true) × (n ≡ units)
opened true n units is = (refl, cc)
opened false n units is = absurd cc

pub any_version : (size version : ℕ) → (version ≡ 1) ⊎ (version ≡ 2) → is_disk_size version size ≡ true → is_disk_size 2 size ≡ true
any_version size version (inl one) is = let of1 : is_disk_size 1 size ≡ true = subst (λ v. is_disk_size v size ≡ true) one is in grind (arith, nat_tests, of1)
any_version size version (inr two) is = subst (λ v. is_disk_size v size ≡ true) two is

new_row_in : (size version units txg : ℕ) → (version ≡ 1) ⊎ (version ≡ 2) → is_disk_size version size ≡ true → (whole size - 4718592) / 4096 ≡ units → 1 ≤ txg → is_row version txg (new_row units txg) ≡ true
new_row_in size version units txg (inl one) is units_are some =
    subst (λ v. is_row v txg (new_row units txg) ≡ true) (sym one) (let of1 : is_disk_size 1 size ≡ true = subst (λ v. is_disk_size v size ≡ true) one is in grind (arith, nat_tests, of1, units_are, some))
new_row_in size version units txg (inr two) is units_are some =
    subst (λ v. is_row v txg (new_row units txg) ≡ true) (sym two) (let of2 : is_disk_size 2 size ≡ true = subst (λ v. is_disk_size v size ≡ true) two is in grind (arith, nat_tests, of2, units_are, some))

units_fit : (size units : ℕ) → is_disk_size 2 size ≡ true → (whole size - 4718592) / 4096 ≡ units → unit_at units ≤ size
units_fit size units is units_are = grind (arith, nat_tests, is, units_are)

abbrev some_units : ℕ → Option ℕ
some_units n = Some n

any_units : (size units : ℕ) → is_disk_size 2 size ≡ true → (whole size - 4718592) / 4096 ≡ units → units_of_size size 2 ≡ Some units
any_units size units used are = ap (λ (b : Bool). cond b (Some ((whole size - 4718592) / 4096)) None) used ∙ ap (λ (n : ℕ). some_units n) are

units_small : (size units : ℕ) → is_disk_size 2 size ≡ true → (whole size - 4718592) / 4096 ≡ units → units < 2 ^ 40
units_small size units is units_are = grind (arith, nat_tests, is, units_are)

pub sized : (size version units : ℕ) → (version ≡ 1) ⊎ (version ≡ 2) → units_of_size size version ≡ Some units → IsSized size version units
sized size version units known is =
    let got = opened (is_disk_size version size) ((whole size - 4718592) / 4096) units is in
    let any = any_version size version known got.0 in
    record {
      size_is = got.0;
      units_any = any_units size units any got.1;
      fits = units_fit size units any got.1;
      small = units_small size units any got.1;
      row = λ txg some. new_row_in size version units txg known got.0 got.1 some;
    }

-- the front with one more passes
pub front_more : {X : Type 0} (p : X → Bool) (xs : List X) (n : ℕ) (x : X) → n < length xs → list_all p (take n xs) ≡ true → p x ≡ true → list_all p (take (n + 1) (set xs n x)) ≡ true
front_more p xs n x lt all one =
    ap (list_all p) (take_more_set xs n x lt) ∙ (list_all-append p (take n xs) (x ∷ []) ∙ (ap (λ b. b && (p x && true)) all ∙ ap (λ b. b && true) one))

-- and where the one that came passes, one of them does
pub front_any : {X : Type 0} (p : X → Bool) (xs : List X) (n : ℕ) (x : X) → n < length xs → p x ≡ true → list_any p (take (n + 1) (set xs n x)) ≡ true
front_any p xs n x lt one =
    ap (list_any p) (take_more_set xs n x lt) ∙ (list_any-append p (take n xs) (x ∷ []) ∙ grind (arith, nat_tests, one))

second : (a b : Bool) → (a && b) ≡ true → b ≡ true
second true b is = is
second false b is = absurd cc

-- the rest with one less passes
pub rest_less : {X : Type 0} (p : X → Bool) (xs : List X) (n : ℕ) (x : X) → n < length xs → list_all p (drop n xs) ≡ true → list_all p (drop (n + 1) (set xs n x)) ≡ true
rest_less p xs n x lt all =
    let step : suc n ≡ n + 1 = omega arith in
    let at : drop n xs ≡ get_or xs n x ∷ drop (n + 1) xs = subst (λ (k : ℕ). drop n xs ≡ get_or xs n x ∷ drop k xs) step (drop-cons xs n x lt) in
    let passes : (p (get_or xs n x) && list_all p (drop (n + 1) xs)) ≡ true = sym (ap (list_all p) at) ∙ all in
    ap (list_all p) (drop-set-lt (n + 1) xs n x (omega arith)) ∙ second (p (get_or xs n x)) (list_all p (drop (n + 1) xs)) passes

pub rows_more : (version txg count units : ℕ) (rows : List DevRow) → AreRows version txg count rows → count < 32 → is_row version txg (new_row units txg) ≡ true → AreRows version txg (count + 1) (set rows count (new_row units txg))
rows_more version txg count units rows are lt row = record {
  size = length-set rows count (new_row units txg) ∙ are.size;
  devices = front_more (is_row version txg) rows count (new_row units txg) (let n = are.size in omega (arith, lt, n)) are.devices row;
  on = λ some. front_any (λ r. is_on r.state) rows count (new_row units txg) (let n = are.size in omega (arith, lt, n)) refl;
  rest = rest_less is_no_row rows count (new_row units txg) (let n = are.size in omega (arith, lt, n)) are.rest;
}
