-- Each unit that is there counts in one column.
use Rattle.std.proofs.Common.{◌≡◌, ℕ, zero, suc, ◌+◌, ◌<◌, Bool, true, false, nat_lt, refl, arith, cond, ap, ◌∙◌}
use Rattle.zr_rules.specs.Columns.{role_count}
use Rattle.zr_rules.specs.Places.{one_if, count_below, is_held, is_kept, units_of_dev}
use Rattle.zr_rules.specs.Roles.{Role, is_allocated_role, is_kept_role, is_deferred_role, is_free_role}
use Rattle.zr_rules.specs.Roles.Role.{Absent, Free, FreshLive, Live, FreshCopy, Copy, Kept, DeferredBlock, DeferredMeta, Late1Block, Late1Meta, Late2Block, Late2Meta, Meta, SavedMeta}
use Rattle.zr_rules.specs.Space.{Space, role_at, held_role, other_role, has_place, copy_hits, is_born}

-- in how many columns a role counts
unfoldable pub column_hits : Role → ℕ
column_hits r = one_if (is_allocated_role r) + one_if (is_kept_role r) + one_if (is_deferred_role r) + one_if (is_free_role r)

-- a unit that is there has one of these roles
abbrev pub is_used_role : Role → Bool
is_used_role Absent = false
is_used_role _ = true

one_column : (r : Role) → is_used_role r ≡ true → column_hits r ≡ 1
unfolding column_hits
one_column Absent h = absurd (cc)
one_column Free h = refl
one_column FreshLive h = refl
one_column Live h = refl
one_column FreshCopy h = refl
one_column Copy h = refl
one_column Kept h = refl
one_column DeferredBlock h = refl
one_column DeferredMeta h = refl
one_column Late1Block h = refl
one_column Late1Meta h = refl
one_column Late2Block h = refl
one_column Late2Meta h = refl
one_column Meta h = refl
one_column SavedMeta h = refl

choose : (b : Bool) (x y : Role) → is_used_role x ≡ true → is_used_role y ≡ true → is_used_role (cond b x y) ≡ true
choose true x y h k = h
choose false x y h k = k

held_used : (s : Space) (d u : ℕ) → is_used_role (held_role s d u) ≡ true
held_used s d u =
    choose (is_kept s.parts.devs d u) Kept (cond (nat_lt 0 (copy_hits s.parts.devs d u)) (cond (is_born s d u) FreshCopy Copy) (cond (is_born s d u) FreshLive Live)) refl
    (choose (nat_lt 0 (copy_hits s.parts.devs d u)) (cond (is_born s d u) FreshCopy Copy) (cond (is_born s d u) FreshLive Live)
    (choose (is_born s d u) FreshCopy Copy refl refl) (choose (is_born s d u) FreshLive Live refl refl))

other_used : (s : Space) (d u : ℕ) → is_used_role (other_role s d u) ≡ true
other_used s d u = grind arith

pub role_counts : (s : Space) (d u : ℕ) → has_place s d u ≡ true → column_hits (role_at s d u) ≡ 1
unfolding role_at
role_counts s d u there =
    one_column (role_at s d u) (rw there (choose (is_held s.parts.devs d u) (held_role s d u) (other_role s d u) (held_used s d u) (other_used s d u)))

-- four counts of which one goes up at each number
pub counts_add : (n : ℕ) (a b c e : ℕ → Bool) → ((u : ℕ) → u < n → one_if (a u) + one_if (b u) + one_if (c u) + one_if (e u) ≡ 1) → count_below n a + count_below n b + count_below n c + count_below n e ≡ n
counts_add zero a b c e each = refl
counts_add (suc n) a b c e each = omega (arith, counts_add n a b c e (λ u lt. each u (omega arith)), each n (omega arith))

-- tests that answer the same at each number below n count the same
pub same_count : (n : ℕ) (a b : ℕ → Bool) → ((u : ℕ) → a u ≡ b u) → count_below n a ≡ count_below n b
same_count zero a b each = refl
same_count (suc n) a b each = ap (λ (m : ℕ). m + one_if (a n)) (same_count n a b each) ∙ ap (λ (t : Bool). count_below n b + one_if t) (each n)

-- counts of roles over as many units, with the same role at each
pub same_roles : (s t : Space) (d : ℕ) (kind : Role → Bool) → units_of_dev s.parts.devs d ≡ units_of_dev t.parts.devs d → ((u : ℕ) → role_at s d u ≡ role_at t d u) → role_count s kind d ≡ role_count t kind d
same_roles s t d kind units each =
    same_count (units_of_dev s.parts.devs d) (λ u. kind (role_at s d u)) (λ u. kind (role_at t d u)) (λ u. ap kind (each u))
    ∙ ap (λ (n : ℕ). count_below n (λ u. kind (role_at t d u))) units
