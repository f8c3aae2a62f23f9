-- Which groups can be gone back to.
use Rattle.std.proofs.Common.{◌≡◌, ◌≢◌, inl, inr, ◌⊎◌, ℕ, ◌+◌, ◌<◌, ◌≤◌, List, length, get_or, Option, Some, None, true, false, Ok, refl, sym, ◌∙◌, ap, subst, arith}
use Rattle.std.specs.Prelude.{Contains, IfNone, IfSome, is_some, ◌==◌, if◌then◌else◌}
use Rattle.std.proofs.lemmas.Bool.{cases_eq, cases_lt}
use Rattle.std.proofs.lemmas.List.{get_or_read}
use Rattle.zr_image.specs.Current.{AreTwoPools, AreTwoRoots, FindsCurrent, IsCurrent, IsGroup, IsInWindow, IsOldest, IsOnePool, IsPair, IsShown, IsShownAt, reset_of, seen_at}
use Rattle.zr_label.specs.declared.root.Label.{Label}
use Rattle.zr_label.specs.declared.root.Seen.{Seen}
use Rattle.zr_label.specs.declared.root.Uber.{Uber}
use Rattle.zr_label.specs.Blocks.{IsUber}
use Rattle.zr_slots.specs.Checks.{AreLawful}
use Rattle.zr_slots.proofs.Lawful.{its_own}
use Rattle.zr_slots.specs.Kept.{IsNoGroup}
use Rattle.zr_slots.proofs.Passing.{below_next}
use Rattle.zr_slots.proofs.Shown.{shown_in}

-- ---- what holds of all items

-- each of the first i items has it
abbrev pub AllYet : {X : Type 0} → (X → Type 0) → List X → ℕ → Type 0
AllYet {X} P xs i = (k : ℕ) (x : X) → k < i → get_or xs k x ≡ x → P x

pub all_more : {X : Type 0} (P : X → Type 0) (xs : List X) (i : ℕ) (y d : X) → i < length xs → y ≡ get_or xs i d → AllYet P xs i → P y → AllYet P xs (i + 1)
all_more P xs i y d lt here before one k x kl is = elim (cases_lt k i) [
  | inl small ↦ before k x small is
  | inr large ↦
      let same : k ≡ i = omega arith in
      let at_i : x ≡ get_or xs i x = sym is ∙ ap (λ j. get_or xs j x) same in
      subst P (sym (get_or_read xs i x lt at_i d ∙ sym here)) one
]

pub all_contains : {X : Type 0} (P : X → Type 0) (xs : List X) (i : ℕ) → length xs ≤ i → AllYet P xs i → (x : X) → Contains xs x → P x
all_contains P xs i long all x (k, lt, is) = all k x (omega arith) is

-- ---- groups

-- a group that has none has no root
pub no_group : (seen : List Seen) (current : Uber) (txg : ℕ) → IsNoGroup seen current txg → (u : Uber) → ¬ IsGroup seen current txg u
no_group seen current txg (inl none) u h = none u h.shown h.txg_is
no_group seen current txg (inr (inl (v, w, v_shown, w_shown, v_txg, other))) u h =
    other.differs (h.one w w_shown (other.group ∙ v_txg) ∙ sym (h.one v v_shown v_txg))
no_group seen current txg (inr (inr (v, v_shown, v_txg, differ))) u h = differ (ap (λ (x : Uber). x.rows) (h.one v v_shown v_txg) ∙ h.devices)

-- what is found is current, and no two pools and no two roots of its group are shown
record IsFound (seen : List Seen) (current : Uber) : Type 0 where
  highest : IsCurrent seen current
  no_pools : (p : ℕ × ℕ) → ¬ IsPair (AreTwoPools seen) p
  no_pair : (p : ℕ × ℕ) → ¬ IsPair (AreTwoRoots seen) p
  no_twice : (slot : ℕ) → ¬ AreTwoRoots seen slot slot

of_one_pool : (seen : List Seen) (u : Uber) (done : Unit {0}) → IsOnePool seen u (Ok done) → ((p : ℕ × ℕ) → ¬ IsPair (AreTwoPools seen) p) × ((p : ℕ × ℕ) → ¬ IsPair (AreTwoRoots seen) p) × ((slot : ℕ) → ¬ AreTwoRoots seen slot slot)
of_one_pool seen u done (inl (pools, no_pools, inl (roots, no_pair, inl (twice, no_twice, copies)))) = (no_pools, no_pair, no_twice)
of_one_pool seen u done (inl (pools, no_pools, inl (roots, no_pair, inr (r, h, is)))) = absurd cc
of_one_pool seen u done (inl (pools, no_pools, inr (r, h, is))) = absurd cc
of_one_pool seen u done (inr (r, h, is)) = absurd cc

found_is : (seen : List Seen) (current : Uber) → FindsCurrent seen (Ok current) → IsFound seen current
found_is seen current (inl (k, known, inl (u, is_current, inl (one, pool, inl (there, devices, gives))))) =
    let same : current ≡ u = cc in
    let none = of_one_pool seen u one pool in
    record { highest = subst (IsCurrent seen) (sym same) is_current; no_pools = none.0; no_pair = none.1; no_twice = none.2 }
found_is seen current (inl (k, known, inl (u, is_current, inl (one, pool, inr (r, h, is))))) = absurd cc
found_is seen current (inl (k, known, inl (u, is_current, inr (r, h, is)))) = absurd cc
found_is seen current (inl (k, known, inr (r, h, is))) = absurd cc
found_is seen current (inr (r, h, is)) = absurd cc

two_at : (seen : List Seen) (current u v : Uber) (a b : ℕ) → IsCurrent seen current → IsShownAt seen a u → IsShownAt seen b v → u.txg ≡ current.txg → v.txg ≡ current.txg → u ≢ v → AreTwoRoots seen a b
two_at seen current u v a b highest at_a at_b u_is v_is differ = record {
  one = u;
  other = v;
  in_one = at_a;
  in_other = at_b;
  one_highest = record { shown = (a, at_a); highest = λ w shown. (let le = highest.highest w shown in omega (arith, le, u_is)) };
  other_highest = record { shown = (b, at_b); highest = λ w shown. (let le = highest.highest w shown in omega (arith, le, v_is)) };
  differ = differ;
}

-- two roots of the highest group are not shown
not_two : (seen : List Seen) (current u v : Uber) → IsFound seen current → IsShown seen u → IsShown seen v → u.txg ≡ current.txg → v.txg ≡ current.txg → u ≢ v → ⊥
not_two seen current u v found (a, at_a) (b, at_b) u_is v_is differ = elim (cases_lt a b) [
  | inl less ↦ found.no_pair (a, b) (record { order = less; here = two_at seen current u v a b found.highest at_a at_b u_is v_is differ })
  | inr more ↦ elim (cases_lt b a) [
    | inl less ↦ found.no_pair (b, a) (record { order = less; here = two_at seen current v u b a found.highest at_b at_a v_is u_is (λ e. differ (sym e)) })
    | inr same ↦
        let is : b ≡ a = omega (arith, more, same) in
        found.no_twice a (two_at seen current u v a a found.highest at_a (subst (λ (slot : ℕ). IsShownAt seen slot v) is at_b) u_is v_is differ)
  ]
]

-- so the current root's group has its root
pub has_current : (seen : List Seen) (current : Uber) → FindsCurrent seen (Ok current) → ¬ IsNoGroup seen current current.txg
has_current seen current found (inl none) = none current (found_is seen current found).highest.shown refl
has_current seen current found (inr (inl (u, v, u_shown, v_shown, u_txg, other))) = not_two seen current u v (found_is seen current found) u_shown v_shown u_txg (other.group ∙ u_txg) (λ e. other.differs (sym e))
has_current seen current found (inr (inr (u, shown, txg, differ))) =
    let is = found_is seen current found in
    not_two seen current u current is shown is.highest.shown txg refl (λ e. differ (ap (λ (x : Uber). x.rows) e))

-- ---- the window

-- so far as it was looked at: nothing, or the groups from this one on are kept
abbrev pub IsWindowTo : List Seen → Uber → ℕ → ℕ → Type 0
IsWindowTo seen current behind oldest = (behind ≡ 0) ⊎ (IsInWindow seen current oldest × (oldest + behind ≡ current.txg + 1))

-- one group more
pub window_more : (seen : List Seen) (current : Uber) (behind oldest g : ℕ) (u : Uber) → IsWindowTo seen current behind oldest → g + behind ≡ current.txg → behind ≤ 2 → reset_of current ≤ g → IsGroup seen current g u → IsWindowTo seen current (behind + 1) g
window_more seen current behind oldest g u window is few since group = inr (
  record {
    past = omega (arith, is);
    near = omega (arith, is, few);
    since = since;
    each = λ k lo hi. elim (cases_lt g k) [
      | inl less ↦ elim window [
        | inl none ↦ absurd (omega (arith, is, none, less, hi))
        | inr before ↦ (let e = before.1 in before.0.each k (omega (arith, is, e, less)) hi)
      ]
      | inr more ↦ (let same : g ≡ k = omega (arith, lo, more) in (u, subst (λ (n : ℕ). IsGroup seen current n u) same group))
    ];
  },
  omega (arith, is),
)

-- no group more, since the next is past the last reset
pub window_reset : (seen : List Seen) (current : Uber) (behind oldest : ℕ) → IsWindowTo seen current behind oldest → current.txg < reset_of current + behind → reset_of current ≤ current.txg → IsOldest seen current oldest
window_reset seen current behind oldest (inl none) less le = absurd (omega (arith, none, less, le))
window_reset seen current behind oldest (inr (window, is)) less le = record { in_window = window; lowest = λ txg h. (let since = h.since in omega (arith, is, less, since)) }

-- or since it has no root
pub window_none : (seen : List Seen) (current : Uber) (behind oldest g : ℕ) → FindsCurrent seen (Ok current) → IsWindowTo seen current behind oldest → g + behind ≡ current.txg → IsNoGroup seen current g → IsOldest seen current oldest
window_none seen current behind oldest g found (inl none) at missing = absurd (has_current seen current found (subst (IsNoGroup seen current) (omega (arith, at, none)) missing))
window_none seen current behind oldest g found (inr (window, is)) at missing = record {
  in_window = window;
  lowest = λ txg h. elim (cases_lt txg oldest) [
    | inl less ↦ (let own = h.each g (omega (arith, at, is, less)) (omega (arith, at)) in absurd (no_group seen current g missing own.0 own.1))
    | inr more ↦ more
  ];
}

-- or since two groups behind the current one are kept at most
pub window_end : (seen : List Seen) (current : Uber) (behind oldest : ℕ) → IsWindowTo seen current behind oldest → 3 ≤ behind → behind ≤ 3 → IsOldest seen current oldest
window_end seen current behind oldest (inl none) lo hi = absurd (omega (arith, none, lo))
window_end seen current behind oldest (inr (window, is)) lo hi = record { in_window = window; lowest = λ txg h. (let near = h.near in omega (arith, is, lo, near)) }

-- a group from the oldest to the current one is kept
pub kept_between : (seen : List Seen) (current : Uber) (oldest txg : ℕ) → IsOldest seen current oldest → oldest ≤ txg → txg ≤ current.txg → IsInWindow seen current txg
kept_between seen current oldest txg h lo hi =
    let w = h.in_window in
    record {
      past = hi;
      near = (let near = w.near in omega (arith, near, lo));
      since = (let since = w.since in omega (arith, since, lo));
      each = λ k from to. w.each k (omega (arith, lo, from)) to;
    }

-- any other is not
pub not_kept : (seen : List Seen) (current : Uber) (oldest txg : ℕ) → IsOldest seen current oldest → (txg < oldest) ⊎ (current.txg < txg) → ¬ IsInWindow seen current txg
not_kept seen current oldest txg h (inl less) w = let le = h.lowest txg w in absurd (omega (arith, le, less))
not_kept seen current oldest txg h (inr more) w = let le = w.past in absurd (omega (arith, le, more))

-- ---- what holds of all roots that are shown

-- of the roots of one slot more
pub slots_more : (P : Uber → Type 0) (seen : List Seen) (n : ℕ) (us : List Uber) → us ≡ (seen_at seen n).ubers → ((k : ℕ) → k < n → (u : Uber) → IsShownAt seen k u → P u) → ((u : Uber) → Contains us u → P u)
    → (k : ℕ) → k < n + 1 → (u : Uber) → IsShownAt seen k u → P u
slots_more P seen n us is before here = below_next (λ (k : ℕ). (u : Uber) → IsShownAt seen k u → P u) n before (λ u at. here u (subst (λ (vs : List Uber). Contains vs u) (sym is) at))

pub slots_all : (P : Uber → Type 0) (seen : List Seen) (n : ℕ) → length seen ≤ n → ((k : ℕ) → k < n → (u : Uber) → IsShownAt seen k u → P u) → (u : Uber) → IsShown seen u → P u
slots_all P seen n long before u (k, at) = before k (let lt = shown_in seen k u at in omega (arith, long, lt)) u at

pub none_there : {X : Type 0} (P : Type 0) (o : Option X) → IfNone o P → ((x : X) → o ≡ Some x → ⊥) → P
none_there P None h not = h
none_there P (Some x) h not = absurd (not x refl)

pub not_some : {X : Type 0} (P : Type 0) (o : Option X) → is_some o ≡ false → IfNone o P → P
not_some P None none h = h
not_some P (Some x) none h = absurd cc

pub some_there : {X : Type 0} (P : X → Type 0) (o : Option X) → is_some o ≡ true → IfSome o P → (x : X) × P x
some_there P None some h = absurd cc
some_there P (Some x) some h = (x, h)

-- the last reset is not behind the root
pub reset_past : (u : Uber) → u.reset ≤ u.txg → reset_of u ≤ u.txg
reset_past u le = elim (u.reset == 0) as (λ b. (if b then u.txg else u.reset) ≤ u.txg) [ true ↦ omega arith | false ↦ le ]

-- a root that is shown is lawful
pub shown_lawful : (seen : List Seen) → AreLawful seen → (u : Uber) → IsShown seen u → IsUber u
shown_lawful seen lawful u (slot, at) =
    let own = lawful slot (shown_in seen slot u at) in
    (its_own (seen_at seen slot).label (seen_at seen slot).ubers u own.lawful.roots at).2.lawful

-- and is of the pool of the current one
pub same_pool : (seen : List Seen) (current u : Uber) → AreLawful seen → FindsCurrent seen (Ok current) → IsShown seen u → u.guid ≡ current.guid
same_pool seen current u lawful found (a, at_a) = elim (cases_eq u.guid current.guid) [
  | inl same ↦ same
  | inr other ↦
      let is = found_is seen current found in
      let b = is.highest.shown.0 in
      let at_b = is.highest.shown.1 in
      elim (cases_lt a b) [
        | inl less ↦ absurd (is.no_pools (a, b) (record { order = less; here = record { one = u; other = current; in_one = at_a; in_other = at_b; differ = other } }))
        | inr more ↦ elim (cases_lt b a) [
          | inl less ↦ absurd (is.no_pools (b, a) (record { order = less; here = record { one = current; other = u; in_one = at_b; in_other = at_a; differ = λ e. other (sym e) } }))
          | inr back ↦
              let here : b ≡ a = omega (arith, more, back) in
              let own = lawful a (shown_in seen a u at_a) in
              let mine = its_own (seen_at seen a).label (seen_at seen a).ubers u own.lawful.roots at_a in
              let its = its_own (seen_at seen a).label (seen_at seen a).ubers current own.lawful.roots (subst (λ (slot : ℕ). IsShownAt seen slot current) here at_b) in
              let both : Some mine.0 ≡ Some its.0 = sym mine.1 ∙ its.1 in
              let label : mine.0 ≡ its.0 = cc in
              mine.2.suits.pool ∙ (ap (λ (l : Label). l.guid) label ∙ sym its.2.suits.pool)
        ]
      ]
]

-- what is found is shown
pub found_shown : (seen : List Seen) (current : Uber) → FindsCurrent seen (Ok current) → IsShown seen current
found_shown seen current found = (found_is seen current found).highest.shown
