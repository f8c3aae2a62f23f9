-- Whether an address is stored: it is, or it is not.
use Rattle.std.proofs.Common.{◌≡◌, ◌⊎◌, inl, inr, ℕ, zero, suc, ◌+◌, ◌-◌, ◌<◌, ◌≤◌, ◌||◌, Bool, true, false, not, nat_lt, List, [], ◌∷◌, length, Option, Some, None, refl, sym, ◌∙◌, ap, subst, arith}
use Rattle.std.specs.Prelude.{slice_index}
use Rattle.std.specs.List.{list_any, sum_by}
use Rattle.std.proofs.lemmas.Bool.Decides.{nat_tests}
use Rattle.std.proofs.lemmas.List.Folds.{list_any-append}
use Rattle.std.proofs.lemmas.List.Sums.{sum_by-cons}
use Rattle.zr_base.specs.declared.space.Dva.{Dva}
use Rattle.zr_base.specs.declared.space.DevPart.{DevPart}
use Rattle.zr_chain.proofs.Ways.{cases_bool}
use Rattle.zr_rules.specs.Places.{Place, one_if, is_gone, is_place, is_fresh, in_address, part_of, state_of_dev, units_of_dev, places_of}
use Rattle.zr_rules.specs.Devices.{Devices}
use Rattle.zr_rules.specs.Mappings.{entry_at}
use Rattle.zr_rules.specs.Resolve.{is_at, is_resolved, passed_units, pass_hits, resolved_units}
use Rattle.zr_rules.specs.Roles.{Role, is_live_role}
use Rattle.zr_rules.specs.Roles.Role.{Meta, SavedMeta}
use Rattle.zr_rules.specs.Space.{Space, role_at}
use Rattle.zr_rules.specs.Equation.{Spends, devices_in, fresh_in, ways_in}
use Rattle.zr_space.specs.Live.{IsFreeable}
use Rattle.zr_space.specs.Drops.{IsMeta, HasRole}
use Rattle.zr_space.proofs.Paths.{part_past}
use Rattle.zr_vdev.specs.declared.kind.Kind.{Kind}
use Rattle.zr_vdev.specs.declared.kind.Kind.TheVariants as kinds
use Rattle.zr_vdev.specs.Stores.{IsInUse, IsApart, IsStoredAt}
use Rattle.zr_vdev.proofs.Leading.{false_true}

abbrev Or : Type 0 → Type 0
Or P = P ⊎ ¬ P

-- ---- numbers

lt_or : (n m : ℕ) → (n < m) ⊎ (m ≤ n)
lt_or n m = grind (arith, nat_tests)

-- what is so of each number below one, or not
every_or : (n : ℕ) (P : ℕ → Type 0) → ((k : ℕ) → Or (P k)) → Or ((k : ℕ) → k < n → P k)
every_or zero P each = inl (λ k lt. absurd (omega (arith, lt)))
every_or (suc n) P each = elim (every_or n P each) [
  | inr never ↦ inr (λ all. never (λ k lt. all k (omega (arith, lt))))
  | inl below ↦ elim (each n) [
    | inr never ↦ inr (λ all. never (all n (omega arith)))
    | inl last ↦ inl (λ k lt. elim (lt_or k n) [
      | inl less ↦ below k less
      | inr more ↦ subst P (omega (arith, lt, more)) last
    ])
  ]
]

le_or : (m n : ℕ) → Or (m ≤ n)
le_or m n = elim (lt_or n m) [
  | inl more ↦ inr (λ le. absurd (omega (arith, more, le)))
  | inr le ↦ inl le
]

-- ---- places

or_first : (a b : Bool) → a ≡ true → (a || b) ≡ true
or_first a b is = grind (arith, nat_tests, is)

or_more : (a b : Bool) → b ≡ true → (a || b) ≡ true
or_more a b is = grind (arith, nat_tests, is)

or_rest : (a b : Bool) → a ≡ false → (a || b) ≡ true → b ≡ true
or_rest a b out is = grind (arith, nat_tests, out, is)

itself : (p : Place) → is_place p p.0 p.1 ≡ true
itself p = grind (arith, nat_tests)

-- what is so of a place is so of the same one
at_place : (test : ℕ → ℕ → Bool) (p : Place) (d u : ℕ) → is_place p d u ≡ true → test d u ≡ test p.0 p.1
at_place test p d u at =
    let dev : d ≡ p.0 = grind (arith, nat_tests, at) in
    let unit : u ≡ p.1 = grind (arith, nat_tests, at) in
    ap (λ (e : ℕ). test e u) dev ∙ ap (λ (v : ℕ). test p.0 v) unit

-- each place to which the units lead passes the test, or one does not
led_or : (test : ℕ → ℕ → Bool) (ps : List (Option Place)) → Or ((d u : ℕ) → list_any (λ p. is_at p d u) ps ≡ true → test d u ≡ true)
led_or test [] = inl (λ d u is. absurd (false_true is))
led_or test (None ∷ ps) = led_or test ps
led_or test (Some p ∷ ps) = elim (cases_bool (test p.0 p.1)) [
  | inr fails ↦ inr (λ all. false_true (sym fails ∙ all p.0 p.1 (or_first (is_place p p.0 p.1) (list_any (λ q. is_at q p.0 p.1) ps) (itself p))))
  | inl first ↦ elim (led_or test ps) [
    | inr never ↦ inr (λ all. never (λ d u is. all d u (or_more (is_place p d u) (list_any (λ q. is_at q d u) ps) is)))
    | inl rest ↦ inl (λ d u led. elim (cases_bool (is_place p d u)) [
      | inl at ↦ at_place test p d u at ∙ first
      | inr out ↦ rest d u (or_rest (is_place p d u) (list_any (λ q. is_at q d u) ps) out led)
    ])
  ]
]

any_counts : (ps : List (Option Place)) (d u : ℕ) → list_any (λ (p : Option Place). is_at p d u) ps ≡ nat_lt 0 (sum_by (λ (p : Option Place). one_if (is_at p d u)) ps)
any_counts [] d u = refl
any_counts (p ∷ ps) d u =
    let rest = any_counts ps d u in
    let more = list_any-append (λ (q : Option Place). is_at q d u) (p ∷ []) ps in
    let sum = sum_by-cons (λ (q : Option Place). one_if (is_at q d u)) p ps in
    more ∙ grind (arith, nat_tests, rest, sum)

-- no place is led to twice, or one is
once_or : (ps : List (Option Place)) → Or ((d u : ℕ) → sum_by (λ (p : Option Place). one_if (is_at p d u)) ps ≤ 1)
once_or [] = inl (λ d u. omega arith)
once_or (None ∷ ps) = elim (once_or ps) [
  | inl once ↦ inl (λ d u. let o = once d u in omega (arith, o, sum_by-cons (λ (p : Option Place). one_if (is_at p d u)) None ps))
  | inr twice ↦ inr (λ all. twice (λ d u. let o = all d u in omega (arith, o, sum_by-cons (λ (p : Option Place). one_if (is_at p d u)) None ps)))
]
once_or (Some p ∷ ps) = elim (cases_bool (list_any (λ (q : Option Place). is_at q p.0 p.1) ps)) [
  | inl again ↦ inr (λ all.
      let o = all p.0 p.1 in
      let c = any_counts ps p.0 p.1 in
      let some : 0 < sum_by (λ (q : Option Place). one_if (is_at q p.0 p.1)) ps = grind (arith, nat_tests, again, c) in
      let one = ap one_if (itself p) in
      absurd (omega (arith, o, some, one, sum_by-cons (λ (q : Option Place). one_if (is_at q p.0 p.1)) (Some p) ps)))
  | inr alone ↦ elim (once_or ps) [
    | inr twice ↦ inr (λ all. twice (λ d u. let o = all d u in omega (arith, o, sum_by-cons (λ (q : Option Place). one_if (is_at q d u)) (Some p) ps)))
    | inl once ↦ inl (λ d u. elim (cases_bool (is_place p d u)) [
      | inl at ↦
          let none : list_any (λ (q : Option Place). is_at q d u) ps ≡ false = at_place (λ e v. list_any (λ (q : Option Place). is_at q e v) ps) p d u at ∙ alone in
          let c = any_counts ps d u in
          let zero_is : sum_by (λ (q : Option Place). one_if (is_at q d u)) ps ≡ 0 = grind (arith, nat_tests, none, c) in
          let one = ap one_if at in
          omega (arith, zero_is, one, sum_by-cons (λ (q : Option Place). one_if (is_at q d u)) (Some p) ps)
      | inr out ↦
          let o = once d u in
          let none = ap one_if out in
          omega (arith, o, none, sum_by-cons (λ (q : Option Place). one_if (is_at q d u)) (Some p) ps)
    ])
  ]
]

-- ---- what may go back

module _ (fresh : ℕ → ℕ → Bool) where
  abbrev Unmarked : (ℕ → ℕ → ℕ) → Type 0
  Unmarked hits = (d u : ℕ) → 0 < hits d u → fresh d u ≡ false

  places_or : (qs : List Place) → Or (Unmarked (λ d u. sum_by (λ (q : Place). one_if (is_place q d u)) qs))
  places_or [] = inl (λ d u some. absurd (omega (arith, some)))
  places_or (q ∷ qs) = elim (cases_bool (fresh q.0 q.1)) [
    | inl marked ↦ inr (λ all.
        let one = ap one_if (itself q) in
        false_true (sym (all q.0 q.1 (omega (arith, one, sum_by-cons (λ (p : Place). one_if (is_place p q.0 q.1)) q qs))) ∙ marked))
    | inr first ↦ elim (places_or qs) [
      | inr never ↦ inr (λ all. never (λ d u some. all d u (omega (arith, some, sum_by-cons (λ (p : Place). one_if (is_place p d u)) q qs))))
      | inl rest ↦ inl (λ d u some. elim (cases_bool (is_place q d u)) [
        | inl at ↦ at_place fresh q d u at ∙ first
        | inr out ↦ let none = ap one_if out in rest d u (omega (arith, some, none, sum_by-cons (λ (p : Place). one_if (is_place p d u)) q qs))
      ])
    ]
  ]

  zero_or_some : (n : ℕ) → (n ≡ 0) ⊎ (0 < n)
  zero_or_some zero = inl refl
  zero_or_some (suc n) = inr (omega arith)

  ways_or : (ds : Devices) (ps : List Place) → Or (Unmarked (λ d u. sum_by (λ (p : Place). sum_by (λ (q : Place). one_if (is_place q d u)) (passed_units ds p.0 p.1)) ps))
  ways_or ds [] = inl (λ d u some. absurd (omega (arith, some)))
  ways_or ds (p ∷ ps) = elim (places_or (passed_units ds p.0 p.1)) [
    | inr never ↦ inr (λ all. never (λ d u some. all d u (omega (arith, some, sum_by-cons (λ (x : Place). sum_by (λ (q : Place). one_if (is_place q d u)) (passed_units ds x.0 x.1)) p ps))))
    | inl first ↦ elim (ways_or ds ps) [
      | inr never ↦ inr (λ all. never (λ d u some. all d u (omega (arith, some, sum_by-cons (λ (x : Place). sum_by (λ (q : Place). one_if (is_place q d u)) (passed_units ds x.0 x.1)) p ps))))
      | inl rest ↦ inl (λ d u some. elim (zero_or_some (sum_by (λ (q : Place). one_if (is_place q d u)) (passed_units ds p.0 p.1))) [
        | inr it ↦ first d u it
        | inl none ↦ rest d u (omega (arith, some, none, sum_by-cons (λ (x : Place). sum_by (λ (q : Place). one_if (is_place q d u)) (passed_units ds x.0 x.1)) p ps))
      ])
    ]
  ]

not_gone_past : (parts : List DevPart) (d : ℕ) → length parts ≤ d → is_gone (state_of_dev parts d) ≡ false
not_gone_past parts d past = ap (λ (p : DevPart). is_gone p.row.state) (part_past parts d past)

module _ (s : Space) (a : Dva) where
  abbrev IsSmall : ℕ → ℕ → Type 0
  IsSmall d i =
      slice_index (part_of s.parts.devs d).counts i + fresh_in (part_of s.parts.devs d) (entry_at (part_of s.parts.devs d).entries i)
      + ways_in (devices_in s) (a ∷ []) d (entry_at (part_of s.parts.devs d).entries i) ≤ (entry_at (part_of s.parts.devs d).entries i).len

  device_or : (d : ℕ) → Or (is_gone (state_of_dev s.parts.devs d) ≡ true → (i : ℕ) → i < length (part_of s.parts.devs d).entries → IsSmall d i)
  device_or d = elim (cases_bool (is_gone (state_of_dev s.parts.devs d))) [
    | inr stays ↦ inl (λ gone. absurd (false_true (sym stays ∙ gone)))
    | inl gone ↦ elim (every_or (length (part_of s.parts.devs d).entries) (IsSmall d) (λ i. le_or _ _)) [
      | inl all ↦ inl (λ is. all)
      | inr never ↦ inr (λ all. never (all gone))
    ]
  ]

  spends_or : Or (Spends s (a ∷ []))
  spends_or = elim (ways_or (is_fresh s.parts.devs) (devices_in s) (places_of a)) [
    | inr never ↦ inr (λ h. never (λ d u some. h.passed d u (omega (arith, some, sum_by-cons (λ (x : Dva). pass_hits (devices_in s) x d u) a []))))
    | inl passed ↦ elim (every_or (length s.parts.devs) (λ d. is_gone (state_of_dev s.parts.devs d) ≡ true → (i : ℕ) → i < length (part_of s.parts.devs d).entries → IsSmall d i) device_or) [
      | inr never ↦ inr (λ h. never (λ d lt gone i inside. h.entries d i gone inside))
      | inl small ↦ inl (record {
        passed = λ d u some. passed d u (omega (arith, some, sum_by-cons (λ (x : Dva). pass_hits (devices_in s) x d u) a []));
        entries = λ d i gone inside. elim (lt_or d (length s.parts.devs)) [
          | inl lt ↦ small d lt gone i inside
          | inr past ↦ absurd (false_true (sym (not_gone_past s.parts.devs d past) ∙ gone))
        ];
      })
    ]
  ]

  freeable_or : Or (IsFreeable s a)
  freeable_or = elim (lt_or a.dev (length s.parts.devs)) [
    | inr past ↦ inr (λ h. let k = h.known in absurd (omega (arith, past, k)))
    | inl known ↦ elim (lt_or 0 a.len) [
      | inr none ↦ inr (λ h. let k = h.some in absurd (omega (arith, none, k)))
      | inl some ↦ elim (cases_bool (is_resolved (devices_in s) a)) [
        | inr lost ↦ inr (λ h. false_true (sym lost ∙ h.resolves))
        | inl resolves ↦ elim (once_or (resolved_units (devices_in s) a)) [
          | inr twice ↦ inr (λ h. twice h.once)
          | inl once ↦ elim (led_or (λ d u. is_live_role (role_at s d u)) (resolved_units (devices_in s) a)) [
            | inr never ↦ inr (λ h. never h.used)
            | inl used ↦ elim spends_or [
              | inr never ↦ inr (λ h. never h.spends)
              | inl spends ↦ inl (record { known = known; some = some; resolves = resolves; once = once; used = used; spends = spends })
            ]
          ]
        ]
      ]
    ]
  ]

-- ---- metadata

inside : (a : Dva) (u : ℕ) → a.start ≤ u → u < a.start + a.len → in_address a a.dev u ≡ true
inside a u le lt = grind (arith, nat_tests, le, lt)

is_plain : Role → Bool
is_plain Meta = true
is_plain _ = false

is_saved : Role → Bool
is_saved SavedMeta = true
is_saved _ = false

plain_is : (r : Role) → is_plain r ≡ true → r ≡ Meta
unfolding is_plain
plain_is r is = grind (arith, nat_tests, is)

saved_is : (r : Role) → is_saved r ≡ true → r ≡ SavedMeta
unfolding is_saved
saved_is r is = grind (arith, nat_tests, is)

meta_plain : is_plain Meta ≡ true
unfolding is_plain
meta_plain = refl

meta_saved : is_saved SavedMeta ≡ true
unfolding is_saved
meta_saved = refl

bool_or : (b : Bool) → Or (b ≡ true)
bool_or true = inl refl
bool_or false = inr false_true

module _ (s : Space) (a : Dva) where
  role_or : (test : Role → Bool) (r : Role) → ((q : Role) → test q ≡ true → q ≡ r) → test r ≡ true → Or (HasRole s a r)
  role_or test r means is = elim (every_or a.len (λ k. test (role_at s a.dev (a.start + k)) ≡ true) (λ k. bool_or (test (role_at s a.dev (a.start + k))))) [
    | inl all ↦ inl (λ u within.
        let low : a.start ≤ u = grind (arith, nat_tests, within) in
        let high : u < a.start + a.len = grind (arith, nat_tests, within) in
        let at : a.start + (u - a.start) ≡ u = omega (arith, low) in
        means (role_at s a.dev u) (subst (λ (v : ℕ). test (role_at s a.dev v) ≡ true) at (all (u - a.start) (omega (arith, low, high)))))
    | inr never ↦ inr (λ has. never (λ k lt. ap test (has (a.start + k) (inside a (a.start + k) (omega arith) (omega (arith, lt)))) ∙ is))
  ]

  neither : HasRole s a Meta ⊎ HasRole s a SavedMeta → ¬ HasRole s a Meta → ¬ HasRole s a SavedMeta → ⊥
  neither (inl p) x y = x p
  neither (inr p) x y = y p

  meta_or : Or (IsMeta s a)
  meta_or = elim (lt_or a.dev (length s.parts.devs)) [
    | inr past ↦ inr (λ h. let k = h.known in absurd (omega (arith, past, k)))
    | inl known ↦ elim (lt_or 0 a.len) [
      | inr none ↦ inr (λ h. let k = h.some in absurd (omega (arith, none, k)))
      | inl some ↦ elim (le_or (a.start + a.len) (units_of_dev s.parts.devs a.dev)) [
        | inr past ↦ inr (λ h. past h.within)
        | inl within ↦ elim (role_or is_plain Meta plain_is meta_plain) [
          | inl plain ↦ inl (record { known = known; some = some; within = within; used = inl plain })
          | inr not_plain ↦ elim (role_or is_saved SavedMeta saved_is meta_saved) [
            | inl saved ↦ inl (record { known = known; some = some; within = within; used = inr saved })
            | inr not_saved ↦ inr (λ h. neither h.used not_plain not_saved)
          ]
        ]
      ]
    ]
  ]

-- ---- what is stored

use_or : (kind : Kind) (s : Space) (a : Dva) → Or (IsInUse kind s a)
use_or kinds.Block s a = freeable_or s a
use_or kinds.Meta s a = meta_or s a

not_true : (b : Bool) → not b ≡ true → b ≡ false
not_true b is = grind (arith, nat_tests, is)

not_false : (b : Bool) → b ≡ false → not b ≡ true
not_false b is = grind (arith, nat_tests, is)

apart_or : (ds : Devices) (lost : Option Dva) (a : Dva) → Or (IsApart ds lost a)
apart_or ds None a = inl tt
apart_or ds (Some l) a = elim (led_or (λ d u. not (in_address l d u)) (resolved_units ds a)) [
  | inl all ↦ inl (λ d u led. not_true (in_address l d u) (all d u led))
  | inr never ↦ inr (λ all. never (λ d u led. not_false (in_address l d u) (all d u led)))
]

pub stored_or : (kind : Kind) (s : Space) (lost : Option Dva) (a : Dva) → IsStoredAt kind s lost a ⊎ ¬ IsStoredAt kind s lost a
stored_or kind s lost a = elim (use_or kind s a) [
  | inr never ↦ inr (λ h. never h.used)
  | inl used ↦ elim (apart_or (devices_in s) lost a) [
    | inl whole ↦ inl (record { used = used; whole = whole })
    | inr never ↦ inr (λ h. never h.whole)
  ]
]
